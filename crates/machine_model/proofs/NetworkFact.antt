-- Each session has its fact in every state that a schedule leads to.
use Rattle.std.specs.Prelude.{◌≡◌, ℕ, ◌<◌, List, [], ◌∷◌, map, Bool, true, false, not, cond, ◌&&◌}
use Rattle.std.specs.declared.option.Option.{Option}
use Rattle.std.specs.declared.option.Option.TheVariants.{Some, None}
use Rattle.std.specs.Option.{unwrap_or, option_map}
use Rattle.std.specs.Bool.{MatchBool}
use Rattle.std.proofs.lemmas.Option.{same_Some}
use Rattle.std.proofs.lemmas.Bool.{true≢false, and_parts, not-true}
use Rattle.std.proofs.Common.{refl, sym, ◌∙◌, ap, subst, inl, inr}
use Rattle.transform_model.specs.NodeModel.Maps.{Map, difference}
use Rattle.machine_model.specs.Setup.{Name, Setup, Move, edited, moves}
use Rattle.ov_types.specs.First.{same_name}
use Rattle.ov_link.specs.Breaks.{with_break}
use Rattle.machine_model.specs.Session.{Role, Message, Carries, Session, turned, may_send, shut, lost, told, passed, opened, arrived, octets_arrived}
use Rattle.machine_model.specs.Network.{MachineState, is_at, wanted, view, views_of, config, fresh, brought, replaced}
use Rattle.machine_model.specs.Events.{MachineEvent, edits, passes, moved, add_break, after}
use Rattle.machine_model.specs.Steps.{at_node, joins, with_session, change_session, pass, session_in, round, is_broken, around, open_second, connect, may_connect, connect_all, without_breaks}
pub use Rattle.machine_model.specs.Moments.{Each, NodePair, nodes}
use Rattle.machine_model.proofs.SessionFact.{sends, told_cases, Down, Fact, Fact-turned, shut_down, lost_down, tidy_near, tidy_far, passed_keeps, arrived_keeps, octets_arrived_keeps}
use Rattle.machine_model.proofs.Walk.{Steps, round_walk, connections_walk, after_walk}
use Rattle.machine_model.proofs.Replaced.{each_replaced, each_brought}
use Rattle.machine_model.proofs.Opening.{Opening, opened_half, opening_passed, opening_passed_far, opened_far}

-- ---- lists of sessions
pub each_map : (P Q : Session → Type 0) (f : Session → Session) → ((s : Session) → P s → Q (f s)) → (ss : List Session) → Each P ss → Each Q (map f ss)
each_map P Q f h [] e = tt
each_map P Q f h (s ∷ ss) e = (h s e.0, each_map P Q f h ss e.1)

-- a fact that does not mind which end is near
module _ (P : Session → Type 0) (both : (s : Session) → P s → P (turned s)) (f : Session → Session) (keeps : (s : Session) → P s → P (f s)) where
  keeps_far : (s : Session) → P s → P (turned (f (turned s)))
  keeps_far s p = both (f (turned s)) (keeps (turned s) (both s p))

  at_node_keeps : (n : Name) (s : Session) → P s → P (at_node n f s)
  at_node_keeps n s p =
      elim (is_at n s.near) as (λ b. P (cond b (f s) (cond (is_at n s.far) (turned (f (turned s))) s))) [
        | true ↦ keeps s p
        | false ↦ elim (is_at n s.far) as (λ b. P (cond b (turned (f (turned s))) s)) [ true ↦ keeps_far s p | false ↦ p ]
      ]

  pub nodes_keep : (n : Name) (ss : List Session) → Each P ss → Each P (map (at_node n f) ss)
  nodes_keep n ss e = each_map P P (at_node n f) (at_node_keeps n) ss e

  pub with_session_keeps : (a b : Name) (ss : List Session) → Each P ss → Each P (with_session a b f ss)
  with_session_keeps a b [] e = tt
  with_session_keeps a b (s ∷ ss) e =
      elim (joins a b s) as (λ c. Each P (cond c (f s ∷ ss) (cond (joins b a s) (turned (f (turned s)) ∷ ss) (s ∷ with_session a b f ss)))) [
        | true ↦ (keeps s e.0, e.1)
        | false ↦ elim (joins b a s) as (λ c. Each P (cond c (turned (f (turned s)) ∷ ss) (s ∷ with_session a b f ss))) [
          | true ↦ (keeps_far s e.0, e.1)
          | false ↦ (e.0, with_session_keeps a b ss e.1)
        ]
      ]

-- ---- steps that keep the fact of each session
module _ (size : Name → Message → ℕ) (positive : (n : Name) (m : Message) → 0 < size n m) where
  abbrev pub IsSound : MachineState → Type 0
  IsSound w = Each (Fact size) w.sessions

  pass_sound : (n : Name) (w : MachineState) → IsSound w → IsSound (pass n w)
  pass_sound n w e = nodes_keep (Fact size) (Fact-turned size) (λ s. passed (wanted w.setup (views_of n w.sessions) (view s)) s) (λ s f. passed_keeps size positive (wanted w.setup (views_of n w.sessions) (view s)) s f) n w.sessions e

  take_sound : (to from : Name) (f : Session → Session) → ((s : Session) → Fact size s → Fact size (f s)) → (w : MachineState) → IsSound w → IsSound (pass to (change_session to from f w))
  take_sound to from f h w e = pass_sound to (change_session to from f w) (with_session_keeps (Fact size) (Fact-turned size) f h to from w.sessions e)

  passes_sound : (ns : List Name) (w : MachineState) → IsSound w → IsSound (passes ns w)
  passes_sound [] w e = e
  passes_sound (n ∷ ns) w e = passes_sound ns (pass n w) (pass_sound n w e)

  fresh_sound : (n m : Name) (r q : Role) → Fact size (record { is_down = true; near = fresh n r; far = fresh m q })
  fresh_sound n m r q = inr (record {
    down = refl;
    near = record { notice = refl; flight = refl; taken = refl; tidy = λ _. (refl, refl) };
    far = record { notice = refl; flight = refl; taken = refl; tidy = λ _. (refl, refl) };
  })

  pub moved_sound : (m : Option Move) (w : MachineState) → IsSound w → IsSound (moved m w)
  moved_sound None w e = e
  moved_sound (Some m) w e =
      let new : List Session = brought w.setup.topology.controllers m.now in
      passes_sound m.left (record { setup = w.setup; sessions = replaced m.name new w.sessions })
      (each_replaced (Fact size) (Fact size) m.name (λ s off f. f) new w.sessions (each_brought (Fact size) fresh_sound w.setup.topology.controllers m.now) e)

  edits_sound : (m : Option Move) (o : Option Setup) (w : MachineState) → IsSound w → IsSound (edits m o w)
  edits_sound m None w e = e
  edits_sound m (Some x) w e =
      let v : MachineState = record { setup = x; sessions = w.sessions } in
      pass_sound config (moved m v) (moved_sound m v e)

  -- breaks are not part of the fact
  pub breaks_apart : (near far : List ℕ) (s : Session) → Fact size s → Fact size (record { is_down = s.is_down; near = record s.near { breaks = near }; far = record s.far { breaks = far } })
  breaks_apart near far s (inl j) = inl (record {
    whole = j.whole;
    near_notice = j.near_notice;
    far_notice = j.far_notice;
    inward = record { changes = j.inward.changes; phases = j.inward.phases; flight = j.inward.flight; early = j.inward.early; tells = j.inward.tells; partly = j.inward.partly };
    outward = record { changes = j.outward.changes; phases = j.outward.phases; flight = j.outward.flight; early = j.outward.early; tells = j.outward.tells; partly = j.outward.partly };
  })
  breaks_apart near far s (inr d) = inr (record {
    down = d.down;
    near = record { notice = d.near.notice; flight = d.near.flight; taken = d.near.taken; tidy = d.near.tidy };
    far = record { notice = d.far.notice; flight = d.far.flight; taken = d.far.taken; tidy = d.far.tidy };
  })

-- ---- what keeps the two nodes of a session
abbrev pub KeepsNodes : (Session → Session) → Type 0
KeepsNodes f = (s : Session) → nodes (f s) ≡ nodes s

pub told_nodes : (ms : List Message) (s : Session) → nodes (told ms s) ≡ nodes s
told_nodes ms s =
    elim (told_cases ms s) as (λ _. nodes (told ms s) ≡ nodes s) [
      | inl p ↦ ap nodes p.1
      | inr p ↦ ap nodes p.1 ∙ elim s.is_down as (λ d. nodes (sends ms (record { is_down = d; near = s.near; far = s.far })) ≡ nodes s) [ true ↦ refl | false ↦ refl ]
    ]

pub passed_nodes : (wanted : Map) (s : Session) → nodes (passed wanted s) ≡ nodes s
unfolding passed
passed_nodes m s =
    elim (may_send s) as (λ b. nodes (cond b (told (map Carries (difference s.near.sent m)) (record s { near = record s.near { sent = m } })) s) ≡ nodes s) [ true ↦ told_nodes _ _ | false ↦ refl ]

pub opened_nodes : (s : Session) → nodes (opened s) ≡ nodes s
unfolding opened
opened_nodes s = told_nodes _ _

pub joins_kept : (a b : Name) (s t : Session) → nodes t ≡ nodes s → joins a b t ≡ joins a b s
joins_kept a b s t e = ap (λ (p : NodePair). same_name p.0.0 a && same_name p.1.0 b) e

pub at_node_nodes : (n : Name) (f : Session → Session) → KeepsNodes f → KeepsNodes (at_node n f)
at_node_nodes n f h s =
    elim (is_at n s.near) as (λ b. nodes (cond b (f s) (cond (is_at n s.far) (turned (f (turned s))) s)) ≡ nodes s) [
      | true ↦ h s
      | false ↦ elim (is_at n s.far) as (λ b. nodes (cond b (turned (f (turned s))) s) ≡ nodes s) [
        | true ↦ ap (λ (p : NodePair). (p.1, p.0)) (h (turned s))
        | false ↦ refl
      ]
    ]

-- ---- the session of two nodes has one fact, and each other session another
abbrev pub AtSession : (P Q : Session → Type 0) → Name → Name → List Session → Type 0
AtSession P Q a b [] = Unit {0}
AtSession P Q a b (s ∷ ss) = MatchBool (joins a b s) (P s × Each Q ss) (MatchBool (joins b a s) (P (turned s) × Each Q ss) (Q s × AtSession P Q a b ss))

module _ (P Q : Session → Type 0) (a b : Name) where
  -- where each has the one, and the session of the two what the other needs
  at_session : (ss : List Session) → Each Q ss → ((s : Session) → session_in ss a b ≡ Some s → P s) → AtSession P Q a b ss
  at_session [] e h = tt
  at_session (s ∷ ss) e h =
      elim (joins a b s) as (λ c. ((t : Session) → cond c (Some s) (cond (joins b a s) (Some (turned s)) (session_in ss a b)) ≡ Some t → P t) → MatchBool c (P s × Each Q ss) (MatchBool (joins b a s) (P (turned s) × Each Q ss) (Q s × AtSession P Q a b ss))) [
        | true ↦ λ h. (h s refl, e.1)
        | false ↦ elim (joins b a s) as (λ c. ((t : Session) → cond c (Some (turned s)) (session_in ss a b) ≡ Some t → P t) → MatchBool c (P (turned s) × Each Q ss) (Q s × AtSession P Q a b ss)) [
          | true ↦ λ h. (h (turned s) refl, e.1)
          | false ↦ λ h. (e.0, at_session ss e.1 h)
        ]
      ] h

  -- and back
  each_again : ((s : Session) → Q (turned s) → Q s) → (ss : List Session) → AtSession P Q a b ss → ((s : Session) → session_in ss a b ≡ Some s → P s → Q s) → Each Q ss
  each_again back [] e h = tt
  each_again back (s ∷ ss) e h =
      elim (joins a b s) as (λ c. MatchBool c (P s × Each Q ss) (MatchBool (joins b a s) (P (turned s) × Each Q ss) (Q s × AtSession P Q a b ss)) → ((t : Session) → cond c (Some s) (cond (joins b a s) (Some (turned s)) (session_in ss a b)) ≡ Some t → P t → Q t) → Each Q (s ∷ ss)) [
        | true ↦ λ e h. (h s refl e.0, e.1)
        | false ↦ elim (joins b a s) as (λ c. MatchBool c (P (turned s) × Each Q ss) (Q s × AtSession P Q a b ss) → ((t : Session) → cond c (Some (turned s)) (session_in ss a b) ≡ Some t → P t → Q t) → Each Q (s ∷ ss)) [
          | true ↦ λ e h. (back s (h (turned s) refl e.0), e.1)
          | false ↦ λ e h. (e.0, each_again back ss e.1 h)
        ]
      ] e h

  -- a change of the session of the two, which gives the fact that each other has
  changed_again : (f : Session → Session) → ((s : Session) → Q (turned s) → Q s) → (ss : List Session) → AtSession P Q a b ss → ((s : Session) → session_in ss a b ≡ Some s → P s → Q (f s)) → Each Q (with_session a b f ss)
  changed_again f back [] e h = tt
  changed_again f back (s ∷ ss) e h =
      elim (joins a b s) as (λ c. MatchBool c (P s × Each Q ss) (MatchBool (joins b a s) (P (turned s) × Each Q ss) (Q s × AtSession P Q a b ss)) → ((t : Session) → cond c (Some s) (cond (joins b a s) (Some (turned s)) (session_in ss a b)) ≡ Some t → P t → Q (f t)) → Each Q (cond c (f s ∷ ss) (cond (joins b a s) (turned (f (turned s)) ∷ ss) (s ∷ with_session a b f ss)))) [
        | true ↦ λ e h. (h s refl e.0, e.1)
        | false ↦ elim (joins b a s) as (λ c. MatchBool c (P (turned s) × Each Q ss) (Q s × AtSession P Q a b ss) → ((t : Session) → cond c (Some (turned s)) (session_in ss a b) ≡ Some t → P t → Q (f t)) → Each Q (cond c (turned (f (turned s)) ∷ ss) (s ∷ with_session a b f ss))) [
          | true ↦ λ e h. (back _ (h (turned s) refl e.0), e.1)
          | false ↦ λ e h. (e.0, changed_again f back ss e.1 h)
        ]
      ] e h

at_cons : (P Q : Session → Type 0) (a b : Name) (t : Session) (ss : List Session) (c d : Bool) → joins a b t ≡ c → joins b a t ≡ d → MatchBool c (P t × Each Q ss) (MatchBool d (P (turned t) × Each Q ss) (Q t × AtSession P Q a b ss)) → AtSession P Q a b (t ∷ ss)
at_cons P Q a b t ss c d p q m =
    subst (λ c. MatchBool c (P t × Each Q ss) (MatchBool (joins b a t) (P (turned t) × Each Q ss) (Q t × AtSession P Q a b ss))) (sym p)
    (subst (λ d. MatchBool c (P t × Each Q ss) (MatchBool d (P (turned t) × Each Q ss) (Q t × AtSession P Q a b ss))) (sym q) m)

module _ (P Q P' Q' : Session → Type 0) (a b : Name) where
  -- a change of the session of the two
  at_changed : (f : Session → Session) → KeepsNodes f → ((s : Session) → P s → P' (f s)) → (ss : List Session) → AtSession P Q a b ss → AtSession P' Q a b (with_session a b f ss)
  at_changed f kept h [] e = tt
  at_changed f kept h (s ∷ ss) e =
      elim (joins a b s) as (λ c. joins a b s ≡ c → MatchBool c (P s × Each Q ss) (MatchBool (joins b a s) (P (turned s) × Each Q ss) (Q s × AtSession P Q a b ss)) → AtSession P' Q a b (cond c (f s ∷ ss) (cond (joins b a s) (turned (f (turned s)) ∷ ss) (s ∷ with_session a b f ss)))) [
        | true ↦ λ is e. at_cons P' Q a b (f s) ss true (joins b a (f s)) (joins_kept a b s (f s) (kept s) ∙ is) refl (h s e.0, e.1)
        | false ↦ λ is. elim (joins b a s) as (λ c. joins b a s ≡ c → MatchBool c (P (turned s) × Each Q ss) (Q s × AtSession P Q a b ss) → AtSession P' Q a b (cond c (turned (f (turned s)) ∷ ss) (s ∷ with_session a b f ss))) [
          | true ↦ λ is' e.
              let same : nodes (turned (f (turned s))) ≡ nodes s = ap (λ (p : NodePair). (p.1, p.0)) (kept (turned s)) in
              at_cons P' Q a b (turned (f (turned s))) ss false true (joins_kept a b s (turned (f (turned s))) same ∙ is) (joins_kept b a s (turned (f (turned s))) same ∙ is') (h (turned s) e.0, e.1)
          | false ↦ λ is' e. at_cons P' Q a b s (with_session a b f ss) false false is is' (e.0, at_changed f kept h ss e.1)
        ] refl
      ] refl e

  -- a change of every session
  at_mapped : (g : Session → Session) → KeepsNodes g → ((s : Session) → P s → P' (g s)) → ((s : Session) → P (turned s) → P' (turned (g s))) → ((s : Session) → Q s → Q' (g s)) → (ss : List Session) → AtSession P Q a b ss → AtSession P' Q' a b (map g ss)
  at_mapped g kept h k l [] e = tt
  at_mapped g kept h k l (s ∷ ss) e =
      at_cons P' Q' a b (g s) (map g ss) (joins a b s) (joins b a s) (joins_kept a b s (g s) (kept s)) (joins_kept b a s (g s) (kept s))
      (elim (joins a b s) as (λ c. MatchBool c (P s × Each Q ss) (MatchBool (joins b a s) (P (turned s) × Each Q ss) (Q s × AtSession P Q a b ss)) → MatchBool c (P' (g s) × Each Q' (map g ss)) (MatchBool (joins b a s) (P' (turned (g s)) × Each Q' (map g ss)) (Q' (g s) × AtSession P' Q' a b (map g ss)))) [
        | true ↦ λ e. (h s e.0, each_map Q Q' g l ss e.1)
        | false ↦ elim (joins b a s) as (λ c. MatchBool c (P (turned s) × Each Q ss) (Q s × AtSession P Q a b ss) → MatchBool c (P' (turned (g s)) × Each Q' (map g ss)) (Q' (g s) × AtSession P' Q' a b (map g ss))) [
          | true ↦ λ e. (k s e.0, each_map Q Q' g l ss e.1)
          | false ↦ λ e. (l s e.0, at_mapped g kept h k l ss e.1)
        ]
      ] e)

-- connecting
pub found : (Q : Session → Type 0) → ((s : Session) → Q s → Q (turned s)) → (ss : List Session) (a b : Name) → Each Q ss → (t : Session) → session_in ss a b ≡ Some t → Q t
found Q both [] a b e t is = cc
found Q both (s ∷ ss) a b e t is =
    elim (joins a b s) as (λ c. cond c (Some s) (cond (joins b a s) (Some (turned s)) (session_in ss a b)) ≡ Some t → Q t) [
      | true ↦ λ is. subst Q (same_Some s t is) e.0
      | false ↦ elim (joins b a s) as (λ c. cond c (Some (turned s)) (session_in ss a b) ≡ Some t → Q t) [
        | true ↦ λ is. subst Q (same_Some (turned s) t is) (both s e.0)
        | false ↦ λ is. found Q both ss a b e.1 t is
      ]
    ] is

-- down, and without notices
abbrev Free : Session → Type 0
Free s = Down s × (s.near.notice ≡ false) × (s.far.notice ≡ false)

module _ (size : Name → Message → ℕ) (positive : (n : Name) (m : Message) → 0 < size n m) where
  free : (s : Session) → Fact size s → may_connect s ≡ true → Free s
  free s f m =
      let p = and_parts s.is_down (not s.near.notice && not s.far.notice) m in
      let q = and_parts (not s.near.notice) (not s.far.notice) p.1 in
      (elim f as (λ _. Down s) [ inl j ↦ absurd (true≢false (sym p.0 ∙ j.whole)) | inr d ↦ d ], not-true s.near.notice q.0, not-true s.far.notice q.1)

  around_turned : (s : Session) → Fact size (turned s) → Fact size s
  around_turned s f = Fact-turned size (turned s) f

  -- an end that has opened, seen from where it is near
  node_opening : (n : Name) (W : Session → Map) (s : Session) → Opening size s → Opening size (at_node n (λ s. passed (W s) s) s)
  node_opening n W s o =
      elim (is_at n s.near) as (λ b. Opening size (cond b (passed (W s) s) (cond (is_at n s.far) (turned (passed (W (turned s)) (turned s))) s))) [
        | true ↦ opening_passed size positive (W s) s o
        | false ↦ elim (is_at n s.far) as (λ b. Opening size (cond b (turned (passed (W (turned s)) (turned s))) s)) [ true ↦ opening_passed_far size positive (W (turned s)) s o | false ↦ o ]
      ]

  node_opening_far : (n : Name) (W : Session → Map) (s : Session) → Opening size (turned s) → Opening size (turned (at_node n (λ s. passed (W s) s) s))
  node_opening_far n W s o =
      elim (is_at n s.near) as (λ b. Opening size (turned (cond b (passed (W s) s) (cond (is_at n s.far) (turned (passed (W (turned s)) (turned s))) s)))) [
        | true ↦ opening_passed_far size positive (W s) (turned s) o
        | false ↦ elim (is_at n s.far) as (λ b. Opening size (turned (cond b (turned (passed (W (turned s)) (turned s))) s))) [ true ↦ opening_passed size positive (W (turned s)) (turned s) o | false ↦ o ]
      ]

  -- after the second end opened
  second_sound : (a b : Name) (w : MachineState) → AtSession (Opening size) (Fact size) a b w.sessions → IsSound size positive (open_second a b w)
  second_sound a b w e =
      elim (is_broken w a b) as (λ c. is_broken w a b ≡ c → IsSound size positive (cond c w (pass b (change_session a b (around opened) w)))) [
        | true ↦ λ is. each_again (Opening size) (Fact size) a b around_turned w.sessions e (λ s found o.
            elim o as (λ _. Fact size s) [
              | inl d ↦ inr d
              | inr h ↦ absurd (true≢false (sym is ∙ ap (λ (x : Option Session). unwrap_or (option_map (λ (s : Session). s.is_down) x) true) found ∙ h.whole))
            ])
        | false ↦ λ is. pass_sound size positive b (change_session a b (around opened) w) (changed_again (Opening size) (Fact size) a b (around opened) around_turned w.sessions e (λ s found o.
            elim o as (λ _. Fact size (around opened s)) [
              | inl d ↦ absurd (true≢false (sym d.down ∙ sym (ap (λ (x : Option Session). unwrap_or (option_map (λ (s : Session). s.is_down) x) true) found) ∙ is))
              | inr h ↦ Fact-turned size (opened (turned s)) (opened_far size positive s h)
            ]))
      ] refl

  connect_sound : (a b : Name) (w : MachineState) → IsSound size positive w → ((s : Session) → session_in w.sessions a b ≡ Some s → may_connect s ≡ true) → IsSound size positive (connect a b w)
  connect_sound a b w e m =
      let first = at_session Free (Fact size) a b w.sessions e (λ s is. free s (found (Fact size) (Fact-turned size) w.sessions a b e s is) (m s is)) in
      let second = at_changed Free (Fact size) (Opening size) (Fact size) a b opened opened_nodes (λ s f. opened_half size positive s f.0 f.1 f.2) w.sessions first in
      let v = change_session a b opened w in
      let W = λ (s : Session). wanted v.setup (views_of a v.sessions) (view s) in
      second_sound a b (pass a v) (at_mapped (Opening size) (Fact size) (Opening size) (Fact size) a b (at_node a (λ s. passed (W s) s)) (at_node_nodes a (λ s. passed (W s) s) (λ s. passed_nodes (W s) s))
      (node_opening a W) (node_opening_far a W) (at_node_keeps (Fact size) (Fact-turned size) (λ s. passed (W s) s) (λ s f. passed_keeps size positive (W s) s f) a) v.sessions second)

  -- ---- every event keeps it
  sound_steps : Steps size (IsSound size positive)
  sound_steps = record {
    takes = λ from to. take_sound size positive to from arrived (arrived_keeps size positive);
    octets = λ from to n. take_sound size positive to from (octets_arrived size n) (octets_arrived_keeps size positive n);
    loses = λ a b w e. with_session_keeps (Fact size) (Fact-turned size) lost (λ s f. inr (lost_down s (tidy_near size s f) (tidy_far size s f))) a b w.sessions e;
    connects = λ a b w may some e. connect_sound a b w e may;
    restarts = λ n w e. nodes_keep (Fact size) (Fact-turned size) shut (λ s f. inr (shut_down s (tidy_far size s f))) n w.sessions e;
    clears = λ w e. each_map (Fact size) (Fact size) without_breaks (λ s f. breaks_apart size positive [] [] s f) w.sessions e;
    breaks = λ a b n w e. with_session_keeps (Fact size) (Fact-turned size) (add_break n) (λ s f. breaks_apart size positive (with_break n s.near.breaks) s.far.breaks s f) a b w.sessions e;
  }

  pub round_sound : (w : MachineState) → IsSound size positive w → IsSound size positive (round w)
  round_sound = round_walk (IsSound size positive) sound_steps.takes

  pub connect_all_sound : (ss : List Session) (w : MachineState) → IsSound size positive w → IsSound size positive (connect_all ss w)
  connect_all_sound = connections_walk (IsSound size positive) sound_steps.connects

  pub after_sound : (w : MachineState) (es : List MachineEvent) → IsSound size positive w → IsSound size positive (after size w es)
  after_sound = after_walk size (IsSound size positive) sound_steps (λ d w. edits_sound size positive (moves d w.setup.topology) (edited w.setup d) w)
