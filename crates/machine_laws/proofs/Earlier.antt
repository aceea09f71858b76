-- Which end a connection opens first, and what becomes of it where a first send fails.
use Rattle.std.specs.Prelude.{◌≡◌, ◌≢◌, ◌⊎◌, ◌||◌, ℕ, List, [], ◌∷◌, ◌++◌, map, Bool, true, false, not, cond, find}
use Rattle.std.specs.declared.option.Option.{Option}
use Rattle.std.specs.declared.option.Option.TheVariants.{Some, None}
use Rattle.std.specs.Option.{unwrap_or, option_map}
use Rattle.std.specs.Cmp.Lexicographic.{bytes_decides}
use Rattle.std.proofs.lemmas.Bool.{and_parts}
use Rattle.std.proofs.lemmas.Option.{same_Some}
use Rattle.std.proofs.Common.{refl, sym, ◌∙◌, ap, subst, inl, inr}
use Rattle.node_laws.specs.NodeModel.Maps.{Map, difference}
use Rattle.node_laws.specs.NodeModel.Step.{Idle, Opened}
use Rattle.machine_model.specs.Setup.{Name}
use Rattle.machine_model.specs.Session.{Message, Carries, Session, turned, may_send, may_send_at, is_peering, greeting, opened, passed, told, shut, with_breaks, counted, meets_break, left, is_live}
use Rattle.machine_model.specs.Network.{MachineState, is_at, view, views_of, wanted}
use Rattle.machine_model.specs.Steps.{at_node, joins, change_session, pass, session_in, session_of, is_broken, around, connect, may_connect, connect_found, connect_if}
use Rattle.machine_model.specs.Events.{Connect, is_earlier, next}
use Rattle.machine_model.proofs.NetworkFact.{passed_nodes, opened_nodes}
use Rattle.machine_model.proofs.NodesFact.{turned_nodes}
use Rattle.machine_model.proofs.Twins.{found_changed, found_node}
use Rattle.machine_model.proofs.Calm.{telling, told_easy, passed_easy}
use Rattle.machine_laws.specs.Rounding.{IsFromTo, OpenedNearAlone, OpenedNone}

module _ (a b : Name) (apart : a ≢ b) where
  never_both : (s : Session) → joins a b s ≡ true → joins b a s ≡ true → ⊥
  never_both s e f =
      let p = and_parts (is_at a s.near) (is_at b s.far) e in
      let q = and_parts (is_at b s.near) (is_at a s.far) f in
      apart (sym ((bytes_decides s.near.name a).0 p.0) ∙ (bytes_decides s.near.name b).0 q.0)

  not_back : (s : Session) → joins a b s ≡ true → joins b a s ≡ false
  not_back s e = elim (joins b a s) as (λ c. joins b a s ≡ c → c ≡ false) [ true ↦ λ f. absurd (never_both s e f) | false ↦ λ _. refl ] refl

  -- ---- the session of two nodes, from either end
  from_other : (ss : List Session) → session_in ss b a ≡ option_map turned (session_in ss a b)
  from_other [] = refl
  from_other (s ∷ ss) =
      elim (joins a b s) as (λ x. joins a b s ≡ x → cond (joins b a s) (Some s) (cond x (Some (turned s)) (session_in ss b a)) ≡ option_map turned (cond x (Some s) (cond (joins b a s) (Some (turned s)) (session_in ss a b)))) [
        | true ↦ λ e. ap (λ y. cond y (Some s) (Some (turned s))) (not_back s e)
        | false ↦ λ _. elim (joins b a s) as (λ y. cond y (Some s) (session_in ss b a) ≡ option_map turned (cond y (Some (turned s)) (session_in ss a b))) [ true ↦ refl | false ↦ from_other ss ]
      ] refl

  -- ---- which of two nodes is the earlier one
  abbrev InOneOrder : List Session → Type 0
  InOneOrder ss = (is_earlier ss b a ≡ not (is_earlier ss a b)) ⊎ ((is_earlier ss a b ≡ true) × (is_earlier ss b a ≡ true) × (session_in ss a b ≡ None) × (session_in ss b a ≡ None))

  in_one_order : (ss : List Session) → InOneOrder ss
  in_one_order [] = inr (refl, refl, refl, refl)
  in_one_order (s ∷ ss) =
      elim (joins a b s) as (λ x. joins a b s ≡ x
      → (cond (joins b a s) true (cond x false (is_earlier ss b a)) ≡ not (cond x true (cond (joins b a s) false (is_earlier ss a b))))
      ⊎ ((cond x true (cond (joins b a s) false (is_earlier ss a b)) ≡ true) × (cond (joins b a s) true (cond x false (is_earlier ss b a)) ≡ true)
      × (cond x (Some s) (cond (joins b a s) (Some (turned s)) (session_in ss a b)) ≡ None) × (cond (joins b a s) (Some s) (cond x (Some (turned s)) (session_in ss b a)) ≡ None))) [
        | true ↦ λ e. inl (ap (λ y. cond y true false) (not_back s e))
        | false ↦ λ _. elim (joins b a s) as (λ y.
            (cond y true (is_earlier ss b a) ≡ not (cond y false (is_earlier ss a b)))
            ⊎ ((cond y false (is_earlier ss a b) ≡ true) × (cond y true (is_earlier ss b a) ≡ true)
            × (cond y (Some (turned s)) (session_in ss a b) ≡ None) × (cond y (Some s) (session_in ss b a) ≡ None))) [
              | true ↦ inl refl
              | false ↦ in_one_order ss
            ]
      ] refl

  none_connects : (w : MachineState) (c d : Name) → session_of w c d ≡ None → connect_if c d w ≡ w
  none_connects w c d e = ap (λ (o : Option Session). connect_found o c d w) e

  either_order : (w : MachineState) → InOneOrder w.sessions
      → cond (is_earlier w.sessions a b) (connect_if a b w) (connect_if b a w) ≡ cond (is_earlier w.sessions b a) (connect_if b a w) (connect_if a b w)
  either_order w (inl e) =
      elim (is_earlier w.sessions a b) as (λ c. is_earlier w.sessions b a ≡ not c → cond c (connect_if a b w) (connect_if b a w) ≡ cond (is_earlier w.sessions b a) (connect_if b a w) (connect_if a b w)) [
        | true ↦ λ f. ap (λ c. cond c (connect_if b a w) (connect_if a b w)) (sym f)
        | false ↦ λ f. ap (λ c. cond c (connect_if b a w) (connect_if a b w)) (sym f)
      ] e
  either_order w (inr e) =
      ap (λ c. cond c (connect_if a b w) (connect_if b a w)) e.0
      ∙ none_connects w a b e.2 ∙ sym (none_connects w b a e.3)
      ∙ ap (λ c. cond c (connect_if b a w) (connect_if a b w)) (sym e.1)

  -- ---- the earlier one is named
  abbrev first_of_two : List Session → Option Session
  first_of_two ss = find (λ t. joins a b t || joins b a t) ss

  earlier_found : (ss : List Session) (s : Session) → first_of_two ss ≡ Some s → s.near.name ≡ a → (is_earlier ss a b ≡ true) × (session_in ss a b ≡ Some s)
  earlier_found [] s e n = cc
  earlier_found (t ∷ ss) s e n =
      elim (joins a b t) as (λ x. joins a b t ≡ x → cond (x || joins b a t) (Some t) (first_of_two ss) ≡ Some s
      → (cond x true (cond (joins b a t) false (is_earlier ss a b)) ≡ true) × (cond x (Some t) (cond (joins b a t) (Some (turned t)) (session_in ss a b)) ≡ Some s)) [
        | true ↦ λ _ f. (refl, f)
        | false ↦ λ _. elim (joins b a t) as (λ y. joins b a t ≡ y → cond y (Some t) (first_of_two ss) ≡ Some s
            → (cond y false (is_earlier ss a b) ≡ true) × (cond y (Some (turned t)) (session_in ss a b) ≡ Some s)) [
              | true ↦ λ g f.
                  let q = and_parts (is_at b t.near) (is_at a t.far) g in
                  let name : t.near.name ≡ b = (bytes_decides t.near.name b).0 q.0 in
                  absurd (apart (sym n ∙ ap (λ (s : Session). s.near.name) (sym (same_Some t s f)) ∙ name))
              | false ↦ λ _ f. earlier_found ss s f n
            ] refl
      ] refl e

pub either_way : (size : Name → Message → ℕ) (w : MachineState) (a b : Name) → a ≢ b → next size w (Connect a b) ≡ next size w (Connect b a)
unfolding next
either_way size w a b apart = either_order a b apart w (in_one_order a b apart w.sessions)

-- ---- what opening and passing make of an end
opens : (s : Session) → s.near.breaks ≡ [] → opened s ≡ record { is_down = false; near = record s.near { phase = Opened; flight = s.near.flight ++ greeting s ∷ [] }; far = s.far }
unfolding opened
opens s e = told_easy (greeting s ∷ []) (record { is_down = false; near = record s.near { phase = Opened }; far = s.far }) e

-- the first send fails
abbrev fails : Session → Session
fails s = shut (with_breaks [] (record { is_down = false; near = record s.near { phase = Opened }; far = s.far }))

opens_not : (s : Session) → s.near.breaks ≡ 1 ∷ [] → opened s ≡ fails s
unfolding opened told
opens_not s e =
    ap (λ (bs : List ℕ).
    let t : Session = record { is_down = false; near = record s.near { phase = Opened }; far = s.far } in
    cond (meets_break bs) (shut (with_breaks (counted bs) t)) (told [] (left (greeting s) (with_breaks (counted bs) t)))) e

may_not : (b : Bool) → may_send_at b Idle ≡ false
may_not true = refl
may_not false = refl

passed_idle : (m : Map) (s : Session) → s.near.phase ≡ Idle → passed m s ≡ s
unfolding passed
passed_idle m s e =
    ap (λ b. cond b (told (map Carries (difference s.near.sent m)) (record s { near = record s.near { sent = m } })) s)
    (ap (may_send_at (is_peering s)) e ∙ may_not (is_peering s))

record Half (bs : List ℕ) (s : Session) : Type 0 where
  whole : s.is_down ≡ false
  near : s.near.phase ≡ Opened
  far_breaks : s.far.breaks ≡ bs

half_passed : (bs : List ℕ) (m : Map) (s : Session) → s.near.breaks ≡ [] → Half bs s → Half bs (passed m s)
half_passed bs m s e h =
    subst (Half bs) (sym (passed_easy m s h.whole e))
    (elim (may_send s) as (λ b. Half bs (cond b (telling m s) s)) [ true ↦ record { whole = h.whole; near = h.near; far_breaks = h.far_breaks } | false ↦ h ])

-- the far end opens, and its first send fails
record Failed (s : Session) : Type 0 where
  down : s.is_down ≡ true
  near : s.near.phase ≡ Opened
  notice : s.near.notice ≡ true
  far : s.far.phase ≡ Idle

far_fails : (s : Session) → Half (1 ∷ []) s → Failed (around opened s)
far_fails s h =
    subst (λ (t : Session). Failed (turned t)) (sym (opens_not (turned s) h.far_breaks))
    (record { down = refl; near = h.near; notice = ap (λ p. is_live (record s.near { phase = p })) h.near; far = refl })

module _ (a b : Name) (apart : a ≢ b) (w : MachineState) (s : Session) (is : session_in w.sessions a b ≡ Some s) where
  abbrev v : MachineState
  v = change_session a b opened w

  abbrev g : Session → Session
  g s = passed (wanted v.setup (views_of a v.sessions) (view s)) s

  abbrev u : MachineState
  u = pass a v

  first : session_in u.sessions a b ≡ Some (g (opened s))
  first =
      found_node a b g (λ s. passed_nodes (wanted v.setup (views_of a v.sessions) (view s)) s) v.sessions
      ∙ ap (option_map g) (found_changed a b opened opened_nodes w.sessions ∙ ap (option_map opened) is)

  -- the later end's send fails
  module _ (near_breaks : s.near.breaks ≡ []) (far_breaks : s.far.breaks ≡ 1 ∷ []) where
    abbrev x : MachineState
    x = change_session a b (around opened) u

    abbrev h : Session → Session
    h s = passed (wanted x.setup (views_of b x.sessions) (view s)) s

    abbrev y : Session
    y = around opened (g (opened s))

    half : Half (1 ∷ []) (g (opened s))
    half =
        half_passed (1 ∷ []) (wanted v.setup (views_of a v.sessions) (view (opened s))) (opened s)
        (ap (λ (t : Session). t.near.breaks) (opens s near_breaks) ∙ near_breaks)
        (subst (Half (1 ∷ [])) (sym (opens s near_breaks)) (record { whole = refl; near = refl; far_breaks = far_breaks }))

    failed : Failed y
    failed = far_fails (g (opened s)) half

    whole : is_broken u a b ≡ false
    whole = ap (λ (o : Option Session). unwrap_or (option_map (λ (s : Session). s.is_down) o) true) first ∙ half.whole

    second : session_in x.sessions a b ≡ Some y
    second = found_changed a b (around opened) (turned_nodes opened opened_nodes) u.sessions ∙ ap (option_map (around opened)) first

    back : b ≢ a
    back e = apart (sym e)

    third : session_in (pass b x).sessions a b ≡ Some y
    third =
        from_other b a back (map (at_node b h) x.sessions)
        ∙ ap (option_map turned) (found_node b a h (λ s. passed_nodes (wanted x.setup (views_of b x.sessions) (view s)) s) x.sessions)
        ∙ ap (λ (o : Option Session). option_map turned (option_map h o)) (from_other a b apart x.sessions ∙ ap (option_map turned) second)
        ∙ ap (λ (t : Session). Some (turned t)) (passed_idle (wanted x.setup (views_of b x.sessions) (view (turned y))) (turned y) failed.far)

    later_fails : OpenedNearAlone (session_of (connect a b w) a b)
    later_fails =
        subst (λ c. OpenedNearAlone (session_in (cond c u (pass b x)).sessions a b)) (sym whole)
        (record { session = y; found = third; down = failed.down; near = failed.near; notice = failed.notice; far = failed.far })

  -- the earlier end's send fails
  module _ (near_breaks : s.near.breaks ≡ 1 ∷ []) (idle : s.far.phase ≡ Idle) where
    still : g (opened s) ≡ fails s
    still =
        ap g (opens_not s near_breaks)
        ∙ passed_idle (wanted v.setup (views_of a v.sessions) (view (fails s))) (fails s) refl

    there : session_in u.sessions a b ≡ Some (fails s)
    there = first ∙ ap Some still

    broken : is_broken u a b ≡ true
    broken = ap (λ (o : Option Session). unwrap_or (option_map (λ (s : Session). s.is_down) o) true) there

    earlier_fails : OpenedNone s.far (session_of (connect a b w) a b)
    earlier_fails =
        subst (λ c. OpenedNone s.far (session_in (cond c u (pass b (change_session a b (around opened) u))).sessions a b)) (sym broken)
        (record { session = fails s; found = there; down = refl; near = refl; phase = idle; notice = ap (λ p. is_live (record s.far { phase = p })) idle; breaks = refl })

-- ---- the event
named_first : (size : Name → Message → ℕ) (w : MachineState) (a b : Name) (s : Session) → a ≢ b → IsFromTo w a b s → may_connect s ≡ true → next size w (Connect b a) ≡ connect a b w
unfolding next
named_first size w a b s apart h may =
    let f = earlier_found a b apart w.sessions s h.found h.earlier in
    sym (either_way size w a b apart)
    ∙ ap (λ c. cond c (connect_if a b w) (connect_if b a w)) f.0
    ∙ ap (λ (o : Option Session). connect_found o a b w) f.1
    ∙ ap (λ c. cond c (connect a b w) w) may

pub later_alone : (size : Name → Message → ℕ) (w : MachineState) (a b : Name) (s : Session) → a ≢ b → IsFromTo w a b s → may_connect s ≡ true → s.near.breaks ≡ [] → s.far.breaks ≡ 1 ∷ [] → OpenedNearAlone (session_of (next size w (Connect b a)) a b)
later_alone size w a b s apart h may near far =
    subst (λ (w : MachineState). OpenedNearAlone (session_of w a b)) (sym (named_first size w a b s apart h may))
    (later_fails a b apart w s (earlier_found a b apart w.sessions s h.found h.earlier).1 near far)

pub earlier_none : (size : Name → Message → ℕ) (w : MachineState) (a b : Name) (s : Session) → a ≢ b → IsFromTo w a b s → may_connect s ≡ true → s.far.phase ≡ Idle → s.near.breaks ≡ 1 ∷ [] → OpenedNone s.far (session_of (next size w (Connect b a)) a b)
earlier_none size w a b s apart h may idle near =
    subst (λ (w : MachineState). OpenedNone s.far (session_of w a b)) (sym (named_first size w a b s apart h may))
    (earlier_fails a b apart w s (earlier_found a b apart w.sessions s h.found h.earlier).1 near idle)
