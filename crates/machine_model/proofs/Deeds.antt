-- What events do to sessions, and what they leave.
use Rattle.std.specs.Prelude.{◌≡◌, ◌≢◌, ◌↔◌, ℕ, zero, suc, ◌-◌, ◌≤◌, ◌<◌, List, [], ◌∷◌, ◌++◌, map, length, true, false, cond, ◌==◌, nat_le, if◌then◌else◌}
use Rattle.std.specs.declared.option.Option.{Option}
use Rattle.std.specs.declared.option.Option.TheVariants.{Some, None}
use Rattle.std.specs.Option.{option_map}
use Rattle.std.specs.Cmp.Lexicographic.{bytes_decides}
use Rattle.std.proofs.lemmas.Bool.{true≢false, and_parts, false_from_ne_true, eqb-true, eq-eqb}
use Rattle.std.proofs.Common.{refl, sym, ◌∙◌, ap, subst, inl, inr, arith}
use Rattle.ov_types.specs.First.{same_name}
use Rattle.schedule_script.specs.ConfigTypes.Edit.{Edit}
use Rattle.schedule_script.specs.ConfigCheck.EditFault.{EditFault}
use Rattle.schedule_script.specs.ConfigCheck.Edits.{edit_fault, edited as checked_edited}
use Rattle.transform_model.specs.NodeModel.Members.{Member}
use Rattle.transform_model.proofs.NodeModel.Members.{any_in, from_any}
use Rattle.machine_model.specs.Setup.{Name, Move, Setup, checked, edited_without, moves, renumbered, remade}
use Rattle.machine_model.specs.Session.{Message, Session, turned, shut, lost, told, left, meets_break, counted, with_breaks, arrived}
use Rattle.machine_model.specs.Network.{MachineState, is_at, sessions_of, brought, replaced}
use Rattle.machine_model.specs.Steps.{at_node, joins, with_session, change_session, change_node, pass, session_in, session_of, in_flight}
use Rattle.machine_model.specs.Events.{MachineEvent, Edits, Deliver, Lose, Restart, Break, edits, moved, lose, add_break, is_node, next}
use Rattle.machine_model.specs.Moments.{nodes, IsLost, NodeHasTold}
use Rattle.machine_model.specs.Deeds.{AreOthers, IsClosed, MeetsOne}
use Rattle.machine_model.proofs.Walk.{next_walk}
use Rattle.machine_model.proofs.NetworkFact.{KeepsNodes, joins_kept, at_node_nodes}
use Rattle.machine_model.proofs.NodesFact.{turned_nodes, HasSetup, setup_steps, passes_setup}
use Rattle.machine_model.proofs.ToldFact.{own_after, pass_tells}
use Rattle.machine_model.proofs.Twins.{found_changed}

-- ---- other sessions
joins_names : (a b : Name) (s : Session) → joins a b s ≡ true → (s.near.name ≡ a) × (s.far.name ≡ b)
joins_names a b s e = let p = and_parts (is_at a s.near) (is_at b s.far) e in ((bytes_decides s.near.name a).0 p.0, (bytes_decides s.far.name b).0 p.1)

module _ (a b c d : Name) (apart : AreOthers a b c d) where
  not_same : (s : Session) → joins a b s ≡ true → joins c d s ≡ false
  not_same s is = false_from_ne_true (joins c d s) (λ e. let p = joins_names a b s is in let q = joins_names c d s e in apart.0 (sym p.0 ∙ q.0) (sym p.1 ∙ q.1))

  not_back : (s : Session) → joins a b s ≡ true → joins d c s ≡ false
  not_back s is = false_from_ne_true (joins d c s) (λ e. let p = joins_names a b s is in let q = joins_names d c s e in apart.1 (sym p.0 ∙ q.0) (sym p.1 ∙ q.1))

  turned_same : (s : Session) → joins b a s ≡ true → joins c d s ≡ false
  turned_same s is = false_from_ne_true (joins c d s) (λ e. let p = joins_names b a s is in let q = joins_names c d s e in apart.1 (sym p.1 ∙ q.1) (sym p.0 ∙ q.0))

  turned_back : (s : Session) → joins b a s ≡ true → joins d c s ≡ false
  turned_back s is = false_from_ne_true (joins d c s) (λ e. let p = joins_names b a s is in let q = joins_names d c s e in apart.0 (sym p.1 ∙ q.1) (sym p.0 ∙ q.0))

  skipped : (s t : Session) (ss : List Session) → nodes t ≡ nodes s → joins c d s ≡ false → joins d c s ≡ false → session_in (t ∷ ss) c d ≡ session_in (s ∷ ss) c d
  skipped s t ss k e f =
      ap (λ x. cond x (Some t) (cond (joins d c t) (Some (turned t)) (session_in ss c d))) (joins_kept c d s t k ∙ e)
      ∙ ap (λ x. cond x (Some (turned t)) (session_in ss c d)) (joins_kept d c s t k ∙ f)
      ∙ sym (ap (λ x. cond x (Some s) (cond (joins d c s) (Some (turned s)) (session_in ss c d))) e ∙ ap (λ x. cond x (Some (turned s)) (session_in ss c d)) f)

  pub others_stay : (f : Session → Session) → KeepsNodes f → (ss : List Session) → session_in (with_session a b f ss) c d ≡ session_in ss c d
  others_stay f kept [] = refl
  others_stay f kept (s ∷ ss) =
      elim (joins a b s) as (λ x. joins a b s ≡ x → session_in (cond x (f s ∷ ss) (cond (joins b a s) (turned (f (turned s)) ∷ ss) (s ∷ with_session a b f ss))) c d ≡ session_in (s ∷ ss) c d) [
        | true ↦ λ is. skipped s (f s) ss (kept s) (not_same s is) (not_back s is)
        | false ↦ λ _. elim (joins b a s) as (λ x. joins b a s ≡ x → session_in (cond x (turned (f (turned s)) ∷ ss) (s ∷ with_session a b f ss)) c d ≡ session_in (s ∷ ss) c d) [
          | true ↦ λ is. skipped s (turned (f (turned s))) ss (turned_nodes f kept s) (turned_same s is) (turned_back s is)
          | false ↦ λ _. ap (λ (o : Option Session). cond (joins c d s) (Some s) (cond (joins d c s) (Some (turned s)) o)) (others_stay f kept ss)
        ] refl
      ] refl

-- sessions of two other nodes than one
module _ (n a b : Name) (not_a : n ≢ a) (not_b : n ≢ b) (f : Session → Session) (kept : KeepsNodes f) where
  off : (m : Name) (m' : Name) → m ≡ m' → n ≢ m' → same_name m n ≡ false
  off m m' e h = false_from_ne_true (same_name m n) (λ is. h (sym ((bytes_decides m n).0 is) ∙ e))

  untouched : (s : Session) → same_name s.near.name n ≡ false → same_name s.far.name n ≡ false → at_node n f s ≡ s
  untouched s e g = ap (λ x. cond x (f s) (cond (is_at n s.far) (turned (f (turned s))) s)) e ∙ ap (λ x. cond x (turned (f (turned s))) s) g

  pub strangers_stay : (ss : List Session) → session_in (map (at_node n f) ss) a b ≡ session_in ss a b
  strangers_stay [] = refl
  strangers_stay (s ∷ ss) =
      let t = at_node n f s in
      let k : nodes t ≡ nodes s = at_node_nodes n f kept s in
      ap (λ x. cond x (Some t) (cond (joins b a t) (Some (turned t)) (session_in (map (at_node n f) ss) a b))) (joins_kept a b s t k)
      ∙ ap (λ x. cond (joins a b s) (Some t) (cond x (Some (turned t)) (session_in (map (at_node n f) ss) a b))) (joins_kept b a s t k)
      ∙ ap (λ o. cond (joins a b s) (Some t) (cond (joins b a s) (Some (turned t)) o)) (strangers_stay ss)
      ∙ elim (joins a b s) as (λ x. joins a b s ≡ x → cond x (Some t) (cond (joins b a s) (Some (turned t)) (session_in ss a b)) ≡ cond x (Some s) (cond (joins b a s) (Some (turned s)) (session_in ss a b))) [
        | true ↦ λ is. let p = joins_names a b s is in ap Some (untouched s (off s.near.name a p.0 not_a) (off s.far.name b p.1 not_b))
        | false ↦ λ _. elim (joins b a s) as (λ x. joins b a s ≡ x → cond x (Some (turned t)) (session_in ss a b) ≡ cond x (Some (turned s)) (session_in ss a b)) [
          | true ↦ λ is. let p = joins_names b a s is in ap (λ (s : Session). Some (turned s)) (untouched s (off s.near.name b p.0 not_b) (off s.far.name a p.1 not_a))
          | false ↦ λ _. refl
        ] refl
      ] refl

-- ---- losses
module _ (size : Name → Message → ℕ) (w : MachineState) where
  pub lost_session : (a b : Name) (s : Session) → session_of w a b ≡ Some s → s.is_down ≡ false → session_of (next size w (Lose a b)) a b ≡ Some (lost s)
  unfolding next
  lost_session a b s is whole =
      ap (λ (o : Option Session). session_of (lose o a b w) a b) is
      ∙ ap (λ c. session_of (cond c w (change_session a b lost w)) a b) whole
      ∙ found_changed a b lost (λ s. refl) w.sessions
      ∙ ap (option_map lost) is

  pub lost_others : (a b c d : Name) → AreOthers a b c d → session_of (next size w (Lose a b)) c d ≡ session_of w c d
  unfolding next
  lost_others a b c d apart =
      elim (session_of w a b) as (λ o. session_of (lose o a b w) c d ≡ session_of w c d) [
        | None ↦ refl
        | Some s ↦ elim s.is_down as (λ x. session_of (cond x w (change_session a b lost w)) c d ≡ session_of w c d) [ true ↦ refl | false ↦ others_stay a b c d apart lost (λ s. refl) w.sessions ]
      ]

  -- ---- restarts
  pub restarted_own : (n : Name) → is_node w n ≡ true → sessions_of n (next size w (Restart n)).sessions ≡ map shut (sessions_of n w.sessions)
  unfolding next
  restarted_own n is = ap (λ c. sessions_of n (cond c (change_node n shut w) w).sessions) is ∙ own_after n shut (λ s. refl) w.sessions

  pub restarted_others : (n a b : Name) → n ≢ a → n ≢ b → session_of (next size w (Restart n)) a b ≡ session_of w a b
  unfolding next
  restarted_others n a b not_a not_b =
      elim (is_node w n) as (λ c. session_of (cond c (change_node n shut w) w) a b ≡ session_of w a b) [ true ↦ strangers_stay n a b not_a not_b shut (λ s. refl) w.sessions | false ↦ refl ]

  -- ---- breaks
  pub broken_session : (from to : Name) (n : ℕ) → session_of (next size w (Break from to n)) from to ≡ option_map (add_break n) (session_of w from to)
  unfolding next
  broken_session from to n = found_changed from to (add_break n) (λ s. refl) w.sessions

  pub broken_others : (from to : Name) (n : ℕ) (c d : Name) → AreOthers from to c d → session_of (next size w (Break from to n)) c d ≡ session_of w c d
  unfolding next
  broken_others from to n c d apart = others_stay from to c d apart (add_break n) (λ s. refl) w.sessions

  -- ---- deliveries
  pub delivered_told : (from to : Name) → (in_flight w from to == 0) ≡ false → NodeHasTold (next size w (Deliver from to 1)) to
  unfolding next
  delivered_told from to e = subst (λ c. NodeHasTold (cond c w (pass to (change_session to from arrived w))) to) (sym e) (pass_tells to (change_session to from arrived w))

  -- ---- edits
  moved_setup : (m : Option Move) (v : MachineState) → (moved m v).setup ≡ v.setup
  moved_setup None v = refl
  moved_setup (Some m) v = passes_setup m.left (record { setup = v.setup; sessions = replaced m.name (brought v.setup.topology.controllers m.now) v.sessions })

  pub edit_made : (d : Edit) → edit_fault (checked w.setup) d ≡ None → checked (next size w (Edits d)).setup ≡ checked_edited d (checked w.setup)
  unfolding next
  edit_made d e =
      let m = moves d w.setup.topology in
      let x : Setup = remade (checked_edited d (checked w.setup)) (renumbered m w.setup.numbers) in
      ap (λ (o : Option EditFault). checked (edits m (edited_without o w.setup d) w).setup) e
      ∙ ap checked (moved_setup m (record { setup = x; sessions = w.sessions }))

pub shut_closed : (s : Session) → IsClosed (shut s).near × IsLost (shut s)
shut_closed s = (
  record { phase = refl; notice = refl; sent = refl; held = refl; flight = refl },
  record { near_flight = refl; far_flight = refl; near_notice = λ e. absurd (true≢false (sym e)); far_notice = λ e. e },
)

pub lost_lost : (s : Session) → IsLost (lost s)
lost_lost s = record { near_flight = refl; far_flight = refl; near_notice = λ e. e; far_notice = λ e. e }

-- ---- the configuration stays
pub setup_kept : (size : Name → Message → ℕ) (w : MachineState) (e : MachineEvent) → ((d : Edit) → e ≢ Edits d) → (next size w e).setup ≡ w.setup
setup_kept size w e no_edit = next_walk size (HasSetup w.setup) (setup_steps size w.setup) w e (λ d is _. absurd (no_edit d is)) refl

-- ---- sends that meet breaks
nothing_meets : (breaks : List ℕ) → MeetsOne 0 breaks → ⊥
nothing_meets breaks m = none m.number m.comes m.within
  where
    none : (n : ℕ) → 1 ≤ n → n ≤ 0 → ⊥
    none n h k = omega (arith, h, k)

meets_now : (breaks : List ℕ) (k : ℕ) → meets_break breaks ≡ true → MeetsOne (suc k) breaks
meets_now breaks k e =
    let q = from_any (λ n. n == 1) breaks e in
    let is : q.0 ≡ 1 = eqb-true q.0 1 q.2 in
    record { number = q.0; pending = q.1; comes = low q.0 is; within = high q.0 is }
  where
    low : (n : ℕ) → n ≡ 1 → 1 ≤ n
    low n e = omega (arith, e)

    high : (n : ℕ) → n ≡ 1 → n ≤ suc k
    high n e = omega (arith, e)

above_one : (n : ℕ) → nat_le n 1 ≡ false → 1 < n
above_one n e = grind (arith)

not_above : (n : ℕ) → nat_le n 1 ≡ true → 1 < n → ⊥
not_above n e more = grind (arith)

-- a break that is left stood one send later
abbrev Later : ℕ → List ℕ → Type 0
Later x breaks = (n : ℕ) × Member n breaks × (1 < n) × (n - 1 ≡ x)

one_more : (x m : ℕ) (breaks : List ℕ) → Later x breaks → Later x (m ∷ breaks)
one_more x m breaks q = (q.0, inr q.1, q.2, q.3)

from_counted : (x : ℕ) (breaks : List ℕ) → Member x (counted breaks) → Later x breaks
from_counted x [] h = absurd h
from_counted x (m ∷ breaks) h =
    elim (nat_le m 1) as (λ b. nat_le m 1 ≡ b → Member x (if b then counted breaks else (m - 1) ∷ counted breaks) → Later x (m ∷ breaks)) [
      | true ↦ λ _ h. one_more x m breaks (from_counted x breaks h)
      | false ↦ λ e h. elim h as (λ _. Later x (m ∷ breaks)) [
        | inl is ↦ (m, inl refl, above_one m e, is)
        | inr h ↦ one_more x m breaks (from_counted x breaks h)
      ]
    ] refl h

in_counted : (n : ℕ) (breaks : List ℕ) → Member n breaks → 1 < n → Member (n - 1) (counted breaks)
in_counted n [] h more = absurd h
in_counted n (m ∷ breaks) h more =
    elim (nat_le m 1) as (λ b. nat_le m 1 ≡ b → Member (n - 1) (if b then counted breaks else (m - 1) ∷ counted breaks)) [
      | true ↦ λ e. elim h as (λ _. Member (n - 1) (counted breaks)) [
        | inl is ↦ absurd (not_above m e (subst (λ k. 1 < k) (sym is) more))
        | inr h ↦ in_counted n breaks h more
      ]
      | false ↦ λ _. elim h as (λ _. Member (n - 1) ((m - 1) ∷ counted breaks)) [
        | inl is ↦ inl (ap (λ k. k - 1) is)
        | inr h ↦ inr (in_counted n breaks h more)
      ]
    ] refl

later_meets : (breaks : List ℕ) (k : ℕ) → MeetsOne k (counted breaks) → MeetsOne (suc k) breaks
later_meets breaks k m =
    let q = from_counted m.number breaks m.pending in
    record { number = q.0; pending = q.1; comes = low q.0 q.2; within = high q.0 m.number q.3 m.within }
  where
    low : (n : ℕ) → 1 < n → 1 ≤ n
    low n h = omega (arith, h)

    high : (n m : ℕ) → n - 1 ≡ m → m ≤ k → n ≤ suc k
    high n m e h = omega (arith, e, h)

meets_later : (breaks : List ℕ) (k : ℕ) → meets_break breaks ≡ false → MeetsOne (suc k) breaks → MeetsOne k (counted breaks)
meets_later breaks k off m =
    let more : 1 < m.number = above m.number m.comes (λ is. true≢false (sym (any_in (λ n. n == 1) m.number breaks m.pending (eq-eqb m.number 1 is)) ∙ off)) in
    record {
      number = m.number - 1;
      pending = in_counted m.number breaks m.pending more;
      comes = low m.number more;
      within = high m.number more m.within;
    }
  where
    above : (n : ℕ) → 1 ≤ n → (n ≡ 1 → ⊥) → 1 < n
    above zero h g = absurd (omega (arith, h))
    above (suc zero) h g = absurd (g refl)
    above (suc (suc n)) h g = omega arith

    low : (n : ℕ) → 1 < n → 1 ≤ n - 1
    low n h = omega (arith, h)

    high : (n : ℕ) → 1 < n → n ≤ suc k → n - 1 ≤ k
    high n h g = omega (arith, h, g)

left_whole : (m : Message) (b : List ℕ) (s : Session) → s.is_down ≡ false → ((left m (with_breaks b s)).is_down ≡ false) × ((left m (with_breaks b s)).near.breaks ≡ b)
left_whole m b s e =
    elim s.is_down as (λ d. d ≡ false → ((cond d (with_breaks b s) (record (with_breaks b s) { near = record (with_breaks b s).near { flight = s.near.flight ++ m ∷ [] } })).is_down ≡ false)
    × ((cond d (with_breaks b s) (record (with_breaks b s) { near = record (with_breaks b s).near { flight = s.near.flight ++ m ∷ [] } })).near.breaks ≡ b)) [
      | true ↦ λ is. absurd (true≢false is)
      | false ↦ λ _. (e, refl)
    ] e

pub told_meets : (ms : List Message) (s : Session) → s.is_down ≡ false → ((told ms s).is_down ≡ true) ↔ MeetsOne (length ms) s.near.breaks
unfolding told
told_meets [] s e = ((λ d. absurd (true≢false (sym d ∙ e))), (λ m. absurd (nothing_meets s.near.breaks m)))
told_meets (m ∷ ms) s e =
    elim (meets_break s.near.breaks) as (λ b. meets_break s.near.breaks ≡ b → ((cond b (shut (with_breaks (counted s.near.breaks) s)) (told ms (left m (with_breaks (counted s.near.breaks) s)))).is_down ≡ true) ↔ MeetsOne (length (m ∷ ms)) s.near.breaks) [
      | true ↦ λ is. ((λ _. meets_now s.near.breaks (length ms) is), (λ _. refl))
      | false ↦ λ off.
          let whole = left_whole m (counted s.near.breaks) s e in
          let rest = told_meets ms (left m (with_breaks (counted s.near.breaks) s)) whole.0 in (
            (λ d. later_meets s.near.breaks (length ms) (subst (MeetsOne (length ms)) whole.1 (rest.0 d))),
            (λ q. rest.1 (subst (MeetsOne (length ms)) (sym whole.1) (meets_later s.near.breaks (length ms) off q))),
          )
    ] refl
