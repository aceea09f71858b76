-- An event that is idle, or an edit that is refused, leaves the network as it is.
use Rattle.std.specs.Prelude.{◌≡◌, ℕ, zero, suc, List, [], ◌∷◌, Bool, true, false, not, cond, ◌&&◌, ◌==◌, is_some}
use Rattle.std.specs.declared.option.Option.{Option}
use Rattle.std.specs.declared.option.Option.TheVariants.{Some, None}
use Rattle.std.specs.Option.{unwrap_or, option_map}
use Rattle.std.proofs.lemmas.Bool.{true≢false, not-true}
use Rattle.std.proofs.Common.{refl, sym, ◌∙◌, ap}
use Rattle.schedule_script.specs.ConfigCheck.Edits.{edit_fault}
use Rattle.schedule_script.specs.ConfigCheck.EditFault.{EditFault}
use Rattle.schedule_script.specs.declared.answer.Answer.{Answer}
use Rattle.schedule_script.specs.declared.answer.Answer.TheVariants.{Idle, EditRefused}
use Rattle.machine_model.specs.Setup.{Name, checked, edited_without, moves}
use Rattle.machine_model.specs.Session.{Message, Session, turned, lost, shut, octets_arrived, arrived}
use Rattle.machine_model.specs.Network.{MachineState}
use Rattle.machine_model.specs.Steps.{joins, with_session, change_session, change_node, pass, session_in, session_of, in_flight, repeat, deliver, is_broken, connect, may_connect, connect_found, connect_if}
use Rattle.machine_model.specs.Events.{MachineEvent, Edits, Deliver, DeliverOctets, Lose, Connect, Restart, Round, Settle, Show, Trace, Break, edits, lose, is_earlier, add_break, is_node, next, unless, edit_answer, answer_to}

-- ---- answers
abbrev pub was_idle : Answer → Bool
was_idle Idle = true
was_idle _ = false

abbrev was_refused : Answer → Bool
was_refused (EditRefused f) = true
was_refused _ = false

-- what is answered where a test says so
pub idle_where : (b : Bool) → was_idle (unless b) ≡ true → b ≡ true
idle_where true e = refl
idle_where false e = absurd (true≢false (sym e))

never_refused : (b : Bool) → was_refused (unless b) ≡ false
never_refused true = refl
never_refused false = refl

-- ---- deliveries
deliver_same : (n : ℕ) (from to : Name) (w : MachineState) → (in_flight w from to == 0) ≡ true → repeat n (deliver from to) w ≡ w
deliver_same zero from to w e = refl
deliver_same (suc n) from to w e = ap (repeat n (deliver from to)) (ap (λ b. cond b w (pass to (change_session to from arrived w))) e) ∙ deliver_same n from to w e

-- ---- losses
lose_same : (o : Option Session) (a b : Name) (w : MachineState) → unwrap_or (option_map (λ (s : Session). s.is_down) o) true ≡ true → lose o a b w ≡ w
lose_same None a b w e = refl
lose_same (Some s) a b w e = ap (λ c. cond c w (change_session a b lost w)) e

-- ---- connections
abbrev pub may : Option Session → Bool
may o = unwrap_or (option_map may_connect o) false

swapped : (b c d : Bool) → (b && (not c && not d)) ≡ (b && (not d && not c))
swapped true true true = refl
swapped true true false = refl
swapped true false true = refl
swapped true false false = refl
swapped false c d = refl

pub may_turned : (s : Session) → may_connect (turned s) ≡ may_connect s
may_turned s = swapped s.is_down s.far.notice s.near.notice

may_either : (a b : Name) (ss : List Session) → may (session_in ss b a) ≡ may (session_in ss a b)
may_either a b [] = refl
may_either a b (s ∷ ss) = by_tests (may_either a b ss) (joins a b s) (joins b a s)
  where
    by_tests : may (session_in ss b a) ≡ may (session_in ss a b) → (c d : Bool) → may (cond d (Some s) (cond c (Some (turned s)) (session_in ss b a))) ≡ may (cond c (Some s) (cond d (Some (turned s)) (session_in ss a b)))
    by_tests rest true true = refl
    by_tests rest true false = may_turned s
    by_tests rest false true = sym (may_turned s)
    by_tests rest false false = rest

connect_same : (o : Option Session) (a b : Name) (w : MachineState) → may o ≡ false → connect_found o a b w ≡ w
connect_same None a b w e = refl
connect_same (Some s) a b w e = ap (λ c. cond c (connect a b w) w) e

may_not : (o : Option Session) → was_idle (elim o [ Some s ↦ unless (not (may_connect s)) | None ↦ Idle ]) ≡ true → may o ≡ false
may_not None e = refl
may_not (Some s) e = elim (may_connect s) as (λ c. was_idle (unless (not c)) ≡ true → c ≡ false) [ true ↦ λ e. absurd (true≢false (sym e)) | false ↦ λ _. refl ] e

-- ---- breaks
no_session : (a b : Name) (f : Session → Session) (ss : List Session) → is_some (session_in ss a b) ≡ false → with_session a b f ss ≡ ss
no_session a b f [] e = refl
no_session a b f (s ∷ ss) e =
    elim (joins a b s) as (λ c. is_some (cond c (Some s) (cond (joins b a s) (Some (turned s)) (session_in ss a b))) ≡ false → cond c (f s ∷ ss) (cond (joins b a s) (turned (f (turned s)) ∷ ss) (s ∷ with_session a b f ss)) ≡ s ∷ ss) [
      | true ↦ λ e. absurd (true≢false e)
      | false ↦ elim (joins b a s) as (λ c. is_some (cond c (Some (turned s)) (session_in ss a b)) ≡ false → cond c (turned (f (turned s)) ∷ ss) (s ∷ with_session a b f ss) ≡ s ∷ ss) [
        | true ↦ λ e. absurd (true≢false e)
        | false ↦ λ e. ap (λ (ts : List Session). s ∷ ts) (no_session a b f ss e)
      ]
    ] e

edit_not_idle : (o : Option EditFault) → was_idle (edit_answer o) ≡ true → ⊥
edit_not_idle None e = true≢false (sym e)
edit_not_idle (Some f) e = true≢false (sym e)

module _ (size : Name → Message → ℕ) where
  same : (w : MachineState) (e : MachineEvent) → was_idle (answer_to w e) ≡ true → next size w e ≡ w
  unfolding next
  same w (Edits d) e = absurd (edit_not_idle (edit_fault (checked w.setup) d) e)
  same w (Deliver from to n) e = deliver_same n from to w (idle_where (in_flight w from to == 0) e)
  same w (DeliverOctets from to n) e = ap (λ b. cond b w (pass to (change_session to from (octets_arrived size n) w))) (idle_where (in_flight w from to == 0) e)
  same w (Lose a b) e = lose_same (session_of w a b) a b w (idle_where (is_broken w a b) e)
  same w (Connect a b) e =
      let off = may_not (session_of w a b) e in
      elim (is_earlier w.sessions a b) as (λ c. cond c (connect_if a b w) (connect_if b a w) ≡ w) [
        | true ↦ connect_same (session_of w a b) a b w off
        | false ↦ connect_same (session_of w b a) b a w (may_either a b w.sessions ∙ off)
      ]
  same w (Restart n) e = ap (λ c. cond c (change_node n shut w) w) (not-true (is_node w n) (idle_where (not (is_node w n)) e))
  same w Round e = absurd (true≢false (sym e))
  same w Settle e = absurd (true≢false (sym e))
  same w (Show n) e = refl
  same w (Trace p) e = refl
  same w (Break from to n) e = λ i. record { setup = w.setup; sessions = no_session from to (add_break n) w.sessions (not-true (is_some (session_of w from to)) (idle_where (not (is_some (session_of w from to))) e)) i }

  pub idle_same : (w : MachineState) (e : MachineEvent) → answer_to w e ≡ Idle → next size w e ≡ w
  idle_same w e is = same w e (ap was_idle is)

  -- ---- edits that are refused
  not_edit : (b : Bool) → was_refused (unless b) ≡ true → ⊥
  not_edit b e = true≢false (sym e ∙ never_refused b)

  connect_not_edit : (o : Option Session) → was_refused (elim o [ Some s ↦ unless (not (may_connect s)) | None ↦ Idle ]) ≡ true → ⊥
  connect_not_edit None e = true≢false (sym e)
  connect_not_edit (Some s) e = not_edit (not (may_connect s)) e

  left : (w : MachineState) (e : MachineEvent) → was_refused (answer_to w e) ≡ true → next size w e ≡ w
  unfolding next
  left w (Edits d) e =
      elim (edit_fault (checked w.setup) d) as (λ o. was_refused (edit_answer o) ≡ true → edits (moves d w.setup.topology) (edited_without o w.setup d) w ≡ w) [ None ↦ λ e. absurd (true≢false (sym e)) | Some f ↦ λ _. refl ] e
  left w (Deliver from to n) e = absurd (not_edit (in_flight w from to == 0) e)
  left w (DeliverOctets from to n) e = absurd (not_edit (in_flight w from to == 0) e)
  left w (Lose a b) e = absurd (not_edit (is_broken w a b) e)
  left w (Connect a b) e = absurd (connect_not_edit (session_of w a b) e)
  left w (Restart n) e = absurd (not_edit (not (is_node w n)) e)
  left w Round e = absurd (true≢false (sym e))
  left w Settle e = absurd (true≢false (sym e))
  left w (Show n) e = refl
  left w (Trace p) e = refl
  left w (Break from to n) e = absurd (not_edit (not (is_some (session_of w from to))) e)

  pub refused_same : (w : MachineState) (e : MachineEvent) (f : EditFault) → answer_to w e ≡ EditRefused f → next size w e ≡ w
  refused_same w e f is = left w e (ap was_refused is)
