-- A table that is kept step by step is the flows of the uses.
use Rattle.std.proofs.Common.{◌≡◌, ℕ, zero, suc, true, false, not, cond, List, [], ◌∷◌, take, Option, Some, None, refl, sym, ap, ◌∙◌, subst}
use Rattle.std.specs.List.{IsDistinct}
use Rattle.config_types.specs.declared.edit.Edit.{Edit}
use Rattle.config_check.specs.Checked.{Checked}
use Rattle.config_check.specs.Edits.{edited}
use Rattle.schedule_script.specs.Tied.{tied_fault}
use Rattle.schedule_script.specs.Tying.{joined}
use Rattle.schedule_script.specs.declared.edits.TiedFault.{TiedFault}
use Rattle.flow_state.specs.declared.flow.Flow.{Flow}
use Rattle.flow_state.specs.declared.step.FlowStep.{FlowStep}
use Rattle.flow_state.specs.declared.step.FlowStep.TheVariants as Steps
use Rattle.flow_state.specs.declared.answer.FlowAnswer.TheVariants.{Traced}
use Rattle.flow_state.specs.Recent.{same_flow, without, each_once, recent, after_use}
use Rattle.flow_state.specs.Flows.{flow_outcome, flow_use}
use Rattle.flow_state.specs.Playing.{Playing, Follows, played, played_edit, answer_in, answers_in, opening}
use Rattle.flow_state.specs.Replay.{Replay, after_edit, after_step, answer_to, answers, at_start, edit_answer, used}
use Rattle.flow_state.proofs.Recent.{Misses, same_flow_is, without_missing, distinct_once}

misses_without : (j k : Flow) (ks : List Flow) → Misses j ks → Misses j (without k ks)
misses_without j k [] h = tt
misses_without j k (x ∷ xs) h = (elim (same_flow k x) as (λ b. Misses j (cond (not b) (x ∷ without k xs) (without k xs))) [
  | true ↦ misses_without j k xs h.1
  | false ↦ (h.0, misses_without j k xs h.1)
])

misses_own : (k : Flow) (ks : List Flow) → Misses k (without k ks)
misses_own k [] = tt
misses_own k (x ∷ xs) = (elim (same_flow k x) as (λ b. same_flow k x ≡ b → Misses k (cond (not b) (x ∷ without k xs) (without k xs))) [
  | true ↦ λ e. misses_own k xs
  | false ↦ λ e. (e, misses_own k xs)
]) refl

distinct_without : (k : Flow) (ks : List Flow) → IsDistinct same_flow ks → IsDistinct same_flow (without k ks)
unfolding IsDistinct
distinct_without k [] h = h
distinct_without k (x ∷ xs) h = (elim (same_flow k x) as (λ b. IsDistinct same_flow (cond (not b) (x ∷ without k xs) (without k xs))) [
  | true ↦ distinct_without k xs h.1
  | false ↦ (misses_without x k xs h.0, distinct_without k xs h.1)
])

pub once_distinct : (fs : List Flow) → IsDistinct same_flow (each_once fs)
unfolding each_once IsDistinct
once_distinct [] = tt
once_distinct (x ∷ xs) = (misses_own x (each_once xs), distinct_without x (each_once xs) (once_distinct xs))

misses_take : (k : Flow) (n : ℕ) (ks : List Flow) → Misses k ks → Misses k (take n ks)
misses_take k zero ks h = tt
misses_take k (suc n) [] h = tt
misses_take k (suc n) (x ∷ xs) h = (h.0, misses_take k n xs h.1)

distinct_take : (n : ℕ) (ks : List Flow) → IsDistinct same_flow ks → IsDistinct same_flow (take n ks)
unfolding IsDistinct
distinct_take zero ks h = tt
distinct_take (suc n) [] h = tt
distinct_take (suc n) (x ∷ xs) h = (misses_take x n xs h.0, distinct_take n xs h.1)

take_twice : (n : ℕ) (ks : List Flow) → take n (take n ks) ≡ take n ks
take_twice zero ks = refl
take_twice (suc n) [] = refl
take_twice (suc n) (x ∷ xs) = ap (λ l. x ∷ l) (take_twice n xs)

-- of the flows that are kept all but the last still stand after a use
without_take : (k : Flow) (n : ℕ) (ks : List Flow) → IsDistinct same_flow ks → take n (without k (take (suc n) ks)) ≡ take n (without k ks)
unfolding IsDistinct
without_take k zero ks h = refl
without_take k (suc n) [] h = refl
without_take k (suc n) (x ∷ xs) h = (elim (same_flow k x) as (λ b. same_flow k x ≡ b
    → take (suc n) (cond (not b) (x ∷ without k (take (suc n) xs)) (without k (take (suc n) xs))) ≡ take (suc n) (cond (not b) (x ∷ without k xs) (without k xs))) [
      | true ↦ λ e.
          let misses : Misses k xs = subst (λ (f : Flow). Misses f xs) (sym (same_flow_is k x e)) h.0 in
          ap (λ l. take (suc n) l) (without_missing k (take (suc n) xs) (misses_take k (suc n) xs misses))
          ∙ take_twice (suc n) xs
          ∙ ap (λ l. take (suc n) l) (sym (without_missing k xs misses))
      | false ↦ λ e. ap (λ l. x ∷ l) (without_take k n xs h.1)
    ]) refl

-- a use of a table is a use after those that made the table
pub recent_after : (n : ℕ) (f : Flow) (uses : List Flow) → recent n (f ∷ recent n uses) ≡ recent n (f ∷ uses)
unfolding each_once
recent_after zero f uses = refl
recent_after (suc n) f uses =
    let once : each_once (take (suc n) (each_once uses)) ≡ take (suc n) (each_once uses) = distinct_once (take (suc n) (each_once uses)) (distinct_take (suc n) (each_once uses) (once_distinct uses)) in
    ap (λ l. f ∷ take n (without f l)) once ∙ ap (λ l. f ∷ l) (without_take f n (each_once uses) (once_distinct uses))

pub recent_none : (n : ℕ) → recent n [] ≡ []
unfolding each_once
recent_none zero = refl
recent_none (suc n) = refl

-- step by step

edit_follows : (s : Playing) (r : Replay) (e : Edit) (o : Option TiedFault) → Follows s r → Follows (played_edit e o s) (after_edit e o r)
edit_follows s r e None h = record {
  checked = ap (edited e) h.checked;
  ties = λ k. joined (h.ties k) (edited e (h.checked k));
  flows = sym (recent_none s.capacity);
}
edit_follows s r e (Some fault) h = h

use_follows : (n : ℕ) (flows uses : List Flow) (o : Option Flow) → flows ≡ recent n uses → after_use n o flows ≡ recent n (used o uses)
use_follows n flows uses None h = h
use_follows n flows uses (Some f) h = ap (λ (l : List Flow). recent n (f ∷ l)) h ∙ recent_after n f uses

same_fault : (e : Edit) (s : Playing) (r : Replay) → Follows s r → tied_fault s.checked s.ties e ≡ tied_fault r.checked r.ties e
same_fault e s r h = λ k. tied_fault (h.checked k) (h.ties k) e

step_follows : (x : FlowStep) (s : Playing) (r : Replay) → Follows s r → Follows (played x s) (after_step s.capacity x r)
step_follows (Steps.Edit e) s r h =
    subst (λ (o : Option TiedFault). Follows (played_edit e (tied_fault s.checked s.ties e) s) (after_edit e o r))
    (same_fault e s r h)
    (edit_follows s r e (tied_fault s.checked s.ties e) h)
step_follows (Steps.Trace p) s r h = record {
  checked = h.checked;
  ties = h.ties;
  flows =
      use_follows s.capacity s.flows r.uses (flow_use s.checked.config s.flows p) h.flows
      ∙ ap (λ (v : Checked). recent s.capacity (used (flow_use v.config s.flows p) r.uses)) h.checked
      ∙ ap (λ (l : List Flow). recent s.capacity (used (flow_use r.checked.config l p) r.uses)) h.flows;
}

answer_follows : (x : FlowStep) (s : Playing) (r : Replay) → Follows s r → answer_in x s ≡ answer_to s.capacity x r
answer_follows (Steps.Edit e) s r h = ap (λ (o : Option TiedFault). edit_answer o) (same_fault e s r h)
answer_follows (Steps.Trace p) s r h =
    ap (λ (v : Checked). Traced (flow_outcome v.config s.flows p)) h.checked
    ∙ ap (λ (l : List Flow). Traced (flow_outcome r.checked.config l p)) h.flows

same_room : (x : FlowStep) (s : Playing) → (played x s).capacity ≡ s.capacity
same_room (Steps.Trace p) s = refl
same_room (Steps.Edit e) s = (elim (tied_fault s.checked s.ties e) as (λ o. (played_edit e o s).capacity ≡ s.capacity) [ None ↦ refl | Some fault ↦ refl ])

pub answers_follow : (xs : List FlowStep) (s : Playing) (r : Replay) → Follows s r → answers_in xs s ≡ answers s.capacity xs r
unfolding answers
answers_follow [] s r h = refl
answers_follow (x ∷ xs) s r h =
    ap (λ a. a ∷ answers_in xs (played x s)) (answer_follows x s r h)
    ∙ ap (λ l. answer_to s.capacity x r ∷ l) (answers_follow xs (played x s) (after_step s.capacity x r) (step_follows x s r h))
    ∙ ap (λ n. answer_to s.capacity x r ∷ answers n xs (after_step s.capacity x r)) (same_room x s)

-- an empty table beside the opening configuration answers as the start does
pub opens : (capacity : ℕ) (v : Checked) (xs : List FlowStep) → answers_in xs (opening capacity v) ≡ answers capacity xs (at_start v)
opens capacity v xs = answers_follow xs (opening capacity v) (at_start v) (record { checked = refl; ties = refl; flows = sym (recent_none capacity) })
