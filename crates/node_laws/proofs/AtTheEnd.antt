-- What is held at the end of a step, where no send failed in its pass.
use Rattle.std.specs.Prelude.{◌≡◌, ℕ, suc, ◌<◌, ◌≤◌, List, [], ◌∷◌, length, map, true, false, nat_lt}
use Rattle.std.specs.declared.option.Option.{Option}
use Rattle.std.specs.declared.option.Option.TheVariants.{None}
use Rattle.std.proofs.lemmas.Bool.{true≢false, ltb-true}
use Rattle.std.proofs.lemmas.List.{get_or_past}
use Rattle.std.proofs.Common.{refl, sym, ◌∙◌, ap, subst, arith}
use Rattle.node_model.specs.Step.{Beginning, NodeKind, Post, Steps, nothing, post}
use Rattle.node_laws.specs.Stepped.{AreTold, HoldTheSame, NoneFailsInPass, Stepped, WantsByHoldings}
use Rattle.node_laws.proofs.StepFact.{step_is}

abbrev Same : List Post → List Post → ℕ → Type 0
Same start after i = ((post after i).phase ≡ (post start i).phase) × ((post after i).held ≡ (post start i).held)

module _ {L : Type 0} (accepted : L → Option (List (List ℕ))) (breaks : L → Option (List ℕ)) (faults : L → ℕ)
    (k : NodeKind) (posts after : List Post) (session : ℕ) (given : Beginning) (links left : List L) (lowest : Option ℕ)
    (s : Stepped accepted breaks faults k posts after session given links left lowest)
    (none : NoneFailsInPass (length posts) session s.reply_failed s.failed) where
  -- an end that was closed stood closed as the pass began
  both_closed : (i : ℕ) → i < length posts → s.failed i ≡ true → (post after i ≡ nothing) × (post s.start i ≡ nothing)
  both_closed i h e =
      let it = none i h e in (
        (s.each i h).left.closed e,
        subst (λ j. post s.start j ≡ nothing) (sym it.0)
            (s.starts.closed (subst (λ j. j < length posts) it.0 h) it.1),
      )

  same_within : (i : ℕ) → i < length posts → Same s.start after i
  same_within i h = elim (s.failed i) as (λ b. s.failed i ≡ b → Same s.start after i) [
    | true ↦ λ e. let c = both_closed i h e in (ap (λ (p : Post). p.phase) (c.0 ∙ sym c.1), ap (λ (p : Post). p.held) (c.0 ∙ sym c.1))
    | false ↦ λ e. ((s.each i h).left.phase e, (s.each i h).left.held e)
  ] refl

  pub same : HoldTheSame s.start after
  same i = elim (nat_lt i (length posts)) as (λ b. nat_lt i (length posts) ≡ b → Same s.start after i) [
    | true ↦ λ e. same_within i (ltb-true i (length posts) e)
    | false ↦ λ e. let p = past i e in (ap (λ (p : Post). p.phase) p, ap (λ (p : Post). p.held) p)
  ] refl
    where
      past : (i : ℕ) → nat_lt i (length posts) ≡ false → post after i ≡ post s.start i
      past i e =
          get_or_past after i nothing (beyond (length after) i s.long e)
          ∙ sym (get_or_past s.start i nothing (beyond (length s.start) i s.starts.long e))
        where
          beyond : (n i : ℕ) → n ≡ length posts → nat_lt i (length posts) ≡ false → n ≤ i
          beyond n i e f = grind arith

  pub told : WantsByHoldings k → AreTold k after
  told wants i h may =
      let under : i < length posts = subst (λ n. i < n) s.long h in
      sent under ∙ sym (wants.wants s.start after (s.long ∙ sym s.starts.long) same i)
    where
      phase_is : (post after i).phase ≡ (post s.start i).phase
      phase_is = (same i).0

      sent : i < length posts → (post after i).sent ≡ k.wanted s.start i
      sent under = elim (s.failed i) as (λ b. s.failed i ≡ b → (post after i).sent ≡ k.wanted s.start i) [
        | true ↦ λ e. absurd (true≢false (sym may ∙ ap (λ (p : Post). k.may_send i p.phase) (both_closed i under e).0 ∙ wants.silent i))
        | false ↦ λ e. (s.each i under).left.sent e (sym (ap (k.may_send i) phase_is) ∙ may)
      ] refl

-- ---- a whole step in which no link failed
module _ {L : Type 0} (accepted : L → Option (List (List ℕ))) (breaks : L → Option (List ℕ)) (faults : L → ℕ)
    (k : NodeKind) (posts after : List Post) (session : ℕ) (given : Beginning) (links left : List L) where
  pub told_where_none_failed : WantsByHoldings k
      → Steps k accepted breaks faults posts after session given links left None → AreTold k after
  told_where_none_failed wants steps =
      let s = (step_is accepted breaks faults k posts after session given links left None).0 steps in
      told accepted breaks faults k posts after session given links left None s
      (λ i h e. absurd (true≢false (sym e ∙ s.lowest_is.none.0 refl i h))) wants

-- ---- what is seen of ends that are in the same states and hold the same
module _ {X : Type 0} (f : Post → X) (sees : (p q : Post) → q.phase ≡ p.phase → q.held ≡ p.held → f q ≡ f p) where
  pub seen_alike : (posts after : List Post) → length after ≡ length posts → HoldTheSame posts after → map f after ≡ map f posts
  seen_alike [] [] e same = refl
  seen_alike [] (q ∷ after) e same = absurd (cc)
  seen_alike (p ∷ posts) [] e same = absurd (cc)
  seen_alike (p ∷ posts) (q ∷ after) e same =
      let first = sees p q (same 0).0 (same 0).1 in
      let rest = seen_alike posts after (shorter (length after) (length posts) e) (λ i. same (suc i)) in
      λ j. first j ∷ rest j
    where
      shorter : (m n : ℕ) → suc m ≡ suc n → m ≡ n
      shorter m n e = omega arith
