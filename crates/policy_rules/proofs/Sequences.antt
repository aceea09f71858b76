-- Policies by sequence: in order, and those of one sequence as the document has them.
use Rattle.std.proofs.Common.{◌≡◌, ℕ, ◌≤◌, ◌<◌, ◌==◌, ltb, Bool, true, false, cond, List, [], ◌∷◌, filter, refl, ap, ◌∙◌, arith}
use Rattle.std.specs.List.{All, AllPairs}
use Rattle.std.proofs.lemmas.Bool.{ltb-true, ltb-false, eqb-true}
use Rattle.std.proofs.lemmas.List.Elements.{All-cons, All-weaker}
use Rattle.std.proofs.lemmas.List.Kept.{AllPairs-cons}
use Rattle.ov_types.proofs.FirstLemmas.{pairs_head, pairs_tail}
use Rattle.config_types.specs.declared.config.Policy.{Policy}
use Rattle.policy_rules.specs.Related.{put_by_sequence, by_sequence}
use Rattle.policy_rules.proofs.Deciders.{all_put}

abbrev Follows : Policy → Policy → Type 0
Follows p q = p.sequence ≤ q.sequence

put_follows : (p : Policy) (qs : List Policy) → AllPairs Follows qs → AllPairs Follows (put_by_sequence p qs)
put_follows p [] up = λ i j d lt within. absurd (omega arith)
put_follows p (q ∷ qs) up =
    let above : All (Follows q) qs = pairs_head Follows q qs up in
    elim (ltb q.sequence p.sequence) as (λ b. ltb q.sequence p.sequence ≡ b → AllPairs Follows (cond b (q ∷ put_by_sequence p qs) (p ∷ q ∷ qs))) [
      | true ↦ λ e.
          let less : q.sequence < p.sequence = ltb-true q.sequence p.sequence e in
          AllPairs-cons Follows q (put_by_sequence p qs) (all_put (Follows q) p qs (omega arith) above) (put_follows p qs (pairs_tail Follows q qs up))
      | false ↦ λ e.
          let least : p.sequence ≤ q.sequence = ltb-false q.sequence p.sequence e in
          AllPairs-cons Follows p (q ∷ qs) (All-cons (Follows p) q qs least (All-weaker (Follows q) (Follows p) (λ r more. omega arith) qs above)) up
    ] refl

pub follow : (ps : List Policy) → AllPairs (λ p q. p.sequence ≤ q.sequence) (by_sequence ps)
follow [] = λ i j d lt within. absurd (omega arith)
follow (p ∷ ps) = put_follows p (by_sequence ps) (follow ps)

abbrev of_sequence : ℕ → List Policy → List Policy
of_sequence n ps = filter (λ p. p.sequence == n) ps

-- of two that are not both kept either may come first
either_first : (u v : Bool) (p q : Policy) (ps : List Policy) → (u ≡ true → v ≡ true → ⊥)
    → cond v (q ∷ cond u (p ∷ ps) ps) (cond u (p ∷ ps) ps) ≡ cond u (p ∷ cond v (q ∷ ps) ps) (cond v (q ∷ ps) ps)
either_first true true p q ps h = absurd (h refl refl)
either_first true false p q ps h = refl
either_first false true p q ps h = refl
either_first false false p q ps h = refl

put_kept : (n : ℕ) (p : Policy) (qs : List Policy) → of_sequence n (put_by_sequence p qs) ≡ of_sequence n (p ∷ qs)
put_kept n p [] = refl
put_kept n p (q ∷ qs) =
    elim (ltb q.sequence p.sequence) as (λ b. ltb q.sequence p.sequence ≡ b → of_sequence n (cond b (q ∷ put_by_sequence p qs) (p ∷ q ∷ qs)) ≡ of_sequence n (p ∷ q ∷ qs)) [
      | true ↦ λ e.
          let less : q.sequence < p.sequence = ltb-true q.sequence p.sequence e in
          ap (λ (rest : List Policy). cond (q.sequence == n) (q ∷ rest) rest) (put_kept n p qs)
          ∙ either_first (p.sequence == n) (q.sequence == n) p q (of_sequence n qs)
          (λ one other. absurd (omega (arith, less, eqb-true p.sequence n one, eqb-true q.sequence n other)))
      | false ↦ λ e. refl
    ] refl

pub stable : (ps : List Policy) (n : ℕ) → filter (λ p. p.sequence == n) (by_sequence ps) ≡ filter (λ p. p.sequence == n) ps
stable [] n = refl
stable (p ∷ ps) n =
    put_kept n p (by_sequence ps) ∙ ap (λ (rest : List Policy). cond (p.sequence == n) (p ∷ rest) rest) (stable ps n)
