-- What the regions say that hold a tuple.
use Rattle.std.proofs.Common.{◌≡◌, suc, true, false, cond, IsTrue, List, [], ◌∷◌, ◌++◌, filter, length, Option, refl, sym, ap, ◌∙◌, arith}
use Rattle.std.specs.List.{All, count_by}
use Rattle.std.proofs.lemmas.List.Elements.{All-cons}
use Rattle.std.proofs.lemmas.List.Sums.{length-filter}
use Rattle.ov_types.specs.declared.packet.Tuple.{Tuple}
use Rattle.ov_types.proofs.FirstLemmas.{all_head, all_tail}
use Rattle.policy_rules.specs.declared.matching.Decision.{Decision}
use Rattle.policy_regions.specs.Regions.{holds}
use Rattle.policy_regions.specs.declared.region.DecidedRegion.{DecidedRegion}
use Rattle.policy_regions.specs.declared.region.Effect.{Effect}

abbrev pub Said : Type 0
Said = Option Decision × Effect

abbrev pub said : Tuple → List DecidedRegion → List Said
said t [] = []
said t (r ∷ rs) = cond (holds r.region t) ((r.decision, r.effect) ∷ said t rs) (said t rs)

pub said_append : (t : Tuple) (xs ys : List DecidedRegion) → said t (xs ++ ys) ≡ said t xs ++ said t ys
said_append t [] ys = refl
said_append t (x ∷ xs) ys =
    elim (holds x.region t) as (λ b. cond b ((x.decision, x.effect) ∷ said t (xs ++ ys)) (said t (xs ++ ys)) ≡ cond b ((x.decision, x.effect) ∷ said t xs) (said t xs) ++ said t ys) [
      | true ↦ ap (λ (rest : List (Said)). (x.decision, x.effect) ∷ rest) (said_append t xs ys)
      | false ↦ said_append t xs ys
    ]

as_many : (t : Tuple) (rs : List DecidedRegion) → length (filter (λ r. holds r.region t) rs) ≡ length (said t rs)
as_many t [] = refl
as_many t (r ∷ rs) =
    elim (holds r.region t) as (λ b. length (cond b (r ∷ filter (λ q. holds q.region t) rs) (filter (λ q. holds q.region t) rs)) ≡ length (cond b ((r.decision, r.effect) ∷ said t rs) (said t rs))) [
      | true ↦ ap suc (as_many t rs)
      | false ↦ as_many t rs
    ]

pub counted : (t : Tuple) (rs : List DecidedRegion) → count_by (λ r. holds r.region t) rs ≡ length (said t rs)
counted t rs = sym (length-filter (λ r. holds r.region t) rs) ∙ as_many t rs

pub all_say : (d : Said) (t : Tuple) (rs : List DecidedRegion) → All (λ y. y ≡ d) (said t rs) → All (λ q. IsTrue (holds q.region t) → (q.decision, q.effect) ≡ d) rs
all_say d t [] h = λ k x lt. absurd (omega arith)
all_say d t (r ∷ rs) h =
    let P : DecidedRegion → Type 0 = λ q. IsTrue (holds q.region t) → (q.decision, q.effect) ≡ d in
    let Q : Said → Type 0 = λ y. y ≡ d in
    elim (holds r.region t) as (λ b. holds r.region t ≡ b → All Q (cond b ((r.decision, r.effect) ∷ said t rs) (said t rs)) → All P (r ∷ rs)) [
      | true ↦ λ e all. All-cons P r rs (λ holding. all_head Q (r.decision, r.effect) (said t rs) all) (all_say d t rs (all_tail Q (r.decision, r.effect) (said t rs) all))
      | false ↦ λ e all. All-cons P r rs (λ holding. let two : true ≡ false = sym holding ∙ e in cc) (all_say d t rs all)
    ] refl h
