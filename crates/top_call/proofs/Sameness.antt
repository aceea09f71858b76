-- Outcomes are counted as one exactly where they are.
use Rattle.std.specs.Prelude.{◌≡◌, ◌↔◌, ◌==◌, ℕ, List, [], ◌∷◌, true}
use Rattle.std.specs.declared.option.Option.TheVariants.{Some, None}
use Rattle.std.specs.Cmp.Lexicographic.{pointwise}
use Rattle.std.proofs.Common.{refl, sym, ap, ◌∙◌, arith}
use Rattle.std.proofs.lemmas.Bool.{and_from, and_parts}
use Rattle.ov_types.specs.declared.numbers.ServiceNo.{ServiceNo}
use Rattle.ov_types.specs.declared.packet.Outcome.{Outcome}
use Rattle.ov_types.specs.declared.packet.Outcome.TheVariants.{Delivered, Dropped}
use Rattle.ov_types.specs.declared.packet.Why.{Why}
use Rattle.ov_types.specs.declared.packet.Why.TheVariants.{NoSourcePort, NoDestination, NoRoute, Denied, NoLabel}
use Rattle.ov_types.specs.declared.packet.Why.TheVariants.{TtlExpired}
use Rattle.top_call.specs.Tallies.{same_outcome, same_why}

same_number_self : (n : ℕ) → (n == n) ≡ true
same_number_self n = grind arith

numbers_are_one : (m n : ℕ) → (m == n) ≡ true → m ≡ n
numbers_are_one m n h = grind arith

why_self : (v : Why) → same_why v v ≡ true
why_self NoSourcePort = refl
why_self NoDestination = refl
why_self NoRoute = refl
why_self (Denied None) = refl
why_self (Denied (Some r)) =
    and_from (r.sequence == r.sequence) (r.position == r.position) (same_number_self r.sequence)
    (same_number_self r.position)
why_self NoLabel = refl
why_self TtlExpired = refl

services_self : (ss : List ServiceNo) → pointwise (λ s t. s.0 == t.0) ss ss ≡ true
services_self [] = refl
services_self (s ∷ ss) =
    and_from (s.0 == s.0) (pointwise (λ s t. s.0 == t.0) ss ss) (same_number_self s.0) (services_self ss)

pub outcome_self : (o : Outcome) → same_outcome o o ≡ true
outcome_self (Delivered port services) =
    and_from (port.0 == port.0) (pointwise (λ s t. s.0 == t.0) services services) (same_number_self port.0)
    (services_self services)
outcome_self (Dropped why) = why_self why

services_are_one : (ss ts : List ServiceNo) → pointwise (λ s t. s.0 == t.0) ss ts ≡ true → ss ≡ ts
services_are_one [] [] h = refl
services_are_one [] (t ∷ ts) h = absurd cc
services_are_one (s ∷ ss) [] h = absurd cc
services_are_one (s ∷ ss) (t ∷ ts) h =
    let parts = and_parts (s.0 == t.0) (pointwise (λ s t. s.0 == t.0) ss ts) h in
    let head : s ≡ t = ap (λ n. record { 0 = n }) (numbers_are_one s.0 t.0 parts.0) in
    λ i. head i ∷ services_are_one ss ts parts.1 i

why_is_one : (v w : Why) → same_why v w ≡ true → v ≡ w
why_is_one v w h = grind arith

one_of_outcomes : (o p : Outcome) → same_outcome o p ≡ true → o ≡ p
one_of_outcomes (Delivered port services) (Delivered port' services') h =
    let parts = and_parts (port.0 == port'.0) (pointwise (λ s t. s.0 == t.0) services services') h in
    let ports : port ≡ port' = ap (λ n. record { 0 = n }) (numbers_are_one port.0 port'.0 parts.0) in
    let lists = services_are_one services services' parts.1 in
    λ i. Delivered (ports i) (lists i)
one_of_outcomes (Delivered port services) (Dropped why) h = absurd cc
one_of_outcomes (Dropped why) (Delivered port services) h = absurd cc
one_of_outcomes (Dropped why) (Dropped why') h = ap Dropped (why_is_one why why' h)

pub same_is_one : (one other : Outcome) → (same_outcome one other ≡ true) ↔ (one ≡ other)
same_is_one one other =
    (one_of_outcomes one other, λ is. ap (λ o. same_outcome one o) (sym is) ∙ outcome_self one)
