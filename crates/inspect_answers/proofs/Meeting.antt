-- An outcome is found to be as expected exactly where it is.
use Rattle.std.proofs.Common.{◌≡◌, ◌==◌, ℕ, true, List, [], ◌∷◌, refl, sym, ap, ◌∙◌, arith}
use Rattle.std.specs.Cmp.Lexicographic.{pointwise}
use Rattle.std.proofs.lemmas.Bool.{and_from, and_parts}
use Rattle.ov_types.specs.declared.numbers.ServiceNo.{ServiceNo}
use Rattle.ov_types.specs.declared.packet.Outcome.{Outcome}
use Rattle.ov_types.specs.declared.packet.Outcome.TheVariants as Comes
use Rattle.ov_types.specs.declared.packet.Why.{Why}
use Rattle.ov_types.specs.declared.packet.Why.TheVariants as Reason
use Rattle.inspect_answers.specs.Expecting.{drop_is_met, is_met}
use Rattle.inspect_answers.specs.Unmet.{IsMet}
use Rattle.inspect_answers.specs.declared.expectation.Expected.{Expected}
use Rattle.inspect_answers.specs.declared.expectation.Expected.TheVariants.{Dropped, NoSourcePort, NoDestination, NoRoute, Denied, Delivered}

number_self : (n : ℕ) → (n == n) ≡ true
number_self n = grind arith

number_is : (m n : ℕ) → (m == n) ≡ true → m ≡ n
number_is m n h = grind arith

services_self : (ss : List ServiceNo) → pointwise (λ s t. s.0 == t.0) ss ss ≡ true
services_self [] = refl
services_self (s ∷ ss) = and_from (s.0 == s.0) (pointwise (λ s t. s.0 == t.0) ss ss) (number_self s.0) (services_self ss)

services_are : (ss ts : List ServiceNo) → pointwise (λ s t. s.0 == t.0) ss ts ≡ true → ss ≡ ts
services_are [] [] h = refl
services_are [] (t ∷ ts) h = absurd cc
services_are (s ∷ ss) [] h = absurd cc
services_are (s ∷ ss) (t ∷ ts) h =
    let parts = and_parts (s.0 == t.0) (pointwise (λ s t. s.0 == t.0) ss ts) h in
    let head : s ≡ t = ap (λ n. record { 0 = n }) (number_is s.0 t.0 parts.0) in
    λ i. head i ∷ services_are ss ts parts.1 i

-- a drop

drop_meets : (e : Expected) (why : Why) → drop_is_met e why ≡ true → IsMet e (Comes.Dropped why)
drop_meets Dropped why h = (why, refl)
drop_meets NoSourcePort Reason.NoSourcePort h = refl
drop_meets NoSourcePort Reason.NoDestination h = absurd cc
drop_meets NoSourcePort Reason.NoRoute h = absurd cc
drop_meets NoSourcePort (Reason.Denied rule) h = absurd cc
drop_meets NoSourcePort Reason.NoLabel h = absurd cc
drop_meets NoSourcePort Reason.TtlExpired h = absurd cc
drop_meets NoDestination Reason.NoSourcePort h = absurd cc
drop_meets NoDestination Reason.NoDestination h = refl
drop_meets NoDestination Reason.NoRoute h = absurd cc
drop_meets NoDestination (Reason.Denied rule) h = absurd cc
drop_meets NoDestination Reason.NoLabel h = absurd cc
drop_meets NoDestination Reason.TtlExpired h = absurd cc
drop_meets NoRoute Reason.NoSourcePort h = absurd cc
drop_meets NoRoute Reason.NoDestination h = absurd cc
drop_meets NoRoute Reason.NoRoute h = refl
drop_meets NoRoute (Reason.Denied rule) h = absurd cc
drop_meets NoRoute Reason.NoLabel h = absurd cc
drop_meets NoRoute Reason.TtlExpired h = absurd cc
drop_meets Denied Reason.NoSourcePort h = absurd cc
drop_meets Denied Reason.NoDestination h = absurd cc
drop_meets Denied Reason.NoRoute h = absurd cc
drop_meets Denied (Reason.Denied rule) h = (rule, refl)
drop_meets Denied Reason.NoLabel h = absurd cc
drop_meets Denied Reason.TtlExpired h = absurd cc
drop_meets (Delivered port services) why h = absurd cc

pub met_is : (e : Expected) (o : Outcome) → is_met e o ≡ true → IsMet e o
met_is (Delivered port services) (Comes.Delivered port' services') h =
    let parts = and_parts (port.0 == port'.0) (pointwise (λ s t. s.0 == t.0) services services') h in
    let ports : port' ≡ port = ap (λ n. record { 0 = n }) (sym (number_is port.0 port'.0 parts.0)) in
    let lists : services' ≡ services = sym (services_are services services' parts.1) in
    λ i. Comes.Delivered (ports i) (lists i)
met_is (Delivered port services) (Comes.Dropped why) h = absurd cc
met_is Dropped (Comes.Delivered port services) h = absurd cc
met_is NoSourcePort (Comes.Delivered port services) h = absurd cc
met_is NoDestination (Comes.Delivered port services) h = absurd cc
met_is NoRoute (Comes.Delivered port services) h = absurd cc
met_is Denied (Comes.Delivered port services) h = absurd cc
met_is Dropped (Comes.Dropped why) h = drop_meets Dropped why h
met_is NoSourcePort (Comes.Dropped why) h = drop_meets NoSourcePort why h
met_is NoDestination (Comes.Dropped why) h = drop_meets NoDestination why h
met_is NoRoute (Comes.Dropped why) h = drop_meets NoRoute why h
met_is Denied (Comes.Dropped why) h = drop_meets Denied why h

pub is_met_so : (e : Expected) (o : Outcome) → IsMet e o → is_met e o ≡ true
is_met_so Dropped o h = ap (is_met Dropped) h.1
is_met_so NoSourcePort o h = ap (is_met NoSourcePort) h
is_met_so NoDestination o h = ap (is_met NoDestination) h
is_met_so NoRoute o h = ap (is_met NoRoute) h
is_met_so Denied o h = ap (is_met Denied) h.1
is_met_so (Delivered port services) o h =
    ap (is_met (Delivered port services)) h
    ∙ and_from (port.0 == port.0) (pointwise (λ s t. s.0 == t.0) services services) (number_self port.0) (services_self services)
