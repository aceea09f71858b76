-- Networks are related, and one imports the other, exactly where rules of the right actions stand between them.
use Rattle.std.proofs.Common.{◌≡◌, ◌≢◌, ◌↔◌, ◌⊎◌, inl, inr, ◌||◌, Bool, true, false, not, IsTrue, List, refl, sym, ap, ◌∙◌}
use Rattle.std.specs.Bool.{Decides}
use Rattle.std.specs.List.{Any, list_any}
use Rattle.std.proofs.lemmas.Bool.{and_parts, and_from, or_right}
use Rattle.std.proofs.lemmas.List.Folds.{Any-from_list_any, list_any-from_Any}
use Rattle.config_types.specs.declared.config.Action.{Action}
use Rattle.config_types.specs.declared.config.Action.TheVariants.{Pass, Deny, Through}
use Rattle.config_types.specs.declared.config.Config.{Config}
use Rattle.config_types.specs.declared.config.Network.{Network}
use Rattle.ov_types.specs.First.{same_name}
use Rattle.ov_types.proofs.FirstLemmas.{same_name_iff, any_of}
use Rattle.policy_rules.specs.Related.{NumberedRule, lets_through, passes, rules_between, are_related, imports}
use Rattle.policy_rules.specs.Standing.{IsBetween, LetsThrough, AreRelated, PassesBetween}
use Rattle.policy_rules.proofs.Standing.{between_iff}

-- some rule between two networks of which a test of actions holds
abbrev SomeBetween : Config → Network → Network → (Action → Bool) → Type 0
SomeBetween c a b f = (r : NumberedRule) × IsBetween c a b r × (f r.rule.action ≡ true)

some_between : (c : Config) (a b : Network) (f : Action → Bool) → list_any (λ r. f r.rule.action) (rules_between c a b) ≡ true → SomeBetween c a b f
some_between c a b f h =
    let some : Any (λ (r : NumberedRule). f r.rule.action ≡ true) (rules_between c a b) = Any-from_list_any (λ (r : NumberedRule). f r.rule.action) (rules_between c a b) h in
    (some.1, (between_iff c a b some.1).0 (some.0, some.2, some.3), some.4)

from_some : (c : Config) (a b : Network) (f : Action → Bool) (r : NumberedRule) → IsBetween c a b r → f r.rule.action ≡ true → list_any (λ r. f r.rule.action) (rules_between c a b) ≡ true
from_some c a b f r stands h =
    list_any-from_Any (λ (r : NumberedRule). f r.rule.action) (rules_between c a b)
    (any_of (λ (r : NumberedRule). f r.rule.action ≡ true) (rules_between c a b) r ((between_iff c a b r).1 stands) h)

lets_iff : (a : Action) → Decides (lets_through a) (LetsThrough a)
lets_iff Pass = (λ h. tt, λ h. refl)
lets_iff Deny = (λ h. cc, λ h. absurd h)
lets_iff (Through chain use_no) = (λ h. tt, λ h. refl)

passes_iff : (a : Action) → Decides (passes a) (a ≡ Pass)
passes_iff Pass = (λ h. refl, λ h. refl)
passes_iff Deny = (λ h. cc, λ h. cc)
passes_iff (Through chain use_no) = (λ h. cc, λ h. cc)

differ : (x y : List _) → not (same_name x y) ≡ true → x ≢ y
differ x y h e = let same : same_name x y ≡ true = (same_name_iff x y).1 e in let never : not true ≡ true = ap not (sym same) ∙ h in absurd cc

differ_test : (x y : List _) → x ≢ y → not (same_name x y) ≡ true
differ_test x y h = elim (same_name x y) as (λ v. same_name x y ≡ v → not v ≡ true) [ true ↦ λ e. absurd (h ((same_name_iff x y).0 e)) | false ↦ λ e. refl ] refl

pub related_iff : (c : Config) (a b : Network) → IsTrue (are_related c a b) ↔ AreRelated c a b
related_iff c a b =
    let some : Bool = list_any (λ r. lets_through r.rule.action) (rules_between c a b) in (
      λ h.
          let parts = and_parts (not (same_name a.name b.name)) some h in
          let s = some_between c a b lets_through parts.1 in
          record { differ = differ a.name b.name parts.0; rule = s.0; stands = s.1; lets = (lets_iff s.0.rule.action).0 s.2 },
      λ k.
          and_from (not (same_name a.name b.name)) some (differ_test a.name b.name k.differ)
          (from_some c a b lets_through k.rule k.stands ((lets_iff k.rule.rule.action).1 k.lets)),
    )

pub imports_iff : (c : Config) (a b : Network) → IsTrue (imports c a b) ↔ ((a.name ≡ b.name) ⊎ PassesBetween c a b)
imports_iff c a b =
    let some : Bool = list_any (λ r. passes r.rule.action) (rules_between c a b) in (
      λ h.
          elim (same_name a.name b.name) as (λ v. same_name a.name b.name ≡ v → (v || some) ≡ true → (a.name ≡ b.name) ⊎ PassesBetween c a b) [
            | true ↦ λ e k. inl ((same_name_iff a.name b.name).0 e)
            | false ↦ λ e k. let s = some_between c a b passes k in inr (record { rule = s.0; stands = s.1; pass = (passes_iff s.0.rule.action).0 s.2 })
          ] refl h,
      λ k.
          elim k [
            | inl same ↦ let one : same_name a.name b.name ≡ true = (same_name_iff a.name b.name).1 same in rw one refl
            | inr way ↦
                let by : some ≡ true = from_some c a b passes way.rule way.stands ((passes_iff way.rule.rule.action).1 way.pass) in
                or_right (same_name a.name b.name) some by
          ],
    )
