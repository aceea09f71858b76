-- A network that is imported is the network itself, or related to it.
use Rattle.std.proofs.Common.{◌⊎◌, inl, inr, ◌||◌, ◌&&◌, Bool, true, false, not, IsTrue, List, refl, sym}
use Rattle.std.specs.List.{list_any}
use Rattle.acl_compile.specs.ConfigTypes.Action.{Action}
use Rattle.acl_compile.specs.ConfigTypes.Action.TheVariants.{Pass, Deny, Through}
use Rattle.acl_compile.specs.ConfigTypes.Config.{Config}
use Rattle.acl_compile.specs.ConfigTypes.Network.{Network}
use Rattle.ov_types.specs.First.{same_name}
use Rattle.ov_types.proofs.FirstLemmas.{same_name_iff}
use Rattle.acl_compile.specs.PolicyRules.NumberedRule.{NumberedRule}
use Rattle.acl_compile.specs.PolicyRules.Related.{passes, lets_through, rules_between, imports}
use Rattle.acl_compile.specs.ConfigCheck.Sentences.{IsAround}
use Rattle.transform_model.proofs.Lists.{any_weaker}

passes_through : (a : Action) → IsTrue (passes a) → IsTrue (lets_through a)
passes_through Pass h = refl
passes_through Deny h = h
passes_through (Through chain use_no) h = refl

one_or_related : (same : Bool) (rules : List NumberedRule) → IsTrue (same || list_any (λ r. passes r.rule.action) rules)
    → IsTrue same ⊎ IsTrue (not same && list_any (λ r. lets_through r.rule.action) rules)
one_or_related true rules h = inl refl
one_or_related false rules h =
    inr (any_weaker (λ (r : NumberedRule). passes r.rule.action) (λ (r : NumberedRule). lets_through r.rule.action) (λ r. passes_through r.rule.action) rules h)

pub is_around : (c : Config) (n b : Network) → IsTrue (imports c n b) → IsAround c n b
is_around c n b h =
    elim (one_or_related (same_name n.name b.name) (rules_between c n b) h) [
      | inl same ↦ inl (sym ((same_name_iff n.name b.name).0 same))
      | inr related ↦ inr related
    ]
