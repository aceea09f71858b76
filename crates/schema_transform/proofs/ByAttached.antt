-- What is between two networks is so by the policies that the one attaches.
use Rattle.std.proofs.Common.{◌≡◌, ◌&&◌, ◌||◌, Bool, true, false, List, [], ◌∷◌, cond, refl, sym, ap, ◌∙◌}
use Rattle.std.specs.Prelude.{filter, flat_map, not}
use Rattle.std.specs.List.{list_any}
use Rattle.ov_types.specs.First.{same_name}
use Rattle.config_types.specs.declared.config.Config.{Config}
use Rattle.config_types.specs.declared.config.Network.{Network}
use Rattle.config_types.specs.declared.config.Policy.{Policy}
use Rattle.policy_rules.specs.declared.numbered.NumberedRule.{NumberedRule}
use Rattle.policy_rules.specs.Related.{are_related, attaches, by_sequence, fits, imports, lets_through}
use Rattle.policy_rules.specs.Related.{numbered_rules, passes, rules_between}

-- of what passes one test, both tests keep what they keep of all
both_kept : {A : Type 0} (p q : A → Bool) (xs : List A)
    → filter (λ x. p x && q x) (filter p xs) ≡ filter (λ x. p x && q x) xs
both_kept p q [] = refl
both_kept {A} p q (x ∷ xs) =
    let rest : List A = filter (λ x. p x && q x) xs in
    elim (p x) as (λ b. p x ≡ b → filter (λ x. p x && q x) (cond b (x ∷ filter p xs) (filter p xs))
    ≡ cond (p x && q x) (x ∷ rest) rest) [
      | true ↦ λ e. ap (λ (ys : List A). cond (p x && q x) (x ∷ ys) ys) (both_kept p q xs)
      | false ↦ λ e. both_kept p q xs ∙ sym (ap (λ b. cond (b && q x) (x ∷ rest) rest) e)
    ] refl

rules_are : (c d : Config) (a b : Network) → d.policies ≡ filter (attaches a) c.policies → rules_between d a b ≡ rules_between c a b
rules_are c d a b is =
    ap (λ (ps : List Policy). filter (λ r. fits r.rule a b || fits r.rule b a) (flat_map numbered_rules (by_sequence ps)))
    (ap (filter (λ p. attaches a p && attaches b p)) is ∙ both_kept (attaches a) (attaches b) c.policies)

pub imports_are : (c d : Config) (a b : Network) → d.policies ≡ filter (attaches a) c.policies → imports d a b ≡ imports c a b
imports_are c d a b is =
    ap (λ (rs : List NumberedRule). same_name a.name b.name || list_any (λ r. passes r.rule.action) rs) (rules_are c d a b is)

pub relations_are : (c d : Config) (a b : Network) → d.policies ≡ filter (attaches a) c.policies
    → are_related d a b ≡ are_related c a b
relations_are c d a b is =
    ap (λ (rs : List NumberedRule). not (same_name a.name b.name) && list_any (λ r. lets_through r.rule.action) rs)
    (rules_are c d a b is)
