-- Few rules in each policy, and the rules of shared policies.
use Rattle.std.proofs.Common.{◌≡◌, ◌&&◌, ◌||◌, Bool, true, false, cond, List, [], ◌∷◌, ◌++◌, filter, flat_map, refl, sym, ap, ◌∙◌}
use Rattle.config_types.specs.declared.config.Config.{Config}
use Rattle.config_types.specs.declared.config.Network.{Network}
use Rattle.config_types.specs.declared.config.Policy.{Policy}
use Rattle.policy_rules.specs.Related.{attaches, by_sequence, fits, numbered_rules, rules_between}
use Rattle.policy_rules.specs.declared.numbered.NumberedRule.{NumberedRule}

filtered_parts : {A : Type 0} (keep : A → Bool) (xs ys : List A) → filter keep (xs ++ ys) ≡ filter keep xs ++ filter keep ys
filtered_parts keep [] ys = refl
filtered_parts {A} keep (x ∷ xs) ys =
    elim (keep x) as (λ b. cond b (x ∷ filter keep (xs ++ ys)) (filter keep (xs ++ ys)) ≡ cond b (x ∷ filter keep xs) (filter keep xs) ++ filter keep ys) [
      | true ↦ ap (λ (rest : List A). x ∷ rest) (filtered_parts keep xs ys)
      | false ↦ filtered_parts keep xs ys
    ]

filtered_each : {A B : Type 0} (keep : A → Bool) (f : B → List A) (bs : List B) → flat_map (λ b. filter keep (f b)) bs ≡ filter keep (flat_map f bs)
filtered_each keep f [] = refl
filtered_each {A} {B} keep f (b ∷ bs) =
    ap (λ (rest : List A). filter keep (f b) ++ rest) (filtered_each keep f bs) ∙ sym (filtered_parts keep (f b) (flat_map f bs))

pub rules_by : (c : Config) (a b : Network) (ps : List Policy) → ps ≡ by_sequence (filter (λ p. attaches a p && attaches b p) c.policies)
    → flat_map (λ p. filter (λ r. fits r.rule a b || fits r.rule b a) (numbered_rules p)) ps ≡ rules_between c a b
rules_by c a b ps e =
    filtered_each (λ (r : NumberedRule). fits r.rule a b || fits r.rule b a) numbered_rules ps
    ∙ ap (λ (qs : List Policy). filter (λ (r : NumberedRule). fits r.rule a b || fits r.rule b a) (flat_map numbered_rules qs)) e
