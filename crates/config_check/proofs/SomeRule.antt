-- Whether some rule lets packets through between two networks, whatever the order of their policies.
use Rattle.std.proofs.Common.{◌≡◌, ◌&&◌, ◌||◌, Bool, true, false, cond, List, [], ◌∷◌, filter, not, refl, sym, ap, ◌∙◌}
use Rattle.std.specs.List.{list_any}
use Rattle.config_types.specs.declared.config.Network.{Network}
use Rattle.config_types.specs.declared.config.Config.{Config}
use Rattle.config_types.specs.declared.config.Policy.{Policy}
use Rattle.policy_rules.specs.Related.{attaches, lets_through, rules_between, are_related}
use Rattle.std.specs.Cmp.Lexicographic.{nat_list_eq_equiv}
use Rattle.ov_types.specs.First.{same_name}
use Rattle.config_check.specs.Between.{also_leads, is_in_group}
use Rattle.policy_rules.specs.Wanted.{leads_between}
use Rattle.config_check.specs.Rules.{group_of}
use Rattle.policy_rules.proofs.AnyRule.{any_filter, any_same, any_between}

and_apart : (a b c : Bool) → (a && (b && c)) ≡ ((a && b) && c)
and_apart true b c = refl
and_apart false b c = refl

some_attached : (c : Config) (a b : Network) → list_any (also_leads a b) (filter (attaches a) c.policies) ≡ list_any (λ r. lets_through r.rule.action) (rules_between c a b)
some_attached c a b =
    any_filter (also_leads a b) (attaches a) c.policies
    ∙ any_same (λ (p : Policy). attaches a p && also_leads a b p) (λ p. (attaches a p && attaches b p) && list_any (leads_between a b) p.rules) (λ p. and_apart (attaches a p) (attaches b p) (list_any (leads_between a b) p.rules)) c.policies
    ∙ sym (any_between (λ r. lets_through r.action) c a b)

filter_same : {A : Type 0} (f g : A → Bool) → ((x : A) → f x ≡ g x) → (xs : List A) → filter f xs ≡ filter g xs
filter_same f g same [] = refl
filter_same {A} f g same (x ∷ xs) =
    ap (λ (b : Bool). cond b (x ∷ filter f xs) (filter f xs)) (same x)
    ∙ ap (λ (rest : List A). cond (g x) (x ∷ rest) rest) (filter_same f g same xs)

or_unless : (a b : Bool) → (a || b) ≡ (a || (not a && b))
or_unless true b = refl
or_unless false b = refl

-- a network of the one name is not asked about
joins : (c : Config) (n m : Network) → is_in_group (filter (attaches n) c.policies) n m ≡ (same_name m.name n.name || are_related c n m)
joins c n m =
    ap (λ (b : Bool). same_name m.name n.name || b) (some_attached c n m)
    ∙ or_unless (same_name m.name n.name) (list_any (λ r. lets_through r.rule.action) (rules_between c n m))
    ∙ ap (λ (b : Bool). same_name m.name n.name || (not b && list_any (λ r. lets_through r.rule.action) (rules_between c n m))) (nat_list_eq_equiv.symm m.name n.name)

pub group_from : (c : Config) (n : Network) (ps : List Policy) → ps ≡ filter (attaches n) c.policies → filter (is_in_group ps n) c.networks ≡ group_of c n
group_from c n ps e =
    ap (λ (qs : List Policy). filter (is_in_group qs n) c.networks) e
    ∙ filter_same (is_in_group (filter (attaches n) c.policies) n) (λ m. same_name m.name n.name || are_related c n m) (joins c n) c.networks
