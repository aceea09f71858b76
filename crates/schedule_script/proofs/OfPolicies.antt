-- What the policies of each network relate is what the configuration relates.
use Rattle.std.proofs.Common.{◌≡◌, ◌==◌, ◌&&◌, Bool, true, false, List, [], ◌∷◌, filter, not, ap, refl, sym, ◌∙◌}
use Rattle.std.specs.List.{list_any}
use Rattle.ov_types.specs.First.{same_name}
use Rattle.ov_types.specs.declared.numbers.InstanceId.{InstanceId}
use Rattle.config_types.specs.declared.config.Config.{Config}
use Rattle.config_types.specs.declared.config.Network.{Network}
use Rattle.config_types.specs.declared.config.Policy.{Policy}
use Rattle.policy_rules.specs.Related.{are_related, attaches, lets_through, rules_between}
use Rattle.policy_rules.specs.Wanted.{leads_between}
use Rattle.policy_rules.proofs.AnyRule.{any_between, any_filter, any_same}
use Rattle.config_check.specs.Between.{also_leads}
use Rattle.schedule_script.specs.Relating.{is_related_by, relates_by, relates_one}
use Rattle.schedule_script.proofs.Adding.{and_apart}

some_attached : (c : Config) (a b : Network) → list_any (also_leads a b) (filter (attaches a) c.policies) ≡ list_any (λ r. lets_through r.rule.action) (rules_between c a b)
some_attached c a b =
    any_filter (also_leads a b) (attaches a) c.policies
    ∙ any_same (λ (p : Policy). attaches a p && also_leads a b p) (λ p. (attaches a p && attaches b p) && list_any (leads_between a b) p.rules) (λ p. and_apart (attaches a p) (attaches b p) (list_any (leads_between a b) p.rules)) c.policies
    ∙ sym (any_between (λ r. lets_through r.action) c a b)

related_by : (c : Config) (a b : Network) → is_related_by (filter (attaches a) c.policies) a b ≡ are_related c a b
related_by c a b = ap (λ (x : Bool). not (same_name a.name b.name) && x) (some_attached c a b)

any_of_none : {A : Type 0} (xs : List A) → list_any (λ x. false) xs ≡ false
any_of_none [] = refl
any_of_none (x ∷ xs) = any_of_none xs

any_and : {A : Type 0} (b : Bool) (f : A → Bool) (xs : List A) → list_any (λ x. b && f x) xs ≡ (b && list_any f xs)
any_and true f xs = refl
any_and false f xs = any_of_none xs

pub one_related : (c : Config) (a b : InstanceId) (m : Network) (ps : List Policy) → ps ≡ filter (attaches m) c.policies → list_any (relates_by ps m a b) c.networks ≡ relates_one c a b m
one_related c a b m ps e =
    ap (λ (qs : List Policy). list_any (relates_by qs m a b) c.networks) e
    ∙ any_and (m.id.0 == a.0) (λ n. (n.id.0 == b.0) && is_related_by (filter (attaches m) c.policies) m n) c.networks
    ∙ ap (λ (x : Bool). (m.id.0 == a.0) && x)
    (any_same (λ n. (n.id.0 == b.0) && is_related_by (filter (attaches m) c.policies) m n) (λ n. (n.id.0 == b.0) && are_related c m n) (λ n. ap (λ (x : Bool). (n.id.0 == b.0) && x) (related_by c m n)) c.networks)
