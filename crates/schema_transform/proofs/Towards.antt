-- What is kept of a list and then put is put for each item in turn.
use Rattle.std.proofs.Common.{◌≡◌, ◌==◌, ◌||◌, Bool, true, false, List, [], ◌∷◌, ◌++◌, map, cond, refl, ap}
use Rattle.std.specs.Prelude.{filter, flat_map}
use Rattle.ov_types.specs.First.{same_name}
use Rattle.ov_types.specs.declared.numbers.InstanceId.{InstanceId}
use Rattle.route_targets.specs.Numbers.{circuit_instance_of}
use Rattle.config_types.specs.declared.config.Config.{Config}
use Rattle.config_types.specs.declared.config.Network.{Network}
use Rattle.config_types.specs.declared.topology.Topology.{Topology}
use Rattle.policy_rules.specs.Related.{are_related}
use Rattle.transform_model.specs.Objects.{acl_object, acl_objects}
use Rattle.transform_model.specs.Tables.{circuits_in, subnet_rows}
use Rattle.transform_model.specs.Uses.{Circuit}
use Rattle.schema_transform.specs.Towards.{acl_towards, rows_if_in}

kept_then_mapped : {A B : Type 0} (p : A → Bool) (f : A → B) (xs : List A)
    → map f (filter p xs) ≡ flat_map (λ x. cond (p x) (f x ∷ []) []) xs
kept_then_mapped p f [] = refl
kept_then_mapped p f (x ∷ xs) =
    elim (p x) as (λ b. map f (cond b (x ∷ filter p xs) (filter p xs))
    ≡ cond b (f x ∷ []) [] ++ flat_map (λ x. cond (p x) (f x ∷ []) []) xs) [
      | true ↦ ap (λ ys. f x ∷ ys) (kept_then_mapped p f xs)
      | false ↦ kept_then_mapped p f xs
    ]

kept_then_joined : {A B : Type 0} (p : A → Bool) (f : A → List B) (xs : List A)
    → flat_map f (filter p xs) ≡ flat_map (λ x. cond (p x) (f x) []) xs
kept_then_joined p f [] = refl
kept_then_joined p f (x ∷ xs) =
    elim (p x) as (λ b. flat_map f (cond b (x ∷ filter p xs) (filter p xs))
    ≡ cond b (f x) [] ++ flat_map (λ x. cond (p x) (f x) []) xs) [
      | true ↦ ap (λ ys. f x ++ ys) (kept_then_joined p f xs)
      | false ↦ kept_then_joined p f xs
    ]

pub acls_are : (c : Config) (a : Network) → acl_objects c a ≡ flat_map (acl_towards c a) c.networks
acls_are c a =
    kept_then_mapped (λ (m : Network). same_name m.name a.name || are_related c a m) (acl_object c a) c.networks

pub rows_are : (t : Topology) (c : Config) (i : InstanceId) (n : Network) (ks : List Circuit)
    → flat_map (subnet_rows t c i n) (circuits_in i ks) ≡ flat_map (rows_if_in t c i n) ks
rows_are t c i n ks =
    kept_then_joined (λ (k : Circuit). (circuit_instance_of k.number).0 == i.0) (subnet_rows t c i n) ks
