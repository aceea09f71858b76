-- Of the low-level objects those of ports alone depend on the ports.
use Rattle.std.specs.Prelude.{◌≡◌, ℕ, zero, suc, ◌&&◌, Bool, true, false, List, [], ◌∷◌, ◌++◌, length, map, flat_map, if◌then◌else◌}
use Rattle.std.specs.declared.option.Option.{Option}
use Rattle.std.specs.declared.option.Option.TheVariants.{Some, None}
use Rattle.std.specs.Option.{option_map_or}
use Rattle.std.specs.List.{filter_map}
use Rattle.std.proofs.Common.{refl, ◌∙◌, ap}
use Rattle.ov_types.specs.First.{same_name}
use Rattle.ov_types.specs.declared.objects.AclAction.TheVariants.{Enter}
use Rattle.ov_types.specs.declared.objects.LowKey.TheVariants as Key
use Rattle.ov_types.specs.declared.objects.LowValue.TheVariants.{Acl}
use Rattle.route_targets.specs.Numbers.{hop_instance_of}
use Rattle.config_types.specs.declared.config.Action.{Action}
use Rattle.config_types.specs.declared.config.Action.TheVariants.{Pass, Deny, Through}
use Rattle.config_types.specs.declared.config.Config.{Config}
use Rattle.config_types.specs.declared.config.End.{End}
use Rattle.config_types.specs.declared.config.End.TheVariants.{Any, Named}
use Rattle.config_types.specs.declared.config.Network.{Network}
use Rattle.config_types.specs.declared.config.Policy.{Policy}
use Rattle.config_types.specs.declared.config.Port.{Port}
use Rattle.config_types.specs.declared.config.Rule.{Rule}
use Rattle.config_types.specs.declared.config.Service.{Service}
use Rattle.config_types.specs.declared.topology.Topology.{Topology}
use Rattle.policy_rules.specs.Matching.{speaks_both_ways}
use Rattle.policy_rules.specs.Related.{attaches, fits, rules_between}
use Rattle.policy_rules.specs.declared.numbered.NumberedRule.{NumberedRule}
use Rattle.machine_model.specs.AclCompile.Oriented.{acl_value, ascending, does, entries_of, forward_entry, mirrored_entry}
use Rattle.machine_model.specs.ChainExpand.Expansion.{expansion, hops_of, service_named, services_within}
use Rattle.machine_model.specs.ConfigCheck.Rules.{group_of}
use Rattle.machine_model.specs.TransformModel.Objects.{LowObject, acl_objects, circuit_objects, instance_object, objects, port_object, use_object}
use Rattle.machine_model.specs.TransformModel.Uses.{network_at, use_between, use_by, uses}

-- the objects of a configuration but for those of networks and of ports
abbrev pub others : Topology → Config → List LowObject
others t c =
    flat_map (circuit_objects t) (uses c) ++ (flat_map (acl_objects c) c.networks ++ map (use_object t) (uses c))

module _ (c : Config) (ports : List Port) where
  abbrev other : Config
  other = record c { ports = ports }

  -- ---- chains
  services_stay : (n : ℕ) → services_within n other ≡ services_within n c
  unfolding services_within
  services_stay zero = refl
  services_stay (suc n) = λ i hop. option_map_or (λ s. s ∷ []) (service_named c hop) (flat_map (services_stay n i) (hops_of c hop))

  expansion_stays : (chain : List ℕ) → expansion other chain ≡ expansion c chain
  expansion_stays chain = λ i. flat_map (services_stay (length c.chains) i) (hops_of c chain)

  -- ---- access lists
  does_stays : (mirrored : Bool) (a : Action) → does other mirrored a ≡ does c mirrored a
  does_stays mirrored Pass = refl
  does_stays mirrored Deny = refl
  does_stays false (Through chain use_no) = refl
  does_stays true (Through chain use_no) =
      ap (λ (ss : List Service). Enter (hop_instance_of use_no (length ss))) (expansion_stays chain)

  entries_stay : (from to : Network) (r : NumberedRule) → entries_of other from to r ≡ entries_of c from to r
  entries_stay from to r =
      let forward : forward_entry other r ≡ forward_entry c r =
      λ i. record (forward_entry c r) { action = does_stays false r.rule.action i } in
      let mirrored : mirrored_entry other r ≡ mirrored_entry c r =
      λ i. record (mirrored_entry c r) { action = does_stays true r.rule.action i } in
      λ i. (if fits r.rule from to then forward i ∷ [] else [])
      ++ (if speaks_both_ways r.rule.direction && fits r.rule to from then mirrored i ∷ [] else [])

  acl_stays : (from to : Network) → acl_value other from to ≡ acl_value c from to
  acl_stays from to =
      λ i. Acl (ascending to.subnets)
      (if same_name from.name to.name then [] else flat_map (λ r. entries_stay from to r i) (rules_between c from to))

  acls_stay : (a : Network) → acl_objects other a ≡ acl_objects c a
  acls_stay a = λ i. map (λ b. (Key.Acl a.id.0 b.id.0, acl_stays a b i)) (group_of c a)

  -- ---- uses of chains
  end_stays : (e : End) → network_at other e ≡ network_at c e
  end_stays Any = refl
  end_stays (Named name) = refl

  between_stays : (p : Policy) (chain : List ℕ) (number : ℕ) (left right : Option Network)
      → use_between other p chain number left right ≡ use_between c p chain number left right
  between_stays p chain number (Some left) (Some right) =
      ap (λ (ss : List Service). if attaches left p && attaches right p
      then Some (record { number = number; left = left; right = right; services = ss }) else None) (expansion_stays chain)
  between_stays p chain number (Some left) None = refl
  between_stays p chain number None right = refl

  use_stays : (p : Policy) (r : Rule) (a : Action) → use_by other p r a ≡ use_by c p r a
  use_stays p r Pass = refl
  use_stays p r Deny = refl
  use_stays p r (Through chain number) =
      (λ i. use_between other p chain number (end_stays r.source i) (end_stays r.destination i))
      ∙ between_stays p chain number (network_at c r.source) (network_at c r.destination)

  uses_stay : uses other ≡ uses c
  uses_stay = λ i. flat_map (λ p. filter_map (λ r. use_stays p r r.action i) p.rules) c.policies

  -- ---- all but those of ports
  others_stay : (t : Topology) → others t other ≡ others t c
  others_stay t =
      λ i. flat_map (circuit_objects t) (uses_stay i)
      ++ (flat_map (λ a. acls_stay a i) c.networks ++ map (use_object t) (uses_stay i))

  pub objects_with : (t : Topology)
      → objects t other ≡ map (instance_object c) c.networks ++ (filter_map (port_object t c) ports ++ others t c)
  objects_with t =
      ap (λ (os : List LowObject). map (instance_object c) c.networks ++ (filter_map (port_object t c) ports ++ os)) (others_stay t)
