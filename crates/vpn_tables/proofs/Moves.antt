-- Holdings of one configuration that differ by some paths, and by what is published in one instance.
use Rattle.std.specs.Prelude.{◌≡◌, ◌≢◌, ℕ, List, Bool, false}
use Rattle.std.specs.declared.option.Option.{Option}
use Rattle.std.specs.declared.option.Option.TheVariants.{Some}
use Rattle.std.specs.List.{filter, AllByRecursion}
use Rattle.ov_types.specs.declared.numbers.InstanceId.{InstanceId}
use Rattle.ov_types.specs.declared.targets.Target.{Target}
use Rattle.route_targets.specs.Numbers.{target_of, circuit_instance_of}
use Rattle.node_model.specs.Members.{Member}
use Rattle.node_model.specs.Maps.{Map}
use Rattle.node_model.specs.Paths.{Holdings, Told, Path, own_paths, peer_paths}
use Rattle.node_model.specs.Reaching.{publisher}

-- what a control node holds, with what its sessions but the feed told otherwise
abbrev pub told_otherwise : Holdings → List Map → List Told → Holdings
told_otherwise h peers agents = record h { peers = peers; agents = agents }

-- two holdings have the same paths in the same order but for those that moved, and the same publications of circuits but
-- for those in the instance of a place
pub record Moves (moved : List Path) (place : Option InstanceId) (h g : Holdings) : Type 0 where
  pub own : (test : Path → Bool) → AllByRecursion (λ p. test p ≡ false) moved → filter test (own_paths h) ≡ filter test (own_paths g)
  pub peers : (test : Path → Bool) → AllByRecursion (λ p. test p ≡ false) moved
      → filter test (peer_paths h) ≡ filter test (peer_paths g)
  pub publishers : (circuit : ℕ) → place ≢ Some (circuit_instance_of circuit)
      → publisher h circuit ≡ publisher g circuit

-- some targets have among them those of all paths that moved, and that of the instance of a place
pub record Covers (asn : ℕ) (moved : List Path) (place : Option InstanceId) (targets : List Target) : Type 0 where
  pub paths : (p : Path) (t : Target) → Member p moved → Member t p.targets → Member t targets
  pub published : (i : InstanceId) → place ≡ Some i → Member (target_of asn i) targets
