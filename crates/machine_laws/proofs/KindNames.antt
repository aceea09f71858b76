-- The rule on names, by the kinds of nodes.
use Rattle.std.specs.Prelude.{◌++◌, ◌∷◌}
use Rattle.config_types.specs.declared.topology.Topology.{Topology}
use Rattle.schedule_script.specs.ConfigCheck.Rules.{controller_names, node_names}
use Rattle.machine_model.specs.Network.{AreNamed, config}
use Rattle.machine_model.proofs.Apart.{NamesApart, names_apart}
use Rattle.machine_model.proofs.Distinct.{apart_of}

-- ---- names
pub apart_names : (t : Topology) → AreNamed t → NamesApart t
apart_names t named = names_apart t (apart_of (config ∷ controller_names t ++ node_names t) named)
