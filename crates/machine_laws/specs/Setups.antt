-- What is asked of a topology with a configuration: rules on names, and on the low-level objects.
use Rattle.std.specs.Prelude.{◌≡◌, ◌≤◌, List, ◌∷◌}
use Rattle.config_types.specs.declared.topology.Node.{Node}
use Rattle.config_types.specs.declared.topology.Topology.{Topology}
use Rattle.machine_model.specs.Setup.{Setup}
use Rattle.schedule_script.specs.ConfigCheck.Rules.{controller_names}
use Rattle.node_laws.specs.NodeModel.Members.{Member}
use Rattle.node_laws.specs.NodeModel.Reaching.{Side, sides}
use Rattle.machine_model.specs.Setup.{Name, longest, low}
use Rattle.machine_model.specs.Network.{AreNamed}
use Rattle.machine_laws.specs.Compiled.{Attachment, attachments}
use Rattle.machine_laws.specs.Sound.{IsSound}

-- names tell nodes apart, and each compute node lists some control nodes
pub record IsNamed (t : Topology) : Type 0 where
  pub apart : AreNamed t
  pub lists : (n : Node) → Member n t.nodes → (m : Name) × (rest : List Name) × (n.controllers ≡ m ∷ rest)
  pub listed : (n : Node) (m : Name) → Member n t.nodes → Member m n.controllers → Member m (controller_names t)

pub record IsSoundSetup (x : Setup) : Type 0 where
  pub named : IsNamed x.topology
  pub sound : IsSound (low x)
  pub within : (s : Side) → Member s (sides (low x)) → s.chain.services ≤ longest x
  -- each attachment is at a compute node
  pub homed : (a : Attachment) → Member a (attachments (low x))
      → (n : Node) × Member n x.topology.nodes × (n.address ≡ a.node)
