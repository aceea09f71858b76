-- A least network: one control node and one agent, with any configuration.
use Rattle.std.specs.Prelude.{ℕ, [], ◌∷◌}
use Rattle.ov_types.specs.declared.prefix.Addr.{Addr}
use Rattle.config_types.specs.declared.config.Config.{Config}
use Rattle.schedule_script.specs.ConfigCheck.Checked.{Checked}
use Rattle.config_types.specs.declared.edit.Edit.TheVariants.{Put, Delete}
use Rattle.config_types.specs.declared.edit.Object.TheVariants as objects
use Rattle.config_types.specs.declared.edit.ObjectKind.TheVariants as kinds
use Rattle.machine_model.specs.Setup.{Name}
use Rattle.machine_model.specs.Events.{MachineEvent, Edits}

-- c1 and n1
abbrev pub control_node : Name
control_node = 99 ∷ 49 ∷ []

abbrev pub compute_node : Name
compute_node = 110 ∷ 49 ∷ []

-- in an autonomous system of this number, at these addresses
abbrev pub small : ℕ → Addr → Addr → Config → Checked
small asn control compute config = record {
  topology = record {
    asn = asn;
    controllers = record { name = control_node; address = control } ∷ [];
    nodes = record { name = compute_node; address = compute; controllers = control_node ∷ [] } ∷ [];
  };
  config = config;
}

-- an event that puts and deletes no compute node
abbrev pub LeavesNodes : MachineEvent → Type 0
LeavesNodes (Edits (Put (objects.Node n))) = ⊥
LeavesNodes (Edits (Delete kinds.Node name)) = ⊥
LeavesNodes _ = Unit {0}
