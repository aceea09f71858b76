-- What becomes of the low-level objects where one port stands in the place of another, or where one comes or goes.
use Rattle.std.specs.Prelude.{List, option_map, option_and_then}
use Rattle.std.specs.declared.option.Option.{Option}
use Rattle.std.specs.declared.option.Option.TheVariants.{Some, None}
use Rattle.std.specs.declared.cmp.Ordering.{Ordering}
use Rattle.std.specs.FinMap.{FinMap, insert, remove}
use Rattle.config_types.specs.declared.config.Port.{Port}
use Rattle.machine_model.specs.ConfigCheck.Checked.{Checked}
use Rattle.machine_model.specs.TransformModel.Objects.{port_object}
use Rattle.node_core.specs.NodeModel.Keys.{Key}
use Rattle.node_core.specs.NodeModel.Values.{Value}
use Rattle.node_core.specs.NodeModel.Wants.{slice_entry}

-- a configuration with other ports
abbrev pub with_ports : Checked → List Port → Checked
with_ports x ports = record { topology = x.topology; config = record x.config { ports = ports } }

-- the attachment of a port with its label, where there is a port
abbrev pub attachment : Checked → Option Port → Option (Key × Value)
attachment x port = option_map slice_entry (option_and_then (port_object x.topology x.config) port)

-- ---- a map without an entry, and with one, where there is one
module _ {K V : Type 0} {R : K → K → Ordering} where
  abbrev pub without_entry : FinMap R V → Option (K × V) → FinMap R V
  without_entry m None = m
  without_entry m (Some e) = remove m e.0

  abbrev pub with_entry : FinMap R V → Option (K × V) → FinMap R V
  with_entry m None = m
  with_entry m (Some e) = insert m e.0 e.1
