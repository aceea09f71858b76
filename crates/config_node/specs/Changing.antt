-- What another valid configuration is to one, where a single port stands in the place of another, comes or goes.
use Rattle.std.specs.Prelude.{◌≡◌, List, ◌++◌, if◌then◌else◌}
use Rattle.std.specs.declared.option.Option.{Option}
use Rattle.std.specs.declared.option.Option.TheVariants.{Some, None}
use Rattle.std.specs.Option.{option_map}
use Rattle.std.specs.Ordering.{is_eq}
use Rattle.std.specs.List.{cons_option}
use Rattle.ov_sync.specs.Keyed.{set_key}
use Rattle.ov_types.specs.declared.objects.LowKey.{LowKey}
use Rattle.ov_types.specs.declared.objects.LowValue.{LowValue}
use Rattle.config_types.specs.declared.config.Port.{Port}
use Rattle.config_check.specs.Checked.{Checked}
use Rattle.node_core.specs.Told.{AllFit}
use Rattle.node_core.specs.NodeModel.Keys.{Low}
use Rattle.node_core.specs.NodeModel.Values.{Object}
use Rattle.config_node.specs.MachineModel.Setup.{low_in}
use Rattle.config_node.specs.Ports.{with_ports}
use Rattle.config_node.specs.Ends.{low_order}

-- nothing differs but the ports
abbrev pub SharesAllButPorts : Checked → Checked → Type 0
SharesAllButPorts x y = y ≡ with_ports x y.config.ports

-- two lists of ports have the same in front and behind, and between them the one has the first port and the other the
-- second, or none
pub record DifferInOne (before now : List Port) (old new : Option Port) : Type 0 where
  pub front : List Port
  pub back : List Port
  pub was : before ≡ front ++ cons_option old back
  pub is : now ≡ front ++ cons_option new back

-- what becomes of the key of an attachment, where another of the same key stands in its place, or it comes or goes
abbrev pub key_change : Option (LowKey × LowValue) → Option (LowKey × LowValue) → Option (LowKey × Option LowValue)
key_change None None = None
key_change None (Some new) = Some (new.0, Some new.1)
key_change (Some old) None = Some (old.0, None)
key_change (Some old) (Some new) = if is_eq (low_order old.0 new.0) then Some (new.0, Some new.1) else None

-- at one key alone something else stands then, and all objects can be told
pub record IsOneChange (x y : Checked) (k : LowKey) (w : Option LowValue) : Type 0 where
  pub change : low_in y ≡ set_key (low_in x) (Low k) (option_map Object w)
  pub fits : AllFit (low_in y)
