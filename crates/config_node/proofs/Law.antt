-- Each low-level object of a valid configuration of the written form can be told.
use Rattle.std.specs.Prelude.{◌≡◌, IsTrue, map}
use Rattle.std.specs.declared.option.Option.TheVariants.{None}
use Rattle.std.proofs.Common.{subst}
use Rattle.config_types.specs.Form.{has_config_form, has_topology_form}
use Rattle.machine_model.specs.ConfigCheck.Checked.{Checked}
use Rattle.machine_model.specs.ConfigCheck.Rules.{first_broken}
use Rattle.machine_model.proofs.ConfigCheck.Validity.{valid_iff}
use Rattle.machine_model.specs.TransformModel.Objects.{low_objects}
use Rattle.machine_model.proofs.TransformModel.LowKeys.{low_is}
use Rattle.node_core.specs.NodeModel.Keys.{Key}
use Rattle.node_core.specs.NodeModel.Values.{Value}
use Rattle.node_core.specs.NodeModel.Wants.{slice_entry}
use Rattle.node_core.proofs.NodeModel.Members.{from_entry, from_map, contains_of}
use Rattle.node_core.proofs.NodeModel.Orders.{key_exact, key_total}
use Rattle.node_core.specs.Told.{AllFit, Fits}
use Rattle.machine_model.specs.Setup.{low_in}
use Rattle.config_node.proofs.Each.{object_told}

pub low_fits : (x : Checked) → IsTrue (has_topology_form x.topology) → IsTrue (has_config_form x.config)
    → first_broken x.topology x.config ≡ None → AllFit (low_in x)
unfolding low_in
low_fits x nodes form valid k w e =
    let v = (valid_iff x.topology x.config).0 valid in
    let os = low_objects x.topology x.config in
    let m = from_map slice_entry (k, w) os (from_entry key_total key_exact k w (map slice_entry os) e) in
    let is = low_is x.topology x.config m.0 v form (contains_of os m.0 m.1) in
    subst (λ (y : Key × Value). Fits y.0 y.1) m.2 (object_told x.topology x.config nodes form v m.0 is)
