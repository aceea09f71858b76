-- What the control nodes are to be told: the low-level objects of what is valid.
use Rattle.std.specs.Prelude.{◌≡◌, ◌≤◌, ◌&&◌, map, nat_le, length, IsTrue, None}
use Rattle.std.specs.List.{list_all}
use Rattle.std.specs.FinMap.{from_entries}
use Rattle.std.proofs.Common.{◌∙◌, ap}
use Rattle.std.proofs.lemmas.Bool.{and_parts, leb-true}
use Rattle.ov_sync.specs.Embed.{embedded}
use Rattle.ov_sync.specs.Keyed.{map_of}
use Rattle.config_types.specs.Form.{has_controller_form, has_node_form, has_topology_form, is_as_number}
use Rattle.config_types.specs.declared.topology.Topology.{Topology}
use Rattle.config_types.specs.declared.config.Config.{Config}
use Rattle.config_check.specs.Checked.{Checked}
use Rattle.config_check.specs.Rules.{first_broken}
use Rattle.config_check.proofs.Few.{all_kept, counts_kept, first_none}
use Rattle.schema_transform.specs.TransformModel.Objects.{low_objects}
use Rattle.node_core.specs.NodeModel.Keys.{Low, key_cmp}
use Rattle.node_core.specs.NodeModel.Values.{Object}
use Rattle.node_core.specs.NodeModel.Wants.{slice_entry}
use Rattle.config_node.specs.MachineModel.Setup.{low_in}
use Rattle.config_node.specs.Ends.{Objects, low_of, low_order}
use Rattle.config_node.proofs.Images.{low-entries}

-- ---- they are those of the model
pub as_wanted : (x : Checked) (objects held : Objects) → objects ≡ low_objects x.topology x.config
    → map_of low_order held ≡ from_entries objects → low_of held ≡ low_in x
unfolding low_in
as_wanted x objects held is h =
    ap (embedded {S = key_cmp} Low Object) h ∙ low-entries objects
    ∙ ap (λ (es : Objects). from_entries (map slice_entry es)) is

-- ---- how many control nodes there are
pub some : (t : Topology) → IsTrue (has_topology_form t) → 1 ≤ length t.controllers
unfolding has_topology_form
some t form =
    let asn = is_as_number t.asn in
    let controllers = list_all has_controller_form t.controllers in
    let nodes = list_all has_node_form t.nodes in
    let one = nat_le 1 (length t.controllers) in
    let first = and_parts (asn && controllers && one && nodes) (nat_le 1 (length t.nodes)) form in
    let second = and_parts (asn && controllers && one) nodes first.0 in
    leb-true 1 (length t.controllers) (and_parts (asn && controllers) one second.0).1

pub few : (t : Topology) (c : Config) → first_broken t c ≡ None → length t.controllers ≤ 8
unfolding first_broken
few t c h =
    let kept = all_kept _ _ _ _ _ _ _ (counts_kept t c (first_none _ _ h)) in
    leb-true (length t.controllers) 8 kept.controllers_kept
