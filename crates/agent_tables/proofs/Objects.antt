-- What objects that can be told are like.
use Rattle.std.specs.Prelude.{◌≡◌, ℕ, Bool, true, false, cond, ◌&&◌, ◌==◌, is_some, nat_le, IsTrue}
use Rattle.std.specs.declared.option.Option.TheVariants.{Some, None}
use Rattle.std.proofs.lemmas.Option.{same_Some}
use Rattle.std.proofs.lemmas.Bool.{and_parts}
use Rattle.std.proofs.Common.{refl, sym, ◌∙◌, ap}
use Rattle.ov_types.specs.declared.objects.LowKey.{LowKey}
use Rattle.ov_types.specs.declared.objects.LowKey.TheVariants as key
use Rattle.ov_types.specs.declared.objects.LowValue.{LowValue}
use Rattle.ov_types.specs.declared.objects.LowValue.TheVariants as low
use Rattle.route_targets.specs.Numbers.{circuit_label_of}
use Rattle.item_wire.specs.Changes.{has_key, item_of_object}
use Rattle.item_wire.specs.Entries.{is_from_to}
use Rattle.item_wire.specs.Ranges.{is_in_range, is_node_address}
use Rattle.item_wire.specs.declared.item.Item.{Item}
use Rattle.item_wire.specs.declared.item.Item.TheVariants as I
use Rattle.item_wire.proofs.ChangeLemmas.{item_of_an_object}
use Rattle.node_core.specs.NodeModel.Keys.{Low}
use Rattle.node_core.specs.NodeModel.Values.{Object}
use Rattle.node_core.proofs.NodeModel.Members.{none_some}
use Rattle.node_core.specs.Told.{Fits}
use Rattle.agent_tables.specs.Objects.{is_of_a_use}

-- an object that can be told stands under its key
pub keyed : (k : LowKey) (v : LowValue) → Fits (Low k) (Object v) → IsTrue (has_key k v)
keyed k v f = sym (item_of_an_object k v) ∙ ap is_some f.1.is

circuit_item : (label circuit : ℕ) (service node i : _) → (if_so : Bool) → cond if_so (Some (I.Circuit circuit node service)) None ≡ Some i → I.Circuit circuit node service ≡ i
circuit_item label circuit service node i true e = same_Some (I.Circuit circuit node service) i e
circuit_item label circuit service node i false e = absurd (none_some i e)

of_a_use : (k : LowKey) (v : LowValue) (i : Item) → item_of_object k v ≡ Some i → IsTrue (is_in_range i) → IsTrue (is_of_a_use v)
of_a_use (key.Attach label) (low.AttachCircuit circuit service node) i e range =
    let is = circuit_item label circuit service node i (label == (circuit_label_of circuit).0) e in
    (and_parts (is_from_to 32769 131070 circuit) (is_node_address node) (and_parts (is_from_to 32769 131070 circuit && is_node_address node) (nat_le service.0 65535) (ap is_in_range is ∙ range)).0).0
of_a_use (key.Instance n) (low.AttachCircuit circuit service node) i e range = absurd (none_some i e)
of_a_use (key.Acl from to) (low.AttachCircuit circuit service node) i e range = absurd (none_some i e)
of_a_use (key.ChainUse n) (low.AttachCircuit circuit service node) i e range = absurd (none_some i e)
of_a_use k (low.AttachPort port instance address node) i e range = refl
of_a_use k (low.Instance imports) i e range = refl
of_a_use k (low.Acl subnets rules) i e range = refl
of_a_use k (low.ChainUse left right ls rs hops) i e range = refl

-- and is, if it is a circuit, one of a chain's use
pub circuit : (k : LowKey) (v : LowValue) → Fits (Low k) (Object v) → IsTrue (is_of_a_use v)
circuit k v f = of_a_use k v f.1.item f.1.is f.1.writable.in_range
