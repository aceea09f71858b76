-- What an agent wants its control nodes to have been told is fit where what it holds is.
use Rattle.std.specs.List.{AllByRecursion, flat_map}
use Rattle.std.specs.Prelude.{Bool, IsTrue, cond, false, map, nat_le, nat_lt, true, ℕ, ◌%◌, ◌&&◌, ◌++◌, ◌<◌, ◌==◌, ◌^◌, ◌≡◌, ◌≤◌}
use Rattle.std.specs.declared.option.Option.TheVariants.{None, Some}
use Rattle.std.proofs.Common.{ap, arith, inl, inr, refl, subst, ◌∙◌}
use Rattle.std.proofs.lemmas.Bool.{and_from, and_parts, eq-eqb, leb-true, lt-ltb}
use Rattle.std.proofs.lemmas.Option.{same_Some}
use Rattle.ov_sync.specs.Keyed.{Values}
use Rattle.ov_sync.specs.declared.Delta.TheVariants.{Put}
use Rattle.ov_types.specs.Prefix.{host_prefix}
use Rattle.ov_types.specs.declared.numbers.InstanceId.{InstanceId}
use Rattle.ov_types.specs.declared.numbers.PortNo.{PortNo}
use Rattle.ov_types.specs.declared.objects.LowKey.TheVariants as key
use Rattle.ov_types.specs.declared.objects.LowKey.{LowKey}
use Rattle.ov_types.specs.declared.objects.LowValue.TheVariants as low
use Rattle.ov_types.specs.declared.objects.LowValue.{LowValue}
use Rattle.ov_types.specs.declared.prefix.Addr.{Addr}
use Rattle.route_targets.specs.Numbers.{circuit_address_of, port_label_of}
use Rattle.item_wire.specs.Entries.{is_from_to}
use Rattle.item_wire.specs.Ranges.{is_address, is_block, is_in_range, is_network, is_node_address}
use Rattle.item_wire.specs.declared.event.ItemFrom.TheVariants as From
use Rattle.item_wire.specs.declared.item.Item.TheVariants as I
use Rattle.item_wire.specs.declared.item.Item.{Item}
use Rattle.node_core.specs.Told.{AllFit, Fits, IsTyped}
use Rattle.node_model.specs.Agent.{Heard, Holdings, needed_by, publication, slice_in_use, wanted}
use Rattle.node_model.specs.Keys.{Key, Low, key_cmp}
use Rattle.node_model.specs.Members.{Member}
use Rattle.node_model.specs.Values.{Object, Value}
use Rattle.node_model.proofs.Members.{from_entry, from_flat_map, from_map, in_either, none_some}
use Rattle.node_model.proofs.Orders.{key_exact, key_total}
use Rattle.running_nodes.proofs.AgentTables.Objects.{circuit}
use Rattle.running_nodes.proofs.AgentTables.Telling.{can_be_told, subscription, slice_fits}
use Rattle.running_laws.proofs.Fitness.{FitsItem, MayTell}

-- the prefix of one address is a block
host_block : (a : ℕ) → a < 2 ^ 32 → IsTrue (is_block (host_prefix a))
host_block a h = and_from _ _ (and_from (nat_lt 32 33) (a % 1 == 0) refl (eq-eqb (a % 1) 0 (omega arith))) (lt-ltb a (2 ^ 32) h)

-- ---- the addresses of attachments
of_port_item : (k : ℕ) (port : PortNo) (instance : InstanceId) (address node : Addr) (if_so : Bool) (item : Item) → cond if_so (Some (I.Port address instance node port)) None ≡ Some item → IsTrue (is_in_range item) → address.0 < 2 ^ 32
of_port_item k port instance address node false item e range = absurd (none_some item e)
of_port_item k port instance address node true item e range =
    let all = and_parts (is_address address && is_network instance.0 && is_node_address node) (nat_le port.0 524271) (ap is_in_range (same_Some (I.Port address instance node port) item e) ∙ range) in
    let three = and_parts (is_address address && is_network instance.0) (is_node_address node) all.0 in
    let small : address.0 ≤ 0xffff_ffff = leb-true address.0 0xffff_ffff (and_parts (is_address address) (is_network instance.0) three.0).0 in
    omega (arith, small)

circuit_small : (n : ℕ) → is_from_to 32769 131070 n ≡ true → (circuit_address_of n).0 < 2 ^ 32
circuit_small n e = let small : n ≤ 131070 = leb-true n 131070 (and_parts (nat_le 32769 n) (nat_le n 131070) e).1 in omega (arith, small)

abbrev IsTellable : Key × Value → Type 0
IsTellable e = IsTyped (Put e.0 e.1) × MayTell From.Agent e.0

published : (k : LowKey) (v : LowValue) (e : Key × Value) → Fits (Low k) (Object v) → Member e (publication k v) → IsTellable e
published (key.Attach label) (low.AttachPort port instance address node) e f (inl is) =
    subst IsTellable is (host_block address.0 (of_port_item label port instance address node (label == (port_label_of port).0) f.1.item f.1.is f.1.writable.in_range), tt)
published (key.Attach label) (low.AttachCircuit n service node) e f (inl is) =
    subst IsTellable is (host_block (circuit_address_of n).0 (circuit_small n (circuit (key.Attach label) (low.AttachCircuit n service node) f)), tt)
published (key.Attach label) (low.AttachPort port instance address node) e f (inr m) = absurd m
published (key.Attach label) (low.AttachCircuit n service node) e f (inr m) = absurd m
published (key.Attach label) (low.Instance imports) e f m = absurd m
published (key.Attach label) (low.Acl subnets rules) e f m = absurd m
published (key.Attach label) (low.ChainUse left right ls rs hops) e f m = absurd m
published (key.Instance n) v e f m = absurd m
published (key.Acl from to) v e f m = absurd m
published (key.ChainUse n) v e f m = absurd m

-- ---- of all that is held
pub agent_tells : (h : Holdings) → AllByRecursion (λ (s : Heard). AllFit s.map) h → Values {R = key_cmp} (FitsItem From.Agent) (wanted h)
agent_tells h fit k v e =
    let slice = slice_in_use h in
    let publications = flat_map (λ (e : LowKey × LowValue). publication e.0 e.1) slice in
    let subscriptions = map subscription (needed_by slice) in
    let tellable : IsTellable (k, v) =
    elim (in_either (k, v) publications subscriptions (from_entry key_total key_exact k v (publications ++ subscriptions) e)) as (λ _. IsTellable (k, v)) [
      | inl m ↦
          let q = from_flat_map (λ (e : LowKey × LowValue). publication e.0 e.1) (k, v) slice m in
          published q.0.0 q.0.1 (k, v) (slice_fits h fit q.0 q.1) q.2
      | inr m ↦
          let q = from_map subscription (k, v) (needed_by slice) m in
          subst IsTellable q.2 (tt, tt)
    ] in
    record { fits = can_be_told h fit k v e; typed = tellable.0; may = tellable.1 }
