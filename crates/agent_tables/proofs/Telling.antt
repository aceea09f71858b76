-- What an agent wants can be told, where what it holds can.
use Rattle.std.specs.Prelude.{◌≡◌, ℕ, ◌/◌, ◌≤◌, List, [], ◌∷◌, ◌++◌, map, Bool, true, false, cond, ◌&&◌, ◌==◌, nat_le}
use Rattle.std.specs.declared.option.Option.TheVariants.{Some, None}
use Rattle.std.specs.List.{AllByRecursion, flat_map, list_all}
use Rattle.std.proofs.lemmas.Bool.{and_parts, and_from, leb-true, le-leb}
use Rattle.std.proofs.lemmas.Option.{same_Some}
use Rattle.std.proofs.Common.{refl, sym, ◌∙◌, ap, subst, inl, inr, arith}
use Rattle.ov_types.specs.Prefix.{Block}
use Rattle.ov_types.specs.declared.numbers.InstanceId.{InstanceId}
use Rattle.ov_types.specs.declared.numbers.PortNo.{PortNo}
use Rattle.ov_types.specs.declared.prefix.Addr.{Addr}
use Rattle.ov_types.specs.declared.objects.AclAction.{AclAction}
use Rattle.ov_types.specs.declared.objects.AclAction.TheVariants.{Pass, Deny, Enter}
use Rattle.ov_types.specs.declared.objects.AclRule.{AclRule}
use Rattle.ov_types.specs.declared.objects.LowKey.{LowKey}
use Rattle.ov_types.specs.declared.objects.LowKey.TheVariants as key
use Rattle.ov_types.specs.declared.objects.LowValue.{LowValue}
use Rattle.ov_types.specs.declared.objects.LowValue.TheVariants as low
use Rattle.route_targets.specs.Numbers.{circuit_instance_of, port_label_of}
use Rattle.item_wire.specs.Changes.{item_of_object}
use Rattle.item_wire.specs.Entries.{is_from_to}
use Rattle.item_wire.specs.Ranges.{is_in_range, is_network, is_instance, is_rule, is_action, is_block, is_protocol, are_ports, is_rule_number, is_address, is_node_address}
use Rattle.item_wire.specs.declared.item.Item.{Item}
use Rattle.item_wire.specs.declared.item.Item.TheVariants as I
use Rattle.node_core.specs.NodeModel.Agent.{Heard, Holdings, entered_by, needed_by, needed_for, publication, slice_in_use, wanted}
use Rattle.node_core.specs.NodeModel.Keys.{Key, Low, Subscribe}
use Rattle.node_core.specs.NodeModel.Maps.{objects}
use Rattle.node_core.specs.NodeModel.Members.{Member}
use Rattle.node_core.specs.NodeModel.Values.{Value, Object, Label}
use Rattle.node_core.proofs.NodeModel.Members.{none_some, from_flat_map, from_filter_map, from_map, in_either, from_entry}
use Rattle.node_core.proofs.NodeModel.Objects.{object_of}
use Rattle.node_core.proofs.NodeModel.Orders.{key_total, key_exact}
use Rattle.node_core.specs.Told.{AllFit, Fits}
use Rattle.agent_tables.proofs.Objects.{circuit}

-- ---- numbers of instances
from_to : (low high n : ℕ) → is_from_to low high n ≡ true → (low ≤ n) × (n ≤ high)
from_to low high n e = let q = and_parts (nat_le low n) (nat_le n high) e in (leb-true low n q.0, leb-true n high q.1)

to_from : (low high n : ℕ) → low ≤ n → n ≤ high → is_from_to low high n ≡ true
to_from low high n a b = and_from (nat_le low n) (nat_le n high) (le-leb low n a) (le-leb n high b)

wider : (low high n : ℕ) → 1 ≤ low → high ≤ 65535 → is_from_to low high n ≡ true → is_instance n ≡ true
wider low high n a b e = let q = from_to low high n e in to_from 1 65535 n (omega (arith, q.0)) (omega (arith, q.1))

of_circuit : (n : ℕ) → is_from_to 32769 131070 n ≡ true → is_instance (n / 2) ≡ true
of_circuit n e = let q = from_to 32769 131070 n e in to_from 1 65535 (n / 2) (omega (arith, q.0)) (omega (arith, q.1))

-- ---- what an object that can be told makes the agent need
some_item : (if_so : Bool) (item other : Item) → cond if_so (Some item) None ≡ Some other → item ≡ other
some_item true item other e = same_Some item other e
some_item false item other e = absurd (none_some other e)

of_port : (k : LowKey) (port : PortNo) (instance : InstanceId) (address node : Addr) (i : Item) → item_of_object k (low.AttachPort port instance address node) ≡ Some i → is_in_range i ≡ true → is_instance instance.0 ≡ true
of_port (key.Attach label) port instance address node i e range =
    let item = some_item (label == (port_label_of port).0) (I.Port address instance node port) i e in
    let all = and_parts (is_address address && is_network instance.0 && is_node_address node) (nat_le port.0 524271) (ap is_in_range item ∙ range) in
    let three = and_parts (is_address address && is_network instance.0) (is_node_address node) all.0 in
    wider 1 16383 instance.0 (omega arith) (omega arith) (and_parts (is_address address) (is_network instance.0) three.0).1
of_port (key.Instance n) port instance address node i e range = absurd (none_some i e)
of_port (key.Acl from to) port instance address node i e range = absurd (none_some i e)
of_port (key.ChainUse n) port instance address node i e range = absurd (none_some i e)

all_member : {A : Type 0} (p : A → Bool) (x : A) (xs : List A) → list_all p xs ≡ true → Member x xs → p x ≡ true
all_member p x [] e m = absurd m
all_member p x (y ∷ xs) e (inl is) = ap p (sym is) ∙ (and_parts (p y) (list_all p xs) e).0
all_member p x (y ∷ xs) e (inr m) = all_member p x xs (and_parts (p y) (list_all p xs) e).1 m

entered : (a : AclAction) (i : InstanceId) → entered_by a ≡ Some i → is_action a ≡ true → is_instance i.0 ≡ true
entered (Enter j) i e range = wider 16384 65535 i.0 (omega arith) (omega arith) (ap (λ (x : InstanceId). is_from_to 16384 65535 x.0) (sym (same_Some j i e)) ∙ range)
entered Pass i e range = absurd (none_some i e)
entered Deny i e range = absurd (none_some i e)

of_rule : (r : AclRule) → is_rule r ≡ true → is_action r.action ≡ true
of_rule r e =
    let all = and_parts (is_protocol r.protocol && are_ports r.sports && are_ports r.dports && is_action r.action) (is_rule_number r.rule) e in
    (and_parts (is_protocol r.protocol && are_ports r.sports && are_ports r.dports) (is_action r.action) all.0).1

of_list : (k : LowKey) (subnets : List Block) (rules : List AclRule) (i : Item) → item_of_object k (low.Acl subnets rules) ≡ Some i → is_in_range i ≡ true → list_all is_rule rules ≡ true
of_list (key.Acl from to) subnets rules i e range =
    let item = same_Some (I.Acl from rules subnets to) i e in
    let all = and_parts (is_network from && list_all is_rule rules && list_all is_block subnets) (is_network to) (ap is_in_range item ∙ range) in
    let three = and_parts (is_network from && list_all is_rule rules) (list_all is_block subnets) all.0 in
    (and_parts (is_network from) (list_all is_rule rules) three.0).1
of_list (key.Instance n) subnets rules i e range = absurd (none_some i e)
of_list (key.Attach label) subnets rules i e range = absurd (none_some i e)
of_list (key.ChainUse n) subnets rules i e range = absurd (none_some i e)

need_fits : (k : LowKey) (v : LowValue) (i : InstanceId) → Fits (Low k) (Object v) → Member i (needed_for v) → is_instance i.0 ≡ true
need_fits k (low.AttachPort port instance address node) i f (inl e) = ap (λ (x : InstanceId). is_instance x.0) (sym e) ∙ of_port k port instance address node f.1.item f.1.is f.1.writable.in_range
need_fits k (low.AttachPort port instance address node) i f (inr m) = absurd m
need_fits k (low.AttachCircuit n service node) i f (inl e) = ap (λ (x : InstanceId). is_instance x.0) (sym e) ∙ of_circuit n (circuit k (low.AttachCircuit n service node) f)
need_fits k (low.AttachCircuit n service node) i f (inr m) = absurd m
need_fits k (low.Acl subnets rules) i f m =
    let q = from_filter_map (λ (r : AclRule). entered_by r.action) i rules m in
    entered q.0.action i q.2 (of_rule q.0 (all_member is_rule q.0 rules (of_list k subnets rules f.1.item f.1.is f.1.writable.in_range) q.1))
need_fits k (low.Instance imports) i f m = absurd m
need_fits k (low.ChainUse left right ls rs hops) i f m = absurd m

-- ---- what it publishes
publication_fits : (k : LowKey) (v : LowValue) (e : Key × Value) → Fits (Low k) (Object v) → Member e (publication k v) → Fits e.0 e.1
publication_fits (key.Attach label) (low.AttachPort port instance address node) e f (inl is) =
    subst (λ (x : Key × Value). Fits x.0 x.1) is (need_fits (key.Attach label) (low.AttachPort port instance address node) instance f (inl refl), f.0)
publication_fits (key.Attach label) (low.AttachCircuit n service node) e f (inl is) =
    subst (λ (x : Key × Value). Fits x.0 x.1) is (need_fits (key.Attach label) (low.AttachCircuit n service node) (circuit_instance_of n) f (inl refl), f.0)
publication_fits (key.Attach label) (low.AttachPort port instance address node) e f (inr m) = absurd m
publication_fits (key.Attach label) (low.AttachCircuit n service node) e f (inr m) = absurd m
publication_fits (key.Attach label) (low.Instance imports) e f m = absurd m
publication_fits (key.Attach label) (low.Acl subnets rules) e f m = absurd m
publication_fits (key.Attach label) (low.ChainUse left right ls rs hops) e f m = absurd m
publication_fits (key.Instance n) v e f m = absurd m
publication_fits (key.Acl from to) v e f m = absurd m
publication_fits (key.ChainUse n) v e f m = absurd m

-- ---- of all that is held
pub slice_fits : (h : Holdings) → AllByRecursion (λ (s : Heard). AllFit s.map) h → (e : LowKey × LowValue) → Member e (slice_in_use h) → Fits (Low e.0) (Object e.1)
slice_fits [] fit e m = absurd m
slice_fits (s ∷ h) fit e m =
    elim s.is_up as (λ b. Member e (cond b (objects s.map) (slice_in_use h)) → Fits (Low e.0) (Object e.1)) [
      | true ↦ λ m. fit.0 (Low e.0) (Object e.1) (object_of s.map e.0 e.1 m)
      | false ↦ slice_fits h fit.1 e
    ] m

abbrev pub subscription : InstanceId → Key × Value
subscription i = (Subscribe i, Label (record { 0 = 0 }))

pub can_be_told : (h : Holdings) → AllByRecursion (λ (s : Heard). AllFit s.map) h → AllFit (wanted h)
can_be_told h fit k v e =
    let slice = slice_in_use h in
    let published = flat_map (λ (e : LowKey × LowValue). publication e.0 e.1) slice in
    let subscribed = map subscription (needed_by slice) in
    elim (in_either (k, v) published subscribed (from_entry key_total key_exact k v (published ++ subscribed) e)) as (λ _. Fits k v) [
      | inl m ↦
          let q = from_flat_map (λ (e : LowKey × LowValue). publication e.0 e.1) (k, v) slice m in
          publication_fits q.0.0 q.0.1 (k, v) (slice_fits h fit q.0 q.1) q.2
      | inr m ↦
          let q = from_map subscription (k, v) (needed_by slice) m in
          let o = from_flat_map (λ (e : LowKey × LowValue). needed_for e.1) q.0 slice q.1 in
          subst (λ (x : Key × Value). Fits x.0 x.1) q.2 (need_fits o.0.0 o.0.1 q.0 (slice_fits h fit o.0 o.1) o.2, refl)
    ]
