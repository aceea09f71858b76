-- Each item but a hello is one change, and each change one item.
use Rattle.std.proofs.Common.{◌≡◌, ℕ, ◌==◌, ◌+◌, ◌^◌, Bool, true, false, cond, not, Option, Some, None, IsTrue, IfSome, is_some, refl, sym, ap, subst, ◌∙◌, arith, nat_le, ◌&&◌}
use Rattle.std.specs.List.{list_all}
use Rattle.std.proofs.lemmas.Bool.{eqb-true, eq-eqb, and_parts, and_from, leb-true, le-leb}
use Rattle.ov_types.specs.declared.numbers.InstanceId.{InstanceId}
use Rattle.ov_types.specs.declared.numbers.Label.{Label as LabelNo}
use Rattle.ov_types.specs.declared.objects.LowKey.{LowKey}
use Rattle.ov_types.specs.declared.objects.LowKey.TheVariants as K
use Rattle.ov_types.specs.declared.objects.LowValue.{LowValue}
use Rattle.ov_types.specs.declared.objects.LowValue.TheVariants as V
use Rattle.ov_sync.specs.declared.Delta.TheVariants.{Put, Drop}
use Rattle.route_targets.specs.Numbers.{port_label_of, circuit_label_of}
use Rattle.item_wire.specs.Changes.{item_of_object, item_of_key}
use Rattle.item_wire.specs.Entries.{is_from_to}
use Rattle.item_wire.specs.Ranges.{is_network, is_instance, is_node_address, is_address, is_attached_label, is_block, is_rule}
use Rattle.item_wire.specs.Records.{spelling}
use Rattle.item_wire.specs.declared.item.Item.{Item}
use Rattle.item_wire.specs.declared.item.Item.TheVariants as I
use Rattle.item_wire.proofs.Spelled.{one_item}
use Rattle.node_model.specs.Keys.{Low, Row, Publish, Subscribe}
use Rattle.node_model.specs.Values.{Object, Entry, Label}
use Rattle.node_model.specs.Maps.{Change}
use Rattle.item_wire.proofs.ChangeLemmas.{itself}
use Rattle.node_core.specs.Told.{is_hello, change_of, item_of, spelled, spelling_of, IsWritable, CanBeTold, KeyFits, ChangeFits, IsTyped}
use Rattle.node_core.proofs.Fitting.{without_lists}

pub changes_but_hellos : (i : Item) → is_some (change_of i) ≡ not (is_hello i)
changes_but_hellos (I.Hello name) = refl
changes_but_hellos (I.Instance imports instance) = refl
changes_but_hellos (I.Port address instance node port) = refl
changes_but_hellos (I.Circuit circuit node service) = refl
changes_but_hellos (I.Acl from rules subnets to) = refl
changes_but_hellos (I.Use hops left left_prefixes right right_prefixes use_no) = refl
changes_but_hellos (I.NoInstance instance) = refl
changes_but_hellos (I.NoAttach label) = refl
changes_but_hellos (I.NoAcl from to) = refl
changes_but_hellos (I.NoUse use_no) = refl
changes_but_hellos (I.Publish instance label prefix) = refl
changes_but_hellos (I.Unpublish instance prefix) = refl
changes_but_hellos (I.Subscribe instance) = refl
changes_but_hellos (I.Unsubscribe instance) = refl
changes_but_hellos (I.Route instance label next_hop prefix) = refl
changes_but_hellos (I.Unroute instance prefix) = refl

-- an item with a change is the item of that change
pub item_of_its_change : (i : Item) → IfSome (change_of i) (λ c. item_of c ≡ Some i)
item_of_its_change (I.Hello name) = tt
item_of_its_change (I.Instance imports instance) = refl
item_of_its_change (I.Port address instance node port) = rw (itself (port_label_of port).0) refl
item_of_its_change (I.Circuit circuit node service) = rw (itself (circuit_label_of circuit).0) refl
item_of_its_change (I.Acl from rules subnets to) = refl
item_of_its_change (I.Use hops left left_prefixes right right_prefixes use_no) = refl
item_of_its_change (I.NoInstance instance) = refl
item_of_its_change (I.NoAttach label) = refl
item_of_its_change (I.NoAcl from to) = refl
item_of_its_change (I.NoUse use_no) = refl
item_of_its_change (I.Publish instance label prefix) = refl
item_of_its_change (I.Unpublish instance prefix) = refl
item_of_its_change (I.Subscribe instance) = refl
item_of_its_change (I.Unsubscribe instance) = refl
item_of_its_change (I.Route instance label next_hop prefix) = refl
item_of_its_change (I.Unroute instance prefix) = refl

-- what is there only where a test holds
where_it_holds : {A : Type 0} (P : A → Type 0) (test : Bool) (x : A) → (test ≡ true → P x) → IfSome (cond test (Some x) None) P
where_it_holds P true x h = h refl
where_it_holds P false x h = tt

at_port : (label : ℕ) (v : LowValue) (l : LabelNo) → (label == l.0) ≡ true → Some (Put (Low (K.Attach l.0)) (Object v)) ≡ Some (Put (Low (K.Attach label)) (Object v))
at_port label v l e = ap (λ (n : ℕ). Some (Put (Low (K.Attach n)) (Object v))) (sym (eqb-true label l.0 e))

at_zero : (i : InstanceId) (l : LabelNo) → (l.0 == 0) ≡ true → Some (Put (Subscribe i) (Label (record { 0 = 0 }))) ≡ Some (Put (Subscribe i) (Label l))
at_zero i l e = ap (λ (n : ℕ). Some (Put (Subscribe i) (Label (record { 0 = n })))) (sym (eqb-true l.0 0 e))

change_of_an_object : (k : LowKey) (v : LowValue) → IfSome (item_of_object k v) (λ i. change_of i ≡ Some (Put (Low k) (Object v)))
change_of_an_object (K.Instance n) (V.Instance imports) = refl
change_of_an_object (K.Attach label) (V.AttachPort port instance address node) =
    where_it_holds (λ i. change_of i ≡ Some (Put (Low (K.Attach label)) (Object (V.AttachPort port instance address node)))) (label == (port_label_of port).0) (I.Port address instance node port)
    (at_port label (V.AttachPort port instance address node) (port_label_of port))
change_of_an_object (K.Attach label) (V.AttachCircuit circuit service node) =
    where_it_holds (λ i. change_of i ≡ Some (Put (Low (K.Attach label)) (Object (V.AttachCircuit circuit service node)))) (label == (circuit_label_of circuit).0) (I.Circuit circuit node service)
    (at_port label (V.AttachCircuit circuit service node) (circuit_label_of circuit))
change_of_an_object (K.Acl from to) (V.Acl subnets rules) = refl
change_of_an_object (K.ChainUse use_no) (V.ChainUse left right left_prefixes right_prefixes hops) = refl
change_of_an_object _ _ = tt

change_of_a_key : (k : LowKey) → change_of (item_of_key k) ≡ Some (Drop (Low k))
change_of_a_key (K.Instance n) = refl
change_of_a_key (K.Attach label) = refl
change_of_a_key (K.Acl from to) = refl
change_of_a_key (K.ChainUse use_no) = refl

-- a change with an item is the change of that item
pub change_of_its_item : (c : Change) → IfSome (item_of c) (λ i. change_of i ≡ Some c)
change_of_its_item (Put (Low k) (Object v)) = change_of_an_object k v
change_of_its_item (Put (Row i prefix) (Entry hop)) = refl
change_of_its_item (Put (Publish i prefix) (Label label)) = refl
change_of_its_item (Put (Subscribe i) (Label label)) =
    where_it_holds (λ x. change_of x ≡ Some (Put (Subscribe i) (Label label))) (label.0 == 0) (I.Subscribe i) (at_zero i label)
change_of_its_item (Drop (Low k)) = change_of_a_key k
change_of_its_item (Drop (Row i prefix)) = refl
change_of_its_item (Drop (Publish i prefix)) = refl
change_of_its_item (Drop (Subscribe i)) = refl
change_of_its_item _ = tt

-- the change of the item of a change that can be told
pub change_of_what_is_told : (c : Change) (told : CanBeTold c) → change_of told.item ≡ Some c
change_of_what_is_told c told = subst (λ (o : Option Item). IfSome o (λ i. change_of i ≡ Some c)) told.is (change_of_its_item c)

pub spelling_of_what_is_told : (c : Change) (told : CanBeTold c) → spelled c ≡ spelling told.item
spelling_of_what_is_told c told = ap spelling_of told.is

pub one_change : (a b : Change) → CanBeTold a → CanBeTold b → spelled a ≡ spelled b → a ≡ b
one_change a b told_a told_b e =
    let same : told_a.item ≡ told_b.item = one_item _ _ told_a.writable.in_range told_b.writable.in_range (sym (spelling_of_what_is_told a told_a) ∙ e ∙ spelling_of_what_is_told b told_b) in
    let both : Some a ≡ Some b = sym (change_of_what_is_told a told_a) ∙ ap change_of same ∙ change_of_what_is_told b told_b in
    cc

-- ---- what fits
-- an attachment's label is within its range, where its number is
port_in_range : (n : ℕ) → IsTrue (nat_le n 524271) → IsTrue (is_attached_label (16 + n))
port_in_range n h = let k = leb-true n 524271 h in and_from _ _ (le-leb 16 (16 + n) (omega arith)) (le-leb (16 + n) 655358 (omega arith))

circuit_in_range : (n : ℕ) → IsTrue (is_from_to 32769 131070 n) → IsTrue (is_attached_label (2 ^ 19 + n))
circuit_in_range n h = let k = leb-true n 131070 (and_parts (nat_le 32769 n) (nat_le n 131070) h).1 in and_from _ _ (le-leb 16 (2 ^ 19 + n) (omega arith)) (le-leb (2 ^ 19 + n) 655358 (omega arith))

-- what was read can be told
pub read_fits : (i : Item) → IsWritable i → IfSome (change_of i) ChangeFits
read_fits (I.Hello name) w = tt
read_fits (I.Instance imports instance) w =
    let a = and_parts (list_all _ imports && nat_le 1 _) (is_network instance.0) w.in_range in
    (a.1, record { item = I.Instance imports instance; is = refl; writable = w })
read_fits (I.Port address instance node port) w =
    let a = and_parts (is_address address && is_network instance.0 && is_node_address node) (nat_le port.0 524271) w.in_range in
    (port_in_range port.0 a.1, record { item = I.Port address instance node port; is = item_of_its_change (I.Port address instance node port); writable = w })
read_fits (I.Circuit circuit node service) w =
    let a = and_parts (is_from_to 32769 131070 circuit && is_node_address node) (nat_le service.0 65535) w.in_range in
    let b = and_parts (is_from_to 32769 131070 circuit) (is_node_address node) a.0 in
    (circuit_in_range circuit b.0, record { item = I.Circuit circuit node service; is = item_of_its_change (I.Circuit circuit node service); writable = w })
read_fits (I.Acl from rules subnets to) w =
    let a = and_parts (is_network from && list_all is_rule rules && list_all is_block subnets) (is_network to) w.in_range in
    let b = and_parts (is_network from && list_all is_rule rules) (list_all is_block subnets) a.0 in
    let c = and_parts (is_network from) (list_all is_rule rules) b.0 in
    (and_from _ _ c.0 a.1, record { item = I.Acl from rules subnets to; is = refl; writable = w })
read_fits (I.Use hops left left_prefixes right right_prefixes use_no) w =
    let a = and_parts _ (nat_le use_no 3071) w.in_range in
    (a.1, record { item = I.Use hops left left_prefixes right right_prefixes use_no; is = refl; writable = w })
read_fits (I.NoInstance instance) w = w.in_range
read_fits (I.NoAttach label) w = w.in_range
read_fits (I.NoAcl from to) w = w.in_range
read_fits (I.NoUse use_no) w = w.in_range
read_fits (I.Publish instance label prefix) w =
    let a = and_parts (is_instance instance.0 && is_attached_label label.0) (is_block prefix) w.in_range in
    and_parts (is_instance instance.0) (is_attached_label label.0) a.0
read_fits (I.Unpublish instance prefix) w = (and_parts (is_instance instance.0) (is_block prefix) w.in_range).0
read_fits (I.Subscribe instance) w = (w.in_range, refl)
read_fits (I.Unsubscribe instance) w = w.in_range
read_fits (I.Route instance label next_hop prefix) w =
    let a = and_parts (is_instance instance.0 && nat_le label.0 1048575 && is_address next_hop) (is_block prefix) w.in_range in
    let b = and_parts (is_instance instance.0 && nat_le label.0 1048575) (is_address next_hop) a.0 in
    let c = and_parts (is_instance instance.0) (nat_le label.0 1048575) b.0 in
    (c.0, leb-true label.0 1048575 c.1)
read_fits (I.Unroute instance prefix) w = (and_parts (is_instance instance.0) (is_block prefix) w.in_range).0

key_writable : (k : LowKey) → KeyFits (Low k) → IsWritable (item_of_key k)
key_writable (K.Instance n) h = without_lists _ h refl
key_writable (K.Attach label) h = without_lists _ h refl
key_writable (K.Acl from to) h = without_lists _ h refl
key_writable (K.ChainUse use_no) h = without_lists _ h refl

-- what fits can be told, with what the types settle
pub fits_told : (c : Change) → ChangeFits c → IsTyped c → CanBeTold c
fits_told (Put (Low k) v) h typed = h.1
fits_told (Put (Row i prefix) (Entry hop)) h typed = record {
  item = I.Route i hop.label hop.next_hop prefix;
  is = refl;
  writable = without_lists _ (and_from _ _ (and_from _ _ (and_from _ _ h.0 (le-leb hop.label.0 1048575 h.1)) typed.1) typed.0) refl;
}
fits_told (Put (Publish i prefix) (Label label)) h typed = record {
  item = I.Publish i label prefix;
  is = refl;
  writable = without_lists _ (and_from _ _ (and_from _ _ h.0 h.1) typed) refl;
}
fits_told (Put (Subscribe i) (Label label)) h typed = record {
  item = I.Subscribe i;
  is = rw (eq-eqb label.0 0 h.1) refl;
  writable = without_lists _ h.0 refl;
}
fits_told (Drop (Low k)) h typed = record { item = item_of_key k; is = refl; writable = key_writable k h }
fits_told (Drop (Row i prefix)) h typed = record {
  item = I.Unroute i prefix;
  is = refl;
  writable = without_lists _ (and_from _ _ h typed) refl;
}
fits_told (Drop (Publish i prefix)) h typed = record {
  item = I.Unpublish i prefix;
  is = refl;
  writable = without_lists _ (and_from _ _ h typed) refl;
}
fits_told (Drop (Subscribe i)) h typed = record { item = I.Unsubscribe i; is = refl; writable = without_lists _ h refl }
fits_told _ h typed = absurd h
