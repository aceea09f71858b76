-- Each item of a direction is one change, and each change one item.
use Rattle.std.proofs.Common.{◌≡◌, ℕ, ◌==◌, Bool, true, false, Some, None, IfSome, is_some, refl, sym, ap}
use Rattle.std.proofs.lemmas.Bool.{eqb-true, eq-eqb}
use Rattle.ov_types.specs.declared.keys.DownKey.{DownKey}
use Rattle.ov_types.specs.declared.keys.DownKey.TheVariants as Down
use Rattle.ov_types.specs.declared.keys.UpKey.{UpKey}
use Rattle.ov_types.specs.declared.keys.UpKey.TheVariants as Up
use Rattle.ov_types.specs.declared.objects.LowKey.{LowKey}
use Rattle.ov_types.specs.declared.objects.LowKey.TheVariants as Key
use Rattle.ov_types.specs.declared.objects.LowValue.{LowValue}
use Rattle.ov_types.specs.declared.objects.LowValue.TheVariants as Value
use Rattle.ov_sync.specs.declared.Delta.{Delta}
use Rattle.ov_sync.specs.declared.Delta.TheVariants.{Put, Drop}
use Rattle.route_targets.specs.Numbers.{port_label_of, circuit_label_of}
use Rattle.item_wire.specs.declared.item.Item.{Item}
use Rattle.item_wire.specs.declared.item.Item.TheVariants as I
use Rattle.item_wire.specs.Inputs.{is_of_feed, is_of_control, is_of_agent}
use Rattle.ov_types.specs.declared.keys.DownValue.{DownValue}
use Rattle.ov_types.specs.declared.keys.DownValue.TheVariants.{Object, Row}
use Rattle.item_wire.specs.Changes.{UpValue, Behind, Wanted, has_key, fed, item_fed, told, item_told, said, item_said}

pub itself : (n : ℕ) → (n == n) ≡ true
itself n = eq-eqb n n refl

-- an item with a change is the item of that change
pub item_of_what_is_fed : (i : Item) → IfSome (fed i) (λ d. item_fed d ≡ Some i)
item_of_what_is_fed (I.Instance imports instance) = refl
item_of_what_is_fed (I.Port address instance node port) = rw (itself (port_label_of port).0) refl
item_of_what_is_fed (I.Circuit circuit node service) = rw (itself (circuit_label_of circuit).0) refl
item_of_what_is_fed (I.Acl from rules subnets to) = refl
item_of_what_is_fed (I.Use hops left left_prefixes right right_prefixes use_no) = refl
item_of_what_is_fed (I.NoInstance instance) = refl
item_of_what_is_fed (I.NoAttach label) = refl
item_of_what_is_fed (I.NoAcl from to) = refl
item_of_what_is_fed (I.NoUse use_no) = refl
item_of_what_is_fed _ = tt

pub item_of_what_is_told : (i : Item) → IfSome (told i) (λ d. item_told d ≡ Some i)
item_of_what_is_told (I.Port address instance node port) = rw (itself (port_label_of port).0) refl
item_of_what_is_told (I.Circuit circuit node service) = rw (itself (circuit_label_of circuit).0) refl
item_of_what_is_told (I.Acl from rules subnets to) = refl
item_of_what_is_told (I.NoAttach label) = refl
item_of_what_is_told (I.NoAcl from to) = refl
item_of_what_is_told (I.Route instance label next_hop prefix) = refl
item_of_what_is_told (I.Unroute instance prefix) = refl
item_of_what_is_told _ = tt

pub item_of_what_is_said : (i : Item) → IfSome (said i) (λ d. item_said d ≡ Some i)
item_of_what_is_said (I.Publish instance label prefix) = refl
item_of_what_is_said (I.Unpublish instance prefix) = refl
item_of_what_is_said (I.Subscribe instance) = refl
item_of_what_is_said (I.Unsubscribe instance) = refl
item_of_what_is_said _ = tt

-- a value, where a test holds
chosen : {A : Type 0} (P : A → Type 0) (test : Bool) (x : A) → (test ≡ true → P x) → IfSome (Rattle.std.proofs.Common.cond test (Some x) None) P
chosen P true x h = h refl
chosen P false x h = tt

-- a change with an item is the change of that item
pub change_of_a_fed_item : (d : Delta LowKey LowValue) → IfSome (item_fed d) (λ i. fed i ≡ Some d)
change_of_a_fed_item (Put (Key.Instance n) (Value.Instance imports)) = refl
change_of_a_fed_item (Put (Key.Attach label) (Value.AttachPort port instance address node)) =
    chosen (λ i. fed i ≡ Some (Put (Key.Attach label) (Value.AttachPort port instance address node))) (label == (port_label_of port).0) (I.Port address instance node port)
    (λ e. ap (λ (n : ℕ). Some (Put (Key.Attach n) (Value.AttachPort port instance address node))) (sym (eqb-true label (port_label_of port).0 e)))
change_of_a_fed_item (Put (Key.Attach label) (Value.AttachCircuit circuit service node)) =
    chosen (λ i. fed i ≡ Some (Put (Key.Attach label) (Value.AttachCircuit circuit service node))) (label == (circuit_label_of circuit).0) (I.Circuit circuit node service)
    (λ e. ap (λ (n : ℕ). Some (Put (Key.Attach n) (Value.AttachCircuit circuit service node))) (sym (eqb-true label (circuit_label_of circuit).0 e)))
change_of_a_fed_item (Put (Key.Acl from to) (Value.Acl subnets rules)) = refl
change_of_a_fed_item (Put (Key.ChainUse use_no) (Value.ChainUse left right left_prefixes right_prefixes hops)) = refl
change_of_a_fed_item (Drop (Key.Instance n)) = refl
change_of_a_fed_item (Drop (Key.Attach label)) = refl
change_of_a_fed_item (Drop (Key.Acl from to)) = refl
change_of_a_fed_item (Drop (Key.ChainUse use_no)) = refl
change_of_a_fed_item _ = tt

pub change_of_a_told_item : (d : Delta DownKey DownValue) → IfSome (item_told d) (λ i. told i ≡ Some d)
change_of_a_told_item (Put (Down.Slice (Key.Attach label)) (Object (Value.AttachPort port instance address node))) =
    chosen (λ i. told i ≡ Some (Put (Down.Slice (Key.Attach label)) (Object (Value.AttachPort port instance address node)))) (label == (port_label_of port).0) (I.Port address instance node port)
    (λ e. ap (λ (n : ℕ). Some (Put (Down.Slice (Key.Attach n)) (Object (Value.AttachPort port instance address node)))) (sym (eqb-true label (port_label_of port).0 e)))
change_of_a_told_item (Put (Down.Slice (Key.Attach label)) (Object (Value.AttachCircuit circuit service node))) =
    chosen (λ i. told i ≡ Some (Put (Down.Slice (Key.Attach label)) (Object (Value.AttachCircuit circuit service node)))) (label == (circuit_label_of circuit).0) (I.Circuit circuit node service)
    (λ e. ap (λ (n : ℕ). Some (Put (Down.Slice (Key.Attach n)) (Object (Value.AttachCircuit circuit service node)))) (sym (eqb-true label (circuit_label_of circuit).0 e)))
change_of_a_told_item (Put (Down.Slice (Key.Acl from to)) (Object (Value.Acl subnets rules))) = refl
change_of_a_told_item (Put (Down.Route instance prefix) (Row row)) = refl
change_of_a_told_item (Drop (Down.Slice (Key.Attach label))) = refl
change_of_a_told_item (Drop (Down.Slice (Key.Acl from to))) = refl
change_of_a_told_item (Drop (Down.Route instance prefix)) = refl
change_of_a_told_item _ = tt

pub change_of_a_said_item : (d : Delta UpKey UpValue) → IfSome (item_said d) (λ i. said i ≡ Some d)
change_of_a_said_item (Put (Up.Publish instance prefix) (Behind label)) = refl
change_of_a_said_item (Put (Up.Subscribe instance) Wanted) = refl
change_of_a_said_item (Drop (Up.Publish instance prefix)) = refl
change_of_a_said_item (Drop (Up.Subscribe instance)) = refl
change_of_a_said_item _ = tt

-- the items that are changes of a direction are those that may come there
pub fed_where_it_may : (i : Item) → is_some (fed i) ≡ is_of_feed i
fed_where_it_may (I.Instance imports instance) = refl
fed_where_it_may (I.Port address instance node port) = refl
fed_where_it_may (I.Circuit circuit node service) = refl
fed_where_it_may (I.Acl from rules subnets to) = refl
fed_where_it_may (I.Use hops left left_prefixes right right_prefixes use_no) = refl
fed_where_it_may (I.NoInstance instance) = refl
fed_where_it_may (I.NoAttach label) = refl
fed_where_it_may (I.NoAcl from to) = refl
fed_where_it_may (I.NoUse use_no) = refl
fed_where_it_may _ = refl

pub told_where_it_may : (i : Item) → is_some (told i) ≡ is_of_control i
told_where_it_may (I.Port address instance node port) = refl
told_where_it_may (I.Circuit circuit node service) = refl
told_where_it_may (I.Acl from rules subnets to) = refl
told_where_it_may (I.NoAttach label) = refl
told_where_it_may (I.NoAcl from to) = refl
told_where_it_may (I.Route instance label next_hop prefix) = refl
told_where_it_may (I.Unroute instance prefix) = refl
told_where_it_may _ = refl

pub said_where_it_may : (i : Item) → is_some (said i) ≡ is_of_agent i
said_where_it_may (I.Publish instance label prefix) = refl
said_where_it_may (I.Unpublish instance prefix) = refl
said_where_it_may (I.Subscribe instance) = refl
said_where_it_may (I.Unsubscribe instance) = refl
said_where_it_may _ = refl

some_if : {A : Type 0} (b : Bool) (x : A) → is_some (Rattle.std.proofs.Common.cond b (Some x) None) ≡ b
some_if true x = refl
some_if false x = refl

-- the put of an object has an item exactly where the object stands under its key
pub item_of_an_object : (key : LowKey) (value : LowValue) → is_some (item_fed (Put key value)) ≡ has_key key value
item_of_an_object (Key.Instance n) (Value.Instance imports) = refl
item_of_an_object (Key.Attach label) (Value.AttachPort port instance address node) = some_if (label == (port_label_of port).0) (I.Port address instance node port)
item_of_an_object (Key.Attach label) (Value.AttachCircuit circuit service node) = some_if (label == (circuit_label_of circuit).0) (I.Circuit circuit node service)
item_of_an_object (Key.Acl from to) (Value.Acl subnets rules) = refl
item_of_an_object (Key.ChainUse use_no) (Value.ChainUse left right left_prefixes right_prefixes hops) = refl
item_of_an_object _ _ = refl
