-- No record has a float.
use Rattle.std.proofs.Common.{◌≡◌, false, List, [], ◌∷◌, map, refl, ap, ◌∙◌, Some, None, Ok, Err, IfOk, String, string_bytes}
use Rattle.std.specs.declared.alloc.Global.{Global}
use Rattle.serde_json.specs.Data.{Data}
use Rattle.serde_json.specs.View.{items_of}
use Rattle.serde_json.specs.Written.{has_float, items_have_float, compact_text}
use Rattle.ov_types.specs.declared.objects.AclAction.{AclAction}
use Rattle.ov_types.specs.declared.objects.AclAction.TheVariants.{Pass, Deny, Enter}
use Rattle.ov_types.specs.declared.objects.AclRule.{AclRule}
use Rattle.item_wire.specs.declared.item.Item.{Item}
use Rattle.item_wire.specs.declared.item.Item.TheVariants as I
use Rattle.item_wire.specs.Records.{import_record, prefix_record, hop_record, protocol_record, action_record, rule_record, record_of, json_text}
use Rattle.std.specs.Prelude.{Option, Result, ℕ}

lists : {A : Type 0} (record_of : A → Data) → ((x : A) → has_float (record_of x) ≡ false) → (xs : List A) → items_have_float (items_of (map record_of xs)) ≡ false
lists record_of each [] = refl
lists record_of each (x ∷ xs) = rw (each x, lists record_of each xs) refl

protocols : (p : Option ℕ) → has_float (protocol_record p) ≡ false
protocols None = refl
protocols (Some n) = refl

actions : (a : AclAction) → has_float (action_record a) ≡ false
actions Pass = refl
actions Deny = refl
actions (Enter i) = refl

rules_whole : (r : AclRule) → has_float (rule_record r) ≡ false
rules_whole r = rw (protocols r.protocol, actions r.action) refl

pub no_float : (i : Item) → has_float (record_of i) ≡ false
no_float (I.Hello name) = refl
no_float (I.Instance imports instance) = rw (lists import_record (λ x. refl) imports) refl
no_float (I.Port address instance node port) = refl
no_float (I.Circuit circuit node service) = refl
no_float (I.Acl from rules subnets to) = rw (lists rule_record rules_whole rules, lists prefix_record (λ x. refl) subnets) refl
no_float (I.Use hops left left_prefixes right right_prefixes use_no) =
    rw (lists hop_record (λ x. refl) hops, lists prefix_record (λ x. refl) left_prefixes, lists prefix_record (λ x. refl) right_prefixes) refl
no_float (I.NoInstance instance) = refl
no_float (I.NoAttach label) = refl
no_float (I.NoAcl from to) = refl
no_float (I.NoUse use_no) = refl
no_float (I.Publish instance label prefix) = refl
no_float (I.Unpublish instance prefix) = refl
no_float (I.Subscribe instance) = refl
no_float (I.Unsubscribe instance) = refl
no_float (I.Route instance label next_hop prefix) = refl
no_float (I.Unroute instance prefix) = refl

-- the text of a value that is an item's record
pub spelled : {E : Type 0} (r : Result (String Global) E) (i : Item) (d : Data) → d ≡ record_of i → IfOk r (λ s. has_float d ≡ false → string_bytes s ≡ compact_text d)
    → IfOk r (λ s. string_bytes s ≡ json_text i)
spelled (Ok s) i d e h = h (ap has_float e ∙ no_float i) ∙ ap compact_text e
spelled (Err x) i d e h = tt
