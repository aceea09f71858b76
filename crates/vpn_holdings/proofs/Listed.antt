-- The objects, the subscriptions and the places that are held, from the typed entries.
use Rattle.std.specs.Prelude.{◌≡◌, List, [], ◌∷◌, ◌++◌, map}
use Rattle.std.specs.declared.option.Option.{Option}
use Rattle.std.specs.declared.option.Option.TheVariants.{Some, None}
use Rattle.std.specs.List.{cons_option, filter_map, flat_map}
use Rattle.std.specs.List.Sorted.{IsStrictlySortedBy}
use Rattle.std.specs.FinMap.{empty}
use Rattle.std.proofs.Common.{refl, sym, ◌∙◌, ap}
use Rattle.ov_sync.specs.Embed.{moved_entry}
use Rattle.ov_sync.proofs.Ascending.{entries-empty}
use Rattle.ov_types.specs.declared.keys.UpKey.{UpKey}
use Rattle.ov_types.specs.declared.numbers.InstanceId.{InstanceId}
use Rattle.ov_types.specs.declared.numbers.Label.{Label as LabelNo}
use Rattle.ov_types.specs.declared.objects.LowKey.{LowKey}
use Rattle.ov_types.specs.declared.objects.LowValue.{LowValue}
use Rattle.path_select.specs.NodeModel.Keys.{Key, key_cmp, of_up}
use Rattle.path_select.specs.NodeModel.Values.{Value, Label}
use Rattle.path_select.specs.NodeModel.Maps.{Map, object, objects, low_entry}
use Rattle.path_select.specs.NodeModel.Uses.{Use, as_use}
use Rattle.path_select.specs.NodeModel.Wants.{subscribed, subscriptions}
use Rattle.vpn_holdings.specs.Leading.{use_at}
use Rattle.vpn_holdings.specs.Listing.{hops, hops_of_held}
use Rattle.vpn_holdings.specs.Views.{feed_of, low_order, told_of, up_order}
use Rattle.vpn_holdings.proofs.Images.{feed-entries, told-entries}
use Rattle.vpn_holdings.proofs.Uses.{objects_typed, use_is}

abbrev Entry : Type 0
Entry = LowKey × LowValue

-- ---- the objects of the feed are its typed entries
pub objects_are : (feed : Map) (es : List Entry) → IsStrictlySortedBy low_order (map (λ e. e.0) es) → feed_of es ≡ feed → es ≡ objects feed
objects_are feed es sorted is =
    sym (ap (filter_map (λ (x : Key × Value). low_entry x.0 x.1)) (feed-entries es sorted) ∙ objects_typed es) ∙ ap objects is

-- ---- subscriptions
subscriptions_typed : (es : List (UpKey × LabelNo)) → filter_map (λ e. subscribed e.0) (map (moved_entry of_up Label) es) ≡ filter_map (λ e. subscribed (of_up e.0)) es
subscriptions_typed [] = refl
subscriptions_typed (e ∷ es) = ap (λ (l : List InstanceId). cons_option (subscribed (of_up e.0)) l) (subscriptions_typed es)

pub subscriptions_are : (es : List (UpKey × LabelNo)) → IsStrictlySortedBy up_order (map (λ e. e.0) es) → filter_map (λ e. subscribed (of_up e.0)) es ≡ subscriptions (told_of es)
subscriptions_are es sorted = sym (ap (filter_map (λ (x : Key × Value). subscribed x.0)) (told-entries es sorted) ∙ subscriptions_typed es)

pub none_subscribed : subscriptions empty ≡ []
none_subscribed = ap (filter_map (λ (x : Key × Value). subscribed x.0)) (entries-empty {V = Value} key_cmp)

-- ---- a slice, object by object

-- ---- the places of held uses
abbrev pub places : List Entry → List InstanceId
places es = flat_map hops (filter_map (λ e. as_use e.0 e.1) es)

assoc : (xs ys zs : List InstanceId) → (xs ++ ys) ++ zs ≡ xs ++ (ys ++ zs)
assoc [] ys zs = refl
assoc (x ∷ xs) ys zs = ap (λ (l : List InstanceId). x ∷ l) (assoc xs ys zs)

hops_first : (o : Option Use) (us : List Use) → flat_map hops (cons_option o us) ≡ hops_of_held o ++ flat_map hops us
hops_first None us = refl
hops_first (Some u) us = refl

pub places_turn : (feed : Map) (k : LowKey) (v : LowValue) (rest : List Entry) (instances new : List InstanceId) → object feed k ≡ Some v
    → new ≡ instances ++ hops_of_held (use_at feed k) → new ++ places rest ≡ instances ++ places ((k, v) ∷ rest)
places_turn feed k v rest instances new held is =
    ap (λ (l : List InstanceId). l ++ places rest) (is ∙ ap (λ (o : Option Use). instances ++ hops_of_held o) (use_is feed k v held))
    ∙ assoc instances (hops_of_held (as_use k v)) (places rest)
    ∙ ap (λ (l : List InstanceId). instances ++ l) (sym (hops_first (as_use k v) (filter_map (λ e. as_use e.0 e.1) rest)))
