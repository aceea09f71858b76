-- What is held of each session, among the keys and values of all sessions.
use Rattle.std.specs.Prelude.{◌≡◌, List, [], map, Option, Some, None}
use Rattle.std.specs.Option.{option_map}
use Rattle.std.specs.List.Sorted.{IsStrictlySortedBy}
use Rattle.std.specs.FinMap.{get, entries, empty}
use Rattle.std.proofs.Common.{refl, ◌∙◌, ap}
use Rattle.ov_sync.specs.declared.Delta.{Delta}
use Rattle.ov_sync.specs.Keyed.{changed, map_of}
use Rattle.ov_sync.specs.Embed.{moved_entry, moved_delta}
use Rattle.ov_types.specs.declared.keys.UpKey.{UpKey}
use Rattle.ov_types.specs.declared.numbers.Label.{Label as LabelNo}
use Rattle.ov_types.specs.declared.objects.LowKey.{LowKey}
use Rattle.ov_types.specs.declared.objects.LowValue.{LowValue}
use Rattle.ov_types.specs.declared.vpn.VpnKey.{VpnKey}
use Rattle.ov_types.specs.declared.vpn.VpnRoute.{VpnRoute}
use Rattle.path_select.specs.NodeModel.Keys.{Low, Vpn, of_up}
use Rattle.path_select.specs.NodeModel.Values as values
use Rattle.path_select.specs.NodeModel.Values.{Route, Label}
use Rattle.path_select.specs.NodeModel.Maps.{object, as_object, as_label}
use Rattle.path_select.proofs.NodeModel.Directions.{low_keeps, low_total, low_exact, vpn_keeps, vpn_total, vpn_exact, up_keeps, up_total, up_exact}
use Rattle.path_select.proofs.NodeModel.Directions.{image-empty, image-changed, image-get, image-entries}
use Rattle.vpn_holdings.specs.Views.{low_order, vpn_order, up_order, feed_of, peer_of, told_of}

-- ---- the feed
pub feed-empty : feed_of [] ≡ empty
feed-empty = image-empty Low values.Object low_total low_exact low_keeps

pub feed-changed : (es fs : List (LowKey × LowValue)) (d : Delta LowKey LowValue) → map_of low_order fs ≡ changed (map_of low_order es) d → feed_of fs ≡ changed (feed_of es) (moved_delta Low values.Object d)
feed-changed = image-changed Low values.Object low_total low_exact low_keeps

object_back : (o : Option LowValue) → as_object (option_map values.Object o) ≡ o
object_back None = refl
object_back (Some v) = refl

pub feed-object : (es : List (LowKey × LowValue)) (k : LowKey) → object (feed_of es) k ≡ get (map_of low_order es) k
feed-object es k = ap as_object (image-get Low values.Object low_total low_exact low_keeps es k) ∙ object_back (get (map_of low_order es) k)

pub feed-entries : (es : List (LowKey × LowValue)) → IsStrictlySortedBy low_order (map (λ e. e.0) es) → entries (feed_of es) ≡ map (moved_entry Low values.Object) es
feed-entries = image-entries Low values.Object low_total low_exact low_keeps

-- ---- a peer's session
pub peer-empty : peer_of [] ≡ empty
peer-empty = image-empty Vpn Route vpn_total vpn_exact vpn_keeps

pub peer-changed : (es fs : List (VpnKey × VpnRoute)) (d : Delta VpnKey VpnRoute) → map_of vpn_order fs ≡ changed (map_of vpn_order es) d → peer_of fs ≡ changed (peer_of es) (moved_delta Vpn Route d)
peer-changed = image-changed Vpn Route vpn_total vpn_exact vpn_keeps

pub peer-entries : (es : List (VpnKey × VpnRoute)) → IsStrictlySortedBy vpn_order (map (λ e. e.0) es) → entries (peer_of es) ≡ map (moved_entry Vpn Route) es
peer-entries = image-entries Vpn Route vpn_total vpn_exact vpn_keeps

pub peer-get : (es : List (VpnKey × VpnRoute)) (k : VpnKey) → get (peer_of es) (Vpn k) ≡ option_map Route (get (map_of vpn_order es) k)
peer-get = image-get Vpn Route vpn_total vpn_exact vpn_keeps

-- ---- an agent's session
pub told-empty : told_of [] ≡ empty
told-empty = image-empty of_up Label up_total up_exact up_keeps

pub told-changed : (es fs : List (UpKey × LabelNo)) (d : Delta UpKey LabelNo) → map_of up_order fs ≡ changed (map_of up_order es) d → told_of fs ≡ changed (told_of es) (moved_delta of_up Label d)
told-changed = image-changed of_up Label up_total up_exact up_keeps

pub told-get : (es : List (UpKey × LabelNo)) (k : UpKey) → get (told_of es) (of_up k) ≡ option_map Label (get (map_of up_order es) k)
told-get = image-get of_up Label up_total up_exact up_keeps

label_back : (o : Option LabelNo) → as_label (option_map Label o) ≡ o
label_back None = refl
label_back (Some v) = refl

pub told-label : (es : List (UpKey × LabelNo)) (k : UpKey) → as_label (get (told_of es) (of_up k)) ≡ get (map_of up_order es) k
told-label es k = ap as_label (image-get of_up Label up_total up_exact up_keeps es k) ∙ label_back (get (map_of up_order es) k)

pub told-entries : (es : List (UpKey × LabelNo)) → IsStrictlySortedBy up_order (map (λ e. e.0) es) → entries (told_of es) ≡ map (moved_entry of_up Label) es
told-entries = image-entries of_up Label up_total up_exact up_keeps
