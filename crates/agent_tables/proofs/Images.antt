-- What is held of each direction of a session, among the keys and values of all sessions.
use Rattle.std.specs.Prelude.{◌≡◌, List, map}
use Rattle.std.specs.declared.option.Option.{Option}
use Rattle.std.proofs.Common.{sym, ◌∙◌, ap}
use Rattle.ov_types.specs.Prefix.{Block}
use Rattle.ov_types.specs.declared.keys.DownKey.TheVariants.{Route, Slice}
use Rattle.ov_types.specs.declared.numbers.InstanceId.{InstanceId}
use Rattle.node_core.specs.NodeModel.Agent.{as_hop}
use Rattle.std.specs.Option.{option_map}
use Rattle.std.specs.List.Sorted.{IsStrictlySortedBy}
use Rattle.std.specs.FinMap.{get, entries}
use Rattle.ov_sync.specs.Keyed.{map_of}
use Rattle.ov_sync.specs.Embed.{moved_entry}
use Rattle.ov_types.specs.declared.keys.DownKey.{DownKey}
use Rattle.ov_types.specs.declared.keys.DownValue.{DownValue}
use Rattle.ov_types.specs.declared.objects.LowKey.{LowKey}
use Rattle.ov_types.specs.declared.keys.UpKey.{UpKey}
use Rattle.ov_types.specs.declared.numbers.Label.{Label as LabelNo}
use Rattle.node_core.specs.NodeModel.Keys.{Low, Row, of_down, of_up}
use Rattle.node_core.specs.NodeModel.Maps.{as_object, object}
use Rattle.node_core.specs.NodeModel.Values.{Label}
use Rattle.node_core.proofs.NodeModel.Directions.{down_keeps, down_total, down_exact, up_keeps, up_total, up_exact}
use Rattle.node_core.proofs.NodeModel.Directions.{image-get, image-entries}
use Rattle.node_core.specs.Told.{down_value, down_order, up_order, down_of, up_of}

pub down-entries : (es : List (DownKey × DownValue)) → IsStrictlySortedBy down_order (map (λ e. e.0) es) → entries (down_of es) ≡ map (moved_entry of_down down_value) es
down-entries = image-entries of_down down_value down_total down_exact down_keeps

pub up-get : (es : List (UpKey × LabelNo)) (k : UpKey) → get (up_of es) (of_up k) ≡ option_map Label (get (map_of up_order es) k)
up-get = image-get of_up Label up_total up_exact up_keeps

-- the row that is held under a key
pub row-get : (es : List (DownKey × DownValue)) (i : InstanceId) (p : Block) (o : Option DownValue) → o ≡ get (map_of down_order es) (Route i p)
    → as_hop (option_map down_value o) ≡ as_hop (get (down_of es) (Row i p))
row-get es i p o e = ap (λ (o : Option DownValue). as_hop (option_map down_value o)) e ∙ ap as_hop (sym (image-get of_down down_value down_total down_exact down_keeps es (Route i p)))

-- the value that is held under a slice's key, and the object
pub slice-get : (es : List (DownKey × DownValue)) (k : LowKey) (o : Option DownValue) → o ≡ get (map_of down_order es) (Slice k)
    → option_map down_value o ≡ get (down_of es) (Low k)
slice-get es k o e = ap (option_map down_value) e ∙ sym (image-get of_down down_value down_total down_exact down_keeps es (Slice k))

pub object-get : (es : List (DownKey × DownValue)) (k : LowKey) (o : Option DownValue) → o ≡ get (map_of down_order es) (Slice k)
    → as_object (option_map down_value o) ≡ object (down_of es) k
object-get es k o e = ap as_object (slice-get es k o e)
