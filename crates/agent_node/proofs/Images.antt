-- What an agent is told and tells, among the keys and values of all sessions.
use Rattle.std.specs.Prelude.{◌≡◌, List, [], map}
use Rattle.std.specs.FinMap.{empty, from_entries}
use Rattle.std.proofs.Common.{sym, ◌∙◌, ap}
use Rattle.ov_sync.specs.declared.Delta.{Delta}
use Rattle.ov_sync.specs.Keyed.{changed, map_of}
use Rattle.ov_sync.specs.Embed.{embedded, moved_delta, moved_entry}
use Rattle.ov_sync.proofs.Ascending.{entries-empty}
use Rattle.ov_sync.proofs.EmbedLaws.{changed-embedded}
use Rattle.ov_types.specs.declared.keys.DownKey.{DownKey}
use Rattle.ov_types.specs.declared.keys.DownValue.{DownValue}
use Rattle.ov_types.specs.declared.keys.UpKey.{UpKey}
use Rattle.ov_types.specs.declared.numbers.Label.{Label as LabelNo}
use Rattle.node_core.specs.Told.{down_of, down_order, down_value, up_of, up_order}
use Rattle.node_core.specs.NodeModel.Keys.{key_cmp, of_down, of_up}
use Rattle.node_core.specs.NodeModel.Values.{Label}
use Rattle.node_core.proofs.NodeModel.Orders.{key_exact, key_total}
use Rattle.node_core.proofs.NodeModel.Directions.{down_exact, down_keeps, down_total}

pub up-empty : up_of [] ≡ empty
up-empty =
    ap (λ (es : List (UpKey × LabelNo)). from_entries {R = key_cmp} (map (moved_entry of_up Label) es))
    (entries-empty {V = LabelNo} up_order)

pub down-empty : down_of [] ≡ empty
down-empty =
    ap (λ (es : List (DownKey × DownValue)). from_entries {R = key_cmp} (map (moved_entry of_down down_value) es))
    (entries-empty {V = DownValue} down_order)

pub down-changed : (es fs : List (DownKey × DownValue)) (d : Delta DownKey DownValue)
    → map_of down_order fs ≡ changed (map_of down_order es) d
    → down_of fs ≡ changed (down_of es) (moved_delta of_down down_value d)
down-changed es fs d e =
    ap (embedded {S = key_cmp} of_down down_value) e
    ∙ sym (changed-embedded of_down down_value down_total key_total down_keeps down_exact key_exact
    (map_of down_order es) d)
