-- What records make of what is held.
use Rattle.std.specs.Prelude.{◌≡◌, List, [], ◌∷◌, ◌++◌, Option, Some, None}
use Rattle.std.specs.List.{cons_option, filter_map}
use Rattle.std.specs.Option.{IfSome}
use Rattle.std.proofs.Common.{refl, sym, ◌∙◌, ap, subst}
use Rattle.ov_sync.specs.declared.Delta.{Delta}
use Rattle.ov_sync.specs.Embed.{moved_delta}
use Rattle.ov_sync.specs.Keyed.{after, changed, map_of}
use Rattle.ov_types.specs.declared.keys.DownKey.{DownKey}
use Rattle.ov_types.specs.declared.keys.DownValue.{DownValue}
use Rattle.item_wire.specs.declared.item.Item.{Item}
use Rattle.node_core.specs.Told.{AllFit, ChangeFits, IsWritable, change_of, down_of, down_order, down_value}
use Rattle.node_core.proofs.Changes.{read_fits}
use Rattle.node_core.proofs.Maps.{changed_fits}
use Rattle.node_core.specs.NodeModel.Keys.{of_down}
use Rattle.node_core.specs.NodeModel.Maps.{Change, Map}
use Rattle.agent_node.specs.Applying.{changed_by}
use Rattle.agent_node.proofs.Images.{down-changed}

module _ (es fs : List (DownKey × DownValue)) (item : Item) (d : Delta DownKey DownValue)
    (told : Some (moved_delta of_down down_value d) ≡ change_of item)
    (e : map_of down_order fs ≡ changed (map_of down_order es) d) where
  pub applied : down_of fs ≡ changed_by (change_of item) (down_of es)
  applied = down-changed es fs d e ∙ ap (λ (c : Option Change). changed_by c (down_of es)) told

  pub applied_fits : IsWritable item → AllFit (down_of es) → AllFit (down_of fs)
  applied_fits w fits =
      let c : ChangeFits (moved_delta of_down down_value d) =
      subst (λ (o : Option Change). IfSome o ChangeFits) (sym told) (read_fits item w) in
      subst AllFit (sym (down-changed es fs d e)) (changed_fits (down_of es) (moved_delta of_down down_value d) fits c)

-- one more record
step : (m : Map) (c : Option Change) (cs : List Change) → after (changed_by c m) cs ≡ after m (cons_option c cs)
step m None cs = refl
step m (Some c) cs = refl

pub after_more : (m : Map) (items : List Item) (item : Item)
    → after m (filter_map change_of (items ++ item ∷ []))
    ≡ changed_by (change_of item) (after m (filter_map change_of items))
after_more m [] item = sym (step m (change_of item) [])
after_more m (i ∷ items) item =
    sym (step m (change_of i) (filter_map change_of (items ++ item ∷ [])))
    ∙ after_more (changed_by (change_of i) m) items item
    ∙ ap (changed_by (change_of item)) (step m (change_of i) (filter_map change_of items))
