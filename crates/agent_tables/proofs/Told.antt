-- What a control node told, entry by entry.
use Rattle.std.specs.Prelude.{◌≡◌, List, [], ◌∷◌, map}
use Rattle.std.specs.declared.option.Option.{Option}
use Rattle.std.specs.List.{AllByRecursion, filter_map, cons_option}
use Rattle.std.specs.List.Sorted.{IsStrictlySortedBy}
use Rattle.std.proofs.Common.{refl, sym, ◌∙◌, ap, subst, inl, inr}
use Rattle.ov_sync.specs.Embed.{moved_entry}
use Rattle.ov_types.specs.Prefix.{Block}
use Rattle.ov_types.specs.declared.keys.DownKey.{DownKey}
use Rattle.ov_types.specs.declared.keys.DownValue.{DownValue}
use Rattle.ov_types.specs.declared.numbers.InstanceId.{InstanceId}
use Rattle.ov_types.specs.declared.objects.LowKey.{LowKey}
use Rattle.ov_types.specs.declared.objects.LowValue.{LowValue}
use Rattle.ov_types.specs.declared.rows.Entry.{Entry as RouteEntry}
use Rattle.node_core.specs.NodeModel.Agent.{row_entry}
use Rattle.node_core.specs.NodeModel.Keys.{Key, of_down}
use Rattle.node_core.specs.NodeModel.Maps.{low_entry, objects}
use Rattle.node_core.specs.NodeModel.Members.{Member}
use Rattle.node_core.specs.NodeModel.Values.{Value}
use Rattle.node_core.proofs.NodeModel.Members.{get_member, in_map}
use Rattle.node_core.proofs.NodeModel.Orders.{key_total}
use Rattle.node_core.specs.Told.{AllFit, Fits, down_order, down_of, down_value}
use Rattle.agent_tables.specs.Routes.{routes_in}
use Rattle.agent_tables.proofs.Images.{down-entries}

-- what an entry is among all keys and values
abbrev pub object_at : DownKey × DownValue → Option (LowKey × LowValue)
object_at e = low_entry (of_down e.0) (down_value e.1)

abbrev pub route_at : DownKey × DownValue → Option ((InstanceId × Block) × RouteEntry)
route_at e = row_entry (of_down e.0) (down_value e.1)

abbrev pub Fit : DownKey × DownValue → Type 0
Fit e = Fits (of_down e.0) (down_value e.1)

filter_map-map : {A B C : Type 0} (f : B → Option C) (g : A → B) (xs : List A) → filter_map f (map g xs) ≡ filter_map (λ x. f (g x)) xs
filter_map-map f g [] = refl
filter_map-map {C = C} f g (x ∷ xs) = ap (λ (l : List C). cons_option (f (g x)) l) (filter_map-map f g xs)

module _ (es : List (DownKey × DownValue)) (sorted : IsStrictlySortedBy down_order (map (λ e. e.0) es)) where
  pub objects_are : objects (down_of es) ≡ filter_map object_at es
  objects_are =
      ap (filter_map (λ (e : Key × Value). low_entry e.0 e.1)) (down-entries es sorted)
      ∙ filter_map-map (λ (e : Key × Value). low_entry e.0 e.1) (moved_entry of_down down_value) es

  pub routes_are : routes_in (down_of es) ≡ filter_map route_at es
  routes_are =
      ap (filter_map (λ (e : Key × Value). row_entry e.0 e.1)) (down-entries es sorted)
      ∙ filter_map-map (λ (e : Key × Value). row_entry e.0 e.1) (moved_entry of_down down_value) es

  member_fits : AllFit (down_of es) → (e : DownKey × DownValue) → Member e es → Fit e
  member_fits fit e m =
      fit (of_down e.0) (down_value e.1)
      (get_member key_total (down_of es) (of_down e.0) (down_value e.1)
      (subst (Member (moved_entry of_down down_value e)) (sym (down-entries es sorted)) (in_map (moved_entry of_down down_value) e es m)))

all_from : {A : Type 0} (P : A → Type 0) (es : List A) → ((e : A) → Member e es → P e) → AllByRecursion P es
all_from P [] h = tt
all_from P (e ∷ es) h = (h e (inl refl), all_from P es (λ f m. h f (inr m)))

-- where what is held can be told, each entry is within its range
pub all_fit : (es : List (DownKey × DownValue)) → IsStrictlySortedBy down_order (map (λ e. e.0) es) → AllFit (down_of es) → AllByRecursion Fit es
all_fit es sorted fit = all_from Fit es (member_fits es sorted fit)
