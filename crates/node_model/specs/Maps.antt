-- The keyed maps of all sessions, and the words that read them.
use Rattle.std.specs.Prelude.{List}
use Rattle.std.specs.declared.option.Option.{Option}
use Rattle.std.specs.declared.option.Option.TheVariants.{Some, None}
use Rattle.std.specs.FinMap.{FinMap, get, entries}
use Rattle.std.specs.List.{filter_map}
use Rattle.ov_sync.specs.declared.Delta.{Delta}
use Rattle.ov_sync.specs.Keyed as keyed
use Rattle.ov_types.specs.declared.numbers.Label.{Label as LabelNo}
use Rattle.ov_types.specs.declared.objects.LowKey.{LowKey}
use Rattle.ov_types.specs.declared.objects.LowValue.{LowValue}
use Rattle.node_model.specs.Keys.{Key, Low, key_cmp}
use Rattle.node_model.specs.Values.{Value, Object, Label, same_value}

abbrev pub Map : Type 0
Map = FinMap key_cmp Value

abbrev pub Change : Type 0
Change = Delta Key Value

-- the changes from what was sent to what is wanted
abbrev pub difference : Map → Map → List Change
difference = keyed.difference {R = key_cmp} same_value

abbrev pub as_object : Option Value → Option LowValue
as_object (Some (Object v)) = Some v
as_object _ = None

abbrev pub as_label : Option Value → Option LabelNo
as_label (Some (Label l)) = Some l
as_label _ = None

abbrev pub low_entry : Key → Value → Option (LowKey × LowValue)
low_entry (Low k) (Object v) = Some (k, v)
low_entry _ _ = None

-- the low-level object of a key, and all of them in the order of their keys
abbrev pub object : Map → LowKey → Option LowValue
object m k = as_object (get m (Low k))

abbrev pub objects : Map → List (LowKey × LowValue)
objects m = filter_map (λ e. low_entry e.0 e.1) (entries m)
