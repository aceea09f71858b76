-- The rows that a control node shows are in the order of their keys.
use Rattle.std.specs.Prelude.{◌≡◌, ◌≤◌, ◌<◌, ℕ, map}
use Rattle.std.specs.declared.option.Option.{Option}
use Rattle.std.specs.declared.option.Option.TheVariants.{Some, None}
use Rattle.std.specs.List.Sorted.{IsStrictlySortedBy}
use Rattle.std.specs.FinMap.{get}
use Rattle.std.proofs.Common.{refl, arith}
use Rattle.ov_types.specs.Keys.{row_key_cmp}
use Rattle.ov_types.specs.declared.objects.LowKey.TheVariants as key
use Rattle.ov_types.specs.declared.objects.LowValue.{LowValue}
use Rattle.node_core.specs.Told.{AllFit}
use Rattle.node_core.specs.NodeModel.Keys.{Low}
use Rattle.node_core.specs.NodeModel.Values.{Value, Object, Route, Entry, Label}
use Rattle.node_core.specs.NodeModel.Maps.{Map, as_object}
use Rattle.node_core.specs.NodeModel.Paths.{Holdings}
use Rattle.node_core.specs.NodeModel.Reaching.{AreShort}
use Rattle.node_core.specs.NodeModel.Tables.{rows}
use Rattle.node_core.proofs.NodeModel.Members.{none_some}
use Rattle.node_laws.specs.Received.{AreNetworks}
use Rattle.node_laws.proofs.Shown.{shown_in_order}
use Rattle.control_wants.specs.Held.{HoldingsFit}
use Rattle.control_wants.proofs.Fitting.{use_fits, within}

-- networks that are held have numbers below those of places
network : (feed : Map) → AllFit feed → (n : ℕ) (o : Option Value) → get feed (Low (key.Instance n)) ≡ o → (v : LowValue) → as_object o ≡ Some v → n < 16384
network feed fit n (Some (Object w)) e v h = below n (within 1 16383 n (fit (Low (key.Instance n)) (Object w) e).0)
  where
    below : (n : ℕ) → n ≤ 16383 → n < 16384
    below n h = omega arith
network feed fit n (Some (Route r)) e v h = absurd (none_some v h)
network feed fit n (Some (Entry r)) e v h = absurd (none_some v h)
network feed fit n (Some (Label l)) e v h = absurd (none_some v h)
network feed fit n None e v h = absurd (none_some v h)

networks_fit : (feed : Map) → AllFit feed → AreNetworks feed
networks_fit feed fit n v e = network feed fit n (get feed (Low (key.Instance n))) refl v e

short_fit : (feed : Map) → AllFit feed → AreShort feed
short_fit feed fit u m = (use_fits feed u fit m).1

pub rows_ascend : (h : Holdings) → HoldingsFit h → IsStrictlySortedBy row_key_cmp (map (λ row. row.0) (rows h))
rows_ascend h fit = shown_in_order h (networks_fit h.feed fit.feed) (short_fit h.feed fit.feed)
