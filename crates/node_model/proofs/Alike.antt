-- Values that compare alike are one.
use Rattle.std.proofs.Common.{◌≡◌, ap}
use Rattle.std.specs.Bool.{Decides}
use Rattle.std.proofs.lemmas.Bool.Decides.{Decides-eqb, Decides-and}
use Rattle.std.proofs.lemmas.Option.{same_Some}
use Rattle.std.specs.declared.option.Option.{Option}
use Rattle.std.specs.declared.option.Option.TheVariants.{Some, None}
use Rattle.ov_types.proofs.Values as values
use Rattle.ov_types.specs.declared.numbers.Label.{Label as LabelNo}
use Rattle.ov_types.specs.declared.rows.Entry.{Entry as RouteEntry}
use Rattle.node_model.specs.Values.{Value, Object, Route, Entry, Label, same_value}
use Rattle.node_model.proofs.Wanted.{as_route, as_entry, as_low_value}

abbrev pub as_label_no : Value → Option LabelNo
as_label_no (Label l) = Some l
as_label_no (Object v) = None
as_label_no (Route r) = None
as_label_no (Entry r) = None

entry_decides : (a b : RouteEntry) → Decides (same_value (Entry a) (Entry b)) (a ≡ b)
entry_decides a b =
    let d = Decides-and _ _ (Decides-eqb a.next_hop.0 b.next_hop.0) (Decides-eqb a.label.0 b.label.0) in
    (λ e. let h = d.0 e in λ i. record { next_hop = record { 0 = h.0 i }; label = record { 0 = h.1 i } }, λ e. d.1 ((λ i. (e i).next_hop.0), (λ i. (e i).label.0)))

label_decides : (a b : LabelNo) → Decides (same_value (Label a) (Label b)) (a ≡ b)
label_decides a b = let d = Decides-eqb a.0 b.0 in (λ e. let h = d.0 e in λ i. record { 0 = h i }, λ e. d.1 (λ i. (e i).0))

pub same_value_decides : (a b : Value) → Decides (same_value a b) (a ≡ b)
same_value_decides (Object a) (Object b) = let d = values.objects a b in (λ e. ap Object (d.0 e), λ e. d.1 (same_Some a b (ap as_low_value e)))
same_value_decides (Route a) (Route b) = let d = values.routes a b in (λ e. ap Route (d.0 e), λ e. d.1 (same_Some a b (ap as_route e)))
same_value_decides (Entry a) (Entry b) = let d = entry_decides a b in (λ e. ap Entry (d.0 e), λ e. d.1 (same_Some a b (ap as_entry e)))
same_value_decides (Label a) (Label b) = let d = label_decides a b in (λ e. ap Label (d.0 e), λ e. d.1 (same_Some a b (ap as_label_no e)))
same_value_decides (Object a) (Route b) = (λ e. cc, λ e. cc)
same_value_decides (Object a) (Entry b) = (λ e. cc, λ e. cc)
same_value_decides (Object a) (Label b) = (λ e. cc, λ e. cc)
same_value_decides (Route a) (Object b) = (λ e. cc, λ e. cc)
same_value_decides (Route a) (Entry b) = (λ e. cc, λ e. cc)
same_value_decides (Route a) (Label b) = (λ e. cc, λ e. cc)
same_value_decides (Entry a) (Object b) = (λ e. cc, λ e. cc)
same_value_decides (Entry a) (Route b) = (λ e. cc, λ e. cc)
same_value_decides (Entry a) (Label b) = (λ e. cc, λ e. cc)
same_value_decides (Label a) (Object b) = (λ e. cc, λ e. cc)
same_value_decides (Label a) (Route b) = (λ e. cc, λ e. cc)
same_value_decides (Label a) (Entry b) = (λ e. cc, λ e. cc)
