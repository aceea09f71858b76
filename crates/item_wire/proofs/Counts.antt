-- Lists of a number of items that is allowed.
use Rattle.std.proofs.Common.{◌≡◌, ℕ, ◌==◌, List, length, true, false, Option, Some, None, refl, sym, ap, ◌∙◌}
use Rattle.serde_json.specs.Data.{Items}
use Rattle.serde_json.specs.declared.value.Value.{Value}
use Rattle.serde_json.specs.View.{items_view}
use Rattle.serde_json.specs.Events.{items_len}
use Rattle.serde_json.proofs.Views.{items_len-items_view}
use Rattle.item_wire.specs.declared.list.Count.{Count}
use Rattle.item_wire.specs.Entries.{allows, counted, counts}

pub is_kept : (count : Count) (o : Option Items) (items vs : List Value) → vs ≡ items → Some (items_view items) ≡ o → allows count (length vs) ≡ true
    → Some (items_view vs) ≡ counted count o
is_kept count o items vs same found allowed =
    let many : allows count (items_len (items_view vs)) ≡ true = ap (allows count) (items_len-items_view vs) ∙ allowed in
    rw (sym found, sym same, many) refl

pub is_refused : (count : Count) (o : Option Items) (items vs : List Value) → vs ≡ items → Some (items_view items) ≡ o → allows count (length vs) ≡ false
    → None ≡ counted count o
is_refused count o items vs same found refused =
    let many : allows count (items_len (items_view vs)) ≡ false = ap (allows count) (items_len-items_view vs) ∙ refused in
    rw (sym found, sym same, many) refl

pub has_so_many : (n len : ℕ) (o : Option Items) (vs : List Value) → Some (items_view vs) ≡ o → len ≡ length vs → (len == n) ≡ counts n o
has_so_many n len o vs found same = rw (sym found, items_len-items_view vs, same) refl
