-- What is stored where a session is dropped, or an object.
use Rattle.std.specs.Prelude.{◌≡◌, ℕ, zero, suc, [], cond, is_some}
use Rattle.std.specs.BTreeMap as tree
use Rattle.std.specs.BTreeMap.{BTreeMap, is_at}
use Rattle.std.specs.FinMap.{empty}
use Rattle.std.specs.Map.{lookup}
use Rattle.std.proofs.Common.{refl, sym, ◌∙◌, ap, subst, arith, List}
use Rattle.ov_sync.specs.declared.Delta.TheVariants.{Drop}
use Rattle.ov_types.specs.declared.objects.LowKey.{LowKey}
use Rattle.node_model.specs.Paths.{Holdings}
use Rattle.vpn_holdings.specs.Changes.{with_low, without}
use Rattle.vpn_tables.specs.Stored.{AreStored, entry_of, entry_or, nothing_stored, row_order, stored_at}
use Rattle.vpn_tables.specs.declared.stored.Entry.{Entry}
use Rattle.vpn_tables.specs.declared.stored.RowKey.{RowKey}
use Rattle.vpn_tables.proofs.Dropped.{object_dropped, session_less}
use Rattle.vpn_tables.proofs.Keeping.{retained_stored}
use Rattle.vpn_tables.proofs.Less.{IsLess, nothing_stays}
use Rattle.vpn_tables.proofs.Nothing.{nothing_follows}

abbrev pub Renewed : BTreeMap RowKey Entry → BTreeMap RowKey Entry → Holdings → Type 0
Renewed stored next g = (k : RowKey) → stored_at next k ≡ cond (is_some (tree.get row_order stored k)) (entry_of g k) nothing_stored

less_stored : (stored next : BTreeMap RowKey Entry) (h g : Holdings) → IsLess g h → AreStored stored h → Renewed stored next g → AreStored next g
less_stored stored next h g less are is = retained_stored stored next h g are (nothing_stays g h less) is

pub session_stored : (stored next : BTreeMap RowKey Entry) (h g : Holdings) (s : ℕ) → g ≡ without h s → (s ≡ 0 → ⊥) → AreStored stored h → Renewed stored next g → AreStored next g
session_stored stored next h g zero e other are is = absurd (other refl)
session_stored stored next h g (suc place) e other are is = less_stored stored next h g (subst (λ (x : Holdings). IsLess x h) (sym e) (session_less h place)) are is

pub object_stored : (stored next : BTreeMap RowKey Entry) (h g : Holdings) (k : LowKey) → g ≡ with_low h (Drop k) → AreStored stored h → Renewed stored next g → AreStored next g
object_stored stored next h g k e are is = less_stored stored next h g (subst (λ (x : Holdings). IsLess x h) (sym e) (object_dropped h k)) are is

feed_emptied : (h : Holdings) (s : ℕ) → s ≡ 0 → (without h s).feed ≡ empty
feed_emptied h zero e = refl
feed_emptied h (suc place) e = absurd (suc≢zero place e)
  where
    suc≢zero : (n : ℕ) → suc n ≡ 0 → ⊥
    suc≢zero n e = omega arith

pub nothing_are : (next : BTreeMap RowKey Entry) (h g : Holdings) (s : ℕ) → g ≡ without h s → s ≡ 0 → next.entries ≡ [] → AreStored next g
nothing_are next h g s is none e k =
    ap (λ (es : List (RowKey × Entry)). entry_or (lookup (is_at (row_order k)) es)) e
    ∙ nothing_follows g (ap (λ (h : Holdings). h.feed) is ∙ feed_emptied h s none) k
