-- The orders of rows and of ends tell them apart.
use Rattle.std.specs.Prelude.{◌≡◌, true}
use Rattle.std.specs.Cmp.{Equal-is, IsTotalOrder, on_total, tied_itself}
use Rattle.std.specs.FinMap.{IsAntisymmetric}
use Rattle.std.specs.Ordering.{is_eq}
use Rattle.std.proofs.Common.{◌∙◌, ap, subst, rules}
use Rattle.ov_types.specs.Keys.{row_key_cmp}
use Rattle.ov_types.specs.declared.keys.DownKey.TheVariants as Down
use Rattle.node_model.specs.Keys.{Key, Low, Vpn, Row, Publish, Subscribe, key_cmp}
use Rattle.node_model.proofs.Images as images
use Rattle.node_model.proofs.Orders.{key_exact, key_total}
use Rattle.vpn_tables.specs.Stored.{is_row, row_order}
use Rattle.vpn_tables.specs.declared.stored.RowKey.{RowKey}

abbrev as_key : RowKey → Key
as_key k = Row k.instance k.prefix

abbrev back : RowKey → Key → RowKey
back d (Row i q) = record { instance = i; prefix = q }
back d (Low k) = d
back d (Vpn k) = d
back d (Publish i q) = d
back d (Subscribe i) = d

pub row_same : (a b : RowKey) → row_key_cmp (a.instance, a.prefix) (b.instance, b.prefix) ≡ row_order a b
row_same a b = search rules

keeps : (a b : RowKey) → key_cmp (as_key a) (as_key b) ≡ row_order a b
keeps a b = images.down_keeps (Down.Route a.instance a.prefix) (Down.Route b.instance b.prefix) ∙ row_same a b

pub row_total : IsTotalOrder row_order
row_total = subst IsTotalOrder (λ i a b. keeps a b i) (on_total as_key key_total)

pub row_exact : IsAntisymmetric row_order
row_exact a b e = ap (back a) (key_exact (as_key a) (as_key b) (keeps a b ∙ e))

-- a key is that of a row, exactly where the two are one
pub row_is : (k key : RowKey) → is_row k key ≡ true → key ≡ k
row_is k key t = row_exact key k ((Equal-is (row_order key k)).0 t)

pub row_itself : (k : RowKey) → is_row k k ≡ true
row_itself k = ap is_eq (tied_itself row_total k)
