-- The orders of places tell them apart, and between two places stands what has the prefix.
use Rattle.std.specs.Prelude.{◌≡◌, ◌<◌, ℕ, ◌+◌, ◌-◌, ◌==◌, nat_le, Bool, true, not, ◌&&◌}
use Rattle.std.specs.declared.cmp.Ordering.{Ordering}
use Rattle.std.specs.declared.cmp.Ordering.TheVariants.{Less, Equal, Greater}
use Rattle.std.specs.declared.ops.Bound.TheVariants.{Included, Excluded, Unbounded}
use Rattle.std.specs.BTreeMap.Range.{range_contains}
use Rattle.std.specs.Ordering.{is_le, nat_cmp, ordering_then}
use Rattle.std.specs.FinMap.{nat_cmp-IsAntisymmetric}
use Rattle.std.specs.Cmp.{IsTotalOrder, nat_cmp_total, on_total, then_total, tied_itself}
use Rattle.std.proofs.lemmas.Bool.Decides.{nat_tests}
use Rattle.std.proofs.lemmas.Nat.{pow_pos}
use Rattle.std.proofs.Common.{refl, sym, ◌∙◌, arith}
use Rattle.ov_types.specs.Prefix.{Block, size_of}
use Rattle.ov_types.specs.declared.prefix.Addr.{Addr}
use Rattle.vpn_holdings.specs.Indexed.{is_label_to, is_label_within, is_route_to, is_route_within, label_order, route_order}
use Rattle.vpn_holdings.specs.declared.places.LabelAt.{LabelAt}
use Rattle.vpn_holdings.specs.declared.places.RouteAt.{RouteAt}

-- four numbers, the first first
abbrev four_cmp : (a b c d x y s e : ℕ) → Ordering
four_cmp a b c d x y s e = ordering_then (nat_cmp a x) (ordering_then (nat_cmp b y) (ordering_then (nat_cmp c s) (nat_cmp d e)))

route_is : (k q : RouteAt) → route_order k q ≡ four_cmp k.addr.0 k.len k.session k.rd.0 q.addr.0 q.len q.session q.rd.0
route_is k q = refl

label_is : (k q : LabelAt) → label_order k q ≡ four_cmp k.addr.0 k.len k.session k.instance.0 q.addr.0 q.len q.session q.instance.0
label_is k q = refl

-- ---- places are told apart
both_equal : (r s : Ordering) → ordering_then r s ≡ Equal → (r ≡ Equal) × (s ≡ Equal)
both_equal Less s e = absurd (less e)
  where
    less : Less ≡ Equal → ⊥
    less e = cc
both_equal Equal s e = (refl, e)
both_equal Greater s e = absurd (greater e)
  where
    greater : Greater ≡ Equal → ⊥
    greater e = cc

four_exact : (a b c d x y s e : ℕ) → four_cmp a b c d x y s e ≡ Equal → (a ≡ x) × ((b ≡ y) × ((c ≡ s) × (d ≡ e)))
four_exact a b c d x y s e h =
    let one = both_equal (nat_cmp a x) (ordering_then (nat_cmp b y) (ordering_then (nat_cmp c s) (nat_cmp d e))) h in
    let two = both_equal (nat_cmp b y) (ordering_then (nat_cmp c s) (nat_cmp d e)) one.1 in
    let three = both_equal (nat_cmp c s) (nat_cmp d e) two.1 in
    (nat_cmp-IsAntisymmetric a x one.0, (nat_cmp-IsAntisymmetric b y two.0, (nat_cmp-IsAntisymmetric c s three.0, nat_cmp-IsAntisymmetric d e three.1)))

four_itself : (a b c d : ℕ) → four_cmp a b c d a b c d ≡ Equal
four_itself a b c d =
    (λ i. ordering_then (tied_itself nat_cmp_total a i) (ordering_then (tied_itself nat_cmp_total b i) (ordering_then (tied_itself nat_cmp_total c i) (tied_itself nat_cmp_total d i))))

pub route_exact : (k q : RouteAt) → route_order k q ≡ Equal → k ≡ q
route_exact k q e =
    let f = four_exact k.addr.0 k.len k.session k.rd.0 q.addr.0 q.len q.session q.rd.0 (sym (route_is k q) ∙ e) in
    λ i. record { addr = record { 0 = f.0 i }; len = f.1.0 i; session = f.1.1.0 i; rd = record { 0 = f.1.1.1 i } }

pub route_itself : (k : RouteAt) → route_order k k ≡ Equal
route_itself k = route_is k k ∙ four_itself k.addr.0 k.len k.session k.rd.0

pub label_exact : (k q : LabelAt) → label_order k q ≡ Equal → k ≡ q
label_exact k q e =
    let f = four_exact k.addr.0 k.len k.session k.instance.0 q.addr.0 q.len q.session q.instance.0 (sym (label_is k q) ∙ e) in
    λ i. record { addr = record { 0 = f.0 i }; len = f.1.0 i; session = f.1.1.0 i; instance = record { 0 = f.1.1.1 i } }

pub label_itself : (k : LabelAt) → label_order k k ≡ Equal
label_itself k = label_is k k ∙ four_itself k.addr.0 k.len k.session k.instance.0

-- ---- the orders are total
pub route_total : IsTotalOrder route_order
route_total =
    then_total (on_total (λ (k : RouteAt). k.addr.0) nat_cmp_total)
    (then_total (on_total (λ (k : RouteAt). k.len) nat_cmp_total) (then_total (on_total (λ (k : RouteAt). k.session) nat_cmp_total) (on_total (λ (k : RouteAt). k.rd.0) nat_cmp_total)))

pub label_total : IsTotalOrder label_order
label_total =
    then_total (on_total (λ (k : LabelAt). k.addr.0) nat_cmp_total)
    (then_total (on_total (λ (k : LabelAt). k.len) nat_cmp_total) (then_total (on_total (λ (k : LabelAt). k.session) nat_cmp_total) (on_total (λ (k : LabelAt). k.instance.0) nat_cmp_total)))

-- ---- what stands between two places
abbrev is_between : (a l b m x y s e : ℕ) → Bool
is_between a l b m x y s e = is_le (four_cmp a l 0 0 x y s e) && not (is_le (four_cmp b m 0 0 x y s e))

between : (a l x y s e : ℕ) → is_between a l a (l + 1) x y s e ≡ ((x == a) && (y == l))
between a l x y s e = grind (arith, nat_tests)

between_at : (prefix : Block) (a b m n x y s e : ℕ) → a ≡ prefix.addr → b ≡ prefix.addr → m ≡ prefix.len → n ≡ prefix.len → is_between a m b (n + 1) x y s e ≡ ((x == prefix.addr) && (y == prefix.len))
between_at prefix a b m n x y s e ea eb em en = (λ i. is_between (ea i) (em i) (eb i) (en i + 1) x y s e) ∙ between prefix.addr prefix.len x y s e

pub between_routes : (prefix : Block) (a b : Addr) (m n : ℕ) → a.0 ≡ prefix.addr → b.0 ≡ prefix.addr → m ≡ prefix.len → n ≡ prefix.len → (k : RouteAt)
    → range_contains route_order (Included (record { addr = a; len = m; session = 0; rd = record { 0 = 0 } })) (Excluded (record { addr = b; len = n + 1; session = 0; rd = record { 0 = 0 } })) k ≡ is_route_to prefix k
between_routes prefix a b m n ea eb em en k = between_at prefix a.0 b.0 m n k.addr.0 k.len k.session k.rd.0 ea eb em en

pub between_labels : (prefix : Block) (a b : Addr) (m n : ℕ) → a.0 ≡ prefix.addr → b.0 ≡ prefix.addr → m ≡ prefix.len → n ≡ prefix.len → (k : LabelAt)
    → range_contains label_order (Included (record { addr = a; len = m; session = 0; instance = record { 0 = 0 } })) (Excluded (record { addr = b; len = n + 1; session = 0; instance = record { 0 = 0 } })) k ≡ is_label_to prefix k
between_labels prefix a b m n ea eb em en k = between_at prefix a.0 b.0 m n k.addr.0 k.len k.session k.instance.0 ea eb em en

-- ---- what is within a subnet begins in it
inside : (start size x y s e z : ℕ) → 0 < z → (nat_le start x && nat_le (x + z) (start + size)) ≡ true → is_between start 0 (start + size) 0 x y s e ≡ true
inside start size x y s e z pos w = grind (arith, nat_tests)

onward : (start size x y s e z : ℕ) → (nat_le start x && nat_le (x + z) (start + size)) ≡ true → (is_le (four_cmp start 0 0 0 x y s e) && true) ≡ true
onward start size x y s e z w = grind (arith, nat_tests)

pub routes_inside : (subnet : Block) (a b : Addr) → a.0 ≡ subnet.addr → b.0 ≡ subnet.addr + size_of subnet.len → (k : RouteAt) → is_route_within subnet k ≡ true
    → range_contains route_order (Included (record { addr = a; len = 0; session = 0; rd = record { 0 = 0 } })) (Excluded (record { addr = b; len = 0; session = 0; rd = record { 0 = 0 } })) k ≡ true
routes_inside subnet a b ea eb k w =
    (λ i. is_between (ea i) 0 (eb i) 0 k.addr.0 k.len k.session k.rd.0) ∙ inside subnet.addr (size_of subnet.len) k.addr.0 k.len k.session k.rd.0 (size_of k.len) (pow_pos (32 - k.len)) w

pub routes_onward : (subnet : Block) (a : Addr) → a.0 ≡ subnet.addr → (k : RouteAt) → is_route_within subnet k ≡ true
    → range_contains route_order (Included (record { addr = a; len = 0; session = 0; rd = record { 0 = 0 } })) Unbounded k ≡ true
routes_onward subnet a ea k w =
    (λ i. is_le (four_cmp (ea i) 0 0 0 k.addr.0 k.len k.session k.rd.0) && true) ∙ onward subnet.addr (size_of subnet.len) k.addr.0 k.len k.session k.rd.0 (size_of k.len) w

pub labels_inside : (subnet : Block) (a b : Addr) → a.0 ≡ subnet.addr → b.0 ≡ subnet.addr + size_of subnet.len → (k : LabelAt) → is_label_within subnet k ≡ true
    → range_contains label_order (Included (record { addr = a; len = 0; session = 0; instance = record { 0 = 0 } })) (Excluded (record { addr = b; len = 0; session = 0; instance = record { 0 = 0 } })) k ≡ true
labels_inside subnet a b ea eb k w =
    (λ i. is_between (ea i) 0 (eb i) 0 k.addr.0 k.len k.session k.instance.0) ∙ inside subnet.addr (size_of subnet.len) k.addr.0 k.len k.session k.instance.0 (size_of k.len) (pow_pos (32 - k.len)) w

pub labels_onward : (subnet : Block) (a : Addr) → a.0 ≡ subnet.addr → (k : LabelAt) → is_label_within subnet k ≡ true
    → range_contains label_order (Included (record { addr = a; len = 0; session = 0; instance = record { 0 = 0 } })) Unbounded k ≡ true
labels_onward subnet a ea k w =
    (λ i. is_le (four_cmp (ea i) 0 0 0 k.addr.0 k.len k.session k.instance.0) && true) ∙ onward subnet.addr (size_of subnet.len) k.addr.0 k.len k.session k.instance.0 (size_of k.len) w
