-- Ports are counted by their sites.
use Rattle.std.specs.Prelude.{◌≡◌, ◌<◌, ◌≤◌, ◌+◌, ◌^◌, ℕ, zero, suc, List, [], ◌∷◌, length, map, Bool, true, false, cond, ◌==◌, ◌&&◌, ◌||◌, is_some, unwrap_or}
use Rattle.std.specs.declared.option.Option.{Option}
use Rattle.std.specs.declared.option.Option.TheVariants.{Some, None}
use Rattle.std.specs.BTreeMap as tree
use Rattle.std.specs.BTreeMap.{BTreeMap, insert_entry, is_at}
use Rattle.std.specs.List.Sorted.{IsStrictlySortedBy}
use Rattle.std.specs.List.{cons_option, filter, filter_map, list_any, sum_by}
use Rattle.std.specs.Map.{lookup, remove_entry, values_of}
use Rattle.std.specs.Option.{option_map}
use Rattle.std.proofs.lemmas.List.Sums.{sum_by-cons}
use Rattle.std.proofs.lemmas.Map.Entries.{sum_by-insert_entry, sum_by-remove_entry}
use Rattle.std.proofs.Common.{refl, sym, ◌∙◌, ap, arith}
use Rattle.ov_types.specs.declared.numbers.InstanceId.{InstanceId}
use Rattle.ov_types.specs.declared.objects.LowKey.{LowKey}
use Rattle.ov_types.specs.declared.objects.LowValue.{LowValue}
use Rattle.ov_types.specs.declared.objects.LowValue.TheVariants as low
use Rattle.path_select.specs.NodeModel.Wants.{port_at}
use Rattle.path_select.proofs.NodeModel.Directions.{low_total}
use Rattle.vpn_holdings.specs.Ports.{AreCounted, Counts, if_any, one_at, ports_at, same_site, site_of, site_order}
use Rattle.vpn_holdings.specs.Views.{feed_of, low_order}
use Rattle.vpn_holdings.specs.declared.ports.Site.{Site}
use Rattle.vpn_holdings.proofs.Listed.{objects_are}

abbrev Entry : Type 0
Entry = LowKey × LowValue

-- ---- how many there are, from the typed entries
abbrev ones : Site → LowValue → ℕ
ones s v = one_at (site_of v) s

abbrev pub counted : Site → List Entry → ℕ
counted s es = sum_by (ones s) (values_of es)

abbrev numbered : Site → List InstanceId → ℕ
numbered s ns = length (filter (λ n. n.0 == s.network.0) ns)

no_more_than : (n : ℕ) → n ≡ 0 + n
no_more_than n = omega arith

one_more : (n : ℕ) → suc n ≡ 1 + n
one_more n = omega arith

first_one : (s : Site) (v : LowValue) (ns : List InstanceId) → numbered s (cons_option (port_at s.address v) ns) ≡ ones s v + numbered s ns
first_one s (low.AttachPort port instance host node) ns =
    elim (node.0 == s.address.0) as (λ b. numbered s (cons_option (cond b (Some instance) None) ns) ≡ cond (b && (instance.0 == s.network.0)) 1 0 + numbered s ns) [
      | true ↦ elim (instance.0 == s.network.0) as (λ b. length (cond b (instance ∷ filter (λ n. n.0 == s.network.0) ns) (filter (λ n. n.0 == s.network.0) ns)) ≡ cond b 1 0 + numbered s ns) [
        | true ↦ one_more (numbered s ns)
        | false ↦ no_more_than (numbered s ns)
      ]
      | false ↦ no_more_than (numbered s ns)
    ]
first_one s (low.Instance imports) ns = no_more_than (numbered s ns)
first_one s (low.AttachCircuit circuit service node) ns = no_more_than (numbered s ns)
first_one s (low.Acl subnets rules) ns = no_more_than (numbered s ns)
first_one s (low.ChainUse left right left_subnets right_subnets hops) ns = no_more_than (numbered s ns)

counted_in : (s : Site) (es : List Entry) → length (filter (λ n. n.0 == s.network.0) (filter_map (λ e. port_at s.address e.1) es)) ≡ counted s es
counted_in s [] = refl
counted_in s (e ∷ es) =
    first_one s e.1 (filter_map (λ e. port_at s.address e.1) es) ∙ ap (λ n. ones s e.1 + n) (counted_in s es) ∙ sym (sum_by-cons (ones s) e.1 (values_of es))

abbrev Ascend : List Entry → Type 0
Ascend es = IsStrictlySortedBy low_order (map (λ e. e.0) es)

counted_is : (es : List Entry) → Ascend es → (s : Site) → ports_at (feed_of es) s ≡ counted s es
counted_is es sorted s =
    ap (λ (l : List Entry). length (filter (λ n. n.0 == s.network.0) (filter_map (λ e. port_at s.address e.1) l))) (sym (objects_are (feed_of es) es sorted refl)) ∙ counted_in s es

-- ---- no more than there are objects
one_small : (o : Option Site) (s : Site) → one_at o s ≤ 1
one_small None s = omega arith
one_small (Some t) s = elim (same_site t s) as (λ b. cond b 1 0 ≤ 1) [ true ↦ omega arith | false ↦ omega arith ]

no_more : (s : Site) (es : List Entry) → counted s es ≤ length es
no_more s [] = omega arith
no_more s (e ∷ es) = turn (counted s (e ∷ es)) (ones s e.1) (counted s es) (length es) (sum_by-cons (ones s) e.1 (values_of es)) (one_small (site_of e.1) s) (no_more s es)
  where
    turn : (n a m l : ℕ) → n ≡ a + m → a ≤ 1 → m ≤ l → n ≤ suc l
    turn n a m l e one more = omega (arith, e, one, more)

number_is : (n : ℕ) → unwrap_or (if_any n) 0 ≡ n
number_is zero = refl
number_is (suc n) = refl

pub counts_small : (ports : BTreeMap Site ℕ) (es : List Entry) → Ascend es → AreCounted ports (feed_of es) → length es < 2 ^ 63 → (s : Site) → unwrap_or (tree.get site_order ports s) 0 < 2 ^ 63
counts_small ports es sorted are small s =
    below (unwrap_or (tree.get site_order ports s) 0) (counted s es) (length es) (ap (λ (o : Option ℕ). unwrap_or o 0) (are s) ∙ number_is (ports_at (feed_of es) s) ∙ counted_is es sorted s) (no_more s es) small
  where
    below : (a b c : ℕ) → a ≡ b → b ≤ c → c < 2 ^ 63 → a < 2 ^ 63
    below a b c e le lt = omega (arith, e, le, lt)

-- ---- what is kept are other words for the same numbers
pub recounted : (ports : BTreeMap Site ℕ) (f g : Site → ℕ) → ((s : Site) → f s ≡ g s) → Counts ports f → Counts ports g
recounted ports f g same are s = are s ∙ ap if_any (same s)

-- ---- one object is put or dropped
module _ (es fs : List Entry) (k : LowKey) (sorted : Ascend es) (ascends : Ascend fs) where
  pub put_over : (v w : LowValue) → fs ≡ insert_entry low_order es k v → Some w ≡ lookup (is_at (low_order k)) es → (s : Site)
      → one_at (site_of v) s + ports_at (feed_of es) s ≡ one_at (site_of w) s + ports_at (feed_of fs) s
  put_over v w is old s =
      swapped (counted s es) (counted s fs) (ones s v) (ones s w) (ports_at (feed_of es) s) (ports_at (feed_of fs) s) (counted_is es sorted s) (counted_is fs ascends s)
      ((λ i. counted s (is i) + unwrap_or (option_map (ones s) (old i)) 0) ∙ sum_by-insert_entry (ones s) low_total es k v sorted)
    where
      swapped : (n m a b x y : ℕ) → x ≡ n → y ≡ m → m + b ≡ n + a → a + x ≡ b + y
      swapped n m a b x y ex ey e = omega (arith, ex, ey, e)

  pub put_new : (v : LowValue) → fs ≡ insert_entry low_order es k v → None ≡ lookup (is_at (low_order k)) es → (s : Site)
      → one_at (site_of v) s + ports_at (feed_of es) s ≡ ports_at (feed_of fs) s
  put_new v is old s =
      swapped (counted s es) (counted s fs) (ones s v) (ports_at (feed_of es) s) (ports_at (feed_of fs) s) (counted_is es sorted s) (counted_is fs ascends s)
      ((λ i. counted s (is i) + unwrap_or (option_map (ones s) (old i)) 0) ∙ sum_by-insert_entry (ones s) low_total es k v sorted)
    where
      swapped : (n m a x y : ℕ) → x ≡ n → y ≡ m → m + 0 ≡ n + a → a + x ≡ y
      swapped n m a x y ex ey e = omega (arith, ex, ey, e)

  pub dropped : (w : LowValue) → fs ≡ remove_entry (is_at (low_order k)) es → Some w ≡ lookup (is_at (low_order k)) es → (s : Site)
      → ports_at (feed_of es) s ≡ one_at (site_of w) s + ports_at (feed_of fs) s
  dropped w is old s =
      swapped (counted s es) (counted s fs) (ones s w) (ports_at (feed_of es) s) (ports_at (feed_of fs) s) (counted_is es sorted s) (counted_is fs ascends s)
      ((λ i. counted s (is i) + unwrap_or (option_map (ones s) (old i)) 0) ∙ sum_by-remove_entry (ones s) (is_at (low_order k)) es)
    where
      swapped : (n m b x y : ℕ) → x ≡ n → y ≡ m → m + b ≡ n → x ≡ b + y
      swapped n m b x y ex ey e = omega (arith, ex, ey, e)

-- ---- nothing is held
pub none_counted : (s : Site) → None ≡ if_any (ports_at (feed_of []) s)
unfolding IsStrictlySortedBy
none_counted s = sym (ap if_any (counted_is [] tt s))

-- ---- a network has a port at an address exactly where some are counted
pub any_counted : {X : Type 0} (p : X → Bool) (xs : List X) → is_some (if_any (length (filter p xs))) ≡ list_any p xs
any_counted p [] = refl
any_counted p (x ∷ xs) =
    elim (p x) as (λ b. is_some (if_any (length (cond b (x ∷ filter p xs) (filter p xs)))) ≡ (b || list_any p xs)) [ true ↦ refl | false ↦ any_counted p xs ]
