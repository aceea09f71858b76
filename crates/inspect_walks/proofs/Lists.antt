-- The access lists of a network among those of an agent.
use Rattle.std.proofs.Common.{◌≡◌, ◌<◌, ◌≤◌, ℕ, zero, suc, true, false, cond, List, [], ◌∷◌, Some, None, drop, take, length, refl, sym, ap, ◌∙◌, eq-eqb, arith}
use Rattle.std.specs.List.{AllWithin, list_any}
use Rattle.std.specs.Ordering.{nat_cmp, ordering_then}
use Rattle.std.specs.declared.cmp.Ordering.{Ordering}
use Rattle.std.specs.declared.cmp.Ordering.TheVariants.{Less, Equal, Greater}
use Rattle.std.specs.List.Sorted.{IsPartitionPoint}
use Rattle.std.specs.FinMap.{nat_cmp-IsAntisymmetric}
use Rattle.std.proofs.lemmas.Bool.{leb-true, leb-false, le-leb, lt-ltb, ltb-true, ne_eqb}
use Rattle.ov_types.specs.Access.{access_by, access_towards, lesser}
use Rattle.ov_types.specs.Keys.{low_key_cmp}
use Rattle.ov_types.specs.Prefix.{Block, contains}
use Rattle.ov_types.specs.declared.objects.AclRule.{AclRule}
use Rattle.ov_types.specs.declared.objects.LowKey.{LowKey}
use Rattle.ov_types.specs.declared.objects.LowKey.TheVariants as Key
use Rattle.ov_types.specs.declared.objects.LowValue.{LowValue}
use Rattle.ov_types.specs.declared.objects.LowValue.TheVariants as Value
use Rattle.transform_model.proofs.Keys.{less_is}
use Rattle.inspect_walks.specs.Taking.{is_before, is_not_behind}

abbrev pub Object : Type 0
Object = LowKey × LowValue

abbrev pub Below : Object → Object → Type 0
Below d e = low_key_cmp d.0 e.0 ≡ Less

-- what stands before what is before a network is before it, and so with what is not behind it

no_more : (m n : ℕ) (o : Ordering) → ordering_then (nat_cmp m n) o ≡ Less → m ≤ n
no_more m n o h =
    elim (nat_cmp m n) as (λ c. nat_cmp m n ≡ c → ordering_then c o ≡ Less → m ≤ n) [
      | Less ↦ λ e k. let lt : m < n = less_is m n e in omega (arith, lt)
      | Equal ↦ λ e k. let same : m ≡ n = nat_cmp-IsAntisymmetric m n e in omega (arith, same)
      | Greater ↦ λ e k. cc
    ] refl h

pub before_falls : (n : ℕ) (d e : LowKey) → low_key_cmp d e ≡ Less → is_before n e ≡ true → is_before n d ≡ true
before_falls n (Key.Acl a b) (Key.Acl x y) h p =
    let le : a ≤ x = no_more a x (nat_cmp b y) h in
    let lt : x < n = ltb-true x n p in
    lt-ltb a n (omega (arith, le, lt))
before_falls n (Key.Acl a b) (Key.Instance m) h p = cc
before_falls n (Key.Acl a b) (Key.Attach m) h p = cc
before_falls n (Key.Acl a b) (Key.ChainUse m) h p = cc
before_falls n (Key.ChainUse a) (Key.Acl x y) h p = cc
before_falls n (Key.ChainUse a) (Key.Instance m) h p = cc
before_falls n (Key.ChainUse a) (Key.Attach m) h p = cc
before_falls n (Key.ChainUse a) (Key.ChainUse m) h p = cc
before_falls n (Key.Instance a) e h p = refl
before_falls n (Key.Attach a) e h p = refl

pub not_behind_falls : (n : ℕ) (d e : LowKey) → low_key_cmp d e ≡ Less → is_not_behind n e ≡ true → is_not_behind n d ≡ true
not_behind_falls n (Key.Acl a b) (Key.Acl x y) h p =
    let le : a ≤ x = no_more a x (nat_cmp b y) h in
    let most : x ≤ n = leb-true x n p in
    le-leb a n (omega (arith, le, most))
not_behind_falls n (Key.Acl a b) (Key.Instance m) h p = cc
not_behind_falls n (Key.Acl a b) (Key.Attach m) h p = cc
not_behind_falls n (Key.Acl a b) (Key.ChainUse m) h p = cc
not_behind_falls n (Key.ChainUse a) (Key.Acl x y) h p = cc
not_behind_falls n (Key.ChainUse a) (Key.Instance m) h p = cc
not_behind_falls n (Key.ChainUse a) (Key.Attach m) h p = cc
not_behind_falls n (Key.ChainUse a) (Key.ChainUse m) h p = cc
not_behind_falls n (Key.Instance a) e h p = refl
not_behind_falls n (Key.Attach a) e h p = refl

module _ (n address : ℕ) where
  abbrev Silent : Object → Type 0
  Silent e = access_by n address e.0 e.1 ≡ None

  silent_before : (k : LowKey) (v : LowValue) → is_before n k ≡ true → access_by n address k v ≡ None
  silent_before (Key.Acl from to) (Value.Acl subnets rules) h =
      let lt : from < n = ltb-true from n h in
      rw (ne_eqb from n (λ e. omega (arith, lt, e))) refl
  silent_before k v h = refl

  silent_behind : (k : LowKey) (v : LowValue) → is_not_behind n k ≡ false → access_by n address k v ≡ None
  silent_behind (Key.Acl from to) (Value.Acl subnets rules) h =
      let lt : n < from = leb-false from n h in
      rw (ne_eqb from n (λ e. omega (arith, lt, e))) refl
  silent_behind k v h = refl

  none_towards : (xs : List Object) → AllWithin Silent xs 0 (length xs) → access_towards n address xs ≡ None
  none_towards [] h = refl
  none_towards (x ∷ xs) h =
      let here : Silent x = h zero x (omega arith) (omega arith) in
      rw here (none_towards xs (λ k d lo hi. h (suc k) d (omega arith) (omega (arith, hi))))

  dropped : (k : ℕ) (xs : List Object) → AllWithin Silent xs 0 k → access_towards n address (drop k xs) ≡ access_towards n address xs
  dropped zero xs h = refl
  dropped (suc k) [] h = refl
  dropped (suc k) (x ∷ xs) h =
      let here : Silent x = h zero x (omega arith) (omega arith) in
      rw here (dropped k xs (λ j d lo hi. h (suc j) d (omega arith) (omega (arith, hi))))

  taken : (k : ℕ) (xs : List Object) → AllWithin Silent xs k (length xs) → access_towards n address (take k xs) ≡ access_towards n address xs
  taken zero xs h = sym (none_towards xs h)
  taken (suc k) [] h = refl
  taken (suc k) (x ∷ xs) h =
      ap (lesser (access_by n address x.0 x.1)) (taken k xs (λ j d lo hi. h (suc j) d (omega (arith, lo)) (omega (arith, hi))))

  pub own_lists : (first past : ℕ) (xs : List Object) → IsPartitionPoint (λ e. is_before n e.0 ≡ true) (λ e. is_before n e.0 ≡ false) xs first
      → IsPartitionPoint (λ e. is_not_behind n e.0 ≡ true) (λ e. is_not_behind n e.0 ≡ false) (drop first xs) past
      → access_towards n address (take past (drop first xs)) ≡ access_towards n address xs
  own_lists first past xs before behind =
      taken past (drop first xs) (λ k d lo hi. silent_behind _ _ (behind.1 k d lo hi)) ∙ dropped first xs (λ k d lo hi. silent_before _ _ (before.0 k d lo hi))

-- an object as an access list of a network

module _ (n a from to : ℕ) (k : LowKey) (v : LowValue) (subnets : List Block) (rules : List AclRule) (hk : k ≡ Key.Acl from to) (hv : v ≡ Value.Acl subnets rules) (here : from ≡ n) where
  spelled : access_by n a k v ≡ cond (list_any (λ p. contains p a) subnets) (Some (record { to = to; rules = rules })) None
  spelled = rw (hk, hv, eq-eqb from n here) refl

  pub left_out : false ≡ list_any (λ p. contains p a) subnets → None ≡ access_by n a k v
  left_out no_subnet = sym (spelled ∙ rw (sym no_subnet) refl)

  pub taken_in : true ≡ list_any (λ p. contains p a) subnets → (rs : List AclRule) → rs ≡ rules → Some (record { to = to; rules = rs }) ≡ access_by n a k v
  taken_in some_subnet rs same = sym (spelled ∙ rw (sym some_subnet) refl ∙ ap (λ (r : List AclRule). Some (record { to = to; rules = r })) (sym same))
