-- The routes of a trie in the order of their prefixes, and what a change or a walk below one node is of them.
use Rattle.std.proofs.Common.{◌≡◌, ℕ, ◌+◌, ◌<◌, ◌≤◌, ◌&&◌, Bool, true, false, cond, leb, ltb, IsTrue, List, [], ◌∷◌, ◌++◌, map, Option, Some, None, refl, sym, ap, ◌∙◌, subst, arith, append-nil}
use Rattle.std.specs.Result.{OnOk}
use Rattle.std.specs.declared.result.Result.{Result}
use Rattle.std.specs.declared.result.Result.TheVariants.{Ok, Err}
use Rattle.std.specs.declared.cmp.Ordering.{Ordering}
use Rattle.std.specs.declared.cmp.Ordering.TheVariants.{Less, Equal, Greater}
use Rattle.std.specs.BTreeMap.{insert_entry, is_at}
use Rattle.std.specs.List.{AllByRecursion}
use Rattle.std.specs.List.Sorted.{IsStrictlySortedBy}
use Rattle.std.specs.Map.{lookup, remove_entry}
use Rattle.std.specs.Option.{option_or}
use Rattle.std.specs.Ordering.{nat_cmp, match_ordering}
use Rattle.std.proofs.lemmas.Bool.{leb-true, ltb-true, ltb-false, and_parts}
use Rattle.std.proofs.lemmas.Grind.{common_steps}
use Rattle.ov_types.specs.Prefix.{Block, block_cmp, contains, is_prefix, size_of}
use Rattle.ov_types.specs.Routing.{longer, longest}
use Rattle.ov_types.specs.declared.rows.Entry.{Entry}
use Rattle.ov_types.proofs.Blocks.{contains_from, ranges}
use Rattle.vrouter_fib.specs.Trie.{IsDeep, IsIn, all_addresses, entry_or, is_deep, lower_half, own, routes_at, routes_of, upper_half}
use Rattle.vrouter_fib.specs.declared.trie.Trie.{Trie}
use Rattle.vrouter_fib.specs.declared.trie.Trie.TheVariants.{Empty, Node'}
use Rattle.vrouter_fib.proofs.LongestLemmas.{one_prefix}
use Rattle.vrouter_fib.proofs.Spans.{half_size, some_size}

abbrev pub Route : Type 0
Route = Block × Entry

-- ---- the order of prefixes

cmp_before : (p q : Block) → p.addr ≤ q.addr → p.len < q.len → block_cmp p q ≡ Less
cmp_before p q le lt = grind (arith, common_steps)

cmp_behind : (p q : Block) → q.addr ≤ p.addr → q.len < p.len → block_cmp p q ≡ Greater
cmp_behind p q le lt = grind (arith, common_steps)

cmp_less : (p q : Block) → p.addr < q.addr → block_cmp p q ≡ Less
cmp_less p q lt = grind (arith, common_steps)

cmp_greater : (p q : Block) → q.addr < p.addr → block_cmp p q ≡ Greater
cmp_greater p q lt = grind (arith, common_steps)

cmp_same : (p : Block) → block_cmp p p ≡ Equal
cmp_same p = grind (arith, common_steps)

-- ---- lists of routes around a prefix

module _ (p : Block) where
  abbrev pub Behind : Route → Type 0
  Behind r = block_cmp p r.0 ≡ Less

  abbrev Before : Route → Type 0
  Before r = block_cmp p r.0 ≡ Greater

  insert_behind : (xs ys : List Route) (v : Entry) → AllByRecursion Before xs → insert_entry block_cmp (xs ++ ys) p v ≡ xs ++ insert_entry block_cmp ys p v
  insert_behind [] ys v h = refl
  insert_behind (x ∷ xs) ys v h =
      ap (λ (o : Ordering). match_ordering o ((p, v) ∷ x ∷ (xs ++ ys)) ((x.0, v) ∷ (xs ++ ys)) (x ∷ insert_entry block_cmp (xs ++ ys) p v)) h.0
      ∙ ap (λ (l : List Route). x ∷ l) (insert_behind xs ys v h.1)

  insert_first : (ys : List Route) (v : Entry) → AllByRecursion Behind ys → insert_entry block_cmp ys p v ≡ (p, v) ∷ ys
  insert_first [] v h = refl
  insert_first (y ∷ ys) v h = ap (λ (o : Ordering). match_ordering o ((p, v) ∷ y ∷ ys) ((y.0, v) ∷ ys) (y ∷ insert_entry block_cmp ys p v)) h.0

  insert_before : (xs ys : List Route) (v : Entry) → AllByRecursion Behind ys → insert_entry block_cmp (xs ++ ys) p v ≡ insert_entry block_cmp xs p v ++ ys
  insert_before [] ys v h = insert_first ys v h
  insert_before (x ∷ xs) ys v h =
      ap (λ (l : List Route). match_ordering (block_cmp p x.0) ((p, v) ∷ x ∷ (xs ++ ys)) ((x.0, v) ∷ (xs ++ ys)) (x ∷ l)) (insert_before xs ys v h)
      ∙ inside (block_cmp p x.0)
    where
      inside : (o : Ordering) → match_ordering o ((p, v) ∷ x ∷ (xs ++ ys)) ((x.0, v) ∷ (xs ++ ys)) (x ∷ (insert_entry block_cmp xs p v ++ ys))
          ≡ match_ordering o ((p, v) ∷ x ∷ xs) ((x.0, v) ∷ xs) (x ∷ insert_entry block_cmp xs p v) ++ ys
      inside Less = refl
      inside Equal = refl
      inside Greater = refl

  abbrev pub at : Block → Bool
  at = is_at (block_cmp p)

  abbrev Apart : Route → Type 0
  Apart r = at r.0 ≡ false

  before_apart : (xs : List Route) → AllByRecursion Before xs → AllByRecursion Apart xs
  before_apart [] h = tt
  before_apart (x ∷ xs) h = (ap Rattle.std.specs.Ordering.is_eq h.0, before_apart xs h.1)

  behind_apart : (xs : List Route) → AllByRecursion Behind xs → AllByRecursion Apart xs
  behind_apart [] h = tt
  behind_apart (x ∷ xs) h = (ap Rattle.std.specs.Ordering.is_eq h.0, behind_apart xs h.1)

  remove_behind : (xs ys : List Route) → AllByRecursion Apart xs → remove_entry at (xs ++ ys) ≡ xs ++ remove_entry at ys
  remove_behind [] ys h = refl
  remove_behind (x ∷ xs) ys h =
      ap (λ (b : Bool). cond b (xs ++ ys) (x ∷ remove_entry at (xs ++ ys))) h.0 ∙ ap (λ (l : List Route). x ∷ l) (remove_behind xs ys h.1)

  remove_none : (ys : List Route) → AllByRecursion Apart ys → remove_entry at ys ≡ ys
  remove_none [] h = refl
  remove_none (y ∷ ys) h = ap (λ (b : Bool). cond b ys (y ∷ remove_entry at ys)) h.0 ∙ ap (λ (l : List Route). y ∷ l) (remove_none ys h.1)

  remove_before : (xs ys : List Route) → AllByRecursion Apart ys → remove_entry at (xs ++ ys) ≡ remove_entry at xs ++ ys
  remove_before [] ys h = remove_none ys h
  remove_before (x ∷ xs) ys h =
      ap (λ (l : List Route). cond (at x.0) (xs ++ ys) (x ∷ l)) (remove_before xs ys h) ∙ inside (at x.0)
    where
      inside : (b : Bool) → cond b (xs ++ ys) (x ∷ (remove_entry at xs ++ ys)) ≡ cond b xs (x ∷ remove_entry at xs) ++ ys
      inside true = refl
      inside false = refl

  lookup_behind : (xs ys : List Route) → AllByRecursion Apart xs → lookup at (xs ++ ys) ≡ lookup at ys
  lookup_behind [] ys h = refl
  lookup_behind (x ∷ xs) ys h = ap (λ (b : Bool). cond b (Some x.1) (lookup at (xs ++ ys))) h.0 ∙ lookup_behind xs ys h.1

  lookup_none : (ys : List Route) → AllByRecursion Apart ys → lookup at ys ≡ None
  lookup_none [] h = refl
  lookup_none (y ∷ ys) h = ap (λ (b : Bool). cond b (Some y.1) (lookup at ys)) h.0 ∙ lookup_none ys h.1

  lookup_before : (xs ys : List Route) → AllByRecursion Apart ys → lookup at (xs ++ ys) ≡ lookup at xs
  lookup_before [] ys h = lookup_none ys h
  lookup_before (x ∷ xs) ys h = ap (λ (o : Option Entry). cond (at x.0) (Some x.1) o) (lookup_before xs ys h)

-- ---- lists of routes around an address

module _ (a : ℕ) where
  abbrev Misses : Route → Type 0
  Misses r = contains r.0 a ≡ false

  longest_behind : (xs ys : List Route) → AllByRecursion Misses xs → longest a (xs ++ ys) ≡ longest a ys
  longest_behind [] ys h = refl
  longest_behind (x ∷ xs) ys h =
      ap (λ (b : Bool). cond b (longer x (longest a (xs ++ ys))) (longest a (xs ++ ys))) h.0 ∙ longest_behind xs ys h.1

  longest_none : (ys : List Route) → AllByRecursion Misses ys → longest a ys ≡ None
  longest_none [] h = refl
  longest_none (y ∷ ys) h = ap (λ (b : Bool). cond b (longer y (longest a ys)) (longest a ys)) h.0 ∙ longest_none ys h.1

  longest_before : (xs ys : List Route) → AllByRecursion Misses ys → longest a (xs ++ ys) ≡ longest a xs
  longest_before [] ys h = longest_none ys h
  longest_before (x ∷ xs) ys h = ap (λ (o : Option Route). cond (contains x.0 a) (longer x o) o) (longest_before xs ys h)

  -- what is the longest of routes that are all longer than a length is longer
  longest_long : (n : ℕ) (xs : List Route) (r : Route) → AllByRecursion (λ (r : Route). n < r.0.len) xs → longest a xs ≡ Some r → n < r.0.len
  longest_long n [] r h e = cc
  longest_long n (x ∷ xs) r h e =
      elim (contains x.0 a) as (λ (b : Bool). cond b (longer x (longest a xs)) (longest a xs) ≡ Some r → n < r.0.len) [
        | true ↦ λ e. elim (longest a xs) as (λ (o : Option Route). longest a xs ≡ o → longer x o ≡ Some r → n < r.0.len) [
          | None ↦ λ o e. let same : x ≡ r = cc in subst (λ (y : Route). n < y.0.len) same h.0
          | Some s ↦ λ o e. of_two x s r h.0 (longest_long n xs s h.1 o) e
        ] refl e
        | false ↦ λ e. longest_long n xs r h.1 e
      ] e
    where
      of_two : (x s r : Route) → n < x.0.len → n < s.0.len → longer x (Some s) ≡ Some r → n < r.0.len
      of_two x s r hx hs e =
          elim (leb s.0.len x.0.len) as (λ (b : Bool). cond b (Some x) (Some s) ≡ Some r → n < r.0.len) [
            | true ↦ λ e. let same : x ≡ r = cc in subst (λ (y : Route). n < y.0.len) same hx
            | false ↦ λ e. let same : s ≡ r = cc in subst (λ (y : Route). n < y.0.len) same hs
          ] e

  -- a block's own route counts where none of the longer ones contains the address
  longest_own : (b : Block) (e best : Option Entry) (xs : List Route) → IsTrue (contains b a) → AllByRecursion (λ (r : Route). b.len < r.0.len) xs
      → entry_or (longest a (own b e ++ xs)) best ≡ entry_or (longest a xs) (option_or e best)
  longest_own b None best xs h long = refl
  longest_own b (Some e) best xs h long =
      ap (λ (t : Bool). entry_or (cond t (longer (b, e) (longest a xs)) (longest a xs)) best) h
      ∙ (elim (longest a xs) as (λ (o : Option Route). longest a xs ≡ o → entry_or (longer (b, e) o) best ≡ entry_or o (Some e)) [
        | None ↦ λ o. refl
        | Some s ↦ λ o.
            let lt : b.len < s.0.len = longest_long b.len xs s long o in
            let not_up : leb s.0.len b.len ≡ false = grind (arith, common_steps) in
            ap (λ (t : Bool). entry_or (cond t (Some (b, e)) (Some s)) best) not_up
      ] refl)

-- ---- where the routes of a trie lie

pub record Lies (b : Block) (r : Route) : Type 0 where
  pub lo : b.addr ≤ r.0.addr
  pub hi : r.0.addr + size_of r.0.len ≤ b.addr + size_of b.len
  pub long : b.len ≤ r.0.len

all_append : (P : Route → Type 0) (xs ys : List Route) → AllByRecursion P xs → AllByRecursion P ys → AllByRecursion P (xs ++ ys)
all_append P [] ys hx hy = hy
all_append P (x ∷ xs) ys hx hy = (hx.0, all_append P xs ys hx.1 hy)

all_map : (P Q : Route → Type 0) → ((r : Route) → P r → Q r) → (xs : List Route) → AllByRecursion P xs → AllByRecursion Q xs
all_map P Q f [] h = tt
all_map P Q f (x ∷ xs) h = (f x h.0, all_map P Q f xs h.1)

-- below a block of one address there is nothing
pub nothing_below : (t : Trie) (len : ℕ) (b : Block) → 32 < len → IsDeep t len → routes_at t b ≡ []
nothing_below Empty len b lt h = refl
nothing_below (Node' p e l u) len b lt h = let le : len ≤ 32 = leb-true _ _ ((and_parts _ _ h).0) in absurd (omega (arith, le, lt))

pub record DeepParts (t u : Trie) (len : ℕ) : Type 0 where
  pub most : len ≤ 32
  pub lower : IsDeep t (len + 1)
  pub upper : IsDeep u (len + 1)

pub deep_parts : (t u : Trie) (len : ℕ) → IsTrue (leb len 32 && (is_deep t (len + 1) && is_deep u (len + 1))) → DeepParts t u len
deep_parts t u len h =
    let first = and_parts _ _ h in
    let then = and_parts _ _ first.1 in
    record { most = leb-true _ _ first.0; lower = then.0; upper = then.1 }

lies_own : (b : Block) (e : Option Entry) → AllByRecursion (Lies b) (own b e)
lies_own b None = tt
lies_own b (Some e) = (record { lo = omega arith; hi = omega arith; long = omega arith }, tt)

wider_lower : (b : Block) → b.len < 32 → (r : Route) → Lies (lower_half b) r → Lies b r
wider_lower b lt r h =
    let e = half_size b.len lt in
    record { lo = h.lo; hi = (let hi : r.0.addr + size_of r.0.len ≤ b.addr + size_of (b.len + 1) = h.hi in omega (arith, e, hi)); long = (let le : b.len + 1 ≤ r.0.len = h.long in omega (arith, le)) }

wider_upper : (b : Block) → b.len < 32 → (r : Route) → Lies (upper_half b) r → Lies b r
wider_upper b lt r h =
    let e = half_size b.len lt in
    record {
      lo = (let lo : b.addr + size_of (b.len + 1) ≤ r.0.addr = h.lo in omega (arith, lo));
      hi = (let hi : r.0.addr + size_of r.0.len ≤ b.addr + size_of (b.len + 1) + size_of (b.len + 1) = h.hi in omega (arith, e, hi));
      long = (let le : b.len + 1 ≤ r.0.len = h.long in omega (arith, le));
    }

pub lies : (t : Trie) (b : Block) → IsDeep t b.len → AllByRecursion (Lies b) (routes_at t b)
lies Empty b deep = tt
lies (Node' p e l u) b deep =
    let parts = deep_parts l u b.len deep in
    all_append (Lies b) (own b e) (routes_at l (lower_half b) ++ routes_at u (upper_half b)) (lies_own b e)
    (elim (ltb b.len 32) as (λ (t : Bool). ltb b.len 32 ≡ t → AllByRecursion (Lies b) (routes_at l (lower_half b) ++ routes_at u (upper_half b))) [
      | true ↦ λ s.
          let lt : b.len < 32 = ltb-true _ _ s in
          all_append (Lies b) (routes_at l (lower_half b)) (routes_at u (upper_half b))
          (all_map (Lies (lower_half b)) (Lies b) (wider_lower b lt) (routes_at l (lower_half b)) (lies l (lower_half b) parts.lower))
          (all_map (Lies (upper_half b)) (Lies b) (wider_upper b lt) (routes_at u (upper_half b)) (lies u (upper_half b) parts.upper))
      | false ↦ λ s.
          let ge : 32 ≤ b.len = ltb-false _ _ s in
          subst (λ (xs : List Route). AllByRecursion (Lies b) (xs ++ routes_at u (upper_half b))) (sym (nothing_below l (b.len + 1) (lower_half b) (omega (arith, ge)) parts.lower))
          (subst (λ (xs : List Route). AllByRecursion (Lies b) xs) (sym (nothing_below u (b.len + 1) (upper_half b) (omega (arith, ge)) parts.upper)) tt)
    ] refl)

-- ---- a node

module _ (b : Block) (e : Option Entry) (l u : Trie) (dl : IsDeep l (b.len + 1)) (du : IsDeep u (b.len + 1)) where
  abbrev L : List Route
  L = routes_at l (lower_half b)

  abbrev U : List Route
  U = routes_at u (upper_half b)

  lies_l : AllByRecursion (Lies (lower_half b)) L
  lies_l = lies l (lower_half b) dl

  lies_u : AllByRecursion (Lies (upper_half b)) U
  lies_u = lies u (upper_half b) du

  -- the routes below a node come behind its own
  first_lower : AllByRecursion (Behind b) L
  first_lower = all_map (Lies (lower_half b)) (Behind b) (λ r h. let le : b.len + 1 ≤ r.0.len = h.long in cmp_before b r.0 h.lo (omega (arith, le))) L lies_l

  first_upper : AllByRecursion (Behind b) U
  first_upper = all_map (Lies (upper_half b)) (Behind b)
      (λ r h. let le : b.len + 1 ≤ r.0.len = h.long in let lo : b.addr + size_of (b.len + 1) ≤ r.0.addr = h.lo in cmp_before b r.0 (omega (arith, lo)) (omega (arith, le))) U lies_u

  first_both : AllByRecursion (Behind b) (L ++ U)
  first_both = all_append (Behind b) L U first_lower first_upper

  longer_both : AllByRecursion (λ (r : Route). b.len < r.0.len) (L ++ U)
  longer_both = all_append (λ (r : Route). b.len < r.0.len) L U
      (all_map (Lies (lower_half b)) (λ (r : Route). b.len < r.0.len) (λ r h. let le : b.len + 1 ≤ r.0.len = h.long in omega (arith, le)) L lies_l)
      (all_map (Lies (upper_half b)) (λ (r : Route). b.len < r.0.len) (λ r h. let le : b.len + 1 ≤ r.0.len = h.long in omega (arith, le)) U lies_u)

  -- a prefix that begins in the second half comes behind those of the first
  past_lower : (p : Block) → b.addr + size_of (b.len + 1) ≤ p.addr → AllByRecursion (Before p) L
  past_lower p up = all_map (Lies (lower_half b)) (Before p)
      (λ r h. let hi : r.0.addr + size_of r.0.len ≤ b.addr + size_of (b.len + 1) = h.hi in let some = some_size r.0.len in cmp_greater p r.0 (omega (arith, up, hi, some))) L lies_l

  -- one that begins in the first half comes before those of the second
  ahead_upper : (p : Block) → p.addr < b.addr + size_of (b.len + 1) → AllByRecursion (Behind p) U
  ahead_upper p down = all_map (Lies (upper_half b)) (Behind p)
      (λ r h. let lo : b.addr + size_of (b.len + 1) ≤ r.0.addr = h.lo in cmp_less p r.0 (omega (arith, down, lo))) U lies_u

  own_before : (p : Block) → b.addr ≤ p.addr → b.len < p.len → (o : Option Entry) → AllByRecursion (Before p) (own b o)
  own_before p lo long None = tt
  own_before p lo long (Some x) = (cmp_behind p b lo long, tt)

  -- ---- changes
  pub set_here : (v : Entry) → own b (Some v) ++ (L ++ U) ≡ insert_entry block_cmp (own b e ++ (L ++ U)) b v
  set_here v = elim e as (λ (o : Option Entry). (b, v) ∷ (L ++ U) ≡ insert_entry block_cmp (own b o ++ (L ++ U)) b v) [
    | None ↦ sym (insert_first b (L ++ U) v first_both)
    | Some x ↦ sym (ap (λ (c : Ordering). match_ordering c ((b, v) ∷ (b, x) ∷ (L ++ U)) ((b, v) ∷ (L ++ U)) ((b, x) ∷ insert_entry block_cmp (L ++ U) b v)) (cmp_same b))
  ]

  pub set_upper : (p : Block) (v : Entry) → b.addr ≤ p.addr → b.len < p.len → b.addr + size_of (b.len + 1) ≤ p.addr
      → insert_entry block_cmp (own b e ++ (L ++ U)) p v ≡ own b e ++ (L ++ insert_entry block_cmp U p v)
  set_upper p v lo long up =
      insert_behind p (own b e) (L ++ U) v (own_before p lo long e) ∙ ap (λ (xs : List Route). own b e ++ xs) (insert_behind p L U v (past_lower p up))

  pub set_lower : (p : Block) (v : Entry) → b.addr ≤ p.addr → b.len < p.len → p.addr < b.addr + size_of (b.len + 1)
      → insert_entry block_cmp (own b e ++ (L ++ U)) p v ≡ own b e ++ (insert_entry block_cmp L p v ++ U)
  set_lower p v lo long down =
      insert_behind p (own b e) (L ++ U) v (own_before p lo long e) ∙ ap (λ (xs : List Route). own b e ++ xs) (insert_before p L U v (ahead_upper p down))

  pub remove_here : L ++ U ≡ remove_entry (at b) (own b e ++ (L ++ U))
  remove_here = elim e as (λ (o : Option Entry). L ++ U ≡ remove_entry (at b) (own b o ++ (L ++ U))) [
    | None ↦ sym (remove_none b (L ++ U) (behind_apart b (L ++ U) first_both))
    | Some x ↦ sym (ap (λ (c : Ordering). cond (Rattle.std.specs.Ordering.is_eq c) (L ++ U) ((b, x) ∷ remove_entry (at b) (L ++ U))) (cmp_same b))
  ]

  pub remove_upper : (p : Block) → b.addr ≤ p.addr → b.len < p.len → b.addr + size_of (b.len + 1) ≤ p.addr
      → remove_entry (at p) (own b e ++ (L ++ U)) ≡ own b e ++ (L ++ remove_entry (at p) U)
  remove_upper p lo long up =
      remove_behind p (own b e) (L ++ U) (before_apart p (own b e) (own_before p lo long e))
      ∙ ap (λ (xs : List Route). own b e ++ xs) (remove_behind p L U (before_apart p L (past_lower p up)))

  pub remove_lower : (p : Block) → b.addr ≤ p.addr → b.len < p.len → p.addr < b.addr + size_of (b.len + 1)
      → remove_entry (at p) (own b e ++ (L ++ U)) ≡ own b e ++ (remove_entry (at p) L ++ U)
  remove_lower p lo long down =
      remove_behind p (own b e) (L ++ U) (before_apart p (own b e) (own_before p lo long e))
      ∙ ap (λ (xs : List Route). own b e ++ xs) (remove_before p L U (behind_apart p U (ahead_upper p down)))

  -- ---- walks
  pub get_here : e ≡ lookup (at b) (own b e ++ (L ++ U))
  get_here = elim e as (λ (o : Option Entry). o ≡ lookup (at b) (own b o ++ (L ++ U))) [
    | None ↦ sym (lookup_none b (L ++ U) (behind_apart b (L ++ U) first_both))
    | Some x ↦ sym (ap (λ (c : Ordering). cond (Rattle.std.specs.Ordering.is_eq c) (Some x) (lookup (at b) (L ++ U))) (cmp_same b))
  ]

  pub get_upper : (p : Block) → b.addr ≤ p.addr → b.len < p.len → b.addr + size_of (b.len + 1) ≤ p.addr
      → lookup (at p) (own b e ++ (L ++ U)) ≡ lookup (at p) U
  get_upper p lo long up =
      lookup_behind p (own b e) (L ++ U) (before_apart p (own b e) (own_before p lo long e)) ∙ lookup_behind p L U (before_apart p L (past_lower p up))

  pub get_lower : (p : Block) → b.addr ≤ p.addr → b.len < p.len → p.addr < b.addr + size_of (b.len + 1)
      → lookup (at p) (own b e ++ (L ++ U)) ≡ lookup (at p) L
  get_lower p lo long down =
      lookup_behind p (own b e) (L ++ U) (before_apart p (own b e) (own_before p lo long e)) ∙ lookup_before p L U (behind_apart p U (ahead_upper p down))

  misses_lower : (a : ℕ) → b.addr + size_of (b.len + 1) ≤ a → AllByRecursion (Misses a) L
  misses_lower a up = all_map (Lies (lower_half b)) (Misses a)
      (λ r h. let hi : r.0.addr + size_of r.0.len ≤ b.addr + size_of (b.len + 1) = h.hi in past r.0 a (omega (arith, up, hi))) L lies_l
    where
      past : (q : Block) (a : ℕ) → q.addr + size_of q.len ≤ a → contains q a ≡ false
      past q a le = grind (arith, common_steps)

  misses_upper : (a : ℕ) → a < b.addr + size_of (b.len + 1) → AllByRecursion (Misses a) U
  misses_upper a down = all_map (Lies (upper_half b)) (Misses a)
      (λ r h. let lo : b.addr + size_of (b.len + 1) ≤ r.0.addr = h.lo in ahead r.0 a (omega (arith, down, lo))) U lies_u
    where
      ahead : (q : Block) (a : ℕ) → a < q.addr → contains q a ≡ false
      ahead q a lt = grind (arith, common_steps)

  pub lookup_upper : (a : ℕ) (best : Option Entry) → IsTrue (contains b a) → b.addr + size_of (b.len + 1) ≤ a
      → entry_or (longest a (own b e ++ (L ++ U))) best ≡ entry_or (longest a U) (option_or e best)
  lookup_upper a best h up =
      longest_own a b e best (L ++ U) h longer_both ∙ ap (λ (o : Option Route). entry_or o (option_or e best)) (longest_behind a L U (misses_lower a up))

  pub lookup_lower : (a : ℕ) (best : Option Entry) → IsTrue (contains b a) → a < b.addr + size_of (b.len + 1)
      → entry_or (longest a (own b e ++ (L ++ U))) best ≡ entry_or (longest a L) (option_or e best)
  lookup_lower a best h down =
      longest_own a b e best (L ++ U) h longer_both ∙ ap (λ (o : Option Route). entry_or o (option_or e best)) (longest_before a L U (misses_upper a down))

  -- a block of one address
  pub alone : 32 ≤ b.len → own b e ++ (L ++ U) ≡ own b e ++ []
  alone ge =
      ap (λ (xs : List Route). own b e ++ (xs ++ U)) (nothing_below l (b.len + 1) (lower_half b) (omega (arith, ge)) dl)
      ∙ ap (λ (xs : List Route). own b e ++ xs) (nothing_below u (b.len + 1) (upper_half b) (omega (arith, ge)) du)

  pub lookup_alone : (a : ℕ) (best : Option Entry) → IsTrue (contains b a) → 32 ≤ b.len
      → entry_or (longest a (own b e ++ (L ++ U))) best ≡ option_or e best
  lookup_alone a best h ge =
      ap (λ (xs : List Route). entry_or (longest a xs) best) (alone ge) ∙ longest_own a b e best [] h tt

-- a prefix that begins in a block of its own length is the block
pub same_prefix : (b p : Block) → IsTrue (is_prefix b.addr b.len) → IsTrue (is_prefix p.addr p.len) → IsTrue (contains b p.addr) → b.len ≡ p.len → p ≡ b
same_prefix b p hb hp inside e =
    let some = some_size p.len in
    one_prefix p.addr p b hp hb (sym e) (contains_from p p.addr (omega arith) (omega (arith, some))) inside

-- ---- the routes ascend

abbrev pub Rising : List Route → Type 0
Rising [] = Unit {0}
Rising (x ∷ xs) = AllByRecursion (Behind x.0) xs × Rising xs

rising_append : (xs ys : List Route) → Rising xs → Rising ys → AllByRecursion (λ (x : Route). AllByRecursion (Behind x.0) ys) xs → Rising (xs ++ ys)
rising_append [] ys hx hy h = hy
rising_append (x ∷ xs) ys hx hy h = (all_append (Behind x.0) xs ys hx.0 h.0, rising_append xs ys hx.1 hy h.1)

pub rising : (t : Trie) (b : Block) → IsDeep t b.len → Rising (routes_at t b)
rising Empty b deep = tt
rising (Node' p e l u) b deep =
    let parts = deep_parts l u b.len deep in
    let L : List Route = routes_at l (lower_half b) in
    let U : List Route = routes_at u (upper_half b) in
    let both : Rising (L ++ U) = rising_append L U (rising l (lower_half b) parts.lower) (rising u (upper_half b) parts.upper)
    (all_map (Lies (lower_half b)) (λ (x : Route). AllByRecursion (Behind x.0) U)
    (λ r h. let hi : r.0.addr + size_of r.0.len ≤ b.addr + size_of (b.len + 1) = h.hi in let some = some_size r.0.len in
    ahead_upper b e l u parts.lower parts.upper r.0 (omega (arith, hi, some))) L (lies l (lower_half b) parts.lower)) in
    elim e as (λ (o : Option Entry). Rising (own b o ++ (L ++ U))) [
      | None ↦ both
      | Some x ↦ (first_both b e l u parts.lower parts.upper, both)
    ]

keys_behind : (k : Block) (xs : List Route) → AllByRecursion (Behind k) xs → AllByRecursion (λ (q : Block). block_cmp k q ≡ Less) (map (λ (r : Route). r.0) xs)
keys_behind k [] h = tt
keys_behind k (x ∷ xs) h = (h.0, keys_behind k xs h.1)

pub ascending : (xs : List Route) → Rising xs → IsStrictlySortedBy block_cmp (map (λ (r : Route). r.0) xs)
unfolding IsStrictlySortedBy
ascending [] h = tt
ascending (x ∷ xs) h = (keys_behind x.0 xs h.0, ascending xs h.1)

-- ---- walks, from what the code sees of a node

module _ (b p : Block) (e : Option Entry) (l u : Trie) (deep : IsTrue (leb b.len 32 && (is_deep l (b.len + 1) && is_deep u (b.len + 1)))) where
  parts : DeepParts l u b.len
  parts = deep_parts l u b.len deep

  abbrev pub all_of : List Route
  all_of = own b e ++ (routes_at l (lower_half b) ++ routes_at u (upper_half b))

  begins : IsIn b p → b.addr ≤ p.addr
  begins inside = (ranges b p.addr inside.0).lo

  pub get_here_is : p ≡ b → e ≡ lookup (at p) all_of
  get_here_is same = get_here b e l u parts.lower parts.upper ∙ ap (λ (q : Block). lookup (at q) all_of) (sym same)

  pub get_upper_is : IsIn b p → b.len < p.len → b.addr + size_of (b.len + 1) ≤ p.addr → lookup (at p) all_of ≡ lookup (at p) (routes_at u (upper_half b))
  get_upper_is inside long up = get_upper b e l u parts.lower parts.upper p (begins inside) long up

  pub get_lower_is : IsIn b p → b.len < p.len → p.addr < b.addr + size_of (b.len + 1) → lookup (at p) all_of ≡ lookup (at p) (routes_at l (lower_half b))
  get_lower_is inside long down = get_lower b e l u parts.lower parts.upper p (begins inside) long down

  pub set_here_is : (v : Entry) → p ≡ b → own b (Some v) ++ (routes_at l (lower_half b) ++ routes_at u (upper_half b)) ≡ insert_entry block_cmp all_of p v
  set_here_is v same = set_here b e l u parts.lower parts.upper v ∙ ap (λ (q : Block). insert_entry block_cmp all_of q v) (sym same)

  pub set_upper_is : (v : Entry) (new : Trie) → IsIn b p → b.len < p.len → b.addr + size_of (b.len + 1) ≤ p.addr
      → routes_at new (upper_half b) ≡ insert_entry block_cmp (routes_at u (upper_half b)) p v
      → own b e ++ (routes_at l (lower_half b) ++ routes_at new (upper_half b)) ≡ insert_entry block_cmp all_of p v
  set_upper_is v new inside long up h =
      ap (λ (xs : List Route). own b e ++ (routes_at l (lower_half b) ++ xs)) h ∙ sym (set_upper b e l u parts.lower parts.upper p v (begins inside) long up)

  pub set_lower_is : (v : Entry) (new : Trie) → IsIn b p → b.len < p.len → p.addr < b.addr + size_of (b.len + 1)
      → routes_at new (lower_half b) ≡ insert_entry block_cmp (routes_at l (lower_half b)) p v
      → own b e ++ (routes_at new (lower_half b) ++ routes_at u (upper_half b)) ≡ insert_entry block_cmp all_of p v
  set_lower_is v new inside long down h =
      ap (λ (xs : List Route). own b e ++ (xs ++ routes_at u (upper_half b))) h ∙ sym (set_lower b e l u parts.lower parts.upper p v (begins inside) long down)

  pub remove_here_is : p ≡ b → routes_at l (lower_half b) ++ routes_at u (upper_half b) ≡ remove_entry (at p) all_of
  remove_here_is same = remove_here b e l u parts.lower parts.upper ∙ ap (λ (q : Block). remove_entry (at q) all_of) (sym same)

  pub remove_upper_is : (new : Trie) → IsIn b p → b.len < p.len → b.addr + size_of (b.len + 1) ≤ p.addr
      → routes_at new (upper_half b) ≡ remove_entry (at p) (routes_at u (upper_half b))
      → own b e ++ (routes_at l (lower_half b) ++ routes_at new (upper_half b)) ≡ remove_entry (at p) all_of
  remove_upper_is new inside long up h =
      ap (λ (xs : List Route). own b e ++ (routes_at l (lower_half b) ++ xs)) h ∙ sym (remove_upper b e l u parts.lower parts.upper p (begins inside) long up)

  pub remove_lower_is : (new : Trie) → IsIn b p → b.len < p.len → p.addr < b.addr + size_of (b.len + 1)
      → routes_at new (lower_half b) ≡ remove_entry (at p) (routes_at l (lower_half b))
      → own b e ++ (routes_at new (lower_half b) ++ routes_at u (upper_half b)) ≡ remove_entry (at p) all_of
  remove_lower_is new inside long down h =
      ap (λ (xs : List Route). own b e ++ (xs ++ routes_at u (upper_half b))) h ∙ sym (remove_lower b e l u parts.lower parts.upper p (begins inside) long down)

module _ (b : Block) (e best : Option Entry) (l u : Trie) (a : ℕ) (deep : IsTrue (leb b.len 32 && (is_deep l (b.len + 1) && is_deep u (b.len + 1)))) where
  halves : DeepParts l u b.len
  halves = deep_parts l u b.len deep

  pub lookup_upper_is : IsTrue (contains b a) → b.addr + size_of (b.len + 1) ≤ a
      → entry_or (longest a (routes_at u (upper_half b))) (option_or e best) ≡ entry_or (longest a (own b e ++ (routes_at l (lower_half b) ++ routes_at u (upper_half b)))) best
  lookup_upper_is h up = sym (lookup_upper b e l u halves.lower halves.upper a best h up)

  pub lookup_lower_is : IsTrue (contains b a) → a < b.addr + size_of (b.len + 1)
      → entry_or (longest a (routes_at l (lower_half b))) (option_or e best) ≡ entry_or (longest a (own b e ++ (routes_at l (lower_half b) ++ routes_at u (upper_half b)))) best
  lookup_lower_is h down = sym (lookup_lower b e l u halves.lower halves.upper a best h down)

  pub lookup_alone_is : IsTrue (contains b a) → 32 ≤ b.len
      → option_or e best ≡ entry_or (longest a (own b e ++ (routes_at l (lower_half b) ++ routes_at u (upper_half b)))) best
  lookup_alone_is h ge = sym (lookup_alone b e l u halves.lower halves.upper a best h ge)

  pub listed_alone : 32 ≤ b.len → own b e ≡ own b e ++ (routes_at l (lower_half b) ++ routes_at u (upper_half b))
  listed_alone ge = sym (append-nil (own b e)) ∙ sym (alone b e l u halves.lower halves.upper ge)

pub on_ok : {T E : Type 0} (r : Result T E) (P Q : Type 0) → (P → Q) → OnOk r P → OnOk r Q
on_ok (Ok x) P Q f h = f h
on_ok (Err x) P Q f h = h

pub whole_rises : (t : Trie) → IsDeep t 0 → IsStrictlySortedBy block_cmp (map (λ (r : Route). r.0) (routes_of t))
unfolding routes_of
whole_rises t deep = ascending (routes_at t all_addresses) (rising t all_addresses deep)
