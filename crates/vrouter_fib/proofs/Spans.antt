-- Blocks of addresses and their halves.
use Rattle.std.proofs.Common.{◌≡◌, ℕ, ◌+◌, ◌-◌, ◌*◌, ◌/◌, ◌%◌, ◌^◌, ◌<◌, ◌≤◌, true, false, leb, IsTrue, refl, ap, ◌∙◌, subst, arith}
use Rattle.std.proofs.lemmas.Bool.{leb-true, leb-false, ltb-true, lt-ltb, eq-eqb, eqb-true, and_parts}
use Rattle.std.proofs.lemmas.Nat.{pow_pos, pow-add, mod-mul-add}
use Rattle.ov_types.specs.Prefix.{Block, contains, is_prefix, size_of}
use Rattle.ov_types.proofs.Blocks.{contains_from, ranges}
use Rattle.vrouter_fib.specs.Trie.{IsSpan, lower_half, upper_half}

-- a block has twice as many addresses as each of its halves
pub half_size : (len : ℕ) → len < 32 → size_of len ≡ size_of (len + 1) + size_of (len + 1)
half_size len lt =
    let e : 32 - len ≡ (32 - (len + 1)) + 1 = omega arith in
    ap (λ n. 2 ^ n) e ∙ pow-add 2 (32 - (len + 1)) 1 ∙ twice (2 ^ (32 - (len + 1)))
  where
    twice : (n : ℕ) → n * 2 ≡ n + n
    twice n = omega arith

pub some_size : (len : ℕ) → 0 < size_of len
some_size len = pow_pos (32 - len)

multiple : (q h : ℕ) → (h + h) * q ≡ (q + q) * h + 0
multiple q h = omega arith

next_multiple : (q h : ℕ) → (h + h) * q + h ≡ (q + q + 1) * h + 0
next_multiple q h = omega arith

-- what is a multiple of twice a number is one of the number, and so is the next
half_aligned : (a h : ℕ) → 0 < h → a % (h + h) ≡ 0 → (a % h ≡ 0) × ((a + h) % h ≡ 0)
half_aligned a h some r =
    let q : ℕ = a / (h + h) in
    let e : (h + h) * q + a % (h + h) ≡ a = omega arith in
    let f : a ≡ (h + h) * q = omega (arith, e, r) in (
      ap (λ n. n % h) (f ∙ multiple q h) ∙ mod-mul-add (q + q) h 0 some,
      ap (λ n. n % h) (ap (λ n. n + h) f ∙ next_multiple q h) ∙ mod-mul-add (q + q + 1) h 0 some,
    )

prefix_from : (addr len : ℕ) → len < 33 → addr % size_of len ≡ 0 → IsTrue (is_prefix addr len)
prefix_from addr len lt e = rw (lt-ltb len 33 lt, eq-eqb (addr % size_of len) 0 e) refl

pub aligned : (b : Block) → IsTrue (is_prefix b.addr b.len) → b.addr % size_of b.len ≡ 0
aligned b h = eqb-true _ _ ((and_parts _ _ h).1)

pub length_of : (addr len : ℕ) → IsTrue (is_prefix addr len) → len < 33
length_of addr len h = ltb-true _ _ ((and_parts _ _ h).0)

pub lower_span : (b : Block) → b.len < 32 → IsSpan b → IsSpan (lower_half b)
lower_span b lt s =
    let e = half_size b.len lt in
    let whole : b.addr % (size_of (b.len + 1) + size_of (b.len + 1)) ≡ 0 = subst (λ (n : ℕ). b.addr % n ≡ 0) e (aligned b s.0) in
    let fits : b.addr + size_of b.len ≤ 2 ^ 32 = s.1 in
    (prefix_from b.addr (b.len + 1) (omega arith) (half_aligned b.addr (size_of (b.len + 1)) (some_size (b.len + 1)) whole).0, omega (arith, e, fits))

pub upper_span : (b : Block) → b.len < 32 → IsSpan b → IsSpan (upper_half b)
upper_span b lt s =
    let e = half_size b.len lt in
    let whole : b.addr % (size_of (b.len + 1) + size_of (b.len + 1)) ≡ 0 = subst (λ (n : ℕ). b.addr % n ≡ 0) e (aligned b s.0) in
    let fits : b.addr + size_of b.len ≤ 2 ^ 32 = s.1 in
    (prefix_from (b.addr + size_of (b.len + 1)) (b.len + 1) (omega arith) (half_aligned b.addr (size_of (b.len + 1)) (some_size (b.len + 1)) whole).1, omega (arith, e, fits))

-- the second half begins at an address
pub upper_fits : (b : Block) → b.len < 32 → IsSpan b → b.addr + size_of (b.len + 1) < 2 ^ 32
upper_fits b lt s =
    let e = half_size b.len lt in
    let some = some_size (b.len + 1) in
    let fits : b.addr + size_of b.len ≤ 2 ^ 32 = s.1 in
    omega (arith, e, fits, some)

pub contains_upper : (b : Block) (a : ℕ) → b.len < 32 → IsTrue (contains b a) → leb (b.addr + size_of (b.len + 1)) a ≡ true → IsTrue (contains (upper_half b) a)
contains_upper b a lt h up =
    let e = half_size b.len lt in
    let r = ranges b a h in
    let hi : a < b.addr + size_of b.len = r.hi in
    contains_from (upper_half b) a (leb-true _ _ up) (omega (arith, e, hi))

pub contains_lower : (b : Block) (a : ℕ) → b.len < 32 → IsTrue (contains b a) → leb (b.addr + size_of (b.len + 1)) a ≡ false → IsTrue (contains (lower_half b) a)
contains_lower b a lt h down = contains_from (lower_half b) a (ranges b a h).lo (leb-false _ _ down)
