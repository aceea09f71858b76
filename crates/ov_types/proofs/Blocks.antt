-- Blocks of addresses as ranges.
use Rattle.std.proofs.Common.{◌≡◌, ℕ, ◌+◌, ◌-◌, ◌≤◌, ◌<◌, ◌&&◌, ◌↔◌, Bool, leb, ltb, IsTrue, refl, sym, ◌∙◌, arith}
use Rattle.std.proofs.lemmas.Bool.{leb-true, ltb-true, le-leb, lt-ltb, and_parts}
use Rattle.std.proofs.lemmas.Nat.{pow_pos}
use Rattle.ov_types.specs.Prefix.{Block, contains, size_of}

pub contains_from : (b : Block) (a : ℕ) → b.addr ≤ a → a < b.addr + size_of b.len → IsTrue (contains b a)
contains_from b a lo hi = rw (le-leb b.addr a lo, lt-ltb a (b.addr + size_of b.len) hi) refl

pub record Ranges (b : Block) (a : ℕ) : Type 0 where
  pub lo : b.addr ≤ a
  pub hi : a < b.addr + size_of b.len

pub ranges : (b : Block) (a : ℕ) → IsTrue (contains b a) → Ranges b a
ranges b a h =
    let p = and_parts (leb b.addr a) (ltb a (b.addr + size_of b.len)) h in
    record { lo = leb-true _ _ p.0; hi = ltb-true _ _ p.1 }

pub inside : (x y : Block) → y.addr ≤ x.addr → x.addr + size_of x.len ≤ y.addr + size_of y.len
    → (a : ℕ) → IsTrue (contains x a) → IsTrue (contains y a)
inside x y lo hi a h =
    let r = ranges x a h in
    contains_from y a (omega (arith, r.lo)) (omega (arith, r.hi))

pub begins : (x y : Block) → 0 < size_of x.len → ((a : ℕ) → IsTrue (contains x a) → IsTrue (contains y a)) → y.addr ≤ x.addr
begins x y some h = (ranges y x.addr (h x.addr (contains_from x x.addr (omega arith) (omega arith)))).lo

pub stops : (x y : Block) → 0 < size_of x.len → ((a : ℕ) → IsTrue (contains x a) → IsTrue (contains y a)) → x.addr + size_of x.len ≤ y.addr + size_of y.len
stops x y some h =
    let last : ℕ = x.addr + size_of x.len - 1 in
    let r = ranges y last (h last (contains_from x last (omega arith) (omega arith))) in
    omega (arith, r.hi)

some_inside : (len : ℕ) → 0 < size_of len
some_inside len = pow_pos (32 - len)

pub within_is : (x y : Block) (b : Bool) → b ≡ (leb y.addr x.addr && leb (x.addr + size_of x.len) (y.addr + size_of y.len))
    → IsTrue b ↔ ((a : ℕ) → IsTrue (contains x a) → IsTrue (contains y a))
within_is x y b e = (
  λ h. let p = and_parts (leb y.addr x.addr) (leb (x.addr + size_of x.len) (y.addr + size_of y.len)) (sym e ∙ h) in inside x y (leb-true _ _ p.0) (leb-true _ _ p.1),
  λ all. e ∙ rw (le-leb y.addr x.addr (begins x y (some_inside x.len) all), le-leb (x.addr + size_of x.len) (y.addr + size_of y.len) (stops x y (some_inside x.len) all)) refl,
)
