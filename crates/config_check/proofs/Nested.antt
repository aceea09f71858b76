-- Of two prefixes that hold one address, one is inside the other.
use Rattle.std.proofs.Common.{◌≡◌, ℕ, ◌+◌, ◌-◌, ◌*◌, ◌/◌, ◌%◌, ◌^◌, ◌≤◌, ◌<◌, ◌==◌, inl, inr, ltb, nat_lt, true, IsTrue, ap, ◌∙◌, arith}
use Rattle.std.proofs.Math.Nat.{mul-add, mul-one, mul_assoc, mul-le-mul_left, lt_of_mul-lt-mul_left, div-add-mod}
use Rattle.std.proofs.lemmas.Bool.{cases_lt, and_parts, eqb-true, ltb-true}
use Rattle.std.proofs.lemmas.Nat.{pow-add}
use Rattle.ov_types.specs.Prefix.{Block, is_block, is_prefix, contains, size_of}
use Rattle.ov_types.proofs.Blocks.{Ranges, ranges, inside}
use Rattle.config_check.specs.Sentences.{IsWithin, Overlap}

-- a range of numbers lies in another
record LiesIn (start size other_start other_size : ℕ) : Type 0 where
  pub from : other_start ≤ start
  pub to : start + size ≤ other_start + other_size

-- the range at a multiple of s lies in one that holds a number of it, at a multiple of m times s
lies_in : (s m u v a start other_start other_size : ℕ) → start ≡ s * u → other_size ≡ s * m → other_start ≡ other_size * v
    → start ≤ a → a < start + s → other_start ≤ a → a < other_start + other_size → LiesIn start s other_start other_size
lies_in s m u v a start other_start other_size at_u size_is at_v lo hi other_lo other_hi =
    let w : ℕ = m * v in
    let at_w : other_start ≡ s * w = at_v ∙ ap (λ k. k * v) size_is ∙ mul_assoc s m v in
    let one_more : s * (u + 1) ≡ s * u + s = mul-add s u 1 ∙ ap (λ k. s * u + k) (mul-one s) in
    let all_more : s * (w + m) ≡ s * w + s * m = mul-add s w m in
    let starts_below : s * w < s * (u + 1) = omega arith in
    let ends_above : s * u < s * (w + m) = omega arith in
    let start_below : w < u + 1 = lt_of_mul-lt-mul_left s starts_below in
    let end_above : u < w + m = lt_of_mul-lt-mul_left s ends_above in
    let from_is : s * w ≤ s * u = mul-le-mul_left s (omega arith) in
    let to_is : s * (u + 1) ≤ s * (w + m) = mul-le-mul_left s (omega arith) in
    record { from = omega arith; to = omega arith }

-- the address of a prefix is a multiple of its size
record Aligned (b : Block) : Type 0 where
  pub short : b.len < 33
  pub multiple : b.addr ≡ size_of b.len * (b.addr / size_of b.len)

aligned : (b : Block) → IsTrue (is_block b) → Aligned b
aligned b h =
    let prefix = and_parts (is_prefix b.addr b.len) (nat_lt b.addr (2 ^ 32)) h in
    let parts = and_parts (ltb b.len 33) (b.addr % size_of b.len == 0) prefix.0 in
    let none_left : b.addr % size_of b.len ≡ 0 = eqb-true _ _ parts.1 in
    let whole : size_of b.len * (b.addr / size_of b.len) + b.addr % size_of b.len ≡ b.addr = div-add-mod b.addr (size_of b.len) in
    record { short = ltb-true _ _ parts.0; multiple = omega arith }

larger : (long short : ℕ) → long < 33 → short ≤ long → size_of short ≡ size_of long * 2 ^ (long - short)
larger long short fits le =
    let bits : 32 - short ≡ (32 - long) + (long - short) = omega arith in
    ap (λ k. 2 ^ k) bits ∙ pow-add 2 (32 - long) (long - short)

within_larger : (x y : Block) (a : ℕ) → Aligned x → Aligned y → y.len ≤ x.len → Ranges x a → Ranges y a → IsWithin x y
within_larger x y a p q le in_x in_y =
    let l = lies_in (size_of x.len) (2 ^ (x.len - y.len)) (x.addr / size_of x.len) (y.addr / size_of y.len) a x.addr y.addr (size_of y.len)
    p.multiple (larger x.len y.len p.short le) q.multiple in_x.lo in_x.hi in_y.lo in_y.hi in
    inside x y l.from l.to

-- two prefixes that hold one address overlap
pub overlap_at : (x y : Block) (a : ℕ) → IsTrue (is_block x) → IsTrue (is_block y) → contains x a ≡ true → contains y a ≡ true → Overlap x y
overlap_at x y a p q in_x in_y =
    elim (cases_lt x.len y.len) [
      | inl lt ↦ inr (within_larger y x a (aligned y q) (aligned x p) (omega arith) (ranges y a in_y) (ranges x a in_x))
      | inr le ↦ inl (within_larger x y a (aligned x p) (aligned y q) le (ranges x a in_x) (ranges y a in_y))
    ]
