-- What entries ask has its form.
use Rattle.std.proofs.Common.{◌≡◌, ◌≤◌, ◌+◌, ◌-◌, ◌*◌, ◌/◌, ◌%◌, ◌^◌, ◌==◌, ◌⊎◌, inl, inr, ℕ, List, [], ◌∷◌, ◌++◌, drop, map, ap, sym, ◌∙◌, arith, IsTrue}
use Rattle.std.specs.List.{AllByRecursion}
use Rattle.std.proofs.lemmas.Bool.{and_parts, or_cases, leb-true, eqb-true}
use Rattle.std.proofs.lemmas.Nat.{pow-add}
use Rattle.std.proofs.lemmas.List.{nil_from_length}
use Rattle.std.proofs.Math.Nat.{mul-mod_left, add-mul, mul_assoc}
use Rattle.byteorder.specs.Endian.{big_number}
use Rattle.bgp_vpn.specs.Routes.{RouteFields}
use Rattle.rt_membership.specs.Asked.{is_length, number_of, IsAsked, AreAsked}
use Rattle.rt_membership.specs.Entries.{IsEntry, first_bits, asked_of}
use Rattle.rt_membership.specs.Memberships.{dropped, put}

-- a length that is not 0 is from 32 to 96
pub record Bits (bits : ℕ) : Type 0 where
  pub low : 32 ≤ bits
  pub high : bits ≤ 96

pub bits_of : (bits : ℕ) → IsTrue (is_length bits) → (bits ≡ 0) ⊎ Bits bits
bits_of bits h = elim (or_cases (bits == 0) _ h) [
  | inl zero ↦ inl (eqb-true bits 0 zero)
  | inr other ↦ let parts = and_parts _ _ other in inr (record { low = leb-true 32 bits parts.0; high = leb-true bits 96 parts.1 })
]

-- a number of both parts whose second part has no bit past a length has none itself
pub past : (bits origin n : ℕ) → 32 ≤ bits → bits ≤ 96 → (origin * 2 ^ 64 + n * 2 ^ (96 - bits)) % 2 ^ (96 - bits) ≡ 0
past bits origin n low high =
    let k : ℕ = 96 - bits in
    let parts : 64 ≡ (bits - 32) + k = omega (arith, low, high) in
    let power : 2 ^ 64 ≡ 2 ^ (bits - 32) * 2 ^ k = ap (λ (e : ℕ). 2 ^ e) parts ∙ pow-add 2 (bits - 32) k in
    let first : origin * 2 ^ 64 ≡ origin * 2 ^ (bits - 32) * 2 ^ k = ap (λ (p : ℕ). origin * p) power ∙ sym (mul_assoc origin (2 ^ (bits - 32)) (2 ^ k)) in
    let whole : origin * 2 ^ 64 + n * 2 ^ k ≡ (origin * 2 ^ (bits - 32) + n) * 2 ^ k =
    ap (λ (m : ℕ). m + n * 2 ^ k) first ∙ sym (add-mul (origin * 2 ^ (bits - 32)) n (2 ^ k)) in
    ap (λ (m : ℕ). m % 2 ^ k) whole ∙ mul-mod_left (origin * 2 ^ (bits - 32) + n) (2 ^ k)

nothing : (r : RouteFields) → r.bits ≡ 0 → r.octets ≡ [] → number_of (asked_of r) % 2 ^ (96 - r.bits) ≡ 0
nothing r none empty =
    ap (λ (xs : List ℕ). (big_number 4 xs * 2 ^ 64 + first_bits r.bits (big_number 8 (drop 4 xs))) % 2 ^ (96 - r.bits)) empty
    ∙ ap (λ (n : ℕ). (0 + first_bits n 0) % 2 ^ (96 - n)) none

pub entry_asks : (r : RouteFields) → IsEntry r → IsAsked (asked_of r)
entry_asks r is = record {
  length = is.bits;
  past_the_length = elim (bits_of r.bits is.bits) [
    | inl none ↦ nothing r none (nil_from_length r.octets (is.whole ∙ ap (λ (n : ℕ). (n + 7) / 8) none))
    | inr bits ↦ past r.bits (big_number 4 r.octets) (big_number 8 (drop 4 r.octets) / 2 ^ (96 - r.bits)) bits.low bits.high
  ];
}

pub puts_ask : (announced : List RouteFields) → AllByRecursion IsEntry announced → AreAsked (map put announced)
puts_ask [] each = tt
puts_ask (r ∷ rs) each = (entry_asks r each.0, puts_ask rs each.1)

pub changes_ask : (withdrawn announced : List RouteFields) → AllByRecursion IsEntry withdrawn → AllByRecursion IsEntry announced
    → AreAsked (map dropped withdrawn ++ map put announced)
changes_ask [] announced gone here = puts_ask announced here
changes_ask (r ∷ rs) announced gone here = (entry_asks r gone.0, changes_ask rs announced gone.1 here)
