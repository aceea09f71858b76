-- Keys, written and read again.
use Rattle.std.proofs.Common.{◌≡◌, ◌≤◌, ◌<◌, ◌^◌, ℕ, zero, suc, ◌+◌, ◌-◌, ◌*◌, ◌/◌, ◌%◌, ◌==◌, ltb, [], ◌∷◌, length, take, sym, ap, ◌∙◌, subst, arith, IsTrue}
use Rattle.std.proofs.lemmas.Bool.{and_parts, ltb-true, eqb-true}
use Rattle.std.proofs.lemmas.List.{append-nil, length-take-le}
use Rattle.std.proofs.lemmas.Nat.{pow-add}
use Rattle.std.proofs.Math.Nat.{div-add-mod, mul_comm, mul_assoc, mul_right_comm}
use Rattle.byteorder.specs.Endian.{big_bytes, big_number}
use Rattle.ov_types.specs.Prefix.{Block, size_of, is_prefix}
use Rattle.ov_types.specs.declared.numbers.Rd.{Rd}
use Rattle.ov_types.specs.declared.vpn.VpnKey.{VpnKey}
use Rattle.bgp_vpn.specs.Pieces.{octets_for}
use Rattle.bgp_vpn.specs.Routes.{route_octets, IsRoute, AreRoutes, first_bits, key_of}
use Rattle.bgp_vpn.specs.Written.{FitsItsTypes, prefix_octets, route_of}
use Rattle.bgp_vpn.proofs.SpellingLemmas.{distinguisher_read}

-- a prefix has at most 32 bits, and none past them
pub record Bits (addr len : ℕ) : Type 0 where
  pub few : len ≤ 32
  pub blank : addr % size_of len ≡ 0

pub bits_of : (p : Block) → IsTrue (is_prefix p.addr p.len) → Bits p.addr p.len
bits_of p h =
    let parts = and_parts (ltb p.len 33) (p.addr % size_of p.len == 0) h in
    let below = ltb-true p.len 33 parts.0 in
    record { few = omega (arith, below); blank = eqb-true (p.addr % size_of p.len) 0 parts.1 }

whole : (n m : ℕ) → n % m ≡ 0 → n / m * m ≡ n
whole n m h = let e = div-add-mod n m in let c = mul_comm (n / m) m in omega (arith, e, h, c)

-- an address with no bit past a prefix has none past more bits
multiple : (addr m k : ℕ) → addr % 2 ^ (m + k) ≡ 0 → (n : ℕ) × (addr ≡ n * 2 ^ m)
multiple addr m k h =
    let q : ℕ = addr / 2 ^ (m + k) in
    let e = whole addr (2 ^ (m + k)) h in
    let p = pow-add 2 m k in
    (q * 2 ^ k, sym e ∙ ap (λ (d : ℕ). q * d) p ∙ sym (mul_assoc q (2 ^ m) (2 ^ k)) ∙ mul_right_comm q (2 ^ m) (2 ^ k))

-- the first octets of an address whose other octets are 0 read as it
octets_read : (k addr n : ℕ) → addr < 2 ^ 32 → k ≤ 4 → addr ≡ n * 2 ^ (8 * (4 - k)) → big_number 4 (take k (big_bytes 4 addr)) ≡ addr
octets_read zero addr n small few is = omega (arith, small, is)
octets_read (suc zero) addr n small few is = omega (arith, small, is)
octets_read (suc (suc zero)) addr n small few is = omega (arith, small, is)
octets_read (suc (suc (suc zero))) addr n small few is = omega (arith, small, is)
octets_read (suc (suc (suc (suc zero)))) addr n small few is = omega (arith, small)
octets_read (suc (suc (suc (suc (suc k))))) addr n small few is = absurd (omega (arith, few))

address_read : (addr len : ℕ) → addr < 2 ^ 32 → Bits addr len → big_number 4 (take (octets_for len) (big_bytes 4 addr)) ≡ addr
address_read addr len small bits =
    let k : ℕ = octets_for len in
    let few : k ≤ 4 = omega (arith, bits.few) in
    let spare : 8 * (4 - k) + (32 - len - 8 * (4 - k)) ≡ 32 - len = omega (arith, bits.few) in
    let blank : addr % 2 ^ (8 * (4 - k) + (32 - len - 8 * (4 - k))) ≡ 0 = subst (λ (e : ℕ). addr % 2 ^ e ≡ 0) (sym spare) bits.blank in
    let times = multiple addr (8 * (4 - k)) (32 - len - 8 * (4 - k)) blank in
    octets_read k addr times.0 small few times.1

abbrev block : ℕ → ℕ → Block
block addr len = record { addr = addr; len = len }

pub prefix_read : (p : Block) → p.addr < 2 ^ 32 → IsTrue (is_prefix p.addr p.len) → first_bits p.len (big_number 4 (prefix_octets p)) ≡ p
prefix_read p small is =
    let bits = bits_of p is in
    let read = address_read p.addr p.len small bits in
    let same = whole p.addr (size_of p.len) bits.blank in
    ap (first_bits p.len) read ∙ ap (λ (n : ℕ). block n p.len) same

abbrev key : Rd → Block → VpnKey
key rd prefix = record { rd = rd; prefix = prefix }

pub key_read : (k : VpnKey) (field : ℕ) → FitsItsTypes k → key_of (route_of k field) ≡ k
key_read k field fits =
    let rd = distinguisher_read (88 + k.prefix.len) field k.rd.0 (prefix_octets k.prefix) fits.distinguisher in
    let bits : 88 + k.prefix.len - 88 ≡ k.prefix.len = omega arith in
    let prefix = prefix_read k.prefix fits.address fits.prefix in
    ap (λ (d : Rd). key d (first_bits (88 + k.prefix.len - 88) (big_number 4 (prefix_octets k.prefix)))) rd
    ∙ ap (λ (n : ℕ). key k.rd (first_bits n (big_number 4 (prefix_octets k.prefix)))) bits
    ∙ ap (key k.rd) prefix

prefix_length : (p : Block) → p.len ≤ 32 → length (prefix_octets p) ≡ octets_for p.len
prefix_length p few = length-take-le (octets_for p.len) (big_bytes 4 p.addr) (omega (arith, few))

pub route_is : (k : VpnKey) (field : ℕ) → FitsItsTypes k → IsRoute (route_of k field)
route_is k field fits =
    let bits = bits_of k.prefix fits.prefix in
    let len = prefix_length k.prefix bits.few in
    record { low = omega arith; high = omega (arith, bits.few); whole = omega (arith, len) }

pub route_alone : (k : VpnKey) (field : ℕ) → FitsItsTypes k → AreRoutes (route_octets (route_of k field)) (route_of k field ∷ [])
route_alone k field fits = record { spelled = sym (append-nil (route_octets (route_of k field))); each = (route_is k field fits, tt) }

-- a route has at most 16 octets
pub route_length : (k : VpnKey) (field : ℕ) → FitsItsTypes k → length (route_octets (route_of k field)) ≤ 16
route_length k field fits =
    let bits = bits_of k.prefix fits.prefix in
    let len = prefix_length k.prefix bits.few in
    omega (arith, len, bits.few)
