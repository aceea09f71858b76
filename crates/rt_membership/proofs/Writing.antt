-- Changes of what is asked, written and read again.
use Rattle.std.proofs.Common.{inl, inr, ◌≡◌, ◌≤◌, ◌<◌, ◌^◌, ◌*◌, ◌/◌, ◌%◌, ◌-◌, ℕ, zero, suc, ◌+◌, Bool, true, false, List, [], ◌∷◌, ◌++◌, length, take, drop, refl, sym, ap, ◌∙◌, subst, arith, None}
use Rattle.std.specs.List.{flat_map}
use Rattle.std.proofs.lemmas.Bool.{le-ltb, le-leb}
use Rattle.std.proofs.lemmas.List.{append-nil, length-take-le}
use Rattle.std.proofs.lemmas.Nat.{pow-add, div-add-mod'}
use Rattle.std.proofs.Math.Nat.{mul_assoc, mul-add-mod_self_right}
use Rattle.byteorder.specs.Endian.{big_bytes, big_number}
use Rattle.byteorder.specs.Numbers.{big_number-reads_back}
use Rattle.ov_types.specs.declared.prefix.Addr.{Addr}
use Rattle.ov_sync.specs.declared.Delta.{Delta}
use Rattle.ov_sync.specs.declared.Delta.TheVariants.{Put, Drop}
use Rattle.bgp_wire.specs.Attributes.{attribute_octets}
use Rattle.bgp_wire.proofs.Checking.{both_pass, fault_if-false}
use Rattle.bgp_vpn.specs.Checks.{update_fault}
use Rattle.bgp_vpn.specs.Pieces.{octets_for}
use Rattle.bgp_vpn.specs.Routes.{route_octets}
use Rattle.rt_membership.specs.declared.asked.Asked.{Asked}
use Rattle.rt_membership.specs.Asked.{number_of, IsAsked}
use Rattle.rt_membership.specs.Entries.{IsEntry, AreEntries, are_entries, first_bits, asked_of, entry_of}
use Rattle.rt_membership.specs.Memberships.{has_cut_value}
use Rattle.rt_membership.specs.Written.{written_reach, written_unreach, attributes_of, written_parts, FitsItsTypes, MakesIt}
use Rattle.rt_membership.proofs.EntryLemmas.{entries_test}
use Rattle.rt_membership.proofs.Forms.{Bits, bits_of}

-- what is asked has the octets of its length
octets_few : (a : Asked) → IsAsked a → octets_for a.length ≤ 12
octets_few a is = elim (bits_of a.length is.length) [
  | inl none ↦ omega (arith, none)
  | inr bits ↦ let high = bits.high in omega (arith, high)
]

pub at_most : (a : Asked) → IsAsked a → a.length ≤ 96
at_most a is = elim (bits_of a.length is.length) [
  | inl none ↦ omega (arith, none)
  | inr bits ↦ bits.high
]

octets_length : (a : Asked) → IsAsked a → length (entry_of a).octets ≡ octets_for a.length
octets_length a is =
    let few = octets_few a is in
    length-take-le (octets_for a.length) (big_bytes 4 a.origin ++ big_bytes 8 a.target.0) (omega (arith, few))

pub entry_is : (a : Asked) → IsAsked a → IsEntry (entry_of a)
entry_is a is = record { bits = is.length; whole = octets_length a is }

entry_alone : (a : Asked) → IsAsked a → AreEntries (route_octets (entry_of a)) (entry_of a ∷ [])
entry_alone a is = record { spelled = sym (append-nil (route_octets (entry_of a))); each = (entry_is a is, tt) }

entry_length : (a : Asked) → IsAsked a → length (route_octets (entry_of a)) ≤ 13
entry_length a is = let few = octets_few a is in let len = octets_length a is in omega (arith, few, len)

-- a number that has no bit past a place is a multiple
multiple : (t e : ℕ) → t % 2 ^ e ≡ 0 → t / 2 ^ e * 2 ^ e ≡ t
multiple t e blank = let split = div-add-mod' t (2 ^ e) in omega (arith, split, blank)

-- the target has no bit past the length
target_blank : (a : Asked) → IsAsked a → Bits a.length → a.target.0 % 2 ^ (96 - a.length) ≡ 0
target_blank a is bits =
    let low = bits.low in
    let high = bits.high in
    let e : ℕ = 96 - a.length in
    let parts : 64 ≡ (a.length - 32) + e = omega (arith, low, high) in
    let power : 2 ^ 64 ≡ 2 ^ (a.length - 32) * 2 ^ e = ap (λ (n : ℕ). 2 ^ n) parts ∙ pow-add 2 (a.length - 32) e in
    let first : a.origin * 2 ^ 64 ≡ a.origin * 2 ^ (a.length - 32) * 2 ^ e = ap (λ (p : ℕ). a.origin * p) power ∙ sym (mul_assoc a.origin (2 ^ (a.length - 32)) (2 ^ e)) in
    sym (ap (λ (n : ℕ). (n + a.target.0) % 2 ^ e) first ∙ mul-add-mod_self_right (a.origin * 2 ^ (a.length - 32)) (2 ^ e) a.target.0)
    ∙ is.past_the_length

-- the first octets of a target whose other octets are 0 read as it
target_read : (k t n : ℕ) → t < 2 ^ 64 → k ≤ 8 → t ≡ n * 2 ^ (8 * (8 - k)) → big_number 8 (take k (big_bytes 8 t)) ≡ t
target_read zero t n small few is = omega (arith, small, is)
target_read (suc zero) t n small few is = omega (arith, small, is)
target_read (suc (suc zero)) t n small few is = omega (arith, small, is)
target_read (suc (suc (suc zero))) t n small few is = omega (arith, small, is)
target_read (suc (suc (suc (suc zero)))) t n small few is = omega (arith, small, is)
target_read (suc (suc (suc (suc (suc zero))))) t n small few is = omega (arith, small, is)
target_read (suc (suc (suc (suc (suc (suc zero)))))) t n small few is = omega (arith, small, is)
target_read (suc (suc (suc (suc (suc (suc (suc zero))))))) t n small few is = omega (arith, small, is)
target_read (suc (suc (suc (suc (suc (suc (suc (suc zero)))))))) t n small few is = omega (arith, small)
target_read (suc (suc (suc (suc (suc (suc (suc (suc (suc k))))))))) t n small few is = absurd (omega (arith, few))

abbrev asked : ℕ → ℕ → ℕ → Asked
asked length origin target = record { length = length; origin = origin; target = record { 0 = target } }

all_of : (a : Asked) → FitsItsTypes a → IsAsked a → a.length ≡ 0 → asked_of (entry_of a) ≡ a
all_of a fits is none =
    let o = fits.origin in
    let t = fits.target in
    let past : number_of a % 2 ^ 96 ≡ 0 = subst (λ (n : ℕ). number_of a % 2 ^ (96 - n) ≡ 0) none is.past_the_length in
    let origin : 0 ≡ a.origin = omega (arith, past, o, t) in
    let target : 0 ≡ a.target.0 = omega (arith, past, o, t) in
    ap (λ (n : ℕ). asked_of (record { bits = n; octets = take (octets_for n) (big_bytes 4 a.origin ++ big_bytes 8 a.target.0) })) none
    ∙ ap (λ (n : ℕ). asked 0 n 0) origin ∙ ap (asked 0 a.origin) target
    ∙ ap (λ (n : ℕ). asked n a.origin a.target.0) (sym none)

some_of : (a : Asked) → FitsItsTypes a → IsAsked a → Bits a.length → asked_of (entry_of a) ≡ a
some_of a fits is bits =
    let low = bits.low in
    let high = bits.high in
    let k : ℕ = octets_for a.length - 4 in
    let e : ℕ = 96 - a.length in
    let enough : octets_for a.length ≡ suc (suc (suc (suc k))) = omega (arith, low) in
    let few : k ≤ 8 = omega (arith, high) in
    let spare : e ≡ (e - 8 * (8 - k)) + 8 * (8 - k) = omega (arith, low, high) in
    let octets : (entry_of a).octets ≡ big_bytes 4 a.origin ++ take k (big_bytes 8 a.target.0) =
    ap (λ (n : ℕ). take n (big_bytes 4 a.origin ++ big_bytes 8 a.target.0)) enough in
    let origin = ap (big_number 4) octets ∙ big_number-reads_back 4 a.origin (take k (big_bytes 8 a.target.0)) fits.origin in
    let whole = multiple a.target.0 e (target_blank a is bits) in
    let power : 2 ^ e ≡ 2 ^ (e - 8 * (8 - k)) * 2 ^ (8 * (8 - k)) = ap (λ (n : ℕ). 2 ^ n) spare ∙ pow-add 2 (e - 8 * (8 - k)) (8 * (8 - k)) in
    let times : a.target.0 ≡ a.target.0 / 2 ^ e * 2 ^ (e - 8 * (8 - k)) * 2 ^ (8 * (8 - k)) =
    sym whole ∙ ap (λ (p : ℕ). a.target.0 / 2 ^ e * p) power ∙ sym (mul_assoc (a.target.0 / 2 ^ e) (2 ^ (e - 8 * (8 - k))) (2 ^ (8 * (8 - k)))) in
    let read = target_read k a.target.0 (a.target.0 / 2 ^ e * 2 ^ (e - 8 * (8 - k))) fits.target few times in
    let target = ap (λ (xs : List ℕ). first_bits a.length (big_number 8 (drop 4 xs))) octets ∙ ap (first_bits a.length) read ∙ whole in
    ap (λ (n : ℕ). asked a.length n (first_bits a.length (big_number 8 (drop 4 (entry_of a).octets)))) origin
    ∙ ap (asked a.length a.origin) target

pub entry_read : (a : Asked) → FitsItsTypes a → IsAsked a → asked_of (entry_of a) ≡ a
entry_read a fits is = elim (bits_of a.length is.length) [
  | inl none ↦ all_of a fits is none
  | inr bits ↦ some_of a fits is bits
]

-- the attributes of a written UPDATE pass their checks
entries_pass : (a : Asked) → IsAsked a → are_entries (route_octets (entry_of a)) ≡ true
entries_pass a is = entries_test (route_octets (entry_of a)) (entry_of a ∷ []) (entry_alone a is)

pub unreach_length : (a : Asked) → IsAsked a → length (written_unreach a) ≤ 16
unreach_length a is = let short = entry_length a is in omega (arith, short)

pub reach_length : (a : Asked) (next_hop : Addr) → IsAsked a → length (written_reach a next_hop) ≤ 22
reach_length a next_hop is = let short = entry_length a is in omega (arith, short)

drop_passes : (wide : Bool) (a : Asked) (next_hop : Addr) → IsAsked a
    → update_fault wide (written_parts (Drop a) next_hop) (attributes_of (Drop a) next_hop) [] ≡ None
drop_passes wide a next_hop is =
    let n : ℕ = length (written_unreach a) in
    let short = unreach_length a is in
    rw (le-ltb n 3 (omega arith), le-ltb 65535 n (omega (arith, short))) refl

drop_whole : (a : Asked) (next_hop : Addr) → IsAsked a → has_cut_value (attributes_of (Drop a) next_hop) ≡ false
drop_whole a next_hop is =
    let n : ℕ = length (written_unreach a) in
    rw (le-leb 3 n (omega arith), entries_pass a is) refl

put_passes : (wide : Bool) (a : Asked) (next_hop : Addr) → IsAsked a
    → update_fault wide (written_parts (Put a tt) next_hop) (attributes_of (Put a tt) next_hop) [] ≡ None
put_passes wide a next_hop is =
    let n : ℕ = length (written_reach a next_hop) in
    let short = reach_length a next_hop is in
    rw (le-ltb n 5 (omega arith), le-ltb 65535 n (omega (arith, short))) refl

put_whole : (a : Asked) (next_hop : Addr) → IsAsked a → has_cut_value (attributes_of (Put a tt) next_hop) ≡ false
put_whole a next_hop is =
    let n : ℕ = length (written_reach a next_hop) in
    rw (le-leb 9 n (omega arith), entries_pass a is) refl

abbrev made : Delta Asked Unit → Delta Asked Unit
made d = d

pub drop_makes : (a : Asked) (next_hop : Addr) → FitsItsTypes a → IsAsked a → MakesIt (Drop a) next_hop
drop_makes a next_hop fits is = record {
  change = λ wide. record {
    attributes = attributes_of (Drop a) next_hop;
    withdrawn = entry_of a ∷ [];
    announced = [];
    are = record { spelled = sym (append-nil _); fit = (omega (arith, unreach_length a is), tt); ends = inl refl };
    passes = both_pass _ _ (drop_passes wide a next_hop is) (fault_if-false _ _ (drop_whole a next_hop is));
    withdrawn_are = entry_alone a is;
    announced_are = record { spelled = refl; each = tt };
    made = ap (λ (b : Asked). made (Drop b) ∷ []) (sym (entry_read a fits is));
  };
}

pub put_makes : (a : Asked) (next_hop : Addr) → FitsItsTypes a → IsAsked a → MakesIt (Put a tt) next_hop
put_makes a next_hop fits is = record {
  change = λ wide. record {
    attributes = attributes_of (Put a tt) next_hop;
    withdrawn = [];
    announced = entry_of a ∷ [];
    are = record { spelled = sym (append-nil _); fit = (omega arith, (omega arith, (omega arith, (omega (arith, reach_length a next_hop is), tt)))); ends = inl refl };
    passes = both_pass _ _ (put_passes wide a next_hop is) (fault_if-false _ _ (put_whole a next_hop is));
    withdrawn_are = record { spelled = refl; each = tt };
    announced_are = entry_alone a is;
    made = ap (λ (b : Asked). made (Put b tt) ∷ []) (sym (entry_read a fits is));
  };
}

-- and is short
pub drop_length : (a : Asked) (next_hop : Addr) → IsAsked a → length (flat_map attribute_octets (attributes_of (Drop a) next_hop)) ≤ 64
drop_length a next_hop is =
    let short = unreach_length a is in
    let all = append-nil (written_unreach a) in
    omega (arith, short, ap length all)

pub put_length : (a : Asked) (next_hop : Addr) → IsAsked a → length (flat_map attribute_octets (attributes_of (Put a tt) next_hop)) ≤ 64
put_length a next_hop is =
    let short = reach_length a next_hop is in
    let all = append-nil (written_reach a next_hop) in
    omega (arith, short, ap length all)
