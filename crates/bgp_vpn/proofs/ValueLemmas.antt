-- Extended communities, and the first bits of an address.
use Rattle.std.proofs.Common.{◌≡◌, ◌≤◌, ◌*◌, ◌/◌, ◌%◌, ◌-◌, ◌^◌, ◌==◌, ◌&&◌, nat_lt, ℕ, List, [], ◌∷◌, length, take, drop, refl, ap, sym, ◌∙◌, arith, Bool, true, cond, Some, None}
use Rattle.std.specs.List.{fold}
use Rattle.std.proofs.Math.Nat.{mul-mod_left, pow-le-pow_right}
use Rattle.std.proofs.lemmas.Bool.{lt-ltb, eq-eqb}
use Rattle.bgp_wire.proofs.Octets.{range_from}
use Rattle.ov_types.specs.declared.targets.Target.{Target}
use Rattle.byteorder.specs.Endian.{big_number}
use Rattle.ov_types.specs.Prefix.{prefix_of}
use Rattle.bgp_vpn.specs.Routes.{first_bits}
use Rattle.bgp_vpn.specs.Values.{communities, with_community}

pub next_community : (xs : List ℕ) → 8 ≤ length xs → communities xs ≡ big_number 8 xs ∷ communities (drop 8 xs)
next_community (a ∷ b ∷ c ∷ d ∷ e ∷ f ∷ g ∷ h ∷ rest) enough = refl
next_community _ enough = absurd (omega arith)

-- one community more is put among the targets
pub next_target : (targets new goal : List Target) (rest : List ℕ) (n : ℕ) → 8 ≤ length rest → n ≡ big_number 8 rest → new ≡ with_community targets n
    → fold with_community targets (communities rest) ≡ goal → fold with_community new (communities (take (length rest - 8) (drop 8 rest))) ≡ goal
next_target targets new goal rest n enough number is so_far =
    ap (λ (xs : List ℕ). fold with_community new (communities xs)) (range_from 8 rest)
    ∙ ap (λ (ts : List Target). fold with_community ts (communities (drop 8 rest))) (is ∙ ap (with_community targets) number)
    ∙ ap (fold with_community targets) (sym (next_community rest enough)) ∙ so_far

-- the first bits of an address are those of a prefix
pub first_bits_are : (len address size : ℕ) → len ≤ 32 → size ≡ 2 ^ (32 - len)
    → prefix_of (address / size * size) len ≡ Some (first_bits len address)
first_bits_are len address size short is =
    let fits : nat_lt len 33 ≡ true = lt-ltb len 33 (omega arith) in
    let clear : (address / 2 ^ (32 - len) * 2 ^ (32 - len) % 2 ^ (32 - len) == 0) ≡ true = eq-eqb _ _ (mul-mod_left (address / 2 ^ (32 - len)) (2 ^ (32 - len))) in
    ap (λ (n : ℕ). prefix_of (address / n * n) len) is
    ∙ ap (λ (b : Bool). cond (b && (address / 2 ^ (32 - len) * 2 ^ (32 - len) % 2 ^ (32 - len) == 0)) (Some (first_bits len address)) None) fits
    ∙ ap (λ (b : Bool). cond b (Some (first_bits len address)) None) clear

-- the size of a prefix fits a number of 64 bits
pub small_power : (len : ℕ) → 1 * 2 ^ (32 - len) % 18446744073709551616 ≡ 2 ^ (32 - len)
small_power len =
    let low : 2 ^ (32 - len) ≤ 2 ^ 32 = pow-le-pow_right {n = 2} (omega arith) {i = 32 - len} {j = 32} (omega arith) in
    omega arith
