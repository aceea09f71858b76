-- Targets, written and read again.
use Rattle.std.proofs.Common.{◌≡◌, ◌<◌, ◌^◌, ℕ, ◌*◌, ◌/◌, ◌%◌, ◌==◌, leb, List, [], ◌∷◌, ◌++◌, length, map, refl, sym, ap, ◌∙◌, subst, arith, IsTrue}
use Rattle.std.specs.List.{flat_map, fold, AllByRecursion}
use Rattle.std.proofs.lemmas.Bool.{and_parts, leb-true, le-ltb, ne_eqb}
use Rattle.std.proofs.lemmas.List.{append_assoc, append-nil}
use Rattle.byteorder.specs.Numbers.{big_number-reads_back}
use Rattle.ov_types.specs.declared.targets.Target.{Target}
use Rattle.ov_types.specs.Targets.{is_target, with_target, AscendFrom, IsAscending}
use Rattle.bgp_vpn.specs.Values.{with_community, communities, targets_among}
use Rattle.bgp_vpn.specs.Written.{target_octets}

abbrev pub AreTargets : List Target → Type 0
AreTargets = AllByRecursion (λ t. IsTrue (is_target t.0))

target_small : (t : Target) → IsTrue (is_target t.0) → t.0 < 2 ^ 64
target_small t h =
    let parts = and_parts (leb (t.0 / 2 ^ 56) 2) (t.0 / 2 ^ 48 % 256 == 2) h in
    let kind = leb-true (t.0 / 2 ^ 56) 2 parts.0 in
    omega (arith, kind)

numbers : List Target → List ℕ
numbers ts = map (λ (t : Target). t.0) ts

communities_read : (ts : List Target) → AreTargets ts → communities (flat_map target_octets ts) ≡ map (λ (t : Target). t.0) ts
communities_read [] h = refl
communities_read (t ∷ ts) h =
    ap (λ (n : ℕ). n ∷ communities (flat_map target_octets ts)) (big_number-reads_back 8 t.0 [] (target_small t h.0))
    ∙ ap (λ (ns : List ℕ). t.0 ∷ ns) (communities_read ts h.1)

-- a target above all others goes to the end
from_tail : (n : ℕ) (ts : List Target) → AscendFrom n ts → IsAscending ts
from_tail n [] h = tt
from_tail n (t ∷ ts) h = h.1

below : (n : ℕ) (ts rest : List Target) (t : Target) → AscendFrom n (ts ++ t ∷ rest) → n < t.0
below n [] rest t h = h.0
below n (x ∷ ts) rest t h = let more = below x.0 ts rest t h.1 in let first = h.0 in omega (arith, more, first)

last : (t : Target) (ts rest : List Target) → IsAscending (ts ++ t ∷ rest) → with_target t ts ≡ ts ++ t ∷ []
last t [] rest h = refl
last t (x ∷ ts) rest h =
    let over = below x.0 ts rest t h in
    let others = last t ts rest (from_tail x.0 (ts ++ t ∷ rest) h) in
    let not_before = le-ltb t.0 x.0 (omega (arith, over)) in
    let not_same = ne_eqb t.0 x.0 (λ e. absurd (omega (arith, over, e))) in
    rw (not_before, not_same, others) refl

put_last : (ts : List Target) (rest : List Target) → AreTargets rest → IsAscending (ts ++ rest) → fold with_community ts (map (λ (t : Target). t.0) rest) ≡ ts ++ rest
put_last ts [] are h = sym (append-nil ts)
put_last ts (t ∷ rest) are h =
    let assoc = append_assoc ts (t ∷ []) rest in
    let one : with_community ts t.0 ≡ ts ++ t ∷ [] = rw (are.0, last t ts rest h) refl in
    ap (λ (done : List Target). fold with_community done (map (λ (x : Target). x.0) rest)) one
    ∙ put_last (ts ++ t ∷ []) rest are.1 (subst IsAscending (sym assoc) h)
    ∙ assoc

pub targets_read : (ts : List Target) → AreTargets ts → IsAscending ts → targets_among (flat_map target_octets ts) ≡ ts
targets_read ts are h = ap (fold with_community []) (communities_read ts are) ∙ put_last [] ts are h

pub targets_length : (ts : List Target) → length (flat_map target_octets ts) ≡ 8 * length ts
targets_length [] = refl
targets_length (t ∷ ts) = let e = targets_length ts in omega (arith, e)
