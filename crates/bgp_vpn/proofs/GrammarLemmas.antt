-- The tests of routes and of segments hold of exactly the lists of them.
use Rattle.std.proofs.Common.{◌≡◌, ◌≤◌, ◌+◌, ◌*◌, ◌==◌, nat_le, nat_lt, ℕ, zero, suc, List, [], ◌∷◌, ◌++◌, length, take, drop, get_or, refl, ap, sym, ◌∙◌, arith, inl, inr, ◌⊎◌, Bool, true, false, ◌&&◌, ◌||◌}
use Rattle.std.specs.List.{flat_map, AllByRecursion}
use Rattle.std.proofs.lemmas.List.{take-append-drop, length-take-le, length-append, drop_at}
use Rattle.std.proofs.lemmas.Bool.{and_parts, leb-true, le-leb, ltb-true, lt-ltb, eqb-true}
use Rattle.bgp_vpn.specs.Pieces.{are_pieces_behind, octets_for, are_prefixes, are_segments}
use Rattle.bgp_vpn.specs.Routes.{RouteFields, route_octets, IsPrefix, ArePrefixes}
use Rattle.bgp_vpn.specs.Segments.{SegmentFields, segment_octets, IsSegment, AreSegments}
use Rattle.bgp_vpn.proofs.PieceLemmas.{skipped, both}

abbrev route : ℕ → List ℕ → RouteFields
route bits octets = record { bits = bits; octets = octets }

prefixes_behind : (least greatest n : ℕ) (xs : List ℕ)
    → are_pieces_behind (λ bits behind. nat_le least bits && nat_le bits greatest) (λ bits behind. octets_for bits) n xs ≡ true
    → (n ≤ length xs) × ((prefixes : List RouteFields) × ArePrefixes least greatest (drop n xs) prefixes)
prefixes_behind least greatest zero [] h = (omega arith, ([], record { spelled = refl; each = tt }))
prefixes_behind least greatest (suc n) [] h = absurd cc
prefixes_behind least greatest (suc n) (x ∷ xs) h = let less = prefixes_behind least greatest n xs h in (omega arith, less.1)
prefixes_behind least greatest zero (x ∷ xs) h =
    let parts = and_parts _ _ h in
    let bounds = and_parts _ _ parts.0 in
    let less = prefixes_behind least greatest (octets_for x) xs parts.1 in (
      omega arith,
      (
        route x (take (octets_for x) xs) ∷ less.1.0,
        record {
          spelled =
              ap (λ (r : List ℕ). x ∷ r) (sym (take-append-drop (octets_for x) xs))
              ∙ ap (λ (r : List ℕ). x ∷ (take (octets_for x) xs ++ r)) less.1.1.spelled;
          each = (record { low = leb-true least x bounds.0; high = leb-true x greatest bounds.1; whole = length-take-le (octets_for x) xs less.0 }, less.1.1.each);
        },
      ),
    )

prefixes_pass : (least greatest : ℕ) (prefixes : List RouteFields) → AllByRecursion (IsPrefix least greatest) prefixes
    → are_prefixes least greatest (flat_map route_octets prefixes) ≡ true
prefixes_pass least greatest [] each = refl
prefixes_pass least greatest (r ∷ rs) each =
    let rest = flat_map route_octets rs in
    let good : (nat_le least r.bits && nat_le r.bits greatest) ≡ true = both _ _ (le-leb _ _ each.0.low) (le-leb _ _ each.0.high) in
    let long : octets_for r.bits ≤ length (r.octets ++ rest) = omega (arith, length-append r.octets rest, each.0.whole) in
    let skip = skipped (λ bits behind. nat_le least bits && nat_le bits greatest) (λ bits behind. octets_for bits) (octets_for r.bits) (r.octets ++ rest) long in
    both _ _ good (skip ∙ ap (are_prefixes least greatest) (drop_at r.octets rest (octets_for r.bits) each.0.whole) ∙ prefixes_pass least greatest rs each.1)

pub prefixes_found : (least greatest : ℕ) (octets : List ℕ) → are_prefixes least greatest octets ≡ true
    → (prefixes : List RouteFields) × ArePrefixes least greatest octets prefixes
prefixes_found least greatest octets h = (prefixes_behind least greatest 0 octets h).1

pub prefixes_test : (least greatest : ℕ) (octets : List ℕ) (prefixes : List RouteFields) → ArePrefixes least greatest octets prefixes
    → are_prefixes least greatest octets ≡ true
prefixes_test least greatest octets prefixes are = ap (are_prefixes least greatest) are.spelled ∙ prefixes_pass least greatest prefixes are.each

either : (a b : Bool) → (a || b) ≡ true → (a ≡ true) ⊎ (b ≡ true)
either true b h = inl refl
either false b h = inr h

kind_of : (x : ℕ) → (x == 1 || x == 2) ≡ true → (x ≡ 1) ⊎ (x ≡ 2)
kind_of x h = elim (either (x == 1) (x == 2) h) [
  | inl one ↦ inl (eqb-true x 1 one)
  | inr two ↦ inr (eqb-true x 2 two)
]

kind_passes : (x : ℕ) → (x ≡ 1) ⊎ (x ≡ 2) → (x == 1 || x == 2) ≡ true
kind_passes x (inl one) = ap (λ (n : ℕ). n == 1 || n == 2) one
kind_passes x (inr two) = ap (λ (n : ℕ). n == 1 || n == 2) two

abbrev good : ℕ → List ℕ → Bool
good kind behind = (kind == 1 || kind == 2) && nat_lt 0 (get_or behind 0 0)

abbrev len : ℕ → ℕ → List ℕ → ℕ
len size kind behind = 1 + size * get_or behind 0 0

abbrev segment : ℕ → ℕ → List ℕ → SegmentFields
segment kind count numbers = record { kind = kind; count = count; numbers = numbers }

segments_behind : (size : ℕ) (n : ℕ) (xs : List ℕ) → are_pieces_behind good (len size) n xs ≡ true
    → (n ≤ length xs) × ((segments : List SegmentFields) × AreSegments size (drop n xs) segments)
segments_behind size zero [] h = (omega arith, ([], record { spelled = refl; each = tt }))
segments_behind size (suc n) [] h = absurd cc
segments_behind size (suc n) (x ∷ xs) h = let less = segments_behind size n xs h in (omega arith, less.1)
segments_behind size zero (x ∷ []) h =
    let begins = and_parts (good x []) (are_pieces_behind good (len size) (len size x []) []) h in
    let parts = and_parts (x == 1 || x == 2) (nat_lt 0 0) begins.0 in
    let some = ltb-true 0 0 parts.1 in
    absurd (omega arith)
segments_behind size zero (x ∷ c ∷ ys) h =
    let parts = and_parts (good x (c ∷ ys)) (are_pieces_behind good (len size) (len size x (c ∷ ys)) (c ∷ ys)) h in
    let first = and_parts (x == 1 || x == 2) (nat_lt 0 c) parts.0 in
    let less = segments_behind size (1 + size * c) (c ∷ ys) parts.1 in
    let next : drop (1 + size * c) (c ∷ ys) ≡ drop (size * c) ys = let e : 1 + size * c ≡ suc (size * c) = omega arith in ap (λ (n : ℕ). drop n (c ∷ ys)) e in
    let enough : size * c ≤ length ys = let l = less.0 in omega arith in (
      omega arith,
      (
        segment x c (take (size * c) ys) ∷ less.1.0,
        record {
          spelled =
              ap (λ (r : List ℕ). x ∷ c ∷ r) (sym (take-append-drop (size * c) ys))
              ∙ ap (λ (r : List ℕ). x ∷ c ∷ (take (size * c) ys ++ r)) (sym next ∙ less.1.1.spelled);
          each = (record { kind = kind_of x first.0; some = ltb-true 0 c first.1; whole = length-take-le (size * c) ys enough }, less.1.1.each);
        },
      ),
    )

segments_pass : (size : ℕ) (segments : List SegmentFields) → AllByRecursion (IsSegment size) segments → are_segments size (flat_map segment_octets segments) ≡ true
segments_pass size [] each = refl
segments_pass size (s ∷ ss) each =
    let rest = flat_map segment_octets ss in
    let begins : ((s.kind == 1 || s.kind == 2) && nat_lt 0 s.count) ≡ true = both _ _ (kind_passes s.kind each.0.kind) (lt-ltb 0 s.count each.0.some) in
    let long : 1 + size * s.count ≤ length (s.count ∷ (s.numbers ++ rest)) = omega (arith, length-append s.numbers rest, each.0.whole) in
    let skip = skipped good (len size) (1 + size * s.count) (s.count ∷ (s.numbers ++ rest)) long in
    let next : drop (1 + size * s.count) (s.count ∷ (s.numbers ++ rest)) ≡ drop (size * s.count) (s.numbers ++ rest) =
    let e : 1 + size * s.count ≡ suc (size * s.count) = omega arith in ap (λ (n : ℕ). drop n (s.count ∷ (s.numbers ++ rest))) e in
    both _ _ begins (skip ∙ ap (are_segments size) (next ∙ drop_at s.numbers rest (size * s.count) each.0.whole) ∙ segments_pass size ss each.1)

pub segments_found : (size : ℕ) (octets : List ℕ) → are_segments size octets ≡ true → (segments : List SegmentFields) × AreSegments size octets segments
segments_found size octets h = (segments_behind size 0 octets h).1

pub segments_test : (size : ℕ) (octets : List ℕ) (segments : List SegmentFields) → AreSegments size octets segments → are_segments size octets ≡ true
segments_test size octets segments are = ap (are_segments size) are.spelled ∙ segments_pass size segments are.each
