-- Octets that are entries, taken one after the other, in one way.
use Rattle.std.proofs.Common.{◌≡◌, ◌≤◌, ℕ, zero, suc, List, [], ◌∷◌, ◌++◌, length, take, drop, map, refl, ap, sym, ◌∙◌, arith, Bool, true, false, ◌&&◌, ◌==◌}
use Rattle.std.specs.List.{flat_map, AllByRecursion}
use Rattle.std.proofs.lemmas.List.{take-append-drop, length-take-le, length-append, drop_at, append_assoc, append-nil}
use Rattle.std.proofs.lemmas.Bool.{and_parts, false_from_ne_true}
use Rattle.bgp_wire.proofs.Splitting.{same_front}
use Rattle.bgp_vpn.specs.Pieces.{are_pieces_behind, octets_for}
use Rattle.bgp_vpn.specs.Routes.{RouteFields, route_octets}
use Rattle.bgp_vpn.proofs.PieceLemmas.{skipped}
use Rattle.rt_membership.specs.Asked.{is_length}
use Rattle.rt_membership.specs.Entries.{IsEntry, AreEntries, are_entries, BeginsWithEntry}

abbrev entry : ℕ → List ℕ → RouteFields
entry bits octets = record { bits = bits; octets = octets }

-- an entry says where it ends
same_entry : (a b : RouteFields) (x y : List ℕ) → IsEntry a → IsEntry b → route_octets a ++ x ≡ route_octets b ++ y → (a ≡ b) × (x ≡ y)
same_entry a b x y ha hb h =
    let bits : a.bits ≡ b.bits = cc in
    let tails : a.octets ++ x ≡ b.octets ++ y = cc in
    let lengths : length a.octets ≡ length b.octets = ha.whole ∙ ap octets_for bits ∙ sym hb.whole in
    let same = same_front a.octets b.octets x y lengths tails in
    (ap (λ (n : ℕ). entry n a.octets) bits ∙ ap (entry b.bits) same.0, same.1)

-- octets are entries in one way
pub one_entries : (octets : List ℕ) (a b : List RouteFields) → AreEntries octets a → AreEntries octets b → a ≡ b
one_entries octets [] [] x y = refl
one_entries octets [] (r ∷ b) x y = let e = sym x.spelled ∙ y.spelled in absurd cc
one_entries octets (r ∷ a) [] x y = let e = sym x.spelled ∙ y.spelled in absurd cc
one_entries octets (r ∷ a) (s ∷ b) x y =
    let same = same_entry r s (flat_map route_octets a) (flat_map route_octets b) x.each.0 y.each.0 (sym x.spelled ∙ y.spelled) in
    let left : AreEntries (flat_map route_octets a) a = record { spelled = refl; each = x.each.1 } in
    let right : AreEntries (flat_map route_octets a) b = record { spelled = same.1; each = y.each.1 } in
    ap (λ (rs : List RouteFields). r ∷ rs) (one_entries (flat_map route_octets a) a b left right)
    ∙ ap (λ (t : RouteFields). t ∷ b) same.0

abbrev good : ℕ → List ℕ → Bool
good bits behind = is_length bits

abbrev len : ℕ → List ℕ → ℕ
len bits behind = octets_for bits

entries_behind : (n : ℕ) (xs : List ℕ) → are_pieces_behind good len n xs ≡ true
    → (n ≤ length xs) × ((entries : List RouteFields) × AreEntries (drop n xs) entries)
entries_behind zero [] h = (omega arith, ([], record { spelled = refl; each = tt }))
entries_behind (suc n) [] h = absurd cc
entries_behind (suc n) (x ∷ xs) h = let less = entries_behind n xs h in (omega arith, less.1)
entries_behind zero (x ∷ xs) h =
    let parts = and_parts _ _ h in
    let less = entries_behind (octets_for x) xs parts.1 in (
      omega arith,
      (
        entry x (take (octets_for x) xs) ∷ less.1.0,
        record {
          spelled =
              ap (λ (r : List ℕ). x ∷ r) (sym (take-append-drop (octets_for x) xs))
              ∙ ap (λ (r : List ℕ). x ∷ (take (octets_for x) xs ++ r)) less.1.1.spelled;
          each = (record { bits = parts.0; whole = length-take-le (octets_for x) xs less.0 }, less.1.1.each);
        },
      ),
    )

-- the test holds of lists of entries alone
pub entries_found : (octets : List ℕ) → are_entries octets ≡ true → (entries : List RouteFields) × AreEntries octets entries
entries_found octets h = (entries_behind 0 octets h).1

-- entries at the front pass the test
pub passed_over : (entries : List RouteFields) (rest : List ℕ) → AllByRecursion IsEntry entries
    → are_entries (flat_map route_octets entries ++ rest) ≡ are_entries rest
passed_over [] rest each = refl
passed_over (r ∷ rs) rest each =
    let behind = flat_map route_octets rs ++ rest in
    let flat : (r.octets ++ flat_map route_octets rs) ++ rest ≡ r.octets ++ behind = append_assoc r.octets (flat_map route_octets rs) rest in
    let long : octets_for r.bits ≤ length (r.octets ++ behind) = omega (arith, length-append r.octets behind, each.0.whole) in
    let skip = skipped good len (octets_for r.bits) (r.octets ++ behind) long in
    ap (λ (xs : List ℕ). is_length r.bits && are_pieces_behind good len (octets_for r.bits) xs) flat
    ∙ ap (λ (b : Bool). b && are_pieces_behind good len (octets_for r.bits) (r.octets ++ behind)) each.0.bits
    ∙ skip ∙ ap are_entries (drop_at r.octets behind (octets_for r.bits) each.0.whole) ∙ passed_over rs rest each.1

pub entries_test : (octets : List ℕ) (entries : List RouteFields) → AreEntries octets entries → are_entries octets ≡ true
entries_test octets entries are =
    ap are_entries (are.spelled ∙ sym (append-nil (flat_map route_octets entries))) ∙ passed_over entries [] are.each

-- octets that begin with no entry are none
no_front : (octets : List ℕ) (entries : List RouteFields) → AreEntries octets entries → (octets ≡ [] → ⊥)
    → ((r : RouteFields) (after : List ℕ) → BeginsWithEntry octets r after → ⊥) → ⊥
no_front octets [] are some none = some are.spelled
no_front octets (r ∷ rs) are some none = none r (flat_map route_octets rs) (record { spelled = are.spelled; is = are.each.0 })

pub no_entries : (octets : List ℕ) → (octets ≡ [] → ⊥)
    → ((r : RouteFields) (after : List ℕ) → BeginsWithEntry octets r after → ⊥) → are_entries octets ≡ false
no_entries octets some none = false_from_ne_true (are_entries octets) (λ h. let found = entries_found octets h in no_front octets found.0 found.1 some none)

pub some_octet : (xs : List ℕ) (test : Bool) → test ≡ (length xs == 0) → test ≡ false → xs ≡ [] → ⊥
some_octet [] test is fails none = let e = sym is ∙ fails in absurd cc
some_octet (x ∷ xs) test is fails none = absurd cc

-- entries that are taken from the front, and what they change
abbrev pub Taken : {X : Type 0} → (RouteFields → X) → List ℕ → List ℕ → List X → List X → Type 0
Taken f octets rest old now =
    (done : List RouteFields) × AllByRecursion IsEntry done × (octets ≡ flat_map route_octets done ++ rest) × (now ≡ old ++ map f done)

each_more : (done : List RouteFields) (r : RouteFields) → AllByRecursion IsEntry done → IsEntry r → AllByRecursion IsEntry (done ++ r ∷ [])
each_more [] r each is = (is, tt)
each_more (s ∷ done) r each is = (each.0, each_more done r each.1 is)

spelled_more : (done : List RouteFields) (r : RouteFields) (after : List ℕ)
    → flat_map route_octets done ++ (route_octets r ++ after) ≡ flat_map route_octets (done ++ r ∷ []) ++ after
spelled_more [] r after = ap (λ (xs : List ℕ). xs ++ after) (sym (append-nil (route_octets r)))
spelled_more (s ∷ done) r after =
    append_assoc (route_octets s) (flat_map route_octets done) (route_octets r ++ after)
    ∙ ap (λ (xs : List ℕ). route_octets s ++ xs) (spelled_more done r after)
    ∙ sym (append_assoc (route_octets s) (flat_map route_octets (done ++ r ∷ [])) after)

map_more : {X : Type 0} (f : RouteFields → X) (done : List RouteFields) (r : RouteFields) → map f done ++ f r ∷ [] ≡ map f (done ++ r ∷ [])
map_more f [] r = refl
map_more {X = X} f (s ∷ done) r = ap (λ (xs : List X). f s ∷ xs) (map_more f done r)

pub one_more : {X : Type 0} (f : RouteFields → X) (octets rest after : List ℕ) (old now new : List X) (r : RouteFields)
    → Taken f octets rest old now → BeginsWithEntry rest r after → new ≡ now ++ f r ∷ [] → Taken f octets after old new
one_more {X = X} f octets rest after old now new r so_far begins is = (
  so_far.0 ++ r ∷ [],
  each_more so_far.0 r so_far.1 begins.is,
  so_far.2 ∙ ap (λ (xs : List ℕ). flat_map route_octets so_far.0 ++ xs) begins.spelled ∙ spelled_more so_far.0 r after,
  is ∙ ap (λ (xs : List X). xs ++ f r ∷ []) so_far.3 ∙ append_assoc old (map f so_far.0) (f r ∷ []) ∙ ap (λ (xs : List X). old ++ xs) (map_more f so_far.0 r),
)
