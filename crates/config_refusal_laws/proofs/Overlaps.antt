-- A refusal of networks' overlap names two around one network that have overlapping subnets.
use Rattle.std.proofs.Common.{◌≡◌, inl, inr, ◌||◌, ◌<◌, ℕ, zero, suc, Bool, true, false, cond, List, [], ◌∷◌, Some, option_map, IfSome, filter, find, refl, sym, ap, ◌∙◌, arith}
use Rattle.std.specs.Cmp.Lexicographic.{same_text}
use Rattle.std.specs.List.{Any, Contains, list_any, slice_get}
use Rattle.std.proofs.lemmas.Bool.{or_cases}
use Rattle.std.proofs.lemmas.List.Folds.{Any-from_list_any}
use Rattle.config_types.specs.declared.config.Config.{Config}
use Rattle.config_types.specs.declared.config.Network.{Network}
use Rattle.config_types.specs.declared.topology.Topology.{Topology}
use Rattle.ov_types.specs.First.{same_name}
use Rattle.config_check.specs.declared.refusal.Refusal.{Refusal}
use Rattle.config_check.specs.declared.refusal.Refusal.TheVariants.{SubnetOverlap}
use Rattle.policy_rules.specs.Related.{are_related}
use Rattle.config_check.specs.Rules.{overlap, group_of, share_addresses, overlapping, overlapping_around, broken_overlap}
use Rattle.config_check.specs.Sentences.{Overlap, IsAround}
use Rattle.config_refusal_laws.specs.Breaks.{StandsBefore, OverlapAround, Breaks}
use Rattle.config_refusal_laws.proofs.Firsts.{before_later}
use Rattle.ov_types.proofs.FirstLemmas.{any_of, of_either, of_mapped, of_first, found, IsFound}
use Rattle.config_refusal_laws.proofs.Places.{overlaps}

-- what is kept of a list stands in it, in the same order

kept_at : {A : Type 0} (g : A → Bool) (xs : List A) (k : ℕ) (x : A) → slice_get (filter g xs) k ≡ Some x → IsFound g xs x
kept_at g [] k x h = cc
kept_at {A} g (y ∷ ys) k x h =
    elim (g y) as (λ b. (g y ≡ b) → slice_get (cond b (y ∷ filter g ys) (filter g ys)) k ≡ Some x → IsFound g (y ∷ ys) x) [
      | true ↦ λ e at. head k at e (kept_at g ys)
      | false ↦ λ e at. let f = kept_at g ys k x at in record { place = suc f.place; there = f.there; passes = f.passes }
    ] refl h
  where
    head : (k : ℕ) → slice_get (y ∷ filter g ys) k ≡ Some x → g y ≡ true → ((k : ℕ) (x : A) → slice_get (filter g ys) k ≡ Some x → IsFound g ys x) → IsFound g (y ∷ ys) x
    head zero at e rest = let same : y ≡ x = cc in record { place = 0; there = at; passes = ap g (sym same) ∙ e }
    head (suc k) at e rest = let f = rest k x at in record { place = suc f.place; there = f.there; passes = f.passes }

record KeptBefore {A : Type 0} (g : A → Bool) (xs : List A) (a b : A) : Type 0 where
  places : StandsBefore xs a b
  first : g a ≡ true
  second : g b ≡ true

kept_before : {A : Type 0} (g : A → Bool) (xs : List A) (i j : ℕ) (a b : A) → i < j → slice_get (filter g xs) i ≡ Some a → slice_get (filter g xs) j ≡ Some b → KeptBefore g xs a b
kept_before g [] i j a b lt at_i at_j = cc
kept_before {A} g (x ∷ xs) i j a b lt at_i at_j =
    elim (g x) as (λ t. (g x ≡ t) → slice_get (cond t (x ∷ filter g xs) (filter g xs)) i ≡ Some a → slice_get (cond t (x ∷ filter g xs) (filter g xs)) j ≡ Some b → KeptBefore g (x ∷ xs) a b) [
      | true ↦ λ e here there. head i j lt here there e (kept_before g xs)
      | false ↦ λ e here there. later (kept_before g xs i j a b lt here there)
    ] refl at_i at_j
  where
    later : KeptBefore g xs a b → KeptBefore g (x ∷ xs) a b
    later k = record { places = before_later x xs a b k.places; first = k.first; second = k.second }

    head : (i j : ℕ) → i < j → slice_get (x ∷ filter g xs) i ≡ Some a → slice_get (x ∷ filter g xs) j ≡ Some b → g x ≡ true
        → ((i j : ℕ) (a b : A) → i < j → slice_get (filter g xs) i ≡ Some a → slice_get (filter g xs) j ≡ Some b → KeptBefore g xs a b)
        → KeptBefore g (x ∷ xs) a b
    head i zero lt here there e rest = absurd (omega arith)
    head zero (suc j) lt here there e rest =
        let same : x ≡ a = cc in
        let f = kept_at g xs j b there in
        record {
          places = record { earlier = 0; later = suc f.place; in_order = omega arith; first_there = here; second_there = f.there };
          first = ap g (sym same) ∙ e;
          second = f.passes;
        }
    head (suc i) (suc j) lt here there e rest = later (rest i j a b (omega arith) here there)

-- the first two that share addresses

of_overlapping : (P : Refusal → Type 0) (xs : List Network) → ((a b : Network) → StandsBefore xs a b → share_addresses a b ≡ true → P (SubnetOverlap a.name b.name)) → IfSome (overlapping xs) P
of_overlapping P [] h = tt
of_overlapping P (a ∷ bs) h =
    let says : Network → Refusal = λ b. SubnetOverlap a.name b.name in
    of_either P (option_map says (find (share_addresses a) bs)) (overlapping bs)
    (of_mapped P says (find (share_addresses a) bs)
    (λ b e.
    let f = found (share_addresses a) bs b e in
    h a b (record { earlier = 0; later = suc f.place; in_order = omega arith; first_there = refl; second_there = f.there }) f.passes))
    (of_overlapping P bs (λ x y places shared. h x y (before_later a bs x y places) shared))

pub some_overlap : (a b : Network) → share_addresses a b ≡ true → Any (λ p. Any (Overlap p) b.subnets) a.subnets
some_overlap a b h =
    let outer = Any-from_list_any (λ p. list_any (overlap p) b.subnets) a.subnets h in
    let inner = Any-from_list_any (overlap outer.1) b.subnets outer.4 in
    (outer.0, outer.1, outer.2, outer.3, (inner.0, inner.1, inner.2, inner.3, overlaps outer.1 inner.1 inner.4))

is_around : (c : Config) (n a : Network) → (same_name a.name n.name || are_related c n a) ≡ true → IsAround c n a
is_around c n a h =
    elim (or_cases (same_name a.name n.name) (are_related c n a) h) [
      | inl e ↦ inl (same_text a.name n.name (sym e))
      | inr e ↦ inr e
    ]

of_group : (t : Topology) (c : Config) (n : Network) → Contains c.networks n → IfSome (overlapping_around c n) (Breaks t c)
of_group t c n inside =
    let around : Network → Bool = λ m. same_name m.name n.name || are_related c n m in
    of_overlapping (Breaks t c) (group_of c n)
    (λ a b places shared.
    let kept = kept_before around c.networks places.earlier places.later a b places.in_order places.first_there places.second_there in
    any_of (λ (m : Network). (x : Network) × (y : Network) × (x.name ≡ a.name) × (y.name ≡ b.name) × OverlapAround c m x y) c.networks n inside (
      a,
      b,
      refl,
      refl,
      record {
        networks = kept.places;
        first_around = is_around c n a kept.first;
        second_around = is_around c n b kept.second;
        subnets = some_overlap a b shared;
      },
    ))

pub overlap_breaks : (t : Topology) (c : Config) → IfSome (broken_overlap c) (Breaks t c)
unfolding broken_overlap
overlap_breaks t c = of_first (Breaks t c) (overlapping_around c) c.networks (of_group t c)
