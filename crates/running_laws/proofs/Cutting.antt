-- The next octets in flight: the messages of which they end, and a first part of the one behind those.
use Rattle.std.specs.Prelude.{◌≡◌, ◌⊎◌, ◌<◌, ◌≤◌, ◌+◌, ◌-◌, ℕ, List, [], ◌∷◌, ◌++◌, drop, length, map, nat_lt, take, Bool, true, false, cond}
use Rattle.std.specs.List.{AllByRecursion, concat}
use Rattle.std.proofs.Common.{refl, sym, ◌∙◌, ap, subst, inl, inr, arith, append_assoc}
use Rattle.std.proofs.lemmas.Bool.{ltb-false, ltb-true}
use Rattle.std.proofs.lemmas.List.{drop-take, length-take-le, take-append-drop, take-append-le, take-take}
use Rattle.std.proofs.Math.Seq.{take-append-add, take-nil}
use Rattle.machine_laws.specs.MachineModel.Session.{Message}
use Rattle.machine_laws.specs.MachineModel.Moments.{IsPartly}
use Rattle.running_nodes.specs.Stands.{first_of}
use Rattle.running_nodes.specs.Steps.{untaken}
use Rattle.running_laws.proofs.Arriving.{rest_of, taken_of, whole_of}

-- ---- the first so many octets of a list
below : (a b : ℕ) → a < b → a ≤ b
below a b h = omega (arith, h)

more : (a n : ℕ) → a ≤ a + n
more a n = omega arith

take_both : (k n : ℕ) (l : List ℕ) → take k l ++ take n (drop k l) ≡ take (k + n) l
take_both k n l =
    (λ i. sym (take-take k (k + n) l (more k n)) i ++ sym (drop-take k n l) i)
    ∙ take-append-drop k (take (k + n) l)

-- behind a list that is taken whole
behind : (xs ys : List ℕ) (n : ℕ) → length xs ≤ n → take n (xs ++ ys) ≡ xs ++ take (n - length xs) ys
behind xs ys n h =
    let e : n ≡ length xs + (n - length xs) = omega (arith, h) in
    ap (λ n. take n (xs ++ ys)) e ∙ take-append-add xs ys (n - length xs)

module _ (g : Message → List ℕ) (z : Message → ℕ) where
  abbrev pub AreLong : List Message → Type 0
  AreLong fs = AllByRecursion (λ m. length (g m) ≡ z m) fs

  -- ---- which messages
  pub both_parts : (n : ℕ) (fs : List Message) → fs ≡ whole_of z n fs ++ rest_of z n fs
  both_parts n [] = refl
  both_parts n (m ∷ ms) =
      elim (nat_lt n (z m)) as (λ d. m ∷ ms ≡ cond d [] (m ∷ whole_of z (n - z m) ms) ++ cond d (m ∷ ms) (rest_of z (n - z m) ms)) [
        | true ↦ refl
        | false ↦ ap (λ ms. m ∷ ms) (both_parts (n - z m) ms)
      ]

  pub part_is : (n : ℕ) (fs : List Message) → IsPartly z (rest_of z n fs) (taken_of z n fs)
  part_is n [] = refl
  part_is n (m ∷ ms) = by_size (nat_lt n (z m)) refl (part_is (n - z m) ms)
    where
      by_size : (d : Bool) → nat_lt n (z m) ≡ d → IsPartly z (rest_of z (n - z m) ms) (taken_of z (n - z m) ms)
          → IsPartly z (cond d (m ∷ ms) (rest_of z (n - z m) ms)) (cond d n (taken_of z (n - z m) ms))
      by_size true e later = ltb-true n (z m) e
      by_size false e later = later

  pub untaken_is : (n : ℕ) (fs : List Message) → AreLong fs → untaken n (map g fs) ≡ map g (rest_of z n fs)
  untaken_is n [] long = refl
  untaken_is n (m ∷ ms) long =
      ap (λ k. cond (nat_lt n k) (g m ∷ map g ms) (untaken (n - k) (map g ms))) long.0
      ∙ elim (nat_lt n (z m)) as (λ d. cond d (g m ∷ map g ms) (untaken (n - z m) (map g ms)) ≡ map g (cond d (m ∷ ms) (rest_of z (n - z m) ms))) [
        | true ↦ refl
        | false ↦ untaken_is (n - z m) ms long.1
      ]

  -- ---- which octets
  abbrev pub part_in : ℕ → List Message → List ℕ
  part_in n fs = take (taken_of z n fs) (first_of (map g (rest_of z n fs)))

  pub octets_are : (n : ℕ) (fs : List Message) → AreLong fs
      → take n (concat (map g fs)) ≡ concat (map g (whole_of z n fs)) ++ part_in n fs
  octets_are n [] long = take-nil n
  octets_are n (m ∷ ms) long = by_size (nat_lt n (z m)) refl (octets_are (n - z m) ms long.1)
    where
      by_size : (d : Bool) → nat_lt n (z m) ≡ d
          → take (n - z m) (concat (map g ms)) ≡ concat (map g (whole_of z (n - z m) ms)) ++ part_in (n - z m) ms
          → take n (g m ++ concat (map g ms))
          ≡ concat (map g (cond d [] (m ∷ whole_of z (n - z m) ms)))
          ++ take (cond d n (taken_of z (n - z m) ms)) (first_of (map g (cond d (m ∷ ms) (rest_of z (n - z m) ms))))
      by_size true e later =
          let less = ltb-true n (z m) e in
          take-append-le n (g m) (concat (map g ms)) (subst (λ k. n ≤ k) (sym long.0) (below n (z m) less))
      by_size false e later =
          behind (g m) (concat (map g ms)) n (subst (λ k. k ≤ n) (sym long.0) (ltb-false n (z m) e))
          ∙ ap (λ k. g m ++ take (n - k) (concat (map g ms))) long.0
          ∙ ap (λ o. g m ++ o) later
          ∙ sym (append_assoc (g m) (concat (map g (whole_of z (n - z m) ms))) (part_in (n - z m) ms))

  -- so many octets of the part there are
  pub part_long : (n : ℕ) (fs : List Message) → AreLong fs → length (part_in n fs) ≡ taken_of z n fs
  part_long n [] long = refl
  part_long n (m ∷ ms) long = by_size (nat_lt n (z m)) refl (part_long (n - z m) ms long.1)
    where
      by_size : (d : Bool) → nat_lt n (z m) ≡ d → length (part_in (n - z m) ms) ≡ taken_of z (n - z m) ms
          → length (take (cond d n (taken_of z (n - z m) ms)) (first_of (map g (cond d (m ∷ ms) (rest_of z (n - z m) ms)))))
          ≡ cond d n (taken_of z (n - z m) ms)
      by_size true e later = length-take-le n (g m) (subst (λ k. n ≤ k) (sym long.0) (below n (z m) (ltb-true n (z m) e)))
      by_size false e later = later

  -- ---- behind what is kept of the first message
  kept_before : (fs : List Message) → AreLong fs → (kept : List ℕ) → kept ≡ take (length kept) (first_of (map g fs))
      → IsPartly z fs (length kept) → kept ≡ take (length kept) (concat (map g fs))
  kept_before [] long kept is part = is
  kept_before (m ∷ ms) long kept is part =
      is ∙ sym (take-append-le (length kept) (g m) (concat (map g ms)) (subst (λ k. length kept ≤ k) (sym long.0) (below (length kept) (z m) part)))

  pub kept_and_next : (fs : List Message) → AreLong fs → (kept : List ℕ) → kept ≡ take (length kept) (first_of (map g fs))
      → IsPartly z fs (length kept) → (n : ℕ)
      → kept ++ take n (drop (length kept) (concat (map g fs)))
      ≡ concat (map g (whole_of z (length kept + n) fs)) ++ part_in (length kept + n) fs
  kept_and_next fs long kept is part n =
      ap (λ xs. xs ++ take n (drop (length kept) (concat (map g fs)))) (kept_before fs long kept is part)
      ∙ take_both (length kept) n (concat (map g fs))
      ∙ octets_are (length kept + n) fs long

  -- which is a first part of a message, or nothing
  pub first_part : (P : Message → Type 0) (rest : List Message) (k : ℕ) → IsPartly z rest k → AreLong rest
      → AllByRecursion P rest
      → (take k (first_of (map g rest)) ≡ [])
      ⊎ ((m : Message) × (j : ℕ) × P m × (j < length (g m)) × (take k (first_of (map g rest)) ≡ take j (g m)))
  first_part P [] k part long all = inl (take-nil k)
  first_part P (m ∷ ms) k part long all = inr (m, k, all.0, subst (λ n. k < n) (sym long.0) part, refl)
