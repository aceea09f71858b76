-- The difference of embedded maps is the embedded difference.
use Rattle.std.specs.Prelude.{◌≡◌, Bool, true, false, cond, List, [], ◌∷◌, ◌++◌, map}
use Rattle.std.specs.declared.option.Option.{Option}
use Rattle.std.specs.declared.option.Option.TheVariants.{Some, None}
use Rattle.std.specs.declared.cmp.Ordering.{Ordering}
use Rattle.std.specs.declared.cmp.Ordering.TheVariants.{Less, Equal, Greater}
use Rattle.std.specs.Option.{option_map}
use Rattle.std.specs.List.{filter_map, cons_option}
use Rattle.std.specs.Ordering.{is_eq}
use Rattle.std.specs.Cmp.{IsTotalOrder}
use Rattle.std.specs.FinMap.{FinMap, get, entries, from_entries, find, put, entries-insert, get-entries, get-from_entries, IsAntisymmetric, same_map, insert, remove, same_entries_map}
use Rattle.ov_sync.proofs.Ascending.{entries-empty, without, entries-remove}
use Rattle.std.proofs.Common.{refl, sym, ◌∙◌, ap, arith}
use Rattle.ov_sync.specs.declared.Delta.{Delta}
use Rattle.ov_sync.specs.declared.Delta.TheVariants.{Put, Drop}
use Rattle.ov_sync.specs.Keyed.{changed, keys_of_either, change, change_at, difference}
use Rattle.ov_sync.specs.Embed.{moved_entry, moved_delta, embedded}

module _ {K L V W : Type 0} {R : K → K → Ordering} {S : L → L → Ordering} (f : K → L) (g : V → W) (o : IsTotalOrder R) (p : IsTotalOrder S) (keeps : (x y : K) → S (f x) (f y) ≡ R x y) where
  put_moved : (k : K) (v : V) (es : List (K × V)) → put S (f k) (g v) (map (moved_entry f g) es) ≡ map (moved_entry f g) (put R k v es)
  put_moved k v [] = refl
  put_moved k v (e ∷ es) = rw (keeps k e.0) (grind (arith, put_moved k v es))

  entries_moved : (es : List (K × V)) → entries (from_entries {R = S} (map (moved_entry f g) es)) ≡ map (moved_entry f g) (entries (from_entries {R = R} es))
  entries_moved [] = entries-empty {V = W} S ∙ ap (map (moved_entry f g)) (sym (entries-empty {V = V} R))
  entries_moved (e ∷ es) =
      entries-insert p (from_entries (map (moved_entry f g) es)) (f e.0) (g e.1)
      ∙ ap (put S (f e.0) (g e.1)) (entries_moved es)
      ∙ put_moved e.0 e.1 (entries (from_entries {R = R} es))
      ∙ ap (map (moved_entry f g)) (sym (entries-insert o (from_entries es) e.0 e.1))

  find_moved : (q : K) (es : List (K × V)) → find S (f q) (map (moved_entry f g) es) ≡ option_map g (find R q es)
  find_moved q [] = refl
  find_moved q (e ∷ es) =
      ap (λ (r : Ordering). cond (is_eq r) (Some (g e.1)) (find S (f q) (map (moved_entry f g) es))) (keeps q e.0)
      ∙ elim (R q e.0) as (λ r. cond (is_eq r) (Some (g e.1)) (find S (f q) (map (moved_entry f g) es)) ≡ option_map g (cond (is_eq r) (Some e.1) (find R q es))) [ Less ↦ find_moved q es | Equal ↦ refl | Greater ↦ find_moved q es ]

  pub get_embedded : (m : FinMap R V) (q : K) → get (embedded {S = S} f g m) (f q) ≡ option_map g (get m q)
  get_embedded m q = get-from_entries p (map (moved_entry f g) (entries m)) (f q) ∙ find_moved q (entries m) ∙ ap (option_map g) (sym (get-entries m q))

  pub entries-embedded : IsAntisymmetric R → (m : FinMap R V) → entries (embedded {S = S} f g m) ≡ map (moved_entry f g) (entries m)
  entries-embedded exact m = entries_moved (entries m) ∙ ap (λ (n : FinMap R V). map (moved_entry f g) (entries n)) (same_map o exact (from_entries (entries m)) m (λ q. get-from_entries o (entries m) q ∙ sym (get-entries m q)))

  without_moved : (k : K) (es : List (K × V)) → without S (f k) (map (moved_entry f g) es) ≡ map (moved_entry f g) (without R k es)
  without_moved k [] = refl
  without_moved k (e ∷ es) =
      ap (λ r. cond (is_eq r) (without S (f k) (map (moved_entry f g) es)) (moved_entry f g e ∷ without S (f k) (map (moved_entry f g) es))) (keeps k e.0)
      ∙ ap (λ (l : List (L × W)). cond (is_eq (R k e.0)) l (moved_entry f g e ∷ l)) (without_moved k es)
      ∙ elim (is_eq (R k e.0)) as (λ b. cond b (map (moved_entry f g) (without R k es)) (moved_entry f g e ∷ map (moved_entry f g) (without R k es)) ≡ map (moved_entry f g) (cond b (without R k es) (e ∷ without R k es))) [ true ↦ refl | false ↦ refl ]

  -- a change of the image is the image of the change
  pub changed-embedded : IsAntisymmetric R → IsAntisymmetric S → (m : FinMap R V) (d : Delta K V) → changed (embedded {S = S} f g m) (moved_delta f g d) ≡ embedded f g (changed m d)
  changed-embedded exact exact' m (Put k v) = same_entries_map _ _ (
      entries-insert p (embedded f g m) (f k) (g v) ∙ ap (put S (f k) (g v)) (entries-embedded exact m) ∙ put_moved k v (entries m)
      ∙ ap (map (moved_entry f g)) (sym (entries-insert o m k v)) ∙ sym (entries-embedded exact (insert m k v)))
  changed-embedded exact exact' m (Drop k) = same_entries_map _ _ (
      entries-remove S p exact' (embedded f g m) (f k) ∙ ap (without S (f k)) (entries-embedded exact m) ∙ without_moved k (entries m)
      ∙ ap (map (moved_entry f g)) (sym (entries-remove R o exact m k)) ∙ sym (entries-embedded exact (remove m k)))

  map-map_keys : (es : List (K × V)) → map (λ e. e.0) (map (moved_entry f g) es) ≡ map f (map (λ e. e.0) es)
  map-map_keys [] = refl
  map-map_keys (e ∷ es) = ap (λ (ks : List L). f e.0 ∷ ks) (map-map_keys es)

  map-append : (es fs : List (K × V)) → map (moved_entry f g) es ++ map (moved_entry f g) fs ≡ map (moved_entry f g) (es ++ fs)
  map-append [] fs = refl
  map-append (e ∷ es) fs = ap (λ (gs : List (L × W)). moved_entry f g e ∷ gs) (map-append es fs)

  keys_moved : IsAntisymmetric R → (a b : FinMap R V) → keys_of_either (embedded {S = S} f g a) (embedded f g b) ≡ map f (keys_of_either a b)
  keys_moved exact a b =
      (λ i. map (λ e. e.0) (entries (from_entries {R = S} (entries-embedded exact a i ++ entries-embedded exact b i))))
      ∙ ap (λ (es : List (L × W)). map (λ e. e.0) (entries (from_entries {R = S} es))) (map-append (entries a) (entries b))
      ∙ ap (map (λ e. e.0)) (entries_moved (entries a ++ entries b))
      ∙ map-map_keys (entries (from_entries {R = R} (entries a ++ entries b)))

  module _ (same : V → V → Bool) (alike : W → W → Bool) (agree : (v w : V) → alike (g v) (g w) ≡ same v w) where
    change_moved : (k : K) (p q : Option V) → change alike (f k) (option_map g p) (option_map g q) ≡ option_map (moved_delta f g) (change same k p q)
    change_moved k None None = refl
    change_moved k (Some v) None = refl
    change_moved k None (Some w) = refl
    change_moved k (Some v) (Some w) = ap (λ b. cond b None (Some (Put (f k) (g w)))) (agree v w) ∙ elim (same v w) as (λ b. cond b None (Some (Put (f k) (g w))) ≡ option_map (moved_delta f g) (cond b None (Some (Put k w)))) [ true ↦ refl | false ↦ refl ]

    cons_moved : (d : Option (Delta K V)) (ds : List (Delta K V)) → cons_option (option_map (moved_delta f g) d) (map (moved_delta f g) ds) ≡ map (moved_delta f g) (cons_option d ds)
    cons_moved None ds = refl
    cons_moved (Some d) ds = refl

    changes_moved : (a b : FinMap R V) (ks : List K) → filter_map (change_at alike (embedded {S = S} f g a) (embedded f g b)) (map f ks) ≡ map (moved_delta f g) (filter_map (change_at same a b) ks)
    changes_moved a b [] = refl
    changes_moved a b (k ∷ ks) =
        (λ i. cons_option (change alike (f k) (get_embedded a k i) (get_embedded b k i)) (changes_moved a b ks i))
        ∙ ap (λ (d : Option (Delta L W)). cons_option d (map (moved_delta f g) (filter_map (change_at same a b) ks))) (change_moved k (get a k) (get b k))
        ∙ cons_moved (change_at same a b k) (filter_map (change_at same a b) ks)

    pub difference-embedded : IsAntisymmetric R → (a b : FinMap R V) → difference alike (embedded {S = S} f g a) (embedded f g b) ≡ map (moved_delta f g) (difference same a b)
    difference-embedded exact a b =
        ap (filter_map (change_at alike (embedded {S = S} f g a) (embedded f g b))) (keys_moved exact a b) ∙ changes_moved a b (keys_of_either a b)
