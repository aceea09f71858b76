-- One walk over the entries of two maps, each in the order of its keys, gives the difference of the maps.
use Rattle.std.proofs.Common.{◌≡◌, ◌++◌, Bool, true, false, cond, List, [], ◌∷◌, map, refl, ap, ◌∙◌, inl, inr}
use Rattle.std.specs.Prelude.{if◌then◌else◌}
use Rattle.std.specs.declared.option.Option.{Option}
use Rattle.std.specs.declared.option.Option.TheVariants.{Some, None}
use Rattle.std.specs.declared.cmp.Ordering.{Ordering}
use Rattle.std.specs.declared.cmp.Ordering.TheVariants.{Less, Equal}
use Rattle.std.specs.Ordering.{match_ordering, ordering_reverse}
use Rattle.std.specs.Cmp.{IsTotalOrder}
use Rattle.std.proofs.lemmas.Cmp.{tied_itself}
use Rattle.std.specs.List.{filter_map, cons_option}
use Rattle.std.specs.FinMap.{find, put, entries, from_entries, entries-insert, get-from_entries}
use Rattle.ov_sync.specs.declared.Delta.{Delta}
use Rattle.ov_sync.specs.declared.Delta.TheVariants.{Put, Drop}
use Rattle.ov_sync.specs.Keyed.{map_of, change, difference}
use Rattle.ov_sync.proofs.Ascending.{three, Over, Ascends, above, below, over_less, over_put, put-over, entries-map_of}

-- an entry against those of the other map, where rest goes on from the entries after it
abbrev pub against : {K V : Type 0} → (K → K → Ordering) → (V → V → Bool) → K × V → (List (K × V) → List (Delta K V)) → List (K × V) → List (Delta K V)
against R same x rest [] = Drop x.0 ∷ rest []
against R same x rest (y ∷ ys) = match_ordering (R x.0 y.0)
    (Drop x.0 ∷ rest (y ∷ ys))
    (if same x.1 y.1 then rest ys else Put y.0 y.1 ∷ rest ys)
    (Put y.0 y.1 ∷ against R same x rest ys)

abbrev pub walk : {K V : Type 0} → (K → K → Ordering) → (V → V → Bool) → List (K × V) → List (K × V) → List (Delta K V)
walk R same [] ys = map (λ y. Put y.0 y.1) ys
walk R same (x ∷ xs) ys = against R same x (walk R same xs) ys

module _ {K V : Type 0} (R : K → K → Ordering) (same : V → V → Bool) (o : IsTotalOrder R) where
  tied : (a b : K) → R a b ≡ Equal → R b a ≡ Equal
  tied a b h = o.antisymm b a ∙ ap ordering_reverse h

  over_tied : (j k : K) (es : List (K × V)) → R j k ≡ Equal → Over R k es → Over R j es
  over_tied j k [] h all = tt
  over_tied j k (e ∷ es) h all = (o.congr j k e.0 h ∙ all.0, over_tied j k es h all.1)

  -- the entries of both maps, where the first's values count
  abbrev joined : List (K × V) → List (K × V) → List (K × V)
  joined [] ys = ys
  joined (x ∷ xs) ys = put R x.0 x.1 (joined xs ys)

  entries-joined : (xs ys : List (K × V)) → Ascends R ys → entries (from_entries {R = R} (xs ++ ys)) ≡ joined xs ys
  entries-joined [] ys h = entries-map_of R o ys h
  entries-joined (x ∷ xs) ys h = entries-insert o (from_entries (xs ++ ys)) x.0 x.1 ∙ ap (put R x.0 x.1) (entries-joined xs ys h)

  over_joined : (k : K) (xs ys : List (K × V)) → Over R k xs → Over R k ys → Over R k (joined xs ys)
  over_joined k [] ys h all = all
  over_joined k (x ∷ xs) ys h all = over_put R k x.0 x.1 (joined xs ys) h.0 (over_joined k xs ys h.1 all)

  put_past : (x y : K × V) (es : List (K × V)) → R y.0 x.0 ≡ Less → put R x.0 x.1 (y ∷ es) ≡ y ∷ put R x.0 x.1 es
  put_past x y es h = rw (above R o y.0 x.0 h) refl

  joined-cons : (xs : List (K × V)) (y : K × V) (ys : List (K × V)) → Over R y.0 xs → joined xs (y ∷ ys) ≡ y ∷ joined xs ys
  joined-cons [] y ys h = refl
  joined-cons (x ∷ xs) y ys h = ap (put R x.0 x.1) (joined-cons xs y ys h.1) ∙ put_past x y (joined xs ys) h.0

  find_here : (q : K) (e : K × V) (es : List (K × V)) → R q e.0 ≡ Equal → find R q (e ∷ es) ≡ Some e.1
  find_here q e es h = rw h refl

  find_later : (q : K) (e : K × V) (es : List (K × V)) → R e.0 q ≡ Less → find R q (e ∷ es) ≡ find R q es
  find_later q e es h = rw (above R o e.0 q h) refl

  find_none : (q : K) (es : List (K × V)) → Over R q es → find R q es ≡ None
  find_none q [] h = refl
  find_none q (e ∷ es) h = rw h.0 (find_none q es h.1)

  abbrev change_in : List (K × V) → List (K × V) → K → Option (Delta K V)
  change_in xs ys k = change same k (find R k xs) (find R k ys)

  -- the changes of the keys of some entries
  abbrev changes_of : (K → Option (Delta K V)) → List (K × V) → List (Delta K V)
  changes_of f es = filter_map f (map (λ e. e.0) es)

  changes_agree : (f g : K → Option (Delta K V)) (k : K) → ((q : K) → R k q ≡ Less → f q ≡ g q) → (es : List (K × V)) → Over R k es → changes_of f es ≡ changes_of g es
  changes_agree f g k h [] all = refl
  changes_agree f g k h (e ∷ es) all = λ i. cons_option (h e.0 all.0 i) (changes_agree f g k h es all.1 i)

  -- the first key is the sent map's alone
  first_old : (x : K × V) (xs ys : List (K × V)) → Over R x.0 xs → Over R x.0 ys
      → changes_of (change_in (x ∷ xs) ys) (joined (x ∷ xs) ys) ≡ Drop x.0 ∷ changes_of (change_in xs ys) (joined xs ys)
  first_old x xs ys hx hy =
      ap (changes_of (change_in (x ∷ xs) ys)) (put-over R x.0 x.1 (joined xs ys) (over_joined x.0 xs ys hx hy))
      ∙ (λ i. cons_option (change same x.0 (find_here x.0 x xs (tied_itself o x.0) i) (find_none x.0 ys hy i))
      (changes_agree (change_in (x ∷ xs) ys) (change_in xs ys) x.0 (λ q h j. change same q (find_later q x xs h j) (find R q ys)) (joined xs ys) (over_joined x.0 xs ys hx hy) i))

  -- the first key is the wanted map's alone
  first_new : (xs : List (K × V)) (y : K × V) (ys : List (K × V)) → Over R y.0 xs → Over R y.0 ys
      → changes_of (change_in xs (y ∷ ys)) (joined xs (y ∷ ys)) ≡ Put y.0 y.1 ∷ changes_of (change_in xs ys) (joined xs ys)
  first_new xs y ys hx hy =
      ap (changes_of (change_in xs (y ∷ ys))) (joined-cons xs y ys hx)
      ∙ (λ i. cons_option (change same y.0 (find_none y.0 xs hx i) (find_here y.0 y ys (tied_itself o y.0) i))
      (changes_agree (change_in xs (y ∷ ys)) (change_in xs ys) y.0 (λ q h j. change same q (find R q xs) (find_later q y ys h j)) (joined xs ys) (over_joined y.0 xs ys hx hy) i))

  put_tied : (x y : K × V) (es : List (K × V)) → R x.0 y.0 ≡ Equal → put R x.0 x.1 (y ∷ es) ≡ (y.0, x.1) ∷ es
  put_tied x y es h = rw h refl

  choice : (b : Bool) (d : Delta K V) (ds : List (Delta K V)) → cons_option (cond b None (Some d)) ds ≡ cond b ds (d ∷ ds)
  choice true d ds = refl
  choice false d ds = refl

  -- both have the first key
  first_both : (x y : K × V) (xs ys : List (K × V)) → R x.0 y.0 ≡ Equal → Over R x.0 xs → Over R y.0 ys
      → changes_of (change_in (x ∷ xs) (y ∷ ys)) (joined (x ∷ xs) (y ∷ ys))
      ≡ (if same x.1 y.1 then changes_of (change_in xs ys) (joined xs ys) else Put y.0 y.1 ∷ changes_of (change_in xs ys) (joined xs ys))
  first_both x y xs ys t hx hy =
      let hx' = over_tied y.0 x.0 xs (tied x.0 y.0 t) hx in
      ap (changes_of (change_in (x ∷ xs) (y ∷ ys))) (ap (put R x.0 x.1) (joined-cons xs y ys hx') ∙ put_tied x y (joined xs ys) t)
      ∙ (λ i. cons_option (change same y.0 (find_here y.0 x xs (tied x.0 y.0 t) i) (find_here y.0 y ys (tied_itself o y.0) i))
      (changes_agree (change_in (x ∷ xs) (y ∷ ys)) (change_in xs ys) y.0
      (λ q h j. change same q (find_later q x xs (o.congr x.0 y.0 q t ∙ h) j) (find_later q y ys h j)) (joined xs ys) (over_joined y.0 xs ys hx' hy) i))
      ∙ choice (same x.1 y.1) (Put y.0 y.1) (changes_of (change_in xs ys) (joined xs ys))

  walk_new : (ys : List (K × V)) → Ascends R ys → changes_of (change_in [] ys) ys ≡ map (λ y. Put y.0 y.1) ys
  walk_new [] h = refl
  walk_new (y ∷ ys) h = first_new [] y ys tt h.0 ∙ ap (λ (ds : List (Delta K V)). Put y.0 y.1 ∷ ds) (walk_new ys h.1)

  walk_against : (x : K × V) (xs : List (K × V)) → Ascends R (x ∷ xs)
      → ((ys : List (K × V)) → Ascends R ys → changes_of (change_in xs ys) (joined xs ys) ≡ walk R same xs ys)
      → (ys : List (K × V)) → Ascends R ys → changes_of (change_in (x ∷ xs) ys) (joined (x ∷ xs) ys) ≡ against R same x (walk R same xs) ys
  walk_against x xs hx rest [] hy = first_old x xs [] hx.0 tt ∙ ap (λ (ds : List (Delta K V)). Drop x.0 ∷ ds) (rest [] tt)
  walk_against x xs hx rest (y ∷ ys) hy =
      elim (three (R x.0 y.0)) [
        | inl p ↦ first_old x xs (y ∷ ys) hx.0 (p, over_less R o x.0 y.0 ys p hy.0) ∙ ap (λ (ds : List (Delta K V)). Drop x.0 ∷ ds) (rest (y ∷ ys) hy) ∙ rw p refl
        | inr (inl p) ↦ first_both x y xs ys p hx.0 hy.0 ∙ ap (λ (ds : List (Delta K V)). if same x.1 y.1 then ds else Put y.0 y.1 ∷ ds) (rest ys hy.1) ∙ rw p refl
        | inr (inr p) ↦
            let first = below R o x.0 y.0 p in
            first_new (x ∷ xs) y ys (first, over_less R o y.0 x.0 xs first hx.0) hy.0
            ∙ ap (λ (ds : List (Delta K V)). Put y.0 y.1 ∷ ds) (walk_against x xs hx rest ys hy.1) ∙ rw p refl
      ]

  walks : (xs ys : List (K × V)) → Ascends R xs → Ascends R ys → changes_of (change_in xs ys) (joined xs ys) ≡ walk R same xs ys
  walks [] ys hx hy = walk_new ys hy
  walks (x ∷ xs) ys hx hy = walk_against x xs hx (λ zs hz. walks xs zs hx.1 hz) ys hy

  filter_map_agree : (f g : K → Option (Delta K V)) → ((k : K) → f k ≡ g k) → (ks : List K) → filter_map f ks ≡ filter_map g ks
  filter_map_agree f g h [] = refl
  filter_map_agree f g h (k ∷ ks) = λ i. cons_option (h k i) (filter_map_agree f g h ks i)

  pub difference-walk : (xs ys : List (K × V)) → Ascends R xs → Ascends R ys → difference same (map_of R xs) (map_of R ys) ≡ walk R same xs ys
  difference-walk xs ys hx hy =
      (λ i. filter_map (λ k. change same k (get-from_entries o xs k i) (get-from_entries o ys k i)) (map (λ e. e.0) (entries (from_entries {R = R} (entries-map_of R o xs hx i ++ entries-map_of R o ys hy i)))))
      ∙ ap (changes_of (change_in xs ys)) (entries-joined xs ys hy)
      ∙ walks xs ys hx hy
