-- Of each key the first entry, as the entries of a map.
use Rattle.std.specs.Prelude.{◌≡◌, List, [], ◌∷◌, ◌++◌, map}
use Rattle.std.specs.declared.cmp.Ordering.{Ordering}
use Rattle.std.specs.Cmp.{IsTotalOrder}
use Rattle.std.specs.FinMap.{FinMap, entries, from_entries, insert, same_entries_map}
use Rattle.std.proofs.Common.{sym, ◌∙◌, ap}
use Rattle.ov_sync.specs.Embed.{embedded, moved_entry}
use Rattle.ov_sync.proofs.Ascending.{ascends_entries, entries-map_of}
use Rattle.chain_reorigin.proofs.Telling.{entries_moved}

module _ {K V : Type 0} (R : K → K → Ordering) (o : IsTotalOrder R) where
  -- the entries of a map make that map again
  again : (es : List (K × V)) → from_entries {R = R} (entries (from_entries {R = R} es)) ≡ from_entries es
  again es = same_entries_map _ _ (entries-map_of R o (entries (from_entries es)) (ascends_entries R o es))

  pub put_again : (xs ys : List (K × V)) → from_entries {R = R} (xs ++ entries (from_entries {R = R} ys)) ≡ from_entries (xs ++ ys)
  put_again [] ys = again ys
  put_again (x ∷ xs) ys = ap (λ (m : FinMap R V). insert m x.0 x.1) (put_again xs ys)

module _ {K L V W : Type 0} {R : K → K → Ordering} {S : L → L → Ordering} (f : K → L) (g : V → W) (o : IsTotalOrder R) (p : IsTotalOrder S) (keeps : (x y : K) → S (f x) (f y) ≡ R x y) where
  -- the first entry of each key counts under other keys as it does under its own
  pub embedded_first : (es : List (K × V)) → embedded {R = R} {S = S} f g (from_entries es) ≡ from_entries (map (moved_entry f g) es)
  embedded_first es =
      ap (λ (l : List (L × W)). from_entries {R = S} l) (sym (entries_moved f g o p keeps es)) ∙ again S p (map (moved_entry f g) es)
