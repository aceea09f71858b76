-- A key that is told, among other keys in the same order.
use Rattle.std.specs.Prelude.{◌≡◌, ◌++◌, Bool, true, false, cond, List, [], ◌∷◌, map}
use Rattle.std.specs.declared.option.Option.{Option}
use Rattle.std.specs.declared.option.Option.TheVariants.{Some, None}
use Rattle.std.specs.declared.cmp.Ordering.{Ordering}
use Rattle.std.specs.Option.{option_map}
use Rattle.std.specs.List.{cons_option}
use Rattle.std.specs.Ordering.{eq_by_cmp}
use Rattle.std.specs.Cmp.{IsTotalOrder}
use Rattle.std.specs.FinMap.{FinMap, IsAntisymmetric, get}
use Rattle.std.proofs.Common.{refl, sym, ◌∙◌, ap}
use Rattle.ov_sync.specs.declared.Delta.TheVariants.{Put, Drop}
use Rattle.ov_sync.specs.Embed.{embedded, moved_delta}
use Rattle.ov_sync.specs.Keyed.{change, set_key}
use Rattle.ov_sync.proofs.ByKeys.{set_from}
use Rattle.ov_sync.proofs.EmbedLaws.{changed-embedded, get_embedded}

module _ {K L V W : Type 0} {R : K → K → Ordering} {S : L → L → Ordering} (f : K → L) (g : V → W) (o : IsTotalOrder R) (p : IsTotalOrder S) (keeps : (x y : K) → S (f x) (f y) ≡ R x y) (exact : IsAntisymmetric R) (exact' : IsAntisymmetric S) (same : V → V → Bool) (alike : W → W → Bool) (agree : (v w : V) → alike (g v) (g w) ≡ same v w) where
  set_moved : (m : FinMap R V) (k : K) (w : Option V) → embedded {S = S} f g (set_key m k w) ≡ set_key (embedded {S = S} f g m) (f k) (option_map g w)
  set_moved m k None = sym (changed-embedded f g o p keeps exact exact' m (Drop k))
  set_moved m k (Some v) = sym (changed-embedded f g o p keeps exact exact' m (Put k v))

  -- a map in which one key was set
  pub now_set : (m n : FinMap R V) (k : K) (w : Option V) → ((q : K) → get n q ≡ cond (eq_by_cmp R q k) w (get m q)) → embedded {S = S} f g n ≡ set_key (embedded {S = S} f g m) (f k) (option_map g w)
  now_set m n k w h = ap (embedded {S = S} f g) (set_from o exact m n k w h) ∙ set_moved m k w

  change_moved : (k : K) (a b : Option V) → option_map (moved_delta f g) (change same k a b) ≡ change alike (f k) (option_map g a) (option_map g b)
  change_moved k None None = refl
  change_moved k (Some v) None = refl
  change_moved k None (Some w) = refl
  change_moved k (Some v) (Some w) =
      elim (same v w) as (λ b. option_map (moved_delta f g) (cond b None (Some (Put k w))) ≡ cond b None (Some (Put (f k) (g w)))) [ true ↦ refl | false ↦ refl ]
      ∙ ap (λ b. cond b None (Some (Put (f k) (g w)))) (sym (agree v w))

  -- the change of that key
  pub now_told : (m : FinMap R V) (k : K) (w : Option V) → option_map (moved_delta f g) (change same k (get m k) w) ≡ change alike (f k) (get (embedded {S = S} f g m) (f k)) (option_map g w)
  now_told m k w = change_moved k (get m k) w ∙ ap (λ a. change alike (f k) a (option_map g w)) (sym (get_embedded f g o p keeps m k))

pub map_append : {X Y : Type 0} (h : X → Y) (xs ys : List X) → map h (xs ++ ys) ≡ map h xs ++ map h ys
map_append h [] ys = refl
map_append h (x ∷ xs) ys = ap (λ zs. h x ∷ zs) (map_append h xs ys)

-- a change follows those so far, where there is one
pub follows : {X Y : Type 0} (h : X → Y) (xs : List X) (d : Option X) (c : Option Y) → option_map h d ≡ c → map h (xs ++ cons_option d []) ≡ map h xs ++ cons_option c []
follows h xs None c e = map_append h xs [] ∙ ap (λ o. map h xs ++ cons_option o []) e
follows h xs (Some d) c e = map_append h xs (d ∷ []) ∙ ap (λ o. map h xs ++ cons_option o []) e
