-- Keys that are told one after another.
use Rattle.std.specs.Prelude.{◌≡◌, ◌<◌, ◌++◌, ℕ, zero, suc, List, [], ◌∷◌, map, drop, length, get_or}
use Rattle.std.specs.declared.option.Option.{Option}
use Rattle.std.specs.declared.option.Option.TheVariants.{Some, None}
use Rattle.std.specs.declared.cmp.Ordering.{Ordering}
use Rattle.std.specs.declared.cmp.Ordering.TheVariants.{Less}
use Rattle.std.specs.Option.{option_map}
use Rattle.std.specs.List.{AllByRecursion, cons_option}
use Rattle.std.specs.List.Sorted.{IsStrictlySortedBy}
use Rattle.std.specs.FinMap.{get}
use Rattle.std.proofs.Common.{refl, sym, ◌∙◌, ap, arith, append_assoc}
use Rattle.ov_sync.specs.Keyed.{AgreeBut, change, set_key, set_keys, told_keys}
use Rattle.ov_sync.proofs.ByKeys.{set_by_keys, told_by_keys}
use Rattle.vpn_tables.specs.NodeModel.Keys.{Key, key_cmp}
use Rattle.vpn_tables.specs.NodeModel.Maps.{Change, Map, difference}
use Rattle.vpn_tables.specs.NodeModel.Values.{Value, same_value}
use Rattle.vpn_tables.proofs.NodeModel.Alike.{same_value_decides}
use Rattle.vpn_tables.proofs.NodeModel.Orders.{key_exact, key_total}

none_after : {X : Type 0} (xs : List X) → xs ++ [] ≡ xs
none_after [] = refl
none_after (x ∷ xs) = ap (λ zs. x ∷ zs) (none_after xs)

optional : {X : Type 0} (o : Option X) (xs : List X) → cons_option o [] ++ xs ≡ cons_option o xs
optional None xs = refl
optional (Some x) xs = refl

-- ---- a list of keys, each with what is wanted of it
module _ {K V : Type 0} (f : K → Key) (g : V → Value) where
  abbrev pub keys_of : List (K × Option V) → List Key
  keys_of es = map (λ e. f e.0) es

  abbrev pub Each : Map → List (K × Option V) → Type 0
  Each w es = AllByRecursion (λ e. option_map g e.1 ≡ get w (f e.0)) es

  each_at : (w : Map) (es : List (K × Option V)) (i : ℕ) (d : K × Option V) → Each w es → i < length es → option_map g (get_or es i d).1 ≡ get w (f (get_or es i d).0)
  each_at w [] i d all lt = absurd (omega (arith, lt))
  each_at w (e ∷ es) zero d all lt = all.0
  each_at w (e ∷ es) (suc i) d all lt = each_at w es i d all.1 (omega (arith, lt))

  next : (es : List (K × Option V)) (i : ℕ) (d : K × Option V) → i < length es → keys_of (drop i es) ≡ f (get_or es i d).0 ∷ keys_of (drop (suc i) es)
  next [] i d lt = absurd (omega (arith, lt))
  next (e ∷ es) zero d lt = refl
  next (e ∷ es) (suc i) d lt = next es i d (omega (arith, lt))

  past : (es : List (K × Option V)) → keys_of (drop (length es) es) ≡ []
  past [] = refl
  past (e ∷ es) = past es

  -- the changes so far, with those of the keys that are left, are those of all, and so is what is sent then
  module _ (es : List (K × Option V)) (first : Map) where
    abbrev pub SoFar : ℕ → List Change → Map → Type 0
    SoFar i changes m = (w : Map) → Each w es
        → (changes ++ told_keys same_value w m (keys_of (drop i es)) ≡ told_keys same_value w first (keys_of es))
        × (set_keys w m (keys_of (drop i es)) ≡ set_keys w first (keys_of es))

    pub so_far_none : SoFar 0 [] first
    so_far_none = λ w each. (refl, refl)

    pub so_far_more : (i : ℕ) (d : K × Option V) (changes changes' : List Change) (m m' : Map) → i < length es → SoFar i changes m
        → changes' ≡ changes ++ cons_option (change same_value (f (get_or es i d).0) (get m (f (get_or es i d).0)) (option_map g (get_or es i d).1)) []
        → m' ≡ set_key m (f (get_or es i d).0) (option_map g (get_or es i d).1)
        → SoFar (suc i) changes' m'
    so_far_more i d changes changes' m m' lt so c s = λ w each.
        let k = f (get_or es i d).0 in
        let o = option_map g (get_or es i d).1 in
        let is : o ≡ get w k = each_at w es i d each lt in
        let left = keys_of (drop (suc i) es) in
        let now = next es i d lt in (
          (λ j. c j ++ told_keys same_value w (s j) left)
              ∙ append_assoc changes (cons_option (change same_value k (get m k) o) []) (told_keys same_value w (set_key m k o) left)
              ∙ ap (λ l. changes ++ l) (optional (change same_value k (get m k) o) (told_keys same_value w (set_key m k o) left))
              ∙ (λ j. changes ++ cons_option (change same_value k (get m k) (is j)) (told_keys same_value w (set_key m k (is j)) left))
              ∙ ap (λ l. changes ++ told_keys same_value w m l) (sym now)
              ∙ (so w each).0,
          (λ j. set_keys w (s j) left)
              ∙ ap (λ x. set_keys w (set_key m k x) left) is
              ∙ ap (λ l. set_keys w m l) (sym now)
              ∙ (so w each).1,
        )

    pub so_far_all : (i : ℕ) (changes : List Change) (m : Map) → i ≡ length es → SoFar i changes m → (w : Map) → Each w es
        → (changes ≡ told_keys same_value w first (keys_of es)) × (m ≡ set_keys w first (keys_of es))
    so_far_all i changes m end so w each =
        let none = ap (λ n. keys_of (drop n es)) end ∙ past es in (
          sym (none_after changes) ∙ ap (λ l. changes ++ told_keys same_value w m l) (sym none) ∙ (so w each).0,
          ap (λ l. set_keys w m l) (sym none) ∙ (so w each).1,
        )

  -- ---- keys in their order
  module _ (R : K → K → Ordering) (keeps : (x y : K) → key_cmp (f x) (f y) ≡ R x y) where
    over_moved : (k : K) (es : List (K × Option V)) → AllByRecursion (λ i. R k i ≡ Less) (map (λ e. e.0) es) → AllByRecursion (λ j. key_cmp (f k) j ≡ Less) (keys_of es)
    over_moved k [] h = tt
    over_moved k (e ∷ es) h = (keeps k e.0 ∙ h.0, over_moved k es h.1)

    pub sorted_moved : (es : List (K × Option V)) → IsStrictlySortedBy R (map (λ e. e.0) es) → IsStrictlySortedBy key_cmp (keys_of es)
    unfolding IsStrictlySortedBy
    sorted_moved [] h = tt
    sorted_moved (e ∷ es) h = (over_moved e.0 es h.0, sorted_moved es h.1)

    pub all_told : (es : List (K × Option V)) (first : Map) (i : ℕ) (changes : List Change) (m : Map) → i ≡ length es → SoFar es first i changes m → IsStrictlySortedBy R (map (λ e. e.0) es)
        → (w : Map) → Each w es → AgreeBut (keys_of es) first w → changes ≡ difference first w
    all_told es first i changes m end so sorted w each off =
        (so_far_all es first i changes m end so w each).0
        ∙ told_by_keys same_value key_total key_exact same_value_decides first w (keys_of es) (sorted_moved es sorted) off

  pub all_sent : (es : List (K × Option V)) (first : Map) (i : ℕ) (changes : List Change) (m : Map) → i ≡ length es → SoFar es first i changes m
      → (w : Map) → Each w es → AgreeBut (keys_of es) first w → m ≡ w
  all_sent es first i changes m end so w each off =
      (so_far_all es first i changes m end so w each).1
      ∙ set_by_keys same_value key_total key_exact same_value_decides first w (keys_of es) off
