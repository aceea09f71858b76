-- What is said of a map's entries stays as it is, where the map changes at a key of which nothing is said.
use Rattle.std.specs.Prelude.{◌≡◌, List, [], ◌∷◌, ◌++◌, Bool, true, false, cond}
use Rattle.std.specs.declared.option.Option.{Option}
use Rattle.std.specs.declared.option.Option.TheVariants.{Some, None}
use Rattle.std.specs.declared.cmp.Ordering.{Ordering}
use Rattle.std.specs.declared.cmp.Ordering.TheVariants.{Equal}
use Rattle.std.specs.List.{cons_option, filter, filter_map}
use Rattle.std.specs.Ordering.{eq_by_cmp}
use Rattle.std.specs.Cmp.{Equal-is}
use Rattle.std.specs.FinMap.{entries, entries-insert, find, get, put}
use Rattle.std.proofs.Common.{refl, sym, ◌∙◌, ap, subst, inl, inr}
use Rattle.ov_sync.specs.declared.Delta.TheVariants.{Put, Drop}
use Rattle.ov_sync.specs.Keyed.{changed, key_of}
use Rattle.ov_sync.proofs.Ascending.{entries-remove, three, without}
use Rattle.node_model.specs.Members.{Member}
use Rattle.node_model.specs.Keys.{Key, key_cmp}
use Rattle.node_model.specs.Values.{Value}
use Rattle.node_model.specs.Maps.{Change, Map}
use Rattle.node_model.proofs.Members.{get_member}
use Rattle.node_model.proofs.Orders.{key_exact, key_total}

-- the value that a change puts
abbrev pub value_put : Change → Option Value
value_put (Put k v) = Some v
value_put (Drop k) = None

module _ {Y : Type 0} (f : Key → Value → Option Y) where
  abbrev pub said : List (Key × Value) → List Y
  said es = filter_map (λ e. f e.0 e.1) es

  -- nothing is said of a value that may not be there
  abbrev pub Unsaid : Key → Option Value → Type 0
  Unsaid k None = Unit {0}
  Unsaid k (Some v) = f k v ≡ None

  -- each entry of the key says nothing
  abbrev Silent : Key → List (Key × Value) → Type 0
  Silent k es = (e : Key × Value) → Member e es → key_cmp k e.0 ≡ Equal → f e.0 e.1 ≡ None

  skipped : (o : Option Y) (ys : List Y) → o ≡ None → ys ≡ cons_option o ys
  skipped o ys e = sym (ap (λ (o : Option Y). cons_option o ys) e)

  put_silent : (k : Key) (v : Value) (es : List (Key × Value)) → f k v ≡ None → Silent k es → said es ≡ said (put key_cmp k v es)
  put_silent k v [] h tied = skipped (f k v) [] h
  put_silent k v (e ∷ es) h tied =
      elim (three (key_cmp k e.0)) [
        | inl p ↦ rw p (skipped (f k v) (said (e ∷ es)) h)
        | inr (inl p) ↦ rw p (sym (skipped (f e.0 e.1) (said es) (tied e (inl refl) p)) ∙ skipped (f e.0 v) (said es) (subst (λ (k : Key). f k v ≡ None) (key_exact k e.0 p) h))
        | inr (inr p) ↦ rw p (ap (λ ys. cons_option (f e.0 e.1) ys) (put_silent k v es h (λ d m. tied d (inr m))))
      ]

  without_silent : (k : Key) (es : List (Key × Value)) → Silent k es → said es ≡ said (without key_cmp k es)
  without_silent k [] tied = refl
  without_silent k (e ∷ es) tied =
      let rest = without_silent k es (λ d m. tied d (inr m)) in
      elim (eq_by_cmp key_cmp k e.0) as (λ b. eq_by_cmp key_cmp k e.0 ≡ b → said (e ∷ es) ≡ said (cond b (without key_cmp k es) (e ∷ without key_cmp k es))) [
        | true ↦ λ t. sym (skipped (f e.0 e.1) (said es) (tied e (inl refl) ((Equal-is (key_cmp k e.0)).0 t))) ∙ rest
        | false ↦ λ _. ap (λ ys. cons_option (f e.0 e.1) ys) rest
      ] refl

  silent_at : (m : Map) (k : Key) → Unsaid k (get m k) → Silent k (entries m)
  silent_at m k h e n t =
      let is : k ≡ e.0 = key_exact k e.0 t in
      subst (Unsaid e.0) (get_member key_total m e.0 e.1 n) (subst (λ (k : Key). Unsaid k (get m k)) is h)

  -- where nothing is said of the value before and of the one after, all that is said stays
  pub said_stays : (m : Map) (d : Change) → Unsaid (key_of d) (get m (key_of d)) → Unsaid (key_of d) (value_put d) → said (entries m) ≡ said (entries (changed m d))
  said_stays m (Put k v) before after =
      put_silent k v (entries m) after (silent_at m k before) ∙ ap said (sym (entries-insert key_total m k v))
  said_stays m (Drop k) before after =
      without_silent k (entries m) (silent_at m k before) ∙ ap said (sym (entries-remove key_cmp key_total key_exact m k))

-- ---- what passes a test
abbrev pub kept : {X : Type 0} → (X → Bool) → Option X → Option X
kept p None = None
kept p (Some x) = cond (p x) (Some x) None

pub filter_said : {X Z : Type 0} (p : X → Bool) (f : Z → Option X) (es : List Z) → filter p (filter_map f es) ≡ filter_map (λ e. kept p (f e)) es
filter_said p f [] = refl
filter_said p f (e ∷ es) =
    let rest = filter_said p f es in
    elim (f e) as (λ o. filter p (cons_option o (filter_map f es)) ≡ cons_option (kept p o) (filter_map (λ e. kept p (f e)) es)) [
      | None ↦ rest
      | Some x ↦ elim (p x) as (λ b. cond b (x ∷ filter p (filter_map f es)) (filter p (filter_map f es)) ≡ cons_option (cond b (Some x) None) (filter_map (λ e. kept p (f e)) es)) [
        | true ↦ ap (λ ys. x ∷ ys) rest
        | false ↦ rest
      ]
    ]

pub map_said : {X Y Z : Type 0} (g : X → Option Y) (f : Z → Option X) (both : Z → Option Y) → ((z : Z) (ys : List X) → filter_map g (cons_option (f z) ys) ≡ cons_option (both z) (filter_map g ys))
    → (es : List Z) → filter_map g (filter_map f es) ≡ filter_map both es
map_said g f both h [] = refl
map_said g f both h (e ∷ es) = h e (filter_map f es) ∙ ap (λ ys. cons_option (both e) ys) (map_said g f both h es)

pub filter_alike : {X : Type 0} (p q : X → Bool) → ((x : X) → p x ≡ q x) → (xs : List X) → filter p xs ≡ filter q xs
filter_alike p q h [] = refl
filter_alike p q h (x ∷ xs) = λ i. cond (h x i) (x ∷ filter_alike p q h xs i) (filter_alike p q h xs i)

-- ---- what is found
abbrev first_of : {X : Type 0} → Option X → Option X → Option X
first_of None o = o
first_of (Some x) o = Some x

module _ {K V : Type 0} (R : K → K → Ordering) (k : K) where
  pub find_append : (es fs : List (K × V)) → find R k (es ++ fs) ≡ first_of (find R k es) (find R k fs)
  find_append [] fs = refl
  find_append (e ∷ es) fs = elim (eq_by_cmp R k e.0) as (λ b. cond b (Some e.1) (find R k (es ++ fs)) ≡ first_of (cond b (Some e.1) (find R k es)) (find R k fs)) [ true ↦ refl | false ↦ find_append es fs ]

  pub found_both : (es fs gs hs : List (K × V)) → find R k es ≡ find R k gs → find R k fs ≡ find R k hs → find R k (es ++ fs) ≡ find R k (gs ++ hs)
  found_both es fs gs hs a b = find_append es fs ∙ (λ i. first_of (a i) (b i)) ∙ sym (find_append gs hs)
