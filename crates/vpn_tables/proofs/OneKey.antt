-- What passes a test stays as it is, where a map changes at a key of which nothing passes it.
use Rattle.std.specs.Prelude.{◌≡◌, List, [], ◌∷◌, ◌++◌, Bool, true, false, cond}
use Rattle.std.specs.declared.option.Option.{Option}
use Rattle.std.specs.declared.option.Option.TheVariants.{Some, None}
use Rattle.std.specs.declared.cmp.Ordering.{Ordering}
use Rattle.std.specs.declared.cmp.Ordering.TheVariants.{Equal}
use Rattle.std.specs.List.{AllByRecursion, cons_option, filter, filter_map}
use Rattle.std.specs.Ordering.{eq_by_cmp}
use Rattle.std.specs.Cmp.{Equal-is}
use Rattle.std.specs.FinMap.{IsAntisymmetric, entries, entries-insert, get, put}
use Rattle.std.proofs.Common.{refl, sym, ◌∙◌, ap, subst, inl, inr}
use Rattle.ov_sync.specs.declared.Delta.TheVariants.{Put, Drop}
use Rattle.ov_sync.specs.Keyed.{changed, key_of}
use Rattle.ov_sync.proofs.Ascending.{entries-remove, three, without}
use Rattle.node_model.specs.Members.{Member}
use Rattle.node_model.specs.Keys.{Key, key_cmp}
use Rattle.node_model.specs.Values.{Value}
use Rattle.node_model.specs.Maps.{Change, Map}
use Rattle.node_model.specs.Paths.{Path}
use Rattle.node_model.proofs.Members.{get_member}
use Rattle.node_model.proofs.Orders.{key_exact, key_total}
use Rattle.vpn_holdings.specs.Moved.{moved_in, told_as}

-- nothing of these passes
abbrev pub Off : {Y : Type 0} → (Y → Bool) → List Y → Type 0
Off test ys = AllByRecursion (λ y. test y ≡ false) ys

pub off_left : {Y : Type 0} (test : Y → Bool) (xs ys : List Y) → Off test (xs ++ ys) → Off test xs
off_left test [] ys h = tt
off_left test (x ∷ xs) ys h = (h.0, off_left test xs ys h.1)

pub off_right : {Y : Type 0} (test : Y → Bool) (xs ys : List Y) → Off test (xs ++ ys) → Off test ys
off_right test [] ys h = h
off_right test (x ∷ xs) ys h = off_right test xs ys h.1

module _ {K V Y : Type 0} (R : K → K → Ordering) (exact : IsAntisymmetric R) (test : Y → Bool) (f : K × V → Option Y) where
  abbrev passing : List (K × V) → List Y
  passing es = filter test (filter_map f es)

  cons_off : (o : Option Y) (ys : List Y) → Off test (cons_option o []) → filter test (cons_option o ys) ≡ filter test ys
  cons_off None ys h = refl
  cons_off (Some y) ys h = ap (λ b. cond b (y ∷ filter test ys) (filter test ys)) h.0

  cons_same : (o : Option Y) (ys zs : List Y) → filter test ys ≡ filter test zs → filter test (cons_option o ys) ≡ filter test (cons_option o zs)
  cons_same None ys zs h = h
  cons_same (Some y) ys zs h = λ i. cond (test y) (y ∷ h i) (h i)

  -- each entry of the key does not pass
  abbrev TiedOff : K → List (K × V) → Type 0
  TiedOff k es = (e : K × V) → Member e es → R k e.0 ≡ Equal → Off test (cons_option (f e) [])

  abbrev entry : K → V → K × V
  entry k v = (k, v)

  put_off : (k : K) (v : V) (es : List (K × V)) → Off test (cons_option (f (entry k v)) []) → TiedOff k es → passing es ≡ passing (put R k v es)
  put_off k v [] h tied = sym (cons_off (f (entry k v)) [] h)
  put_off k v (e ∷ es) h tied =
      elim (three (R k e.0)) [
        | inl p ↦ rw p (sym (cons_off (f (entry k v)) (filter_map f (e ∷ es)) h))
        | inr (inl p) ↦ rw p (cons_off (f e) (filter_map f es) (tied e (inl refl) p)
            ∙ sym (cons_off (f (entry e.0 v)) (filter_map f es) (subst (λ (k : K). Off test (cons_option (f (entry k v)) [])) (exact k e.0 p) h)))
        | inr (inr p) ↦ rw p (cons_same (f e) (filter_map f es) (filter_map f (put R k v es)) (put_off k v es h (λ d m. tied d (inr m))))
      ]

  without_off : (k : K) (es : List (K × V)) → TiedOff k es → passing es ≡ passing (without R k es)
  without_off k [] tied = refl
  without_off k (e ∷ es) tied =
      let rest = without_off k es (λ d m. tied d (inr m)) in
      elim (eq_by_cmp R k e.0) as (λ b. eq_by_cmp R k e.0 ≡ b → passing (e ∷ es) ≡ passing (cond b (without R k es) (e ∷ without R k es))) [
        | true ↦ λ t. cons_off (f e) (filter_map f es) (tied e (inl refl) ((Equal-is (R k e.0)).0 t)) ∙ rest
        | false ↦ λ _. cons_same (f e) (filter_map f es) (filter_map f (without R k es)) rest
      ] refl

module _ (test : Path → Bool) (told : Key → Value → Option Path) where
  abbrev pub paths : Map → List Path
  paths m = filter_map (λ e. told e.0 e.1) (entries m)

  tied_off : (m : Map) (k : Key) → Off test (told_as told k (get m k)) → (e : Key × Value) → Member e (entries m) → key_cmp k e.0 ≡ Equal → Off test (cons_option (told e.0 e.1) [])
  tied_off m k h e n t =
      let is : k ≡ e.0 = key_exact k e.0 t in
      subst (λ (o : Option Value). Off test (told_as told e.0 o)) (get_member key_total m e.0 e.1 n) (subst (λ (k : Key). Off test (told_as told k (get m k))) is h)

  pub changed_off : (m : Map) (d : Change) → Off test (moved_in told m d) → filter test (paths m) ≡ filter test (paths (changed m d))
  changed_off m (Put k v) h =
      put_off key_cmp key_exact test (λ e. told e.0 e.1) k v (entries m) (off_right test (told_as told k (get m k)) (cons_option (told k v) []) h)
      (tied_off m k (off_left test (told_as told k (get m k)) (cons_option (told k v) []) h))
      ∙ ap (λ es. filter test (filter_map (λ e. told e.0 e.1) es)) (sym (entries-insert key_total m k v))
  changed_off m (Drop k) h =
      without_off key_cmp key_exact test (λ e. told e.0 e.1) k (entries m) (tied_off m k (off_left test (told_as told k (get m k)) [] h))
      ∙ ap (λ es. filter test (filter_map (λ e. told e.0 e.1) es)) (sym (entries-remove key_cmp key_total key_exact m k))

all_pass : {Y : Type 0} (ys : List Y) → filter (λ _. true) ys ≡ ys
all_pass [] = refl
all_pass (y ∷ ys) = ap (λ zs. y ∷ zs) (all_pass ys)

module _ {Y : Type 0} (f : Key × Value → Option Y) where
  none_off : (o : Option Y) → o ≡ None → Off (λ _. true) (cons_option o [])
  none_off o e = subst (λ (o : Option Y). Off (λ _. true) (cons_option o [])) (sym e) tt

  -- where nothing is said at a key, its change leaves what is said
  pub changed_none : (m : Map) (d : Change) → ((w : Value) → f (key_of d, w) ≡ None) → filter_map f (entries m) ≡ filter_map f (entries (changed m d))
  changed_none m (Put k v) h =
      sym (all_pass (filter_map f (entries m)))
      ∙ put_off key_cmp key_exact (λ _. true) f k v (entries m) (none_off (f (k, v)) (h v)) (tied k h)
      ∙ all_pass (filter_map f (put key_cmp k v (entries m)))
      ∙ ap (filter_map f) (sym (entries-insert key_total m k v))
    where
      tied : (k : Key) → ((w : Value) → f (k, w) ≡ None) → TiedOff key_cmp key_exact (λ _. true) f k (entries m)
      tied k h e n t = none_off (f e) (subst (λ (j : Key). f (j, e.1) ≡ None) (key_exact k e.0 t) (h e.1))
  changed_none m (Drop k) h =
      sym (all_pass (filter_map f (entries m)))
      ∙ without_off key_cmp key_exact (λ _. true) f k (entries m) (tied k h)
      ∙ all_pass (filter_map f (without key_cmp k (entries m)))
      ∙ ap (filter_map f) (sym (entries-remove key_cmp key_total key_exact m k))
    where
      tied : (k : Key) → ((w : Value) → f (k, w) ≡ None) → TiedOff key_cmp key_exact (λ _. true) f k (entries m)
      tied k h e n t = none_off (f e) (subst (λ (j : Key). f (j, e.1) ≡ None) (key_exact k e.0 t) (h e.1))

  -- where nothing that is said at a key passes, its change leaves what passes
  pub changed_but : (test : Y → Bool) (m : Map) (d : Change) → ((w : Value) → Off test (cons_option (f (key_of d, w)) []))
      → filter test (filter_map f (entries m)) ≡ filter test (filter_map f (entries (changed m d)))
  changed_but test m (Put k v) h =
      put_off key_cmp key_exact test f k v (entries m) (h v) (tied k h)
      ∙ ap (λ es. filter test (filter_map f es)) (sym (entries-insert key_total m k v))
    where
      tied : (k : Key) → ((w : Value) → Off test (cons_option (f (k, w)) [])) → TiedOff key_cmp key_exact test f k (entries m)
      tied k h e n t = subst (λ (j : Key). Off test (cons_option (f (j, e.1)) [])) (key_exact k e.0 t) (h e.1)
  changed_but test m (Drop k) h =
      without_off key_cmp key_exact test f k (entries m) (tied k h)
      ∙ ap (λ es. filter test (filter_map f es)) (sym (entries-remove key_cmp key_total key_exact m k))
    where
      tied : (k : Key) → ((w : Value) → Off test (cons_option (f (k, w)) [])) → TiedOff key_cmp key_exact test f k (entries m)
      tied k h e n t = subst (λ (j : Key). Off test (cons_option (f (j, e.1)) [])) (key_exact k e.0 t) (h e.1)
