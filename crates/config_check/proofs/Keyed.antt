-- The first item of each key, as a map keeps it.
use Rattle.std.proofs.Common.{◌≡◌, ◌||◌, ℕ, Bor, Bool, true, false, cond, List, [], ◌∷◌, ◌++◌, Option, Some, None, is_some, refl, sym, ap, ◌∙◌}
use Rattle.std.specs.BTreeMap.{BTreeMap, get}
use Rattle.std.specs.Cmp.{IsTotalOrder, eq_by_cmp_equiv}
use Rattle.std.specs.Cmp.Lexicographic.{slice_cmp, texts_ties, nat_list_eq_equiv}
use Rattle.std.specs.List.{find}
use Rattle.std.specs.Option.{option_copied, option_or}
use Rattle.std.specs.Ordering.{eq_by_cmp, nat_cmp}
use Rattle.std.specs.declared.cmp.Ordering.{Ordering}
use Rattle.std.proofs.lemmas.Bool.{true≢false}
use Rattle.std.proofs.lemmas.List.Folds.{find-append}
use Rattle.ov_types.specs.First.{same_name}

-- whether an item has a key
abbrev pub has_key : {A K : Type 0} → (K → K → Ordering) → (A → K) → K → A → Bool
has_key R key q x = eq_by_cmp R q (key x)

-- a map from keys has of each key the first item that has it
abbrev pub Keeps : {A K : Type 0} → (K → K → Ordering) → (A → K) → BTreeMap K (Bor A) → List A → Type 0
Keeps {A} {K} R key m items = (q : K) → option_copied (get R m q) ≡ find (has_key R key q) items

no_other : {A : Type 0} (o : Option A) → option_or o None ≡ o
no_other None = refl
no_other (Some x) = refl

copied_where : {A : Type 0} (b : Bool) (x : Bor A) (o : Option (Bor A)) → option_copied (cond b (Some x) o) ≡ cond b (Some x.now) (option_copied o)
copied_where true x o = refl
copied_where false x o = refl

copied_some : {A : Type 0} (o : Option (Bor A)) → is_some (option_copied o) ≡ is_some o
copied_some None = refl
copied_some (Some x) = refl

pub copied_none : {A : Type 0} (o : Option (Bor A)) → is_some o ≡ false → option_copied o ≡ None
copied_none None h = refl
copied_none (Some x) h = absurd (true≢false h)

stays : {A : Type 0} (o p : Option A) → is_some o ≡ true → o ≡ option_or o p
stays None p h = absurd (true≢false (sym h))
stays (Some x) p h = refl

module _ {A K : Type 0} {R : K → K → Ordering} (o : IsTotalOrder R) (key : A → K) where
  tied : (q k : K) (xs : List A) → eq_by_cmp R q k ≡ true → find (has_key R key q) xs ≡ find (has_key R key k) xs
  tied q k xs e = ap (λ (p : A → Bool). find p xs) (λ i x. (eq_by_cmp_equiv o).congr q k (key x) e i)

  put : (before : List A) (x : A) (q : K) (old : Option A) → find (has_key R key (key x)) before ≡ None → old ≡ find (has_key R key q) before
      → cond (eq_by_cmp R (key x) q) (Some x) old ≡ find (has_key R key q) (before ++ x ∷ [])
  put before x q old none was = by (eq_by_cmp R (key x) q) refl ∙ sym (find-append (has_key R key q) before (x ∷ []))
    where
      turned : (b : Bool) → eq_by_cmp R (key x) q ≡ b → eq_by_cmp R q (key x) ≡ b
      turned b e = (eq_by_cmp_equiv o).symm q (key x) ∙ e

      by : (b : Bool) → eq_by_cmp R (key x) q ≡ b → cond b (Some x) old ≡ option_or (find (has_key R key q) before) (cond (eq_by_cmp R q (key x)) (Some x) None)
      by true e = rw (tied q (key x) before (turned true e) ∙ none, turned true e) refl
      by false e = rw (turned false e) (was ∙ sym (no_other (find (has_key R key q) before)))

  -- an item whose key no item before it has is put under it
  pub put_new : (before after : List A) (m : BTreeMap K (Bor A)) (x : Bor A) (k q : K) (new : Option (Bor A)) → after ≡ before ++ x.now ∷ []
      → Keeps R key m before → k ≡ key x.now → option_copied (get R m k) ≡ None → new ≡ cond (eq_by_cmp R k q) (Some x) (get R m q)
      → option_copied new ≡ find (has_key R key q) after
  put_new before after m x k q new more keeps is none changed =
      ap option_copied changed ∙ copied_where (eq_by_cmp R k q) x (get R m q)
      ∙ ap (λ (k : K). cond (eq_by_cmp R k q) (Some x.now) (option_copied (get R m q))) is
      ∙ put before x.now q (option_copied (get R m q)) (sym (keeps (key x.now)) ∙ ap (λ (k : K). option_copied (get R m k)) (sym is) ∙ none) (keeps q)
      ∙ ap (find (has_key R key q)) (sym more)

  -- an item whose key one before it has changes nothing
  pub stays_first : (before after : List A) (m : BTreeMap K (Bor A)) (x : A) (k q : K) → after ≡ before ++ x ∷ []
      → Keeps R key m before → k ≡ key x → is_some (get R m k) ≡ true → option_copied (get R m q) ≡ find (has_key R key q) after
  stays_first before after m x k q more keeps is there =
      keeps q ∙ by (eq_by_cmp R q (key x)) refl ∙ sym (find-append (has_key R key q) before (x ∷ [])) ∙ ap (find (has_key R key q)) (sym more)
    where
      by : (b : Bool) → eq_by_cmp R q (key x) ≡ b → find (has_key R key q) before ≡ option_or (find (has_key R key q) before) (cond b (Some x) None)
      by true e =
          stays (find (has_key R key q) before) (Some x)
          (ap is_some (tied q (key x) before e ∙ sym (keeps (key x))) ∙ copied_some (get R m (key x)) ∙ ap (λ (k : K). is_some (get R m k)) (sym is) ∙ there)
      by false e = sym (no_other (find (has_key R key q) before))

  -- where what meets are items of one key, a map has under an item's key the first item before that it meets
  pub met_is : (meets : A → A → Bool) → ((a b : A) → meets a b ≡ eq_by_cmp R (key a) (key b)) → (before : List A) (m : BTreeMap K (Bor A)) (x : A) (k : K) (old : Option (Bor A))
      → Keeps R key m before → k ≡ key x → old ≡ get R m k → find (λ b. meets b x) before ≡ option_copied old
  met_is meets by_key before m x k old keeps is was =
      ap (λ (p : A → Bool). find p before) (λ i b. (by_key b x ∙ (eq_by_cmp_equiv o).symm (key b) (key x)) i)
      ∙ sym (keeps (key x)) ∙ ap (λ (q : K). option_copied (get R m q)) (sym is) ∙ ap option_copied (sym was)

-- what is put under a name, as a list of names has it after others
pub known_more : (known later : Bool) (name q : List ℕ) → (cond (eq_by_cmp (slice_cmp nat_cmp) name q) true known || later) ≡ (known || (same_name q name || later))
known_more known later name q =
    ap (λ (b : Bool). cond b true known || later) (sym (texts_ties name q) ∙ nat_list_eq_equiv.symm name q) ∙ by known (same_name q name)
  where
    by : (known b : Bool) → (cond b true known || later) ≡ (known || (b || later))
    by true true = refl
    by true false = refl
    by false true = refl
    by false false = refl

-- the first item of each name, found by names
pub first_named : {A : Type 0} (name_of : A → List ℕ) (name : List ℕ) (xs : List A)
    → find (has_key (slice_cmp nat_cmp) name_of name) xs ≡ find (λ x. same_name (name_of x) name) xs
first_named {A} name_of name xs =
    ap (λ (p : A → Bool). find p xs) (λ i x. (sym (texts_ties name (name_of x)) ∙ nat_list_eq_equiv.symm name (name_of x)) i)
