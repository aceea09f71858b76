-- Lists that have one object more, of a new name.
use Rattle.std.proofs.Common.{◌≡◌, ◌≢◌, ℕ, Bool, false, List, [], ◌∷◌, ◌++◌, inl, inr, refl, sym, ap, ◌∙◌, subst, append-nil}
use Rattle.std.specs.List.{All, Contains, filter}
use Rattle.std.proofs.lemmas.List.Elements.{All-contains, Contains-append_cases, Contains-append_left, Contains-append_right}
use Rattle.ov_types.proofs.FirstLemmas.{contains_here, contains_later}
use Rattle.std.proofs.Common.{map}
use Rattle.config_check.specs.EditLaws.{Appends, Removes, Replaces}
use Rattle.config_check.specs.Sentences.{AreDistinct}

pub record OneMore {A : Type 0} (name_of : A → List ℕ) (small large : List A) : Type 0 where
  pub before : List A
  pub added : A
  pub after : List A
  pub was : small ≡ before ++ after
  pub is : large ≡ before ++ added ∷ after
  pub fresh : All (λ y. name_of y ≢ name_of added) small

pub of_appends : {A : Type 0} (name_of : A → List ℕ) (x : A) (old new : List A) → Appends name_of x old new → OneMore name_of old new
of_appends name_of x old new h = record { before = old; added = x; after = []; was = sym (append-nil old); is = h.is; fresh = h.fresh }

pub of_removes : {A : Type 0} (name_of : A → List ℕ) (name : List ℕ) (old new : List A) → AreDistinct (map name_of old) → Removes name_of name old new → OneMore name_of new old
of_removes {A} name_of name old new distinct h =
    record {
      before = h.before;
      added = h.removed;
      after = h.after;
      was = h.is;
      is = h.was;
      fresh = subst (λ (n : List ℕ). All (λ y. name_of y ≢ n) new) (sym h.named) (h.others distinct);
    }

-- nothing that has a new name is replaced
pub not_replaced : {A : Type 0} (name_of : A → List ℕ) (x : A) (old new : List A) → All (λ y. name_of y ≢ name_of x) old → Replaces name_of x old new → ⊥
not_replaced {A} name_of x old new fresh h =
    let there : Contains old h.replaced = subst (λ (ys : List A). Contains ys h.replaced) (sym h.was)
    (Contains-append_right h.before (h.replaced ∷ h.after) h.replaced (contains_here h.replaced h.after)) in
    All-contains (λ y. name_of y ≢ name_of x) old h.replaced fresh there h.named

-- the larger has all that the smaller has
pub more : {A : Type 0} (name_of : A → List ℕ) (small large : List A) → OneMore name_of small large → (x : A) → Contains small x → Contains large x
more {A} name_of small large h x at =
    subst (λ (ys : List A). Contains ys x) (sym h.is)
    (elim (Contains-append_cases h.before h.after x (subst (λ (ys : List A). Contains ys x) h.was at)) [
      | inl early ↦ Contains-append_left h.before (h.added ∷ h.after) x early
      | inr late ↦ Contains-append_right h.before (h.added ∷ h.after) x (contains_later x h.added h.after late)
    ])

-- where a test fails of what is new, both have the same that pass it
without_new : {A : Type 0} (p : A → Bool) (before after : List A) (z : A) → p z ≡ false → filter p (before ++ z ∷ after) ≡ filter p (before ++ after)
without_new p [] after z fails = rw fails refl
without_new {A} p (b ∷ bs) after z fails =
    let rest : filter p (bs ++ z ∷ after) ≡ filter p (bs ++ after) = without_new p bs after z fails in
    rw rest refl

pub same_kept : {A : Type 0} (name_of : A → List ℕ) (p : A → Bool) (small large : List A) → (h : OneMore name_of small large) → p h.added ≡ false → filter p small ≡ filter p large
same_kept {A} name_of p small large h fails =
    ap (filter p) h.was ∙ sym (without_new p h.before h.after h.added fails) ∙ sym (ap (filter p) h.is)
