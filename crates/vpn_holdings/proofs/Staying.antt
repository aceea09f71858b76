-- What is kept at each place, after one place was changed.
use Rattle.std.specs.Prelude.{◌≡◌, true, false, cond, Some}
use Rattle.std.specs.declared.cmp.Ordering.{Ordering}
use Rattle.std.specs.declared.cmp.Ordering.TheVariants.{Equal}
use Rattle.std.specs.declared.option.Option.{Option}
use Rattle.std.specs.BTreeMap as tree
use Rattle.std.specs.BTreeMap.{BTreeMap, is_at}
use Rattle.std.specs.Cmp.{Equal-is}
use Rattle.std.specs.Ordering.{is_eq}
use Rattle.std.proofs.lemmas.Bool.{true≢false}
use Rattle.std.proofs.Common.{refl, sym, ◌∙◌, ap}

here_is : {K : Type 0} (R : K → K → Ordering) → ((a b : K) → R a b ≡ Equal → a ≡ b) → (at q : K) → is_at (R at) q ≡ true → at ≡ q
here_is R exact at q t = exact at q ((Equal-is (R at q)).0 t)

apart_is : {K : Type 0} (R : K → K → Ordering) → ((a : K) → R a a ≡ Equal) → (at q : K) → is_at (R at) q ≡ false → q ≡ at → ⊥
apart_is R itself at q f e = true≢false (sym (ap is_eq (ap (R at) e ∙ itself at)) ∙ f)

module _ {K V : Type 0} (R : K → K → Ordering) (exact : (a b : K) → R a b ≡ Equal → a ≡ b) (itself : (a : K) → R a a ≡ Equal) where
  abbrev Sets : BTreeMap K V → BTreeMap K V → K → Option V → Type 0
  Sets m n at w = (q : K) → tree.get R n q ≡ cond (is_at (R at) q) w (tree.get R m q)

  -- what is kept is what was told, where one place was changed and what was told changed there alone
  pub kept_at : (m n : BTreeMap K V) (at : K) (w : Option V) (f g : K → Option V) → ((q : K) → tree.get R m q ≡ f q) → Sets m n at w → g at ≡ w → ((q : K) → (q ≡ at → ⊥) → g q ≡ f q) → (q : K) → tree.get R n q ≡ g q
  kept_at m n at w f g kept sets here apart q =
      sets q ∙ elim (is_at (R at) q) as (λ b. is_at (R at) q ≡ b → cond b w (tree.get R m q) ≡ g q) [
        | true ↦ λ t. sym here ∙ ap g (here_is R exact at q t)
        | false ↦ λ t. kept q ∙ sym (apart q (apart_is R itself at q t))
      ] refl

  -- what stood at a place is put back
  pub put_back : (m n l : BTreeMap K V) (at : K) (v : V) (before : Option V) (f : K → Option V) → ((q : K) → tree.get R m q ≡ f q) → Sets m n at (Some v) → before ≡ tree.get R m at → Sets n l at before → (q : K) → tree.get R l q ≡ f q
  put_back m n l at v before f kept sets was back q =
      back q ∙ elim (is_at (R at) q) as (λ b. is_at (R at) q ≡ b → cond b before (tree.get R n q) ≡ f q) [
        | true ↦ λ t. was ∙ ap (tree.get R m) (here_is R exact at q t) ∙ kept q
        | false ↦ λ t. sets q ∙ ap (λ b. cond b (Some v) (tree.get R m q)) t ∙ kept q
      ] refl
