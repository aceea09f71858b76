-- Names of members, in order.
use Rattle.std.proofs.Common.{◌≡◌, ℕ, ◌||◌, Bool, true, false, nat_eq, List, [], ◌∷◌, map, Some, Option, refl, sym, ap, ◌∙◌, Bor}
use Rattle.std.specs.Prelude.{String, string_bytes}
use Rattle.std.specs.declared.alloc.Global.{Global}
use Rattle.std.specs.List.{list_any}
use Rattle.std.specs.Cmp.Lexicographic.{pointwise}
use Rattle.serde_json.specs.declared.value.Value.{Value}
use Rattle.serde_json.specs.View.{members_view}
use Rattle.config_model.specs.Fields.{first_other}

abbrev pub texts : List (Bor (List ℕ)) → List (List ℕ)
texts known = map (λ k. k.now) known

-- a test of texts, over references to them
any_text : (p : List ℕ → Bool) (xs : List (Bor (List ℕ))) → list_any p (texts xs) ≡ list_any (λ k. p k.now) xs
any_text p [] = refl
any_text p (x ∷ xs) = ap (λ (b : Bool). p x.now || b) (any_text p xs)

abbrev is_known : List (Bor (List ℕ)) → List ℕ → Bool
is_known known name = list_any (λ k. pointwise nat_eq k.now name) known

-- one member is passed over
pub goes_on : (known : List (Bor (List ℕ))) (k : String Global) (v : Value) (before after : List (String Global × Value)) (name : List ℕ) (b : Bool) (all : Option (List ℕ))
    → before ≡ (k, v) ∷ after → name ≡ string_bytes k → b ≡ is_known known name → b ≡ true
    → first_other (texts known) (members_view before) ≡ all → first_other (texts known) (members_view after) ≡ all
goes_on known k v before after name b all is text test held so_far =
    let known-is : list_any (λ x. pointwise nat_eq x (string_bytes k)) (texts known) ≡ true = any_text (λ x. pointwise nat_eq x (string_bytes k)) known ∙ ap (is_known known) (sym text) ∙ sym test ∙ held in
    let one : first_other (texts known) (members_view before) ≡ first_other (texts known) (members_view after) = rw (is, known-is) refl in
    sym one ∙ so_far

-- one is found
pub stops : (known : List (Bor (List ℕ))) (k : String Global) (v : Value) (before after : List (String Global × Value)) (name : List ℕ) (b : Bool) (all : Option (List ℕ))
    → before ≡ (k, v) ∷ after → name ≡ string_bytes k → b ≡ is_known known name → b ≡ false
    → first_other (texts known) (members_view before) ≡ all → Some (string_bytes k) ≡ all
stops known k v before after name b all is text test absent so_far =
    let known-is : list_any (λ x. pointwise nat_eq x (string_bytes k)) (texts known) ≡ false = any_text (λ x. pointwise nat_eq x (string_bytes k)) known ∙ ap (is_known known) (sym text) ∙ sym test ∙ absent in
    let one : first_other (texts known) (members_view before) ≡ Some (string_bytes k) = rw (is, known-is) refl in
    sym one ∙ so_far
