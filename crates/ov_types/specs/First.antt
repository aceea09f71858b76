-- First things in lists.
use Rattle.std.specs.Prelude.{ℕ, List, [], ◌∷◌, ◌++◌, Bool, nat_eq, Option, Some, None, option_map, find}
use Rattle.std.specs.Cmp.Lexicographic.{pointwise}

-- two names are one
abbrev pub same_name : List ℕ → List ℕ → Bool
same_name a b = pointwise nat_eq a b

-- the first answer where there is one, else the second
infixr 12 ◌<|>◌
abbrev pub ◌<|>◌ : {A : Type 0} → Option A → Option A → Option A
(Some x) <|> other = Some x
None <|> other = other

-- the first answer that an item of a list gives
abbrev pub first_of : {A B : Type 0} → (A → Option B) → List A → Option B
first_of answer [] = None
first_of answer (x ∷ xs) = answer x <|> first_of answer xs

-- the first item that meets one before it, after the first one that it meets; the list follows others
abbrev pub meeting_after : {A : Type 0} → (A → A → Bool) → List A → List A → Option (A × A)
meeting_after meets before [] = None
meeting_after meets before (x ∷ xs) =
    option_map (λ b. (b, x)) (find (λ b. meets b x) before) <|> meeting_after meets (before ++ x ∷ []) xs

-- the first two items of a list that meet: the earlier item, and the later
abbrev pub first_meeting : {A : Type 0} → (A → A → Bool) → List A → Option (A × A)
first_meeting meets xs = meeting_after meets [] xs
