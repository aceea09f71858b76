-- Which phrase a path leads to: that of its last member, by the one before it.
use Rattle.std.specs.Prelude.{◌≡◌, ℕ, ◌==◌, ◌||◌, not, Bool, true, List, [], ◌∷◌, ◌++◌, Option, Some, None}
use Rattle.std.specs.List.{list_all}
use Rattle.explanations.specs.Wanted.{item_wanted, member_wanted, wanted_at}

-- neither a point nor a bracket: so are the names of the form's members, and the numbers of items
abbrev pub is_part_octet : ℕ → Bool
is_part_octet c = not (c == 46 || (c == 91 || c == 93))

abbrev pub IsPart : List ℕ → Type 0
IsPart text = list_all is_part_octet text ≡ true

-- a member, or the item of it at a place
abbrev pub placed : List ℕ → Option (List ℕ) → List ℕ
placed name None = name
placed name (Some place) = name ++ (91 ∷ (place ++ (93 ∷ [])))

abbrev pub IsPlace : Option (List ℕ) → Type 0
IsPlace None = Unit {0}
IsPlace (Some place) = IsPart place

-- a word, behind what is before it in its path
abbrev pub joined : Option (List ℕ) → List ℕ → List ℕ
joined None word = word
joined (Some front) word = front ++ (46 ∷ word)

abbrev pub phrase_of : List ℕ → List ℕ → Option (List ℕ) → List ℕ
phrase_of parent name None = member_wanted parent name
phrase_of parent name (Some place) = item_wanted parent name (placed name (Some place))

-- a path leads to the phrase of its last member, or of the item, by the member before it or by none
pub record PathsLeadToPhrases : Type 0 where
  pub first : (name : List ℕ) (place : Option (List ℕ)) → IsPart name → IsPlace place
      → wanted_at (placed name place) ≡ phrase_of [] name place
  pub later : (front : Option (List ℕ)) (parent : List ℕ) (holder : Option (List ℕ)) (name : List ℕ) (place : Option (List ℕ))
      → IsPart parent → IsPlace holder → IsPart name → IsPlace place
      → wanted_at (joined (Some (joined front (placed parent holder))) (placed name place)) ≡ phrase_of parent name place
