-- Octets that come to a node in parts, one input after another.
use Rattle.std.specs.Prelude.{◌≡◌, ℕ, List, [], ◌∷◌, ◌++◌, map, false}
use Rattle.std.specs.Borrow.{Bor}
use Rattle.std.specs.FinMap.{empty}
use Rattle.std.specs.List.{concat}
use Rattle.std.specs.Option.{option_map}
use Rattle.std.specs.declared.option.Option.{Option}
use Rattle.std.specs.declared.option.Option.TheVariants.{Some, None}
use Rattle.ov_link.specs.declared.step.Input.TheVariants.{Bytes}
use Rattle.node_model.specs.Maps.{Map}
use Rattle.node_model.specs.Step.{Beginning, Post, is_idle}
use Rattle.running_nodes.specs.Seats.{Who}
use Rattle.running_nodes.specs.Steps.{BeginsAt}

-- ---- what was sent on an end
abbrev pub told : Map → Post → Post
told sent p = record p { sent = sent }

abbrev pub with_sent : Map → Beginning → Beginning
with_sent sent given = record given { after = option_map (told sent) given.after }

-- two beginnings have the same replies, and the same end: as far, with all that it holds. What was sent on it may
-- differ
abbrev pub AreAlike : Beginning → Beginning → Type 0
AreAlike a b = with_sent empty a ≡ with_sent empty b

-- ---- one part after another
-- what an input makes of an end, and then the next: its replies follow, and the end is as the later one leaves it
abbrev pub and_then : Beginning → Beginning → Beginning
and_then first more = record { replies = first.replies ++ more.replies; after = more.after }

-- where a part takes the end down, it is the last that is heard, and nothing is kept. Else the others come to the end
-- that it left, on which something may have been sent meanwhile
abbrev pub GoesOn : Beginning → Option Post → Beginning → List ℕ → (Post → Beginning → Type 0) → Type 0
GoesOn first None given left Others = (given ≡ first) × (left ≡ [])
GoesOn first (Some q) given left Others =
    (sent : Map) × (more : Beginning) × Others (told sent q) more × (given ≡ and_then first more)

-- the parts come in turn, each heard behind what is kept of those before it: all of them make this of the end, and
-- these octets are kept then
abbrev pub BeginsInTurn : Who → ℕ → Post → List ℕ → Bor (List ℕ) → List (Bor (List ℕ)) → Beginning → List ℕ → Type 0
BeginsInTurn who i p kept part [] given left = BeginsAt who i p kept (Bytes i part) given left
BeginsInTurn who i p kept part (next ∷ parts) given left =
    (first : Beginning) × (between : List ℕ) × BeginsAt who i p kept (Bytes i part) first between
    × GoesOn first first.after given left (λ q more. BeginsInTurn who i q between next parts more left)

-- ---- the whole of it in one input
abbrev pub octets_in : List (Bor (List ℕ)) → List ℕ
octets_in parts = concat (map (λ (part : Bor (List ℕ)). part.now) parts)

-- the whole, in one input, is heard as its parts are, one after another: the same replies are sent, the end is the same
-- with all that it holds, and the same octets are kept
abbrev pub WholeIsAsParts : Who → ℕ → Type 0
WholeIsAsParts who i =
    (p : Post) → is_idle p.phase ≡ false → (kept : List ℕ) (part : Bor (List ℕ)) (parts : List (Bor (List ℕ)))
    → (given : Beginning) (left : List ℕ) → BeginsInTurn who i p kept part parts given left
    → (whole : Bor (List ℕ)) → whole.now ≡ octets_in (part ∷ parts)
    → (given' : Beginning) × BeginsAt who i p kept (Bytes i whole) given' left × AreAlike given given'

-- whatever the whole makes of the end, its parts make of it
abbrev pub PartsAreAsWhole : Who → ℕ → Type 0
PartsAreAsWhole who i =
    (p : Post) → is_idle p.phase ≡ false → (kept : List ℕ) (part : Bor (List ℕ)) (parts : List (Bor (List ℕ)))
    → (given : Beginning) (left : List ℕ) → BeginsInTurn who i p kept part parts given left
    → (whole : Bor (List ℕ)) → whole.now ≡ octets_in (part ∷ parts)
    → (given' : Beginning) (left' : List ℕ) → BeginsAt who i p kept (Bytes i whole) given' left'
    → AreAlike given given' × (left ≡ left')
