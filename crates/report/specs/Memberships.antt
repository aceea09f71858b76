-- The lines that tell what is asked of peers, and what they send.
use Rattle.std.specs.Prelude.{ℕ, List, [], ◌∷◌, ◌++◌, ◌==◌, codes, decimal, map, if◌then◌else◌}
use Rattle.ov_types.specs.Texts.{hex_text, target_text}
use Rattle.ov_sync.specs.declared.Delta.{Delta}
use Rattle.ov_sync.specs.declared.Delta.TheVariants.{Put, Drop}
use Rattle.rt_membership.specs.declared.asked.Asked.{Asked}
use Rattle.report.specs.Lists.{list_text}

-- the targets that are asked: one, or all that begin with so many bits of origin and target
abbrev pub bits_text : Asked → List ℕ
bits_text a =
    if a.length == 96 then target_text a.target.0
    else codes "x" ++ (hex_text a.target.0 ++ (codes "/" ++ decimal a.length))

-- all routes, or who asks and what
abbrev pub membership_text : Asked → List ℕ
membership_text a = if a.length == 0 then codes "all" else decimal a.origin ++ (codes " " ++ bits_text a)

-- a change of what is asked
unfoldable pub membership_line : Delta Asked Unit → List ℕ
membership_line (Put a _) = codes "ask " ++ (membership_text a ++ (10 ∷ []))
membership_line (Drop a) = codes "unask " ++ (membership_text a ++ (10 ∷ []))

-- the targets of what is asked, in order
abbrev pub asked_text : List Asked → List ℕ
asked_text asked = list_text (λ a. target_text a.target.0) asked

-- what a control node asks of its peers
unfoldable pub asked_line : List ℕ → List Asked → List ℕ
asked_line node asked = codes "asked " ++ (node ++ (codes " " ++ (asked_text asked ++ (10 ∷ []))))

-- how many of the routes that a control node would tell its peers are sent to a peer that asks
unfoldable pub sent_line : List ℕ → List ℕ → ℕ → ℕ → List ℕ
sent_line from to sent all =
    codes "sent " ++ (from ++ (codes " " ++ (to ++ (codes " " ++ (decimal sent ++ (codes " of "
    ++ (decimal all ++ (10 ∷ []))))))))
