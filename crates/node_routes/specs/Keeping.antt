-- Octets that come in parts: what is kept of a part until more octets come.
use Rattle.std.specs.Prelude.{◌≡◌, ℕ, List, [], ◌∷◌, ◌++◌, Option, Some, None}
use Rattle.ov_types.specs.declared.prefix.Addr.{Addr}
use Rattle.bgp_wire.specs.Frames.{IsProperPrefix}
use Rattle.bgp_session.specs.declared.event.Cause.{Cause}
use Rattle.bgp_session.specs.Happenings.{SessionFields, Happening, GoesDown, after, answer}
use Rattle.bgp_session.specs.Inputs.{Came}
use Rattle.node_routes.specs.Hearing.{IsNext, RouteHearing, heard}

-- ---- what is left of octets
-- nothing is heard once the session went down, and nothing is left then
abbrev pub GoesOnLeaving : Happening → List Came → List ℕ → Type 0 → Type 0
GoesOnLeaving (GoesDown cause reply) more left Then = (more ≡ []) × (left ≡ [])
GoesOnLeaving _ more left Then = Then

-- the octets bring these inputs, in order, and leave these octets: those of a message that is not whole
abbrev pub Leaves : SessionFields → List ℕ → List Came → List ℕ → Type 0
Leaves s octets [] left = IsProperPrefix octets × (left ≡ octets)
Leaves s octets (came ∷ more) left =
    (rest : List ℕ)
    × IsNext s octets came rest × GoesOnLeaving (answer s came) more left (Leaves (after s came) rest more left)

-- ---- one part after another
-- the session once these inputs came
abbrev pub session_after : Addr → SessionFields → List Came → SessionFields
session_after id s inputs = record s { state = (heard id s inputs).state; wide = (heard id s inputs).wide }

-- what is heard, and then more
abbrev pub and_then : RouteHearing → RouteHearing → RouteHearing
and_then first more = record more { replies = first.replies ++ more.replies; changes = first.changes ++ more.changes }

-- a part that takes the session down is the last that is heard
abbrev pub WhileUp : Option Cause → List Came → List ℕ → Type 0 → Type 0
WhileUp (Some cause) more left Then = (more ≡ []) × (left ≡ [])
WhileUp None more left Then = Then

-- the parts bring these inputs, each behind what was left of those before it, and leave these octets in the end
abbrev pub PartsLeave : Addr → SessionFields → List ℕ → List (List ℕ) → List Came → List ℕ → Type 0
PartsLeave id s kept [] inputs left = (inputs ≡ []) × (left ≡ kept)
PartsLeave id s kept (part ∷ parts) inputs left =
    (first : List Came) × (more : List Came) × (between : List ℕ)
    × Leaves s (kept ++ part) first between × (inputs ≡ first ++ more)
    × WhileUp (heard id s first).cause more left (PartsLeave id (session_after id s first) between parts more left)
