-- What an input makes of an end of a session between control nodes.
use Rattle.std.specs.Prelude.{◌≡◌, ℕ, List, [], ◌∷◌, ◌++◌, map, Option, Some, None}
use Rattle.node_model.specs.OvLink.Input.{Input}
use Rattle.node_model.specs.OvLink.Input.TheVariants as input
use Rattle.ov_sync.specs.Embed.{moved_delta}
use Rattle.ov_sync.specs.Keyed as keyed
use Rattle.ov_types.specs.declared.prefix.Addr.{Addr}
use Rattle.bgp_session.specs.declared.event.Cause.{Cause}
use Rattle.bgp_session.specs.declared.event.State.{State}
use Rattle.bgp_session.specs.Happenings.{SessionFields}
use Rattle.bgp_session.specs.Inputs.{Came}
use Rattle.node_model.specs.Keys.{Vpn}
use Rattle.node_model.specs.Values.{Route}
use Rattle.node_model.specs.Step.{Beginning, Phase, Idle, Opened, Confirmed, Up, Post}
use Rattle.node_routes.specs.Hearing.{Hears, RouteHearing, heard, open_octets}
use Rattle.node_routes.specs.Keeping.{Leaves}

abbrev pub phase_of : State → Phase
phase_of State.Idle = Idle
phase_of State.OpenSent = Opened
phase_of State.OpenConfirm = Confirmed
phase_of State.Established = Up

-- an end after what was heard: the changes of routes are applied in order, the session reads as the OPEN that came said,
-- and nothing is left where the session went down
abbrev pub left_by : Post → RouteHearing → Option Cause → Option Post
left_by p h None =
    Some (record p {
      phase = phase_of h.state;
      held = keyed.after p.held (map (moved_delta Vpn Route) h.changes);
      wide = h.wide;
    })
left_by p h (Some cause) = None

-- the speaker at this address opens the end and sends its OPEN, hears octets on it, or closes it
abbrev pub Begins : Addr → SessionFields → Post → Input → Beginning → Option Cause → Type 0
Begins id s p (input.Opened session) given cause =
    (given ≡ record { replies = open_octets s.asn id ∷ []; after = Some (record p { phase = Opened }) })
    × (cause ≡ None)
Begins id s p (input.Bytes session bytes) given cause =
    (inputs : List Came) × Hears s bytes.now inputs
    × (given ≡ record {
      replies = (heard id s inputs).replies;
      after = left_by p (heard id s inputs) (heard id s inputs).cause;
    })
    × (cause ≡ (heard id s inputs).cause)
Begins id s p (input.Closed session) given cause = (given ≡ record { replies = []; after = None }) × (cause ≡ None)

-- what an input makes of an end where these octets were kept of the session before: they are heard again before those
-- that came. And what is kept of it then
abbrev pub BeginsKeeping : Addr → SessionFields → Post → List ℕ → Input → Beginning → Option Cause → List ℕ → Type 0
BeginsKeeping id s p kept (input.Bytes session bytes) given cause left =
    (inputs : List Came) × Leaves s (kept ++ bytes.now) inputs left
    × (given ≡ record {
      replies = (heard id s inputs).replies;
      after = left_by p (heard id s inputs) (heard id s inputs).cause;
    })
    × (cause ≡ (heard id s inputs).cause)
BeginsKeeping id s p kept event given cause left = Begins id s p event given cause × (left ≡ [])
