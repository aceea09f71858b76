-- Where an agent stands among the others, and peers that told nothing.
use Rattle.std.specs.Prelude.{◌≡◌, ◌≤◌, ◌==◌, ℕ, zero, suc, List, [], ◌∷◌, length, false, Some, nat_lt, if◌then◌else◌}
use Rattle.std.specs.List.{slice_get}
use Rattle.ov_types.specs.declared.vpn.VpnKey.{VpnKey}
use Rattle.ov_types.specs.declared.vpn.VpnRoute.{VpnRoute}
use Rattle.vpn_holdings.specs.declared.holdings.Agent.{Agent}
use Rattle.vpn_holdings.specs.declared.sessions.Seat.{Seat}
use Rattle.vpn_holdings.specs.declared.sessions.Seat.TheVariants.{Taken, Free}

-- a number of peers that told nothing
abbrev pub nothings : ℕ → List (List (VpnKey × VpnRoute))
nothings zero = []
nothings (suc n) = [] ∷ nothings n

-- how many agents at the front have lower sessions
abbrev pub seat_of : List Agent → ℕ → ℕ
seat_of [] session = 0
seat_of (a ∷ agents) session = if nat_lt a.session session then suc (seat_of agents session) else 0

pub record IsTaken (agents : List Agent) (session i : ℕ) : Type 0 where
  pub seat : seat_of agents session ≡ i
  pub agent : Agent
  pub stands : slice_get agents i ≡ Some agent
  pub session_is : agent.session ≡ session

pub record IsFree (agents : List Agent) (session i : ℕ) : Type 0 where
  pub seat : seat_of agents session ≡ i
  pub within : i ≤ length agents
  pub unlike : (a : Agent) → slice_get agents i ≡ Some a → (a.session == session) ≡ false

abbrev pub IsSeat : List Agent → ℕ → Seat → Type 0
IsSeat agents session (Taken i) = IsTaken agents session i
IsSeat agents session (Free i) = IsFree agents session i
