-- How what a control node holds changes.
use Rattle.std.specs.Prelude.{ℕ, zero, suc, List, [], ◌∷◌, ◌==◌, nat_lt, if◌then◌else◌}
use Rattle.std.specs.FinMap.{empty}
use Rattle.ov_sync.specs.declared.Delta.{Delta}
use Rattle.ov_sync.specs.Keyed.{changed}
use Rattle.ov_sync.specs.Embed.{moved_delta}
use Rattle.ov_types.specs.declared.keys.UpKey.{UpKey}
use Rattle.ov_types.specs.declared.numbers.Label.{Label as LabelNo}
use Rattle.ov_types.specs.declared.objects.LowKey.{LowKey}
use Rattle.ov_types.specs.declared.objects.LowValue.{LowValue}
use Rattle.ov_types.specs.declared.prefix.Addr.{Addr}
use Rattle.ov_types.specs.declared.vpn.VpnKey.{VpnKey}
use Rattle.ov_types.specs.declared.vpn.VpnRoute.{VpnRoute}
use Rattle.path_select.specs.NodeModel.Keys.{Low, Vpn, of_up}
use Rattle.path_select.specs.NodeModel.Values.{Object, Route, Label}
use Rattle.path_select.specs.NodeModel.Maps.{Map, Change}
use Rattle.path_select.specs.NodeModel.Paths.{Holdings, Told}

-- nothing was told
abbrev pub nothing : ℕ → Holdings
nothing asn = record { asn = asn; feed = empty; peers = []; agents = [] }

-- the feed told a change
abbrev pub with_low : Holdings → Delta LowKey LowValue → Holdings
with_low h d = record h { feed = changed h.feed (moved_delta Low Object d) }

-- the map at a place, changed. Places up to it that were not there hold nothing else
abbrev pub changed_at : List Map → ℕ → Change → List Map
changed_at [] zero d = changed empty d ∷ []
changed_at [] (suc place) d = empty ∷ changed_at [] place d
changed_at (m ∷ maps) zero d = changed m d ∷ maps
changed_at (m ∷ maps) (suc place) d = m ∷ changed_at maps place d

-- a peer told a change on its session. Session 0 is the feed, which tells no routes
abbrev pub with_route : Holdings → ℕ → Delta VpnKey VpnRoute → Holdings
with_route h zero d = h
with_route h (suc place) d = record h { peers = changed_at h.peers place (moved_delta Vpn Route d) }

-- ---- agents, in the order of their sessions
abbrev pub with_nothing : ℕ → Addr → Told
with_nothing session address = record { session = session; address = address; map = empty }

-- a session is that of the agent of an address
abbrev pub named : List Told → ℕ → Addr → List Told
named [] session address = with_nothing session address ∷ []
named (a ∷ agents) session address =
    if nat_lt a.session session then a ∷ named agents session address
    else if a.session == session then record a { address = address } ∷ agents
    else with_nothing session address ∷ a ∷ agents

abbrev pub with_agent : Holdings → ℕ → Addr → Holdings
with_agent h session address = record h { agents = named h.agents session address }

-- the agent of a session, changed. Where there is none, nothing changes
abbrev pub at_session : (Map → Map) → List Told → ℕ → List Told
at_session f [] session = []
at_session f (a ∷ agents) session =
    if nat_lt a.session session then a ∷ at_session f agents session
    else if a.session == session then record a { map = f a.map } ∷ agents
    else a ∷ agents

-- an agent told a change on its session
abbrev pub with_publication : Holdings → ℕ → Delta UpKey LabelNo → Holdings
with_publication h session d =
    record h { agents = at_session (λ m. changed m (moved_delta of_up Label d)) h.agents session }

-- ---- nothing is held any more of what a session told
abbrev pub emptied_at : List Map → ℕ → List Map
emptied_at [] place = []
emptied_at (m ∷ maps) zero = empty ∷ maps
emptied_at (m ∷ maps) (suc place) = m ∷ emptied_at maps place

abbrev pub without : Holdings → ℕ → Holdings
without h zero = record h { feed = empty; agents = at_session (λ m. empty) h.agents 0 }
without h (suc place) =
    record h { peers = emptied_at h.peers place; agents = at_session (λ m. empty) h.agents (suc place) }
