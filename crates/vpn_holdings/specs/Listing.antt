-- The agent of a session, and the places of held uses.
use Rattle.std.specs.Prelude.{ℕ, List, [], ◌∷◌, ◌++◌, ◌==◌, map, if◌then◌else◌}
use Rattle.std.specs.declared.option.Option.{Option}
use Rattle.std.specs.declared.option.Option.TheVariants.{Some, None}
use Rattle.ov_types.specs.declared.numbers.InstanceId.{InstanceId}
use Rattle.ov_types.specs.declared.objects.LowKey.{LowKey}
use Rattle.ov_types.specs.declared.objects.LowValue.{LowValue}
use Rattle.ov_types.specs.declared.prefix.Addr.{Addr}
use Rattle.path_select.specs.NodeModel.Maps.{Map, object}
use Rattle.path_select.specs.NodeModel.Paths.{Told}
use Rattle.path_select.specs.NodeModel.Reaching.{below}
use Rattle.path_select.specs.NodeModel.Uses.{Use, hop}
use Rattle.path_select.specs.NodeModel.Wants.{is_in_slice}
use Rattle.vpn_holdings.specs.declared.holdings.Agent.{Agent}
use Rattle.vpn_holdings.specs.Changes.{with_nothing}
use Rattle.vpn_holdings.specs.Views.{agent_of}

-- the agent of a session, among those held. A session that is no agent's told nothing, from address 0
abbrev pub told_in : List Told → ℕ → Told
told_in [] session = with_nothing session (record { 0 = 0 })
told_in (a ∷ agents) session = if a.session == session then a else told_in agents session

abbrev pub told_by : ℕ → Option Agent → Told
told_by session (Some a) = agent_of a
told_by session None = with_nothing session (record { 0 = 0 })

-- the instances of the places of a use
abbrev pub hops : Use → List InstanceId
hops u = map (hop u) (below u.services ++ u.services ∷ [])

abbrev pub hops_of_held : Option Use → List InstanceId
hops_of_held None = []
hops_of_held (Some u) = hops u

-- what a use that is held gives
abbrev pub each_of : {B : Type 0} → (Use → List B) → Option Use → List B
each_of f None = []
each_of f (Some u) = f u

-- the object of a key, where it is of the slice of an address
abbrev pub in_slice : Map → Addr → LowKey → Option LowValue → Option LowValue
in_slice feed address k None = None
in_slice feed address k (Some v) = if is_in_slice feed address k v then Some v else None

abbrev pub sliced : Map → Addr → LowKey → Option LowValue
sliced feed address k = in_slice feed address k (object feed k)
