-- What octets make of what is held at an end.
use Rattle.std.specs.Prelude.{◌≡◌, ℕ, zero, suc, List, [], ◌∷◌, Bool, Option, Some, None, false, if◌then◌else◌}
use Rattle.std.specs.FinMap.{find, get}
use Rattle.std.specs.List.{filter_map, slice_set}
use Rattle.std.specs.Ordering.{eq_by_cmp}
use Rattle.ov_sync.specs.Keyed.{after, changed}
use Rattle.ov_types.specs.Keys.{low_key_cmp}
use Rattle.ov_types.specs.declared.numbers.InstanceId.{InstanceId}
use Rattle.ov_types.specs.declared.objects.LowKey.{LowKey}
use Rattle.item_wire.specs.declared.event.ItemCause.{ItemCause}
use Rattle.item_wire.specs.declared.input.Came.{Came}
use Rattle.node_core.specs.Hearing.{heard}
use Rattle.node_core.specs.Left.{Leaves}
use Rattle.node_core.specs.Taking as item
use Rattle.node_core.specs.Told.{change_of, down_of}
use Rattle.node_core.specs.NodeModel.Keys.{Row}
use Rattle.node_core.specs.NodeModel.Maps.{Change, Map, objects}
use Rattle.node_core.specs.NodeModel.Step.{Post, post}
use Rattle.node_core.specs.NodeModel.Agent.{slice_in_use}
use Rattle.agent_tables.specs.Listed.{SameBut, list_between}
use Rattle.agent_tables.specs.Touched.{AgreeBut, RowKey, SameRoutes, is_among}
use Rattle.agent_tables.specs.declared.hearing.Hearing.{Hearing}
use Rattle.agent_node.specs.Beginning.{session_at}
use Rattle.agent_node.specs.Core.{holdings, is_up}
use Rattle.agent_node.specs.declared.plan.AgentPlan.{AgentPlan}

abbrev pub changed_by : Option Change → Map → Map
changed_by None m = m
changed_by (Some c) m = changed m c

-- an end once it heard octets that leave these. Where its session goes down, nothing is said of what it holds
pub record HasHeard (h : Hearing) (octets left : List ℕ) (h' : Hearing) (cause : Option ItemCause) : Type 0 where
  pub inputs : List Came
  pub leaves : Leaves h.session octets inputs left
  pub why : cause ≡ (heard h.session inputs).cause
  pub state : h'.session.state ≡ (heard h.session inputs).state
  pub held : cause ≡ None
      → down_of h'.held ≡ after (down_of h.held) (filter_map change_of (heard h.session inputs).records)

-- the end of a session once octets came on it that leave these
abbrev pub HasTaken : AgentPlan → ℕ → List ℕ → List ℕ → List Post → List Post → Option ItemCause → Type 0
HasTaken plan = item.HasTaken (session_at plan)

-- ---- octets that put or drop some routes, and do nothing else
-- an end is in the same state, and holds the same but for these routes
pub record HasLed (keys : List RowKey) (h h' : Hearing) : Type 0 where
  pub state : h'.session.state ≡ h.session.state
  pub objects_same : objects (down_of h.held) ≡ objects (down_of h'.held)
  pub rows_same : (k : RowKey) → is_among keys k ≡ false
      → get (down_of h.held) (Row k.0 k.1) ≡ get (down_of h'.held) (Row k.0 k.1)

-- only the end of the session holds something else, and it holds the same but for these routes
pub record AreLed (keys : List RowKey) (session : ℕ) (posts posts' : List Post) : Type 0 where
  pub held : Map
  pub left : posts' ≡ slice_set posts session (record (post posts session) { held = held })
  pub agree : AgreeBut keys (holdings posts) (holdings posts')

-- ---- octets that put and drop no route
-- an end is in the same state, and holds the same routes
pub record HasKeptRoutes (h h' : Hearing) : Type 0 where
  pub state : h'.session.state ≡ h.session.state
  pub rows_same : (k : RowKey) → get (down_of h.held) (Row k.0 k.1) ≡ get (down_of h'.held) (Row k.0 k.1)

-- only the end of the session holds something else, and it holds the same routes
pub record HaveKeptRoutes (session : ℕ) (posts posts' : List Post) : Type 0 where
  pub held : Map
  pub left : posts' ≡ slice_set posts session (record (post posts session) { held = held })
  pub same : SameRoutes (holdings posts) (holdings posts')

-- ---- octets that put or drop one access list, and do nothing else
abbrev pub Networks : Type 0
Networks = InstanceId × InstanceId

-- an end is in the same state, and holds the same but for the access list between two networks
pub record HasListed (n : Networks) (h h' : Hearing) : Type 0 where
  pub state : h'.session.state ≡ h.session.state
  pub objects_same : (q : LowKey) → eq_by_cmp low_key_cmp q (list_between n) ≡ false
      → find low_key_cmp q (objects (down_of h.held)) ≡ find low_key_cmp q (objects (down_of h'.held))
  pub rows_same : (k : RowKey) → get (down_of h.held) (Row k.0 k.1) ≡ get (down_of h'.held) (Row k.0 k.1)

-- only the end of the session holds something else, and it holds the same but for this access list
pub record AreListed (n : Networks) (session : ℕ) (posts posts' : List Post) : Type 0 where
  pub held : Map
  pub left : posts' ≡ slice_set posts session (record (post posts session) { held = held })
  pub same : SameBut (list_between n) (holdings posts) (holdings posts')

-- ---- octets of a session whose slice is not in use
-- the slice of a session is in use: it is up, and none before it
abbrev pub is_in_use : List Post → ℕ → Bool
is_in_use [] session = false
is_in_use (p ∷ posts) zero = is_up p.phase
is_in_use (p ∷ posts) (suc session) = if is_up p.phase then false else is_in_use posts session

-- only the end of the session holds something else, and it holds the same routes; the slice in use is as it was
pub record HaveKeptSlice (session : ℕ) (posts posts' : List Post) : Type 0 where
  pub held : Map
  pub left : posts' ≡ slice_set posts session (record (post posts session) { held = held })
  pub same : SameRoutes (holdings posts) (holdings posts')
  pub slice : slice_in_use (holdings posts) ≡ slice_in_use (holdings posts')
