-- The ends of the configuration node's sessions, and what always holds of them.
use Rattle.std.specs.Prelude.{◌≡◌, ◌≤◌, ℕ, List, [], ◌∷◌, map, length, true, false, refl}
use Rattle.std.specs.declared.option.Option.{Option}
use Rattle.std.specs.declared.option.Option.TheVariants.{Some, None}
use Rattle.std.specs.Coded.{Coded, code_by, coded×, coded_list}
use Rattle.std.specs.FinMap.{empty}
use Rattle.std.specs.List.{AllByRecursion}
use Rattle.ov_sync.specs.Embed.{embedded}
use Rattle.ov_sync.specs.Keyed.{AgreeBut, map_of}
use Rattle.ov_types.specs.declared.objects.LowKey.{LowKey}
use Rattle.ov_types.specs.declared.objects.LowValue.{LowValue}
use Rattle.ov_types.specs.declared.rows.NodeId.{NodeId}
use Rattle.item_wire.specs.Happenings.{SessionFields, idle_session}
use Rattle.item_wire.specs.declared.event.ItemFrom.{ItemFrom}
use Rattle.item_wire.specs.declared.event.ItemFrom.TheVariants.{Nothing}
use Rattle.config_check.specs.Checked.{Checked}
use Rattle.config_check.specs.contracts.valid.Valid as valid
use Rattle.node_core.specs.Beginning.{phase_of}
use Rattle.node_core.specs.Told.{AllFit}
use Rattle.node_core.specs.NodeModel.Codes.{coded_post}
pub use Rattle.node_core.specs.NodeModel.Directions.{low_order}
use Rattle.node_core.specs.NodeModel.Keys.{Low, key_cmp}
use Rattle.node_core.specs.NodeModel.Maps.{Map}
use Rattle.node_core.specs.NodeModel.Step.{Post}
use Rattle.node_core.specs.NodeModel.Values.{Object}
use Rattle.config_node.specs.MachineModel.Setup.{low_in}
use Rattle.config_node.specs.declared.ends.FeedEnd.{FeedEnd}

pub record Ends : Type 0 where
  pub setup : Checked
  pub posts : List Post

-- ---- low-level objects among all keys and values
abbrev pub Objects : Type 0
Objects = List (LowKey × LowValue)

abbrev pub low_of : Objects → Map
low_of es = embedded {S = key_cmp} Low Object (map_of low_order es)

-- ---- an end, with what was sent on its session. Nothing is held of a control node, and no OPEN comes
abbrev pub end_at : FeedEnd → Post
end_at e = record { phase = phase_of e.session.state; sent = low_of e.sent; held = empty; wide = false }

abbrev pub posts_of : List FeedEnd → List Post
posts_of es = map end_at es

-- the end of the session with a control node, from the start
abbrev pub new_end : NodeId → FeedEnd
new_end n = record { session = idle_session n.name Nothing; sent = []; told = false }

-- an end that may have to be told something anew
abbrev pub doubted : FeedEnd → FeedEnd
doubted e = record e { told = false }

-- ---- what always holds
-- whom a session is with, and what that one may send
abbrev pub whom : SessionFields → List ℕ × ItemFrom
whom s = (s.peer, s.from)

abbrev pub whom_at : FeedEnd → List ℕ × ItemFrom
whom_at e = whom e.session

abbrev pub controller : NodeId → List ℕ × ItemFrom
controller n = (n.name, Nothing)

-- the key that changed since the last pass, where one alone did
abbrev pub changed_keys : Option LowKey → List LowKey
changed_keys None = []
changed_keys (Some k) = k ∷ []

-- what was sent on a session can be told. Where the session counts as told it is what is wanted, but for a key that changed
abbrev pub HasSent : Objects → Option LowKey → FeedEnd → Type 0
HasSent wants changed e =
    AllFit (low_of e.sent)
    × (e.told ≡ true → AgreeBut (changed_keys changed) (map_of low_order e.sent) (map_of low_order wants))

-- a session with each control node, in their order. What is to be told are the low-level objects of what is valid, and
-- these and what was sent can be told. A session that counts as told was sent them, but for a key that changed
pub record AreEnds (x : Checked) (wants : Objects) (changed : Option LowKey) (ends : List FeedEnd) : Type 0 where
  pub some : 1 ≤ length x.topology.controllers
  pub few : length x.topology.controllers ≤ 8
  pub whose : map whom_at ends ≡ map controller x.topology.controllers
  pub wanted : low_of wants ≡ low_in x
  pub fits : AllFit (low_in x)
  pub sent : AllByRecursion (HasSent wants changed) ends

-- ---- how they are told apart
abbrev pub coded_ends : Coded Ends
coded_ends =
    code_by (Checked × List Post) (coded× valid.the_row.coded (coded_list coded_post))
    (λ e. (e.setup, e.posts)) (λ c. record { setup = c.0; posts = c.1 }) (λ _. refl)
