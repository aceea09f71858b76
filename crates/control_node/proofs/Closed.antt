-- Ends that are closed.
use Rattle.std.specs.Prelude.{◌≡◌, ◌+◌, ◌<◌, ◌≤◌, ℕ, zero, suc, List, [], ◌∷◌, length, map}
use Rattle.std.specs.FinMap.{empty, from_entries}
use Rattle.std.proofs.Common.{refl, sym, ◌∙◌, ap, subst, arith, get_or, set}
use Rattle.ov_sync.specs.Embed.{moved_entry}
use Rattle.ov_sync.proofs.Ascending.{entries-empty}
use Rattle.ov_types.specs.declared.keys.DownKey.{DownKey}
use Rattle.ov_types.specs.declared.keys.DownValue.{DownValue}
use Rattle.item_wire.specs.declared.event.ItemState.{ItemState}
use Rattle.node_core.specs.Told.{AllFit, down_of, down_order, down_value}
use Rattle.node_core.proofs.Maps.{nothing_fits}
use Rattle.node_core.specs.NodeModel.Keys.{key_cmp, of_down}
use Rattle.node_core.specs.NodeModel.Maps.{Map}
use Rattle.node_core.specs.NodeModel.Paths.{Holdings, Told}
use Rattle.node_core.specs.NodeModel.Step.{nothing}
use Rattle.vpn_tables.specs.Changes.{emptied_at, without}
use Rattle.vpn_tables.proofs.Images.{peer-empty}
use Rattle.control_node.specs.declared.ends.AgentEnd.{AgentEnd}
use Rattle.control_node.specs.declared.ends.PeerEnd.{PeerEnd}
use Rattle.control_node.specs.Ends.{IsAgentEnd, closed_agent, closed_peer, posts_of, seat, seats}
use Rattle.control_node.proofs.Posts.{at_session-none, at_session-there, posts-agent, posts-peer, seated-length}
use Rattle.control_node.proofs.Keeping.{emptied-set}

pub down-empty : down_of [] ≡ empty
down-empty = ap (λ (es : List (DownKey × DownValue)). from_entries {R = key_cmp} (map (moved_entry of_down down_value) es)) (entries-empty {V = DownValue} down_order)

pub closed_is : (e : AgentEnd) → IsAgentEnd e → IsAgentEnd (closed_agent e)
closed_is e is = record { peer = is.peer; from = is.from; sent = subst AllFit (sym down-empty) nothing_fits }

pub emptied-past : (ms : List Map) (i : ℕ) → length ms ≤ i → emptied_at ms i ≡ ms
emptied-past [] i h = refl
emptied-past (m ∷ ms) zero h = absurd (omega (arith, h))
emptied-past (m ∷ ms) (suc i) h = ap (λ (l : List Map). m ∷ l) (emptied-past ms i (omega (arith, h)))

module _ (feed : ItemState) (es : List PeerEnd) (ts : List AgentEnd) (h : Holdings) (peers : length h.peers ≡ length es)
    (agents : map seat h.agents ≡ seats (1 + length es) ts) where
  pub feed-closed : posts_of ItemState.Idle es ts (without h 0) ≡ set (posts_of feed es ts h) 0 nothing
  feed-closed = ap (λ (l : List Told). posts_of ItemState.Idle es ts (record h { feed = empty; agents = l })) (at_session-none (λ m. empty) h.agents ts (1 + length es) 0 agents (omega arith))

  peer_at : (i : ℕ) (e : PeerEnd) → i < length es → posts_of feed (set es i (closed_peer e)) ts (without h (suc i)) ≡ set (posts_of feed es ts h) (suc i) nothing
  peer_at i e lt =
      let none = at_session-none (λ m. empty) h.agents ts (1 + length es) (suc i) agents (omega (arith, lt)) in
      (λ k. posts_of feed (set es i (closed_peer e)) ts (record h { peers = emptied-set h.peers i k; agents = none k }))
      ∙ posts-peer feed es ts h i (closed_peer e) empty lt (omega (arith, lt, peers))
      ∙ ap (λ (m : Map). set (posts_of feed es ts h) (suc i) (record nothing { sent = m })) peer-empty

  pub peer-closed : (session i : ℕ) (e : PeerEnd) → session ≡ suc i → i < length es
      → posts_of feed (set es i (closed_peer e)) ts (without h session) ≡ set (posts_of feed es ts h) session nothing
  peer-closed session i e at lt = subst (λ s. posts_of feed (set es i (closed_peer e)) ts (without h s) ≡ set (posts_of feed es ts h) s nothing) (sym at) (peer_at i e lt)

  agent_at : (i : ℕ) (e : AgentEnd) (d : Told) → i < length ts
      → posts_of feed es (set ts i (closed_agent e)) (without h (suc (length es + i))) ≡ set (posts_of feed es ts h) (suc (length es + i)) nothing
  agent_at i e d lt =
      let long = seated-length h.agents ts (1 + length es) agents in
      let there = at_session-there (λ m. empty) h.agents ts (1 + length es) (suc (length es + i)) i d agents (omega arith) lt in
      let past = emptied-past h.peers (length es + i) (omega (arith, peers)) in
      (λ k. posts_of feed es (set ts i (closed_agent e)) (record h { peers = past k; agents = there k }))
      ∙ posts-agent feed es ts h i (closed_agent e) (record (get_or h.agents i d) { map = empty }) lt (omega (arith, lt, long))
      ∙ ap (λ (m : Map). set (posts_of feed es ts h) (suc (length es + i)) (record nothing { sent = m })) down-empty

  pub agent-closed : (session i : ℕ) (e : AgentEnd) (d : Told) → session ≡ suc (length es + i) → i < length ts
      → posts_of feed es (set ts i (closed_agent e)) (without h session) ≡ set (posts_of feed es ts h) session nothing
  agent-closed session i e d at lt =
      subst (λ s. posts_of feed es (set ts i (closed_agent e)) (without h s) ≡ set (posts_of feed es ts h) s nothing) (sym at) (agent_at i e d lt)
