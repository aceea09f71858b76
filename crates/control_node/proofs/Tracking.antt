-- What was sent on sessions stays what is wanted there, but for what is marked.
use Rattle.std.specs.Prelude.{◌≡◌, ◌+◌, ◌<◌, ℕ, zero, suc, List, [], ◌∷◌, length, true, false, if◌then◌else◌}
use Rattle.std.specs.List.{AllByRecursion}
use Rattle.std.specs.FinMap.{get}
use Rattle.std.proofs.Common.{refl, sym, ◌∙◌, ap, subst, arith, get_or, set, length-set}
use Rattle.ov_types.specs.declared.keys.DownKey.{DownKey}
use Rattle.ov_types.specs.declared.keys.DownValue.{DownValue}
use Rattle.ov_types.specs.declared.vpn.VpnKey.{VpnKey}
use Rattle.ov_types.specs.declared.vpn.VpnRoute.{VpnRoute}
use Rattle.node_core.proofs.Lists.{all-set}
use Rattle.node_core.specs.Told.{down_of}
use Rattle.node_core.specs.NodeModel.Maps.{Map}
use Rattle.node_core.specs.NodeModel.Paths.{Holdings}
use Rattle.node_core.specs.NodeModel.Wants.{wanted_by_peers}
use Rattle.vpn_tables.specs.Listing.{told_in}
use Rattle.vpn_tables.specs.Views.{peer_of}
use Rattle.control_wants.specs.Marks.{Covers, IsWithin, Marks}
use Rattle.control_wants.proofs.Growing.{within_itself, within_then}
use Rattle.control_node.specs.Planning.{AreAgentsTold, ArePeersTold, IsAgentTold, IsPeerTold, agent_sends, peer_sends, wanted_on}
use Rattle.control_node.specs.Tracking.{AreAgentsTracked, AreMarked, IsAgentTracked, IsPeerTracked, Tracks}
use Rattle.control_node.specs.declared.ends.AgentEnd.{AgentEnd}
use Rattle.control_node.specs.declared.ends.PeerEnd.{PeerEnd}
use Rattle.control_node.proofs.Keeping.{all-at}

-- ---- what changes is marked
pub marked_more : (d d' : Marks) (h : Holdings) → IsWithin d d' → AreMarked d d' h h
marked_more d d' h within = record {
  within = within;
  covers = λ all. record {
    addresses = λ a. refl;
    peers = λ k clean. refl;
    agents = λ a k clean. refl;
    kept = λ a k clean. within.items (told_in h.agents a) k clean;
  };
}

pub marked_itself : (d : Marks) (h : Holdings) → AreMarked d d h h
marked_itself d h = marked_more d d h (within_itself d)

pub marked_then : (a b c : Marks) (f g h : Holdings) → AreMarked a b f g → AreMarked b c g h → AreMarked a c f h
marked_then a b c f g h v w = record {
  within = within_then a b c v.within w.within;
  covers = λ all.
      let first : Covers a b f g = v.covers (w.within.all all) in
      let last : Covers b c g h = w.covers all in
      record {
        addresses = λ agent. last.addresses agent ∙ first.addresses agent;
        peers = λ k clean. first.peers k (w.within.routes k clean) ∙ last.peers k clean;
        agents = λ agent k clean. first.agents agent k (last.kept agent k clean) ∙ last.agents agent k clean;
        kept = λ agent k clean. first.kept agent k (last.kept agent k clean);
      };
}

-- ---- one end
pub peer_still : (d d' : Marks) (h h' : Holdings) (e : PeerEnd) → AreMarked d d' h h' → IsPeerTracked d h e → IsPeerTracked d' h' e
peer_still d d' h h' e m tracked = λ sends all k clean.
    tracked sends (m.within.all all) k (m.within.routes k clean) ∙ (m.covers all).peers k clean

pub agent_still : (d d' : Marks) (h h' : Holdings) (session : ℕ) (e : AgentEnd) → AreMarked d d' h h' → IsAgentTracked d h session e
    → IsAgentTracked d' h' session e
agent_still d d' h h' session e m tracked = λ sends all k clean.
    let covers : Covers d d' h h' = m.covers all in
    tracked sends (m.within.all all) k (covers.kept session k clean) ∙ covers.agents session k clean

-- ---- all of them
peers_still : (d d' : Marks) (h h' : Holdings) (es : List PeerEnd) → AreMarked d d' h h' → AllByRecursion (IsPeerTracked d h) es
    → AllByRecursion (IsPeerTracked d' h') es
peers_still d d' h h' [] m all = tt
peers_still d d' h h' (e ∷ es) m all = (peer_still d d' h h' e m all.0, peers_still d d' h h' es m all.1)

agents_still : (d d' : Marks) (h h' : Holdings) (n : ℕ) (es : List AgentEnd) → AreMarked d d' h h' → AreAgentsTracked d h n es
    → AreAgentsTracked d' h' n es
agents_still d d' h h' n [] m all = tt
agents_still d d' h h' n (e ∷ es) m all = (agent_still d d' h h' n e m all.0, agents_still d d' h h' (suc n) es m all.1)

agents_set : (d : Marks) (h : Holdings) (n : ℕ) (es : List AgentEnd) (i : ℕ) (e : AgentEnd) → AreAgentsTracked d h n es
    → IsAgentTracked d h (n + i) e → AreAgentsTracked d h n (set es i e)
agents_set d h n [] i e all one = tt
agents_set d h n (x ∷ es) zero e all one = (subst (λ s. IsAgentTracked d h s e) (let z : n + 0 ≡ n = omega arith in z) one, all.1)
agents_set d h n (x ∷ es) (suc i) e all one = (
  all.0,
  agents_set d h (suc n) es i e all.1 (subst (λ s. IsAgentTracked d h s e) (let z : n + suc i ≡ suc n + i = omega arith in z) one),
)

pub agent_tracked-at : (d : Marks) (h : Holdings) (n : ℕ) (es : List AgentEnd) (i : ℕ) (x : AgentEnd) → AreAgentsTracked d h n es → i < length es
    → IsAgentTracked d h (n + i) (get_or es i x)
agent_tracked-at d h n [] i x all lt = absurd (omega (arith, lt))
agent_tracked-at d h n (e ∷ es) zero x all lt = subst (λ s. IsAgentTracked d h s e) (let z : n ≡ n + 0 = omega arith in z) all.0
agent_tracked-at d h n (e ∷ es) (suc i) x all lt =
    subst (λ s. IsAgentTracked d h s (get_or es i x)) (let z : suc n + i ≡ n + suc i = omega arith in z)
    (agent_tracked-at d h (suc n) es i x all.1 (omega (arith, lt)))

module _ (d d' : Marks) (h h' : Holdings) (peers : List PeerEnd) (agents : List AgentEnd) (old : Tracks d h peers agents) where
  pub tracks-still : AreMarked d d' h h' → Tracks d' h' peers agents
  tracks-still m all =
      let are = old (m.within.all all) in
      record {
        peers_are = peers_still d d' h h' peers m are.peers_are;
        agents_are = agents_still d d' h h' (1 + length peers) agents m are.agents_are;
      }

  pub tracks-peer : AreMarked d d' h h' → (i : ℕ) (e : PeerEnd) → (d'.all ≡ false → IsPeerTracked d' h' e) → Tracks d' h' (set peers i e) agents
  tracks-peer m i e one all =
      let are = tracks-still m all in
      record {
        peers_are = all-set (IsPeerTracked d' h') peers i e are.peers_are (one all);
        agents_are = subst (λ n. AreAgentsTracked d' h' (1 + n) agents) (sym (length-set peers i e)) are.agents_are;
      }

  pub tracks-agent : AreMarked d d' h h' → (i : ℕ) (e : AgentEnd) → (d'.all ≡ false → IsAgentTracked d' h' (1 + length peers + i) e)
      → Tracks d' h' peers (set agents i e)
  tracks-agent m i e one all =
      let are = tracks-still m all in
      record {
        peers_are = are.peers_are;
        agents_are = agents_set d' h' (1 + length peers) agents i e are.agents_are (one all);
      }

  -- what was heard on a session that may send leaves what was sent on it
  pub tracks-heard-peer : AreMarked d d' h h' → (i : ℕ) (e x : PeerEnd) → i < length peers → e.sent ≡ (get_or peers i x).sent
      → (d'.all ≡ false → peer_sends (get_or peers i x) ≡ true) → Tracks d' h' (set peers i e) agents
  tracks-heard-peer m i e x lt same up =
      tracks-peer m i e (λ all. λ sends.
      let are = old (m.within.all all) in
      let one = peer_still d d' h h' (get_or peers i x) m (all-at (IsPeerTracked d h) peers i x are.peers_are lt) in
      λ none k clean. ap (λ (es : List (VpnKey × VpnRoute)). get (peer_of es) k) same ∙ one (up all) none k clean)

  pub tracks-heard-agent : AreMarked d d' h h' → (i : ℕ) (e x : AgentEnd) → i < length agents → e.sent ≡ (get_or agents i x).sent
      → (d'.all ≡ false → agent_sends (get_or agents i x) ≡ true) → Tracks d' h' peers (set agents i e)
  tracks-heard-agent m i e x lt same up =
      tracks-agent m i e (λ all. λ sends.
      let are = old (m.within.all all) in
      let n = 1 + length peers + i in
      let one = agent_still d d' h h' n (get_or agents i x) m (agent_tracked-at d h (1 + length peers) agents i x are.agents_are lt) in
      λ none k clean. ap (λ (es : List (DownKey × DownValue)). get (down_of es) k) same ∙ one (up all) none k clean)

-- where everything is marked, nothing is asked
pub tracks-all : (d : Marks) (h : Holdings) (peers : List PeerEnd) (agents : List AgentEnd) → d.all ≡ true → Tracks d h peers agents
tracks-all d h peers agents is = λ all. (let no : true ≡ false = sym is ∙ all in absurd (cc))

-- ---- once all is told
told_peer : (d : Marks) (h : Holdings) (e e' : PeerEnd) → IsPeerTold h e e' → IsPeerTracked d h e'
told_peer d h e e' told = λ sends all k clean.
    let may : peer_sends e ≡ true = (λ i. peer_sends (record e { session = sym told.session_stays i })) ∙ sends in
    ap (λ (m : Map). get m k) (told.sent ∙ ap (λ b. if b then wanted_by_peers h else peer_of e.sent) may)

told_agent : (d : Marks) (h : Holdings) (session : ℕ) (e e' : AgentEnd) → IsAgentTold h session e e' → IsAgentTracked d h session e'
told_agent d h session e e' told = λ sends all k clean.
    let may : agent_sends e ≡ true = (λ i. agent_sends (record e { session = sym told.session_stays i })) ∙ sends in
    ap (λ (m : Map). get m k) (told.sent ∙ ap (λ b. if b then wanted_on h session else down_of e.sent) may)

told_peers : (d : Marks) (h : Holdings) (es es' : List PeerEnd) → ArePeersTold h es es' → AllByRecursion (IsPeerTracked d h) es'
told_peers d h [] [] told = tt
told_peers d h [] (e' ∷ es') told = absurd told
told_peers d h (e ∷ es) [] told = tt
told_peers d h (e ∷ es) (e' ∷ es') told = (told_peer d h e e' told.0, told_peers d h es es' told.1)

told_agents : (d : Marks) (h : Holdings) (n : ℕ) (es es' : List AgentEnd) → AreAgentsTold h n es es' → AreAgentsTracked d h n es'
told_agents d h n [] [] told = tt
told_agents d h n [] (e' ∷ es') told = absurd told
told_agents d h n (e ∷ es) [] told = tt
told_agents d h n (e ∷ es) (e' ∷ es') told = (told_agent d h n e e' told.0, told_agents d h (suc n) es es' told.1)

pub peers_told-long : (h : Holdings) (es es' : List PeerEnd) → ArePeersTold h es es' → length es' ≡ length es
peers_told-long h [] [] told = refl
peers_told-long h [] (e' ∷ es') told = absurd told
peers_told-long h (e ∷ es) [] told = absurd told
peers_told-long h (e ∷ es) (e' ∷ es') told = (let r = peers_told-long h es es' told.1 in omega (arith, r))

pub tracks-told : (d : Marks) (h : Holdings) (peers peers' : List PeerEnd) (agents agents' : List AgentEnd)
    → ArePeersTold h peers peers' → AreAgentsTold h (1 + length peers) agents agents' → Tracks d h peers' agents'
tracks-told d h peers peers' agents agents' ps as_told = λ all. record {
  peers_are = told_peers d h peers peers' ps;
  agents_are = subst (λ n. AreAgentsTracked d h (1 + n) agents') (sym (peers_told-long h peers peers' ps)) (told_agents d h (1 + length peers) agents agents' as_told);
}
