-- What begins at the end of a session, from what its calls ensure.
use Rattle.std.specs.Prelude.{◌≡◌, ◌≢◌, ◌+◌, ◌<◌, ℕ, suc, List, [], ◌∷◌, length, map, Bool, true, false, Option, Some, None}
use Rattle.std.specs.List.{filter_map}
use Rattle.std.specs.Option.{option_map}
use Rattle.std.proofs.Common.{refl, sym, ◌∙◌, ap, subst, Bor, get_or, set, set-set}
use Rattle.ov_link.specs.declared.step.Input.{Input}
use Rattle.ov_link.specs.declared.step.Input.TheVariants as input
use Rattle.ov_sync.specs.Embed.{moved_delta}
use Rattle.ov_sync.specs.declared.Delta.{Delta}
use Rattle.ov_types.specs.declared.keys.DownKey.{DownKey}
use Rattle.ov_types.specs.declared.keys.DownValue.{DownValue}
use Rattle.ov_types.specs.declared.rows.NodeId.{NodeId}
use Rattle.ov_types.specs.declared.vpn.VpnKey.{VpnKey}
use Rattle.ov_types.specs.declared.vpn.VpnRoute.{VpnRoute}
use Rattle.bgp_session.specs.declared.event.Cause.{Cause as PeerCause}
use Rattle.bgp_session.specs.declared.event.State.{State}
use Rattle.item_wire.specs.Happenings as items
use Rattle.item_wire.specs.Records.{spelling}
use Rattle.item_wire.specs.declared.event.ItemCause.{ItemCause}
use Rattle.item_wire.specs.declared.event.ItemState.{ItemState}
use Rattle.item_wire.specs.declared.item.Item.TheVariants.{Hello}
use Rattle.node_core.specs.Beginning as item
use Rattle.node_core.specs.Hearing as item_hearing
use Rattle.node_core.specs.Told.{AllFit, change_of, down_of}
use Rattle.node_core.specs.NodeModel.Keys.{Vpn}
use Rattle.node_core.specs.NodeModel.Maps.{Change}
use Rattle.node_core.specs.NodeModel.Paths.{Holdings}
use Rattle.node_core.specs.NodeModel.Step.{Opened, Post, end_of, nothing, post}
use Rattle.node_core.specs.NodeModel.Values.{Route}
use Rattle.node_routes.specs.Beginning as route
use Rattle.node_routes.specs.Hearing as route_hearing
use Rattle.node_routes.specs.Hearing.{open_octets}
use Rattle.control_node.specs.Beginning.{BeginsKeeping, KeepsBy}
use Rattle.control_node.specs.Begun.{IsBegun, IsHeard}
use Rattle.control_node.specs.Core.{is_peer}
use Rattle.control_node.specs.Ends.{AreEnds, IsAgentEnd, opened_agent, opened_peer, plan_of, posts_of}
use Rattle.control_node.specs.Taking.{ItemsHeard, RoutesHeard, agent_by, feed_by, peer_by, taken}
use Rattle.control_node.specs.declared.cause.NodeCause.{NodeCause}
use Rattle.control_node.specs.declared.cause.NodeCause.TheVariants as Cause
use Rattle.control_node.specs.declared.ends.AgentEnd.{AgentEnd}
use Rattle.control_node.specs.declared.ends.PeerEnd.{PeerEnd}
use Rattle.control_node.specs.declared.plan.ControlPlan.{ControlPlan}
use Rattle.control_node.proofs.Applied.{agent-same, peer-same}
use Rattle.control_node.proofs.Keeping.{all-at}
use Rattle.control_node.proofs.Turning.{agent-begins, agent-turned, feed-begins, peer-begins, peer-turned, peer-wide}

-- ---- causes
caused : {C D : Type 0} (f : C → D) (c : Option C) → option_map f c ≡ None → c ≡ None
caused f None h = refl
caused f (Some c) h = cc

uncaused : {C D : Type 0} (f : C → D) (c : Option C) → option_map f c ≢ None → c ≢ None
uncaused f c h e = h (ap (option_map f) e)

routes_fell : (p : Post) (H : route_hearing.RouteHearing) (c : Option PeerCause) → c ≢ None → route.left_by p H c ≡ None
routes_fell p H None h = absurd (h refl)
routes_fell p H (Some c) h = refl

items_fell : (p : Post) (H : item_hearing.ItemHearing) (c : Option ItemCause) → c ≢ None → item.left_by p H c ≡ None
items_fell p H None h = absurd (h refl)
items_fell p H (Some c) h = refl

-- ---- where a session stays up
peer_left : (p : Post) (state : State) (wide : Bool) (H : route_hearing.RouteHearing) (changes : List (Delta VpnKey VpnRoute)) (c : Option PeerCause)
    → state ≡ H.state → wide ≡ H.wide → changes ≡ H.changes → c ≡ H.cause → c ≡ None
    → route.left_by p H H.cause
    ≡ Some (record p { phase = route.phase_of state; held = taken c (map (moved_delta Vpn Route) changes) p.held; wide = wide })
peer_left p state wide H changes c s w cs e none =
    ap (route.left_by p H) (sym e ∙ none)
    ∙ (λ k. Some (record p {
      phase = route.phase_of (sym s k);
      held = taken (sym none k) (map (moved_delta Vpn Route) (sym cs k)) p.held;
      wide = sym w k;
    }))

item_left : (p : Post) (state : ItemState) (H : item_hearing.ItemHearing) (changes : List Change) (c : Option ItemCause) → state ≡ H.state
    → changes ≡ filter_map change_of H.records → c ≡ H.cause → c ≡ None
    → item.left_by p H H.cause ≡ Some (record p { phase = item.phase_of state; held = taken c changes p.held })
item_left p state H changes c s cs e none =
    ap (item.left_by p H) (sym e ∙ none)
    ∙ (λ k. Some (record p { phase = item.phase_of (sym s k); held = taken (sym none k) (sym cs k) p.held }))

-- ---- a session that is closed
pub closed-begins : (plan : ControlPlan) (session : ℕ) (p : Post) → BeginsKeeping plan session p [] (input.Closed session) (record { replies = []; after = None }) None []
closed-begins plan session p =
    elim (is_peer plan session) as (λ b. KeepsBy b plan session p [] (input.Closed session) (record { replies = []; after = None }) None []) [
      | true ↦ (None, refl, ((refl, refl), refl))
      | false ↦ (None, refl, ((refl, refl), refl))
    ]

-- ---- an agent's end is still with that agent
pub opened_is : (e : AgentEnd) → IsAgentEnd e → IsAgentEnd (opened_agent e)
opened_is e is = record { peer = is.peer; from = is.from; sent = is.sent }

pub heard_is : (e e' : AgentEnd) → IsAgentEnd e → e'.id ≡ e.id → e'.sent ≡ e.sent → e'.session.peer ≡ e.session.peer → e'.session.from ≡ e.session.from
    → IsAgentEnd e'
heard_is e e' is id sent peer from = record {
  peer = peer ∙ is.peer ∙ ap (λ (n : NodeId). n.name) (sym id);
  from = from ∙ is.from;
  sent = subst (λ (s : List (DownKey × DownValue)). AllFit (down_of s)) (sym sent) is.sent;
}

-- ---- octets that were heard

pub heard-falls : (plan : ControlPlan) (posts : List Post) (session : ℕ) (i : Input) (replies : List (List ℕ)) (cause : Option NodeCause) (left : List ℕ) (posts' closed : List Post)
    → IsHeard plan posts session i replies cause left posts' → cause ≢ None → closed ≡ set posts' session nothing → IsBegun plan posts session i replies cause left closed
heard-falls plan posts session i replies cause left posts' closed h some e = record {
  given = h.given;
  begins = h.begins;
  begun = record {
    replied = h.replied;
    applied = e ∙ ap (λ (ps : List Post). set ps session nothing) h.applied ∙ set-set posts session h.end nothing
        ∙ ap (λ (a : Option Post). set posts session (end_of a)) (sym (h.falls some));
  };
}

module _ (me : NodeId) (asn : ℕ) (feed : items.SessionFields) (es : List PeerEnd) (ts : List AgentEnd) (h : Holdings)
    (are : AreEnds me asn feed es ts h) where
  abbrev plan : ControlPlan
  plan = plan_of me asn es ts

  abbrev posts : List Post
  posts = posts_of feed.state es ts h

  -- ---- sessions that are opened
  pub feed-opened : (session : ℕ) (s : items.SessionFields) (replies : List (List ℕ)) → session ≡ 0 → s ≡ record feed { state = ItemState.Opened }
      → replies ≡ spelling (Hello me.name) ∷ [] → IsBegun plan posts session (input.Opened session) replies None [] (posts_of s.state es ts h)
  feed-opened session s replies at is said =
      subst (λ n. IsBegun plan posts n (input.Opened n) replies None [] (posts_of s.state es ts h)) (sym at) (record {
        given = record { replies = spelling (Hello me.name) ∷ []; after = Some (record (post posts 0) { phase = Opened }) };
        begins = feed-begins me asn feed es ts h are (input.Opened 0) _ None None [] refl ((refl, refl), refl);
        begun = record { replied = said; applied = ap (λ (s : items.SessionFields). posts_of s.state es ts h) is };
      })

  pub peer-opened : (session i : ℕ) (e d : PeerEnd) (replies : List (List ℕ)) → session ≡ suc i → i < length es → e ≡ opened_peer (get_or es i d)
      → replies ≡ open_octets asn me.address ∷ [] → IsBegun plan posts session (input.Opened session) replies None [] (posts_of feed.state (set es i e) ts h)
  peer-opened session i e d replies at lt is said =
      let p = post posts session in
      let own = all-at (λ (e : PeerEnd). e.session.asn ≡ asn) es i d are.peer_ends lt in
      record {
        given = record { replies = open_octets (get_or es i d).session.asn me.address ∷ []; after = Some (record p { phase = Opened }) };
        begins = peer-begins me asn feed es ts h are session i d (input.Opened session) _ None None [] at lt refl ((refl, refl), refl);
        begun = record {
          replied = said ∙ ap (λ n. open_octets n me.address ∷ []) (sym own);
          applied =
              ap (λ (h : Holdings). posts_of feed.state (set es i e) ts h) (sym (peer-same h session))
              ∙ peer-turned me asn feed es ts h are (λ m. m) session i e d at lt (ap (λ (e : PeerEnd). e.sent) is)
              ∙ (λ k. set posts session (record p {
                phase = route.phase_of (is k).session.state;
                wide = (ap (λ (e : PeerEnd). e.session.wide) is ∙ peer-wide me asn feed es ts h are session i d at lt) k;
              }));
        };
      }

  pub agent-opened : (session i : ℕ) (e d : AgentEnd) (replies : List (List ℕ)) → session ≡ suc (length es + i) → i < length ts → e ≡ opened_agent (get_or ts i d)
      → replies ≡ spelling (Hello me.name) ∷ [] → IsBegun plan posts session (input.Opened session) replies None [] (posts_of feed.state es (set ts i e) h)
  agent-opened session i e d replies at lt is said =
      let p = post posts session in
      record {
        given = record { replies = spelling (Hello me.name) ∷ []; after = Some (record p { phase = Opened }) };
        begins = agent-begins me asn feed es ts h are session i d (input.Opened session) _ None None [] at lt refl ((refl, refl), refl);
        begun = record {
          replied = said;
          applied =
              ap (λ (h : Holdings). posts_of feed.state es (set ts i e) h) (sym (agent-same h session))
              ∙ agent-turned me asn feed es ts h are (λ m. m) session i e d at lt (ap (λ (e : AgentEnd). e.sent) is)
              ∙ ap (λ (e : AgentEnd). set posts session (record p { phase = item.phase_of e.session.state })) is;
        };
      }

  -- ---- sessions on which octets come
  pub feed-heard : (session : ℕ) (s : items.SessionFields) (b : Bor (List ℕ)) (rest : List ℕ) (changes : List Change) (c : Option ItemCause) (cause : Option NodeCause) (replies : List (List ℕ)) (h' : Holdings)
      → session ≡ 0 → ItemsHeard feed s b.now rest changes c → cause ≡ option_map Cause.Item c → replies ≡ []
      → h' ≡ feed_by (taken c changes) h → IsHeard plan posts session (input.Bytes session b) replies cause rest (posts_of s.state es ts h')
  feed-heard session s b rest changes c cause replies h' at heard is none by =
      subst (λ n. IsHeard plan posts n (input.Bytes n b) replies cause rest (posts_of s.state es ts h')) (sym at) (
      let p = post posts 0 in
      let H = item_hearing.heard feed heard.inputs in
      record {
        given = record { replies = []; after = item.left_by p H H.cause };
        begins = feed-begins me asn feed es ts h are (input.Bytes 0 b) _ c cause rest is (heard.inputs, heard.leaves, refl, heard.cause_is);
        replied = none;
        end = record p { phase = item.phase_of s.state; held = taken c changes p.held };
        applied = ap (λ (h : Holdings). posts_of s.state es ts h) by;
        stays = λ none. item_left p s.state H changes c heard.state heard.changes_are heard.cause_is (caused Cause.Item c (sym is ∙ none));
        falls = λ some. ap (item.left_by p H) (sym heard.cause_is) ∙ items_fell p H c (uncaused Cause.Item c (λ e. some (is ∙ e)));
      })

  pub peer-heard : (session i : ℕ) (e d : PeerEnd) (b : Bor (List ℕ)) (rest : List ℕ) (changes : List (Delta VpnKey VpnRoute)) (c : Option PeerCause) (cause : Option NodeCause) (replies : List (List ℕ)) (h' : Holdings)
      → session ≡ suc i → i < length es → e.sent ≡ (get_or es i d).sent → RoutesHeard me.address (get_or es i d).session e.session b.now rest replies changes c
      → cause ≡ option_map Cause.Peer c → h' ≡ peer_by (taken c (map (moved_delta Vpn Route) changes)) h session
      → IsHeard plan posts session (input.Bytes session b) replies cause rest (posts_of feed.state (set es i e) ts h')
  peer-heard session i e d b rest changes c cause replies h' at lt sent heard is by =
      let p = post posts session in
      let H = route_hearing.heard me.address (get_or es i d).session heard.inputs in
      record {
        given = record { replies = H.replies; after = route.left_by p H H.cause };
        begins = peer-begins me asn feed es ts h are session i d (input.Bytes session b) _ c cause rest at lt is (heard.inputs, heard.leaves, refl, heard.cause_is);
        replied = heard.replied;
        end = record p { phase = route.phase_of e.session.state; held = taken c (map (moved_delta Vpn Route) changes) p.held; wide = e.session.wide };
        applied = ap (λ (h : Holdings). posts_of feed.state (set es i e) ts h) by ∙ peer-turned me asn feed es ts h are (taken c (map (moved_delta Vpn Route) changes)) session i e d at lt sent;
        stays = λ none. peer_left p e.session.state e.session.wide H changes c heard.state heard.wide heard.changes_are heard.cause_is (caused Cause.Peer c (sym is ∙ none));
        falls = λ some. ap (route.left_by p H) (sym heard.cause_is) ∙ routes_fell p H c (uncaused Cause.Peer c (λ e. some (is ∙ e)));
      }

  pub agent-heard : (session i : ℕ) (e d : AgentEnd) (b : Bor (List ℕ)) (rest : List ℕ) (changes : List Change) (c : Option ItemCause) (cause : Option NodeCause) (replies : List (List ℕ)) (h' : Holdings)
      → session ≡ suc (length es + i) → i < length ts → e.sent ≡ (get_or ts i d).sent → ItemsHeard (get_or ts i d).session e.session b.now rest changes c
      → cause ≡ option_map Cause.Item c → replies ≡ [] → h' ≡ agent_by (taken c changes) h session
      → IsHeard plan posts session (input.Bytes session b) replies cause rest (posts_of feed.state es (set ts i e) h')
  agent-heard session i e d b rest changes c cause replies h' at lt sent heard is none by =
      let p = post posts session in
      let H = item_hearing.heard (get_or ts i d).session heard.inputs in
      record {
        given = record { replies = []; after = item.left_by p H H.cause };
        begins = agent-begins me asn feed es ts h are session i d (input.Bytes session b) _ c cause rest at lt is (heard.inputs, heard.leaves, refl, heard.cause_is);
        replied = none;
        end = record p { phase = item.phase_of e.session.state; held = taken c changes p.held };
        applied = ap (λ (h : Holdings). posts_of feed.state es (set ts i e) h) by ∙ agent-turned me asn feed es ts h are (taken c changes) session i e d at lt sent;
        stays = λ none. item_left p e.session.state H changes c heard.state heard.changes_are heard.cause_is (caused Cause.Item c (sym is ∙ none));
        falls = λ some. ap (item.left_by p H) (sym heard.cause_is) ∙ items_fell p H c (uncaused Cause.Item c (λ e. some (is ∙ e)));
      }
