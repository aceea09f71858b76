use Rattle.std.proofs.Common.{◌≡◌, ◌≢◌, ◌-◌, ◌∙◌, ◌==◌, ap, sym, refl, map, ℕ, suc, cond, arith}
use Rattle.std.specs.Prelude.{Bool, true, false, Option, None}
use Rattle.std.specs.BTreeMap as tree
use Rattle.std.specs.BTreeMap.{BTreeMap}
use Rattle.ov_types.specs.Prefix.{Block}
use Rattle.std.specs.FinMap.{empty}
use Rattle.ov_sync.proofs.KeyedLaws.{empty_values}
use Rattle.path_select.specs.NodeModel.Maps.{Map}
use Rattle.path_select.specs.NodeModel.Paths.{Holdings, Told}
use Rattle.vpn_holdings.specs.Changes.{without, at_session, emptied_at}
use Rattle.std.proofs.Common.{subst, List}
use Rattle.std.specs.Map.{lookup}
use Rattle.std.specs.BTreeMap.{is_at}
use Rattle.ov_sync.specs.Keyed.{Values, map_of}
use Rattle.ov_types.specs.declared.objects.LowKey.{LowKey}
use Rattle.ov_types.specs.declared.objects.LowValue.{LowValue}
use Rattle.vpn_holdings.specs.Ports.{if_any, ports_at, site_order}
use Rattle.vpn_holdings.proofs.Counting.{none_counted}
use Rattle.vpn_holdings.specs.Ranges.{Fits}
use Rattle.vpn_holdings.specs.Views.{low_order, feed_of, peer_of, agent_of}
use Rattle.vpn_holdings.proofs.Images.{feed-empty}
use Rattle.vpn_holdings.proofs.Peers.{fit_emptied}
use Rattle.vpn_holdings.specs.Indexed.{AreInOrder, AreLabels, AreRoutes, block_at, if_told, label_in, label_order, route_in, route_order, vpn_key}
use Rattle.vpn_holdings.specs.contracts.holdings.VpnHoldings.{the_view}
use Rattle.vpn_holdings.specs.declared.places.LabelAt.{LabelAt}
use Rattle.vpn_holdings.specs.declared.places.RouteAt.{RouteAt}
use Rattle.vpn_holdings.proofs.AgentsIndexed as told
use Rattle.vpn_holdings.proofs.PeersIndexed as peers
use Rattle.vpn_holdings.proofs.holdings.VpnHoldings.drop_session.Goals as goal

-- no place is kept any more of what the session told
if_dropped : {X : Type 0} (b : Block) (is : Bool) (o : Option X) → cond is None (if_told b o) ≡ if_told b (cond is None o)
if_dropped b true o = refl
if_dropped b false o = refl

places_dropped : (session : ℕ) (h : Holdings) (maps : List Map) (before now : BTreeMap RouteAt Block) → AreRoutes before h.peers
    → ((k : RouteAt) → tree.get route_order now k ≡ cond (k.session == session) None (tree.get route_order before k)) → (without h session).peers ≡ maps → AreRoutes now maps
places_dropped session h maps before now kept forgot at k =
    forgot k ∙ ap (cond (k.session == session) None) (kept k) ∙ if_dropped (vpn_key k).prefix (k.session == session) (route_in h.peers k)
    ∙ ap (if_told (vpn_key k).prefix) (peers.dropped h session k ∙ ap (λ (ms : List Map). route_in ms k) at)

labels_dropped : (session : ℕ) (agents later : List Told) (before now : BTreeMap LabelAt Block) → AreLabels before agents → AreInOrder agents
    → ((k : LabelAt) → tree.get label_order now k ≡ cond (k.session == session) None (tree.get label_order before k)) → later ≡ at_session (λ (m : Map). empty) agents session → AreLabels now later
labels_dropped session agents later before now kept order forgot at k =
    forgot k ∙ ap (cond (k.session == session) None) (kept k) ∙ if_dropped (block_at k) (k.session == session) (label_in agents k)
    ∙ ap (if_told (block_at k)) (told.dropped agents session order k ∙ ap (λ (l : List Told). label_in l k) (sym at))

in_order : (session : ℕ) (agents later : List Told) → later ≡ at_session (λ (m : Map). empty) agents session → AreInOrder agents → AreInOrder later
in_order session agents later at order = subst AreInOrder (sym at) (told.order_changed (λ (m : Map). empty) agents session order)

one_before : (session place : ℕ) → session ≢ 0 → place ≡ session - 1 → session ≡ suc place
one_before session place n e = omega arith

behind : (h : Holdings) (session place : ℕ) → session ≡ suc place → (without h session).peers ≡ emptied_at h.peers place
behind h session place e = ap (λ (s : ℕ). (without h s).peers) e

pub invariant_of-self : goal.invariant_of-self
invariant_of-self c = (
  subst (λ (l : List (LowKey × LowValue)). Values Fits (map_of low_order l)) (sym c.clear.ensures.empty) (empty_values low_order Fits),
  c.self.invariant.1,
  (λ s. ap (lookup (is_at (site_order s))) c.clear-then-session-eq0.ensures.empty ∙ none_counted s ∙ ap (λ (l : List (LowKey × LowValue)). if_any (ports_at (feed_of l) s)) (sym c.clear.ensures.empty)),
  places_dropped c.args.session (the_view c.self.inside) (map peer_of c.self.inside.peers.items) c.self.inside.routes c.forget_routes.new.routes c.self.invariant.3 c.forget_routes.ensures
      (ap (λ (s : ℕ). (without (the_view c.self.inside) s).peers) c.if-session-eq0.true),
  labels_dropped c.args.session (map agent_of c.self.inside.agents.items) (map agent_of c.empty_agent.new.agents.items) c.self.inside.labels c.forget_labels.new.labels c.self.invariant.4 c.self.invariant.5 c.forget_labels.ensures c.empty_agent.ensures,
  in_order c.args.session (map agent_of c.self.inside.agents.items) (map agent_of c.empty_agent.new.agents.items) c.empty_agent.ensures c.self.invariant.5,
)

pub returns-then-session-eq0 : goal.returns-then-session-eq0
returns-then-session-eq0 c =
    let agents = c.empty_agent.ensures ∙ ap (at_session (λ (m : Map). empty) (map agent_of c.self.inside.agents.items)) c.if-session-eq0.true in
    (λ i. record { asn = c.self.inside.asn; feed = (ap feed_of c.clear.ensures.empty ∙ feed-empty) i; peers = map peer_of c.self.inside.peers.items; agents = agents i })
    ∙ ap (λ (h : Holdings). without h 0) c.self.view_is ∙ ap (λ (s : ℕ). without c.args.self.now s) (sym c.if-session-eq0.true)

pub invariant_of-self-2 : goal.invariant_of-self-2
invariant_of-self-2 c =
    let at : (without (the_view c.self.inside) c.args.session).peers ≡ map peer_of c.empty_at.new.peers.items =
    behind (the_view c.self.inside) c.args.session c.from.result (one_before c.args.session c.from.result c.if-session-eq0.false c.from.ensures) ∙ sym c.empty_at.ensures in (
      c.self.invariant.0,
      fit_emptied c.self.inside.peers.items c.empty_at.new.peers.items c.from.result 65535 c.empty_at.ensures c.self.invariant.1,
      c.self.invariant.2,
      places_dropped c.args.session (the_view c.self.inside) (map peer_of c.empty_at.new.peers.items) c.self.inside.routes c.forget_routes.new.routes c.self.invariant.3 c.forget_routes.ensures at,
      labels_dropped c.args.session (map agent_of c.self.inside.agents.items) (map agent_of c.empty_agent.new.agents.items) c.self.inside.labels c.forget_labels.new.labels c.self.invariant.4 c.self.invariant.5 c.forget_labels.ensures c.empty_agent.ensures,
      in_order c.args.session (map agent_of c.self.inside.agents.items) (map agent_of c.empty_agent.new.agents.items) c.empty_agent.ensures c.self.invariant.5,
    )
