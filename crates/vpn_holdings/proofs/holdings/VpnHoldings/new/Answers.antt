use Rattle.std.proofs.Common.{◌≡◌, ℕ, zero, suc, [], ap, ◌∙◌, sym, subst, map, List, arith}
use Rattle.std.specs.Prelude.{Option, None}
use Rattle.std.specs.FinMap.{get, get-empty}
use Rattle.std.specs.Map.{lookup}
use Rattle.std.specs.BTreeMap.{is_at}
use Rattle.ov_sync.specs.Keyed.{Values, map_of}
use Rattle.ov_sync.proofs.KeyedLaws.{empty_values}
use Rattle.ov_types.specs.declared.objects.LowKey.{LowKey}
use Rattle.ov_types.specs.declared.objects.LowValue.{LowValue}
use Rattle.ov_types.specs.declared.vpn.VpnKey.{VpnKey}
use Rattle.ov_types.specs.declared.vpn.VpnRoute.{VpnRoute}
use Rattle.path_select.specs.NodeModel.Keys.{Publish, Vpn, key_cmp}
use Rattle.path_select.specs.NodeModel.Maps.{as_label}
use Rattle.path_select.specs.NodeModel.Values.{Value}
use Rattle.vpn_holdings.specs.Indexed.{AreInOrder, as_route, block_at, if_told, label_in, label_order, route_in, route_order, told_by_peer, vpn_key}
use Rattle.vpn_holdings.specs.declared.places.LabelAt.{LabelAt}
use Rattle.vpn_holdings.specs.declared.places.RouteAt.{RouteAt}
use Rattle.vpn_holdings.specs.declared.holdings.Agent.{Agent}
use Rattle.vpn_holdings.specs.Ports.{if_any, ports_at, site_order}
use Rattle.vpn_holdings.specs.Ranges.{Fits}
use Rattle.vpn_holdings.specs.Views.{low_order, feed_of, peer_of, agent_of}
use Rattle.vpn_holdings.proofs.Counting.{none_counted}
use Rattle.vpn_holdings.proofs.Images.{feed-empty}
use Rattle.vpn_holdings.proofs.holdings.VpnHoldings.new.Goals as goal

no_route : (k : RouteAt) → None ≡ if_told (vpn_key k).prefix (route_in [] k)
no_route k = by_session k.session
  where
    by_session : (s : ℕ) → None ≡ if_told (vpn_key k).prefix (as_route (get (told_by_peer [] s) (Vpn (vpn_key k))))
    by_session zero = sym (ap (λ (o : Option Value). if_told (vpn_key k).prefix (as_route o)) (get-empty key_cmp (Vpn (vpn_key k))))
    by_session (suc n) = sym (ap (λ (o : Option Value). if_told (vpn_key k).prefix (as_route o)) (get-empty key_cmp (Vpn (vpn_key k))))

no_label : (k : LabelAt) → None ≡ if_told (block_at k) (label_in [] k)
no_label k = sym (ap (λ (o : Option Value). if_told (block_at k) (as_label o)) (get-empty key_cmp (Publish k.instance (block_at k))))

pub invariant_of-result : goal.invariant_of-result
invariant_of-result c = (
  subst (λ (l : List (LowKey × LowValue)). Values Fits (map_of low_order l)) (sym c.new.ensures.empty) (empty_values low_order Fits),
  rw c.new-3.ensures.items (omega arith),
  (λ s. ap (lookup (is_at (site_order s))) c.new-2.ensures.empty ∙ none_counted s ∙ ap (λ (l : List (LowKey × LowValue)). if_any (ports_at (feed_of l) s)) (sym c.new.ensures.empty)),
  (λ k. ap (lookup (is_at (route_order k))) c.new-5.ensures.empty ∙ no_route k ∙ ap (λ (l : List (List (VpnKey × VpnRoute))). if_told (vpn_key k).prefix (route_in (map peer_of l) k)) (sym c.new-3.ensures.items)),
  (λ k. ap (lookup (is_at (label_order k))) c.new-6.ensures.empty ∙ no_label k ∙ ap (λ (l : List Agent). if_told (block_at k) (label_in (map agent_of l) k)) (sym c.new-4.ensures.items)),
  subst (λ (l : List Agent). AreInOrder (map agent_of l)) (sym c.new-4.ensures.items) tt,
)

pub returns : goal.returns
returns c = λ i. record { asn = c.args.asn; feed = (ap feed_of c.new.ensures.empty ∙ feed-empty) i; peers = map peer_of (c.new-3.ensures.items i); agents = map agent_of (c.new-4.ensures.items i) }
