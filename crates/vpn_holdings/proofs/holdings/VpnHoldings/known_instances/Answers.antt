use Rattle.std.proofs.Common.{◌++◌, ap, sym, ◌∙◌, List, subst}
use Rattle.std.specs.List.{AllByRecursion, filter_map, flat_map}
use Rattle.std.specs.Map.Iter.{deref_pair}
use Rattle.std.proofs.lemmas.Map.Iter.{rest_more}
use Rattle.ov_types.specs.declared.objects.LowKey.{LowKey}
use Rattle.ov_types.specs.declared.objects.LowValue.{LowValue}
use Rattle.path_select.specs.NodeModel.Maps.{objects}
use Rattle.path_select.specs.NodeModel.Tables.{network_of}
use Rattle.path_select.specs.NodeModel.Uses.{Use}
use Rattle.vpn_holdings.specs.Kinds.{IsHeld}
use Rattle.vpn_holdings.specs.Listing.{hops}
use Rattle.vpn_holdings.proofs.KindWalks.{uses_in}
use Rattle.vpn_holdings.proofs.Listed.{places, places_turn}
use Rattle.vpn_holdings.proofs.holdings.VpnHoldings.known_instances.Goals as goal

pub loop-key-init : goal.loop-key-init
loop-key-init c =
    let feed = c.args.self.now.feed in
    let it = c.into_iter-key-iterator.ensures.into_iter_gives ∙ c.held_uses-key-items.ensures.uses in
    record {
      so_far = (λ i. c.in_ok-instances.ensures i ++ places (it i))
          ∙ ap (λ (us : List Use). filter_map (λ (e : LowKey × LowValue). network_of e.0) (objects feed) ++ flat_map hops us) (uses_in (objects feed));
      held = subst (λ (l : List (LowKey × LowValue)). AllByRecursion (IsHeld feed) l) (sym c.into_iter-key-iterator.ensures.into_iter_gives) c.held_uses-key-items.ensures.held;
    }

pub loop-key-preserved : goal.loop-key-preserved
loop-key-preserved c =
    let feed = c.args.self.now.feed in
    let k = c.in-Some.key.now in
    let v = c.in-Some._value.now in
    let before = rest_more deref_pair c.loop-key.key-iterator c.next.new.self c.next.result (c.in-Some.key, c.in-Some._value) c.in-Some.is c.next.ensures.steps in
    let held = subst (λ (l : List (LowKey × LowValue)). AllByRecursion (IsHeld feed) l) before c.loop-key.invariant.held in
    record {
      so_far = places_turn feed k v c.next.new.self c.loop-key.instances.items c.push_hops.new.instances.items held.0 c.in_ok-push_hops.ensures
          ∙ ap (λ (l : List (LowKey × LowValue)). c.loop-key.instances.items ++ places l) (sym before) ∙ c.loop-key.invariant.so_far;
      held = held.1;
    }
