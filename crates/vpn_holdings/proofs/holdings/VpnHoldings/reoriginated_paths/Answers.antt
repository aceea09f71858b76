use Rattle.std.proofs.Common.{◌++◌, ap, sym, ◌∙◌, List, map, subst}
use Rattle.std.specs.List.{AllByRecursion}
use Rattle.std.specs.Map.Iter.{deref_pair}
use Rattle.std.proofs.lemmas.Map.Iter.{rest_more}
use Rattle.ov_types.specs.declared.objects.LowKey.{LowKey}
use Rattle.ov_types.specs.declared.objects.LowValue.{LowValue}
use Rattle.vpn_holdings.specs.Kinds.{IsHeld}
use Rattle.vpn_holdings.specs.Routes.{path_of}
use Rattle.vpn_holdings.proofs.Uses.{total, total_is, led_turn}
use Rattle.vpn_holdings.proofs.holdings.VpnHoldings.reoriginated_paths.Goals as goal

pub loop-key-init : goal.loop-key-init
loop-key-init c =
    let h = c.args.self.now in
    let it = c.into_iter-key-iterator.ensures.into_iter_gives ∙ c.held_uses-key-items.ensures.uses in
    record {
      so_far = (λ i. map path_of (c.new-routes.ensures.items i) ++ total h (it i)) ∙ total_is h;
      held = subst (λ (l : List (LowKey × LowValue)). AllByRecursion (IsHeld h.feed) l) (sym c.into_iter-key-iterator.ensures.into_iter_gives) c.held_uses-key-items.ensures.held;
    }

pub loop-key-preserved : goal.loop-key-preserved
loop-key-preserved c =
    let h = c.args.self.now in
    let k = c.in-Some.key.now in
    let v = c.in-Some._value.now in
    let before = rest_more deref_pair c.loop-key.key-iterator c.next.new.self c.next.result (c.in-Some.key, c.in-Some._value) c.in-Some.is c.next.ensures.steps in
    let held = subst (λ (l : List (LowKey × LowValue)). AllByRecursion (IsHeld h.feed) l) before c.loop-key.invariant.held in
    record {
      so_far = led_turn h k v c.next.new.self (map path_of c.loop-key.routes.items) (map path_of c.lead_use.new.routes.items) held.0 c.in_ok-lead_use.ensures
          ∙ ap (λ (l : List (LowKey × LowValue)). map path_of c.loop-key.routes.items ++ total h l) (sym before) ∙ c.loop-key.invariant.so_far;
      held = held.1;
    }
