use Rattle.std.proofs.Common.{◌++◌, ap, sym, ◌∙◌, List, subst}
use Rattle.std.specs.List.{AllByRecursion}
use Rattle.std.specs.Map.Iter.{deref_pair}
use Rattle.std.proofs.lemmas.Map.Iter.{rest_more}
use Rattle.ov_types.specs.declared.objects.LowKey.{LowKey}
use Rattle.ov_types.specs.declared.objects.LowValue.{LowValue}
use Rattle.vpn_holdings.specs.Kinds.{IsHeld}
use Rattle.vpn_holdings.specs.Touched.{rows_if_touched}
use Rattle.vpn_holdings.proofs.Along.{along, along_held, along_turn}
use Rattle.vpn_holdings.proofs.holdings.VpnHoldings.push_along.Goals as goal

pub loop-key-init : goal.loop-key-init
loop-key-init c =
    let h = c.args.self.now in
    let f = rows_if_touched h c.args.targets.now in
    let it = c.into_iter-key-iterator.ensures.into_iter_gives ∙ c.held_uses-key-items.ensures.uses in
    record {
      so_far = (λ i. c.args.rows.now.items ++ (ap (along f) it ∙ along_held f h.feed) i);
      held = subst (λ (l : List (LowKey × LowValue)). AllByRecursion (IsHeld h.feed) l) (sym c.into_iter-key-iterator.ensures.into_iter_gives) c.held_uses-key-items.ensures.held;
    }

pub loop-key-preserved : goal.loop-key-preserved
loop-key-preserved c =
    let h = c.args.self.now in
    let k = c.in-Some.key.now in
    let v = c.in-Some._value.now in
    let before = rest_more deref_pair c.loop-key.key-iterator c.next.new.self c.next.result (c.in-Some.key, c.in-Some._value) c.in-Some.is c.next.ensures.steps in
    let held = subst (λ (l : List (LowKey × LowValue)). AllByRecursion (IsHeld h.feed) l) before c.loop-key.invariant.held in
    record {
      so_far = along_turn (rows_if_touched h c.args.targets.now) h.feed k v c.next.new.self c.loop-key.rows.items c.push_touched.new.rows.items held.0 c.in_ok-push_touched.ensures
          ∙ ap (λ (l : List (LowKey × LowValue)). c.loop-key.rows.items ++ along (rows_if_touched h c.args.targets.now) l) (sym before) ∙ c.loop-key.invariant.so_far;
      held = held.1;
    }
