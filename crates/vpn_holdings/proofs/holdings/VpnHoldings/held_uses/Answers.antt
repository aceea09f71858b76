use Rattle.std.proofs.Common.{◌∙◌, ap, sym, subst, List}
use Rattle.std.specs.List.{AllByRecursion, filter}
use Rattle.ov_types.specs.declared.objects.LowKey.{LowKey}
use Rattle.ov_types.specs.declared.objects.LowValue.{LowValue}
use Rattle.path_select.specs.NodeModel.Paths.{Holdings}
use Rattle.vpn_holdings.specs.Kinds.{IsHeld, is_use}
use Rattle.vpn_holdings.proofs.KindWalks.{from_uses, uses_held}
use Rattle.vpn_holdings.proofs.Listed.{objects_are}
use Rattle.vpn_holdings.proofs.holdings.VpnHoldings.held_uses.Goals as goal

pub returns-clause-uses : goal.returns-clause-uses
returns-clause-uses c =
    c.range.ensures.between tt
    ∙ (λ i. filter (λ (e : LowKey × LowValue). from_uses e.0 i) c.self.inside.low.entries)
    ∙ ap (filter (λ (e : LowKey × LowValue). is_use e.0))
    (objects_are c.args.self.now.feed c.self.inside.low.entries c.range.ensures.ordered (ap (λ (h : Holdings). h.feed) c.self.view_is))

pub returns-clause-held : goal.returns-clause-held
returns-clause-held c =
    subst (λ (l : List (LowKey × LowValue)). AllByRecursion (IsHeld c.args.self.now.feed) l) (sym (returns-clause-uses c)) (uses_held c.args.self.now.feed)
