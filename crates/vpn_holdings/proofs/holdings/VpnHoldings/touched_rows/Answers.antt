use Rattle.std.proofs.Common.{◌++◌, ◌∙◌, List, map}
use Rattle.std.specs.List.{filter}
use Rattle.ov_types.specs.Prefix.{Block}
use Rattle.ov_types.specs.declared.numbers.InstanceId.{InstanceId}
use Rattle.vpn_holdings.specs.Touched.{imports_one, is_touched, rows_at_use}
use Rattle.path_select.specs.NodeModel.Uses.{uses}
use Rattle.vpn_holdings.proofs.Along.{along_passing}
use Rattle.vpn_holdings.proofs.holdings.VpnHoldings.touched_rows.Goals as goal

abbrev row_in : Block → InstanceId → InstanceId × Block
row_in prefix i = (i, prefix)

pub returns : goal.returns
returns c =
    let h = c.args.self.now in
    let importing = (λ (is : List InstanceId). map (row_in c.args.prefix) (filter (imports_one h c.args.targets.now) is)) in
    c.in_ok-push_along.ensures
    ∙ (λ i. (c.in_ok-push_importing.ensures ∙ (λ j. c.new-rows.ensures.items j ++ importing ((c.as_slice.ensures.value ∙ c.in_ok-known.ensures) j))) i ++ along_passing rows_at_use (is_touched h c.args.targets.now) (uses h.feed) i)
