use Rattle.std.proofs.Common.{List, subst, sym}
use Rattle.std.specs.Prelude.{◌↔◌}
use Rattle.node_model.specs.Members.{Member}
use Rattle.path_select.specs.declared.selection.Path.{Path}
use Rattle.vpn_holdings.specs.At.{paths_at}
use Rattle.vpn_holdings.proofs.Choosing.{chosen_path}
use Rattle.vpn_tables.proofs.following.select_at.Goals as goal

pub returns-in-Ok-clause-path : goal.returns-in-Ok-clause-path
returns-in-Ok-clause-path g c =
    let h = c.args.held.now in
    let i = c.args.key.instance in
    let q = c.args.key.prefix in
    sym (chosen_path h i q c.as_slice.result.now c.choose.result
    (subst (λ (ps : List Path). (p : Path) → Member p ps ↔ Member p (paths_at h i q)) (sym c.as_slice.ensures.value) c.in-Ok.ensures) c.choose.ensures.chosen)
