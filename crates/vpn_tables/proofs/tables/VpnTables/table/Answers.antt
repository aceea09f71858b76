use Rattle.std.proofs.Common.{◌∙◌, ap}
use Rattle.std.specs.Result.{IfOk}
use Rattle.std.specs.declared.result.Result.{Result}
use Rattle.std.specs.declared.result.Result.TheVariants.{Ok, Err}
use Rattle.node_model.specs.Paths.{Holdings}
use Rattle.vpn_holdings.specs.Answers.{rows_at}
use Rattle.vpn_tables.proofs.TableListed.{table_listed}
use Rattle.vpn_tables.proofs.tables.VpnTables.table.Goals as goal

both_ok : {A E : Type 0} {P R : A → Type 0} (r : Result A E) → ((x : A) → P x → R x) → IfOk r P → IfOk r R
both_ok (Ok x) f p = f x p
both_ok (Err e) f p = tt

pub returns : goal.returns
returns c =
    both_ok c.listed.result (λ x is.
    is ∙ table_listed c.self.inside.held c.args.i c.self.inside.stored c.self.invariant c.listed.ensures.ordered ∙ ap (λ (h : Holdings). rows_at h c.args.i) c.self.view_is)
    c.listed.ensures.rows
