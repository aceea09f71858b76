use Rattle.std.proofs.Common.{List, ap, sym, ◌∙◌}
use Rattle.std.specs.BTreeMap.{BTreeMap}
use Rattle.std.proofs.lemmas.Result.{on_ok_weaker}
use Rattle.ov_types.specs.Prefix.{Block}
use Rattle.ov_types.specs.declared.numbers.InstanceId.{InstanceId}
use Rattle.ov_types.specs.declared.rows.Entry.{Entry}
use Rattle.agent_tables.proofs.Routes.{set_kept, none_kept}
use Rattle.agent_tables.proofs.fibs.keep_route.Goals as goal

pub returns-in-Some : goal.returns-in-Some
returns-in-Some c =
    on_ok_weaker c.keep.result (λ is. (c.get_mut.follows.holds c.keep.new.fib).0
    ∙ set_kept c.args.instance c.args.prefix c.args.entry c.args.fibs.now.entries c.in-Some.fib.now c.keep.new.fib (sym c.in-Some.ensures.value) is) c.keep.ensures

pub returns-in-None : goal.returns-in-None
returns-in-None c =
    ap (λ (m : BTreeMap InstanceId (List (Block × Entry))). m.entries) c.get_mut.follows.holds-at-none
    ∙ none_kept c.args.instance c.args.prefix c.args.entry c.args.fibs.now.entries (sym c.in-None.ensures.value)
