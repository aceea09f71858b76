use Rattle.std.proofs.Common.{List, ap, sym, ◌∙◌}
use Rattle.std.specs.BTreeMap.{BTreeMap}
use Rattle.std.proofs.lemmas.Result.{on_ok_weaker}
use Rattle.ov_types.specs.Prefix.{Block}
use Rattle.ov_types.specs.declared.numbers.InstanceId.{InstanceId}
use Rattle.ov_types.specs.declared.rows.Entry.{Entry}
use Rattle.agent_tables.proofs.Touched.{set_led, none_led}
use Rattle.agent_tables.proofs.fibs.lead_in.Goals as goal

pub returns-in-Some-clause-led : goal.returns-in-Some-clause-led
returns-in-Some-clause-led c =
    on_ok_weaker c.lead.result (λ is. (c.get_mut.follows.holds c.lead.new.fib).0
    ∙ set_led c.args.instance c.args.prefix c.args.entry c.args.fibs.now.entries c.in-Some.fib.now c.lead.new.fib (sym c.in-Some.ensures.value) is) c.lead.ensures

pub returns-in-None-clause-led : goal.returns-in-None-clause-led
returns-in-None-clause-led c =
    ap (λ (m : BTreeMap InstanceId (List (Block × Entry))). m.entries) c.get_mut.follows.holds-at-none
    ∙ none_led c.args.instance c.args.prefix c.args.entry c.args.fibs.now.entries (sym c.in-None.ensures.value)
