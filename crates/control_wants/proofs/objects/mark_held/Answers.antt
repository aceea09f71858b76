use Rattle.std.proofs.Common.{sym, subst}
use Rattle.std.specs.declared.option.Option.{Option}
use Rattle.ov_types.specs.declared.objects.LowValue.{LowValue}
use Rattle.vpn_tables.specs.Here.{IsListOfPort}
use Rattle.control_wants.proofs.objects.mark_held.Goals as goal

pub returns-in-Some-clause-marked : goal.returns-in-Some-clause-marked
returns-in-Some-clause-marked c = λ _ all a k clean l.
    c.mark_object.ensures.marked all c.args.name.now (sym c.in-Some.ensures.object) a k clean
    (subst (λ (o : Option LowValue). IsListOfPort c.args.tables.now.feed a.address o k) (sym c.in-Some.ensures.object) l)

pub returns-in-Some-clause-only : goal.returns-in-Some-clause-only
returns-in-Some-clause-only c = c.mark_object.ensures.only c.args.name.now (sym c.in-Some.ensures.object)
