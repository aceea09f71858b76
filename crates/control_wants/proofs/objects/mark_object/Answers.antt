use Rattle.std.proofs.Common.{subst}
use Rattle.std.specs.declared.option.Option.TheVariants.{Some}
use Rattle.control_wants.specs.Marks.{IsPort}
use Rattle.control_wants.proofs.Marking.{port_lists}
use Rattle.vpn_tables.specs.NodeModel.Wants.{slice}
use Rattle.control_wants.specs.Marks.{IsListAmong, no_route}
use Rattle.control_wants.proofs.Only.{list_of, only_more}
use Rattle.control_wants.proofs.objects.mark_object.Goals as goal

pub returns-in-Some-clause-marked : goal.returns-in-Some-clause-marked
returns-in-Some-clause-marked c = λ all.
    port_lists c.mark_network.new.dirty c.args.tables.now.feed c.args.value.now (c.in-Some.address, c.in-Some.network) (subst (IsPort (Some c.args.value.now)) c.in-Some.is c.port_of.ensures) c.mark_network.ensures.marked all

pub returns-in-Some-clause-only : goal.returns-in-Some-clause-only
returns-in-Some-clause-only c = λ name held.
    only_more _ _ no_route (IsListAmong c.in-Some.network.0 (slice c.args.tables.now.feed c.in-Some.address)) (λ k n. absurd n)
    (λ a k l. list_of c.args.tables.now name c.args.value.now (c.in-Some.address, c.in-Some.network) held (subst (IsPort (Some c.args.value.now)) c.in-Some.is c.port_of.ensures) a k l)
    c.args.dirty.now c.mark_network.new.dirty c.mark_network.ensures.only
