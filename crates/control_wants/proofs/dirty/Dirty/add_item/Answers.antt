use Rattle.std.proofs.Common.{◌≡◌, true, subst, sym}
use Rattle.std.specs.declared.option.Option.TheVariants.{Some}
use Rattle.std.specs.FinMap.{get}
use Rattle.ov_sync.specs.Keyed.{map_of}
use Rattle.vpn_tables.specs.NodeModel.Directions.{down_order}
use Rattle.vpn_tables.specs.NodeModel.Keys.{of_down}
use Rattle.control_wants.specs.Marks.{AreAllOf, IsWithin, Marks, MarksOnly, is_marked, no_route}
use Rattle.control_wants.specs.contracts.dirty.Dirty.{the_view}
use Rattle.control_wants.proofs.Growing.{put_marks, within_put}
use Rattle.control_wants.proofs.Only.{all_joined, all_of_put, only_put}
use Rattle.control_wants.proofs.dirty.Dirty.add_item.Goals as goal

pub returns-in-Ok-clause-within : goal.returns-in-Ok-clause-within
returns-in-Ok-clause-within c =
    let before : Marks = the_view c.self.inside in
    subst (λ (d : Marks). IsWithin d (record before { items = c.apply.new.self })) c.self.view_is
    (within_put before c.apply.new.self c.args.key c.joined-all_of.result c.in-Ok.ensures.ok
    (λ a x t. c.joined-all_of.ensures.keeps a x (subst (λ o. is_marked a x o ≡ true) (cc) t)))

pub returns-in-Ok-clause-marked : goal.returns-in-Ok-clause-marked
returns-in-Ok-clause-marked c = λ all a is clean.
    put_marks (the_view c.self.inside) c.apply.new.self c.args.key c.joined-all_of.result c.in-Ok.ensures.ok a (c.joined-all_of.ensures.adds a c.args.key is) clean

pub returns-in-Ok-clause-only : goal.returns-in-Ok-clause-only
returns-in-Ok-clause-only c =
    let before : Marks = the_view c.self.inside in
    subst (λ (d : Marks). MarksOnly no_route (λ a k. k ≡ of_down c.args.key) d (record before { items = c.apply.new.self })) c.self.view_is
    (only_put before c.apply.new.self c.args.key c.joined-all_of.result c.in-Ok.ensures.ok)

pub returns-in-Ok-clause-own : goal.returns-in-Ok-clause-own
returns-in-Ok-clause-own c = λ all.
    let before : Marks = the_view c.self.inside in
    let each : AreAllOf before c.args.whom = subst (λ (d : Marks). AreAllOf d c.args.whom) (sym c.self.view_is) all in
    all_of_put before c.apply.new.self c.args.key c.joined-all_of.result c.args.whom c.in-Ok.ensures.ok
    (all_joined _ c.args.whom c.joined-all_of.result (λ other is. each c.args.key other (cc)) c.joined-all_of.ensures.first c.joined-all_of.ensures.same) each

pub returns-in-Err-clause-own : goal.returns-in-Err-clause-own
returns-in-Err-clause-own c = λ all x other marked.
    subst (λ (d : Marks). AreAllOf d c.args.whom) (sym c.self.view_is) all x other
    (subst (λ items. get (map_of down_order items) x ≡ Some other) c.in-Err.ensures.err marked)
