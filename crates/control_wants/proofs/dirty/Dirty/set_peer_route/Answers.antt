use Rattle.std.proofs.Common.{◌≡◌, inr, subst}
use Rattle.ov_sync.specs.Keyed.{key_of}
use Rattle.ov_types.specs.declared.vpn.VpnKey.{VpnKey}
use Rattle.vpn_tables.specs.NodeModel.Keys.{Vpn}
use Rattle.control_wants.specs.Marks.{Marks, MarksOnly, no_item}
use Rattle.control_wants.proofs.Growing.{within_then}
use Rattle.control_wants.proofs.Marking.{covers_itself}
use Rattle.control_wants.proofs.Only.{known_only, only_then, route_only}
use Rattle.control_wants.proofs.Telling.{route_covered}
use Rattle.control_wants.proofs.dirty.Dirty.set_peer_route.Goals as goal

abbrev IsMarkedOnly : Marks → Marks → VpnKey → Type 0
IsMarkedOnly d d' own = MarksOnly (λ k. k ≡ Vpn own) no_item d d'

pub returns-in_err-changes-clause-covers : goal.returns-in_err-changes-clause-covers
returns-in_err-changes-clause-covers c = λ _.
    covers_itself c.args.self.now c.add_route.new.self c.add_route.ensures.within c.args.tables.now c.change_route.new.tables c.in_err-changes.ensures.err

pub returns-clause-within : goal.returns-clause-within
returns-clause-within c = within_then _ _ _ c.add_route.ensures.within c.mark_known.ensures.within

pub returns-clause-covers : goal.returns-clause-covers
returns-clause-covers c = λ all.
    route_covered (λ v. v.items) c.args.self.now c.mark_known.new.dirty c.args.tables.now c.args.session all (within_then _ _ _ c.add_route.ensures.within c.mark_known.ensures.within) c.uses_are_in_range.ensures
    c.args.delta c.change_route.new.tables c.in_ok-changes.ensures.ok _ (c.mark_known.ensures.all all) c.in_ok-changes.ensures.each c.in_ok-changes.ensures.every c.mark_known.ensures.marked

pub returns-in_err-changes-clause-only : goal.returns-in_err-changes-clause-only
returns-in_err-changes-clause-only c =
    route_only (key_of c.args.delta) c.args.tables.now c.change_route.new.tables c.args.self.now c.add_route.new.self (subst (IsMarkedOnly c.args.self.now c.add_route.new.self) c.key_of.ensures c.add_route.ensures.only)

pub returns-clause-only : goal.returns-clause-only
returns-clause-only c =
    let h = c.args.tables.now in
    let g = c.change_route.new.tables in
    only_then _ _ _ c.add_route.new.self _ (route_only (key_of c.args.delta) h g c.args.self.now c.add_route.new.self (subst (IsMarkedOnly c.args.self.now c.add_route.new.self) c.key_of.ensures c.add_route.ensures.only))
    (known_only h g _ _ (λ k e. inr e) (λ a k e. e) (λ v. v.items) c.add_route.new.self c.mark_known.new.dirty _ c.in_ok-changes.ensures.each c.mark_known.ensures.only c.mark_known.ensures.none)
