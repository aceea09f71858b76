use Rattle.std.proofs.Common.{◌≡◌, [], ◌∷◌, ◌++◌, refl, sym, ◌∙◌, subst}
use Rattle.std.proofs.lemmas.Result.{err_from_is_err_and}
use Rattle.bgp_wire.specs.Attributes.{fields_of}
use Rattle.bgp_wire.proofs.Checking.{pass_both, fault_if-None}
use Rattle.bgp_vpn.specs.Found.{IsFound}
use Rattle.bgp_vpn.proofs.CheckLemmas.{passed_none, passed_more, cut_ends, fault_ends, all_pass, all_passed, next_fails}
use Rattle.bgp_vpn.proofs.FoundLemmas.{found_more, is_attribute, is_cut}
use Rattle.bgp_vpn.proofs.check.check_attributes.Goals as goal

pub loop-item-init : goal.loop-item-init
loop-item-init c =
    let same : c.args.part.now.attributes.now ≡ c.into_iter-item-iterator.result = cc in
    (tt, tt, ([], passed_none _ _ _ _ refl same, c.nothing-found.ensures))

pub returns-in_err-attribute-clause-checks : goal.returns-in_err-attribute-clause-checks
returns-in_err-attribute-clause-checks c =
    let p = err_from_is_err_and c.from_residual.result c.from_residual.ensures.1 in
    let cut = is_cut _ c.next.new.self c.in-Some.item c.in_err-attribute.field-0.0 c.in-Some.ensures.steps c.in_err-attribute.was in
    rw (p.1, p.2) (cut_ends _ _ _ c.loop-item.invariant.2.0 _ c.loop-item.invariant.2.1.faults cut.0 cut.1)

pub loop-item-preserved : goal.loop-item-preserved
loop-item-preserved c =
    let others = c.loop-item.invariant.2.0 in
    let passed = c.loop-item.invariant.2.1 in
    let a = fields_of c.in_ok-attribute.attribute in
    let begins = is_attribute _ c.next.new.self c.in-Some.item c.in_ok-attribute.attribute c.in-Some.ensures.steps c.in_ok-attribute.was in
    let both = pass_both _ _ c.in_ok-check_next.ensures.checks in
    let once = sym (passed.marks.each _ c.in_ok-check_next.ensures.octet) ∙ fault_if-None _ _ both.0 in
    (tt, tt, (others ++ a ∷ [], passed_more _ _ _ _ others _ a c.in_ok-check_next.ensures.octet passed begins once both.1 _ c.in_ok-check_next.ensures.marked, found_more _ _ others a c.loop-item.invariant.2.2 once c.add.ensures))

pub returns-in_err-check_next-clause-checks : goal.returns-in_err-check_next-clause-checks
returns-in_err-check_next-clause-checks c =
    let p = err_from_is_err_and c.from_residual-in_err-check_next.result c.from_residual-in_err-check_next.ensures.1 in
    let others = c.loop-item.invariant.2.0 in
    let passed = c.loop-item.invariant.2.1 in
    let a = fields_of c.in_ok-attribute.attribute in
    let begins = is_attribute _ c.next.new.self c.in-Some.item c.in_ok-attribute.attribute c.in-Some.ensures.steps c.in_ok-attribute.was in
    let fails = next_fails _ others a (passed.marks.each _ c.in_err-check_next.ensures.octet) ∙ c.in_err-check_next.ensures.checks in
    rw (p.1, p.2) (fault_ends _ _ _ c.next.new.self others a _ passed.faults begins fails)

pub returns-clause-checks : goal.returns-clause-checks
returns-clause-checks c = all_pass _ _ _ c.loop-item.invariant.2.0 c.loop-item.invariant.2.1.faults c.in-None.ensures.steps.0

pub returns-clause-found : goal.returns-clause-found
returns-clause-found c = λ all tail are.
    subst (IsFound c.loop-item.found)
    (all_passed _ _ _ c.loop-item.invariant.2.0 c.loop-item.invariant.2.1.faults c.in-None.ensures.steps.0 all tail are) c.loop-item.invariant.2.2
