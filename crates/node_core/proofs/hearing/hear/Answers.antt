use Rattle.std.proofs.Common.{IsTrue, ℕ, List, drop, ◌∙◌, ap, sym, subst}
use Rattle.std.specs.List.{AllByRecursion}
use Rattle.item_wire.specs.Happenings.{SessionFields}
use Rattle.item_wire.specs.Inputs.{may_send}
use Rattle.item_wire.specs.declared.event.ItemFrom.{ItemFrom}
use Rattle.item_wire.specs.declared.item.Item.{Item}
use Rattle.node_core.specs.Told.{IsWritable}
use Rattle.node_core.specs.Hearing.{records_in}
use Rattle.node_core.specs.Left.{Leaves}
use Rattle.ov_link.proofs.Ends.{IsEnd, all_dropped, end_on, end_is}
use Rattle.node_core.proofs.Cutting.{leaving_hears}
use Rattle.node_core.proofs.Hearings.{LeadsFrom, all_append, leads_past, leads_to_end, leads_to_down}
use Rattle.node_core.proofs.hearing.hear.Goals as goal

pub returns-in-Some-2-clause-left : goal.returns-in-Some-2-clause-left
returns-in-Some-2-clause-left c =
    let brings = rw c.in-Some.is at c.in_ok-event.ensures.brings in
    let d = leads_to_down c.args.session.now c.args.bytes.now c.hearing.records.items c.hearing.session c.hearing.rest.now c.take_record.new.session
    c.in-Some.event c.in-Some.size c.in-Some-2.cause c.hearing.invariant.leads brings (sym c.in_ok-cause.ensures.cause ∙ c.in-Some-2.is) in
    (d.0, subst (Leaves c.args.session.now c.args.bytes.now d.0) (sym (all_dropped c.args.bytes.now)) d.1, c.in_ok-cause.ensures.records ∙ d.2, d.3, d.4)

pub returns-in-Some-2-clause-heard : goal.returns-in-Some-2-clause-heard
returns-in-Some-2-clause-heard c =
    let d = returns-in-Some-2-clause-left c in
    (d.0, leaving_hears c.args.session.now c.args.bytes.now d.0 _ d.1, d.2, d.3, d.4)

pub hearing-preserved : goal.hearing-preserved
hearing-preserved c =
    let brings = rw c.in-Some.is at c.in_ok-event.ensures.brings in
    let leads = leads_past c.args.session.now c.args.bytes.now c.hearing.records.items c.hearing.session c.hearing.rest.now c.take_record.new.session
    c.in-Some.event c.in-Some.size c.hearing.invariant.leads brings (sym c.in_ok-cause.ensures.cause ∙ c.in_default-2.is) in
    let sent = rw c.in-Some.is at c.in_ok-event.ensures.sent in
    let sent' : AllByRecursion (λ i. IsTrue (may_send c.args.session.now.from i)) (records_in c.in-Some.event) =
    subst (λ (from : ItemFrom). AllByRecursion (λ i. IsTrue (may_send from i)) (records_in c.in-Some.event)) c.hearing.invariant.from sent in
    let writable = rw c.in-Some.is at c.in_ok-event.ensures.writable in
    let kept = sym c.in_ok-cause.ensures.records in
    record {
      end = subst (IsEnd c.args.bytes.now) (sym c.past-rest.ensures) (end_on c.args.bytes.now c.hearing.rest.now c.in-Some.size c.hearing.invariant.end (rw c.in-Some.is at c.in_ok-event.ensures.within));
      leads = subst (λ (rest : List ℕ). LeadsFrom c.args.session.now c.args.bytes.now c.keep.new.records.items c.take_record.new.session rest) (sym c.past-rest.ensures)
          (subst (λ (records : List Item). LeadsFrom c.args.session.now c.args.bytes.now records c.take_record.new.session (drop c.in-Some.size c.hearing.rest.now)) kept leads);
      peer = c.in_ok-event.ensures.peer ∙ c.hearing.invariant.peer;
      from = c.in_ok-event.ensures.from ∙ c.hearing.invariant.from;
      sent = subst (AllByRecursion (λ i. IsTrue (may_send c.args.session.now.from i))) kept (all_append _ _ _ c.hearing.invariant.sent sent');
      writable = subst (AllByRecursion IsWritable) kept (all_append IsWritable _ _ c.hearing.invariant.writable writable);
    }

pub returns-clause-left : goal.returns-clause-left
returns-clause-left c =
    let brings = rw c.in_default.is at c.in_ok-event.ensures.brings in
    let e = leads_to_end c.args.session.now c.args.bytes.now c.hearing.records.items c.hearing.session c.hearing.rest.now c.hearing.invariant.leads brings.0 in
    let left = sym (end_is c.args.bytes.now c.hearing.rest.now c.hearing.invariant.end) in
    (e.0, subst (Leaves c.args.session.now c.args.bytes.now e.0) left e.1, e.2, e.3, ap (λ (s : SessionFields). s.state) brings.1 ∙ e.4)

pub returns-clause-heard : goal.returns-clause-heard
returns-clause-heard c =
    let e = returns-clause-left c in
    (e.0, leaving_hears c.args.session.now c.args.bytes.now e.0 _ e.1, e.2, e.3, e.4)
