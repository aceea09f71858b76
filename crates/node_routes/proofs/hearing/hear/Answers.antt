use Rattle.std.proofs.Common.{◌∙◌, List, ℕ, [], length, drop, sym, ap, subst}
use Rattle.bgp_session.specs.Happenings.{SessionFields}
use Rattle.node_routes.proofs.Leading.{OutcomeLeaving, no_cause, goes_down, stays_up, ends}
use Rattle.node_model.proofs.OvLink.Ends.{all_dropped, end_is}
use Rattle.node_routes.proofs.Cutting.{end_past, outcome_hears}
use Rattle.node_routes.proofs.Labels.{labels_of}
use Rattle.node_routes.proofs.hearing.hear.Goals as goal

pub returns-then-is_some-clause-left : goal.returns-then-is_some-clause-left
returns-then-is_some-clause-left c =
    subst (λ (left : List ℕ). OutcomeLeaving c.args.me c.args.session.now c.args.bytes.now left c.add.new.heard
    c.take_next.new.session.state c.take_next.new.session.wide)
    (sym (all_dropped c.args.bytes.now))
    (goes_down c.args.me c.args.session.now c.messages.session c.take_next.new.session c.args.bytes.now c.messages.rest.now c.in-Some.after.now
    c.messages.heard c.add.new.heard
    (record {
      leads = c.messages.invariant.leads;
      event = c.in-Some.event;
      takes = rw c.in-Some.is at c.in_ok-event.ensures.next;
      adds = rw c.messages.invariant.asn c.in_ok-add.ensures;
    }) (sym c.if-is_some.ensures))

pub returns-then-is_some-clause-heard : goal.returns-then-is_some-clause-heard
returns-then-is_some-clause-heard c =
    outcome_hears c.args.me c.args.session.now c.args.bytes.now (drop (length c.args.bytes.now) c.args.bytes.now) c.add.new.heard
    c.take_next.new.session.state c.take_next.new.session.wide (returns-then-is_some-clause-left c)

pub returns-then-is_some-clause-labels : goal.returns-then-is_some-clause-labels
returns-then-is_some-clause-labels c =
    labels_of c.args.me c.args.session.now c.args.bytes.now c.add.new.heard _ _ (λ k. (c.type_inv.bytes k).fits)
    (returns-then-is_some-clause-heard c)

pub messages-preserved : goal.messages-preserved
messages-preserved c =
    let takes = rw c.in-Some.is at c.in_ok-event.ensures.next in
    record {
      leads = stays_up c.args.me c.args.session.now c.messages.session c.take_next.new.session c.args.bytes.now c.messages.rest.now c.in-Some.after.now
          c.messages.heard c.add.new.heard
          (record {
            leads = c.messages.invariant.leads;
            event = c.in-Some.event;
            takes = takes;
            adds = rw c.messages.invariant.asn c.in_ok-add.ensures;
          }) (sym c.if-is_some.ensures);
      end = end_past c.messages.session c.args.bytes.now c.messages.rest.now c.in-Some.after.now takes.came c.messages.invariant.end takes.next;
      asn = c.take_next.ensures.asn ∙ c.messages.invariant.asn;
      peer = c.take_next.ensures.peer ∙ c.messages.invariant.peer;
      up = no_cause c.add.new.heard.cause (sym c.if-is_some.ensures);
    }

pub returns-clause-left : goal.returns-clause-left
returns-clause-left c =
    let next = rw c.in_default.is at c.in_ok-event.ensures.next in
    let all = ends c.args.me c.args.session.now c.messages.session c.args.bytes.now c.messages.rest.now c.messages.heard _ _
    c.messages.invariant.leads next.1 c.messages.invariant.up (sym (ap (λ (s : SessionFields). s.state) next.0))
    (sym (ap (λ (s : SessionFields). s.wide) next.0)) in
    subst (λ (left : List ℕ). OutcomeLeaving c.args.me c.args.session.now c.args.bytes.now left c.messages.heard
    c.take_next.new.session.state c.take_next.new.session.wide)
    (sym (end_is c.args.bytes.now c.messages.rest.now c.messages.invariant.end)) all

pub returns-clause-heard : goal.returns-clause-heard
returns-clause-heard c =
    outcome_hears c.args.me c.args.session.now c.args.bytes.now _ c.messages.heard c.take_next.new.session.state
    c.take_next.new.session.wide (returns-clause-left c)

pub returns-clause-labels : goal.returns-clause-labels
returns-clause-labels c =
    labels_of c.args.me c.args.session.now c.args.bytes.now c.messages.heard _ _ (λ k. (c.type_inv.bytes k).fits) (returns-clause-heard c)
