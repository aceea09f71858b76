use Rattle.std.proofs.Common.{◌<◌, ap, ◌∙◌, length, arith}
use Rattle.std.proofs.lemmas.List.{length-drop}
use Rattle.ov_link.specs.FailingState.{FailingState}
use Rattle.running_nodes.proofs.InFlight.{one_fewer_left, one_more_taken}
use Rattle.running_nodes.proofs.octets.take_octets.Goals as goal

pub loop-message-preserved : goal.loop-message-preserved
loop-message-preserved c =
    let was = c.loop-message in
    let some : 0 < length was.link.accepted = omega (arith, was.invariant.many, c.len-message-end.ensures) in
    let goes = ap (λ (l : FailingState). l.accepted) c.pop.ensures.rest in
    record {
      octets = one_more_taken was.link.accepted c.pop.new.self.accepted was.octets.items c.push_rest.new.octets.items c.front-size.result.now was.skip was.n c.saturating_sub-skip.result c.saturating_sub-left.result
          c.front-size.ensures c.saturating_sub-left.ensures c.saturating_sub-skip.ensures goes c.in_ok-push_rest.ensures some c.if-n-left.false _ was.invariant.octets;
      rest = one_fewer_left was.link.accepted c.pop.new.self.accepted was.octets.items c.push_rest.new.octets.items c.front-size.result.now was.skip was.n c.saturating_sub-skip.result c.saturating_sub-left.result
          c.front-size.ensures c.saturating_sub-left.ensures c.saturating_sub-skip.ensures goes c.in_ok-push_rest.ensures some c.if-n-left.false _ was.invariant.rest;
      breaks = ap (λ (l : FailingState). l.breaks) c.pop.ensures.rest ∙ was.invariant.breaks;
      many = omega (arith, was.invariant.many, some, ap length goes, length-drop 1 was.link.accepted);
    }
