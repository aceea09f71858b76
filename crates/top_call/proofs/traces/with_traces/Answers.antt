use Rattle.top_call.proofs.Tracing.{left_form, traced_form, traces_go_on}
use Rattle.top_call.proofs.traces.with_traces.Goals as goal

pub loop-packet-preserved : goal.loop-packet-preserved
loop-packet-preserved c =
    let i = c.loop-packet.invariant in
    let all = c.loop-packet.all.items in
    let packet = c.in-Some.packet in
    let forms = left_form _ packet _ c.in-Some.ensures.steps.0 i.left in
    record {
      all = traces_go_on all _ _ _ packet _ c.in-Some.ensures.steps.0 c.in_ok-push.ensures.items i.all;
      form = traced_form all _ packet c.in_ok-push.ensures.items i.form forms.0;
      left = forms.1;
    }
