use Rattle.std.proofs.Common.{◌≡◌, List, ℕ, ap, sym, ◌∙◌, ◌++◌}
use Rattle.ov_types.specs.declared.prefix.Addr.{Addr}
use Rattle.ov_types.specs.declared.targets.Target.{Target}
use Rattle.bgp_vpn.specs.Said.{put_to}
use Rattle.report.specs.Lines.{route_line, targets_text}
use Rattle.decode_answers.proofs.ToldRoutes.{all_told, one_told, put_told}
use Rattle.decode_answers.proofs.decoding.push_puts.Goals as goal

pub loop-route-preserved : goal.loop-route-preserved
loop-route-preserved c =
    let said = c.args.said.now in
    let route = c.in-Some.route in
    let so = c.loop-route.invariant in
    let line : _ ≡ c.loop-route.out ++ route_line route.key said.next_hop route.label (targets_text said.targets) =
    c.in_ok-put_lines_of.ensures.ok
    ∙ ap (λ (a : Addr). c.loop-route.out ++ route_line route.key a route.label (targets_text c.args.known.now)) so.2
    ∙ ap (λ (ts : List Target). c.loop-route.out ++ route_line route.key said.next_hop route.label (targets_text ts)) c.requires in
    let told = line ∙ ap (λ (t : List ℕ). c.loop-route.out ++ t) (sym (put_told said.next_hop said.targets route)) in
    (tt, tt, so.2, one_told (put_to said.next_hop said.targets) _ _ _ _ _ route so.3 c.in-Some.ensures.steps told)

pub returns : goal.returns
returns c = all_told (put_to c.args.said.now.next_hop c.args.said.now.targets) _ _ _ c.loop-route.invariant.3 c.in-None.ensures.steps.0
