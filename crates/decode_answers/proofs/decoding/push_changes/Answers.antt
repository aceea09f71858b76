use Rattle.std.proofs.Common.{List, map, ap, ◌∙◌, ◌++◌}
use Rattle.bgp_vpn.specs.declared.routes.Labeled.{Labeled}
use Rattle.bgp_vpn.specs.Said.{dropped, put_to}
use Rattle.decode_answers.specs.Decoding.{change_lines}
use Rattle.decode_answers.proofs.ToldRoutes.{both_told, on_ok}
use Rattle.decode_answers.proofs.decoding.push_changes.Goals as goal

pub returns : goal.returns
returns c =
    let said = c.args.said.now in
    let first = c.in_ok-push_drops.ensures ∙ ap (λ (rs : List Labeled). c.args.out.now ++ change_lines (map dropped rs)) c.withdrawn.ensures in
    on_ok c.push_puts.result _ _
    (both_told c.args.out.now c.push_drops.new.out c.push_puts.new.out (map dropped said.withdrawn)
    (map (put_to said.next_hop said.targets) said.announced) first)
    c.push_puts.ensures
