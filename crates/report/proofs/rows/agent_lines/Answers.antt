use Rattle.std.proofs.Common.{◌≡◌, ◌++◌, ◌∙◌, subst}
use Rattle.std.specs.Prelude.{OnOk, flat_map}
use Rattle.std.proofs.lemmas.List.{append_assoc}
use Rattle.report.specs.Rows.{agent_acl_lines, agent_label_line, agent_lines, agent_row_line}
use Rattle.report.proofs.rows.agent_lines.Goals as goal

pub returns-clause-ok : goal.returns-clause-ok
returns-clause-ok c =
    let n = c.args.node.now in
    let rows = c.args.rows.now in
    let labels = flat_map (agent_label_line n) rows.labels in
    let acls = flat_map (agent_acl_lines n) rows.acls in
    let routes = flat_map (agent_row_line n) rows.routes in
    let first : c.append_each.new.out ≡ labels =
    c.in_ok-append_each.ensures
    ∙ (λ i. c.new-lines.ensures i ++ flat_map (agent_label_line n) (c.as_slice-labels.ensures i)) in
    let second : c.append_each-2.new.out ≡ labels ++ acls =
    c.in_ok-append_each-2.ensures ∙ (λ i. first i ++ flat_map (agent_acl_lines n) (c.as_slice-acls.ensures i)) in
    let third : c.append_each-3.new.out ≡ (labels ++ acls) ++ routes =
    c.in_ok-append_each-3.ensures ∙ (λ i. second i ++ flat_map (agent_row_line n) (c.as_slice-routes.ensures i)) in
    let all : c.octets.result.now ≡ agent_lines n rows = c.octets.ensures ∙ third ∙ append_assoc labels acls routes in
    subst (λ t. OnOk c.push.result (c.push.new.self ≡ c.args.out.now ++ t)) all c.push.ensures.ok
