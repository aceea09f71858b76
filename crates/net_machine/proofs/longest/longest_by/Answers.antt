use Rattle.std.proofs.Common.{◌≡◌, ◌+◌, List, ◌∷◌, max, drop, sym, ◌∙◌, ap, arith}
use Rattle.std.proofs.lemmas.List.{at_drop_more, drop_all}
use Rattle.std.specs.List.{filter_map}
use Rattle.config_types.specs.declared.config.Rule.{Rule}
use Rattle.running_nodes.specs.MachineModel.Setup.{longest_of}
use Rattle.transform_model.specs.Uses.{use_by}
use Rattle.net_machine.proofs.Along.{longest_more}
use Rattle.net_machine.proofs.longest.longest_by.Goals as goal

pub loop-rule-init : goal.loop-rule-init
loop-rule-init c = record { most = omega arith; few = omega arith }

pub loop-rule-preserved : goal.loop-rule-preserved
loop-rule-preserved c =
    let by = λ (r : Rule). use_by c.args.config.now c.args.policy.now r r.action in
    let rules = c.as_slice-rule-items.result.now in
    let i = c.loop-rule.rule-index in
    let rule = c.rule-item.result in
    let here : drop i rules ≡ rule ∷ drop (i + 1) rules =
    at_drop_more (λ rs. rs) rules i rule c.loop-rule-test.true ∙ ap (λ r. r ∷ drop (i + 1) rules) (sym c.rule-item.is) in
    let count = c.services_by.ensures in
    let most = c.max-longest.ensures in
    let before = c.loop-rule.invariant in
    record {
      most = longest_more (by rule) (filter_map by (drop (i + 1) rules)) c.loop-rule.longest c.max-longest.result
          (most ∙ ap (λ n. max n c.loop-rule.longest) count.count)
          ∙ ap (λ (rs : List Rule). max c.loop-rule.longest (longest_of (filter_map by rs))) (sym here) ∙ before.most;
      few = omega (arith, most, count.few, before.few);
    }

pub returns-clause-most : goal.returns-clause-most
returns-clause-most c =
    let by = λ (r : Rule). use_by c.args.config.now c.args.policy.now r r.action in
    let rules = c.as_slice-rule-items.result.now in
    let none : max c.loop-rule.longest (longest_of (filter_map by (drop c.loop-rule.rule-index rules))) ≡ c.loop-rule.longest =
    ap (λ (rs : List Rule). max c.loop-rule.longest (longest_of (filter_map by rs)))
    (drop_all c.loop-rule.rule-index rules c.loop-rule-test.false) ∙ omega arith in
    sym none ∙ c.loop-rule.invariant.most ∙ ap (λ (rs : List Rule). longest_of (filter_map by rs)) c.as_slice-rule-items.ensures

pub returns-clause-few : goal.returns-clause-few
returns-clause-few c = c.loop-rule.invariant.few
