use Rattle.std.proofs.Common.{◌≡◌, ◌+◌, List, ◌∷◌, max, drop, sym, ◌∙◌, ap, subst, arith}
use Rattle.std.specs.List.{flat_map}
use Rattle.std.proofs.lemmas.List.{at_drop_more, drop_all}
use Rattle.acl_compile.proofs.Bounded.{keeps_bounds}
use Rattle.acl_compile.specs.Bounds.{KeepsBounds}
use Rattle.config_types.specs.declared.config.Config.{Config}
use Rattle.config_types.specs.declared.config.Policy.{Policy}
use Rattle.running_nodes.specs.MachineModel.Setup.{longest_in, longest_of}
use Rattle.transform_model.specs.Uses.{uses_of}
use Rattle.net_machine.proofs.Along.{longest_both}
use Rattle.net_machine.proofs.longest.longest.Goals as goal

pub loop-policy-init : goal.loop-policy-init
loop-policy-init c = record { most = omega arith; few = omega arith }

pub longest_by-requires : goal.longest_by-requires
longest_by-requires c =
    let v = c.config-config.ensures in
    subst KeepsBounds (sym v.part)
    (keeps_bounds c.args.valid.now.topology c.args.valid.now.config v.config_form v.valid)

pub loop-policy-preserved : goal.loop-policy-preserved
loop-policy-preserved c =
    let config = c.config-config.result.now in
    let policies = c.as_slice-policy-items.result.now in
    let i = c.loop-policy.policy-index in
    let policy = c.policy-item.result in
    let here : drop i policies ≡ policy ∷ drop (i + 1) policies =
    at_drop_more (λ ps. ps) policies i policy c.loop-policy-test.true
    ∙ ap (λ p. p ∷ drop (i + 1) policies) (sym c.policy-item.is) in
    let by = c.longest_by.ensures in
    let most = c.max-longest.ensures in
    let before = c.loop-policy.invariant in
    record {
      most = longest_both (uses_of config policy) (flat_map (uses_of config) (drop (i + 1) policies))
          c.loop-policy.longest c.max-longest.result (most ∙ ap (λ n. max n c.loop-policy.longest) by.most)
          ∙ ap (λ (ps : List Policy). max c.loop-policy.longest (longest_of (flat_map (uses_of config) ps))) (sym here)
          ∙ before.most;
      few = omega (arith, most, by.few, before.few);
    }

pub returns-clause-most : goal.returns-clause-most
unfolding longest_in
returns-clause-most c =
    let config = c.config-config.result.now in
    let policies = c.as_slice-policy-items.result.now in
    let none : max c.loop-policy.longest (longest_of (flat_map (uses_of config) (drop c.loop-policy.policy-index policies)))
    ≡ c.loop-policy.longest =
    ap (λ (ps : List Policy). max c.loop-policy.longest (longest_of (flat_map (uses_of config) ps)))
    (drop_all c.loop-policy.policy-index policies c.loop-policy-test.false) ∙ omega arith in
    sym none ∙ c.loop-policy.invariant.most
    ∙ ap (λ (ps : List Policy). longest_of (flat_map (uses_of config) ps)) c.as_slice-policy-items.ensures
    ∙ ap (λ (k : Config). longest_of (flat_map (uses_of k) k.policies)) c.config-config.ensures.part

pub returns-clause-few : goal.returns-clause-few
returns-clause-few c = c.loop-policy.invariant.few
