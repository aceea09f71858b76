use Rattle.std.proofs.Common.{◌≡◌, List, ap, subst, sym, ◌∙◌}
use Rattle.policy_rules.specs.Matching.{deciding, decision}
use Rattle.policy_regions.specs.Claims.{effect_by}
use Rattle.policy_regions.specs.Joining.{joined}
use Rattle.policy_regions.specs.Joined.{regions_between}
use Rattle.policy_regions.specs.Parts.{LiesInOne, AllSay, AllDo}
use Rattle.policy_regions.specs.declared.region.DecidedRegion.{DecidedRegion}
use Rattle.policy_regions.proofs.Boxes.{between_decides, between_does, between_lies}
use Rattle.policy_regions.specs.Touching.{IsJoined}
use Rattle.policy_regions.proofs.Apart.{between_is_joined}
use Rattle.policy_regions.proofs.between.regions_between.Goals as goal

pub returns-clause-partition : goal.returns-clause-partition
returns-clause-partition c = λ t h.
    let e : c.from_vec.result ≡ regions_between c.args.config.now c.args.from.now c.args.to.now = c.from_vec.ensures ∙ c.in_ok-regions.ensures ∙ ap joined c.in_ok-carved.ensures in
    subst (λ (list : List DecidedRegion). LiesInOne t list) (sym e) (between_lies c.args.config.now c.args.from.now c.args.to.now t h)

pub returns-clause-decided : goal.returns-clause-decided
returns-clause-decided c = λ t h.
    let e : c.from_vec.result ≡ regions_between c.args.config.now c.args.from.now c.args.to.now = c.from_vec.ensures ∙ c.in_ok-regions.ensures ∙ ap joined c.in_ok-carved.ensures in
    subst (λ (list : List DecidedRegion). AllSay (decision c.args.config.now c.args.from.now c.args.to.now t) t list) (sym e)
    (between_decides c.args.config.now c.args.from.now c.args.to.now t h)

pub returns-clause-effect : goal.returns-clause-effect
returns-clause-effect c = λ t h.
    let e : c.from_vec.result ≡ regions_between c.args.config.now c.args.from.now c.args.to.now = c.from_vec.ensures ∙ c.in_ok-regions.ensures ∙ ap joined c.in_ok-carved.ensures in
    subst (λ (list : List DecidedRegion). AllDo (effect_by (deciding c.args.config.now c.args.from.now c.args.to.now t)) t list) (sym e)
    (between_does c.args.config.now c.args.from.now c.args.to.now t h)

pub returns-clause-joined : goal.returns-clause-joined
returns-clause-joined c =
    let e : c.from_vec.result ≡ regions_between c.args.config.now c.args.from.now c.args.to.now = c.from_vec.ensures ∙ c.in_ok-regions.ensures ∙ ap joined c.in_ok-carved.ensures in
    subst IsJoined (sym e) (between_is_joined c.args.config.now c.args.from.now c.args.to.now)
