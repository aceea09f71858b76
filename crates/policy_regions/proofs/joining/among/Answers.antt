use Rattle.std.proofs.Common.{◌≡◌, List, true, ap, sym, ◌∙◌, is_none}
use Rattle.std.specs.List.{list_all}
use Rattle.policy_regions.specs.Joining.{joint_box}
use Rattle.policy_regions.specs.declared.region.DecidedRegion.{DecidedRegion}
use Rattle.policy_regions.proofs.Turns.{stays_behind}
use Rattle.policy_regions.proofs.joining.among.Goals as goal

pub returns-then-stays_apart : goal.returns-then-stays_apart
returns-then-stays_apart c =
    let r = c.args.region.now in
    let list = c.args.others.items in
    let alone : list_all (λ s. is_none (joint_box r s)) list ≡ true =
    ap (λ (l : List DecidedRegion). list_all (λ s. is_none (joint_box r s)) l) (sym c.deref.ensures.value) ∙ sym c.stays_apart.ensures ∙ c.if-stays_apart.true in
    c.in_ok-push.ensures.items ∙ sym (stays_behind r list alone)
