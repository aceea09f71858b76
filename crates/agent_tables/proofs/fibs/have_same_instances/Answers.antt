use Rattle.std.proofs.Common.{◌≡◌, sym, ◌∙◌}
use Rattle.std.specs.Bool.{Decides}
use Rattle.std.proofs.lemmas.Bool.Decides.{Decides-eqb}
use Rattle.std.proofs.lemmas.Slice.Eq.{slice_eq-Decides}
use Rattle.ov_types.specs.contracts.numbers.InstanceIdPartialEq.TheImpl as ids
use Rattle.ov_types.specs.declared.numbers.InstanceId.{InstanceId}
use Rattle.agent_tables.proofs.fibs.have_same_instances.Goals as goal

same : (a b : InstanceId) → Decides (ids.ghosts.eq a b) (a ≡ b)
same a b =
    let d = Decides-eqb a.0 b.0 in
    (λ e. let h = d.0 e in λ i. record { 0 = h i }, λ e. d.1 (λ i. (e i).0))

pub returns : goal.returns
returns c =
    let d = slice_eq-Decides same c.as_slice.result.now c.as_slice-2.result.now c.eq.result c.eq.ensures in
    let here = c.as_slice.ensures.value ∙ c.in_ok-instances_here.ensures in
    let there = c.as_slice-2.ensures.value ∙ c.in_ok-instances_there.ensures in
    ((λ on. sym here ∙ d.0 on ∙ there), (λ e. d.1 (here ∙ e ∙ sym there)))
