use Rattle.std.proofs.Common.{ap, subst, ◌∙◌, map}
use Rattle.config_check.specs.Checked.{Checked}
use Rattle.running_nodes.specs.Seats.{whos}
use Rattle.running_nodes.specs.MachineModel.Setup.{opening}
use Rattle.running_nodes.specs.Cores.{inners}
use Rattle.running_nodes.specs.Fresh.{IsSetUp, fresh_outer}
use Rattle.running_nodes.proofs.Made.{inners_are, made_few, made_halves, made_seats}
use Rattle.running_nodes.proofs.nodes.with_config.Goals as goal

pub invariant_of-result : goal.invariant_of-result
invariant_of-result c =
    let setup = c.args.config.setup in
    let is = c.valid.ensures.setup in
    let set_up = subst (λ (x : Checked). IsSetUp x.topology) is c.in_ok-add_all.ensures.set_up in
    let edges = c.in_ok-add_all.ensures.edges ∙ ap (λ (x : Checked). map fresh_outer (whos (opening x))) is in (
      made_halves setup (inners c.args.config c.add_all.new.controls.items c.add_all.new.agents.items) c.add_all.new.edges.items set_up
          (inners_are setup c.valid.result.now.topology (ap (λ (x : Checked). x.topology) is) c.args.config c.add_all.new.controls.items c.add_all.new.agents.items c.requires c.in_ok-add_all.ensures.controls c.in_ok-add_all.ensures.agents) edges,
      made_few setup c.add_all.new.edges.items set_up edges,
    )

pub returns-clause-seats : goal.returns-clause-seats
returns-clause-seats c =
    let setup = c.args.config.setup in
    let is = c.valid.ensures.setup in
    made_seats setup (inners c.args.config c.add_all.new.controls.items c.add_all.new.agents.items) c.add_all.new.edges.items
    (inners_are setup c.valid.result.now.topology (ap (λ (x : Checked). x.topology) is) c.args.config c.add_all.new.controls.items c.add_all.new.agents.items c.requires c.in_ok-add_all.ensures.controls c.in_ok-add_all.ensures.agents)
    (c.in_ok-add_all.ensures.edges ∙ ap (λ (x : Checked). map fresh_outer (whos (opening x))) is)
