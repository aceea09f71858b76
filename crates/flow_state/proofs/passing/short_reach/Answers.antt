use Rattle.std.proofs.Common.{subst, sym}
use Rattle.ov_types.specs.declared.packet.Outcome.{Outcome}
use Rattle.flow_state.specs.Flows.{IsShort}
use Rattle.flow_state.proofs.Short.{reach_is_short}
use Rattle.flow_state.proofs.passing.short_reach.Goals as goal

pub returns-clause-short : goal.returns-clause-short
returns-clause-short c =
    subst (λ (o : Outcome). IsShort o) (sym c.reach.ensures)
    (reach_is_short c.args.valid.now.topology c.args.valid.now.config c.args.packet c.config-config.ensures.valid)
