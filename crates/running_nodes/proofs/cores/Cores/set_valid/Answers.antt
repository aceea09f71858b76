use Rattle.std.proofs.Common.{List, ap, sym}
use Rattle.running_nodes.specs.Halves.{Inner, inner}
use Rattle.running_nodes.specs.Cores.{configured}
use Rattle.running_nodes.proofs.Forwarding.{sets_there}
use Rattle.running_nodes.proofs.cores.Cores.set_valid.Goals as goal

pub set_config-requires-clause-same : goal.set_config-requires-clause-same
set_config-requires-clause-same c =
    c.requires.same c.self.inside.config.setup (ap (λ (ns : List Inner). (inner ns 0).who) (sym c.self.view_is))

pub returns-clause-sets : goal.returns-clause-sets
returns-clause-sets c =
    sets_there c.set_config.result (inner c.args.self.now 0) c.self.inside.config (configured c.set_config.new.node) c.args.links.now c.set_config.new.links c.args.valid
    (ap (λ (ns : List Inner). inner ns 0) (sym c.self.view_is)) c.set_config.ensures.sets
