use Rattle.std.proofs.Common.{◌≡◌, drop}
use Rattle.agent_tables.specs.Touched.{is_listed}
use Rattle.agent_tables.proofs.needs.is_among.Given as goal

abbrev pub invariant-loop-other : goal.invariant-loop-other
invariant-loop-other l = is_listed (drop l.other-index l.instances) l.instance ≡ is_listed l.instances l.instance
