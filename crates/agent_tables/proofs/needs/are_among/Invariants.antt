use Rattle.std.proofs.Common.{◌≡◌, drop}
use Rattle.std.specs.List.{list_all}
use Rattle.agent_tables.specs.Touched.{is_listed}
use Rattle.agent_tables.proofs.needs.are_among.Given as goal

abbrev pub invariant-loop-instance : goal.invariant-loop-instance
invariant-loop-instance l =
    list_all (λ i. is_listed l.others i) (drop l.instance-index l.instances)
    ≡ list_all (λ i. is_listed l.others i) l.instances
