use Rattle.schema_transform.specs.Kept.{AreTables}
use Rattle.schema_transform.proofs.kept.kept_tables.Given as goal

abbrev pub invariant-loop-instance : goal.invariant-loop-instance
invariant-loop-instance l = AreTables l.topology l.config l.kept.entries
