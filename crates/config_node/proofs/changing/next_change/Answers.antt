use Rattle.std.proofs.Common.{Option, Some, None}
use Rattle.std.specs.Prelude.{IfSome}
use Rattle.config_node.proofs.changing.next_change.Goals as goal

whatever : {A : Type 0} (P : Type 0) (o : Option A) → P → IfSome o (λ x. P)
whatever P None h = tt
whatever P (Some x) h = h

pub returns-in-None-clause-told : goal.returns-in-None-clause-told
returns-in-None-clause-told c = whatever _ c.one_change.result c.in-None.is
