-- What a step comes to.
use Rattle.std.specs.Prelude.{ℕ}
use Rattle.std.specs.declared.option.Option.{Option}
use Rattle.std.specs.declared.option.Option.TheVariants.{Some, None}
use Rattle.std.specs.declared.result.Result.{Result}
use Rattle.std.specs.declared.result.Result.TheVariants.{Ok, Err}
use Rattle.ov_link.specs.declared.step.Stepped.{Stepped}
use Rattle.ov_link.specs.declared.step.Stepped.TheVariants.{Done, Closed}
use Rattle.ov_link.specs.declared.step.NodeFault.{NodeFault}
use Rattle.ov_link.specs.declared.step.NodeFault.TheVariants.{LinkFailed, NoMemory}

-- a failed link goes before a cause
abbrev pub answer : {C : Type 0} → Option ℕ → ℕ → Option C → Result (Stepped C) NodeFault
answer (Some s) session cause = Err (LinkFailed s)
answer None session (Some c) = Ok (Closed session c)
answer None session None = Ok Done

-- the session whose link failed
abbrev pub failed_link : {C : Type 0} → Result (Stepped C) NodeFault → Option ℕ
failed_link (Err (LinkFailed s)) = Some s
failed_link (Err NoMemory) = None
failed_link (Ok _) = None
