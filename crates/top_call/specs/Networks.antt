-- What the commands leave behind and promise.
use Rattle.std.specs.Prelude.{◌≡◌, ℕ, List, ⊤}
use Rattle.std.specs.declared.option.Option.{Option}
use Rattle.std.specs.declared.option.Option.TheVariants.{Some, None}
use Rattle.std.specs.declared.result.Result.{Result}
use Rattle.ov_io.specs.declared.pieces.WriteRefusal.{WriteRefusal}
use Rattle.top_call.specs.ConstraintNetworks.{IsLeftSettled, TookConstraint}
use Rattle.flow_state.specs.Answers.{TookReplies}
use Rattle.decode_answers.specs.LogAnswers.{TookLog}
use Rattle.net_machine.specs.NetState.{NetState}
use Rattle.compile_answers.specs.declared.unfit.Reception.{Reception}
use Rattle.compile_answers.specs.Leaving.{LeftOn, PromisedOn}
use Rattle.top_call.specs.ScenarioAnswers.{IsLeftOfScenario, TookSummary}
use Rattle.top_call.specs.RunNetworks.{IsLeftOf, TookAnswers}
use Rattle.top_call.specs.declared.command.Command.{Command}
use Rattle.top_call.specs.declared.command.Command.TheVariants.{Constrain, Graceful, Flows, Run, Gen}

-- only these three leave a network
abbrev pub Leaves : Command → List ℕ → Option NetState → Type 0
Leaves Constrain octets = IsLeftSettled octets
Leaves Run octets = IsLeftOf octets
Leaves (Gen n) octets = IsLeftOfScenario n
Leaves command octets = λ left. left ≡ None

-- a command that may leave a network
abbrev pub MayLeave : Option Command → Type 0
MayLeave (Some Constrain) = ⊤
MayLeave (Some Run) = ⊤
MayLeave (Some (Gen n)) = ⊤
MayLeave _ = ⊥

-- a command leaves a network only where all was written
abbrev pub LeavesOn : Command → List ℕ → Result Reception WriteRefusal → Option NetState → Type 0
LeavesOn command octets result left = LeftOn (Leaves command octets) result left

abbrev pub Promises : Command → List ℕ → Option (List ℕ) → Option (List ℕ) → Type 0
Promises Constrain octets old new = TookConstraint octets old new
Promises Graceful octets old new = TookLog octets old new
Promises Flows octets old new = TookReplies octets old new
Promises Run octets old new = TookAnswers octets old new
Promises (Gen n) octets old new = TookSummary n old new
Promises command octets old new = ⊤

abbrev pub PromisesOn : Command → List ℕ → Result Reception WriteRefusal → Option (List ℕ) → Option (List ℕ) → Type 0
PromisesOn command octets result old new = PromisedOn (Promises command octets old new) result
