-- What `run` leaves behind and promises.
use Rattle.std.specs.Prelude.{◌≡◌, ℕ, List, []}
use Rattle.std.specs.declared.option.Option.{Option}
use Rattle.std.specs.declared.option.Option.TheVariants.{Some}
use Rattle.std.specs.declared.result.Result.TheVariants.{Ok}
use Rattle.std.specs.Io.KnownBytes.{Appends}
use Rattle.config_check.specs.Checked.{Checked}
use Rattle.config_types.specs.declared.event.Event.{Event}
use Rattle.config_model.specs.declared.input.RunInput.{RunInput}
use Rattle.config_model.specs.Event.{run_at}
use Rattle.compile_answers.specs.Answers.{AreDocument}
use Rattle.net_machine.specs.NetState.{NetState}
use Rattle.net_machine.specs.Taken.{HasTaken}
use Rattle.net_machine.specs.MachineMomentLaws.TiedCompiled.{AreAsCompiled}
use Rattle.net_machine.specs.MachineMomentLaws.Isolated.{IsIsolated}
use Rattle.net_machine.specs.MachineMomentLaws.Runs.{answers}
use Rattle.net_machine.specs.MachineMomentLaws.KeptSchedules.{IsKeptThroughout}
use Rattle.net_machine.specs.MachineMomentLaws.AgainSchedules.{IsAgainThroughout}
use Rattle.net_machine.specs.MachineMomentLaws.PermissionSchedules.{IsPermittedThroughout}
use Rattle.net_machine.specs.MachineMomentLaws.RevocationSchedules.{IsRevoked}
use Rattle.top_call.specs.Schedules.{run_text}

-- the opening configuration of an input, with its topology
abbrev pub opening_of : RunInput → Checked
opening_of r = record { topology = r.input.topology; config = r.input.config }

-- an input with this opening configuration and these events
abbrev pub input_of : Checked → List Event → RunInput
input_of x es = record { input = record { topology = x.topology; config = x.config }; events = es }

-- octets that are a document which `run` reads so
abbrev pub AreReadAs : List ℕ → RunInput → Type 0
AreReadAs octets r = AreDocument octets (λ d. run_at [] d ≡ Ok r)

-- the network that `run` leaves of a document
pub record IsLeftOf (octets : List ℕ) (left : Option NetState) : Type 0 where
  pub input : RunInput
  pub read : AreReadAs octets input
  pub net : NetState
  pub is_left : left ≡ Some net
  pub took : HasTaken (opening_of input) input.events net

-- what was taken is the lines of what the events answer. These answers are as compiled at settled moments; at every moment
-- they are isolated, and packets pass only as configurations so far permitted; two rounds after an edit they let nothing
-- through that its policies refuse; while a change goes on they deliver what all its configurations keep; and so many rounds
-- later they deliver it again
pub record TookAnswers (octets : List ℕ) (old new : Option (List ℕ)) : Type 0 where
  pub input : RunInput
  pub read : AreReadAs octets input
  pub taken : Appends old new (run_text (opening_of input) input.events)
  pub compiled : AreAsCompiled (opening_of input) input.events (answers (opening_of input) input.events)
  pub isolated : IsIsolated (opening_of input) input.events (answers (opening_of input) input.events)
  pub permitted : IsPermittedThroughout (opening_of input) input.events (answers (opening_of input) input.events)
  pub revoked : IsRevoked (opening_of input) input.events (answers (opening_of input) input.events)
  pub uninterrupted : IsKeptThroughout (opening_of input) input.events (answers (opening_of input) input.events)
  pub again : IsAgainThroughout (opening_of input) input.events (answers (opening_of input) input.events)
