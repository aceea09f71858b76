-- What `run` leaves and promises where all was written.
use Rattle.std.specs.Prelude.{◌≡◌, List, IsTrue, ℕ}
use Rattle.std.specs.declared.option.Option.{Option}
use Rattle.std.specs.declared.option.Option.TheVariants.{Some}
use Rattle.std.specs.declared.result.Result.TheVariants.{Ok}
use Rattle.std.specs.Io.KnownBytes.{Appends}
use Rattle.std.specs.List.{list_all}
use Rattle.std.proofs.Common.{subst}
use Rattle.config_check.specs.Checked.{Checked}
use Rattle.config_types.specs.Form.{has_event_form}
use Rattle.config_types.specs.declared.event.Event.{Event}
use Rattle.compile_answers.specs.declared.unfit.Reception.TheVariants.{Good}
use Rattle.compile_answers.specs.Leaving.{LeftOn, PromisedOn}
use Rattle.compile_answers.proofs.NothingLeft.{leaves_none, promises_none}
use Rattle.net_machine.specs.MachineLaws.Headline.{IsWritten}
use Rattle.net_machine.specs.NetState.{NetState}
use Rattle.net_machine.specs.Taken.{HasTaken}
use Rattle.net_machine.proofs.MachineMomentLaws.SchedulePlaced.{as_compiled, isolated}
use Rattle.machine_model.specs.Setup.{opening as opening_setup}
use Rattle.net_machine.proofs.MachineMomentLaws.KeptPlaced.{uninterrupted}
use Rattle.net_machine.proofs.MachineMomentLaws.AgainPlaced.{again}
use Rattle.net_machine.proofs.MachineMomentLaws.PermissionPlaced.{permitted}
use Rattle.net_machine.proofs.MachineMomentLaws.RevocationPlaced.{revoked}
use Rattle.top_call.specs.RunNetworks.{AreReadAs, IsLeftOf, TookAnswers, input_of}
use Rattle.top_call.specs.Schedules.{run_text}

-- the network that took the events
pub run_left : (octets : List ℕ) (x : Checked) (es took : List Event) (n : NetState) (left : Option NetState)
    → AreReadAs octets (input_of x es) → took ≡ es → HasTaken x took n → left ≡ Some n
    → LeftOn (IsLeftOf octets) (Ok Good) left
run_left octets x es took n left read same has is = record {
  input = input_of x es;
  read = read;
  net = n;
  is_left = is;
  took = subst (λ es. HasTaken x es n) same has;
}

-- the lines of its answers
pub run_promised : (octets : List ℕ) (old new : Option (List ℕ)) (x : Checked) (es took : List Event)
    → AreReadAs octets (input_of x es) → IsWritten (opening_setup x) → IsTrue (list_all has_event_form es) → took ≡ es
    → Appends old new (run_text x took) → PromisedOn (TookAnswers octets old new) (Ok Good)
run_promised octets old new x es took read valid forms same taken = record {
  input = input_of x es;
  read = read;
  taken = subst (λ es. Appends old new (run_text x es)) same taken;
  compiled = as_compiled x valid es forms;
  isolated = isolated x valid es forms;
  permitted = permitted x valid es forms;
  revoked = revoked x valid es forms;
  uninterrupted = uninterrupted x valid es forms;
  again = again x valid es forms;
}

-- each way in which a run ends
pub ruleset run_ends = (run_left, run_promised, leaves_none, promises_none)
