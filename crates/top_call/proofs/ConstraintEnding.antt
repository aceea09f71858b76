-- What `constrain` leaves and promises where all was written.
use Rattle.std.specs.Prelude.{◌≡◌, ◌≢◌, ℕ, List, [], ◌∷◌, true, IfOk}
use Rattle.std.specs.declared.option.Option.{Option}
use Rattle.std.specs.declared.option.Option.TheVariants.{Some}
use Rattle.std.specs.declared.result.Result.{Result}
use Rattle.std.specs.declared.result.Result.TheVariants.{Ok, Err}
use Rattle.std.specs.Io.KnownBytes.{Appends}
use Rattle.config_check.specs.Checked.{Checked}
use Rattle.compile_answers.specs.Answers.{AreReadAs, input_of}
use Rattle.compile_answers.specs.declared.unfit.Reception.{Reception}
use Rattle.compile_answers.specs.declared.unfit.Reception.TheVariants.{Good}
use Rattle.ov_io.specs.declared.pieces.WriteRefusal.{WriteRefusal}
use Rattle.net_machine.specs.MachineLaws.Headline.{IsWritten}
use Rattle.net_machine.proofs.MachineLaws.Written.{written_settle_settles}
use Rattle.machine_model.specs.Events.{Settle, next}
use Rattle.machine_model.specs.Setup.{opening}
use Rattle.machine_model.specs.Steps.{is_settled}
use Rattle.net_machine.specs.NetState.{NetState}
use Rattle.net_machine.specs.RunningNodes.Stands.{message_size, moment}
use Rattle.net_machine.proofs.RunningNodes.Sizes.{positive}
use Rattle.net_machine.proofs.RunningLaws.HeardAtRest.{all_hear}
use Rattle.net_machine.specs.RunningLaws.Moments.{IsMoment}
use Rattle.net_machine.proofs.RunningLaws.Moments.{moment_of}
use Rattle.top_call.specs.Constraint.{constrain_text, settling}
use Rattle.top_call.specs.ConstraintNetworks.{HasSettled, IsLeftSettled, NoneNeedsMore, TookConstraint}

-- the state after one settling
once : (x : Checked) → IsWritten (opening x) → IsMoment (moment x settling)
once x written = moment_of x written (Settle ∷ []) (tt, tt)

settled_once : (x : Checked) → IsWritten (opening x) → is_settled (moment x settling) ≡ true
unfolding next
settled_once x written = (written_settle_settles message_size positive x written [] tt).0

-- the network that has settled
pub left_settled : (octets : List ℕ) (x : Checked) (n : NetState) (left : Option NetState)
    → AreReadAs octets (input_of x) → HasSettled x n → left ≡ Some n → IsLeftSettled octets left
left_settled octets x n left read has is = record { input = input_of x; read = read; net = n; is_left = is; settled = has }

-- what was written of it
pub constraint_promised : (octets : List ℕ) (old new : Option (List ℕ)) (x : Checked) → AreReadAs octets (input_of x)
    → IsWritten (opening x) → Appends old new (constrain_text x) → NoneNeedsMore (moment x settling)
    → TookConstraint octets old new
constraint_promised octets old new x read written taken enough = record {
  input = input_of x;
  read = read;
  taken = taken;
  settled = settled_once x written;
  heard = all_hear (moment x settling) (once x written) (settled_once x written);
  enough = enough;
}

-- what is not fit is not good
pub not_good : (r : Result Reception WriteRefusal) → IfOk r (λ v. v ≢ Good) → r ≡ Ok Good → ⊥
not_good (Ok v) unfit is = unfit cc
not_good (Err e) unfit is = cc

-- each way in which it ends
pub ruleset constrain_ends = (left_settled, constraint_promised, not_good)
