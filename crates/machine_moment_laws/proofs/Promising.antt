-- What the definitions of what answers promise say.
use Rattle.std.specs.Prelude.{◌≡◌, ◌≢◌, ◌≤◌, ◌+◌, ℕ, Bool, List, true}
use Rattle.std.specs.List.{AllPairs}
use Rattle.std.proofs.Common.{sym, subst}
use Rattle.ov_types.specs.declared.numbers.PortNo.{PortNo}
use Rattle.ov_types.specs.declared.numbers.ServiceNo.{ServiceNo}
use Rattle.ov_types.specs.declared.packet.Outcome.{Outcome}
use Rattle.ov_types.specs.declared.packet.Outcome.TheVariants.{Delivered}
use Rattle.ov_types.specs.declared.packet.Packet.{Packet}
use Rattle.config_types.specs.declared.event.Event.TheVariants.{Settle, Trace}
use Rattle.config_check.specs.Checked.{Checked}
use Rattle.machine_laws.specs.MachineModel.Network.{MachineState}
use Rattle.machine_laws.specs.MachineModel.Setup.{longest}
use Rattle.machine_laws.specs.MachineModel.Steps.{is_settled}
use Rattle.machine_moment_laws.specs.Compiled.{AnswersCompiled, PassesEachOnce}
use Rattle.machine_moment_laws.specs.Ends.{SettlesAtOnce}
use Rattle.schedule_script.specs.declared.answer.Answer.TheVariants.{Rounds, Traced}

same_outcome : (o u : Outcome) → Traced o ≡ Traced u → o ≡ u
same_outcome o u is = cc

pub passed_once : (y : Checked) (p : Packet) (port : PortNo) (services : List ServiceNo)
    → AnswersCompiled y (Trace p) (Traced (Delivered port services)) → AllPairs (λ s u. s.0 ≢ u.0) services
passed_once y p port services answers =
    subst PassesEachOnce (sym (same_outcome (Delivered port services) _ answers.0)) answers.1

same_rounds : (m n : ℕ) (s t : Bool) → Rounds m s ≡ Rounds n t → m ≡ n
same_rounds m n s t is = cc

same_end : (m n : ℕ) (s t : Bool) → Rounds m s ≡ Rounds n t → s ≡ t
same_end m n s t is = cc

pub few_rounds : (before then : MachineState) (rounds : ℕ) (settled : Bool)
    → SettlesAtOnce before Settle (Rounds rounds settled) then
    → (rounds ≤ longest before.setup + 6) × (settled ≡ true) × (is_settled then ≡ true)
few_rounds before then rounds settled ends = (
  subst (λ n. n ≤ longest before.setup + 6) (sym (same_rounds rounds ends.rounds settled true ends.is)) ends.few,
  same_end rounds ends.rounds settled true ends.is,
  ends.settled,
)
