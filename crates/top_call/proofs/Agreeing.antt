-- In a scenario that is valid each packet has the outcome that policies give.
use Rattle.std.specs.Prelude.{◌≡◌, ◌++◌, [], ◌∷◌, ℕ, ◌+◌, List, map, take, length, true, IsTrue}
use Rattle.std.specs.declared.option.Option.TheVariants.{None}
use Rattle.std.specs.List.{list_all}
use Rattle.std.proofs.Common.{refl, ap, subst, ◌∙◌}
use Rattle.ov_types.specs.declared.packet.Outcome.{Outcome}
use Rattle.ov_types.specs.declared.packet.Packet.{Packet}
use Rattle.config_types.specs.Form.{has_event_form}
use Rattle.config_types.specs.declared.event.Event.{Event}
use Rattle.config_types.specs.declared.event.Event.TheVariants.{Settle, Trace}
use Rattle.config_check.specs.Checked.{Checked}
use Rattle.config_check.specs.Rules.{first_broken}
use Rattle.reach_plain.specs.Reachability.{reachability}
use Rattle.route_targets.specs.Forwarding.{forwarding}
use Rattle.schedule_script.specs.declared.answer.Answer.TheVariants.{Traced}
use Rattle.net_machine.specs.MachineLaws.Refusing.{TiedNetwork, tied_start}
use Rattle.machine_model.specs.Steps.{is_settled}
use Rattle.machine_model.specs.Events.{forwarders, next}
use Rattle.machine_model.specs.Setup.{opening as opening_setup}
use Rattle.net_machine.specs.MachineLaws.Headline.{IsWritten}
use Rattle.net_machine.proofs.MachineMomentLaws.AsCompiled.{forms_of_front}
use Rattle.net_machine.specs.MachineMomentLaws.Runs.{tied_moment}
use Rattle.net_machine.proofs.MachineMomentLaws.TiesKept.{tied_more}
use Rattle.net_machine.proofs.MachineMomentLaws.TiedMoments.{compiled_here, ends_here}
use Rattle.scenario_gen.specs.Scenario.{scenario}
use Rattle.scenario_gen.specs.Schedule.{events, packets}
use Rattle.scenario_gen.proofs.NodeForms.{topology_has_form}
use Rattle.scenario_gen.proofs.WholeForm.{config_has_form, events_have_form}
use Rattle.top_call.specs.declared.tally.Tally.{Tally}
use Rattle.top_call.specs.Agreed.{PacketsAgree}
use Rattle.top_call.specs.Scenarios.{opening}
use Rattle.top_call.specs.Tallies.{nothing, tally, tally_from}
use Rattle.top_call.proofs.Counting.{tally_more, traces_agree}

-- what is written of a scenario
pub scenario_is_written : (n : ℕ) → first_broken (scenario n).topology (scenario n).config ≡ None → IsWritten (opening_setup (opening n))
unfolding scenario
scenario_is_written n valid = record { topology = topology_has_form; config = config_has_form n; valid = valid }

-- none of its events is a trace
none_of_events : (n : ℕ) (s : TiedNetwork) (t : Tally) → (tally_from s (events n) t).agreed ≡ t.agreed
unfolding events next
none_of_events n s t = refl

-- ---- a schedule that ends with a settle
same_outcome_of : (o p : Outcome) → Traced o ≡ Traced p → o ≡ p
same_outcome_of o p e = cc

module _ (x : Checked) (written : IsWritten (opening_setup x)) (es : List Event) (forms : IsTrue (list_all has_event_form es)) where
  -- is settled then
  settled_then : is_settled (tied_moment x (es ++ Settle ∷ [])).network ≡ true
  settled_then =
      ap (λ (s : TiedNetwork). is_settled s.network) (tied_more x es Settle) ∙ (ends_here x written es forms Settle).settled

  -- and once it is settled, packets go as policies say
  delivers_then : is_settled (tied_moment x es).network ≡ true → (p : Packet)
      → forwarding (forwarders (tied_moment x es).network) p ≡ reachability (tied_moment x es).network.setup.config p
  delivers_then settled p = same_outcome_of _ _ (compiled_here x written es forms (Trace p) settled).0

module _ (n : ℕ) (written : IsWritten (opening_setup (opening n))) where
  -- the events of a scenario end with one
  ends : take 4 (events n) ++ Settle ∷ [] ≡ events n
  unfolding events
  ends = refl

  settles : is_settled (tied_moment (opening n) (events n)).network ≡ true
  settles =
      subst (λ (es : List Event). is_settled (tied_moment (opening n) es).network ≡ true) ends
      (settled_then (opening n) written (take 4 (events n)) (forms_of_front 4 (events n) (events_have_form n)))

  pub packets_do : PacketsAgree n
  unfolding scenario tally
  packets_do =
      let s = tied_moment (opening n) (events n) in
      ap (λ (t : Tally). t.agreed) (tally_more (tied_start (opening n)) (events n) (map Trace (packets n)) nothing)
      ∙ traces_agree s (delivers_then (opening n) written (events n) (events_have_form n) settles) (packets n)
      (tally_from (tied_start (opening n)) (events n) nothing)
      ∙ ap (λ k. k + length (packets n)) (none_of_events n (tied_start (opening n)) nothing)

pub packets_agree : (n : ℕ) → first_broken (scenario n).topology (scenario n).config ≡ None → PacketsAgree n
packets_agree n valid = packets_do n (scenario_is_written n valid)
