-- What is taken away is gone after two rounds: the slices that agents use, and what becomes of packets.
use Rattle.std.specs.Prelude.{◌≡◌, ℕ, ◌≤◌, ◌++◌, length, true}
use Rattle.std.specs.List.{filter}
use Rattle.std.proofs.Common.{ap, subst, sym, ◌∙◌}
use Rattle.machine_model.specs.Setup.{opening}
use Rattle.machine_model.specs.Network.{MachineState, start}
use Rattle.machine_model.specs.Events.{after}
use Rattle.machine_model.specs.Rounds.{after_rounds, is_delivery, is_unbroken}
use Rattle.machine_model.specs.Moments.{EditsAreValid, LaidOut, WhereLaidOut}
use Rattle.machine_laws.specs.Headline.{AfterAnySchedule, IsOfForm}
use Rattle.machine_laws.specs.Setups.{IsSoundSetup}
use Rattle.machine_laws.proofs.EachFact.{edits_valid}
use Rattle.machine_laws.proofs.Final.{laid_out}
use Rattle.machine_laws.proofs.Written.{all_sound, sound_setup, written_now}
use Rattle.machine_moment_laws.specs.Revocation.{AllGoByPresent, DropsWhatIsRefused, RefusesInTwo, RefusesSoonAfter, RevokesInTwo, SlicesInTwo}
use Rattle.machine_moment_laws.proofs.RevocationInUse.{slices_in_use}
use Rattle.machine_moment_laws.proofs.Dropped.{drops_what_is_refused}
use Rattle.machine_moment_laws.proofs.RoundsAsOne.{after_append, after_flat, all_deliver, append_valid, are_rounds, before_deliver, before_rounds, flat, flat_deliveries, from_rounds, only_deliveries, parts_are, rounds_counted, rounds_kept}
use Rattle.machine_moment_laws.proofs.Feeds.{unbroken_after}
use Rattle.machine_moment_laws.proofs.SlicesTold.{slices_are_told}
use Rattle.machine_moment_laws.proofs.TwoRounds.{slices_are_held}

pub present_slices_are_held : WhereLaidOut SlicesInTwo
present_slices_are_held = slices_are_held slices_are_told

pub present_slices_are_used : WhereLaidOut RevokesInTwo
present_slices_are_used = slices_in_use present_slices_are_held

pub refused_packets_are_dropped : AfterAnySchedule RefusesInTwo
refused_packets_are_dropped size positive x written es asked rounds unbroken many r =
    let now = after size (start x) es in
    let fs = es ++ flat rounds in
    let v = after size (start x) fs in
    let same : after_rounds size now rounds ≡ v = after_flat size now rounds ∙ sym (after_append size (start x) es (flat rounds)) in
    let valid : EditsAreValid size IsOfForm (start x) fs = append_valid size IsOfForm (start x) es (flat rounds) asked (flat_deliveries size now rounds r) in
    let laid : EditsAreValid size LaidOut (start x) es = edits_valid size IsSoundSetup LaidOut laid_out (start x) es (all_sound size positive x written es asked) in
    let goes : AllGoByPresent (after_rounds size now rounds) = present_slices_are_used size positive x (laid_out (opening x) (sound_setup (opening x) written)) es laid rounds unbroken many r in
    subst DropsWhatIsRefused (sym same) (drops_what_is_refused v (written_now size positive x written fs valid) (subst AllGoByPresent same goes))

pub refused_packets_are_soon_dropped : AfterAnySchedule RefusesSoonAfter
refused_packets_are_soon_dropped size positive x written es asked unbroken fs two =
    let now = after size (start x) es in
    let ds = filter is_delivery fs in
    let first = before_rounds ds in
    let rounds = from_rounds ds in
    let v = after size (start x) (es ++ first) in
    let all = all_deliver fs in
    let laid : EditsAreValid size LaidOut (start x) es = edits_valid size IsSoundSetup LaidOut laid_out (start x) es (all_sound size positive x written es asked) in
    let here : v ≡ after size now first = after_append size (start x) es first in
    let still : is_unbroken v ≡ true = ap is_unbroken here ∙ unbroken_after size positive x (laid_out (opening x) (sound_setup (opening x) written)) es laid unbroken first (before_deliver ds all) in
    let many : 2 ≤ length rounds = subst (λ (n : ℕ). 2 ≤ n) (sym (rounds_counted ds ∙ rounds_kept fs)) two.rounds in
    let dropped : DropsWhatIsRefused (after_rounds size v rounds) =
    refused_packets_are_dropped size positive x written (es ++ first) (append_valid size IsOfForm (start x) es first asked (before_deliver ds all)) rounds still many (are_rounds size v ds all) in
    subst DropsWhatIsRefused
    (after_flat size v rounds
    ∙ ap (λ (u : MachineState). after size u (flat rounds)) here
    ∙ sym (after_append size now first (flat rounds))
    ∙ ap (after size now) (parts_are ds)
    ∙ sym (only_deliveries size now fs two.deliveries)) dropped
