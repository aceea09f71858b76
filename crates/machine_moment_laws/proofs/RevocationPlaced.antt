-- At a place of a schedule a packet that policies refuse is answered as dropped.
use Rattle.std.specs.Prelude.{◌≡◌, ◌++◌, ℕ, zero, suc, List, [], ◌∷◌, drop, map, take, slice_get, true, IsTrue}
use Rattle.std.specs.declared.option.Option.TheVariants.{Some}
use Rattle.std.specs.List.{list_all}
use Rattle.std.proofs.Common.{refl, sym, ap, subst, ◌∙◌}
use Rattle.std.proofs.lemmas.Bool.{true≢false}
use Rattle.std.proofs.lemmas.List.{map-append, take-append-drop}
use Rattle.std.proofs.lemmas.Option.{same_Some}
use Rattle.config_types.specs.Form.{has_event_form}
use Rattle.config_types.specs.declared.event.Event.{Event as Written}
use Rattle.config_types.specs.declared.event.Event.TheVariants as written
use Rattle.schedule_script.specs.ConfigCheck.Checked.{Checked}
use Rattle.schedule_script.specs.declared.tied_answer.TiedAnswer.{TiedAnswer}
use Rattle.machine_model.specs.Setup.{Name, opening}
use Rattle.machine_model.specs.Session.{Message}
use Rattle.machine_model.specs.Network.{MachineState, start}
use Rattle.machine_model.specs.Events.{MachineEvent, Edits, Deliver, DeliverOctets, Lose, Connect, Restart, Round, Settle, Show, Trace, Break, after, event_of}
use Rattle.machine_model.specs.Rounds.{is_unbroken}
use Rattle.machine_laws.specs.Headline.{IsWritten}
use Rattle.machine_laws.specs.Refusing.{TiedNetwork, after_tied, next_tied, tied_start}
use Rattle.machine_moment_laws.specs.RunningNodes.Stands.{message_size}
use Rattle.machine_moment_laws.proofs.RunningNodes.Sizes.{positive}
use Rattle.machine_moment_laws.specs.Runs.{answer_tied, answers, run_tied, tied_moment}
use Rattle.machine_moment_laws.proofs.AsCompiled.{forms_of_front}
use Rattle.machine_moment_laws.proofs.TiesKept.{asked_of_kept, kept, same_moment}
use Rattle.machine_moment_laws.specs.Revocation.{DropsIfRefused, DropsWhatIsRefused, HasTwoRounds, delivers_or_looks}
use Rattle.machine_moment_laws.specs.RevocationSchedules.{IsRevoked, OfTrace, RevokedSoFar}
use Rattle.machine_moment_laws.proofs.Revoked.{refused_packets_are_soon_dropped}

-- ---- the machine that keeps ties
after_more : (size : Name → Message → ℕ) (s : TiedNetwork) (es fs : List MachineEvent) → after_tied size s (es ++ fs) ≡ after_tied size (after_tied size s es) fs
after_more size s [] fs = refl
after_more size s (e ∷ es) fs = after_more size (next_tied size s e) es fs

-- of what only delivers and looks it refuses nothing
none_refused : (size : Name → Message → ℕ) (s : TiedNetwork) (es : List MachineEvent) → list_all delivers_or_looks es ≡ true → (after_tied size s es).network ≡ after size s.network es
none_refused size s [] i = refl
none_refused size s (Deliver a b n ∷ es) i = none_refused size (next_tied size s (Deliver a b n)) es i
none_refused size s (DeliverOctets a b n ∷ es) i = none_refused size (next_tied size s (DeliverOctets a b n)) es i
none_refused size s (Round ∷ es) i = none_refused size (next_tied size s Round) es i
none_refused size s (Show a ∷ es) i = none_refused size (next_tied size s (Show a)) es i
none_refused size s (Trace p ∷ es) i = none_refused size (next_tied size s (Trace p)) es i
none_refused size s (Edits d ∷ es) i = absurd (true≢false (sym i))
none_refused size s (Lose a b ∷ es) i = absurd (true≢false (sym i))
none_refused size s (Connect a b ∷ es) i = absurd (true≢false (sym i))
none_refused size s (Restart a ∷ es) i = absurd (true≢false (sym i))
none_refused size s (Settle ∷ es) i = absurd (true≢false (sym i))
none_refused size s (Break a b n ∷ es) i = absurd (true≢false (sym i))

-- ---- answers
answered_there : (es : List Written) (s : TiedNetwork) (place : ℕ) (e : Written) (a : TiedAnswer) → slice_get es place ≡ Some e → slice_get (run_tied message_size s (map event_of es)) place ≡ Some a
    → a ≡ answer_tied (after_tied message_size s (map event_of (take place es))) (event_of e)
answered_there [] s place e a is answered = absurd cc
answered_there (d ∷ es) s zero e a is answered = sym (same_Some (answer_tied s (event_of d)) a answered) ∙ ap (λ y. answer_tied s (event_of y)) (same_Some d e is)
answered_there (d ∷ es) s (suc place) e a is answered = answered_there es (next_tied message_size s (event_of d)) place e a is answered

of_trace : (s : TiedNetwork) → DropsWhatIsRefused s.network → (e : Written) → OfTrace (DropsIfRefused s.network.setup.config) e (answer_tied s (event_of e))
of_trace s h (written.Trace p) = h p
of_trace s h (written.Edit d) = tt
of_trace s h (written.Deliver from to n) = tt
of_trace s h (written.DeliverOctets from to n) = tt
of_trace s h (written.Lose a b) = tt
of_trace s h (written.Connect a b) = tt
of_trace s h (written.Restart name) = tt
of_trace s h written.Round = tt
of_trace s h written.Settle = tt
of_trace s h (written.Show name) = tt
of_trace s h (written.Break from to n) = tt

module _ (x : Checked) (valid : IsWritten (opening x)) (es : List Written) (forms : IsTrue (list_all has_event_form es)) where
  dropped_here : (since : ℕ) → is_unbroken (tied_moment x (take since es)).network ≡ true → HasTwoRounds (map event_of (drop since es)) → DropsWhatIsRefused (tied_moment x es).network
  dropped_here since unbroken two =
      let before = take since es in
      let then = map event_of (drop since es) in
      let s = tied_moment x before in
      let same : s.network ≡ after message_size (start x) (map event_of (kept x before)) = same_moment x before in
      let dropped : DropsWhatIsRefused (after message_size (after message_size (start x) (map event_of (kept x before))) then) =
      refused_packets_are_soon_dropped message_size positive x valid (map event_of (kept x before)) (asked_of_kept x valid before (forms_of_front since es forms)) (ap is_unbroken (sym same) ∙ unbroken) then two in
      let here : (tied_moment x es).network ≡ after message_size s.network then =
      ap (λ (fs : List Written). (tied_moment x fs).network) (sym (take-append-drop since es))
      ∙ ap (λ (fs : List MachineEvent). (after_tied message_size (tied_start x) fs).network) (map-append event_of before (drop since es))
      ∙ ap (λ (u : TiedNetwork). u.network) (after_more message_size (tied_start x) (map event_of before) then)
      ∙ none_refused message_size s then two.deliveries in
      subst DropsWhatIsRefused (sym (here ∙ ap (λ (w : MachineState). after message_size w then) same)) dropped

  pub revoked_here : (e : Written) → RevokedSoFar x es e (answer_tied (tied_moment x es) (event_of e))
  revoked_here e since unbroken two = of_trace (tied_moment x es) (dropped_here since unbroken two) e

-- ---- every place
pub revoked : (x : Checked) → IsWritten (opening x) → (es : List Written) → IsTrue (list_all has_event_form es) → IsRevoked x es (answers x es)
revoked x valid es forms place e a at =
    subst (RevokedSoFar x (take place es) e) (sym (answered_there es (tied_start x) place e a at.event at.answer))
    (revoked_here x valid (take place es) (forms_of_front place es forms) e)
