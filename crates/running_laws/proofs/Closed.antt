-- What stands at an end that is not live, and which sessions may be connected.
use Rattle.std.specs.Prelude.{◌≡◌, ◌&&◌, length, not, false}
use Rattle.std.proofs.lemmas.List.{nil_from_length}
use Rattle.std.proofs.Common.{ap, inl, inr, sym, ◌∙◌}
use Rattle.machine_laws.specs.MachineModel.Session.{Session, is_idle, is_live, is_peering}
use Rattle.machine_laws.specs.MachineModel.Steps.{may_connect}
use Rattle.machine_laws.proofs.MachineModel.SessionFact.{Fact, live_receiver}
use Rattle.running_nodes.specs.Stands.{message_size}
use Rattle.running_laws.specs.Asking.{ClosedSessionsMayConnect, NothingWaitsAtClosedEnds}
use Rattle.running_laws.proofs.Asked.{places_say}
use Rattle.running_laws.proofs.AtMoments.{closed_down, found_sound}
use Rattle.running_laws.proofs.Facts.{Facts}

pub nothing_waits_at_closed_ends : Facts → NothingWaitsAtClosedEnds
nothing_waits_at_closed_ends facts seats w moment stands a b p far are closed =
    let said = places_say facts seats w moment stands.seats_are a b p far are in
    let s = said.0 in
    let is_closed : is_live s.near ≡ false = sym said.2.live ∙ closed in
    let down = closed_down s (found_sound w moment a b s said.1) is_closed in (
      said.2.notice ∙ down.near.notice ∙ is_closed,
      nil_from_length _ (said.3.sent ∙ ap length down.far.flight),
      nil_from_length _ (said.2.sent ∙ ap length down.near.flight),
    )

-- by what holds of each session
connects_where : (s : Session) → Fact message_size s → may_connect s ≡ (not (is_live s.near) && not (is_live s.far))
connects_where s (inl j) =
    let near : is_idle s.near.phase ≡ false = live_receiver (is_peering s) s.near.phase s.far.phase j.inward.phases in
    ap (λ b. b && (not s.near.notice && not s.far.notice)) j.whole
    ∙ sym (ap (λ b. not (not b) && not (is_live s.far)) near)
connects_where s (inr d) = λ i. d.down i && (not (d.near.notice i) && not (d.far.notice i))

pub closed_sessions_may_connect : Facts → ClosedSessionsMayConnect
closed_sessions_may_connect facts seats w moment stands a b p far are =
    let said = places_say facts seats w moment stands.seats_are a b p far are in
    said.2.may_connect ∙ connects_where said.0 (found_sound w moment a b said.0 said.1)
    ∙ (λ i. not (sym said.2.live i) && not (sym said.3.live i))
