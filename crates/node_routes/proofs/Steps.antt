-- What octets begin with, taken by a session.
use Rattle.std.proofs.Common.{◌≡◌, ℕ, zero, suc, ◌-◌, ◌<◌, List, [], ◌∷◌, length, take, drop, refl, sym, subst, arith}
use Rattle.std.proofs.Common.{inl, lit<}
use Rattle.std.proofs.lemmas.List.{length-drop}
use Rattle.bgp_wire.specs.declared.fault.WireFault.{WireFault}
use Rattle.bgp_wire.specs.Content.{Content}
use Rattle.bgp_wire.specs.Frames.{IsProperPrefix}
use Rattle.bgp_wire.specs.Messages.{BeginsWith, HasFault}
use Rattle.bgp_wire.proofs.Octets.{range_from}
use Rattle.bgp_wire.proofs.Readings.{never_message_and_prefix, never_prefix_and_fault}
use Rattle.bgp_session.specs.declared.event.SessionEvent.{SessionEvent}
use Rattle.bgp_session.specs.Happenings.{SessionFields, happening_of, after, answer, Takes}
use Rattle.bgp_session.specs.Inputs.{BadFrame}
use Rattle.node_routes.specs.Hearing.{message, fault}
use Rattle.node_routes.specs.Taking.{TakesNext}

nothing_is_prefix : IsProperPrefix []
nothing_is_prefix = record { passes = refl; short = inl (lit< tt) }

some_octets : (octets : List ℕ) (content : Content) (n : ℕ) → BeginsWith octets content n → 0 < n
some_octets octets content zero b =
    absurd (never_message_and_prefix [] content 0 (record { within = omega arith; message = b.message }) nothing_is_prefix)
some_octets octets content (suc n) b = omega arith

pub message_shortens : (octets : List ℕ) (content : Content) (n : ℕ) → BeginsWith octets content n → length (drop n octets) < length octets
message_shortens octets content n b =
    let some = some_octets octets content n b in let within = b.within in omega (arith, length-drop n octets)

pub fault_shortens : (octets : List ℕ) (f : WireFault) → HasFault octets f → 0 < length octets
fault_shortens [] f has = absurd (never_prefix_and_fault [] f nothing_is_prefix has)
fault_shortens (x ∷ xs) f has = omega arith

pub takes_message : (old new : SessionFields) (octets : List ℕ) (content : Content) (n : ℕ) (event : SessionEvent) → BeginsWith octets content n
    → Takes old content new event → TakesNext old octets new event (take (length octets - n) (drop n octets))
takes_message old new octets content n event begins takes =
    let rest : TakesNext old octets new event (drop n octets) = record {
      came = takes.came;
      next = message (record { content = content; length = n; begins = begins; brings = takes.brings; rest_is = refl });
      state = takes.state;
      happens = takes.happens;
      shorter = message_shortens octets content n begins;
    } in subst (TakesNext old octets new event) (sym (range_from n octets)) rest

pub takes_fault : (old new : SessionFields) (octets : List ℕ) (f : WireFault) (event : SessionEvent) → HasFault octets f
    → new ≡ after old (BadFrame f) → happening_of event ≡ answer old (BadFrame f) → TakesNext old octets new event []
takes_fault old new octets f event has state happens = record {
  came = BadFrame f;
  next = fault (record { fault = f; has = has; came_is = refl; rest_is = refl });
  state = state;
  happens = happens;
  shorter = fault_shortens octets f has;
}
