use Rattle.std.proofs.Common.{◌≡◌, ℕ, List, Option, Some, None, Result, Ok, Err, ap, refl}
use Rattle.std.specs.Prelude.{◌↔◌, IfOk, IfErr, IfSome, IsOkAnd, IsSomeAnd}
use Rattle.bgp_wire.specs.declared.fault.WireFault.{WireFault}
use Rattle.bgp_wire.specs.declared.message.Message.{Message}
use Rattle.bgp_wire.specs.Content.{Content}
use Rattle.bgp_wire.specs.Frames.{IsProperPrefix}
use Rattle.bgp_wire.specs.Messages.{content_of, BeginsWith, HasFault}
use Rattle.bgp_wire.proofs.Readings.{one_message, one_fault, never_message_and_prefix, never_message_and_fault, never_prefix_and_fault}
use Rattle.bgp_wire.proofs.message.read_message.Goals as goal

-- what is read, by its three cases
record IsReading (octets : List ℕ) (r : Result (Option (Message × ℕ)) WireFault) : Type 0 where
  message : IfOk r (λ found. IfSome found (λ x. BeginsWith octets (content_of x.0) x.1))
  none : (r ≡ Ok None) ↔ IsProperPrefix octets
  fault : IfErr r (λ f. HasFault octets f)

finds_message : (octets : List ℕ) (r : Result (Option (Message × ℕ)) WireFault) → IsReading octets r
    → (c : Content) (n : ℕ) → BeginsWith octets c n → IsOkAnd r (λ found. IsSomeAnd found (λ x. (content_of x.0 ≡ c) × (x.1 ≡ n)))
finds_message octets (Ok (Some x)) is c n begins = one_message octets (content_of x.0) c x.1 n is.message begins
finds_message octets (Ok None) is c n begins = absurd (never_message_and_prefix octets c n begins (is.none.0 refl))
finds_message octets (Err f) is c n begins = absurd (never_message_and_fault octets c n f begins is.fault)

finds_fault : (octets : List ℕ) (r : Result (Option (Message × ℕ)) WireFault) → IsReading octets r
    → (f : WireFault) → HasFault octets f → r ≡ Err f
finds_fault octets (Ok (Some x)) is f fault = absurd (never_message_and_fault octets (content_of x.0) x.1 f is.message fault)
finds_fault octets (Ok None) is f fault = absurd (never_prefix_and_fault octets f (is.none.0 refl) fault)
finds_fault octets (Err g) is f fault = ap (λ (h : WireFault). Err h) (one_fault octets g f is.fault fault)

pub returns-clause-every_message : goal.returns-clause-every_message
returns-clause-every_message c =
    finds_message c.args.bytes.now c.read.result (record { message = c.read.ensures.message; none = c.read.ensures.none; fault = c.read.ensures.fault })

pub returns-clause-every_fault : goal.returns-clause-every_fault
returns-clause-every_fault c =
    finds_fault c.args.bytes.now c.read.result (record { message = c.read.ensures.message; none = c.read.ensures.none; fault = c.read.ensures.fault })
