-- The faults of messages (RFC 4271, section 6), and checks made in order.
use Rattle.std.specs.Prelude.{◌≡◌, ℕ, Option, Some, None, Result, Ok, Err, Bool, if◌then◌else◌}
use Rattle.bgp_wire.specs.declared.fault.WireFault.{WireFault}

abbrev pub fault : ℕ → ℕ → WireFault
fault code subcode = record { code = code; subcode = subcode }

-- a message header error: the marker, the length, the type
abbrev pub not_synchronized : WireFault
not_synchronized = fault 1 1

abbrev pub bad_message_length : WireFault
bad_message_length = fault 1 2

abbrev pub bad_message_type : WireFault
bad_message_type = fault 1 3

-- an OPEN message error: of no kind of its own, the version, the identifier, a parameter, the Hold Time
abbrev pub unspecific_open : WireFault
unspecific_open = fault 2 0

abbrev pub unsupported_version : WireFault
unsupported_version = fault 2 1

abbrev pub bad_identifier : WireFault
bad_identifier = fault 2 3

abbrev pub unsupported_parameter : WireFault
unsupported_parameter = fault 2 4

abbrev pub unacceptable_hold_time : WireFault
unacceptable_hold_time = fault 2 6

-- an UPDATE message error: lengths that do not fit
abbrev pub malformed_attributes : WireFault
malformed_attributes = fault 3 1

-- a check: the fault where the test holds
abbrev pub fault_if : Bool → WireFault → Option WireFault
fault_if test f = if test then Some f else None

-- the first fault of two checks
infixr 5 ◌then_check◌
abbrev pub ◌then_check◌ : Option WireFault → Option WireFault → Option WireFault
None then_check later = later
(Some f) then_check later = Some f

-- what a function that checks returned is what the check gives
abbrev pub Checks : {X : Type 0} → Result X WireFault → Option WireFault → Type 0
Checks (Ok _) check = check ≡ None
Checks (Err f) check = check ≡ Some f
