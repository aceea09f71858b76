-- The frame of a message (RFC 4271, sections 4.1 and 6.1).
use Rattle.std.specs.Prelude.{◌≡◌, ◌≤◌, ◌<◌, ◌+◌, ◌==◌, ◌&&◌, ◌||◌, not, nat_lt, nat_le, ℕ, List, [], ◌∷◌, ◌++◌, length}
use Rattle.std.specs.Prelude.{take, drop, replicate, slice_index, Option, Some, None, if◌then◌else◌, ◌⊎◌}
use Rattle.std.specs.List.{list_all}
use Rattle.byteorder.specs.Endian.{big_bytes, big_number}
use Rattle.bgp_wire.specs.declared.fault.WireFault.{WireFault}
use Rattle.bgp_wire.specs.declared.kind.MessageKind.{MessageKind}
use Rattle.bgp_wire.specs.declared.kind.MessageKind.TheVariants.{Open, Update, Notification, Keepalive}
use Rattle.bgp_wire.specs.Faults.{fault_if, ◌then_check◌, not_synchronized, bad_message_length, bad_message_type}

-- the octet of a message's type
abbrev pub octet_of : MessageKind → ℕ
octet_of Open = 1
octet_of Update = 2
octet_of Notification = 3
octet_of Keepalive = 4

-- the type that an octet stands for
abbrev pub kind_of : ℕ → Option MessageKind
kind_of octet =
    if octet == 1 then Some Open
    else (if octet == 2 then Some Update
    else (if octet == 3 then Some Notification
    else (if octet == 4 then Some Keepalive else None)))

-- the least length of a message of each type
abbrev pub least : MessageKind → ℕ
least Open = 29
least Update = 23
least Notification = 21
least Keepalive = 19

-- the greatest length of a message of each type
abbrev pub greatest : MessageKind → ℕ
greatest Open = 4096
greatest Update = 4096
greatest Notification = 4096
greatest Keepalive = 19

-- the nineteen octets before the body: a marker of sixteen octets of ones, the message's length, its type
abbrev pub head : ℕ → MessageKind → List ℕ
head len kind = replicate 16 255 ++ big_bytes 2 len ++ octet_of kind ∷ []

-- a whole frame
pub record IsFrame (octets : List ℕ) (kind : MessageKind) (body : List ℕ) : Type 0 where
  pub spelled : octets ≡ head (19 + length body) kind ++ body
  pub least_length : least kind ≤ 19 + length body
  pub greatest_length : 19 + length body ≤ greatest kind

-- the length that a frame says, and its type
abbrev pub length_at : List ℕ → ℕ
length_at octets = big_number 2 (drop 16 octets)

abbrev pub kind_at : List ℕ → Option MessageKind
kind_at octets = kind_of (slice_index octets 18)

-- the checks on a frame: each looks only at octets that are there
abbrev pub marker_fault : List ℕ → Option WireFault
marker_fault octets = fault_if (not (list_all (λ octet. octet == 255) (take 16 octets))) not_synchronized

abbrev pub length_fault : List ℕ → Option WireFault
length_fault octets =
    fault_if
    (nat_le 18 (length octets) && (nat_lt (length_at octets) 19 || nat_lt 4096 (length_at octets))) bad_message_length

-- a type that is none, or of which no message has this length
abbrev pub kind_fault : Option MessageKind → ℕ → Option WireFault
kind_fault None len = Some bad_message_type
kind_fault (Some kind) len = fault_if (nat_lt len (least kind) || nat_lt (greatest kind) len) bad_message_length

abbrev pub type_fault : List ℕ → Option WireFault
type_fault octets = if nat_le 19 (length octets) then kind_fault (kind_at octets) (length_at octets) else None

-- the first check that fails
abbrev pub frame_fault : List ℕ → Option WireFault
frame_fault octets = marker_fault octets then_check (length_fault octets then_check type_fault octets)

-- octets that pass the checks that they allow, and are fewer than a frame's
pub record IsProperPrefix (octets : List ℕ) : Type 0 where
  pub passes : frame_fault octets ≡ None
  pub short : (length octets < 19) ⊎ (length octets < length_at octets)

-- the head of a frame is there, and says this
pub record IsHeadOf (octets : List ℕ) (kind : MessageKind) (len : ℕ) : Type 0 where
  pub there : 19 ≤ length octets
  pub kind_is : kind_at octets ≡ Some kind
  pub len_is : length_at octets ≡ len
