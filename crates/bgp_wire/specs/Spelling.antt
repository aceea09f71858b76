-- The one spelling of what a message says, and what is written.
use Rattle.std.specs.Prelude.{ℕ, List, [], ◌∷◌, ◌++◌, ◌+◌, length, nat_le, if◌then◌else◌}
use Rattle.byteorder.specs.Endian.{big_bytes}
use Rattle.bgp_wire.specs.declared.kind.MessageKind.{MessageKind}
use Rattle.bgp_wire.specs.declared.kind.MessageKind.TheVariants.{Open, Update, Notification, Keepalive}
use Rattle.bgp_wire.specs.declared.write.OpenOut.{OpenOut}
use Rattle.bgp_wire.specs.Content.{OpenFields, UpdateFields, Content, Opens, Updates, Notifies, KeepsAlive}
use Rattle.bgp_wire.specs.Frames.{head}
use Rattle.bgp_wire.specs.Messages.{BeginsWith}
use Rattle.bgp_wire.specs.Opens.{open_octets}
use Rattle.bgp_wire.specs.Parts.{Part}
use Rattle.bgp_wire.specs.Updates.{update_octets}

-- a body in its frame
abbrev pub framed : MessageKind → List ℕ → List ℕ
framed kind body = head (19 + length body) kind ++ body

-- a NOTIFICATION has nothing behind its subcode
abbrev pub spelling : Content → List ℕ
spelling (Opens fields) = framed Open (open_octets fields)
spelling (Updates parts) = framed Update (update_octets parts)
spelling (Notifies code subcode) = framed Notification (code ∷ subcode ∷ [])
spelling KeepsAlive = framed Keepalive []

-- the spelling of a message, whatever follows, is read as that message, and no octet more
abbrev pub IsReadAgain : Content → Type 0
IsReadAgain content = (more : List ℕ) → BeginsWith (spelling content ++ more) content (length (spelling content))

-- the multiprotocol capability of VPN-IPv4 routes: AFI 1 in two octets, a reserved octet, and SAFI 128
-- (RFC 4760, section 8; RFC 4364, section 4.3.4)
abbrev pub vpn_capability : Part
vpn_capability = record { kind = 1; value = 0 ∷ 1 ∷ 0 ∷ 128 ∷ [] }

-- the capability of numbers of four octets: that of the speaker's autonomous system (RFC 6793, section 3)
abbrev pub four_octet_capability : ℕ → Part
four_octet_capability asn = record { kind = 65; value = big_bytes 4 asn }

-- what stands in two octets for a number of four: AS_TRANS (RFC 6793, section 9)
abbrev pub as_trans : ℕ
as_trans = 23456

-- My Autonomous System of a speaker
abbrev pub my_as_of : ℕ → ℕ
my_as_of asn = if nat_le asn 65535 then asn else as_trans

-- what a speaker without timers says of itself: its Hold Time is 0, and one parameter has both capabilities
abbrev pub open_fields : OpenOut → OpenFields
open_fields part = record {
  my_as = my_as_of part.asn;
  hold = 0;
  id = part.id.0;
  parameters = (vpn_capability ∷ four_octet_capability part.asn ∷ []) ∷ [];
}

-- attributes, and no plain routes
abbrev pub attributes_alone : List ℕ → UpdateFields
attributes_alone attributes = record { withdrawn = []; attributes = attributes; routes = [] }
