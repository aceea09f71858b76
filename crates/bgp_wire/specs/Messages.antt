-- Messages: which octets are one, and what is wrong with octets that begin with none.
use Rattle.std.specs.Prelude.{◌≡◌, ◌≤◌, ◌<◌, ℕ, List, [], ◌∷◌, ◌++◌, length, take, slice_index, Some, MatchOption}
use Rattle.bgp_wire.specs.declared.fault.WireFault.{WireFault}
use Rattle.bgp_wire.specs.declared.kind.MessageKind.{MessageKind}
use Rattle.bgp_wire.specs.declared.kind.MessageKind.TheVariants.{Open, Update, Notification, Keepalive}
use Rattle.bgp_wire.specs.declared.message.Message.{Message}
use Rattle.bgp_wire.specs.declared.message.Message.TheVariants as messages
use Rattle.bgp_wire.specs.Content.{Content, Opens, Updates, Notifies, KeepsAlive}
use Rattle.bgp_wire.specs.Opens.{IsOpen, HasOpenFault}
use Rattle.bgp_wire.specs.Updates.{IsUpdate, update_fault}
use Rattle.bgp_wire.specs.Frames.{IsFrame, frame_fault}

-- what a message says
abbrev pub content_of : Message → Content
content_of (messages.Hello fields) = Opens fields
content_of (messages.Update parts) =
    Updates (record { withdrawn = parts.withdrawn.now; attributes = parts.attributes.now; routes = parts.routes.now })
content_of (messages.Notification code subcode) = Notifies code subcode
content_of messages.Keepalive = KeepsAlive

-- a NOTIFICATION: a code, a subcode, and further octets that are passed over (RFC 4271, section 4.5)
abbrev pub IsNotification : List ℕ → ℕ → ℕ → Type 0
IsNotification body code subcode = (further : List ℕ) × (body ≡ code ∷ subcode ∷ further)

-- the body of a message that says this
abbrev pub IsBody : MessageKind → List ℕ → Content → Type 0
IsBody kind body (Opens fields) = (kind ≡ Open) × IsOpen body fields
IsBody kind body (Updates parts) = (kind ≡ Update) × IsUpdate body parts
IsBody kind body (Notifies code subcode) = (kind ≡ Notification) × IsNotification body code subcode
IsBody kind body KeepsAlive = (kind ≡ Keepalive) × (body ≡ [])

-- the octets of a message that says this
pub record IsMessage (octets : List ℕ) (content : Content) : Type 0 where
  pub kind : MessageKind
  pub body : List ℕ
  pub frame : IsFrame octets kind body
  pub says : IsBody kind body content

-- the first n octets are a message that says this
pub record BeginsWith (octets : List ℕ) (content : Content) (n : ℕ) : Type 0 where
  pub within : n ≤ length octets
  pub message : IsMessage (take n octets) content

-- the first check on a body that fails
abbrev pub HasBodyFault : MessageKind → List ℕ → WireFault → Type 0
HasBodyFault Open body f = HasOpenFault body f
HasBodyFault Update body f = update_fault body ≡ Some f
HasBodyFault Notification body f = ⊥
HasBodyFault Keepalive body f = ⊥

-- a whole frame, and a body with this fault
pub record HasFaultyBody (octets : List ℕ) (f : WireFault) : Type 0 where
  pub kind : MessageKind
  pub body : List ℕ
  pub frame : List ℕ
  pub more : List ℕ
  pub spelled : octets ≡ frame ++ more
  pub whole : IsFrame frame kind body
  pub faulty : HasBodyFault kind body f

-- the first check that fails: those on the frame come first, those on the body only once the frame is whole
abbrev pub HasFault : List ℕ → WireFault → Type 0
HasFault octets f = MatchOption (frame_fault octets) (HasFaultyBody octets f) (λ first. first ≡ f)

-- octets, each below 256
abbrev pub AreOctets : List ℕ → Type 0
AreOctets octets = (k : ℕ) → slice_index octets k < 256
