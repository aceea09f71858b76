-- What `decode` says of hexadecimal digits.
use Rattle.std.specs.Prelude.{◌≡◌, ◌≢◌, ◌==◌, ◌||◌, not, ℕ, Bool, false, List, [], ◌∷◌, ◌++◌, length, drop, filter, codes}
use Rattle.std.specs.Prelude.{Option, Some, None, ◌⊎◌}
use Rattle.compile_answers.specs.declared.unfit.Reception.{Reception}
use Rattle.compile_answers.specs.declared.unfit.Reception.TheVariants.{Good, NotJson}
use Rattle.std.specs.Result.{result_ok}
use Rattle.hex.specs.Hex.{decode_of}
use Rattle.ov_types.specs.declared.vpn.VpnKey.{VpnKey}
use Rattle.ov_types.specs.declared.vpn.VpnRoute.{VpnRoute}
use Rattle.ov_sync.specs.declared.Delta.{Delta}
use Rattle.ov_sync.specs.declared.Delta.TheVariants.{Put, Drop}
use Rattle.bgp_wire.specs.declared.fault.WireFault.{WireFault}
use Rattle.bgp_wire.specs.Content.{Content, Opens, Updates, Notifies, KeepsAlive, UpdateFields}
use Rattle.bgp_wire.specs.Frames.{IsProperPrefix}
use Rattle.bgp_wire.specs.Messages.{BeginsWith, HasFault}
use Rattle.bgp_wire.specs.Opens.{asn_of, is_wide}
use Rattle.bgp_vpn.specs.Updates.{Changes}
use Rattle.rt_membership.specs.declared.asked.Asked.{Asked}
use Rattle.rt_membership.specs.Memberships.{Asks, HasMembershipFault}
use Rattle.report.specs.Memberships.{membership_line}
use Rattle.report.specs.Lines.{open_line, put_line, drop_line, notification_line, fault_line, incomplete_line}

-- a space, a tab, a line feed or a carriage return
abbrev pub is_blank : ℕ → Bool
is_blank octet = octet == 32 || (octet == 9 || (octet == 10 || octet == 13))

-- the text without its blanks
abbrev pub without_blanks : List ℕ → List ℕ
without_blanks text = filter (λ octet. not (is_blank octet)) text

-- the octets that a text spells, where it is pairs of hexadecimal digits of either case, and blanks anywhere
unfoldable pub spelled : List ℕ → Option (List ℕ)
spelled text = result_ok (decode_of (without_blanks text))

-- the line of one change
abbrev pub change_line : Delta VpnKey VpnRoute → List ℕ
change_line (Put key route) = put_line key route
change_line (Drop key) = drop_line key

-- the lines of changes, in order
abbrev pub change_lines : List (Delta VpnKey VpnRoute) → List ℕ
change_lines [] = []
change_lines (change ∷ changes) = change_line change ++ change_lines changes

-- the lines of changes of what is asked, in order
abbrev pub membership_lines : List (Delta Asked Unit) → List ℕ
membership_lines [] = []
membership_lines (change ∷ changes) = membership_line change ++ membership_lines changes

-- the lines of an UPDATE: that it is one, what it changes of the routes, and then what it changes of what is asked
abbrev pub update_lines : List (Delta VpnKey VpnRoute) → List (Delta Asked Unit) → List ℕ
update_lines changes asks = ((codes "update" ++ (10 ∷ [])) ++ change_lines changes) ++ membership_lines asks

-- what an UPDATE says that passes all checks, those on its routes and that on what it asks
pub record SaysChanges (wide : Bool) (parts : UpdateFields) (text : List ℕ) : Type 0 where
  pub changes : List (Delta VpnKey VpnRoute)
  pub asks : List (Delta Asked Unit)
  pub changed : Changes wide parts changes
  pub asked : Asks wide parts asks
  pub is : text ≡ update_lines changes asks

abbrev pub keepalive_line : List ℕ
keepalive_line = codes "keepalive" ++ (10 ∷ [])

-- a message is an OPEN whose speaker has numbers of four octets
abbrev pub is_wide_open : Content → Bool
is_wide_open (Opens fields) = is_wide fields
is_wide_open (Updates parts) = false
is_wide_open (Notifies code subcode) = false
is_wide_open KeepsAlive = false

-- what is said of a message without a fault, which is read wide or not
abbrev pub Says : Bool → Content → List ℕ → Type 0
Says wide (Opens fields) text = text ≡ open_line (asn_of fields) fields.hold (record { 0 = fields.id })
Says wide (Updates parts) text = SaysChanges wide parts text
Says wide (Notifies code subcode) text = text ≡ notification_line code subcode
Says wide KeepsAlive text = text ≡ keepalive_line

-- the octets begin with a whole UPDATE, and that has this fault: the checks on its routes come before that on what it asks
pub record BeginsWithFaultyUpdate (wide : Bool) (octets : List ℕ) (f : WireFault) : Type 0 where
  pub parts : UpdateFields
  pub count : ℕ
  pub begins : BeginsWith octets (Updates parts) count
  pub faulty : HasMembershipFault wide parts f

-- the text tells of each message that the octets are, in order, up to the first fault or to octets that are not yet a
-- message; they are read wide from the start, or from behind the first wide OPEN
pub data IsReport : Bool → List ℕ → List ℕ → Type 0 where
  of_nothing : {wide : Bool} {octets text : List ℕ} → octets ≡ [] → text ≡ [] → IsReport wide octets text
  of_a_prefix : {wide : Bool} {octets text : List ℕ} → octets ≢ [] → IsProperPrefix octets
      → text ≡ incomplete_line (length octets) → IsReport wide octets text
  of_a_fault : {wide : Bool} {octets text : List ℕ} (f : WireFault)
      → HasFault octets f ⊎ BeginsWithFaultyUpdate wide octets f
      → text ≡ fault_line f.code f.subcode → IsReport wide octets text
  of_a_message : {wide : Bool} {octets text : List ℕ} (said more : List ℕ) (content : Content) (count : ℕ)
      → BeginsWith octets content count → Says wide content said
      → IsReport (wide || is_wide_open content) (drop count octets) more
      → text ≡ said ++ more → IsReport wide octets text

-- what a text is found to be that spells octets, or none
abbrev pub decode_verdict : Option (List ℕ) → Reception
decode_verdict None = NotJson
decode_verdict (Some octets) = Good

-- `decode` writes a report of the octets that a text spells, which begins before any OPEN, and one line where the text
-- spells none
abbrev pub WritesSpelled : Option (List ℕ) → List ℕ → Type 0
WritesSpelled None text = text ≡ codes "not hex" ++ (10 ∷ [])
WritesSpelled (Some octets) text = IsReport false octets text
