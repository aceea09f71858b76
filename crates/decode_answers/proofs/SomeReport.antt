-- Octets have a report.
use Rattle.std.proofs.Common.{◌||◌, Bool, false, ◌≢◌, ◌≤◌, ◌+◌, ℕ, zero, suc, List, [], ◌∷◌, ◌++◌, length, take, drop, refl, subst, arith, ◌⊎◌, inl, inr}
use Rattle.byteorder.specs.Endian.{big_bytes}
use Rattle.bgp_wire.specs.declared.fault.WireFault.{WireFault}
use Rattle.bgp_wire.specs.Content.{Content, Opens, Updates, Notifies, KeepsAlive, UpdateFields}
use Rattle.bgp_wire.specs.Frames.{IsProperPrefix, head}
use Rattle.bgp_wire.specs.Messages.{AreOctets, BeginsWith, HasFault}
use Rattle.bgp_wire.proofs.Octets.{AreOctets-drop, AreOctets-take}
use Rattle.bgp_wire.proofs.Readings as readings
use Rattle.bgp_vpn.proofs.UpdateLemmas as updates
use Rattle.rt_membership.specs.Memberships.{HasMembershipFault}
use Rattle.rt_membership.proofs.Grammar as memberships
use Rattle.rt_membership.proofs.Reading.{fails}
use Rattle.report.specs.Lines.{fault_line, incomplete_line}
use Rattle.decode_answers.specs.Decoding.{is_wide_open, Says, SaysChanges, update_lines, IsReport, of_nothing, of_a_prefix, of_a_fault, of_a_message}
use Rattle.decode_answers.proofs.Reports.{fewer_left}
use Rattle.bgp_vpn.proofs.LabelLemmas.{AreOctets-front, AreOctets-back}

-- a text that is a report of the octets
abbrev pub HasReport : Bool → List ℕ → Type 0
HasReport wide octets = (text : List ℕ) × IsReport wide octets text

-- the attributes of an UPDATE are octets
attribute_octets : (octets : List ℕ) (parts : UpdateFields) (count : ℕ) → AreOctets octets → BeginsWith octets (Updates parts) count
    → AreOctets parts.attributes
attribute_octets octets parts count h begins =
    let frame = begins.message.frame in
    let body = begins.message.body in
    let taken : AreOctets (take count octets) = AreOctets-take count octets h in
    let whole : AreOctets (head (19 + length body) begins.message.kind ++ body) = subst AreOctets frame.spelled taken in
    let within : AreOctets body = AreOctets-back (head (19 + length body) begins.message.kind) body whole in
    let spelled = begins.message.says.1.spelled in
    let parted : AreOctets (big_bytes 2 (length parts.withdrawn) ++ parts.withdrawn
    ++ (big_bytes 2 (length parts.attributes) ++ parts.attributes ++ parts.routes)) = subst AreOctets spelled within in
    let behind : AreOctets (big_bytes 2 (length parts.attributes) ++ parts.attributes ++ parts.routes) =
    AreOctets-back (big_bytes 2 (length parts.withdrawn) ++ parts.withdrawn) (big_bytes 2 (length parts.attributes) ++ parts.attributes ++ parts.routes) parted in
    AreOctets-back (big_bytes 2 (length parts.attributes)) parts.attributes
    (AreOctets-front (big_bytes 2 (length parts.attributes) ++ parts.attributes) parts.routes behind)

-- octets that begin with a message that says something, and of whose rest there is a report
said_first : (wide : Bool) (octets said : List ℕ) (content : Content) (count : ℕ) → BeginsWith octets content count → Says wide content said
    → HasReport (wide || is_wide_open content) (drop count octets) → HasReport wide octets
said_first wide octets said content count begins says rest =
    (said ++ rest.0, of_a_message said rest.0 content count begins says rest.1 refl)

-- an UPDATE says something or has a fault
says_or_fails : (wide : Bool) (parts : UpdateFields) → AreOctets parts.attributes
    → ((text : List ℕ) × SaysChanges wide parts text) ⊎ ((f : WireFault) × HasMembershipFault wide parts f)
says_or_fails wide parts h =
    elim (memberships.one_of_two wide parts h) [
      | inl asks ↦ elim (updates.one_of_two wide parts h) [
        | inl made ↦
            inl (update_lines made.0 asks.0, record { changes = made.0; asks = asks.0; changed = made.1; asked = asks.1; is = refl })
        | inr faulty ↦ inr (faulty.0, fails wide parts faulty.0 faulty.1)
      ]
      | inr faulty ↦ inr faulty
    ]

report_of_update : (wide : Bool) (octets : List ℕ) (parts : UpdateFields) (count : ℕ) → BeginsWith octets (Updates parts) count
    → ((text : List ℕ) × SaysChanges wide parts text) ⊎ ((f : WireFault) × HasMembershipFault wide parts f)
    → HasReport (wide || false) (drop count octets) → HasReport wide octets
report_of_update wide octets parts count begins (inl says) rest =
    said_first wide octets says.0 (Updates parts) count begins says.1 rest
report_of_update wide octets parts count begins (inr faulty) rest =
    let f = faulty.0 in (
      fault_line f.code f.subcode,
      of_a_fault f (inr (record { parts = parts; count = count; begins = begins; faulty = faulty.1 })) refl,
    )

report_of_content : (wide : Bool) (octets : List ℕ) (content : Content) (count : ℕ) → AreOctets octets → BeginsWith octets content count
    → HasReport (wide || is_wide_open content) (drop count octets) → HasReport wide octets
report_of_content wide octets (Opens fields) count h begins rest = said_first wide octets _ (Opens fields) count begins refl rest
report_of_content wide octets (Updates parts) count h begins rest =
    report_of_update wide octets parts count begins (says_or_fails wide parts (attribute_octets octets parts count h begins)) rest
report_of_content wide octets (Notifies code subcode) count h begins rest =
    said_first wide octets _ (Notifies code subcode) count begins refl rest
report_of_content wide octets KeepsAlive count h begins rest = said_first wide octets _ KeepsAlive count begins refl rest

report_of_some : (wide : Bool) (most : ℕ) (x : ℕ) (xs : List ℕ) → AreOctets (x ∷ xs)
    → ((w : Bool) (octets : List ℕ) → AreOctets octets → length octets ≤ most → HasReport w octets) → length xs ≤ most
    → ((content : Content) × (n : ℕ) × BeginsWith (x ∷ xs) content n) ⊎ (IsProperPrefix (x ∷ xs) ⊎ ((f : WireFault) × HasFault (x ∷ xs) f))
    → HasReport wide (x ∷ xs)
report_of_some wide most x xs h shorter fits (inl message) =
    let content = message.0 in
    let count = message.1 in
    let begins = message.2 in
    let left = fewer_left (x ∷ xs) content count begins in
    report_of_content wide (x ∷ xs) content count h begins
    (shorter (wide || is_wide_open content) (drop count (x ∷ xs)) (AreOctets-drop count (x ∷ xs) h) (omega arith))
report_of_some wide most x xs h shorter fits (inr (inl proper)) =
    let some : (x ∷ xs) ≢ [] = λ e. absurd cc in
    (incomplete_line (length (x ∷ xs)), of_a_prefix some proper refl)
report_of_some wide most x xs h shorter fits (inr (inr fault)) =
    (fault_line fault.0.code fault.0.subcode, of_a_fault fault.0 (inl fault.1) refl)

report_within : (most : ℕ) (wide : Bool) (octets : List ℕ) → AreOctets octets → length octets ≤ most → HasReport wide octets
report_within most wide [] h fits = ([], of_nothing refl refl)
report_within zero wide (x ∷ xs) h fits = absurd (omega arith)
report_within (suc most) wide (x ∷ xs) h fits =
    report_of_some wide most x xs h (report_within most) (omega arith) (readings.read (x ∷ xs) h)

-- octets have a report
pub some_report : (wide : Bool) (octets : List ℕ) → AreOctets octets → HasReport wide octets
some_report wide octets h = report_within (length octets) wide octets h (omega arith)
