-- What octets are as one message decides the tests.
use Rattle.std.proofs.Common.{◌≡◌, ◌≢◌, ℕ, List, length, true, false, drop, Option, Some, refl, ap, sym, subst}
use Rattle.std.specs.Prelude.{IfSome, Decides}
use Rattle.std.proofs.lemmas.Bool.{false_from_ne_true}
use Rattle.bgp_wire.specs.declared.message.Message.{Message}
use Rattle.bgp_wire.specs.Content.{OpenFields, UpdateFields, Content, Opens, Updates, Notifies, KeepsAlive}
use Rattle.bgp_wire.specs.Messages.{content_of, BeginsWith}
use Rattle.bgp_wire.proofs.Readings.{one_message}
use Rattle.decode_answers.specs.OneMessage.{IsOneOpen, IsOneUpdate, is_open, is_update, open_in, update_in, is_one_open, is_one_update}
use Rattle.decode_answers.proofs.Opens.{passed_open, open_passes}
use Rattle.decode_answers.proofs.Updates.{passed_update, update_passes}

-- no message is the octets as a whole
abbrev pub IsNone : List ℕ → Type 0
IsNone octets = (content : Content) → BeginsWith octets content (length octets) → ⊥

pub none_is_open : (octets : List ℕ) → IsNone octets → false ≡ is_one_open octets
none_is_open octets never =
    sym (false_from_ne_true (is_one_open octets) (λ h. never (Opens (open_in (drop 19 octets))) (passed_open octets h)))

pub none_is_update : (octets : List ℕ) → IsNone octets → false ≡ is_one_update octets
none_is_update octets never =
    sym (false_from_ne_true (is_one_update octets) (λ h. never (Updates (update_in (drop 19 octets))) (passed_update octets h)))

-- a message that is no OPEN is none
other_than_open : (octets : List ℕ) (content : Content) → is_open content ≡ false → BeginsWith octets content (length octets)
    → false ≡ is_one_open octets
other_than_open octets content other begins = sym (false_from_ne_true (is_one_open octets) (λ h.
    let o = open_in (drop 19 octets) in
    let same : content ≡ Opens o = (one_message octets content (Opens o) (length octets) (length octets) begins (passed_open octets h)).0 in
    let opens : is_open content ≡ true = ap is_open same in
    absurd cc))

other_than_update : (octets : List ℕ) (content : Content) → is_update content ≡ false → BeginsWith octets content (length octets)
    → false ≡ is_one_update octets
other_than_update octets content other begins = sym (false_from_ne_true (is_one_update octets) (λ h.
    let parts = update_in (drop 19 octets) in
    let same : content ≡ Updates parts = (one_message octets content (Updates parts) (length octets) (length octets) begins (passed_update octets h)).0 in
    let updates : is_update content ≡ true = ap is_update same in
    absurd cc))

-- the message that the octets are decides
pub open_decided : (octets : List ℕ) (content : Content) → BeginsWith octets content (length octets) → is_open content ≡ is_one_open octets
open_decided octets (Opens fields) begins = sym (open_passes octets fields begins)
open_decided octets (Updates parts) begins = other_than_open octets (Updates parts) refl begins
open_decided octets (Notifies code subcode) begins = other_than_open octets (Notifies code subcode) refl begins
open_decided octets KeepsAlive begins = other_than_open octets KeepsAlive refl begins

pub update_decided : (octets : List ℕ) (content : Content) → BeginsWith octets content (length octets) → is_update content ≡ is_one_update octets
update_decided octets (Opens fields) begins = other_than_update octets (Opens fields) refl begins
update_decided octets (Updates parts) begins = sym (update_passes octets parts begins)
update_decided octets (Notifies code subcode) begins = other_than_update octets (Notifies code subcode) refl begins
update_decided octets KeepsAlive begins = other_than_update octets KeepsAlive refl begins

-- a message that does not take all octets is none as a whole
pub none_as_whole : (octets : List ℕ) (found : Option (Message × ℕ)) (m : Message) (count : ℕ) → found ≡ Some (m, count)
    → IfSome found (λ x. BeginsWith octets (content_of x.0) x.1) → count ≢ length octets → IsNone octets
none_as_whole octets found m count is h other another whole =
    let begins = subst (λ (o : Option (Message × ℕ)). IfSome o (λ x. BeginsWith octets (content_of x.0) x.1)) is h in
    other (one_message octets (content_of m) another count (length octets) begins whole).1

-- each test passes exactly where the octets are one such message
pub open_decides : (octets : List ℕ) → Decides (is_one_open octets) ((fields : OpenFields) × IsOneOpen octets fields)
open_decides octets =
    ((λ h. (open_in (drop 19 octets), passed_open octets h)), (λ one. open_passes octets one.0 one.1))

pub update_decides : (octets : List ℕ) → Decides (is_one_update octets) ((parts : UpdateFields) × IsOneUpdate octets parts)
update_decides octets =
    ((λ h. (update_in (drop 19 octets), passed_update octets h)), (λ one. update_passes octets one.0 one.1))
