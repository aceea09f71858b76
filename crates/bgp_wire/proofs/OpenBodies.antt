-- The body of an OPEN: its parameters, and its fields.
use Rattle.std.proofs.Common.{◌≡◌, ◌≢◌, ◌≤◌, ℕ, ◌+◌, List, [], ◌∷◌, ◌++◌, length, drop, refl, ap, sym, ◌∙◌, arith, subst, inr, ◌⊎◌, None}
use Rattle.std.proofs.lemmas.Bool.{eqb-true, eqb-false, not-false, or_parts}
use Rattle.byteorder.specs.Endian.{big_bytes, big_number}
use Rattle.bgp_wire.specs.Content.{OpenFields}
use Rattle.bgp_wire.specs.Faults.{unspecific_open, unsupported_parameter}
use Rattle.bgp_wire.specs.Parts.{Part, octets_of, IsOverrun, BeginsWithPart}
use Rattle.bgp_wire.specs.Capabilities.{parameters_in}
use Rattle.bgp_wire.specs.Opens.{parameters_octets, IsCapability, IsMalformedCapability, AreBrokenCapabilities, IsParameter, AreParameters, IsFaultyParameter, has_another_type, has_broken_capabilities, HasFaultyParameter, IsOpen, open_fault, version_at, my_as_at, hold_at, id_at, parameters_length_at}
use Rattle.bgp_wire.specs.Messages.{AreOctets}
use Rattle.bgp_wire.proofs.Octets.{bytes_of_two, bytes_of_four, number_below_two, number_below_four, AreOctets-drop}
use Rattle.bgp_wire.proofs.Checking.{pass_both, fault_if-None}
use Rattle.bgp_wire.proofs.Splitting.{Leaves, leaves_end}
use Rattle.bgp_wire.proofs.WholeParts.{some_held}
use Rattle.std.specs.List.{AllByRecursion}

-- a malformed capability ends the capabilities
pub capabilities_end : (octets rest after : List ℕ) (c : Part) → Leaves IsCapability octets rest
    → rest ≡ octets_of c ++ after → IsMalformedCapability c → AreBrokenCapabilities octets
capabilities_end octets rest after c so_far front malformed =
    let begins : BeginsWithPart IsMalformedCapability rest = record { first = c; after = after; spelled = front; holds = malformed } in
    leaves_end IsCapability (λ left. IsOverrun left ⊎ BeginsWithPart IsMalformedCapability left) octets rest so_far (inr begins)

-- so does a parameter of another type
pub type_ends : (octets rest after : List ℕ) (p : Part) → Leaves IsParameter octets rest
    → rest ≡ octets_of p ++ after → p.kind ≢ 2 → HasFaultyParameter octets unsupported_parameter
type_ends octets rest after p so_far front other =
    let begins : BeginsWithPart (λ q. q.kind ≢ 2) rest = record { first = p; after = after; spelled = front; holds = other } in
    leaves_end IsParameter (λ left. IsFaultyParameter left unsupported_parameter) octets rest so_far (has_another_type begins refl)

-- and one whose capabilities are broken
pub broken_ends : (octets rest after : List ℕ) (p : Part) → Leaves IsParameter octets rest
    → rest ≡ octets_of p ++ after → p.kind ≡ 2 → AreBrokenCapabilities p.value → HasFaultyParameter octets unspecific_open
broken_ends octets rest after p so_far front kind broken =
    let begins : BeginsWithPart (λ q. (q.kind ≡ 2) × AreBrokenCapabilities q.value) rest = record { first = p; after = after; spelled = front; holds = (kind, broken) } in
    leaves_end IsParameter (λ left. IsFaultyParameter left unspecific_open) octets rest so_far (has_broken_capabilities begins refl)

-- what it means that no check before the parameters fails
pub record Passes (body : List ℕ) : Type 0 where
  pub version : version_at body ≡ 4
  pub no_one : hold_at body ≢ 1
  pub no_two : hold_at body ≢ 2
  pub identifier : id_at body ≢ 0
  pub fills : 10 + parameters_length_at body ≡ length body

pub open_passes : (body : List ℕ) → open_fault body ≡ None → Passes body
open_passes body h =
    let first = pass_both _ _ h in
    let second = pass_both _ _ first.1 in
    let third = pass_both _ _ second.1 in
    let holds = or_parts _ _ (fault_if-None _ _ second.0) in
    record {
      version = eqb-true (version_at body) 4 (not-false _ (fault_if-None _ _ first.0));
      no_one = eqb-false (hold_at body) 1 holds.0;
      no_two = eqb-false (hold_at body) 2 holds.1;
      identifier = eqb-false (id_at body) 0 (fault_if-None _ _ third.0);
      fills = eqb-true (10 + parameters_length_at body) (length body) (not-false _ (fault_if-None _ _ third.1));
    }

-- a body, by its fields' octets
abbrev pub shape : ℕ → List ℕ → List ℕ → List ℕ → ℕ → List ℕ → List ℕ
shape version asn hold id len rest = version ∷ [] ++ asn ++ hold ++ id ++ len ∷ [] ++ rest

-- ten octets, taken apart
spelled_cells : (v a b c d e f g h l : ℕ) (rest : List ℕ) → AreOctets (v ∷ a ∷ b ∷ c ∷ d ∷ e ∷ f ∷ g ∷ h ∷ l ∷ rest)
    → v ≡ 4 → l ≡ length rest
    → (v ∷ a ∷ b ∷ c ∷ d ∷ e ∷ f ∷ g ∷ h ∷ l ∷ rest) ≡
    4 ∷ [] ++ big_bytes 2 (big_number 2 (a ∷ b ∷ [])) ++ big_bytes 2 (big_number 2 (c ∷ d ∷ []))
    ++ big_bytes 4 (big_number 4 (e ∷ f ∷ g ∷ h ∷ [])) ++ length rest ∷ [] ++ rest
spelled_cells v a b c d e f g h l rest octets version len =
    let asn = bytes_of_two a b [] (octets 1) (octets 2) in
    let hold = bytes_of_two c d [] (octets 3) (octets 4) in
    let id = bytes_of_four e f g h [] (octets 5) (octets 6) (octets 7) (octets 8) in
    ap (λ (n : ℕ). shape n (a ∷ b ∷ []) (c ∷ d ∷ []) (e ∷ f ∷ g ∷ h ∷ []) l rest) version
    ∙ ap (λ (xs : List ℕ). shape 4 xs (c ∷ d ∷ []) (e ∷ f ∷ g ∷ h ∷ []) l rest) (sym asn)
    ∙ ap (λ (xs : List ℕ). shape 4 (big_bytes 2 (big_number 2 (a ∷ b ∷ []))) xs (e ∷ f ∷ g ∷ h ∷ []) l rest) (sym hold)
    ∙ ap (λ (xs : List ℕ). shape 4 (big_bytes 2 (big_number 2 (a ∷ b ∷ []))) (big_bytes 2 (big_number 2 (c ∷ d ∷ []))) xs l rest) (sym id)
    ∙ ap (λ (n : ℕ). shape 4 (big_bytes 2 (big_number 2 (a ∷ b ∷ []))) (big_bytes 2 (big_number 2 (c ∷ d ∷ []))) (big_bytes 4 (big_number 4 (e ∷ f ∷ g ∷ h ∷ []))) n rest) len

pub spelled_open : (body : List ℕ) → AreOctets body → 10 ≤ length body → Passes body → body ≡
    4 ∷ [] ++ big_bytes 2 (my_as_at body) ++ big_bytes 2 (hold_at body) ++ big_bytes 4 (id_at body)
    ++ length (drop 10 body) ∷ [] ++ drop 10 body
spelled_open (v ∷ a ∷ b ∷ c ∷ d ∷ e ∷ f ∷ g ∷ h ∷ l ∷ rest) octets ten passes =
    spelled_cells v a b c d e f g h l rest octets passes.version (let fills = passes.fills in omega arith)
spelled_open _ octets ten passes = absurd (omega arith)

-- the fields of a body that passes
pub open_is : (body : List ℕ) (fields : OpenFields) → AreOctets body → 10 ≤ length body → open_fault body ≡ None
    → AreParameters (drop 10 body) → fields.my_as ≡ my_as_at body → fields.hold ≡ hold_at body → fields.id ≡ id_at body
    → fields.parameters ≡ parameters_in (drop 10 body) → IsOpen body fields
open_is body fields octets ten none parameters asn hold id rest =
    let passes = open_passes body none in
    let held = some_held (drop 10 body) parameters in
    let spelled = spelled_open body octets ten passes ∙ ap (λ (r : List ℕ). shape 4 (big_bytes 2 (my_as_at body)) (big_bytes 2 (hold_at body)) (big_bytes 4 (id_at body)) (length r) r) (held.spelled ∙ ap parameters_octets (sym rest)) in
    let two = number_below_two (drop 1 body) (AreOctets-drop 1 body octets) in
    let three = number_below_two (drop 3 body) (AreOctets-drop 3 body octets) in
    let five = number_below_four (drop 5 body) (AreOctets-drop 5 body octets) in
    record {
      spelled = rw (asn, hold, id) spelled;
      my_as = omega arith;
      hold = omega arith;
      id = omega arith;
      hold_time = ((λ e. passes.no_one (sym hold ∙ e)), (λ e. passes.no_two (sym hold ∙ e)));
      identifier = λ e. passes.identifier (sym id ∙ e);
      parameters = subst (AllByRecursion (AllByRecursion IsCapability)) (sym rest) held.well_formed;
    }
