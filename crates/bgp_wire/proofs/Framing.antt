-- Frames: their octets, by place and as a whole.
use Rattle.std.proofs.Common.{◌≡◌, ◌≤◌, ◌-◌, ℕ, ◌+◌, List, [], ◌∷◌, ◌++◌, length, take, drop, replicate, slice_index, refl, ap, sym, ◌∙◌, arith, subst, Option, Some, None, Bool, true, false, cond, ◌==◌, ◌⊎◌, inl, inr}
use Rattle.std.specs.List.{list_all}
use Rattle.std.specs.Option.{MatchOption}
use Rattle.std.proofs.Math.Seq.{take-append-add}
use Rattle.std.proofs.lemmas.List.{take-append-drop, length-take-le, length-drop, drop-drop, drop_more}
use Rattle.std.proofs.lemmas.Bool.{not-false, ltb-false, or_parts, and_parts, eqb-true, le-leb}
use Rattle.byteorder.specs.Endian.{big_bytes}
use Rattle.bgp_wire.specs.declared.fault.WireFault.{WireFault}
use Rattle.bgp_wire.specs.declared.kind.MessageKind.{MessageKind}
use Rattle.bgp_wire.specs.declared.kind.MessageKind.TheVariants.{Open, Update, Notification, Keepalive}
use Rattle.bgp_wire.specs.Content.{Content}
use Rattle.bgp_wire.specs.Faults.{◌then_check◌}
use Rattle.bgp_wire.specs.Frames.{octet_of, kind_of, least, greatest, head, IsFrame, marker_fault, length_fault, kind_fault, type_fault, frame_fault, IsHeadOf}
use Rattle.bgp_wire.specs.Messages.{AreOctets, IsBody, HasBodyFault, BeginsWith, HasFault, HasFaultyBody}
use Rattle.bgp_wire.proofs.Octets.{split_two, AreOctets-drop}
use Rattle.bgp_wire.proofs.Checking.{pass_both, fault_if-None}

-- octets that are all ones
all_ones : (xs : List ℕ) → list_all (λ x. x == 255) xs ≡ true → xs ≡ replicate (length xs) 255
all_ones [] h = refl
all_ones (x ∷ xs) h =
    let both = and_parts _ _ h in
    let one : x ≡ 255 = eqb-true x 255 both.0 in
    let others : xs ≡ replicate (length xs) 255 = all_ones xs both.1 in
    ap (λ (y : ℕ). y ∷ xs) one ∙ ap (λ (ys : List ℕ). 255 ∷ ys) others

-- which of two an answer was
chosen : (test : Bool) (k kind : MessageKind) (others : Option MessageKind) → cond test (Some k) others ≡ Some kind
    → ((test ≡ true) × (k ≡ kind)) ⊎ (others ≡ Some kind)
chosen true k kind others h = inl (refl, cc)
chosen false k kind others h = inr h

no_kind : (kind : MessageKind) → None ≡ Some kind → ⊥
no_kind kind h = cc

-- the octet that a type was read from
pub octet_is : (octet : ℕ) (kind : MessageKind) → kind_of octet ≡ Some kind → octet ≡ octet_of kind
octet_is octet kind h = elim (chosen (octet == 1) Open kind _ h) [
  | inl first ↦ eqb-true octet 1 first.0 ∙ ap octet_of first.1
  | inr h₂ ↦ elim (chosen (octet == 2) Update kind _ h₂) [
    | inl second ↦ eqb-true octet 2 second.0 ∙ ap octet_of second.1
    | inr h₃ ↦ elim (chosen (octet == 3) Notification kind _ h₃) [
      | inl third ↦ eqb-true octet 3 third.0 ∙ ap octet_of third.1
      | inr h₄ ↦ elim (chosen (octet == 4) Keepalive kind _ h₄) [
        | inl fourth ↦ eqb-true octet 4 fourth.0 ∙ ap octet_of fourth.1
        | inr h₅ ↦ absurd (no_kind kind h₅)
      ]
    ]
  ]
]

-- what it means that no check of a frame whose head is there fails
pub record HeadPasses (octets : List ℕ) (kind : MessageKind) (len : ℕ) : Type 0 where
  pub ones : list_all (λ x. x == 255) (take 16 octets) ≡ true
  pub at_least : least kind ≤ len
  pub at_most : len ≤ greatest kind

pub kind_passes : (kind : MessageKind) (len : ℕ) → kind_fault (Some kind) len ≡ None → (least kind ≤ len) × (len ≤ greatest kind)
kind_passes kind len h =
    let parts = or_parts _ _ (fault_if-None _ _ h) in
    (ltb-false len (least kind) parts.0, ltb-false (greatest kind) len parts.1)

pub head_passes : (octets : List ℕ) (kind : MessageKind) (len : ℕ) → frame_fault octets ≡ None → IsHeadOf octets kind len → HeadPasses octets kind len
head_passes octets kind len h found =
    let first = pass_both (marker_fault octets) (length_fault octets then_check type_fault octets) h in
    let second = pass_both (length_fault octets) (type_fault octets) first.1 in
    let typed : type_fault octets ≡ kind_fault (Some kind) len = rw (le-leb 19 (length octets) found.there, found.kind_is, found.len_is) refl in
    let bounds = kind_passes kind len (sym typed ∙ second.1) in
    record {
      ones = not-false _ (fault_if-None _ _ first.0);
      at_least = bounds.0;
      at_most = bounds.1;
    }

pub least_is : (kind : MessageKind) → 19 ≤ least kind
least_is Open = omega arith
least_is Update = omega arith
least_is Notification = omega arith
least_is Keepalive = omega arith

-- the octets begin with the head of a frame
head_is : (octets : List ℕ) (kind : MessageKind) (len : ℕ) → AreOctets octets → HeadPasses octets kind len → IsHeadOf octets kind len
    → octets ≡ head len kind ++ drop 19 octets
head_is octets kind len are passes found =
    let there = found.there in
    let sixteen : length (take 16 octets) ≡ 16 = length-take-le 16 octets (omega arith) in
    let marker : take 16 octets ≡ replicate 16 255 = all_ones (take 16 octets) passes.ones ∙ ap (λ (n : ℕ). replicate n 255) sixteen in
    let numbers : drop 16 octets ≡ big_bytes 2 len ++ drop 18 octets =
    split_two (drop 16 octets) (AreOctets-drop 16 octets are) (omega (arith, length-drop 16 octets))
    ∙ ap (λ (n : ℕ). big_bytes 2 n ++ drop 2 (drop 16 octets)) found.len_is
    ∙ ap (λ (r : List ℕ). big_bytes 2 len ++ r) (drop-drop 2 16 octets) in
    let last : drop 18 octets ≡ octet_of kind ∷ drop 19 octets =
    drop_more octets 18 0 (omega arith) ∙ ap (λ (x : ℕ). x ∷ drop 19 octets) (octet_is (slice_index octets 18) kind found.kind_is) in
    sym (take-append-drop 16 octets)
    ∙ ap (λ (r : List ℕ). r ++ drop 16 octets) marker
    ∙ ap (λ (r : List ℕ). replicate 16 255 ++ r) (numbers ∙ ap (λ (r : List ℕ). big_bytes 2 len ++ r) last)

pub frame_is : (octets : List ℕ) (kind : MessageKind) (len : ℕ) → AreOctets octets → frame_fault octets ≡ None → IsHeadOf octets kind len
    → len ≤ length octets → IsFrame (take len octets) kind (take (len - 19) (drop 19 octets))
frame_is octets kind len are none found enough =
    let passes = head_passes octets kind len none found in
    let low = passes.at_least in
    let high = passes.at_most in
    let nineteen = least_is kind in
    let body_len : length (take (len - 19) (drop 19 octets)) ≡ len - 19 = length-take-le (len - 19) (drop 19 octets) (omega (arith, length-drop 19 octets)) in
    let len_is : len ≡ 19 + (len - 19) = omega arith in
    let same : 19 + length (take (len - 19) (drop 19 octets)) ≡ len = omega arith in
    record {
      spelled =
          ap (take len) (head_is octets kind len are passes found)
          ∙ ap (λ (n : ℕ). take n (head len kind ++ drop 19 octets)) len_is
          ∙ take-append-add (head len kind) (drop 19 octets) (len - 19)
          ∙ ap (λ (n : ℕ). head n kind ++ take (len - 19) (drop 19 octets)) (sym same);
      least_length = omega arith;
      greatest_length = omega arith;
    }

-- a whole frame and its body are a message
pub begins_with : (octets : List ℕ) (kind : MessageKind) (len : ℕ) (content : Content) → AreOctets octets → frame_fault octets ≡ None
    → IsHeadOf octets kind len → len ≤ length octets → IsBody kind (take (len - 19) (drop 19 octets)) content
    → BeginsWith octets content len
begins_with octets kind len content are none found enough says = record {
  within = enough;
  message = record {
    kind = kind;
    body = take (len - 19) (drop 19 octets);
    frame = frame_is octets kind len are none found enough;
    says = says;
  };
}

-- a fault of a body is a fault where the frame has none
pub has_fault : (octets : List ℕ) (f : WireFault) → frame_fault octets ≡ None → HasFaultyBody octets f → HasFault octets f
has_fault octets f none faulty =
    let P : Option WireFault → Type 0 = λ o. MatchOption o (HasFaultyBody octets f) (λ g. g ≡ f) in
    subst P (sym none) faulty

pub body_fault : (octets : List ℕ) (kind : MessageKind) (len : ℕ) (f : WireFault) → AreOctets octets → frame_fault octets ≡ None
    → IsHeadOf octets kind len → len ≤ length octets → HasBodyFault kind (take (len - 19) (drop 19 octets)) f
    → HasFault octets f
body_fault octets kind len f are none found enough faulty = has_fault octets f none (record {
  kind = kind;
  body = take (len - 19) (drop 19 octets);
  frame = take len octets;
  more = drop len octets;
  spelled = sym (take-append-drop len octets);
  whole = frame_is octets kind len are none found enough;
  faulty = faulty;
})
