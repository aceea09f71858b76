-- A first part of a record or of a message brings nothing.
use Rattle.std.specs.Prelude.{◌≡◌, ◌<◌, ◌≤◌, ◌⊎◌, ◌+◌, ℕ, List, [], ◌++◌, length, take, drop, Option, Some, None, Result, Ok, Err}
use Rattle.std.specs.List.{flat_map}
use Rattle.std.specs.Option.{MatchOption}
use Rattle.std.proofs.Common.{refl, sym, ◌∙◌, ap, subst, inl, inr, arith}
use Rattle.std.proofs.lemmas.Bool.{cases_lt}
use Rattle.std.proofs.lemmas.List.{append-nil, drop-append-le, length-append, length-drop, length-take-le, take-append-drop, take_all}
use Rattle.byteorder.specs.Endian.{big_number}
use Rattle.byteorder.specs.Numbers.{big_from-append}
use Rattle.ov_types.specs.declared.vpn.VpnKey.{VpnKey}
use Rattle.ov_types.specs.declared.vpn.VpnRoute.{VpnRoute}
use Rattle.ov_sync.specs.declared.Delta.{Delta}
use Rattle.ov_sync.specs.declared.Delta.TheVariants.{Put, Drop}
use Rattle.bgp_wire.specs.Attributes.{attribute_octets}
use Rattle.bgp_wire.specs.Content.{Content}
use Rattle.bgp_wire.specs.Frames.{IsProperPrefix, frame_fault, length_at}
use Rattle.bgp_wire.specs.Messages.{BeginsWith, HasFault, HasFaultyBody, IsMessage}
use Rattle.bgp_wire.specs.Spelling as wire
use Rattle.bgp_wire.specs.declared.fault.WireFault.{WireFault}
use Rattle.bgp_wire.proofs.Readings.{HasFrame, fault_stays, has_frame, never_message_and_fault}
use Rattle.bgp_wire.proofs.Spelling.{attributes_say}
use Rattle.bgp_vpn.specs.Written.{IfPut, attributes_of, written}
use Rattle.bgp_vpn.proofs.WrittenUpdates.{drop_length, put_length}
use Rattle.item_wire.specs.Frames.{frame_of, framed}
use Rattle.item_wire.specs.Records.{json_text, spelling}
use Rattle.item_wire.specs.declared.framing.TooLong.{TooLong}
use Rattle.item_wire.specs.declared.item.Item.{Item}
use Rattle.item_wire.proofs.Cutting.{FrameIs, part_of, long_of, whole_of, read_frame}
use Rattle.item_wire.proofs.Framed.{framed_is_read}
use Rattle.node_core.specs.Told.{IsWritable}
use Rattle.running_nodes.specs.NodeRoutes.First.{ChangeFitsItsTypes}
use Rattle.running_nodes.specs.NodeRoutes.Told.{IsWritable as IsWritableRoute}

-- ---- records
one_frame : (r : Result (Option (List ℕ)) TooLong) (a b : List ℕ) → r ≡ Ok (Some a) → r ≡ Ok (Some b) → a ≡ b
one_frame r a b e f = cc

never_both : (r : Result (Option (List ℕ)) TooLong) (a : List ℕ) (long : TooLong) → r ≡ Ok (Some a) → r ≡ Err long → ⊥
never_both r a long e f = cc

module _ (json : List ℕ) (short : length json ≤ 65536) (k : ℕ) (few : k < length (framed json)) where
  abbrev front : List ℕ
  front = take k (framed json)

  abbrev behind : List ℕ
  behind = drop k (framed json)

  both_read : frame_of (front ++ behind) ≡ Ok (Some json)
  both_read =
      ap frame_of (take-append-drop k (framed json) ∙ sym (append-nil (framed json))) ∙ framed_is_read json [] short

  none_by : FrameIs front → frame_of front ≡ Ok None
  none_by (part_of none few') = none
  none_by (long_of n four f) = absurd (never_both (frame_of (front ++ behind)) json (record { length = n }) both_read (f behind))
  none_by (whole_of other fits f) =
      let same = ap length (one_frame (frame_of (front ++ behind)) other json (f behind) both_read) in
      let size = length-take-le k (framed json) (omega (arith, few)) in
      absurd (omega (arith, same, size, fits, few))

  pub front_is_none : frame_of front ≡ Ok None
  front_is_none = none_by (read_frame front)

-- a first part of a record is no record
pub record_part : (i : Item) → IsWritable i → (k : ℕ) → k < length (spelling i) → frame_of (take k (spelling i)) ≡ Ok None
record_part i w k few = front_is_none (json_text i) w.short k few

-- ---- messages
whole_begins : (octets : List ℕ) (c : Content) → IsMessage octets c → BeginsWith octets c (length octets)
whole_begins octets c is = record {
  within = omega arith;
  message = subst (λ (o : List ℕ). IsMessage o c) (sym (take_all (length octets) octets (omega arith))) is;
}

has_first_fault : (octets : List ℕ) (f : WireFault) → frame_fault octets ≡ Some f → HasFault octets f
has_first_fault octets f e =
    let P : Option WireFault → Type 0 = λ o. MatchOption o (HasFaultyBody octets f) (λ first. first ≡ f) in
    subst P (sym e) refl

module _ (octets more : List ℕ) (c : Content) (is : IsMessage (octets ++ more) c) (some : 0 < length more) where
  passes_by : (o : Option WireFault) → frame_fault octets ≡ o → frame_fault octets ≡ None
  passes_by None e = e
  passes_by (Some f) e =
      absurd (never_message_and_fault (octets ++ more) c (length (octets ++ more)) f (whole_begins (octets ++ more) c is)
      (fault_stays octets more f (has_first_fault octets f e)))

  whole_frame : HasFrame (octets ++ more) is.kind is.body
  whole_frame = has_frame (octets ++ more) (octets ++ more) [] is.body is.kind (sym (append-nil (octets ++ more))) is.frame

  length_said : 19 ≤ length octets → length_at octets ≡ 19 + length is.body
  length_said there =
      sym (ap (big_number 2) (drop-append-le 16 octets more (omega (arith, there)))
      ∙ big_from-append 2 (drop 16 octets) more (omega (arith, there, length-drop 16 octets)))
      ∙ whole_frame.found.len_is

  is_short : (length octets < 19) ⊎ (length octets < length_at octets)
  is_short = elim (cases_lt (length octets) 19) [
    | inl few ↦ inl few
    | inr there ↦
        let said = length_said there in
        let size = ap length is.frame.spelled in
        inr (omega (arith, said, size, some, length-append octets more))
  ]

  pub front_is_proper : IsProperPrefix octets
  front_is_proper = record { passes = passes_by (frame_fault octets) refl; short = is_short }

-- a first part of a message is no message, and has no fault
pub message_part : (octets : List ℕ) (c : Content) → IsMessage octets c → (k : ℕ) → k < length octets
    → IsProperPrefix (take k octets)
message_part octets c is k few =
    front_is_proper (take k octets) (drop k octets) c
    (subst (λ (o : List ℕ). IsMessage o c) (sym (take-append-drop k octets)) is)
    (omega (arith, few, length-drop k octets))

few_attributes : (d : Delta VpnKey VpnRoute) → IfPut d IsWritableRoute → ChangeFitsItsTypes d
    → length (flat_map attribute_octets (attributes_of d)) ≤ 512
few_attributes (Put k r) w fits = put_length k r fits.0 w.few
few_attributes (Drop k) w fits = drop_length k fits

-- the UPDATE of a change is a message
pub update_says : (d : Delta VpnKey VpnRoute) → IfPut d IsWritableRoute → ChangeFitsItsTypes d
    → IsMessage (wire.spelling (written d)) (written d)
update_says d w fits =
    attributes_say (flat_map attribute_octets (attributes_of d)) (omega (arith, few_attributes d w fits))
