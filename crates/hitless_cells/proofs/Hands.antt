-- In one edit no address changes hands.
use Rattle.std.proofs.Common.{◌≡◌, ◌⊎◌, inl, inr, ℕ, true, IsTrue, List, [], ◌∷◌, None, refl, sym, ap, ◌∙◌, subst, arith}
use Rattle.std.specs.List.{Any, Contains}
use Rattle.ov_types.specs.Prefix.{contains}
use Rattle.ov_types.specs.declared.numbers.InstanceId.{InstanceId}
use Rattle.ov_types.specs.declared.numbers.PortNo.{PortNo}
use Rattle.ov_types.specs.declared.packet.Packet.{Packet}
use Rattle.ov_types.specs.declared.prefix.Addr.{Addr}
use Rattle.ov_types.proofs.FirstLemmas.{contains_cases}
use Rattle.config_types.specs.Form.{has_edit_form}
use Rattle.config_types.specs.declared.config.Network.{Network}
use Rattle.config_types.specs.declared.config.Port.{Port}
use Rattle.config_types.specs.declared.edit.Edit.{Edit}
use Rattle.config_check.specs.Checked.{Checked}
use Rattle.config_check.specs.Edits.{edit_fault, edited}
use Rattle.config_check.specs.Sentences.{IsAround, IsValid}
use Rattle.reach_plain.proofs.Found.{own_exists}
use Rattle.reach_plain.proofs.Kept.{valid}
use Rattle.hitless_cells.specs.Hands.{HasPortAt, ImportsNumber, KeepsInHand}
use Rattle.hitless_cells.specs.Keeping.{IsValidAsWritten}
use Rattle.hitless_cells.specs.Ways.{Offers, Track, Way}
use Rattle.hitless_cells.proofs.Alone.{one_network}
use Rattle.hitless_cells.proofs.Around.{alone, around_passed, holds_port, one_numbered}
use Rattle.hitless_cells.proofs.ByKind.{accepted, parts_of_fault}
use Rattle.hitless_cells.proofs.OneEdit.{ButForOne, Change, changed, turned}

module _ (p : Packet) (number : PortNo) (way : Way) (track : Track) where
  abbrev d : ℕ
  d = p.destination.0

  abbrev Holds : Network → Type 0
  Holds n = Any (λ s. contains s d ≡ true) n.subnets

  module _ (x y : Checked) (v : IsValidAsWritten x) (w : IsValidAsWritten y) (o : Offers x p number way track) (other : InstanceId)
      (i : ImportsNumber x.config track.from other) (h : HasPortAt y.config other p.destination) where
    ok_x : IsValid x.topology x.config
    ok_x = valid x.topology x.config v.valid

    ok_y : IsValid y.topology y.config
    ok_y = valid y.topology y.config w.valid

    around : IsAround x.config i.own i.imported
    around = elim i.near [ inl same ↦ inl same | inr passes ↦ around_passed x.config i.own i.imported passes ]

    -- if what is imported holds the address, it is the destination's network
    is_to : Holds i.imported → other ≡ track.to
    is_to holds = sym i.imported_is ∙ alone x p number way track v o i.own i.imported i.own_stands i.imported_stands i.own_is around holds

    home_holds : Holds h.home
    home_holds = subst (λ (a : Addr). Any (λ s. contains s a.0 ≡ true) h.home.subnets) h.port_address
        (holds_port y.topology y.config ok_y h.home h.port h.home_stands h.port_stands h.port_network)

    same_networks : x.config.networks ≡ y.config.networks → other ≡ track.to
    same_networks same =
        let there : Contains x.config.networks h.home = subst (λ (ns : List Network). Contains ns h.home) (sym same) h.home_stands in
        let one : h.home ≡ i.imported = one_numbered x.topology x.config ok_x other h.home i.imported there i.imported_stands h.home_is i.imported_is in
        is_to (subst Holds one home_holds)

    but_for_one : ButForOne x y → other ≡ track.to
    but_for_one c =
        let in_x : Contains x.config.ports h.port = subst (λ (qs : List Port). Contains qs h.port) (sym c.ports) h.port_stands in
        let was = own_exists x.topology x.config h.port ok_x in_x in
        let old : Network = was.0 in
        let holds : Holds old = subst (λ (a : Addr). Any (λ s. contains s a.0 ≡ true) old.subnets) h.port_address
        (holds_port x.topology x.config ok_x old h.port was.1 in_x (sym was.2)) in
        let named : old.name ≡ h.home.name = was.2 ∙ h.port_network in
        elim (c.there old i.imported was.1 i.imported_stands) [
          | inl same ↦ is_to (subst Holds same holds)
          | inr either ↦ elim either [
            | inl stays ↦
                let one : old ≡ h.home = one_network y ok_y h.home.name old h.home stays h.home_stands named refl in
                let is : old.id ≡ other = ap (λ (n : Network). n.id) one ∙ h.home_is in
                let two : old ≡ i.imported = one_numbered x.topology x.config ok_x other old i.imported was.1 i.imported_stands is i.imported_is in
                is_to (subst Holds two holds)
            | inr stays ↦
                let one : h.home ≡ i.imported = one_numbered y.topology y.config ok_y other h.home i.imported h.home_stands stays h.home_is i.imported_is in
                is_to (subst Holds one home_holds)
          ]
        ]

    pub across : Change x y → other ≡ track.to
    across (inl same) = same_networks same
    across (inr one) = but_for_one one

  pub keeps_in_hand : (x : Checked) (e : Edit) → IsValidAsWritten x → IsTrue (has_edit_form e) → edit_fault x e ≡ None → Offers x p number way track → Offers (edited e x) p number way track
      → KeepsInHand (x ∷ edited e x ∷ []) track.from track.to p.destination
  keeps_in_hand x e v form h before after a b other at_a at_b i has =
      by (contains_cases x (edited e x ∷ []) a at_a) (contains_cases x (edited e x ∷ []) b at_b)
    where
      w : IsValidAsWritten (edited e x)
      w = accepted e x v form h

      change : Change x (edited e x)
      change = changed x e (parts_of_fault e x h).0

      only : (z : Checked) → Contains (edited e x ∷ []) z → edited e x ≡ z
      only z at = elim (contains_cases (edited e x) [] z at) [ inl same ↦ same | inr never ↦ absurd (omega (arith, never.1)) ]

      to : (y z : Checked) → y ≡ a → z ≡ b → IsValidAsWritten y → IsValidAsWritten z → Offers y p number way track → Change y z → other ≡ track.to
      to y z is_a is_b vy vz offers c =
          across y z vy vz offers other (subst (λ (u : Checked). ImportsNumber u.config track.from other) (sym is_a) i)
          (subst (λ (u : Checked). HasPortAt u.config other p.destination) (sym is_b) has) c

      by : (x ≡ a) ⊎ Contains (edited e x ∷ []) a → (x ≡ b) ⊎ Contains (edited e x ∷ []) b → other ≡ track.to
      by (inl first) (inl second) = to x x first second v v before (inl refl)
      by (inl first) (inr second) = to x (edited e x) first (only b second) v w before change
      by (inr first) (inl second) = to (edited e x) x (only a first) second w v after (turned x (edited e x) change)
      by (inr first) (inr second) = to (edited e x) (edited e x) (only a first) (only b second) w w after (inl refl)
