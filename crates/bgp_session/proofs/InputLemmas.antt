-- What a message brings.
use Rattle.std.proofs.Common.{◌≡◌, ◌≢◌, ◌==◌, ◌↔◌, ℕ, refl, sym, ◌∙◌, ap, Option, Some, None, Bool, true, false, not, arith}
use Rattle.std.proofs.lemmas.Bool.{eqb-true, eqb-false, eq-eqb, ne_eqb}
use Rattle.ov_types.specs.declared.prefix.Addr.{Addr}
use Rattle.bgp_wire.specs.declared.fault.WireFault.{WireFault}
use Rattle.bgp_wire.specs.Content.{OpenFields, UpdateFields, Content, Opens, Updates, Notifies, KeepsAlive}
use Rattle.bgp_wire.specs.Faults.{fault_if, ◌then_check◌}
use Rattle.bgp_wire.specs.Opens.{asn_of}
use Rattle.bgp_vpn.proofs.UpdateLemmas.{never_both, one_fault, one_changes}
use Rattle.bgp_session.specs.Inputs.{Came, RightUpdate, WrongUpdate, BringsUpdate, Brings, right, wrong, bad_peer_as, bad_identifier, open_refusal}

abbrev refusal_by : Bool → Bool → Option WireFault
refusal_by same_system same_identifier =
    fault_if (not same_system) bad_peer_as then_check fault_if (not same_identifier) bad_identifier

subcode_in : Option WireFault → ℕ
subcode_in None = 0
subcode_in (Some f) = f.subcode

apart : (m n : ℕ) → m ≡ n → m ≡ 3 → n ≡ 2 → ⊥
apart m n same three two = omega arith

both : (a b : Bool) → refusal_by a b ≡ None → (a ≡ true) × (b ≡ true)
both true true h = (refl, refl)
both true false h = absurd cc
both false b h = absurd cc

first : (a b : Bool) → refusal_by a b ≡ Some bad_peer_as → a ≡ false
unfolding subcode_in
first false b h = refl
first true true h = absurd cc
first true false h = absurd (apart 3 2 (ap subcode_in h) refl refl)

second : (a b : Bool) → refusal_by a b ≡ Some bad_identifier → (a ≡ true) × (b ≡ false)
unfolding subcode_in
second true false h = (refl, refl)
second true true h = absurd cc
second false b h = absurd (apart 3 2 (sym (ap subcode_in h)) refl refl)

pub right_open : (asn : ℕ) (peer : Addr) (fields : OpenFields)
    → (open_refusal asn peer fields ≡ None) ↔ ((asn_of fields ≡ asn) × (fields.id ≡ peer.0))
right_open asn peer fields = (
  λ h. let e = both (asn_of fields == asn) (fields.id == peer.0) h in (eqb-true (asn_of fields) asn e.0, eqb-true fields.id peer.0 e.1),
  λ e.
      ap (λ (a : Bool). refusal_by a (fields.id == peer.0)) (eq-eqb (asn_of fields) asn e.0)
      ∙ ap (refusal_by true) (eq-eqb fields.id peer.0 e.1),
)

pub other_system : (asn : ℕ) (peer : Addr) (fields : OpenFields)
    → (open_refusal asn peer fields ≡ Some bad_peer_as) ↔ (asn_of fields ≢ asn)
other_system asn peer fields = (
  λ h. eqb-false (asn_of fields) asn (first (asn_of fields == asn) (fields.id == peer.0) h),
  λ e. ap (λ (a : Bool). refusal_by a (fields.id == peer.0)) (ne_eqb (asn_of fields) asn e),
)

pub other_identifier : (asn : ℕ) (peer : Addr) (fields : OpenFields)
    → (open_refusal asn peer fields ≡ Some bad_identifier) ↔ ((asn_of fields ≡ asn) × (fields.id ≢ peer.0))
other_identifier asn peer fields = (
  λ h.
      let e = second (asn_of fields == asn) (fields.id == peer.0) h in
      (eqb-true (asn_of fields) asn e.0, eqb-false fields.id peer.0 e.1),
  λ e.
      ap (λ (a : Bool). refusal_by a (fields.id == peer.0)) (eq-eqb (asn_of fields) asn e.0)
      ∙ ap (refusal_by true) (ne_eqb fields.id peer.0 e.1),
)

one_by_update : (wide : Bool) (parts : UpdateFields) (a b : Came) → BringsUpdate wide parts a → BringsUpdate wide parts b → a ≡ b
one_by_update wide parts a b (right d c e) (right d' c' e') = e ∙ ap RightUpdate (one_changes wide parts d d' c c') ∙ sym e'
one_by_update wide parts a b (right d c e) (wrong f h e') = absurd (never_both wide parts d f c h)
one_by_update wide parts a b (wrong f h e) (right d c e') = absurd (never_both wide parts d f c h)
one_by_update wide parts a b (wrong f h e) (wrong g k e') = e ∙ ap WrongUpdate (one_fault wide parts f g h k) ∙ sym e'

pub brings_one : (asn : ℕ) (peer : Addr) (wide : Bool) (message : Content) (a b : Came) → Brings asn peer wide message a → Brings asn peer wide message b → a ≡ b
brings_one asn peer wide (Opens fields) a b x y = x ∙ sym y
brings_one asn peer wide (Updates parts) a b x y = one_by_update wide parts a b x y
brings_one asn peer wide (Notifies code subcode) a b x y = x ∙ sym y
brings_one asn peer wide KeepsAlive a b x y = x ∙ sym y
