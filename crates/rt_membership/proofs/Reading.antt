-- What is read of an UPDATE that passes the checks on every UPDATE.
use Rattle.std.proofs.Common.{◌≡◌, ◌⊎◌, inl, inr, List, [], refl, ap, sym, ◌∙◌, subst, Bool, true, false, Option, Some, None, Result, Ok, Err}
use Rattle.std.specs.Prelude.{IfOk, IfErr, OnOk, MatchResult}
use Rattle.ov_sync.specs.declared.Delta.{Delta}
use Rattle.ov_types.specs.declared.vpn.VpnKey.{VpnKey}
use Rattle.ov_types.specs.declared.vpn.VpnRoute.{VpnRoute}
use Rattle.bgp_wire.specs.declared.fault.WireFault.{WireFault}
use Rattle.bgp_wire.specs.Content.{UpdateFields}
use Rattle.bgp_wire.specs.Attributes.{AttributeFields, AreAttributes}
use Rattle.bgp_wire.specs.Faults.{fault_if, ◌then_check◌}
use Rattle.bgp_vpn.specs.declared.fault.UpdateFault.{UpdateFault}
use Rattle.bgp_vpn.specs.declared.fault.UpdateFault.TheVariants.{Wire, NoMemory}
use Rattle.bgp_vpn.specs.Checks.{optional_attribute, update_fault}
use Rattle.bgp_vpn.specs.Updates.{Changes, HasUpdateFault, IfWire}
use Rattle.rt_membership.specs.declared.asked.Asked.{Asked}
use Rattle.rt_membership.specs.Asked.{AreAsked}
use Rattle.rt_membership.specs.Memberships.{has_cut_value, Asks, HasMembershipFault}
use Rattle.rt_membership.specs.Lying.{AreChanges}
use Rattle.rt_membership.proofs.Grammar.{asks, never_both, one_fault, one_changes}
use Rattle.rt_membership.proofs.Forms.{changes_ask}

abbrev Deltas : Type 0
Deltas = List (Delta Asked Unit)

-- what one result says leads to what another does
pub on_ok : {E : Type 0} (r : Result Unit E) (P Q : Type 0) → (P → Q) → OnOk r P → OnOk r Q
on_ok (Ok x) P Q f h = f h
on_ok (Err e) P Q f h = tt

pub if_ok : {X E : Type 0} (r : Result X E) (P Q : X → Type 0) → ((x : X) → P x → Q x) → IfOk r P → IfOk r Q
if_ok (Ok x) P Q f h = f x h
if_ok (Err e) P Q f h = tt

pub if_wire : {X : Type 0} (r : Result X UpdateFault) (P Q : WireFault → Type 0) → ((f : WireFault) → P f → Q f)
    → IfErr r (λ e. IfWire e P) → IfErr r (λ e. IfWire e Q)
if_wire (Ok x) P Q g h = tt
if_wire (Err (Wire f)) P Q g h = g f h
if_wire (Err NoMemory) P Q g h = tt

-- an UPDATE that has a fault has it here too
first_fails : (a b : Option WireFault) (f : WireFault) → a ≡ Some f → (a then_check b) ≡ Some f
first_fails (Some g) b f h = h
first_fails None b f h = absurd cc

pub fails : (wide : Bool) (parts : UpdateFields) (f : WireFault) → HasUpdateFault wide parts f → HasMembershipFault wide parts f
fails wide parts f h = record { attributes = h.attributes; tail = h.tail; are = h.are; fails = first_fails _ _ f h.fails }

optional : (test : Bool) (f g : WireFault) → fault_if test g ≡ Some f → f ≡ g
optional true f g is = cc
optional false f g is = absurd cc

-- a fault that no check on every UPDATE finds
by_first : (wide : Bool) (parts : UpdateFields) (f : WireFault) (h : HasMembershipFault wide parts f) (first : Option WireFault)
    → update_fault wide parts h.attributes h.tail ≡ first → HasUpdateFault wide parts f ⊎ (f ≡ optional_attribute)
by_first wide parts f h (Some g) is =
    let same : Some g ≡ Some f = sym (first_fails _ _ g is) ∙ h.fails in
    inl (record { attributes = h.attributes; tail = h.tail; are = h.are; fails = is ∙ same })
by_first wide parts f h None is =
    let later : (None then_check fault_if (has_cut_value h.attributes) optional_attribute) ≡ Some f =
    ap (λ (o : Option WireFault). o then_check fault_if (has_cut_value h.attributes) optional_attribute) (sym is) ∙ h.fails in
    inr (optional (has_cut_value h.attributes) f optional_attribute later)

pub fails_so : (wide : Bool) (parts : UpdateFields) (f : WireFault) → HasMembershipFault wide parts f
    → HasUpdateFault wide parts f ⊎ (f ≡ optional_attribute)
fails_so wide parts f h = by_first wide parts f h (update_fault wide parts h.attributes h.tail) refl

then_fails : (a : Option WireFault) (test : Bool) (f : WireFault) → a ≡ None → test ≡ true → (a then_check fault_if test f) ≡ Some f
then_fails None true f none is = refl
then_fails None false f none is = absurd cc
then_fails (Some g) test f none is = absurd cc

-- what the values change, and that one is cut
abbrev pub Tells : UpdateFields → Deltas → Type 0
Tells parts deltas = (all : List AttributeFields) → AreAttributes parts.attributes all [] → AreChanges all deltas

abbrev pub IsCutAs : UpdateFields → WireFault → Type 0
IsCutAs parts f = (f ≡ optional_attribute) × ((all : List AttributeFields) → AreAttributes parts.attributes all [] → has_cut_value all ≡ true)

pub tells : (wide : Bool) (parts : UpdateFields) (routes : List (Delta VpnKey VpnRoute)) (deltas : Deltas) → Changes wide parts routes → Tells parts deltas
    → Asks wide parts deltas
tells wide parts routes deltas c told = asks wide parts deltas c.attributes c.are c.passes (told c.attributes c.are)

pub cuts : (wide : Bool) (parts : UpdateFields) (routes : List (Delta VpnKey VpnRoute)) (f : WireFault) → Changes wide parts routes → IsCutAs parts f
    → HasMembershipFault wide parts f
cuts wide parts routes f c cut = record {
  attributes = c.attributes;
  tail = [];
  are = c.are;
  fails = then_fails _ _ optional_attribute c.passes (cut.1 c.attributes c.are) ∙ ap (λ (g : WireFault). Some g) (sym cut.0);
}

pub form : (wide : Bool) (parts : UpdateFields) (deltas : Deltas) → Asks wide parts deltas → AreAsked deltas
form wide parts deltas c = subst AreAsked (sym c.made) (changes_ask c.withdrawn c.announced c.withdrawn_are.each c.announced_are.each)

-- each change and each fault is found
pub finds : {X : Type 0} (items : X → Deltas) (r : Result X UpdateFault) (wide : Bool) (parts : UpdateFields)
    → IfOk r (λ x. Asks wide parts (items x)) → IfErr r (λ e. IfWire e (HasMembershipFault wide parts))
    → (deltas : Deltas) → Asks wide parts deltas → MatchResult r (λ x. items x ≡ deltas) (λ e. e ≡ NoMemory)
finds items (Ok x) wide parts good bad deltas c = one_changes wide parts (items x) deltas good c
finds items (Err (Wire f)) wide parts good bad deltas c = absurd (never_both wide parts deltas f c bad)
finds items (Err NoMemory) wide parts good bad deltas c = refl

pub finds_fault : {X : Type 0} (items : X → Deltas) (r : Result X UpdateFault) (wide : Bool) (parts : UpdateFields)
    → IfOk r (λ x. Asks wide parts (items x)) → IfErr r (λ e. IfWire e (HasMembershipFault wide parts))
    → (f : WireFault) → HasMembershipFault wide parts f → MatchResult r (λ x. ⊥) (λ e. IfWire e (λ g. g ≡ f))
finds_fault items (Ok x) wide parts good bad f h = never_both wide parts (items x) f good h
finds_fault items (Err (Wire g)) wide parts good bad f h = one_fault wide parts g f bad h
finds_fault items (Err NoMemory) wide parts good bad f h = tt
