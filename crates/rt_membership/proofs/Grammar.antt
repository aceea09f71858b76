-- An UPDATE changes what is asked or has a fault: one of the two, in one way.
use Rattle.std.proofs.Common.{◌≡◌, ◌≤◌, ◌⊎◌, inl, inr, nat_le, ◌&&◌, not, ℕ, List, [], ◌++◌, length, drop, map, refl, ap, sym, ◌∙◌, subst, cond, Option, Some, None, Bool, true, false}
use Rattle.std.proofs.lemmas.Bool.{or_parts, eqb-true, not-false, and_right, and_from, not_from_true, le-leb}
use Rattle.std.proofs.lemmas.List.{nil_from_length}
use Rattle.ov_sync.specs.declared.Delta.{Delta}
use Rattle.bgp_wire.specs.declared.fault.WireFault.{WireFault}
use Rattle.bgp_wire.specs.Content.{UpdateFields}
use Rattle.bgp_wire.specs.Messages.{AreOctets}
use Rattle.bgp_wire.specs.Attributes.{AttributeFields, AreAttributes}
use Rattle.bgp_wire.proofs.Checking.{pass_both, both_pass, fault_if-None, fault_if-false}
use Rattle.bgp_wire.proofs.Attributing.{SomeAttributes, some_split, one_split}
use Rattle.bgp_vpn.specs.Routes.{RouteFields}
use Rattle.bgp_vpn.specs.Values.{value_at}
use Rattle.bgp_vpn.specs.Checks.{update_fault}
use Rattle.rt_membership.specs.declared.asked.Asked.{Asked}
use Rattle.rt_membership.specs.Entries.{AreEntries, are_entries}
use Rattle.rt_membership.specs.Memberships.{is_membership, before_withdrawn, before_reached, is_cut_value, entries_behind, withdrawn_octets, announced_octets, has_cut_value, membership_fault, dropped, put, Asks, HasMembershipFault}
use Rattle.rt_membership.specs.Lying.{AreChanges}
use Rattle.rt_membership.proofs.EntryLemmas.{one_entries, entries_found, entries_test}

-- a value that is not cut has entries
good_value : (before : List ℕ → ℕ) (value : List ℕ) (family long good : Bool) → (family && not (long && good)) ≡ false
    → is_membership value ≡ family → are_entries (drop (before value) value) ≡ good → are_entries (entries_behind before (Some value)) ≡ true
good_value before value true true true h is good = ap (λ (b : Bool). are_entries (cond b (drop (before value) value) [])) is ∙ good
good_value before value true true false h is good = absurd cc
good_value before value true false good h is _ = absurd cc
good_value before value false long good h is _ = ap (λ (b : Bool). are_entries (cond b (drop (before value) value) [])) is

value_good : (before : List ℕ → ℕ) (o : Option (List ℕ)) → is_cut_value before o ≡ false → are_entries (entries_behind before o) ≡ true
value_good before None h = refl
value_good before (Some value) h = good_value before value _ _ _ h refl refl

-- and one that has entries is not cut
pub whole_value : (before : List ℕ → ℕ) (value rest : List ℕ) (n : ℕ) (entries : List RouteFields) → n ≡ before value → n ≤ length value → rest ≡ drop n value
    → AreEntries rest entries → is_cut_value before (Some value) ≡ false
whole_value before value rest n entries is long behind are =
    let test : are_entries (drop (before value) value) ≡ true =
    ap (λ (m : ℕ). are_entries (drop m value)) (sym is) ∙ ap are_entries (sym behind) ∙ entries_test rest entries are in
    let fits : nat_le (before value) (length value) ≡ true = ap (λ (m : ℕ). nat_le m (length value)) (sym is) ∙ le-leb n (length value) long in
    and_right _ _ (not_from_true _ (and_from _ _ fits test))

-- attributes whose values are not cut make changes
pub some_changes : (all : List AttributeFields) → has_cut_value all ≡ false → (deltas : List (Delta Asked Unit)) × AreChanges all deltas
some_changes all whole =
    let parts = or_parts _ _ whole in
    let withdrawn = entries_found (withdrawn_octets all) (value_good before_withdrawn (value_at 15 all) parts.0) in
    let announced = entries_found (announced_octets all) (value_good before_reached (value_at 14 all) parts.1) in (
      map dropped withdrawn.0 ++ map put announced.0,
      record {
        withdrawn = withdrawn.0;
        announced = announced.0;
        whole = whole;
        withdrawn_are = withdrawn.1;
        announced_are = announced.1;
        made = refl;
      },
    )

-- where the checks on every UPDATE pass, nothing is left behind the attributes
no_tail : (wide : Bool) (parts : UpdateFields) (all : List AttributeFields) (tail : List ℕ) → update_fault wide parts all tail ≡ None → tail ≡ []
no_tail wide parts all tail none =
    nil_from_length tail (eqb-true (length tail) 0 (not-false _ (fault_if-None _ _ (pass_both _ _ (pass_both _ _ none).1).0)))

pub asks : (wide : Bool) (parts : UpdateFields) (deltas : List (Delta Asked Unit)) (all : List AttributeFields) → AreAttributes parts.attributes all []
    → update_fault wide parts all [] ≡ None → AreChanges all deltas → Asks wide parts deltas
asks wide parts deltas all are none c = record {
  attributes = all;
  withdrawn = c.withdrawn;
  announced = c.announced;
  are = are;
  passes = both_pass _ _ none (fault_if-false _ _ c.whole);
  withdrawn_are = c.withdrawn_are;
  announced_are = c.announced_are;
  made = c.made;
}

says : (wide : Bool) (parts : UpdateFields) (split : SomeAttributes parts.attributes) (o : Option WireFault) → membership_fault wide parts split.0 split.1 ≡ o
    → ((deltas : List (Delta Asked Unit)) × Asks wide parts deltas) ⊎ ((f : WireFault) × HasMembershipFault wide parts f)
says wide parts split None is =
    let both = pass_both _ _ is in
    let end = no_tail wide parts split.0 split.1 both.0 in
    let changes = some_changes split.0 (fault_if-None _ _ both.1) in
    let are = subst (AreAttributes parts.attributes split.0) end split.2 in
    let none = subst (λ (t : List ℕ). update_fault wide parts split.0 t ≡ None) end both.0 in
    inl (changes.0, asks wide parts changes.0 split.0 are none changes.1)
says wide parts split (Some f) is = inr (f, record { attributes = split.0; tail = split.1; are = split.2; fails = is })

pub one_of_two : (wide : Bool) (parts : UpdateFields) → AreOctets parts.attributes
    → ((deltas : List (Delta Asked Unit)) × Asks wide parts deltas) ⊎ ((f : WireFault) × HasMembershipFault wide parts f)
one_of_two wide parts octets = let split = some_split parts.attributes octets in says wide parts split (membership_fault wide parts split.0 split.1) refl

same_fault : (wide : Bool) (parts : UpdateFields) (s t : List ℕ) (a b : List AttributeFields) → AreAttributes parts.attributes a s → AreAttributes parts.attributes b t
    → membership_fault wide parts a s ≡ membership_fault wide parts b t
same_fault wide parts s t a b x y =
    let same = one_split parts.attributes s t a b x y in
    ap (λ (c : List AttributeFields). membership_fault wide parts c s) same.0 ∙ ap (membership_fault wide parts b) same.1

pub never_both : (wide : Bool) (parts : UpdateFields) (deltas : List (Delta Asked Unit)) (f : WireFault) → Asks wide parts deltas → HasMembershipFault wide parts f → ⊥
never_both wide parts deltas f c h =
    let e = sym c.passes ∙ same_fault wide parts [] h.tail c.attributes h.attributes c.are h.are ∙ h.fails in cc

pub one_fault : (wide : Bool) (parts : UpdateFields) (f g : WireFault) → HasMembershipFault wide parts f → HasMembershipFault wide parts g → f ≡ g
one_fault wide parts f g x y =
    let e = sym x.fails ∙ same_fault wide parts x.tail y.tail x.attributes y.attributes x.are y.are ∙ y.fails in cc

pub one_changes : (wide : Bool) (parts : UpdateFields) (d e : List (Delta Asked Unit)) → Asks wide parts d → Asks wide parts e → d ≡ e
one_changes wide parts d e x y =
    let same = (one_split parts.attributes [] [] x.attributes y.attributes x.are y.are).0 in
    let withdrawn = one_entries (withdrawn_octets y.attributes) x.withdrawn y.withdrawn
    (subst (λ (a : List AttributeFields). AreEntries (withdrawn_octets a) x.withdrawn) same x.withdrawn_are) y.withdrawn_are in
    let announced = one_entries (announced_octets y.attributes) x.announced y.announced
    (subst (λ (a : List AttributeFields). AreEntries (announced_octets a) x.announced) same x.announced_are) y.announced_are in
    x.made ∙ ap (λ (w : List RouteFields). map dropped w ++ map put x.announced) withdrawn
    ∙ ap (λ (a : List RouteFields). map dropped y.withdrawn ++ map put a) announced ∙ sym y.made
