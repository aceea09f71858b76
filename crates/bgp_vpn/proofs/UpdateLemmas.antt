-- What it means that an UPDATE passes all checks.
use Rattle.bgp_wire.specs.Messages.{AreOctets}
use Rattle.std.proofs.Common.{◌⊎◌, inl, inr, ◌≡◌, ◌==◌, ◌&&◌, ℕ, List, [], ◌∷◌, ◌++◌, length, drop, refl, ap, sym, ◌∙◌, subst, cond, not, Option, Some, None, Bool, true, false, find}
use Rattle.std.specs.Option.{option_map}
use Rattle.std.proofs.lemmas.Bool.{eqb-true, not-false}
use Rattle.std.proofs.lemmas.List.{nil_from_length}
use Rattle.bgp_wire.specs.declared.fault.WireFault.{WireFault}
use Rattle.bgp_wire.specs.Content.{UpdateFields}
use Rattle.bgp_wire.specs.Attributes.{AttributeFields, AreAttributes}
use Rattle.bgp_wire.proofs.Checking.{pass_both, fault_if-None}
use Rattle.bgp_wire.proofs.Attributing.{SomeAttributes, some_split, one_split}
use Rattle.ov_types.specs.declared.vpn.VpnKey.{VpnKey}
use Rattle.ov_types.specs.declared.vpn.VpnRoute.{VpnRoute}
use Rattle.ov_sync.specs.declared.Delta.{Delta}
use Rattle.bgp_vpn.specs.Pieces.{number_size}
use Rattle.bgp_vpn.specs.Segments.{SegmentFields, AreSegments}
use Rattle.bgp_vpn.specs.Profile.{row_of}
use Rattle.bgp_vpn.specs.Routes.{RouteFields, AreRoutes}
use Rattle.bgp_vpn.specs.Values.{value_at, is_vpn, are_routes, routes_behind, withdrawn_octets, reached_octets}
use Rattle.bgp_vpn.specs.declared.reading.Reading.{Reading}
use Rattle.bgp_vpn.specs.Checks.{value_fault, known_fault, fault_in_row, own_fault, attributes_fault, reading_of, update_fault}
use Rattle.bgp_vpn.specs.Updates.{changes_of, Changes, HasUpdateFault}
use Rattle.bgp_vpn.proofs.RouteLemmas.{one_routes}
use Rattle.bgp_vpn.proofs.GrammarLemmas.{prefixes_found, segments_found}

-- the attribute of a type passes the checks on it alone
pub record PassesAt (reading : Reading) (kind : ℕ) (value : List ℕ) : Type 0 where
  pub a : AttributeFields
  pub kind_is : a.kind ≡ kind
  pub value_is : a.value ≡ value
  pub passes : own_fault reading a ≡ None

some_same : (v w : List ℕ) → Some v ≡ Some w → v ≡ w
some_same v w h = cc

passes_of : (reading : Reading) (kind : ℕ) (value : List ℕ) (a : AttributeFields) (others : List AttributeFields) (b : Bool) → (a.kind == kind) ≡ b
    → own_fault reading a ≡ None → (value_at kind others ≡ Some value → PassesAt reading kind value)
    → option_map (λ (x : AttributeFields). x.value) (cond b (Some a) (find (λ x. x.kind == kind) others)) ≡ Some value → PassesAt reading kind value
passes_of reading kind value a others true is passes later found =
    record { a = a; kind_is = eqb-true a.kind kind is; value_is = some_same a.value value found; passes = passes }
passes_of reading kind value a others false is passes later found = later found

passes_at : (reading : Reading) (kind : ℕ) (value : List ℕ) (before all : List AttributeFields) → attributes_fault reading before all ≡ None
    → value_at kind all ≡ Some value → PassesAt reading kind value
passes_at reading kind value before [] passes found = absurd cc
passes_at reading kind value before (a ∷ all) passes found =
    let first = pass_both _ _ passes in
    let own = pass_both _ _ first.0 in
    let test : (b : Bool) → (a.kind == kind) ≡ b → option_map (λ (x : AttributeFields). x.value) (cond b (Some a) (find (λ x. x.kind == kind) all)) ≡ Some value =
    λ b is. ap (λ (c : Bool). option_map (λ (x : AttributeFields). x.value) (cond c (Some a) (find (λ x. x.kind == kind) all))) (sym is) ∙ found in
    passes_of reading kind value a all (a.kind == kind) refl own.1 (passes_at reading kind value (before ++ a ∷ []) all first.1) (test (a.kind == kind) refl)

-- and so does its value
value_passes : (reading : Reading) (kind row : ℕ) (value : List ℕ) → row_of kind ≡ Some row → PassesAt reading kind value
    → value_fault reading kind value ≡ None
value_passes reading kind row value is at =
    let row_is : row_of at.a.kind ≡ Some row = ap row_of at.kind_is ∙ is in
    let known : known_fault reading row at.a ≡ None =
    ap (λ (r : Option ℕ). fault_in_row reading r at.a) (sym row_is) ∙ at.passes in
    let rest = pass_both _ _ (pass_both _ _ known).1 in
    ap (λ (k : ℕ). value_fault reading k value) (sym at.kind_is) ∙ ap (value_fault reading at.a.kind) (sym at.value_is) ∙ rest.1

-- routes of a value that passes are routes
good_withdrawn : (value : List ℕ) (vpn good : Bool) → (vpn && not good) ≡ false → is_vpn value ≡ vpn → are_routes (drop 3 value) ≡ good
    → are_routes (routes_behind 3 (Some value)) ≡ true
good_withdrawn value true true h is good = ap (λ (b : Bool). are_routes (cond b (drop 3 value) [])) is ∙ good
good_withdrawn value true false h is good = absurd cc
good_withdrawn value false good h is _ = ap (λ (b : Bool). are_routes (cond b (drop 3 value) [])) is

good_reached : (value : List ℕ) (vpn a b good : Bool) → (vpn && not (a && (b && good))) ≡ false → is_vpn value ≡ vpn → are_routes (drop 17 value) ≡ good
    → are_routes (routes_behind 17 (Some value)) ≡ true
good_reached value true a b true h is good = ap (λ (b : Bool). are_routes (cond b (drop 17 value) [])) is ∙ good
good_reached value true true true false h is good = absurd cc
good_reached value true true false false h is good = absurd cc
good_reached value true false b false h is good = absurd cc
good_reached value false a b good h is _ = ap (λ (b : Bool). are_routes (cond b (drop 17 value) [])) is

withdrawn_good : (reading : Reading) (all : List AttributeFields) (o : Option (List ℕ)) → attributes_fault reading [] all ≡ None
    → value_at 15 all ≡ o → are_routes (routes_behind 3 o) ≡ true
withdrawn_good reading all None passes is = refl
withdrawn_good reading all (Some value) passes is =
    let none = value_passes reading 15 7 value refl (passes_at reading 15 value [] all passes is) in
    good_withdrawn value (is_vpn value) (are_routes (drop 3 value)) (fault_if-None _ _ none) refl refl

reached_good : (reading : Reading) (all : List AttributeFields) (o : Option (List ℕ)) → attributes_fault reading [] all ≡ None
    → value_at 14 all ≡ o → are_routes (routes_behind 17 o) ≡ true
reached_good reading all None passes is = refl
reached_good reading all (Some value) passes is =
    let none = value_passes reading 14 6 value refl (passes_at reading 14 value [] all passes is) in
    good_reached value (is_vpn value) _ _ (are_routes (drop 17 value)) (fault_if-None _ _ none) refl refl

-- the attributes of an UPDATE that passes, and their routes
pub record Passing (all : List AttributeFields) (tail : List ℕ) : Type 0 where
  pub whole : tail ≡ []
  pub withdrawn : List RouteFields
  pub reached : List RouteFields
  pub withdrawn_are : AreRoutes (withdrawn_octets all) withdrawn
  pub reached_are : AreRoutes (reached_octets all) reached

passing : (wide : Bool) (parts : UpdateFields) (all : List AttributeFields) (tail : List ℕ) → update_fault wide parts all tail ≡ None → Passing all tail
passing wide parts all tail none =
    let first = pass_both _ _ none in
    let second = pass_both _ _ first.1 in
    let size = eqb-true (length tail) 0 (not-false _ (fault_if-None _ _ second.0)) in
    let reading = reading_of wide parts in
    let withdrawn = prefixes_found 88 120 (withdrawn_octets all) (withdrawn_good reading all (value_at 15 all) first.0 refl) in
    let reached = prefixes_found 88 120 (reached_octets all) (reached_good reading all (value_at 14 all) first.0 refl) in
    record {
      whole = nil_from_length tail size;
      withdrawn = withdrawn.0;
      reached = reached.0;
      withdrawn_are = withdrawn.1;
      reached_are = reached.1;
    }

abbrev Deltas : Type 0
Deltas = List (Delta VpnKey VpnRoute)

-- an UPDATE that passes makes the changes of its attributes
passed : (wide : Bool) (parts : UpdateFields) (deltas : Deltas) (all : List AttributeFields) (tail : List ℕ) → AreAttributes parts.attributes all tail
    → update_fault wide parts all tail ≡ None → (p : Passing all tail)
    → (AreAttributes parts.attributes all [] → deltas ≡ changes_of all p.withdrawn p.reached) → Changes wide parts deltas
passed wide parts deltas all tail are none p made =
    let whole : AreAttributes parts.attributes all [] = subst (AreAttributes parts.attributes all) p.whole are in
    record {
      attributes = all;
      withdrawn = p.withdrawn;
      reached = p.reached;
      are = whole;
      passes = ap (update_fault wide parts all) (sym p.whole) ∙ none;
      withdrawn_are = p.withdrawn_are;
      reached_are = p.reached_are;
      made = made whole;
    }

pub makes : (wide : Bool) (parts : UpdateFields) (deltas : Deltas) → SomeAttributes parts.attributes
    → ((all : List AttributeFields) (tail : List ℕ) → AreAttributes parts.attributes all tail → update_fault wide parts all tail ≡ None)
    → ((all : List AttributeFields) (withdrawn reached : List RouteFields) → AreAttributes parts.attributes all []
    → AreRoutes (withdrawn_octets all) withdrawn → AreRoutes (reached_octets all) reached → deltas ≡ changes_of all withdrawn reached)
    → Changes wide parts deltas
makes wide parts deltas split passes made =
    let none = passes split.0 split.1 split.2 in
    let p = passing wide parts split.0 split.1 none in
    passed wide parts deltas split.0 split.1 split.2 none p (λ whole. made split.0 p.withdrawn p.reached whole p.withdrawn_are p.reached_are)

pub fails : (wide : Bool) (parts : UpdateFields) (f : WireFault) → SomeAttributes parts.attributes
    → ((all : List AttributeFields) (tail : List ℕ) → AreAttributes parts.attributes all tail → update_fault wide parts all tail ≡ Some f)
    → HasUpdateFault wide parts f
fails wide parts f split faults = record { attributes = split.0; tail = split.1; are = split.2; fails = faults split.0 split.1 split.2 }

-- an UPDATE makes changes or has a fault
says : (wide : Bool) (parts : UpdateFields) (split : SomeAttributes parts.attributes) (o : Option WireFault) → update_fault wide parts split.0 split.1 ≡ o
    → ((deltas : Deltas) × Changes wide parts deltas) ⊎ ((f : WireFault) × HasUpdateFault wide parts f)
says wide parts split None is =
    let p = passing wide parts split.0 split.1 is in
    let deltas = changes_of split.0 p.withdrawn p.reached in
    inl (deltas, passed wide parts deltas split.0 split.1 split.2 is p (λ whole. refl))
says wide parts split (Some f) is = inr (f, record { attributes = split.0; tail = split.1; are = split.2; fails = is })

pub one_of_two : (wide : Bool) (parts : UpdateFields) → AreOctets parts.attributes
    → ((deltas : Deltas) × Changes wide parts deltas) ⊎ ((f : WireFault) × HasUpdateFault wide parts f)
one_of_two wide parts octets = let split = some_split parts.attributes octets in says wide parts split (update_fault wide parts split.0 split.1) refl

-- the first check that fails on one list of attributes is that on another of the same octets
same_fault : (wide : Bool) (parts : UpdateFields) (s t : List ℕ) (a b : List AttributeFields) → AreAttributes parts.attributes a s → AreAttributes parts.attributes b t
    → update_fault wide parts a s ≡ update_fault wide parts b t
same_fault wide parts s t a b x y =
    let same = one_split parts.attributes s t a b x y in
    ap (λ (c : List AttributeFields). update_fault wide parts c s) same.0 ∙ ap (update_fault wide parts b) same.1

pub never_both : (wide : Bool) (parts : UpdateFields) (deltas : Deltas) (f : WireFault) → Changes wide parts deltas → HasUpdateFault wide parts f → ⊥
never_both wide parts deltas f c h =
    let e = sym c.passes ∙ same_fault wide parts [] h.tail c.attributes h.attributes c.are h.are ∙ h.fails in cc

pub one_fault : (wide : Bool) (parts : UpdateFields) (f g : WireFault) → HasUpdateFault wide parts f → HasUpdateFault wide parts g → f ≡ g
one_fault wide parts f g x y =
    let e = sym x.fails ∙ same_fault wide parts x.tail y.tail x.attributes y.attributes x.are y.are ∙ y.fails in cc

pub one_changes : (wide : Bool) (parts : UpdateFields) (d e : Deltas) → Changes wide parts d → Changes wide parts e → d ≡ e
one_changes wide parts d e x y =
    let same = (one_split parts.attributes [] [] x.attributes y.attributes x.are y.are).0 in
    let withdrawn = one_routes (withdrawn_octets y.attributes) x.withdrawn y.withdrawn
    (subst (λ (a : List AttributeFields). AreRoutes (withdrawn_octets a) x.withdrawn) same x.withdrawn_are) y.withdrawn_are in
    let reached = one_routes (reached_octets y.attributes) x.reached y.reached
    (subst (λ (a : List AttributeFields). AreRoutes (reached_octets a) x.reached) same x.reached_are) y.reached_are in
    x.made ∙ ap (λ (a : List AttributeFields). changes_of a x.withdrawn x.reached) same
    ∙ ap (λ (w : List RouteFields). changes_of y.attributes w x.reached) withdrawn
    ∙ ap (changes_of y.attributes y.withdrawn) reached ∙ sym y.made

-- the AS_PATH of an UPDATE that passes is segments
segments_of : (reading : Reading) (all : List AttributeFields) (path : List ℕ) → attributes_fault reading [] all ≡ None → value_at 2 all ≡ Some path
    → (segments : List SegmentFields) × AreSegments (number_size reading.wide) path segments
segments_of reading all path passes is =
    let none = value_passes reading 2 1 path refl (passes_at reading 2 path [] all passes is) in
    segments_found (number_size reading.wide) path (not-false _ (fault_if-None _ _ none))

pub path_segments : (wide : Bool) (parts : UpdateFields) (deltas : Deltas) (attributes : List AttributeFields) (path : List ℕ)
    → Changes wide parts deltas → AreAttributes parts.attributes attributes [] → value_at 2 attributes ≡ Some path
    → (segments : List SegmentFields) × AreSegments (number_size wide) path segments
path_segments wide parts deltas attributes path c are is =
    let same = (one_split parts.attributes [] [] attributes c.attributes are c.are).0 in
    let first = pass_both _ _ c.passes in
    segments_of (reading_of wide parts) c.attributes path first.0 (ap (value_at 2) (sym same) ∙ is)
