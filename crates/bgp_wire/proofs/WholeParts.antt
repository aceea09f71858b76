-- The parts that octets hold, as a list.
use Rattle.std.proofs.Common.{◌≡◌, ◌≤◌, ℕ, zero, suc, List, [], ◌∷◌, ◌++◌, length, take, drop, refl, ap, sym, ◌∙◌, arith, subst, ◌<◌, Bool, true, cond, nat_le, map, Option, Some, None}
use Rattle.std.specs.Prelude.{IfSome, IfNone}
use Rattle.bgp_wire.specs.declared.part.Front.{Front}
use Rattle.std.specs.List.{flat_map, AllByRecursion}
use Rattle.std.proofs.lemmas.List.{append-nil, length-append, length-drop, take_at, drop_at}
use Rattle.std.proofs.lemmas.Bool.{le-leb, lt-leb}
use Rattle.bgp_wire.specs.Parts.{Part, octets_of, IsOverrun, parts_below, parts_in}
use Rattle.bgp_wire.specs.Opens.{IsCapability, IsParameter, AreCapabilities, AreParameters, parameter_of, parameters_octets}
use Rattle.bgp_wire.specs.Capabilities.{parameters_in}

abbrev part : ℕ → List ℕ → Part
part kind value = record { kind = kind; value = value }

-- more steps than octets find nothing more
enough : (n m : ℕ) (xs : List ℕ) → length xs ≤ n → length xs ≤ m → parts_below n xs ≡ parts_below m xs
enough zero zero xs hn hm = refl
enough zero (suc m) [] hn hm = refl
enough zero (suc m) (x ∷ xs) hn hm = absurd (omega arith)
enough (suc n) zero [] hn hm = refl
enough (suc n) zero (x ∷ xs) hn hm = absurd (omega arith)
enough (suc n) (suc m) [] hn hm = refl
enough (suc n) (suc m) (kind ∷ []) hn hm = refl
enough (suc n) (suc m) (kind ∷ len ∷ rest) hn hm =
    let sizes = length-drop len rest in
    ap (λ (ps : List Part). cond (nat_le len (length rest)) (part kind (take len rest) ∷ ps) [])
    (enough n m (drop len rest) (omega arith) (omega arith))

-- a whole part is the first
pub parts_in-front : (p : Part) (after : List ℕ) → parts_in (octets_of p ++ after) ≡ p ∷ parts_in after
unfolding parts_in
parts_in-front p after =
    let all = p.value ++ after in
    let sizes = length-append p.value after in
    let fits : nat_le (length p.value) (length all) ≡ true = le-leb _ _ (omega arith) in
    let value : take (length p.value) all ≡ p.value = take_at p.value after (length p.value) refl in
    let left : drop (length p.value) all ≡ after = drop_at p.value after (length p.value) refl in
    let n = suc (length all) in
    ap (λ (b : Bool). cond b (part p.kind (take (length p.value) all) ∷ parts_below n (drop (length p.value) all)) []) fits
    ∙ ap (λ (v : List ℕ). part p.kind v ∷ parts_below n (drop (length p.value) all)) value
    ∙ ap (λ (r : List ℕ). p ∷ parts_below n r) left
    ∙ ap (λ (ps : List Part). p ∷ ps) (enough n (length after) after (omega arith) (omega arith))

pub parts_in-nil : parts_in [] ≡ []
unfolding parts_in
parts_in-nil = refl

pub nothing_held : (octets : List ℕ) → length octets ≡ 0 → parts_in octets ≡ []
nothing_held [] none = parts_in-nil
nothing_held (x ∷ xs) none = absurd (omega arith)

-- what overruns holds no whole part
pub parts_in-overrun : (octets : List ℕ) → IsOverrun octets → parts_in octets ≡ []
unfolding parts_in
parts_in-overrun [] over = absurd over
parts_in-overrun (kind ∷ []) over = refl
parts_in-overrun (kind ∷ len ∷ rest) over =
    ap (λ (b : Bool). cond b (part kind (take len rest) ∷ parts_below (suc (length rest)) (drop len rest)) []) (lt-leb _ _ over)

-- what was found at the front is the first, and where nothing was there is none
pub first_found : (octets : List ℕ) (found : Option Front)
    → IfSome found (λ f. octets ≡ octets_of (part f.kind f.value.now) ++ f.after.now)
    → IfSome found (λ f. parts_in octets ≡ part f.kind f.value.now ∷ parts_in f.after.now)
first_found octets None h = tt
first_found octets (Some f) h = ap parts_in h ∙ parts_in-front (part f.kind f.value.now) f.after.now

pub less_is_left : (octets : List ℕ) (found : Option Front)
    → IfSome found (λ f. octets ≡ octets_of (part f.kind f.value.now) ++ f.after.now)
    → IfSome found (λ f. length f.after.now < length octets)
less_is_left octets None h = tt
less_is_left octets (Some f) h =
    let sizes = ap length h ∙ length-append (octets_of (part f.kind f.value.now)) f.after.now in
    omega arith

pub none_found : (octets : List ℕ) (found : Option Front) → IfNone found (IsOverrun octets) → IfNone found (parts_in octets ≡ [])
none_found octets None h = parts_in-overrun octets h
none_found octets (Some f) h = tt

-- whole parts are those that their octets hold
pub parts_in-parts : (ps : List Part) → parts_in (flat_map octets_of ps) ≡ ps
parts_in-parts [] = parts_in-nil
parts_in-parts (p ∷ ps) =
    parts_in-front p (flat_map octets_of ps) ∙ ap (λ (qs : List Part). p ∷ qs) (parts_in-parts ps)

abbrev AreAll : List (List Part) → Type 0
AreAll = AllByRecursion (AllByRecursion IsCapability)

parameters_spelled : (each : List (List Part)) → parts_in (parameters_octets each) ≡ map parameter_of each
parameters_spelled [] = parts_in-nil
parameters_spelled (cs ∷ each) =
    parts_in-front (parameter_of cs) (parameters_octets each) ∙ ap (λ (ps : List Part). parameter_of cs ∷ ps) (parameters_spelled each)

held_in_each : (each : List (List Part)) → map (λ p. parts_in p.value) (map parameter_of each) ≡ each
held_in_each [] = refl
held_in_each (cs ∷ each) =
    ap (λ (ps : List Part). ps ∷ map (λ p. parts_in p.value) (map parameter_of each)) (parts_in-parts cs)
    ∙ ap (λ (ps : List (List Part)). cs ∷ ps) (held_in_each each)

-- parameters are those that their octets hold
pub parameters_held : (each : List (List Part)) → parameters_in (parameters_octets each) ≡ each
parameters_held each = ap (map (λ p. parts_in p.value)) (parameters_spelled each) ∙ held_in_each each

-- parameters of an OPEN hold some
abbrev Held : List Part → Type 0
Held ps = (each : List (List Part)) × (ps ≡ map parameter_of each) × AreAll each

held_of : (ps : List Part) → AllByRecursion IsParameter ps → Held ps
held_of [] all = ([], refl, tt)
held_of (p ∷ ps) all =
    let others = held_of ps all.1 in
    let inner = all.0.1 in
    let value : p.value ≡ flat_map octets_of inner.parts =
    inner.spelled ∙ ap (λ (r : List ℕ). flat_map octets_of inner.parts ++ r) inner.ends ∙ append-nil (flat_map octets_of inner.parts) in
    let same : p ≡ parameter_of inner.parts = ap (λ (k : ℕ). part k p.value) all.0.0 ∙ ap (part 2) value in (
      inner.parts ∷ others.0,
      ap (λ (q : Part). q ∷ ps) same ∙ ap (λ (qs : List Part). parameter_of inner.parts ∷ qs) others.1,
      (inner.each, others.2),
    )

flat_of : (each : List (List Part)) → flat_map octets_of (map parameter_of each) ≡ parameters_octets each
flat_of [] = refl
flat_of (cs ∷ each) = ap (λ (r : List ℕ). octets_of (parameter_of cs) ++ r) (flat_of each)

-- the octets of parameters are those of the capabilities that they hold, which are well formed
pub record AreHeld (octets : List ℕ) : Type 0 where
  pub spelled : octets ≡ parameters_octets (parameters_in octets)
  pub well_formed : AreAll (parameters_in octets)

pub some_held : (octets : List ℕ) → AreParameters octets → AreHeld octets
some_held octets are =
    let held = held_of are.parts are.each in
    let spelled : octets ≡ parameters_octets held.0 =
    are.spelled ∙ ap (λ (r : List ℕ). flat_map octets_of are.parts ++ r) are.ends ∙ append-nil (flat_map octets_of are.parts)
    ∙ ap (flat_map octets_of) held.1 ∙ flat_of held.0 in
    let same : parameters_in octets ≡ held.0 = ap parameters_in spelled ∙ parameters_held held.0 in
    record { spelled = spelled ∙ ap parameters_octets (sym same); well_formed = subst AreAll (sym same) held.2 }

-- and the other way round
each_parameter : (each : List (List Part)) → AreAll each → AllByRecursion IsParameter (map parameter_of each)
each_parameter [] all = tt
each_parameter (cs ∷ each) all =
    let capabilities : AreCapabilities (flat_map octets_of cs) =
    record { parts = cs; each = all.0; rest = []; spelled = sym (append-nil (flat_map octets_of cs)); ends = refl } in
    ((refl, capabilities), each_parameter each all.1)

pub are_parameters : (each : List (List Part)) → AreAll each → AreParameters (parameters_octets each)
are_parameters each all = record {
  parts = map parameter_of each;
  each = each_parameter each all;
  rest = [];
  spelled = sym (flat_of each) ∙ sym (append-nil (flat_map octets_of (map parameter_of each)));
  ends = refl;
}

-- all capabilities of all parameters are well formed
all_of_both : (xs bs : List Part) → AllByRecursion IsCapability xs → AllByRecursion IsCapability bs → AllByRecursion IsCapability (xs ++ bs)
all_of_both [] bs ha hb = hb
all_of_both (a ∷ xs) bs ha hb = (ha.0, all_of_both xs bs ha.1 hb)

all_of_each : (each : List (List Part)) → AreAll each → AllByRecursion IsCapability (flat_map (λ cs. cs) each)
all_of_each [] all = tt
all_of_each (cs ∷ each) all = all_of_both cs (flat_map (λ ds. ds) each) all.0 (all_of_each each all.1)

pub all_well_formed : (octets : List ℕ) → AreParameters octets → AllByRecursion IsCapability (flat_map (λ cs. cs) (parameters_in octets))
all_well_formed octets are = all_of_each (parameters_in octets) (some_held octets are).well_formed
