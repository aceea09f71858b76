-- The test of an OPEN passes exactly where the octets are one.
use Rattle.std.proofs.Common.{◌≡◌, ◌≤◌, ◌<◌, ◌^◌, ℕ, List, [], ◌∷◌, length, drop, refl, ap, sym, ◌∙◌, arith, subst, Bool, true, false, inl, inr}
use Rattle.std.specs.Prelude.{◌==◌, ◌||◌, not}
use Rattle.std.specs.List.{list_all, AllByRecursion}
use Rattle.std.proofs.lemmas.Bool.{and_parts, and_from, or_parts, or_from, or_left, or_right, not-true, not_from_false, eq-eqb, eqb-true, eqb-false, ne_eqb, leb-true, le-leb, or_cases}
use Rattle.std.proofs.lemmas.List.{take_all}
use Rattle.std.proofs.lemmas.Slice.Eq.{bytes_eq-Decides}
use Rattle.byteorder.specs.Numbers.{big_number-reads_back}
use Rattle.bgp_wire.specs.Content.{OpenFields, Content, Opens}
use Rattle.bgp_wire.specs.Frames.{greatest}
use Rattle.bgp_wire.specs.Parts.{Part}
use Rattle.bgp_wire.specs.Capabilities.{parameters_in}
use Rattle.bgp_wire.specs.Opens.{HasFourOctets, IsCapability, IsOpen, open_octets, my_as_at, hold_at, id_at}
use Rattle.bgp_wire.specs.Messages.{IsMessage, BeginsWith}
use Rattle.bgp_wire.specs.Spelling.{framed, spelling}
use Rattle.bgp_wire.proofs.WholeParts.{parameters_held}
use Rattle.decode_answers.specs.OneMessage.{IsOneOpen, is_spelled_by, open_in, is_capability, is_acceptable, is_one_open}

-- what the octets are, they are as a whole
pub whole : (octets : List ℕ) (content : Content) → IsMessage octets content → BeginsWith octets content (length octets)
whole octets content is = record {
  within = omega arith;
  message = subst (λ (o : List ℕ). IsMessage o content) (sym (take_all (length octets) octets (omega arith))) is;
}

pub message_of : (octets : List ℕ) (content : Content) → BeginsWith octets content (length octets) → IsMessage octets content
message_of octets content begins =
    subst (λ (o : List ℕ). IsMessage o content) (take_all (length octets) octets (omega arith)) begins.message

-- the two halves of what is spelled
pub spelled_parts : (octets : List ℕ) (content : Content) → is_spelled_by content octets ≡ true
    → (length octets ≤ 4096) × (spelling content ≡ octets)
spelled_parts octets content h =
    let both = and_parts _ _ h in
    (leb-true (length octets) 4096 both.0, (bytes_eq-Decides (spelling content) octets).0 both.1)

pub spelled_from : (octets : List ℕ) (content : Content) → length octets ≤ 4096 → spelling content ≡ octets
    → is_spelled_by content octets ≡ true
spelled_from octets content most same =
    and_from _ _ (le-leb (length octets) 4096 most) ((bytes_eq-Decides (spelling content) octets).1 same)

-- a test that is asked for only where another holds
pub asked : (test last : Bool) → (not test || last) ≡ true → test ≡ true → last ≡ true
asked true last h e = h
asked false last h e = cc

pub where_asked : (test last : Bool) → (test ≡ true → last ≡ true) → (not test || last) ≡ true
where_asked true last h = h refl
where_asked false last h = refl

four_tested : (c : Part) → HasFourOctets c → (c.kind == 1 || c.kind == 65) ≡ true
four_tested c (inl one) = or_left (c.kind == 1) (c.kind == 65) (eq-eqb c.kind 1 one)
four_tested c (inr other) = or_right (c.kind == 1) (c.kind == 65) (eq-eqb c.kind 65 other)

tested_four : (c : Part) → (c.kind == 1 || c.kind == 65) ≡ true → HasFourOctets c
tested_four c h = elim (or_cases (c.kind == 1) (c.kind == 65) h) [
  | inl one ↦ inl (eqb-true c.kind 1 one)
  | inr other ↦ inr (eqb-true c.kind 65 other)
]

-- a capability is good exactly where its test passes
good_of : (c : Part) → is_capability c ≡ true → IsCapability c
good_of c h four = eqb-true (length c.value) 4 (asked (c.kind == 1 || c.kind == 65) (length c.value == 4) h (four_tested c four))

of_good : (c : Part) → IsCapability c → is_capability c ≡ true
of_good c good =
    where_asked (c.kind == 1 || c.kind == 65) (length c.value == 4) (λ h. eq-eqb (length c.value) 4 (good (tested_four c h)))

-- and so are the capabilities of each parameter
all_good : (cs : List Part) → list_all is_capability cs ≡ true → AllByRecursion IsCapability cs
all_good [] h = tt
all_good (c ∷ cs) h = let both = and_parts _ _ h in (good_of c both.0, all_good cs both.1)

of_all_good : (cs : List Part) → AllByRecursion IsCapability cs → list_all is_capability cs ≡ true
of_all_good [] all = refl
of_all_good (c ∷ cs) all = and_from _ _ (of_good c all.0) (of_all_good cs all.1)

each_good : (each : List (List Part)) → list_all (λ ps. list_all is_capability ps) each ≡ true
    → AllByRecursion (AllByRecursion IsCapability) each
each_good [] h = tt
each_good (cs ∷ each) h = let both = and_parts _ _ h in (all_good cs both.0, each_good each both.1)

of_each_good : (each : List (List Part)) → AllByRecursion (AllByRecursion IsCapability) each
    → list_all (λ ps. list_all is_capability ps) each ≡ true
of_each_good [] all = refl
of_each_good (cs ∷ each) all = and_from _ _ (of_all_good cs all.0) (of_each_good each all.1)

-- what stands in octets that are spelled has room
my_as_small : (o : OpenFields) → my_as_at (open_octets o) < 2 ^ 16
my_as_small o = omega arith

hold_small : (o : OpenFields) → hold_at (open_octets o) < 2 ^ 16
hold_small o = omega arith

id_small : (o : OpenFields) → id_at (open_octets o) < 2 ^ 32
id_small o = omega arith

-- fields that pass, and are what stands in their own octets
pub open_is : (o : OpenFields) → o ≡ open_in (open_octets o) → is_acceptable o ≡ true → IsOpen (open_octets o) o
open_is o same h =
    let first = and_parts _ _ h in
    let second = and_parts _ _ first.1 in
    let holds = or_parts (o.hold == 1) (o.hold == 2) (not-true _ first.0) in
    record {
      spelled = refl;
      my_as = let e = ap (λ (p : OpenFields). p.my_as) same in omega (arith, e, my_as_small o);
      hold = let e = ap (λ (p : OpenFields). p.hold) same in omega (arith, e, hold_small o);
      id = let e = ap (λ (p : OpenFields). p.id) same in omega (arith, e, id_small o);
      hold_time = (eqb-false o.hold 1 holds.0, eqb-false o.hold 2 holds.1);
      identifier = eqb-false o.id 0 (not-true _ second.0);
      parameters = each_good o.parameters second.1;
    }

pub open_message : (o : OpenFields) → length (spelling (Opens o)) ≤ 4096 → IsOpen (open_octets o) o
    → IsMessage (spelling (Opens o)) (Opens o)
open_message o most is = record {
  kind = _;
  body = open_octets o;
  frame = record { spelled = refl; least_length = omega arith; greatest_length = omega arith };
  says = (refl, is);
}

-- octets that pass the test are one OPEN
pub passed_open : (octets : List ℕ) → is_one_open octets ≡ true → IsOneOpen octets (open_in (drop 19 octets))
unfolding is_one_open
passed_open octets h =
    let o = open_in (drop 19 octets) in
    let both = and_parts _ _ h in
    let spelled = spelled_parts octets (Opens o) both.0 in
    let body : open_octets o ≡ drop 19 octets = ap (drop 19) spelled.1 in
    let same : o ≡ open_in (open_octets o) = ap open_in (sym body) in
    let most : length (spelling (Opens o)) ≤ 4096 = subst (λ (x : List ℕ). length x ≤ 4096) (sym spelled.1) spelled.0 in
    whole octets (Opens o)
    (subst (λ (x : List ℕ). IsMessage x (Opens o)) spelled.1 (open_message o most (open_is o same both.1)))

abbrev fields : ℕ → ℕ → ℕ → List (List Part) → OpenFields
fields my_as hold id parameters = record { my_as = my_as; hold = hold; id = id; parameters = parameters }

stands_in_spelled : (o : OpenFields) → o.my_as < 2 ^ 16 → o.hold < 2 ^ 16 → o.id < 2 ^ 32 → open_in (open_octets o) ≡ o
stands_in_spelled o my_as hold id =
    let body = open_octets o in
    let first : my_as_at body ≡ o.my_as = big_number-reads_back 2 o.my_as (drop 3 body) my_as in
    let second : hold_at body ≡ o.hold = big_number-reads_back 2 o.hold (drop 5 body) hold in
    let third : id_at body ≡ o.id = big_number-reads_back 4 o.id (drop 9 body) id in
    ap (λ (n : ℕ). fields n (hold_at body) (id_at body) (parameters_in (drop 10 body))) first
    ∙ ap (λ (n : ℕ). fields o.my_as n (id_at body) (parameters_in (drop 10 body))) second
    ∙ ap (λ (n : ℕ). fields o.my_as o.hold n (parameters_in (drop 10 body))) third
    ∙ ap (fields o.my_as o.hold o.id) (parameters_held o.parameters)

-- what stands in the body of an OPEN are its fields
pub stands_in : (body : List ℕ) (o : OpenFields) → IsOpen body o → open_in body ≡ o
stands_in body o is = ap open_in is.spelled ∙ stands_in_spelled o is.my_as is.hold is.id

-- the fields of an OPEN pass
acceptable : (body : List ℕ) (o : OpenFields) → IsOpen body o → is_acceptable o ≡ true
acceptable body o is =
    and_from _ _
    (not_from_false _ (or_from (o.hold == 1) (o.hold == 2) (ne_eqb o.hold 1 is.hold_time.0) (ne_eqb o.hold 2 is.hold_time.1)))
    (and_from _ _ (not_from_false _ (ne_eqb o.id 0 is.identifier)) (of_each_good o.parameters is.parameters))

-- an OPEN is spelled by its fields, in no more octets than it may have
record IsSpelled (octets : List ℕ) (o : OpenFields) : Type 0 where
  spelled : octets ≡ spelling (Opens o)
  most : length octets ≤ 4096

spelled_again : (octets : List ℕ) (o : OpenFields) → IsMessage octets (Opens o) → IsSpelled octets o
spelled_again octets o m =
    let kind = m.says.0 in
    let body = m.says.1.spelled in
    let spelled : octets ≡ spelling (Opens o) = m.frame.spelled ∙ ap (framed m.kind) body ∙ ap (λ k. framed k (open_octets o)) kind in
    let greatest = ap greatest kind in
    let sizes = ap length m.frame.spelled in
    record { spelled = spelled; most = omega (arith, m.frame.greatest_length, greatest, sizes) }

-- one OPEN passes the test
pub open_passes : (octets : List ℕ) (o : OpenFields) → IsOneOpen octets o → is_one_open octets ≡ true
unfolding is_one_open
open_passes octets o one =
    let m = message_of octets (Opens o) one in
    let is = spelled_again octets o m in
    let fine : IsOpen (open_octets o) o = subst (λ (b : List ℕ). IsOpen b o) m.says.1.spelled m.says.1 in
    let same : open_in (drop 19 octets) ≡ o = ap (λ (x : List ℕ). open_in (drop 19 x)) is.spelled ∙ stands_in (open_octets o) o fine in
    and_from _ _
    (spelled_from octets (Opens (open_in (drop 19 octets))) is.most (ap (λ (p : OpenFields). spelling (Opens p)) same ∙ sym is.spelled))
    (ap is_acceptable same ∙ acceptable m.body o m.says.1)
