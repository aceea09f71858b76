-- The rule that decides is the first that matches either way.
use Rattle.std.proofs.Common.{◌≡◌, ◌↔◌, ℕ, zero, suc, ◌<◌, ◌&&◌, leb, Bool, true, false, cond, List, [], ◌∷◌, Option, Some, None, get_or, refl, sym, ap, ◌∙◌, subst, arith}
use Rattle.std.specs.Bool.{Decides}
use Rattle.std.specs.List.{All, slice_get}
use Rattle.std.proofs.lemmas.Bool.{leb-true, le-leb, and_parts, eqb-true, eq-eqb, and_from}
use Rattle.ov_types.specs.declared.packet.Range16.{Range16}
use Rattle.ov_types.specs.declared.packet.Tuple.{Tuple}
use Rattle.config_types.specs.declared.config.Config.{Config}
use Rattle.config_types.specs.declared.config.Direction.{Direction}
use Rattle.config_types.specs.declared.config.Direction.TheVariants.{OneWay, BothWays}
use Rattle.config_types.specs.declared.config.Network.{Network}
use Rattle.config_types.specs.declared.config.Protocol.{Protocol}
use Rattle.config_types.specs.declared.config.Protocol.TheVariants.{Any, Number}
use Rattle.config_types.specs.declared.config.Rule.{Rule}
use Rattle.ov_types.specs.First.{◌<|>◌, first_of}
use Rattle.ov_types.proofs.FirstLemmas.{mapped_none, first_of_none}
use Rattle.policy_rules.specs.Related.{NumberedRule, fits, rules_between}
use Rattle.ov_types.specs.Access.{in_range}
use Rattle.policy_rules.specs.Matching.{Match, has_protocol, speaks_both_ways, matches_forwards, matches_mirrored, match_by, deciding, decision_by, decision}
use Rattle.policy_rules.specs.Taking.{IsInRange, IsProtocol, MatchesForwards, MatchesMirrored, MatchesNot, IsTaken, IsDeciding}
use Rattle.policy_rules.proofs.Standing.{fits_iff}

-- the first answer of a list's items, and its place

pub record IsFirstAnswer {A B : Type 0} (f : A → Option B) (xs : List A) (y : B) : Type 0 where
  pub place : ℕ
  pub item : A
  pub there : slice_get xs place ≡ Some item
  pub gives : f item ≡ Some y
  pub first : (k : ℕ) (x : A) → k < place → slice_get xs k ≡ Some x → f x ≡ None

one_more : {A B : Type 0} (f : A → Option B) (x : A) (xs : List A) (place : ℕ) → f x ≡ None
    → ((k : ℕ) (u : A) → k < place → slice_get xs k ≡ Some u → f u ≡ None) → (k : ℕ) (u : A) → k < suc place → slice_get (x ∷ xs) k ≡ Some u → f u ≡ None
one_more f x xs place e rest zero u lt at = let same : x ≡ u = cc in ap f (sym same) ∙ e
one_more f x xs place e rest (suc k) u lt at = rest k u (omega arith) at

pub first_answer : {A B : Type 0} (f : A → Option B) (xs : List A) (y : B) → first_of f xs ≡ Some y → IsFirstAnswer f xs y
first_answer f [] y h = cc
first_answer {A} {B} f (x ∷ xs) y h =
    elim (f x) as (λ o. f x ≡ o → (o <|> first_of f xs) ≡ Some y → IsFirstAnswer f (x ∷ xs) y) [
      | None ↦ λ e k.
          let rest = first_answer f xs y k in
          record { place = suc rest.place; item = rest.item; there = rest.there; gives = rest.gives; first = one_more f x xs rest.place e rest.first }
      | Some z ↦ λ e k. record { place = 0; item = x; there = refl; gives = e ∙ k; first = λ k u lt at. absurd (omega arith) }
    ] refl h

answers_at : {A B : Type 0} (f : A → Option B) (xs : List A) (y : B) (place : ℕ) (item : A) → slice_get xs place ≡ Some item → f item ≡ Some y
    → ((k : ℕ) (x : A) → k < place → slice_get xs k ≡ Some x → f x ≡ None) → first_of f xs ≡ Some y
answers_at f [] y place item there gives first = cc
answers_at f (x ∷ xs) y zero item there gives first =
    let same : x ≡ item = cc in
    let here : f x ≡ Some y = ap f same ∙ gives in
    rw here refl
answers_at f (x ∷ xs) y (suc place) item there gives first =
    let none : f x ≡ None = first 0 x (omega arith) refl in
    rw none (answers_at f xs y place item there gives (λ k u lt at. first (suc k) u (omega arith) at))

pub is_first_answer : {A B : Type 0} (f : A → Option B) (xs : List A) (y : B) → IsFirstAnswer f xs y → first_of f xs ≡ Some y
is_first_answer f xs y h = answers_at f xs y h.place h.item h.there h.gives h.first

-- what the tests say

in_range_iff : (r : Range16) (n : ℕ) → Decides (in_range r n) (IsInRange r n)
in_range_iff r n = (
  λ h. let parts = and_parts (leb r.lo n) (leb n r.hi) h in record { from = leb-true r.lo n parts.0; to = leb-true n r.hi parts.1 },
  λ k. and_from (leb r.lo n) (leb n r.hi) (le-leb r.lo n k.from) (le-leb n r.hi k.to),
)

has_protocol_iff : (p : Protocol) (n : ℕ) → Decides (has_protocol p n) (IsProtocol p n)
has_protocol_iff Any n = (λ h. tt, λ h. refl)
has_protocol_iff (Number m) n = (eqb-true m n, eq-eqb m n)

both_ways_iff : (d : Direction) → Decides (speaks_both_ways d) (d ≡ BothWays)
both_ways_iff OneWay = (λ h. cc, λ h. cc)
both_ways_iff BothWays = (λ h. refl, λ h. refl)

forwards_iff : (a b : Network) (t : Tuple) (r : Rule) → Decides (matches_forwards a b t r) (MatchesForwards a b t r)
forwards_iff a b t r =
    let q1 : Bool = fits r a b in
    let q2 : Bool = has_protocol r.protocol t.proto in
    let q3 : Bool = in_range r.source_ports t.sport in
    let q4 : Bool = in_range r.destination_ports t.dport in (
      λ h.
          let p4 = and_parts ((q1 && q2) && q3) q4 h in
          let p3 = and_parts (q1 && q2) q3 p4.0 in
          let p2 = and_parts q1 q2 p3.0 in
          let ends = (fits_iff r a b).0 p2.0 in
          record {
            source = ends.0;
            destination = ends.1;
            protocol = (has_protocol_iff r.protocol t.proto).0 p2.1;
            source_port = (in_range_iff r.source_ports t.sport).0 p3.1;
            destination_port = (in_range_iff r.destination_ports t.dport).0 p4.1;
          },
      λ k.
          and_from ((q1 && q2) && q3) q4
          (and_from (q1 && q2) q3 (and_from q1 q2 ((fits_iff r a b).1 (k.source, k.destination)) ((has_protocol_iff r.protocol t.proto).1 k.protocol))
          ((in_range_iff r.source_ports t.sport).1 k.source_port))
          ((in_range_iff r.destination_ports t.dport).1 k.destination_port),
    )

mirrored_iff : (a b : Network) (t : Tuple) (r : Rule) → Decides (matches_mirrored a b t r) (MatchesMirrored a b t r)
mirrored_iff a b t r =
    let q0 : Bool = speaks_both_ways r.direction in
    let q1 : Bool = fits r b a in
    let q2 : Bool = has_protocol r.protocol t.proto in
    let q3 : Bool = in_range r.source_ports t.dport in
    let q4 : Bool = in_range r.destination_ports t.sport in (
      λ h.
          let p4 = and_parts (((q0 && q1) && q2) && q3) q4 h in
          let p3 = and_parts ((q0 && q1) && q2) q3 p4.0 in
          let p2 = and_parts (q0 && q1) q2 p3.0 in
          let p1 = and_parts q0 q1 p2.0 in
          let ends = (fits_iff r b a).0 p1.1 in
          record {
            both_ways = (both_ways_iff r.direction).0 p1.0;
            source = ends.0;
            destination = ends.1;
            protocol = (has_protocol_iff r.protocol t.proto).0 p2.1;
            source_port = (in_range_iff r.source_ports t.dport).0 p3.1;
            destination_port = (in_range_iff r.destination_ports t.sport).0 p4.1;
          },
      λ k.
          and_from (((q0 && q1) && q2) && q3) q4
          (and_from ((q0 && q1) && q2) q3
          (and_from (q0 && q1) q2 (and_from q0 q1 ((both_ways_iff r.direction).1 k.both_ways) ((fits_iff r b a).1 (k.source, k.destination))) ((has_protocol_iff r.protocol t.proto).1 k.protocol))
          ((in_range_iff r.source_ports t.dport).1 k.source_port))
          ((in_range_iff r.destination_ports t.sport).1 k.destination_port),
    )

-- how a rule is taken

abbrev tried : NumberedRule → Bool → Bool → Option Match
tried r p q = cond p (Some (record { rule = r; mirrored = false })) (cond q (Some (record { rule = r; mirrored = true })) None)

never : {P : Type 0} → Decides false P → ¬ P
never d = λ h. let e : false ≡ true = d.1 h in absurd cc

abbrev TakenBy : Type 0 → Type 0 → Bool → Type 0
TakenBy P Q false = P
TakenBy P Q true = Q × ¬ P

taken_by : {P Q : Type 0} (r : NumberedRule) (p q : Bool) → Decides p P → Decides q Q → (m : Match) → tried r p q ≡ Some m → (m.rule ≡ r) × TakenBy P Q m.mirrored
taken_by {P} {Q} r true q d e m h =
    let same : record { rule = r; mirrored = false } ≡ m = cc in
    subst (λ (k : Match). (k.rule ≡ r) × TakenBy P Q k.mirrored) same (refl, d.0 refl)
taken_by {P} {Q} r false true d e m h =
    let same : record { rule = r; mirrored = true } ≡ m = cc in
    subst (λ (k : Match). (k.rule ≡ r) × TakenBy P Q k.mirrored) same (refl, (e.0 refl, never d))
taken_by r false false d e m h = cc

match_is : (r : NumberedRule) (m : Match) (x : Bool) → m.rule ≡ r → m.mirrored ≡ x → record { rule = r; mirrored = x } ≡ m
match_is r m x e f =
    let same : record { rule = r; mirrored = x } ≡ record { rule = m.rule; mirrored = m.mirrored } = cc in
    same

take : {P Q : Type 0} (r : NumberedRule) (p q : Bool) → Decides p P → Decides q Q → (m : Match) (x : Bool) → m.rule ≡ r → m.mirrored ≡ x → TakenBy P Q x → tried r p q ≡ Some m
take r p q d e m false same way h = rw (d.1 h) (ap Some (match_is r m false same way))
take r true q d e m true same way h = absurd (h.1 (d.0 refl))
take r false q d e m true same way h = rw (e.1 h.0) (ap Some (match_is r m true same way))

untried : {P Q : Type 0} (r : NumberedRule) (p q : Bool) → Decides p P → Decides q Q → tried r p q ≡ None → (¬ P) × (¬ Q)
untried r true q d e h = cc
untried r false true d e h = cc
untried r false false d e h = (never d, never e)

try_none : {P Q : Type 0} (r : NumberedRule) (p q : Bool) → Decides p P → Decides q Q → ¬ P → ¬ Q → tried r p q ≡ None
try_none r true q d e no_p no_q = absurd (no_p (d.0 refl))
try_none r false true d e no_p no_q = absurd (no_q (e.0 refl))
try_none r false false d e no_p no_q = refl

match_none_iff : (a b : Network) (t : Tuple) (r : NumberedRule) → (match_by a b t r ≡ None) ↔ MatchesNot a b t r.rule
match_none_iff a b t r =
    let f = forwards_iff a b t r.rule in
    let g = mirrored_iff a b t r.rule in (
      λ h.
          let neither = untried r (matches_forwards a b t r.rule) (matches_mirrored a b t r.rule) f g h in
          record { not_forwards = neither.0; not_mirrored = neither.1 },
      λ k. try_none r (matches_forwards a b t r.rule) (matches_mirrored a b t r.rule) f g k.not_forwards k.not_mirrored,
    )

as_taken : (a b : Network) (t : Tuple) (r : Rule) (x : Bool) → TakenBy (MatchesForwards a b t r) (MatchesMirrored a b t r) x → IsTaken a b t r x
as_taken a b t r false h = h
as_taken a b t r true h = h

by_taken : (a b : Network) (t : Tuple) (r : Rule) (x : Bool) → IsTaken a b t r x → TakenBy (MatchesForwards a b t r) (MatchesMirrored a b t r) x
by_taken a b t r false h = h
by_taken a b t r true h = h

-- the rule that decides

pub deciding_iff : (c : Config) (a b : Network) (t : Tuple) (m : Match) → (deciding c a b t ≡ Some m) ↔ IsDeciding c a b t m
unfolding deciding
deciding_iff c a b t m =
    let rs : List NumberedRule = rules_between c a b in (
      λ h.
          let one = first_answer (match_by a b t) rs m h in
          let r : NumberedRule = one.item in
          let way = taken_by r (matches_forwards a b t r.rule) (matches_mirrored a b t r.rule) (forwards_iff a b t r.rule) (mirrored_iff a b t r.rule) m one.gives in
          let rule : r ≡ m.rule = sym way.0 in
          record {
            place = one.place;
            stands = one.there ∙ ap Some rule;
            taken = subst (λ (x : NumberedRule). IsTaken a b t x.rule m.mirrored) rule (as_taken a b t r.rule m.mirrored way.1);
            first = λ k u lt at. (match_none_iff a b t u).0 (one.first k u lt at);
          },
      λ k.
          is_first_answer (match_by a b t) rs m (record {
            place = k.place;
            item = m.rule;
            there = k.stands;
            gives = take m.rule (matches_forwards a b t m.rule.rule) (matches_mirrored a b t m.rule.rule) (forwards_iff a b t m.rule.rule) (mirrored_iff a b t m.rule.rule) m m.mirrored refl refl (by_taken a b t m.rule.rule m.mirrored k.taken);
            first = λ j u lt at. (match_none_iff a b t u).1 (k.first j u lt at);
          }),
    )

pub undecided_iff : (c : Config) (a b : Network) (t : Tuple) → (deciding c a b t ≡ None) ↔ All (λ r. MatchesNot a b t r.rule) (rules_between c a b)
unfolding deciding
undecided_iff c a b t =
    let rs : List NumberedRule = rules_between c a b in
    let none = first_of_none (match_by a b t) rs in (
      λ h k d lt. (match_none_iff a b t (get_or rs k d)).0 (none.0 h k d lt),
      λ h. none.1 (λ k d lt. (match_none_iff a b t (get_or rs k d)).1 (h k d lt)),
    )

pub no_decision_iff : (c : Config) (a b : Network) (t : Tuple) → (decision c a b t ≡ None) ↔ All (λ r. MatchesNot a b t r.rule) (rules_between c a b)
no_decision_iff c a b t =
    let mapped = mapped_none decision_by (deciding c a b t) in
    let none = undecided_iff c a b t in
    (λ h. none.0 (mapped.0 h), λ h. mapped.1 (none.1 h))
