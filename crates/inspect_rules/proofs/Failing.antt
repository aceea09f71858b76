-- What fails of a rule that does not match a packet.
use Rattle.std.proofs.Common.{◌≡◌, ℕ, ◌&&◌, leb, Bool, true, false, cond, Option, Some, None, refl, ap, ◌∙◌, subst}
use Rattle.std.specs.Bool.{Decides}
use Rattle.std.proofs.lemmas.Bool.{leb-true, le-leb, and_parts, and_from, eqb-true, eq-eqb}
use Rattle.ov_types.specs.Access.{in_range}
use Rattle.ov_types.specs.declared.packet.Range16.{Range16}
use Rattle.ov_types.specs.declared.packet.Tuple.{Tuple}
use Rattle.config_types.specs.declared.config.Direction.{Direction}
use Rattle.config_types.specs.declared.config.Direction.TheVariants.{OneWay, BothWays}
use Rattle.config_types.specs.declared.config.Network.{Network}
use Rattle.config_types.specs.declared.config.Protocol.{Protocol}
use Rattle.config_types.specs.declared.config.Protocol.TheVariants as Speaks
use Rattle.policy_rules.specs.Related.{fits}
use Rattle.policy_rules.specs.Matching.{has_protocol, match_by, matches_forwards, matches_mirrored, speaks_both_ways}
use Rattle.policy_rules.specs.Taking.{IsInRange, IsProtocol}
use Rattle.policy_rules.specs.declared.matching.Match.{Match}
use Rattle.policy_rules.specs.declared.numbered.NumberedRule.{NumberedRule}
use Rattle.policy_rules.proofs.Standing.{fits_iff}
use Rattle.inspect_rules.specs.Causes.{failing, fails_forwards, fails_mirrored, first_failing}
use Rattle.inspect_rules.specs.Explaining.{FailsFirst, FailsForwards, FailsMirrored}
use Rattle.inspect_rules.specs.declared.cause.Condition.{Condition}
use Rattle.inspect_rules.specs.declared.cause.Condition.TheVariants as Is

-- what the tests say

in_range_iff : (r : Range16) (n : ℕ) → Decides (in_range r n) (IsInRange r n)
in_range_iff r n = (
  λ h. let parts = and_parts (leb r.lo n) (leb n r.hi) h in record { from = leb-true r.lo n parts.0; to = leb-true n r.hi parts.1 },
  λ k. and_from (leb r.lo n) (leb n r.hi) (le-leb r.lo n k.from) (le-leb n r.hi k.to),
)

has_protocol_iff : (p : Protocol) (n : ℕ) → Decides (has_protocol p n) (IsProtocol p n)
has_protocol_iff Speaks.Any n = (λ h. tt, λ h. refl)
has_protocol_iff (Speaks.Number m) n = (eqb-true m n, eq-eqb m n)

never : {P : Type 0} → Decides false P → ¬ P
never d = λ h. let e : false ≡ true = d.1 h in cc

-- a condition that is the first to fail does fail, and those before it hold
first_fails : {P S D N : Type 0} (p s d n : Bool) → Decides p P → Decides s S → Decides d D → Decides n N
    → (x : Condition) → first_failing p s d n ≡ Some x → FailsFirst P S D N x
first_fails {P} {S} {D} {N} false s d n of_p of_s of_d of_n x h =
    let same : Is.Protocol ≡ x = cc in
    subst (FailsFirst P S D N) same (never of_p)
first_fails {P} {S} {D} {N} true false d n of_p of_s of_d of_n x h =
    let same : Is.SourcePorts ≡ x = cc in
    subst (FailsFirst P S D N) same (of_p.0 refl, never of_s)
first_fails {P} {S} {D} {N} true true false n of_p of_s of_d of_n x h =
    let same : Is.DestinationPorts ≡ x = cc in
    subst (FailsFirst P S D N) same (of_p.0 refl, (of_s.0 refl, never of_d))
first_fails {P} {S} {D} {N} true true true false of_p of_s of_d of_n x h =
    let same : Is.Direction ≡ x = cc in
    subst (FailsFirst P S D N) same (of_p.0 refl, (of_s.0 refl, (of_d.0 refl, never of_n)))
first_fails true true true true of_p of_s of_d of_n x h = cc

-- where none fails all hold, and where one fails not all do
all_hold : (p s d n : Bool) → first_failing p s d n ≡ None → (((n && p) && s) && d) ≡ true
all_hold true true true true h = refl
all_hold false s d n h = cc
all_hold true false d n h = cc
all_hold true true false n h = cc
all_hold true true true false h = cc

one_fails : (n p s d : Bool) (x : Condition) → first_failing p s d n ≡ Some x → (((n && p) && s) && d) ≡ false
one_fails false p s d x h = refl
one_fails true false s d x h = refl
one_fails true true false d x h = refl
one_fails true true true false x h = refl
one_fails true true true true x h = cc

module _ (a b : Network) (t : Tuple) (r : NumberedRule) where
  abbrev protocol : Bool
  protocol = has_protocol r.rule.protocol t.proto

  forwards_fail : (x : Condition) → fails_forwards a b t r.rule ≡ Some x → FailsForwards a b t r.rule x
  forwards_fail x h =
      first_fails protocol (in_range r.rule.source_ports t.sport) (in_range r.rule.destination_ports t.dport) (fits r.rule a b)
      (has_protocol_iff r.rule.protocol t.proto) (in_range_iff r.rule.source_ports t.sport) (in_range_iff r.rule.destination_ports t.dport)
      (fits_iff r.rule a b) x h

  mirrored_fail : (x : Condition) → r.rule.direction ≡ BothWays → fails_mirrored a b t r.rule ≡ Some x → FailsMirrored a b t r.rule (Some x)
  mirrored_fail x way h = (
    way,
    first_fails protocol (in_range r.rule.source_ports t.dport) (in_range r.rule.destination_ports t.sport) (fits r.rule b a)
        (has_protocol_iff r.rule.protocol t.proto) (in_range_iff r.rule.source_ports t.dport) (in_range_iff r.rule.destination_ports t.sport)
        (fits_iff r.rule b a) x h,
  )

  -- what fails of a rule, each way
  failed_by : (direction : Direction) (f m : Option Condition) → r.rule.direction ≡ direction → fails_forwards a b t r.rule ≡ f
      → fails_mirrored a b t r.rule ≡ m → (q : Condition × Option Condition) → failing direction f m ≡ Some q
      → FailsForwards a b t r.rule q.0 × FailsMirrored a b t r.rule q.1
  failed_by direction None m way e g q h = cc
  failed_by OneWay (Some x) m way e g q h =
      let same : (x, None) ≡ q = cc in
      subst (λ (k : Condition × Option Condition). FailsForwards a b t r.rule k.0 × FailsMirrored a b t r.rule k.1) same (forwards_fail x e, way)
  failed_by BothWays (Some x) None way e g q h = cc
  failed_by BothWays (Some x) (Some y) way e g q h =
      let same : (x, Some y) ≡ q = cc in
      subst (λ (k : Condition × Option Condition). FailsForwards a b t r.rule k.0 × FailsMirrored a b t r.rule k.1) same
      (forwards_fail x e, mirrored_fail y way g)

  pub failed : (q : Condition × Option Condition) → failing r.rule.direction (fails_forwards a b t r.rule) (fails_mirrored a b t r.rule) ≡ Some q
      → FailsForwards a b t r.rule q.0 × FailsMirrored a b t r.rule q.1
  failed q h = failed_by r.rule.direction (fails_forwards a b t r.rule) (fails_mirrored a b t r.rule) refl refl refl q h

  -- where nothing fails one way, the rule matches so
  is_forwards : fails_forwards a b t r.rule ≡ None → matches_forwards a b t r.rule ≡ true
  is_forwards h = all_hold protocol (in_range r.rule.source_ports t.sport) (in_range r.rule.destination_ports t.dport) (fits r.rule a b) h

  no_forwards : (x : Condition) → fails_forwards a b t r.rule ≡ Some x → matches_forwards a b t r.rule ≡ false
  no_forwards x h = one_fails (fits r.rule a b) protocol (in_range r.rule.source_ports t.sport) (in_range r.rule.destination_ports t.dport) x h

  abbrev answered : Bool → Bool
  answered way =
      (((way && fits r.rule b a) && protocol) && in_range r.rule.source_ports t.dport) && in_range r.rule.destination_ports t.sport

  is_mirrored : r.rule.direction ≡ BothWays → fails_mirrored a b t r.rule ≡ None → matches_mirrored a b t r.rule ≡ true
  is_mirrored way h =
      ap answered (ap speaks_both_ways way)
      ∙ all_hold protocol (in_range r.rule.source_ports t.dport) (in_range r.rule.destination_ports t.sport) (fits r.rule b a) h

  no_mirrored : (x : Condition) → r.rule.direction ≡ BothWays → fails_mirrored a b t r.rule ≡ Some x → matches_mirrored a b t r.rule ≡ false
  no_mirrored x way h =
      ap answered (ap speaks_both_ways way)
      ∙ one_fails (fits r.rule b a) protocol (in_range r.rule.source_ports t.dport) (in_range r.rule.destination_ports t.sport) x h

  one_way : r.rule.direction ≡ OneWay → matches_mirrored a b t r.rule ≡ false
  one_way way = ap answered (ap speaks_both_ways way)

  abbrev tried : Bool → Bool → Option Match
  tried p q = cond p (Some (record { rule = r; mirrored = false })) (cond q (Some (record { rule = r; mirrored = true })) None)

  by_tests : (p q : Bool) → matches_forwards a b t r.rule ≡ p → matches_mirrored a b t r.rule ≡ q → match_by a b t r ≡ tried p q
  by_tests p q e g = ap (λ (x : Bool). tried x (matches_mirrored a b t r.rule)) e ∙ ap (tried p) g

  abbrev IsMatched : Type 0
  IsMatched = (y : Match) × (match_by a b t r ≡ Some y) × (y.rule ≡ r)

  matched_by : (direction : Direction) (f m : Option Condition) → r.rule.direction ≡ direction → fails_forwards a b t r.rule ≡ f
      → fails_mirrored a b t r.rule ≡ m → failing direction f m ≡ None → IsMatched
  matched_by direction None m way e g h = (
    record { rule = r; mirrored = false },
    by_tests true (matches_mirrored a b t r.rule) (is_forwards e) refl,
    refl,
  )
  matched_by OneWay (Some x) m way e g h = cc
  matched_by BothWays (Some x) None way e g h =
      (record { rule = r; mirrored = true }, by_tests false true (no_forwards x e) (is_mirrored way g), refl)
  matched_by BothWays (Some x) (Some y) way e g h = cc

  pub matched : failing r.rule.direction (fails_forwards a b t r.rule) (fails_mirrored a b t r.rule) ≡ None → IsMatched
  matched h = matched_by r.rule.direction (fails_forwards a b t r.rule) (fails_mirrored a b t r.rule) refl refl refl h

  unmatched_by : (direction : Direction) (f m : Option Condition) → r.rule.direction ≡ direction → fails_forwards a b t r.rule ≡ f
      → fails_mirrored a b t r.rule ≡ m → (q : Condition × Option Condition) → failing direction f m ≡ Some q → match_by a b t r ≡ None
  unmatched_by direction None m way e g q h = cc
  unmatched_by OneWay (Some x) m way e g q h = by_tests false false (no_forwards x e) (one_way way)
  unmatched_by BothWays (Some x) None way e g q h = cc
  unmatched_by BothWays (Some x) (Some y) way e g q h = by_tests false false (no_forwards x e) (no_mirrored y way g)

  pub unmatched : (q : Condition × Option Condition) → failing r.rule.direction (fails_forwards a b t r.rule) (fails_mirrored a b t r.rule) ≡ Some q
      → match_by a b t r ≡ None
  unmatched q h = unmatched_by r.rule.direction (fails_forwards a b t r.rule) (fails_mirrored a b t r.rule) refl refl refl q h
