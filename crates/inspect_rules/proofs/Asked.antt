-- The rules that are asked between two networks.
use Rattle.std.proofs.Common.{◌≡◌, eqb, Bool, true, false, List, [], ◌∷◌, ◌++◌, Option, Some, None, refl, sym, ap, ◌∙◌, subst}
use Rattle.std.specs.Prelude.{find, option_map}
use Rattle.std.specs.List.{AllZip, Contains}
use Rattle.std.proofs.lemmas.Bool.{eqb-true, eq-eqb}
use Rattle.std.proofs.lemmas.List.Elements.{All-contains, Contains-append_right}
use Rattle.ov_types.specs.First.{◌<|>◌, first_of}
use Rattle.ov_types.specs.declared.packet.Tuple.{Tuple}
use Rattle.ov_types.proofs.FirstLemmas.{contains_here, contains_later, find_none, found_is}
use Rattle.config_types.specs.declared.config.Config.{Config}
use Rattle.config_types.specs.declared.config.Network.{Network}
use Rattle.config_types.specs.declared.config.Policy.{Policy}
use Rattle.policy_rules.specs.Matching.{deciding, match_by}
use Rattle.policy_rules.specs.Related.{rules_between}
use Rattle.policy_rules.specs.Standing.{IsBetween}
use Rattle.policy_rules.specs.declared.matching.Match.{Match}
use Rattle.policy_rules.specs.declared.numbered.NumberedRule.{NumberedRule}
use Rattle.policy_rules.proofs.Standing.{between_iff}
use Rattle.policy_rules.proofs.Taking.{deciding_iff}
use Rattle.inspect_rules.specs.Causes.{asked, decided, failing, fails_forwards, fails_mirrored, leading, leading_by, policy_of, skipped}
use Rattle.inspect_rules.specs.Explaining.{AreAsked, Ends, IsNamed, IsSkipped}
use Rattle.inspect_rules.specs.declared.cause.Cause.{Cause}
use Rattle.inspect_rules.specs.declared.cause.Cause.TheVariants as Of
use Rattle.inspect_rules.specs.declared.cause.Condition.{Condition}
use Rattle.inspect_rules.proofs.Failing.{failed, matched, unmatched}

-- the policy of a rule between two networks is found
named : (c : Config) (a b : Network) (r : NumberedRule) → IsBetween c a b r → IsNamed c r.number (policy_of c r.number)
named c a b r h =
    let test : Policy → Bool = λ p. eqb p.sequence r.number.sequence in
    elim (find test c.policies) as (λ o. find test c.policies ≡ o → IsNamed c r.number (option_map (λ (p : Policy). p.name) o)) [
      | None ↦ λ e.
          let fails : test h.policy ≡ false = All-contains (λ (p : Policy). test p ≡ false) c.policies h.policy ((find_none test c.policies).0 e) h.configured in
          let never : true ≡ false = sym (eq-eqb h.policy.sequence r.number.sequence (sym h.sequence)) ∙ fails in
          absurd cc
      | Some q ↦ λ e. let f = found_is test c.policies q e in (q, f.1, eqb-true q.sequence r.number.sequence f.0, refl)
    ] refl

module _ (c : Config) (a b : Network) (t : Tuple) where
  abbrev what_fails : NumberedRule → Option (Condition × Option Condition)
  what_fails r = failing r.rule.direction (fails_forwards a b t r.rule) (fails_mirrored a b t r.rule)

  abbrev told : NumberedRule → Condition × Option Condition → Cause
  told r q = Of.Skipped r.number (policy_of c r.number) q.0 q.1

  -- the first of the rules left is the one that is found, and none is found where none is left
  abbrev Found : List NumberedRule → List NumberedRule → Type 0
  Found rs [] = first_of (match_by a b t) rs ≡ None
  Found rs (r ∷ others) = (y : Match) × (first_of (match_by a b t) rs ≡ Some y) × (y.rule ≡ r)

  found_so : (rs more others : List NumberedRule) → first_of (match_by a b t) more ≡ first_of (match_by a b t) rs → Found rs others → Found more others
  found_so rs more [] e h = e ∙ h
  found_so rs more (r ∷ others) e h = (h.0, e ∙ h.1, h.2)

  record Parted (rs : List NumberedRule) : Type 0 where
    pub before : List NumberedRule
    pub others : List NumberedRule
    pub rules : rs ≡ before ++ others
    pub each : AllZip (IsSkipped c a b t) before (leading (skipped c a b t) rs)
    pub found : Found rs others

  skip : (r : NumberedRule) → IsNamed c r.number (policy_of c r.number) → (q : Condition × Option Condition) → what_fails r ≡ Some q
      → IsSkipped c a b t r (told r q)
  skip r name q h =
      let fails = failed a b t r q h in
      record {
        policy = policy_of c r.number;
        forwards = q.0;
        mirrored = q.1;
        is = refl;
        named = name;
        fails_forwards = fails.0;
        fails_mirrored = fails.1;
      }

  parted : (rs : List NumberedRule) → ((r : NumberedRule) → Contains rs r → IsBetween c a b r) → Parted rs
  parted [] stands = record { before = []; others = []; rules = refl; each = tt; found = refl }
  parted (r ∷ rs) stands =
      let rest : List Cause = leading (skipped c a b t) rs in
      elim (what_fails r) as (λ o. what_fails r ≡ o → Parted (r ∷ rs)) [
        | None ↦ λ e.
            let m = matched a b t r e in
            record {
              before = [];
              others = r ∷ rs;
              rules = refl;
              each = subst (λ (o : Option (Condition × Option Condition)). AllZip (IsSkipped c a b t) [] (leading_by (option_map (told r) o) rest)) (sym e) tt;
              found = (m.0, ap (λ (o : Option Match). o <|> first_of (match_by a b t) rs) m.1, m.2);
            }
        | Some q ↦ λ e.
            let later = parted rs (λ u at. stands u (contains_later u r rs at)) in
            let here = skip r (named c a b r (stands r (contains_here r rs))) q e in
            record {
              before = r ∷ later.before;
              others = later.others;
              rules = ap (λ (l : List NumberedRule). r ∷ l) later.rules;
              each = subst (λ (o : Option (Condition × Option Condition)). AllZip (IsSkipped c a b t) (r ∷ later.before) (leading_by (option_map (told r) o) rest)) (sym e) (here, later.each);
              found = found_so rs (r ∷ rs) later.others (ap (λ (o : Option Match). o <|> first_of (match_by a b t) rs) (unmatched a b t r q e)) later.found;
            }
      ] refl

  deciding_is : deciding c a b t ≡ first_of (match_by a b t) (rules_between c a b)
  unfolding deciding
  deciding_is = refl

  ends : (others : List NumberedRule) → Found (rules_between c a b) others → ((r : NumberedRule) → Contains others r → IsBetween c a b r)
      → Ends c a b t others (decided c (deciding c a b t))
  ends [] h stands = subst (λ (o : Option Match). Ends c a b t [] (decided c o)) (sym (deciding_is ∙ h)) tt
  ends (r ∷ others) h stands =
      let decides : deciding c a b t ≡ Some h.0 = deciding_is ∙ h.1 in
      subst (λ (o : Option Match). Ends c a b t (r ∷ others) (decided c o)) (sym decides) (record {
        decider = h.0;
        decides = (deciding_iff c a b t h.0).0 decides;
        rule = h.2;
        policy = policy_of c r.number;
        is = ap (λ (x : NumberedRule). Of.Decided x.number (policy_of c x.number) h.0.mirrored) h.2;
        named = named c a b r (stands r (contains_here r others));
      })

  pub are_asked : AreAsked c a b t (asked c a b t)
  are_asked =
      let p = parted (rules_between c a b) (λ r at. (between_iff c a b r).0 at) in
      let left : (r : NumberedRule) → Contains p.others r → IsBetween c a b r = λ r at.
      (between_iff c a b r).0
      (subst (λ (l : List NumberedRule). Contains l r) (sym p.rules) (Contains-append_right p.before p.others r at)) in
      record {
        before = p.before;
        others = p.others;
        rules = p.rules;
        skipped = leading (skipped c a b t) (rules_between c a b);
        last = decided c (deciding c a b t);
        are = refl;
        each = p.each;
        ends = ends p.others p.found left;
      }
