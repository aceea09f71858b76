-- The rules that decide are those of claims to which the claims before them leave something.
use Rattle.std.proofs.Common.{◌≡◌, inl, inr, ◌&&◌, ◌||◌, ◌<◌, ◌+◌, ℕ, length, get_or, take, drop, Bool, true, false, not, cond, IsTrue, List, [], ◌∷◌, ◌++◌, Option, Some, None, refl, sym, ap, ◌∙◌, subst, arith, append_assoc}
use Rattle.std.specs.List.{Contains, list_any}
use Rattle.std.specs.BTreeSet.{BTreeSet}
use Rattle.std.proofs.lemmas.Bool.{and_from, and_parts}
use Rattle.std.proofs.lemmas.List.{take_more, drop_more}
use Rattle.std.proofs.lemmas.List.Elements.{All-contains}
use Rattle.std.proofs.lemmas.List.Folds.{Any-from_list_any}
use Rattle.ov_types.specs.First.{◌<|>◌, first_of, same_name}
use Rattle.ov_types.specs.declared.packet.RuleNo.{RuleNo}
use Rattle.ov_types.specs.declared.packet.Tuple.{Tuple}
use Rattle.ov_types.proofs.FirstLemmas.{contains_cases, first_append}
use Rattle.config_types.specs.declared.config.Config.{Config}
use Rattle.config_types.specs.declared.config.Network.{Network}
use Rattle.policy_rules.specs.declared.matching.Decision.{Decision}
use Rattle.policy_regions.specs.Carved.{left_after}
use Rattle.policy_regions.specs.Claims.{claims_between}
use Rattle.policy_regions.specs.Joined.{made_by, regions_between}
use Rattle.policy_regions.specs.Parts.{IsTuple}
use Rattle.policy_regions.specs.Regions.{holds}
use Rattle.policy_regions.specs.declared.region.Claim.{Claim}
use Rattle.policy_regions.specs.declared.region.DecidedRegion.{DecidedRegion}
use Rattle.policy_regions.specs.declared.region.Region.{Region}
use Rattle.policy_regions.proofs.Cuts.{marks}
use Rattle.policy_regions.proofs.Decided.{claim_on, claimed, one_said, or_nothing}
use Rattle.policy_regions.proofs.Left.{made_says, marked, no_longer_marked, still_marked}
use Rattle.policy_regions.proofs.Said.{Said}
use Rattle.inspect_rules.specs.Deciders.{claim_decides, claims_decide, decides_between, has_rule, holds_some, is_by, is_decided_by, same_rule}
use Rattle.inspect_rules.proofs.Deciding.{any_true, corner, corner_is_held, rule_is, some_are_held}

-- ---- the set of rules

or_true : (x : Bool) → (x || true) ≡ true
or_true true = refl
or_true false = refl

and_false : (x y : Bool) → ((x && false) || y) ≡ y
and_false true y = refl
and_false false y = refl

and_true : (x y : Bool) → ((x && true) || y) ≡ (x || y)
and_true true y = refl
and_true false y = refl

-- a rule that is there already changes nothing
pub had : (rules : BTreeSet RuleNo) (rule n : RuleNo) (x : Bool) → has_rule rules rule ≡ true → has_rule rules n ≡ ((same_rule rule n && x) || has_rule rules n)
had rules rule n x h =
    elim (same_rule rule n) as (λ b. same_rule rule n ≡ b → has_rule rules n ≡ ((b && x) || has_rule rules n)) [
      | true ↦ λ e.
          let there : has_rule rules n ≡ true = ap (has_rule rules) (sym (rule_is rule n e)) ∙ h in
          there ∙ sym (ap (λ (b : Bool). x || b) there ∙ or_true x)
      | false ↦ λ e. refl
    ] refl

pub left_none : (b x y : Bool) → x ≡ false → y ≡ ((b && x) || y)
left_none b x y h = sym (ap (λ (q : Bool). (b && q) || y) h ∙ and_false b y)

pub left_one : (b x y : Bool) → x ≡ true → (b || y) ≡ ((b && x) || y)
left_one b x y h = sym (ap (λ (q : Bool). (b && q) || y) h ∙ and_true b y)

-- ---- a claim on

turned : (a b c : Bool) → (a || (b || c)) ≡ ((b || a) || c)
turned true true c = refl
turned true false c = refl
turned false true c = refl
turned false false c = refl

pub claims_on : (n : RuleNo) (cs : List Claim) (i : ℕ) (k : Claim) (x : Bool) → i < length cs → k ≡ get_or cs i k
    → (claims_decide n (take (i + 1) cs) (drop (i + 1) cs) || (claim_decides n (take i cs) k || x)) ≡ (claims_decide n (take i cs) (drop i cs) || x)
claims_on n cs i k x lt is =
    let front : List Claim = take i cs in
    let rest : List Claim = drop (i + 1) cs in
    ap (λ (before : List Claim). claims_decide n before rest || (claim_decides n front k || x)) (take_more cs i k lt ∙ ap (λ (y : Claim). front ++ y ∷ []) (sym is))
    ∙ turned (claims_decide n (front ++ k ∷ []) rest) (claim_decides n front k) x
    ∙ ap (λ (after : List Claim). claims_decide n front after || x) (sym (drop_more cs i k lt ∙ ap (λ (y : Claim). y ∷ rest) (sym is)))

-- ---- what is found by claims

record IsClaimant (n : RuleNo) (cs : List Claim) : Type 0 where
  front : List Claim
  claim : Claim
  rest : List Claim
  whole : cs ≡ front ++ claim ∷ rest
  decides : claim_decides n front claim ≡ true

claimant : (n : RuleNo) (before ks : List Claim) → claims_decide n before ks ≡ true → IsClaimant n (before ++ ks)
claimant n before [] h = absurd cc
claimant n before (k ∷ ks) h =
    elim (claim_decides n before k) as (λ b. claim_decides n before k ≡ b → (b || claims_decide n (before ++ k ∷ []) ks) ≡ true → IsClaimant n (before ++ k ∷ ks)) [
      | true ↦ λ e some. record { front = before; claim = k; rest = ks; whole = refl; decides = e }
      | false ↦ λ e some. subst (IsClaimant n) (append_assoc before (k ∷ []) ks) (claimant n (before ++ k ∷ []) ks some)
    ] refl h

-- regions of which one holds a tuple leave a mark
none_marked : {A : Type 0} (x : A) (t : Tuple) (rs : List Region) (r : Region) → Contains rs r → holds r t ≡ true → marks (λ q. holds q t) x rs ≡ [] → ⊥
none_marked x t [] r at on h = absurd (omega (arith, at.1))
none_marked {A} x t (q ∷ qs) r at on h =
    elim (holds q t) as (λ b. holds q t ≡ b → cond b (x ∷ marks (λ q. holds q t) x qs) (marks (λ q. holds q t) x qs) ≡ [] → ⊥) [
      | true ↦ λ e none. absurd cc
      | false ↦ λ e none.
          elim (contains_cases q qs r at) [
            | inl same ↦ let two : true ≡ false = sym on ∙ ap (λ (p : Region). holds p t) (sym same) ∙ e in absurd cc
            | inr later ↦ none_marked x t qs r later on none
          ]
    ] refl h

module _ (n : RuleNo) (t : Tuple) (tuple : IsTuple t) where
  -- a tuple that the claims in front do not hold, and the next does
  by_first : (cs front rest : List Claim) (k : Claim) → cs ≡ front ++ k ∷ rest → first_of (claim_on t) front ≡ None → holds k.region t ≡ true
      → same_rule k.decision.rule n ≡ true → list_any (is_decided_by n) (made_by cs) ≡ true
  by_first cs front rest k whole none on same =
      let first : first_of (claim_on t) cs ≡ Some (claimed k) =
      ap (first_of (claim_on t)) whole
      ∙ first_append (claim_on t) front (k ∷ rest)
      ∙ (λ i. none i <|> (cond (on i) (Some (claimed k)) None <|> first_of (claim_on t) rest)) in
      let one = made_says t cs tuple in
      let says : one.region.decision ≡ Some k.decision = ap (λ (s : Said). s.0) (one.says ∙ ap or_nothing first) in
      any_true (is_decided_by n) (made_by cs) one.region one.stands
      (and_from (holds_some one.region.region) (is_by n one.region.decision) (some_are_held one.region.region t tuple one.on)
      (ap (is_by n) says ∙ same))

  -- claims before a claim leave a tuple of its region that they do not hold
  left_of : (front : List Claim) (k : Claim) → first_of (claim_on t) front ≡ None → holds k.region t ≡ true
      → list_any holds_some (left_after front (k.region ∷ [])) ≡ true
  left_of front k none on =
      let one = marked n n [] t (left_after front (k.region ∷ []))
      (still_marked n t front (k.region ∷ []) none ∙ ap (λ (b : Bool). cond b (n ∷ []) []) on) in
      any_true holds_some (left_after front (k.region ∷ [])) one.region one.stands (some_are_held one.region t tuple one.on)

  by_claims : (d : Decision) (before ks : List Claim) → first_of (claim_on t) before ≡ None → (or_nothing (first_of (claim_on t) ks)).0 ≡ Some d
      → same_rule d.rule n ≡ true → claims_decide n before ks ≡ true
  by_claims d before [] none says same = absurd cc
  by_claims d before (k ∷ ks) none says same =
      elim (holds k.region t) as (λ b. holds k.region t ≡ b → (or_nothing (cond b (Some (claimed k)) None <|> first_of (claim_on t) ks)).0 ≡ Some d → claims_decide n before (k ∷ ks) ≡ true) [
        | true ↦ λ e is.
            let rule : k.decision ≡ d = cc in
            let here : claim_decides n before k ≡ true =
            and_from (same_rule k.decision.rule n) (list_any holds_some (left_after before (k.region ∷ [])))
            (ap (λ (x : Decision). same_rule x.rule n) rule ∙ same) (left_of before k none e) in
            ap (λ (b : Bool). b || claims_decide n (before ++ k ∷ []) ks) here
        | false ↦ λ e is.
            let still : first_of (claim_on t) (before ++ k ∷ []) ≡ None =
            first_append (claim_on t) before (k ∷ []) ∙ (λ i. none i <|> (cond (e i) (Some (claimed k)) None <|> None)) in
            ap (λ (b : Bool). claim_decides n before k || b) (by_claims d (before ++ k ∷ []) ks still is same) ∙ or_true (claim_decides n before k)
      ] refl says

decided : (n : RuleNo) (cs : List Claim) → IsClaimant n cs → list_any (is_decided_by n) (made_by cs) ≡ true
decided n cs c =
    let k : Claim = c.claim in
    let left : List Region = left_after c.front (k.region ∷ []) in
    let p = and_parts (same_rule k.decision.rule n) (list_any holds_some left) c.decides in
    let some = Any-from_list_any holds_some left p.1 in
    let r : Region = some.1 in
    let stands : Contains left r = (some.0, some.2, some.3) in
    let t : Tuple = corner r in
    let held = corner_is_held r some.4 in
    let never : marks (λ q. holds q t) n left ≡ [] → ⊥ = none_marked n t left r stands held.1 in
    elim (first_of (claim_on t) c.front) as (λ o. first_of (claim_on t) c.front ≡ o → list_any (is_decided_by n) (made_by cs) ≡ true) [
      | Some s ↦ λ e. absurd (never (no_longer_marked n t c.front (k.region ∷ []) s e))
      | None ↦ λ none.
          elim (holds k.region t) as (λ b. holds k.region t ≡ b → list_any (is_decided_by n) (made_by cs) ≡ true) [
            | true ↦ λ on. by_first n t held.0 cs c.front c.rest k c.whole none on p.0
            | false ↦ λ off. absurd (never (still_marked n t c.front (k.region ∷ []) none ∙ ap (λ (b : Bool). cond b (n ∷ []) []) off))
          ] refl
    ] refl

by_region : (n : RuleNo) (o : Option Decision) → is_by n o ≡ true → (d : Decision) × (o ≡ Some d) × (same_rule d.rule n ≡ true)
by_region n None h = absurd cc
by_region n (Some d) h = (d, refl, h)

claimed_by : (n : RuleNo) (cs : List Claim) → list_any (is_decided_by n) (made_by cs) ≡ true → claims_decide n [] cs ≡ true
claimed_by n cs h =
    let some = Any-from_list_any (is_decided_by n) (made_by cs) h in
    let r : DecidedRegion = some.1 in
    let p = and_parts (holds_some r.region) (is_by n r.decision) some.4 in
    let t : Tuple = corner r.region in
    let held = corner_is_held r.region p.0 in
    let by = by_region n r.decision p.1 in
    let says : (r.decision, r.effect) ≡ or_nothing (first_of (claim_on t) cs) =
    All-contains (λ (q : DecidedRegion). IsTrue (holds q.region t) → (q.decision, q.effect) ≡ or_nothing (first_of (claim_on t) cs)) (made_by cs) r
    (one_said t cs) (some.0, some.2, some.3) held.1 in
    by_claims n t held.0 by.0 [] cs refl (sym (ap (λ (s : Said). s.0) says) ∙ by.1) by.2

same_truth : (a b : Bool) → (a ≡ true → b ≡ true) → (b ≡ true → a ≡ true) → a ≡ b
same_truth true b f g = sym (f refl)
same_truth false true f g = g refl
same_truth false false f g = refl

pub alike : (n : RuleNo) (cs : List Claim) → claims_decide n [] cs ≡ list_any (is_decided_by n) (made_by cs)
alike n cs = same_truth (claims_decide n [] cs) (list_any (is_decided_by n) (made_by cs)) (λ h. decided n cs (claimant n [] cs h)) (claimed_by n cs)

pub between : (c : Config) (n : RuleNo) (a b : Network) → same_name a.name b.name ≡ false → claims_decide n [] (claims_between c a b) ≡ decides_between c n a b
between c n a b h =
    alike n (claims_between c a b) ∙ ap (λ (q : Bool). not q && list_any (is_decided_by n) (regions_between c a b)) (sym h)
