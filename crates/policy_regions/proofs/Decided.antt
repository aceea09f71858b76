-- Each tuple lies in exactly one of the regions between two networks, whose decision is the tuple's.
use Rattle.std.proofs.Common.{◌≡◌, ℕ, ◌≤◌, ◌&&◌, leb, eqb, Bool, true, false, not, cond, IsTrue, List, [], ◌∷◌, ◌++◌, map, flat_map, length, Option, Some, None, option_map, refl, sym, ap, ◌∙◌, subst, arith}
use Rattle.std.specs.List.{All}
use Rattle.std.proofs.lemmas.Bool.Decides.{nat_tests}
use Rattle.std.proofs.lemmas.List.Elements.{All-cons}
use Rattle.ov_types.specs.Access.{in_range}
use Rattle.ov_types.specs.First.{◌<|>◌, first_of}
use Rattle.ov_types.specs.declared.packet.Tuple.{Tuple}
use Rattle.ov_types.proofs.FirstLemmas.{all_head, all_tail, first_append, first_flat}
use Rattle.config_types.specs.declared.config.Config.{Config}
use Rattle.config_types.specs.declared.config.Network.{Network}
use Rattle.config_types.specs.declared.config.Protocol.{Protocol}
use Rattle.config_types.specs.declared.config.Protocol.TheVariants.{Any, Number}
use Rattle.policy_rules.specs.declared.matching.Match.{Match}
use Rattle.policy_rules.specs.declared.numbered.NumberedRule.{NumberedRule}
use Rattle.policy_rules.specs.Related.{fits, rules_between}
use Rattle.policy_rules.specs.Matching.{has_protocol, speaks_both_ways, matches_forwards, matches_mirrored, match_by, deciding, decision_by, decision}
use Rattle.policy_regions.specs.Regions.{holds, everything, common, meets, left_by}
use Rattle.policy_regions.specs.Carved.{taken_by, undecided, carve, carved_between}
use Rattle.policy_regions.specs.Claims.{effect_of, effect_by, protocols_of, forward_claim, mirrored_claim, forwards, backwards, claims_of, claims_between}
use Rattle.policy_regions.specs.Joining.{joined}
use Rattle.policy_regions.specs.Parts.{IsTuple, LiesInOne, AllSay, AllDo}
use Rattle.policy_regions.specs.declared.region.Region.{Region}
use Rattle.policy_regions.specs.declared.region.DecidedRegion.{DecidedRegion}
use Rattle.policy_regions.specs.declared.region.Effect.TheVariants.{Drops}
use Rattle.policy_regions.specs.declared.region.Claim.{Claim}
use Rattle.policy_regions.proofs.Joins.{joined_same}
use Rattle.policy_regions.proofs.Said.{Said, all_say, counted, said, said_append}
use Rattle.policy_regions.proofs.Cuts.{marks, marks_append, common_region_holds, met, left_marks}

-- what the regions say that hold a tuple

-- what is said of packets on which no rule decides
abbrev pub nothing : Said
nothing = (None, Drops)

abbrev pub or_nothing : Option Said → Said
or_nothing None = nothing
or_nothing (Some x) = x

abbrev pub claimed : Claim → Said
claimed c = (Some c.decision, c.effect)

abbrev said_by : Match → Said
said_by m = (Some (decision_by m), effect_of m.rule.rule.action)

said_undecided : (t : Tuple) (left : List Region) → said t (map undecided left) ≡ marks (λ r. holds r t) nothing left
said_undecided t [] = refl
said_undecided t (r ∷ rs) = ap (λ (rest : List (Said)). cond (holds r t) (nothing ∷ rest) rest) (said_undecided t rs)

-- what a claim takes

none_common : {A : Type 0} (x : A) (b e : Bool) → (b ≡ true → e ≡ true → ⊥) → [] ≡ cond (b && e) (x ∷ []) []
none_common x true true h = absurd (h refl refl)
none_common x true false h = refl
none_common x false e h = refl

taken_says : (t : Tuple) (c : Claim) (r : Region) → said t (taken_by c r) ≡ cond (holds r t && holds c.region t) (claimed c ∷ []) []
taken_says t c r =
    elim (meets r c.region) as (λ b. meets r c.region ≡ b
    → said t (cond b (record { region = common r c.region; decision = Some c.decision; effect = c.effect } ∷ []) []) ≡ cond (holds r t && holds c.region t) (claimed c ∷ []) []) [
      | true ↦ λ e. ap (λ (b : Bool). cond b (claimed c ∷ []) []) (common_region_holds r c.region t)
      | false ↦ λ e. none_common (claimed c) (holds r t) (holds c.region t) (λ h k. let two : false ≡ true = sym e ∙ met r c.region t h k in cc)
    ] refl

module _ (t : Tuple) (c : Claim) where
  abbrev H : Region → Bool
  H r = holds r t

  and_is : {A : Type 0} (x : A) (b e : Bool) → e ≡ true → cond (b && e) (x ∷ []) [] ≡ cond b (x ∷ []) []
  and_is x true e h = ap (λ (v : Bool). cond v (x ∷ []) []) h
  and_is x false e h = refl

  and_is_not : {A : Type 0} (x : A) (b e : Bool) → e ≡ false → cond (b && e) (x ∷ []) [] ≡ []
  and_is_not x true e h = ap (λ (v : Bool). cond v (x ∷ []) []) h
  and_is_not x false e h = refl

  one_more : {A : Type 0} (x : A) (b : Bool) (rest : List A) → cond b (x ∷ []) [] ++ rest ≡ cond b (x ∷ rest) rest
  one_more x true rest = refl
  one_more x false rest = refl

  -- where the claim holds the tuple
  takes : holds c.region t ≡ true → (left : List Region) → said t (flat_map (taken_by c) left) ≡ marks H (claimed c) left
  takes h [] = refl
  takes h (r ∷ rs) =
      said_append t (taken_by c r) (flat_map (taken_by c) rs)
      ∙ (λ i. (taken_says t c r ∙ and_is (claimed c) (H r) (holds c.region t) h) i ++ takes h rs i)
      ∙ one_more (claimed c) (H r) (marks H (claimed c) rs)

  pub leaves_none : {A : Type 0} (x : A) → holds c.region t ≡ true → (left : List Region) → marks H x (flat_map (left_by c.region) left) ≡ []
  leaves_none x h [] = refl
  leaves_none x h (r ∷ rs) =
      marks_append H x (left_by c.region r) (flat_map (left_by c.region) rs)
      ∙ (λ i. (left_marks x c.region r t ∙ and_is_not x (H r) (not (holds c.region t)) (ap not h)) i ++ leaves_none x h rs i)

  -- where it does not
  takes_none : holds c.region t ≡ false → (left : List Region) → said t (flat_map (taken_by c) left) ≡ []
  takes_none h [] = refl
  takes_none h (r ∷ rs) =
      said_append t (taken_by c r) (flat_map (taken_by c) rs)
      ∙ (λ i. (taken_says t c r ∙ and_is_not (claimed c) (H r) (holds c.region t) h) i ++ takes_none h rs i)

  pub leaves : {A : Type 0} (x : A) → holds c.region t ≡ false → (left : List Region) → marks H x (flat_map (left_by c.region) left) ≡ marks H x left
  leaves x h [] = refl
  leaves x h (r ∷ rs) =
      marks_append H x (left_by c.region r) (flat_map (left_by c.region) rs)
      ∙ (λ i. (left_marks x c.region r t ∙ and_is x (H r) (not (holds c.region t)) (ap not h)) i ++ leaves x h rs i)
      ∙ one_more x (H r) (marks H x rs)

-- the first claim that holds a tuple decides

abbrev pub claim_on : Tuple → Claim → Option Said
claim_on t c = cond (holds c.region t) (Some (claimed c)) None

-- joined regions that all say one thing of a tuple

marks_are : {A B : Type 0} (p : A → Bool) (x : B) (ys : List A) → All (λ z. z ≡ x) (marks p x ys)
marks_are p x [] = λ k d lt. absurd (omega (arith, lt))
marks_are {A} {B} p x (y ∷ ys) =
    elim (p y) as (λ b. All (λ z. z ≡ x) (cond b (x ∷ marks p x ys) (marks p x ys))) [
      | true ↦ All-cons (λ (z : B). z ≡ x) x (marks p x ys) refl (marks_are p x ys)
      | false ↦ marks_are p x ys
    ]

pub says_joined : (t : Tuple) (x : Said) (left : List Region) (list : List DecidedRegion) → said t list ≡ marks (λ r. holds r t) x left
    → said t (joined list) ≡ marks (λ r. holds r t) x left
says_joined t x left list h =
    joined_same t x list (subst (λ (ys : List Said). All (λ y. y ≡ x) ys) (sym h) (marks_are (λ (r : Region). holds r t) x left)) ∙ h

says_none : (t : Tuple) (list : List DecidedRegion) → said t list ≡ [] → said t (joined list) ≡ []
says_none t list h =
    joined_same t nothing list (subst (λ (ys : List Said). All (λ y. y ≡ nothing) ys) (sym h) (λ k d lt. absurd (omega (arith, lt)))) ∙ h

append_none : {A : Type 0} (xs ys : List A) → ys ≡ [] → xs ++ ys ≡ xs
append_none [] ys h = h
append_none {A} (x ∷ xs) ys h = ap (λ (rest : List A). x ∷ rest) (append_none xs ys h)

pub carved : (t : Tuple) (cs : List Claim) (left : List Region) → said t (carve cs left) ≡ marks (λ r. holds r t) (or_nothing (first_of (claim_on t) cs)) left
carved t [] left = says_joined t nothing left (map undecided left) (said_undecided t left)
carved t (c ∷ cs) left =
    let H : Region → Bool = λ r. holds r t in
    let later : Option Said = first_of (claim_on t) cs in
    let rest : List Region = flat_map (left_by c.region) left in
    said_append t (joined (flat_map (taken_by c) left)) (carve cs rest)
    ∙ ap (λ (xs : List (Said)). said t (joined (flat_map (taken_by c) left)) ++ xs) (carved t cs rest)
    ∙ elim (holds c.region t) as (λ b. holds c.region t ≡ b
    → said t (joined (flat_map (taken_by c) left)) ++ marks H (or_nothing later) rest ≡ marks H (or_nothing (cond b (Some (claimed c)) None <|> later)) left) [
      | true ↦ λ e.
          append_none (said t (joined (flat_map (taken_by c) left))) (marks H (or_nothing later) rest) (leaves_none t c (or_nothing later) e left)
          ∙ says_joined t (claimed c) left (flat_map (taken_by c) left) (takes t c e left)
      | false ↦ λ e.
          ap (λ (xs : List (Said)). xs ++ marks H (or_nothing later) rest) (says_none t (flat_map (taken_by c) left) (takes_none t c e left)) ∙ leaves t c (or_nothing later) e left
    ] refl

-- of a tuple all regions that claims make say what the first claim says that holds it, or what is said where none does

pub one_said : (t : Tuple) (cs : List Claim)
    → All (λ q. IsTrue (holds q.region t) → (q.decision, q.effect) ≡ or_nothing (first_of (claim_on t) cs)) (joined (carve cs (everything ∷ [])))
one_said t cs =
    let x : Said = or_nothing (first_of (claim_on t) cs) in
    let left : List Region = everything ∷ [] in
    all_say x t (joined (carve cs left))
    (subst (λ (ys : List Said). All (λ y. y ≡ x) ys) (sym (says_joined t x left (carve cs left) (carved t cs left))) (marks_are (λ (r : Region). holds r t) x left))

pub first_said : (P : Said → Type 0) (t : Tuple) (cs : List Claim) → P nothing → All (λ c. P (claimed c)) cs → P (or_nothing (first_of (claim_on t) cs))
first_said P t [] h k = h
first_said P t (c ∷ cs) h k =
    elim (holds c.region t) as (λ b. P (or_nothing (cond b (Some (claimed c)) None <|> first_of (claim_on t) cs))) [
      | true ↦ all_head (λ (d : Claim). P (claimed d)) c cs k
      | false ↦ first_said P t cs h (all_tail (λ (d : Claim). P (claimed d)) c cs k)
    ]

-- claims and rules

first_mapped : {A B C : Type 0} (f : A → Option B) (g : B → C) (xs : List A) → first_of (λ x. option_map g (f x)) xs ≡ option_map g (first_of f xs)
first_mapped f g [] = refl
first_mapped f g (x ∷ xs) =
    elim (f x) as (λ o. (option_map g o <|> first_of (λ y. option_map g (f y)) xs) ≡ option_map g (o <|> first_of f xs)) [
      | None ↦ first_mapped f g xs
      | Some y ↦ refl
    ]

first_same : {A B : Type 0} (f g : A → Option B) → ((x : A) → f x ≡ g x) → (xs : List A) → first_of f xs ≡ first_of g xs
first_same f g h [] = refl
first_same f g h (x ∷ xs) = λ i. h x i <|> first_same f g h xs i

number_only : (m n : ℕ) → (leb m n && leb n m) ≡ eqb m n
number_only m n = grind (arith, nat_tests)

any_number : (n : ℕ) → n ≤ 255 → (leb 0 n && leb n 255) ≡ true
any_number n h = grind (arith, nat_tests)

protocol_same : (p : Protocol) (n : ℕ) → n ≤ 255 → in_range (protocols_of p) n ≡ has_protocol p n
protocol_same Any n h = any_number n h
protocol_same (Number m) n h = number_only m n

and_forwards : (f p s d : Bool) → (f && (p && (s && d))) ≡ (((f && p) && s) && d)
and_forwards true true s d = refl
and_forwards true false s d = refl
and_forwards false p s d = refl

and_swap : (s d : Bool) → (s && d) ≡ (d && s)
and_swap true true = refl
and_swap true false = refl
and_swap false true = refl
and_swap false false = refl

and_mirrored : (g p s d : Bool) → (g && (p && (d && s))) ≡ (((g && p) && s) && d)
and_mirrored true true s d = and_swap d s
and_mirrored true false s d = refl
and_mirrored false p s d = refl

holds_forwards : (a b : Network) (t : Tuple) (r : NumberedRule) → t.proto ≤ 255 → (fits r.rule a b && holds (forward_claim r).region t) ≡ matches_forwards a b t r.rule
holds_forwards a b t r h =
    ap (λ (p : Bool). fits r.rule a b && (p && (in_range r.rule.source_ports t.sport && in_range r.rule.destination_ports t.dport))) (protocol_same r.rule.protocol t.proto h)
    ∙ and_forwards (fits r.rule a b) (has_protocol r.rule.protocol t.proto) (in_range r.rule.source_ports t.sport) (in_range r.rule.destination_ports t.dport)

holds_mirrored : (a b : Network) (t : Tuple) (r : NumberedRule) → t.proto ≤ 255
    → ((speaks_both_ways r.rule.direction && fits r.rule b a) && holds (mirrored_claim r).region t) ≡ matches_mirrored a b t r.rule
holds_mirrored a b t r h =
    let both : Bool = speaks_both_ways r.rule.direction && fits r.rule b a in
    ap (λ (p : Bool). both && (p && (in_range r.rule.destination_ports t.sport && in_range r.rule.source_ports t.dport))) (protocol_same r.rule.protocol t.proto h)
    ∙ and_mirrored both (has_protocol r.rule.protocol t.proto) (in_range r.rule.source_ports t.dport) (in_range r.rule.destination_ports t.sport)

first_one : (t : Tuple) (u : Bool) (c : Claim) → first_of (claim_on t) (cond u (c ∷ []) []) ≡ cond (u && holds c.region t) (Some (claimed c)) None
first_one t true c = elim (holds c.region t) as (λ b. (cond b (Some (claimed c)) None <|> None) ≡ cond b (Some (claimed c)) None) [ true ↦ refl | false ↦ refl ]
first_one t false c = refl

either : {A : Type 0} (u v : Bool) (x y : A) → (cond u (Some x) None <|> cond v (Some y) None) ≡ cond u (Some x) (cond v (Some y) None)
either true v x y = refl
either false v x y = refl

mapped : {A B : Type 0} (f : A → B) (u v : Bool) (x y : A) → option_map f (cond u (Some x) (cond v (Some y) None)) ≡ cond u (Some (f x)) (cond v (Some (f y)) None)
mapped f true v x y = refl
mapped f false true x y = refl
mapped f false false x y = refl

rule_claims : (a b : Network) (t : Tuple) (r : NumberedRule) → t.proto ≤ 255 → first_of (claim_on t) (claims_of a b r) ≡ option_map said_by (match_by a b t r)
rule_claims a b t r h =
    let f : Claim = forward_claim r in
    let m : Claim = mirrored_claim r in
    let u : Bool = matches_forwards a b t r.rule in
    let v : Bool = matches_mirrored a b t r.rule in
    let first : first_of (claim_on t) (forwards a b r) ≡ cond u (Some (claimed f)) None =
    first_one t (fits r.rule a b) f ∙ ap (λ (w : Bool). cond w (Some (claimed f)) None) (holds_forwards a b t r h) in
    let second : first_of (claim_on t) (backwards a b r) ≡ cond v (Some (claimed m)) None =
    first_one t (speaks_both_ways r.rule.direction && fits r.rule b a) m ∙ ap (λ (w : Bool). cond w (Some (claimed m)) None) (holds_mirrored a b t r h) in
    first_append (claim_on t) (forwards a b r) (backwards a b r)
    ∙ (λ i. first i <|> second i)
    ∙ either u v (claimed f) (claimed m)
    ∙ sym (mapped said_by u v (record { rule = r; mirrored = false }) (record { rule = r; mirrored = true }))

claims_decide : (c : Config) (a b : Network) (t : Tuple) → IsTuple t → first_of (claim_on t) (claims_between c a b) ≡ option_map said_by (deciding c a b t)
unfolding deciding
claims_decide c a b t h =
    first_flat (claim_on t) (claims_of a b) (rules_between c a b)
    ∙ first_same (λ r. first_of (claim_on t) (claims_of a b r)) (λ r. option_map said_by (match_by a b t r)) (λ r. rule_claims a b t r h.proto) (rules_between c a b)
    ∙ first_mapped (match_by a b t) said_by (rules_between c a b)

-- all tuples

within : (n most : ℕ) → n ≤ most → (leb 0 n && leb n most) ≡ true
within n most h = grind (arith, nat_tests)

pub everything_holds : (t : Tuple) → IsTuple t → holds everything t ≡ true
everything_holds t h = rw (within t.proto 255 h.proto, within t.sport 65535 h.sport, within t.dport 65535 h.dport) refl

pub one_says : (c : Config) (a b : Network) (t : Tuple) → IsTuple t → said t (carved_between c a b) ≡ or_nothing (option_map said_by (deciding c a b t)) ∷ []
one_says c a b t h =
    carved t (claims_between c a b) (everything ∷ [])
    ∙ (λ i. cond (everything_holds t h i) (or_nothing (claims_decide c a b t h i) ∷ []) [])

pub lies_in_one : (c : Config) (a b : Network) (t : Tuple) → IsTuple t → LiesInOne t (carved_between c a b)
lies_in_one c a b t h = counted t (carved_between c a b) ∙ ap length (one_says c a b t h)

only_one : (d : Said) → All (λ y. y ≡ d) (d ∷ [])
only_one d = All-cons (λ (y : Said). y ≡ d) d [] refl (λ k x lt. absurd (omega arith))

each_says : (c : Config) (a b : Network) (t : Tuple) → IsTuple t
    → All (λ q. IsTrue (holds q.region t) → (q.decision, q.effect) ≡ or_nothing (option_map said_by (deciding c a b t))) (carved_between c a b)
each_says c a b t h =
    let d : Said = or_nothing (option_map said_by (deciding c a b t)) in
    all_say d t (carved_between c a b) (subst (λ (ys : List Said). All (λ y. y ≡ d) ys) (sym (one_says c a b t h)) (only_one d))

decision_said : (o : Option Match) → (or_nothing (option_map said_by o)).0 ≡ option_map decision_by o
decision_said None = refl
decision_said (Some m) = refl

effect_said : (o : Option Match) → (or_nothing (option_map said_by o)).1 ≡ effect_by o
effect_said None = refl
effect_said (Some m) = refl

pub region_decides : (c : Config) (a b : Network) (t : Tuple) → IsTuple t → AllSay (decision c a b t) t (carved_between c a b)
region_decides c a b t h = λ k x lt holding.
    ap (λ (s : Said). s.0) (each_says c a b t h k x lt holding) ∙ decision_said (deciding c a b t)

pub region_does : (c : Config) (a b : Network) (t : Tuple) → IsTuple t → AllDo (effect_by (deciding c a b t)) t (carved_between c a b)
region_does c a b t h = λ k x lt holding.
    ap (λ (s : Said). s.1) (each_says c a b t h k x lt holding) ∙ effect_said (deciding c a b t)
