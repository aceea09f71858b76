-- A box of two regions holds the tuples that lie in one of them, and no tuple lies in both.
use Rattle.std.proofs.Common.{◌≡◌, ◌⊎◌, inl, inr, ℕ, zero, suc, ◌+◌, ◌&&◌, leb, ltb, eqb, Bool, true, false, cond, length, List, [], ◌∷◌, refl, sym, ap, subst, ◌∙◌, arith, Option, Some, None, option_map, IsTrue}
use Rattle.std.proofs.lemmas.Bool.Decides.{nat_tests}
use Rattle.std.proofs.Math.Nat.{add_comm}
use Rattle.std.proofs.lemmas.Bool.{eqb-true}
use Rattle.std.proofs.lemmas.List.Elements.{All-cons}
use Rattle.std.proofs.lemmas.Option.{none-some}
use Rattle.std.proofs.lemmas.Slice.Eq.{bytes_eq-Decides}
use Rattle.std.specs.List.{All}
use Rattle.ov_types.specs.First.{same_name}
use Rattle.ov_types.proofs.FirstLemmas.{all_head, all_tail}
use Rattle.policy_rules.specs.declared.matching.Decision.{Decision}
use Rattle.policy_regions.specs.declared.region.Effect.{Effect}
use Rattle.policy_regions.specs.declared.region.Effect.TheVariants.{Passes, Drops, Leads}
use Rattle.policy_regions.specs.Parts.{AllDo, AllSay, LiesInOne}
use Rattle.policy_regions.proofs.Said.{Said, all_say, counted, said}
use Rattle.std.specs.Option.{option_map_or}
use Rattle.ov_types.specs.Access.{in_range}
use Rattle.ov_types.specs.First.{◌<|>◌}
use Rattle.ov_types.specs.declared.packet.Range16.{Range16}
use Rattle.ov_types.specs.declared.packet.Tuple.{Tuple}
use Rattle.policy_regions.specs.Regions.{holds}
use Rattle.policy_regions.specs.Joining.{all_among, among, both_ranges, box_of, goes_on, joined, joined_within, joint, same_decision, same_effect, same_range, say_the_same, agree, joint_box}
use Rattle.policy_regions.specs.declared.region.DecidedRegion.{DecidedRegion}
use Rattle.policy_regions.specs.declared.region.Region.{Region}

abbrev pub one : Bool → ℕ
one b = cond b 1 0

-- along one axis
goes_number : (a b c d x : ℕ) → (eqb (b + 1) c && (leb a c && leb b d)) ≡ true
    → one (leb a x && leb x d) ≡ one (leb a x && leb x b) + one (leb c x && leb x d)
goes_number a b c d x h = grind (arith, nat_tests)

same_number : (a b c d x : ℕ) → (eqb a c && eqb b d) ≡ true → (leb a x && leb x b) ≡ (leb c x && leb x d)
same_number a b c d x h = grind (arith, nat_tests)

sum_cond : (k : Bool) (a b c : ℕ) → a ≡ b + c → cond k a 0 ≡ cond k b 0 + cond k c 0
sum_cond true a b c h = h
sum_cond false a b c h = refl

first_axis : (p s d : Bool) → one (p && (s && d)) ≡ cond (s && d) (one p) 0
first_axis true s d = refl
first_axis false true true = refl
first_axis false true false = refl
first_axis false false d = refl

second_axis : (p s d : Bool) → one (p && (s && d)) ≡ cond (p && d) (one s) 0
second_axis true true true = refl
second_axis true true false = refl
second_axis true false true = refl
second_axis true false false = refl
second_axis false s d = refl

third_axis : (p s d : Bool) → one (p && (s && d)) ≡ cond (p && s) (one d) 0
third_axis true true d = refl
third_axis true false d = refl
third_axis false s d = refl

pub and_first : (a b : Bool) → (a && b) ≡ true → a ≡ true
and_first true b h = refl
and_first false b h = h

pub and_second : (a b : Bool) → (a && b) ≡ true → b ≡ true
and_second true b h = h
and_second false true h = refl
and_second false false h = h

both_hold : (r s : Range16) (x : ℕ) → goes_on r s ≡ true → one (in_range (both_ranges r s) x) ≡ one (in_range r x) + one (in_range s x)
both_hold r s x h = goes_number r.lo r.hi s.lo s.hi x h

alike : (r s : Range16) (x : ℕ) → same_range r s ≡ true → in_range s x ≡ in_range r x
alike r s x h = sym (same_number r.lo r.hi s.lo s.hi x h)

module _ (t : Tuple) where
  -- a region holds a tuple once, or not at all
  abbrev pub hits : Region → ℕ
  hits r = one (holds r t)

  abbrev pub tally : List DecidedRegion → ℕ
  tally [] = 0
  tally (r ∷ rs) = hits r.region + tally rs

  abbrev P : Region → Bool
  P r = in_range r.protocols t.proto

  abbrev S : Region → Bool
  S r = in_range r.source_ports t.sport

  abbrev D : Region → Bool
  D r = in_range r.destination_ports t.dport

  along_protocols : (r s : Region)
      → (goes_on r.protocols s.protocols && (same_range r.source_ports s.source_ports && same_range r.destination_ports s.destination_ports)) ≡ true
      → hits (record { protocols = both_ranges r.protocols s.protocols; source_ports = r.source_ports; destination_ports = r.destination_ports }) ≡ hits r + hits s
  along_protocols r s h =
      let same : Bool = same_range r.source_ports s.source_ports && same_range r.destination_ports s.destination_ports in
      let g : goes_on r.protocols s.protocols ≡ true = and_first (goes_on r.protocols s.protocols) same h in
      let k : same ≡ true = and_second (goes_on r.protocols s.protocols) same h in
      let e : S s ≡ S r = alike r.source_ports s.source_ports t.sport (and_first (same_range r.source_ports s.source_ports) (same_range r.destination_ports s.destination_ports) k) in
      let f : D s ≡ D r = alike r.destination_ports s.destination_ports t.dport (and_second (same_range r.source_ports s.source_ports) (same_range r.destination_ports s.destination_ports) k) in
      let left : hits r ≡ cond (S r && D r) (one (P r)) 0 = first_axis (P r) (S r) (D r) in
      let right : hits s ≡ cond (S r && D r) (one (P s)) 0 = first_axis (P s) (S s) (D s) ∙ (λ i. cond (e i && f i) (one (P s)) 0) in
      first_axis (in_range (both_ranges r.protocols s.protocols) t.proto) (S r) (D r)
      ∙ sum_cond (S r && D r) (one (in_range (both_ranges r.protocols s.protocols) t.proto)) (one (P r)) (one (P s)) (both_hold r.protocols s.protocols t.proto g)
      ∙ (λ i. sym left i + sym right i)

  along_source_ports : (r s : Region)
      → (goes_on r.source_ports s.source_ports && (same_range r.protocols s.protocols && same_range r.destination_ports s.destination_ports)) ≡ true
      → hits (record { protocols = r.protocols; source_ports = both_ranges r.source_ports s.source_ports; destination_ports = r.destination_ports }) ≡ hits r + hits s
  along_source_ports r s h =
      let same : Bool = same_range r.protocols s.protocols && same_range r.destination_ports s.destination_ports in
      let g : goes_on r.source_ports s.source_ports ≡ true = and_first (goes_on r.source_ports s.source_ports) same h in
      let k : same ≡ true = and_second (goes_on r.source_ports s.source_ports) same h in
      let e : P s ≡ P r = alike r.protocols s.protocols t.proto (and_first (same_range r.protocols s.protocols) (same_range r.destination_ports s.destination_ports) k) in
      let f : D s ≡ D r = alike r.destination_ports s.destination_ports t.dport (and_second (same_range r.protocols s.protocols) (same_range r.destination_ports s.destination_ports) k) in
      let left : hits r ≡ cond (P r && D r) (one (S r)) 0 = second_axis (P r) (S r) (D r) in
      let right : hits s ≡ cond (P r && D r) (one (S s)) 0 = second_axis (P s) (S s) (D s) ∙ (λ i. cond (e i && f i) (one (S s)) 0) in
      second_axis (P r) (in_range (both_ranges r.source_ports s.source_ports) t.sport) (D r)
      ∙ sum_cond (P r && D r) (one (in_range (both_ranges r.source_ports s.source_ports) t.sport)) (one (S r)) (one (S s)) (both_hold r.source_ports s.source_ports t.sport g)
      ∙ (λ i. sym left i + sym right i)

  along_destination_ports : (r s : Region)
      → (goes_on r.destination_ports s.destination_ports && (same_range r.protocols s.protocols && same_range r.source_ports s.source_ports)) ≡ true
      → hits (record { protocols = r.protocols; source_ports = r.source_ports; destination_ports = both_ranges r.destination_ports s.destination_ports }) ≡ hits r + hits s
  along_destination_ports r s h =
      let same : Bool = same_range r.protocols s.protocols && same_range r.source_ports s.source_ports in
      let g : goes_on r.destination_ports s.destination_ports ≡ true = and_first (goes_on r.destination_ports s.destination_ports) same h in
      let k : same ≡ true = and_second (goes_on r.destination_ports s.destination_ports) same h in
      let e : P s ≡ P r = alike r.protocols s.protocols t.proto (and_first (same_range r.protocols s.protocols) (same_range r.source_ports s.source_ports) k) in
      let f : S s ≡ S r = alike r.source_ports s.source_ports t.sport (and_second (same_range r.protocols s.protocols) (same_range r.source_ports s.source_ports) k) in
      let left : hits r ≡ cond (P r && S r) (one (D r)) 0 = third_axis (P r) (S r) (D r) in
      let right : hits s ≡ cond (P r && S r) (one (D s)) 0 = third_axis (P s) (S s) (D s) ∙ (λ i. cond (e i && f i) (one (D s)) 0) in
      third_axis (P r) (S r) (in_range (both_ranges r.destination_ports s.destination_ports) t.dport)
      ∙ sum_cond (P r && S r) (one (in_range (both_ranges r.destination_ports s.destination_ports) t.dport)) (one (D r)) (one (D s)) (both_hold r.destination_ports s.destination_ports t.dport g)
      ∙ (λ i. sym left i + sym right i)

-- which of three is taken
some_same : {A : Type 0} (x y : A) → Some x ≡ Some y → x ≡ y
some_same x y h = cc

pick : {A : Type 0} (Q : A → Type 0) (a b c : Bool) (x y z v : A) → (a ≡ true → Q x) → (b ≡ true → Q y) → (c ≡ true → Q z)
    → cond a (Some x) (cond b (Some y) (cond c (Some z) None)) ≡ Some v → Q v
pick Q true b c x y z v f g h e = subst Q (some_same x v e) (f refl)
pick Q false true c x y z v f g h e = subst Q (some_same y v e) (g refl)
pick Q false false true x y z v f g h e = subst Q (some_same z v e) (h refl)
pick Q false false false x y z v f g h e = absurd (none-some v e)

box_hits : (t : Tuple) (r s b : Region) → box_of r s ≡ Some b → hits t b ≡ hits t r + hits t s
box_hits t r s b h =
    pick (λ (c : Region). hits t c ≡ hits t r + hits t s)
    (goes_on r.protocols s.protocols && (same_range r.source_ports s.source_ports && same_range r.destination_ports s.destination_ports))
    (goes_on r.source_ports s.source_ports && (same_range r.protocols s.protocols && same_range r.destination_ports s.destination_ports))
    (goes_on r.destination_ports s.destination_ports && (same_range r.protocols s.protocols && same_range r.source_ports s.source_ports))
    (record { protocols = both_ranges r.protocols s.protocols; source_ports = r.source_ports; destination_ports = r.destination_ports })
    (record { protocols = r.protocols; source_ports = both_ranges r.source_ports s.source_ports; destination_ports = r.destination_ports })
    (record { protocols = r.protocols; source_ports = r.source_ports; destination_ports = both_ranges r.destination_ports s.destination_ports })
    b (along_protocols t r s) (along_source_ports t r s) (along_destination_ports t r s) h

either_box : (t : Tuple) (r s b : Region) → (box_of r s <|> box_of s r) ≡ Some b → hits t b ≡ hits t r + hits t s
either_box t r s b h =
    elim (box_of r s) as (λ o. box_of r s ≡ o → (o <|> box_of s r) ≡ Some b → hits t b ≡ hits t r + hits t s) [
      | None ↦ λ e k. box_hits t s r b k ∙ add_comm (hits t s) (hits t r)
      | Some c ↦ λ e k. box_hits t r s b (e ∙ k)
    ] refl h

-- regions that say the same

agree_is : (a b : Bool) → agree a b ≡ true → a ≡ b
agree_is true true h = refl
agree_is true false h = sym h
agree_is false true h = h
agree_is false false h = refl

pub decision_same : (d e : Option Decision) → same_decision d e ≡ true → e ≡ d
decision_same None None h = refl
decision_same (Some d) None h = let two : false ≡ true = h in cc
decision_same None (Some e) h = let two : false ≡ true = h in cc
decision_same (Some d) (Some e) h =
    let rest : Bool = eqb d.rule.position e.rule.position && agree d.mirrored e.mirrored in
    let s : d.rule.sequence ≡ e.rule.sequence = eqb-true d.rule.sequence e.rule.sequence (and_first (eqb d.rule.sequence e.rule.sequence) rest h) in
    let k : rest ≡ true = and_second (eqb d.rule.sequence e.rule.sequence) rest h in
    let p : d.rule.position ≡ e.rule.position = eqb-true d.rule.position e.rule.position (and_first (eqb d.rule.position e.rule.position) (agree d.mirrored e.mirrored) k) in
    let m : d.mirrored ≡ e.mirrored = agree_is d.mirrored e.mirrored (and_second (eqb d.rule.position e.rule.position) (agree d.mirrored e.mirrored) k) in
    λ i. Some (record { rule = record { sequence = sym s i; position = sym p i }; mirrored = sym m i })

name_same : (a b : List ℕ) → same_name a b ≡ true → a ≡ b
name_same a b h = (bytes_eq-Decides a b).0 h

pub effect_same : (d e : Effect) → same_effect d e ≡ true → e ≡ d
effect_same Passes Passes h = refl
effect_same Passes Drops h = let two : false ≡ true = h in cc
effect_same Passes (Leads c) h = let two : false ≡ true = h in cc
effect_same Drops Passes h = let two : false ≡ true = h in cc
effect_same Drops Drops h = refl
effect_same Drops (Leads c) h = let two : false ≡ true = h in cc
effect_same (Leads c) Passes h = let two : false ≡ true = h in cc
effect_same (Leads c) Drops h = let two : false ≡ true = h in cc
effect_same (Leads c) (Leads d) h = ap Leads (sym (name_same c d h))

-- a joint region

cond_some : {A : Type 0} (a : Bool) (o : Option A) (x : A) → cond a o None ≡ Some x → (a ≡ true) × (o ≡ Some x)
cond_some true o x h = (refl, h)
cond_some false o x h = absurd (none-some x h)

-- where two regions have a joint one, they say the same, and it holds what they hold
joint_is : (t : Tuple) (r s b : DecidedRegion) → joint r s ≡ Some b
    → (say_the_same r s ≡ true) × (hits t b.region ≡ hits t r.region + hits t s.region) × (b.decision ≡ r.decision) × (b.effect ≡ r.effect)
joint_is t r s b h =
    let f : Region → DecidedRegion = λ c. record { region = c; decision = r.decision; effect = r.effect } in
    elim (joint_box r s) as (λ o. joint_box r s ≡ o → option_map f o ≡ Some b
    → (say_the_same r s ≡ true) × (hits t b.region ≡ hits t r.region + hits t s.region) × (b.decision ≡ r.decision) × (b.effect ≡ r.effect)) [
      | None ↦ λ e k. absurd (none-some b k)
      | Some c ↦ λ e k.
          let both : (say_the_same r s ≡ true) × ((box_of r.region s.region <|> box_of s.region r.region) ≡ Some c) =
          cond_some (say_the_same r s) (box_of r.region s.region <|> box_of s.region r.region) c e in
          subst (λ (q : DecidedRegion). (say_the_same r s ≡ true) × (hits t q.region ≡ hits t r.region + hits t s.region) × (q.decision ≡ r.decision) × (q.effect ≡ r.effect))
          (some_same (f c) b k) (both.0, either_box t r.region s.region c both.1, refl, refl)
    ] refl h

one_of_two : (a b c : Bool) → one a ≡ one b + one c → a ≡ true → (b ≡ true) ⊎ (c ≡ true)
one_of_two a true c h e = inl refl
one_of_two a false true h e = inr refl
one_of_two true false false h e = absurd (omega (arith, h))
one_of_two false false false h e = let two : false ≡ true = e in cc

-- what regions say of a tuple that they hold

module _ {X : Type 0} (said_of : DecidedRegion → X) (same : (r s : DecidedRegion) → say_the_same r s ≡ true → said_of s ≡ said_of r)
    (kept : (r s b : DecidedRegion) → joint r s ≡ Some b → said_of b ≡ said_of r) (t : Tuple) (x : X) where
  abbrev Q : DecidedRegion → Type 0
  Q q = IsTrue (holds q.region t) → said_of q ≡ x

  joint_says : (r s b : DecidedRegion) → joint r s ≡ Some b → Q r → Q s → Q b
  joint_says r s b h of_r of_s holding =
      let both : (say_the_same r s ≡ true) × (hits t b.region ≡ hits t r.region + hits t s.region) × (b.decision ≡ r.decision) × (b.effect ≡ r.effect) = joint_is t r s b h in
      kept r s b h ∙ elim (one_of_two (holds b.region t) (holds r.region t) (holds s.region t) both.1 holding) as (λ _. said_of r ≡ x) [
        | inl u ↦ of_r u
        | inr u ↦ sym (same r s both.0) ∙ of_s u
      ]

  among_says : (r : DecidedRegion) (list : List DecidedRegion) → Q r → All Q list → All Q (among r list)
  among_says r [] q h = All-cons Q r [] q h
  among_says r (s ∷ ss) q h =
      elim (joint r s) as (λ o. joint r s ≡ o → All Q (option_map_or (λ b. among b ss) o (s ∷ among r ss))) [
        | None ↦ λ e. All-cons Q s (among r ss) (all_head Q s ss h) (among_says r ss q (all_tail Q s ss h))
        | Some b ↦ λ e. among_says b ss (joint_says r s b e q (all_head Q s ss h)) (all_tail Q s ss h)
      ] refl

  all_among_say : (done list : List DecidedRegion) → All Q done → All Q list → All Q (all_among done list)
  all_among_say done [] h k = h
  all_among_say done (r ∷ rs) h k = all_among_say (among r done) rs (among_says r done (all_head Q r rs k) h) (all_tail Q r rs k)

  within_says : (n : ℕ) (list : List DecidedRegion) → All Q list → All Q (joined_within n list)
  within_says zero list h = h
  within_says (suc n) list h =
      elim (ltb (length (all_among [] list)) (length list)) as (λ b. All Q (cond b (joined_within n (all_among [] list)) list)) [
        | true ↦ within_says n (all_among [] list) (all_among_say [] list (λ k y lt. absurd (omega (arith, lt))) h)
        | false ↦ h
      ]

  pub joined_says : (list : List DecidedRegion) → All Q list → All Q (joined list)
  joined_says list h = within_says (length list) list h

pub joined_decides : (t : Tuple) (d : Option Decision) (list : List DecidedRegion) → AllSay d t list → AllSay d t (joined list)
joined_decides t d list h =
    joined_says (λ (q : DecidedRegion). q.decision)
    (λ r s e. decision_same r.decision s.decision (and_first (same_decision r.decision s.decision) (same_effect r.effect s.effect) e))
    (λ r s b e. (joint_is t r s b e).2) t d list h

pub joined_does : (t : Tuple) (d : Effect) (list : List DecidedRegion) → AllDo d t list → AllDo d t (joined list)
joined_does t d list h =
    joined_says (λ (q : DecidedRegion). q.effect)
    (λ r s e. effect_same r.effect s.effect (and_second (same_decision r.decision s.decision) (same_effect r.effect s.effect) e))
    (λ r s b e. (joint_is t r s b e).3) t d list h

-- how often a tuple is held

turned : (a b c : ℕ) → a + (b + c) ≡ b + (a + c)
turned a b c = omega arith

grouped : (a b c : ℕ) → (a + b) + c ≡ a + (b + c)
grouped a b c = omega arith

passed : (a b c : ℕ) → (a + b) + c ≡ b + (a + c)
passed a b c = omega arith

nothing_before : (a : ℕ) → 0 + a ≡ a
nothing_before a = omega arith

one_before : (a : ℕ) → suc a ≡ 1 + a
one_before a = omega arith

no_more : (a : ℕ) → a ≡ a + 0
no_more a = omega arith

module _ (t : Tuple) where
  among_tally : (r : DecidedRegion) (list : List DecidedRegion) → tally t (among r list) ≡ hits t r.region + tally t list
  among_tally r [] = refl
  among_tally r (s ∷ ss) =
      elim (joint r s) as (λ o. joint r s ≡ o → tally t (option_map_or (λ b. among b ss) o (s ∷ among r ss)) ≡ hits t r.region + (hits t s.region + tally t ss)) [
        | None ↦ λ e. ap (λ (n : ℕ). hits t s.region + n) (among_tally r ss) ∙ turned (hits t s.region) (hits t r.region) (tally t ss)
        | Some b ↦ λ e. among_tally b ss ∙ ap (λ (n : ℕ). n + tally t ss) (joint_is t r s b e).1 ∙ grouped (hits t r.region) (hits t s.region) (tally t ss)
      ] refl

  all_tally : (done list : List DecidedRegion) → tally t (all_among done list) ≡ tally t done + tally t list
  all_tally done [] = no_more (tally t done)
  all_tally done (r ∷ rs) =
      all_tally (among r done) rs ∙ ap (λ (n : ℕ). n + tally t rs) (among_tally r done) ∙ passed (hits t r.region) (tally t done) (tally t rs)

  within_tally : (n : ℕ) (list : List DecidedRegion) → tally t (joined_within n list) ≡ tally t list
  within_tally zero list = refl
  within_tally (suc n) list =
      elim (ltb (length (all_among [] list)) (length list)) as (λ b. tally t (cond b (joined_within n (all_among [] list)) list) ≡ tally t list) [
        | true ↦ within_tally n (all_among [] list) ∙ all_tally [] list ∙ nothing_before (tally t list)
        | false ↦ refl
      ]

  as_often : (list : List DecidedRegion) → length (said t list) ≡ tally t list
  as_often [] = refl
  as_often (r ∷ rs) =
      elim (holds r.region t) as (λ b. length (cond b ((r.decision, r.effect) ∷ said t rs) (said t rs)) ≡ one b + tally t rs) [
        | true ↦ ap suc (as_often rs) ∙ one_before (tally t rs)
        | false ↦ as_often rs ∙ sym (nothing_before (tally t rs))
      ]

  pub joined_lies : (list : List DecidedRegion) → LiesInOne t list → LiesInOne t (joined list)
  joined_lies list h =
      counted t (joined list) ∙ as_often (joined list) ∙ within_tally (length list) list ∙ sym (as_often list) ∙ sym (counted t list) ∙ h

  joined_tally : (list : List DecidedRegion) → length (said t (joined list)) ≡ length (said t list)
  joined_tally list = as_often (joined list) ∙ within_tally (length list) list ∙ sym (as_often list)

-- where all say one thing

both_same : (d e : Option Decision) (f g : Effect) → e ≡ d → g ≡ f → ◌≡◌ {A = Said} (e, g) (d, f)
both_same d e f g h k = λ i. (h i, k i)

none_of_none : (t : Tuple) (x : Said) (rs : List DecidedRegion) → All (λ q. IsTrue (holds q.region t) → (q.decision, q.effect) ≡ x) rs → All (λ y. y ≡ x) (said t rs)
none_of_none t x [] h = λ k d lt. absurd (omega (arith, lt))
none_of_none t x (r ∷ rs) h =
    let P : DecidedRegion → Type 0 = λ q. IsTrue (holds q.region t) → (q.decision, q.effect) ≡ x in
    elim (holds r.region t) as (λ b. holds r.region t ≡ b → All (λ y. y ≡ x) (cond b ((r.decision, r.effect) ∷ said t rs) (said t rs))) [
      | true ↦ λ e. All-cons (λ (y : Said). y ≡ x) (r.decision, r.effect) (said t rs) (all_head P r rs h e) (none_of_none t x rs (all_tail P r rs h))
      | false ↦ λ e. none_of_none t x rs (all_tail P r rs h)
    ] refl

as_long : (x : Said) (xs ys : List Said) → All (λ y. y ≡ x) xs → All (λ y. y ≡ x) ys → length xs ≡ length ys → xs ≡ ys
as_long x [] [] h k e = refl
as_long x [] (y ∷ ys) h k e = absurd (omega (arith, e))
as_long x (y ∷ ys) [] h k e = absurd (omega (arith, e))
as_long x (y ∷ ys) (z ∷ zs) h k e =
    let P : Said → Type 0 = λ y. y ≡ x in
    let head : y ≡ z = all_head P y ys h ∙ sym (all_head P z zs k) in
    let rest : ys ≡ zs = as_long x ys zs (all_tail P y ys h) (all_tail P z zs k) (omega (arith, e)) in
    λ i. head i ∷ rest i

pub joined_same : (t : Tuple) (x : Said) (list : List DecidedRegion) → All (λ y. y ≡ x) (said t list) → said t (joined list) ≡ said t list
joined_same t x list h =
    let says : All (λ q. IsTrue (holds q.region t) → (q.decision, q.effect) ≡ x) (joined list) =
    joined_says (λ (q : DecidedRegion). (q.decision, q.effect))
    (λ r s e. both_same r.decision s.decision r.effect s.effect
    (decision_same r.decision s.decision (and_first (same_decision r.decision s.decision) (same_effect r.effect s.effect) e))
    (effect_same r.effect s.effect (and_second (same_decision r.decision s.decision) (same_effect r.effect s.effect) e)))
    (λ r s b e. both_same r.decision b.decision r.effect b.effect (joint_is t r s b e).2 (joint_is t r s b e).3) t x list (all_say x t list h) in
    as_long x (said t (joined list)) (said t list) (none_of_none t x (joined list) says) h (joined_tally t list)
