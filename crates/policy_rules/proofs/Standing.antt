-- The rules between two networks: which they are, and in which order they stand.
use Rattle.std.proofs.Common.{◌≡◌, ◌≢◌, ◌↔◌, ◌⊎◌, inl, inr, ℕ, zero, suc, ◌+◌, ◌<◌, ◌&&◌, ◌||◌, ltb, Bool, true, false, cond, List, [], ◌∷◌, ◌++◌, Some, flat_map, filter, get_or, refl, sym, subst, arith}
use Rattle.std.specs.Bool.{Decides}
use Rattle.std.specs.Cmp.Lexicographic.{same_text, nat_list_eq_equiv}
use Rattle.std.specs.List.{All, AllPairs, Contains, slice_get}
use Rattle.std.proofs.lemmas.Bool.{ltb-true, ltb-false}
use Rattle.std.proofs.lemmas.Bool.Decides.{Decides-and, Decides-or}
use Rattle.std.proofs.lemmas.List.Elements.{All-nil, All-cons, All-head, All-tail, All-append, All-weaker, All-contains, Contains-get_or, All-contains_itself}
use Rattle.std.proofs.lemmas.List.Kept.{AllPairs-cons, AllPairs-filter}
use Rattle.std.proofs.lemmas.Map.Views.{list_any-from_Contains, Contains-from_any}
use Rattle.config_types.specs.declared.config.Config.{Config}
use Rattle.config_types.specs.declared.config.End.{End}
use Rattle.config_types.specs.declared.config.End.TheVariants.{Any, Named}
use Rattle.config_types.specs.declared.config.Network.{Network}
use Rattle.config_types.specs.declared.config.Policy.{Policy}
use Rattle.config_types.specs.declared.config.Rule.{Rule}
use Rattle.ov_types.proofs.FirstLemmas.{same_name_iff, pairs_head, pairs_tail, contains_here, contains_later, contains_cases}
use Rattle.policy_rules.specs.declared.numbered.NumberedRule.{NumberedRule}
use Rattle.policy_rules.specs.Related.{numbered_from, numbered_rules, attaches, put_by_sequence, by_sequence, end_fits, fits, rules_between}
use Rattle.policy_rules.specs.Standing.{ComesBefore, IsEnd, Fits, IsBetween}
use Rattle.policy_rules.proofs.Lists.{joined_is, is_joined, kept_is, is_kept}
use Rattle.policy_rules.proofs.Deciders.{all_put, all_ordered}

-- policies by sequence

put_itself : (p : Policy) (qs : List Policy) → Contains (put_by_sequence p qs) p
put_itself p [] = contains_here p []
put_itself p (q ∷ qs) =
    elim (ltb q.sequence p.sequence) as (λ b. Contains (cond b (q ∷ put_by_sequence p qs) (p ∷ q ∷ qs)) p) [
      | true ↦ contains_later p q (put_by_sequence p qs) (put_itself p qs)
      | false ↦ contains_here p (q ∷ qs)
    ]

put_keeps : (p : Policy) (qs : List Policy) (x : Policy) → Contains qs x → Contains (put_by_sequence p qs) x
put_keeps p [] x h = contains_later x p [] h
put_keeps p (q ∷ qs) x h =
    elim (ltb q.sequence p.sequence) as (λ b. Contains (cond b (q ∷ put_by_sequence p qs) (p ∷ q ∷ qs)) x) [
      | true ↦
          elim (contains_cases q qs x h) [
            | inl same ↦ subst (Contains (q ∷ put_by_sequence p qs)) same (contains_here q (put_by_sequence p qs))
            | inr later ↦ contains_later x q (put_by_sequence p qs) (put_keeps p qs x later)
          ]
      | false ↦ contains_later x p (q ∷ qs) h
    ]

is_ordered : (ps : List Policy) (x : Policy) → Contains ps x → Contains (by_sequence ps) x
is_ordered [] x h = h
is_ordered (p ∷ ps) x h =
    elim (contains_cases p ps x h) [
      | inl same ↦ subst (Contains (put_by_sequence p (by_sequence ps))) same (put_itself p (by_sequence ps))
      | inr later ↦ put_keeps p (by_sequence ps) x (is_ordered ps x later)
    ]

ordered_is : (ps : List Policy) (x : Policy) → Contains (by_sequence ps) x → Contains ps x
ordered_is ps x h = All-contains (Contains ps) (by_sequence ps) x (all_ordered (Contains ps) ps (All-contains_itself ps)) h

-- the rules of a policy, the first at a position

record IsNumbered (sequence first : ℕ) (rules : List Rule) (r : NumberedRule) : Type 0 where
  place : ℕ
  stands : slice_get rules place ≡ Some r.rule
  sequence_is : r.number.sequence ≡ sequence
  position_is : r.number.position ≡ first + place

each_numbered : (sequence first : ℕ) (rules : List Rule) → All (IsNumbered sequence first rules) (numbered_from sequence first rules)
each_numbered sequence first [] = All-nil (IsNumbered sequence first [])
each_numbered sequence first (r ∷ rs) =
    let here : NumberedRule = record { number = record { sequence = sequence; position = first }; rule = r } in
    All-cons (IsNumbered sequence first (r ∷ rs)) here (numbered_from sequence (first + 1) rs)
    (record { place = 0; stands = refl; sequence_is = refl; position_is = omega arith })
    (All-weaker (IsNumbered sequence (first + 1) rs) (IsNumbered sequence first (r ∷ rs))
    (λ x h. record { place = suc h.place; stands = h.stands; sequence_is = h.sequence_is; position_is = omega (arith, h.position_is) })
    (numbered_from sequence (first + 1) rs) (each_numbered sequence (first + 1) rs))

numbered_is : (p : Policy) (r : NumberedRule) → Contains (numbered_rules p) r → IsNumbered p.sequence 1 p.rules r
numbered_is p r h = All-contains (IsNumbered p.sequence 1 p.rules) (numbered_rules p) r (each_numbered p.sequence 1 p.rules) h

same_numbered : (sequence position : ℕ) (rule : Rule) (r : NumberedRule) → r.number.sequence ≡ sequence → r.number.position ≡ position → rule ≡ r.rule
    → record { number = record { sequence = sequence; position = position }; rule = rule } ≡ r
same_numbered sequence position rule r e f g =
    let same : record { number = record { sequence = sequence; position = position }; rule = rule } ≡ record { number = record { sequence = r.number.sequence; position = r.number.position }; rule = r.rule } = cc in
    same

is_numbered : (sequence first : ℕ) (rules : List Rule) (place : ℕ) (r : NumberedRule) → slice_get rules place ≡ Some r.rule
    → r.number.sequence ≡ sequence → r.number.position ≡ first + place → Contains (numbered_from sequence first rules) r
is_numbered sequence first [] place r h e f = cc
is_numbered sequence first (q ∷ qs) zero r h e f =
    let here : NumberedRule = record { number = record { sequence = sequence; position = first }; rule = q } in
    let one : q ≡ r.rule = cc in
    let same : here ≡ r = same_numbered sequence first q r e (omega arith) one in
    subst (Contains (here ∷ numbered_from sequence (first + 1) qs)) same (contains_here here (numbered_from sequence (first + 1) qs))
is_numbered sequence first (q ∷ qs) (suc place) r h e f =
    let here : NumberedRule = record { number = record { sequence = sequence; position = first }; rule = q } in
    contains_later r here (numbered_from sequence (first + 1) qs) (is_numbered sequence (first + 1) qs place r h e (omega arith))

-- what the tests say

pub attaches_iff : (n : Network) (p : Policy) → Decides (attaches n p) (Contains n.policies p.name)
attaches_iff n p = (
  Contains-from_any (λ x y h. same_text x y (sym h)) p.name n.policies,
  list_any-from_Contains nat_list_eq_equiv p.name n.policies,
)

end_iff : (e : End) (n : Network) → Decides (end_fits e n) (IsEnd e n)
end_iff Any n = (λ h. tt, λ h. refl)
end_iff (Named name) n = same_name_iff name n.name

pub fits_iff : (r : Rule) (a b : Network) → Decides (fits r a b) (Fits r a b)
fits_iff r a b = Decides-and (end_fits r.source a) (end_fits r.destination b) (end_iff r.source a) (end_iff r.destination b)

both_iff : (a b : Network) (p : Policy) → Decides (attaches a p && attaches b p) (Contains a.policies p.name × Contains b.policies p.name)
both_iff a b p = Decides-and (attaches a p) (attaches b p) (attaches_iff a p) (attaches_iff b p)

either_iff : (r : Rule) (a b : Network) → Decides (fits r a b || fits r b a) (Fits r a b ⊎ Fits r b a)
either_iff r a b = Decides-or (fits r a b) (fits r b a) (fits_iff r a b) (fits_iff r b a)

-- which rules stand between two networks

pub between_iff : (c : Config) (a b : Network) (r : NumberedRule) → Contains (rules_between c a b) r ↔ IsBetween c a b r
between_iff c a b r =
    let both : Policy → Bool = λ p. attaches a p && attaches b p in
    let either : NumberedRule → Bool = λ r. fits r.rule a b || fits r.rule b a in
    let shared : List Policy = by_sequence (filter both c.policies) in (
      λ h.
          let fitting = kept_is either (flat_map numbered_rules shared) r h in
          let from = joined_is numbered_rules shared r fitting.0 in
          let p : Policy = from.0 in
          let attached = kept_is both c.policies p (ordered_is (filter both c.policies) p from.1) in
          let networks = (both_iff a b p).0 attached.1 in
          let numbered = numbered_is p r from.2 in
          record {
            policy = p;
            place = numbered.place;
            configured = attached.0;
            first_attaches = networks.0;
            second_attaches = networks.1;
            stands = numbered.stands;
            sequence = numbered.sequence_is;
            position = omega (arith, numbered.position_is);
            fits = (either_iff r.rule a b).0 fitting.1;
          },
      λ k.
          let p : Policy = k.policy in
          let attached = is_kept both c.policies p k.configured ((both_iff a b p).1 (k.first_attaches, k.second_attaches)) in
          let numbered = is_numbered p.sequence 1 p.rules k.place r k.stands k.sequence (omega (arith, k.position)) in
          is_kept either (flat_map numbered_rules shared) r
          (is_joined numbered_rules shared p r (is_ordered (filter both c.policies) p attached) numbered)
          ((either_iff r.rule a b).1 k.fits),
    )

-- pairs of lists that are joined

module _ {A : Type 0} (R : A → A → Type 0) where
  pairs_append : (xs ys : List A) → AllPairs R xs → AllPairs R ys → ((x y : A) → Contains xs x → Contains ys y → R x y) → AllPairs R (xs ++ ys)
  pairs_append [] ys h k across = k
  pairs_append (x ∷ xs) ys h k across =
      AllPairs-cons R x (xs ++ ys)
      (All-append (R x) xs ys (pairs_head R x xs h) (λ i d lt. across x (get_or ys i d) (contains_here x xs) (Contains-get_or ys i d lt)))
      (pairs_append xs ys (pairs_tail R x xs h) k (λ u v in_u in_v. across u v (contains_later u x xs in_u) in_v))

  pairs_joined : {B : Type 0} (f : B → List A) (S : B → B → Type 0) → ((b c : B) (x y : A) → S b c → Contains (f b) x → Contains (f c) y → R x y)
      → ((b : B) → AllPairs R (f b)) → (bs : List B) → AllPairs S bs → AllPairs R (flat_map f bs)
  pairs_joined f S across inner [] h = λ i j d lt within. absurd (omega arith)
  pairs_joined f S across inner (b ∷ bs) h =
      pairs_append (f b) (flat_map f bs) (inner b) (pairs_joined f S across inner bs (pairs_tail S b bs h))
      (λ x y in_x in_y.
      let from = joined_is f bs y in_y in
      across b from.0 x y (All-contains (S b) bs from.0 (pairs_head S b bs h) from.1) in_x from.2)

-- the order of policies, and of a policy's rules

abbrev Rises : Policy → Policy → Type 0
Rises p q = p.sequence < q.sequence

abbrev Differs : Policy → Policy → Type 0
Differs p q = p.sequence ≢ q.sequence

put_rises : (p : Policy) (qs : List Policy) → All (Differs p) qs → AllPairs Rises qs → AllPairs Rises (put_by_sequence p qs)
put_rises p [] apart up = λ i j d lt within. absurd (omega arith)
put_rises p (q ∷ qs) apart up =
    let other : p.sequence ≢ q.sequence = All-head (Differs p) q qs apart in
    let above : All (Rises q) qs = pairs_head Rises q qs up in
    elim (ltb q.sequence p.sequence) as (λ b. ltb q.sequence p.sequence ≡ b → AllPairs Rises (cond b (q ∷ put_by_sequence p qs) (p ∷ q ∷ qs))) [
      | true ↦ λ e.
          let less : q.sequence < p.sequence = ltb-true q.sequence p.sequence e in
          AllPairs-cons Rises q (put_by_sequence p qs) (all_put (Rises q) p qs (omega arith) above) (put_rises p qs (All-tail (Differs p) q qs apart) (pairs_tail Rises q qs up))
      | false ↦ λ e.
          let less : p.sequence < q.sequence = omega (arith, ltb-false q.sequence p.sequence e) in
          AllPairs-cons Rises p (q ∷ qs) (All-cons (Rises p) q qs less (All-weaker (Rises q) (Rises p) (λ r more. omega arith) qs above)) up
    ] refl

rises : (ps : List Policy) → AllPairs Differs ps → AllPairs Rises (by_sequence ps)
rises [] apart = λ i j d lt within. absurd (omega arith)
rises (p ∷ ps) apart = put_rises p (by_sequence ps) (all_ordered (Differs p) ps (pairs_head Differs p ps apart)) (rises ps (pairs_tail Differs p ps apart))

abbrev Precedes : NumberedRule → NumberedRule → Type 0
Precedes r s = ComesBefore r.number s.number

numbered_in_order : (sequence first : ℕ) (rules : List Rule) → AllPairs Precedes (numbered_from sequence first rules)
numbered_in_order sequence first [] = λ i j d lt within. absurd (omega arith)
numbered_in_order sequence first (r ∷ rs) =
    let here : NumberedRule = record { number = record { sequence = sequence; position = first }; rule = r } in
    AllPairs-cons Precedes here (numbered_from sequence (first + 1) rs)
    (All-weaker (IsNumbered sequence (first + 1) rs) (Precedes here) (λ x h. inr (sym h.sequence_is, omega (arith, h.position_is)))
    (numbered_from sequence (first + 1) rs) (each_numbered sequence (first + 1) rs))
    (numbered_in_order sequence (first + 1) rs)

across_policies : (p q : Policy) (r s : NumberedRule) → Rises p q → Contains (numbered_rules p) r → Contains (numbered_rules q) s → Precedes r s
across_policies p q r s less in_p in_q =
    let first = numbered_is p r in_p in
    let second = numbered_is q s in_q in
    inl (omega (arith, first.sequence_is, second.sequence_is, less))

pub in_order : (c : Config) (a b : Network) → AllPairs Differs c.policies → AllPairs (λ r s. ComesBefore r.number s.number) (rules_between c a b)
in_order c a b apart =
    let both : Policy → Bool = λ p. attaches a p && attaches b p in
    AllPairs-filter Precedes (λ r. fits r.rule a b || fits r.rule b a) (flat_map numbered_rules (by_sequence (filter both c.policies)))
    (pairs_joined Precedes numbered_rules Rises across_policies (λ p. numbered_in_order p.sequence 1 p.rules) (by_sequence (filter both c.policies))
    (rises (filter both c.policies) (AllPairs-filter Differs both c.policies apart)))
