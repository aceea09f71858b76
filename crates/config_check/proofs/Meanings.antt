-- What the tests of the rules mean.
use Rattle.std.proofs.Common.{◌≡◌, ◌≢◌, ◌↔◌, ◌⊎◌, inl, inr, ◌||◌, ◌&&◌, ◌==◌, ℕ, Bool, true, false, not, cond, IsTrue, List, [], ◌∷◌, Option, Some, None, option_map, IfSome, filter, find, refl, sym, ap, arith}
use Rattle.std.specs.Cmp.Lexicographic.{same_text, nat_list_eq_equiv}
use Rattle.std.specs.List.{All, AllPairs, Any, Contains, list_any}
use Rattle.std.specs.Option.{option_map_or}
use Rattle.std.proofs.lemmas.Bool.{eqb-true, eq-eqb}
use Rattle.std.proofs.lemmas.List.Folds.{Any-from_list_any, list_any-from_Any}
use Rattle.std.proofs.lemmas.List.Kept.{AllPairs-cons}
use Rattle.std.proofs.lemmas.Map.Views.{list_any-from_Contains, Contains-from_any}
use Rattle.ov_types.specs.Prefix.{Block, contains, is_inside}
use Rattle.ov_types.proofs.Blocks.{within_is}
use Rattle.config_types.specs.declared.config.Action.{Action}
use Rattle.config_types.specs.declared.config.Action.TheVariants.{Pass, Deny, Through}
use Rattle.config_types.specs.declared.config.Config.{Config}
use Rattle.config_types.specs.declared.config.End.{End}
use Rattle.config_types.specs.declared.config.End.TheVariants as Ends
use Rattle.config_types.specs.declared.config.Network.{Network}
use Rattle.config_types.specs.declared.config.Port.{Port}
use Rattle.ov_types.specs.First.{same_name, first_meeting}
use Rattle.config_check.specs.declared.refusal.IdKind.{IdKind}
use Rattle.config_check.specs.declared.refusal.Refusal.{Refusal}
use Rattle.config_check.specs.declared.refusal.Refusal.TheVariants.{DuplicateName, DuplicateId, BadReference, SubnetOverlap}
use Rattle.policy_rules.specs.Related.{are_related}
use Rattle.config_check.specs.Rules.{repeated_name, repeated_id, missing, missing_end, missing_chain, overlap, network_named, holds_address, is_outside, share_address, is_chain_rule, is_any, same_end, share_addresses, overlapping, overlapping_around}
use Rattle.config_check.specs.Sentences.{AreDistinct, EndExists, ChainExists, Overlap, IsAround, AreApart}
use Rattle.config_check.proofs.Iffs.{iff_then, all_iff, pairs_iff, list_any_false, pairs_kept}
pub use Rattle.ov_types.proofs.FirstLemmas.{same_name_iff}
use Rattle.ov_types.proofs.FirstLemmas.{both_none, mapped_none, find_none, first_meeting_none, pairs_head, pairs_tail}

-- tests

pub fails_iff : {P : Type 0} (b : Bool) → IsTrue b ↔ P → (b ≡ false) ↔ (¬ P)
fails_iff true h = (λ e. cc, λ n. absurd (n (h.0 refl)))
fails_iff {P} false h = (λ e p. let t : false ≡ true = h.1 p in cc, λ n. refl)

or_iff : {P Q : Type 0} (a b : Bool) → IsTrue a ↔ P → IsTrue b ↔ Q → IsTrue (a || b) ↔ (P ⊎ Q)
or_iff true b p q = (λ h. inl (p.0 refl), λ h. refl)
or_iff false b p q = (λ h. inr (q.0 h), λ h. elim h [ inl x ↦ let t : false ≡ true = p.1 x in cc | inr y ↦ q.1 y ])

pub and_iff : {P Q : Type 0} (a b : Bool) → IsTrue a ↔ P → IsTrue b ↔ Q → IsTrue (a && b) ↔ (P × Q)
and_iff true b p q = (λ h. (p.0 refl, q.0 h), λ h. q.1 h.1)
and_iff false b p q = (λ h. cc, λ h. p.1 h.0)

-- texts and numbers

pub number_iff : (a b : ℕ) → IsTrue (a == b) ↔ (a ≡ b)
number_iff a b = (eqb-true a b, eq-eqb a b)

pub distinct_names : (names : List (List ℕ)) → (repeated_name names ≡ None) ↔ AreDistinct names
distinct_names names =
    iff_then (mapped_none (λ (m : List ℕ × List ℕ). DuplicateName m.1) (first_meeting same_name names))
    (iff_then (first_meeting_none same_name names)
    (pairs_iff (λ a b. same_name a b ≡ false) (λ a b. a ≢ b) (λ a b. fails_iff (same_name a b) (same_name_iff a b)) names))

pub distinct_ids : (what : IdKind) (ids : List ℕ) → (repeated_id what ids ≡ None) ↔ AreDistinct ids
distinct_ids what ids =
    iff_then (mapped_none (λ (m : ℕ × ℕ). DuplicateId what m.1) (first_meeting (λ a b. a == b) ids))
    (iff_then (first_meeting_none (λ a b. a == b) ids)
    (pairs_iff (λ a b. (a == b) ≡ false) (λ a b. a ≢ b) (λ a b. fails_iff (a == b) (number_iff a b)) ids))

-- references

unless_iff : (b : Bool) (r : Refusal) → (cond b None (Some r) ≡ None) ↔ IsTrue b
unless_iff true r = (λ h. refl, λ h. refl)
unless_iff false r = (λ h. cc, λ h. cc)

among_iff : (names : List (List ℕ)) (name : List ℕ) → IsTrue (list_any (same_name name) names) ↔ Contains names name
among_iff names name = (
  Contains-from_any (λ x y h. same_text x y (sym h)) name names,
  list_any-from_Contains nat_list_eq_equiv name names,
)

pub exists_iff : (names : List (List ℕ)) (name : List ℕ) → (missing names name ≡ None) ↔ Contains names name
exists_iff names name = iff_then (unless_iff (list_any (same_name name) names) (BadReference name)) (among_iff names name)

pub end_exists_iff : (names : List (List ℕ)) (e : End) → (missing_end names e ≡ None) ↔ EndExists names e
end_exists_iff names Ends.Any = (λ h. tt, λ h. refl)
end_exists_iff names (Ends.Named name) = exists_iff names name

pub chain_exists_iff : (names : List (List ℕ)) (a : Action) → (missing_chain names a ≡ None) ↔ ChainExists names a
chain_exists_iff names Pass = (λ h. tt, λ h. refl)
chain_exists_iff names Deny = (λ h. tt, λ h. refl)
chain_exists_iff names (Through chain use_no) = exists_iff names chain

-- subnets

pub overlap_iff : (p q : Block) → IsTrue (overlap p q) ↔ Overlap p q
overlap_iff p q = or_iff (is_inside p q) (is_inside q p) (within_is p q (is_inside p q) refl) (within_is q p (is_inside q p) refl)

pub apart_iff : (p q : Block) → (overlap p q ≡ false) ↔ (¬ Overlap p q)
apart_iff p q = fails_iff (overlap p q) (overlap_iff p q)

-- ports

not_false_iff : (b : Bool) → (not b ≡ false) ↔ (b ≡ true)
not_false_iff true = (λ h. refl, λ h. refl)
not_false_iff false = (λ h. cc, λ h. cc)

pub holds_iff : (n : Network) (a : ℕ) → (holds_address n a ≡ true) ↔ Any (λ s. contains s a ≡ true) n.subnets
holds_iff n a = (Any-from_list_any (λ s. contains s a) n.subnets, list_any-from_Any (λ s. contains s a) n.subnets)

inside_of : (o : Option Network) (a : ℕ) → (option_map_or (λ n. not (holds_address n a)) o false ≡ false) ↔ IfSome o (λ n. Any (λ s. contains s a ≡ true) n.subnets)
inside_of None a = (λ h. tt, λ h. refl)
inside_of (Some n) a = iff_then (not_false_iff (holds_address n a)) (holds_iff n a)

pub inside_iff : (c : Config) (p : Port) → (is_outside c p ≡ false) ↔ IfSome (network_named c p.network) (λ n. Any (λ s. contains s p.address.0 ≡ true) n.subnets)
inside_iff c p = inside_of (network_named c p.network) p.address.0

pub shares_iff : (p q : Port) → (share_address p q ≡ false) ↔ (¬ ((p.network ≡ q.network) × (p.address.0 ≡ q.address.0)))
shares_iff p q =
    fails_iff (share_address p q)
    (and_iff (same_name p.network q.network) (p.address.0 == q.address.0) (same_name_iff p.network q.network) (number_iff p.address.0 q.address.0))

-- chain rules

pub ends_iff : (a : Action) (s d : End) → ((is_chain_rule a && (is_any s || is_any d)) ≡ false)
    ↔ ((chain : List ℕ) (use_no : ℕ) → a ≡ Through chain use_no → (s ≢ Ends.Any) × (d ≢ Ends.Any))
ends_iff Pass s d = (λ h chain use_no e. cc, λ h. refl)
ends_iff Deny s d = (λ h chain use_no e. cc, λ h. refl)
ends_iff (Through c u) Ends.Any d = (λ h chain use_no e. cc, λ h. absurd ((h c u refl).0 refl))
ends_iff (Through c u) (Ends.Named x) Ends.Any = (λ h chain use_no e. cc, λ h. absurd ((h c u refl).1 refl))
ends_iff (Through c u) (Ends.Named x) (Ends.Named y) = (λ h chain use_no e. (λ e1. cc, λ e2. cc), λ h. refl)

two_iff : (a : Action) (s d : End) → ((is_chain_rule a && same_end s d) ≡ false)
    ↔ ((chain name : List ℕ) (use_no : ℕ) → a ≡ Through chain use_no → s ≡ Ends.Named name → d ≢ Ends.Named name)
two_iff Pass s d = (λ h chain name use_no e e1 e2. cc, λ h. refl)
two_iff Deny s d = (λ h chain name use_no e e1 e2. cc, λ h. refl)
two_iff (Through c u) Ends.Any d = (λ h chain name use_no e e1 e2. cc, λ h. refl)
two_iff (Through c u) (Ends.Named x) Ends.Any = (λ h chain name use_no e e1 e2. cc, λ h. refl)
two_iff (Through c u) (Ends.Named x) (Ends.Named y) =
    let differ : (same_name x y ≡ false) ↔ (¬ (x ≡ y)) = fails_iff (same_name x y) (same_name_iff x y) in (
      λ h chain name use_no e e1 e2. let one : x ≡ y = cc in differ.0 h one,
      λ h. differ.1 (λ e. h c x u refl refl (ap Ends.Named (sym e))),
    )

pub names_two_iff : (a : Action) (s d : End) → ((is_chain_rule a && same_end s d) ≡ false)
    ↔ ((chain name : List ℕ) (use_no : ℕ) → a ≡ Through chain use_no → s ≡ Ends.Named name → d ≢ Ends.Named name)
names_two_iff = two_iff

-- overlaps

pub networks_apart_iff : (a b : Network) → (share_addresses a b ≡ false) ↔ AreApart a b
networks_apart_iff a b =
    iff_then (list_any_false (λ p. list_any (overlap p) b.subnets) a.subnets)
    (all_iff (λ p. list_any (overlap p) b.subnets ≡ false) (λ p. All (λ q. ¬ Overlap p q) b.subnets)
    (λ p. iff_then (list_any_false (overlap p) b.subnets) (all_iff (λ q. overlap p q ≡ false) (λ q. ¬ Overlap p q) (apart_iff p) b.subnets)) a.subnets)

no_overlapping : (xs : List Network) → overlapping xs ≡ None → AllPairs (λ a b. share_addresses a b ≡ false) xs
no_overlapping [] h = λ i j d lt within. absurd (omega arith)
no_overlapping (a ∷ bs) h =
    let shared : Option Network = find (share_addresses a) bs in
    let named : Network → Refusal = λ b. SubnetOverlap a.name b.name in
    let parts : (option_map named shared ≡ None) × (overlapping bs ≡ None) = (both_none (option_map named shared) (overlapping bs)).0 h in
    AllPairs-cons (λ x y. share_addresses x y ≡ false) a bs
    ((find_none (share_addresses a) bs).0 ((mapped_none named shared).0 parts.0)) (no_overlapping bs parts.1)

none_overlaps : (xs : List Network) → AllPairs (λ a b. share_addresses a b ≡ false) xs → overlapping xs ≡ None
none_overlaps [] h = refl
none_overlaps (a ∷ bs) h =
    let R : Network → Network → Type 0 = λ x y. share_addresses x y ≡ false in
    let shared : Option Network = find (share_addresses a) bs in
    let named : Network → Refusal = λ b. SubnetOverlap a.name b.name in
    (both_none (option_map named shared) (overlapping bs)).1 (
      (mapped_none named shared).1 ((find_none (share_addresses a) bs).1 (pairs_head R a bs h)),
      none_overlaps bs (pairs_tail R a bs h),
    )

pub around_test : (c : Config) (n a : Network) → IsTrue (same_name a.name n.name || are_related c n a) ↔ IsAround c n a
around_test c n a = or_iff (same_name a.name n.name) (are_related c n a) (same_name_iff a.name n.name) (λ h. h, λ h. h)

pub around_iff : (c : Config) (n : Network)
    → (overlapping_around c n ≡ None) ↔ AllPairs (λ a b. IsAround c n a → IsAround c n b → AreApart a b) c.networks
around_iff c n =
    let g : Network → Bool = λ a. same_name a.name n.name || are_related c n a in
    let R : Network → Network → Type 0 = λ a b. share_addresses a b ≡ false in
    let K : Network → Network → Type 0 = λ a b. IsTrue (g a) → IsTrue (g b) → R a b in
    let S : Network → Network → Type 0 = λ a b. IsAround c n a → IsAround c n b → AreApart a b in
    let both : (a b : Network) → K a b ↔ S a b = λ a b. (
      λ h x y. (networks_apart_iff a b).0 (h ((around_test c n a).1 x) ((around_test c n b).1 y)),
      λ h x y. (networks_apart_iff a b).1 (h ((around_test c n a).0 x) ((around_test c n b).0 y)),
    ) in
    let listed : (overlapping (filter g c.networks) ≡ None) ↔ AllPairs R (filter g c.networks) = (no_overlapping (filter g c.networks), none_overlaps (filter g c.networks)) in
    iff_then listed (iff_then (pairs_kept g R c.networks) (pairs_iff K S both c.networks))
