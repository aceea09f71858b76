-- One rule has the number of a use.
use Rattle.std.proofs.Common.{◌≡◌, ◌≢◌, ◌⊎◌, inl, inr, ℕ, List, [], ◌∷◌, Option, Some, None, refl, sym, ap, ◌∙◌, subst, arith}
use Rattle.std.specs.List.{Contains, cons_option, filter_map}
use Rattle.std.proofs.lemmas.List.Elements.{All-contains, All-contains_itself}
use Rattle.ov_types.proofs.FirstLemmas.{contains_cases, contains_here, contains_later, pairs_head, pairs_tail}
use Rattle.config_types.specs.declared.config.Action.TheVariants.{Through}
use Rattle.config_types.specs.declared.config.Config.{Config}
use Rattle.config_types.specs.declared.config.Network.{Network}
use Rattle.config_types.specs.declared.topology.Topology.{Topology}
use Rattle.policy_rules.specs.Related.{all_rules, rules_between}
use Rattle.policy_rules.specs.Standing.{IsBetween}
use Rattle.policy_rules.specs.declared.numbered.NumberedRule.{NumberedRule}
use Rattle.policy_rules.proofs.Deciders.{all_between}
use Rattle.policy_rules.proofs.Standing.{between_iff}
use Rattle.config_check.specs.Rules.{use_of}
use Rattle.config_check.specs.Sentences.{AreDistinct, IsValid}

given_by : {A B : Type 0} (f : A → Option B) (xs : List A) (a : A) (u : B) → Contains xs a → f a ≡ Some u → Contains (filter_map f xs) u
given_by f [] a u at e = absurd (omega (arith, at.1))
given_by {A} {B} f (x ∷ xs) a u at e =
    elim (contains_cases x xs a at) [
      | inl here ↦
          let gives : f x ≡ Some u = ap f here ∙ e in
          subst (λ (o : Option B). Contains (cons_option o (filter_map f xs)) u) (sym gives) (contains_here u (filter_map f xs))
      | inr later ↦ more (f x) (given_by f xs a u later e)
    ]
  where
    more : (o : Option B) → Contains (filter_map f xs) u → Contains (cons_option o (filter_map f xs)) u
    more None h = h
    more (Some w) h = contains_later u w (filter_map f xs) h

-- where no two of a list give one answer, one gives it
pub one_giver : {A B : Type 0} (f : A → Option B) (xs : List A) → AreDistinct (filter_map f xs) → (a b : A) (u : B) → Contains xs a → Contains xs b
    → f a ≡ Some u → f b ≡ Some u → a ≡ b
one_giver f [] h a b u in_a in_b at_a at_b = absurd (omega (arith, in_a.1))
one_giver {A} {B} f (z ∷ zs) h a b u in_a in_b at_a at_b =
    by (λ d i j. one_giver f zs d a b u i j at_a at_b) (f z) refl h (contains_cases z zs a in_a) (contains_cases z zs b in_b)
  where
    apart : (w : B) → f z ≡ Some w → AreDistinct (w ∷ filter_map f zs) → (y : A) → f z ≡ Some u → f y ≡ Some u → Contains zs y → ⊥
    apart w e distinct y here there at =
        let same : Some w ≡ Some u = sym e ∙ here in
        let is : w ≡ u = cc in
        All-contains (λ n. w ≢ n) (filter_map f zs) u (pairs_head (λ m n. m ≢ n) w (filter_map f zs) distinct) (given_by f zs y u at there) is

    by : (AreDistinct (filter_map f zs) → Contains zs a → Contains zs b → a ≡ b) → (o : Option B) → f z ≡ o → AreDistinct (cons_option o (filter_map f zs)) → (z ≡ a) ⊎ Contains zs a → (z ≡ b) ⊎ Contains zs b → a ≡ b
    by again o e distinct (inl first) (inl second) = sym first ∙ second
    by again None e distinct (inl first) (inr later) = let never : None ≡ Some u = sym e ∙ ap f first ∙ at_a in absurd (cc)
    by again None e distinct (inr later) (inl second) = let never : None ≡ Some u = sym e ∙ ap f second ∙ at_b in absurd (cc)
    by again None e distinct (inr early) (inr late) = again distinct early late
    by again (Some w) e distinct (inl first) (inr later) = absurd (apart w e distinct b (ap f first ∙ at_a) at_b later)
    by again (Some w) e distinct (inr later) (inl second) = absurd (apart w e distinct a (ap f second ∙ at_b) at_a later)
    by again (Some w) e distinct (inr early) (inr late) = again (pairs_tail (λ m n. m ≢ n) w (filter_map f zs) distinct) early late

pub among_all : (c : Config) (a b : Network) (r : NumberedRule) → IsBetween c a b r → Contains (all_rules c) r
among_all c a b r h =
    All-contains (Contains (all_rules c)) (rules_between c a b) r (all_between (Contains (all_rules c)) c a b (All-contains_itself (all_rules c))) ((between_iff c a b r).1 h)

-- the rules of two networks that lead through a use of one number are one
pub one_rule : (t : Topology) (c : Config) → IsValid t c → (a b : Network) (r s : NumberedRule) (chain other : List ℕ) (use_no : ℕ) → IsBetween c a b r → IsBetween c a b s
    → r.rule.action ≡ Through chain use_no → s.rule.action ≡ Through other use_no → r ≡ s
one_rule t c v a b r s chain other use_no h k leads does =
    one_giver (λ (r : NumberedRule). use_of r.rule.action) (all_rules c) v.numbers.uses r s use_no (among_all c a b r h) (among_all c a b s k)
    (ap use_of leads) (ap use_of does)

pub one_chain : (t : Topology) (c : Config) → IsValid t c → (a b : Network) (r s : NumberedRule) (chain other : List ℕ) (use_no : ℕ) → IsBetween c a b r → IsBetween c a b s
    → r.rule.action ≡ Through chain use_no → s.rule.action ≡ Through other use_no → chain ≡ other
one_chain t c v a b r s chain other use_no h k leads does =
    let same : r ≡ s = one_rule t c v a b r s chain other use_no h k leads does in
    let acts : Through chain use_no ≡ Through other use_no = sym leads ∙ ap (λ (r : NumberedRule). r.rule.action) same ∙ does in
    cc
