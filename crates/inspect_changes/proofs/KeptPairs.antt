-- Between two networks that are kept nothing differs, so that the differences of all that stand are all differences.
use Rattle.std.proofs.Common.{◌≡◌, ◌&&◌, ◌||◌, Bool, true, false, cond, nat_eq, List, [], ◌∷◌, ◌++◌, Option, Some, None, filter, flat_map, refl, sym, ap, ◌∙◌, append_assoc}
use Rattle.std.specs.Cmp.Lexicographic.{pointwise}
use Rattle.std.specs.List.{list_any}
use Rattle.std.proofs.lemmas.Bool.{and_parts}
use Rattle.std.proofs.lemmas.List.{append-nil}
use Rattle.ov_types.specs.First.{same_name}
use Rattle.ov_types.proofs.FirstLemmas.{same_name_iff}
use Rattle.config_types.specs.declared.config.Config.{Config}
use Rattle.config_types.specs.declared.config.End.{End}
use Rattle.config_types.specs.declared.config.End.TheVariants.{Any, Named}
use Rattle.config_types.specs.declared.config.Network.{Network}
use Rattle.config_types.specs.declared.config.Policy.{Policy}
use Rattle.config_types.specs.declared.config.Rule.{Rule}
use Rattle.config_check.specs.Finding.{network_named}
use Rattle.policy_rules.specs.Matching.{speaks_both_ways}
use Rattle.policy_rules.specs.Related.{attaches, by_sequence, end_fits, fits, numbered_rules}
use Rattle.policy_rules.specs.declared.numbered.NumberedRule.{NumberedRule}
use Rattle.policy_regions.specs.Claims.{claims_between, claims_of, forward_claim, mirrored_claim}
use Rattle.policy_regions.proofs.Kept.{filter_both}
use Rattle.inspect_changes.specs.Fates.{all_differences, differences_between, differences_from, differences_to}
use Rattle.inspect_changes.specs.Unchanged.{Stands, attached, attaches_alike, differences_unless, is_kept, lead_alike, same_policies, standing, standing_as}
use Rattle.inspect_changes.specs.declared.fate.Difference.{Difference}
use Rattle.inspect_changes.proofs.Alike.{all_names, policies_are}
use Rattle.inspect_changes.proofs.Leading.{all_stay}
use Rattle.inspect_changes.proofs.Unchanged.{nothing_by}

-- a network attaches the same policies in two configurations
record IsAlike (c : Config) (a : Network) (d : Config) (a' : Network) : Type 0 where
  name : a.name ≡ a'.name
  names : a.policies ≡ a'.policies
  policies : attached c a ≡ attached d a'

is_alike : (c : Config) (a : Network) (d : Config) (a' : Network) → attaches_alike c a d a' ≡ true → IsAlike c a d a'
is_alike c a d a' h =
    let p = and_parts (same_name a.name a'.name) (pointwise (pointwise nat_eq) a.policies a'.policies && same_policies (attached c a) (attached d a')) h in
    let q = and_parts (pointwise (pointwise nat_eq) a.policies a'.policies) (same_policies (attached c a) (attached d a')) p.1 in
    record {
      name = (same_name_iff a.name a'.name).0 p.0;
      names = all_names a.policies a'.policies q.0;
      policies = policies_are (attached c a) (attached d a') q.1;
    }

-- the rules between two such networks claim the same in both

end_alike : (e : End) (a a' : Network) → a.name ≡ a'.name → end_fits e a ≡ end_fits e a'
end_alike Any a a' h = refl
end_alike (Named name) a a' h = ap (same_name name) h

fits_alike : (r : Rule) (a b a' b' : Network) → a.name ≡ a'.name → b.name ≡ b'.name → fits r a b ≡ fits r a' b'
fits_alike r a b a' b' h k = λ i. end_alike r.source a a' h i && end_alike r.destination b b' k i

module _ (c : Config) (a b : Network) (d : Config) (a' b' : Network) (from : IsAlike c a d a') (to : IsAlike c b d b') where
  shared : filter (λ p. attaches a p && attaches b p) c.policies ≡ filter (λ p. attaches a' p && attaches b' p) d.policies
  shared =
      sym (filter_both (attaches a) (attaches b) c.policies)
      ∙ (λ i. filter (λ (p : Policy). list_any (same_name p.name) (to.names i)) (from.policies i))
      ∙ filter_both (attaches a') (attaches b') d.policies

  forth : (r : NumberedRule) → fits r.rule a b ≡ fits r.rule a' b'
  forth r = fits_alike r.rule a b a' b' from.name to.name

  back : (r : NumberedRule) → fits r.rule b a ≡ fits r.rule b' a'
  back r = fits_alike r.rule b a b' a' to.name from.name

  one_alike : (r : NumberedRule) → claims_of a b r ≡ claims_of a' b' r
  one_alike r = λ i. cond (forth r i) (forward_claim r ∷ []) [] ++ cond (speaks_both_ways r.rule.direction && back r i) (mirrored_claim r ∷ []) []

  claims_alike : claims_between c a b ≡ claims_between d a' b'
  claims_alike = λ i. flat_map (λ r. one_alike r i) (filter (λ r. forth r i || back r i) (flat_map numbered_rules (by_sequence (shared i))))

  nothing_kept : lead_alike c d ≡ true → differences_between c a b d a' b' ≡ []
  nothing_kept h = nothing_by c a b d (claims_between c a b) (claims_between d a' b') claims_alike (all_stay c d (claims_between c a b) h)

-- the networks that stand in both configurations

flat_append : {A B : Type 0} (f : A → List B) (xs ys : List A) → flat_map f (xs ++ ys) ≡ flat_map f xs ++ flat_map f ys
flat_append f [] ys = refl
flat_append {A} {B} f (x ∷ xs) ys = ap (λ (rest : List B). f x ++ rest) (flat_append f xs ys) ∙ sym (append_assoc (f x) (flat_map f xs) (flat_map f ys))

flat_flat : {A B C : Type 0} (f : B → List C) (g : A → List B) (xs : List A) → flat_map f (flat_map g xs) ≡ flat_map (λ x. flat_map f (g x)) xs
flat_flat f g [] = refl
flat_flat {A} {B} {C} f g (x ∷ xs) = flat_append f (g x) (flat_map g xs) ∙ ap (λ (rest : List C). flat_map f (g x) ++ rest) (flat_flat f g xs)

flat_same : {A B : Type 0} (f g : A → List B) → ((x : A) → f x ≡ g x) → (xs : List A) → flat_map f xs ≡ flat_map g xs
flat_same f g h xs = λ i. flat_map (λ x. h x i) xs

none_where : {A : Type 0} (q : Bool) (xs : List A) → (q ≡ true → xs ≡ []) → cond q [] xs ≡ xs
none_where true xs h = sym (h refl)
none_where false xs h = refl

module _ (c d : Config) where
  abbrev kept : Network → Network → Stands
  kept a a' = record { before = a; after = a'; is_kept = is_kept c a d a' }

  none_kept : (a a' b b' : Network) → (is_kept c a d a' && is_kept c b d b') ≡ true → differences_between c a b d a' b' ≡ []
  none_kept a a' b b' h =
      let p = and_parts (is_kept c a d a') (is_kept c b d b') h in
      let q = and_parts (lead_alike c d) (attaches_alike c a d a') p.0 in
      let r = and_parts (lead_alike c d) (attaches_alike c b d b') p.1 in
      nothing_kept c a b d a' b' (is_alike c a d a' q.1) (is_alike c b d b' r.1) q.0

  one_to : (a a' b : Network) (o : Option Network) → flat_map (differences_unless c d (kept a a')) (standing_as c d b o) ≡ differences_to c a d a' b o
  one_to a a' b None = refl
  one_to a a' b (Some b') =
      append-nil (differences_unless c d (kept a a') (kept b b'))
      ∙ ap (λ (xs : List Difference). cond (same_name a.name b.name) [] xs)
      (none_where (is_kept c a d a' && is_kept c b d b') (differences_between c a b d a' b') (none_kept a a' b b'))

  each_to : (a a' : Network) → flat_map (differences_unless c d (kept a a')) (standing c d) ≡ flat_map (λ b. differences_to c a d a' b (network_named d b.name)) c.networks
  each_to a a' =
      flat_flat (differences_unless c d (kept a a')) (λ b. standing_as c d b (network_named d b.name)) c.networks
      ∙ flat_same (λ b. flat_map (differences_unless c d (kept a a')) (standing_as c d b (network_named d b.name)))
      (λ b. differences_to c a d a' b (network_named d b.name)) (λ b. one_to a a' b (network_named d b.name)) c.networks

  abbrev from_one : Stands → List Difference
  from_one s = flat_map (differences_unless c d s) (standing c d)

  one_from : (a : Network) (o : Option Network) → flat_map from_one (standing_as c d a o) ≡ differences_from c a d o
  one_from a None = refl
  one_from a (Some a') = append-nil (from_one (kept a a')) ∙ each_to a a'

  pub all_standing : flat_map (λ s. flat_map (differences_unless c d s) (standing c d)) (standing c d) ≡ all_differences c d
  all_standing =
      flat_flat from_one (λ a. standing_as c d a (network_named d a.name)) c.networks
      ∙ flat_same (λ a. flat_map from_one (standing_as c d a (network_named d a.name))) (λ a. differences_from c a d (network_named d a.name))
      (λ a. one_from a (network_named d a.name)) c.networks
