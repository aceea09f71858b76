-- Few rules in each policy, and the claims of shared policies.
use Rattle.std.proofs.Common.{◌≡◌, ℕ, ◌<◌, ◌≤◌, ◌&&◌, ◌||◌, leb, ltb, Bool, true, false, cond, List, [], ◌∷◌, ◌++◌, flat_map, map, filter, length, get_or, refl, sym, ap, ◌∙◌, subst, Bor}
use Rattle.std.specs.List.{All, list_all}
use Rattle.std.proofs.lemmas.Bool.{leb-true}
use Rattle.std.proofs.lemmas.List.{get_or_default, get_or-map, length-map}
use Rattle.std.proofs.lemmas.List.Elements.{All-cons, All-filter}
use Rattle.ov_types.proofs.FirstLemmas.{all_head, all_tail, all_here}
use Rattle.config_types.specs.declared.config.Config.{Config}
use Rattle.config_types.specs.declared.config.Network.{Network}
use Rattle.config_types.specs.declared.config.Policy.{Policy}
use Rattle.policy_rules.specs.Related.{numbered_rules, attaches, put_by_sequence, by_sequence, fits}
use Rattle.policy_rules.specs.Matching.{speaks_both_ways}
use Rattle.policy_regions.specs.Claims.{forward_claim, mirrored_claim, claims_of, claims_between}
use Rattle.policy_regions.specs.declared.region.Claim.{Claim}

abbrev IsFew : Policy → Type 0
IsFew p = length p.rules ≤ 16

each_few : (ps : List Policy) → list_all (λ p. leb (length p.rules) 16) ps ≡ true → All IsFew ps
each_few ps h = λ k d lt.
    leb-true (length (get_or ps k d).rules) 16
    (all_here (λ (p : Policy). leb (length p.rules) 16) ps k (get_or ps k d) lt (get_or_default ps k d (get_or ps k d) lt) h)

all_put : (P : Policy → Type 0) (p : Policy) (qs : List Policy) → P p → All P qs → All P (put_by_sequence p qs)
all_put P p [] h all = All-cons P p [] h all
all_put P p (q ∷ qs) h all =
    elim (ltb q.sequence p.sequence) as (λ b. All P (cond b (q ∷ put_by_sequence p qs) (p ∷ q ∷ qs))) [
      | true ↦ All-cons P q (put_by_sequence p qs) (all_head P q qs all) (all_put P p qs h (all_tail P q qs all))
      | false ↦ All-cons P p (q ∷ qs) h all
    ]

all_by_sequence : (P : Policy → Type 0) (ps : List Policy) → All P ps → All P (by_sequence ps)
all_by_sequence P [] all = all
all_by_sequence P (p ∷ ps) all = all_put P p (by_sequence ps) (all_head P p ps all) (all_by_sequence P ps (all_tail P p ps all))

pub all_few : (c : Config) (keep : Policy → Bool) (ps : List Policy) → list_all (λ p. leb (length p.rules) 16) c.policies ≡ true
    → ps ≡ by_sequence (filter keep c.policies) → All IsFew ps
all_few c keep ps h e =
    subst (λ (qs : List Policy). All IsFew qs) (sym e)
    (all_by_sequence IsFew (filter keep c.policies) (All-filter keep IsFew c.policies (each_few c.policies h)))

pub few_at : (ps : List (Bor Policy)) (i : ℕ) (p : Bor Policy) → All IsFew (map (λ q. q.now) ps) → i < length ps → p ≡ get_or ps i p → IsFew p.now
few_at ps i p all lt at =
    let here : IsFew (get_or (map (λ q. q.now) ps) i p.now) = all i p.now (simp length-map lt) in
    subst IsFew (get_or-map (λ (q : Bor Policy). q.now) ps i p p.now lt ∙ ap (λ (q : Bor Policy). q.now) (sym at)) here

-- of the policies that one network attaches, those that another attaches

pub filter_both : {A : Type 0} (f g : A → Bool) (xs : List A) → filter g (filter f xs) ≡ filter (λ x. f x && g x) xs
filter_both f g [] = refl
filter_both {A} f g (x ∷ xs) =
    let rest = filter_both f g xs in
    elim (f x) as (λ b. filter g (cond b (x ∷ filter f xs) (filter f xs)) ≡ cond (b && g x) (x ∷ filter (λ y. f y && g y) xs) (filter (λ y. f y && g y) xs)) [
      | true ↦ ap (λ (ys : List A). cond (g x) (x ∷ ys) ys) rest
      | false ↦ rest
    ]

pub shared : (c : Config) (a b : Network) (ps qs : List Policy) → ps ≡ filter (attaches a) c.policies → qs ≡ by_sequence (filter (attaches b) ps)
    → qs ≡ by_sequence (filter (λ p. attaches a p && attaches b p) c.policies)
shared c a b ps qs e f =
    f ∙ ap (λ (rs : List Policy). by_sequence (filter (attaches b) rs)) e ∙ ap by_sequence (filter_both (attaches a) (attaches b) c.policies)

-- rules that speak of no packets between the two networks claim nothing

flat_kept : {A B : Type 0} (f : A → List B) (keep : A → Bool) → ((x : A) → keep x ≡ false → f x ≡ []) → (xs : List A) → flat_map f (filter keep xs) ≡ flat_map f xs
flat_kept f keep none [] = refl
flat_kept {A} {B} f keep none (x ∷ xs) =
    elim (keep x) as (λ b. keep x ≡ b → flat_map f (cond b (x ∷ filter keep xs) (filter keep xs)) ≡ f x ++ flat_map f xs) [
      | true ↦ λ e. ap (λ (rest : List B). f x ++ rest) (flat_kept f keep none xs)
      | false ↦ λ e. flat_kept f keep none xs ∙ ap (λ (front : List B). front ++ flat_map f xs) (sym (none x e))
    ] refl

fitless : (f g both : Bool) (forward mirrored : Claim) → (f || g) ≡ false → cond f (forward ∷ []) [] ++ cond (both && g) (mirrored ∷ []) [] ≡ []
fitless true g both forward mirrored h = cc
fitless false true both forward mirrored h = cc
fitless false false true forward mirrored h = refl
fitless false false false forward mirrored h = refl

pub claims_by : (c : Config) (a b : Network) (ps : List Policy) → ps ≡ by_sequence (filter (λ p. attaches a p && attaches b p) c.policies)
    → flat_map (claims_of a b) (flat_map numbered_rules ps) ≡ claims_between c a b
claims_by c a b ps e =
    ap (λ (qs : List Policy). flat_map (claims_of a b) (flat_map numbered_rules qs)) e
    ∙ sym (flat_kept (claims_of a b) (λ r. fits r.rule a b || fits r.rule b a)
    (λ r h. fitless (fits r.rule a b) (fits r.rule b a) (speaks_both_ways r.rule.direction) (forward_claim r) (mirrored_claim r) h)
    (flat_map numbered_rules (by_sequence (filter (λ p. attaches a p && attaches b p) c.policies))))
