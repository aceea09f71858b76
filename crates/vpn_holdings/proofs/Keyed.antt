-- The first path of a key, and the keys of routes that may lead on.
use Rattle.std.specs.Prelude.{◌≡◌, ℕ, suc, ◌+◌, List, [], ◌∷◌, ◌++◌, map, true, false, cond}
use Rattle.std.specs.declared.option.Option.{Option}
use Rattle.std.specs.declared.option.Option.TheVariants.{Some, None}
use Rattle.std.specs.List.{cons_option, flat_map}
use Rattle.std.proofs.Common.{refl, sym, ◌∙◌, ap, arith, inl, inr}
use Rattle.std.proofs.lemmas.Bool.{true≢false}
use Rattle.std.proofs.lemmas.List.{append-nil, append_assoc}
use Rattle.std.proofs.lemmas.Option.{same_Some}
use Rattle.ov_types.specs.Prefix.{Block}
use Rattle.ov_types.specs.declared.vpn.VpnKey.{VpnKey}
use Rattle.path_select.specs.NodeModel.Agent.{first_some}
use Rattle.path_select.specs.NodeModel.Members.{Member}
use Rattle.path_select.specs.NodeModel.Paths.{Holdings, Path}
use Rattle.path_select.specs.NodeModel.Reaching.{Side, circuit_at, hop_at, into, publisher, subnets, towards}
use Rattle.path_select.proofs.NodeModel.Members.{none_some}
use Rattle.vpn_holdings.specs.TouchedKeys.{always, first_keyed, keys_along, may_lead, path_key, same_key}

-- ---- the first path of a key
pub first_append : (k : VpnKey) (ps qs : List Path) → first_keyed k (ps ++ qs) ≡ first_some (first_keyed k ps) (first_keyed k qs)
first_append k [] qs = refl
first_append k (p ∷ ps) qs =
    elim (same_key k p) as (λ b. cond b (Some p) (first_keyed k (ps ++ qs)) ≡ first_some (cond b (Some p) (first_keyed k ps)) (first_keyed k qs)) [
      | true ↦ refl
      | false ↦ first_append k ps qs
    ]

pub found_first : (k : VpnKey) (here left : List Path) (p : Path) (whole : Option Path) → first_keyed k here ≡ Some p → first_keyed k (here ++ left) ≡ whole → Some p ≡ whole
found_first k here left p whole e h = sym (first_append k here left ∙ ap (λ (o : Option Path). first_some o (first_keyed k left)) e) ∙ h

pub not_found_first : (k : VpnKey) (here left : List Path) (whole : Option Path) → first_keyed k here ≡ None → first_keyed k (here ++ left) ≡ whole → first_keyed k left ≡ whole
not_found_first k here left whole e h = sym (first_append k here left ∙ ap (λ (o : Option Path). first_some o (first_keyed k left)) e) ∙ h

one_first : (o : Option Path) (left : List Path) → cons_option o [] ++ left ≡ cons_option o left
one_first None left = refl
one_first (Some p) left = refl

pub found_one : (k : VpnKey) (o : Option Path) (left : List Path) (p : Path) (whole : Option Path) → first_keyed k (cons_option o []) ≡ Some p → first_keyed k (cons_option o left) ≡ whole → Some p ≡ whole
found_one k o left p whole e h = found_first k (cons_option o []) left p whole e (ap (first_keyed k) (one_first o left) ∙ h)

pub first_is : (k : VpnKey) (ps : List Path) (x : Path) → first_keyed k ps ≡ Some x → Member x ps × (same_key k x ≡ true)
first_is k [] x e = absurd (none_some x e)
first_is k (p ∷ ps) x e =
    elim (same_key k p) as (λ b. same_key k p ≡ b → cond b (Some p) (first_keyed k ps) ≡ Some x → Member x (p ∷ ps) × (same_key k x ≡ true)) [
      | true ↦ λ t e. (inl (same_Some p x e), ap (same_key k) (sym (same_Some p x e)) ∙ t)
      | false ↦ λ t e. let r = first_is k ps x e in (inr r.0, r.1)
    ] refl e

not_this : (k : VpnKey) (p x : Path) (ps : List Path) → (Member x ps → ⊥) → same_key k p ≡ false → Member x (p ∷ ps) → same_key k x ≡ true → ⊥
not_this k p x ps later f (inl is) t = true≢false (sym t ∙ ap (same_key k) (sym is) ∙ f)
not_this k p x ps later f (inr m) t = later m

pub none_keyed_before : (k : VpnKey) (ps : List Path) (x : Path) → first_keyed k ps ≡ None → Member x ps → same_key k x ≡ true → ⊥
none_keyed_before k [] x e m t = absurd m
none_keyed_before k (p ∷ ps) x e m t =
    elim (same_key k p) as (λ b. same_key k p ≡ b → cond b (Some p) (first_keyed k ps) ≡ None → ⊥) [
      | true ↦ λ _ e. none_some p (sym e)
      | false ↦ λ f e. not_this k p x ps (λ m. none_keyed_before k ps x e m t) f m t
    ] refl e

-- two lists with the same paths of a key, of which the second has one at most
pub same_first : (k : VpnKey) (ps qs : List Path) → ((a b : Path) → Member a qs → Member b qs → a ≡ b)
    → ((p : Path) → Member p ps → same_key k p ≡ true → Member p qs) → ((p : Path) → Member p qs → same_key k p ≡ true → Member p ps)
    → first_keyed k ps ≡ first_keyed k qs
same_first k ps qs one to from = by_both (first_keyed k ps) (first_keyed k qs) refl refl
  where
    by_both : (a b : Option Path) → first_keyed k ps ≡ a → first_keyed k qs ≡ b → first_keyed k ps ≡ first_keyed k qs
    by_both None None ea eb = ea ∙ sym eb
    by_both None (Some b) ea eb = let r = first_is k qs b eb in absurd (none_keyed_before k ps b ea (from b r.0 r.1) r.1)
    by_both (Some a) None ea eb = let r = first_is k ps a ea in absurd (none_keyed_before k qs a eb (to a r.0 r.1) r.1)
    by_both (Some a) (Some b) ea eb =
        let r = first_is k ps a ea in
        let s = first_is k qs b eb in
        ea ∙ ap Some (one a b (to a r.0 r.1) s.0) ∙ sym eb

-- ---- routes that may lead on
pub sides_keyed : (h : Holdings) (l r : Side) (now one two : List VpnKey) → r.chain ≡ l.chain → l.is_right ≡ false → r.is_right ≡ true
    → one ≡ now ++ map path_key (may_lead h r) → two ≡ one ++ map path_key (may_lead h l) → two ≡ now ++ keys_along h l.chain
sides_keyed h l r now one two chain left right e f =
    let right_is : r ≡ record { chain = l.chain; is_right = true } = (λ i. record { chain = chain i; is_right = right i }) in
    let left_is : l ≡ record { chain = l.chain; is_right = false } = (λ i. record { chain = l.chain; is_right = left i }) in
    f ∙ ap (λ (x : List VpnKey). x ++ map path_key (may_lead h l)) e
    ∙ append_assoc now (map path_key (may_lead h r)) (map path_key (may_lead h l))
    ∙ ap (λ (x : List VpnKey). now ++ (map path_key (may_lead h r) ++ x)) (sym (append-nil (map path_key (may_lead h l))))
    ∙ (λ i. now ++ (map path_key (may_lead h (right_is i)) ++ (map path_key (may_lead h (left_is i)) ++ [])))

abbrev pub may_lead_to : Holdings → Side → ℕ → Block → List Path
may_lead_to h s d subnet = cond (always s subnet d) (towards h (hop_at s (suc d)) subnet (publisher h (circuit_at s (suc d)))) []

nothing_keyed : (h : Holdings) (s : Side) (d : ℕ) (bs : List Block) → publisher h (circuit_at s (suc d)) ≡ None → flat_map (may_lead_to h s d) bs ≡ []
nothing_keyed h s d [] e = refl
nothing_keyed h s d (b ∷ bs) e = ap (λ o. towards h (hop_at s (suc d)) b o ++ flat_map (may_lead_to h s d) bs) e ∙ nothing_keyed h s d bs e

next_place : (d : ℕ) → d + 1 ≡ suc d
next_place d = omega arith

pub none_keyed : (h : Holdings) (s : Side) (d : ℕ) (xs : List VpnKey) → publisher h (circuit_at s (d + 1)) ≡ None → xs ≡ xs ++ map path_key (into always h s d)
none_keyed h s d xs e =
    sym (ap (λ (l : List Path). xs ++ map path_key l) (nothing_keyed h s d (subnets s) (ap (λ (n : ℕ). publisher h (circuit_at s n)) (sym (next_place d)) ∙ e)) ∙ append-nil xs)
