-- What holds of all rules holds of the rule that decides.
use Rattle.std.proofs.Common.{◌≡◌, ◌&&◌, ◌||◌, ltb, Bool, true, false, cond, List, [], ◌∷◌, ◌++◌, Some, None, flat_map, filter, refl, sym, ap, ◌∙◌, subst, arith}
use Rattle.std.specs.List.{All}
use Rattle.std.proofs.lemmas.List.Elements.{All-filter, All-append}
use Rattle.ov_types.specs.declared.packet.Tuple.{Tuple}
use Rattle.config_types.specs.declared.config.Config.{Config}
use Rattle.config_types.specs.declared.config.Network.{Network}
use Rattle.config_types.specs.declared.config.Policy.{Policy}
use Rattle.ov_types.specs.First.{◌<|>◌, first_of}
use Rattle.policy_rules.specs.declared.numbered.NumberedRule.{NumberedRule}
use Rattle.policy_rules.specs.Related.{numbered_rules, all_rules, attaches, put_by_sequence, by_sequence, fits, rules_between}
use Rattle.ov_types.proofs.FirstLemmas.{all_head, all_tail, all_cons}
use Rattle.policy_rules.specs.Matching.{Match, match_by, deciding}
use Rattle.policy_rules.proofs.Ordered.{matched_rule}

module _ {A : Type 0} (P : A → Type 0) where
  -- of the first of two lists, and of the second
  all_first : (xs ys : List A) → All P (xs ++ ys) → All P xs
  all_first [] ys h = λ k d lt. absurd (omega arith)
  all_first (x ∷ xs) ys h = all_cons P x xs (all_head P x (xs ++ ys) h) (all_first xs ys (all_tail P x (xs ++ ys) h))

  all_second : (xs ys : List A) → All P (xs ++ ys) → All P ys
  all_second [] ys h = h
  all_second (x ∷ xs) ys h = all_second xs ys (all_tail P x (xs ++ ys) h)

  -- of the lists that the items of a list give
  pub all_parts : {B : Type 0} (g : B → List A) (bs : List B) → All P (flat_map g bs) → All (λ b. All P (g b)) bs
  all_parts g [] h = λ k d lt. absurd (omega arith)
  all_parts g (b ∷ bs) h = all_cons (λ x. All P (g x)) b bs (all_first (g b) (flat_map g bs) h) (all_parts g bs (all_second (g b) (flat_map g bs) h))

  pub all_joined : {B : Type 0} (g : B → List A) (bs : List B) → All (λ b. All P (g b)) bs → All P (flat_map g bs)
  all_joined g [] h = λ k d lt. absurd (omega arith)
  all_joined g (b ∷ bs) h = All-append P (g b) (flat_map g bs) (all_head (λ x. All P (g x)) b bs h) (all_joined g bs (all_tail (λ x. All P (g x)) b bs h))

module _ (Q : Policy → Type 0) where
  pub all_put : (p : Policy) (ps : List Policy) → Q p → All Q ps → All Q (put_by_sequence p ps)
  all_put p [] here rest = all_cons Q p [] here rest
  all_put p (q ∷ qs) here rest =
      elim (ltb q.sequence p.sequence) as (λ b. All Q (cond b (q ∷ put_by_sequence p qs) (p ∷ q ∷ qs))) [
        | true ↦ all_cons Q q (put_by_sequence p qs) (all_head Q q qs rest) (all_put p qs here (all_tail Q q qs rest))
        | false ↦ all_cons Q p (q ∷ qs) here rest
      ]

  pub all_ordered : (ps : List Policy) → All Q ps → All Q (by_sequence ps)
  all_ordered [] h = h
  all_ordered (p ∷ ps) h = all_put p (by_sequence ps) (all_head Q p ps h) (all_ordered ps (all_tail Q p ps h))

module _ (P : NumberedRule → Type 0) where
  pub all_between : (c : Config) (a b : Network) → All P (all_rules c) → All P (rules_between c a b)
  all_between c a b h =
      let both : Policy → Bool = λ p. attaches a p && attaches b p in
      let Q : Policy → Type 0 = λ p. All P (numbered_rules p) in
      All-filter (λ r. fits r.rule a b || fits r.rule b a) P (flat_map numbered_rules (by_sequence (filter both c.policies)))
      (all_joined P numbered_rules (by_sequence (filter both c.policies))
      (all_ordered Q (filter both c.policies) (All-filter both Q c.policies (all_parts P numbered_rules c.policies h))))

  of_first : (a b : Network) (t : Tuple) (rs : List NumberedRule) (m : Match) → All P rs → first_of (match_by a b t) rs ≡ Some m → P m.rule
  of_first a b t [] m each h = cc
  of_first a b t (r ∷ rs) m each h =
      elim (match_by a b t r) as (λ o. match_by a b t r ≡ o → (o <|> first_of (match_by a b t) rs) ≡ Some m → P m.rule) [
        | None ↦ λ e k. of_first a b t rs m (all_tail P r rs each) k
        | Some n ↦ λ e k.
            let same : n ≡ m = cc in
            let rule : r ≡ m.rule = sym (matched_rule a b t r n e) ∙ ap (λ (x : Match). x.rule) same in
            subst P rule (all_head P r rs each)
      ] refl h

  pub of_decider : (c : Config) (a b : Network) (t : Tuple) (m : Match) → All P (all_rules c) → deciding c a b t ≡ Some m → P m.rule
  unfolding deciding
  of_decider c a b t m each h = of_first a b t (rules_between c a b) m (all_between c a b each) h
