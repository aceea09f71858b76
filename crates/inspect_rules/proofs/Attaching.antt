-- A rule stands before another between some two of the networks that attach the policies of both.
use Rattle.std.proofs.Common.{◌≡◌, ◌&&◌, Bool, true, false, not, List, filter, refl, ap, ◌∙◌}
use Rattle.std.specs.List.{list_any}
use Rattle.ov_types.specs.First.{same_name}
use Rattle.config_types.specs.declared.config.Config.{Config}
use Rattle.config_types.specs.declared.config.Network.{Network}
use Rattle.policy_rules.specs.declared.numbered.NumberedRule.{NumberedRule}
use Rattle.policy_rules.proofs.AnyRule.{any_filter, any_same}
use Rattle.inspect_rules.specs.Idle.{attaches_both, attaches_rule, both_between, both_from, both_speak, speaks_between}

both_first : (p q g : Bool) → (q && (p && g)) ≡ ((p && q) && g)
both_first true true g = refl
both_first true false g = refl
both_first false true g = refl
both_first false false g = refl

inside : (p s g : Bool) → (p && (s && g)) ≡ (s && (p && g))
inside true s g = refl
inside false true g = refl
inside false false g = refl

module _ (c : Config) (n m : NumberedRule) (near both : List Network)
    (first : near ≡ filter (λ a. attaches_rule c a n.number) c.networks) (second : both ≡ filter (λ a. attaches_rule c a m.number) near) where
  of_both : (g : Network → Bool) → list_any g both ≡ list_any (λ a. attaches_both c m n a && g a) c.networks
  of_both g =
      let by : Network → Bool = λ a. attaches_rule c a m.number in
      let behind : Network → Bool = λ a. attaches_rule c a n.number in
      ap (list_any g) (second ∙ ap (filter by) first)
      ∙ any_filter g by (filter behind c.networks)
      ∙ any_filter (λ a. by a && g a) behind c.networks
      ∙ any_same (λ a. behind a && (by a && g a)) (λ a. attaches_both c m n a && g a) (λ a. both_first (by a) (behind a) (g a)) c.networks

  to_some : (a : Network) → list_any (both_speak m n a) both ≡ list_any (both_between c m n a) c.networks
  to_some a =
      of_both (both_speak m n a)
      ∙ any_same (λ b. attaches_both c m n b && both_speak m n a b) (both_between c m n a)
      (λ b. inside (attaches_both c m n b) (not (same_name a.name b.name)) (speaks_between m.rule a b && speaks_between n.rule a b)) c.networks

  pub between_some : list_any (λ a. list_any (both_speak m n a) both) both ≡ list_any (both_from c m n) c.networks
  between_some =
      of_both (λ a. list_any (both_speak m n a) both)
      ∙ any_same (λ a. attaches_both c m n a && list_any (both_speak m n a) both) (both_from c m n)
      (λ a. ap (λ (g : Bool). attaches_both c m n a && g) (to_some a)) c.networks
