-- The entries of the rules of policies.
use Rattle.std.proofs.Common.{◌≡◌, ◌&&◌, ◌||◌, Bool, true, false, cond, List, [], ◌∷◌, ◌++◌, flat_map, filter, refl, sym, ap, ◌∙◌}
use Rattle.ov_types.specs.declared.objects.AclRule.{AclRule}
use Rattle.config_types.specs.declared.config.Config.{Config}
use Rattle.config_types.specs.declared.config.Network.{Network}
use Rattle.config_types.specs.declared.config.Policy.{Policy}
use Rattle.policy_rules.specs.Related.{numbered_rules, attaches, by_sequence, fits}
use Rattle.policy_rules.specs.Matching.{speaks_both_ways}
use Rattle.acl_compile.specs.Oriented.{forward_entry, mirrored_entry, entries_of, oriented}

-- rules that speak of no packets between the two networks have no entries

flat_kept : {A B : Type 0} (f : A → List B) (keep : A → Bool) → ((x : A) → keep x ≡ false → f x ≡ []) → (xs : List A) → flat_map f (filter keep xs) ≡ flat_map f xs
flat_kept f keep none [] = refl
flat_kept {A} {B} f keep none (x ∷ xs) =
    elim (keep x) as (λ b. keep x ≡ b → flat_map f (cond b (x ∷ filter keep xs) (filter keep xs)) ≡ f x ++ flat_map f xs) [
      | true ↦ λ e. ap (λ (rest : List B). f x ++ rest) (flat_kept f keep none xs)
      | false ↦ λ e. flat_kept f keep none xs ∙ ap (λ (front : List B). front ++ flat_map f xs) (sym (none x e))
    ] refl

fitless : (f g both : Bool) (forward mirrored : AclRule) → (f || g) ≡ false → cond f (forward ∷ []) [] ++ cond (both && g) (mirrored ∷ []) [] ≡ []
fitless true g both forward mirrored h = cc
fitless false true both forward mirrored h = cc
fitless false false true forward mirrored h = refl
fitless false false false forward mirrored h = refl

pub oriented_by : (c : Config) (a b : Network) (ps : List Policy) → ps ≡ by_sequence (filter (λ p. attaches a p && attaches b p) c.policies)
    → flat_map (entries_of c a b) (flat_map numbered_rules ps) ≡ oriented c a b
oriented_by c a b ps e =
    ap (λ (qs : List Policy). flat_map (entries_of c a b) (flat_map numbered_rules qs)) e
    ∙ sym (flat_kept (entries_of c a b) (λ r. fits r.rule a b || fits r.rule b a)
    (λ r h. fitless (fits r.rule a b) (fits r.rule b a) (speaks_both_ways r.rule.direction) (forward_entry c r) (mirrored_entry c r) h)
    (flat_map numbered_rules (by_sequence (filter (λ p. attaches a p && attaches b p) c.policies))))
