-- A refusal of a limit names a count that is outside it.
use Rattle.std.proofs.Common.{◌≡◌, ◌<◌, ◌&&◌, leb, ℕ, suc, Bool, true, false, List, [], ◌∷◌, Option, IfSome, length, refl, arith, inl, inr}
use Rattle.std.specs.Prelude.{◌⊎◌}
use Rattle.std.specs.List.{Any, list_all}
use Rattle.std.proofs.lemmas.Bool.{leb-false}
use Rattle.config_types.specs.declared.config.Chain.{Chain}
use Rattle.config_types.specs.declared.config.Config.{Config}
use Rattle.config_types.specs.declared.config.Network.{Network}
use Rattle.config_types.specs.declared.config.Policy.{Policy}
use Rattle.config_types.specs.declared.topology.Topology.{Topology}
use Rattle.ov_types.specs.First.{◌<|>◌}
use Rattle.config_check.specs.declared.refusal.LimitKind.{LimitKind}
use Rattle.config_check.specs.declared.refusal.LimitKind.TheVariants as Counted
use Rattle.config_check.specs.declared.refusal.Refusal.{Refusal}
use Rattle.config_check.specs.Rules.{limit_unless, broken_count, broken_part, broken_limit}
use Rattle.config_refusal_laws.specs.Breaks.{IsOutsideLimits, Breaks}
use Rattle.ov_types.proofs.FirstLemmas.{of_either}

above : (t : Topology) (c : Config) (what : LimitKind) (b : Bool) → (b ≡ false → IsOutsideLimits t c what) → IfSome (limit_unless what b) (Breaks t c)
above t c what true h = tt
above t c what false h = h refl

too_many : (t : Topology) (c : Config) (what : LimitKind) (n most : ℕ) → (most < n → IsOutsideLimits t c what) → IfSome (limit_unless what (leb n most)) (Breaks t c)
too_many t c what n most h = above t c what (leb n most) (λ e. h (leb-false n most e))

-- there are none, or more
pub outside : (n most : ℕ) → (leb 1 n && leb n most) ≡ false → (n < 1) ⊎ (most < n)
outside n most e =
    elim (leb 1 n) as (λ b. leb 1 n ≡ b → (b && leb n most) ≡ false → (n < 1) ⊎ (most < n)) [
      | true ↦ λ _ e. inr (leb-false n most e)
      | false ↦ λ e _. inl (leb-false 1 n e)
    ] refl e

-- one object has more
pub more_in : {A : Type 0} (size : A → ℕ) (most : ℕ) (xs : List A) → list_all (λ x. leb (size x) most) xs ≡ false → Any (λ x. most < size x) xs
more_in size most [] h = cc
more_in {A} size most (x ∷ xs) h =
    elim (leb (size x) most) as (λ b. (leb (size x) most ≡ b) → (b && list_all (λ y. leb (size y) most) xs) ≡ false → Any (λ y. most < size y) (x ∷ xs)) [
      | true ↦ λ e later. let rest = more_in size most xs later in let within : rest.0 < length xs = rest.2 in (suc rest.0, rest.1, omega arith, rest.3, rest.4)
      | false ↦ λ e here. (0, x, omega arith, refl, leb-false (size x) most e)
    ] refl h

too_many_in : {A : Type 0} (t : Topology) (c : Config) (what : LimitKind) (size : A → ℕ) (most : ℕ) (xs : List A)
    → (Any (λ x. most < size x) xs → IsOutsideLimits t c what) → IfSome (limit_unless what (list_all (λ x. leb (size x) most) xs)) (Breaks t c)
too_many_in t c what size most xs h = above t c what (list_all (λ x. leb (size x) most) xs) (λ e. h (more_in size most xs e))

-- a limit, and what is tried after it
limit_or : (t : Topology) (c : Config) (what : LimitKind) (b : Bool) (later : Option Refusal) → IfSome (limit_unless what b) (Breaks t c) → IfSome later (Breaks t c) → IfSome (limit_unless what b <|> later) (Breaks t c)
limit_or t c what b later = of_either (Breaks t c) (limit_unless what b) later

of_count : (t : Topology) (c : Config) → IfSome (broken_count t c) (Breaks t c)
of_count t c =
    limit_or t c Counted.Controllers (leb (length t.controllers) 8) _ (too_many t c Counted.Controllers (length t.controllers) 8 (λ h. h))
    (limit_or t c Counted.Nodes (leb 1 (length t.nodes) && leb (length t.nodes) 64) _ (above t c Counted.Nodes (leb 1 (length t.nodes) && leb (length t.nodes) 64) (outside (length t.nodes) 64))
    (limit_or t c Counted.Networks (leb (length c.networks) 128) _ (too_many t c Counted.Networks (length c.networks) 128 (λ h. h))
    (limit_or t c Counted.Ports (leb (length c.ports) 1024) _ (too_many t c Counted.Ports (length c.ports) 1024 (λ h. h))
    (limit_or t c Counted.Policies (leb (length c.policies) 128) _ (too_many t c Counted.Policies (length c.policies) 128 (λ h. h))
    (limit_or t c Counted.Services (leb (length c.services) 128) _ (too_many t c Counted.Services (length c.services) 128 (λ h. h))
    (too_many t c Counted.Chains (length c.chains) 128 (λ h. h)))))))

of_part : (t : Topology) (c : Config) → IfSome (broken_part c) (Breaks t c)
of_part t c =
    limit_or t c Counted.Subnets (list_all (λ n. leb (length n.subnets) 4) c.networks) _ (too_many_in t c Counted.Subnets (λ (n : Network). length n.subnets) 4 c.networks (λ h. h))
    (limit_or t c Counted.Attachments (list_all (λ n. leb (length n.policies) 4) c.networks) _ (too_many_in t c Counted.Attachments (λ (n : Network). length n.policies) 4 c.networks (λ h. h))
    (limit_or t c Counted.Rules (list_all (λ p. leb (length p.rules) 16) c.policies) _ (too_many_in t c Counted.Rules (λ (p : Policy). length p.rules) 16 c.policies (λ h. h))
    (too_many_in t c Counted.Hops (λ (d : Chain). length d.hops) 64 c.chains (λ h. h))))

pub limit_breaks : (t : Topology) (c : Config) → IfSome (broken_limit t c) (Breaks t c)
unfolding broken_limit
limit_breaks t c = of_either (Breaks t c) (broken_count t c) (broken_part c) (of_count t c) (of_part t c)
