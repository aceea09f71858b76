-- The numbers of objects go up, so that they can be counted.
use Rattle.std.proofs.Common.{◌≡◌, ℕ, ◌+◌, ◌*◌, ◌++◌, List, [], ◌∷◌, length, map, zero, suc, refl, ap, sym, ◌∙◌, arith}
use Rattle.std.proofs.lemmas.List.{length-map}
use Rattle.std.specs.List.{range_with_len, flat_map}
use Rattle.std.proofs.lemmas.List.Concat.{flat_map-append}
use Rattle.std.proofs.lemmas.List.FromFn.{length-range_with_len, length-map-range_with_len}
use Rattle.config_types.specs.declared.config.Policy.{Policy}
use Rattle.scenario_gen.specs.Laws.{use_of, uses_of}
use Rattle.scenario_gen.specs.Networks.{networks_of}
use Rattle.scenario_gen.specs.Policies.{policies_of, front_rules, back_rules, management_rules}
use Rattle.scenario_gen.specs.Ports.{port, ports_count}
use Rattle.scenario_gen.specs.Scenario.{config}
use Rattle.scenario_gen.specs.Services.{services_of, chain}
use Rattle.scenario_gen.specs.Tenants.{tenants}
use Rattle.scenario_gen.proofs.Ranges.{numbers_joined, map-map}

networks_of_tenant : (t : ℕ) → map (λ x. x.id.0) (networks_of t) ≡ range_with_len (4 * t + 1) 4
unfolding networks_of
networks_of_tenant t = four (4 * t + 1) (4 * t + 2) (4 * t + 3) (4 * t + 4) (omega arith) (omega arith) (omega arith)
  where
    four : (a b c d : ℕ) → b ≡ a + 1 → c ≡ a + 1 + 1 → d ≡ a + 1 + 1 + 1 → (a ∷ b ∷ c ∷ d ∷ []) ≡ range_with_len a 4
    four a b c d e f g = rw (e, f, g) refl

policies_of_tenant : (t : ℕ) → map (λ x. x.sequence) (policies_of t) ≡ range_with_len (3 * t + 1) 3
unfolding policies_of
policies_of_tenant t = three (3 * t + 1) (3 * t + 2) (3 * t + 3) (omega arith) (omega arith)
  where
    three : (a b c : ℕ) → b ≡ a + 1 → c ≡ a + 1 + 1 → (a ∷ b ∷ c ∷ []) ≡ range_with_len a 3
    three a b c e f = rw (e, f) refl

services_of_tenant : (n t : ℕ) → map (λ x. x.id.0) (services_of n t) ≡ range_with_len (2 * t + 1) 2
unfolding services_of
services_of_tenant n t = two (2 * t + 1) (2 * t + 2) (omega arith)
  where
    two : (a b : ℕ) → b ≡ a + 1 → (a ∷ b ∷ []) ≡ range_with_len a 2
    two a b e = rw e refl

pub networks : (n : ℕ) → map (λ x. x.id.0) (config n).networks ≡ range_with_len 1 (4 * tenants n)
unfolding config
networks n = numbers_joined (λ x. x.id.0) networks_of 4 1 networks_of_tenant 0 (tenants n)

pub policies : (n : ℕ) → map (λ x. x.sequence) (config n).policies ≡ range_with_len 1 (3 * tenants n)
unfolding config
policies n = numbers_joined (λ x. x.sequence) policies_of 3 1 policies_of_tenant 0 (tenants n)

pub services : (n : ℕ) → map (λ x. x.id.0) (config n).services ≡ range_with_len 1 (2 * tenants n)
unfolding config
services n = numbers_joined (λ x. x.id.0) (services_of n) 2 1 (services_of_tenant n) 0 (tenants n)

itself : (xs : List ℕ) → map (λ x. x) xs ≡ xs
itself [] = refl
itself (x ∷ xs) = ap (λ ys. x ∷ ys) (itself xs)

pub ports : (n : ℕ) → map (λ x. x.id.0) (config n).ports ≡ range_with_len 0 (64 * tenants n)
unfolding config port
ports n = map-map (λ x. x.id.0) (port n) (range_with_len 0 (ports_count n)) ∙ itself (range_with_len 0 (ports_count n))

-- a list is as long as that of its numbers
counted : {X : Type 0} (g : X → ℕ) (xs : List X) (a n : ℕ) → map g xs ≡ range_with_len a n → length xs ≡ n
counted g xs a n e = sym (length-map xs g) ∙ ap length e ∙ length-range_with_len a n

pub networks_count : (n : ℕ) → length (config n).networks ≡ 4 * tenants n
networks_count n = counted (λ x. x.id.0) (config n).networks 1 (4 * tenants n) (networks n)

pub ports_counted : (n : ℕ) → length (config n).ports ≡ 64 * tenants n
ports_counted n = counted (λ x. x.id.0) (config n).ports 0 (64 * tenants n) (ports n)

pub policies_count : (n : ℕ) → length (config n).policies ≡ 3 * tenants n
policies_count n = counted (λ x. x.sequence) (config n).policies 1 (3 * tenants n) (policies n)

pub services_count : (n : ℕ) → length (config n).services ≡ 2 * tenants n
services_count n = counted (λ x. x.id.0) (config n).services 1 (2 * tenants n) (services n)

pub chains_count : (n : ℕ) → length (config n).chains ≡ tenants n
unfolding config
chains_count n = length-map-range_with_len chain 0 (tenants n)

-- uses
uses_append : (ps qs : List Policy) → uses_of (ps ++ qs) ≡ uses_of ps ++ uses_of qs
uses_append ps qs =
    ap (λ rs. flat_map (λ r. use_of r.action) rs) (flat_map-append (λ p. p.rules) ps qs)
    ∙ flat_map-append (λ r. use_of r.action) (flat_map (λ p. p.rules) ps) (flat_map (λ p. p.rules) qs)

one_use : (t : ℕ) → uses_of (policies_of t) ≡ t ∷ []
unfolding policies_of front_rules back_rules management_rules
one_use t = refl

uses_joined : (a n : ℕ) → uses_of (flat_map policies_of (range_with_len a n)) ≡ range_with_len a n
uses_joined a zero = refl
uses_joined a (suc n) =
    uses_append (policies_of a) (flat_map policies_of (range_with_len (a + 1) n))
    ∙ ap (λ us. us ++ uses_of (flat_map policies_of (range_with_len (a + 1) n))) (one_use a)
    ∙ ap (λ us. a ∷ us) (uses_joined (a + 1) n)

pub uses : (n : ℕ) → uses_of (config n).policies ≡ range_with_len 0 (tenants n)
unfolding config
uses n = uses_joined 0 (tenants n)
