-- Where chains and services are the same in two configurations, chains lead through the same services.
use Rattle.std.proofs.Common.{◌≡◌, ℕ, zero, suc, Bool, true, false, List, [], ◌∷◌, Some, find, flat_map, length, map, reverse, refl, sym, ap, ◌∙◌}
use Rattle.std.specs.Cmp.Lexicographic.{pointwise}
use Rattle.std.specs.List.{list_all}
use Rattle.std.specs.Option.{option_map_or}
use Rattle.std.proofs.lemmas.Bool.{and_parts}
use Rattle.ov_types.specs.First.{same_name}
use Rattle.ov_types.specs.declared.numbers.ServiceNo.{ServiceNo}
use Rattle.config_types.specs.contracts.config.ChainPartialEq.TheImpl as chain
use Rattle.config_types.specs.contracts.config.ServicePartialEq.TheImpl as service
use Rattle.config_types.specs.declared.config.Config.{Config}
use Rattle.config_types.specs.declared.config.Service.{Service}
use Rattle.chain_expand.specs.Expansion.{expansion, hops_of, services_within}
use Rattle.policy_rules.specs.declared.matching.Decision.{Decision}
use Rattle.policy_regions.specs.declared.region.Claim.{Claim}
use Rattle.policy_regions.specs.declared.region.Effect.{Effect}
use Rattle.policy_regions.specs.declared.region.Effect.TheVariants.{Passes, Drops, Leads}
use Rattle.reach_plain.specs.Reachability.{services_through}
use Rattle.inspect_changes.specs.Fates.{same_passage}
use Rattle.inspect_changes.specs.Unchanged.{lead_alike, stays_by}
use Rattle.inspect_changes.proofs.Alike.{chains, lists, services}
use Rattle.inspect_changes.proofs.Differing.{both_true, passage_itself}

module _ (c d : Config) (same_chains : c.chains ≡ d.chains) (same_services : c.services ≡ d.services) where
  within : (n : ℕ) (hop : List ℕ) → services_within n c hop ≡ services_within n d hop
  unfolding services_within
  within zero hop = λ i. option_map_or (λ s. s ∷ []) (find (λ s. same_name s.name hop) (same_services i)) []
  within (suc n) hop = λ i.
      option_map_or (λ s. s ∷ []) (find (λ s. same_name s.name hop) (same_services i))
      (flat_map (λ next. within n next i) (option_map_or (λ k. k.hops) (find (λ k. same_name k.name hop) (same_chains i)) []))

  expanded : (name : List ℕ) → expansion c name ≡ expansion d name
  expanded name =
      ap (λ (n : ℕ). flat_map (services_within n c) (hops_of c name)) (ap length same_chains)
      ∙ (λ i. flat_map (λ hop. within (length d.chains) hop i) (option_map_or (λ k. k.hops) (find (λ k. same_name k.name name) (same_chains i)) []))

  through : (name : List ℕ) (mirrored : Bool) → services_through c name mirrored ≡ services_through d name mirrored
  through name false = ap (λ (xs : List Service). map (λ s. s.id) xs) (expanded name)
  through name true = ap (λ (xs : List Service). reverse (map (λ s. s.id) xs)) (expanded name)

  stays : (decision : Decision) (effect : Effect) → stays_by c d (Some decision) effect ≡ true
  stays decision Passes = refl
  stays decision Drops = refl
  stays decision (Leads name) =
      let xs : List ServiceNo = services_through c name decision.mirrored in
      ap (λ (ys : List ServiceNo). same_passage (Some xs) (Some ys)) (sym (through name decision.mirrored)) ∙ passage_itself (Some xs)

  each_stays : (ks : List Claim) → list_all (λ k. stays_by c d (Some k.decision) k.effect) ks ≡ true
  each_stays [] = refl
  each_stays (k ∷ ks) = both_true (stays_by c d (Some k.decision) k.effect) (list_all (λ k. stays_by c d (Some k.decision) k.effect) ks) (stays k.decision k.effect) (each_stays ks)

pub all_stay : (c d : Config) (ks : List Claim) → lead_alike c d ≡ true → list_all (λ k. stays_by c d (Some k.decision) k.effect) ks ≡ true
all_stay c d ks h =
    let p = and_parts (pointwise chain.ghosts.eq c.chains d.chains) (pointwise service.ghosts.eq c.services d.services) h in
    each_stays c d (lists _ chains c.chains d.chains p.0) (lists _ services c.services d.services p.1) ks
