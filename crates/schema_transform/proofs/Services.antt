-- The services of a chain are found again by their numbers.
use Rattle.std.proofs.Common.{◌≡◌, ◌≢◌, inl, inr, ◌==◌, ◌≤◌, ℕ, true, false, List, [], ◌∷◌, map, length}
use Rattle.std.proofs.Common.{Some, None, refl, sym, ap, ◌∙◌, arith}
use Rattle.std.specs.Prelude.{find, Ok}
use Rattle.std.specs.List.{AllPairs, Contains, filter_map, cons_option}
use Rattle.std.proofs.lemmas.Bool.Decides.{nat_tests}
use Rattle.std.proofs.lemmas.List.Elements.{All-contains}
use Rattle.ov_types.proofs.FirstLemmas.{found_is, find_none, contains_here, contains_later}
use Rattle.config_types.specs.declared.config.Config.{Config}
use Rattle.config_types.specs.declared.config.Service.{Service}
use Rattle.chain_expand.specs.Expansion.{expansion, numbers_or_fault}
use Rattle.config_check.proofs.OneHome.{two_among}
use Rattle.acl_compile.proofs.Kept.{chain_expands, chain_is_short}
use Rattle.transform_model.proofs.InUse.{of_services}
use Rattle.schema_transform.specs.Sound.{IsSound}

same_number : (s u : Service) → (s.id.0 == u.id.0) ≡ true → s.id.0 ≡ u.id.0
same_number s u h = grind (arith, nat_tests, h)

is_itself : (s : Service) → (s.id.0 == s.id.0) ≡ true
is_itself s = grind (arith, nat_tests)

-- the service of a number is the one that has it
found_one : (ss : List Service) (s : Service) → AllPairs (λ s u. s.id.0 ≢ u.id.0) ss → Contains ss s
    → find (λ u. u.id.0 == s.id.0) ss ≡ Some s
found_one ss s apart inside =
    elim (find (λ u. u.id.0 == s.id.0) ss) as (λ o. find (λ u. u.id.0 == s.id.0) ss ≡ o → o ≡ Some s) [
      | None ↦ λ e.
          let no = All-contains (λ (u : Service). (u.id.0 == s.id.0) ≡ false) ss s
          ((find_none (λ (u : Service). u.id.0 == s.id.0) ss).0 e) inside in
          absurd (grind (arith, is_itself s, no))
      | Some u ↦ λ e.
          let f = found_is (λ (u : Service). u.id.0 == s.id.0) ss u e in
          let same : u.id.0 ≡ s.id.0 = same_number u s f.0 in
          elim (two_among (λ (s u : Service). s.id.0 ≢ u.id.0) ss u s apart f.1 inside) [
            | inl one ↦ ap Some one
            | inr (inl d) ↦ absurd (d same)
            | inr (inr d) ↦ absurd (d (sym same))
          ]
    ] refl

all_found : (ss xs : List Service) → AllPairs (λ s u. s.id.0 ≢ u.id.0) ss → ((s : Service) → Contains xs s → Contains ss s)
    → filter_map (λ n. find (λ u. u.id.0 == n.0) ss) (map (λ s. s.id) xs) ≡ xs
all_found ss [] apart within = refl
all_found ss (x ∷ xs) apart within =
    ap (λ o. cons_option o (filter_map (λ n. find (λ u. u.id.0 == n.0) ss) (map (λ s. s.id) xs)))
    (found_one ss x apart (within x (contains_here x xs)))
    ∙ ap (λ ys. x ∷ ys) (all_found ss xs apart (λ s h. within s (contains_later s x xs h)))

pub found_again : (c : Config) (chain : List ℕ) → IsSound c
    → filter_map (λ n. find (λ s. s.id.0 == n.0) c.services) (map (λ s. s.id) (expansion c chain)) ≡ expansion c chain
found_again c chain h = all_found c.services (expansion c chain) h.services (of_services c chain)

pub chain_gives : (c : Config) (chain : List ℕ) → IsSound c
    → numbers_or_fault chain (expansion c chain) ≡ Ok (map (λ s. s.id) (expansion c chain))
chain_gives c chain h = chain_expands c chain h.bounds

pub is_short : (c : Config) (chain : List ℕ) → IsSound c → length (expansion c chain) ≤ 15
is_short c chain h = chain_is_short c chain h.bounds
