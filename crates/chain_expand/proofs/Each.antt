-- What holds of each expansion.
use Rattle.std.proofs.Common.{◌≡◌, ◌≢◌, ℕ, false, List, [], Some, None, refl, sym, subst, arith}
use Rattle.std.specs.List.{All}
use Rattle.std.specs.Cmp.Lexicographic.{same_text}
use Rattle.std.proofs.lemmas.Bool.Decides.{nat_tests}
use Rattle.std.proofs.lemmas.List.Elements.{All-contains}
use Rattle.ov_types.specs.First.{same_name}
use Rattle.ov_types.proofs.FirstLemmas.{found_is}
use Rattle.config_types.specs.declared.config.Chain.{Chain}
use Rattle.config_types.specs.declared.config.Config.{Config}
use Rattle.config_types.specs.declared.config.Service.{Service}
use Rattle.chain_expand.specs.Expansion.{chain_named, expansion, same_number}

-- what holds of the expansion of each chain holds of that of each name: where there is no such chain it is empty
pub of_each_name : (P : List Service → Type 0) (c : Config) (name : List ℕ) → P [] → All (λ d. P (expansion c d.name)) c.chains → P (expansion c name)
of_each_name P c name none each =
    elim (chain_named c name) as (λ o. chain_named c name ≡ o → P (expansion c name)) [
      | None ↦ λ e. let empty : expansion c name ≡ [] = rw e refl in subst P (sym empty) none
      | Some d ↦ λ e.
          let named = found_is (λ (x : Chain). same_name x.name name) c.chains d e in
          let Q : List ℕ → Type 0 = λ n. P (expansion c n) in
          subst Q (same_text d.name name (sym named.0)) (All-contains (λ (x : Chain). P (expansion c x.name)) c.chains d each named.1)
    ] refl

pub numbers_apart : (s u : Service) → s.id.0 ≢ u.id.0 → same_number s u ≡ false
numbers_apart s u h = grind (arith, nat_tests)
