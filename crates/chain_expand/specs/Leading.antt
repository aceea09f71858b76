-- What chains lead to and expand to, as relations: a hop, and what its chain does.
use Rattle.std.specs.Prelude.{◌≡◌, ◌⊎◌, ℕ, List, [], ◌∷◌, ◌++◌, Contains, IsTrue, IsSome, Some, None}
use Rattle.config_types.specs.declared.config.Chain.{Chain}
use Rattle.config_types.specs.declared.config.Config.{Config}
use Rattle.config_types.specs.declared.config.Service.{Service}
use Rattle.chain_expand.specs.Expansion.{service_named, chain_named, names_chain, hops_of}

-- a chain has a hop that names another chain
abbrev pub HopsTo : Config → List ℕ → List ℕ → Type 0
HopsTo c from to = Contains (hops_of c from) to × IsTrue (names_chain c to)

-- a chain leads to another by one hop, or by a hop and what leads on
pub data Leads (c : Config) : List ℕ → List ℕ → Type 0 where
  direct : {from to : List ℕ} → HopsTo c from to → Leads c from to
  onward : {from hop to : List ℕ} → HopsTo c from hop → Leads c hop to → Leads c from to

-- hops expand to services: one that names a service to it, and one that names a chain to what that one's hops expand to
pub data Expands (c : Config) : List (List ℕ) → List Service → Type 0 where
  of_nothing : {services : List Service} → services ≡ [] → Expands c [] services
  of_service : {hop : List ℕ} {hops : List (List ℕ)} {s : Service} {rest services : List Service}
      → service_named c hop ≡ Some s → Expands c hops rest → services ≡ s ∷ rest → Expands c (hop ∷ hops) services
  of_chain : {hop : List ℕ} {hops : List (List ℕ)} {d : Chain} {inner rest services : List Service}
      → service_named c hop ≡ None → chain_named c hop ≡ Some d → Expands c d.hops inner → Expands c hops rest
      → services ≡ inner ++ rest → Expands c (hop ∷ hops) services

-- a chain is one, or is led to by it
abbrev pub IsAlong : Config → List ℕ → List ℕ → Type 0
IsAlong c name chain = (chain ≡ name) ⊎ Leads c name chain

-- no chain that is one, or is led to by it, leads back to itself
abbrev pub IsLoopFree : Config → List ℕ → Type 0
IsLoopFree c name = (chain : List ℕ) → IsAlong c name chain → ¬ (Leads c chain chain)

-- each hop of a chain, and of those that it leads to, names a service or a chain
abbrev pub NamesThings : Config → List ℕ → Type 0
NamesThings c name = (chain hop : List ℕ) → IsAlong c name chain → Contains (hops_of c chain) hop
    → IsSome (service_named c hop) ⊎ IsSome (chain_named c hop)
