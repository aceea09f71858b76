-- The network at the place of a port's home is the one of that name.
use Rattle.std.proofs.Common.{◌≡◌, ◌<◌, ℕ, Bool, false, List, map, length, get_or, Option, Some, refl, sym, ap, ◌∙◌}
use Rattle.std.specs.Prelude.{option_and_then}
use Rattle.std.specs.List.{position, slice_get}
use Rattle.std.proofs.lemmas.List.{get_or-map}
use Rattle.std.proofs.lemmas.Option.{slice_get_read}
use Rattle.ov_types.specs.First.{same_name}
use Rattle.chain_expand.proofs.Reached.{found_at}
use Rattle.config_types.specs.declared.config.Config.{Config}
use Rattle.config_types.specs.declared.config.Network.{Network}
use Rattle.config_types.specs.declared.config.Port.{Port}
use Rattle.config_types.specs.declared.topology.Topology.{Topology}
use Rattle.policy_rules.specs.Related.{imports}
use Rattle.config_check.specs.Finding.{network_named, node_named}
use Rattle.transform_model.specs.Tables.{port_row, row_if}

pub home_is : (c : Config) (name : List ℕ) (o : Option ℕ) → position (λ n. same_name n.name name) c.networks ≡ o
    → network_named c name ≡ option_and_then (slice_get c.networks) o
home_is c name o e = found_at (λ n. same_name n.name name) c.networks o e

-- the row of a port whose home is at a place, by what is said of that place
pub home_row : (t : Topology) (c : Config) (n : Network) (p : Port) (imported : List Bool) (place : ℕ) (b : Network)
    → imported ≡ map (imports c n) c.networks → Some place ≡ position (λ m. same_name m.name p.network) c.networks
    → place < length c.networks → b ≡ get_or c.networks place b
    → port_row t c n p ≡ row_if (get_or imported place false) n.id b p (node_named t p.node)
home_row t c n p imported place b is at within home =
    let found : network_named c p.network ≡ Some b =
    home_is c p.network (Some place) (sym at) ∙ slice_get_read c.networks (length c.networks) place b refl within home
    in
    let same : imports c n b ≡ get_or imported place false =
    ap (imports c n) home ∙ sym (get_or-map (imports c n) c.networks place b false within)
    ∙ ap (λ (xs : List Bool). get_or xs place false) (sym is)
    in
    ap (option_and_then (λ (m : Network). row_if (imports c n m) n.id m p (node_named t p.node))) found
    ∙ ap (λ (is_asked : Bool). row_if is_asked n.id b p (node_named t p.node)) same
