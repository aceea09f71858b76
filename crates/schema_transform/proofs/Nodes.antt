-- Routes towards a circuit whose node is found once.
use Rattle.std.proofs.Common.{◌≡◌, List, [], ◌∷◌, map, Option, Some, None, refl, ap, ◌∙◌}
use Rattle.std.specs.Prelude.{option_map}
use Rattle.std.specs.List.{filter_map}
use Rattle.ov_types.specs.Prefix.{Block}
use Rattle.ov_types.specs.declared.numbers.InstanceId.{InstanceId}
use Rattle.config_types.specs.declared.config.Config.{Config}
use Rattle.config_types.specs.declared.config.Network.{Network}
use Rattle.config_types.specs.declared.topology.Node.{Node}
use Rattle.config_types.specs.declared.topology.Topology.{Topology}
use Rattle.config_check.specs.Finding.{node_named}
use Rattle.transform_model.specs.Tables.{circuit_route, held_subnets, subnet_rows}
use Rattle.transform_model.specs.Uses.{Circuit}

all_some : {A B D : Type 0} (f : A → D → B) (d : D) (xs : List A) → filter_map (λ x. option_map (f x) (Some d)) xs ≡ map (λ x. f x d) xs
all_some f d [] = refl
all_some f d (x ∷ xs) = ap (λ ys. f x d ∷ ys) (all_some f d xs)

all_none : {A B D : Type 0} (f : A → D → B) (xs : List A) → filter_map (λ x. option_map (f x) None) xs ≡ []
all_none f [] = refl
all_none f (x ∷ xs) = all_none f xs

pub at_node : (t : Topology) (c : Config) (i : InstanceId) (n : Network) (k : Circuit) (d : Node)
    → node_named t k.service.node ≡ Some d
    → subnet_rows t c i n k ≡ map (λ s. circuit_route i s k d) (held_subnets c n)
at_node t c i n k d is =
    ap (λ (o : Option Node). filter_map (λ (s : Block). option_map (circuit_route i s k) o) (held_subnets c n)) is
    ∙ all_some (λ (s : Block) (d : Node). circuit_route i s k d) d (held_subnets c n)

pub at_no_node : (t : Topology) (c : Config) (i : InstanceId) (n : Network) (k : Circuit)
    → node_named t k.service.node ≡ None → subnet_rows t c i n k ≡ []
at_no_node t c i n k is =
    ap (λ (o : Option Node). filter_map (λ (s : Block). option_map (circuit_route i s k) o) (held_subnets c n)) is
    ∙ all_none (λ (s : Block) (d : Node). circuit_route i s k d) (held_subnets c n)
