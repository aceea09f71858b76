-- Which edits put an object in the place of another.
use Rattle.std.specs.Prelude.{ℕ, Bool, false, List}
use Rattle.std.specs.List.{list_any}
use Rattle.ov_types.specs.First.{same_name}
use Rattle.config_types.specs.declared.config.Config.{Config}
use Rattle.config_types.specs.declared.edit.Edit.{Edit}
use Rattle.config_types.specs.declared.edit.Edit.TheVariants.{Put, Delete}
use Rattle.config_types.specs.declared.edit.Object.{Object}
use Rattle.config_types.specs.declared.edit.Object.TheVariants as Objects
use Rattle.config_types.specs.declared.topology.Topology.{Topology}
use Rattle.config_check.specs.Checked.{Checked}

abbrev pub has_network : Config → List ℕ → Bool
has_network c name = list_any (λ x. same_name x.name name) c.networks

abbrev pub has_port : Config → List ℕ → Bool
has_port c name = list_any (λ x. same_name x.name name) c.ports

abbrev pub has_policy : Config → List ℕ → Bool
has_policy c name = list_any (λ x. same_name x.name name) c.policies

abbrev pub has_service : Config → List ℕ → Bool
has_service c name = list_any (λ x. same_name x.name name) c.services

abbrev pub has_chain : Config → List ℕ → Bool
has_chain c name = list_any (λ x. same_name x.name name) c.chains

abbrev pub has_node : Topology → List ℕ → Bool
has_node t name = list_any (λ x. same_name x.name name) t.nodes

-- an object of the kind has the name already
abbrev pub is_known : Object → Checked → Bool
is_known (Objects.Network o) x = has_network x.config o.name
is_known (Objects.Port o) x = has_port x.config o.name
is_known (Objects.Policy o) x = has_policy x.config o.name
is_known (Objects.Service o) x = has_service x.config o.name
is_known (Objects.Chain o) x = has_chain x.config o.name
is_known (Objects.Node o) x = has_node x.topology o.name

-- an edit puts an object in the place of another
abbrev pub replaces : Edit → Checked → Bool
replaces (Put o) x = is_known o x
replaces (Delete kind name) x = false
