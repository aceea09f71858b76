-- Where packets leave and where they arrive in two configurations.
use Rattle.std.specs.Prelude.{◌==◌, Bool, List, [], ◌∷◌, filter, flat_map, if◌then◌else◌}
use Rattle.ov_types.specs.First.{same_name}
use Rattle.config_types.specs.declared.config.Network.{Network}
use Rattle.config_types.specs.declared.config.Port.{Port}
use Rattle.config_check.specs.Checked.{Checked}
use Rattle.config_check.specs.Finding.{node_named}
use Rattle.hitless_cells.specs.Openings.{change_found}
use Rattle.hitless_cells.specs.declared.ends.Ends.{Ends}
use Rattle.hitless_cells.specs.declared.joints.Joint.{Joint}
use Rattle.hitless_cells.specs.declared.joints.Meeting.{Meeting}
use Rattle.hitless_cells.specs.declared.joints.Meeting.TheVariants.{ByNumber, ByAddress}

-- two ports have one number, or one address
abbrev pub meets : Meeting → Port → Port → Bool
meets ByNumber q r = q.id.0 == r.id.0
meets ByAddress q r = q.address.0 == r.address.0

-- two ports, and what is otherwise of their compute node
abbrev pub joint_of : Checked → Checked → Port → Port → Joint
joint_of x y q r = record {
  before = q;
  after = r;
  change = change_found (node_named x.topology q.node) (node_named y.topology r.node);
}

abbrev pub joints_if : Checked → Checked → Meeting → Port → Port → List Joint
joints_if x y m q r = if meets m q r then joint_of x y q r ∷ [] else []

abbrev pub joints_from : Checked → Checked → Meeting → Port → List Joint
joints_from x y m q = flat_map (joints_if x y m q) y.config.ports

-- the ports of two configurations that meet
abbrev pub joints : Checked → Checked → Meeting → List Joint
joints x y m = flat_map (joints_from x y m) x.config.ports

-- one network of each configuration, where ports of theirs meet
abbrev pub ends_at : Network → Network → List Joint → List Ends
ends_at a b [] = []
ends_at a b (j ∷ js) = record { before = a; after = b; joints = j ∷ js } ∷ []

abbrev pub ends_to : Network → List Joint → Network → List Ends
ends_to a js b = ends_at a b (filter (λ j. same_name j.after.network b.name) js)

abbrev pub ends_from : Checked → List Joint → Network → List Ends
ends_from y js a = flat_map (ends_to a (filter (λ j. same_name j.before.network a.name) js)) y.config.networks

-- each two networks, one of each configuration, of which ports meet, with these ports
abbrev pub ends_of : Checked → Checked → Meeting → List Ends
ends_of x y m = flat_map (ends_from y (joints x y m)) x.config.networks
