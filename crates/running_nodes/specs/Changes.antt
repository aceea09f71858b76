-- What a step makes of the half of a seat that is the node itself.
use Rattle.std.specs.Prelude.{◌≡◌, ◌≤◌, ℕ, List, [], ◌∷◌, ◌++◌, length, Bool, false}
use Rattle.std.specs.declared.option.Option.TheVariants.{Some, None}
use Rattle.std.specs.List.{filter_map, slice_index_or, slice_set}
use Rattle.config_check.specs.Checked.{Checked}
use Rattle.ov_link.specs.FailingState.{FailingState}
use Rattle.ov_link.specs.declared.step.Input.{Input}
use Rattle.ov_types.specs.declared.rows.NodeId.{NodeId}
use Rattle.ov_types.specs.declared.rows.NodeRows.{NodeRows}
use Rattle.route_targets.specs.Forwarding.{Forwarder}
use Rattle.node_core.specs.Keeping.{AreSwept}
use Rattle.node_model.specs.Step.{nothing}
use Rattle.running_nodes.specs.ControlNode.Agents.{put_at}
use Rattle.running_nodes.specs.MachineModel.Setup.{Name, with_agent}
use Rattle.running_nodes.specs.Controls.{Controls, first_agent}
use Rattle.running_nodes.specs.Moving.{number_for, retired_of}
use Rattle.running_nodes.specs.Seats.{Who, Configuring, Controlling, name_of, others_of}
use Rattle.running_nodes.specs.Steps.{IsStepped, Passes, Takes, all_of, as_it_is, forwarder_of, shown_by}
use Rattle.running_nodes.specs.Halves.{Inner, Outer, inner, over, seated}

-- nothing but the node of this number changes, which keeps its name and its sessions
pub record ChangesOne (k : ℕ) (ns ns' : List Inner) : Type 0 where
  pub one : ns' ≡ slice_set ns k (inner ns' k)
  pub name : name_of (inner ns' k).who ≡ name_of (inner ns k).who
  pub others : others_of (inner ns' k).who ≡ others_of (inner ns k).who
  pub long : length (inner ns' k).posts ≡ length (inner ns k).posts
  pub kept : length (inner ns' k).kept ≡ length (inner ns k).kept

-- a node takes an input, whatever notices wait at its ends
abbrev pub TakesOver : List FailingState → List FailingState → Inner → Inner → Input → Type 0
TakesOver links links' n n' input = (notices : List Bool) → Takes (over n links notices) (over n' links' notices) input

-- a node makes its pass, whatever notices wait at its ends
abbrev pub PassesOver : List FailingState → List FailingState → Inner → Inner → Type 0
PassesOver links links' n n' = (notices : List Bool) → Passes (over n links notices) (over n' links' notices)

-- the configuration node has another configuration
abbrev pub SetsOver : List FailingState → List FailingState → Inner → Inner → Checked → Type 0
SetsOver links links' n n' y =
    ((notices : List Bool) → IsStepped (record (over n links notices) { who = Configuring y })
    (over n' links' notices) 0 (as_it_is (over n links notices)))
    × AreSwept n'.posts n.kept n'.kept

-- a node with nothing
abbrev pub emptied_inner : Inner → Inner
emptied_inner n = record { who = n.who; posts = all_of nothing n.posts; kept = all_of [] n.kept }

-- ends at which no send is to fail
abbrev pub unbroken_outer : Outer → Outer
unbroken_outer o = record o { breaks = all_of [] o.breaks }

-- ---- an agent goes from a control node
abbrev pub vacated_inner : Name → ℕ → Inner → Inner
vacated_inner name i n =
    record { who = retired_of name n.who; posts = slice_set n.posts i nothing; kept = slice_set n.kept i [] }

-- ends of which one has nothing
abbrev pub emptied_at : ℕ → Outer → Outer
emptied_at i o = record o {
  links = slice_set o.links i [];
  breaks = slice_set o.breaks i [];
  notices = slice_set o.notices i false;
}

-- one session of a node is with an agent of this name, and no other one is with a node of the name
pub record IsAlone (name : Name) (i : ℕ) (n : Inner) : Type 0 where
  pub controls : Controls
  pub control : n.who ≡ Controlling controls
  pub agent : first_agent controls ≤ i
  pub there : slice_index_or (others_of n.who) i None ≡ Some name
  pub alone : (j : ℕ) → slice_index_or (others_of n.who) j None ≡ Some name → j ≡ i

-- ---- an agent comes to a control node
abbrev pub joined_inner_by : Who → NodeId → Inner → Inner
joined_inner_by (Controlling c) a n = record {
  who = Controlling (record c { agents = with_agent a c.agents });
  posts = put_at n.posts (number_for c) nothing;
  kept = put_at n.kept (number_for c) [];
}
joined_inner_by who a n = n

abbrev pub joined_inner : NodeId → Inner → Inner
joined_inner a n = joined_inner_by n.who a n

-- the outer half of a seat, with one more end
abbrev pub longer_outer : Name → Outer → Outer
longer_outer name o = record {
  name = o.name;
  others = o.others ++ Some name ∷ [];
  links = o.links ++ [] ∷ [];
  breaks = o.breaks ++ [] ∷ [];
  notices = o.notices ++ false ∷ [];
}

abbrev pub joined_outer : Name → ℕ → Outer → Outer
joined_outer name i o = record {
  name = o.name;
  others = put_at o.others i (Some name);
  links = put_at o.links i [];
  breaks = put_at o.breaks i [];
  notices = put_at o.notices i false;
}

-- what is shown does not depend on what lies at the ends
abbrev pub shown : Inner → NodeRows
shown n = shown_by (seated n [] [] [])

abbrev pub forwarders : List Inner → List Forwarder
forwarders ns = filter_map (λ n. forwarder_of (seated n [] [] [])) ns
