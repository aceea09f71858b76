-- A compute node comes, goes, or lists other control nodes than before: the seats then, once the configuration node has
-- what is valid then, are those of the network whose sessions moved.
use Rattle.std.specs.Prelude.{◌≡◌, ◌≢◌, List}
use Rattle.std.specs.declared.option.Option.{Option}
use Rattle.std.specs.declared.option.Option.TheVariants.{Some, None}
use Rattle.std.proofs.Common.{refl, sym, ◌∙◌, subst}
use Rattle.ov_types.specs.declared.rows.NodeId.{NodeId}
use Rattle.config_types.specs.declared.edit.Edit.{Edit}
use Rattle.config_types.specs.declared.topology.Node.{Node}
use Rattle.config_types.specs.declared.topology.Topology.{Topology}
use Rattle.schedule_script.specs.ConfigCheck.Edits as config_edits
use Rattle.schedule_script.specs.ConfigCheck.Edits.{edit_fault}
use Rattle.schedule_script.specs.ConfigCheck.Finding.{node_named}
use Rattle.node_model.specs.Members.{Member}
use Rattle.node_model.proofs.Members.{from_map}
use Rattle.machine_laws.specs.MachineModel.Setup.{Move, Name, Setup, checked, listed_by, moves}
use Rattle.machine_laws.specs.MachineModel.Network.{MachineState, config}
use Rattle.machine_laws.specs.MachineModel.Events.{Edits, moved}
use Rattle.machine_laws.specs.MachineModel.Moments.{EditIsValid}
use Rattle.machine_laws.proofs.MachineModel.Changing.{found_member}
use Rattle.machine_laws.specs.Headline.{IsOfForm}
use Rattle.running_nodes.specs.Seats.{Seat}
use Rattle.running_nodes.specs.Moving.{Moves, before_passes}
use Rattle.running_nodes.specs.Stands.{Seats}
use Rattle.running_laws.specs.Moments.{IsMoment}
use Rattle.running_laws.proofs.Facts.{Facts}
use Rattle.running_laws.proofs.MovedBase.{base_stands, nodes_before, nodes_then, renewed, root_stays}
use Rattle.running_laws.proofs.MovedRight.{right_resettled, sound_resettled}
use Rattle.running_laws.proofs.Passes.{passes_stand}
use Rattle.running_laws.proofs.Reconfigured.{IsOf, reconfigured, same_passes}
use Rattle.running_laws.proofs.Resettled.{resettled, setup_after}

module _ (facts : Facts) (seats : List Seat) (w : MachineState) (moment : IsMoment w) (stands : Seats seats w) (e : Edit)
    (form : EditIsValid IsOfForm w (Edits e)) (none : edit_fault (checked w.setup) e ≡ None) (m : Move)
    (is : moves e w.setup.topology ≡ Some m) where
  abbrev y : Setup
  y = setup_after w.setup e

  abbrev t : Topology
  t = w.setup.topology

  same_sites : y.topology.controllers ≡ t.controllers
  same_sites = (renewed facts seats w moment stands e form none m is).controllers

  -- what it listed are control nodes
  left_is : m.left ≡ listed_by (node_named t m.name)
  left_is = (renewed facts seats w moment stands e form none m is).mover.0

  sites : (c : Name) → Member c m.left → (d : NodeId) × Member d y.topology.controllers × (d.name ≡ c)
  sites c i = by_node (node_named t m.name) refl (subst (Member c) left_is i)
    where
      by_node : (o : Option Node) → node_named t m.name ≡ o → Member c (listed_by o)
          → (d : NodeId) × Member d y.topology.controllers × (d.name ≡ c)
      by_node None f i = absurd i
      by_node (Some k) f i =
          let there = found_member m.name t.nodes k f in
          let d = from_map (λ (d : NodeId). d.name) c t.controllers ((nodes_before facts seats w moment stands e form none m is).listed k there.0 c i) in
          (d.0, subst (Member d.0) (sym same_sites) d.1, d.2)

  -- ---- it went from all control nodes, and came to those that it lists
  abbrev before : List Seat
  before = before_passes y.topology m seats

  -- the configuration node is as it was
  is_of : IsOf (checked y) before
  is_of = (checked w.setup, root_stays facts seats w moment stands e form none m is, sym same_sites)

  stands_before : Seats (reconfigured (checked y) before) (resettled m y w)
  stands_before = base_stands facts seats w moment stands e form none m is

  not_config : (c : Name) → Member c m.left → config ≢ c
  not_config c i same =
      let d = sites c i in
      (nodes_then facts seats w moment stands e form none m is).no_site_config d.0 d.1 (d.2 ∙ sym same)

  -- ---- then they make their passes
  all_moved : (after : List Seat) → Moves y.topology m seats after
      → Seats (reconfigured (checked y) after) (moved (Some m) (record { setup = y; sessions = w.sessions }))
  all_moved after made =
      passes_stand facts.wired m.left (reconfigured (checked y) before) (reconfigured (checked y) after) (resettled m y w)
      (right_resettled facts w moment e form none m is)
      (sound_resettled facts w moment e form none m is) stands_before sites
      (same_passes (checked y) m.left not_config before after is_of made)

pub moved_stands : Facts → (seats : List Seat) (w : MachineState) → IsMoment w → Seats seats w → (e : Edit)
    → EditIsValid IsOfForm w (Edits e) → edit_fault (checked w.setup) e ≡ None
    → (m : Move) → moves e w.setup.topology ≡ Some m
    → (after : List Seat) → Moves (config_edits.edited e (checked w.setup)).topology m seats after
    → Seats (reconfigured (config_edits.edited e (checked w.setup)) after)
    (moved (Some m) (record { setup = setup_after w.setup e; sessions = w.sessions }))
moved_stands facts seats w moment stands e form none m is after made = all_moved facts seats w moment stands e form none m is after made
