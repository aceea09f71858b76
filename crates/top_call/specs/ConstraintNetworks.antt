-- What `constrain` leaves behind and promises.
use Rattle.std.specs.Prelude.{◌≡◌, ℕ, List, false, true}
use Rattle.std.specs.declared.option.Option.{Option}
use Rattle.std.specs.declared.option.Option.TheVariants.{Some}
use Rattle.std.specs.Io.KnownBytes.{Appends}
use Rattle.std.specs.List.{AllByRecursion}
use Rattle.ov_types.specs.declared.numbers.InstanceId.{InstanceId}
use Rattle.ov_types.specs.declared.rows.NodeId.{NodeId}
use Rattle.config_check.specs.Checked.{Checked}
use Rattle.config_model.specs.declared.input.CompileInput.{CompileInput}
use Rattle.compile_answers.specs.Answers.{AreReadAs}
use Rattle.node_model.specs.Members.{Member}
use Rattle.node_model.specs.Paths.{Holdings, Told}
use Rattle.node_model.specs.Tables.{table}
use Rattle.node_model.specs.Wants.{wanted_by_agent, wanted_by_peers}
use Rattle.machine_model.specs.Network.{MachineState}
use Rattle.machine_model.specs.Steps.{is_settled}
use Rattle.net_machine.specs.RunningNodes.Stands.{StandsFor, moment}
use Rattle.net_machine.specs.Looking.{held_at}
use Rattle.net_machine.specs.NetState.{NetState}
use Rattle.net_machine.specs.RunningLaws.Peering.{AllHearTheirPeers}
use Rattle.rt_constrain.specs.Asking.{cut}
use Rattle.rt_constrain.specs.Needed.{needed}
use Rattle.top_call.specs.Constraint.{constrain_text, settling}

-- the configuration of an input, with its topology
abbrev pub setup_of : CompileInput → Checked
setup_of p = record { topology = p.topology; config = p.config }

-- a network with this configuration has settled, and did nothing else
pub record HasSettled (x : Checked) (n : NetState) : Type 0 where
  pub opening : n.opening ≡ x
  pub events : n.events ≡ settling
  pub works : n.failed ≡ false
  pub state : StandsFor n.seats (moment x settling)

-- the network that `constrain` leaves of a document
pub record IsLeftSettled (octets : List ℕ) (left : Option NetState) : Type 0 where
  pub input : CompileInput
  pub read : AreReadAs octets input
  pub net : NetState
  pub is_left : left ≡ Some net
  pub settled : HasSettled (setup_of input) net

-- ---- a peer that sends only what is asked changes nothing
-- what a control node is to tell its peers and its agents is the same where its peers sent only what it asks, and so
-- are the tables of the instances that it needs
pub record NeedsNoMore (h : Holdings) : Type 0 where
  pub peers : wanted_by_peers (cut h) ≡ wanted_by_peers h
  pub agents : (a : Told) → Member a h.agents → wanted_by_agent (cut h) a ≡ wanted_by_agent h a
  pub tables : (i : InstanceId) → Member i (needed h) → table (cut h) i ≡ table h i

-- each of some control nodes of a network needs no more than it asks
abbrev pub EachNeedsNoMore : MachineState → List NodeId → Type 0
EachNeedsNoMore w cs = AllByRecursion (λ (c : NodeId). NeedsNoMore (held_at w c.name)) cs

abbrev pub NoneNeedsMore : MachineState → Type 0
NoneNeedsMore w = EachNeedsNoMore w w.setup.topology.controllers

-- what was taken is what the control nodes ask and send in a settled network. There each holds of its peers what these
-- would tell it, and needs no more of that than it asks
pub record TookConstraint (octets : List ℕ) (old new : Option (List ℕ)) : Type 0 where
  pub input : CompileInput
  pub read : AreReadAs octets input
  pub taken : Appends old new (constrain_text (setup_of input))
  pub settled : is_settled (moment (setup_of input) settling) ≡ true
  pub heard : AllHearTheirPeers (moment (setup_of input) settling)
  pub enough : NoneNeedsMore (moment (setup_of input) settling)
