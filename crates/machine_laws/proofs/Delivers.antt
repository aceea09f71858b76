-- Once a network is settled, each packet goes where policies say.
use Rattle.transform_model.specs.ReachPlain.Reachability.{reachability}
use Rattle.std.specs.List.{list_any}
use Rattle.std.specs.Prelude.{List, is_some, map, true, [], ◌∷◌, ◌≡◌}
use Rattle.std.specs.declared.option.Option.TheVariants.{Some}
use Rattle.std.specs.declared.option.Option.{Option}
use Rattle.chain_expand.proofs.Settled.{settled}
use Rattle.transform_model.proofs.Law.{forwarding_is_reachability}
use Rattle.std.proofs.Common.{ap, inl, inr, refl, sym, ◌∙◌}
use Rattle.std.proofs.lemmas.Bool.{or_right}
use Rattle.ov_types.specs.First.{same_name}
use Rattle.ov_types.specs.declared.packet.Packet.{Packet}
use Rattle.ov_types.specs.declared.rows.AgentRows.{AgentRows}
use Rattle.ov_types.specs.declared.rows.NodeId.{NodeId}
use Rattle.ov_types.specs.declared.rows.NodeRows.TheVariants as Rows
use Rattle.ov_types.specs.declared.rows.NodeRows.{NodeRows}
use Rattle.route_targets.specs.Forwarding.{Forwarder, forwarding}
use Rattle.config_types.specs.declared.topology.Node.{Node}
use Rattle.schedule_script.specs.ConfigCheck.Finding.{node_named}
use Rattle.schedule_script.specs.ConfigCheck.Sentences.{IsValid}
use Rattle.schedule_script.proofs.ConfigCheck.Validity.{valid_iff}
use Rattle.transform_model.specs.Compiled as compiled_rows
use Rattle.transform_model.proofs.Needed.{asked}
use Rattle.transform_model.proofs.Rows.{is_node}
use Rattle.node_laws.specs.NodeModel.Agent as agent
use Rattle.node_laws.specs.NodeModel.Members.{Member}
use Rattle.machine_model.specs.Events as events
use Rattle.machine_model.specs.Events.{after}
use Rattle.machine_model.specs.Network.{MachineState, start}
use Rattle.machine_model.specs.Setup.{checked, low as low_map}
use Rattle.machine_model.specs.Steps.{is_settled}
use Rattle.machine_laws.specs.Compiled as compiled
use Rattle.machine_laws.specs.Moments.{ShowsCompiled}
use Rattle.machine_laws.specs.Headline.{AfterAnySchedule, IsWritten, SettledIsReachable}
use Rattle.node_laws.proofs.NodeModel.Members.{contains_of}
use Rattle.machine_laws.proofs.Shown.{agent_is}
use Rattle.machine_laws.proofs.Written.{compiled_now, written_now}

abbrev rows_shown : AgentRows → NodeRows → AgentRows
rows_shown other' (Rows.Agent r) = r
rows_shown other' (Rows.Control r) = other'

module _ (w : MachineState) (written : IsWritten w.setup) (shows : ShowsCompiled w) (settled : is_settled w ≡ true) where
  valid : IsValid w.setup.topology w.setup.config
  valid = (valid_iff w.setup.topology w.setup.config).0 written.valid

  pub found : (n : Node) → Member n w.setup.topology.nodes → node_named w.setup.topology n.name ≡ Some n
  found n m = is_node w.setup.topology w.setup.config n.name n valid (contains_of w.setup.topology.nodes n m) refl

  rows_are : (n : Node) → Member n w.setup.topology.nodes → agent.rows (events.agent_rows w n.name) ≡ compiled_rows.agent_rows w.setup.topology w.setup.config n.address
  rows_are n m =
      let there : events.is_node w n.name ≡ true = or_right (list_any (λ (c : NodeId). same_name c.name n.name) w.setup.topology.controllers) (is_some (node_named w.setup.topology n.name)) (ap is_some (found n m)) in
      let is : Rows.Agent (agent.rows (events.agent_rows w n.name)) ≡ Rows.Agent (compiled.agent_rows (low_map w.setup) n.address) =
      ap (λ (o : Option Node). events.shown_of o w n.name) (sym (found n m)) ∙ shows settled n.name there ∙ ap (compiled.rows_for (low_map w.setup)) (found n m) in
      ap (rows_shown (agent.rows (events.agent_rows w n.name))) is ∙ agent_is w.setup written.config valid n.address

  forwarders_are : (ns : List Node) → ((n : Node) → Member n ns → agent.rows (events.agent_rows w n.name) ≡ compiled_rows.agent_rows w.setup.topology w.setup.config n.address)
      → map (λ (n : Node). record { address = n.address; rows = agent.rows (events.agent_rows w n.name) }) ns ≡ compiled_rows.forwarders ns (map (λ (n : Node). compiled_rows.agent_rows w.setup.topology w.setup.config n.address) ns)
  forwarders_are [] h = refl
  forwarders_are (n ∷ ns) h = λ i. record { address = n.address; rows = h n (inl refl) i } ∷ forwarders_are ns (λ m k. h m (inr k)) i

  pub delivers : (p : Packet) → forwarding (events.forwarders w) p ≡ reachability w.setup.config p
  unfolding compiled_rows.compiled_tables
  delivers p =
      ap (λ (fs : List Forwarder). forwarding fs p) (forwarders_are w.setup.topology.nodes rows_are)
      ∙ forwarding_is_reachability (checked w.setup) written.config written.valid p

pub written_delivers : AfterAnySchedule (λ size w. SettledIsReachable w)
written_delivers size positive x written es asked settled p =
    delivers (after size (start x) es) (written_now size positive x written es asked) (compiled_now size positive x written es asked) settled p
