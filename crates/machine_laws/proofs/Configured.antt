-- Once a network is settled, what each node shows is what the configuration is transformed into.
use Rattle.std.specs.List.{list_any}
use Rattle.std.specs.Prelude.{is_some, true, ◌≡◌}
use Rattle.std.specs.declared.option.Option.TheVariants.{None, Some}
use Rattle.std.specs.declared.option.Option.{Option}
use Rattle.std.proofs.Common.{ap, refl, sym, ◌∙◌}
use Rattle.std.proofs.lemmas.Bool.{or_left, or_right}
use Rattle.ov_types.specs.First.{same_name}
use Rattle.ov_types.specs.declared.rows.NodeId.{NodeId}
use Rattle.ov_types.specs.declared.rows.NodeRows.TheVariants as Rows
use Rattle.ov_types.proofs.FirstLemmas.{same_name_self}
use Rattle.config_types.specs.declared.topology.Node.{Node}
use Rattle.schedule_script.specs.ConfigCheck.Finding.{node_named}
use Rattle.schedule_script.specs.ConfigCheck.Sentences.{IsValid}
use Rattle.schedule_script.proofs.ConfigCheck.Validity.{valid_iff}
use Rattle.transform_model.specs.Compiled.{agent_rows}
use Rattle.transform_model.specs.Tables.{control_rows}
use Rattle.transform_model.proofs.Rows.{node_is}
use Rattle.node_laws.specs.NodeModel.Members.{Member}
use Rattle.node_laws.proofs.NodeModel.Members.{any_in, in_map, member_of}
use Rattle.machine_model.specs.Events.{after, is_node, shown}
use Rattle.machine_model.specs.Network.{MachineState, start}
use Rattle.machine_model.specs.Setup.{Name, low as low_map}
use Rattle.machine_model.specs.Steps.{is_settled}
use Rattle.machine_laws.specs.Compiled.{rows_for}
use Rattle.machine_laws.specs.Moments.{ShowsCompiled}
use Rattle.machine_laws.proofs.KindNames.{apart_names}
use Rattle.machine_laws.specs.Headline.{AfterAnySchedule, AgentsShowRows, ControlNodesShowTables, IsWritten}
use Rattle.machine_laws.proofs.ControlTables.{control_is}
use Rattle.machine_laws.proofs.Delivers.{found}
use Rattle.machine_laws.proofs.Names.{is_named}
use Rattle.machine_laws.proofs.Shown.{agent_is}
use Rattle.machine_laws.proofs.Written.{compiled_now, written_now}

abbrev name_of_site : NodeId → Name
name_of_site n = n.name

abbrev name_of_computer : Node → Name
name_of_computer n = n.name

module _ (w : MachineState) (written : IsWritten w.setup) (shows : ShowsCompiled w) (settled : is_settled w ≡ true) where
  valid : IsValid w.setup.topology w.setup.config
  valid = (valid_iff w.setup.topology w.setup.config).0 written.valid

  -- no compute node has a control node's name
  no_computer : (n : NodeId) → Member n w.setup.topology.controllers → node_named w.setup.topology n.name ≡ None
  no_computer n m = go (node_named w.setup.topology n.name) refl
    where
      go : (o : Option Node) → node_named w.setup.topology n.name ≡ o → o ≡ None
      go None e = refl
      go (Some d) e =
          let at = node_is w.setup.topology n.name d e in
          absurd ((apart_names w.setup.topology (is_named w.setup.topology w.setup.config written.topology valid).apart).kinds_apart n.name d.name
          (in_map name_of_site n w.setup.topology.controllers m) (in_map name_of_computer d w.setup.topology.nodes (member_of w.setup.topology.nodes d at.1)) (sym at.0))

  control_shows : (n : NodeId) → Member n w.setup.topology.controllers → shown w n.name ≡ Rows.Control (control_rows w.setup.topology w.setup.config)
  control_shows n m =
      let among = any_in (λ (c : NodeId). same_name c.name n.name) n w.setup.topology.controllers m (same_name_self n.name) in
      let there : is_node w n.name ≡ true = or_left (list_any (λ (c : NodeId). same_name c.name n.name) w.setup.topology.controllers) (is_some (node_named w.setup.topology n.name)) among in
      shows settled n.name there ∙ ap (rows_for (low_map w.setup)) (no_computer n m) ∙ ap Rows.Control (control_is w.setup written.config valid)

  agent_shows : (n : Node) → Member n w.setup.topology.nodes → shown w n.name ≡ Rows.Agent (agent_rows w.setup.topology w.setup.config n.address)
  agent_shows n m =
      let is = found w written shows settled n m in
      let there : is_node w n.name ≡ true = or_right (list_any (λ (c : NodeId). same_name c.name n.name) w.setup.topology.controllers) (is_some (node_named w.setup.topology n.name)) (ap is_some is) in
      shows settled n.name there ∙ ap (rows_for (low_map w.setup)) is ∙ ap Rows.Agent (agent_is w.setup written.config valid n.address)

pub control_nodes_show_tables : AfterAnySchedule (λ size w. ControlNodesShowTables w)
control_nodes_show_tables size positive x written es asked settled =
    control_shows (after size (start x) es) (written_now size positive x written es asked) (compiled_now size positive x written es asked) settled

pub agents_show_rows : AfterAnySchedule (λ size w. AgentsShowRows w)
agents_show_rows size positive x written es asked settled =
    agent_shows (after size (start x) es) (written_now size positive x written es asked) (compiled_now size positive x written es asked) settled
