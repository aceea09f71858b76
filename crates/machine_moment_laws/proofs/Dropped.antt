-- Where each agent goes by the slice of the present configuration, or by none, a packet that policies refuse is dropped.
use Rattle.std.specs.Prelude.{◌≡◌, ◌⊎◌, [], List}
use Rattle.std.specs.List.{filter_map}
use Rattle.std.proofs.Common.{◌∙◌, ap, inl, inr}
use Rattle.route_targets.specs.Forwarding.{Forwarder}
use Rattle.config_types.specs.declared.topology.Node.{Node}
use Rattle.transform_model.specs.Compiled as compiled_rows
use Rattle.transform_model.specs.Compiled.{slice_of}
use Rattle.transform_model.specs.Objects.{LowObject, low_objects}
use Rattle.node_laws.specs.NodeModel.Agent as agent
use Rattle.node_laws.specs.NodeModel.Agent.{slice_in_use}
use Rattle.node_laws.proofs.NodeModel.Members.{member_of}
use Rattle.machine_model.specs.Network.{MachineState}
use Rattle.machine_model.specs.Events.{agent_rows}
use Rattle.machine_laws.specs.Headline.{IsWritten}
use Rattle.machine_laws.proofs.Shown.{slice_is}
use Rattle.machine_moment_laws.specs.Revocation.{AllGoByPresent, DropsWhatIsRefused}
use Rattle.machine_moment_laws.proofs.Refusals.{ArePresent, IsPresent, refused_is_dropped}

module _ (w : MachineState) (written : IsWritten w.setup) (goes : AllGoByPresent w) where
  -- the agent of a node as it is now
  abbrev now : Node → Forwarder
  now n = record { address = n.address; rows = agent.rows (agent_rows w n.name) }

  are_present : ArePresent w.setup.topology w.setup.config now
  unfolding compiled_rows.agent_rows
  are_present n inside =
      elim (goes n (member_of w.setup.topology.nodes n inside)) as (λ _. IsPresent w.setup.topology w.setup.config now n ⊎ ((now n).rows.labels ≡ [])) [
        | inl e ↦
            let is : slice_in_use (agent_rows w n.name) ≡ slice_of (low_objects w.setup.topology w.setup.config) n.address = e ∙ slice_is w.setup n.address in
            inl (record {
              labels = ap (λ (os : List LowObject). filter_map (λ (e : LowObject). agent.attached e.0 e.1) os) is;
              acls = ap (λ (os : List LowObject). filter_map (λ (e : LowObject). agent.acl_entry e.0 e.1) os) is;
            })
        | inr e ↦ inr (ap (λ (os : List LowObject). filter_map (λ (e : LowObject). agent.attached e.0 e.1) os) e)
      ]

  pub drops_what_is_refused : DropsWhatIsRefused w
  drops_what_is_refused p why refusal e =
      refused_is_dropped w.setup.topology w.setup.config written.config written.valid now are_present p why refusal e
