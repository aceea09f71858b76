-- At every moment of a schedule all that is held or in flight is tied.
use Rattle.std.specs.Prelude.{List, ℕ, ◌≡◌}
use Rattle.std.specs.declared.option.Option.TheVariants.{Some}
use Rattle.std.proofs.Common.{refl, subst, ◌∙◌}
use Rattle.route_targets.specs.Forwarding.{Forwarder}
use Rattle.config_types.specs.declared.edit.Edit.{Edit}
use Rattle.config_types.specs.declared.topology.Node.{Node}
use Rattle.schedule_script.specs.ConfigCheck.Checked.{Checked}
use Rattle.schedule_script.proofs.ConfigCheck.Validity.{valid_iff}
use Rattle.node_laws.specs.NodeModel.Agent as agent
use Rattle.node_laws.specs.NodeModel.Maps.{Map}
use Rattle.node_laws.specs.NodeModel.Members.{Member}
use Rattle.node_laws.proofs.NodeModel.Members.{from_map}
use Rattle.machine_model.specs.Events.{MachineEvent, after, forwarders}
use Rattle.machine_model.specs.Events.{agent_rows as held_by_agent}
use Rattle.machine_model.specs.Moments.{ArePositive, Each, EditsAreValid}
use Rattle.machine_model.specs.Network.{MachineState, sessions_of, start}
use Rattle.machine_model.specs.Session.{Message}
use Rattle.machine_model.specs.Setup.{Name, Setup, edited, opening}
use Rattle.machine_laws.specs.Settling.{WantsFair}
use Rattle.machine_laws.proofs.RanksSettle.{kept, stay_valid}
use Rattle.machine_laws.specs.Headline.{IsWritten}
use Rattle.schedule_script.specs.Ties.{IsTiedBy, Ties}
use Rattle.machine_laws.specs.Tied.{AreTied, tied}
use Rattle.machine_laws.specs.TiedMoments.{AtTiedMoments, IsTiedState, KeepsTies}
use Rattle.machine_laws.proofs.Edited.{same_asn, written_edit}
use Rattle.machine_laws.proofs.TiedObjects.{low_tied}
use Rattle.machine_laws.proofs.Labels.{none_tied}
use Rattle.machine_laws.proofs.Agents.{IsTiedForwarder, rows_tied}
use Rattle.machine_laws.proofs.Wants.{AllTied, agent_holds, own_held, wants_tied}

-- a valid configuration that is as the ties have it, in an autonomous system
pub record IsKept (t : Ties) (asn : ℕ) (y : Setup) : Type 0 where
  pub written : IsWritten y
  pub as_tied : IsTiedBy t y.config
  pub asn_is : y.topology.asn ≡ asn

edits_keep : (t : Ties) (asn : ℕ) (y : Setup) (d : Edit) (z : Setup) → IsKept t asn y → edited y d ≡ Some z → KeepsTies t z → IsKept t asn z
edits_keep t asn y d z k e asked = record { written = written_edit y d z e asked.0; as_tied = asked.1; asn_is = same_asn y d z e ∙ k.asn_is }

-- ---- every moment
module _ (size : Name → Message → ℕ) (positive : ArePositive size) (t : Ties) (x : Checked) (written : IsWritten (opening x)) (as_tied : IsTiedBy t x.config) (es : List MachineEvent) (asked : EditsAreValid size (KeepsTies t) (start x) es) where
  abbrev pub asn : ℕ
  asn = x.topology.asn

  abbrev pub now : MachineState
  now = after size (start x) es

  wants : WantsFair (tied t asn) (IsKept t asn)
  wants y ss n k f = wants_tied t asn y ss n k.asn_is (low_tied t y k.written.config ((valid_iff y.topology y.config).0 k.written.valid) k.as_tied asn) f

  first : IsKept t asn (opening x)
  first = record { written = written; as_tied = as_tied; asn_is = refl }

  all_kept : EditsAreValid size (IsKept t asn) (start x) es
  all_kept = stay_valid size positive x (IsKept t asn) (tied t asn) wants (KeepsTies t) (edits_keep t asn) first es asked

  pub every_moment : IsKept t asn now.setup × Each (AllTied t asn) now.sessions
  every_moment = kept size positive x (IsKept t asn) (tied t asn) wants first es all_kept

  agent_tied : (c : Node) → IsTiedForwarder t (record { address = c.address; rows = agent.rows (held_by_agent now c.name) })
  agent_tied c =
      rows_tied t asn (record { address = c.address; rows = agent.rows (held_by_agent now c.name) }) (held_by_agent now c.name)
      (agent_holds (λ (m : Map). AreTied t asn m) (none_tied t asn) now.setup c.name (sessions_of c.name now.sessions) (own_held t asn now.sessions c.name every_moment.1)) refl

  pub all_forward : (f : Forwarder) → Member f (forwarders now) → IsTiedForwarder t f
  all_forward f m =
      let q = from_map (λ (n : Node). record { address = n.address; rows = agent.rows (held_by_agent now n.name) }) f now.setup.topology.nodes m in
      subst (IsTiedForwarder t) q.2 (agent_tied q.0)

pub all_is_tied : AtTiedMoments IsTiedState
all_is_tied size positive t x written as_tied es asked =
    let here = every_moment size positive t x written as_tied es asked in
    let w = after size (start x) es in
    let k = here.0 in
    record { config = k.as_tied; objects = low_tied t w.setup k.written.config ((valid_iff w.setup.topology w.setup.config).0 k.written.valid) k.as_tied x.topology.asn; told = here.1 }
