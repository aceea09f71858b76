-- At every moment of a run all that is held or in flight is of configurations so far.
use Rattle.std.specs.Prelude.{List, ℕ, [], ◌∷◌, ◌≡◌}
use Rattle.std.specs.declared.option.Option.TheVariants.{Some}
use Rattle.std.specs.declared.option.Option.{Option}
use Rattle.std.proofs.Common.{ap, inl, inr, refl, subst, ◌∙◌}
use Rattle.route_targets.specs.Forwarding.{Forwarder}
use Rattle.config_types.specs.declared.config.Config.{Config}
use Rattle.config_types.specs.declared.edit.Edit.{Edit}
use Rattle.config_types.specs.declared.topology.Node.{Node}
use Rattle.schedule_script.specs.ConfigCheck.Checked.{Checked}
use Rattle.schedule_script.proofs.ConfigCheck.Validity.{valid_iff}
use Rattle.schedule_script.specs.Ties.{IsTiedBy, Ties}
use Rattle.schedule_script.specs.Tying.{ties_of}
use Rattle.node_laws.specs.NodeModel.Agent as agent
use Rattle.node_laws.specs.NodeModel.Maps.{Map}
use Rattle.node_laws.specs.NodeModel.Members.{Member}
use Rattle.node_laws.proofs.NodeModel.Members.{from_map}
use Rattle.machine_model.specs.Events.{Break, Connect, Deliver, DeliverOctets, Edits, MachineEvent, Lose, Restart, Round, Settle, Show, Trace, after, forwarders, next}
use Rattle.machine_model.specs.Events.{agent_rows as held_by_agent}
use Rattle.machine_model.specs.Events.{edits as applied}
use Rattle.machine_model.specs.Moments.{ArePositive, Each, EditIsValid, EditsAreValid}
use Rattle.machine_model.specs.Network.{MachineState, sessions_of, start}
use Rattle.machine_model.specs.Session.{Message}
use Rattle.machine_model.specs.Setup.{Name, Setup, edited, moves, opening}
use Rattle.machine_model.proofs.Listed.{moved_setup}
use Rattle.machine_laws.specs.Settling.{WantsFair}
use Rattle.machine_laws.specs.Headline.{IsWritten}
use Rattle.machine_laws.specs.Running.{EditKeeps, EditsKeep, configs, ties_after, ties_next}
use Rattle.machine_laws.specs.TiedMoments.{KeepsTies}
use Rattle.machine_laws.proofs.Agents.{IsTiedForwarder}
use Rattle.machine_laws.proofs.EachFact.{edits_valid}
use Rattle.machine_laws.proofs.Edited.{same_asn, written_edit}
use Rattle.machine_laws.proofs.Moments.{all_forward as forward_tied}
use Rattle.machine_laws.proofs.RanksSettle.{kept, stay_valid}
use Rattle.machine_laws.proofs.Runs.{all_are_tied}
use Rattle.machine_laws.proofs.Wants.{agent_holds}
use Rattle.machine_moment_laws.proofs.AgentsStood.{ForwardsBySoFar, rows_stood}
use Rattle.machine_moment_laws.proofs.LowStood.{low_stood}
use Rattle.machine_moment_laws.proofs.SoFar.{AllStood, stood}
use Rattle.machine_moment_laws.proofs.WantsStood.{SessionStood, none_stood, own_stood, wants_stood}

-- a valid configuration of the run, as the ties have it, in an autonomous system
pub record IsOfRun (t : Ties) (cs : List Config) (asn : ℕ) (y : Setup) : Type 0 where
  pub written : IsWritten y
  pub as_tied : IsTiedBy t y.config
  pub asn_is : y.topology.asn ≡ asn
  pub among : Member y.config cs

-- ---- each configuration that an edit leads to is one of the run
pub first_config : (size : Name → Message → ℕ) (w : MachineState) (es : List MachineEvent) → Member w.setup.config (configs size w es)
first_config size w [] = inl refl
first_config size w (e ∷ es) = inl refl

edited_next : (size : Name → Message → ℕ) (w : MachineState) (d : Edit) (y : Setup) → edited w.setup d ≡ Some y → (next size w (Edits d)).setup ≡ y
unfolding next
edited_next size w d y is =
    ap (λ (o : Option Setup). (applied (moves d w.setup.topology) o w).setup) is
    ∙ moved_setup (moves d w.setup.topology) (record { setup = y; sessions = w.sessions })

-- of the written form, as the ties have it, and among these
abbrev IsAsked : Ties → List Config → Setup → Type 0
IsAsked t cs z = KeepsTies t z × Member z.config cs

module _ (size : Name → Message → ℕ) (last : Ties) (cs : List Config) (all_tied : (c : Config) → Member c cs → IsTiedBy last c) where
  edit_among : (t : Ties) (w : MachineState) (e : MachineEvent) → Member (next size w e).setup.config cs → EditKeeps t w e → EditIsValid (IsAsked last cs) w e
  edit_among t w (Edits d) m k = λ y is.
      let there : Member y.config cs = subst (λ (z : Setup). Member z.config cs) (edited_next size w d y is) m in
      (((k y is).0, all_tied y.config there), there)
  edit_among t w (Deliver a b n) m k = tt
  edit_among t w (DeliverOctets a b n) m k = tt
  edit_among t w (Lose a b) m k = tt
  edit_among t w (Connect a b) m k = tt
  edit_among t w (Restart n) m k = tt
  edit_among t w Round m k = tt
  edit_among t w Settle m k = tt
  edit_among t w (Show n) m k = tt
  edit_among t w (Trace p) m k = tt
  edit_among t w (Break a b n) m k = tt

  edits_among : (t : Ties) (w : MachineState) (es : List MachineEvent) → ((c : Config) → Member c (configs size w es) → Member c cs) → EditsKeep size t w es → EditsAreValid size (IsAsked last cs) w es
  edits_among t w [] m k = tt
  edits_among t w (e ∷ es) m k = (
    edit_among t w e (m (next size w e).setup.config (inr (first_config size (next size w e) es))) k.0,
    edits_among (ties_next t w e) (next size w e) es (λ c h. m c (inr h)) k.1,
  )

edits_lead : (t : Ties) (cs : List Config) (asn : ℕ) (y : Setup) (d : Edit) (z : Setup) → IsOfRun t cs asn y → edited y d ≡ Some z → IsAsked t cs z → IsOfRun t cs asn z
edits_lead t cs asn y d z k e asked = record { written = written_edit y d z e asked.0.0; as_tied = asked.0.1; asn_is = same_asn y d z e ∙ k.asn_is; among = asked.1 }

-- ---- every moment
module _ (size : Name → Message → ℕ) (positive : ArePositive size) (x : Checked) (written : IsWritten (opening x)) (es : List MachineEvent) (keep : EditsKeep size (ties_of x) (start x) es) where
  abbrev pub ties : Ties
  ties = ties_after size (ties_of x) (start x) es

  abbrev pub past : List Config
  past = configs size (start x) es

  abbrev asn : ℕ
  asn = x.topology.asn

  abbrev pub now : MachineState
  now = after size (start x) es

  wants : WantsFair (stood ties past asn) (IsOfRun ties past asn)
  wants y ss n k f = wants_stood ties past asn y ss n k.asn_is (low_stood ties past y k.among k.written.config ((valid_iff y.topology y.config).0 k.written.valid) k.as_tied asn) f

  -- each configuration of the run is as its ties have it
  pub all_tied : (c : Config) → Member c past → IsTiedBy ties c
  all_tied = all_are_tied size positive x written es keep

  opening_tied : IsTiedBy ties x.config
  opening_tied = all_tied x.config (first_config size (start x) es)

  first : IsOfRun ties past asn (opening x)
  first = record { written = written; as_tied = opening_tied; asn_is = refl; among = first_config size (start x) es }

  asked : EditsAreValid size (IsAsked ties past) (start x) es
  asked = edits_among size ties past all_tied (ties_of x) (start x) es (λ c m. m) keep

  all_of_run : EditsAreValid size (IsOfRun ties past asn) (start x) es
  all_of_run = stay_valid size positive x (IsOfRun ties past asn) (stood ties past asn) wants (IsAsked ties past) (edits_lead ties past asn) first es asked

  every_moment : IsOfRun ties past asn now.setup × Each (SessionStood ties past asn) now.sessions
  every_moment = kept size positive x (IsOfRun ties past asn) (stood ties past asn) wants first es all_of_run

  agent_stood : (c : Node) → ForwardsBySoFar ties past (record { address = c.address; rows = agent.rows (held_by_agent now c.name) })
  agent_stood c =
      rows_stood ties past asn (record { address = c.address; rows = agent.rows (held_by_agent now c.name) }) (held_by_agent now c.name)
      (agent_holds (λ (m : Map). AllStood ties past asn m) (none_stood ties past asn) now.setup c.name (sessions_of c.name now.sessions) (own_stood ties past asn now.sessions c.name every_moment.1)) refl

  -- agents forward by what configurations so far had
  pub all_forward : (f : Forwarder) → Member f (forwarders now) → ForwardsBySoFar ties past f
  all_forward f m =
      let q = from_map (λ (n : Node). record { address = n.address; rows = agent.rows (held_by_agent now n.name) }) f now.setup.topology.nodes m in
      subst (ForwardsBySoFar ties past) q.2 (agent_stood q.0)

  -- and as the ties have it
  pub all_forward_tied : (f : Forwarder) → Member f (forwarders now) → IsTiedForwarder ties f
  all_forward_tied = forward_tied size positive ties x written opening_tied es (edits_valid size (IsAsked ties past) (KeepsTies ties) (λ y a. a.0) (start x) es asked)
