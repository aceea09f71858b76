-- What holds at every moment of a network whose configurations are sound.
use Rattle.std.specs.List.{list_any}
use Rattle.std.specs.Prelude.{Bool, List, false, is_some, map, true, ℕ, ◌+◌, ◌||◌, ◌≡◌, ◌≤◌}
use Rattle.std.specs.declared.option.Option.TheVariants.{None, Some}
use Rattle.std.specs.declared.option.Option.{Option}
use Rattle.std.proofs.Common.{ap, arith, inl, refl, subst, sym, ◌∙◌}
use Rattle.std.proofs.lemmas.Option.{same_Some}
use Rattle.ov_types.specs.First.{same_name}
use Rattle.ov_types.specs.declared.rows.NodeId.{NodeId}
use Rattle.config_types.specs.declared.edit.Edit.{Edit}
use Rattle.config_types.specs.declared.topology.Node.{Node}
use Rattle.schedule_script.specs.ConfigCheck.Checked.{Checked}
use Rattle.schedule_script.specs.ConfigCheck.Edits.{edit_fault}
use Rattle.schedule_script.specs.ConfigCheck.Finding.{node_named}
use Rattle.schedule_script.specs.ConfigCheck.EditFault.{EditFault}
use Rattle.node_laws.specs.NodeModel.Members.{Member}
use Rattle.node_laws.specs.NodeModel.Ranks.{IsTargeted}
use Rattle.node_laws.proofs.NodeModel.Members.{any_in, from_map, none_some}
use Rattle.machine_model.specs.Events.{MachineEvent, after, edits, is_node}
use Rattle.machine_model.specs.Moments.{ArePositive, Each, EditsAreValid, IsLaidOut, LaidOut, NumbersFit, nodes}
use Rattle.machine_model.specs.Network.{MachineState, asked, config, sessions_of, start}
use Rattle.machine_model.specs.Session.{Configuration, Controller, Message, Session}
use Rattle.machine_model.specs.Setup.{Name, Setup, agents_of, checked, edited, edited_without, longest, opening}
use Rattle.machine_model.specs.Steps.{settle}
use Rattle.machine_model.proofs.Asking.{sessions_are_asked}
use Rattle.machine_model.proofs.Changing.{renews}
use Rattle.machine_model.proofs.Numbered.{numbers_fit}
use Rattle.machine_model.proofs.Turns.{laid_apart}
use Rattle.machine_laws.proofs.EachFact.{edits_valid}
use Rattle.machine_model.proofs.AtRest.{settled_is_at_rest}
use Rattle.machine_model.proofs.Twins.{NoTwins, itself}
use Rattle.machine_laws.specs.Settling.{Ranked, WantsFair}
use Rattle.machine_laws.proofs.RanksSettle.{kept, rounds_settle, settle_ends, stay_valid}
use Rattle.machine_laws.specs.Goal.{IsLaid, goal, others, rank, role_of}
use Rattle.machine_laws.specs.Moments.{AtMoments, SettleSettles, SettlesInTime, ShowsCompiled}
use Rattle.machine_laws.specs.Setups.{IsSoundSetup}
use Rattle.machine_laws.proofs.Assembly.{steps}
use Rattle.machine_laws.proofs.Fair.{AllFair, fair, fair_targeted, fair_wants}
use Rattle.machine_laws.proofs.Headline.{shows}
use Rattle.machine_laws.proofs.Placing.{agent_named, control_named, is_laid}
use Rattle.machine_laws.proofs.RankBounds.{fits as rank_fits, rank-le}
use Rattle.machine_laws.proofs.Views.{far, fars_are}

-- a sound setup in the autonomous system of the opening one
pub record Follows (asn : ℕ) (y : Setup) : Type 0 where
  pub asn_is : y.topology.asn ≡ asn
  pub sound : IsSoundSetup y

pub laid_out : (y : Setup) → IsSoundSetup y → IsLaidOut y.topology
laid_out y s = record {
  apart = s.named.apart;
  listing = λ n i.
      let l = s.named.lists n i in
      let first : Member l.0 n.controllers = subst (Member l.0) (sym l.2) (inl refl) in
      let c = from_map (λ (c : NodeId). c.name) l.0 y.topology.controllers (s.named.listed n l.0 i first) in
      (c.0, c.1, any_in (same_name c.0.name) l.0 n.controllers first (subst (λ (k : Name). same_name c.0.name k ≡ true) c.2 (itself c.0.name)));
}

same_asn : (y : Setup) (d : Edit) (z : Setup) → edited y d ≡ Some z → z.topology.asn ≡ y.topology.asn
same_asn y d z h = by_fault (edit_fault (checked y) d) refl h
  where
    by_fault : (o : Option EditFault) → edit_fault (checked y) d ≡ o → edited_without o y d ≡ Some z → z.topology.asn ≡ y.topology.asn
    by_fault None none h = ap (λ (z : Setup). z.topology.asn) (sym (same_Some _ z h)) ∙ (renews (checked y) d none).asn
    by_fault (Some f) _ h = absurd (none_some z h)

module _ (x : Checked) where
  abbrev asn : ℕ
  asn = x.topology.asn

  follows : (y : Setup) (d : Edit) (z : Setup) → Follows asn y → edited y d ≡ Some z → IsSoundSetup z → Follows asn z
  follows y d z f is v = record { asn_is = same_asn y d z is ∙ f.asn_is; sound = v }

  wants : WantsFair (fair asn) (Follows asn)
  wants y ss n f = fair_wants asn y ss n f.asn_is f.sound.sound.ordered

  module _ (size : Name → Message → ℕ) (positive : ArePositive size) (sound : IsSoundSetup (opening x)) (es : List MachineEvent) (edits : EditsAreValid size IsSoundSetup (start x) es) where
    abbrev now : MachineState
    now = after size (start x) es

    at_first : Follows asn (opening x)
    at_first = record { asn_is = refl; sound = sound }

    all_follow : EditsAreValid size (Follows asn) (start x) es
    all_follow = stay_valid size positive x (Follows asn) (fair asn) wants IsSoundSetup follows at_first es edits

    all_laid : EditsAreValid size LaidOut (start x) es
    all_laid = edits_valid size IsSoundSetup LaidOut laid_out (start x) es edits

    first_laid : IsLaidOut x.topology
    first_laid = laid_out (opening x) sound

    here : Follows asn now.setup × Each (AllFair asn) now.sessions
    here = kept size positive x (Follows asn) (fair asn) wants at_first es all_follow

    fairs : (s : Session) → AllFair asn s → IsTargeted now.setup.topology.asn s.near.held × IsTargeted now.setup.topology.asn s.far.held
    fairs s f = subst (λ n. IsTargeted n s.near.held × IsTargeted n s.far.held) (sym here.0.asn_is) (fair_targeted asn s.near.held f.near_held, fair_targeted asn s.far.held f.far_held)

    same_nodes : map nodes now.sessions ≡ map nodes (asked now.setup.topology)
    same_nodes = (sessions_are_asked size positive x first_laid es all_laid).1

    fits : (c : NodeId) → Member c now.setup.topology.controllers → NumbersFit now.setup.topology c (agents_of now.setup c.name)
    fits = numbers_fit size positive x first_laid es all_laid

    apart : NoTwins (map nodes now.sessions)
    apart = laid_apart size positive x first_laid es all_laid

    laid : IsLaid now.setup (map nodes now.sessions)
    laid = subst (IsLaid now.setup) (sym same_nodes) (is_laid now.setup here.0.sound fits)

    at_name : (name : Name) → is_node now name ≡ true → node_named now.setup.topology name ≡ None → (role_of now.setup name ≡ Controller) × ((one : Session) × Member one (sessions_of name now.sessions))
    at_name name e none =
        let c = control_named now.setup here.0.sound fits name (control_there (list_any (λ (c : NodeId). same_name c.name name) now.setup.topology.controllers) (sym (ap (λ (o : Option Node). list_any (λ (c : NodeId). same_name c.name name) now.setup.topology.controllers || is_some o) none) ∙ e)) in
        let placed : Member (config, Configuration) (map far (sessions_of name now.sessions)) = subst (Member (config, Configuration)) (sym (fars_are name now.sessions ∙ ap (others name) same_nodes)) c.1 in
        let s = from_map far (config, Configuration) (sessions_of name now.sessions) placed in
        (c.0, (s.0, s.1))
      where
        control_there : (b : Bool) → (b || false) ≡ true → b ≡ true
        control_there true e = refl
        control_there false e = e

    shows_compiled : ShowsCompiled now
    shows_compiled settled name is =
        shows now laid apart (AllFair asn) fairs here.1 (settled_is_at_rest size positive x first_laid.apart es settled) settled
        name (at_name name is) (agent_named now.setup here.0.sound fits name)

    ranked : Ranked (longest now.setup + 5) (AllFair asn) (map nodes now.sessions) now.setup
    ranked =
        let y = now.setup in
        let places = map nodes now.sessions in
        record { rank = rank y; goal = goal y places; steps = steps y places laid (AllFair asn) fairs; fits = rank_fits y places laid places laid.roles; below = λ from to k. rank-le y places laid from to k }

    rounds : SettlesInTime size now
    rounds = rounds_settle size positive x (Follows asn) (fair asn) wants at_first es all_follow (longest now.setup + 5) apart first_laid ranked

    settles : SettleSettles now
    settles =
        let s = settle_ends size positive x (Follows asn) (fair asn) wants at_first es all_follow (longest now.setup + 5) apart first_laid ranked (itself_le (longest now.setup + 5)) in
        (s.0, one_more (longest now.setup) (settle now).0 s.1)
      where
        itself_le : (n : ℕ) → n ≤ n
        itself_le n = omega arith

        one_more : (k n : ℕ) → n ≤ k + 5 + 1 → n ≤ k + 6
        one_more k n h = omega (arith, h)

pub tables_are_compiled : AtMoments (λ size w. ShowsCompiled w)
tables_are_compiled size positive x sound es edits = shows_compiled x size positive sound es edits

pub all_rounds_settle : AtMoments SettlesInTime
all_rounds_settle size positive x sound es edits = rounds x size positive sound es edits

pub settle_settles : AtMoments (λ size w. SettleSettles w)
settle_settles size positive x sound es edits = settles x size positive sound es edits
