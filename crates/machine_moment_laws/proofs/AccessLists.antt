-- Each access list that an agent has in use is that of some configuration of the window so far.
use Rattle.std.specs.List.{AllByRecursion}
use Rattle.std.specs.Prelude.{List, ◌≤◌, cond, false, true, ℕ, [], ◌∷◌, ◌≡◌}
use Rattle.std.specs.declared.option.Option.TheVariants.{Some}
use Rattle.std.proofs.Common.{inl, inr, refl, subst}
use Rattle.std.proofs.lemmas.Option.{same_Some}
use Rattle.ov_types.specs.declared.objects.LowKey.TheVariants as key
use Rattle.ov_types.specs.declared.objects.LowKey.{LowKey}
use Rattle.ov_types.specs.declared.objects.LowValue.{LowValue}
use Rattle.schedule_script.specs.ConfigCheck.Checked.{Checked}
use Rattle.node_laws.specs.NodeModel.Agent as agent
use Rattle.node_laws.specs.NodeModel.Agent.{acl_entry, slice_in_use}
use Rattle.node_laws.specs.NodeModel.Keys.{Low}
use Rattle.node_laws.specs.NodeModel.Maps.{Map, objects}
use Rattle.node_laws.specs.NodeModel.Members.{Member}
use Rattle.node_laws.specs.NodeModel.Values.{Object}
use Rattle.node_laws.proofs.NodeModel.Members.{from_filter_map, none_some}
use Rattle.node_laws.proofs.NodeModel.Objects.{object_of}
use Rattle.machine_model.specs.Events.{MachineEvent, after}
use Rattle.machine_model.specs.Events.{agent_rows as held_by_agent}
use Rattle.machine_model.specs.Moments.{ArePositive, Each, EditsAreValid}
use Rattle.machine_model.specs.Network.{MachineState, sessions_of, start}
use Rattle.machine_model.specs.Session.{Message, Session, turned}
use Rattle.machine_model.specs.Setup.{Name, checked, opening}
use Rattle.machine_model.proofs.Twins.{all_to_own, each_weaker}
use Rattle.machine_laws.specs.Headline.{IsOfForm, IsWritten}
use Rattle.machine_laws.specs.Settling.{FairMap}
use Rattle.machine_laws.proofs.EachFact.{Keeps, after_keeps}
use Rattle.machine_laws.proofs.FairFact.{fair_keeps}
use Rattle.machine_laws.proofs.Wants.{agent_holds}
use Rattle.machine_moment_laws.specs.Common.{AccessListsAreOfSome}
use Rattle.machine_moment_laws.specs.Windows.{AtMomentsOfWindows, IsBeginning, configurations}
use Rattle.machine_moment_laws.proofs.Beginning.{IsAmong, edits_among, first_apart, first_rests}
use Rattle.machine_moment_laws.proofs.OfSome.{AllOfSome, AreOfSome, AreSomeTo, ObjectOfSome, all_some, begins_of_some, none_of_some, of_some, own_of_some, wants_of_some}

module _ (cs : List Checked) where
  slice_of_some : (hs : agent.Holdings) → AllByRecursion (λ h. AllOfSome cs h.map) hs → (k : LowKey) (v : LowValue) → Member (k, v) (slice_in_use hs) → ObjectOfSome cs k v
  slice_of_some [] a k v m = absurd m
  slice_of_some (h ∷ hs) a k v m =
      elim h.is_up as (λ b. Member (k, v) (cond b (objects h.map) (slice_in_use hs)) → ObjectOfSome cs k v) [ true ↦ λ m. a.0 (Low k) (Object v) (object_of h.map k v m) | false ↦ λ m. slice_of_some hs a.1 k v m ] m

  entry_is : (k : LowKey) (v : LowValue) (o : LowKey × LowValue) → acl_entry k v ≡ Some o → ObjectOfSome cs k v → ObjectOfSome cs o.0 o.1
  entry_is (key.Acl a b) v o e h = subst (λ (o : LowKey × LowValue). ObjectOfSome cs o.0 o.1) (same_Some _ o e) h
  entry_is (key.Attach n) v o e h = absurd (none_some o e)
  entry_is (key.Instance n) v o e h = absurd (none_some o e)
  entry_is (key.ChainUse u) v o e h = absurd (none_some o e)

  lists_of_some : (hs : agent.Holdings) → AllByRecursion (λ h. AllOfSome cs h.map) hs → (k : LowKey) (v : LowValue) → Member (k, v) (agent.rows hs).acls → ObjectOfSome cs k v
  lists_of_some hs a k v m =
      let q = from_filter_map (λ (e : LowKey × LowValue). acl_entry e.0 e.1) (k, v) (slice_in_use hs) m in
      entry_is q.0.0 q.0.1 (k, v) q.2 (slice_of_some hs a q.0.0 q.0.1 q.1)

-- where each object that is held is of some configuration from a rank on
pub lists_held : (cs : List Checked) (r : ℕ) → 2 ≤ r → (w : MachineState) → Each (AreSomeTo cs r) w.sessions → AccessListsAreOfSome cs w
lists_held cs r h w e n there k v m =
    lists_of_some cs (held_by_agent w n.name)
    (agent_holds (AllOfSome cs) (none_of_some cs) w.setup n.name (sessions_of n.name w.sessions)
    (all_to_own (λ s. AllOfSome cs s.near.held) n.name w.sessions
    (each_weaker (AreSomeTo cs r) (λ s. AllOfSome cs s.near.held × AllOfSome cs (turned s).near.held)
    (λ s f. (all_some cs r h (s.far.name, s.far.role) (s.near.name, s.near.role) s.near.held f.0, all_some cs r h (s.near.name, s.near.role) (s.far.name, s.far.role) s.far.held f.1)) w.sessions e))) k v m

module _ (size : Name → Message → ℕ) (positive : ArePositive size) (x : Checked) (written : IsWritten (opening x)) (before : List MachineEvent) (asked : EditsAreValid size IsOfForm (start x) before) (begins : IsBeginning (after size (start x) before)) (es : List MachineEvent) where
  abbrev began : MachineState
  began = after size (start x) before

  abbrev now : MachineState
  now = after size began es

  abbrev cs : List Checked
  cs = configurations size began es

  abbrev MayTell : Session → Map → Type 0
  MayTell s m = FairMap (of_some cs) (s.near.name, s.near.role) (s.far.name, s.far.role) m

  keeps : Keeps size (IsAmong cs) (AreOfSome cs) MayTell
  keeps = fair_keeps (of_some cs) size (IsAmong cs) (wants_of_some cs)

  pub all_of_some : Member (checked now.setup) cs × Each (AreOfSome cs) now.sessions
  all_of_some =
      after_keeps size (IsAmong cs) (AreOfSome cs) MayTell keeps began es (edits_among size cs began es (λ c h. inr h))
      (inl refl, begins_of_some cs began (first_apart size positive x written before asked) (first_rests size positive x written before asked begins) begins.settled (inl refl))

pub access_lists_are_of_some : AtMomentsOfWindows AccessListsAreOfSome
access_lists_are_of_some size positive x written before asked begins es window form n there k v m =
    let cs' = configurations size (after size (start x) before) es in
    let w = after size (after size (start x) before) es in
    let all = all_of_some size positive x written before asked begins es in
    lists_of_some cs' (held_by_agent w n.name)
    (agent_holds (AllOfSome cs') (none_of_some cs') w.setup n.name (sessions_of n.name w.sessions) (own_of_some cs' w.sessions n.name all.1)) k v m
