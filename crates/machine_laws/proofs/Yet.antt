-- An edit moves no packet before something is delivered.
use Rattle.std.specs.Prelude.{List, cond, false, is_some, length, map, true, ℕ, [], ◌∷◌, ◌≡◌}
use Rattle.std.specs.FinMap.{empty, entries, from_entries, len-empty, len-entries}
use Rattle.std.specs.List.{AllByRecursion, cons_option, filter, filter_map, flat_map}
use Rattle.std.specs.Cmp.Lexicographic.{bytes_decides}
use Rattle.std.specs.declared.option.Option.TheVariants.{None, Some}
use Rattle.std.specs.declared.option.Option.{Option}
use Rattle.std.proofs.Common.{ap, inl, inr, refl, subst, sym, ◌∙◌}
use Rattle.std.proofs.lemmas.Bool.{true≢false}
use Rattle.ov_types.specs.First.{same_name}
use Rattle.ov_types.specs.Keys.{row_key_cmp}
use Rattle.ov_types.specs.Prefix.{Block}
use Rattle.ov_types.specs.declared.numbers.InstanceId.{InstanceId}
use Rattle.ov_types.specs.declared.objects.LowKey.{LowKey}
use Rattle.ov_types.specs.declared.objects.LowValue.{LowValue}
use Rattle.ov_types.specs.declared.rows.Entry.{Entry as RouteEntry}
use Rattle.ov_types.specs.declared.rows.NodeId.{NodeId}
use Rattle.route_targets.specs.Forwarding.{Forwarder}
use Rattle.config_types.specs.declared.edit.Edit.{Edit}
use Rattle.config_types.specs.declared.topology.Node.{Node}
use Rattle.config_types.specs.declared.topology.Topology.{Topology}
use Rattle.schedule_script.specs.ConfigCheck.Edits.{edit_fault, edited as checked_edited}
use Rattle.schedule_script.specs.ConfigCheck.Finding.{node_named}
use Rattle.schedule_script.specs.ConfigCheck.Rules.{controller_names}
use Rattle.schedule_script.specs.ConfigCheck.EditFault.{EditFault}
use Rattle.schedule_script.proofs.ConfigCheck.Validity.{valid_iff}
use Rattle.node_laws.specs.NodeModel.Agent as agent
use Rattle.node_laws.specs.NodeModel.Agent.{Heard}
use Rattle.node_laws.specs.NodeModel.Maps.{Map, difference, objects}
use Rattle.node_laws.specs.NodeModel.Members.{Member}
use Rattle.node_laws.specs.NodeModel.Step.{Idle}
use Rattle.node_laws.proofs.NodeModel.Members.{from_filter, in_map, none_some}
use Rattle.machine_model.specs.Deeds.{IsNewFor}
use Rattle.machine_model.specs.Events.{Edits, after, forwarders, moved, next, passes}
use Rattle.machine_model.specs.Events.{edits as applied}
use Rattle.machine_model.specs.Events.{agent_rows as held_by_agent}
use Rattle.machine_model.specs.Moments.{Each, EditIsValid, nodes}
use Rattle.machine_model.specs.Network.{MachineState, View, agent_holdings, between, brought, config, heard_from, is_at, is_of, replaced, seen_by, sessions_of, start, view, views_of, wanted}
use Rattle.machine_model.specs.Session.{Agent, Carries, Controller, Message, Session, is_up_phase, may_send, passed, told, turned}
use Rattle.machine_model.specs.Setup.{Move, Name, Setup, checked, edited, edited_without, listed_by, lists, moves, opening, remade, renumbered}
use Rattle.machine_model.specs.Steps.{at_node, pass}
use Rattle.machine_model.proofs.Apart.{NamesApart}
use Rattle.machine_model.proofs.Changing.{MoverIs, Renews, found_member, renews}
use Rattle.machine_model.proofs.Distinct.{same_false}
use Rattle.machine_model.proofs.Listed.{Placed, Stands, after_placed, each_member, edits_placed, is_agents, moved_setup, of_nodes, start_placed}
use Rattle.machine_model.proofs.Moving.{begins_anew}
use Rattle.machine_model.proofs.NodesFact.{Holds}
use Rattle.machine_model.proofs.ToldEdits.{each_as, of_parts, own_same, unseen}
use Rattle.machine_model.proofs.ToldFact.{AllAlike, Touches, alike_refl, others_of_node, told_from}
use Rattle.machine_laws.proofs.KindNames.{apart_names}
use Rattle.machine_laws.specs.Setups.{IsNamed}
use Rattle.machine_laws.specs.Headline.{AfterAnySchedule, IsOfForm, IsWritten}
use Rattle.machine_laws.proofs.Names.{is_named}
use Rattle.machine_laws.proofs.Written.{written_now}
use Rattle.machine_laws.specs.Untied.{MovesNothingYet, forwards_then, without_rows}
use Rattle.machine_laws.proofs.Edited.{written_edit}
use Rattle.machine_laws.proofs.Still.{topology_stays}

same_views : (ss ts : List Session) → AllAlike ss ts → map view ts ≡ map view ss
same_views [] [] a = refl
same_views (s ∷ ss) (t ∷ ts) a = λ i. a.0.view i ∷ same_views ss ts a.1 i
same_views [] (t ∷ ts) a = absurd a
same_views (s ∷ ss) [] a = absurd a

touches : (m : Map) (s : Session) → Touches s (passed m s)
unfolding passed
touches m s =
    elim (may_send s) as (λ b. Touches s (cond b (told (map Carries (difference s.near.sent m)) (record s { near = record s.near { sent = m } })) s)) [
      | true ↦ told_from (map Carries (difference s.near.sent m)) s (record s { near = record s.near { sent = m } }) (record { view = refl; sent = refl; down = λ e. e })
      | false ↦ alike_refl (turned s)
    ]

-- what another node goes by stays
views_stay : (by n : Name) (w : MachineState) → same_name by n ≡ false → views_of n (pass by w).sessions ≡ views_of n w.sessions
views_stay by n w apart =
    let acts = λ (s : Session). passed (wanted w.setup (views_of by w.sessions) (view s)) s in
    same_views (sessions_of n w.sessions) (sessions_of n (map (at_node by acts) w.sessions))
    (others_of_node by n apart acts (λ s. touches (wanted w.setup (views_of by w.sessions) (view s)) s) w.sessions)

all_views_stay : (by : List Name) (n : Name) (w : MachineState) → ((a : Name) → Member a by → same_name a n ≡ false) → views_of n (passes by w).sessions ≡ views_of n w.sessions
all_views_stay [] n w h = refl
all_views_stay (a ∷ by) n w h = all_views_stay by n (pass a w) (λ b m. h b (inr m)) ∙ views_stay a n w (h a (inl refl))

named_of : (x : Setup) → IsWritten x → IsNamed x.topology
named_of x written = is_named x.topology x.config written.topology ((valid_iff x.topology x.config).0 written.valid)

names_of : (x : Setup) → IsWritten x → NamesApart x.topology
names_of x written = apart_names x.topology (named_of x written).apart

abbrev in_state : MachineState → Node → Forwarder
in_state v n = record { address = n.address; rows = agent.rows (held_by_agent v n.name) }

-- ---- an edit by which no compute node moves
module _ (w : MachineState) (written : IsWritten w.setup) (y : Setup) (same : y.topology ≡ w.setup.topology) where
  abbrev made : MachineState
  made = record { setup = y; sessions = w.sessions }

  not_config : (n : Node) → Member n w.setup.topology.nodes → same_name config n.name ≡ false
  not_config n m = same_false config n.name (λ e. (names_of w.setup written).no_computer_config n.name (in_map (λ (n : Node). n.name) n w.setup.topology.nodes m) (sym e))

  holds_alike : (n : Node) → Member n w.setup.topology.nodes → held_by_agent (pass config made) n.name ≡ held_by_agent w n.name
  holds_alike n m = λ k. agent_holdings (record { topology = same k; config = y.config; numbers = y.numbers }) n.name (views_stay config n.name made (not_config n m) k)

  forward_alike : (ns : List Node) → ((n : Node) → Member n ns → Member n w.setup.topology.nodes) → map (in_state (pass config made)) ns ≡ map (in_state w) ns
  forward_alike [] all = refl
  forward_alike (n ∷ ns) all = λ k. record { address = n.address; rows = agent.rows (holds_alike n (all n (inl refl)) k) } ∷ forward_alike ns (λ m i. all m (inr i)) k

  forwarders_stay : forwarders (pass config made) ≡ forwarders w
  forwarders_stay =
      ap (λ (t : Topology). map (in_state (pass config made)) t.nodes) same
      ∙ forward_alike w.setup.topology.nodes (λ n m. m)

-- ---- an agent whose sessions are not up forwards by nothing
abbrev IsQuiet : Session → Type 0
IsQuiet s = s.near.phase ≡ Idle

quiet_heard : (own : List Session) → Each IsQuiet own → (a : Name) → (heard_from (map view own) a).is_up ≡ false
quiet_heard [] q a = refl
quiet_heard (s ∷ own) q a =
    elim (same_name s.far.name a) as (λ b. (cond b (record { is_up = is_up_phase s.near.phase; map = s.near.held }) (heard_from (map view own) a)).is_up ≡ false) [ true ↦ ap is_up_phase q.0 | false ↦ quiet_heard own q.1 a ]

abbrev NotUp : Heard → Type 0
NotUp h = h.is_up ≡ false

all_quiet : (own : List Session) → Each IsQuiet own → (names : List Name) → AllByRecursion NotUp (map (heard_from (map view own)) names)
all_quiet own q [] = tt
all_quiet own q (a ∷ names) = (quiet_heard own q a, all_quiet own q names)

no_slice : (hs : agent.Holdings) → AllByRecursion NotUp hs → agent.slice_in_use hs ≡ []
no_slice [] q = refl
no_slice (h ∷ hs) q = ap (λ b. cond b (objects h.map) (agent.slice_in_use hs)) q.0 ∙ no_slice hs q.1

none_up : (hs : agent.Holdings) → AllByRecursion NotUp hs → filter (λ (h : Heard). h.is_up) hs ≡ []
none_up [] q = refl
none_up (h ∷ hs) q = ap (λ b. cond b (h ∷ filter (λ (h : Heard). h.is_up) hs) (filter (λ (h : Heard). h.is_up) hs)) q.0 ∙ none_up hs q.1

no_items : {A : Type 0} (xs : List A) → length xs ≡ 0 → xs ≡ []
no_items [] e = refl
no_items (x ∷ xs) e = cc

no_routes : (hs : agent.Holdings) → AllByRecursion NotUp hs → agent.routes hs ≡ []
no_routes hs q =
    ap (λ (us : agent.Holdings). filter (λ (r : (InstanceId × Block) × RouteEntry). agent.is_needed hs r.0.0) (entries (from_entries {R = row_key_cmp} (flat_map (λ (s : Heard). filter_map (λ e. agent.row_entry e.0 e.1) (entries s.map)) us)))) (none_up hs q)
    ∙ ap (λ (rs : List ((InstanceId × Block) × RouteEntry)). filter (λ (r : (InstanceId × Block) × RouteEntry). agent.is_needed hs r.0.0) rs) (no_items _ (sym (len-entries (empty {X = RouteEntry} {R = row_key_cmp})) ∙ len-empty row_key_cmp RouteEntry))

no_rows : (hs : agent.Holdings) → AllByRecursion NotUp hs → agent.rows hs ≡ without_rows
no_rows hs q = λ i. record {
  labels = filter_map (λ (e : LowKey × LowValue). agent.attached e.0 e.1) (no_slice hs q i);
  acls = filter_map (λ (e : LowKey × LowValue). agent.acl_entry e.0 e.1) (no_slice hs q i);
  routes = no_routes hs q i;
}

-- ---- an edit by which a compute node moves
module _ (w : MachineState) (written : IsWritten w.setup) (placed : Holds Placed w) (d : Edit) (none : edit_fault (checked w.setup) d ≡ None) (m : Move) (is : moves d w.setup.topology ≡ Some m) where
  abbrev y : Setup
  y = remade (checked_edited d (checked w.setup)) (renumbered (Some m) w.setup.numbers)

  abbrev new : List Session
  new = brought y.topology.controllers m.now

  abbrev begun : MachineState
  begun = record { setup = y; sessions = replaced m.name new w.sessions }

  abbrev reached : MachineState
  reached = pass config (passes m.left begun)

  module _ (r : Renews w.setup.topology y.topology (Some m)) (named : NamesApart y.topology) (stands : Each (λ s. Stands reached.setup.topology (nodes s)) reached.sessions) (anew : Each (IsNewFor m.name) reached.sessions) (setup : reached.setup ≡ y) where
    site_before : (a : Name) → Member a (controller_names w.setup.topology) → Member a (controller_names y.topology)
    site_before a i = subst (λ (cs : List NodeId). Member a (map (λ (c : NodeId). c.name) cs)) (sym r.controllers) i

    listed_is : (o : Option Node) → node_named w.setup.topology m.name ≡ o → (a : Name) → Member a (listed_by o) → Member a (controller_names w.setup.topology)
    listed_is None e a i = absurd i
    listed_is (Some n) e a i = (named_of w.setup written).listed n a (found_member m.name w.setup.topology.nodes n e).0 i

    left_sites : (a : Name) → Member a m.left → Member a (controller_names y.topology)
    left_sites a i = site_before a (listed_is (node_named w.setup.topology m.name) refl a (subst (Member a) r.mover.0 i))

    module _ (k : Node) (among : Member k y.topology.nodes) where
      here : Member k.name (map (λ (n : Node). n.name) y.topology.nodes)
      here = in_map (λ (n : Node). n.name) k y.topology.nodes among

      no_site : Member k.name (controller_names y.topology) → ⊥
      no_site i = named.kinds_apart k.name k.name i here refl

      no_config : k.name ≡ config → ⊥
      no_config e = named.no_computer_config k.name here e

      -- it stays
      module _ (other : m.name ≡ k.name → ⊥) where
        none_seen : (ss : List Session) → Each (λ s. seen_by k.name s ≡ None) ss → sessions_of k.name ss ≡ []
        none_seen [] e = refl
        none_seen (s ∷ ss) e = ap (λ (o : Option Session). cons_option o (sessions_of k.name ss)) e.0 ∙ none_seen ss e.1

        new_unseen : (o : Option Node) → MoverIs m.name o w.setup.topology y.topology → Each (λ s. seen_by k.name s ≡ None) (brought y.topology.controllers o)
        new_unseen None h = tt
        new_unseen (Some n) h =
            each_member (λ s. seen_by k.name s ≡ None) (λ (c : NodeId). between c.name Controller n.name Agent) (filter (lists n) y.topology.controllers) (λ c i.
            let f = from_filter (lists n) c y.topology.controllers i in
            unseen k.name (between c.name Controller n.name Agent)
            (λ e. no_site (subst (λ (a : Name). Member a (controller_names y.topology)) e (in_map (λ (c : NodeId). c.name) c y.topology.controllers f.0)))
            (λ e. other (sym h.0 ∙ e)))

        old_unseen : (s : Session) → Stands w.setup.topology (nodes s) → is_of m.name s ≡ true → seen_by k.name s ≡ None
        old_unseen s q own =
            unseen k.name s
            (λ e. elim q.near as (λ _. ⊥) [
              | inl role ↦ no_config (sym e ∙ (bytes_decides s.near.name config).0 (q.fits role))
              | inr c ↦ no_site (subst (λ (a : Name). Member a (controller_names y.topology)) e (site_before s.near.name c.1))
            ])
            (λ e. other (sym (of_parts m.name s own).0 ∙ e))

        own_stays : sessions_of k.name (replaced m.name new w.sessions) ≡ sessions_of k.name w.sessions
        own_stays =
            own_same k.name m.name new (none_seen new (new_unseen m.now r.mover.1)) w.sessions
            (each_as (λ s. Stands w.setup.topology (nodes s)) (λ s. is_of m.name s ≡ true → seen_by k.name s ≡ None) old_unseen w.sessions (of_nodes (Stands w.setup.topology) w.sessions placed.stand))

        views_same : views_of k.name reached.sessions ≡ views_of k.name w.sessions
        views_same =
            views_stay config k.name (passes m.left begun) (same_false config k.name (λ e. no_config (sym e)))
            ∙ all_views_stay m.left k.name begun (λ a i. same_false a k.name (λ e. no_site (subst (λ (a : Name). Member a (controller_names y.topology)) e (left_sites a i))))
            ∙ ap (map view) own_stays

        stays : held_by_agent reached k.name ≡ held_by_agent w k.name
        stays =
            ap (λ (x : Setup). map (heard_from (views_of k.name reached.sessions)) (listed_by (node_named x.topology k.name))) setup
            ∙ ap (λ (vs : List View). map (heard_from vs) (listed_by (node_named y.topology k.name))) views_same
            ∙ ap (map (heard_from (views_of k.name w.sessions))) (r.others k.name other)

      -- it moves
      module _ (mover : m.name ≡ k.name) where
        quiet_far : (s : Session) → Stands y.topology (nodes s) → IsNewFor m.name s → is_at k.name s.far ≡ true → IsQuiet (turned s)
        quiet_far s q begins at =
            let named_so : s.far.name ≡ k.name = (bytes_decides s.far.name k.name).0 at in
            elim q.far as (λ _. IsQuiet (turned s)) [
              | inl c ↦ absurd (no_site (subst (λ (a : Name). Member a (controller_names y.topology)) named_so c.1))
              | inr a ↦ (begins (is_agents m.name s a.0 (mover ∙ sym named_so))).far.phase
            ]

        no_near : (s : Session) → Stands y.topology (nodes s) → is_at k.name s.near ≡ true → ⊥
        no_near s q at =
            let named_so : s.near.name ≡ k.name = (bytes_decides s.near.name k.name).0 at in
            elim q.near as (λ _. ⊥) [
              | inl role ↦ no_config (sym named_so ∙ (bytes_decides s.near.name config).0 (q.fits role))
              | inr c ↦ no_site (subst (λ (a : Name). Member a (controller_names y.topology)) named_so c.1)
            ]

        own_quiet : (ss : List Session) → Each (λ s. Stands y.topology (nodes s)) ss → Each (IsNewFor m.name) ss → Each IsQuiet (sessions_of k.name ss)
        own_quiet [] q n = tt
        own_quiet (s ∷ ss) q n =
            elim (is_at k.name s.near) as (λ b. is_at k.name s.near ≡ b → Each IsQuiet (cons_option (cond b (Some s) (cond (is_at k.name s.far) (Some (turned s)) None)) (sessions_of k.name ss))) [
              | true ↦ λ at. absurd (no_near s q.0 at)
              | false ↦ λ _. elim (is_at k.name s.far) as (λ b. is_at k.name s.far ≡ b → Each IsQuiet (cons_option (cond b (Some (turned s)) None) (sessions_of k.name ss))) [
                | true ↦ λ at. (quiet_far s q.0 n.0 at, own_quiet ss q.1 n.1)
                | false ↦ λ _. own_quiet ss q.1 n.1
              ] refl
            ] refl

        by_nothing : agent.rows (held_by_agent reached k.name) ≡ without_rows
        by_nothing =
            let stand : Each (λ s. Stands y.topology (nodes s)) reached.sessions = subst (λ (x : Setup). Each (λ s. Stands x.topology (nodes s)) reached.sessions) setup stands in
            no_rows (held_by_agent reached k.name) (all_quiet (sessions_of k.name reached.sessions) (own_quiet reached.sessions stand anew) (listed_by (node_named reached.setup.topology k.name)))

      forwards : in_state reached k ≡ forwards_then w m.name k
      forwards =
          elim (same_name m.name k.name) as (λ b. same_name m.name k.name ≡ b → in_state reached k ≡ record { address = k.address; rows = cond b without_rows (agent.rows (held_by_agent w k.name)) }) [
            | true ↦ λ e. λ i. record { address = k.address; rows = by_nothing ((bytes_decides m.name k.name).0 e) i }
            | false ↦ λ e. λ i. record { address = k.address; rows = agent.rows (stays (λ f. true≢false (sym ((bytes_decides m.name k.name).1 f) ∙ e)) i) }
          ] refl

    all_forward : (ns : List Node) → ((n : Node) → Member n ns → Member n y.topology.nodes) → map (in_state reached) ns ≡ map (forwards_then w m.name) ns
    all_forward [] all = refl
    all_forward (n ∷ ns) all = λ i. forwards n (all n (inl refl)) i ∷ all_forward ns (λ k j. all k (inr j)) i

    moved_forward : forwarders reached ≡ map (forwards_then w m.name) reached.setup.topology.nodes
    moved_forward = all_forward reached.setup.topology.nodes (λ n i. subst (λ (x : Setup). Member n x.topology.nodes) setup i)

-- ---- edits
module _ (size : Name → Message → ℕ) (w : MachineState) (written : IsWritten w.setup) (placed : Holds Placed w) (d : Edit) where
  abbrev leads_to : Option EditFault → Option Setup
  leads_to f = edited_without f w.setup d

  nothing_moved : (f : Option EditFault) → edit_fault (checked w.setup) d ≡ f → (o : Option Move) → moves d w.setup.topology ≡ o → cond (is_some (leads_to f)) o None ≡ None → forwarders (applied o (leads_to f) w) ≡ forwarders w
  nothing_moved (Some f) none o is e = refl
  nothing_moved None none (Some m) is e = cc
  nothing_moved None none None is e =
      forwarders_stay w written (remade (checked_edited d (checked w.setup)) (renumbered (moves d w.setup.topology) w.setup.numbers))
      (topology_stays (checked w.setup) d (names_of w.setup written).computers_apart is)

  abbrev ThenForward : Name → MachineState → Type 0
  ThenForward name v = forwarders v ≡ map (forwards_then w name) v.setup.topology.nodes

  one_moved : (m : Move) → edit_fault (checked w.setup) d ≡ None → moves d w.setup.topology ≡ Some m → EditIsValid IsOfForm w (Edits d) → ThenForward m.name (next size w (Edits d))
  unfolding next
  one_moved m none is valid =
      let t = w.setup.topology in
      let x : Setup = remade (checked_edited d (checked w.setup)) (renumbered (moves d t) w.setup.numbers) in
      let z : Setup = remade (checked_edited d (checked w.setup)) (renumbered (Some m) w.setup.numbers) in
      let leads : edited w.setup d ≡ Some x = ap (λ (f : Option EditFault). edited_without f w.setup d) none in
      let same : x ≡ z = ap (λ (o : Option Move). remade (checked_edited d (checked w.setup)) (renumbered o w.setup.numbers)) is in
      let v : MachineState = applied (moves d t) (edited w.setup d) w in
      let u : MachineState = pass config (moved (Some m) (record { setup = z; sessions = w.sessions })) in
      let whole : v ≡ u = λ i. applied (is i) ((leads ∙ ap Some same) i) w in
      let z_written : IsWritten z = subst IsWritten same (written_edit w.setup d x leads (valid x leads)) in
      subst (ThenForward m.name) (sym whole)
      (moved_forward w written placed d none m is
      (subst (λ (o : Option Move). Renews t z.topology o) is (renews (checked w.setup) d none))
      (names_of z z_written)
      (of_nodes (Stands u.setup.topology) u.sessions (subst (Holds Placed) whole (edits_placed d w placed)).stand)
      (subst (λ (v : MachineState). Each (IsNewFor m.name) v.sessions) whole (begins_anew size w d m none is))
      (moved_setup (Some m) (record { setup = z; sessions = w.sessions })))

  accepted : (f : Option EditFault) → edit_fault (checked w.setup) d ≡ f → (m : Move) → cond (is_some (leads_to f)) (moves d w.setup.topology) None ≡ Some m → (edit_fault (checked w.setup) d ≡ None) × (moves d w.setup.topology ≡ Some m)
  accepted None none m e = (none, e)
  accepted (Some f) none m e = absurd (none_some m e)

pub moves_nothing_yet : AfterAnySchedule MovesNothingYet
unfolding next
moves_nothing_yet size positive x written es asked d =
    let w = after size (start x) es in
    let now = written_now size positive x written es asked in
    let placed = after_placed size (start x) es (start_placed x (named_of (opening x) written).apart) in (
      (λ e. nothing_moved size w now placed d (edit_fault (checked w.setup) d) refl (moves d w.setup.topology) refl e),
      (λ m e valid. let q = accepted size w now placed d (edit_fault (checked w.setup) d) refl m e in one_moved size w now placed d m q.0 q.1 valid),
    )
