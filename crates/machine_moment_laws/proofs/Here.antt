-- The setup of a moment of a window, with the nodes of all sessions; and which nodes last through the window.
use Rattle.std.specs.Prelude.{◌≡◌, ◌==◌, ◌&&◌, ℕ, Bool, List, [], ◌∷◌, ◌++◌, ◌⊎◌, map, true, false, cond}
use Rattle.std.specs.Cmp.Lexicographic.{bytes_decides, pointwise}
use Rattle.std.specs.List.{AllByRecursion, list_all, list_any}
use Rattle.std.specs.declared.option.Option.{Option}
use Rattle.std.specs.declared.option.Option.TheVariants.{None, Some}
use Rattle.std.proofs.Common.{ap, inl, inr, refl, subst, sym, ◌∙◌}
use Rattle.std.proofs.lemmas.Bool.{and_parts, eq-eqb, eqb-true, true≢false}
use Rattle.std.proofs.lemmas.Option.{same_Some}
use Rattle.ov_types.specs.First.{same_name}
use Rattle.ov_types.specs.declared.rows.NodeId.{NodeId}
use Rattle.config_types.specs.declared.edit.Edit.{Edit}
use Rattle.config_types.specs.declared.edit.Edit.TheVariants.{Put, Delete}
use Rattle.config_types.specs.declared.edit.Object.TheVariants as Objects
use Rattle.config_types.specs.declared.edit.Object.{Object}
use Rattle.config_types.specs.declared.edit.ObjectKind.TheVariants as Kinds
use Rattle.config_types.specs.declared.edit.ObjectKind.{ObjectKind}
use Rattle.config_types.specs.declared.topology.Node.{Node}
use Rattle.config_types.specs.declared.topology.Topology.{Topology}
use Rattle.schedule_script.specs.ConfigCheck.Checked.{Checked}
use Rattle.schedule_script.specs.ConfigCheck.EditFault.{EditFault}
use Rattle.schedule_script.specs.ConfigCheck.Edits.{edit_fault}
use Rattle.schedule_script.specs.ConfigCheck.Finding.{node_named}
use Rattle.schedule_script.specs.ConfigCheck.Rules.{controller_names, node_names}
use Rattle.node_laws.specs.NodeModel.Members.{Member}
use Rattle.node_laws.proofs.NodeModel.Members.{any_in, from_any, from_filter, from_map, in_either, in_left, in_map, in_right, none_some}
use Rattle.machine_model.specs.Events.{Edits, edits, moved, next}
use Rattle.machine_model.specs.Moments.{IsLaidOut, NodePair, nodes}
use Rattle.machine_model.specs.Network.{MachineState, asked, config}
use Rattle.machine_model.specs.Session.{Message}
use Rattle.machine_model.specs.Setup.{Move, Name, Setup, checked, edited, edited_without, listed_by, moves, opening, stands}
use Rattle.machine_model.proofs.Apart.{NamesApart}
use Rattle.machine_model.proofs.Asking.{after_laid, names_of_nodes}
use Rattle.machine_model.proofs.Changing.{found_alone, found_member, renews, stood}
use Rattle.machine_model.proofs.Listed.{Stands, moved_nodes, moved_setup, resessioned, start_placed}
use Rattle.machine_model.proofs.NodesFact.{pass_nodes}
use Rattle.machine_model.proofs.Numbered.{AllFit, fits_edited}
use Rattle.machine_model.proofs.Twins.{itself}
use Rattle.machine_laws.specs.Goal.{IsLaid}
use Rattle.machine_laws.specs.Headline.{IsOfForm, IsWritten}
use Rattle.machine_laws.specs.Setups.{IsSoundSetup}
use Rattle.machine_laws.proofs.EachFact.{Comes, comes_there}
use Rattle.machine_laws.proofs.Edited.{same_asn, written_edit}
use Rattle.machine_laws.proofs.Final.{laid_out}
use Rattle.machine_laws.proofs.KindNames.{apart_names}
use Rattle.machine_laws.proofs.Placing.{is_laid}
use Rattle.machine_laws.proofs.Written.{sound_setup}
use Rattle.machine_moment_laws.specs.Common.{standing, stands_in}
use Rattle.machine_moment_laws.proofs.Parts.{from_all}

-- ---- a node that stands as another
lists_itself : (ns : List Name) → pointwise same_name ns ns ≡ true
lists_itself [] = refl
lists_itself (n ∷ ns) = ap (λ b. b && pointwise same_name ns ns) (itself n) ∙ lists_itself ns

stands_itself : (n : Node) → stands (Some n) n ≡ true
stands_itself n = ap (λ b. b && pointwise same_name n.controllers n.controllers) (eq-eqb n.address.0 n.address.0 refl) ∙ lists_itself n.controllers

stands_as : (o : Option Node) (n : Node) → stands o n ≡ true → (m : Node) × (o ≡ Some m) × (m.address ≡ n.address) × (m.controllers ≡ n.controllers)
stands_as None n e = absurd (true≢false (sym e))
stands_as (Some m) n e =
    let p = and_parts (m.address.0 == n.address.0) (pointwise same_name m.controllers n.controllers) e in
    (m, refl, (λ i. record { 0 = eqb-true m.address.0 n.address.0 p.0 i }), stood (Some m) n e)

-- ---- nodes that stand the same in all configurations
module _ (b : Checked) (ds : List Checked) (written : (c : Checked) → Member c (b ∷ ds) → IsWritten (opening c)) where
  abbrev pub cs : List Checked
  cs = b ∷ ds

  sound_of : (c : Checked) → Member c cs → IsSoundSetup (opening c)
  sound_of c m = sound_setup (opening c) (written c m)

  pub stands_there : (n : Node) → Member n (standing cs) → (c : Checked) → Member c cs → node_named c.topology n.name ≡ Some n
  stands_there n m c (inl e) =
      let f = from_filter (λ (n : Node). list_all (stands_in n) ds) n b.topology.nodes m in
      subst (λ (c : Checked). node_named c.topology n.name ≡ Some n) e (found_alone n b.topology.nodes (names_of_nodes b.topology (sound_of b (inl refl)).named.apart) f.0)
  stands_there n m c (inr i) =
      let f = from_filter (λ (n : Node). list_all (stands_in n) ds) n b.topology.nodes m in
      let s = stands_as (node_named c.topology n.name) n (from_all (stands_in n) ds c f.1 i) in
      let named = (found_member n.name c.topology.nodes s.0 s.1).1 in
      s.1 ∙ (λ k. Some (record { name = named k; address = s.2 k; controllers = s.3 k }))

  pub stands_among : (n : Node) → Member n (standing cs) → (c : Checked) → Member c cs → Member n c.topology.nodes
  stands_among n m c i = (found_member n.name c.topology.nodes n (stands_there n m c i)).0

  -- ---- what lasts
  abbrev pub lasting : List Name
  lasting = config ∷ (controller_names b.topology ++ map (λ (n : Node). n.name) (standing cs))

  abbrev pub lasts : Name → Bool
  lasts name = list_any (same_name name) lasting

  among_lasts : (name : Name) → Member name lasting → lasts name ≡ true
  among_lasts name m = any_in (same_name name) name lasting m (itself name)

  pub config_lasts : lasts config ≡ true
  config_lasts = among_lasts config (inl refl)

  pub control_lasts : (name : Name) → Member name (controller_names b.topology) → lasts name ≡ true
  control_lasts name m = among_lasts name (inr (in_left name (controller_names b.topology) (map (λ (n : Node). n.name) (standing cs)) m))

  pub standing_lasts : (n : Node) → Member n (standing cs) → lasts n.name ≡ true
  standing_lasts n m = among_lasts n.name (inr (in_right n.name (controller_names b.topology) (map (λ (n : Node). n.name) (standing cs)) (in_map (λ (n : Node). n.name) n (standing cs) m)))

  abbrev IsOfStanding : Name → Type 0
  IsOfStanding name = (n : Node) × Member n (standing cs) × (n.name ≡ name)

  from_lasts : (name : Name) → lasts name ≡ true → (name ≡ config) ⊎ (Member name (controller_names b.topology) ⊎ IsOfStanding name)
  from_lasts name e =
      let q = from_any (same_name name) lasting e in
      let is : q.0 ≡ name = sym ((bytes_decides name q.0).0 q.2) in
      by q.0 is q.1
    where
      by : (k : Name) → k ≡ name → Member k lasting → (name ≡ config) ⊎ (Member name (controller_names b.topology) ⊎ IsOfStanding name)
      by k is (inl e) = inl (sym is ∙ sym e)
      by k is (inr m) =
          elim (in_either k (controller_names b.topology) (map (λ (n : Node). n.name) (standing cs)) m) as (λ _. (name ≡ config) ⊎ (Member name (controller_names b.topology) ⊎ IsOfStanding name)) [
            | inl l ↦ inr (inl (subst (λ (k : Name). Member k (controller_names b.topology)) is l))
            | inr r ↦ let q = from_map (λ (n : Node). n.name) k (standing cs) r in inr (inr (q.0, q.1, q.2 ∙ is))
          ]

  -- ---- the setup of a moment
  pub record Here (x : Setup) (ps : List NodePair) : Type 0 where
    pub is_written : IsWritten x
    pub among : Member (checked x) cs
    pub fit : AllFit x
    pub controllers : x.topology.controllers ≡ b.topology.controllers
    pub asn : x.topology.asn ≡ b.topology.asn
    pub are_asked : ps ≡ map nodes (asked x.topology)

  pub here_sound : (x : Setup) (ps : List NodePair) → Here x ps → IsSoundSetup x
  here_sound x ps h = sound_setup x h.is_written

  here_laid_out : (x : Setup) (ps : List NodePair) → Here x ps → IsLaidOut x.topology
  here_laid_out x ps h = laid_out x (here_sound x ps h)

  pub here_laid : (x : Setup) (ps : List NodePair) → Here x ps → IsLaid x ps
  here_laid x ps h = subst (IsLaid x) (sym h.are_asked) (is_laid x (here_sound x ps h) h.fit.fit)

  pub here_stands : (x : Setup) (ps : List NodePair) → Here x ps → AllByRecursion (Stands x.topology) ps
  here_stands x ps h = subst (AllByRecursion (Stands x.topology)) (sym h.are_asked) (start_placed (checked x) (here_sound x ps h).named.apart).stand

  pub names : (x : Setup) (ps : List NodePair) → Here x ps → NamesApart x.topology
  names x ps h = apart_names x.topology (here_sound x ps h).named.apart

  controls : (x : Setup) (ps : List NodePair) → Here x ps → controller_names x.topology ≡ controller_names b.topology
  controls x ps h = ap (λ (cs : List NodeId). map (λ (c : NodeId). c.name) cs) h.controllers

  pub site_lasts : (x : Setup) (ps : List NodePair) → Here x ps → (name : Name) → Member name (controller_names x.topology) → lasts name ≡ true
  site_lasts x ps h name m = control_lasts name (subst (Member name) (controls x ps h) m)

  -- ---- an accepted edit
  any_size : Name → Message → ℕ
  any_size n m = 1

  abbrev pub IsAsked : Setup → Type 0
  IsAsked y = Member (checked y) cs × IsOfForm y

  same_controllers : (x : Setup) (d : Edit) (y : Setup) → edited x d ≡ Some y → y.topology.controllers ≡ x.topology.controllers
  same_controllers x d y e = by_fault (edit_fault (checked x) d) refl e
    where
      by_fault : (o : Option EditFault) → edit_fault (checked x) d ≡ o → edited_without o x d ≡ Some y → y.topology.controllers ≡ x.topology.controllers
      by_fault None is h = ap (λ (z : Setup). z.topology.controllers) (sym (same_Some _ y h)) ∙ (renews (checked x) d is).controllers
      by_fault (Some f) is h = absurd (none_some y h)

  setup_after : (w : MachineState) (d : Edit) (y : Setup) → edited w.setup d ≡ Some y → (next any_size w (Edits d)).setup ≡ y
  unfolding next
  setup_after w d y is =
      ap (λ (o : Option Setup). (edits (moves d w.setup.topology) o w).setup) is
      ∙ moved_setup (moves d w.setup.topology) (record { setup = y; sessions = w.sessions })

  nodes_after : (w : MachineState) (d : Edit) (y : Setup) → edited w.setup d ≡ Some y → map nodes (next any_size w (Edits d)).sessions ≡ map nodes (resessioned (moves d w.setup.topology) y.topology.controllers w.sessions)
  unfolding next
  nodes_after w d y is =
      let v : MachineState = record { setup = y; sessions = w.sessions } in
      ap (λ (o : Option Setup). map nodes (edits (moves d w.setup.topology) o w).sessions) is
      ∙ pass_nodes config (moved (moves d w.setup.topology) v) ∙ moved_nodes (moves d w.setup.topology) v

  pub here_edited : (w : MachineState) (d : Edit) (y : Setup) → Here w.setup (map nodes w.sessions) → edited w.setup d ≡ Some y → IsAsked y
      → Here y (map nodes (resessioned (moves d w.setup.topology) y.topology.controllers w.sessions))
  here_edited w d y h is ok =
      let laid = here_laid_out w.setup (map nodes w.sessions) h in
      let new : IsWritten y = written_edit w.setup d y is ok.1 in
      let q = after_laid any_size w (Edits d ∷ []) ((λ z e. laid_out z (sound_setup z (written_edit w.setup d z e (subst IsOfForm (same_Some y z (sym is ∙ e)) ok.1)))), tt) (laid, h.are_asked) in
      record {
        is_written = new;
        among = ok.0;
        fit = fits_edited w.setup d y is laid h.fit;
        controllers = same_controllers w.setup d y is ∙ h.controllers;
        asn = same_asn w.setup d y is ∙ h.asn;
        are_asked = sym (nodes_after w d y is) ∙ q.1 ∙ ap (λ (z : Setup). map nodes (asked z.topology)) (setup_after w d y is);
      }

  -- a node that an edit moves is none that stands
  put_off : (w : MachineState) (y : Setup) → Here w.setup (map nodes w.sessions) → Member (checked y) cs → (n : Node) → stands (node_named w.setup.topology n.name) n ≡ false → node_named y.topology n.name ≡ Some n → (s : Node) → Member s (standing cs) → s.name ≡ n.name → ⊥
  put_off w y h m n off there s stays same =
      let before : node_named w.setup.topology n.name ≡ Some s = subst (λ (k : Name). node_named w.setup.topology k ≡ Some s) same (stands_there s stays (checked w.setup) h.among) in
      let later : node_named y.topology n.name ≡ Some s = subst (λ (k : Name). node_named y.topology k ≡ Some s) same (stands_there s stays (checked y) m) in
      let one : n ≡ s = same_Some n s (sym there ∙ later) in
      true≢false (sym (ap (λ (o : Option Node). stands o n) before ∙ subst (λ (k : Node). stands (Some k) n ≡ true) one (stands_itself n)) ∙ off)

  moving : (o : Object) (t : Topology) (m : Move) (n : Node) → moves (Put o) t ≡ Some m → m.now ≡ Some n → (stands (node_named t n.name) n ≡ false) × (m.name ≡ n.name)
  moving (Objects.Node k) t m n e now = by (stands (node_named t k.name) k) refl e
    where
      move : Move
      move = record { name = k.name; left = listed_by (node_named t k.name); now = Some k }

      by : (b : Bool) → stands (node_named t k.name) k ≡ b → cond b None (Some move) ≡ Some m → (stands (node_named t n.name) n ≡ false) × (m.name ≡ n.name)
      by true is e = absurd (none_some m e)
      by false is e =
          let f : move ≡ m = same_Some move m e in
          let g : k ≡ n = same_Some k n (ap (λ (v : Move). v.now) f ∙ now) in
          (subst (λ (j : Node). stands (node_named t j.name) j ≡ false) g is, ap (λ (v : Move). v.name) (sym f) ∙ ap (λ (j : Node). j.name) g)
  moving (Objects.Network k) t m n e now = absurd (none_some m e)
  moving (Objects.Port k) t m n e now = absurd (none_some m e)
  moving (Objects.Policy k) t m n e now = absurd (none_some m e)
  moving (Objects.Service k) t m n e now = absurd (none_some m e)
  moving (Objects.Chain k) t m n e now = absurd (none_some m e)

  none_now : (kind : ObjectKind) (name : Name) (t : Topology) (m : Move) (n : Node) → moves (Delete kind name) t ≡ Some m → m.now ≡ Some n → ⊥
  none_now Kinds.Node name t m n e now = none_some n (ap (λ (v : Move). v.now) (same_Some _ m e) ∙ now)
  none_now Kinds.Network name t m n e now = none_some m e
  none_now Kinds.Port name t m n e now = none_some m e
  none_now Kinds.Policy name t m n e now = none_some m e
  none_now Kinds.Service name t m n e now = none_some m e
  none_now Kinds.Chain name t m n e now = none_some m e

  off_of : (d : Edit) (t : Topology) (m : Move) (n : Node) → moves d t ≡ Some m → m.now ≡ Some n → stands (node_named t n.name) n ≡ false
  off_of (Put o) t m n e now = (moving o t m n e now).0
  off_of (Delete kind name) t m n e now = absurd (none_now kind name t m n e now)

  pub moves_off : (w : MachineState) (d : Edit) (y : Setup) → Here w.setup (map nodes w.sessions) → edited w.setup d ≡ Some y → IsAsked y
      → (m : Move) → moves d w.setup.topology ≡ Some m → (n : Node) → m.now ≡ Some n → lasts n.name ≡ false
  moves_off w d y h is ok m e n now =
      let after_it = here_edited w d y h is ok in
      let ps = map nodes (resessioned (moves d w.setup.topology) y.topology.controllers w.sessions) in
      let member = comes_there w.setup d y is in
      let there : Member n y.topology.nodes = subst (λ (o : Option Move). Comes o y) e member n now in
      let name_there : Member n.name (node_names y.topology) = in_map (λ (n : Node). n.name) n y.topology.nodes there in
      let found : node_named y.topology n.name ≡ Some n = found_alone n y.topology.nodes (names_of_nodes y.topology (here_sound y ps after_it).named.apart) there in
      let apart = names y ps after_it in
      elim (lasts n.name) as (λ c. lasts n.name ≡ c → c ≡ false) [
        | false ↦ λ _. refl
        | true ↦ λ l. absurd (elim (from_lasts n.name l) as (λ _. ⊥) [
          | inl a ↦ apart.no_computer_config n.name name_there a
          | inr r ↦ elim r as (λ _. ⊥) [
            | inl a ↦ apart.kinds_apart n.name n.name (subst (Member n.name) (sym (controls y ps after_it)) a) name_there refl
            | inr s ↦ put_off w y h ok.0 n (off_of d w.setup.topology m n e now) found s.0 s.1 s.2
          ]
        ])
      ] refl
