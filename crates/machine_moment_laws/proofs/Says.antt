-- What the common part makes of each session, key by key.
use Rattle.node_laws.specs.NodeModel.Agent.{needed_by}
use Rattle.node_laws.specs.NodeModel.Uses.{imports}
use Rattle.ov_types.specs.declared.rows.TableRow.{TableRow}
use Rattle.node_laws.specs.NodeModel.Reaching.{Side, network, sides, subnets}
use Rattle.machine_laws.specs.Sound.{IsCircuitAt}
use Rattle.machine_laws.proofs.TableRows.{SubnetRow}
use Rattle.machine_laws.specs.Compiled.{Attachment, attachments, holds}
use Rattle.machine_laws.specs.Settling.{FairMap}
use Rattle.machine_moment_laws.proofs.Stood.{HoldStood, stood}
use Rattle.route_targets.specs.Numbers.{distinguisher_of}
use Rattle.ov_types.specs.declared.vpn.VpnKey.{VpnKey}
use Rattle.ov_types.specs.declared.numbers.InstanceId.{InstanceId}
use Rattle.ov_types.specs.Prefix.{Block}
use Rattle.std.specs.Prelude.{◌⊎◌, ◌+◌, ◌<◌, ◌≡◌, ◌≤◌, ◌&&◌, ℕ, suc, Bool, List, [], ◌∷◌, map, is_some, true, false, cond}
use Rattle.std.specs.Cmp.Lexicographic.{bytes_decides}
use Rattle.std.specs.declared.option.Option.{Option}
use Rattle.std.specs.declared.option.Option.TheVariants.{None, Some}
use Rattle.std.proofs.Common.{ap, arith, inl, inr, refl, sym, ◌∙◌}
use Rattle.std.proofs.lemmas.Bool.{true≢false}
use Rattle.ov_types.specs.First.{same_name}
use Rattle.ov_types.specs.declared.objects.LowKey.{LowKey}
use Rattle.ov_types.specs.declared.objects.LowValue.{LowValue}
use Rattle.config_types.specs.declared.topology.Node.{Node}
use Rattle.schedule_script.specs.ConfigCheck.Checked.{Checked}
use Rattle.schedule_script.specs.ConfigCheck.Finding.{node_named}
use Rattle.schedule_script.specs.ConfigCheck.Rules.{controller_names}
use Rattle.node_laws.specs.NodeModel.Keys.{Key, Low, Publish, Row, Subscribe, Vpn}
use Rattle.node_laws.specs.NodeModel.Maps.{Map, object}
use Rattle.node_laws.specs.NodeModel.Members.{Member}
use Rattle.node_laws.specs.NodeModel.Step.{Up}
use Rattle.node_laws.specs.NodeModel.Wants.{slice}
use Rattle.machine_model.specs.Moments.{Each, NodePair, nodes}
use Rattle.machine_model.specs.Network.{config, first_held, same_role, sessions_of, view, with_role}
use Rattle.machine_model.specs.Session.{Agent, Configuration, Controller, Role, Session, turned}
use Rattle.machine_model.specs.Setup.{Name, Setup, opening}
use Rattle.machine_model.proofs.Listed.{Stands, of_nodes}
use Rattle.machine_model.proofs.Twins.{all_to_own, each_and, each_weaker}
use Rattle.machine_laws.specs.Goal.{HasRoles, IsLaid, Party, role_in, role_of}
use Rattle.machine_laws.specs.Headline.{IsWritten}
use Rattle.machine_laws.proofs.Views.{far, own_named, views}
use Rattle.machine_moment_laws.specs.Common.{common, placed, standing}
use Rattle.machine_moment_laws.proofs.Here.{Here, here_laid, here_stands, lasts}
use Rattle.machine_moment_laws.proofs.OfSome.{AreSomeTo, role_is, some_to}
use Rattle.machine_moment_laws.proofs.Stays.{HasKeys, StaysWhereLasting, is_lasting}

pub some_is : {X : Type 0} (o : Option X) → is_some o ≡ true → (x : X) × (o ≡ Some x)
some_is (Some x) e = (x, refl)
some_is None e = absurd (true≢false (sym e))

pub swap : (b c : Bool) → (b && c) ≡ true → (c && b) ≡ true
swap true c e = ap (λ (d : Bool). d && true) e
swap false c e = absurd (true≢false (sym e))

pub both_last : (b c : Bool) → b ≡ true → c ≡ true → (b && c) ≡ true
both_last true c e f = f
both_last false c e f = absurd (true≢false (sym e))

pub config_is : (x : Setup) (name : Name) → role_of x name ≡ Configuration → name ≡ config
config_is x name e = by (same_name name config) refl (node_named x.topology name) e
  where
    not_control : Controller ≡ Configuration → ⊥
    not_control e = cc

    not_agent : Agent ≡ Configuration → ⊥
    not_agent e = cc

    by : (b : Bool) → same_name name config ≡ b → (o : Option Node) → cond b Configuration (role_in o) ≡ Configuration → name ≡ config
    by true is o e = (bytes_decides name config).0 is
    by false is None e = absurd (not_control e)
    by false is (Some c) e = absurd (not_agent e)

pub feed_is : (P : Map → Type 0) (own : List Session) → Each (λ s. s.far.role ≡ Configuration → P s.near.held) own → (m : Name) → Member (m, Configuration) (map far own) → P (first_held (with_role Configuration (views own)))
feed_is P [] h m i = absurd i
feed_is P (s ∷ own) h m i =
    elim (same_role Configuration s.far.role) as (λ b. same_role Configuration s.far.role ≡ b → P (first_held (cond b (view s ∷ with_role Configuration (views own)) (with_role Configuration (views own))))) [
      | true ↦ λ e. h.0 (role_is Configuration s.far.role e)
      | false ↦ λ e. feed_is P own h.1 m (elim i as (λ _. Member (m, Configuration) (map far own)) [ inl is ↦ absurd (true≢false (sym (ap (λ (o : Party). same_role Configuration o.1) is) ∙ e)) | inr i ↦ i ])
    ] refl

module _ (b : Checked) (ds : List Checked) (written : (c : Checked) → Member c (b ∷ ds) → IsWritten (opening c)) where
  abbrev cs : List Checked
  cs = b ∷ ds

  abbrev M : Map
  M = common cs

  abbrev W : Map
  W = placed cs

  -- ---- what is said, from which rank on
  abbrev pub IsInSlice : Name → LowKey → Type 0
  IsInSlice name k = (n : Node) × Member n (standing cs) × (n.name ≡ name) × (w : LowValue) × Member (k, w) (slice W n.address)

  -- an attachment of the common part, whose node lists the control node
  pub record IsServed (from : Name) (a : Attachment) : Type 0 where
    pub attached : Member a (attachments M)
    pub node : Node
    pub stays : Member node (standing cs)
    pub at : node.address ≡ a.node
    pub lists : Member from node.controllers

  pub record PublishSaid (r : ℕ) (from : Name) (i : InstanceId) (prefix : Block) : Type 0 where
    pub rank : 3 ≤ r
    pub node : Node
    pub stays : Member node (standing cs)
    pub name : node.name ≡ from
    pub to : Attachment
    pub attached : Member to (attachments M)
    pub at : to.node ≡ node.address
    pub instance : to.instance ≡ i
    pub prefix_is : to.prefix ≡ prefix

  pub record IsNeededAt (name : Name) (i : InstanceId) : Type 0 where
    pub node : Node
    pub stays : Member node (standing cs)
    pub name_is : node.name ≡ name
    pub needed : Member i (needed_by (slice W node.address))

  pub record HostSaid (r : ℕ) (from : Name) (k : VpnKey) : Type 0 where
    pub rank : 4 ≤ r
    pub to : Attachment
    pub served : IsServed from to
    pub rd : k.rd ≡ distinguisher_of to.node to.instance
    pub prefix : k.prefix ≡ to.prefix

  pub record RowSaid (r : ℕ) (name : Name) (i : InstanceId) (prefix : Block) : Type 0 where
    pub rank : 5 ≤ r
    pub needed : IsNeededAt name i
    pub to : Attachment
    pub attached : Member to (attachments M)
    pub imported : Member to.instance (imports M i)
    pub prefix_is : to.prefix ≡ prefix

  -- a subnet of a side that holds a port, towards the circuit that is so many places from its end
  pub record LedSaid (r : ℕ) (from : Name) (k : VpnKey) : Type 0 where
    pub side : Side
    pub of_use : Member side (sides M)
    pub depth : ℕ
    pub within : depth < side.chain.services
    pub rank : 4 + suc depth ≤ r
    pub subnet : Member k.prefix (subnets side)
    pub held : holds M (network side) k.prefix ≡ true
    pub to : Attachment
    pub served : IsServed from to
    pub circuit : IsCircuitAt side (suc depth) to
    pub rd : k.rd ≡ distinguisher_of to.node to.instance

  pub record RowLed (r : ℕ) (name : Name) (i : InstanceId) (prefix : Block) : Type 0 where
    pub needed : IsNeededAt name i
    pub row : TableRow
    pub led : SubnetRow M i prefix row
    pub rank : 5 + suc led.d ≤ r

  abbrev pub SaysBy : ℕ → Role → Role → Name → Name → Key → Type 0
  SaysBy r Configuration q from to (Low k) = (1 ≤ r) × (is_some (object W k) ≡ true)
  SaysBy r Controller Agent from to (Low k) = (2 ≤ r) × IsInSlice to k
  SaysBy r Controller Agent from to (Row i prefix) = RowSaid r to i prefix ⊎ RowLed r to i prefix
  SaysBy r Agent q from to (Publish i prefix) = PublishSaid r from i prefix
  SaysBy r Agent q from to (Subscribe i) = (3 ≤ r) × IsNeededAt from i
  SaysBy r Controller Controller from to (Vpn k) = HostSaid r from k ⊎ LedSaid r from k
  SaysBy _ _ _ _ _ _ = ⊥

  abbrev pub Says : ℕ → Name × Role → Name × Role → Key → Type 0
  Says r p q k = SaysBy r p.1 q.1 p.0 q.0 k

  none_below : (n : ℕ) → suc n ≤ 0 → ⊥
  none_below n h = omega (arith, h)

  none_after : (n d : ℕ) → n + suc d ≤ 0 → ⊥
  none_after n d h = omega (arith, h)

  pub says_none : (p q : Role) (from to : Name) (k : Key) → SaysBy 0 p q from to k → ⊥
  says_none Configuration q from to (Low k) h = none_below 0 h.0
  says_none Controller Agent from to (Low k) h = none_below 1 h.0
  says_none Controller Agent from to (Row i prefix) (inl h) = none_below 4 h.rank
  says_none Controller Agent from to (Row i prefix) (inr h) = none_after 5 h.led.d h.rank
  says_none Agent q from to (Publish i prefix) h = none_below 2 h.rank
  says_none Agent q from to (Subscribe i) h = none_below 2 h.0
  says_none Controller Controller from to (Vpn k) (inl h) = none_below 3 h.rank
  says_none Controller Controller from to (Vpn k) (inr h) = none_after 4 h.depth h.rank
  says_none _ _ _ _ _ h = h

  abbrev pub lasting : Session → Bool
  lasting s = is_lasting (Says 0) (lasts b ds written) s

  abbrev pub StaysTo : ℕ → Session → Type 0
  StaysTo r s = StaysWhereLasting (Says r) (lasts b ds written) s

  -- what both ends hold, where both nodes last; and they are up from rank 2 on
  pub record HoldsAt (r : ℕ) (s : Session) : Type 0 where
    pub near_up : 2 ≤ r → s.near.phase ≡ Up
    pub far_up : 2 ≤ r → s.far.phase ≡ Up
    pub near_held : HasKeys (Says r) (s.far.name, s.far.role) (s.near.name, s.near.role) s.near.held
    pub far_held : HasKeys (Says r) (s.near.name, s.near.role) (s.far.name, s.far.role) s.far.held

  abbrev pub HoldsTo : ℕ → Session → Type 0
  HoldsTo r s = lasting s ≡ true → HoldsAt r s

  pub holds_of : (r : ℕ) (s : Session) → StaysTo r s → HoldsTo r s
  holds_of r s f l = let g = f l in record { near_up = λ _. g.near_up; far_up = λ _. g.far_up; near_held = g.near_held; far_held = g.far_held }

  -- ---- a session of a node, seen from it
  record Sided (r : ℕ) (x : Setup) (s : Session) : Type 0 where
    near_role : s.near.role ≡ role_of x s.near.name
    far_role : s.far.role ≡ role_of x s.far.name
    near_site : s.near.role ≡ Controller → Member s.near.name (controller_names x.topology)
    far_site : s.far.role ≡ Controller → Member s.far.name (controller_names x.topology)
    held : lasting s ≡ true → HasKeys (Says r) (s.far.name, s.far.role) (s.near.name, s.near.role) s.near.held
    up : lasting s ≡ true → 2 ≤ r → s.near.phase ≡ Up
    some : FairMap (some_to cs r) (s.far.name, s.far.role) (s.near.name, s.near.role) s.near.held
    told : FairMap (stood cs b.topology.asn r) (s.far.name, s.far.role) (s.near.name, s.near.role) s.near.held

  pub record Mine (r : ℕ) (x : Setup) (n : Name) (s : Session) : Type 0 where
    pub name : s.near.name ≡ n
    pub near_role : s.near.role ≡ role_of x s.near.name
    pub far_role : s.far.role ≡ role_of x s.far.name
    pub near_site : s.near.role ≡ Controller → Member s.near.name (controller_names x.topology)
    pub far_site : s.far.role ≡ Controller → Member s.far.name (controller_names x.topology)
    pub held : lasting s ≡ true → HasKeys (Says r) (s.far.name, s.far.role) (s.near.name, s.near.role) s.near.held
    pub up : lasting s ≡ true → 2 ≤ r → s.near.phase ≡ Up
    pub some : FairMap (some_to cs r) (s.far.name, s.far.role) (s.near.name, s.near.role) s.near.held
    pub told : FairMap (stood cs b.topology.asn r) (s.far.name, s.far.role) (s.near.name, s.near.role) s.near.held

  sides_of : (r : ℕ) (x : Setup) (s : Session) → HasRoles x (nodes s) → Stands x.topology (nodes s) → HoldsTo r s → AreSomeTo cs r s → HoldStood cs b.topology.asn r s → Sided r x s × Sided r x (turned s)
  sides_of r x s roles at stays some st = (
    record { near_role = roles.0; far_role = roles.1; near_site = near_at; far_site = far_at; held = λ l. (stays l).near_held; up = λ l. (stays l).near_up; some = some.0; told = st.0 },
    record {
      near_role = roles.1;
      far_role = roles.0;
      near_site = far_at;
      far_site = near_at;
      held = λ l. (stays (swap (lasts b ds written s.far.name) (lasts b ds written s.near.name) l)).far_held;
      up = λ l. (stays (swap (lasts b ds written s.far.name) (lasts b ds written s.near.name) l)).far_up;
      some = some.1;
      told = st.1;
    },
  )
    where
      near_at : s.near.role ≡ Controller → Member s.near.name (controller_names x.topology)
      near_at e = elim at.near as (λ _. Member s.near.name (controller_names x.topology)) [ inl l ↦ absurd (apart (sym l ∙ e)) | inr q ↦ q.1 ]
        where
          apart : Configuration ≡ Controller → ⊥
          apart e = cc

      far_at : s.far.role ≡ Controller → Member s.far.name (controller_names x.topology)
      far_at e = elim at.far as (λ _. Member s.far.name (controller_names x.topology)) [ inl q ↦ q.1 | inr q ↦ absurd (apart (sym q.0 ∙ e)) ]
        where
          apart : Agent ≡ Controller → ⊥
          apart e = cc

  module _ (r : ℕ) (x : Setup) (ss : List Session) (here : Here b ds written x (map nodes ss)) (stays : Each (HoldsTo r) ss) (some : Each (AreSomeTo cs r) ss) (st : Each (HoldStood cs b.topology.asn r) ss) where
    abbrev places : List NodePair
    places = map nodes ss

    pub laid : IsLaid x places
    laid = here_laid b ds written x places here

    pub mine : (n : Name) → Each (Mine r x n) (sessions_of n ss)
    mine n =
        each_weaker (λ s. (s.near.name ≡ n) × Sided r x s) (Mine r x n)
        (λ s q. record { name = q.0; near_role = q.1.near_role; far_role = q.1.far_role; near_site = q.1.near_site; far_site = q.1.far_site; held = q.1.held; up = q.1.up; some = q.1.some; told = q.1.told })
        (sessions_of n ss)
        (each_and (λ s. s.near.name ≡ n) (Sided r x) (sessions_of n ss) (own_named n ss)
        (all_to_own (Sided r x) n ss
        (each_weaker (λ s. (HasRoles x (nodes s) × Stands x.topology (nodes s)) × (HoldsTo r s × (AreSomeTo cs r s × HoldStood cs b.topology.asn r s))) (λ s. Sided r x s × Sided r x (turned s)) (λ s q. sides_of r x s q.0.0 q.0.1 q.1.0 q.1.1.0 q.1.1.1) ss
        (each_and (λ s. HasRoles x (nodes s) × Stands x.topology (nodes s)) (λ s. HoldsTo r s × (AreSomeTo cs r s × HoldStood cs b.topology.asn r s)) ss
        (each_and (λ s. HasRoles x (nodes s)) (λ s. Stands x.topology (nodes s)) ss (of_nodes (HasRoles x) ss laid.roles) (of_nodes (Stands x.topology) ss (here_stands b ds written x places here)))
        (each_and (HoldsTo r) (λ s. AreSomeTo cs r s × HoldStood cs b.topology.asn r s) ss stays (each_and (AreSomeTo cs r) (HoldStood cs b.topology.asn r) ss some st))))))
