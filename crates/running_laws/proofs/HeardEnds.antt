-- What messages in flight make of the end that takes them, and what opening and closing make of an end.
use Rattle.std.specs.Prelude.{◌≡◌, ◌==◌, ◌<◌, ℕ, length, take, List, [], ◌∷◌, ◌++◌, map, Bool, true, false, cond, IsTrue, Ok}
use Rattle.std.specs.Borrow.{Bor}
use Rattle.std.specs.List.{AllByRecursion, concat, slice_index_or}
use Rattle.std.specs.Option.{option_map, unwrap_or}
use Rattle.std.specs.declared.option.Option.{Option}
use Rattle.std.specs.declared.option.Option.TheVariants.{Some, None}
use Rattle.std.proofs.Common.{refl, sym, ◌∙◌, ap, subst, inl, inr, lit<, arith}
use Rattle.std.proofs.lemmas.Bool.{true≢false}
use Rattle.std.proofs.lemmas.List.{append-nil}
use Rattle.ov_link.specs.declared.step.Input.{Input}
use Rattle.ov_link.specs.declared.step.Input.TheVariants as input
use Rattle.ov_types.specs.Name.{is_name}
use Rattle.ov_types.specs.declared.rows.NodeId.{NodeId}
use Rattle.ov_types.specs.declared.vpn.VpnKey.{VpnKey}
use Rattle.ov_types.specs.declared.vpn.VpnRoute.{VpnRoute}
use Rattle.ov_sync.specs.Embed.{moved_delta}
use Rattle.ov_sync.specs.declared.Delta.{Delta}
use Rattle.ov_sync.specs.declared.Delta.TheVariants.{Put, Drop}
use Rattle.item_wire.specs.Frames.{frame_of}
use Rattle.item_wire.specs.Happenings.{SessionFields}
use Rattle.item_wire.specs.declared.event.ItemCause.{ItemCause}
use Rattle.item_wire.specs.declared.event.ItemFrom.{ItemFrom}
use Rattle.item_wire.specs.declared.event.ItemFrom.TheVariants as From
use Rattle.item_wire.specs.declared.event.ItemState.{ItemState}
use Rattle.item_wire.specs.declared.item.Item.TheVariants.{Hello as HelloItem}
use Rattle.bgp_session.specs.declared.event.Cause.{Cause as PeerCause}
use Rattle.bgp_vpn.specs.Written.{written}
use Rattle.bgp_wire.specs.Content.{KeepsAlive, Opens}
use Rattle.bgp_wire.specs.Frames.{IsProperPrefix}
use Rattle.bgp_wire.specs.Spelling as wire
use Rattle.bgp_wire.specs.declared.write.OpenOut.{OpenOut}
use Rattle.bgp_wire.proofs.Spelling.{keepalive_says, open_says}
use Rattle.config_types.specs.Form.{has_topology_form}
use Rattle.schedule_script.specs.ConfigCheck.Rules.{first_broken}
use Rattle.node_model.specs.Keys.{Vpn}
use Rattle.node_model.specs.Maps.{Change}
use Rattle.node_model.specs.Members.{Member}
use Rattle.node_model.specs.Step.{Beginning, Phase, Idle, Opened, Confirmed, Up, Post}
use Rattle.node_model.specs.Values.{Route}
use Rattle.node_model.proofs.Members.{none_some}
use Rattle.node_core.specs.Beginning as item
use Rattle.node_core.proofs.Changes.{spelling_of_what_is_told}
use Rattle.node_core.proofs.Fitting.{without_lists}
use Rattle.running_nodes.specs.NodeRoutes.Hearing.{open_octets}
use Rattle.running_nodes.specs.NodeRoutes.Told as routes
use Rattle.running_nodes.specs.ConfigNode.Beginning as configuration
use Rattle.running_nodes.specs.ControlNode.Beginning as control
use Rattle.running_nodes.specs.ControlNode.Core.{is_peer}
use Rattle.running_nodes.specs.ControlNode.NodeCause.{NodeCause}
use Rattle.running_nodes.specs.ControlNode.NodeCause.TheVariants as Cause
use Rattle.running_nodes.specs.ControlNode.ControlPlan.{ControlPlan}
use Rattle.running_nodes.specs.AgentNode.Beginning as agent
use Rattle.machine_laws.specs.MachineModel.Session.{Controller, Role, Message, Open, Keepalive, Hello, Carries, are_peers, is_idle}
use Rattle.machine_laws.specs.MachineModel.Moments.{HasNumbers, NoneGoesDown, cell}
use Rattle.machine_laws.specs.MachineModel.Network.{config}
use Rattle.machine_laws.specs.MachineModel.Setup.{Name, Setup}
use Rattle.running_nodes.specs.Controls.{Controls, plan_of}
use Rattle.running_nodes.specs.Seats.{Who, Configuring, Controlling, Forwarding, name_of, others_of, role_of, whos}
use Rattle.running_nodes.specs.Stands.{octets_of}
use Rattle.running_nodes.specs.Steps.{BeginsAt}
use Rattle.running_nodes.specs.Taking.{closed, held_after, opened, phase_after, replies_to, replies_to_all, taken, taken_all, took_all, wide_after}
use Rattle.running_nodes.specs.Telling.{CanCarryAs, CanSend, IsRecordChange, from_of}
use Rattle.running_laws.specs.Hearing.{HasNoCause, IsBetween, IsMessageOf, IsPartial, IsPhaseOf}
use Rattle.running_laws.proofs.FirstParts.{message_part, record_part, update_says}
use Rattle.running_laws.proofs.Messages.{SaysRoute, messages_taken}
use Rattle.running_laws.proofs.Named.{are_nodes}
use Rattle.running_laws.proofs.Records.{SaysItem, records_taken, session_in}
use Rattle.running_laws.proofs.Wired.{IsSound, Meets, has_other, meets, sound, within_at}

-- ---- what a cell that leads on says
pub message_of : (peering : Bool) (phase : Phase) (m : Message) (next : Phase) → is_idle phase ≡ false
    → cell peering phase m ≡ Some next → IsMessageOf peering m
message_of true Idle Hello next live e = absurd (true≢false live)
message_of true Opened Hello next live e = absurd (none_some next e)
message_of true Confirmed Hello next live e = absurd (none_some next e)
message_of true Up Hello next live e = absurd (none_some next e)
message_of false Idle Open next live e = absurd (true≢false live)
message_of false Opened Open next live e = absurd (none_some next e)
message_of false Confirmed Open next live e = absurd (none_some next e)
message_of false Up Open next live e = absurd (none_some next e)
message_of false Idle Keepalive next live e = absurd (true≢false live)
message_of false Opened Keepalive next live e = absurd (none_some next e)
message_of false Confirmed Keepalive next live e = absurd (none_some next e)
message_of false Up Keepalive next live e = absurd (none_some next e)
message_of true phase Open next live e = tt
message_of true phase Keepalive next live e = tt
message_of true phase (Carries c) next live e = tt
message_of false phase Hello next live e = tt
message_of false phase (Carries c) next live e = tt

pub phase_of_cell : (peering : Bool) (phase : Phase) (m : Message) (next : Phase) → cell peering phase m ≡ Some next
    → IsPhaseOf peering phase
phase_of_cell false Confirmed Open next e = absurd (none_some next e)
phase_of_cell false Confirmed Keepalive next e = absurd (none_some next e)
phase_of_cell false Confirmed Hello next e = absurd (none_some next e)
phase_of_cell false Confirmed (Carries c) next e = absurd (none_some next e)
phase_of_cell false Idle m next e = tt
phase_of_cell false Opened m next e = tt
phase_of_cell false Up m next e = tt
phase_of_cell true Idle m next e = tt
phase_of_cell true Opened m next e = tt
phase_of_cell true Confirmed m next e = tt
phase_of_cell true Up m next e = tt

-- ---- what the other end says
-- a change of a session of items
record_change : (b : Who) (to : Role) (c : Change) → are_peers (role_of b) to ≡ false → CanSend (role_of b) to (Carries c)
    → IsRecordChange (from_of (role_of b) to) c
record_change b to c kind can = subst (λ (peering : Bool). CanCarryAs peering (from_of (role_of b) to) c) kind can

says_item : (b : Who) (to : Role) (from : ItemFrom) (m : Message) → IsTrue (is_name (name_of b))
    → are_peers (role_of b) to ≡ false → from_of (role_of b) to ≡ from → CanSend (role_of b) to m
    → SaysItem (name_of b) from m (octets_of b false m)
says_item b to from Hello named kind is can = (refl, named)
says_item b to from (Carries c) named kind is can =
    (refl, subst (λ (f : ItemFrom). IsRecordChange f c) is (record_change b to c kind can))
says_item b to from Open named kind is can = tt
says_item b to from Keepalive named kind is can = tt

says_route : (self : Controls) (m : Message) → IsSound (Controlling self) → CanSend Controller Controller m
    → SaysRoute self.asn self.me.address m (octets_of (Controlling self) true m)
says_route self Open s can = (refl, s.numbers.0, s.numbers.1.within, s.numbers.1.some)
says_route self Keepalive s can = refl
says_route self (Carries c) s can = (refl, can)
says_route self Hello s can = tt

-- ---- first parts
front_none : (b : Who) (to : Role) (m : Message) → IsTrue (is_name (name_of b)) → are_peers (role_of b) to ≡ false
    → CanSend (role_of b) to m → (k : ℕ) → k < length (octets_of b false m)
    → frame_of (take k (octets_of b false m)) ≡ Ok None
front_none b to Hello named kind can k few = record_part (HelloItem (name_of b)) (without_lists _ named refl) k few
front_none b to (Carries c) named kind can k few =
    let told = (record_change b to c kind can).told in
    let same = spelling_of_what_is_told c told in
    ap (λ (o : List ℕ). frame_of (take k o)) same
    ∙ record_part told.item told.writable k (subst (λ (o : List ℕ). k < length o) same few)
front_none b to Open named kind can k few = absurd (omega (arith, few))
front_none b to Keepalive named kind can k few = absurd (omega (arith, few))

item_part : (a b : Who) (part : List ℕ) → are_peers (role_of a) (role_of b) ≡ false
    → are_peers (role_of b) (role_of a) ≡ false → IsTrue (is_name (name_of b)) → IsPartial a b part
    → frame_of part ≡ Ok None
item_part a b part kind back named (inl e) = ap frame_of e
item_part a b part kind back named (inr f) =
    ap frame_of (f.is ∙ ap (λ (peering : Bool). take f.count (octets_of b peering f.message)) kind)
    ∙ front_none b (role_of a) f.message named back f.can f.count
    (subst (λ (peering : Bool). f.count < length (octets_of b peering f.message)) kind f.fewer)

spelled_is : (d : Delta VpnKey VpnRoute) → routes.spelled (moved_delta Vpn Route d) ≡ wire.spelling (written d)
spelled_is (Put k r) = refl
spelled_is (Drop k) = refl

front_proper : (self : Controls) (m : Message) → IsSound (Controlling self) → CanSend Controller Controller m → (k : ℕ)
    → k < length (octets_of (Controlling self) true m) → IsProperPrefix (take k (octets_of (Controlling self) true m))
front_proper self Open s can k few =
    let part : OpenOut = record { asn = self.asn; id = self.me.address } in
    message_part (open_octets self.asn self.me.address) (Opens (wire.open_fields part))
    (open_says part s.numbers.1.within s.numbers.1.some) k few
front_proper self Keepalive s can k few = message_part (wire.spelling KeepsAlive) KeepsAlive keepalive_says k few
front_proper self (Carries c) s can k few =
    let d = can.change in
    let same : routes.spelled c ≡ wire.spelling (written d) = ap routes.spelled can.is ∙ spelled_is d in
    subst (λ (o : List ℕ). IsProperPrefix (take k o)) (sym same)
    (message_part (wire.spelling (written d)) (written d) (update_says d can.writable can.typed) k
    (subst (λ (o : List ℕ). k < length o) same few))
front_proper self Hello s can k few = absurd (omega (arith, few))

nothing_left : IsProperPrefix []
nothing_left = record { passes = refl; short = inl (lit< tt) }

route_part : (self other : Controls) (part : List ℕ) → IsSound (Controlling other)
    → IsPartial (Controlling self) (Controlling other) part → IsProperPrefix part
route_part self other part s (inl e) = subst IsProperPrefix (sym e) nothing_left
route_part self other part s (inr f) =
    subst IsProperPrefix (sym f.is) (front_proper other f.message s f.can f.count f.fewer)

-- ---- the states of ends, by the kinds of nodes
config_state : (phase : Phase) → configuration.state_at phase ≡ control.item_state phase
config_state Idle = refl
config_state Opened = refl
config_state Confirmed = refl
config_state Up = refl

agent_state : (phase : Phase) → agent.state_at phase ≡ control.item_state phase
agent_state Idle = refl
agent_state Opened = refl
agent_state Confirmed = refl
agent_state Up = refl

-- ---- sessions of a control node, by their kind
module _ (plan : ControlPlan) (i : ℕ) (p : Post) (kept : List ℕ) (x : Input) (given : Beginning) (left : List ℕ)
    (c : Option NodeCause) where
  begins_peer : is_peer plan i ≡ true → control.BeginsKeeping plan i p kept x given c left
      → control.PeerKeeps plan i p kept x given c left
  begins_peer e b = subst (λ (k : Bool). control.KeepsBy k plan i p kept x given c left) e b

  begins_item : is_peer plan i ≡ false → control.BeginsKeeping plan i p kept x given c left
      → control.ItemKeeps plan i p kept x given c left
  begins_item e b = subst (λ (k : Bool). control.KeepsBy k plan i p kept x given c left) e b

-- what came of items or of messages, in the words of the control node
module _ (given result : Beginning) (left part : List ℕ) (c : Option NodeCause) where
  of_item : (d : Option ItemCause) → c ≡ option_map Cause.Item d → (given ≡ result) × (left ≡ part) × (d ≡ None)
      → (given ≡ result) × (left ≡ part) × (c ≡ None)
  of_item d is all = (all.0, all.1, is ∙ ap (option_map Cause.Item) all.2)

  of_peer : (d : Option PeerCause) → c ≡ option_map Cause.Peer d → (given ≡ result) × (left ≡ part) × (d ≡ None)
      → (given ≡ result) × (left ≡ part) × (c ≡ None)
  of_peer d is all = (all.0, all.1, is ∙ ap (option_map Cause.Peer) all.2)

-- the session with the configuration node, and one with an agent
feed_session : (plan : ControlPlan) (i : ℕ) (phase : Phase) → i ≡ 0
    → control.item_session plan i phase ≡ session_in config From.Feed (control.item_state phase)
feed_session plan i phase e = ap (λ (k : ℕ). control.item_session plan k phase) e

agent_session : (plan : ControlPlan) (i : ℕ) (phase : Phase) → (i == 0) ≡ false
    → control.item_session plan i phase
    ≡ session_in (control.agent_at plan i).name From.Agent (control.item_state phase)
agent_session plan i phase e =
    ap (λ (first : Bool). cond first (session_in config From.Feed (control.item_state phase))
    (session_in (control.agent_at plan i).name From.Agent (control.item_state phase))) e

first_is_no_peer : (plan : ControlPlan) (i : ℕ) → i ≡ 0 → is_peer plan i ≡ false
first_is_no_peer plan i e = ap (is_peer plan) e

-- ---- octets
-- nothing is replied to items
quiet : (ms : List Message) (phase : Phase) → replies_to_all false phase ms ≡ []
quiet [] phase = refl
quiet (m ∷ ms) phase = quiet ms (phase_after false phase m)

module _ (i : ℕ) (p : Post) (kept : List ℕ) (octets : Bor (List ℕ)) (given : Beginning) (left : List ℕ) (ms : List Message)
    (part : List ℕ) (live : is_idle p.phase ≡ false) where
  -- from the second node to the first
  abbrev heard_as : Who → Who → Type 0
  heard_as a b =
      IsPhaseOf (are_peers (role_of a) (role_of b)) p.phase
      → NoneGoesDown (are_peers (role_of a) (role_of b)) p.phase ms → AllByRecursion (CanSend (role_of b) (role_of a)) ms
      → IsPartial a b part
      → kept ++ octets.now ≡ concat (map (octets_of b (are_peers (role_of a) (role_of b))) ms) ++ part
      → (begins : BeginsAt a i p kept (input.Bytes i octets) given left)
      → (given ≡ taken_all a (are_peers (role_of a) (role_of b)) p ms) × (left ≡ part)
      × HasNoCause a i p kept (input.Bytes i octets) given left begins

  -- on a session of items
  items_heard : (a b : Who) (me peer : List ℕ) (from : ItemFrom) (state : ItemState) (c : Option ItemCause)
      → are_peers (role_of a) (role_of b) ≡ false → are_peers (role_of b) (role_of a) ≡ false
      → from_of (role_of b) (role_of a) ≡ from → name_of b ≡ peer → IsSound b → state ≡ control.item_state p.phase
      → IsPhaseOf false p.phase → NoneGoesDown false p.phase ms → AllByRecursion (CanSend (role_of b) (role_of a)) ms
      → IsPartial a b part → kept ++ octets.now ≡ concat (map (octets_of b false) ms) ++ part
      → item.BeginsKeeping me (session_in peer from state) p kept (input.Bytes i octets) given c left
      → (given ≡ taken_all a false p ms) × (left ≡ part) × (c ≡ None)
  items_heard a b me peer from state c kind back says_from named s at phase goes can partial is begins =
      let taken_so = records_taken me peer from state p kept i octets given c left part
      (item_part a b part kind back s.name partial) (octets_of b false) (CanSend (role_of b) (role_of a))
      (λ m can'. subst (λ (name : List ℕ). SaysItem name from m (octets_of b false m)) named
      (says_item b (role_of a) from m s.name back says_from can')) ms at live phase goes can is begins in (
        taken_so.0 ∙ ap (λ (replies : List Message). record {
          replies = map (octets_of a false) replies;
          after = Some (took_all false p ms);
        }) (sym (quiet ms p.phase)),
        taken_so.1,
        taken_so.2,
      )

  -- on one of a control node
  control_heard : (c : Controls) (b : Who) (peer : List ℕ) (from : ItemFrom) → is_peer (plan_of c) i ≡ false
      → control.item_session (plan_of c) i p.phase ≡ session_in peer from (control.item_state p.phase)
      → are_peers Controller (role_of b) ≡ false → are_peers (role_of b) Controller ≡ false
      → from_of (role_of b) Controller ≡ from → name_of b ≡ peer → IsSound b
      → IsPhaseOf false p.phase → NoneGoesDown false p.phase ms → AllByRecursion (CanSend (role_of b) Controller) ms
      → IsPartial (Controlling c) b part → kept ++ octets.now ≡ concat (map (octets_of b false) ms) ++ part
      → (begins : BeginsAt (Controlling c) i p kept (input.Bytes i octets) given left)
      → (given ≡ taken_all (Controlling c) false p ms) × (left ≡ part) × (begins.0 ≡ None)
  control_heard c b peer from is_item at kind back says_from named s phase goes can partial is begins =
      let k = begins_item (plan_of c) i p kept (input.Bytes i octets) given left begins.0 is_item begins.1 in
      of_item given (taken_all (Controlling c) false p ms) left part begins.0 k.0 k.1
      (items_heard (Controlling c) b c.me.name peer from (control.item_state p.phase) k.0 kind back says_from named s
      refl phase goes can partial is
      (subst
      (λ (q : SessionFields). item.BeginsKeeping c.me.name q p kept (input.Bytes i octets) given k.0 left) at k.2))

  heard : (a b : Who) → Meets a b i → IsSound b → heard_as a b
  heard (Configuring x) (Controlling other) joined s phase goes can partial is begins =
      items_heard (Configuring x) (Controlling other) config (configuration.controller_at x i).name From.Nothing
      (configuration.state_at p.phase) begins.0 refl refl refl (sym joined) s (config_state p.phase) phase goes can partial is
      begins.1
  heard (Controlling c) (Configuring x) joined s phase goes can partial is begins =
      control_heard c (Configuring x) config From.Feed (first_is_no_peer (plan_of c) i joined)
      (feed_session (plan_of c) i p.phase joined) refl refl refl refl s phase goes can partial is begins
  heard (Controlling c) (Controlling other) joined s phase goes can partial is begins =
      let k = begins_peer (plan_of c) i p kept (input.Bytes i octets) given left begins.0 joined.0 begins.1 in
      let says : (m : Message) → CanSend Controller Controller m
      → SaysRoute c.asn (control.peer_at (plan_of c) i).address m (octets_of (Controlling other) true m) =
      λ m can'. subst
      (λ (asn : ℕ). SaysRoute asn (control.peer_at (plan_of c) i).address m (octets_of (Controlling other) true m)) joined.1
      (subst (λ (n : NodeId). SaysRoute other.asn n.address m (octets_of (Controlling other) true m)) (sym joined.2)
      (says_route other m s can')) in
      of_peer given (taken_all (Controlling c) true p ms) left part begins.0 k.0 k.1
      (messages_taken (Controlling c) c.me.address c.asn (control.peer_at (plan_of c) i) p kept i octets given k.0 left
      part (route_part c other part s partial) (octets_of (Controlling other) true) (CanSend Controller Controller) says
      ms live goes can is k.2)
  heard (Controlling c) (Forwarding other) joined s phase goes can partial is begins =
      control_heard c (Forwarding other) (control.agent_at (plan_of c) i).name From.Agent joined.0
      (agent_session (plan_of c) i p.phase joined.1) refl refl refl (sym joined.2) s phase goes can partial is begins
  heard (Forwarding plan) (Controlling other) joined s phase goes can partial is begins =
      items_heard (Forwarding plan) (Controlling other) plan.me.name (agent.controller_at plan i).name From.Control
      (agent.state_at p.phase) begins.0 refl refl refl (sym joined) s (agent_state p.phase) phase goes can partial is
      begins.1
  heard _ _ joined s phase goes can partial is begins = absurd joined

-- ---- opening and closing
module _ (i : ℕ) (p : Post) (kept : List ℕ) (given : Beginning) (left : List ℕ) where
  abbrev opens_as : Who → Bool → Type 0
  opens_as a peering =
      (begins : BeginsAt a i p kept (input.Opened i) given left)
      → (given ≡ opened a peering p) × (left ≡ []) × HasNoCause a i p kept (input.Opened i) given left begins

  opens_item : (c : Controls) → is_peer (plan_of c) i ≡ false → opens_as (Controlling c) false
  opens_item c kind begins =
      let b = begins_item (plan_of c) i p kept (input.Opened i) given left begins.0 kind begins.1 in
      of_item given (opened (Controlling c) false p) left [] begins.0 b.0 b.1 (b.2.0.0, b.2.1, b.2.0.1)

  opens : (a b : Who) → Meets a b i → opens_as a (are_peers (role_of a) (role_of b))
  opens (Configuring x) (Controlling other) joined begins = (begins.1.0.0, begins.1.1, begins.1.0.1)
  opens (Controlling c) (Configuring x) joined begins = opens_item c (first_is_no_peer (plan_of c) i joined) begins
  opens (Controlling c) (Controlling other) joined begins =
      let b = begins_peer (plan_of c) i p kept (input.Opened i) given left begins.0 joined.0 begins.1 in
      of_peer given (opened (Controlling c) true p) left [] begins.0 b.0 b.1 (b.2.0.0, b.2.1, b.2.0.1)
  opens (Controlling c) (Forwarding other) joined begins = opens_item c joined.0 begins
  opens (Forwarding plan) (Controlling other) joined begins = (begins.1.0.0, begins.1.1, begins.1.0.1)
  opens _ _ joined begins = absurd joined

  closes_by : (plan : ControlPlan) (k : Bool) (c : Option NodeCause)
      → control.KeepsBy k plan i p kept (input.Closed i) given c left → (given ≡ closed) × (left ≡ []) × (c ≡ None)
  closes_by plan true c b = of_peer given closed left [] c b.0 b.1 (b.2.0.0, b.2.1, b.2.0.1)
  closes_by plan false c b = of_item given closed left [] c b.0 b.1 (b.2.0.0, b.2.1, b.2.0.1)

  closes : (a : Who) (begins : BeginsAt a i p kept (input.Closed i) given left)
      → (given ≡ closed) × (left ≡ []) × HasNoCause a i p kept (input.Closed i) given left begins
  closes (Configuring x) begins = (begins.1.0.0, begins.1.1, begins.1.0.1)
  closes (Controlling c) begins = closes_by (plan_of c) (is_peer (plan_of c) i) begins.0 begins.1
  closes (Forwarding plan) begins = (begins.1.0.0, begins.1.1, begins.1.0.1)

-- ---- one message
-- what one message leads to, as the last of several
last_taken : (a : Who) (peering : Bool) (p : Post) (m : Message) (next : Phase) → cell peering p.phase m ≡ Some next
    → taken_all a peering p (m ∷ []) ≡ taken a peering p m next
last_taken a peering p m next e =
    let leads : phase_after peering p.phase m ≡ next = ap (λ (o : Option Phase). unwrap_or o p.phase) e in
    let replies = append-nil (replies_to peering p.phase m) in
    λ j. record {
      replies = map (octets_of a peering) (replies j);
      after = Some (record { phase = leads j; sent = p.sent; held = held_after m p.held; wide = wide_after m p.wide });
    }

-- ---- between the nodes of a valid configuration
module _ (x : Setup) (form : IsTrue (has_topology_form x.topology))
    (valid : first_broken x.topology x.config ≡ None) (numbers : HasNumbers x) (a b : Who) (i : ℕ)
    (between : IsBetween x a b i) where
  met : Meets a b i
  met = meets x (are_nodes x form valid) numbers a between.near b between.far i between.within between.name

  pub octets_heard : (p : Post) → is_idle p.phase ≡ false → IsPhaseOf (are_peers (role_of a) (role_of b)) p.phase
      → (ms : List Message) → NoneGoesDown (are_peers (role_of a) (role_of b)) p.phase ms
      → AllByRecursion (CanSend (role_of b) (role_of a)) ms → (part : List ℕ) → IsPartial a b part → (kept : List ℕ)
      → (octets : Bor (List ℕ))
      → kept ++ octets.now ≡ concat (map (octets_of b (are_peers (role_of a) (role_of b))) ms) ++ part
      → (given : Beginning) (left : List ℕ) (begins : BeginsAt a i p kept (input.Bytes i octets) given left)
      → (given ≡ taken_all a (are_peers (role_of a) (role_of b)) p ms) × (left ≡ part)
      × HasNoCause a i p kept (input.Bytes i octets) given left begins
  octets_heard p live phase ms goes can part partial kept octets is given left begins =
      heard i p kept octets given left ms part live a b met (sound x (are_nodes x form valid) b between.far) phase goes can
      partial is begins

  pub message_heard : (p : Post) → is_idle p.phase ≡ false → (m : Message) (next : Phase)
      → cell (are_peers (role_of a) (role_of b)) p.phase m ≡ Some next → CanSend (role_of b) (role_of a) m
      → (kept : List ℕ) (octets : Bor (List ℕ))
      → kept ++ octets.now ≡ octets_of b (are_peers (role_of a) (role_of b)) m → (given : Beginning) (left : List ℕ)
      → (begins : BeginsAt a i p kept (input.Bytes i octets) given left)
      → (given ≡ taken a (are_peers (role_of a) (role_of b)) p m next) × (left ≡ [])
      × HasNoCause a i p kept (input.Bytes i octets) given left begins
  message_heard p live m next e can kept octets is given left begins =
      let peering = are_peers (role_of a) (role_of b) in
      let whole = octets_of b peering m in
      let all = octets_heard p live (phase_of_cell peering p.phase m next e) (m ∷ []) (next, e, tt) (can, tt) [] (inl refl)
      kept octets (is ∙ sym (append-nil whole) ∙ sym (append-nil (whole ++ []))) given left begins in
      (all.0 ∙ last_taken a peering p m next e, all.1, all.2)

  pub end_opened : (p : Post) (kept : List ℕ) (given : Beginning) (left : List ℕ)
      → (begins : BeginsAt a i p kept (input.Opened i) given left)
      → (given ≡ opened a (are_peers (role_of a) (role_of b)) p) × (left ≡ [])
      × HasNoCause a i p kept (input.Opened i) given left begins
  end_opened p kept given left begins = opens i p kept given left a b met begins

pub end_closed : (a : Who) (i : ℕ) (p : Post) (kept : List ℕ) (given : Beginning) (left : List ℕ)
    → (begins : BeginsAt a i p kept (input.Closed i) given left)
    → (given ≡ closed) × (left ≡ []) × HasNoCause a i p kept (input.Closed i) given left begins
end_closed a i p kept given left begins = closes i p kept given left a begins

pub session_between : (x : Setup) → IsTrue (has_topology_form x.topology) → first_broken x.topology x.config ≡ None
    → HasNumbers x → (a : Who) → Member a (whos x) → (i : ℕ) (name : Name)
    → slice_index_or (others_of a) i None ≡ Some name → (b : Who) × IsBetween x a b i
session_between x form valid numbers a m i name e =
    let q = has_other x (are_nodes x form valid) numbers a m i name e in
    (q.0, record { near = m; far = q.1; within = within_at (others_of a) i name e; name = q.2 })
