-- Octets that come to a node may be cut anywhere.
use Rattle.std.specs.Prelude.{◌≡◌, ◌==◌, ℕ, List, [], ◌∷◌, ◌++◌, Bool, true, false, cond}
use Rattle.std.specs.Borrow.{Bor}
use Rattle.std.specs.FinMap.{empty}
use Rattle.std.specs.Option.{option_map}
use Rattle.std.specs.declared.option.Option.{Option}
use Rattle.std.specs.declared.option.Option.TheVariants.{Some, None}
use Rattle.std.proofs.Common.{refl, sym, ◌∙◌, ap, subst}
use Rattle.std.proofs.lemmas.List.{append-nil}
use Rattle.ov_link.specs.declared.step.Input.TheVariants.{Bytes}
use Rattle.item_wire.specs.Happenings.{SessionFields}
use Rattle.item_wire.specs.declared.event.ItemCause.{ItemCause}
use Rattle.item_wire.specs.declared.event.ItemFrom.{ItemFrom}
use Rattle.item_wire.specs.declared.event.ItemFrom.TheVariants as From
use Rattle.node_core.specs.Beginning as item
use Rattle.node_model.specs.Maps.{Map}
use Rattle.node_model.specs.Step.{Beginning, Phase, Idle, Opened, Confirmed, Up, Post, is_idle}
use Rattle.running_nodes.specs.ConfigNode.Beginning as configuration
use Rattle.running_nodes.specs.ControlNode.Beginning as control
use Rattle.running_nodes.specs.ControlNode.Core.{is_peer}
use Rattle.running_nodes.specs.ControlNode.NodeCause.{NodeCause}
use Rattle.running_nodes.specs.ControlNode.ControlPlan.{ControlPlan}
use Rattle.running_nodes.specs.AgentNode.Beginning as agent
use Rattle.machine_laws.specs.MachineModel.Network.{config}
use Rattle.running_nodes.specs.Controls.{plan_of}
use Rattle.running_nodes.specs.Seats.{Who, Configuring, Controlling, Forwarding}
use Rattle.running_nodes.specs.Steps.{BeginsAt}
use Rattle.running_laws.specs.Cutting.{AreAlike, BeginsInTurn, GoesOn, PartsAreAsWhole, WholeIsAsParts, and_then, octets_in, told, with_sent}
use Rattle.running_laws.proofs.CutItems as items
use Rattle.running_laws.proofs.CutItems.{items_down, items_live, items_one, items_sent, items_up}
use Rattle.running_laws.proofs.CutRoutes.{routes_down, routes_live, routes_one, routes_sent, routes_up}

-- ---- sessions of items of a control node
module _ (plan : ControlPlan) (i : ℕ) where
  abbrev peer : List ℕ
  peer = cond (i == 0) config (control.agent_at plan i).name

  abbrev from : ItemFrom
  from = cond (i == 0) From.Feed From.Agent

  same_state : (phase : Phase) → control.item_state phase ≡ item.state_at phase
  same_state Idle = refl
  same_state Opened = refl
  same_state Confirmed = refl
  same_state Up = refl

  chosen : (first : Bool) (phase : Phase)
      → cond first (record { peer = config; from = From.Feed; state = control.item_state phase })
      (record { peer = (control.agent_at plan i).name; from = From.Agent; state = control.item_state phase })
      ≡ items.session_at plan.me.name (cond first config (control.agent_at plan i).name) (cond first From.Feed From.Agent) i
      phase
  chosen true phase = λ j. record { peer = config; from = From.Feed; state = same_state phase j }
  chosen false phase =
      λ j. record { peer = (control.agent_at plan i).name; from = From.Agent; state = same_state phase j }

  abbrev HearsItem : Post → List ℕ → Bor (List ℕ) → Beginning → Option ItemCause → List ℕ → Type 0
  HearsItem = items.Hears plan.me.name peer from i

  to_item : (p : Post) (kept : List ℕ) (octets : Bor (List ℕ)) (given : Beginning) (c : Option ItemCause) (left : List ℕ)
      → item.BeginsKeeping plan.me.name (control.item_session plan i p.phase) p kept (Bytes i octets) given c left
      → HearsItem p kept octets given c left
  to_item p kept octets given c left x =
      subst (λ (s : SessionFields). item.BeginsKeeping plan.me.name s p kept (Bytes i octets) given c left)
      (chosen (i == 0) p.phase) x

  from_item : (p : Post) (kept : List ℕ) (octets : Bor (List ℕ)) (given : Beginning) (c : Option ItemCause) (left : List ℕ)
      → HearsItem p kept octets given c left
      → item.BeginsKeeping plan.me.name (control.item_session plan i p.phase) p kept (Bytes i octets) given c left
  from_item p kept octets given c left x =
      subst (λ (s : SessionFields). item.BeginsKeeping plan.me.name s p kept (Bytes i octets) given c left)
      (sym (chosen (i == 0) p.phase)) x

  -- ---- what holds of each kind of session
  abbrev Keeps : Bool → Post → List ℕ → Bor (List ℕ) → Beginning → List ℕ → Type 0
  Keeps kind p kept octets given left =
      (c : Option NodeCause) × control.KeepsBy kind plan i p kept (Bytes i octets) given c left

  control_up : (kind : Bool) (p q : Post) (kept between left : List ℕ) (a b whole : Bor (List ℕ)) (first more : Beginning)
      → is_idle p.phase ≡ false → Keeps kind p kept a first between → first.after ≡ Some q
      → Keeps kind q between b more left → whole.now ≡ a.now ++ b.now → Keeps kind p kept whole (and_then first more) left
  control_up true p q kept between left a b whole first more live x up y is = (
    y.0,
    (
      y.1.0,
      y.1.1,
      routes_up plan.me.address plan.asn (control.peer_at plan i) i p kept a first x.1.0 between live x.1.2 b whole is q more
          y.1.0 left up y.1.2,
    ),
  )
  control_up false p q kept between left a b whole first more live x up y is = (
    y.0,
    (
      y.1.0,
      y.1.1,
      from_item p kept whole (and_then first more) y.1.0 left
          (items_up plan.me.name peer from i p kept a first x.1.0 between live (to_item p kept a first x.1.0 between x.1.2) b whole
          is q more y.1.0 left up (to_item q between b more y.1.0 left y.1.2)),
    ),
  )

  control_down : (kind : Bool) (p : Post) (kept between : List ℕ) (a b whole : Bor (List ℕ)) (first : Beginning)
      → is_idle p.phase ≡ false → Keeps kind p kept a first between → first.after ≡ None → whole.now ≡ a.now ++ b.now
      → Keeps kind p kept whole first []
  control_down true p kept between a b whole first live x down is = (
    x.0,
    (
      x.1.0,
      x.1.1,
      routes_down plan.me.address plan.asn (control.peer_at plan i) i p kept a first x.1.0 between live x.1.2 b whole is down,
    ),
  )
  control_down false p kept between a b whole first live x down is = (
    x.0,
    (
      x.1.0,
      x.1.1,
      from_item p kept whole first x.1.0 []
          (items_down plan.me.name peer from i p kept a first x.1.0 between live (to_item p kept a first x.1.0 between x.1.2) b
          whole is down),
    ),
  )

  control_live : (kind : Bool) (p q : Post) (kept between : List ℕ) (a : Bor (List ℕ)) (first : Beginning)
      → is_idle p.phase ≡ false → Keeps kind p kept a first between → first.after ≡ Some q → is_idle q.phase ≡ false
  control_live true p q kept between a first live x up =
      routes_live plan.me.address plan.asn (control.peer_at plan i) i p kept a first x.1.0 between live x.1.2 q up
  control_live false p q kept between a first live x up =
      items_live plan.me.name peer from i p kept a first x.1.0 between live (to_item p kept a first x.1.0 between x.1.2) q up

  control_one : (kind : Bool) (p : Post) (kept left left' : List ℕ) (octets : Bor (List ℕ)) (given given' : Beginning)
      → Keeps kind p kept octets given left → Keeps kind p kept octets given' left'
      → (given ≡ given') × (left ≡ left')
  control_one true p kept left left' octets given given' x y =
      routes_one plan.me.address plan.asn (control.peer_at plan i) i p kept octets given given' x.1.0 y.1.0 left left' x.1.2
      y.1.2
  control_one false p kept left left' octets given given' x y =
      items_one plan.me.name peer from i p kept octets given given' x.1.0 y.1.0 left left'
      (to_item p kept octets given x.1.0 left x.1.2) (to_item p kept octets given' y.1.0 left' y.1.2)

  control_sent : (kind : Bool) (p : Post) (kept left : List ℕ) (octets : Bor (List ℕ)) (given : Beginning) (sent : Map)
      → Keeps kind p kept octets given left → Keeps kind (told sent p) kept octets (with_sent sent given) left
  control_sent true p kept left octets given sent x = (
    x.0,
    (
      x.1.0,
      x.1.1,
      routes_sent plan.me.address plan.asn (control.peer_at plan i) i p kept octets given x.1.0 left sent x.1.2,
    ),
  )
  control_sent false p kept left octets given sent x = (
    x.0,
    (
      x.1.0,
      x.1.1,
      from_item (told sent p) kept octets (with_sent sent given) x.1.0 left
          (items_sent plan.me.name peer from i p kept octets given x.1.0 left sent
          (to_item p kept octets given x.1.0 left x.1.2)),
    ),
  )

-- ---- every kind of node
pub cut_up : (who : Who) (i : ℕ) (p q : Post) (kept between left : List ℕ) (a b whole : Bor (List ℕ)) (first more : Beginning)
    → is_idle p.phase ≡ false → BeginsAt who i p kept (Bytes i a) first between → first.after ≡ Some q
    → BeginsAt who i q between (Bytes i b) more left → whole.now ≡ a.now ++ b.now
    → BeginsAt who i p kept (Bytes i whole) (and_then first more) left
cut_up (Configuring x) i p q kept between left a b whole first more live f up y is = (
  y.0,
  items_up config (configuration.controller_at x i).name From.Nothing i p kept a first f.0 between live f.1 b whole is q more
      y.0 left up y.1,
)
cut_up (Controlling c) i p q kept between left a b whole first more live f up y is =
    control_up (plan_of c) i (is_peer (plan_of c) i) p q kept between left a b whole first more live f up y is
cut_up (Forwarding plan) i p q kept between left a b whole first more live f up y is = (
  y.0,
  items_up plan.me.name (agent.controller_at plan i).name From.Control i p kept a first f.0 between live f.1 b whole is q
      more y.0 left up y.1,
)

pub cut_down : (who : Who) (i : ℕ) (p : Post) (kept between : List ℕ) (a b whole : Bor (List ℕ)) (first : Beginning)
    → is_idle p.phase ≡ false → BeginsAt who i p kept (Bytes i a) first between → first.after ≡ None
    → whole.now ≡ a.now ++ b.now → BeginsAt who i p kept (Bytes i whole) first []
cut_down (Configuring x) i p kept between a b whole first live f down is = (
  f.0,
  items_down config (configuration.controller_at x i).name From.Nothing i p kept a first f.0 between live f.1 b whole is down,
)
cut_down (Controlling c) i p kept between a b whole first live f down is =
    control_down (plan_of c) i (is_peer (plan_of c) i) p kept between a b whole first live f down is
cut_down (Forwarding plan) i p kept between a b whole first live f down is = (
  f.0,
  items_down plan.me.name (agent.controller_at plan i).name From.Control i p kept a first f.0 between live f.1 b whole is
      down,
)

stays_live : (who : Who) (i : ℕ) (p q : Post) (kept between : List ℕ) (a : Bor (List ℕ)) (first : Beginning)
    → is_idle p.phase ≡ false → BeginsAt who i p kept (Bytes i a) first between → first.after ≡ Some q
    → is_idle q.phase ≡ false
stays_live (Configuring x) i p q kept between a first live f up =
    items_live config (configuration.controller_at x i).name From.Nothing i p kept a first f.0 between live f.1 q up
stays_live (Controlling c) i p q kept between a first live f up =
    control_live (plan_of c) i (is_peer (plan_of c) i) p q kept between a first live f up
stays_live (Forwarding plan) i p q kept between a first live f up =
    items_live plan.me.name (agent.controller_at plan i).name From.Control i p kept a first f.0 between live f.1 q up

-- octets make one thing of an end
pub begins_one : (who : Who) (i : ℕ) (p : Post) (kept left left' : List ℕ) (octets : Bor (List ℕ)) (given given' : Beginning)
    → BeginsAt who i p kept (Bytes i octets) given left → BeginsAt who i p kept (Bytes i octets) given' left'
    → (given ≡ given') × (left ≡ left')
begins_one (Configuring x) i p kept left left' octets given given' f g =
    items_one config (configuration.controller_at x i).name From.Nothing i p kept octets given given' f.0 g.0 left left' f.1
    g.1
begins_one (Controlling c) i p kept left left' octets given given' f g =
    control_one (plan_of c) i (is_peer (plan_of c) i) p kept left left' octets given given' f g
begins_one (Forwarding plan) i p kept left left' octets given given' f g =
    items_one plan.me.name (agent.controller_at plan i).name From.Control i p kept octets given given' f.0 g.0 left left' f.1
    g.1

pub begins_sent : (who : Who) (i : ℕ) (p : Post) (kept left : List ℕ) (octets : Bor (List ℕ)) (given : Beginning) (sent : Map)
    → BeginsAt who i p kept (Bytes i octets) given left
    → BeginsAt who i (told sent p) kept (Bytes i octets) (with_sent sent given) left
begins_sent (Configuring x) i p kept left octets given sent f = (
  f.0,
  items_sent config (configuration.controller_at x i).name From.Nothing i p kept octets given f.0 left sent f.1,
)
begins_sent (Controlling c) i p kept left octets given sent f =
    control_sent (plan_of c) i (is_peer (plan_of c) i) p kept left octets given sent f
begins_sent (Forwarding plan) i p kept left octets given sent f = (
  f.0,
  items_sent plan.me.name (agent.controller_at plan i).name From.Control i p kept octets given f.0 left sent f.1,
)

-- ---- any number of parts
-- octets that stand where these stand
abbrev with_octets : Bor (List ℕ) → List ℕ → Bor (List ℕ)
with_octets part octets = record { ref_ptr = part.ref_ptr; now = octets }

-- where octets stand is nothing to an end
same_by : (kind : Bool) (plan : ControlPlan) (i : ℕ) (p : Post) (kept left : List ℕ) (a b : Bor (List ℕ)) (given : Beginning)
    → a.now ≡ b.now → Keeps plan i kind p kept a given left → Keeps plan i kind p kept b given left
same_by true plan i p kept left a b given e f =
    subst (λ (o : List ℕ). Keeps plan i true p kept (with_octets a o) given left) e f
same_by false plan i p kept left a b given e f =
    subst (λ (o : List ℕ). Keeps plan i false p kept (with_octets a o) given left) e f

same_octets : (who : Who) (i : ℕ) (p : Post) (kept left : List ℕ) (a b : Bor (List ℕ)) (given : Beginning) → a.now ≡ b.now
    → BeginsAt who i p kept (Bytes i a) given left → BeginsAt who i p kept (Bytes i b) given left
same_octets (Configuring x) i p kept left a b given e f =
    subst (λ (o : List ℕ). BeginsAt (Configuring x) i p kept (Bytes i (with_octets a o)) given left) e f
same_octets (Controlling c) i p kept left a b given e f =
    same_by (is_peer (plan_of c) i) (plan_of c) i p kept left a b given e f
same_octets (Forwarding plan) i p kept left a b given e f =
    subst (λ (o : List ℕ). BeginsAt (Forwarding plan) i p kept (Bytes i (with_octets a o)) given left) e f

told_twice : (a b : Map) (o : Option Post) → option_map (told a) (option_map (told b) o) ≡ option_map (told a) o
told_twice a b None = refl
told_twice a b (Some p) = refl

sent_twice : (a b : Map) (given : Beginning) → with_sent a given ≡ with_sent a (with_sent b given)
sent_twice a b given =
    ap (λ (after : Option Post). record { replies = given.replies; after = after }) (sym (told_twice a b given.after))

module _ (who : Who) (i : ℕ) where
  -- the octets, in one input, make the same of the end
  abbrev MadeAlike : Post → List ℕ → Bor (List ℕ) → Beginning → List ℕ → Type 0
  MadeAlike p kept octets given left =
      (given' : Beginning) × BeginsAt who i p kept (Bytes i octets) given' left × AreAlike given given'

  parts_by : (p : Post) (kept : List ℕ) (part others whole : Bor (List ℕ)) (first : Beginning) (between : List ℕ)
      (after : Option Post) (given : Beginning) (left : List ℕ) (Others : Post → Beginning → Type 0) → is_idle p.phase ≡ false
      → BeginsAt who i p kept (Bytes i part) first between → first.after ≡ after → GoesOn first after given left Others
      → ((q : Post) (more : Beginning) → is_idle q.phase ≡ false → Others q more → MadeAlike q between others more left)
      → whole.now ≡ part.now ++ others.now → MadeAlike p kept whole given left
  parts_by p kept part others whole first between None given left Others live x e goes others_are is = (
    first,
    subst (λ (l : List ℕ). BeginsAt who i p kept (Bytes i whole) first l) (sym goes.1)
        (cut_down who i p kept between part others whole first live x e is),
    ap (with_sent empty) goes.0,
  )
  parts_by p kept part others whole first between (Some q) given left Others live x e goes others_are is =
      let more = others_are (told goes.0 q) goes.1 (stays_live who i p q kept between part first live x e) goes.2 in
      let back : BeginsAt who i q between (Bytes i others) (with_sent q.sent more.0) left =
      begins_sent who i (told goes.0 q) between left others more.0 q.sent more.1 in (
        and_then first (with_sent q.sent more.0),
        cut_up who i p q kept between left part others whole first (with_sent q.sent more.0) live x e back is,
        ap (with_sent empty) goes.3 ∙ ap (and_then first) (more.2 ∙ sent_twice empty q.sent more.0),
      )

  pub whole_as_parts : WholeIsAsParts who i
  whole_as_parts p live kept part [] given left x whole is =
      (given, same_octets who i p kept left part whole given (sym (append-nil part.now) ∙ sym is) x, refl)
  whole_as_parts p live kept part (next ∷ parts) given left x whole is =
      parts_by p kept part (with_octets next (octets_in (next ∷ parts))) whole x.0 x.1 x.0.after given left
      (λ q more. BeginsInTurn who i q x.1 next parts more left) live x.2 refl x.3
      (λ q more live' y. whole_as_parts q live' x.1 next parts more left y (with_octets next (octets_in (next ∷ parts))) refl)
      is

  pub parts_as_whole : PartsAreAsWhole who i
  parts_as_whole p live kept part parts given left x whole is given' left' y =
      let made = whole_as_parts p live kept part parts given left x whole is in
      let one = begins_one who i p kept left left' whole made.0 given' made.1 y in
      (made.2 ∙ ap (with_sent empty) one.0, one.1)
