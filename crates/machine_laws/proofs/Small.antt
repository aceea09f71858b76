-- The premises of the bound are met by the least network, whatever its configuration.
use Rattle.std.specs.Prelude.{◌≡◌, ℕ, zero, suc, ◌≤◌, List, [], ◌∷◌, ◌++◌, ◌&&◌, map, Bool, true, false, cond}
use Rattle.std.specs.declared.option.Option.{Option}
use Rattle.std.specs.declared.option.Option.TheVariants.{Some, None}
use Rattle.std.specs.List.{AllByRecursion, cons_option}
use Rattle.std.specs.FinMap.{get, empty, same_map, get-empty}
use Rattle.std.specs.Cmp.Lexicographic.{bytes_decides}
use Rattle.std.proofs.lemmas.Bool.{true≢false, and_parts}
use Rattle.std.proofs.lemmas.Option.{same_Some}
use Rattle.std.proofs.Common.{refl, sym, ◌∙◌, ap, subst, arith, inl, inr}
use Rattle.ov_types.specs.First.{same_name}
use Rattle.ov_types.specs.declared.objects.LowKey.{LowKey}
use Rattle.ov_types.specs.declared.prefix.Addr.{Addr}
use Rattle.config_types.specs.declared.config.Config.{Config}
use Rattle.config_types.specs.declared.edit.Edit.{Edit}
use Rattle.config_types.specs.declared.topology.Node.{Node}
use Rattle.schedule_script.specs.ConfigCheck.Checked.{Checked}
use Rattle.schedule_script.specs.ConfigCheck.Finding.{node_named}
use Rattle.node_laws.specs.NodeModel.Keys.{Key, Low, Vpn, Row, Publish, Subscribe, key_cmp}
use Rattle.node_laws.specs.NodeModel.Maps.{Map}
use Rattle.node_laws.specs.NodeModel.Paths as control
use Rattle.node_laws.specs.NodeModel.Wants.{wanted_by_agent}
use Rattle.node_laws.specs.NodeModel.Agent as agent
use Rattle.node_laws.proofs.NodeModel.Orders.{key_total, key_exact}
use Rattle.node_laws.proofs.NodeModel.Local.{local_slices, local_of_agents}
use Rattle.machine_model.specs.Setup.{Name, Move, Setup, agents_in, agents_of, checked, edited, edited_without, listed_by, lists, low, moves, opening, renumbered}
use Rattle.machine_model.specs.Session.{Configuration, Controller, Agent, Message, Session, turned, is_up_phase}
use Rattle.machine_model.specs.Network.{MachineState, AreNamed, config, start, view, views_of, sessions_of, seen_by, wanted, accesses, feeds, heard_from, holdings_of, peerings, told_on}
use Rattle.machine_model.specs.Events.{MachineEvent, Edits, Deliver, DeliverOctets, Lose, Connect, Restart, Round, Settle, Show, Trace, Break, edits, next, after}
use Rattle.machine_model.specs.Moments.{ArePositive, Each, EditIsValid, EditsAreValid, IsLaidOut, LaidOut, NodePair, nodes}
use Rattle.machine_laws.specs.Settling.{FairMap, Fair, WantsFair, Rank, Goal, back, RanksFit, RightAt, WantAt, Steps, Ranked, SettlesIn, SettleSettlesIn}
use Rattle.schedule_script.specs.ConfigCheck.Edits.{edit_fault, edited_topology}
use Rattle.config_types.specs.declared.edit.Edit.TheVariants.{Put, Delete}
use Rattle.config_types.specs.declared.edit.Object.TheVariants as Objects
use Rattle.config_types.specs.declared.edit.ObjectKind.TheVariants as Kinds
use Rattle.config_types.specs.declared.topology.Topology.{Topology}
use Rattle.ov_types.specs.declared.rows.NodeId.{NodeId}
use Rattle.node_laws.specs.NodeModel.Members.{Member}
use Rattle.machine_model.proofs.Asking.{sessions_are_asked}
use Rattle.machine_model.proofs.Listed.{moved_setup}
use Rattle.machine_model.proofs.NodesFact.{Holds, holds_steps}
use Rattle.machine_model.proofs.ToldNext.{by_name}
use Rattle.machine_model.proofs.Walk.{next_walk}
use Rattle.machine_laws.specs.Small.{LeavesNodes, control_node, compute_node, small}
use Rattle.machine_laws.proofs.RanksSettle.{ranks_settle, settle_settles_ranked}
use Rattle.node_laws.proofs.NodeModel.Members.{none_some}

-- ---- sessions with these nodes
abbrev placed : NodePair → Session → Session
placed p s = record { is_down = s.is_down; near = record s.near { name = p.0.0; role = p.0.1 }; far = record s.far { name = p.1.0; role = p.1.1 } }

is_placed : (p : NodePair) (s : Session) → nodes s ≡ p → s ≡ placed p s
is_placed p s e = λ i. record { is_down = s.is_down; near = record s.near { name = (e i).0.0; role = (e i).0.1 }; far = record s.far { name = (e i).1.0; role = (e i).1.1 } }

abbrev feed : NodePair
feed = ((config, Configuration), (control_node, Controller))

abbrev access : NodePair
access = ((control_node, Controller), (compute_node, Agent))

abbrev head_of : NodePair → List NodePair → NodePair
head_of d [] = d
head_of d (p ∷ ps) = p

abbrev rest_of : List NodePair → List NodePair
rest_of [] = []
rest_of (p ∷ ps) = ps

abbrev has_two : List NodePair → Bool
has_two (p ∷ q ∷ []) = true
has_two _ = false

two_sessions : (ss : List Session) → map nodes ss ≡ feed ∷ access ∷ [] → (s : Session) × (t : Session) × (ss ≡ placed feed s ∷ placed access t ∷ [])
two_sessions [] e = absurd (true≢false (sym (ap has_two e)))
two_sessions (s ∷ []) e = absurd (true≢false (sym (ap has_two e)))
two_sessions (s ∷ t ∷ []) e = (s, t, λ i. is_placed feed s (ap (head_of feed) e) i ∷ is_placed access t (ap (λ ps. head_of access (rest_of ps)) e) i ∷ [])
two_sessions (s ∷ t ∷ u ∷ ss) e = absurd (true≢false (sym (ap has_two e)))

-- a node that is none of the two of a session does not see it
unseen : (a b m : Name) (s t : Session) → same_name a m ≡ false → same_name b m ≡ false → cond (same_name a m) (Some s) (cond (same_name b m) (Some t) None) ≡ None
unseen a b m s t e f = ap (λ c. cond c (Some s) (cond (same_name b m) (Some t) None)) e ∙ ap (λ c. cond c (Some t) None) f

-- ---- ranks and goals, for one configuration in which the agent lists the control node alone
abbrev listed : Setup → List Name
listed x = listed_by (node_named x.topology compute_node)

abbrev is_control : List Name → Bool
is_control (m ∷ []) = same_name m control_node
is_control _ = false

-- and this one alone has a number there
abbrev is_compute : List (Option NodeId) → Bool
is_compute (Some a ∷ []) = same_name a.name compute_node
is_compute _ = false

abbrev valid : Setup → Bool
valid x = is_control (listed x) && is_compute (agents_of x control_node)

abbrev compute_at : Addr → NodeId
compute_at a = record { name = compute_node; address = a }

one_agent : (agents : List (Option NodeId)) → is_compute agents ≡ true → (a : Addr) × (agents ≡ Some (compute_at a) ∷ [])
one_agent [] e = absurd (true≢false (sym e))
one_agent (None ∷ agents) e = absurd (true≢false (sym e))
one_agent (Some a ∷ []) e = (a.address, λ i. Some (record { name = (bytes_decides a.name compute_node).0 e i; address = a.address }) ∷ [])
one_agent (Some a ∷ b ∷ agents) e = absurd (true≢false (sym e))

lists_control : (ns : List Name) → is_control ns ≡ true → ns ≡ control_node ∷ []
lists_control [] e = absurd (true≢false (sym e))
lists_control (m ∷ []) e = ap (λ (m : Name). m ∷ []) ((bytes_decides m control_node).0 e)
lists_control (m ∷ n ∷ ns) e = absurd (true≢false (sym e))

abbrev of_key : Key → ℕ
of_key (Low k) = 2
of_key _ = 4

-- the feed 1, slices 2, what the agent tells 3, rows 4
abbrev rank : Rank
rank from to k = cond (same_name from config) 1 (cond (same_name to config) 1 (cond (same_name from compute_node) 3 (of_key k)))

at_least_one : (k : Key) → 1 ≤ of_key k
at_least_one (Low k) = omega arith
at_least_one (Vpn k) = omega arith
at_least_one (Row i p) = omega arith
at_least_one (Publish i p) = omega arith
at_least_one (Subscribe i) = omega arith

at_most_four : (k : Key) → of_key k ≤ 4
at_most_four (Low k) = omega arith
at_most_four (Vpn k) = omega arith
at_most_four (Row i p) = omega arith
at_most_four (Publish i p) = omega arith
at_most_four (Subscribe i) = omega arith

below_four : (from to : Name) (k : Key) → rank from to k ≤ 4
below_four from to k = by_tests (same_name from config) (same_name to config) (same_name from compute_node)
  where
    by_tests : (a b c : Bool) → cond a 1 (cond b 1 (cond c 3 (of_key k))) ≤ 4
    by_tests true b c = omega arith
    by_tests false true c = omega arith
    by_tests false false true = omega arith
    by_tests false false false = at_most_four k

ranks_fit : AllByRecursion (λ p. RanksFit rank p × RanksFit rank (back p)) (feed ∷ access ∷ [])
ranks_fit = (
  (((λ k. omega arith), (λ e. absurd (true≢false (sym e)))), ((λ k. omega arith), (λ e. absurd (true≢false (sym e))))),
  (
    (((λ k. omega arith), (λ e. absurd (true≢false (sym e)))), (at_least_one, (λ e. absurd (true≢false (sym e))))),
    tt,
  ),
)

module _ (x : Setup) (ok : valid x ≡ true) where
  abbrev parts : (is_control (listed x) ≡ true) × (is_compute (agents_of x control_node) ≡ true)
  parts = and_parts (is_control (listed x)) (is_compute (agents_of x control_node)) ok

  abbrev one : (a : Addr) × (agents_of x control_node ≡ Some (compute_at a) ∷ [])
  one = one_agent (agents_of x control_node) parts.1

  abbrev told : Map → control.Told
  told m = record { session = 1; address = one.0; map = m }

  abbrev holding : Map → Map → control.Holdings
  holding feed m = record { asn = x.topology.asn; feed = feed; peers = []; agents = told m ∷ [] }

  abbrev asked : Map → control.Told
  asked m = record { session = 0; address = one.0; map = m }

  -- what the agent is told before it told anything, what it tells, and what it is told then
  abbrev first_told : Map
  first_told = wanted_by_agent (holding (low x) empty) (asked empty)

  abbrev heard : Bool → Map → agent.Heard
  heard up m = record { is_up = up; map = m }

  abbrev tells : Map
  tells = agent.wanted (heard true first_told ∷ [])

  abbrev at_last : Map
  at_last = wanted_by_agent (holding (low x) tells) (asked tells)

  abbrev goal : Goal
  goal from to k = cond (same_name from config) (get (low x) k) (cond (same_name to config) None (cond (same_name from compute_node) (get tells k) (get at_last k)))

  whole_map : (m n : Map) → ((k : Key) → get m k ≡ get n k) → m ≡ n
  whole_map m n h = same_map key_total key_exact m n h

  -- what the control node wants the agent to have been told
  slice_right : (m n : Map) (k : LowKey) → get (wanted_by_agent (holding (low x) m) (asked n)) (Low k) ≡ get at_last (Low k)
  slice_right m n k = local_slices (holding (low x) m) (holding (low x) tells) (asked n) (asked tells) refl refl k

  all_right : (r : ℕ) (f m : Map) → ((k : Key) → 1 ≤ r → get f k ≡ get (low x) k) → ((k : Key) → 3 ≤ r → get m k ≡ get tells k) → (k : Key) → 3 ≤ r → get (wanted_by_agent (holding f m) (asked m)) k ≡ get at_last k
  all_right r f m fed heard k h =
      let F = whole_map f (low x) (λ j. fed j (omega (arith, h))) in
      let M = whole_map m tells (λ j. heard j h) in
      λ i. get (wanted_by_agent (holding (F i) (M i)) (asked (M i))) k

  control_right : (r : ℕ) (f m : Map) → ((k : Key) → 1 ≤ r → get f k ≡ get (low x) k) → ((k : Key) → 3 ≤ r → get m k ≡ get tells k) → (k : Key) → of_key k ≤ suc r → get (wanted_by_agent (holding f m) (asked m)) k ≡ get at_last k
  control_right r f m fed heard (Low k) h =
      ap (λ (f : Map). get (wanted_by_agent (holding f m) (asked m)) (Low k)) (whole_map f (low x) (λ k. fed k (omega (arith, h)))) ∙ slice_right m m k
  control_right r f m fed heard (Vpn k) h = all_right r f m fed heard (Vpn k) (omega (arith, h))
  control_right r f m fed heard (Row i p) h = all_right r f m fed heard (Row i p) (omega (arith, h))
  control_right r f m fed heard (Publish i p) h = all_right r f m fed heard (Publish i p) (omega (arith, h))
  control_right r f m fed heard (Subscribe i) h = all_right r f m fed heard (Subscribe i) (omega (arith, h))

  -- what the agent wants the control node to have been told
  agent_right : (r : ℕ) (up : Bool) (d : Map) → (1 ≤ r → up ≡ true) → ((k : Key) → of_key k ≤ r → get d k ≡ get at_last k) → 2 ≤ r → (k : Key) → get (agent.wanted (heard up d ∷ [])) k ≡ get tells k
  agent_right r up d is_up held two k =
      ap (λ (m : Map). get m k) (local_of_agents (heard up d ∷ []) (heard true first_told ∷ []) (record { up = is_up (omega (arith, two)); objects = λ j. held (Low j) two ∙ sym (slice_right empty empty j) }, tt))

  module _ (s t : Session) (r : ℕ) where
    abbrev both : List Session
    both = placed feed s ∷ placed access t ∷ []

    abbrev Wanted : Name → Type 0
    Wanted m = Each (WantAt rank goal x both m (suc r)) (sessions_of m both)

    elsewhere : (m : Name) → same_name config m ≡ false → same_name control_node m ≡ false → same_name compute_node m ≡ false → Wanted m
    elsewhere m a b c =
        subst (λ (o : Option Session). Each (WantAt rank goal x both m (suc r)) (cons_option o (cons_option (seen_by m (placed access t)) []))) (sym (unseen config control_node m (placed feed s) (turned (placed feed s)) a b))
        (subst (λ (o : Option Session). Each (WantAt rank goal x both m (suc r)) (cons_option o [])) (sym (unseen control_node compute_node m (placed access t) (turned (placed access t)) b c)) tt)

    two_steps : Each (λ s. RightAt rank goal r s × RightAt rank goal r (turned s)) both → (m : Name) → Wanted m
    unfolding wanted
    two_steps right m =
        by_name Wanted config m ((λ k h. refl), tt)
        (λ a. by_name Wanted control_node m (
          (λ k h. get-empty key_cmp k),
          (
            (λ k h. ap (λ (agents : List (Option NodeId)). get (wanted_by_agent (holdings_of x.topology.asn agents (views_of control_node both)) (told_on agents (view (placed access t)))) k) one.1
                ∙ control_right r s.far.held t.near.held (λ k h. right.0.1.held k h) (λ k h. right.1.0.0.held k h) k h),
            tt,
          ),
        )
        (λ b. by_name Wanted compute_node m (
          (λ k h. ap (λ (ns : List Name). get (agent.wanted (map (heard_from (view (turned (placed access t)) ∷ [])) ns)) k) (lists_control (listed x) parts.0)
              ∙ agent_right r (is_up_phase t.far.phase) t.far.held (λ one. right.1.0.1.up one refl) (λ k h. right.1.0.1.held k h) (omega (arith, h)) k),
          tt,
        )
        (λ c. elsewhere m a b c)))

  small_steps : (P : Session → Type 0) → Steps rank goal x (feed ∷ access ∷ []) P
  small_steps P ss r e p right m =
      let q = two_sessions ss e in
      subst (λ ss. Each (λ s. RightAt rank goal r s × RightAt rank goal r (turned s)) ss → Each (WantAt rank goal x ss m (suc r)) (sessions_of m ss)) (sym q.2) (λ right. two_steps q.0 q.1 r right m) right

  small_ranked : (P : Session → Type 0) → Ranked 4 P (feed ∷ access ∷ []) x
  small_ranked P = record { rank = rank; goal = goal; steps = small_steps P; fits = ranks_fit; below = below_four }

left_topology : (d : Edit) → LeavesNodes (Edits d) → (t : Topology) → edited_topology d t ≡ t
unfolding edited_topology
left_topology (Put (Objects.Node n)) l t = absurd l
left_topology (Delete Kinds.Node name) l t = absurd l
left_topology (Put (Objects.Network n)) l t = refl
left_topology (Put (Objects.Port n)) l t = refl
left_topology (Put (Objects.Policy n)) l t = refl
left_topology (Put (Objects.Service n)) l t = refl
left_topology (Put (Objects.Chain n)) l t = refl
left_topology (Delete Kinds.Network name) l t = refl
left_topology (Delete Kinds.Port name) l t = refl
left_topology (Delete Kinds.Policy name) l t = refl
left_topology (Delete Kinds.Service name) l t = refl
left_topology (Delete Kinds.Chain name) l t = refl

left_moves : (d : Edit) → LeavesNodes (Edits d) → (t : Topology) → moves d t ≡ None
left_moves (Put (Objects.Node n)) l t = absurd l
left_moves (Delete Kinds.Node name) l t = absurd l
left_moves (Put (Objects.Network n)) l t = refl
left_moves (Put (Objects.Port n)) l t = refl
left_moves (Put (Objects.Policy n)) l t = refl
left_moves (Put (Objects.Service n)) l t = refl
left_moves (Put (Objects.Chain n)) l t = refl
left_moves (Delete Kinds.Network name) l t = refl
left_moves (Delete Kinds.Port name) l t = refl
left_moves (Delete Kinds.Policy name) l t = refl
left_moves (Delete Kinds.Service name) l t = refl
left_moves (Delete Kinds.Chain name) l t = refl

-- ---- what is told may be anything
all_fair : WantsFair (λ p q k v. true ≡ true) (λ y. valid y ≡ true)
all_fair x ss n ok e = each (λ s. FairMap (λ p q k v. true ≡ true) (s.near.name, s.near.role) (s.far.name, s.far.role) (wanted x (views_of n ss) (view s))) (λ s k v is. refl) (sessions_of n ss)
  where
    each : (P : Session → Type 0) → ((s : Session) → P s) → (ss : List Session) → Each P ss
    each P h [] = tt
    each P h (s ∷ ss) = (h s, each P h ss)

distinct : (asn : ℕ) (a b : Addr) (c : Config) → AreNamed (small asn a b c).topology
distinct asn a b c zero zero d l w = absurd (omega (arith, l))
distinct asn a b c zero (suc zero) d l w = λ e. true≢false (sym ((bytes_decides config control_node).1 e))
distinct asn a b c zero (suc (suc zero)) d l w = λ e. true≢false (sym ((bytes_decides config compute_node).1 e))
distinct asn a b c (suc zero) zero d l w = absurd (omega (arith, l))
distinct asn a b c (suc zero) (suc zero) d l w = absurd (omega (arith, l))
distinct asn a b c (suc zero) (suc (suc zero)) d l w = λ e. true≢false (sym ((bytes_decides control_node compute_node).1 e))
distinct asn a b c i j d l w = absurd (omega (arith, l, w))

module _ (asn : ℕ) (a b : Addr) (c : Config) where
  abbrev first : Checked
  first = small asn a b c

  -- its topology, with the numbers that it begins with
  abbrev IsSame : Setup → Type 0
  IsSame y = (y.topology ≡ first.topology) × (y.numbers ≡ (opening first).numbers)

  valid_same : (y : Setup) → IsSame y → valid y ≡ true
  valid_same y e = λ i. is_control (listed_by (node_named (e.0 i) compute_node)) && is_compute (agents_in (e.1 i) control_node)

  laid_first : IsLaidOut first.topology
  laid_first = record { apart = distinct asn a b c; listing = lists_it }
    where
      lists_it : (n : Node) → Member n first.topology.nodes → (c : NodeId) × Member c first.topology.controllers × (lists n c ≡ true)
      lists_it n (inl e) = (record { name = control_node; address = a }, inl refl, ap (λ (n : Node). lists n (record { name = control_node; address = a })) (sym e))
      lists_it n (inr m) = absurd m

  laid_same : (y : Setup) → IsSame y → LaidOut y
  laid_same y e = subst IsLaidOut (sym e.0) laid_first

  -- edits of the configuration leave it
  same_edit : (y z : Setup) (d : Edit) → LeavesNodes (Edits d) → edited y d ≡ Some z → IsSame y → IsSame z
  same_edit y z d l is e =
      elim (edit_fault (checked y) d) as (λ o. edited_without o y d ≡ Some z → IsSame z) [
        | None ↦ λ is. subst IsSame (same_Some _ z is) (left_topology d l y.topology ∙ e.0, ap (λ (m : Option Move). renumbered m y.numbers) (left_moves d l y.topology) ∙ e.1)
        | Some f ↦ λ is. absurd (none_some z is)
      ] is

  module _ (size : Name → Message → ℕ) where
    next_same : (w : MachineState) (e : MachineEvent) → LeavesNodes e → IsSame w.setup → IsSame (next size w e).setup
    next_same w e l q = next_walk size (Holds (λ y ps. IsSame y)) (holds_steps size (λ y ps. IsSame y)) w e (λ d is _. edit d (subst LeavesNodes is l)) q
      where
        edit : (d : Edit) → LeavesNodes (Edits d) → IsSame (edits (moves d w.setup.topology) (edited w.setup d) w).setup
        edit d l =
            elim (edited w.setup d) as (λ o. edited w.setup d ≡ o → IsSame (edits (moves d w.setup.topology) o w).setup) [
              | None ↦ λ _. q
              | Some z ↦ λ is. subst IsSame (sym (moved_setup (moves d w.setup.topology) (record { setup = z; sessions = w.sessions }))) (same_edit w.setup z d l is q)
            ] refl

    after_same : (w : MachineState) (es : List MachineEvent) → AllByRecursion LeavesNodes es → IsSame w.setup → IsSame (after size w es).setup
    after_same w [] l q = q
    after_same w (e ∷ es) l q = after_same (next size w e) es l.1 (next_same w e l.0 q)

    edit_is : (P : Setup → Type 0) → ((y : Setup) → IsSame y → P y) → (w : MachineState) (e : MachineEvent) → LeavesNodes e → IsSame w.setup → EditIsValid P w e
    edit_is P h w (Edits d) l q = λ y is. h y (same_edit w.setup y d l is q)
    edit_is P h w (Deliver a b n) l q = tt
    edit_is P h w (DeliverOctets a b n) l q = tt
    edit_is P h w (Lose a b) l q = tt
    edit_is P h w (Connect a b) l q = tt
    edit_is P h w (Restart n) l q = tt
    edit_is P h w Round l q = tt
    edit_is P h w Settle l q = tt
    edit_is P h w (Show n) l q = tt
    edit_is P h w (Trace p) l q = tt
    edit_is P h w (Break a b n) l q = tt

    edits_are : (P : Setup → Type 0) → ((y : Setup) → IsSame y → P y) → (w : MachineState) (es : List MachineEvent) → AllByRecursion LeavesNodes es → IsSame w.setup → EditsAreValid size P w es
    edits_are P h w [] l q = tt
    edits_are P h w (e ∷ es) l q = (edit_is P h w e l.0 q, edits_are P h (next size w e) es l.1 (next_same w e l.0 q))

    module _ (positive : ArePositive size) (es : List MachineEvent) (leave : AllByRecursion LeavesNodes es) where
      abbrev now : MachineState
      now = after size (start first) es

      laid_edits : EditsAreValid size LaidOut (start first) es
      laid_edits = edits_are LaidOut laid_same (start first) es leave (refl, refl)

      now_same : IsSame now.setup
      now_same = after_same (start first) es leave (refl, refl)

      places : map nodes now.sessions ≡ feed ∷ access ∷ []
      places = (sessions_are_asked size positive first laid_first es laid_edits).1 ∙ ap (λ (t : Topology). map nodes (feeds t.controllers ++ peerings t.controllers ++ accesses t.controllers t.nodes)) now_same.0

      ranked : Ranked 4 (Fair (λ p q k v. true ≡ true)) (map nodes now.sessions) now.setup
      ranked = subst (λ (ps : List NodePair). Ranked 4 (Fair (λ p q k v. true ≡ true)) ps now.setup) (sym places) (small_ranked now.setup (valid_same now.setup now_same) (Fair (λ p q k v. true ≡ true)))

      valid_edits : EditsAreValid size (λ y. valid y ≡ true) (start first) es
      valid_edits = edits_are (λ y. valid y ≡ true) valid_same (start first) es leave (refl, refl)

      pub small_settles : SettlesIn 4 size now
      small_settles = ranks_settle size positive first laid_first valid refl (λ p q k v. true) all_fair es laid_edits valid_edits 4 ranked

      pub small_settle_settles : SettleSettlesIn 4 now
      small_settle_settles = settle_settles_ranked size positive first laid_first valid refl (λ p q k v. true) all_fair es laid_edits valid_edits 4 ranked
