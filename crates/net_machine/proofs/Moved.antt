-- What a move of a compute node keeps.
use Rattle.std.specs.Prelude.{◌≡◌, ◌+◌, ◌<◌, ◌≤◌, ℕ, zero, suc, List, [], ◌∷◌, ◌++◌, length, map, drop, Bool, true, false, cond}
use Rattle.std.specs.declared.option.Option.{Option}
use Rattle.std.specs.declared.option.Option.TheVariants.{Some, None}
use Rattle.std.specs.List.{All, Contains}
use Rattle.std.specs.Option.{IfSome}
use Rattle.std.proofs.Common.{refl, sym, ◌∙◌, ap, subst, arith, get_or}
use Rattle.std.proofs.lemmas.Bool.{and_parts}
use Rattle.std.proofs.lemmas.List.{at_drop_more, drop_all, length-map}
use Rattle.std.proofs.lemmas.Option.{same_Some}
use Rattle.ov_types.specs.First.{same_name}
use Rattle.config_check.specs.Checked.{Checked}
use Rattle.config_check.specs.Rules.{controller_names}
use Rattle.config_types.specs.declared.topology.Node.{Node}
use Rattle.config_types.specs.declared.topology.Topology.{Topology}
use Rattle.running_nodes.specs.MachineModel.Network.{same_role}
use Rattle.running_nodes.specs.MachineModel.Session.{Role, Agent, Configuration, Controller}
use Rattle.running_nodes.specs.MachineModel.Setup.{Move, Name}
use Rattle.running_nodes.specs.Controls.{Controls}
use Rattle.running_nodes.specs.Moving.{Moves, PassesAll, PassesAt, before_passes, is_agent_named, reseated, resettled_at, seats_of}
use Rattle.running_nodes.specs.Seats.{Who, Configuring, Controlling, Seat, index_from, name_of, nobody}
use Rattle.running_nodes.specs.Seats.{others_of}
use Rattle.running_nodes.specs.Seats.{role_of, seat, seat_named}
use Rattle.running_nodes.specs.Stands.{IsLong}
use Rattle.running_nodes.specs.Steps.{Passes, with_seat}
use Rattle.running_laws.proofs.FirstPlaces.{at_map}
use Rattle.running_laws.proofs.Lists.{AreAlike, same_who, with_alike}
use Rattle.running_laws.proofs.MovedSeat.{fresh_room}
use Rattle.net_machine.specs.Moving.{AreFound, CanCome, CanLeave, CanMove, HasAgentsBehind, HasControl, HasControls, HasRoom}
use Rattle.net_machine.specs.Moving.{IsControlNode, control_name}
use Rattle.net_machine.specs.Seating.{AreLong, Keeps}
use Rattle.net_machine.proofs.Alike.{cleared_alike, names_alike, named_by_names}
use Rattle.net_machine.proofs.Changes.{cleared_keeps}
use Rattle.net_machine.proofs.Coming.{first_at, is_controlling, long_at, same_control_at, same_names}
use Rattle.net_machine.proofs.Kept.{with_count, with_keeps}
use Rattle.net_machine.proofs.Seating.{index_within, named_within}

-- ---- its own seat
long_cons : (n : Seat) (ss : List Seat) → IsLong n → AreLong ss → AreLong (n ∷ ss)
long_cons n ss is long zero below = is
long_cons n ss is long (suc k) below = long k (omega (arith, below))

long_rest : (n : Seat) (ss : List Seat) → AreLong (n ∷ ss) → AreLong ss
long_rest n ss long = λ k below. long (suc k) (omega (arith, below))

agents_long : (t : Topology) (o : Option Node) (ss : List Seat) → AreLong ss → AreLong (seats_of t o ++ ss)
agents_long t None ss long = long
agents_long t (Some n) ss long = long_cons _ ss (fresh_room _) long

new_long : (t : Topology) (o : Option Node) → AreLong (seats_of t o)
new_long t None = λ k below. absurd (omega (arith, below))
new_long t (Some n) = long_cons _ [] (fresh_room _) (λ k below. absurd (omega (arith, below)))

pub reseated_long : (t : Topology) (name : Name) (o : Option Node) (seats : List Seat) → AreLong seats
    → AreLong (reseated name (seats_of t o) seats)
reseated_long t name o [] long = new_long t o
reseated_long t name o (n ∷ ss) long =
    elim (is_agent_named name n) as (λ b. AreLong (cond b (seats_of t o ++ ss) (n ∷ reseated name (seats_of t o) ss))) [
      | true ↦ agents_long t o ss (long_rest n ss long)
      | false ↦ long_cons n (reseated name (seats_of t o) ss) (long 0 (omega arith))
          (reseated_long t name o ss (long_rest n ss long))
    ]

-- ---- control nodes stay where they are
role_is : (r : Role) → same_role Agent r ≡ true → r ≡ Agent
role_is Configuration e = cc
role_is Controller e = cc
role_is Agent e = refl

is_agent : (name : Name) (n : Seat) → is_agent_named name n ≡ true → role_of n.who ≡ Agent
is_agent name n e =
    role_is (role_of n.who) (and_parts (same_role Agent (role_of n.who)) (same_name (name_of n.who) name) e).0

rest_behind : (n : Seat) (ss : List Seat) → HasAgentsBehind (n ∷ ss) → HasAgentsBehind ss
rest_behind n ss h j k e below = h (suc j) (suc k) e (omega (arith, below))

new_controls : (t : Topology) (o : Option Node) (k : ℕ) → control_name (seat (seats_of t o) k).who ≡ None
new_controls t None k = refl
new_controls t (Some n) zero = refl
new_controls t (Some n) (suc k) = refl

new_before : (t : Topology) (o : Option Node) (ss : List Seat) → ((k : ℕ) → control_name (seat ss k).who ≡ None) → (k : ℕ)
    → control_name (seat (seats_of t o ++ ss) k).who ≡ None
new_before t None ss none k = none k
new_before t (Some n) ss none zero = refl
new_before t (Some n) ss none (suc k) = none k

pub reseated_controls : (t : Topology) (name : Name) (o : Option Node) (seats : List Seat) → HasAgentsBehind seats → (k : ℕ)
    → control_name (seat (reseated name (seats_of t o) seats) k).who ≡ control_name (seat seats k).who
reseated_controls t name o [] behind k = new_controls t o k
reseated_controls t name o (n ∷ ss) behind k =
    elim (is_agent_named name n) as (λ b. is_agent_named name n ≡ b
    → control_name (seat (cond b (seats_of t o ++ ss) (n ∷ reseated name (seats_of t o) ss)) k).who
    ≡ control_name (seat (n ∷ ss) k).who) [
      | true ↦ λ is.
          let agent = is_agent name n is in
          new_before t o ss (λ j. behind 0 (suc j) agent (omega arith)) k ∙ sym (behind 0 k agent (omega arith))
      | false ↦ λ is. later (reseated_controls t name o ss (rest_behind n ss behind)) k
    ] refl
  where
    later : ((j : ℕ) → control_name (seat (reseated name (seats_of t o) ss) j).who ≡ control_name (seat ss j).who) → (k : ℕ)
        → control_name (seat (n ∷ reseated name (seats_of t o) ss) k).who ≡ control_name (seat (n ∷ ss) k).who
    later again zero = refl
    later again (suc j) = again j

no_control : (w : Who) (c : Controls) → w ≡ Controlling c → control_name w ≡ None → ⊥
no_control w c is none = let e = sym (ap control_name is) ∙ none in cc

pub reseated_there : (name : Name) (new seats : List Seat) → HasAgentsBehind seats → (k : ℕ) (c : Controls)
    → (seat seats k).who ≡ Controlling c → seat (reseated name new seats) k ≡ seat seats k
reseated_there name new [] behind k c is = cc
reseated_there name new (n ∷ ss) behind k c is =
    elim (is_agent_named name n) as (λ b. is_agent_named name n ≡ b
    → seat (cond b (new ++ ss) (n ∷ reseated name new ss)) k ≡ seat (n ∷ ss) k) [
      | true ↦ λ e. absurd (no_control (seat (n ∷ ss) k).who c is (behind 0 k (is_agent name n e) (omega arith)))
      | false ↦ λ e. later (λ j. reseated_there name new ss (rest_behind n ss behind) j c) k is
    ] refl
  where
    later : ((j : ℕ) → (seat ss j).who ≡ Controlling c → seat (reseated name new ss) j ≡ seat ss j) → (k : ℕ)
        → (seat (n ∷ ss) k).who ≡ Controlling c → seat (n ∷ reseated name new ss) k ≡ seat (n ∷ ss) k
    later again zero is = refl
    later again (suc j) is = again j is

found_still : (test : Seat → Bool) (name : Name) (new seats : List Seat) → HasAgentsBehind seats → (i k m : ℕ) (c : Controls)
    → (seat seats k).who ≡ Controlling c → m ≡ i + k → index_from i test seats ≡ Some m
    → index_from i test (reseated name new seats) ≡ Some m
found_still test name new [] behind i k m c is at e = cc
found_still test name new (n ∷ ss) behind i k m c is at e =
    elim (is_agent_named name n) as (λ b. is_agent_named name n ≡ b
    → index_from i test (cond b (new ++ ss) (n ∷ reseated name new ss)) ≡ Some m) [
      | true ↦ λ f. absurd (no_control (seat (n ∷ ss) k).who c is (behind 0 k (is_agent name n f) (omega arith)))
      | false ↦ λ f. elim (test n) as (λ b. cond b (Some i) (index_from (suc i) test ss) ≡ Some m
          → cond b (Some i) (index_from (suc i) test (reseated name new ss)) ≡ Some m) [
            | true ↦ λ e. e
            | false ↦ λ e. later (λ j. found_still test name new ss (rest_behind n ss behind) (suc i) j m c) k is at e
          ] e
    ] refl
  where
    later : ((j : ℕ) → (seat ss j).who ≡ Controlling c → m ≡ suc i + j → index_from (suc i) test ss ≡ Some m
        → index_from (suc i) test (reseated name new ss) ≡ Some m) → (k : ℕ) → (seat (n ∷ ss) k).who ≡ Controlling c
        → m ≡ i + k → index_from (suc i) test ss ≡ Some m
        → index_from (suc i) test (reseated name new ss) ≡ Some m
    later again zero is at e = let h = index_within test ss (suc i) m e in absurd (omega (arith, h.0, at))
    later again (suc j) is at e = again j is (omega (arith, at)) e

-- control nodes are found by their names as before, where nodes keep their names
still_named : (seats after : List Seat) → map (λ (n : Seat). name_of n.who) after ≡ map (λ (n : Seat). name_of n.who) seats
    → ((k : ℕ) → control_name (seat after k).who ≡ control_name (seat seats k).who) → (c : Name) → IsControlNode seats c
    → IsControlNode after c
still_named seats after names controls c h k is = controls k ∙ h k (sym (named_by_names after seats c names) ∙ is)

-- ---- all of it
first_reseated : (name : Name) (new seats : List Seat) (x : Checked) → (seat seats 0).who ≡ Configuring x
    → (seat (reseated name new seats) 0).who ≡ Configuring x
first_reseated name new [] x is = cc
first_reseated name new (n ∷ ss) x is =
    elim (is_agent_named name n) as (λ b. is_agent_named name n ≡ b
    → (seat (cond b (new ++ ss) (n ∷ reseated name new ss)) 0).who ≡ Configuring x) [
      | true ↦ λ e. absurd (not_agent (sym (ap role_of is) ∙ is_agent name n e))
      | false ↦ λ e. is
    ] refl
  where
    not_agent : Configuration ≡ Agent → ⊥
    not_agent e = cc

pub some_first : (seats : List Seat) (x : Checked) → (seat seats 0).who ≡ Configuring x → 0 < length seats
some_first [] x is = cc
some_first (n ∷ ss) x is = omega arith

room_reseated : (t : Topology) (name : Name) (o : Option Node) (seats : List Seat) → HasAgentsBehind seats → HasRoom seats
    → HasRoom (reseated name (seats_of t o) seats)
room_reseated t name o seats behind room k c e =
    let before = sym (reseated_controls t name o seats behind k) ∙ e in
    let q = is_controlling seats k c before in
    subst (λ (n : Seat). length n.posts < 65535) (sym (reseated_there name (seats_of t o) seats behind k q.0 q.1))
    (room k c before)

-- ---- passes
pub pass_keeps : (seats : List Seat) (k : ℕ) (n : Seat) → AreLong seats → k < length seats → Passes (seat seats k) n
    → Keeps seats (with_seat k n seats)
pass_keeps seats k n long within h =
    let s = h.stepped in
    let l = long k within in
    let others : length (others_of (seat seats k).who) ≡ length (others_of n.who) = ap (λ (w : Who). length (others_of w)) (sym s.who) in
    with_keeps seats k n within long (ap name_of s.who) (ap others_of s.who) s.posts_long
    (record {
      posts = s.posts_long ∙ l.posts ∙ others;
      kept = h.swept.long ∙ l.kept ∙ others;
      links = s.links_long ∙ l.links ∙ others;
      breaks = s.breaks_long ∙ l.breaks ∙ others;
      notices = ap (λ xs. length xs) s.notices ∙ l.notices ∙ others;
    })

-- the nodes are the same, and so are their sessions
pub record StaysAlike (seats after : List Seat) : Type 0 where
  pub long : AreLong after
  pub alike : AreAlike seats after

one_alike : (c : Name) (o : Option ℕ) (seats after : List Seat) → seat_named seats c ≡ o → AreLong seats → PassesAt o seats after
    → StaysAlike seats after
one_alike c None seats after is long h = subst (StaysAlike seats) (sym h) (record { long = long; alike = refl })
one_alike c (Some k) seats after is long h =
    let within = named_within seats c k is in
    let one = with_seat k h.0 seats in
    let keeps = pass_keeps seats k h.0 long within h.1 in
    let there : k < length one = (let c = with_count seats k h.0 in omega (arith, within, c)) in
    subst (StaysAlike seats) (sym h.2) (record {
      long = (cleared_keeps one k keeps.long there).long;
      alike = cleared_alike one k ∙ with_alike k h.0 seats h.1.stepped.who;
    })

pub next_alike : (c : Name) (seats after : List Seat) → AreLong seats → PassesAt (seat_named seats c) seats after
    → StaysAlike seats after
next_alike c seats after long h = one_alike c (seat_named seats c) seats after refl long h

all_alike : (cs : List Name) (seats after : List Seat) → AreLong seats → PassesAll cs seats after → StaysAlike seats after
all_alike [] seats after long h = subst (StaysAlike seats) (sym h) (record { long = long; alike = refl })
all_alike (c ∷ cs) seats after long (between, one, rest) =
    let h = next_alike c seats between long one in
    let k = all_alike cs between after h.long rest in
    record { long = k.long; alike = k.alike ∙ h.alike }

alike_named : (seats after : List Seat) → AreAlike seats after → (c : Name) → IsControlNode seats c → IsControlNode after c
alike_named seats after alike c h =
    still_named seats after (names_alike seats after alike) (λ k. ap control_name (same_who seats after alike k)) c h

pub controls_still : (seats after : List Seat) (cs : List Name) → AreAlike seats after → All (IsControlNode seats) cs
    → All (IsControlNode after) cs
controls_still seats after cs alike all = λ k d below. alike_named seats after alike (get_or cs k d) (all k d below)

-- along the list of control nodes
pub passes_more : (cs : List Name) (i : ℕ) (d : Name) (a b c : List Seat) → i < length cs
    → PassesAt (seat_named a (get_or cs i d)) a b → PassesAll (drop (i + 1) cs) b c → PassesAll (drop i cs) a c
passes_more cs i d a b c below one rest =
    subst (λ ds. PassesAll ds a c) (sym (at_drop_more (λ ds. ds) cs i d below)) (b, one, rest)

pub passes_none : (cs : List Name) (i : ℕ) (a : List Seat) → length cs ≤ i → PassesAll (drop i cs) a a
passes_none cs i a h = subst (λ ds. PassesAll ds a a) (sym (drop_all i cs h)) refl

-- a seat is that of a control node
pub pass_control : (seats : List Seat) (c : Name) (k : ℕ) → IsControlNode seats c → seat_named seats c ≡ Some k
    → (d : Controls) × ((seat seats k).who ≡ Controlling d)
pass_control seats c k h is = is_controlling seats k c (h k is)

-- ---- what each of its parts asks
module _ (t : Topology) (m : Move) (seats : List Seat) (long : AreLong seats) (can : CanMove t m seats) where
  abbrev new : List Seat
  new = seats_of t m.now

  abbrev pub with_seats : List Seat
  with_seats = reseated m.name new seats

  -- which control nodes there are
  same_controls : (k : ℕ) → control_name (seat with_seats k).who ≡ control_name (seat seats k).who
  same_controls = reseated_controls t m.name m.now seats can.agents

  pub move_controls : HasControls t with_seats
  move_controls k = same_controls k ∙ can.controls k

  pub move_room : HasRoom with_seats
  move_room = room_reseated t m.name m.now seats can.agents can.room

  pub move_found : AreFound with_seats
  move_found k c is =
      let was = sym (same_controls k) ∙ is in
      let q = is_controlling seats k c was in
      found_still (λ (n : Seat). same_name (name_of n.who) c) m.name new seats can.agents 0 k k q.0 q.1 (omega arith)
      (can.found k c was)

  pub move_leaves : (k : ℕ) → CanLeave m.name (seat with_seats k)
  move_leaves k c who =
      let q = is_controlling seats k c.me.name (sym (same_controls k) ∙ ap control_name who) in
      subst (CanLeave m.name) (sym (reseated_there m.name new seats can.agents k q.0 q.1)) (can.leaves k) c who

  -- before passes
  abbrev before : List Seat
  before = before_passes t m seats

  before_at : (k : ℕ) → seat before k ≡ resettled_at m.name m.now (seat with_seats k)
  before_at k = at_map (resettled_at m.name m.now) with_seats k nobody

  pub before_long : AreLong before
  before_long k below =
      subst IsLong (sym (before_at k))
      (long_at m.name m.now (seat with_seats k) (reseated_long t m.name m.now seats long k
      (subst (λ n. k < n) (length-map with_seats (resettled_at m.name m.now)) below)))

  pub before_first : (x : Checked) → (seat seats 0).who ≡ Configuring x → (seat before 0).who ≡ Configuring x
  before_first x is =
      ap (λ (n : Seat). n.who) (before_at 0)
      ∙ first_at m.name m.now (seat with_seats 0) x (first_reseated m.name new seats x is)

  named_before : (c : Name) → HasControl seats c → IsControlNode before c
  named_before c (k, is) i found =
      let there : control_name (seat with_seats k).who ≡ Some c = same_controls k ∙ is in
      let same : i ≡ k =
      same_Some i k (sym found ∙ named_by_names before with_seats c (same_names m.name m.now with_seats) ∙ move_found k c there) in
      ap (λ j. control_name (seat before j).who) same ∙ ap (λ (n : Seat). control_name n.who) (before_at k)
      ∙ same_control_at m.name m.now (seat with_seats k) ∙ there

  pub before_controls : All (IsControlNode before) m.left
  before_controls = λ k d below. named_before (get_or m.left k d) (can.left k d below)

-- a move keeps the configuration node where it is, and each node has an end for each of its sessions
pub moved_first : (t : Topology) (m : Move) (seats after : List Seat) (x : Checked) → AreLong seats → CanMove t m seats
    → (seat seats 0).who ≡ Configuring x → Moves t m seats after
    → AreLong after × ((seat after 0).who ≡ Configuring x)
moved_first t m seats after x long can is h =
    let before = before_passes t m seats in
    let stays = all_alike m.left before after (before_long t m seats long can) h in
    (stays.long, same_who before after stays.alike 0 ∙ before_first t m seats long can x is)

pub comes_listed : (t : Topology) (o : Option Node) → ((n : Node) → o ≡ Some n → CanCome t n)
    → IfSome o (λ n. All (Contains (controller_names t)) n.controllers)
comes_listed t None h = tt
comes_listed t (Some n) h = (h n refl).listed

pub comes_few : (t : Topology) (o : Option Node) → ((n : Node) → o ≡ Some n → CanCome t n)
    → IfSome o (λ n. length n.controllers ≤ 2)
comes_few t None h = tt
comes_few t (Some n) h = (h n refl).few
