-- What changes one seat of a network, or the agents of it, as the functions over both halves have it.
use Rattle.std.proofs.Common.{◌≡◌, ◌<◌, ◌≤◌, ◌+◌, ℕ, zero, suc, Bool, Option, Some, None, Result, Ok, Err, IfOk, OnErr, IfSome, List, [], ◌∷◌, ◌++◌, length, map, take, drop, get_or, set, sym, ◌∙◌, ap, subst, arith, length-append}
use Rattle.std.proofs.lemmas.List.{get_or-set_same, length-drop, length-map}
use Rattle.std.proofs.lemmas.List.Elements.{All-append}
use Rattle.std.specs.Option.{option_map}
use Rattle.std.specs.List.{All}
use Rattle.ov_types.specs.declared.rows.NodeId.{NodeId}
use Rattle.ov_types.specs.First.{same_name}
use Rattle.config_types.specs.declared.topology.Node.{Node}
use Rattle.config_types.specs.declared.topology.Topology.{Topology}
use Rattle.agent_node.specs.Core as agent
use Rattle.running_nodes.specs.ConfigNode.Core as configuration
use Rattle.running_nodes.specs.ControlNode.Core as control
use Rattle.running_nodes.specs.MachineModel.Setup.{Name}
use Rattle.running_nodes.specs.Controls.{Controls, first_agent}
use Rattle.running_nodes.specs.Moving.{number_for, number_in, reseated, seats_of}
use Rattle.running_nodes.specs.Seats.{Controlling, Seat, index_from, Who, name_there, names_of, other, others_of, seat}
use Rattle.running_nodes.specs.Changes.{IsAlone}
use Rattle.running_nodes.specs.Cores.{IsRight, controlled, forwarded, inners}
use Rattle.running_nodes.specs.Fresh.{fresh_agents_of, fresh_outers_of, replaced_at}
use Rattle.running_nodes.specs.Halves.{AreAllHalves, AreHalves, Inner, Outer, inner, joined, no_inner}
use Rattle.running_nodes.proofs.Found.{found_below}
use Rattle.running_nodes.proofs.Reseating.{reseated_halves, reseated_seats}
use Rattle.running_nodes.proofs.Halves.{as_many, halves_set, seat_at, set_itself}
use Rattle.running_nodes.proofs.Standing.{below_all}
use Rattle.running_nodes.proofs.Vacant.{peers_named}

-- ---- the session of an agent that goes
within : (name : Name) (xs : List (Option Name)) (i : ℕ) → get_or xs i None ≡ Some name → i < length xs
within name [] i at = absurd (let both : None ≡ Some name = at in cc)
within name (x ∷ xs) zero at = omega arith
within name (x ∷ xs) (suc i) at = (let rest = within name xs i at in omega (arith, rest))

pub within_alone : (name : Name) (i : ℕ) (n : Inner) (o : Outer) → AreHalves n o → IsAlone name i n → i < length o.others
within_alone name i n o h is =
    let lt = within name (others_of n.who) i is.there in
    let long : length o.others ≡ length (others_of n.who) = ap length h.others in
    omega (arith, lt, long)

pub alone_there : (ns : List Inner) (os : List Outer) (seats : List Seat) (k i : ℕ) (name : Name) → AreAllHalves ns os → joined ns os ≡ seats
    → k < length seats → ((c : Controls) × ((seat seats k).who ≡ Controlling c) × (first_agent c ≤ i))
    → other (seat seats k) i ≡ Some name → ((j : ℕ) → other (seat seats k) j ≡ Some name → j ≡ i) → IsAlone name i (inner ns k)
alone_there ns os seats k i name h view there control at alone =
    let who : (seat seats k).who ≡ (inner ns k).who =
    ap (λ (ss : List Seat). (seat ss k).who) (sym view) ∙ ap (λ (n : Seat). n.who) (seat_at ns os k h (below_all ns os seats k h view there)) in
    record {
      controls = control.0;
      control = sym who ∙ control.1;
      agent = control.2;
      there = ap (λ (w : Who). get_or (others_of w) i None) (sym who) ∙ at;
      alone = λ j e. alone j (ap (λ (w : Who). get_or (others_of w) j None) who ∙ e);
    }

-- ---- one seat of all
pub halves_now : (ns ns' : List Inner) (os : List Outer) (j k : ℕ) (o' : Outer) → AreAllHalves ns os → j ≡ k
    → ns' ≡ set ns k (inner ns' k) → AreHalves (inner ns' k) o' → AreAllHalves ns' (set os j o')
halves_now ns ns' os j k o' h same one new =
    subst (λ (i : ℕ). AreAllHalves ns' (set os i o')) (sym same)
    (subst (λ (ms : List Inner). AreAllHalves ms (set os k o')) (sym one) (halves_set ns os k (inner ns' k) o' h new))

pub one_set : (v v' : List Inner) (k : ℕ) (n : Inner) → v' ≡ set v k n → k < length v → v' ≡ set v k (inner v' k)
one_set v v' k n is lt = is ∙ ap (λ (m : Inner). set v k m) (sym (set_there v v' k n is lt))
  where
    set_there : (v v' : List Inner) (k : ℕ) (n : Inner) → v' ≡ set v k n → k < length v → inner v' k ≡ n
    set_there v v' k n is lt = ap (λ (ns : List Inner). inner ns k) is ∙ get_or-set_same v k n no_inner lt

pub now_there : (v v' : List Inner) (k : ℕ) (n : Inner) → v' ≡ set v k n → k < length v → inner v' k ≡ n
now_there v v' k n is lt = ap (λ (ns : List Inner). inner ns k) is ∙ get_or-set_same v k n no_inner lt

pub one_same : (v v' : List Inner) (k : ℕ) → v' ≡ v → v' ≡ set v k (inner v' k)
one_same v v' k is = is ∙ sym (ap (λ (ns : List Inner). set v k (inner ns k)) is ∙ set_itself v k no_inner)

-- ---- the session of an agent that comes
number_low : (os : List (Option NodeId)) → number_in os ≤ length os
number_low [] = omega arith
number_low (None ∷ os) = omega arith
number_low (Some a ∷ os) = (let rest = number_low os in omega (arith, rest))

number_within : (c : Controls) → number_for c ≤ length (others_of (Controlling c))
number_within c =
    let low = number_low c.agents in
    let front = peers_named c.peers in
    let back = length-map c.agents name_there in
    let both = length-append (names_of c.peers) (map name_there c.agents) in
    omega (arith, low, front, back, both)

pub number_near : (n : Inner) (o : Outer) (c : Controls) (number : ℕ) → AreHalves n o → n.who ≡ Controlling c → number ≡ number_for c
    → number ≤ length o.others
number_near n o c number h who is =
    let low = number_within c in
    let long : length o.others ≡ length (others_of (Controlling c)) = ap length h.others ∙ ap (λ (w : Who). length (others_of w)) who in
    omega (arith, low, long, is)

-- a control node is not the first node
pub not_first : (ns : List Inner) (os : List Outer) (k : ℕ) (x : Who) → AreAllHalves ns os → k < length (joined ns os)
    → (inner ns 0).who ≡ x → ((c : Controls) → x ≡ Controlling c → ⊥) → ((c : Controls) × ((seat (joined ns os) k).who ≡ Controlling c)) → 0 < k
not_first [] [] k x h below first other control = absurd (omega arith)
not_first [] (o ∷ os) k x h below first other control = absurd h
not_first (n ∷ ns) [] k x h below first other control = absurd h
not_first (n ∷ ns) (o ∷ os) zero x h below first other control = absurd (other control.0 (sym first ∙ control.1))
not_first (n ∷ ns) (o ∷ os) (suc k) x h below first other control = omega arith

-- where nothing is left but the first node
pub first_left : (ns ns' left : List Inner) (os edges : List Outer) (j k : ℕ) (o' : Outer) (n' : Inner) → AreAllHalves ns os → j ≡ k → 0 < k
    → k < length os → ns' ≡ set ns k n' → left ≡ inner ns' 0 ∷ [] → edges ≡ take 1 (set os j o') → AreAllHalves left edges
first_left [] ns' left [] edges j k o' n' h same above below is now cut = absurd (omega (arith, below))
first_left [] ns' left (o ∷ os) edges j k o' n' h same above below is now cut = absurd h
first_left (n ∷ ns) ns' left [] edges j k o' n' h same above below is now cut = absurd h
first_left (n ∷ ns) ns' left (o ∷ os) edges j zero o' n' h same above below is now cut = absurd (omega (arith, above))
first_left (n ∷ ns) ns' left (o ∷ os) edges j (suc k) o' n' h same above below is now cut =
    let inside : left ≡ n ∷ [] = now ∙ ap (λ (ms : List Inner). inner ms 0 ∷ []) is in
    let outside : edges ≡ o ∷ [] = cut ∙ ap (λ (i : ℕ). take 1 (set (o ∷ os) i o')) same in
    subst (λ (ms : List Inner). AreAllHalves ms edges) (sym inside)
    (subst (λ (ps : List Outer). AreAllHalves (n ∷ []) ps) (sym outside) (h.0, tt))

-- ---- all agents
pub mapped_long : {A B : Type 0} (f : A → B) (xs : List A) → length (map f xs) ≡ length xs
mapped_long f xs = length-map xs f

pub many_inners : (x : configuration.Core) (cs : List control.Core) (agents : List agent.Core) (os : List Outer) → AreAllHalves (inners x cs agents) os
    → length os ≡ 1 + (length cs + length agents)
many_inners x cs agents os h =
    let many = as_many (inners x cs agents) os h in
    let both = length-append (map controlled cs) (map forwarded agents) in
    let controls = mapped_long controlled cs in
    let others = mapped_long forwarded agents in
    omega (arith, many, both, controls, others)

one_more_long : {A : Type 0} (place : Option ℕ) (new xs : List A) → length (replaced_at place new xs) ≤ length new + length xs
one_more_long None new xs = (let both = length-append xs new in omega (arith, both))
one_more_long (Some zero) new [] = (let both = length-append new [] in omega (arith, both))
one_more_long (Some (suc i)) new [] = (let both = length-append new [] in omega (arith, both))
one_more_long (Some zero) new (x ∷ xs) = (let both = length-append new xs in omega (arith, both))
one_more_long (Some (suc i)) new (x ∷ xs) = (let rest = one_more_long (Some i) new xs in omega (arith, rest))

all_replaced : {A : Type 0} (P : A → Type 0) (place : Option ℕ) (new xs : List A) → All P new → All P xs → All P (replaced_at place new xs)
all_replaced P None new xs h k = All-append P xs new k h
all_replaced P (Some zero) new [] h k = All-append P new [] h k
all_replaced P (Some (suc i)) new [] h k = All-append P new [] h k
all_replaced P (Some zero) new (x ∷ xs) h k = All-append P new xs h (λ j d lt. k (suc j) d (omega (arith, lt)))
all_replaced {A} P (Some (suc i)) new (x ∷ xs) h k =
    let rest = all_replaced P (Some i) new xs h (λ j d lt. k (suc j) d (omega (arith, lt))) in
    All-append P (x ∷ []) (replaced_at (Some i) new xs) (λ j d lt. elim j as (λ j. j < length (x ∷ []) → P (get_or (x ∷ []) j d)) [
      | zero ↦ λ lt. k 0 d (omega arith)
      | suc j ↦ λ lt. absurd (omega (arith, lt))
    ] lt) rest

pub right_replaced : (place : Option ℕ) (new xs ys : List agent.Core) → All IsRight new → All IsRight xs → ys ≡ replaced_at place new xs
    → All IsRight ys
right_replaced place new xs ys h k is = subst (All IsRight) (sym is) (all_replaced IsRight place new xs h k)

pub none_new : All IsRight []
none_new = λ k d lt. absurd (omega (arith, lt))

pub one_new : (a : agent.Core) → IsRight a → All IsRight (a ∷ [])
one_new a right = λ j d lt. elim j as (λ j. j < length (a ∷ []) → IsRight (get_or (a ∷ []) j d)) [
  | zero ↦ λ lt. right
  | suc j ↦ λ lt. absurd (omega (arith, lt))
] lt

-- ---- the places of agents
pub both_within : (place : Option ℕ) (first many all : ℕ) → IfSome place (λ i. i < many) → all ≡ first + many → IfSome place (λ i. first + i < all)
both_within None first many all h is = tt
both_within (Some i) first many all h is = omega (arith, h, is)

pub one_more_within : {A B : Type 0} (place : Option ℕ) (first : ℕ) (xs : List A) (os : List B) (x : A) (o : B) (xs' : List A) (os' : List B)
    → IfSome place (λ i. i < length xs) → length os ≡ first + length xs → xs' ≡ xs ++ x ∷ [] → os' ≡ os ++ o ∷ []
    → IfSome place (λ i. 1 + i < length xs') × IfSome place (λ i. 1 + (first + i) < length os')
one_more_within None first xs os x o xs' os' h long is is_too = (tt, tt)
one_more_within (Some i) first xs os x o xs' os' h long is is_too =
    let inside : length xs' ≡ length xs + 1 = ap length is ∙ length-append xs (x ∷ []) in
    let outside : length os' ≡ length os + 1 = ap length is_too ∙ length-append os (o ∷ []) in
    (omega (arith, h, inside), omega (arith, h, long, outside))

-- where the agents and the edges are other ones, the places stay
pub reseated_all : {T E : Type 0} (r : Result T E) (x : configuration.Core) (cs : List control.Core) (agents agents' : List agent.Core) (os os' : List Outer)
    (t : Topology) (name : Name) (node : Option Node) (first : ℕ) (place : Option ℕ) → AreAllHalves (inners x cs agents) os → first ≡ 1 + length cs
    → place ≡ index_from 0 (λ (o : Outer). same_name o.name name) (drop first os) → IfSome node (λ n. length n.controllers ≤ 2)
    → IfOk r (λ _. agents' ≡ replaced_at place (fresh_agents_of t node) agents)
    → IfOk r (λ _. os' ≡ replaced_at (option_map (λ i. first + i) place) (fresh_outers_of t node) os)
    → OnErr r (agents' ≡ agents) → OnErr r (os' ≡ os)
    → AreAllHalves (inners x cs agents') os'
    × IfOk r (λ _. joined (inners x cs agents') os' ≡ reseated name (seats_of t node) (joined (inners x cs agents) os))
    × (length os' ≤ 1 + length os)
reseated_all (Err e) x cs agents agents' os os' t name node first place h many found few now_agents now_edges same_agents same_edges = (
  subst (λ (as' : List agent.Core). AreAllHalves (inners x cs as') os') (sym same_agents)
      (subst (λ (ps : List Outer). AreAllHalves (inners x cs agents) ps) (sym same_edges) h),
  tt,
  (let long : length os' ≡ length os = ap length same_edges in omega (arith, long)),
)
reseated_all (Ok u) x cs agents agents' os os' t name node first place h many found few now_agents now_edges same_agents same_edges = (
  reseated_halves x cs agents agents' os os' [] t name node first place h many found few now_agents now_edges,
  reseated_seats x cs agents agents' os os' [] t name node first place h many found few now_agents now_edges,
  (let long : length os' ≡ length (replaced_at (option_map (λ i. first + i) place) (fresh_outers_of t node) os) = ap length now_edges in
      let more = one_more_long (option_map (λ i. first + i) place) (fresh_outers_of t node) os in
      let one = one_at_most t node in
      omega (arith, long, more, one)),
)
  where
    one_at_most : (t : Topology) (node : Option Node) → length (fresh_outers_of t node) ≤ 1
    one_at_most t None = omega arith
    one_at_most t (Some n) = omega arith

-- the place found is that of an agent
pub found_within : (x : configuration.Core) (cs : List control.Core) (agents : List agent.Core) (os : List Outer) (first : ℕ) (place : Option ℕ)
    (is : Outer → Bool) → AreAllHalves (inners x cs agents) os → first ≡ 1 + length cs → place ≡ index_from 0 is (drop first os)
    → IfSome place (λ i. i < length agents)
found_within x cs agents os first None is h many found = tt
found_within x cs agents os first (Some i) is h many found =
    let below = found_below is (drop first os) 0 i (sym found) in
    let rest = length-drop first os in
    let all = many_inners x cs agents os h in
    omega (arith, below, rest, all, many)
