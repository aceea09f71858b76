-- The seat of an agent in the place of another's, or behind all.
use Rattle.std.proofs.Common.{◌≡◌, ◌<◌, ◌≤◌, ◌+◌, ◌-◌, ◌&&◌, ℕ, zero, suc, Bool, true, false, if◌then◌else◌, Option, Some, None, List, [], ◌∷◌, ◌++◌, length, map, take, drop, get_or, set, sym, ◌∙◌, ap, refl, subst, arith, IfSome, swap_remove, length-append}
use Rattle.std.specs.Option.{option_map}
use Rattle.ov_types.specs.First.{same_name}
use Rattle.config_types.specs.declared.topology.Node.{Node}
use Rattle.config_types.specs.declared.topology.Topology.{Topology}
use Rattle.running_nodes.specs.ConfigNode.Core as configuration
use Rattle.running_nodes.specs.ControlNode.Core as control
use Rattle.agent_node.specs.Core as agent
use Rattle.running_nodes.specs.MachineModel.Session.{Agent}
use Rattle.running_nodes.specs.MachineModel.Network.{same_role}
use Rattle.running_nodes.specs.MachineModel.Setup.{Name}
use Rattle.running_nodes.specs.Moving.{is_agent_named, reseated, seats_of}
use Rattle.running_nodes.specs.Seats.{Forwarding, Seat, agent_plan, index_from, name_of, role_of}
use Rattle.running_nodes.specs.Cores.{configured, controlled, forwarded, inners}
use Rattle.running_nodes.specs.Fresh.{fresh_agents_of, fresh_outers_of, replaced_at}
use Rattle.running_nodes.specs.Halves.{AreAllHalves, Inner, Outer, joined, whole}
use Rattle.running_nodes.proofs.Made.{agent_few, fresh_halves, fresh_joined, inner_agent}

-- ---- lists
shifted : {A : Type 0} (p : A → Bool) (xs : List A) (k : ℕ) → index_from (suc k) p xs ≡ option_map (λ i. suc i) (index_from k p xs)
shifted p [] k = refl
shifted p (x ∷ xs) k = by_test (p x) (shifted p xs (suc k))
  where
    by_test : (b : Bool) → index_from (suc (suc k)) p xs ≡ option_map (λ i. suc i) (index_from (suc k) p xs)
        → (if b then Some (suc k) else index_from (suc (suc k)) p xs)
        ≡ option_map (λ i. suc i) (if b then Some k else index_from (suc k) p xs)
    by_test true rest = refl
    by_test false rest = rest

further : {A : Type 0} (o : Option ℕ) (new xs : List A) (x : A)
    → x ∷ replaced_at o new xs ≡ replaced_at (option_map (λ i. suc i) o) new (x ∷ xs)
further None new xs x = refl
further (Some i) new xs x = refl

reseated_is : (name : Name) (new seats : List Seat)
    → reseated name new seats ≡ replaced_at (index_from 0 (is_agent_named name) seats) new seats
reseated_is name new [] = refl
reseated_is name new (n ∷ seats) = by_test (is_agent_named name n) (reseated_is name new seats)
  where
    by_test : (b : Bool) → reseated name new seats ≡ replaced_at (index_from 0 (is_agent_named name) seats) new seats
        → (if b then new ++ seats else n ∷ reseated name new seats)
        ≡ replaced_at (if b then Some 0 else index_from 1 (is_agent_named name) seats) new (n ∷ seats)
    by_test true rest = refl
    by_test false rest =
        ap (λ (ss : List Seat). n ∷ ss) rest
        ∙ (further (index_from 0 (is_agent_named name) seats) new seats n
        ∙ ap (λ (o : Option ℕ). replaced_at o new (n ∷ seats)) (sym (shifted (is_agent_named name) seats 0)))

replaced_mapped : {A B : Type 0} (f : A → B) (o : Option ℕ) (new xs : List A)
    → map f (replaced_at o new xs) ≡ replaced_at o (map f new) (map f xs)
replaced_mapped {A} {B} f None new xs = map_both xs new
  where
    map_both : (xs ys : List A) → map f (xs ++ ys) ≡ map f xs ++ map f ys
    map_both [] ys = refl
    map_both (x ∷ xs) ys = ap (λ (zs : List B). f x ∷ zs) (map_both xs ys)
replaced_mapped {A} {B} f (Some zero) new [] = map_both new []
  where
    map_both : (xs ys : List A) → map f (xs ++ ys) ≡ map f xs ++ map f ys
    map_both [] ys = refl
    map_both (x ∷ xs) ys = ap (λ (zs : List B). f x ∷ zs) (map_both xs ys)
replaced_mapped {A} {B} f (Some (suc i)) new [] = map_both new []
  where
    map_both : (xs ys : List A) → map f (xs ++ ys) ≡ map f xs ++ map f ys
    map_both [] ys = refl
    map_both (x ∷ xs) ys = ap (λ (zs : List B). f x ∷ zs) (map_both xs ys)
replaced_mapped {A} {B} f (Some zero) new (x ∷ xs) = map_both new xs
  where
    map_both : (xs ys : List A) → map f (xs ++ ys) ≡ map f xs ++ map f ys
    map_both [] ys = refl
    map_both (x ∷ xs) ys = ap (λ (zs : List B). f x ∷ zs) (map_both xs ys)
replaced_mapped {A} {B} f (Some (suc i)) new (x ∷ xs) = ap (λ (ys : List B). f x ∷ ys) (replaced_mapped f (Some i) new xs)

-- behind a front that stays
replaced_behind : {A : Type 0} (front new xs : List A) (o : Option ℕ)
    → replaced_at (option_map (λ i. length front + i) o) new (front ++ xs) ≡ front ++ replaced_at o new xs
replaced_behind {A} [] new xs None = refl
replaced_behind {A} [] new xs (Some i) =
    ap (λ (n : ℕ). replaced_at (Some n) new xs) (let e : 0 + i ≡ i = omega arith in e)
replaced_behind {A} (x ∷ front) new xs None = ap (λ (ys : List A). x ∷ ys) (replaced_behind front new xs None)
replaced_behind {A} (x ∷ front) new xs (Some i) =
    ap (λ (n : ℕ). replaced_at (Some n) new (x ∷ (front ++ xs))) (let e : length (x ∷ front) + i ≡ suc (length front + i) = omega arith in e)
    ∙ ap (λ (ys : List A). x ∷ ys) (replaced_behind front new xs (Some i))

-- ---- both halves
joined_both : (ns ms : List Inner) (os ps : List Outer) → AreAllHalves ns os → joined (ns ++ ms) (os ++ ps) ≡ joined ns os ++ joined ms ps
joined_both [] ms [] ps h = refl
joined_both [] ms (o ∷ os) ps h = absurd h
joined_both (n ∷ ns) ms [] ps h = absurd h
joined_both (n ∷ ns) ms (o ∷ os) ps h = ap (λ (ss : List Seat). whole n o ∷ ss) (joined_both ns ms os ps h.1)

halves_both : (ns ms : List Inner) (os ps : List Outer) → AreAllHalves ns os → AreAllHalves ms ps → AreAllHalves (ns ++ ms) (os ++ ps)
halves_both [] ms [] ps h k = k
halves_both [] ms (o ∷ os) ps h k = absurd h
halves_both (n ∷ ns) ms [] ps h k = absurd h
halves_both (n ∷ ns) ms (o ∷ os) ps h k = (h.0, halves_both ns ms os ps h.1 k)

replaced_joined : (o : Option ℕ) (ns ms : List Inner) (os ps : List Outer) → AreAllHalves ns os → AreAllHalves ms ps
    → joined (replaced_at o ms ns) (replaced_at o ps os) ≡ replaced_at o (joined ms ps) (joined ns os)
replaced_joined None ns ms os ps h k = joined_both ns ms os ps h
replaced_joined (Some zero) [] ms [] ps h k = joined_both ms [] ps [] k
replaced_joined (Some (suc i)) [] ms [] ps h k = joined_both ms [] ps [] k
replaced_joined (Some i) [] ms (o ∷ os) ps h k = absurd h
replaced_joined (Some i) (n ∷ ns) ms [] ps h k = absurd h
replaced_joined (Some zero) (n ∷ ns) ms (o ∷ os) ps h k = joined_both ms ns ps os k
replaced_joined (Some (suc i)) (n ∷ ns) ms (o ∷ os) ps h k =
    ap (λ (ss : List Seat). whole n o ∷ ss) (replaced_joined (Some i) ns ms os ps h.1 k)

replaced_halves : (o : Option ℕ) (ns ms : List Inner) (os ps : List Outer) → AreAllHalves ns os → AreAllHalves ms ps
    → AreAllHalves (replaced_at o ms ns) (replaced_at o ps os)
replaced_halves None ns ms os ps h k = halves_both ns ms os ps h k
replaced_halves (Some zero) [] ms [] ps h k = halves_both ms [] ps [] k h
replaced_halves (Some (suc i)) [] ms [] ps h k = halves_both ms [] ps [] k h
replaced_halves (Some i) [] ms (o ∷ os) ps h k = absurd h
replaced_halves (Some i) (n ∷ ns) ms [] ps h k = absurd h
replaced_halves (Some zero) (n ∷ ns) ms (o ∷ os) ps h k = halves_both ms ns ps os k h.1
replaced_halves (Some (suc i)) (n ∷ ns) ms (o ∷ os) ps h k = (h.0, replaced_halves (Some i) ns ms os ps h.1 k)

-- ---- the place of a name
same_place : (agents : List agent.Core) (os : List Outer) (k : ℕ) (name : Name) → AreAllHalves (map forwarded agents) os
    → index_from k (is_agent_named name) (joined (map forwarded agents) os) ≡ index_from k (λ (o : Outer). same_name o.name name) os
same_place [] [] k name h = refl
same_place [] (o ∷ os) k name h = absurd h
same_place (a ∷ agents) [] k name h = absurd h
same_place (a ∷ agents) (o ∷ os) k name h =
    ap (λ (r : Option ℕ). if same_name a.plan.me.name name then Some k else r) (same_place agents os (suc k) name h.1)
    ∙ ap (λ (m : Name). if same_name m name then Some k else index_from (suc k) (λ (o : Outer). same_name o.name name) os) (sym h.0.name)

abbrev IsOther : Inner → Type 0
IsOther n = same_role Agent (role_of n.who) ≡ false

past_front : (front : List Inner) (agents : List agent.Core) (os : List Outer) (name : Name)
    → ((k : ℕ) (d : Inner) → k < length front → IsOther (get_or front k d)) → AreAllHalves (front ++ map forwarded agents) os
    → index_from 0 (is_agent_named name) (joined (front ++ map forwarded agents) os)
    ≡ option_map (λ i. length front + i) (index_from 0 (λ (o : Outer). same_name o.name name) (drop (length front) os))
past_front [] agents os name other h = same_place agents os 0 name h ∙ none_more (index_from 0 (λ (o : Outer). same_name o.name name) os)
  where
    none_more : (o : Option ℕ) → o ≡ option_map (λ i. 0 + i) o
    none_more None = refl
    none_more (Some i) = ap (λ (n : ℕ). Some n) (let e : i ≡ 0 + i = omega arith in e)
past_front (n ∷ front) agents [] name other h = absurd h
past_front (n ∷ front) agents (o ∷ os) name other h =
    let rest = past_front front agents os name (λ k d lt. other (suc k) d (omega (arith, lt))) h.1 in
    ap (λ (b : Bool). if b && same_name (name_of n.who) name then Some 0 else index_from 1 (is_agent_named name) (joined (front ++ map forwarded agents) os)) (other 0 n (omega arith))
    ∙ (shifted (is_agent_named name) (joined (front ++ map forwarded agents) os) 0
    ∙ (ap (λ (r : Option ℕ). option_map (λ i. suc i) r) rest
    ∙ one_more (index_from 0 (λ (o : Outer). same_name o.name name) (drop (length front) os))))
  where
    one_more : (r : Option ℕ) → option_map (λ i. suc i) (option_map (λ i. length front + i) r) ≡ option_map (λ i. length (n ∷ front) + i) r
    one_more None = refl
    one_more (Some i) = ap (λ (k : ℕ). Some k) (let e : suc (length front + i) ≡ length (n ∷ front) + i = omega arith in e)

-- ---- all of it
all_controls : (cs : List control.Core) (k : ℕ) (d : Inner) → k < length (map controlled cs) → IsOther (get_or (map controlled cs) k d)
all_controls [] k d lt = absurd (omega arith)
all_controls (c ∷ cs) zero d lt = refl
all_controls (c ∷ cs) (suc k) d lt = all_controls cs k d (omega arith)

all_before : (x : configuration.Core) (cs : List control.Core) (k : ℕ) (d : Inner) → k < length (configured x ∷ map controlled cs)
    → IsOther (get_or (configured x ∷ map controlled cs) k d)
all_before x cs zero d lt = refl
all_before x cs (suc k) d lt = all_controls cs k d (omega arith)

as_many_front : (x : configuration.Core) (cs : List control.Core) → length (configured x ∷ map controlled cs) ≡ 1 + length cs
as_many_front x [] = omega arith
as_many_front x (c ∷ cs) = (let rest = as_many_front x cs in omega (arith, rest))

new_halves : (t : Topology) (o : Option Node) → IfSome o (λ n. length n.controllers ≤ 2)
    → AreAllHalves (map forwarded (fresh_agents_of t o)) (fresh_outers_of t o)
new_halves t None few = tt
new_halves t (Some n) few =
    subst (λ (ns : List Inner). AreAllHalves ns (fresh_outers_of t (Some n))) (sym (ap (λ (m : Inner). m ∷ []) (inner_agent t n)))
    (fresh_halves (Forwarding (agent_plan t n) ∷ []) (agent_few t n few, tt))

new_joined : (t : Topology) (o : Option Node) → joined (map forwarded (fresh_agents_of t o)) (fresh_outers_of t o) ≡ seats_of t o
new_joined t None = refl
new_joined t (Some n) =
    ap (λ (m : Inner). joined (m ∷ []) (fresh_outers_of t (Some n))) (inner_agent t n) ∙ fresh_joined (Forwarding (agent_plan t n) ∷ [])

module _ (x : configuration.Core) (cs : List control.Core) (agents agents' : List agent.Core) (os os' : List Outer) (seats : List Seat)
    (t : Topology) (name : Name) (node : Option Node) (first : ℕ) (place : Option ℕ)
    (h : AreAllHalves (inners x cs agents) os) (many : first ≡ 1 + length cs)
    (found : place ≡ index_from 0 (λ (o : Outer). same_name o.name name) (drop first os))
    (few : IfSome node (λ n. length n.controllers ≤ 2))
    (now_agents : agents' ≡ replaced_at place (fresh_agents_of t node) agents)
    (now_edges : os' ≡ replaced_at (option_map (λ i. first + i) place) (fresh_outers_of t node) os) where
  abbrev front : List Inner
  front = configured x ∷ map controlled cs

  abbrev all_places : Option ℕ
  all_places = option_map (λ i. first + i) place

  long_front : length front ≡ first
  long_front = as_many_front x cs ∙ sym many

  inners_now : inners x cs agents' ≡ replaced_at all_places (map forwarded (fresh_agents_of t node)) (inners x cs agents)
  inners_now =
      ap (λ (as' : List agent.Core). front ++ map forwarded as') now_agents
      ∙ (ap (λ (ns : List Inner). front ++ ns) (replaced_mapped forwarded place (fresh_agents_of t node) agents)
      ∙ (sym (replaced_behind front (map forwarded (fresh_agents_of t node)) (map forwarded agents) place)
      ∙ ap (λ (n : ℕ). replaced_at (option_map (λ i. n + i) place) (map forwarded (fresh_agents_of t node)) (front ++ map forwarded agents)) long_front))

  pub reseated_halves : AreAllHalves (inners x cs agents') os'
  reseated_halves =
      subst (λ (ns : List Inner). AreAllHalves ns os') (sym inners_now)
      (subst (λ (ps : List Outer). AreAllHalves (replaced_at all_places (map forwarded (fresh_agents_of t node)) (inners x cs agents)) ps) (sym now_edges)
      (replaced_halves all_places (inners x cs agents) (map forwarded (fresh_agents_of t node)) os (fresh_outers_of t node) h (new_halves t node few)))

  place_is : index_from 0 (is_agent_named name) (joined (inners x cs agents) os) ≡ all_places
  place_is =
      past_front front agents os name (all_before x cs) h
      ∙ (ap (λ (n : ℕ). option_map (λ i. n + i) (index_from 0 (λ (o : Outer). same_name o.name name) (drop n os))) long_front
      ∙ ap (λ (o : Option ℕ). option_map (λ i. first + i) o) (sym found))

  pub reseated_seats : joined (inners x cs agents') os' ≡ reseated name (seats_of t node) (joined (inners x cs agents) os)
  reseated_seats =
      ap (λ (ns : List Inner). joined ns os') inners_now
      ∙ (ap (λ (ps : List Outer). joined (replaced_at all_places (map forwarded (fresh_agents_of t node)) (inners x cs agents)) ps) now_edges
      ∙ (replaced_joined all_places (inners x cs agents) (map forwarded (fresh_agents_of t node)) os (fresh_outers_of t node) h (new_halves t node few)
      ∙ (ap (λ (ss : List Seat). replaced_at all_places ss (joined (inners x cs agents) os)) (new_joined t node)
      ∙ (ap (λ (o : Option ℕ). replaced_at o (seats_of t node) (joined (inners x cs agents) os)) (sym place_is)
      ∙ sym (reseated_is name (seats_of t node) (joined (inners x cs agents) os))))))

-- ---- the last item in the place of another
set_parts : {A : Type 0} (xs : List A) (i : ℕ) (a : A) → i < length xs → set xs i a ≡ take i xs ++ (a ∷ drop (suc i) xs)
set_parts [] i a lt = absurd (omega arith)
set_parts (x ∷ xs) zero a lt = refl
set_parts {A} (x ∷ xs) (suc i) a lt = ap (λ (ys : List A). x ∷ ys) (set_parts xs i a (omega arith))

set_front : {A : Type 0} (xs ys : List A) (i : ℕ) (a : A) → i < length xs → set (xs ++ ys) i a ≡ set xs i a ++ ys
set_front [] ys i a lt = absurd (omega arith)
set_front (x ∷ xs) ys zero a lt = refl
set_front {A} (x ∷ xs) ys (suc i) a lt = ap (λ (zs : List A). x ∷ zs) (set_front xs ys i a (omega arith))

take_front : {A : Type 0} (xs ys : List A) → take (length xs) (xs ++ ys) ≡ xs
take_front [] ys = refl
take_front {A} (x ∷ xs) ys = ap (λ (zs : List A). x ∷ zs) (take_front xs ys)

last_of : {A : Type 0} (xs : List A) (a d : A) → get_or (xs ++ a ∷ []) (length xs) d ≡ a
last_of [] a d = refl
last_of (x ∷ xs) a d = last_of xs a d

set_long : {A : Type 0} (xs : List A) (i : ℕ) (a : A) → length (set xs i a) ≡ length xs
set_long [] i a = refl
set_long (x ∷ xs) zero a = refl
set_long (x ∷ xs) (suc i) a = ap suc (set_long xs i a)

pub last_put : {A : Type 0} (all xs : List A) (a d : A) (i : ℕ) → all ≡ xs ++ a ∷ [] → i < length xs
    → swap_remove all i d ≡ replaced_at (Some i) (a ∷ []) xs
last_put {A} all xs a d i is lt =
    let long : length (xs ++ a ∷ []) - 1 ≡ length xs = (let both = length-append xs (a ∷ []) in omega (arith, both)) in
    ap (λ (ys : List A). swap_remove ys i d) is
    ∙ (ap (λ (n : ℕ). take n (set (xs ++ a ∷ []) i (get_or (xs ++ a ∷ []) n d))) long
    ∙ (ap (λ (b : A). take (length xs) (set (xs ++ a ∷ []) i b)) (last_of xs a d)
    ∙ (ap (λ (ys : List A). take (length xs) ys) (set_front xs (a ∷ []) i a lt)
    ∙ (ap (λ (n : ℕ). take n (set xs i a ++ a ∷ [])) (sym (set_long xs i a))
    ∙ (take_front (set xs i a) (a ∷ []) ∙ set_parts xs i a lt)))))

-- the last one comes to a place
pub last_came : {A : Type 0} (all ys xs : List A) (a d : A) (j i : ℕ) → j ≡ i → ys ≡ swap_remove all j d → 1 + i < length all
    → all ≡ xs ++ a ∷ [] → ys ≡ replaced_at (Some i) (a ∷ []) xs
last_came all ys xs a d j i same now lt is =
    let long = length-append xs (a ∷ []) in
    let many : length all ≡ length (xs ++ a ∷ []) = ap length is in
    now ∙ (ap (λ (n : ℕ). swap_remove all n d) same ∙ last_put all xs a d i is (omega (arith, lt, long, many)))
