-- The sessions of a network are listed one by one.
use Rattle.std.specs.Prelude.{◌≡◌, ◌+◌, ◌<◌, ◌≤◌, ◌++◌, ℕ, List, [], ◌∷◌, length, map, drop, true, false, cond}
use Rattle.std.specs.declared.option.Option.{Option}
use Rattle.std.specs.Option.{option_to_list}
use Rattle.std.specs.List.{All, cons_option, filter}
use Rattle.std.proofs.Common.{refl, sym, ◌∙◌, ap, subst, arith, get_or}
use Rattle.std.proofs.lemmas.List.{append-nil, append_assoc, at_drop_more, drop_all}
use Rattle.std.proofs.lemmas.List.Elements.{All-append, All-cons, filter_map-append}
use Rattle.ov_types.specs.declared.rows.NodeId.{NodeId}
use Rattle.config_types.specs.declared.topology.Node.{Node}
use Rattle.config_types.specs.declared.topology.Topology.{Topology}
use Rattle.running_nodes.specs.MachineModel.Session.{Session, Agent, Controller}
use Rattle.running_nodes.specs.MachineModel.Network.{accesses, accesses_of, between, feeds, lists, peerings}
use Rattle.running_nodes.specs.Seats.{Seat}
use Rattle.net_machine.specs.declared.ends.SessionEnds.{SessionEnds}
use Rattle.net_machine.specs.declared.round.Due.{Due}
use Rattle.net_machine.specs.Rounds.{IsDueSeated, due_at, dues}
use Rattle.net_machine.specs.Seating.{AreSeated, ends_of, order_among, order_of, peerings_of, turned}
use Rattle.net_machine.proofs.Along.{one_more}

-- where each item may give one session
pub pushed_one : {X : Type 0} (among : List X → List SessionEnds) (gives : X → Option SessionEnds)
    → ((x : X) (xs : List X) → among (x ∷ xs) ≡ cons_option (gives x) (among xs))
    → (xs : List X) (i : ℕ) (x : X) (before after : List SessionEnds) → i < length xs → x ≡ get_or xs i x
    → after ≡ before ++ option_to_list (gives x) → after ++ among (drop (i + 1) xs) ≡ before ++ among (drop i xs)
pushed_one among gives step xs i x before after h is pushed =
    (λ j. pushed j ++ among (drop (i + 1) xs)) ∙ one_more before (gives x) (among (drop (i + 1) xs))
    ∙ ap (λ es. before ++ es) (sym (at_drop_more among xs i x h ∙ (λ j. among (sym is j ∷ drop (i + 1) xs))
    ∙ step x (drop (i + 1) xs)))

-- and where it may give several, which may depend on those after it
pub pushed_some : {X : Type 0} (among : List X → List SessionEnds) (gives : X → List X → List SessionEnds)
    → ((x : X) (xs : List X) → among (x ∷ xs) ≡ gives x xs ++ among xs)
    → (xs : List X) (i : ℕ) (x : X) (before after : List SessionEnds) → i < length xs → x ≡ get_or xs i x
    → after ≡ before ++ gives x (drop (i + 1) xs) → after ++ among (drop (i + 1) xs) ≡ before ++ among (drop i xs)
pushed_some among gives step xs i x before after h is pushed =
    (λ j. pushed j ++ among (drop (i + 1) xs))
    ∙ append_assoc before (gives x (drop (i + 1) xs)) (among (drop (i + 1) xs))
    ∙ ap (λ es. before ++ es) (sym (at_drop_more among xs i x h ∙ (λ j. among (sym is j ∷ drop (i + 1) xs))
    ∙ step x (drop (i + 1) xs)))

pub pushed_all : {X : Type 0} (among : List X → List SessionEnds) → among [] ≡ [] → (xs : List X) (i : ℕ)
    (before all : List SessionEnds) → length xs ≤ i → before ++ among (drop i xs) ≡ all → before ≡ all
pushed_all among none xs i before all h e =
    sym (append-nil before) ∙ ap (λ es. before ++ es) (sym (ap among (drop_all i xs h) ∙ none)) ∙ e

module _ (seats : List Seat) where
  pub peerings_step : (c : NodeId) (cs : List NodeId)
      → order_among seats (peerings (c ∷ cs)) ≡ order_among seats (peerings_of c cs) ++ order_among seats (peerings cs)
  peerings_step c cs =
      filter_map-append (λ (s : Session). ends_of seats s.near.name s.far.name) (peerings_of c cs) (peerings cs)

  pub accesses_step : (controllers : List NodeId) (n : Node) (ns : List Node)
      → order_among seats (accesses controllers (n ∷ ns))
      ≡ order_among seats (accesses_of controllers n) ++ order_among seats (accesses controllers ns)
  accesses_step controllers n ns =
      filter_map-append (λ (s : Session). ends_of seats s.near.name s.far.name) (accesses_of controllers n)
      (accesses controllers ns)

  pub access_step : (n : Node) (c : NodeId) (cs : List NodeId)
      → order_among seats (accesses_of (c ∷ cs) n)
      ≡ order_among seats (accesses_of (c ∷ []) n) ++ order_among seats (accesses_of cs n)
  access_step n c cs =
      elim (lists n c) as (λ b. order_among seats (map (λ (c : NodeId). between c.name Controller n.name Agent)
      (cond b (c ∷ filter (lists n) cs) (filter (lists n) cs)))
      ≡ order_among seats (map (λ (c : NodeId). between c.name Controller n.name Agent) (cond b (c ∷ []) []))
      ++ order_among seats (accesses_of cs n)) [
        | true ↦ filter_map-append (λ (s : Session). ends_of seats s.near.name s.far.name)
            (between c.name Controller n.name Agent ∷ []) (accesses_of cs n)
        | false ↦ refl
      ]

  -- ---- what waits
  pub dues_step : (before after : List Due) (order : List SessionEnds) (i : ℕ) (d : SessionEnds) → i < length order
      → after ≡ before ++ due_at seats (turned (get_or order i d)) ∷ due_at seats (get_or order i d) ∷ []
      → after ++ dues seats (drop (i + 1) order) ≡ before ++ dues seats (drop i order)
  dues_step before after order i d h pushed =
      let e = get_or order i d in
      (λ j. pushed j ++ dues seats (drop (i + 1) order))
      ∙ append_assoc before (due_at seats (turned e) ∷ due_at seats e ∷ []) (dues seats (drop (i + 1) order))
      ∙ ap (λ ds. before ++ ds) (sym (at_drop_more (dues seats) order i d h))

  pub dues_all : (before all : List Due) (order : List SessionEnds) (i : ℕ) → length order ≤ i
      → before ++ dues seats (drop i order) ≡ all → before ≡ all
  dues_all before all order i h e =
      sym (append-nil before) ∙ ap (λ ds. before ++ ds) (sym (ap (dues seats) (drop_all i order h))) ∙ e

  pub dues_seated : (before after : List Due) (e : SessionEnds) → AreSeated seats e → All (IsDueSeated seats) before
      → after ≡ before ++ due_at seats (turned e) ∷ due_at seats e ∷ [] → All (IsDueSeated seats) after
  dues_seated before after e is all pushed =
      subst (All (IsDueSeated seats)) (sym pushed)
      (All-append (IsDueSeated seats) before (due_at seats (turned e) ∷ due_at seats e ∷ []) all
      (All-cons (IsDueSeated seats) (due_at seats (turned e)) (due_at seats e ∷ [])
      (record { near = is.far; far = is.near; near_other = is.far_other; far_other = is.near_other })
      (All-cons (IsDueSeated seats) (due_at seats e) [] is (λ k d h. absurd (omega (arith, h))))))

-- ---- feeds, then the sessions between control nodes, and then those of agents
pub order_parts : (seats : List Seat) (t : Topology) (cs : List NodeId) (ns : List Node)
    (none first second third : List SessionEnds) → cs ≡ t.controllers → ns ≡ t.nodes → none ≡ []
    → first ≡ none ++ order_among seats (feeds cs) → second ≡ first ++ order_among seats (peerings cs)
    → third ≡ second ++ order_among seats (accesses cs ns) → third ≡ order_of seats t
order_parts seats t cs ns none first second third c n none_is f s a =
    let give = λ (s : Session). ends_of seats s.near.name s.far.name in
    let ct = t.controllers in
    a ∙ (λ j. s j ++ order_among seats (accesses (c j) (n j)))
    ∙ (λ j. (f j ++ order_among seats (peerings (c j))) ++ order_among seats (accesses ct t.nodes))
    ∙ (λ j. ((none_is j ++ order_among seats (feeds (c j))) ++ order_among seats (peerings ct))
    ++ order_among seats (accesses ct t.nodes))
    ∙ sym (filter_map-append give (feeds ct ++ peerings ct) (accesses ct t.nodes)
    ∙ ap (λ es. es ++ order_among seats (accesses ct t.nodes)) (filter_map-append give (feeds ct) (peerings ct)))
