-- What a round takes of one direction, with sessions down or not: all of concern that was in flight as it began.
use Rattle.std.specs.Prelude.{◌≡◌, ◌⊎◌, ℕ, zero, suc, ◌+◌, ◌-◌, ◌<◌, ◌≤◌, List, [], ◌∷◌, map, length, Bool, true, false, cond, ◌&&◌, ◌==◌}
use Rattle.std.specs.declared.option.Option.{Option}
use Rattle.std.specs.declared.option.Option.TheVariants.{Some, None}
use Rattle.std.specs.Option.{unwrap_or, option_map}
use Rattle.std.specs.List.{list_all, flat_map}
use Rattle.std.specs.FinMap.{get}
use mathlib.Core.Bool.{beq}
use Rattle.std.specs.Cmp.Lexicographic.{bytes_decides}
use Rattle.std.proofs.lemmas.Bool.{true≢false, and_parts, eqb-true}
use Rattle.std.proofs.lemmas.Option.{same_Some}
use Rattle.std.proofs.Common.{refl, sym, ◌∙◌, ap, subst, inl, inr, arith}
use Rattle.node_laws.specs.NodeModel.Keys.{Key}
use Rattle.node_laws.specs.NodeModel.Values.{Value}
use Rattle.node_laws.specs.NodeModel.Maps.{Map}
use Rattle.ov_types.specs.First.{same_name}
use Rattle.machine_model.specs.Setup.{Name}
use Rattle.machine_model.specs.Session.{Role, Message, Session, SessionEnd, turned, are_peers, may_send, passed, arrived, octets_arrived, waiting}
use Rattle.machine_model.specs.Network.{MachineState, is_at, view, views_of, wanted}
use Rattle.machine_model.specs.Steps.{at_node, joins, with_session, change_session, pass, session_in, in_flight, repeat, deliver, Due as Waiting, due_at, dues, notice_stands, deliver_due, deliver_all, round}
use Rattle.machine_model.specs.Events.{MachineEvent, Edits, Deliver, DeliverOctets, Lose, Connect, Restart, Round, Settle, Show, Trace, Break, next, after}
use Rattle.machine_model.specs.Rounds.{is_delivery, taken_by, taken_of, AreRounds, after_rounds}
use Rattle.machine_model.specs.Moments.{Each, NodePair, nodes}
use Rattle.machine_model.proofs.NetworkFact.{KeepsNodes, passed_nodes, at_node_nodes, found}
use Rattle.machine_model.proofs.NodesFact.{arrived_nodes, octets_nodes}
use Rattle.machine_model.proofs.Walk.{Takes, delivers_walk, due_walk, dues_walk, all_walk, round_walk}
use Rattle.machine_model.proofs.Twins.{NoTwins, found_changed, found_node, Pairs, MaybeBoth, pairs_found, pairs_session}
use Rattle.machine_laws.specs.Settling.{back}
use Rattle.machine_laws.proofs.SettleFact.{Hush, round_hush}
use Rattle.machine_moment_laws.proofs.Drains.{IsFit, fit_turned, Due, due_more, TakenDue, arrived_due, octets_due, passed_due, passed_due_far, arrived_one, idle_due, lost_due, due_begins}

module _ (size : Name → Message → ℕ) (positive : (n : Name) (m : Message) → 0 < size n m) (concern : Role → Role → Key → Bool) (unpeered : (r q : Role) (k : Key) → concern r q k ≡ true → are_peers r q ≡ false) (goal : Name → Name → Key → Option Value) where
  abbrev Fit : Session → Type 0
  Fit s = IsFit size positive concern unpeered goal s

  abbrev D : NodePair → ℕ → Session → Type 0
  D p n s = Due size positive concern unpeered goal p n s

  abbrev pub AreFit : MachineState → Type 0
  AreFit w = Each Fit w.sessions

  -- what the node wants at its ends is right where it is of concern
  abbrev pub WantsRight : MachineState → Name → Type 0
  WantsRight w n =
      (s : Session) → s.near.name ≡ n → (k : Key) → concern s.near.role s.far.role k ≡ true
      → get (wanted w.setup (views_of n w.sessions) (view s)) k ≡ goal s.near.name s.far.name k

  -- what stands at every moment of a round
  pub record Standing (Good : MachineState → Type 0) : Type 0 where
    pub fit : (w : MachineState) → Good w → AreFit w
    pub right : (w : MachineState) → Good w → (n : Name) → WantsRight w n
    pub arrives : (from to : Name) (w : MachineState) → Good w → Good (change_session to from arrived w)
    pub octets : (k : ℕ) (from to : Name) (w : MachineState) → Good w → Good (change_session to from (octets_arrived size k) w)
    pub passes : (n : Name) (w : MachineState) → Good w → Good (pass n w)

  -- ---- one session before and after a step
  pub record OneWay (s t : Session) : Type 0 where
    pub down : t.is_down ≡ s.is_down
    pub same : nodes t ≡ nodes s
    pub hush : s.near.notice ≡ false → t.near.notice ≡ false
    pub due : (n : ℕ) → D (nodes s) n s → D (nodes s) n t

  abbrev Ways : Session → Session → Type 0
  Ways s t = OneWay s t × OneWay (turned s) (turned t)

  ways_both : (s t : Session) → Ways s t → Ways (turned s) (turned t)
  ways_both s t w = (w.1, w.0)

  way_same : (s : Session) → OneWay s s
  way_same s = record { down = refl; same = refl; hush = λ e. e; due = λ n d. d }

  ways_same : (s : Session) → Ways s s
  ways_same s = (way_same s, way_same (turned s))

  turned_same : (s t : Session) → nodes t ≡ nodes s → nodes (turned t) ≡ nodes (turned s)
  turned_same s t e = ap back e

  abbrev IsTaking : (Session → Session) → Type 0
  IsTaking f = KeepsNodes f × ((p : NodePair) (s : Session) → nodes s ≡ p → Fit s → TakenDue size positive concern unpeered goal p s (f s))

  more_add : (c n : ℕ) → n ≤ c + n
  more_add c n = omega arith

  ways_taking : (f : Session → Session) → IsTaking f → (s : Session) → Fit s → Ways s (f s)
  ways_taking f h s fit =
      let t = h.1 (nodes s) s refl fit in (
        record { down = t.down; same = h.0 s; hush = λ _. t.hush; due = λ n d. t.due n (due_more size positive concern unpeered goal (nodes s) n (t.count + n) s (more_add t.count n) d) },
        record { down = t.down; same = turned_same s (f s) (h.0 s); hush = t.hush_far; due = t.due_back },
      )

  ways_passed : (w : MachineState) (n : Name) → WantsRight w n → (s : Session) → s.near.name ≡ n → Fit s → Ways s (passed (wanted w.setup (views_of n w.sessions) (view s)) s)
  ways_passed w n right s at fit =
      let m : Map = wanted w.setup (views_of n w.sessions) (view s) in
      let q = passed_due size positive concern unpeered goal (nodes s) m s refl fit in (
        record { down = q.down; same = passed_nodes m s; hush = λ e. q.notice ∙ e; due = λ k d. passed_due_far size positive concern unpeered goal (nodes s) m s refl fit k d },
        record { down = q.down; same = turned_same s (passed m s) (passed_nodes m s); hush = λ e. ap (λ (e : SessionEnd). e.notice) q.far ∙ e; due = q.due_back (right s at) },
      )

  ways_pass : (w : MachineState) (n : Name) → WantsRight w n → (ss : List Session) → Each Fit ss → Pairs Ways ss (map (at_node n (λ s. passed (wanted w.setup (views_of n w.sessions) (view s)) s)) ss)
  ways_pass w n right [] e = tt
  ways_pass w n right (s ∷ ss) e = (at_node_nodes n f (λ s. passed_nodes (wanted w.setup (views_of n w.sessions) (view s)) s) s, at_one, ways_pass w n right ss e.1)
    where
      f : Session → Session
      f s = passed (wanted w.setup (views_of n w.sessions) (view s)) s

      at_one : Ways s (at_node n f s)
      at_one =
          elim (is_at n s.near) as (λ c. is_at n s.near ≡ c → Ways s (cond c (f s) (cond (is_at n s.far) (turned (f (turned s))) s))) [
            | true ↦ λ at. ways_passed w n right s ((bytes_decides s.near.name n).0 at) e.0
            | false ↦ λ _. elim (is_at n s.far) as (λ c. is_at n s.far ≡ c → Ways s (cond c (turned (f (turned s))) s)) [
              | true ↦ λ at. ways_both (turned s) (f (turned s)) (ways_passed w n right (turned s) ((bytes_decides s.far.name n).0 at) (fit_turned size positive concern unpeered goal s e.0))
              | false ↦ λ _. ways_same s
            ] refl
          ] refl

  -- ---- one direction
  -- of the session of these nodes, as the second sees it
  abbrev pub Drains : NodePair → ℕ → Name → Name → MachineState → Type 0
  Drains p n a b w = (s : Session) → session_in w.sessions b a ≡ Some s → (nodes s ≡ p) × D p n s

  abbrev Silent : Name → Name → MachineState → Type 0
  Silent a b w = (s : Session) → session_in w.sessions b a ≡ Some s → s.near.notice ≡ false

  abbrev Lost : Name → Name → MachineState → Type 0
  Lost a b w = (s : Session) → session_in w.sessions b a ≡ Some s → s.is_down ≡ true

  -- what the one session keeps
  by_pairs : (P : Session → Type 0) → ((s t : Session) → OneWay s t → P s → P t) → (a b : Name) (v w : MachineState) → Pairs Ways v.sessions w.sessions
      → ((s : Session) → session_in v.sessions b a ≡ Some s → P s) → (t : Session) → session_in w.sessions b a ≡ Some t → P t
  by_pairs P h a b v w p q =
      go (session_in v.sessions b a) (session_in w.sessions b a) (pairs_found Ways ways_both b a v.sessions w.sessions p) q
    where
      go : (o u : Option Session) → MaybeBoth (λ s t. (s.near.name ≡ b) × (s.far.name ≡ a) × Ways s t) o u → ((s : Session) → o ≡ Some s → P s) → (t : Session) → u ≡ Some t → P t
      go None None m q t e = cc
      go (Some s) (Some u) m q t e = subst P (same_Some u t e) (h s u m.2.0 (q s refl))
      go None (Some u) m q t e = absurd m
      go (Some s) None m q t e = absurd m

  way_due : (p : NodePair) (n : ℕ) (s t : Session) → OneWay s t → (nodes s ≡ p) × D p n s → (nodes t ≡ p) × D p n t
  way_due p n s t w q = (w.same ∙ q.0, subst (λ p. D p n t) q.0 (w.due n (subst (λ p. D p n s) (sym q.0) q.1)))

  module _ (Good : MachineState → Type 0) (k : Standing Good) where
    pub record Keeping (Q : MachineState → Type 0) : Type 0 where
      pub taking : (f : Session → Session) → IsTaking f → (from to : Name) (w : MachineState) → Good w → Q w → Q (change_session to from f w)
      pub passing : (n : Name) (w : MachineState) → Good w → Q w → Q (pass n w)

    keeping_at : (P : Session → Type 0) → ((s t : Session) → OneWay s t → P s → P t) → (a b : Name) → Keeping (λ w. (s : Session) → session_in w.sessions b a ≡ Some s → P s)
    keeping_at P h a b = record {
      taking = λ f t from to w g q. by_pairs P h a b w (change_session to from f w)
          (pairs_session Ways ways_both ways_same Fit (fit_turned size positive concern unpeered goal) f t.0 to from (λ s _ fit. ways_taking f t s fit) w.sessions (k.fit w g)) q;
      passing = λ n w g q. by_pairs P h a b w (pass n w) (ways_pass w n (k.right w g n) w.sessions (k.fit w g)) q;
    }

    keeps_due : (p : NodePair) (n : ℕ) (a b : Name) → Keeping (Drains p n a b)
    keeps_due p n a b = keeping_at (λ s. (nodes s ≡ p) × D p n s) (way_due p n) a b

    keeps_silent : (a b : Name) → Keeping (Silent a b)
    keeps_silent a b = keeping_at (λ s. s.near.notice ≡ false) (λ s t w e. w.hush e) a b

    keeps_lost : (a b : Name) → Keeping (Lost a b)
    keeps_lost a b = keeping_at (λ s. s.is_down ≡ true) (λ s t w e. w.down ∙ e) a b

    arrival : IsTaking arrived
    arrival = (arrived_nodes, arrived_due size positive concern unpeered goal)

    octets : (n : ℕ) → IsTaking (octets_arrived size n)
    octets n = (octets_nodes size n, octets_due size positive concern unpeered goal n)

    good_takes : Takes Good
    good_takes from to w g = k.passes to (change_session to from arrived w) (k.arrives from to w g)

    -- a whole step
    keep_takes : (Q : MachineState → Type 0) → Keeping Q → Takes (λ w. Good w × Q w)
    keep_takes Q q from to w g =
        (good_takes from to w g.0, q.passing to (change_session to from arrived w) (k.arrives from to w g.0) (q.taking arrived arrival from to w g.0 g.1))

    -- ---- deliveries in this direction
    flight_of : Option Session → ℕ
    flight_of o = unwrap_or (option_map waiting o) 0

    after_taking : (f : Session → Session) → IsTaking f → (from to : Name) (w : MachineState)
        → session_in (pass to (change_session to from f w)).sessions to from
        ≡ option_map (λ s. passed (wanted w.setup (views_of to (with_session to from f w.sessions)) (view s)) s) (option_map f (session_in w.sessions to from))
    after_taking f t from to w =
        let vs = with_session to from f w.sessions in
        let W = λ (s : Session). wanted w.setup (views_of to vs) (view s) in
        found_node to from (λ s. passed (W s) s) (λ s. passed_nodes (W s) s) vs ∙ ap (option_map (λ s. passed (W s) s)) (found_changed to from f t.0 w.sessions)

    -- the receiver's pass leaves what is in flight to it
    hit_pass : (p : NodePair) (n : ℕ) (m : Map) (s : Session) → nodes s ≡ p → Fit s → D p n s → ((nodes (passed m s) ≡ p) × D p n (passed m s)) × (waiting (passed m s) ≡ waiting s)
    hit_pass p n m s e fit d =
        let q = passed_due size positive concern unpeered goal p m s e fit in
        ((passed_nodes m s ∙ e, passed_due_far size positive concern unpeered goal p m s e fit n d), (λ i. cond (q.notice i) 1 (length (q.far i).flight)))

    none_some : (t : Session) → None ≡ Some t → ⊥
    none_some t e = cc

    taking_hits : (f : Session → Session) → IsTaking f → (p : NodePair) (n : ℕ) (from to : Name) (w : MachineState) → Good w
        → Drains p ((in_flight w from to - in_flight (pass to (change_session to from f w)) from to) + n) from to w → Drains p n from to (pass to (change_session to from f w))
    taking_hits f t p n from to w g d u is =
        go (session_in w.sessions to from) refl
      where
        W : Session → Map
        W s = wanted w.setup (views_of to (with_session to from f w.sessions)) (view s)

        go : (o : Option Session) → session_in w.sessions to from ≡ o → (nodes u ≡ p) × D p n u
        go None e = absurd (none_some u (sym (after_taking f t from to w ∙ ap (λ (o : Option Session). option_map (λ s. passed (W s) s) (option_map f o)) e) ∙ is))
        go (Some s) e =
            let there : session_in (pass to (change_session to from f w)).sessions to from ≡ Some (passed (W (f s)) (f s)) = after_taking f t from to w ∙ ap (λ (o : Option Session). option_map (λ s. passed (W s) s) (option_map f o)) e in
            let fit : Fit s = found Fit (fit_turned size positive concern unpeered goal) w.sessions to from (k.fit w g) s e in
            let q = d s e in
            let td = t.1 p s q.0 fit in
            let sent = λ (j : ℕ) (h : D p j (f s)). hit_pass p j (W (f s)) (f s) (t.0 s ∙ q.0) td.fit h in
            let big = sent ((in_flight w from to - in_flight (pass to (change_session to from f w)) from to) + n)
            (td.due ((in_flight w from to - in_flight (pass to (change_session to from f w)) from to) + n) (due_more size positive concern unpeered goal p _ _ s (more_add td.count _) q.1)) in
            let before : in_flight w from to ≡ waiting s = ap (λ (o : Option Session). unwrap_or (option_map waiting o) 0) e in
            let afterwards : in_flight (pass to (change_session to from f w)) from to ≡ waiting (f s) = ap (λ (o : Option Session). unwrap_or (option_map waiting o) 0) there ∙ big.1 in
            let moved = (sent n (td.due n (due_more size positive concern unpeered goal p _ (td.count + n) s (counted (in_flight w from to) (in_flight (pass to (change_session to from f w)) from to) (waiting s) (waiting (f s)) td.count n before afterwards td.fewer) q.1))).0 in
            subst (λ (u : Session). (nodes u ≡ p) × D p n u) (same_Some (passed (W (f s)) (f s)) u (sym there ∙ is)) moved
          where
            counted : (i j x y c n : ℕ) → i ≡ x → j ≡ y → c + y ≡ x → (i - j) + n ≤ c + n
            counted i j x y c n a b h = omega (arith, a, b, h)

    abbrev stepping : (Session → Session) → Name → Name → MachineState → MachineState
    stepping f from to w = cond (in_flight w from to == 0) w (pass to (change_session to from f w))

    drains_more : (p : NodePair) (n m : ℕ) (a b : Name) (w : MachineState) → n ≤ m → Drains p n a b w → Drains p m a b w
    drains_more p n m a b w h d s is = let q = d s is in (q.0, due_more size positive concern unpeered goal p n m s h q.1)

    -- any step, seen in any direction
    stepping_drains : (f : Session → Session) → IsTaking f → ((from to : Name) (w : MachineState) → Good w → Good (change_session to from f w)) → (p : NodePair) (n : ℕ) (a b from to : Name) (w : MachineState) → Good w
        → Drains p (cond (same_name from a && same_name to b) (in_flight w a b - in_flight (stepping f from to w) a b) 0 + n) a b w → Good (stepping f from to w) × Drains p n a b (stepping f from to w)
    stepping_drains f t keeps p n a b from to w g =
        elim (in_flight w from to == 0) as (λ c. Drains p (cond (same_name from a && same_name to b) (in_flight w a b - in_flight (cond c w (pass to (change_session to from f w))) a b) 0 + n) a b w → Good (cond c w (pass to (change_session to from f w))) × Drains p n a b (cond c w (pass to (change_session to from f w)))) [
          | true ↦ λ d. (g, drains_more p (cond (same_name from a && same_name to b) (in_flight w a b - in_flight w a b) 0 + n) n a b w (none (same_name from a && same_name to b) (in_flight w a b)) d)
          | false ↦ λ d. (k.passes to (change_session to from f w) (keeps from to w g), by_direction d)
        ]
      where
        none : (c : Bool) (i : ℕ) → cond c (i - i) 0 + n ≤ n
        none true i = omega arith
        none false i = omega arith

        zero_add : 0 + n ≤ n
        zero_add = omega arith

        by_direction : Drains p (cond (same_name from a && same_name to b) (in_flight w a b - in_flight (pass to (change_session to from f w)) a b) 0 + n) a b w → Drains p n a b (pass to (change_session to from f w))
        by_direction =
            elim (same_name from a && same_name to b) as (λ c. (same_name from a && same_name to b) ≡ c → Drains p (cond c (in_flight w a b - in_flight (pass to (change_session to from f w)) a b) 0 + n) a b w → Drains p n a b (pass to (change_session to from f w))) [
              | true ↦ λ is.
                  let q = and_parts (same_name from a) (same_name to b) is in
                  subst (λ (a : Name). Drains p ((in_flight w a b - in_flight (pass to (change_session to from f w)) a b) + n) a b w → Drains p n a b (pass to (change_session to from f w))) ((bytes_decides from a).0 q.0)
                  (subst (λ (b : Name). Drains p ((in_flight w from b - in_flight (pass to (change_session to from f w)) from b) + n) from b w → Drains p n from b (pass to (change_session to from f w))) ((bytes_decides to b).0 q.1)
                  (taking_hits f t p n from to w g))
              | false ↦ λ _ d.
                  let kept = keeps_due p n a b in
                  kept.passing to (change_session to from f w) (keeps from to w g) (kept.taking f t from to w g (drains_more p (0 + n) n a b w zero_add d))
            ] refl

    delivers_drain : (c : ℕ) (p : NodePair) (n : ℕ) (a b from to : Name) (w : MachineState) → Good w
        → Drains p (cond (same_name from a && same_name to b) (in_flight w a b - in_flight (repeat c (deliver from to) w) a b) 0 + n) a b w → Good (repeat c (deliver from to) w) × Drains p n a b (repeat c (deliver from to) w)
    delivers_drain zero p n a b from to w g d =
        (g, drains_more p (cond (same_name from a && same_name to b) (in_flight w a b - in_flight w a b) 0 + n) n a b w (none (same_name from a && same_name to b) (in_flight w a b)) d)
      where
        none : (c : Bool) (i : ℕ) → cond c (i - i) 0 + n ≤ n
        none true i = omega arith
        none false i = omega arith
    delivers_drain (suc c) p n a b from to w g d =
        let v = deliver from to w in
        let rest = cond (same_name from a && same_name to b) (in_flight v a b - in_flight (repeat c (deliver from to) v) a b) 0 + n in
        let one = stepping_drains arrived arrival k.arrives p rest a b from to w g
        (drains_more p _ (cond (same_name from a && same_name to b) (in_flight w a b - in_flight v a b) 0 + rest) a b w (by_steps (same_name from a && same_name to b) (in_flight w a b) (in_flight v a b) (in_flight (repeat c (deliver from to) v) a b) n) d) in
        delivers_drain c p n a b from to v one.0 one.1
      where
        by_steps : (q : Bool) (i j l o : ℕ) → cond q (i - l) 0 + o ≤ cond q (i - j) 0 + (cond q (j - l) 0 + o)
        by_steps true i j l o = omega arith
        by_steps false i j l o = omega arith

    -- ---- the event `Round`
    hits_one : (p : NodePair) (n : ℕ) (from to : Name) (w : MachineState) → Good w → Drains p (suc n) from to w → Drains p n from to (pass to (change_session to from arrived w))
    hits_one p n from to w g d u is =
        go (session_in w.sessions to from) refl
      where
        W : Session → Map
        W s = wanted w.setup (views_of to (with_session to from arrived w.sessions)) (view s)

        go : (o : Option Session) → session_in w.sessions to from ≡ o → (nodes u ≡ p) × D p n u
        go None e = absurd (none_some u (sym (after_taking arrived arrival from to w ∙ ap (λ (o : Option Session). option_map (λ s. passed (W s) s) (option_map arrived o)) e) ∙ is))
        go (Some s) e =
            let there : session_in (pass to (change_session to from arrived w)).sessions to from ≡ Some (passed (W (arrived s)) (arrived s)) = after_taking arrived arrival from to w ∙ ap (λ (o : Option Session). option_map (λ s. passed (W s) s) (option_map arrived o)) e in
            let fit : Fit s = found Fit (fit_turned size positive concern unpeered goal) w.sessions to from (k.fit w g) s e in
            let q = d s e in
            let td = arrival.1 p s q.0 fit in
            let moved = (hit_pass p n (W (arrived s)) (arrived s) (arrived_nodes s ∙ q.0) td.fit (arrived_one size positive concern unpeered goal p s q.0 fit n q.1)).0 in
            subst (λ (u : Session). (nodes u ≡ p) × D p n u) (same_Some (passed (W (arrived s)) (arrived s)) u (sym there ∙ is)) moved

    one_delivered : (p : NodePair) (n : ℕ) (from to : Name) (w : MachineState) → Good w → Drains p (suc n) from to w → Drains p n from to (deliver from to w)
    one_delivered p n from to w g d =
        elim (in_flight w from to == 0) as (λ c. (in_flight w from to == 0) ≡ c → Drains p n from to (cond c w (pass to (change_session to from arrived w)))) [
          | true ↦ λ e s is. let q = d s is in (q.0, idle_due size positive concern unpeered goal p (suc n) n s (sym (ap (λ (o : Option Session). unwrap_or (option_map waiting o) 0) is) ∙ eqb-true (in_flight w from to) 0 e) q.1)
          | false ↦ λ _. hits_one p n from to w g d
        ] refl

    no_notice : (d : Waiting) (w : MachineState) → Silent d.from d.to w → notice_stands w d ≡ false
    no_notice d w q =
        elim (session_in w.sessions d.to d.from) as (λ o. session_in w.sessions d.to d.from ≡ o → unwrap_or (option_map (λ (s : Session). s.near.notice) o) false ≡ false) [
          | None ↦ λ _. refl
          | Some s ↦ λ is. q s is
        ] refl

    same_delivery : (d : Waiting) (w : MachineState) → d.is_notice ≡ false → Silent d.from d.to w → deliver_due d w ≡ deliver d.from d.to w
    same_delivery d w e q = (λ i. cond (beq (no_notice d w q i) (e i)) (deliver d.from d.to w) w)

    silent_due : (a b : Name) (d : Waiting) (w : MachineState) → Good w × Silent a b w → Good (deliver_due d w) × Silent a b (deliver_due d w)
    silent_due a b d w g = due_walk (λ w. Good w × Silent a b w) (keep_takes (Silent a b) (keeps_silent a b)) d w g

    repeat_drains : (c n : ℕ) (p : NodePair) (d : Waiting) (w : MachineState) → d.is_notice ≡ false → Good w × Silent d.from d.to w → Drains p (c + n) d.from d.to w → Drains p n d.from d.to (repeat c (deliver_due d) w)
    repeat_drains zero n p d w e g h = drains_more p (0 + n) n d.from d.to w (omega arith) h
    repeat_drains (suc c) n p d w e g h =
        repeat_drains c n p d (deliver_due d w) e (silent_due d.from d.to d w g)
        (subst (λ (v : MachineState). Drains p (c + n) d.from d.to v) (sym (same_delivery d w e g.1))
        (one_delivered p (c + n) d.from d.to w g.0 (drains_more p (suc c + n) (suc (c + n)) d.from d.to w (omega arith) h)))

    abbrev Has : Name → Name → ℕ → List Waiting → Type 0
    Has a b m [] = ⊥
    Has a b m (d ∷ ds) = ((d.from ≡ a) × (d.to ≡ b) × (d.is_notice ≡ false) × (m ≤ d.count)) ⊎ Has a b m ds

    all_keep : (p : NodePair) (n : ℕ) (a b : Name) (ds : List Waiting) (w : MachineState) → Good w × Drains p n a b w → Good (deliver_all ds w) × Drains p n a b (deliver_all ds w)
    all_keep p n a b = all_walk (λ w. Good w × Drains p n a b w) (keep_takes (Drains p n a b) (keeps_due p n a b))

    repeat_keep : (Q : MachineState → Type 0) → Keeping Q → (c : ℕ) (d : Waiting) (w : MachineState) → Good w × Q w → Good (repeat c (deliver_due d) w) × Q (repeat c (deliver_due d) w)
    repeat_keep Q q = dues_walk (λ w. Good w × Q w) (keep_takes Q q)

    dues_drain : (p : NodePair) (m n : ℕ) (a b : Name) (ds : List Waiting) (w : MachineState) → Has a b m ds → Good w × Silent a b w → Drains p (m + n) a b w → Drains p n a b (deliver_all ds w)
    dues_drain p m n a b [] w h g d = absurd h
    dues_drain p m n a b (e ∷ ds) w (inl q) g d =
        let v = repeat e.count (deliver_due e) w in
        let here : Drains p (m + n) e.from e.to w = subst (λ (b : Name). Drains p (m + n) e.from b w) (sym q.1) (subst (λ (a : Name). Drains p (m + n) a b w) (sym q.0) d) in
        let silent : Silent e.from e.to w = subst (λ (b : Name). Silent e.from b w) (sym q.1) (subst (λ (a : Name). Silent a b w) (sym q.0) g.1) in
        let there = repeat_drains e.count n p e w q.2 (g.0, silent) (drains_more p (m + n) (e.count + n) e.from e.to w (plus m e.count q.3) here) in
        let good = (repeat_keep (Silent a b) (keeps_silent a b) e.count e w g).0 in
        (all_keep p n a b ds v (good, subst (λ (b : Name). Drains p n a b v) q.1 (subst (λ (a : Name). Drains p n a e.to v) q.0 there))).1
      where
        plus : (i j : ℕ) → i ≤ j → i + n ≤ j + n
        plus i j h = omega (arith, h)
    dues_drain p m n a b (e ∷ ds) w (inr q) g d =
        dues_drain p m n a b ds (repeat e.count (deliver_due e) w) q (repeat_keep (Silent a b) (keeps_silent a b) e.count e w g)
        (repeat_keep (Drains p (m + n) a b) (keeps_due p (m + n) a b) e.count e w (g.0, d)).1

    dues_have : (a b : Name) (ss : List Session) (s : Session) → session_in ss b a ≡ Some s → s.near.notice ≡ false → Has a b (waiting s) (flat_map (λ s. due_at (turned s) ∷ due_at s ∷ []) ss)
    dues_have a b [] s is silent = absurd (none_some s is)
    dues_have a b (u ∷ ss) s is silent =
        elim (joins b a u) as (λ c. joins b a u ≡ c → cond c (Some u) (cond (joins a b u) (Some (turned u)) (session_in ss b a)) ≡ Some s → Has a b (waiting s) (flat_map (λ s. due_at (turned s) ∷ due_at s ∷ []) (u ∷ ss))) [
          | true ↦ λ at is.
              let p = and_parts (is_at b u.near) (is_at a u.far) at in
              inr (inl ((bytes_decides u.far.name a).0 p.1, (bytes_decides u.near.name b).0 p.0, ap (λ (s : Session). s.near.notice) (same_Some u s is) ∙ silent, same (waiting s) (waiting u) (ap waiting (same_Some u s is))))
          | false ↦ λ _. elim (joins a b u) as (λ c. joins a b u ≡ c → cond c (Some (turned u)) (session_in ss b a) ≡ Some s → Has a b (waiting s) (flat_map (λ s. due_at (turned s) ∷ due_at s ∷ []) (u ∷ ss))) [
            | true ↦ λ at is.
                let p = and_parts (is_at a u.near) (is_at b u.far) at in
                inl ((bytes_decides u.near.name a).0 p.0, (bytes_decides u.far.name b).0 p.1, ap (λ (s : Session). s.near.notice) (same_Some (turned u) s is) ∙ silent, same (waiting s) (waiting (turned u)) (ap waiting (same_Some (turned u) s is)))
            | false ↦ λ _ is. inr (inr (dues_have a b ss s is silent))
          ] refl
        ] refl is
      where
        same : (i j : ℕ) → j ≡ i → i ≤ j
        same i j e = omega (arith, e)

    hush_turned : (s : Session) → Hush size positive s → Hush size positive (turned s)
    hush_turned s h = record { near_notice = h.far_notice; far_notice = h.near_notice; near_breaks = h.far_breaks; far_breaks = h.near_breaks }

    good_round : (w : MachineState) → Good w → Good (round w)
    good_round = round_walk Good good_takes

    round_drains : (p : NodePair) (n : ℕ) (a b : Name) (w : MachineState) → NoTwins (map nodes w.sessions) → Good w → Drains p (in_flight w a b + n) a b w → Drains p n a b (round w)
    unfolding round
    round_drains p n a b w apart g d = go (session_in w.sessions b a) refl
      where
        go : (o : Option Session) → session_in w.sessions b a ≡ o → Drains p n a b (round w)
        go None e = (all_keep p n a b (dues w) w (g, λ s is. absurd (none_some s (sym e ∙ is)))).1
        go (Some s) e =
            elim s.near.notice as (λ c. s.near.notice ≡ c → Drains p n a b (round w)) [
              | true ↦ λ noticed u is.
                  let down : s.is_down ≡ true = elim (found Fit (fit_turned size positive concern unpeered goal) w.sessions b a (k.fit w g) s e).0 as (λ _. s.is_down ≡ true) [ inl j ↦ absurd (true≢false (sym noticed ∙ j.near_notice)) | inr l ↦ l.down ] in
                  let lost = (round_walk (λ w. Good w × Lost a b w) (keep_takes (Lost a b) (keeps_lost a b)) w (g, λ t q. ap (λ (s : Session). s.is_down) (sym (same_Some s t (sym e ∙ q))) ∙ down)).1 u is in
                  let kept = (round_walk (λ v. Good v × Drains p (in_flight w a b + n) a b v) (keep_takes (Drains p (in_flight w a b + n) a b) (keeps_due p (in_flight w a b + n) a b)) w (g, d)).1 u is in
                  let hush = found (Hush size positive) hush_turned (round w).sessions b a (round_hush size positive w apart (k.fit w g)) u is in
                  let fit = found Fit (fit_turned size positive concern unpeered goal) (round w).sessions b a (k.fit (round w) (good_round w g)) u is in
                  (kept.0, lost_due size positive concern unpeered goal p (in_flight w a b + n) n u fit lost hush.near_notice kept.1)
              | false ↦ λ silent. dues_drain p (in_flight w a b) n a b (dues w) w
                  (subst (λ m. Has a b m (dues w)) (sym (ap (λ (o : Option Session). unwrap_or (option_map waiting o) 0) e)) (dues_have a b w.sessions s e silent))
                  (g, λ t q. ap (λ (s : Session). s.near.notice) (sym (same_Some s t (sym e ∙ q))) ∙ silent) d
            ] refl

    -- ---- any list of deliveries
    event_drains : (p : NodePair) (n : ℕ) (a b : Name) (e : MachineEvent) (w : MachineState) → is_delivery e ≡ true → NoTwins (map nodes w.sessions) → Good w → Drains p (taken_by size a b w e + n) a b w → Good (next size w e) × Drains p n a b (next size w e)
    unfolding next
    event_drains p n a b (Deliver from to c) w i apart g d = delivers_drain c p n a b from to w g d
    event_drains p n a b (DeliverOctets from to c) w i apart g d = stepping_drains (octets_arrived size c) (octets c) (k.octets c) p n a b from to w g d
    event_drains p n a b Round w i apart g d = (good_round w g, round_drains p n a b w apart g d)
    event_drains p n a b (Edits e) w i apart g d = absurd (true≢false (sym i))
    event_drains p n a b (Lose c e) w i apart g d = absurd (true≢false (sym i))
    event_drains p n a b (Connect c e) w i apart g d = absurd (true≢false (sym i))
    event_drains p n a b (Restart c) w i apart g d = absurd (true≢false (sym i))
    event_drains p n a b Settle w i apart g d = absurd (true≢false (sym i))
    event_drains p n a b (Show c) w i apart g d = absurd (true≢false (sym i))
    event_drains p n a b (Trace c) w i apart g d = absurd (true≢false (sym i))
    event_drains p n a b (Break c e m) w i apart g d = absurd (true≢false (sym i))

    module _ (apart : (w : MachineState) → Good w → NoTwins (map nodes w.sessions)) where
      round_ends : (p : NodePair) (n : ℕ) (a b : Name) (es : List MachineEvent) (w : MachineState) → list_all is_delivery es ≡ true → Good w → Drains p (taken_of size a b w es + n) a b w → Good (after size w es) × Drains p n a b (after size w es)
      round_ends p n a b [] w i g d = (g, drains_more p (0 + n) n a b w (omega arith) d)
      round_ends p n a b (e ∷ es) w i g d =
          let q = and_parts (is_delivery e) (list_all is_delivery es) i in
          let one = event_drains p (taken_of size a b (next size w e) es + n) a b e w q.0 (apart w g) g
          (drains_more p ((taken_by size a b w e + taken_of size a b (next size w e) es) + n) (taken_by size a b w e + (taken_of size a b (next size w e) es + n)) a b w (assoc (taken_by size a b w e) (taken_of size a b (next size w e) es)) d) in
          round_ends p n a b es (next size w e) q.1 one.0 one.1
        where
          assoc : (i j : ℕ) → (i + j) + n ≤ i + (j + n)
          assoc i j = omega arith

      pub rounds_keep : (p : NodePair) (a b : Name) (rounds : List (List MachineEvent)) (w : MachineState) → AreRounds size w rounds → Good w → Drains p 0 a b w → Good (after_rounds size w rounds) × Drains p 0 a b (after_rounds size w rounds)
      rounds_keep p a b [] w r g d = (g, d)
      rounds_keep p a b (es ∷ rounds) w r g d =
          let one = round_ends p 0 a b es w r.0.deliveries g (drains_more p 0 (taken_of size a b w es + 0) a b w (omega arith) d) in
          rounds_keep p a b rounds (after size w es) r.1 one.0 one.1

      -- what was sent is right as a round begins
      abbrev pub SentRight : Session → Type 0
      SentRight s = may_send (turned s) ≡ true → (k : Key) → concern s.far.role s.near.role k ≡ true → get s.far.sent k ≡ goal s.far.name s.near.name k

      -- after a round nothing is due
      pub over : (a b : Name) (es : List MachineEvent) (rounds : List (List MachineEvent)) (w : MachineState) → AreRounds size w (es ∷ rounds) → Good w → ((s : Session) → session_in w.sessions b a ≡ Some s → SentRight s)
          → (t : Session) → session_in (after_rounds size w (es ∷ rounds)).sessions b a ≡ Some t → D (nodes t) 0 t
      over a b es rounds w r g sent t is = go (session_in w.sessions b a) refl
        where
          ends : (p : NodePair) → Drains p (taken_of size a b w es + 0) a b w → (nodes t ≡ p) × D p 0 t
          ends p d =
              let one = round_ends p 0 a b es w r.0.deliveries g d in
              (rounds_keep p a b rounds (after size w es) r.1 one.0 one.1).1 t is

          go : (o : Option Session) → session_in w.sessions b a ≡ o → D (nodes t) 0 t
          go None e = (ends (nodes t) (λ s q. absurd (none_some s (sym e ∙ q)))).1
          go (Some s) e =
              let fit : Fit s = found Fit (fit_turned size positive concern unpeered goal) w.sessions b a (k.fit w g) s e in
              let due = due_begins size positive concern unpeered goal (nodes s) (taken_of size a b w es + 0) s fit (enough (in_flight w a b) (waiting s) (taken_of size a b w es) (ap (λ (o : Option Session). unwrap_or (option_map waiting o) 0) e) (r.0.takes_all a b)) (sent s e) in
              let q = ends (nodes s) (λ u is'. subst (λ (u : Session). (nodes u ≡ nodes s) × D (nodes s) (taken_of size a b w es + 0) u) (same_Some s u (sym e ∙ is')) (refl, due)) in
              subst (λ p. D p 0 t) (sym q.0) q.1
            where
              enough : (i j m : ℕ) → i ≡ j → i ≤ m → j ≤ m + 0
              enough i j m e h = omega (arith, e, h)

      -- what stands stays
      event_good : (e : MachineEvent) (w : MachineState) → is_delivery e ≡ true → Good w → Good (next size w e)
      unfolding next
      event_good (Deliver from to c) w i g = delivers_walk Good good_takes c from to w g
      event_good (DeliverOctets from to c) w i g = elim (in_flight w from to == 0) as (λ b. Good (cond b w (pass to (change_session to from (octets_arrived size c) w)))) [ true ↦ g | false ↦ k.passes to (change_session to from (octets_arrived size c) w) (k.octets c from to w g) ]
      event_good Round w i g = good_round w g
      event_good (Edits e) w i g = absurd (true≢false (sym i))
      event_good (Lose c e) w i g = absurd (true≢false (sym i))
      event_good (Connect c e) w i g = absurd (true≢false (sym i))
      event_good (Restart c) w i g = absurd (true≢false (sym i))
      event_good Settle w i g = absurd (true≢false (sym i))
      event_good (Show c) w i g = absurd (true≢false (sym i))
      event_good (Trace c) w i g = absurd (true≢false (sym i))
      event_good (Break c e m) w i g = absurd (true≢false (sym i))

      pub events_good : (es : List MachineEvent) (w : MachineState) → list_all is_delivery es ≡ true → Good w → Good (after size w es)
      events_good [] w i g = g
      events_good (e ∷ es) w i g = let q = and_parts (is_delivery e) (list_all is_delivery es) i in events_good es (next size w e) q.1 (event_good e w q.0 g)

      pub stays : (rounds : List (List MachineEvent)) (w : MachineState) → AreRounds size w rounds → Good w → Good (after_rounds size w rounds)
      stays [] w r g = g
      stays (es ∷ rounds) w r g = stays rounds (after size w es) r.1 (events_good es w r.0.deliveries g)
