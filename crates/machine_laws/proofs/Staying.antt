-- A session that is not down, and on which no break is pending, stays so in every step but its loss and a restart.
use Rattle.std.specs.Prelude.{◌≡◌, ℕ, ◌<◌, ◌-◌, ◌+◌, List, [], ◌∷◌, map, Bool, true, false, cond, ◌&&◌, ◌==◌, nat_lt, is_some}
use Rattle.std.specs.declared.option.Option.{Option}
use Rattle.std.specs.declared.option.Option.TheVariants.{Some, None}
use Rattle.std.specs.Option.{option_map}
use Rattle.std.specs.Cmp.Lexicographic.{bytes_decides}
use Rattle.std.proofs.lemmas.Bool.{true≢false, and_parts}
use Rattle.std.proofs.lemmas.Option.{same_Some}
use Rattle.std.proofs.Common.{refl, sym, ◌∙◌, ap, subst, inl, inr}
use Rattle.config_types.specs.declared.edit.Edit.{Edit}
use Rattle.schedule_script.specs.ConfigCheck.Edits.{edit_fault, edited as checked_edited}
use Rattle.schedule_script.specs.ConfigCheck.EditFault.{EditFault}
use Rattle.ov_types.specs.First.{same_name}
use Rattle.node_laws.specs.NodeModel.Maps.{Map}
use Rattle.machine_model.specs.Setup.{Name, Move, checked, edited, edited_without, moves, remade, renumbered}
use Rattle.machine_model.specs.Session.{Message, Session, turned, closed, may_send, took, without_first, took_first, opened, arrived, took_octets, octets_arrived, passed}
use Rattle.machine_model.specs.Network.{MachineState, brought, config, replaced, start, view, views_of, wanted}
use Rattle.machine_model.specs.Steps.{joins, with_session, change_session, around, at_node, pass, session_in, session_of, in_flight, is_broken, may_connect, connect, connect_if, without_breaks}
use Rattle.machine_model.specs.Rounds.{is_empty}
use Rattle.machine_model.specs.Events.{MachineEvent, Edits, Deliver, DeliverOctets, Lose, Connect, Restart, Round, Settle, Show, Trace, Break, add_break, edits, is_earlier, moved, next, passes, after}
use Rattle.machine_model.specs.Deeds.{AreOthers}
use Rattle.machine_model.specs.Moments.{Each, AtEveryMoment}
use Rattle.machine_model.proofs.SessionFact.{Fact, Joined, Fact-turned, passed_keeps, arrived_keeps, octets_arrived_keeps}
use Rattle.machine_model.proofs.NetworkFact.{KeepsNodes, opened_nodes, passed_nodes, after_sound, found}
use Rattle.machine_model.proofs.NodesFact.{arrived_nodes, octets_nodes, turned_nodes}
use Rattle.machine_model.proofs.Start.{start_sound}
use Rattle.machine_model.proofs.Walk.{delivers_walk, connect_walk, round_walk, settle_walk}
use Rattle.machine_model.proofs.Twins.{itself, Pairs, MaybeBoth, pairs_found, pairs_session, pairs_node}
use Rattle.machine_model.proofs.Calm.{telling, passed_easy, ArrivalOf, arrives}
use Rattle.machine_model.proofs.RoundFact.{IsCalm, fact_joined}
use Rattle.machine_model.proofs.Deeds.{others_stay, lost_others, restarted_others}
use Rattle.machine_laws.specs.Closing.{MovesNode, TakesDown, IsUnbroken, IsWhole}
use Rattle.machine_laws.proofs.Standing.{moved_found}

-- ---- pairs of names
same_pair : (a b c d : Name) → (same_name c a && same_name d b) ≡ true → (c ≡ a) × (d ≡ b)
same_pair a b c d e = let p = and_parts (same_name c a) (same_name d b) e in ((bytes_decides c a).0 p.0, (bytes_decides d b).0 p.1)

other_pair : (a b c d : Name) → (same_name c a && same_name d b) ≡ false → c ≡ a → d ≡ b → ⊥
other_pair a b c d e p q =
    true≢false (sym ((λ i. same_name (p i) a && same_name (q i) b) ∙ ap (λ x. x && same_name b b) (itself a) ∙ itself b) ∙ e)

-- ---- the session of two nodes is down as either sees it
abbrev seen_down : Option Session → Option Bool
seen_down o = option_map (λ (s : Session). s.is_down) o

down_from_both : (a b : Name) (ss : List Session) → seen_down (session_in ss b a) ≡ seen_down (session_in ss a b)
down_from_both a b [] = refl
down_from_both a b (s ∷ ss) =
    elim (joins a b s) as (λ c. seen_down (cond (joins b a s) (Some s) (cond c (Some (turned s)) (session_in ss b a))) ≡ seen_down (cond c (Some s) (cond (joins b a s) (Some (turned s)) (session_in ss a b)))) [
      | true ↦ elim (joins b a s) as (λ c. seen_down (cond c (Some s) (Some (turned s))) ≡ Some s.is_down) [ true ↦ refl | false ↦ refl ]
      | false ↦ elim (joins b a s) as (λ c. seen_down (cond c (Some s) (session_in ss b a)) ≡ seen_down (cond c (Some (turned s)) (session_in ss a b))) [ true ↦ refl | false ↦ down_from_both a b ss ]
    ]

module _ (size : Name → Message → ℕ) (positive : (n : Name) (m : Message) → 0 < size n m) where
  -- ---- what keeps a session calm: not down, and without breaks
  abbrev Keeps : Session → Session → Type 0
  Keeps s t = IsCalm size positive s → IsCalm size positive t

  turned_calm : (s : Session) → IsCalm size positive s → IsCalm size positive (turned s)
  turned_calm s c = (fact_joined size positive (turned s) (Fact-turned size s (inl c.0)) c.0.whole, c.2, c.1)

  keeps_turned : (s t : Session) → Keeps s t → Keeps (turned s) (turned t)
  keeps_turned s t k c = turned_calm t (k (turned_calm (turned s) c))

  -- a message arrives
  arrived_calm : (s : Session) → Keeps s (arrived s)
  arrived_calm s c = by_flight s.far.flight (arrives size s c.0 c.1)
    where
      by_flight : (f : List Message) → ArrivalOf f s (arrived s) → IsCalm size positive (arrived s)
      by_flight [] a = subst (IsCalm size positive) (sym a) c
      by_flight (m ∷ ms) a = (fact_joined size positive (arrived s) (arrived_keeps size positive s (inl c.0)) a.whole, a.near_breaks ∙ c.1, a.far_breaks ∙ c.2)

  -- some octets arrive
  abbrev IsEasy : Session → Type 0
  IsEasy s = (s.is_down ≡ false) × (s.near.breaks ≡ []) × (s.far.breaks ≡ [])

  arrived_is : (s : Session) (m : Message) (ms : List Message) → s.near.notice ≡ false → s.far.flight ≡ m ∷ ms → arrived s ≡ took m (without_first ms s)
  unfolding arrived
  arrived_is s m ms quiet is = ap (λ b. cond b (record s { near = closed s.near }) (took_first s.far.flight s)) quiet ∙ ap (λ (f : List Message). took_first f s) is

  octets_easy : (f : List Message) (n : ℕ) (s : Session) → IsCalm size positive s → s.far.flight ≡ f → IsEasy (took_octets size n f s)
  octets_easy [] n s c is = (c.0.whole, c.1, c.2)
  octets_easy (m ∷ ms) n s c is =
      let same = arrived_is s m ms c.0.near_notice is in
      let a = subst (λ (f : List Message). ArrivalOf f s (arrived s)) is (arrives size s c.0 c.1) in
      subst (λ b. IsEasy (cond b s (cond (nat_lt n (size s.far.name m - s.far.taken)) (record s { far = record s.far { taken = s.far.taken + n } }) (took_octets size (n - (size s.far.name m - s.far.taken)) ms (took m (without_first ms s)))))) (sym c.0.whole)
      (elim (nat_lt n (size s.far.name m - s.far.taken)) as (λ b. IsEasy (cond b (record s { far = record s.far { taken = s.far.taken + n } }) (took_octets size (n - (size s.far.name m - s.far.taken)) ms (took m (without_first ms s))))) [
        | true ↦ (c.0.whole, c.1, c.2)
        | false ↦ octets_easy ms (n - (size s.far.name m - s.far.taken)) (took m (without_first ms s)) (subst (IsCalm size positive) same (arrived_calm s c)) (ap (λ (t : Session). t.far.flight) (sym same) ∙ a.taken)
      ])

  octets_arrived_easy : (n : ℕ) (s : Session) → IsCalm size positive s → IsEasy (octets_arrived size n s)
  unfolding octets_arrived
  octets_arrived_easy n s c =
      subst (λ b. IsEasy (cond b (record s { near = closed s.near }) (took_octets size n s.far.flight s))) (sym c.0.near_notice) (octets_easy s.far.flight n s c refl)

  octets_calm : (n : ℕ) (s : Session) → Keeps s (octets_arrived size n s)
  octets_calm n s c =
      let e = octets_arrived_easy n s c in
      (fact_joined size positive (octets_arrived size n s) (octets_arrived_keeps size positive n s (inl c.0)) e.0, e.1, e.2)

  -- a pass
  passed_easy_at : (Q : Session → Type 0) (m : Map) (s : Session) → IsCalm size positive s → Q s → Q (telling m s) → Q (passed m s)
  passed_easy_at Q m s c q t = subst Q (sym (passed_easy m s c.0.whole c.1)) (elim (may_send s) as (λ b. Q (cond b (telling m s) s)) [ true ↦ t | false ↦ q ])

  passed_calm : (m : Map) (s : Session) → Keeps s (passed m s)
  passed_calm m s c =
      let e = passed_easy_at IsEasy m s c (c.0.whole, c.1, c.2) (c.0.whole, c.1, c.2) in
      (fact_joined size positive (passed m s) (passed_keeps size positive m s (inl c.0)) e.0, e.1, e.2)

  -- breaks that were not met are removed
  cleared_calm : (s : Session) → Keeps s (without_breaks s)
  cleared_calm s c = (
    subst (λ (near : List ℕ). Joined size (record { is_down = s.is_down; near = record s.near { breaks = near }; far = record s.far { breaks = [] } })) c.1
        (subst (λ (far : List ℕ). Joined size (record { is_down = s.is_down; near = s.near; far = record s.far { breaks = far } })) c.2 c.0),
    refl,
    refl,
  )

  -- ---- the session of two nodes
  module _ (a b : Name) where
    abbrev CalmIn : List Session → Type 0
    CalmIn ss = (s : Session) × (session_in ss a b ≡ Some s) × IsCalm size positive s

    abbrev Anything : Session → Type 0
    Anything s = Unit {0}

    each_anything : (ss : List Session) → Each Anything ss
    each_anything [] = tt
    each_anything (s ∷ ss) = (tt, each_anything ss)

    pick : (o r : Option Session) → MaybeBoth (λ s t. (s.near.name ≡ a) × (s.far.name ≡ b) × Keeps s t) o r → (s : Session) → o ≡ Some s → IsCalm size positive s → (t : Session) × (r ≡ Some t) × IsCalm size positive t
    pick (Some u) (Some t) m s is c = (t, refl, m.2 (subst (IsCalm size positive) (sym (same_Some u s is)) c))
    pick (Some u) None m s is c = absurd m
    pick None (Some t) m s is c = absurd m
    pick None None m s is c = cc

    across : (ss ts : List Session) → Pairs Keeps ss ts → CalmIn ss → CalmIn ts
    across ss ts p q = pick (session_in ss a b) (session_in ts a b) (pairs_found Keeps keeps_turned a b ss ts p) q.0 q.1 q.2

    -- one session changes, or the sessions of a node
    changed_in : (c d : Name) (f : Session → Session) → KeepsNodes f → ((s : Session) → Keeps s (f s)) → (ss : List Session) → CalmIn ss → CalmIn (with_session c d f ss)
    changed_in c d f kept h ss q = across ss (with_session c d f ss) (pairs_session Keeps keeps_turned (λ s k. k) Anything (λ s u. u) f kept c d (λ s j u. h s) ss (each_anything ss)) q

    pass_in : (n : Name) (w : MachineState) → CalmIn w.sessions → CalmIn (pass n w).sessions
    pass_in n w q =
        let W = λ (s : Session). wanted w.setup (views_of n w.sessions) (view s) in
        across w.sessions (map (at_node n (λ s. passed (W s) s)) w.sessions)
        (pairs_node Keeps keeps_turned (λ s k. k) Anything (λ s u. u) (λ s. passed (W s) s) (λ s. passed_nodes (W s) s) n (λ s u. passed_calm (W s) s) w.sessions (each_anything w.sessions)) q

    abbrev Stays : MachineState → Type 0
    Stays w = CalmIn w.sessions

    takes : (from to : Name) (w : MachineState) → Stays w → Stays (pass to (change_session to from arrived w))
    takes from to w q = pass_in to (change_session to from arrived w) (changed_in to from arrived arrived_nodes arrived_calm w.sessions q)

    takes_octets : (from to : Name) (n : ℕ) (w : MachineState) → Stays w → Stays (pass to (change_session to from (octets_arrived size n) w))
    takes_octets from to n w q = pass_in to (change_session to from (octets_arrived size n) w) (changed_in to from (octets_arrived size n) (octets_nodes size n) (octets_calm n) w.sessions q)

    clears : (w : MachineState) → Stays w → Stays (record { setup = w.setup; sessions = map without_breaks w.sessions })
    clears w q = across w.sessions (map without_breaks w.sessions) (cleared w.sessions) q
      where
        cleared : (ss : List Session) → Pairs Keeps ss (map without_breaks ss)
        cleared [] = tt
        cleared (s ∷ ss) = (refl, cleared_calm s, cleared ss)

    -- another session connects
    others_in : (c d : Name) (f : Session → Session) → KeepsNodes f → AreOthers c d a b → (ss : List Session) → CalmIn ss → CalmIn (with_session c d f ss)
    others_in c d f kept o ss q = (q.0, others_stay c d a b o f kept ss ∙ q.1, q.2)

    others_connect : (c d : Name) → AreOthers c d a b → (w : MachineState) → Stays w → Stays (connect c d w)
    others_connect c d o w q =
        let v = pass c (change_session c d opened w) in
        let p = pass_in c (change_session c d opened w) (others_in c d opened opened_nodes o w.sessions q) in
        elim (is_broken v c d) as (λ k. Stays (cond k v (pass d (change_session c d (around opened) v)))) [
          | true ↦ p
          | false ↦ pass_in d (change_session c d (around opened) v) (others_in c d (around opened) (turned_nodes opened opened_nodes) o v.sessions p)
        ]

    -- where the one that connects would be this one, it is not down, so it does not
    none_connects : (o : Option Session) → ((s : Session) → o ≡ Some s → may_connect s ≡ true) → seen_down o ≡ Some false → ⊥
    none_connects (Some s) may is = true≢false (sym (and_parts s.is_down _ (may s refl)).0 ∙ same_Some s.is_down false is)
    none_connects None may is = cc

    connects : (c d : Name) (w : MachineState) → ((s : Session) → session_in w.sessions c d ≡ Some s → may_connect s ≡ true) → is_some (session_in w.sessions c d) ≡ true → Stays w → Stays (connect c d w)
    connects c d w may some q =
        let down : seen_down (session_in w.sessions a b) ≡ Some false = ap seen_down q.1 ∙ ap Some q.2.0.whole in
        elim (same_name c a && same_name d b) as (λ k. (same_name c a && same_name d b) ≡ k → Stays (connect c d w)) [
          | true ↦ λ is. let e = same_pair a b c d is in
              absurd (none_connects (session_in w.sessions c d) may ((λ i. seen_down (session_in w.sessions (e.0 i) (e.1 i))) ∙ down))
          | false ↦ λ off. elim (same_name c b && same_name d a) as (λ k. (same_name c b && same_name d a) ≡ k → Stays (connect c d w)) [
            | true ↦ λ is. let e = same_pair b a c d is in
                absurd (none_connects (session_in w.sessions c d) may ((λ i. seen_down (session_in w.sessions (e.0 i) (e.1 i))) ∙ down_from_both a b w.sessions ∙ down))
            | false ↦ λ off_back. others_connect c d (other_pair a b c d off, other_pair b a c d off_back) w q
          ] refl
        ] refl

    passes_in : (ns : List Name) (w : MachineState) → Stays w → Stays (passes ns w)
    passes_in [] w q = q
    passes_in (n ∷ ns) w q = passes_in ns (pass n w) (pass_in n w q)

    abbrev made : MachineState → Edit → MachineState
    made w d = record { setup = remade (checked_edited d (checked w.setup)) (renumbered (moves d w.setup.topology) w.setup.numbers); sessions = w.sessions }

    edited_stays : (w : MachineState) (d : Edit) → (MovesNode w d a → ⊥) → (MovesNode w d b → ⊥) → Stays w → Stays (edits (moves d w.setup.topology) (edited w.setup d) w)
    edited_stays w d off off_back q = by_fault (edit_fault (checked w.setup) d) refl
      where
        by_move : edit_fault (checked w.setup) d ≡ None → (m : Option Move) → moves d w.setup.topology ≡ m → Stays (pass config (moved m (made w d)))
        by_move none None is = pass_in config (made w d) q
        by_move none (Some m) is =
            pass_in config (moved (Some m) (made w d))
            (passes_in m.left (record { setup = (made w d).setup; sessions = replaced m.name (brought (made w d).setup.topology.controllers m.now) w.sessions })
            (q.0, moved_found w d a b off off_back none m is ∙ q.1, q.2))

        by_fault : (f : Option EditFault) → edit_fault (checked w.setup) d ≡ f → Stays (edits (moves d w.setup.topology) (edited_without f w.setup d) w)
        by_fault None none = by_move none (moves d w.setup.topology) refl
        by_fault (Some f) is = q

    -- ---- every event but those
    whole_of : (w : MachineState) → Stays w → IsWhole w a b
    whole_of w q = record { session = q.0; found = q.1; whole = q.2.0.whole }

    found_again : (w v : MachineState) → session_of v a b ≡ session_of w a b → Stays w → IsWhole v a b
    found_again w v e q = record { session = q.0; found = e ∙ q.1; whole = q.2.0.whole }

    -- a break is added to a direction of this session, or to one of another
    broken_down : (c d : Name) (n : ℕ) (ss : List Session) → seen_down (session_in (with_session c d (add_break n) ss) a b) ≡ seen_down (session_in ss a b)
    broken_down c d n ss =
        both (session_in ss a b) (session_in (with_session c d (add_break n) ss) a b)
        (pairs_found (λ s t. t.is_down ≡ s.is_down) (λ s t e. e) a b ss (with_session c d (add_break n) ss)
        (pairs_session (λ s t. t.is_down ≡ s.is_down) (λ s t e. e) (λ s. refl) Anything (λ s u. u) (add_break n) (λ s. refl) c d (λ s j u. refl) ss (each_anything ss)))
      where
        both : (o r : Option Session) → MaybeBoth (λ s t. (s.near.name ≡ a) × (s.far.name ≡ b) × (t.is_down ≡ s.is_down)) o r → seen_down r ≡ seen_down o
        both (Some s) (Some t) m = ap Some m.2
        both None None m = refl
        both (Some s) None m = absurd m
        both None (Some t) m = absurd m

    whole_seen : (v : MachineState) → seen_down (session_of v a b) ≡ Some false → IsWhole v a b
    whole_seen v is = by_found (session_of v a b) refl is
      where
        by_found : (o : Option Session) → session_of v a b ≡ o → seen_down o ≡ Some false → IsWhole v a b
        by_found (Some s) e is = record { session = s; found = e; whole = same_Some s.is_down false is }
        by_found None e is = cc

    stays : (w : MachineState) (e : MachineEvent) → Stays w → (TakesDown w a b e → ⊥) → IsWhole (next size w e) a b
    unfolding next
    stays w (Edits d) q not = whole_of _ (edited_stays w d (λ m. not (inl m)) (λ m. not (inr m)) q)
    stays w (Deliver from to n) q not = whole_of _ (delivers_walk Stays takes n from to w q)
    stays w (DeliverOctets from to n) q not =
        whole_of _ (elim (in_flight w from to == 0) as (λ c. Stays (cond c w (pass to (change_session to from (octets_arrived size n) w)))) [ true ↦ q | false ↦ takes_octets from to n w q ])
    stays w (Lose c d) q not = found_again w _ (lost_others size w c d a b (λ p r. not (inl (p, r)), λ p r. not (inr (p, r)))) q
    stays w (Connect c d) q not =
        whole_of _ (elim (is_earlier w.sessions c d) as (λ k. Stays (cond k (connect_if c d w) (connect_if d c w))) [ true ↦ connect_walk Stays connects c d w q | false ↦ connect_walk Stays connects d c w q ])
    stays w (Restart n) q not = found_again w _ (restarted_others size w n a b (λ e. not (inl e)) (λ e. not (inr e))) q
    stays w Round q not = whole_of _ (round_walk Stays takes w q)
    stays w Settle q not = whole_of _ (settle_walk Stays takes connects clears w q)
    stays w (Show n) q not = whole_of w q
    stays w (Trace p) q not = whole_of w q
    stays w (Break c d n) q not = whole_seen _ (broken_down c d n w.sessions ∙ ap seen_down q.1 ∙ ap Some q.2.0.whole)

none_of : (ns : List ℕ) → is_empty ns ≡ true → ns ≡ []
none_of [] e = refl
none_of (n ∷ ns) e = cc

-- at every moment
pub nodes_stay_joined : AtEveryMoment (λ size w. (a b : Name) (e : MachineEvent) → IsUnbroken w a b → (TakesDown w a b e → ⊥) → IsWhole (next size w e) a b)
nodes_stay_joined size positive x es a b e u not =
    let w = after size (start x) es in
    let sound = after_sound size positive (start x) es (start_sound size positive x) in
    let f = found (Fact size) (Fact-turned size) w.sessions a b sound u.session u.found in
    let p = and_parts (is_empty u.session.near.breaks) (is_empty u.session.far.breaks) u.unbroken in
    stays size positive a b w e (u.session, u.found, (fact_joined size positive u.session f u.whole, none_of u.session.near.breaks p.0, none_of u.session.far.breaks p.1)) not
