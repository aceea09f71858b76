-- Every event keeps it that a node with no session down has told what it wants.
use Rattle.std.specs.Prelude.{◌≡◌, ℕ, ◌+◌, ◌-◌, List, [], ◌∷◌, map, Bool, true, false, cond, ◌&&◌, nat_lt, is_some}
use Rattle.std.specs.declared.option.Option.{Option}
use Rattle.std.specs.declared.option.Option.TheVariants.{Some, None}
use Rattle.std.specs.Option.{option_map, unwrap_or}
use Rattle.std.specs.List.{cons_option}
use Rattle.std.specs.Cmp.Lexicographic.{bytes_decides}
use Rattle.std.proofs.lemmas.Bool.{true≢false, and_parts}
use Rattle.std.proofs.lemmas.Option.{same_Some}
use Rattle.std.proofs.Common.{refl, sym, ◌∙◌, ap, subst}
use Rattle.machine_model.specs.Setup.{Name, Setup}
use Rattle.ov_types.specs.First.{same_name}
use Rattle.machine_model.specs.Session.{Message, Session, turned, closed, shut, lost, greeting, opened, took, without_first, took_octets, octets_arrived, arrived}
use Rattle.transform_model.specs.NodeModel.Step.{Opened}
use Rattle.machine_model.specs.Network.{MachineState, View, view, sessions_of, seen_by, is_at}
use Rattle.machine_model.specs.Events.{MachineEvent, add_break, next, after}
use Rattle.machine_model.specs.Steps.{at_node, joins, with_session, change_session, change_node, pass, session_in, round, is_broken, around, connect, connect_all, without_breaks}
use Rattle.machine_model.proofs.Walk.{Takes, Connects, Steps, round_walk, connections_walk, next_walk}
use Rattle.machine_model.proofs.NetworkFact.{NodePair, nodes, KeepsNodes, joins_kept, opened_nodes}
use Rattle.machine_model.proofs.NodesFact.{Holds, next_holds, pass_nodes, session_nodes}
use Rattle.machine_model.proofs.Listed.{Placed, edits_placed}
pub use Rattle.machine_model.proofs.ToldEdits.{AllHaveTold}
use Rattle.machine_model.proofs.ToldEdits.{edits_told}
use Rattle.machine_model.specs.Moments.{AreWhole, HasTold, NodeHasTold}
use Rattle.machine_model.proofs.ToldFact.{Alike, Touches, alike_refl, alike_trans, told_from, shut_touches, took_next_touches, arrived_touches, AllAlike, MaybeAlike, alike_cons, maybe_refl, all_refl, not_at, near_acts, far_acts, others_of_node, told_alike, own_after, pass_tells, pass_others, step_tells}

-- ---- what no node goes by
module _ (f : Session → Session) (near : (s : Session) → Alike s (f s)) (far : (s : Session) → Touches s (f s)) where
  seen_alike : (m : Name) (s : Session) → MaybeAlike (seen_by m s) (seen_by m (f s))
  seen_alike m s =
      let near_same : is_at m (f s).near ≡ is_at m s.near = ap (λ (v : View). same_name v.name m) (near s).view in
      let far_same : is_at m (f s).far ≡ is_at m s.far = ap (λ (v : View). same_name v.other m) (near s).view in
      subst (λ b. MaybeAlike (seen_by m s) (cond b (Some (f s)) (cond (is_at m (f s).far) (Some (turned (f s))) None))) (sym near_same)
      (subst (λ b. MaybeAlike (seen_by m s) (cond (is_at m s.near) (Some (f s)) (cond b (Some (turned (f s))) None))) (sym far_same)
      (elim (is_at m s.near) as (λ b. MaybeAlike (cond b (Some s) (cond (is_at m s.far) (Some (turned s)) None)) (cond b (Some (f s)) (cond (is_at m s.far) (Some (turned (f s))) None))) [
        | true ↦ near s
        | false ↦ elim (is_at m s.far) as (λ b. MaybeAlike (cond b (Some (turned s)) None) (cond b (Some (turned (f s))) None)) [ true ↦ far s | false ↦ tt ]
      ]))

  seen_alike_turned : (m : Name) (s : Session) → MaybeAlike (seen_by m s) (seen_by m (turned (f (turned s))))
  seen_alike_turned m s =
      let t = f (turned s) in
      let near_same : is_at m t.far ≡ is_at m s.near = ap (λ (v : View). same_name v.other m) (near (turned s)).view in
      let far_same : is_at m t.near ≡ is_at m s.far = ap (λ (v : View). same_name v.name m) (near (turned s)).view in
      subst (λ b. MaybeAlike (seen_by m s) (cond b (Some (turned t)) (cond (is_at m t.near) (Some t) None))) (sym near_same)
      (subst (λ b. MaybeAlike (seen_by m s) (cond (is_at m s.near) (Some (turned t)) (cond b (Some t) None))) (sym far_same)
      (elim (is_at m s.near) as (λ b. MaybeAlike (cond b (Some s) (cond (is_at m s.far) (Some (turned s)) None)) (cond b (Some (turned t)) (cond (is_at m s.far) (Some t) None))) [
        | true ↦ far (turned s)
        | false ↦ elim (is_at m s.far) as (λ b. MaybeAlike (cond b (Some (turned s)) None) (cond b (Some t) None)) [ true ↦ near (turned s) | false ↦ tt ]
      ]))

  session_alike : (m a b : Name) (ss : List Session) → AllAlike (sessions_of m ss) (sessions_of m (with_session a b f ss))
  session_alike m a b [] = tt
  session_alike m a b (s ∷ ss) =
      elim (joins a b s) as (λ c. AllAlike (sessions_of m (s ∷ ss)) (sessions_of m (cond c (f s ∷ ss) (cond (joins b a s) (turned (f (turned s)) ∷ ss) (s ∷ with_session a b f ss))))) [
        | true ↦ alike_cons (seen_by m s) (seen_by m (f s)) (sessions_of m ss) (sessions_of m ss) (seen_alike m s) (all_refl (sessions_of m ss))
        | false ↦ elim (joins b a s) as (λ c. AllAlike (sessions_of m (s ∷ ss)) (sessions_of m (cond c (turned (f (turned s)) ∷ ss) (s ∷ with_session a b f ss)))) [
          | true ↦ alike_cons (seen_by m s) (seen_by m (turned (f (turned s)))) (sessions_of m ss) (sessions_of m ss) (seen_alike_turned m s) (all_refl (sessions_of m ss))
          | false ↦ alike_cons (seen_by m s) (seen_by m s) (sessions_of m ss) (sessions_of m (with_session a b f ss)) (maybe_refl (seen_by m s)) (session_alike m a b ss)
        ]
      ]

  map_alike : (m : Name) (ss : List Session) → AllAlike (sessions_of m ss) (sessions_of m (map f ss))
  map_alike m [] = tt
  map_alike m (s ∷ ss) = alike_cons (seen_by m s) (seen_by m (f s)) (sessions_of m ss) (sessions_of m (map f ss)) (seen_alike m s) (map_alike m ss)

-- ---- losses and breaks
takes_told : Takes AllHaveTold
takes_told from to w h m = step_tells to from m arrived arrived_touches w (h m)

pub round_told : (w : MachineState) → AllHaveTold w → AllHaveTold (round w)
round_told = round_walk AllHaveTold takes_told

loses_told : (a b : Name) (w : MachineState) → AllHaveTold w → AllHaveTold (change_session a b lost w)
loses_told a b w e m =
    told_alike w.setup (sessions_of m w.sessions) (sessions_of m (with_session a b lost w.sessions))
    (session_alike lost (λ s. record { view = refl; sent = refl; down = λ e. absurd (true≢false e) }) (λ s. record { view = refl; sent = refl; down = λ e. absurd (true≢false e) }) m a b w.sessions) (e m)

break_told : (a b : Name) (n : ℕ) (w : MachineState) → AllHaveTold w → AllHaveTold (change_session a b (add_break n) w)
break_told a b n w e m =
    told_alike w.setup (sessions_of m w.sessions) (sessions_of m (with_session a b (add_break n) w.sessions))
    (session_alike (add_break n) (λ s. record { view = refl; sent = refl; down = λ e. e }) (λ s. record { view = refl; sent = refl; down = λ e. e }) m a b w.sessions) (e m)

pub unbroken_told : (w : MachineState) → AllHaveTold w → AllHaveTold (record { setup = w.setup; sessions = map without_breaks w.sessions })
unbroken_told w e m =
    told_alike w.setup (sessions_of m w.sessions) (sessions_of m (map without_breaks w.sessions))
    (map_alike without_breaks (λ s. record { view = refl; sent = refl; down = λ e. e }) (λ s. record { view = refl; sent = refl; down = λ e. e }) m w.sessions) (e m)

-- ---- a restarted node has all its sessions down
shut_told : (x : Setup) (own : List Session) → HasTold x (map shut own)
shut_told x [] whole = tt
shut_told x (s ∷ own) whole = absurd (true≢false whole.0)

restart_told : (n : Name) (w : MachineState) → AllHaveTold w → AllHaveTold (change_node n shut w)
restart_told n w e m =
    elim (same_name n m) as (λ c. same_name n m ≡ c → NodeHasTold (change_node n shut w) m) [
      | true ↦ λ is. subst (NodeHasTold (change_node n shut w)) ((bytes_decides n m).0 is)
          (subst (HasTold w.setup) (sym (own_after n shut (λ s. refl) w.sessions)) (shut_told w.setup (sessions_of n w.sessions)))
      | false ↦ λ apart. told_alike w.setup (sessions_of m w.sessions) (sessions_of m (map (at_node n shut) w.sessions)) (others_of_node n m apart shut shut_touches w.sessions) (e m)
    ] refl

-- ---- octets
module _ (size : Name → Message → ℕ) where
  took_octets_touches : (f : List Message) (n : ℕ) (s : Session) → Touches s (took_octets size n f s)
  took_octets_touches [] n s = alike_refl (turned s)
  took_octets_touches (m ∷ ms) n s =
      elim s.is_down as (λ b. Touches s (cond b s (cond (nat_lt n (size s.far.name m - s.far.taken)) (record s { far = record s.far { taken = s.far.taken + n } }) (took_octets size (n - (size s.far.name m - s.far.taken)) ms (took m (without_first ms s)))))) [
        | true ↦ alike_refl (turned s)
        | false ↦ elim (nat_lt n (size s.far.name m - s.far.taken)) as (λ b. Touches s (cond b (record s { far = record s.far { taken = s.far.taken + n } }) (took_octets size (n - (size s.far.name m - s.far.taken)) ms (took m (without_first ms s))))) [
          | true ↦ record { view = refl; sent = refl; down = λ e. e }
          | false ↦ alike_trans (turned s) (turned (took m (without_first ms s))) (turned (took_octets size (n - (size s.far.name m - s.far.taken)) ms (took m (without_first ms s))))
              (took_next_touches m ms s) (took_octets_touches ms (n - (size s.far.name m - s.far.taken)) (took m (without_first ms s)))
        ]
      ]

  pub octets_touches : (n : ℕ) (s : Session) → Touches s (octets_arrived size n s)
  unfolding octets_arrived
  octets_touches n s =
      elim s.near.notice as (λ b. Touches s (cond b (record s { near = closed s.near }) (took_octets size n s.far.flight s))) [
        | true ↦ record { view = refl; sent = refl; down = λ e. e }
        | false ↦ took_octets_touches s.far.flight n s
      ]

-- ---- a connection
module _ (a b m : Name) where
  -- a session is none of a third node's
  module _ (apart_a : same_name a m ≡ false) (apart_b : same_name b m ≡ false) (f : Session → Session) (kept : KeepsNodes f) where
    unseen : (s : Session) → joins a b s ≡ true → seen_by m s ≡ None
    unseen s is =
        let p = and_parts (is_at a s.near) (is_at b s.far) is in
        ap (λ c. cond c (Some s) (cond (is_at m s.far) (Some (turned s)) None)) (not_at a m s.near apart_a p.0)
        ∙ ap (λ c. cond c (Some (turned s)) None) (not_at b m s.far apart_b p.1)

    unseen_turned : (s : Session) → joins b a s ≡ true → seen_by m s ≡ None
    unseen_turned s is =
        let p = and_parts (is_at b s.near) (is_at a s.far) is in
        ap (λ c. cond c (Some s) (cond (is_at m s.far) (Some (turned s)) None)) (not_at b m s.near apart_b p.0)
        ∙ ap (λ c. cond c (Some (turned s)) None) (not_at a m s.far apart_a p.1)

    strangers : (ss : List Session) → sessions_of m (with_session a b f ss) ≡ sessions_of m ss
    strangers [] = refl
    strangers (s ∷ ss) =
        elim (joins a b s) as (λ c. joins a b s ≡ c → sessions_of m (cond c (f s ∷ ss) (cond (joins b a s) (turned (f (turned s)) ∷ ss) (s ∷ with_session a b f ss))) ≡ sessions_of m (s ∷ ss)) [
          | true ↦ λ is. ap (λ (o : Option Session). cons_option o (sessions_of m ss)) (unseen (f s) (joins_kept a b s (f s) (kept s) ∙ is) ∙ sym (unseen s is))
          | false ↦ λ _. elim (joins b a s) as (λ c. joins b a s ≡ c → sessions_of m (cond c (turned (f (turned s)) ∷ ss) (s ∷ with_session a b f ss)) ≡ sessions_of m (s ∷ ss)) [
            | true ↦ λ is.
                let same : nodes (turned (f (turned s))) ≡ nodes s = ap (λ (p : NodePair). (p.1, p.0)) (kept (turned s)) in
                ap (λ (o : Option Session). cons_option o (sessions_of m ss)) (unseen_turned (turned (f (turned s))) (joins_kept b a s (turned (f (turned s))) same ∙ is) ∙ sym (unseen_turned s is))
            | false ↦ λ _. ap (cons_option (seen_by m s)) (strangers ss)
          ] refl
        ] refl

  -- the second node acts on the session alone, as far as it is found
  others_of_second : same_name b m ≡ false → (f : Session → Session) → (ss : List Session) → ((s : Session) → session_in ss a b ≡ Some s → Touches (turned s) (f (turned s))) → AllAlike (sessions_of m ss) (sessions_of m (with_session a b (around f) ss))
  others_of_second apart f [] h = tt
  others_of_second apart f (s ∷ ss) h =
      elim (joins a b s) as (λ c. joins a b s ≡ c → ((t : Session) → cond c (Some s) (cond (joins b a s) (Some (turned s)) (session_in ss a b)) ≡ Some t → Touches (turned t) (f (turned t))) → AllAlike (sessions_of m (s ∷ ss)) (sessions_of m (cond c (around f s ∷ ss) (cond (joins b a s) (turned (around f (turned s)) ∷ ss) (s ∷ with_session a b (around f) ss))))) [
        | true ↦ λ is h. alike_cons (seen_by m s) (seen_by m (around f s)) (sessions_of m ss) (sessions_of m ss) (far_acts b m apart s (f (turned s)) (and_parts (is_at a s.near) (is_at b s.far) is).1 (h s refl)) (all_refl (sessions_of m ss))
        | false ↦ λ _. elim (joins b a s) as (λ c. joins b a s ≡ c → ((t : Session) → cond c (Some (turned s)) (session_in ss a b) ≡ Some t → Touches (turned t) (f (turned t))) → AllAlike (sessions_of m (s ∷ ss)) (sessions_of m (cond c (turned (around f (turned s)) ∷ ss) (s ∷ with_session a b (around f) ss)))) [
          | true ↦ λ is h. alike_cons (seen_by m s) (seen_by m (f s)) (sessions_of m ss) (sessions_of m ss) (near_acts b m apart s (f s) (and_parts (is_at b s.near) (is_at a s.far) is).0 (h (turned s) refl)) (all_refl (sessions_of m ss))
          | false ↦ λ _ h. alike_cons (seen_by m s) (seen_by m s) (sessions_of m ss) (sessions_of m (with_session a b (around f) ss)) (maybe_refl (seen_by m s)) (others_of_second apart f ss h)
        ] refl
      ] refl h

opened_touches : (s : Session) → s.is_down ≡ false → Touches s (opened s)
unfolding opened
opened_touches s e = told_from (greeting s ∷ []) s (record { is_down = false; near = record s.near { phase = Opened }; far = s.far }) (record { view = refl; sent = refl; down = λ _. e })

-- connected
abbrev pub is_among : List NodePair → Name → Name → Bool
is_among [] a b = false
is_among (p ∷ ps) a b = cond (same_name p.0.0 a && same_name p.1.0 b) true (cond (same_name p.0.0 b && same_name p.1.0 a) true (is_among ps a b))

pub found_among : (ss : List Session) (a b : Name) → is_some (session_in ss a b) ≡ is_among (map nodes ss) a b
found_among [] a b = refl
found_among (s ∷ ss) a b =
    elim (joins a b s) as (λ c. is_some (cond c (Some s) (cond (joins b a s) (Some (turned s)) (session_in ss a b))) ≡ cond c true (cond (joins b a s) true (is_among (map nodes ss) a b))) [
      | true ↦ refl
      | false ↦ elim (joins b a s) as (λ c. is_some (cond c (Some (turned s)) (session_in ss a b)) ≡ cond c true (is_among (map nodes ss) a b)) [ true ↦ refl | false ↦ found_among ss a b ]
    ]

rest_whole : (o : Option Session) (ss : List Session) → AreWhole (cons_option o ss) → AreWhole ss
rest_whole None ss w = w
rest_whole (Some s) ss w = w.1

whole_found : (ss : List Session) (a b : Name) (t : Session) → AreWhole (sessions_of b ss) → session_in ss a b ≡ Some t → t.is_down ≡ false
whole_found [] a b t w is = cc
whole_found (s ∷ ss) a b t w is =
    elim (joins a b s) as (λ c. joins a b s ≡ c → cond c (Some s) (cond (joins b a s) (Some (turned s)) (session_in ss a b)) ≡ Some t → t.is_down ≡ false) [
      | true ↦ λ at is. ap (λ (s : Session). s.is_down) (sym (same_Some s t is)) ∙ far_whole (and_parts (is_at a s.near) (is_at b s.far) at).1
      | false ↦ λ _. elim (joins b a s) as (λ c. joins b a s ≡ c → cond c (Some (turned s)) (session_in ss a b) ≡ Some t → t.is_down ≡ false) [
        | true ↦ λ at is. ap (λ (s : Session). s.is_down) (sym (same_Some (turned s) t is)) ∙ near_whole (and_parts (is_at b s.near) (is_at a s.far) at).0
        | false ↦ λ _ is. whole_found ss a b t (rest_whole (seen_by b s) (sessions_of b ss) w) is
      ] refl
    ] refl is
  where
    near_whole : is_at b s.near ≡ true → s.is_down ≡ false
    near_whole at = (subst (λ c. AreWhole (cons_option (cond c (Some s) (cond (is_at b s.far) (Some (turned s)) None)) (sessions_of b ss))) at w).0

    far_whole : is_at b s.far ≡ true → s.is_down ≡ false
    far_whole at =
        elim (is_at b s.near) as (λ c. is_at b s.near ≡ c → s.is_down ≡ false) [
          | true ↦ λ near. near_whole near
          | false ↦ λ near. (subst (λ c. AreWhole (cons_option (cond c (Some s) (cond true (Some (turned s)) None)) (sessions_of b ss))) near
              (subst (λ c. AreWhole (cons_option (cond (is_at b s.near) (Some s) (cond c (Some (turned s)) None)) (sessions_of b ss))) at w)).0
        ] refl

broken_down : (o : Option Session) → is_some o ≡ true → unwrap_or (option_map (λ (s : Session). s.is_down) o) true ≡ true → (t : Session) × (o ≡ Some t) × (t.is_down ≡ true)
broken_down None i e = absurd (true≢false (sym i))
broken_down (Some t) i e = (t, refl, e)

pub by_name : (P : Name → Type 0) (a m : Name) → P a → (same_name a m ≡ false → P m) → P m
by_name P a m p q = elim (same_name a m) as (λ c. same_name a m ≡ c → P m) [ true ↦ λ is. subst P ((bytes_decides a m).0 is) p | false ↦ q ] refl

connect_told : (a b : Name) (w : MachineState) → AllHaveTold w → is_some (session_in w.sessions a b) ≡ true → AllHaveTold (connect a b w)
connect_told a b w h found m =
    let v : MachineState = change_session a b opened w in
    let u : MachineState = pass a v in
    let among : is_some (session_in u.sessions a b) ≡ true =
    found_among u.sessions a b ∙ ap (λ (ps : List NodePair). is_among ps a b) (pass_nodes a v ∙ session_nodes a b opened opened_nodes w.sessions) ∙ sym (found_among w.sessions a b) ∙ found in
    let third : same_name a m ≡ false → same_name b m ≡ false → NodeHasTold u m = λ apart_a apart_b.
    pass_others a m v apart_a (subst (HasTold w.setup) (sym (strangers a b m apart_a apart_b opened opened_nodes w.sessions)) (h m)) in
    elim (is_broken u a b) as (λ c. is_broken u a b ≡ c → NodeHasTold (cond c u (pass b (change_session a b (around opened) u))) m) [
      | true ↦ λ broken. by_name (NodeHasTold u) a m (pass_tells a v) (λ apart_a. by_name (NodeHasTold u) b m
          (λ whole. let t = broken_down (session_in u.sessions a b) among broken in absurd (true≢false (sym t.2 ∙ whole_found u.sessions a b t.0 whole t.1)))
          (λ apart_b. third apart_a apart_b))
      | false ↦ λ unbroken. by_name (NodeHasTold (pass b (change_session a b (around opened) u))) b m (pass_tells b (change_session a b (around opened) u))
          (λ apart_b. pass_others b m (change_session a b (around opened) u) apart_b
          (told_alike w.setup (sessions_of m u.sessions) (sessions_of m (with_session a b (around opened) u.sessions))
          (others_of_second a b m apart_b opened u.sessions (λ s is. opened_touches (turned s) (sym (ap (λ (o : Option Session). unwrap_or (option_map (λ (s : Session). s.is_down) o) true) is) ∙ unbroken)))
          (by_name (NodeHasTold u) a m (pass_tells a v) (λ apart_a. third apart_a apart_b))))
    ] refl

connects_told : Connects AllHaveTold
connects_told a b w may found h = connect_told a b w h found

pub connect_all_told : (ss : List Session) (w : MachineState) → AllHaveTold w → AllHaveTold (connect_all ss w)
connect_all_told = connections_walk AllHaveTold connects_told

module _ (size : Name → Message → ℕ) where
  told_steps : Steps size AllHaveTold
  told_steps = record {
    takes = takes_told;
    octets = λ from to n w h m. step_tells to from m (octets_arrived size n) (octets_touches size n) w (h m);
    loses = loses_told;
    connects = connects_told;
    restarts = restart_told;
    clears = unbroken_told;
    breaks = break_told;
  }

  pub after_told : (w : MachineState) (es : List MachineEvent) → Holds Placed w → AllHaveTold w → AllHaveTold (after size w es)
  after_told w [] p h = h
  after_told w (e ∷ es) p h =
      after_told (next size w e) es (next_holds size Placed edits_placed w e p) (next_walk size AllHaveTold told_steps w e (λ d _ h. edits_told d w p h) h)
