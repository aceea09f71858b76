-- What was sent is what the sender's holdings want, at each node that has no session down.
use Rattle.std.specs.Prelude.{◌≡◌, ℕ, List, [], ◌∷◌, map, Bool, true, false, cond}
use Rattle.std.specs.declared.option.Option.{Option}
use Rattle.std.specs.declared.option.Option.TheVariants.{Some, None}
use Rattle.std.specs.Option.{option_map}
use Rattle.std.specs.List.{cons_option}
use Rattle.std.specs.Cmp.Lexicographic.{bytes_decides}
use Rattle.std.proofs.lemmas.Bool.{true≢false, and_parts}
use Rattle.std.proofs.Common.{refl, sym, ◌∙◌, ap, subst, inl, inr}
use Rattle.transform_model.specs.NodeModel.Maps.{Map, difference}
use Rattle.machine_model.specs.Setup.{Name, Setup}
use Rattle.ov_types.specs.First.{same_name}
use Rattle.transform_model.specs.NodeModel.Step.{Phase, Idle, Opened, Confirmed, Up}
use Rattle.machine_model.specs.Session.{Message, Open, Keepalive, Hello, Carries, SessionEnd, Session, turned, closed, are_peers, is_peering, may_send_at, may_send, shut, with_breaks, told, passed, with_phase, peer_took, item_took, took, without_first, took_first, arrived}
use Rattle.machine_model.specs.Network.{MachineState, View, view, views_of, sessions_of, seen_by, wanted, is_at}
use Rattle.machine_model.specs.Steps.{at_node, joins, with_session, change_session, pass}
use Rattle.machine_model.proofs.SessionFact.{sends, told_cases}
use Rattle.machine_model.specs.Moments.{AreWhole, TellsWanted, HasTold, NodeHasTold}
use Rattle.machine_model.proofs.NetworkFact.{NodePair, nodes, passed_nodes}

-- t may stand for s, as the near node goes by it
pub record Alike (s t : Session) : Type 0 where
  pub view : view t ≡ view s
  pub sent : t.near.sent ≡ s.near.sent
  pub down : t.is_down ≡ false → s.is_down ≡ false

-- a step of the near end changes nothing that the far node goes by
abbrev pub Touches : Session → Session → Type 0
Touches s t = Alike (turned s) (turned t)

pub alike_refl : (s : Session) → Alike s s
alike_refl s = record { view = refl; sent = refl; down = λ e. e }

pub alike_trans : (s t u : Session) → Alike s t → Alike t u → Alike s u
alike_trans s t u a b = record { view = b.view ∙ a.view; sent = b.sent ∙ a.sent; down = λ e. a.down (b.down e) }

-- ---- the steps of one end
told_touches : (ms : List Message) (s : Session) → Touches s (told ms s)
told_touches ms s =
    elim (told_cases ms s) as (λ _. Touches s (told ms s)) [
      | inl p ↦ subst (Touches s) (sym p.1) (record { view = refl; sent = refl; down = λ e. absurd (true≢false e) })
      | inr p ↦ subst (Touches s) (sym p.1) (elim s.is_down as (λ d. Touches (record { is_down = d; near = s.near; far = s.far }) (with_breaks p.0 (sends ms (record { is_down = d; near = s.near; far = s.far })))) [
        | true ↦ record { view = refl; sent = refl; down = λ e. e }
        | false ↦ record { view = refl; sent = refl; down = λ e. e }
      ])
    ]

-- from a session that differs at the near end alone
pub told_from : (ms : List Message) (s t : Session) → Touches s t → Touches s (told ms t)
told_from ms s t a = alike_trans (turned s) (turned t) (turned (told ms t)) a (told_touches ms t)

pub passed_touches : (m : Map) (s : Session) → Touches s (passed m s)
unfolding passed
passed_touches m s =
    elim (may_send s) as (λ b. Touches s (cond b (told (map Carries (difference s.near.sent m)) (record s { near = record s.near { sent = m } })) s)) [
      | true ↦ told_from (map Carries (difference s.near.sent m)) s (record s { near = record s.near { sent = m } }) (record { view = refl; sent = refl; down = λ e. e })
      | false ↦ alike_refl (turned s)
    ]

pub shut_touches : (s : Session) → Touches s (shut s)
shut_touches s = record { view = refl; sent = refl; down = λ e. absurd (true≢false e) }

peer_took_touches : (p : Phase) (m : Message) (s : Session) → Touches s (peer_took p m s)
peer_took_touches Idle m s = alike_refl (turned s)
peer_took_touches Opened Open s = told_from (Keepalive ∷ []) s (with_phase Confirmed s) (record { view = refl; sent = refl; down = λ e. e })
peer_took_touches Confirmed Keepalive s = record { view = refl; sent = refl; down = λ e. e }
peer_took_touches Up Keepalive s = alike_refl (turned s)
peer_took_touches Up (Carries d) s = record { view = refl; sent = refl; down = λ e. e }
peer_took_touches _ _ s = shut_touches s

item_took_touches : (p : Phase) (m : Message) (s : Session) → Touches s (item_took p m s)
item_took_touches Idle m s = alike_refl (turned s)
item_took_touches Opened Hello s = record { view = refl; sent = refl; down = λ e. e }
item_took_touches Up (Carries d) s = record { view = refl; sent = refl; down = λ e. e }
item_took_touches _ _ s = shut_touches s

took_touches : (m : Message) (s : Session) → Touches s (took m s)
took_touches m s =
    elim (is_peering s) as (λ b. Touches s (cond b (peer_took s.near.phase m s) (item_took s.near.phase m s))) [ true ↦ peer_took_touches s.near.phase m s | false ↦ item_took_touches s.near.phase m s ]

pub took_next_touches : (m : Message) (ms : List Message) (s : Session) → Touches s (took m (without_first ms s))
took_next_touches m ms s =
    alike_trans (turned s) (turned (without_first ms s)) (turned (took m (without_first ms s))) (record { view = refl; sent = refl; down = λ e. e }) (took_touches m (without_first ms s))

took_first_touches : (f : List Message) (s : Session) → Touches s (took_first f s)
took_first_touches [] s = alike_refl (turned s)
took_first_touches (m ∷ ms) s = took_next_touches m ms s

pub arrived_touches : (s : Session) → Touches s (arrived s)
unfolding arrived
arrived_touches s =
    elim s.near.notice as (λ b. Touches s (cond b (record s { near = closed s.near }) (took_first s.far.flight s))) [
      | true ↦ record { view = refl; sent = refl; down = λ e. e }
      | false ↦ took_first_touches s.far.flight s
    ]

-- ---- lists
abbrev pub AllAlike : List Session → List Session → Type 0
AllAlike [] [] = Unit {0}
AllAlike (s ∷ ss) (t ∷ ts) = Alike s t × AllAlike ss ts
AllAlike _ _ = ⊥

abbrev pub MaybeAlike : Option Session → Option Session → Type 0
MaybeAlike None None = Unit {0}
MaybeAlike (Some s) (Some t) = Alike s t
MaybeAlike _ _ = ⊥

pub alike_cons : (o p : Option Session) (ss ts : List Session) → MaybeAlike o p → AllAlike ss ts → AllAlike (cons_option o ss) (cons_option p ts)
alike_cons None None ss ts a b = b
alike_cons (Some s) (Some t) ss ts a b = (a, b)
alike_cons None (Some t) ss ts a b = absurd a
alike_cons (Some s) None ss ts a b = absurd a

pub maybe_refl : (o : Option Session) → MaybeAlike o o
maybe_refl None = tt
maybe_refl (Some s) = alike_refl s

pub all_refl : (ss : List Session) → AllAlike ss ss
all_refl [] = tt
all_refl (s ∷ ss) = (alike_refl s, all_refl ss)

-- ---- a node is not another
pub not_at : (n m : Name) (e : SessionEnd) → same_name n m ≡ false → is_at n e ≡ true → is_at m e ≡ false
not_at n m e apart at = ap (λ (k : Name). same_name k m) ((bytes_decides e.name n).0 at) ∙ apart

module _ (n m : Name) (apart : same_name n m ≡ false) where
  -- what m sees where n acts at the near end, and at the far end
  pub near_acts : (s t : Session) → is_at n s.near ≡ true → Touches s t → MaybeAlike (seen_by m s) (seen_by m t)
  near_acts s t at a =
      let other : is_at m s.near ≡ false = not_at n m s.near apart at in
      let near_same : is_at m t.near ≡ is_at m s.near = ap (λ (v : View). same_name v.other m) a.view in
      let far_same : is_at m t.far ≡ is_at m s.far = ap (λ (v : View). same_name v.name m) a.view in
      subst (λ b. MaybeAlike (cond b (Some s) (cond (is_at m s.far) (Some (turned s)) None)) (seen_by m t)) (sym other)
      (subst (λ b. MaybeAlike (cond (is_at m s.far) (Some (turned s)) None) (cond b (Some t) (cond (is_at m t.far) (Some (turned t)) None))) (sym (near_same ∙ other))
      (subst (λ b. MaybeAlike (cond (is_at m s.far) (Some (turned s)) None) (cond b (Some (turned t)) None)) (sym far_same)
      (elim (is_at m s.far) as (λ b. MaybeAlike (cond b (Some (turned s)) None) (cond b (Some (turned t)) None)) [ true ↦ a | false ↦ tt ])))

  pub far_acts : (s v : Session) → is_at n s.far ≡ true → Touches (turned s) v → MaybeAlike (seen_by m s) (seen_by m (turned v))
  far_acts s v at a =
      let other : is_at m s.far ≡ false = not_at n m s.far apart at in
      let near_same : is_at m v.far ≡ is_at m s.near = ap (λ (v : View). same_name v.name m) a.view in
      let far_same : is_at m v.near ≡ is_at m s.far = ap (λ (v : View). same_name v.other m) a.view in
      subst (λ b. MaybeAlike (seen_by m s) (cond b (Some (turned v)) (cond (is_at m v.near) (Some v) None))) (sym near_same)
      (subst (λ b. MaybeAlike (seen_by m s) (cond (is_at m s.near) (Some (turned v)) (cond b (Some v) None))) (sym (far_same ∙ other))
      (subst (λ b. MaybeAlike (cond (is_at m s.near) (Some s) (cond b (Some (turned s)) None)) (cond (is_at m s.near) (Some (turned v)) None)) (sym other)
      (elim (is_at m s.near) as (λ b. MaybeAlike (cond b (Some s) None) (cond b (Some (turned v)) None)) [ true ↦ a | false ↦ tt ])))

  module _ (f : Session → Session) (touches : (s : Session) → Touches s (f s)) where
    node_acts : (s : Session) → MaybeAlike (seen_by m s) (seen_by m (at_node n f s))
    node_acts s =
        elim (is_at n s.near) as (λ b. is_at n s.near ≡ b → MaybeAlike (seen_by m s) (seen_by m (cond b (f s) (cond (is_at n s.far) (turned (f (turned s))) s)))) [
          | true ↦ λ at. near_acts s (f s) at (touches s)
          | false ↦ λ _. elim (is_at n s.far) as (λ b. is_at n s.far ≡ b → MaybeAlike (seen_by m s) (seen_by m (cond b (turned (f (turned s))) s))) [
            | true ↦ λ at. far_acts s (f (turned s)) at (touches (turned s))
            | false ↦ λ _. maybe_refl (seen_by m s)
          ] refl
        ] refl

    -- n acts on all its sessions
    pub others_of_node : (ss : List Session) → AllAlike (sessions_of m ss) (sessions_of m (map (at_node n f) ss))
    others_of_node [] = tt
    others_of_node (s ∷ ss) = alike_cons (seen_by m s) (seen_by m (at_node n f s)) (sessions_of m ss) (sessions_of m (map (at_node n f) ss)) (node_acts s) (others_of_node ss)

    -- n acts on one
    others_of_session : (b : Name) (ss : List Session) → AllAlike (sessions_of m ss) (sessions_of m (with_session n b f ss))
    others_of_session b [] = tt
    others_of_session b (s ∷ ss) =
        elim (joins n b s) as (λ c. joins n b s ≡ c → AllAlike (sessions_of m (s ∷ ss)) (sessions_of m (cond c (f s ∷ ss) (cond (joins b n s) (turned (f (turned s)) ∷ ss) (s ∷ with_session n b f ss))))) [
          | true ↦ λ is. alike_cons (seen_by m s) (seen_by m (f s)) (sessions_of m ss) (sessions_of m ss) (near_acts s (f s) (and_parts _ _ is).0 (touches s)) (all_refl (sessions_of m ss))
          | false ↦ λ _. elim (joins b n s) as (λ c. joins b n s ≡ c → AllAlike (sessions_of m (s ∷ ss)) (sessions_of m (cond c (turned (f (turned s)) ∷ ss) (s ∷ with_session n b f ss)))) [
            | true ↦ λ is. alike_cons (seen_by m s) (seen_by m (turned (f (turned s)))) (sessions_of m ss) (sessions_of m ss) (far_acts s (f (turned s)) (and_parts _ _ is).1 (touches (turned s))) (all_refl (sessions_of m ss))
            | false ↦ λ _. alike_cons (seen_by m s) (seen_by m s) (sessions_of m ss) (sessions_of m (with_session n b f ss)) (maybe_refl (seen_by m s)) (others_of_session b ss)
          ] refl
        ] refl

-- ---- the fact
abbrev may_view : View → Bool
may_view v = may_send_at (are_peers v.role v.other_role) v.phase

pub alike_views : (ss ts : List Session) → AllAlike ss ts → map view ts ≡ map view ss
alike_views [] [] a = refl
alike_views (s ∷ ss) (t ∷ ts) a = λ i. a.0.view i ∷ alike_views ss ts a.1 i
alike_views [] (t ∷ ts) a = absurd a
alike_views (s ∷ ss) [] a = absurd a

alike_whole : (ss ts : List Session) → AllAlike ss ts → AreWhole ts → AreWhole ss
alike_whole [] [] a w = tt
alike_whole (s ∷ ss) (t ∷ ts) a w = (a.0.down w.0, alike_whole ss ts a.1 w.1)
alike_whole [] (t ∷ ts) a w = absurd a
alike_whole (s ∷ ss) [] a w = absurd a

pub alike_tells : (x : Setup) (vs : List View) (ss ts : List Session) → AllAlike ss ts → TellsWanted x vs ss → TellsWanted x vs ts
alike_tells x vs [] [] a h = tt
alike_tells x vs (s ∷ ss) (t ∷ ts) a h =
    ((λ may. a.0.sent ∙ h.0 (ap may_view (sym a.0.view) ∙ may) ∙ ap (wanted x vs) (sym a.0.view)), alike_tells x vs ss ts a.1 h.1)
alike_tells x vs [] (t ∷ ts) a h = absurd a
alike_tells x vs (s ∷ ss) [] a h = tt

pub told_alike : (x : Setup) (ss ts : List Session) → AllAlike ss ts → HasTold x ss → HasTold x ts
told_alike x ss ts a h whole =
    subst (λ (vs : List View). TellsWanted x vs ts) (sym (alike_views ss ts a)) (alike_tells x (map view ss) ss ts a (h (alike_whole ss ts a whole)))

-- ---- a node that makes a pass owes nothing
passed_tells : (m : Map) (s : Session) → (passed m s).is_down ≡ false → (view (passed m s) ≡ view s) × (may_send (passed m s) ≡ true → (passed m s).near.sent ≡ m)
unfolding passed
passed_tells m s =
    elim (may_send s) as (λ b. may_send s ≡ b → (cond b (told (map Carries (difference s.near.sent m)) (record s { near = record s.near { sent = m } })) s).is_down ≡ false
    → (view (cond b (told (map Carries (difference s.near.sent m)) (record s { near = record s.near { sent = m } })) s) ≡ view s)
    × (may_send (cond b (told (map Carries (difference s.near.sent m)) (record s { near = record s.near { sent = m } })) s) ≡ true → (cond b (told (map Carries (difference s.near.sent m)) (record s { near = record s.near { sent = m } })) s).near.sent ≡ m)) [
      | true ↦ λ _. told_sends (map Carries (difference s.near.sent m)) (record s { near = record s.near { sent = m } })
      | false ↦ λ e _. (refl, λ may. absurd (true≢false (sym may ∙ e)))
    ] refl
  where
    sends_view : (d : Bool) (near far : SessionEnd) (ms : List Message) (b : List ℕ) → let t : Session = with_breaks b (sends ms (record { is_down = d; near = near; far = far })) in (view t ≡ view (record { is_down = d; near = near; far = far })) × (t.near.sent ≡ near.sent)
    sends_view true near far ms b = (refl, refl)
    sends_view false near far ms b = (refl, refl)

    told_sends : (ms : List Message) (s : Session) → (told ms s).is_down ≡ false → (view (told ms s) ≡ view s) × (may_send (told ms s) ≡ true → (told ms s).near.sent ≡ s.near.sent)
    told_sends ms s =
        elim (told_cases ms s) as (λ _. (told ms s).is_down ≡ false → (view (told ms s) ≡ view s) × (may_send (told ms s) ≡ true → (told ms s).near.sent ≡ s.near.sent)) [
          | inl p ↦ λ e. absurd (true≢false (sym (ap (λ (t : Session). t.is_down) p.1) ∙ e))
          | inr p ↦ λ e. (ap view p.1 ∙ (sends_view s.is_down s.near s.far ms p.0).0, λ _. ap (λ (t : Session). t.near.sent) p.1 ∙ (sends_view s.is_down s.near s.far ms p.0).1)
        ]

-- a node's own sessions after it acted on all of them
own_acts : (n : Name) (g : Session → Session) → ((s : Session) → nodes (g s) ≡ nodes s) → (s : Session) → seen_by n (at_node n g s) ≡ option_map g (seen_by n s)
own_acts n g kept s =
    elim (is_at n s.near) as (λ b. is_at n s.near ≡ b → seen_by n (cond b (g s) (cond (is_at n s.far) (turned (g (turned s))) s)) ≡ option_map g (cond b (Some s) (cond (is_at n s.far) (Some (turned s)) None))) [
      | true ↦ λ at. ap (λ b. cond b (Some (g s)) (cond (is_at n (g s).far) (Some (turned (g s))) None)) (ap (λ (p : NodePair). same_name p.0.0 n) (kept s) ∙ at)
      | false ↦ λ not_near. elim (is_at n s.far) as (λ b. is_at n s.far ≡ b → seen_by n (cond b (turned (g (turned s))) s) ≡ option_map g (cond b (Some (turned s)) None)) [
        | true ↦ λ at.
            ap (λ b. cond b (Some (turned (g (turned s)))) (cond (is_at n (g (turned s)).near) (Some (g (turned s))) None)) (ap (λ (p : NodePair). same_name p.1.0 n) (kept (turned s)) ∙ not_near)
            ∙ ap (λ b. cond b (Some (g (turned s))) None) (ap (λ (p : NodePair). same_name p.0.0 n) (kept (turned s)) ∙ at)
        | false ↦ λ not_far.
            ap (λ b. cond b (Some s) (cond (is_at n s.far) (Some (turned s)) None)) not_near
            ∙ ap (λ b. cond b (Some (turned s)) None) not_far
      ] refl
    ] refl

own_cons : (g : Session → Session) (o : Option Session) (ss : List Session) → cons_option (option_map g o) (map g ss) ≡ map g (cons_option o ss)
own_cons g None ss = refl
own_cons g (Some s) ss = refl

pub own_after : (n : Name) (g : Session → Session) → ((s : Session) → nodes (g s) ≡ nodes s) → (ss : List Session) → sessions_of n (map (at_node n g) ss) ≡ map g (sessions_of n ss)
own_after n g kept [] = refl
own_after n g kept (s ∷ ss) =
    ap (λ (o : Option Session). cons_option o (sessions_of n (map (at_node n g) ss))) (own_acts n g kept s)
    ∙ ap (cons_option (option_map g (seen_by n s))) (own_after n g kept ss)
    ∙ own_cons g (seen_by n s) (sessions_of n ss)

module _ (x : Setup) (vs : List View) where
  abbrev tell : Session → Session
  tell s = passed (wanted x vs (view s)) s

  tell_views : (own : List Session) → AreWhole (map tell own) → map view (map tell own) ≡ map view own
  tell_views [] w = refl
  tell_views (s ∷ own) w = λ i. (passed_tells (wanted x vs (view s)) s w.0).0 i ∷ tell_views own w.1 i

  tell_tells : (own : List Session) → AreWhole (map tell own) → TellsWanted x vs (map tell own)
  tell_tells [] w = tt
  tell_tells (s ∷ own) w =
      let p = passed_tells (wanted x vs (view s)) s w.0 in
      ((λ may. p.1 may ∙ ap (wanted x vs) (sym p.0)), tell_tells own w.1)

pub pass_tells : (n : Name) (w : MachineState) → NodeHasTold (pass n w) n
pass_tells n w =
    let own = sessions_of n w.sessions in
    let g = tell w.setup (map view own) in
    subst (HasTold w.setup) (sym (own_after n g (λ s. passed_nodes (wanted w.setup (map view own) (view s)) s) w.sessions))
    (λ whole. subst (λ (us : List View). TellsWanted w.setup us (map g own)) (sym (tell_views w.setup (map view own) own whole)) (tell_tells w.setup (map view own) own whole))

-- and another node's debts stay
pub pass_others : (n m : Name) (w : MachineState) → same_name n m ≡ false → NodeHasTold w m → NodeHasTold (pass n w) m
pass_others n m w apart h =
    let g = tell w.setup (views_of n w.sessions) in
    told_alike w.setup (sessions_of m w.sessions) (sessions_of m (map (at_node n g) w.sessions)) (others_of_node n m apart g (λ s. passed_touches (wanted w.setup (views_of n w.sessions) (view s)) s) w.sessions) h

-- a step of a node on one session, and its pass
pub step_tells : (n b m : Name) (f : Session → Session) → ((s : Session) → Touches s (f s)) → (w : MachineState) → NodeHasTold w m → NodeHasTold (pass n (change_session n b f w)) m
step_tells n b m f touches w h =
    elim (same_name n m) as (λ c. same_name n m ≡ c → NodeHasTold (pass n (change_session n b f w)) m) [
      | true ↦ λ is. subst (NodeHasTold (pass n (change_session n b f w))) ((bytes_decides n m).0 is) (pass_tells n (change_session n b f w))
      | false ↦ λ apart. pass_others n m (change_session n b f w) apart (told_alike w.setup (sessions_of m w.sessions) (sessions_of m (with_session n b f w.sessions)) (others_of_session n m apart f touches b w.sessions) h)
    ] refl
