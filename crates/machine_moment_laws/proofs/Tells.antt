-- Where no break is pending each node has told what it wants, with sessions down or not: every step but an edit keeps it.
use Rattle.std.specs.Prelude.{◌≡◌, ℕ, Bool, List, [], ◌∷◌, map, true, false, cond}
use Rattle.std.specs.List.{cons_option}
use Rattle.std.specs.Cmp.Lexicographic.{bytes_decides}
use Rattle.std.specs.declared.option.Option.{Option}
use Rattle.std.specs.declared.option.Option.TheVariants.{None, Some}
use Rattle.std.proofs.Common.{ap, inl, inr, refl, subst, sym, ◌∙◌}
use Rattle.std.proofs.lemmas.Bool.{and_parts, true≢false}
use Rattle.ov_types.specs.First.{same_name}
use Rattle.node_laws.specs.NodeModel.Maps.{Map, difference}
use Rattle.node_laws.specs.NodeModel.Members.{Member}
use Rattle.machine_model.specs.Events.{passes}
use Rattle.machine_model.specs.Moments.{Each, NodePair, TellsWanted}
use Rattle.machine_model.specs.Network.{MachineState, View, is_at, seen_by, sessions_of, view, views_of, wanted}
use Rattle.machine_model.specs.Session.{Carries, Message, Session, SessionEnd, are_peers, arrived, may_send, may_send_at, octets_arrived, opened, passed, told, turned}
use Rattle.machine_model.specs.Setup.{Name, Setup}
use Rattle.machine_model.specs.Steps.{around, at_node, change_session, connect, is_broken, pass, with_session, without_breaks}
use Rattle.machine_model.proofs.Calm.{told_easy}
use Rattle.machine_model.proofs.NetworkFact.{KeepsNodes, nodes_keep, opened_nodes, passed_nodes, with_session_keeps}
use Rattle.machine_model.proofs.NodesFact.{arrived_nodes, octets_nodes}
use Rattle.machine_model.proofs.SessionFact.{sends}
use Rattle.machine_model.proofs.ToldFact.{arrived_touches, own_after, passed_touches}
use Rattle.machine_model.proofs.ToldNext.{octets_touches}
use Rattle.machine_model.proofs.Twins.{all_to_own}
use Rattle.machine_moment_laws.proofs.Acting.{AllLeaveOthers, LeavesOthers, leaves_refl, mapped_leaves, near_acts, none_acts, one_acts, session_leaves, turned_leaves}
use Rattle.machine_moment_laws.proofs.Quiet.{opened_leaves}
use Rattle.machine_moment_laws.proofs.Unbroken.{NoBreak, arrived_none, octets_arrived_none, opened_none, passed_none}

abbrev pub TellsAt : MachineState → Name → Type 0
TellsAt w m = TellsWanted w.setup (views_of m w.sessions) (sessions_of m w.sessions)

-- ---- a pass closes no end then
sends_see : (d : Bool) (near far : SessionEnd) (ms : List Message) → (view (sends ms (record { is_down = d; near = near; far = far })) ≡ view (record { is_down = d; near = near; far = far })) × ((sends ms (record { is_down = d; near = near; far = far })).near.sent ≡ near.sent)
sends_see true near far ms = (refl, refl)
sends_see false near far ms = (refl, refl)

passed_sees : (m : Map) (s : Session) → s.near.breaks ≡ [] → (view (passed m s) ≡ view s) × (may_send (passed m s) ≡ true → (passed m s).near.sent ≡ m)
unfolding passed
passed_sees m s unbroken =
    let t : Session = record s { near = record s.near { sent = m } } in
    let ms : List Message = map Carries (difference s.near.sent m) in
    elim (may_send s) as (λ b. may_send s ≡ b → (view (cond b (told ms t) s) ≡ view s) × (may_send (cond b (told ms t) s) ≡ true → (cond b (told ms t) s).near.sent ≡ m)) [
      | true ↦ λ _.
          let e = told_easy ms t unbroken in
          let q = sends_see s.is_down t.near s.far ms in
          (ap view e ∙ q.0, λ _. ap (λ (u : Session). u.near.sent) e ∙ q.1)
      | false ↦ λ off. (refl, λ may. absurd (true≢false (sym may ∙ off)))
    ] refl

abbrev Unbroken : Session → Type 0
Unbroken s = s.near.breaks ≡ []

module _ (x : Setup) (vs : List View) where
  abbrev tell : Session → Session
  tell s = passed (wanted x vs (view s)) s

  tell_views : (own : List Session) → Each Unbroken own → map view (map tell own) ≡ map view own
  tell_views [] u = refl
  tell_views (s ∷ own) u = λ i. (passed_sees (wanted x vs (view s)) s u.0).0 i ∷ tell_views own u.1 i

  tell_tells : (own : List Session) → Each Unbroken own → TellsWanted x vs (map tell own)
  tell_tells [] u = tt
  tell_tells (s ∷ own) u =
      let p = passed_sees (wanted x vs (view s)) s u.0 in
      ((λ may. p.1 may ∙ ap (wanted x vs) (sym p.0)), tell_tells own u.1)

own_unbroken : (n : Name) (ss : List Session) → Each NoBreak ss → Each Unbroken (sessions_of n ss)
own_unbroken n ss e = all_to_own Unbroken n ss e

pub pass_tells : (n : Name) (w : MachineState) → Each NoBreak w.sessions → TellsAt (pass n w) n
pass_tells n w e =
    let own = sessions_of n w.sessions in
    let g = tell w.setup (map view own) in
    let u = own_unbroken n w.sessions e in
    subst (λ (ts : List Session). TellsWanted w.setup (map view ts) ts) (sym (own_after n g (λ s. passed_nodes (wanted w.setup (map view own) (view s)) s) w.sessions))
    (subst (λ (us : List View). TellsWanted w.setup us (map g own)) (sym (tell_views w.setup (map view own) own u)) (tell_tells w.setup (map view own) own u))

-- ---- what others leave
abbrev IsSame : Session → Session → Type 0
IsSame s t = (view t ≡ view s) × (t.near.sent ≡ s.near.sent)

abbrev AreSame : List Session → List Session → Type 0
AreSame [] [] = Unit {0}
AreSame (s ∷ ss) (t ∷ ts) = IsSame s t × AreSame ss ts
AreSame [] (t ∷ ts) = ⊥
AreSame (s ∷ ss) [] = ⊥

abbrev MaybeSame : Option Session → Option Session → Type 0
MaybeSame None None = Unit {0}
MaybeSame (Some s) (Some t) = IsSame s t
MaybeSame None (Some t) = ⊥
MaybeSame (Some s) None = ⊥

same_cons : (o p : Option Session) (ss ts : List Session) → MaybeSame o p → AreSame ss ts → AreSame (cons_option o ss) (cons_option p ts)
same_cons None None ss ts a b = b
same_cons (Some s) (Some t) ss ts a b = (a, b)
same_cons None (Some t) ss ts a b = absurd a
same_cons (Some s) None ss ts a b = absurd a

same_views : (ss ts : List Session) → AreSame ss ts → map view ts ≡ map view ss
same_views [] [] a = refl
same_views (s ∷ ss) (t ∷ ts) a = λ i. a.0.0 i ∷ same_views ss ts a.1 i
same_views [] (t ∷ ts) a = absurd a
same_views (s ∷ ss) [] a = absurd a

abbrev may_view : View → Bool
may_view v = may_send_at (are_peers v.role v.other_role) v.phase

same_tells : (x : Setup) (vs : List View) (ss ts : List Session) → AreSame ss ts → TellsWanted x vs ss → TellsWanted x vs ts
same_tells x vs [] [] a h = tt
same_tells x vs (s ∷ ss) (t ∷ ts) a h =
    ((λ may. a.0.1 ∙ h.0 (ap may_view (sym a.0.0) ∙ may) ∙ ap (wanted x vs) (sym a.0.0)), same_tells x vs ss ts a.1 h.1)
same_tells x vs [] (t ∷ ts) a h = absurd a
same_tells x vs (s ∷ ss) [] a h = absurd a

module _ (acts : Name → Bool) (m : Name) (off : acts m ≡ false) where
  near_same : (s t : Session) → LeavesOthers acts s t → is_at m s.near ≡ true → IsSame s t
  near_same s t l at =
      let on = l.near (ap acts ((bytes_decides s.near.name m).0 at) ∙ off) in
      let kept = l.kept in
      ((λ i. record { name = (kept i).0.0; role = (kept i).0.1; phase = on.phase i; held = on.held i; other = (kept i).1.0; other_role = (kept i).1.1 }), on.sent)

  seen_same : (s t : Session) → LeavesOthers acts s t → MaybeSame (seen_by m s) (seen_by m t)
  seen_same s t l =
      let near_is : is_at m t.near ≡ is_at m s.near = ap (λ (p : NodePair). same_name p.0.0 m) l.kept in
      let far_is : is_at m t.far ≡ is_at m s.far = ap (λ (p : NodePair). same_name p.1.0 m) l.kept in
      subst (λ b. MaybeSame (seen_by m s) (cond b (Some t) (cond (is_at m t.far) (Some (turned t)) None))) (sym near_is)
      (subst (λ b. MaybeSame (seen_by m s) (cond (is_at m s.near) (Some t) (cond b (Some (turned t)) None))) (sym far_is)
      (elim (is_at m s.near) as (λ b. is_at m s.near ≡ b → MaybeSame (cond b (Some s) (cond (is_at m s.far) (Some (turned s)) None)) (cond b (Some t) (cond (is_at m s.far) (Some (turned t)) None))) [
        | true ↦ λ at. near_same s t l at
        | false ↦ λ _. elim (is_at m s.far) as (λ b. is_at m s.far ≡ b → MaybeSame (cond b (Some (turned s)) None) (cond b (Some (turned t)) None)) [
          | true ↦ λ at. near_same (turned s) (turned t) (turned_leaves acts s t l) at
          | false ↦ λ _. tt
        ] refl
      ] refl))

  all_same : (ss ts : List Session) → AllLeaveOthers acts ss ts → AreSame (sessions_of m ss) (sessions_of m ts)
  all_same [] [] a = tt
  all_same (s ∷ ss) (t ∷ ts) a = same_cons (seen_by m s) (seen_by m t) (sessions_of m ss) (sessions_of m ts) (seen_same s t a.0) (all_same ss ts a.1)
  all_same [] (t ∷ ts) a = absurd a
  all_same (s ∷ ss) [] a = absurd a

  pub leaves_tell : (x : Setup) (ss ts : List Session) → AllLeaveOthers acts ss ts → TellsWanted x (map view (sessions_of m ss)) (sessions_of m ss) → TellsWanted x (map view (sessions_of m ts)) (sessions_of m ts)
  leaves_tell x ss ts a h =
      let same = all_same ss ts a in
      subst (λ (vs : List View). TellsWanted x vs (sessions_of m ts)) (sym (same_views (sessions_of m ss) (sessions_of m ts) same))
      (same_tells x (map view (sessions_of m ss)) (sessions_of m ss) (sessions_of m ts) same h)

-- ---- a node acts, and makes its pass
at_end : (f : Session → Session) → KeepsNodes f → ((s : Session) → (view (turned (f s)) ≡ view (turned s)) × ((f s).far.sent ≡ s.far.sent)) → (n : Name) (s : Session) → is_at n s.near ≡ true → LeavesOthers (one_acts n) s (f s)
at_end f kept leaves n s at = near_acts n s (f s) at (kept s) (leaves s).0 (leaves s).1

node_leaves : (f : Session → Session) → KeepsNodes f → ((s : Session) → (view (turned (f s)) ≡ view (turned s)) × ((f s).far.sent ≡ s.far.sent)) → (n : Name) (s : Session) → LeavesOthers (one_acts n) s (at_node n f s)
node_leaves f kept leaves n s =
    elim (is_at n s.near) as (λ b. is_at n s.near ≡ b → LeavesOthers (one_acts n) s (cond b (f s) (cond (is_at n s.far) (turned (f (turned s))) s))) [
      | true ↦ λ at. at_end f kept leaves n s at
      | false ↦ λ _. elim (is_at n s.far) as (λ b. is_at n s.far ≡ b → LeavesOthers (one_acts n) s (cond b (turned (f (turned s))) s)) [
        | true ↦ λ at. turned_leaves (one_acts n) (turned s) (f (turned s)) (at_end f kept leaves n (turned s) at)
        | false ↦ λ _. leaves_refl (one_acts n) s
      ] refl
    ] refl

session_acts : (f : Session → Session) → KeepsNodes f → ((s : Session) → (view (turned (f s)) ≡ view (turned s)) × ((f s).far.sent ≡ s.far.sent)) → (to from : Name) (ss : List Session) → AllLeaveOthers (one_acts to) ss (with_session to from f ss)
session_acts f kept leaves to from ss =
    session_leaves (one_acts to) to from f
    (λ s is. at_end f kept leaves to s (and_parts (is_at to s.near) (is_at from s.far) is).0)
    (λ s is. turned_leaves (one_acts to) (turned s) (f (turned s)) (at_end f kept leaves to (turned s) (and_parts (is_at from s.near) (is_at to s.far) is).1)) ss

abbrev pub AllTell : MachineState → Type 0
AllTell w = (m : Name) → TellsAt w m

pub pass_unbroken : (n : Name) (w : MachineState) → Each NoBreak w.sessions → Each NoBreak (pass n w).sessions
pass_unbroken n w e = nodes_keep NoBreak (λ s n. (n.1, n.0)) (λ s. passed (wanted w.setup (views_of n w.sessions) (view s)) s) (λ s n'. passed_none (wanted w.setup (views_of n w.sessions) (view s)) s n') n w.sessions e

pub pass_leaves_told : (n m : Name) (w : MachineState) → one_acts n m ≡ false → TellsAt w m → TellsAt (pass n w) m
pass_leaves_told n m w off h =
    let g : Session → Session = λ s. passed (wanted w.setup (views_of n w.sessions) (view s)) s in
    leaves_tell (one_acts n) m off w.setup w.sessions (map (at_node n g) w.sessions)
    (mapped_leaves (one_acts n) (at_node n g) (node_leaves g (λ s. passed_nodes (wanted w.setup (views_of n w.sessions) (view s)) s)
    (λ s. let t = passed_touches (wanted w.setup (views_of n w.sessions) (view s)) s in (t.view, t.sent)) n) w.sessions) h

pub by_node : (P : Name → Type 0) (n m : Name) → P n → (one_acts n m ≡ false → P m) → P m
by_node P n m p q = elim (same_name m n) as (λ c. same_name m n ≡ c → P m) [ true ↦ λ is. subst P (sym ((bytes_decides m n).0 is)) p | false ↦ q ] refl

-- where it alone acts
pub acted_tell : (n : Name) (x : Setup) (ss ts : List Session) → Each NoBreak ts → AllLeaveOthers (one_acts n) ss ts → AllTell (record { setup = x; sessions = ss }) → AllTell (pass n (record { setup = x; sessions = ts }))
acted_tell n x ss ts e a h m =
    let v : MachineState = record { setup = x; sessions = ts } in
    by_node (TellsAt (pass n v)) n m (pass_tells n v e) (λ off. pass_leaves_told n m v off (leaves_tell (one_acts n) m off x ss ts a (h m)))

turned_none : (s : Session) → NoBreak s → NoBreak (turned s)
turned_none s n = (n.1, n.0)

session_unbroken : (f : Session → Session) → ((s : Session) → NoBreak s → NoBreak (f s)) → (a b : Name) (ss : List Session) → Each NoBreak ss → Each NoBreak (with_session a b f ss)
session_unbroken f keeps a b ss e = with_session_keeps NoBreak turned_none f keeps a b ss e

pub takes_tell : (to from : Name) (w : MachineState) → Each NoBreak w.sessions → AllTell w → AllTell (pass to (change_session to from arrived w))
takes_tell to from w e h =
    acted_tell to w.setup w.sessions (with_session to from arrived w.sessions) (session_unbroken arrived arrived_none to from w.sessions e)
    (session_acts arrived arrived_nodes (λ s. ((arrived_touches s).view, (arrived_touches s).sent)) to from w.sessions) h

pub octets_tell : (size : Name → Message → ℕ) (to from : Name) (n : ℕ) (w : MachineState) → Each NoBreak w.sessions → AllTell w → AllTell (pass to (change_session to from (octets_arrived size n) w))
octets_tell size to from n w e h =
    acted_tell to w.setup w.sessions (with_session to from (octets_arrived size n) w.sessions) (session_unbroken (octets_arrived size n) (octets_arrived_none size n) to from w.sessions e)
    (session_acts (octets_arrived size n) (octets_nodes size n) (λ s. ((octets_touches size n s).view, (octets_touches size n s).sent)) to from w.sessions) h

-- ---- a connection
around_none : (s : Session) → NoBreak s → NoBreak (around opened s)
around_none s n = turned_none (opened (turned s)) (opened_none (turned s) (turned_none s n))

pub connect_tell : (a b : Name) (w : MachineState) → Each NoBreak w.sessions → AllTell w → AllTell (connect a b w)
connect_tell a b w e h =
    let v : MachineState = change_session a b opened w in
    let u : MachineState = pass a v in
    let unbroken = session_unbroken opened opened_none a b w.sessions e in
    let first : AllTell u = acted_tell a w.setup w.sessions v.sessions unbroken (session_acts opened opened_nodes opened_leaves a b w.sessions) h in
    elim (is_broken u a b) as (λ c. AllTell (cond c u (pass b (change_session a b (around opened) u)))) [
      | true ↦ first
      | false ↦ acted_tell b u.setup u.sessions (with_session a b (around opened) u.sessions) (session_unbroken (around opened) around_none a b u.sessions (pass_unbroken a v unbroken))
          (session_leaves (one_acts b) a b (around opened)
          (λ s is. turned_leaves (one_acts b) (turned s) (opened (turned s)) (at_end opened opened_nodes opened_leaves b (turned s) (and_parts (is_at a s.near) (is_at b s.far) is).1))
          (λ s is. at_end opened opened_nodes opened_leaves b s (and_parts (is_at b s.near) (is_at a s.far) is).0)
          u.sessions) first
    ]

-- ---- breaks that are cleared
cleared_goes : (s : Session) → LeavesOthers none_acts s (without_breaks s)
cleared_goes s = record { kept = refl; near = λ _. record { phase = refl; sent = refl; held = refl }; far = λ _. record { phase = refl; sent = refl; held = refl } }

pub clears_tell : (w : MachineState) → AllTell w → AllTell (record { setup = w.setup; sessions = map without_breaks w.sessions })
clears_tell w h m = leaves_tell none_acts m refl w.setup w.sessions (map without_breaks w.sessions) (mapped_leaves none_acts without_breaks cleared_goes w.sessions) (h m)

-- ---- passes of several nodes
pub passes_unbroken : (ns : List Name) (w : MachineState) → Each NoBreak w.sessions → Each NoBreak (passes ns w).sessions
passes_unbroken [] w e = e
passes_unbroken (n ∷ ns) w e = passes_unbroken ns (pass n w) (pass_unbroken n w e)

pub passes_tell : (ns : List Name) (m : Name) (w : MachineState) → Each NoBreak w.sessions → ((Member m ns → ⊥) → TellsAt w m) → TellsAt (passes ns w) m
passes_tell [] m w e h = h (λ i. i)
passes_tell (n ∷ ns) m w e h =
    passes_tell ns m (pass n w) (pass_unbroken n w e) (λ off. by_node (TellsAt (pass n w)) n m (pass_tells n w e) (λ apart.
    pass_leaves_told n m w apart (h (λ i. elim i as (λ _. ⊥) [
      | inl is ↦ true≢false (sym ((bytes_decides m n).1 (sym is)) ∙ apart)
      | inr j ↦ off j
    ]))))
