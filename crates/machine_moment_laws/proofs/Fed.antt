-- At every moment, with sessions down or not, the configuration node has told the low-level objects of the present
-- configuration at each of its ends that is live.
use Rattle.std.specs.Prelude.{◌≡◌, ℕ, ◌+◌, ◌-◌, List, [], ◌∷◌, map, Bool, true, false, not, cond, nat_lt}
use Rattle.std.specs.declared.option.Option.{Option}
use Rattle.std.specs.declared.option.Option.TheVariants.{Some, None}
use Rattle.std.specs.List.{AllByRecursion}
use Rattle.ov_types.specs.First.{same_name}
use Rattle.std.proofs.lemmas.Bool.{true≢false, and_parts}
use Rattle.std.proofs.Common.{refl, sym, ◌∙◌, ap, subst, inl, inr}
use Rattle.config_types.specs.declared.edit.Edit.{Edit}
use Rattle.node_laws.specs.NodeModel.Maps.{Map, difference}
use Rattle.node_laws.specs.NodeModel.Step.{Phase, Idle, Opened, Confirmed, Up, is_idle}
use Rattle.machine_model.specs.Setup.{Name, Setup, edited, low, moves}
use Rattle.machine_model.specs.Session.{Role, Configuration, Controller, Agent, Message, Open, Keepalive, Hello, Carries, Session, SessionEnd, turned, are_peers, is_peering, may_send_at, may_send, closed, shut, lost, with_phase, with_breaks, told, passed, greeting, opened, item_took, peer_took, took, without_first, took_first, arrived, took_octets, octets_arrived}
use Rattle.machine_model.specs.Network.{MachineState, View, wanted_from, config, is_at, view, views_of, wanted}
use Rattle.machine_model.specs.Steps.{at_node, joins, with_session, change_session, pass, is_broken, around, without_breaks}
use Rattle.machine_model.specs.Events.{MachineEvent, add_break, edits, moved, next, after}
use Rattle.machine_model.specs.Moments.{Each, NodePair, nodes}
use Rattle.machine_model.proofs.SessionFact.{sends, told_cases}
use Rattle.machine_model.proofs.Walk.{Takes, Connects, Steps, next_walk}
use Rattle.machine_model.proofs.NetworkFact.{opened_nodes}
use Rattle.machine_model.proofs.NodesFact.{Holds, next_holds, pass_nodes}
use Rattle.machine_model.proofs.ToldFact.{Touches, alike_refl, told_from, passed_touches, arrived_touches}
use Rattle.machine_model.proofs.ToldNext.{octets_touches}
use Rattle.machine_model.proofs.Listed.{Placed, Stands, edits_placed, of_nodes}

-- ---- an end of the configuration node
abbrev pub FedAs : Map → SessionEnd → Type 0
FedAs m e = e.role ≡ Configuration → is_idle e.phase ≡ false → e.sent ≡ m

abbrev pub Fed : Setup → Session → Type 0
Fed x s = FedAs (low x) s.near

-- an end that is live was, with what it had sent
record Lives (s t : Session) : Type 0 where
  role : t.near.role ≡ s.near.role
  live : is_idle t.near.phase ≡ false → (is_idle s.near.phase ≡ false) × (t.near.sent ≡ s.near.sent)

lives_refl : (s : Session) → Lives s s
lives_refl s = record { role = refl; live = λ e. (e, refl) }

lives_fed : (x : Setup) (s t : Session) → Lives s t → Fed x s → Fed x t
lives_fed x s t l f role live = let q = l.live live in q.1 ∙ f (sym l.role ∙ role) q.0

shut_lives : (s : Session) → Lives s (shut s)
shut_lives s = record { role = refl; live = λ e. absurd (true≢false e) }

item_lives : (p : Phase) (m : Message) (s : Session) → s.near.phase ≡ p → Lives s (item_took p m s)
item_lives Idle m s e = lives_refl s
item_lives Opened Hello s e = record { role = refl; live = λ _. (ap is_idle e, refl) }
item_lives Up (Carries d) s e = record { role = refl; live = λ l. (l, refl) }
item_lives _ _ s e = shut_lives s

-- what a step of the near end leaves of the far end
far_fed : (x : Setup) (s t : Session) → Touches s t → Fed x (turned s) → Fed x (turned t)
far_fed x s t a f role live =
    a.sent ∙ f (ap (λ (v : View). v.role) (sym a.view) ∙ role) (ap (λ (v : View). is_idle v.phase) (sym a.view) ∙ live)

pub not_peers : (r q : Role) → r ≡ Configuration → are_peers r q ≡ false
not_peers r q e = ap (λ (r : Role). are_peers r q) e

module _ (x : Setup) where
  took_fed : (m : Message) (ms : List Message) (s : Session) → Fed x s → Fed x (took m (without_first ms s))
  took_fed m ms s f =
      elim (is_peering s) as (λ b. is_peering s ≡ b → Fed x (cond b (peer_took s.near.phase m (without_first ms s)) (item_took s.near.phase m (without_first ms s)))) [
        | true ↦ λ is. peers is
        | false ↦ λ _. lives_fed x (without_first ms s) (item_took s.near.phase m (without_first ms s)) (item_lives s.near.phase m (without_first ms s) refl) f
      ] refl
    where
      same_role : (p : Phase) → (peer_took p m (without_first ms s)).near.role ≡ s.near.role
      same_role p = sym (role_kept p m (without_first ms s))
        where
          told_role : (ms : List Message) (t : Session) → t.near.role ≡ (told ms t).near.role
          told_role ms t = elim (told_cases ms t) as (λ _. t.near.role ≡ (told ms t).near.role) [
            | inl p ↦ ap (λ (u : Session). u.near.role) (sym p.1)
            | inr p ↦ sent_role t.is_down t.near t.far ms p.0 ∙ ap (λ (u : Session). u.near.role) (sym p.1)
          ]
            where
              sent_role : (d : Bool) (near far : SessionEnd) (ms : List Message) (b : List ℕ) → near.role ≡ (with_breaks b (sends ms (record { is_down = d; near = near; far = far }))).near.role
              sent_role true near far ms b = refl
              sent_role false near far ms b = refl

          role_kept : (p : Phase) (m : Message) (t : Session) → t.near.role ≡ (peer_took p m t).near.role
          role_kept Idle m t = refl
          role_kept Opened Open t = told_role (Keepalive ∷ []) (with_phase Confirmed t)
          role_kept Confirmed Keepalive t = refl
          role_kept Up Keepalive t = refl
          role_kept Up (Carries d) t = refl
          role_kept _ _ t = refl

      peers : is_peering s ≡ true → Fed x (peer_took s.near.phase m (without_first ms s))
      peers is role live = absurd (true≢false (sym is ∙ not_peers s.near.role s.far.role (sym (same_role s.near.phase) ∙ role)))

  first_fed : (g : List Message) (s : Session) → Fed x s → Fed x (took_first g s)
  first_fed [] s f = f
  first_fed (m ∷ ms) s f = took_fed m ms s f

  arrived_fed : (s : Session) → Fed x s → Fed x (arrived s)
  unfolding arrived
  arrived_fed s f =
      elim s.near.notice as (λ b. Fed x (cond b (record s { near = closed s.near }) (took_first s.far.flight s))) [
        | true ↦ λ role live. absurd (true≢false live)
        | false ↦ first_fed s.far.flight s f
      ]

  module _ (size : Name → Message → ℕ) where
    octets_fed : (g : List Message) (n : ℕ) (s : Session) → Fed x s → Fed x (took_octets size n g s)
    octets_fed [] n s f = f
    octets_fed (m ∷ ms) n s f =
        elim s.is_down as (λ b. Fed x (cond b s (cond (nat_lt n (size s.far.name m - s.far.taken)) (record s { far = record s.far { taken = s.far.taken + n } }) (took_octets size (n - (size s.far.name m - s.far.taken)) ms (took m (without_first ms s)))))) [
          | true ↦ f
          | false ↦ elim (nat_lt n (size s.far.name m - s.far.taken)) as (λ b. Fed x (cond b (record s { far = record s.far { taken = s.far.taken + n } }) (took_octets size (n - (size s.far.name m - s.far.taken)) ms (took m (without_first ms s))))) [
            | true ↦ f
            | false ↦ octets_fed ms (n - (size s.far.name m - s.far.taken)) (took m (without_first ms s)) (took_fed m ms s f)
          ]
        ]

    octets_arrived_fed : (n : ℕ) (s : Session) → Fed x s → Fed x (octets_arrived size n s)
    unfolding octets_arrived
    octets_arrived_fed n s f =
        elim s.near.notice as (λ b. Fed x (cond b (record s { near = closed s.near }) (took_octets size n s.far.flight s))) [
          | true ↦ λ role live. absurd (true≢false live)
          | false ↦ octets_fed s.far.flight n s f
        ]

  -- a pass makes it so
  passed_as : (m : Map) (s : Session) → (s.near.role ≡ Configuration → m ≡ low x) → Fed x (passed m s)
  unfolding passed
  passed_as m s is =
      elim (may_send s) as (λ b. may_send s ≡ b → Fed x (cond b (told (map Carries (difference s.near.sent m)) (record s { near = record s.near { sent = m } })) s)) [
        | true ↦ λ _. told_as (map Carries (difference s.near.sent m)) (record s { near = record s.near { sent = m } }) (λ role _. is role)
        | false ↦ λ off role live. absurd (true≢false (sym (ap (λ b. may_send_at b s.near.phase) (not_peers s.near.role s.far.role role) ∙ ap not live) ∙ off))
      ] refl
    where
      told_as : (ms : List Message) (t : Session) → FedAs (low x) (record t.near { phase = Up }) → Fed x (told ms t)
      told_as ms t f =
          elim (told_cases ms t) as (λ _. Fed x (told ms t)) [
            | inl p ↦ subst (Fed x) (sym p.1) (λ role live. absurd (true≢false live))
            | inr p ↦ subst (Fed x) (sym p.1) (sent_as t.is_down t.near t.far ms p.0 f)
          ]
        where
          sent_as : (d : Bool) (near far : SessionEnd) (ms : List Message) (b : List ℕ) → FedAs (low x) (record near { phase = Up }) → Fed x (with_breaks b (sends ms (record { is_down = d; near = near; far = far })))
          sent_as true near far ms b f role live = f role refl
          sent_as false near far ms b f role live = f role refl

-- ---- lists of sessions, whose earlier node is near
-- a change of the session of two nodes
pub session_cases : (P Q : Session → Type 0) (a b : Name) (f : Session → Session) → ((s : Session) → is_at a s.near ≡ true → P s → Q (f s)) → ((s : Session) → P s → Q (turned (f (turned s)))) → ((s : Session) → P s → Q s)
    → (ss : List Session) → Each P ss → Each Q (with_session a b f ss)
session_cases P Q a b f near far keep [] e = tt
session_cases P Q a b f near far keep (s ∷ ss) e =
    elim (joins a b s) as (λ c. joins a b s ≡ c → Each Q (cond c (f s ∷ ss) (cond (joins b a s) (turned (f (turned s)) ∷ ss) (s ∷ with_session a b f ss)))) [
      | true ↦ λ is. (near s (and_parts (is_at a s.near) (is_at b s.far) is).0 e.0, all_keep ss e.1)
      | false ↦ λ _. elim (joins b a s) as (λ c. Each Q (cond c (turned (f (turned s)) ∷ ss) (s ∷ with_session a b f ss))) [
        | true ↦ (far s e.0, all_keep ss e.1)
        | false ↦ (keep s e.0, session_cases P Q a b f near far keep ss e.1)
      ]
    ] refl
  where
    all_keep : (ss : List Session) → Each P ss → Each Q ss
    all_keep [] e = tt
    all_keep (s ∷ ss) e = (keep s e.0, all_keep ss e.1)

pub node_cases : (P Q : Session → Type 0) (n : Name) (f : Session → Session) → ((s : Session) → is_at n s.near ≡ true → P s → Q (f s)) → ((s : Session) → is_at n s.near ≡ false → P s → Q (turned (f (turned s)))) → ((s : Session) → is_at n s.near ≡ false → P s → Q s)
    → (ss : List Session) → Each P ss → Each Q (map (at_node n f) ss)
node_cases P Q n f near far keep [] e = tt
node_cases P Q n f near far keep (s ∷ ss) e = (
  elim (is_at n s.near) as (λ c. is_at n s.near ≡ c → Q (cond c (f s) (cond (is_at n s.far) (turned (f (turned s))) s))) [
    | true ↦ λ at. near s at e.0
    | false ↦ λ off. elim (is_at n s.far) as (λ c. Q (cond c (turned (f (turned s))) s)) [ true ↦ far s off e.0 | false ↦ keep s off e.0 ]
  ] refl,
  node_cases P Q n f near far keep ss e.1,
)

-- the ends of one node aside
abbrev FedBut : Name → Setup → Session → Type 0
FedBut n x s = is_at n s.near ≡ false → Fed x s

abbrev pub AllFed : MachineState → Type 0
AllFed w = Each (Fed w.setup) w.sessions

pub role_wants : (x : Setup) (vs : List View) (s : Session) → s.near.role ≡ Configuration → wanted x vs (view s) ≡ low x
unfolding wanted
role_wants x vs s e = go s.near.role e
  where
    go : (r : Role) → r ≡ Configuration → wanted_from x vs (view s) r ≡ low x
    go Configuration e = refl
    go Controller e = cc
    go Agent e = cc

pass_fed : (n : Name) (w : MachineState) → Each (FedBut n w.setup) w.sessions → AllFed (pass n w)
pass_fed n w e =
    let W = λ (s : Session). wanted w.setup (views_of n w.sessions) (view s) in
    node_cases (FedBut n w.setup) (Fed w.setup) n (λ s. passed (W s) s)
    (λ s at f. passed_as w.setup (W s) s (role_wants w.setup (views_of n w.sessions) s))
    (λ s off f. far_fed w.setup (turned s) (passed (W (turned s)) (turned s)) (passed_touches (W (turned s)) (turned s)) (f off))
    (λ s off f. f off) w.sessions e

fed_but : (n : Name) (x : Setup) (ss : List Session) → Each (Fed x) ss → Each (FedBut n x) ss
fed_but n x [] e = tt
fed_but n x (s ∷ ss) e = ((λ _. e.0), fed_but n x ss e.1)

-- a step that keeps it on the session
step_fed : (f : Session → Session) → ((x : Setup) (s : Session) → Fed x s → Fed x (f s)) → ((s : Session) → Touches s (f s)) → (a b : Name) (w : MachineState) → AllFed w → Each (Fed w.setup) (with_session a b f w.sessions)
step_fed f near touches a b w e =
    session_cases (Fed w.setup) (Fed w.setup) a b f (λ s _ p. near w.setup s p) (λ s p. far_fed w.setup (turned s) (f (turned s)) (touches (turned s)) p) (λ s p. p) w.sessions e

takes_fed : Takes AllFed
takes_fed from to w e =
    let v = change_session to from arrived w in
    pass_fed to v (fed_but to w.setup v.sessions (step_fed arrived (λ x s f. arrived_fed x s f) arrived_touches to from w e))

-- an end opens, and its node makes its pass
opened_far : (x : Setup) (s : Session) → Fed x (turned s) → Fed x (turned (opened s))
unfolding opened
opened_far x s f =
    let t : Session = record { is_down = false; near = record s.near { phase = Opened }; far = s.far } in
    far_fed x t (told (greeting s ∷ []) t) (told_from (greeting s ∷ []) t t (alike_refl (turned t))) f

opened_at : (n : Name) (x : Setup) (s : Session) → is_at n s.near ≡ true → FedBut n x (opened s)
opened_at n x s at off = absurd (true≢false (sym (ap (λ (p : NodePair). same_name p.0.0 n) (opened_nodes s) ∙ at) ∙ off))

first_opens : (a b : Name) (w : MachineState) → AllFed w → AllFed (pass a (change_session a b opened w))
first_opens a b w e =
    pass_fed a (change_session a b opened w)
    (session_cases (Fed w.setup) (FedBut a w.setup) a b opened (λ s at f. opened_at a w.setup s at) (λ s f _. opened_far w.setup (turned s) f) (λ s f _. f) w.sessions e)

-- the second one acts at the other end
pub second_cases : (P Q : Session → Type 0) (a b : Name) → ((s : Session) → P s → Q (around opened s)) → ((s : Session) → is_at b s.near ≡ true → P s → Q (opened s)) → ((s : Session) → P s → Q s)
    → (ss : List Session) → Each P ss → Each Q (with_session a b (around opened) ss)
second_cases P Q a b far near keep [] e = tt
second_cases P Q a b far near keep (s ∷ ss) e =
    elim (joins a b s) as (λ c. Each Q (cond c (around opened s ∷ ss) (cond (joins b a s) (turned (around opened (turned s)) ∷ ss) (s ∷ with_session a b (around opened) ss)))) [
      | true ↦ (far s e.0, all_keep ss e.1)
      | false ↦ elim (joins b a s) as (λ c. joins b a s ≡ c → Each Q (cond c (turned (around opened (turned s)) ∷ ss) (s ∷ with_session a b (around opened) ss))) [
        | true ↦ λ is. (near s (and_parts (is_at b s.near) (is_at a s.far) is).0 e.0, all_keep ss e.1)
        | false ↦ λ _. (keep s e.0, second_cases P Q a b far near keep ss e.1)
      ] refl
    ]
  where
    all_keep : (ss : List Session) → Each P ss → Each Q ss
    all_keep [] e = tt
    all_keep (s ∷ ss) e = (keep s e.0, all_keep ss e.1)

second_opens : (a b : Name) (w : MachineState) → AllFed w → AllFed (pass b (change_session a b (around opened) w))
second_opens a b w e =
    pass_fed b (change_session a b (around opened) w)
    (second_cases (Fed w.setup) (FedBut b w.setup) a b (λ s f _. opened_far w.setup (turned s) f) (λ s at f. opened_at b w.setup s at) (λ s f _. f) w.sessions e)

connects_fed : Connects AllFed
connects_fed a b w may some e =
    let u = pass a (change_session a b opened w) in
    let first = first_opens a b w e in
    elim (is_broken u a b) as (λ c. AllFed (cond c u (pass b (change_session a b (around opened) u)))) [ true ↦ first | false ↦ second_opens a b u first ]

clears_fed : (x : Setup) (ss : List Session) → Each (Fed x) ss → Each (Fed x) (map without_breaks ss)
clears_fed x [] e = tt
clears_fed x (s ∷ ss) e = (e.0, clears_fed x ss e.1)

fed_steps : (size : Name → Message → ℕ) → Steps size AllFed
fed_steps size = record {
  takes = takes_fed;
  octets = λ from to n w e.
      let v = change_session to from (octets_arrived size n) w in
      pass_fed to v (fed_but to w.setup v.sessions (step_fed (octets_arrived size n) (λ x s f. octets_arrived_fed x size n s f) (octets_touches size n) to from w e));
  loses = λ a b w e. session_cases (Fed w.setup) (Fed w.setup) a b lost (λ s _ f. f) (λ s f. f) (λ s f. f) w.sessions e;
  connects = connects_fed;
  restarts = λ n w e. node_cases (Fed w.setup) (Fed w.setup) n shut (λ s _ f role live. absurd (true≢false live)) (λ s _ f. f) (λ s _ f. f) w.sessions e;
  clears = λ w e. clears_fed w.setup w.sessions e;
  breaks = λ a b n w e. session_cases (Fed w.setup) (Fed w.setup) a b (add_break n) (λ s _ f. f) (λ s f. f) (λ s f. f) w.sessions e;
}

-- ---- edits: the configuration node makes its pass last
config_but : (x y : Setup) (ss : List Session) → Each (λ s. Stands y.topology (nodes s)) ss → Each (FedBut config x) ss
config_but x y [] e = tt
config_but x y (s ∷ ss) e = ((λ off role. absurd (true≢false (sym (e.0.fits role) ∙ off))), config_but x y ss e.1)

edits_fed : (d : Edit) (w : MachineState) → Holds Placed w → AllFed w → AllFed (edits (moves d w.setup.topology) (edited w.setup d) w)
edits_fed d w p h =
    go (edited w.setup d) (edits_placed d w p)
  where
    go : (o : Option Setup) → Holds Placed (edits (moves d w.setup.topology) o w) → AllFed (edits (moves d w.setup.topology) o w)
    go None q = h
    go (Some y) q =
        let u : MachineState = moved (moves d w.setup.topology) (record { setup = y; sessions = w.sessions }) in
        pass_fed config u (config_but u.setup (pass config u).setup u.sessions (of_nodes (Stands u.setup.topology) u.sessions (subst (AllByRecursion (Stands u.setup.topology)) (pass_nodes config u) q.stand)))

pub after_fed : (size : Name → Message → ℕ) (w : MachineState) (es : List MachineEvent) → Holds Placed w → AllFed w → AllFed (after size w es)
after_fed size w [] p h = h
after_fed size w (e ∷ es) p h =
    after_fed size (next size w e) es (next_holds size Placed edits_placed w e p) (next_walk size AllFed (fed_steps size) w e (λ d _ h. edits_fed d w p h) h)
