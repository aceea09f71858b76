-- A session that may connect, and has no break pending, has both ends opened.
use Rattle.std.specs.Prelude.{◌≡◌, ◌≢◌, ℕ, List, [], ◌∷◌, ◌++◌, map, true, false, cond}
use Rattle.std.specs.declared.option.Option.{Option}
use Rattle.std.specs.declared.option.Option.TheVariants.{Some, None}
use Rattle.std.specs.Option.{unwrap_or, option_map}
use Rattle.std.specs.Cmp.Lexicographic.{bytes_decides}
use Rattle.std.proofs.lemmas.Bool.{and_parts}
use Rattle.std.proofs.Common.{refl, sym, ◌∙◌, ap, subst}
use Rattle.transform_model.specs.NodeModel.Maps.{Map}
use Rattle.transform_model.specs.NodeModel.Step.{Opened}
use Rattle.machine_model.specs.Setup.{Name}
use Rattle.machine_model.specs.Session.{Message, Session, turned, may_send, greeting, opened, passed}
use Rattle.machine_model.specs.Network.{MachineState, is_at, view, views_of, wanted}
use Rattle.machine_model.specs.Steps.{at_node, joins, change_session, pass, session_in, session_of, is_broken, around, connect, may_connect, connect_found, connect_if}
use Rattle.machine_model.specs.Events.{Connect, is_earlier, next}
use Rattle.machine_model.specs.Deeds.{IsOpenedAt}
use Rattle.machine_model.proofs.NetworkFact.{KeepsNodes, passed_nodes, opened_nodes}
use Rattle.machine_model.proofs.NodesFact.{turned_nodes}
use Rattle.machine_model.proofs.Twins.{found_changed, found_node}
use Rattle.machine_model.proofs.Calm.{telling, told_easy, passed_easy}
use Rattle.machine_model.proofs.Idle.{may_turned}

-- ---- the session of two nodes, from either end
module _ (a b : Name) (apart : a ≢ b) where
  never_both : (s : Session) → joins a b s ≡ true → joins b a s ≡ true → ⊥
  never_both s e f =
      let p = and_parts (is_at a s.near) (is_at b s.far) e in
      let q = and_parts (is_at b s.near) (is_at a s.far) f in
      apart (sym ((bytes_decides s.near.name a).0 p.0) ∙ (bytes_decides s.near.name b).0 q.0)

  from_other : (ss : List Session) → session_in ss b a ≡ option_map turned (session_in ss a b)
  from_other [] = refl
  from_other (s ∷ ss) =
      elim (joins a b s) as (λ x. joins a b s ≡ x → cond (joins b a s) (Some s) (cond x (Some (turned s)) (session_in ss b a)) ≡ option_map turned (cond x (Some s) (cond (joins b a s) (Some (turned s)) (session_in ss a b)))) [
        | true ↦ λ e. elim (joins b a s) as (λ y. joins b a s ≡ y → cond y (Some s) (Some (turned s)) ≡ Some (turned s)) [ true ↦ λ f. absurd (never_both s e f) | false ↦ λ _. refl ] refl
        | false ↦ λ _. elim (joins b a s) as (λ y. cond y (Some s) (session_in ss b a) ≡ option_map turned (cond y (Some (turned s)) (session_in ss a b))) [ true ↦ refl | false ↦ from_other ss ]
      ] refl

twice : (o : Option Session) → option_map turned (option_map turned o) ≡ o
twice None = refl
twice (Some s) = refl

-- a change of all sessions of the second of two nodes
found_second : (a b : Name) → a ≢ b → (g : Session → Session) → KeepsNodes g → (ss : List Session) (s : Session) → session_in ss a b ≡ Some s → session_in (map (at_node b g) ss) a b ≡ Some (around g s)
found_second a b apart g kept ss s is =
    from_other b a (λ e. apart (sym e)) (map (at_node b g) ss)
    ∙ ap (option_map turned) (found_node b a g kept ss)
    ∙ ap (λ (o : Option Session). option_map turned (option_map g o)) (from_other a b apart ss ∙ ap (option_map turned) is)

-- ---- a session that opens, without breaks
pub record Half (s : Session) : Type 0 where
  pub whole : s.is_down ≡ false
  pub near : s.near.phase ≡ Opened
  pub near_breaks : s.near.breaks ≡ []
  pub far_breaks : s.far.breaks ≡ []

pub record Full (s : Session) : Type 0 where
  pub half : Half s
  pub far : s.far.phase ≡ Opened

opens : (s : Session) → s.near.breaks ≡ [] → opened s ≡ record { is_down = false; near = record s.near { phase = Opened; flight = s.near.flight ++ greeting s ∷ [] }; far = s.far }
unfolding opened
opens s e = told_easy (greeting s ∷ []) (record { is_down = false; near = record s.near { phase = Opened }; far = s.far }) e

half_opened : (s : Session) → s.near.breaks ≡ [] → s.far.breaks ≡ [] → Half (opened s)
half_opened s e f = subst Half (sym (opens s e)) (record { whole = refl; near = refl; near_breaks = e; far_breaks = f })

half_passed : (m : Map) (s : Session) → Half s → Half (passed m s)
half_passed m s h =
    subst Half (sym (passed_easy m s h.whole h.near_breaks))
    (elim (may_send s) as (λ b. Half (cond b (telling m s) s)) [ true ↦ record { whole = h.whole; near = h.near; near_breaks = h.near_breaks; far_breaks = h.far_breaks } | false ↦ h ])

full_opened : (s : Session) → Half s → Full (around opened s)
full_opened s h =
    subst (λ (t : Session). Full (turned t)) (sym (opens (turned s) h.far_breaks))
    (record { half = record { whole = refl; near = h.near; near_breaks = h.near_breaks; far_breaks = h.far_breaks }; far = refl })

full_passed : (m : Map) (s : Session) → Full s → Full (around (passed m) s)
full_passed m s f =
    subst (λ (t : Session). Full (turned t)) (sym (passed_easy m (turned s) f.half.whole f.half.far_breaks))
    (elim (may_send (turned s)) as (λ b. Full (turned (cond b (telling m (turned s)) (turned s)))) [
      | true ↦ record { half = record { whole = f.half.whole; near = f.half.near; near_breaks = f.half.near_breaks; far_breaks = f.half.far_breaks }; far = f.far }
      | false ↦ f
    ])

-- ---- a connection
abbrev pub HasOpened : Option Session → Type 0
HasOpened o = (t : Session) × (o ≡ Some t) × Full t

connect_opens : (a b : Name) → a ≢ b → (w : MachineState) (s : Session) → session_in w.sessions a b ≡ Some s → s.near.breaks ≡ [] → s.far.breaks ≡ [] → HasOpened (session_of (connect a b w) a b)
connect_opens a b apart w s is e f =
    let v = change_session a b opened w in
    let g = λ (s : Session). passed (wanted v.setup (views_of a v.sessions) (view s)) s in
    let u = pass a v in
    let t = g (opened s) in
    let first : session_in u.sessions a b ≡ Some t = found_node a b g (λ s. passed_nodes (wanted v.setup (views_of a v.sessions) (view s)) s) v.sessions ∙ ap (option_map g) (found_changed a b opened opened_nodes w.sessions ∙ ap (option_map opened) is) in
    let half : Half t = half_passed (wanted v.setup (views_of a v.sessions) (view (opened s))) (opened s) (half_opened s e f) in
    let whole : is_broken u a b ≡ false = ap (λ (o : Option Session). unwrap_or (option_map (λ (s : Session). s.is_down) o) true) first ∙ half.whole in
    let x = change_session a b (around opened) u in
    let h = λ (s : Session). passed (wanted x.setup (views_of b x.sessions) (view s)) s in
    let second : session_in x.sessions a b ≡ Some (around opened t) = found_changed a b (around opened) (turned_nodes opened opened_nodes) u.sessions ∙ ap (option_map (around opened)) first in
    subst (λ c. HasOpened (session_of (cond c u (pass b x)) a b)) (sym whole)
    (around h (around opened t), found_second a b apart h (λ s. passed_nodes (wanted x.setup (views_of b x.sessions) (view s)) s) x.sessions (around opened t) second, full_passed (wanted x.setup (views_of b x.sessions) (view (turned (around opened t)))) (around opened t) (full_opened t half))

if_opens : (a b : Name) → a ≢ b → (w : MachineState) (s : Session) → session_in w.sessions a b ≡ Some s → may_connect s ≡ true → s.near.breaks ≡ [] → s.far.breaks ≡ [] → HasOpened (session_of (connect_if a b w) a b)
if_opens a b apart w s is m e f =
    subst (λ (o : Option Session). HasOpened (session_of (connect_found o a b w) a b)) (sym is)
    (subst (λ c. HasOpened (session_of (cond c (connect a b w) w) a b)) (sym m) (connect_opens a b apart w s is e f))

opened_at : (o : Option Session) → HasOpened o → IsOpenedAt o
opened_at o h = record { session = h.0; found = h.1; whole = h.2.half.whole; near = h.2.half.near; far = h.2.far }

pub connected_opens : (size : Name → Message → ℕ) (w : MachineState) (a b : Name) (s : Session) → a ≢ b → session_of w a b ≡ Some s → may_connect s ≡ true → s.near.breaks ≡ [] → s.far.breaks ≡ [] → IsOpenedAt (session_of (next size w (Connect a b)) a b)
unfolding next
connected_opens size w a b s apart is m e f =
    elim (is_earlier w.sessions a b) as (λ c. IsOpenedAt (session_of (cond c (connect_if a b w) (connect_if b a w)) a b)) [
      | true ↦ opened_at (session_of (connect_if a b w) a b) (if_opens a b apart w s is m e f)
      | false ↦
          let back : b ≢ a = λ g. apart (sym g) in
          let h = if_opens b a back w (turned s) (from_other a b apart w.sessions ∙ ap (option_map turned) is) (may_turned s ∙ m) f e in
          record {
            session = turned h.0;
            found = from_other b a back (connect_if b a w).sessions ∙ ap (option_map turned) h.1;
            whole = h.2.half.whole;
            near = h.2.far;
            far = h.2.half.near;
          }
    ]
