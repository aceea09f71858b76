-- A node that makes its pass has told what it wants, where no break is pending on what it sends: also where one of its
-- sessions is down.
use Rattle.std.specs.Prelude.{◌≡◌, ◌⊎◌, ℕ, List, [], ◌∷◌, ◌++◌, map, true, false, cond}
use Rattle.std.specs.declared.option.Option.{Option}
use Rattle.std.specs.declared.option.Option.TheVariants.{Some, None}
use Rattle.std.specs.List.{cons_option}
use Rattle.std.specs.Cmp.Lexicographic.{bytes_decides}
use Rattle.std.proofs.lemmas.Bool.{true≢false}
use Rattle.std.proofs.Common.{refl, sym, ◌∙◌, ap, subst, inl, inr}
use Rattle.ov_types.specs.First.{same_name}
use Rattle.schedule_script.specs.ConfigTypes.Edit.{Edit}
use Rattle.schedule_script.specs.ConfigCheck.Edits.{edit_fault, edited as checked_edited}
use Rattle.schedule_script.specs.ConfigCheck.EditFault.{EditFault}
use Rattle.transform_model.specs.NodeModel.Maps.{Map, difference}
use Rattle.transform_model.specs.NodeModel.Members.{Member}
use Rattle.machine_model.specs.Setup.{Name, Move, Setup, checked, edited_without, moves, remade, renumbered}
use Rattle.machine_model.specs.Session.{Carries, Message, Session, may_send, passed, told, turned}
use Rattle.machine_model.specs.Network.{MachineState, View, brought, config, is_at, replaced, sessions_of, view, views_of, wanted}
use Rattle.machine_model.specs.Steps.{at_node, pass}
use Rattle.machine_model.specs.Events.{Edits, edits, moved, next, passes}
use Rattle.machine_model.specs.Moments.{Each, NodePair, TellsWanted}
use Rattle.machine_model.specs.Deeds.{NodeTells, SendsFreely}
use Rattle.machine_model.proofs.SessionFact.{told_cases}
use Rattle.machine_model.proofs.NetworkFact.{passed_nodes}
use Rattle.machine_model.proofs.Replaced.{each_brought, each_replaced}
use Rattle.machine_model.proofs.ToldFact.{AllAlike, alike_tells, alike_views, others_of_node, own_after, passed_touches}
use Rattle.machine_model.proofs.Calm.{told_easy}

-- ---- a pass on one session
record Tells (m : Map) (s t : Session) : Type 0 where
  view : view t ≡ view s
  sent : may_send t ≡ true → t.near.sent ≡ m
  breaks : t.near.breaks ≡ []

passed_free : (m : Map) (s : Session) → s.near.breaks ≡ [] → Tells m s (passed m s)
unfolding passed
passed_free m s e =
    let t : Session = record s { near = record s.near { sent = m } } in
    let ms : List Message = map Carries (difference s.near.sent m) in
    elim (may_send s) as (λ b. may_send s ≡ b → Tells m s (cond b (told ms t) s)) [
      | true ↦ λ _. subst (Tells m s) (sym (told_easy ms t e))
          (elim s.is_down as (λ d. Tells m s (cond d t (record t { near = record t.near { flight = t.near.flight ++ ms } }))) [
            | true ↦ record { view = refl; sent = λ _. refl; breaks = e }
            | false ↦ record { view = refl; sent = λ _. refl; breaks = e }
          ])
      | false ↦ λ off. record { view = refl; sent = λ may. absurd (true≢false (sym may ∙ off)); breaks = e }
    ] refl

-- the other end's breaks stay
passed_far : (m : Map) (s : Session) → (passed m s).far.breaks ≡ s.far.breaks
unfolding passed
passed_far m s =
    let t : Session = record s { near = record s.near { sent = m } } in
    let ms : List Message = map Carries (difference s.near.sent m) in
    elim (may_send s) as (λ b. (cond b (told ms t) s).far.breaks ≡ s.far.breaks) [
      | true ↦ elim (told_cases ms t) as (λ _. (told ms t).far.breaks ≡ s.far.breaks) [
        | inl p ↦ ap (λ (u : Session). u.far.breaks) p.1
        | inr p ↦ ap (λ (u : Session). u.far.breaks) p.1 ∙ elim s.is_down as (λ d. (cond d t (record t { near = record t.near { flight = t.near.flight ++ ms } })).far.breaks ≡ s.far.breaks) [ true ↦ refl | false ↦ refl ]
      ]
      | false ↦ refl
    ]

-- ---- on all sessions of a network
module _ (n : Name) where
  passed_sends : (m : Map) (s : Session) → SendsFreely n s → SendsFreely n (passed m s)
  passed_sends m s f =
      let kept = passed_nodes m s in (
        (λ at. (passed_free m s (f.0 (ap (λ (p : NodePair). same_name p.0.0 n) (sym kept) ∙ at))).breaks),
        (λ at. passed_far m s ∙ f.1 (ap (λ (p : NodePair). same_name p.1.0 n) (sym kept) ∙ at)),
      )

  turned_sends : (s : Session) → SendsFreely n s → SendsFreely n (turned s)
  turned_sends s f = (f.1, f.0)

  node_sends : (k : Name) (W : Session → Map) (ss : List Session) → Each (SendsFreely n) ss → Each (SendsFreely n) (map (at_node k (λ s. passed (W s) s)) ss)
  node_sends k W [] e = tt
  node_sends k W (s ∷ ss) e = (
    elim (is_at k s.near) as (λ b. SendsFreely n (cond b (passed (W s) s) (cond (is_at k s.far) (turned (passed (W (turned s)) (turned s))) s))) [
      | true ↦ passed_sends (W s) s e.0
      | false ↦ elim (is_at k s.far) as (λ b. SendsFreely n (cond b (turned (passed (W (turned s)) (turned s))) s)) [
        | true ↦ turned_sends (passed (W (turned s)) (turned s)) (passed_sends (W (turned s)) (turned s) (turned_sends s e.0))
        | false ↦ e.0
      ]
    ],
    node_sends k W ss e.1,
  )

  pass_sends : (k : Name) (w : MachineState) → Each (SendsFreely n) w.sessions → Each (SendsFreely n) (pass k w).sessions
  pass_sends k w e = node_sends k (λ s. wanted w.setup (views_of k w.sessions) (view s)) w.sessions e

  -- the sessions of the node itself
  abbrev IsFree : Session → Type 0
  IsFree s = s.near.breaks ≡ []

  own_free : (ss : List Session) → Each (SendsFreely n) ss → Each IsFree (sessions_of n ss)
  own_free [] e = tt
  own_free (s ∷ ss) e =
      elim (is_at n s.near) as (λ b. is_at n s.near ≡ b → Each IsFree (cons_option (cond b (Some s) (cond (is_at n s.far) (Some (turned s)) None)) (sessions_of n ss))) [
        | true ↦ λ at. (e.0.0 at, own_free ss e.1)
        | false ↦ λ _. elim (is_at n s.far) as (λ b. is_at n s.far ≡ b → Each IsFree (cons_option (cond b (Some (turned s)) None) (sessions_of n ss))) [
          | true ↦ λ at. (e.0.1 at, own_free ss e.1)
          | false ↦ λ _. own_free ss e.1
        ] refl
      ] refl

  module _ (x : Setup) (vs : List View) where
    abbrev tell : Session → Session
    tell s = passed (wanted x vs (view s)) s

    tell_views : (own : List Session) → Each IsFree own → map view (map tell own) ≡ map view own
    tell_views [] e = refl
    tell_views (s ∷ own) e = λ i. (passed_free (wanted x vs (view s)) s e.0).view i ∷ tell_views own e.1 i

    tell_tells : (own : List Session) → Each IsFree own → TellsWanted x vs (map tell own)
    tell_tells [] e = tt
    tell_tells (s ∷ own) e =
        let p = passed_free (wanted x vs (view s)) s e.0 in
        ((λ may. p.sent may ∙ ap (wanted x vs) (sym p.view)), tell_tells own e.1)

  own_pass : (w : MachineState) → Each (SendsFreely n) w.sessions → NodeTells (pass n w) n
  own_pass w e =
      let own = sessions_of n w.sessions in
      let g = tell w.setup (map view own) in
      let free : Each IsFree own = own_free w.sessions e in
      subst (λ (ts : List Session). TellsWanted w.setup (map view ts) ts) (sym (own_after n g (λ s. passed_nodes (wanted w.setup (map view own) (view s)) s) w.sessions))
      (subst (λ (us : List View). TellsWanted w.setup us (map g own)) (sym (tell_views w.setup (map view own) own free)) (tell_tells w.setup (map view own) own free))

  other_pass : (k : Name) (w : MachineState) → same_name k n ≡ false → NodeTells w n → NodeTells (pass k w) n
  other_pass k w apart h =
      let g = tell w.setup (views_of k w.sessions) in
      let own = sessions_of n w.sessions in
      let then = sessions_of n (map (at_node k g) w.sessions) in
      let alike : AllAlike own then = others_of_node k n apart g (λ s. passed_touches (wanted w.setup (views_of k w.sessions) (view s)) s) w.sessions in
      subst (λ (us : List View). TellsWanted w.setup us then) (sym (alike_views own then alike)) (alike_tells w.setup (map view own) own then alike h)

  a_pass : (k : Name) (w : MachineState) → Each (SendsFreely n) w.sessions → (same_name k n ≡ false → NodeTells w n) → NodeTells (pass k w) n
  a_pass k w e h =
      elim (same_name k n) as (λ b. same_name k n ≡ b → NodeTells (pass k w) n) [
        | true ↦ λ is. subst (λ (m : Name). NodeTells (pass m w) n) (sym ((bytes_decides k n).0 is)) (own_pass w e)
        | false ↦ λ apart. other_pass k w apart (h apart)
      ] refl

  passes_sends : (ks : List Name) (w : MachineState) → Each (SendsFreely n) w.sessions → Each (SendsFreely n) (passes ks w).sessions
  passes_sends [] w e = e
  passes_sends (k ∷ ks) w e = passes_sends ks (pass k w) (pass_sends k w e)

  passes_tell : (ks : List Name) (w : MachineState) → Each (SendsFreely n) w.sessions → Member n ks ⊎ NodeTells w n → NodeTells (passes ks w) n
  passes_tell [] w e (inl i) = absurd i
  passes_tell [] w e (inr h) = h
  passes_tell (k ∷ ks) w e (inr h) = passes_tell ks (pass k w) (pass_sends k w e) (inr (a_pass k w e (λ _. h)))
  passes_tell (k ∷ ks) w e (inl (inl is)) =
      passes_tell ks (pass k w) (pass_sends k w e) (inr (a_pass k w e (λ apart. absurd (true≢false (sym ((bytes_decides k n).1 is) ∙ apart)))))
  passes_tell (k ∷ ks) w e (inl (inr i)) = passes_tell ks (pass k w) (pass_sends k w e) (inl i)

  -- ---- an edit
  moved_tells : (m : Move) (v : MachineState) → Member n m.left → Each (SendsFreely n) v.sessions → NodeTells (pass config (moved (Some m) v)) n
  moved_tells m v i e =
      let u : MachineState = record { setup = v.setup; sessions = replaced m.name (brought v.setup.topology.controllers m.now) v.sessions } in
      let free : Each (SendsFreely n) u.sessions =
      each_replaced (SendsFreely n) (SendsFreely n) m.name (λ s _ f. f) (brought v.setup.topology.controllers m.now) v.sessions
      (each_brought (SendsFreely n) (λ _ _ _ _. ((λ _. refl), (λ _. refl))) v.setup.topology.controllers m.now) e in
      a_pass config (passes m.left u) (passes_sends m.left u free) (λ _. passes_tell m.left u free (inl i))

pub edit_tells : (size : Name → Message → ℕ) (w : MachineState) (d : Edit) (m : Move) (control : Name) → edit_fault (checked w.setup) d ≡ None → moves d w.setup.topology ≡ Some m
    → Member control m.left → Each (SendsFreely control) w.sessions → NodeTells (next size w (Edits d)) control
unfolding next
edit_tells size w d m control none is i e =
    let y : Setup = remade (checked_edited d (checked w.setup)) (renumbered (moves d w.setup.topology) w.setup.numbers) in
    subst (λ (f : Option EditFault). NodeTells (edits (moves d w.setup.topology) (edited_without f w.setup d) w) control) (sym none)
    (subst (λ (o : Option Move). NodeTells (pass config (moved o (record { setup = y; sessions = w.sessions }))) control) (sym is) (moved_tells control m (record { setup = y; sessions = w.sessions }) i e))
