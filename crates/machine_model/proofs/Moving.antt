-- A node that moves begins anew.
use Rattle.std.specs.Prelude.{◌≡◌, ℕ, List, [], ◌∷◌, map, Bool, true, false, cond, ◌&&◌}
use Rattle.std.specs.declared.option.Option.{Option}
use Rattle.std.specs.declared.option.Option.TheVariants.{Some, None}
use Rattle.std.proofs.lemmas.Bool.{true≢false}
use Rattle.std.proofs.Common.{refl, sym, ◌∙◌, ap, subst}
use Rattle.ov_types.specs.First.{same_name}
use Rattle.schedule_script.specs.ConfigTypes.Edit.{Edit}
use Rattle.schedule_script.specs.ConfigCheck.Edits.{edit_fault, edited as checked_edited}
use Rattle.schedule_script.specs.ConfigCheck.EditFault.{EditFault}
use Rattle.transform_model.specs.NodeModel.Maps.{Map, difference}
use Rattle.transform_model.specs.NodeModel.Step.{Idle}
use Rattle.machine_model.specs.Setup.{Name, Move, Setup, checked, edited_without, moves, remade, renumbered}
use Rattle.machine_model.specs.Session.{Agent, Carries, Message, Session, is_peering, may_send_at, passed, told, turned}
use Rattle.machine_model.specs.Network.{MachineState, brought, config, is_at, is_of, replaced, same_role, view, views_of, wanted}
use Rattle.machine_model.specs.Steps.{at_node, pass}
use Rattle.machine_model.specs.Events.{Edits, edits, moved, next, passes}
use Rattle.machine_model.specs.Moments.{Each, NodePair}
use Rattle.machine_model.specs.Deeds.{IsNew, IsNewFor}
use Rattle.machine_model.proofs.NetworkFact.{at_node_nodes, passed_nodes}
use Rattle.machine_model.proofs.Replaced.{each_brought, each_replaced}

-- ---- a pass leaves it
may_idle : (b : Bool) → may_send_at b Idle ≡ false
may_idle true = refl
may_idle false = refl

passed_idle : (m : Map) (s : Session) → s.near.phase ≡ Idle → passed m s ≡ s
unfolding passed
passed_idle m s e =
    ap (λ b. cond b (told (map Carries (difference s.near.sent m)) (record s { near = record s.near { sent = m } })) s) (ap (may_send_at (is_peering s)) e ∙ may_idle (is_peering s))

pub node_leaves : (n : Name) (W : Session → Map) (s : Session) → IsNew s → at_node n (λ s. passed (W s) s) s ≡ s
node_leaves n W s new =
    elim (is_at n s.near) as (λ b. cond b (passed (W s) s) (cond (is_at n s.far) (turned (passed (W (turned s)) (turned s))) s) ≡ s) [
      | true ↦ passed_idle (W s) s new.near.phase
      | false ↦ elim (is_at n s.far) as (λ b. cond b (turned (passed (W (turned s)) (turned s))) s ≡ s) [ true ↦ ap turned (passed_idle (W (turned s)) (turned s) new.far.phase) | false ↦ refl ]
    ]

module _ (name : Name) where
  all_leave : (n : Name) (W : Session → Map) (ss : List Session) → Each (IsNewFor name) ss → Each (IsNewFor name) (map (at_node n (λ s. passed (W s) s)) ss)
  all_leave n W [] e = tt
  all_leave n W (s ∷ ss) e =
      let f : Session → Session = at_node n (λ s. passed (W s) s) in
      let kept : is_of name (f s) ≡ is_of name s = ap (λ (p : NodePair). same_name p.1.0 name && same_role Agent p.1.1) (at_node_nodes n (λ s. passed (W s) s) (λ s. passed_nodes (W s) s) s) in
      ((λ is. let new = e.0 (sym kept ∙ is) in subst IsNew (sym (node_leaves n W s new)) new), all_leave n W ss e.1)

  pass_leaves : (n : Name) (w : MachineState) → Each (IsNewFor name) w.sessions → Each (IsNewFor name) (pass n w).sessions
  pass_leaves n w e = all_leave n (λ s. wanted w.setup (views_of n w.sessions) (view s)) w.sessions e

  passes_leave : (ns : List Name) (w : MachineState) → Each (IsNewFor name) w.sessions → Each (IsNewFor name) (passes ns w).sessions
  passes_leave [] w e = e
  passes_leave (n ∷ ns) w e = passes_leave ns (pass n w) (pass_leaves n w e)

moved_anew : (m : Move) (v : MachineState) → Each (IsNewFor m.name) (pass config (moved (Some m) v)).sessions
moved_anew m v =
    let new : List Session = brought v.setup.topology.controllers m.now in
    let u : MachineState = record { setup = v.setup; sessions = replaced m.name new v.sessions } in
    pass_leaves m.name config (passes m.left u)
    (passes_leave m.name m.left u
    (each_replaced (λ _. Unit {0}) (IsNewFor m.name) m.name (λ s off _ is. absurd (true≢false (sym is ∙ off))) new v.sessions
    (each_brought (IsNewFor m.name) (λ n k r q is. record {
      down = refl;
      near = record { phase = refl; notice = refl; sent = refl; held = refl; flight = refl };
      far = record { phase = refl; notice = refl; sent = refl; held = refl; flight = refl };
    }) v.setup.topology.controllers m.now)
    (units v.sessions)))
  where
    units : (ss : List Session) → Each (λ _. Unit {0}) ss
    units [] = tt
    units (s ∷ ss) = (tt, units ss)

pub begins_anew : (size : Name → Message → ℕ) (w : MachineState) (d : Edit) (m : Move) → edit_fault (checked w.setup) d ≡ None → moves d w.setup.topology ≡ Some m → Each (IsNewFor m.name) (next size w (Edits d)).sessions
unfolding next
begins_anew size w d m none is =
    let y : Setup = remade (checked_edited d (checked w.setup)) (renumbered (moves d w.setup.topology) w.setup.numbers) in
    subst (λ (f : Option EditFault). Each (IsNewFor m.name) (edits (moves d w.setup.topology) (edited_without f w.setup d) w).sessions) (sym none)
    (subst (λ (o : Option Move). Each (IsNewFor m.name) (pass config (moved o (record { setup = y; sessions = w.sessions }))).sessions) (sym is) (moved_anew m (record { setup = y; sessions = w.sessions })))
