-- An event is answered by Idle exactly where there is nothing to do.
use Rattle.std.specs.Prelude.{◌≡◌, ◌≢◌, ◌⊎◌, ◌↔◌, List, [], ◌∷◌, length, find, Bool, true, false, not, cond, ◌&&◌, ◌||◌, ◌==◌, is_some}
use Rattle.std.specs.List.{list_any}
use Rattle.std.specs.declared.option.Option.{Option}
use Rattle.std.specs.declared.option.Option.TheVariants.{Some, None}
use Rattle.std.specs.Option.{unwrap_or, option_map}
use Rattle.std.specs.Cmp.Lexicographic.{bytes_decides}
use Rattle.std.proofs.lemmas.Bool.{true≢false, eqb-true}
use Rattle.std.proofs.lemmas.Option.{same_Some}
use Rattle.std.proofs.Common.{refl, sym, ◌∙◌, ap, subst, inl, inr}
use Rattle.ov_types.specs.First.{same_name}
use Rattle.ov_types.specs.declared.rows.NodeId.{NodeId}
use Rattle.schedule_script.specs.ConfigTypes.Edit.{Edit}
use Rattle.schedule_script.specs.ConfigTypes.Node.{Node}
use Rattle.schedule_script.specs.ConfigCheck.Edits.{edit_fault}
use Rattle.schedule_script.specs.ConfigCheck.Finding.{node_named}
use Rattle.schedule_script.specs.ConfigCheck.EditFault.{EditFault}
use Rattle.schedule_script.specs.declared.answer.Answer.{Answer}
use Rattle.schedule_script.specs.declared.answer.Answer.TheVariants.{Did, Idle, EditRefused, Shown}
use Rattle.transform_model.specs.NodeModel.Members.{Member}
use Rattle.transform_model.proofs.NodeModel.Members.{none_some, any_in, from_any}
use Rattle.machine_model.specs.Setup.{Name, checked}
use Rattle.machine_model.specs.Session.{Message, Session, waiting}
use Rattle.machine_model.specs.Network.{MachineState}
use Rattle.machine_model.specs.Steps.{session_of, in_flight, is_broken, may_connect}
use Rattle.machine_model.specs.Events.{MachineEvent, Edits, Deliver, DeliverOctets, Lose, Connect, Restart, Round, Settle, Show, Trace, Break, is_node, shown, unless, edit_answer, answer_to}
use Rattle.machine_model.specs.Deeds.{NoneOr, WaitsForNothing, MayNotConnect, IsNoNode, HasNothingToDo}
use Rattle.machine_model.proofs.Idle.{was_idle, idle_where}
use Rattle.machine_model.proofs.AtRest.{no_messages}

not_idle : (a : Answer) → was_idle a ≡ false → a ≡ Idle → ⊥
not_idle a e is = true≢false (sym (ap was_idle is) ∙ e)

-- where a test says so
unless_is : (b : Bool) → (unless b ≡ Idle) ↔ (b ≡ true)
unless_is b = ((λ e. idle_where b (ap was_idle e)), (λ e. ap unless e))

module _ (P : Session → Type 0) (test : Session → Bool) (decides : (s : Session) → (test s ≡ true) ↔ P s) where
  -- a test of the session of two nodes, which holds where there is none
  found_is : (o : Option Session) → (unwrap_or (option_map test o) true ≡ true) ↔ NoneOr P o
  found_is None = ((λ e. inl refl), (λ h. refl))
  found_is (Some s) = (
    (λ e. inr (s, refl, (decides s).0 e)),
    (λ h. elim h as (λ _. test s ≡ true) [
      | inl e ↦ absurd (none_some s (sym e))
      | inr q ↦ (decides s).1 (subst P (sym (same_Some s q.0 q.1)) q.2)
    ]),
  )

-- ---- nothing in flight
nothing_waits : (s : Session) → ((waiting s == 0) ≡ true) ↔ WaitsForNothing s
nothing_waits s =
    elim s.near.notice as (λ b. ((cond b 1 (length s.far.flight) == 0) ≡ true) ↔ ((b ≡ false) × (s.far.flight ≡ []))) [
      | true ↦ ((λ e. absurd (true≢false (sym e))), (λ h. absurd (true≢false h.0)))
      | false ↦ ((λ e. (refl, no_messages s.far.flight (eqb-true (length s.far.flight) 0 e))), (λ h. ap (λ (f : List Message). length f == 0) h.1))
    ]

flight_is : (o : Option Session) → ((unwrap_or (option_map waiting o) 0 == 0) ≡ true) ↔ (unwrap_or (option_map (λ s. waiting s == 0) o) true ≡ true)
flight_is None = ((λ e. e), (λ e. e))
flight_is (Some s) = ((λ e. e), (λ e. e))

both : {A B C : Type 0} → A ↔ B → B ↔ C → A ↔ C
both f g = ((λ a. g.0 (f.0 a)), (λ c. f.1 (g.1 c)))

idle_flight : (w : MachineState) (from to : Name) → (unless (in_flight w from to == 0) ≡ Idle) ↔ NoneOr WaitsForNothing (session_of w to from)
idle_flight w from to = both (unless_is (in_flight w from to == 0)) (both (flight_is (session_of w to from)) (found_is WaitsForNothing (λ s. waiting s == 0) nothing_waits (session_of w to from)))

-- ---- connections
may_not : (a b c : Bool) → (not (a && (not b && not c)) ≡ true) ↔ ((a ≡ false) ⊎ ((b ≡ true) ⊎ (c ≡ true)))
may_not false b c = ((λ e. inl refl), (λ h. refl))
may_not true true c = ((λ e. inr (inl refl)), (λ h. refl))
may_not true false true = ((λ e. inr (inr refl)), (λ h. refl))
may_not true false false = (
  (λ e. absurd (true≢false (sym e))),
  (λ h. elim h as (λ _. false ≡ true) [
    | inl e ↦ absurd (true≢false e)
    | inr q ↦ elim q as (λ _. false ≡ true) [ inl e ↦ e | inr e ↦ e ]
  ]),
)

connect_answer : (o : Option Session) → ((elim o [ Some s ↦ unless (not (may_connect s)) | None ↦ Idle ]) ≡ Idle) ↔ (unwrap_or (option_map (λ s. not (may_connect s)) o) true ≡ true)
connect_answer None = ((λ e. refl), (λ e. refl))
connect_answer (Some s) = unless_is (not (may_connect s))

-- ---- names of nodes
not_any : {X : Type 0} (name_of : X → Name) (name : Name) (xs : List X) → (list_any (λ x. same_name (name_of x) name) xs ≡ false) ↔ ((x : X) → Member x xs → name_of x ≢ name)
not_any name_of name xs = (
  (λ e x m is. true≢false (sym (any_in (λ x. same_name (name_of x) name) x xs m ((bytes_decides (name_of x) name).1 is)) ∙ e)),
  (λ h. elim (list_any (λ x. same_name (name_of x) name) xs) as (λ b. list_any (λ x. same_name (name_of x) name) xs ≡ b → b ≡ false) [
    | true ↦ λ e. let q = from_any (λ x. same_name (name_of x) name) xs e in absurd (h q.0 q.1 ((bytes_decides (name_of q.0) name).0 q.2))
    | false ↦ λ _. refl
  ] refl),
)

found_any : (name : Name) (ns : List Node) → is_some (find (λ (n : Node). same_name n.name name) ns) ≡ list_any (λ (n : Node). same_name n.name name) ns
found_any name [] = refl
found_any name (n ∷ ns) =
    elim (same_name n.name name) as (λ b. is_some (cond b (Some n) (find (λ (n : Node). same_name n.name name) ns)) ≡ (b || list_any (λ (n : Node). same_name n.name name) ns)) [ true ↦ refl | false ↦ found_any name ns ]

neither : (a b : Bool) → (not (a || b) ≡ true) ↔ ((a ≡ false) × (b ≡ false))
neither true b = ((λ e. absurd (true≢false (sym e))), (λ h. absurd (true≢false h.0)))
neither false true = ((λ e. absurd (true≢false (sym e))), (λ h. absurd (true≢false h.1)))
neither false false = ((λ e. (refl, refl)), (λ h. refl))

no_node : (w : MachineState) (name : Name) → (not (is_node w name) ≡ true) ↔ IsNoNode w.setup.topology name
no_node w name =
    let t = w.setup.topology in
    let c = not_any (λ (c : NodeId). c.name) name t.controllers in
    let n = not_any (λ (n : Node). n.name) name t.nodes in
    both (neither (list_any (λ (c : NodeId). same_name c.name name) t.controllers) (is_some (node_named t name)))
    ((λ h. (c.0 h.0, n.0 (sym (found_any name t.nodes) ∙ h.1))), (λ h. (c.1 h.0, found_any name t.nodes ∙ n.1 h.1)))

show_answer : (w : MachineState) (name : Name) → (cond (is_node w name) (Shown (shown w name)) Idle ≡ Idle) ↔ (not (is_node w name) ≡ true)
show_answer w name =
    elim (is_node w name) as (λ b. (cond b (Shown (shown w name)) Idle ≡ Idle) ↔ (not b ≡ true)) [
      | true ↦ ((λ e. absurd (not_idle (Shown (shown w name)) refl e)), (λ e. absurd (true≢false (sym e))))
      | false ↦ ((λ e. refl), (λ e. refl))
    ]

-- ---- breaks
no_session : (o : Option Session) → (not (is_some o) ≡ true) ↔ (o ≡ None)
no_session None = ((λ e. refl), (λ e. refl))
no_session (Some s) = ((λ e. absurd (true≢false (sym e))), (λ e. absurd (none_some s (sym e))))

edit_not_idle : (o : Option EditFault) → edit_answer o ≡ Idle → ⊥
edit_not_idle None e = not_idle Did refl e
edit_not_idle (Some f) e = not_idle (EditRefused f) refl e

pub idle_exactly : (w : MachineState) (e : MachineEvent) → (answer_to w e ≡ Idle) ↔ HasNothingToDo w e
idle_exactly w (Edits d) = ((λ e. absurd (edit_not_idle (edit_fault (checked w.setup) d) e)), (λ h. absurd h))
idle_exactly w (Deliver from to n) = idle_flight w from to
idle_exactly w (DeliverOctets from to n) = idle_flight w from to
idle_exactly w (Lose a b) = both (unless_is (is_broken w a b)) (found_is (λ s. s.is_down ≡ true) (λ s. s.is_down) (λ s. ((λ e. e), (λ e. e))) (session_of w a b))
idle_exactly w (Connect a b) = both (connect_answer (session_of w a b)) (found_is MayNotConnect (λ s. not (may_connect s)) (λ s. may_not s.is_down s.near.notice s.far.notice) (session_of w a b))
idle_exactly w (Restart name) = both (unless_is (not (is_node w name))) (no_node w name)
idle_exactly w Round = ((λ e. absurd (not_idle (answer_to w Round) refl e)), (λ h. absurd h))
idle_exactly w Settle = ((λ e. absurd (not_idle (answer_to w Settle) refl e)), (λ h. absurd h))
idle_exactly w (Show name) = both (show_answer w name) (no_node w name)
idle_exactly w (Trace p) = ((λ e. absurd (not_idle (answer_to w (Trace p)) refl e)), (λ h. absurd h))
idle_exactly w (Break from to n) = both (unless_is (not (is_some (session_of w from to)))) (no_session (session_of w from to))

-- ---- edits
abbrev fault_in : Answer → Option EditFault
fault_in (EditRefused f) = Some f
fault_in _ = None

refused_as : (o : Option EditFault) (f : EditFault) → (edit_answer o ≡ EditRefused f) ↔ (o ≡ Some f)
refused_as None f = ((λ e. ap fault_in e), (λ e. absurd (none_some f e)))
refused_as (Some g) f = ((λ e. ap fault_in e), (λ e. ap edit_answer e))

pub refused_exactly : (w : MachineState) (d : Edit) (f : EditFault) → (answer_to w (Edits d) ≡ EditRefused f) ↔ (edit_fault (checked w.setup) d ≡ Some f)
refused_exactly w d f = refused_as (edit_fault (checked w.setup) d) f
