-- The order of a round after an event.
use Rattle.std.specs.Prelude.{◌≡◌, ◌≢◌, List, map}
use Rattle.std.specs.declared.option.Option.{Option}
use Rattle.std.specs.declared.option.Option.TheVariants.{Some, None}
use Rattle.std.proofs.Common.{refl, sym, ◌∙◌, ap, subst}
use Rattle.config_check.specs.Edits.{edit_fault}
use Rattle.config_check.specs.declared.edits.EditFault.{EditFault}
use Rattle.config_types.specs.declared.edit.Edit.{Edit}
use Rattle.config_types.specs.declared.event.Event.{Event as Written}
use Rattle.config_types.specs.declared.event.Event.TheVariants as written
use Rattle.schedule_script.specs.declared.breaking.Tie.{Tie}
use Rattle.running_laws.specs.MachineLaws.Refusing.{TiedNetwork, next_tied}
use Rattle.running_nodes.specs.MachineModel.Events.{Edits, MachineEvent, answer_to, edit_answer, edits, event_of, next}
use Rattle.running_nodes.specs.MachineModel.Moments.{HasSessions, NodePair, nodes}
use Rattle.running_nodes.specs.MachineModel.Network.{MachineState, asked, config}
use Rattle.running_nodes.specs.MachineModel.Setup.{Move, Setup, checked, edited_without, moves, remade, renumbered}
use Rattle.running_nodes.proofs.MachineModel.NodesFact.{Holds, holds_steps, pass_nodes}
use Rattle.running_nodes.proofs.MachineModel.Walk.{next_walk}
use Rattle.config_check.specs.Edits as config_edits
use Rattle.running_nodes.specs.Seats.{Configuring, Seat, seat}
use Rattle.running_nodes.specs.Stands.{message_size}
use Rattle.schedule_script.specs.declared.answer.Answer.{Answer}
use Rattle.schedule_script.specs.declared.tied_answer.TiedAnswer.{TiedAnswer}
use Rattle.schedule_script.specs.declared.tied_answer.TiedAnswer.TheVariants.{Answered, EditTied}
use Rattle.machine_moment_laws.specs.Runs.{answer_tied, tie_broken, unless_tied}
use Rattle.net_machine.specs.declared.ends.SessionEnds.{SessionEnds}
use Rattle.net_machine.specs.Seating.{Keeps, order_among, order_of}
use Rattle.net_machine.specs.Tying.{Orders, OrdersAs, moved_by}
use Rattle.net_machine.proofs.Kept.{among_kept}
use Rattle.net_machine.proofs.Rounding.{same_order}
use Rattle.net_machine.proofs.Tied.{next_where, stepped}

abbrev SameNodes : MachineState → MachineState → Type 0
SameNodes w v = map nodes v.sessions ≡ map nodes w.sessions

-- ---- events that move no compute node keep the nodes of all sessions
no_edit : (w : MachineState) (e : MachineEvent) → ((d : Edit) → e ≢ Edits d) → SameNodes w (next message_size w e)
no_edit w e off =
    next_walk message_size (Holds (λ x ps. ps ≡ map nodes w.sessions))
    (holds_steps message_size (λ x ps. ps ≡ map nodes w.sessions)) w e (λ d is _. absurd (off d is)) refl

edit_next : (w : MachineState) (d : Edit) (m : Option Move) (o : Option EditFault) → moves d w.setup.topology ≡ m
    → edit_fault (checked w.setup) d ≡ o → next message_size w (Edits d) ≡ edits m (edited_without o w.setup d) w
unfolding next
edit_next w d m o at is = λ i. edits (at i) (edited_without (is i) w.setup d) w

unmoved : (w : MachineState) (d : Edit) (o : Option EditFault) → edit_fault (checked w.setup) d ≡ o
    → moved_by (checked w.setup) (written.Edit d) (Answered (edit_answer o)) ≡ None
    → SameNodes w (next message_size w (Edits d))
unmoved w d None is none =
    let y = remade (config_edits.edited d (checked w.setup)) (renumbered None w.setup.numbers) in
    ap (λ (v : MachineState). map nodes v.sessions) (edit_next w d None None none is)
    ∙ pass_nodes config _
unmoved w d (Some f) is none =
    ap (λ (v : MachineState). map nodes v.sessions) (edit_next w d (moves d w.setup.topology) (Some f) refl is)

next_nodes : (w : MachineState) (e : Written) (a : Answer) → a ≡ answer_to w (event_of e)
    → moved_by (checked w.setup) e (Answered a) ≡ None → SameNodes w (next message_size w (event_of e))
next_nodes w (written.Edit d) a is none =
    unmoved w d (edit_fault (checked w.setup) d) refl
    (ap (λ (b : Answer). moved_by (checked w.setup) (written.Edit d) (Answered b)) (sym is) ∙ none)
next_nodes w (written.Deliver from to n) a is none = no_edit w (event_of (written.Deliver from to n)) (λ d e. absurd cc)
next_nodes w (written.DeliverOctets from to n) a is none =
    no_edit w (event_of (written.DeliverOctets from to n)) (λ d e. absurd cc)
next_nodes w (written.Lose from to) a is none = no_edit w (event_of (written.Lose from to)) (λ d e. absurd cc)
next_nodes w (written.Connect from to) a is none = no_edit w (event_of (written.Connect from to)) (λ d e. absurd cc)
next_nodes w (written.Restart name) a is none = no_edit w (event_of (written.Restart name)) (λ d e. absurd cc)
next_nodes w written.Round a is none = no_edit w (event_of written.Round) (λ d e. absurd cc)
next_nodes w written.Settle a is none = no_edit w (event_of written.Settle) (λ d e. absurd cc)
next_nodes w (written.Show name) a is none = no_edit w (event_of (written.Show name)) (λ d e. absurd cc)
next_nodes w (written.Trace p) a is none = no_edit w (event_of (written.Trace p)) (λ d e. absurd cc)
next_nodes w (written.Break from to n) a is none = no_edit w (event_of (written.Break from to n)) (λ d e. absurd cc)

module _ (s : TiedNetwork) (e : Written) where
  nodes_by : (o : Option Tie) → tie_broken s (event_of e) ≡ o
      → moved_by (checked s.network.setup) e (unless_tied o (answer_to s.network (event_of e))) ≡ None
      → SameNodes s.network (next_tied message_size s (event_of e)).network
  nodes_by None is none =
      ap (λ (u : TiedNetwork). map nodes u.network.sessions) (next_where s (event_of e) None is)
      ∙ next_nodes s.network e (answer_to s.network (event_of e)) refl none
  nodes_by (Some tie) is none =
      ap (λ (u : TiedNetwork). map nodes u.network.sessions) (next_where s (event_of e) (Some tie) is)

  nodes_stay : (a : TiedAnswer) → a ≡ answer_tied s (event_of e) → moved_by (checked s.network.setup) e a ≡ None
      → SameNodes s.network (next_tied message_size s (event_of e)).network
  nodes_stay a is none =
      nodes_by (tie_broken s (event_of e)) refl
      (ap (λ (b : TiedAnswer). moved_by (checked s.network.setup) e b) (sym is) ∙ none)

  module _ (v : MachineState) (v_is : v ≡ (next_tied message_size s (event_of e)).network) (asked_now : HasSessions v)
      (seats after : List Seat) (order then : List SessionEnds) (who : (seat after 0).who ≡ Configuring (checked v.setup))
      (ordered : order ≡ order_among seats s.network.sessions) (a : TiedAnswer) (answers : a ≡ answer_tied s (event_of e))
    where
      ordered_by : (m : Option Move) → moved_by (checked s.network.setup) e a ≡ m → OrdersAs m seats after order then
          → then ≡ order_of after v.setup.topology
      ordered_by None none h =
          h.1 ∙ ordered ∙ sym (among_kept seats after s.network.sessions h.0)
          ∙ same_order after s.network.sessions v.sessions
          (sym (ap (λ (u : MachineState). map nodes u.sessions) v_is ∙ nodes_stay a answers none))
          ∙ same_order after v.sessions (asked v.setup.topology) asked_now
      ordered_by (Some m) moved h = h (checked v.setup) who

      pub ordered_then : Orders (checked s.network.setup) e a seats after order then
          → then ≡ order_of after v.setup.topology
      ordered_then h = ordered_by (moved_by (checked s.network.setup) e a) refl h
