-- What an event makes of a network that keeps ties.
use Rattle.std.specs.Prelude.{◌≡◌, List, Bool, cond, is_some}
use Rattle.std.specs.declared.option.Option.{Option}
use Rattle.std.specs.declared.option.Option.TheVariants.{Some, None}
use Rattle.std.proofs.Common.{refl, sym, ◌∙◌, ap, subst}
use Rattle.config_types.specs.declared.edit.Edit.{Edit}
use Rattle.config_types.specs.declared.event.Event.{Event as Written}
use Rattle.config_types.specs.declared.event.Event.TheVariants as written
use Rattle.config_check.specs.Checked.{Checked}
use Rattle.config_check.specs.Edits.{edit_fault}
use Rattle.config_check.specs.declared.edits.EditFault.{EditFault}
use Rattle.schedule_script.specs.Kept.{AreAlike, Kept, ties_in}
use Rattle.schedule_script.specs.Ties.{Ties}
use Rattle.schedule_script.specs.declared.breaking.Tie.{Tie}
use Rattle.running_laws.specs.MachineLaws.Refusing.{TiedNetwork, next_tied}
use Rattle.running_laws.specs.MachineLaws.Running.{ties_next, ties_with}
use Rattle.running_nodes.specs.MachineModel.Events.{MachineEvent, answer_to, event_of, next}
use Rattle.running_nodes.specs.MachineModel.Setup.{Setup, checked, edited_without, opening}
use Rattle.running_nodes.specs.Seats.{Seat}
use Rattle.running_nodes.specs.Stands.{StandsFor, message_size}
use Rattle.running_laws.specs.Moments.{IsMoment}
use Rattle.schedule_script.specs.declared.tied_answer.TiedAnswer.{TiedAnswer}
use Rattle.schedule_script.specs.declared.tied_answer.TiedAnswer.TheVariants.{Answered, EditTied}
use Rattle.machine_moment_laws.specs.Runs.{answer_tied, broken_by, tie_broken, unless_tied}
use Rattle.machine_moment_laws.proofs.TiesKept.{refused_is}
use Rattle.net_machine.specs.declared.ends.SessionEnds.{SessionEnds}
use Rattle.net_machine.specs.Seating.{order_among}
use Rattle.net_machine.specs.Tying.{HappensTied, OfTie, broken_at, ties_then}
use Rattle.net_machine.proofs.Facts.{MayHappen}
use Rattle.net_machine.proofs.Given.{facts}
use Rattle.net_machine.proofs.Happening.{Makes, happens}

-- ---- what the machine says of an event, in terms of its configuration
broken_without : (t : Ties) (x : Setup) (e : Edit) (o : Option EditFault)
    → broken_by t (edited_without o x e) ≡ broken_by t (edited_without o (opening (checked x)) e)
broken_without t x e None = refl
broken_without t x e (Some f) = refl

ties_without : (t : Ties) (x : Setup) (e : Edit) (o : Option EditFault)
    → ties_with (edited_without o x e) t ≡ ties_with (edited_without o (opening (checked x)) e) t
ties_without t x e None = refl
ties_without t x e (Some f) = refl

broken_is : (s : TiedNetwork) (e : Written)
    → tie_broken s (event_of e) ≡ broken_at s.ties (checked s.network.setup) e
broken_is s (written.Edit d) = broken_without s.ties s.network.setup d (edit_fault (checked s.network.setup) d)
broken_is s (written.Deliver from to n) = refl
broken_is s (written.DeliverOctets from to n) = refl
broken_is s (written.Lose a b) = refl
broken_is s (written.Connect a b) = refl
broken_is s (written.Restart name) = refl
broken_is s written.Round = refl
broken_is s written.Settle = refl
broken_is s (written.Show name) = refl
broken_is s (written.Trace p) = refl
broken_is s (written.Break from to n) = refl

then_is : (s : TiedNetwork) (e : Written)
    → ties_next s.ties s.network (event_of e) ≡ ties_then s.ties (checked s.network.setup) e
then_is s (written.Edit d) = ties_without s.ties s.network.setup d (edit_fault (checked s.network.setup) d)
then_is s (written.Deliver from to n) = refl
then_is s (written.DeliverOctets from to n) = refl
then_is s (written.Lose a b) = refl
then_is s (written.Connect a b) = refl
then_is s (written.Restart name) = refl
then_is s written.Round = refl
then_is s written.Settle = refl
then_is s (written.Show name) = refl
then_is s (written.Trace p) = refl
then_is s (written.Break from to n) = refl

abbrev pub stepped : TiedNetwork → MachineEvent → TiedNetwork
stepped s e = record { ties = ties_next s.ties s.network e; network = next message_size s.network e }

pub next_where : (s : TiedNetwork) (e : MachineEvent) (o : Option Tie) → tie_broken s e ≡ o
    → next_tied message_size s e ≡ cond (is_some o) s (stepped s e)
next_where s e o is = ap (λ (b : Bool). cond b s (stepped s e)) (refused_is s e ∙ ap is_some is)

-- ---- an answer is that of the machine, and the ties and the seats are those of its next state
pub record Steps (s : TiedNetwork) (e : Written) (answer : TiedAnswer) (kept : Kept) (seats : List Seat) : Type 0 where
  pub answers : answer ≡ answer_tied s (event_of e)
  pub ties : AreAlike (ties_in kept) (next_tied message_size s (event_of e)).ties
  pub stands : StandsFor seats (next_tied message_size s (event_of e)).network

module _ (s : TiedNetwork) (m : IsMoment s.network) (ties : Kept) (seats : List Seat) (order : List SessionEnds)
    (e : Written) where
  pub by_answer : (answer : TiedAnswer) (then_ties : Kept) (then_seats : List Seat)
      → ties_in ties ≡ s.ties → StandsFor seats s.network → order ≡ order_among seats s.network.sessions
      → MayHappen (event_of e) → HappensTied (checked s.network.setup) order e ties seats answer then_ties then_seats
      → Steps s e answer then_ties then_seats
  by_answer (EditTied tie) then_ties then_seats same stands ordered may h =
      let broken : tie_broken s (event_of e) ≡ Some tie =
      broken_is s e ∙ ap (λ (t : Ties). broken_at t (checked s.network.setup) e) (sym same) ∙ h.0 in
      let stays : next_tied message_size s (event_of e) ≡ s = next_where s (event_of e) (Some tie) broken in
      record {
        answers = sym (ap (λ (o : Option Tie). unless_tied o (answer_to s.network (event_of e))) broken);
        ties = subst (λ (u : TiedNetwork). AreAlike (ties_in then_ties) u.ties) (sym stays)
            (subst (λ (t : Ties). AreAlike (ties_in then_ties) t) (ap ties_in h.1 ∙ same)
            (record {
              ports = λ p. refl;
              uses = λ number. refl;
              related = λ a b. refl;
              addresses = λ name. refl;
              names = λ address. refl;
            }));
        stands = subst (λ (u : TiedNetwork). StandsFor then_seats u.network) (sym stays)
            (subst (λ (ss : List Seat). StandsFor ss s.network) (sym h.2) stands);
      }
  by_answer (Answered answer) then_ties then_seats same stands ordered may h =
      let broken : tie_broken s (event_of e) ≡ None =
      broken_is s e ∙ ap (λ (t : Ties). broken_at t (checked s.network.setup) e) (sym same) ∙ h.0 in
      let goes : next_tied message_size s (event_of e) ≡ stepped s (event_of e) = next_where s (event_of e) None broken in
      let makes : Makes IsMoment facts s.network (next message_size s.network (event_of e)) answer
      (answer_to s.network (event_of e)) then_seats =
      happens IsMoment facts seats then_seats s.network (checked s.network.setup) order e answer
      (record { moment = m; stands = stands }) refl ordered may h.2 in
      let joined : ties_then (ties_in ties) (checked s.network.setup) e ≡ ties_next s.ties s.network (event_of e) =
      ap (λ (t : Ties). ties_then t (checked s.network.setup) e) same ∙ sym (then_is s e) in
      record {
        answers = ap (λ a. Answered a) makes.answers
            ∙ sym (ap (λ (o : Option Tie). unless_tied o (answer_to s.network (event_of e))) broken);
        ties = subst (λ (u : TiedNetwork). AreAlike (ties_in then_ties) u.ties) (sym goes)
            (subst (λ (t : Ties). AreAlike (ties_in then_ties) t) joined h.1);
        stands = subst (λ (u : TiedNetwork). StandsFor then_seats u.network) (sym goes) makes.stands.stands;
      }

-- an edit that would break a tie changes nothing
pub unchanged : (x : Checked) (ties : Kept) (seats : List Seat) (order : List SessionEnds) (e : Written)
    (answer : TiedAnswer) (then_ties : Kept) (then_seats : List Seat)
    → HappensTied x order e ties seats answer then_ties then_seats
    → OfTie (λ _. (then_ties ≡ ties) × (then_seats ≡ seats)) answer
unchanged x ties seats order e (Answered answer) then_ties then_seats h = tt
unchanged x ties seats order e (EditTied tie) then_ties then_seats h = (h.1, h.2)
