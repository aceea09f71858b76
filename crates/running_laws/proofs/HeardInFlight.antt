-- At every moment all that is in flight can be heard.
use Rattle.std.specs.List.{AllByRecursion}
use Rattle.std.specs.Prelude.{List, map, [], ◌∷◌}
use Rattle.std.proofs.Common.{subst}
use Rattle.ov_sync.proofs.KeyedLaws.{empty_values}
use Rattle.schedule_script.specs.ConfigCheck.Checked.{Checked}
use Rattle.node_model.specs.Keys.{key_cmp}
use Rattle.machine_laws.specs.MachineModel.Events.{MachineEvent, next}
use Rattle.machine_laws.specs.MachineModel.Moments.{Each, EditIsValid, nodes}
use Rattle.machine_laws.specs.MachineModel.Setup.{Setup, checked, opening}
use Rattle.machine_laws.specs.MachineModel.Network.{MachineState, start}
use Rattle.machine_laws.specs.MachineModel.Session.{Agent, Carries, Controller, Hello, Keepalive, Message, Open, Role, Session}
use Rattle.machine_laws.specs.MachineModel.Steps.{without_breaks}
use Rattle.machine_laws.proofs.MachineModel.NetworkFact.{each_map}
use Rattle.machine_laws.proofs.MachineModel.Start.{start_each}
use Rattle.machine_laws.proofs.EachFact.{Keeps, after_keeps}
use Rattle.running_nodes.proofs.ConfigNodeBelow.Law.{low_fits}
use Rattle.machine_laws.specs.Headline.{IsOfForm, IsWritten}
use Rattle.running_nodes.specs.Stands.{message_size}
use Rattle.running_nodes.specs.Telling.{CanBeHeard, CanSend}
use Rattle.running_laws.specs.Moments.{IsMoment, unbroken}
use Rattle.running_laws.proofs.Fitness.{IsFit, can_carry}
use Rattle.running_laws.proofs.Moments.{Follows, at_first, at_moment, follows_edit, laid}
use Rattle.running_laws.proofs.Roles.{HaveRoles, asked_roles, back, new_roles}
use Rattle.running_laws.proofs.SentFact.{EntriesOf, IsSent, MessageOf, MessagesOf, PlacesNew, SentAt, sent_keeps}
use Rattle.running_laws.proofs.Wanted.{wants_fit}

-- ---- at the start
abbrev NothingSent : Session → Type 0
NothingSent s = SentAt IsFit s.near.role s.far.role s

nothing_sent : (x : Checked) → Each NothingSent (start x).sessions
nothing_sent x = start_each NothingSent (λ n m r q. record {
  near_sent = empty_values key_cmp (IsFit r q);
  far_sent = empty_values key_cmp (IsFit q r);
  near_held = empty_values key_cmp (IsFit q r);
  far_held = empty_values key_cmp (IsFit r q);
  near_flight = tt;
  far_flight = tt;
}) x

-- the nodes have the roles of their names, and all that was sent on the session is fit
abbrev pub AllSent : Setup → Session → Type 0
AllSent x = IsSent IsFit (HaveRoles x.topology.controllers) (back x.topology.controllers)

placed : (x : Setup) (ss : List Session) → AllByRecursion (HaveRoles x.topology.controllers) (map nodes ss) → Each NothingSent ss → Each (AllSent x) ss
placed x [] r f = tt
placed x (s ∷ ss) r f = (record { place = r.0; sent = f.0 }, placed x ss r.1 f.1)

start_sent : (x : Checked) → IsWritten (opening x) → Each (AllSent (opening x)) (start x).sessions
start_sent x w = placed (opening x) (start x).sessions (asked_roles x.topology (laid (opening x) w)) (nothing_sent x)

-- ---- what was sent can be heard
can_send : (p q : Role) (m : Message) → MessageOf (IsFit p q) m → CanSend p q m
can_send p q (Carries c) h = can_carry p q c h
can_send p q Open h = tt
can_send p q Keepalive h = tt
can_send p q Hello h = tt

can_send_all : (p q : Role) (f : List Message) → MessagesOf (IsFit p q) f → AllByRecursion (CanSend p q) f
can_send_all p q [] h = tt
can_send_all p q (m ∷ f) h = (can_send p q m h.0, can_send_all p q f h.1)

all_heard : (x : Setup) (ss : List Session) → Each (AllSent x) ss → AllByRecursion CanBeHeard ss
all_heard x [] f = tt
all_heard x (s ∷ ss) f = (
  record { near = can_send_all s.near.role s.far.role s.near.flight f.0.sent.near_flight; far = can_send_all s.far.role s.near.role s.far.flight f.0.sent.far_flight },
  all_heard x ss f.1,
)

-- ---- at every moment
module _ (x : Setup) where
  news : PlacesNew IsFit (HaveRoles x.topology.controllers) (back x.topology.controllers) (Follows x)
  news y f c m n k =
      let roles = new_roles y.topology (laid y f.written) c m n k in
      subst (λ cs. HaveRoles cs ((c.name, Controller), (n.name, Agent))) f.controllers roles

  keeps : Keeps message_size (Follows x) (AllSent x) (λ s k. EntriesOf (IsFit s.near.role s.far.role) k)
  keeps =
      sent_keeps IsFit (HaveRoles x.topology.controllers) (back x.topology.controllers) message_size (Follows x)
      (wants_fit x.topology.controllers (Follows x)
      (λ y f. record {
        form = f.written.topology;
        laid = laid y f.written;
        fits = low_fits (checked y) f.written.topology f.written.config f.written.valid;
        controllers = f.controllers;
        numbers = f.fits.fit;
      }))
      news

  abbrev HasSent : MachineState → Type 0
  HasSent w = Follows x w.setup × Each (AllSent x) w.sessions

  sent_removed : (w : MachineState) → HasSent w → HasSent (unbroken w)
  sent_removed w h =
      (h.0, each_map (AllSent x) (AllSent x) without_breaks (λ s f. keeps.breaks [] [] s f) w.sessions h.1)

  sent_followed : (w : MachineState) (e : MachineEvent) → EditIsValid IsOfForm w e → HasSent w → HasSent (next message_size w e)
  sent_followed w e valid h =
      after_keeps message_size (Follows x) (AllSent x) (λ s k. EntriesOf (IsFit s.near.role s.far.role) k) keeps w
      (e ∷ []) (follows_edit x w e valid h.0, tt) h

sent_now : (w : MachineState) (m : IsMoment w) → Each (AllSent (opening m.opening)) w.sessions
sent_now w m =
    (at_moment (HasSent (opening m.opening)) (sent_removed (opening m.opening)) (sent_followed (opening m.opening)) w m
    (at_first m.opening m.written, start_sent m.opening m.written)).1

pub heard : (w : MachineState) → IsMoment w → AllByRecursion CanBeHeard w.sessions
heard w m = all_heard (opening m.opening) w.sessions (sent_now w m)
