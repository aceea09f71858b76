-- Octets never say that their session ended.
use Rattle.std.specs.Prelude.{◌≢◌, ℕ, Bool, List, [], ◌∷◌, Option, Some, None}
use Rattle.std.proofs.Common.{sym, ◌∙◌, ap, subst}
use Rattle.node_model.specs.OvLink.Input.{Input}
use Rattle.node_model.specs.OvLink.Input.TheVariants as input
use Rattle.ov_types.specs.declared.prefix.Addr.{Addr}
use Rattle.bgp_wire.specs.declared.fault.WireFault.{WireFault}
use Rattle.bgp_wire.specs.Content.{Content, UpdateFields, Opens, Updates, Notifies, KeepsAlive}
use Rattle.bgp_wire.specs.Opens.{is_wide}
use Rattle.bgp_session.specs.declared.event.Cause.{Cause}
use Rattle.bgp_session.specs.declared.event.Cause.TheVariants.{Ended}
use Rattle.bgp_session.specs.declared.event.State.{State}
use Rattle.bgp_session.specs.declared.event.State.TheVariants.{Idle, OpenSent, OpenConfirm, Established}
use Rattle.bgp_session.specs.Happenings.{SessionFields, Happening, Passes, Sends, ComesUp, HandsOut, GoesDown, after, answer}
use Rattle.bgp_session.specs.Words.{Step, step_of}
use Rattle.bgp_session.proofs.TableLemmas.{words_of}
use Rattle.bgp_session.specs.Inputs.{Came, Opened, Closed, BringsUpdate, right, wrong, Brings, open_refusal, came_by_open}
use Rattle.node_model.specs.Step.{Beginning, Post}
use Rattle.node_model.proofs.Members.{none_some}
use Rattle.node_routes.specs.Beginning.{Begins}
use Rattle.node_routes.specs.Hearing.{IsNext, message, fault, GoesOn, Hears, heard}
use Rattle.node_routes.proofs.Leading.{by_happening}

-- what came is not the end of the connection, and a cause is not
abbrev IsMessage : Came → Type 0
IsMessage Closed = ⊥
IsMessage _ = Unit {0}

abbrev IsOther : Option Cause → Type 0
IsOther (Some Ended) = ⊥
IsOther _ = Unit {0}

abbrev cause_in : Happening → Option Cause
cause_in (GoesDown cause code) = Some cause
cause_in _ = None

-- ---- what octets bring
by_update : (wide : Bool) (parts : UpdateFields) (came : Came) → BringsUpdate wide parts came → IsMessage came
by_update wide parts came (right deltas changes is) = subst IsMessage (sym is) tt
by_update wide parts came (wrong f has is) = subst IsMessage (sym is) tt

by_open : (wide : Bool) (o : Option WireFault) → IsMessage (came_by_open wide o)
by_open wide None = tt
by_open wide (Some f) = tt

by_message : (asn : ℕ) (peer : Addr) (wide : Bool) (content : Content) (came : Came) → Brings asn peer wide content came → IsMessage came
by_message asn peer wide (Opens fields) came is = subst IsMessage (sym is) (by_open (is_wide fields) (open_refusal asn peer fields))
by_message asn peer wide (Updates parts) came brings = by_update wide parts came brings
by_message asn peer wide (Notifies code subcode) came is = subst IsMessage (sym is) tt
by_message asn peer wide KeepsAlive came is = subst IsMessage (sym is) tt

next_message : (s : SessionFields) (octets : List ℕ) (came : Came) (rest : List ℕ) → IsNext s octets came rest → IsMessage came
next_message s octets came rest (message m) = by_message s.asn s.peer.address s.wide m.content came m.brings
next_message s octets came rest (fault f) = subst IsMessage (sym f.came_is) tt

-- ---- what a session makes of it
in_idle : (came : Came) → IsOther (cause_in (step_of Idle came).1)
in_idle Opened = tt
in_idle _ = tt

in_open_sent : (came : Came) → IsMessage came → IsOther (cause_in (step_of OpenSent came).1)
in_open_sent Closed h = h
in_open_sent _ h = tt

in_open_confirm : (came : Came) → IsMessage came → IsOther (cause_in (step_of OpenConfirm came).1)
in_open_confirm Closed h = h
in_open_confirm _ h = tt

in_established : (came : Came) → IsMessage came → IsOther (cause_in (step_of Established came).1)
in_established Closed h = h
in_established _ h = tt

by_words : (state : State) (came : Came) → IsMessage came → IsOther (cause_in (step_of state came).1)
by_words Idle came h = in_idle came
by_words OpenSent came h = in_open_sent came h
by_words OpenConfirm came h = in_open_confirm came h
by_words Established came h = in_established came h

other_cause : (s : SessionFields) (came : Came) → IsMessage came → IsOther (cause_in (answer s came))
other_cause s came h =
    subst (λ (h : Happening). IsOther (cause_in h)) (sym (ap (λ (p : Step). p.1) (words_of s.state came))) (by_words s.state came h)

with_others : (id : Addr) (s : SessionFields) (came : Came) (more : List Came) (Then : Type 0) (h : Happening) → IsOther (cause_in h)
    → GoesOn h more Then → (Then → IsOther (heard id (after s came) more).cause) → IsOther (by_happening id s came more h).cause
with_others id s came more Then Passes is goes others = others goes
with_others id s came more Then (Sends r) is goes others = others goes
with_others id s came more Then ComesUp is goes others = others goes
with_others id s came more Then (HandsOut changes) is goes others = others goes
with_others id s came more Then (GoesDown cause code) is goes others = is

heard_other : (id : Addr) (s : SessionFields) (octets : List ℕ) (inputs : List Came) → Hears s octets inputs → IsOther (heard id s inputs).cause
heard_other id s octets [] h = tt
heard_other id s octets (came ∷ more) h =
    with_others id s came more (Hears (after s came) h.0 more) (answer s came)
    (other_cause s came (next_message s octets came h.0 h.1)) h.2 (λ then. heard_other id (after s came) h.0 more then)

-- an input never closes its session with that cause
pub never_ended : (id : Addr) (s : SessionFields) (p : Post) (came : Input) (given : Beginning) (cause : Option Cause)
    → Begins id s p came given cause → cause ≢ Some Ended
never_ended id s p (input.Opened session) given cause h e = absurd (none_some Ended (sym h.1 ∙ e))
never_ended id s p (input.Bytes session bytes) given cause h e =
    subst IsOther (sym h.3 ∙ e) (heard_other id s bytes.now h.0 h.1)
never_ended id s p (input.Closed session) given cause h e = absurd (none_some Ended (sym h.1 ∙ e))
