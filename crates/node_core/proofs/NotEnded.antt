-- Octets never say that their session ended.
use Rattle.std.specs.Prelude.{nat_eq}
use Rattle.std.specs.Cmp.Lexicographic.{pointwise}
use Rattle.std.proofs.Common.{◌≡◌, ◌≢◌, ℕ, Bool, true, false, cond, List, [], ◌∷◌, ◌++◌, Some, None, Option, Ok, Err, Result, sym, subst, ◌∙◌}
use Rattle.std.proofs.lemmas.Option.{same_Some}
use Rattle.ov_link.specs.declared.step.Input.{Input}
use Rattle.ov_link.specs.declared.step.Input.TheVariants as input
use Rattle.item_wire.specs.Frames.{frame_of}
use Rattle.item_wire.specs.Happenings.{SessionFields, after, answer, cause_of, next_event}
use Rattle.item_wire.specs.Inputs.{may_send, came_by}
use Rattle.item_wire.specs.Reading.{item_in}
use Rattle.item_wire.specs.declared.event.ItemCause.{ItemCause}
use Rattle.item_wire.specs.declared.event.ItemCause.TheVariants as Cause
use Rattle.item_wire.specs.declared.event.ItemEvent.{ItemEvent}
use Rattle.item_wire.specs.declared.event.ItemEvent.TheVariants as Event
use Rattle.item_wire.specs.declared.event.ItemFrom.{ItemFrom}
use Rattle.item_wire.specs.declared.event.ItemState.{ItemState}
use Rattle.item_wire.specs.declared.event.ItemState.TheVariants as State
use Rattle.item_wire.specs.declared.fault.ItemFault.{ItemFault}
use Rattle.item_wire.specs.declared.framing.TooLong.{TooLong}
use Rattle.item_wire.specs.declared.input.Came.{Came}
use Rattle.item_wire.specs.declared.input.Came.TheVariants as Comes
use Rattle.item_wire.specs.declared.item.Item.{Item}
use Rattle.item_wire.specs.declared.item.Item.TheVariants as I
use Rattle.node_model.specs.Step.{Beginning, Post}
use Rattle.node_model.proofs.Members.{none_some}
use Rattle.node_core.specs.Beginning.{Begins, BeginsKeeping}
use Rattle.node_core.specs.Hearing.{came_with, next_of, GoesOn, Hears, ItemHearing, and_record, heard, cause_in}
use Rattle.node_core.proofs.Cutting.{leaving_hears}

-- a cause is not the end of the connection
abbrev IsOther : ItemCause → Type 0
IsOther Cause.Ended = ⊥
IsOther cause = Unit {0}

abbrev IsOtherIn : Option ItemCause → Type 0
IsOtherIn None = Unit {0}
IsOtherIn (Some cause) = IsOther cause

-- ---- what octets bring
by_test : (test : Bool) (i : Item) → IsOther (cause_of (cond test (Comes.OtherRecord i) (Comes.BadRecord Cause.Order)))
by_test true i = tt
by_test false i = tt

by_name : (test : Bool) → IsOther (cause_of (cond test Comes.Hello (Comes.BadRecord Cause.WrongName)))
by_name true = tt
by_name false = tt

by_item : (peer : List ℕ) (from : ItemFrom) (i : Item) → IsOther (cause_of (came_by peer from i))
by_item peer from (I.Hello name) = by_name (pointwise nat_eq name peer)
by_item peer from i = by_test (may_send from i) i

came_other : (s : SessionFields) (read : Result Item ItemFault) → IsOther (cause_of (came_with s read))
came_other s (Ok i) = by_item s.peer s.from i
came_other s (Err f) = tt

first_other : (s : SessionFields) (octets : List ℕ) (frame : Result (Option (List ℕ)) TooLong) (came : Came) (rest : List ℕ)
    → next_of s octets frame ≡ Some (came, rest) → IsOther (cause_of came)
first_other s octets (Err long) came rest e =
    subst (λ (c : Came × List ℕ). IsOther (cause_of c.0)) (same_Some (Comes.BadRecord (Cause.TooLong long.length), []) (came, rest) e) tt
first_other s octets (Ok None) came rest e = absurd (none_some (came, rest) e)
first_other s octets (Ok (Some json)) came rest e =
    subst (λ (c : Came × List ℕ). IsOther (cause_of c.0)) (same_Some _ (came, rest) e) (came_other s (item_in json))

-- ---- what an event makes of it
by_state : (state : ItemState) (came : Came) → IsOther (cause_of came) → IsOtherIn (cause_in (next_event state came))
by_state State.Idle Comes.Opened h = tt
by_state State.Idle Comes.Hello h = tt
by_state State.Idle (Comes.BadRecord cause) h = tt
by_state State.Idle (Comes.OtherRecord i) h = tt
by_state State.Idle Comes.Closed h = tt
by_state State.Opened Comes.Opened h = tt
by_state State.Opened Comes.Hello h = tt
by_state State.Opened (Comes.BadRecord cause) h = h
by_state State.Opened (Comes.OtherRecord i) h = tt
by_state State.Opened Comes.Closed h = h
by_state State.Up Comes.Opened h = tt
by_state State.Up Comes.Hello h = tt
by_state State.Up (Comes.BadRecord cause) h = h
by_state State.Up (Comes.OtherRecord i) h = tt
by_state State.Up Comes.Closed h = h

-- what is heard, by the first event and what is heard after it
abbrev with_event : ItemEvent → ItemState → ItemHearing → ItemHearing
with_event event state more = elim event [
  | Event.Record i ↦ and_record i more
  | Event.Down cause ↦ record { records = []; state = state; cause = Some cause }
  | Event.Quiet ↦ more
  | Event.SendHello ↦ more
  | Event.Up ↦ more
]

by_event : (event : ItemEvent) (state : ItemState) (more : ItemHearing) (left : List Came) (Then : Type 0) → IsOtherIn (cause_in event)
    → GoesOn event left Then → (Then → IsOtherIn more.cause) → IsOtherIn (with_event event state more).cause
by_event (Event.Record i) state more left Then h goes rest = rest goes
by_event (Event.Down cause) state more left Then h goes rest = h
by_event Event.Quiet state more left Then h goes rest = rest goes
by_event Event.SendHello state more left Then h goes rest = rest goes
by_event Event.Up state more left Then h goes rest = rest goes

heard_other : (s : SessionFields) (octets : List ℕ) (inputs : List Came) → Hears s octets inputs → IsOtherIn (heard s inputs).cause
heard_other s octets [] h = tt
heard_other s octets (came ∷ more) h =
    by_event (answer s came) (after s came).state (heard (after s came) more) more (Hears (after s came) h.0 more)
    (by_state s.state came (first_other s octets (frame_of octets) came h.0 h.1)) h.2
    (λ then. heard_other (after s came) h.0 more then)

is_other : (cause : ItemCause) → IsOther cause → cause ≢ Cause.Ended
is_other cause h e = subst IsOther e h

-- an input never closes its session with that cause
pub never_ended : (me : List ℕ) (s : SessionFields) (p : Post) (came : Input) (given : Beginning) (cause : Option ItemCause)
    → Begins me s p came given cause → cause ≢ Some Cause.Ended
never_ended me s p (input.Opened session) given cause h e = absurd (none_some Cause.Ended (sym h.1 ∙ e))
never_ended me s p (input.Bytes session bytes) given cause h e =
    subst IsOtherIn (sym h.3 ∙ e) (heard_other s bytes.now h.0 h.1)
never_ended me s p (input.Closed session) given cause h e = absurd (none_some Cause.Ended (sym h.1 ∙ e))

pub never_ended_keeping : (me : List ℕ) (s : SessionFields) (p : Post) (kept : List ℕ) (came : Input) (given : Beginning)
    (cause : Option ItemCause) (left : List ℕ) → BeginsKeeping me s p kept came given cause left
    → cause ≢ Some Cause.Ended
never_ended_keeping me s p kept (input.Opened session) given cause left h e =
    never_ended me s p (input.Opened session) given cause h.0 e
never_ended_keeping me s p kept (input.Bytes session bytes) given cause left h e =
    subst IsOtherIn (sym h.3 ∙ e)
    (heard_other s (kept ++ bytes.now) h.0 (leaving_hears s (kept ++ bytes.now) h.0 left h.1))
never_ended_keeping me s p kept (input.Closed session) given cause left h e =
    never_ended me s p (input.Closed session) given cause h.0 e
