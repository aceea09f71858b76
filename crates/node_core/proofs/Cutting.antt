-- Octets may be cut anywhere.
use Rattle.std.proofs.Common.{◌≡◌, ◌≢◌, ◌<◌, ◌≤◌, ◌+◌, ℕ, zero, suc, List, [], ◌∷◌, ◌++◌, length, drop, Option, Some, None, refl, sym, ◌∙◌, ap, subst, append_assoc, arith}
use Rattle.std.specs.List.{concat}
use Rattle.std.proofs.lemmas.List.{append-nil, drop-append-le, length-drop}
use Rattle.std.proofs.lemmas.Option.{same_Some}
use Rattle.item_wire.specs.Happenings.{SessionFields, after, answer, next_state, next_event}
use Rattle.item_wire.specs.Reading.{item_in}
use Rattle.item_wire.specs.declared.event.ItemCause.{ItemCause}
use Rattle.item_wire.specs.declared.event.ItemCause.TheVariants as Cause
use Rattle.item_wire.specs.declared.event.ItemEvent.{ItemEvent}
use Rattle.item_wire.specs.declared.event.ItemEvent.TheVariants as Event
use Rattle.item_wire.specs.declared.event.ItemState.{ItemState}
use Rattle.item_wire.specs.declared.event.ItemState.TheVariants.{Idle, Opened, Up}
use Rattle.item_wire.specs.declared.input.Came.{Came}
use Rattle.item_wire.specs.declared.input.Came.TheVariants as Comes
use Rattle.item_wire.proofs.Cutting.{FrameIs, part_of, long_of, whole_of, read_frame}
use Rattle.node_model.proofs.Members.{none_some}
use Rattle.node_core.specs.Hearing.{came_with, next_of, next_in, GoesOn, Hears, ItemHearing, heard, and_record, cause_in}
use Rattle.node_core.specs.Left.{GoesOnLeaving, Leaves, session_after, and_then, WhileUp, PartsLeave}
use Rattle.node_core.proofs.Hearings.{with_event}

-- ---- what octets bring first, whatever follows them
data NextIs (s : SessionFields) (a : List ℕ) : Type 0 where
  part : next_in s a ≡ None → length a < 65540 → NextIs s a
  long : (n : ℕ) → 4 ≤ length a → ((b : List ℕ) → next_in s (a ++ b) ≡ Some (Comes.BadRecord (Cause.TooLong n), [])) → NextIs s a
  whole : (json : List ℕ) → 4 + length json ≤ length a
      → ((b : List ℕ) → next_in s (a ++ b) ≡ Some (came_with s (item_in json), drop (4 + length json) a ++ b)) → NextIs s a

next_by : (s : SessionFields) (a : List ℕ) → FrameIs a → NextIs s a
next_by s a (part_of none few) = part (ap (next_of s a) none) few
next_by s a (long_of n four f) = long n four (λ b. ap (next_of s (a ++ b)) (f b))
next_by s a (whole_of json fits f) =
    whole json fits (λ b. ap (next_of s (a ++ b)) (f b) ∙ ap (λ (r : List ℕ). Some (came_with s (item_in json), r)) (drop-append-le (4 + length json) a b fits))

read_next : (s : SessionFields) (a : List ℕ) → NextIs s a
read_next s a = next_by s a (read_frame a)

-- ---- a session that is not Idle
bad_record_ends : (state : ItemState) (cause : ItemCause) → state ≢ Idle → cause_in (next_event state (Comes.BadRecord cause)) ≡ None → ⊥
bad_record_ends Idle cause live up = live refl
bad_record_ends Opened cause live up = cc
bad_record_ends Up cause live up = cc

-- it is not Idle until it goes down
stays_live : (state : ItemState) (came : Came) → state ≢ Idle → cause_in (next_event state came) ≡ None → next_state state came ≢ Idle
stays_live Idle came live up e = live refl
stays_live Opened Comes.Opened live up e = cc
stays_live Opened Comes.Hello live up e = cc
stays_live Opened (Comes.BadRecord cause) live up e = cc
stays_live Opened (Comes.OtherRecord i) live up e = cc
stays_live Opened Comes.Closed live up e = cc
stays_live Up Comes.Opened live up e = cc
stays_live Up Comes.Hello live up e = cc
stays_live Up (Comes.BadRecord cause) live up e = cc
stays_live Up (Comes.OtherRecord i) live up e = cc
stays_live Up Comes.Closed live up e = cc

-- ---- one record
same_next : (s : SessionFields) (a : List ℕ) (x y : Came × List ℕ) → next_in s a ≡ Some x → next_in s (a ++ []) ≡ Some y → x ≡ y
same_next s a x y e f = same_Some x y (sym e ∙ ap (next_in s) (sym (append-nil a)) ∙ f)

next_stays_of : (s : SessionFields) (a b : List ℕ) (came : Came) (rest : List ℕ) → s.state ≢ Idle → next_in s a ≡ Some (came, rest) → NextIs s a
    → (rest' : List ℕ) × (next_in s (a ++ b) ≡ Some (came, rest')) × (cause_in (answer s came) ≡ None → rest' ≡ rest ++ b)
next_stays_of s a b came rest live e (part none few) = absurd (none_some (came, rest) (sym none ∙ e))
next_stays_of s a b came rest live e (long n four f) =
    let same = same_next s a (came, rest) (Comes.BadRecord (Cause.TooLong n), []) e (f []) in
    let came_is : came ≡ Comes.BadRecord (Cause.TooLong n) = ap (λ (x : Came × List ℕ). x.0) same in (
      [],
      f b ∙ ap (λ (c : Came). Some (c, [])) (sym came_is),
      λ up. absurd (bad_record_ends s.state (Cause.TooLong n) live (subst (λ (c : Came). cause_in (answer s c) ≡ None) came_is up)),
    )
next_stays_of s a b came rest live e (whole json fits f) =
    let behind = drop (4 + length json) a in
    let same = same_next s a (came, rest) (came_with s (item_in json), behind ++ []) e (f []) in
    let came_is : came ≡ came_with s (item_in json) = ap (λ (x : Came × List ℕ). x.0) same in
    let rest_is : rest ≡ behind = ap (λ (x : Came × List ℕ). x.1) same ∙ append-nil behind in (
      rest ++ b,
      f b ∙ ap (λ (c : Came). Some (c, behind ++ b)) (sym came_is) ∙ ap (λ (r : List ℕ). Some (came, r ++ b)) (sym rest_is),
      λ up. refl,
    )

next_stays : (s : SessionFields) (a b : List ℕ) (came : Came) (rest : List ℕ) → s.state ≢ Idle → next_in s a ≡ Some (came, rest)
    → (rest' : List ℕ) × (next_in s (a ++ b) ≡ Some (came, rest')) × (cause_in (answer s came) ≡ None → rest' ≡ rest ++ b)
next_stays s a b came rest live e = next_stays_of s a b came rest live e (read_next s a)

next_shorter_of : (s : SessionFields) (a : List ℕ) (came : Came) (rest : List ℕ) → next_in s a ≡ Some (came, rest) → NextIs s a → length rest < length a
next_shorter_of s a came rest e (part none few) = absurd (none_some (came, rest) (sym none ∙ e))
next_shorter_of s a came rest e (long n four f) =
    let same = ap length (ap (λ (x : Came × List ℕ). x.1) (same_next s a (came, rest) (Comes.BadRecord (Cause.TooLong n), []) e (f []))) in
    omega (arith, same, four)
next_shorter_of s a came rest e (whole json fits f) =
    let behind = drop (4 + length json) a in
    let same = ap length (ap (λ (x : Came × List ℕ). x.1) (same_next s a (came, rest) (came_with s (item_in json), behind ++ []) e (f [])) ∙ append-nil behind) in
    omega (arith, same, fits, length-drop (4 + length json) a)

next_shorter : (s : SessionFields) (a : List ℕ) (came : Came) (rest : List ℕ) → next_in s a ≡ Some (came, rest) → length rest < length a
next_shorter s a came rest e = next_shorter_of s a came rest e (read_next s a)

part_few_of : (s : SessionFields) (a : List ℕ) → next_in s a ≡ None → NextIs s a → length a ≤ 65539
part_few_of s a e (part none few) = omega (arith, few)
part_few_of s a e (long n four f) = absurd (none_some _ (sym e ∙ ap (next_in s) (sym (append-nil a)) ∙ f []))
part_few_of s a e (whole json fits f) = absurd (none_some _ (sym e ∙ ap (next_in s) (sym (append-nil a)) ∙ f []))

-- ---- what is heard leaves something, and one thing
goes_hearing : (event : ItemEvent) (more : List Came) (left : List ℕ) (Then Other : Type 0) → (Then → Other) → GoesOnLeaving event more left Then → GoesOn event more Other
goes_hearing (Event.Record item) more left Then Other f x = f x
goes_hearing Event.Quiet more left Then Other f x = f x
goes_hearing Event.SendHello more left Then Other f x = f x
goes_hearing Event.Up more left Then Other f x = f x
goes_hearing (Event.Down why) more left Then Other f x = x.0

pub leaving_hears : (s : SessionFields) (octets : List ℕ) (inputs : List Came) (left : List ℕ) → Leaves s octets inputs left → Hears s octets inputs
leaving_hears s octets [] left x = x.0
leaving_hears s octets (came ∷ more) left x = (
  x.0,
  x.1,
  goes_hearing (answer s came) more left (Leaves (after s came) x.0 more left) (Hears (after s came) x.0 more) (leaving_hears (after s came) x.0 more left) x.2,
)

goes_leaving : (event : ItemEvent) (more : List Came) (Then : Type 0) (Other : List ℕ → Type 0) → (Then → (left : List ℕ) × Other left) → GoesOn event more Then
    → (left : List ℕ) × GoesOnLeaving event more left (Other left)
goes_leaving (Event.Record item) more Then Other f x = f x
goes_leaving Event.Quiet more Then Other f x = f x
goes_leaving Event.SendHello more Then Other f x = f x
goes_leaving Event.Up more Then Other f x = f x
goes_leaving (Event.Down why) more Then Other f x = ([], (x, refl))

pub hearing_leaves : (s : SessionFields) (octets : List ℕ) (inputs : List Came) → Hears s octets inputs → (left : List ℕ) × Leaves s octets inputs left
hearing_leaves s octets [] x = (octets, (x, refl))
hearing_leaves s octets (came ∷ more) x =
    let rest = goes_leaving (answer s came) more (Hears (after s came) x.0 more) (λ (left : List ℕ). Leaves (after s came) x.0 more left) (hearing_leaves (after s came) x.0 more) x.2 in
    (rest.0, (x.0, x.1, rest.1))

goes_one : (event : ItemEvent) (i j : List Came) (a b : List ℕ) (Then Other : Type 0) → (Then → Other → (i ≡ j) × (a ≡ b))
    → GoesOnLeaving event i a Then → GoesOnLeaving event j b Other → (i ≡ j) × (a ≡ b)
goes_one (Event.Record item) i j a b Then Other f x y = f x y
goes_one Event.Quiet i j a b Then Other f x y = f x y
goes_one Event.SendHello i j a b Then Other f x y = f x y
goes_one Event.Up i j a b Then Other f x y = f x y
goes_one (Event.Down why) i j a b Then Other f x y = (x.0 ∙ sym y.0, x.1 ∙ sym y.1)

pub leaves_one : (s : SessionFields) (octets : List ℕ) (i j : List Came) (a b : List ℕ) → Leaves s octets i a → Leaves s octets j b → (i ≡ j) × (a ≡ b)
leaves_one s octets [] [] a b x y = (refl, x.1 ∙ sym y.1)
leaves_one s octets [] (d ∷ j) a b x y = absurd (none_some (d, y.0) (sym x.0 ∙ y.1))
leaves_one s octets (c ∷ i) [] a b x y = absurd (none_some (c, x.0) (sym y.0 ∙ x.1))
leaves_one s octets (c ∷ i) (d ∷ j) a b x y =
    let same : ◌≡◌ {A = Came × List ℕ} (c, x.0) (d, y.0) = same_Some (c, x.0) (d, y.0) (sym x.1 ∙ y.1) in
    let came_is : c ≡ d = ap (λ (p : Came × List ℕ). p.0) same in
    let rest_is : x.0 ≡ y.0 = ap (λ (p : Came × List ℕ). p.1) same in
    let first : GoesOnLeaving (answer s d) i a (Leaves (after s d) x.0 i a) =
    subst (λ (e : Came). GoesOnLeaving (answer s e) i a (Leaves (after s e) x.0 i a)) came_is x.2 in
    let second : GoesOnLeaving (answer s d) i a (Leaves (after s d) y.0 i a) =
    subst (λ (r : List ℕ). GoesOnLeaving (answer s d) i a (Leaves (after s d) r i a)) rest_is first in
    let others = goes_one (answer s d) i j a b (Leaves (after s d) y.0 i a) (Leaves (after s d) y.0 j b) (leaves_one (after s d) y.0 i j a b) second y.2 in
    (ap (λ (e : Came). e ∷ i) came_is ∙ ap (λ (l : List Came). d ∷ l) others.0, others.1)

abbrev LeavesSome : SessionFields → List ℕ → Type 0
LeavesSome s octets = (inputs : List Came) × (left : List ℕ) × Leaves s octets inputs left

others : (event : ItemEvent) (s : SessionFields) (rest : List ℕ) → LeavesSome s rest
    → (more : List Came) × (left : List ℕ) × GoesOnLeaving event more left (Leaves s rest more left)
others (Event.Record item) s rest x = x
others Event.Quiet s rest x = x
others Event.SendHello s rest x = x
others Event.Up s rest x = x
others (Event.Down why) s rest x = ([], [], (refl, refl))

some_by : (s : SessionFields) (octets : List ℕ) (o : Option (Came × List ℕ)) → next_in s octets ≡ o
    → ((came : Came) (rest : List ℕ) → next_in s octets ≡ Some (came, rest) → LeavesSome (after s came) rest) → LeavesSome s octets
some_by s octets None e f = ([], octets, (e, refl))
some_by s octets (Some (came, rest)) e f =
    let more = others (answer s came) (after s came) rest (f came rest e) in
    (came ∷ more.0, more.1, (rest, e, more.2))

some_below : (most : ℕ) (s : SessionFields) (octets : List ℕ) → length octets < most → LeavesSome s octets
some_below zero s octets few = absurd (omega (arith, few))
some_below (suc most) s octets few = some_by s octets (next_in s octets) refl (λ came rest e.
    let shorter = next_shorter s octets came rest e in
    some_below most (after s came) rest (omega (arith, few, shorter)))

pub leaves_some : (s : SessionFields) (octets : List ℕ) → (inputs : List Came) × (left : List ℕ) × Leaves s octets inputs left
leaves_some s octets = some_below (length octets + 1) s octets (omega arith)

goes_short : (event : ItemEvent) (more : List Came) (left : List ℕ) (Then : Type 0) → (Then → length left ≤ 65539) → GoesOnLeaving event more left Then → length left ≤ 65539
goes_short (Event.Record item) more left Then f x = f x
goes_short Event.Quiet more left Then f x = f x
goes_short Event.SendHello more left Then f x = f x
goes_short Event.Up more left Then f x = f x
goes_short (Event.Down why) more left Then f x = let none = ap length x.1 in omega (arith, none)

pub leaves_few : (s : SessionFields) (octets : List ℕ) (inputs : List Came) (left : List ℕ) → Leaves s octets inputs left → length left ≤ 65539
leaves_few s octets [] left x = subst (λ (o : List ℕ). length o ≤ 65539) (sym x.1) (part_few_of s octets x.0 (read_next s octets))
leaves_few s octets (came ∷ more) left x =
    goes_short (answer s came) more left (Leaves (after s came) x.0 more left) (leaves_few (after s came) x.0 more left) x.2

-- ---- a part that leaves the session up
live_on : (event : ItemEvent) (state : ItemState) (more : ItemHearing) → (with_event event state more).cause ≡ None
    → (cause_in event ≡ None → more.cause ≡ None → more.state ≢ Idle) → (with_event event state more).state ≢ Idle
live_on (Event.Record item) state more up f = f refl up
live_on Event.Quiet state more up f = f refl up
live_on Event.SendHello state more up f = f refl up
live_on Event.Up state more up f = f refl up
live_on (Event.Down why) state more up f = absurd cc

pub live_after : (s : SessionFields) (inputs : List Came) → s.state ≢ Idle → (heard s inputs).cause ≡ None → (heard s inputs).state ≢ Idle
live_after s [] live up = live
live_after s (came ∷ more) live up =
    live_on (answer s came) (after s came).state (heard (after s came) more) up (λ here later. live_after (after s came) more (stays_live s.state came live here) later)

left_on : (event : ItemEvent) (s : SessionFields) (came : Came) (rest : List ℕ) (more : List Came) (left : List ℕ)
    → GoesOnLeaving event more left (Leaves (after s came) rest more left) → (with_event event (after s came).state (heard (after s came) more)).cause ≡ None
    → (Leaves (after s came) rest more left → (heard (after s came) more).cause ≡ None → next_in (session_after (after s came) more) left ≡ None)
    → next_in (record s { state = (with_event event (after s came).state (heard (after s came) more)).state }) left ≡ None
left_on (Event.Record item) s came rest more left x up f = f x up
left_on Event.Quiet s came rest more left x up f = f x up
left_on Event.SendHello s came rest more left x up f = f x up
left_on Event.Up s came rest more left x up f = f x up
left_on (Event.Down why) s came rest more left x up f = absurd cc

-- what is left of a part that leaves the session up is no whole record
pub left_is_part : (s : SessionFields) (octets : List ℕ) (inputs : List Came) (left : List ℕ) → Leaves s octets inputs left
    → (heard s inputs).cause ≡ None → next_in (session_after s inputs) left ≡ None
left_is_part s octets [] left x up = ap (next_in s) x.1 ∙ x.0
left_is_part s octets (came ∷ more) left x up =
    left_on (answer s came) s came x.0 more left x.2 up (left_is_part (after s came) x.0 more left)

up_on : (event : ItemEvent) (s : SessionFields) (came : Came) (first more : List Came) (b kept left rest rest' : List ℕ)
    → GoesOnLeaving event first kept (Leaves (after s came) rest first kept)
    → (with_event event (after s came).state (heard (after s came) first)).cause ≡ None
    → Leaves (record s { state = (with_event event (after s came).state (heard (after s came) first)).state }) (kept ++ b) more left
    → (cause_in event ≡ None → Leaves (after s came) rest first kept → (heard (after s came) first).cause ≡ None
    → Leaves (session_after (after s came) first) (kept ++ b) more left → Leaves (after s came) rest' (first ++ more) left)
    → GoesOnLeaving event (first ++ more) left (Leaves (after s came) rest' (first ++ more) left)
up_on (Event.Record item) s came first more b kept left rest rest' x up y f = f refl x up y
up_on Event.Quiet s came first more b kept left rest rest' x up y f = f refl x up y
up_on Event.SendHello s came first more b kept left rest rest' x up y f = f refl x up y
up_on Event.Up s came first more b kept left rest rest' x up y f = f refl x up y
up_on (Event.Down why) s came first more b kept left rest rest' x up y f = absurd cc

pub cut_up : (s : SessionFields) (a b : List ℕ) (first more : List Came) (kept left : List ℕ) → s.state ≢ Idle
    → Leaves s a first kept → (heard s first).cause ≡ None → Leaves (session_after s first) (kept ++ b) more left
    → Leaves s (a ++ b) (first ++ more) left
cut_up s a b [] more kept left live x up y = subst (λ (o : List ℕ). Leaves s (o ++ b) more left) x.1 y
cut_up s a b (came ∷ first) more kept left live x up y =
    let n = next_stays s a b came x.0 live x.1 in (
      n.0,
      n.1,
      up_on (answer s came) s came first more b kept left x.0 n.0 x.2 up y (λ here x' up' y'.
          subst (λ (o : List ℕ). Leaves (after s came) o (first ++ more) left) (sym (n.2 here))
          (cut_up (after s came) x.0 b first more kept left (stays_live s.state came live here) x' up' y')),
    )

both_on : (event : ItemEvent) (s : SessionFields) (came : Came) (first more : List Came)
    → (with_event event (after s came).state (heard (after s came) first)).cause ≡ None
    → ((heard (after s came) first).cause ≡ None
    → heard (after s came) (first ++ more) ≡ and_then (heard (after s came) first) (heard (session_after (after s came) first) more))
    → with_event event (after s came).state (heard (after s came) (first ++ more))
    ≡ and_then (with_event event (after s came).state (heard (after s came) first))
    (heard (record s { state = (with_event event (after s came).state (heard (after s came) first)).state }) more)
both_on (Event.Record i) s came first more up f = ap (and_record i) (f up)
both_on Event.Quiet s came first more up f = f up
both_on Event.SendHello s came first more up f = f up
both_on Event.Up s came first more up f = f up
both_on (Event.Down why) s came first more up f = absurd cc

-- what is heard of both parts
pub heard_of_both : (s : SessionFields) (first more : List Came) → (heard s first).cause ≡ None
    → heard s (first ++ more) ≡ and_then (heard s first) (heard (session_after s first) more)
heard_of_both s [] more up = refl
heard_of_both s (came ∷ first) more up = both_on (answer s came) s came first more up (heard_of_both (after s came) first more)

-- ---- a part that takes it down
down_on : (event : ItemEvent) (s : SessionFields) (came : Came) (first : List Came) (cause : ItemCause) (kept rest rest' : List ℕ)
    → GoesOnLeaving event first kept (Leaves (after s came) rest first kept)
    → (with_event event (after s came).state (heard (after s came) first)).cause ≡ Some cause
    → (cause_in event ≡ None → Leaves (after s came) rest first kept → (heard (after s came) first).cause ≡ Some cause
    → Leaves (after s came) rest' first kept)
    → GoesOnLeaving event first kept (Leaves (after s came) rest' first kept)
down_on (Event.Record item) s came first cause kept rest rest' x down f = f refl x down
down_on Event.Quiet s came first cause kept rest rest' x down f = f refl x down
down_on Event.SendHello s came first cause kept rest rest' x down f = f refl x down
down_on Event.Up s came first cause kept rest rest' x down f = f refl x down
down_on (Event.Down why) s came first cause kept rest rest' x down f = x

pub cut_down : (s : SessionFields) (a b : List ℕ) (inputs : List Came) (left : List ℕ) (cause : ItemCause) → s.state ≢ Idle
    → Leaves s a inputs left → (heard s inputs).cause ≡ Some cause → Leaves s (a ++ b) inputs left
cut_down s a b [] left cause live x down = absurd cc
cut_down s a b (came ∷ more) left cause live x down =
    let n = next_stays s a b came x.0 live x.1 in (
      n.0,
      n.1,
      down_on (answer s came) s came more cause left x.0 n.0 x.2 down (λ here x' down'.
          subst (λ (o : List ℕ). Leaves (after s came) o more left) (sym (n.2 here))
          (cut_down (after s came) x.0 b more left cause (stays_live s.state came live here) x' down')),
    )

none_on : (event : ItemEvent) (state : ItemState) (h : ItemHearing) (more : List Came) (left : List ℕ) (cause : ItemCause) (Then : Type 0)
    → GoesOnLeaving event more left Then → (with_event event state h).cause ≡ Some cause
    → (Then → h.cause ≡ Some cause → left ≡ []) → left ≡ []
none_on (Event.Record item) state h more left cause Then x down f = f x down
none_on Event.Quiet state h more left cause Then x down f = f x down
none_on Event.SendHello state h more left cause Then x down f = f x down
none_on Event.Up state h more left cause Then x down f = f x down
none_on (Event.Down why) state h more left cause Then x down f = x.1

pub nothing_left : (s : SessionFields) (octets : List ℕ) (inputs : List Came) (left : List ℕ) (cause : ItemCause) → Leaves s octets inputs left
    → (heard s inputs).cause ≡ Some cause → left ≡ []
nothing_left s octets [] left cause x down = absurd cc
nothing_left s octets (came ∷ more) left cause x down =
    none_on (answer s came) (after s came).state (heard (after s came) more) more left cause (Leaves (after s came) x.0 more left) x.2 down
    (nothing_left (after s came) x.0 more left cause)

-- ---- any number of parts
parts_of : (s : SessionFields) (a : List ℕ) (parts : List (List ℕ)) (first more : List Came) (between left : List ℕ) (o : Option ItemCause)
    → (heard s first).cause ≡ o → s.state ≢ Idle → Leaves s a first between
    → WhileUp o more left (PartsLeave (session_after s first) between parts more left)
    → ((session_after s first).state ≢ Idle → next_in (session_after s first) between ≡ None
    → PartsLeave (session_after s first) between parts more left → Leaves (session_after s first) (between ++ concat parts) more left)
    → Leaves s (a ++ concat parts) (first ++ more) left
parts_of s a parts first more between left None e live x y f =
    cut_up s a (concat parts) first more between left live x e (f (live_after s first live e) (left_is_part s a first between x e) y)
parts_of s a parts first more between left (Some cause) e live x y f =
    let down = cut_down s a (concat parts) first between cause live x e in
    let none : between ≡ left = nothing_left s a first between cause x e ∙ sym y.1 in
    let all : first ≡ first ++ more = sym (ap (λ (l : List Came). first ++ l) y.0 ∙ append-nil first) in
    subst (λ (i : List Came). Leaves s (a ++ concat parts) i left) all
    (subst (λ (l : List ℕ). Leaves s (a ++ concat parts) first l) none down)

pub parts_join : (parts : List (List ℕ)) (s : SessionFields) (kept : List ℕ) (inputs : List Came) (left : List ℕ) → s.state ≢ Idle
    → next_in s kept ≡ None → PartsLeave s kept parts inputs left → Leaves s (kept ++ concat parts) inputs left
parts_join [] s kept inputs left live none x =
    subst (λ (i : List Came). Leaves s (kept ++ []) i left) (sym x.0)
    (subst (λ (l : List ℕ). Leaves s (kept ++ []) [] l) (sym x.1)
    (subst (λ (o : List ℕ). Leaves s o [] kept) (sym (append-nil kept)) (none, refl)))
parts_join (part' ∷ parts) s kept inputs left live none x =
    let whole' = parts_of s (kept ++ part') parts x.0 x.1 x.2 left (heard s x.0).cause refl live x.3 x.5
    (λ live' none' y. parts_join parts (session_after s x.0) x.2 x.1 left live' none' y) in
    subst (λ (o : List ℕ). Leaves s o inputs left) (append_assoc kept part' (concat parts))
    (subst (λ (i : List Came). Leaves s ((kept ++ part') ++ concat parts) i left) (sym x.4) whole')
