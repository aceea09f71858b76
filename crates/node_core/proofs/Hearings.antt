-- What is heard, one record after another.
use Rattle.std.proofs.Common.{◌≡◌, ℕ, ◌+◌, Bool, true, false, cond, List, [], ◌∷◌, ◌++◌, length, drop, Some, None, Ok, IsTrue, refl, sym, ap, subst, ◌∙◌, append_assoc}
use Rattle.std.proofs.lemmas.List.{append-nil}
use Rattle.std.specs.List.{AllByRecursion}
use Rattle.std.specs.Cmp.Lexicographic.{pointwise}
use Rattle.std.specs.Prelude.{nat_eq}
use Rattle.item_wire.specs.Frames.{frame_of}
use Rattle.item_wire.specs.Happenings.{SessionFields, after, answer, next_event}
use Rattle.item_wire.specs.Inputs.{may_send, came_by}
use Rattle.item_wire.specs.Reading.{item_in}
use Rattle.item_wire.specs.declared.event.ItemCause.{ItemCause}
use Rattle.item_wire.specs.declared.event.ItemCause.TheVariants.{Order, WrongName}
use Rattle.item_wire.specs.declared.event.ItemEvent.{ItemEvent}
use Rattle.item_wire.specs.declared.event.ItemEvent.TheVariants as Event
use Rattle.item_wire.specs.declared.event.ItemFrom.{ItemFrom}
use Rattle.item_wire.specs.declared.event.ItemState.{ItemState}
use Rattle.item_wire.specs.declared.event.ItemState.TheVariants.{Idle, Opened, Up}
use Rattle.item_wire.specs.declared.input.Came.{Came}
use Rattle.item_wire.specs.declared.input.Came.TheVariants as Comes
use Rattle.item_wire.specs.declared.item.Item.{Item}
use Rattle.item_wire.specs.declared.item.Item.TheVariants as I
use Rattle.node_core.specs.Hearing.{came_with, next_of, next_in, ItemHearing, and_record, heard, records_in, cause_in, Brings}
use Rattle.node_core.specs.Left.{GoesOnLeaving, Leaves}

-- ---- one record
module _ (P : Item → Type 0) where
  -- a record that is handed out has P
  abbrev HandsOut : Came → Type 0
  HandsOut (Comes.OtherRecord i) = P i
  HandsOut came = Unit {0}

  by_test : (test : Bool) (i : Item) → (test ≡ true → P i) → HandsOut (cond test (Comes.OtherRecord i) (Comes.BadRecord Order))
  by_test true i h = h refl
  by_test false i h = tt

  by_name : (test : Bool) → HandsOut (cond test Comes.Hello (Comes.BadRecord WrongName))
  by_name true = tt
  by_name false = tt

  by_item : (peer : List ℕ) (from : ItemFrom) (i : Item) → (IsTrue (may_send from i) → P i) → HandsOut (came_by peer from i)
  by_item peer from (I.Hello name) h = by_name (pointwise nat_eq name peer)
  by_item peer from i h = by_test (may_send from i) i h

  by_event : (state : ItemState) (came : Came) → HandsOut came → AllByRecursion P (records_in (next_event state came))
  by_event Idle Comes.Opened h = tt
  by_event Idle Comes.Hello h = tt
  by_event Idle (Comes.BadRecord cause) h = tt
  by_event Idle (Comes.OtherRecord i) h = tt
  by_event Idle Comes.Closed h = tt
  by_event Opened Comes.Opened h = tt
  by_event Opened Comes.Hello h = tt
  by_event Opened (Comes.BadRecord cause) h = tt
  by_event Opened (Comes.OtherRecord i) h = tt
  by_event Opened Comes.Closed h = tt
  by_event Up Comes.Opened h = tt
  by_event Up Comes.Hello h = tt
  by_event Up (Comes.BadRecord cause) h = tt
  by_event Up (Comes.OtherRecord i) h = (h, tt)
  by_event Up Comes.Closed h = tt

  -- what a session hands out of an item has P, where the item has it once it may be sent
  pub handed_out_has : (s : SessionFields) (i : Item) (event : ItemEvent) → event ≡ answer s (came_by s.peer s.from i) → (IsTrue (may_send s.from i) → P i) → AllByRecursion P (records_in event)
  handed_out_has s i event e h = subst (λ (x : ItemEvent). AllByRecursion P (records_in x)) (sym e) (by_event s.state (came_by s.peer s.from i) (by_item s.peer s.from i h))

  pub all_append : (xs ys : List Item) → AllByRecursion P xs → AllByRecursion P ys → AllByRecursion P (xs ++ ys)
  all_append [] ys hx hy = hy
  all_append (x ∷ xs) ys hx hy = (hx.0, all_append xs ys hx.1 hy)

-- ---- one record after another
-- what is heard from here on is what was heard from the beginning, after the records so far
pub record Wholes (start : SessionFields) (octets left : List ℕ) (records : List Item) (s : SessionFields) (inputs : List Came) : Type 0 where
  pub all : List Came
  pub leaves : Leaves start octets all left
  pub records_are : (heard start all).records ≡ records ++ (heard s inputs).records
  pub state_is : (heard start all).state ≡ (heard s inputs).state
  pub cause_is : (heard start all).cause ≡ (heard s inputs).cause

abbrev pub LeadsFrom : SessionFields → List ℕ → List Item → SessionFields → List ℕ → Type 0
LeadsFrom start octets records s rest = (inputs : List Came) (left : List ℕ) → Leaves s rest inputs left → Wholes start octets left records s inputs

pub leads_start : (start : SessionFields) (octets : List ℕ) → LeadsFrom start octets [] start octets
leads_start start octets inputs left h = record { all = inputs; leaves = h; records_are = refl; state_is = refl; cause_is = refl }

-- what an event makes of what is heard after it
abbrev pub with_event : ItemEvent → ItemState → ItemHearing → ItemHearing
with_event event state more = elim event [
  | Event.Record i ↦ and_record i more
  | Event.Down cause ↦ record { records = []; state = state; cause = Some cause }
  | Event.Quiet ↦ more
  | Event.SendHello ↦ more
  | Event.Up ↦ more
]

record AddsTo (event : ItemEvent) (state : ItemState) (more : ItemHearing) : Type 0 where
  records_are : (with_event event state more).records ≡ records_in event ++ more.records
  state_is : (with_event event state more).state ≡ more.state
  cause_is : (with_event event state more).cause ≡ more.cause

adds : (event : ItemEvent) (state : ItemState) (more : ItemHearing) → cause_in event ≡ None → AddsTo event state more
adds (Event.Record i) state more h = record { records_are = refl; state_is = refl; cause_is = refl }
adds (Event.Down cause) state more h = absurd (cc)
adds Event.Quiet state more h = record { records_are = refl; state_is = refl; cause_is = refl }
adds Event.SendHello state more h = record { records_are = refl; state_is = refl; cause_is = refl }
adds Event.Up state more h = record { records_are = refl; state_is = refl; cause_is = refl }

goes_on : (event : ItemEvent) (more : List Came) (left : List ℕ) (Then : Type 0) → cause_in event ≡ None → Then → GoesOnLeaving event more left Then
goes_on (Event.Record i) more left Then h t = t
goes_on (Event.Down cause) more left Then h t = absurd (cc)
goes_on Event.Quiet more left Then h t = t
goes_on Event.SendHello more left Then h t = t
goes_on Event.Up more left Then h t = t

pub leads_on : (start : SessionFields) (octets : List ℕ) (records : List Item) (s : SessionFields) (rest : List ℕ) (came : Came) (next : List ℕ)
    → LeadsFrom start octets records s rest → next_in s rest ≡ Some (came, next) → cause_in (answer s came) ≡ None
    → LeadsFrom start octets (records ++ records_in (answer s came)) (after s came) next
leads_on start octets records s rest came next leads brings on inputs left h =
    let w = leads (came ∷ inputs) left (next, brings, goes_on (answer s came) inputs left (Leaves (after s came) next inputs left) on h) in
    let a = adds (answer s came) (after s came).state (heard (after s came) inputs) on in
    record {
      all = w.all;
      leaves = w.leaves;
      records_are = w.records_are ∙ ap (λ (is : List Item). records ++ is) a.records_are ∙ sym (append_assoc records (records_in (answer s came)) (heard (after s came) inputs).records);
      state_is = w.state_is ∙ a.state_is;
      cause_is = w.cause_is ∙ a.cause_is;
    }

-- nothing is left that is a whole record
pub leads_to_end : (start : SessionFields) (octets : List ℕ) (records : List Item) (s : SessionFields) (rest : List ℕ)
    → LeadsFrom start octets records s rest → next_in s rest ≡ None
    → (inputs : List Came) × Leaves start octets inputs rest × (records ≡ (heard start inputs).records) × (None ≡ (heard start inputs).cause) × (s.state ≡ (heard start inputs).state)
leads_to_end start octets records s rest leads ends =
    let w = leads [] rest (ends, refl) in
    (w.all, w.leaves, sym (w.records_are ∙ append-nil records), sym w.cause_is, sym w.state_is)

-- an event that ends the session is that it went down
went_down : (event : ItemEvent) (cause : ItemCause) → cause_in event ≡ Some cause → event ≡ Event.Down cause
went_down (Event.Record i) cause h = absurd (cc)
went_down (Event.Down why) cause h = cc
went_down Event.Quiet cause h = absurd (cc)
went_down Event.SendHello cause h = absurd (cc)
went_down Event.Up cause h = absurd (cc)

-- the session went down
leads_down : (start : SessionFields) (octets : List ℕ) (records : List Item) (s : SessionFields) (rest : List ℕ) (came : Came) (next : List ℕ) (cause : ItemCause)
    → LeadsFrom start octets records s rest → next_in s rest ≡ Some (came, next) → answer s came ≡ Event.Down cause
    → (inputs : List Came) × Leaves start octets inputs [] × (records ≡ (heard start inputs).records) × (Some cause ≡ (heard start inputs).cause) × ((after s came).state ≡ (heard start inputs).state)
leads_down start octets records s rest came next cause leads brings down =
    let last : GoesOnLeaving (answer s came) [] [] (Leaves (after s came) next [] []) = subst (λ (event : ItemEvent). GoesOnLeaving event [] [] (Leaves (after s came) next [] [])) (sym down) (refl, refl) in
    let w = leads (came ∷ []) [] (next, brings, last) in
    let is : heard s (came ∷ []) ≡ record { records = []; state = (after s came).state; cause = Some cause } =
    ap (λ (event : ItemEvent). with_event event (after s came).state (heard (after s came) [])) down in
    (w.all, w.leaves, sym (w.records_are ∙ ap (λ (h : ItemHearing). records ++ h.records) is ∙ append-nil records), sym (w.cause_is ∙ ap (λ (h : ItemHearing). h.cause) is), sym (w.state_is ∙ ap (λ (h : ItemHearing). h.state) is))

-- ---- in the words of what was brought
pub leads_past : (start : SessionFields) (octets : List ℕ) (records : List Item) (s : SessionFields) (rest : List ℕ) (s' : SessionFields) (event : ItemEvent) (size : ℕ)
    → LeadsFrom start octets records s rest → Brings s rest s' (Some (event, size)) → cause_in event ≡ None
    → LeadsFrom start octets (records ++ records_in event) s' (drop size rest)
leads_past start octets records s rest s' event size leads b on =
    let on' : cause_in (answer s b.0) ≡ None = ap cause_in (sym b.3) ∙ on in
    let next = leads_on start octets records s rest b.0 (drop size rest) leads b.1 on' in
    subst (λ (x : SessionFields). LeadsFrom start octets (records ++ records_in event) x (drop size rest)) (sym b.2)
    (subst (λ (x : ItemEvent). LeadsFrom start octets (records ++ records_in x) (after s b.0) (drop size rest)) (sym b.3) next)

pub leads_to_down : (start : SessionFields) (octets : List ℕ) (records : List Item) (s : SessionFields) (rest : List ℕ) (s' : SessionFields) (event : ItemEvent) (size : ℕ) (cause : ItemCause)
    → LeadsFrom start octets records s rest → Brings s rest s' (Some (event, size)) → cause_in event ≡ Some cause
    → (inputs : List Came) × Leaves start octets inputs [] × (records ++ records_in event ≡ (heard start inputs).records) × (Some cause ≡ (heard start inputs).cause) × (s'.state ≡ (heard start inputs).state)
leads_to_down start octets records s rest s' event size cause leads b down =
    let is = went_down event cause down in
    let d = leads_down start octets records s rest b.0 (drop size rest) cause leads b.1 (sym b.3 ∙ is) in
    let none : records ++ records_in event ≡ records = ap (λ (e : ItemEvent). records ++ records_in e) is ∙ append-nil records in
    (d.0, d.1, none ∙ d.2, d.3, ap (λ (x : SessionFields). x.state) b.2 ∙ d.4)

pub brought_by_json : (s : SessionFields) (octets json : List ℕ) → frame_of octets ≡ Ok (Some json) → next_in s octets ≡ Some (came_with s (item_in json), drop (4 + length json) octets)
brought_by_json s octets json e = ap (next_of s octets) e
