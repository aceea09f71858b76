-- Octets may be cut anywhere.
use Rattle.std.proofs.Common.{◌≡◌, ◌≢◌, ◌<◌, ◌+◌, ◌-◌, ℕ, List, [], ◌∷◌, ◌++◌, length, drop, Bool, Option, Some, None, refl, sym, ◌∙◌, ap, subst, append_assoc, arith}
use Rattle.std.specs.List.{concat}
use Rattle.std.proofs.lemmas.List.{append-nil, drop-append-le}
use Rattle.ov_types.specs.declared.prefix.Addr.{Addr}
use Rattle.bgp_wire.specs.declared.fault.WireFault.{WireFault}
use Rattle.bgp_wire.specs.Frames.{IsProperPrefix}
use Rattle.bgp_wire.specs.Messages.{AreOctets}
use Rattle.bgp_wire.proofs.Readings.{message_stays, fault_stays, proper_prefix_is_short}
use Rattle.node_model.proofs.OvLink.Ends.{IsEnd, nothing_end, end_on}
use Rattle.bgp_session.specs.declared.event.Cause.{Cause}
use Rattle.bgp_session.specs.declared.event.State.{State}
use Rattle.bgp_session.specs.declared.event.State.TheVariants.{Idle, OpenSent, OpenConfirm, Established}
use Rattle.bgp_session.specs.Happenings.{SessionFields, Happening, Passes, Sends, ComesUp, HandsOut, GoesDown, after, answer, next_state, next_happening}
use Rattle.bgp_session.specs.Inputs.{Came, Opened, RightOpen, WrongOpen, KeepaliveCame, RightUpdate, WrongUpdate, NotificationCame, BadFrame, Closed}
use Rattle.node_routes.specs.Hearing.{IsNext, message, fault, GoesOn, Hears, heard, and_reply, and_changes, reply_octets}
use Rattle.node_routes.specs.Keeping.{GoesOnLeaving, Leaves, session_after, and_then, WhileUp, PartsLeave}
use Rattle.node_routes.specs.Taking.{cause_of}
use Rattle.node_routes.specs.declared.hearing.HeardRoutes.{HeardRoutes as HeardSoFar}
use Rattle.node_routes.proofs.Leading.{by_happening, Deltas, Outcome, OutcomeLeaving}
use Rattle.node_routes.proofs.One.{next_one, hears_one}
use Rattle.node_routes.proofs.Some.{heard_some}

-- ---- what is heard leaves something, and one thing
goes_hearing : (h : Happening) (more : List Came) (left : List ℕ) (Then Other : Type 0) → (Then → Other) → GoesOnLeaving h more left Then → GoesOn h more Other
goes_hearing Passes more left Then Other f x = f x
goes_hearing (Sends r) more left Then Other f x = f x
goes_hearing ComesUp more left Then Other f x = f x
goes_hearing (HandsOut changes) more left Then Other f x = f x
goes_hearing (GoesDown cause code) more left Then Other f x = x.0

pub leaving_hears : (s : SessionFields) (octets : List ℕ) (inputs : List Came) (left : List ℕ) → Leaves s octets inputs left → Hears s octets inputs
leaving_hears s octets [] left x = x.0
leaving_hears s octets (came ∷ more) left x = (
  x.0,
  x.1,
  goes_hearing (answer s came) more left (Leaves (after s came) x.0 more left) (Hears (after s came) x.0 more) (leaving_hears (after s came) x.0 more left) x.2,
)

goes_leaving : (h : Happening) (more : List Came) (Then : Type 0) (Other : List ℕ → Type 0) → (Then → (left : List ℕ) × Other left) → GoesOn h more Then
    → (left : List ℕ) × GoesOnLeaving h more left (Other left)
goes_leaving Passes more Then Other f x = f x
goes_leaving (Sends r) more Then Other f x = f x
goes_leaving ComesUp more Then Other f x = f x
goes_leaving (HandsOut changes) more Then Other f x = f x
goes_leaving (GoesDown cause code) more Then Other f x = ([], (x, refl))

pub hearing_leaves : (s : SessionFields) (octets : List ℕ) (inputs : List Came) → Hears s octets inputs → (left : List ℕ) × Leaves s octets inputs left
hearing_leaves s octets [] x = (octets, (x, refl))
hearing_leaves s octets (came ∷ more) x =
    let rest = goes_leaving (answer s came) more (Hears (after s came) x.0 more) (λ (left : List ℕ). Leaves (after s came) x.0 more left) (hearing_leaves (after s came) x.0 more) x.2 in
    (rest.0, (x.0, x.1, rest.1))

goes_leaving_one : (h : Happening) (more : List Came) (a b : List ℕ) (Then Other : Type 0) → (Then → Other → a ≡ b) → GoesOnLeaving h more a Then → GoesOnLeaving h more b Other → a ≡ b
goes_leaving_one Passes more a b Then Other f x y = f x y
goes_leaving_one (Sends r) more a b Then Other f x y = f x y
goes_leaving_one ComesUp more a b Then Other f x y = f x y
goes_leaving_one (HandsOut changes) more a b Then Other f x y = f x y
goes_leaving_one (GoesDown cause code) more a b Then Other f x y = x.1 ∙ sym y.1

leaves_one_of : (s : SessionFields) (octets : List ℕ) (inputs : List Came) (a b : List ℕ) → Leaves s octets inputs a → Leaves s octets inputs b → a ≡ b
leaves_one_of s octets [] a b x y = x.1 ∙ sym y.1
leaves_one_of s octets (came ∷ more) a b x y =
    let same = next_one s octets came came x.0 y.0 x.1 y.1 in
    let first : GoesOnLeaving (answer s came) more a (Leaves (after s came) y.0 more a) =
    subst (λ (r : List ℕ). GoesOnLeaving (answer s came) more a (Leaves (after s came) r more a)) same.1 x.2 in
    goes_leaving_one (answer s came) more a b (Leaves (after s came) y.0 more a) (Leaves (after s came) y.0 more b) (leaves_one_of (after s came) y.0 more a b) first y.2

pub leaves_one : (s : SessionFields) (octets : List ℕ) (i j : List Came) (a b : List ℕ) → Leaves s octets i a → Leaves s octets j b → (i ≡ j) × (a ≡ b)
leaves_one s octets i j a b x y =
    let same : i ≡ j = hears_one s octets i j (leaving_hears s octets i a x) (leaving_hears s octets j b y) in
    (same, leaves_one_of s octets j a b (subst (λ (l : List Came). Leaves s octets l a) same x) y)

pub leaves_some : (s : SessionFields) (octets : List ℕ) → AreOctets octets → (inputs : List Came) × (left : List ℕ) × Leaves s octets inputs left
leaves_some s octets h =
    let some = heard_some s octets h in
    let left = hearing_leaves s octets some.0 some.1 in
    (some.0, left.0, left.1)

goes_short : (h : Happening) (more : List Came) (left : List ℕ) (Then : Type 0) → (Then → length left < 4096) → GoesOnLeaving h more left Then → length left < 4096
goes_short Passes more left Then f x = f x
goes_short (Sends r) more left Then f x = f x
goes_short ComesUp more left Then f x = f x
goes_short (HandsOut changes) more left Then f x = f x
goes_short (GoesDown cause code) more left Then f x = let none = ap length x.1 in omega (arith, none)

pub leaves_few : (s : SessionFields) (octets : List ℕ) (inputs : List Came) (left : List ℕ) → Leaves s octets inputs left → length left < 4096
leaves_few s octets [] left x = subst (λ (o : List ℕ). length o < 4096) (sym x.1) (proper_prefix_is_short octets x.0)
leaves_few s octets (came ∷ more) left x =
    goes_short (answer s came) more left (Leaves (after s came) x.0 more left) (leaves_few (after s came) x.0 more left) x.2

-- ---- a session that is not Idle
bad_frame_ends : (state : State) (f : WireFault) → state ≢ Idle → cause_of (next_happening state (BadFrame f)) ≡ None → ⊥
bad_frame_ends Idle f live up = live refl
bad_frame_ends OpenSent f live up = cc
bad_frame_ends OpenConfirm f live up = cc
bad_frame_ends Established f live up = cc

-- it is not Idle until it goes down
stays_live : (state : State) (came : Came) → state ≢ Idle → cause_of (next_happening state came) ≡ None → next_state state came ≢ Idle
stays_live Idle came live up e = live refl
stays_live OpenSent Opened live up e = cc
stays_live OpenSent (RightOpen wide) live up e = cc
stays_live OpenSent (WrongOpen f) live up e = cc
stays_live OpenSent KeepaliveCame live up e = cc
stays_live OpenSent (RightUpdate deltas) live up e = cc
stays_live OpenSent (WrongUpdate f) live up e = cc
stays_live OpenSent (NotificationCame code subcode) live up e = cc
stays_live OpenSent (BadFrame f) live up e = cc
stays_live OpenSent Closed live up e = cc
stays_live OpenConfirm Opened live up e = cc
stays_live OpenConfirm (RightOpen wide) live up e = cc
stays_live OpenConfirm (WrongOpen f) live up e = cc
stays_live OpenConfirm KeepaliveCame live up e = cc
stays_live OpenConfirm (RightUpdate deltas) live up e = cc
stays_live OpenConfirm (WrongUpdate f) live up e = cc
stays_live OpenConfirm (NotificationCame code subcode) live up e = cc
stays_live OpenConfirm (BadFrame f) live up e = cc
stays_live OpenConfirm Closed live up e = cc
stays_live Established Opened live up e = cc
stays_live Established (RightOpen wide) live up e = cc
stays_live Established (WrongOpen f) live up e = cc
stays_live Established KeepaliveCame live up e = cc
stays_live Established (RightUpdate deltas) live up e = cc
stays_live Established (WrongUpdate f) live up e = cc
stays_live Established (NotificationCame code subcode) live up e = cc
stays_live Established (BadFrame f) live up e = cc
stays_live Established Closed live up e = cc

-- ---- one message
next_stays : (s : SessionFields) (a b : List ℕ) (came : Came) (rest : List ℕ) → s.state ≢ Idle → IsNext s a came rest
    → (rest' : List ℕ) × IsNext s (a ++ b) came rest' × (cause_of (answer s came) ≡ None → rest' ≡ rest ++ b)
next_stays s a b came rest live (message m) = (
  rest ++ b,
  message (record {
    content = m.content;
    length = m.length;
    begins = message_stays a b m.content m.length m.begins;
    brings = m.brings;
    rest_is = ap (λ (r : List ℕ). r ++ b) m.rest_is ∙ sym (drop-append-le m.length a b m.begins.within);
  }),
  λ up. refl,
)
next_stays s a b came rest live (fault f) = (
  [],
  fault (record { fault = f.fault; has = fault_stays a b f.fault f.has; came_is = f.came_is; rest_is = refl }),
  λ up. absurd (bad_frame_ends s.state f.fault live (subst (λ (c : Came). cause_of (answer s c) ≡ None) f.came_is up)),
)

-- ---- a part that leaves the session up
module _ (id : Addr) where
  live_on : (s : SessionFields) (came : Came) (more : List Came) (h : Happening) → (by_happening id s came more h).cause ≡ None
      → (cause_of h ≡ None → (heard id (after s came) more).cause ≡ None → (heard id (after s came) more).state ≢ Idle)
      → (by_happening id s came more h).state ≢ Idle
  live_on s came more Passes up f = f refl up
  live_on s came more (Sends r) up f = f refl up
  live_on s came more ComesUp up f = f refl up
  live_on s came more (HandsOut changes) up f = f refl up
  live_on s came more (GoesDown cause code) up f = absurd cc

  pub live_after : (s : SessionFields) (inputs : List Came) → s.state ≢ Idle → (heard id s inputs).cause ≡ None → (heard id s inputs).state ≢ Idle
  live_after s [] live up = live
  live_after s (came ∷ more) live up =
      live_on s came more (answer s came) up (λ here later. live_after (after s came) more (stays_live s.state came live here) later)

  proper_on : (s : SessionFields) (came : Came) (more : List Came) (h : Happening) (left : List ℕ) (Then : Type 0)
      → GoesOnLeaving h more left Then → (by_happening id s came more h).cause ≡ None
      → (Then → (heard id (after s came) more).cause ≡ None → IsProperPrefix left) → IsProperPrefix left
  proper_on s came more Passes left Then x up f = f x up
  proper_on s came more (Sends r) left Then x up f = f x up
  proper_on s came more ComesUp left Then x up f = f x up
  proper_on s came more (HandsOut changes) left Then x up f = f x up
  proper_on s came more (GoesDown cause code) left Then x up f = absurd cc

  -- what is left of a part that leaves the session up is no whole message
  pub left_is_proper : (s : SessionFields) (octets : List ℕ) (inputs : List Came) (left : List ℕ) → Leaves s octets inputs left
      → (heard id s inputs).cause ≡ None → IsProperPrefix left
  left_is_proper s octets [] left x up = subst IsProperPrefix (sym x.1) x.0
  left_is_proper s octets (came ∷ more) left x up =
      proper_on s came more (answer s came) left (Leaves (after s came) x.0 more left) x.2 up (left_is_proper (after s came) x.0 more left)

  up_on : (s : SessionFields) (came : Came) (first more : List Came) (h : Happening) (b kept left rest rest' : List ℕ)
      → GoesOnLeaving h first kept (Leaves (after s came) rest first kept) → (by_happening id s came first h).cause ≡ None
      → Leaves (record s { state = (by_happening id s came first h).state; wide = (by_happening id s came first h).wide }) (kept ++ b) more left
      → (cause_of h ≡ None → Leaves (after s came) rest first kept → (heard id (after s came) first).cause ≡ None
      → Leaves (session_after id (after s came) first) (kept ++ b) more left → Leaves (after s came) rest' (first ++ more) left)
      → GoesOnLeaving h (first ++ more) left (Leaves (after s came) rest' (first ++ more) left)
  up_on s came first more Passes b kept left rest rest' x up y f = f refl x up y
  up_on s came first more (Sends r) b kept left rest rest' x up y f = f refl x up y
  up_on s came first more ComesUp b kept left rest rest' x up y f = f refl x up y
  up_on s came first more (HandsOut changes) b kept left rest rest' x up y f = f refl x up y
  up_on s came first more (GoesDown cause code) b kept left rest rest' x up y f = absurd cc

  pub cut_up : (s : SessionFields) (a b : List ℕ) (first more : List Came) (kept left : List ℕ) → s.state ≢ Idle
      → Leaves s a first kept → (heard id s first).cause ≡ None → Leaves (session_after id s first) (kept ++ b) more left
      → Leaves s (a ++ b) (first ++ more) left
  cut_up s a b [] more kept left live x up y = subst (λ (o : List ℕ). Leaves s (o ++ b) more left) x.1 y
  cut_up s a b (came ∷ first) more kept left live x up y =
      let n = next_stays s a b came x.0 live x.1 in (
        n.0,
        n.1,
        up_on s came first more (answer s came) b kept left x.0 n.0 x.2 up y (λ here x' up' y'.
            subst (λ (o : List ℕ). Leaves (after s came) o (first ++ more) left) (sym (n.2 here))
            (cut_up (after s came) x.0 b first more kept left (stays_live s.state came live here) x' up' y')),
      )

  both_on : (s : SessionFields) (came : Came) (first more : List Came) (h : Happening) → (by_happening id s came first h).cause ≡ None
      → ((heard id (after s came) first).cause ≡ None
      → heard id (after s came) (first ++ more) ≡ and_then (heard id (after s came) first) (heard id (session_after id (after s came) first) more))
      → by_happening id s came (first ++ more) h
      ≡ and_then (by_happening id s came first h) (heard id (record s { state = (by_happening id s came first h).state; wide = (by_happening id s came first h).wide }) more)
  both_on s came first more Passes up f = f up
  both_on s came first more (Sends r) up f = ap (and_reply (reply_octets s.asn id r)) (f up)
  both_on s came first more ComesUp up f = f up
  both_on s came first more (HandsOut changes) up f =
      let one = heard id (after s came) first in
      let two = heard id (session_after id (after s came) first) more in
      ap (and_changes changes) (f up)
      ∙ ap (λ (c : Deltas). record two { replies = one.replies ++ two.replies; changes = c }) (sym (append_assoc changes one.changes two.changes))
  both_on s came first more (GoesDown cause code) up f = absurd cc

  -- what is heard of both parts
  pub heard_of_both : (s : SessionFields) (first more : List Came) → (heard id s first).cause ≡ None
      → heard id s (first ++ more) ≡ and_then (heard id s first) (heard id (session_after id s first) more)
  heard_of_both s [] more up = refl
  heard_of_both s (came ∷ first) more up = both_on s came first more (answer s came) up (heard_of_both (after s came) first more)

  -- ---- a part that takes it down
  down_on : (s : SessionFields) (came : Came) (first : List Came) (h : Happening) (cause : Cause) (kept rest rest' : List ℕ)
      → GoesOnLeaving h first kept (Leaves (after s came) rest first kept) → (by_happening id s came first h).cause ≡ Some cause
      → (cause_of h ≡ None → Leaves (after s came) rest first kept → (heard id (after s came) first).cause ≡ Some cause
      → Leaves (after s came) rest' first kept)
      → GoesOnLeaving h first kept (Leaves (after s came) rest' first kept)
  down_on s came first Passes cause kept rest rest' x down f = f refl x down
  down_on s came first (Sends r) cause kept rest rest' x down f = f refl x down
  down_on s came first ComesUp cause kept rest rest' x down f = f refl x down
  down_on s came first (HandsOut changes) cause kept rest rest' x down f = f refl x down
  down_on s came first (GoesDown why code) cause kept rest rest' x down f = x

  pub cut_down : (s : SessionFields) (a b : List ℕ) (inputs : List Came) (left : List ℕ) (cause : Cause) → s.state ≢ Idle
      → Leaves s a inputs left → (heard id s inputs).cause ≡ Some cause → Leaves s (a ++ b) inputs left
  cut_down s a b [] left cause live x down = absurd cc
  cut_down s a b (came ∷ more) left cause live x down =
      let n = next_stays s a b came x.0 live x.1 in (
        n.0,
        n.1,
        down_on s came more (answer s came) cause left x.0 n.0 x.2 down (λ here x' down'.
            subst (λ (o : List ℕ). Leaves (after s came) o more left) (sym (n.2 here))
            (cut_down (after s came) x.0 b more left cause (stays_live s.state came live here) x' down')),
      )

  none_on : (s : SessionFields) (came : Came) (more : List Came) (h : Happening) (left : List ℕ) (cause : Cause) (Then : Type 0)
      → GoesOnLeaving h more left Then → (by_happening id s came more h).cause ≡ Some cause
      → (Then → (heard id (after s came) more).cause ≡ Some cause → left ≡ []) → left ≡ []
  none_on s came more Passes left cause Then x down f = f x down
  none_on s came more (Sends r) left cause Then x down f = f x down
  none_on s came more ComesUp left cause Then x down f = f x down
  none_on s came more (HandsOut changes) left cause Then x down f = f x down
  none_on s came more (GoesDown why code) left cause Then x down f = x.1

  pub nothing_left : (s : SessionFields) (octets : List ℕ) (inputs : List Came) (left : List ℕ) (cause : Cause) → Leaves s octets inputs left
      → (heard id s inputs).cause ≡ Some cause → left ≡ []
  nothing_left s octets [] left cause x down = absurd cc
  nothing_left s octets (came ∷ more) left cause x down =
      none_on s came more (answer s came) left cause (Leaves (after s came) x.0 more left) x.2 down (nothing_left (after s came) x.0 more left cause)

  -- ---- any number of parts
  parts_of : (s : SessionFields) (a : List ℕ) (parts : List (List ℕ)) (first more : List Came) (between left : List ℕ) (o : Option Cause)
      → (heard id s first).cause ≡ o → s.state ≢ Idle → Leaves s a first between
      → WhileUp o more left (PartsLeave id (session_after id s first) between parts more left)
      → ((session_after id s first).state ≢ Idle → IsProperPrefix between
      → PartsLeave id (session_after id s first) between parts more left → Leaves (session_after id s first) (between ++ concat parts) more left)
      → Leaves s (a ++ concat parts) (first ++ more) left
  parts_of s a parts first more between left None e live x y f =
      cut_up s a (concat parts) first more between left live x e (f (live_after s first live e) (left_is_proper s a first between x e) y)
  parts_of s a parts first more between left (Some cause) e live x y f =
      let down = cut_down s a (concat parts) first between cause live x e in
      let none : between ≡ left = nothing_left s a first between cause x e ∙ sym y.1 in
      let all : first ≡ first ++ more = sym (ap (λ (l : List Came). first ++ l) y.0 ∙ append-nil first) in
      subst (λ (i : List Came). Leaves s (a ++ concat parts) i left) all
      (subst (λ (l : List ℕ). Leaves s (a ++ concat parts) first l) none down)

  pub parts_join : (parts : List (List ℕ)) (s : SessionFields) (kept : List ℕ) (inputs : List Came) (left : List ℕ) → s.state ≢ Idle
      → IsProperPrefix kept → PartsLeave id s kept parts inputs left → Leaves s (kept ++ concat parts) inputs left
  parts_join [] s kept inputs left live proper x =
      subst (λ (i : List Came). Leaves s (kept ++ []) i left) (sym x.0)
      (subst (λ (l : List ℕ). Leaves s (kept ++ []) [] l) (sym x.1)
      (subst (λ (o : List ℕ). Leaves s o [] kept) (sym (append-nil kept)) (proper, refl)))
  parts_join (part ∷ parts) s kept inputs left live proper x =
      let whole = parts_of s (kept ++ part) parts x.0 x.1 x.2 left (heard id s x.0).cause refl live x.3 x.5
      (λ live' proper' y. parts_join parts (session_after id s x.0) x.2 x.1 left live' proper' y) in
      subst (λ (o : List ℕ). Leaves s o inputs left) (append_assoc kept part (concat parts))
      (subst (λ (i : List Came). Leaves s ((kept ++ part) ++ concat parts) i left) (sym x.4) whole)

-- ---- what is left is the end of the octets
pub end_past : (s : SessionFields) (octets rest rest' : List ℕ) (came : Came) → IsEnd octets rest → IsNext s rest came rest' → IsEnd octets rest'
end_past s octets rest rest' came e (message m) =
    subst (IsEnd octets) (sym m.rest_is) (end_on octets rest m.length e m.begins.within)
end_past s octets rest rest' came e (fault f) = subst (IsEnd octets) (sym f.rest_is) (nothing_end octets)

pub outcome_hears : (id : Addr) (s : SessionFields) (octets left : List ℕ) (w : HeardSoFar) (state : State) (wide : Bool)
    → OutcomeLeaving id s octets left w state wide → Outcome id s octets w state wide
outcome_hears id s octets left w state wide o = (o.0, leaving_hears s octets o.0 left o.1, o.2, o.3, o.4, o.5, o.6)
