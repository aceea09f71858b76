-- What is heard from one place on, and what was heard before it.
use Rattle.std.proofs.Common.{◌≡◌, ℕ, List, [], ◌∷◌, ◌++◌, Bool, Option, Some, None, true, false, is_some, refl, sym, ◌∙◌, ap, subst, append_assoc}
use Rattle.std.proofs.lemmas.List.{append-nil}
use Rattle.ov_types.specs.declared.prefix.Addr.{Addr}
use Rattle.ov_types.specs.declared.vpn.VpnKey.{VpnKey}
use Rattle.ov_types.specs.declared.vpn.VpnRoute.{VpnRoute}
use Rattle.ov_sync.specs.declared.Delta.{Delta}
use Rattle.bgp_wire.specs.Frames.{IsProperPrefix}
use Rattle.bgp_session.specs.declared.event.Cause.{Cause}
use Rattle.bgp_session.specs.declared.event.SessionEvent.{SessionEvent}
use Rattle.bgp_session.specs.declared.event.State.{State}
use Rattle.bgp_session.specs.Happenings.{SessionFields, Happening, Passes, Sends, ComesUp, HandsOut, GoesDown}
use Rattle.bgp_session.specs.Happenings.{after, answer, happening_of}
use Rattle.bgp_session.specs.Inputs.{Came}
use Rattle.node_routes.specs.Hearing.{IsNext, Hears, RouteHearing, heard, and_reply, and_changes, reply_octets, notification}
use Rattle.node_routes.specs.Keeping.{GoesOnLeaving, Leaves}
use Rattle.node_routes.specs.Taking.{TakesNext, replied, handed, cause_of, IsAdded}
use Rattle.node_routes.specs.declared.hearing.HeardRoutes.{HeardRoutes as HeardSoFar}

abbrev pub Replies : Type 0
Replies = List (List ℕ)

abbrev pub Deltas : Type 0
Deltas = List (Delta VpnKey VpnRoute)

-- what was heard before comes first
abbrev pub behind : Replies → Deltas → RouteHearing → RouteHearing
behind replies changes h = record h { replies = replies ++ h.replies; changes = changes ++ h.changes }

-- this is heard of octets, and these are left
abbrev pub IsHeard : Addr → SessionFields → List ℕ → List ℕ → RouteHearing → Type 0
IsHeard id s octets left h = (inputs : List Came) × Leaves s octets inputs left × (heard id s inputs ≡ h)

-- whatever is heard from here on is heard from the start, behind what was heard before
pub record Leads (id : Addr) (start : SessionFields) (octets : List ℕ) (now : SessionFields) (rest : List ℕ)
    (replies : Replies) (changes : Deltas) : Type 0 where
  pub whole : (inputs : List Came) (left : List ℕ) → Leaves now rest inputs left → IsHeard id start octets left (behind replies changes (heard id now inputs))

pub leads_at_start : (id : Addr) (s : SessionFields) (octets : List ℕ) → Leads id s octets s octets [] []
leads_at_start id s octets = record { whole = λ inputs left leaves. (inputs, leaves, refl) }

-- one input, and the others
abbrev pub by_happening : Addr → SessionFields → Came → List Came → Happening → RouteHearing
by_happening id s came more h =
    elim h [
      | Passes ↦ heard id (after s came) more
      | Sends r ↦ and_reply (reply_octets s.asn id r) (heard id (after s came) more)
      | ComesUp ↦ heard id (after s came) more
      | HandsOut changes ↦ and_changes changes (heard id (after s came) more)
      | GoesDown cause code ↦ record {
        replies = notification code;
        changes = [];
        state = (after s came).state;
        wide = (after s came).wide;
        cause = Some cause;
      }
    ]

one_and_more : (id : Addr) (s : SessionFields) (came : Came) (more : List Came) (h : Happening) → cause_of h ≡ None
    → by_happening id s came more h ≡ behind (replied s.asn id h) (handed h) (heard id (after s came) more)
one_and_more id s came more Passes up = refl
one_and_more id s came more (Sends r) up = refl
one_and_more id s came more ComesUp up = refl
one_and_more id s came more (HandsOut changes) up = refl
one_and_more id s came more (GoesDown cause code) up = absurd cc

last_one : (id : Addr) (s : SessionFields) (came : Came) (cause : Cause) (h : Happening) → cause_of h ≡ Some cause
    → by_happening id s came [] h
    ≡ record { replies = replied s.asn id h; changes = handed h; state = (after s came).state; wide = (after s came).wide; cause = Some cause }
last_one id s came cause (GoesDown why code) down =
    ap (λ (c : Option Cause). record { replies = notification code; changes = []; state = (after s came).state; wide = (after s came).wide; cause = c }) down
last_one id s came cause Passes down = absurd cc
last_one id s came cause (Sends r) down = absurd cc
last_one id s came cause ComesUp down = absurd cc
last_one id s came cause (HandsOut changes) down = absurd cc

goes_on : (h : Happening) (more : List Came) (left : List ℕ) (Then : Type 0) → cause_of h ≡ None → Then → GoesOnLeaving h more left Then
goes_on Passes more left Then up then = then
goes_on (Sends r) more left Then up then = then
goes_on ComesUp more left Then up then = then
goes_on (HandsOut changes) more left Then up then = then
goes_on (GoesDown cause code) more left Then up then = absurd cc

ends_here : (h : Happening) (cause : Cause) (Then : Type 0) → cause_of h ≡ Some cause → GoesOnLeaving h [] [] Then
ends_here (GoesDown why code) cause Then down = (refl, refl)
ends_here Passes cause Then down = absurd cc
ends_here (Sends r) cause Then down = absurd cc
ends_here ComesUp cause Then down = absurd cc
ends_here (HandsOut changes) cause Then down = absurd cc

behind_both : (r q : Replies) (c d : Deltas) (h : RouteHearing) → behind r c (behind q d h) ≡ behind (r ++ q) (c ++ d) h
behind_both r q c d h =
    ap (λ (x : Replies). record h { replies = x; changes = c ++ (d ++ h.changes) }) (sym (append_assoc r q h.replies))
    ∙ ap (λ (y : Deltas). record h { replies = (r ++ q) ++ h.replies; changes = y }) (sym (append_assoc c d h.changes))

pub leads_on : (id : Addr) (start now : SessionFields) (octets rest rest' : List ℕ) (replies : Replies) (changes : Deltas) (came : Came)
    → Leads id start octets now rest replies changes → IsNext now rest came rest' → cause_of (answer now came) ≡ None
    → Leads id start octets (after now came) rest' (replies ++ replied now.asn id (answer now came)) (changes ++ handed (answer now came))
leads_on id start now octets rest rest' replies changes came leads next up = record {
  whole = λ inputs left leaves.
      let before = leads.whole (came ∷ inputs) left (rest', next, goes_on (answer now came) inputs left (Leaves (after now came) rest' inputs left) up leaves) in (
        before.0,
        before.1,
        before.2 ∙ ap (behind replies changes) (one_and_more id now came inputs (answer now came) up)
            ∙ behind_both replies (replied now.asn id (answer now came)) changes (handed (answer now came)) (heard id (after now came) inputs),
      );
}

pub leads_down : (id : Addr) (start now : SessionFields) (octets rest rest' : List ℕ) (replies : Replies) (changes : Deltas) (came : Came)
    (cause : Cause) → Leads id start octets now rest replies changes → IsNext now rest came rest' → cause_of (answer now came) ≡ Some cause
    → IsHeard id start octets [] (record {
      replies = replies ++ replied now.asn id (answer now came);
      changes = changes ++ handed (answer now came);
      state = (after now came).state;
      wide = (after now came).wide;
      cause = Some cause;
    })
leads_down id start now octets rest rest' replies changes came cause leads next down =
    let before = leads.whole (came ∷ []) [] (rest', next, ends_here (answer now came) cause (Leaves (after now came) rest' [] []) down) in
    (before.0, before.1, before.2 ∙ ap (behind replies changes) (last_one id now came cause (answer now came) down))

pub leads_to_end : (id : Addr) (start now : SessionFields) (octets rest : List ℕ) (replies : Replies) (changes : Deltas)
    → Leads id start octets now rest replies changes → IsProperPrefix rest
    → IsHeard id start octets rest (record { replies = replies; changes = changes; state = now.state; wide = now.wide; cause = None })
leads_to_end id start now octets rest replies changes leads prefix =
    let before = leads.whole [] rest (prefix, refl) in (
      before.0,
      before.1,
      before.2 ∙ ap (λ (x : Replies). record { replies = x; changes = changes ++ []; state = now.state; wide = now.wide; cause = None }) (append-nil replies)
          ∙ ap (λ (y : Deltas). record { replies = replies; changes = y; state = now.state; wide = now.wide; cause = None }) (append-nil changes),
    )

-- what a call says that heard this, left the session in this state, reading wide or not, and left these octets
abbrev pub OutcomeLeaving : Addr → SessionFields → List ℕ → List ℕ → HeardSoFar → State → Bool → Type 0
OutcomeLeaving id s octets left w state wide =
    (inputs : List Came) × Leaves s octets inputs left
    × (w.replies ≡ (heard id s inputs).replies) × (w.changes.items ≡ (heard id s inputs).changes)
    × (w.cause ≡ (heard id s inputs).cause) × (state ≡ (heard id s inputs).state) × (wide ≡ (heard id s inputs).wide)

-- what it says of the inputs alone
abbrev pub Outcome : Addr → SessionFields → List ℕ → HeardSoFar → State → Bool → Type 0
Outcome id s octets w state wide =
    (inputs : List Came) × Hears s octets inputs
    × (w.replies ≡ (heard id s inputs).replies) × (w.changes.items ≡ (heard id s inputs).changes)
    × (w.cause ≡ (heard id s inputs).cause) × (state ≡ (heard id s inputs).state) × (wide ≡ (heard id s inputs).wide)

abbrev seen_in : HeardSoFar → State → Bool → RouteHearing
seen_in w state wide =
    record { replies = w.replies; changes = w.changes.items; state = state; wide = wide; cause = w.cause }

outcome : (id : Addr) (s : SessionFields) (octets left : List ℕ) (w : HeardSoFar) (state : State) (wide : Bool)
    → IsHeard id s octets left (seen_in w state wide) → OutcomeLeaving id s octets left w state wide
outcome id s octets left w state wide is = (
  is.0,
  is.1,
  sym (ap (λ (h : RouteHearing). h.replies) is.2),
  sym (ap (λ (h : RouteHearing). h.changes) is.2),
  sym (ap (λ (h : RouteHearing). h.cause) is.2),
  sym (ap (λ (h : RouteHearing). h.state) is.2),
  sym (ap (λ (h : RouteHearing). h.wide) is.2),
)

heard_as : (replies replies' : Replies) (changes changes' : Deltas) (state state' : State) (wide wide' : Bool) (cause cause' : Option Cause)
    → replies ≡ replies' → changes ≡ changes' → state ≡ state' → wide ≡ wide' → cause ≡ cause'
    → (let h : RouteHearing = record { replies = replies; changes = changes; state = state; wide = wide; cause = cause } in h)
    ≡ record { replies = replies'; changes = changes'; state = state'; wide = wide'; cause = cause' }
heard_as replies replies' changes changes' state state' wide wide' cause cause' r c s n w =
    λ i. record { replies = r i; changes = c i; state = s i; wide = n i; cause = w i }

-- one step of hearing
pub record HearingStep (id : Addr) (start now now' : SessionFields) (octets rest rest' : List ℕ) (old new : HeardSoFar) : Type 0 where
  pub leads : Leads id start octets now rest old.replies old.changes.items
  pub event : SessionEvent
  pub takes : TakesNext now rest now' event rest'
  pub adds : IsAdded now.asn id (happening_of event) old new

some_cause : (o : Option Cause) → is_some o ≡ true → (cause : Cause) × (o ≡ Some cause)
some_cause (Some cause) is = (cause, refl)
some_cause None is = absurd cc

pub no_cause : (o : Option Cause) → is_some o ≡ false → o ≡ None
no_cause (Some cause) is = absurd cc
no_cause None is = refl

module _ (id : Addr) (start now now' : SessionFields) (octets rest rest' : List ℕ) (old new : HeardSoFar)
    (s : HearingStep id start now now' octets rest rest' old new) where
  abbrev said : Happening
  said = answer now s.takes.came

  new_replies : old.replies ++ replied now.asn id said ≡ new.replies
  new_replies =
      ap (λ (h : Happening). old.replies ++ replied now.asn id h) (sym s.takes.happens) ∙ sym s.adds.replies

  new_changes : old.changes.items ++ handed said ≡ new.changes.items
  new_changes = ap (λ (h : Happening). old.changes.items ++ handed h) (sym s.takes.happens) ∙ sym s.adds.changes

  new_cause : cause_of said ≡ new.cause
  new_cause = ap cause_of (sym s.takes.happens) ∙ sym s.adds.cause

  pub goes_down : is_some new.cause ≡ true → OutcomeLeaving id start octets [] new now'.state now'.wide
  goes_down is =
      let why = some_cause new.cause is in
      let down = leads_down id start now octets rest rest' old.replies old.changes.items s.takes.came why.0 s.leads s.takes.next
      (new_cause ∙ why.1) in
      outcome id start octets [] new now'.state now'.wide (
        down.0,
        down.1,
        down.2 ∙ heard_as _ _ _ _ _ _ _ _ _ _ new_replies new_changes (sym (ap (λ (x : SessionFields). x.state) s.takes.state))
            (sym (ap (λ (x : SessionFields). x.wide) s.takes.state)) (sym why.1),
      )

  pub stays_up : is_some new.cause ≡ false → Leads id start octets now' rest' new.replies new.changes.items
  stays_up is =
      let on = leads_on id start now octets rest rest' old.replies old.changes.items s.takes.came s.leads s.takes.next
      (new_cause ∙ no_cause new.cause is) in
      let first : Leads id start octets now' rest' (old.replies ++ replied now.asn id said) (old.changes.items ++ handed said) =
      subst (λ (x : SessionFields). Leads id start octets x rest' (old.replies ++ replied now.asn id said)
      (old.changes.items ++ handed said)) (sym s.takes.state) on in
      let second : Leads id start octets now' rest' new.replies (old.changes.items ++ handed said) =
      subst (λ (x : Replies). Leads id start octets now' rest' x (old.changes.items ++ handed said)) new_replies first in
      subst (λ (x : Deltas). Leads id start octets now' rest' new.replies x) new_changes second

pub ends : (id : Addr) (start now : SessionFields) (octets rest : List ℕ) (w : HeardSoFar) (state : State) (wide : Bool)
    → Leads id start octets now rest w.replies w.changes.items → IsProperPrefix rest → w.cause ≡ None → now.state ≡ state
    → now.wide ≡ wide → OutcomeLeaving id start octets rest w state wide
ends id start now octets rest w state wide leads prefix up is reads =
    let all = leads_to_end id start now octets rest w.replies w.changes.items leads prefix in
    outcome id start octets rest w state wide (all.0, all.1, all.2 ∙ heard_as _ _ _ _ _ _ _ _ _ _ refl refl is reads (sym up))
