-- Counting on: over the events that follow others, and over traces in a settled network.
use Rattle.std.specs.Prelude.{◌≡◌, ◌≤◌, ℕ, suc, ◌+◌, Bool, true, false, List, [], ◌∷◌, ◌++◌, map, length}
use Rattle.std.proofs.Common.{refl, sym, ap, subst, ◌∙◌, arith}
use Rattle.ov_types.specs.declared.packet.Packet.{Packet}
use Rattle.config_types.specs.declared.event.Event.{Event}
use Rattle.config_types.specs.declared.event.Event.TheVariants.{Edit, Deliver, DeliverOctets, Lose, Connect, Restart, Round, Settle, Show, Trace, Break}
use Rattle.config_check.specs.Checked.{Checked}
use Rattle.schedule_script.specs.declared.answer.Answer.TheVariants.{Did, Idle, EditRefused, Rounds, Shown, Traced}
use Rattle.reach_plain.specs.Reachability.{reachability}
use Rattle.route_targets.specs.Forwarding.{forwarding}
use Rattle.net_machine.specs.MachineLaws.Refusing.{TiedNetwork, after_tied, next_tied, tied_start}
use Rattle.machine_model.specs.Events.{event_of, forwarders, next}
use Rattle.machine_model.specs.Setup.{checked}
use Rattle.net_machine.specs.RunningNodes.Stands.{message_size}
use Rattle.schedule_script.specs.declared.tied_answer.TiedAnswer.{TiedAnswer}
use Rattle.schedule_script.specs.declared.tied_answer.TiedAnswer.TheVariants.{Answered, EditTied}
use Rattle.net_machine.specs.MachineMomentLaws.Runs.{answer_tied, tied_moment}
use Rattle.net_machine.proofs.MachineMomentLaws.TiesKept.{tied_more}
use Rattle.top_call.specs.declared.tally.Tally.{Tally}
use Rattle.top_call.specs.Tallies.{counted, is_delivered, nothing, one_if, same_outcome, settled, tally, tally_from, traced}
use Rattle.top_call.proofs.Sameness.{outcome_self}

pub tally_more : (s : TiedNetwork) (es fs : List Event) (t : Tally)
    → tally_from s (es ++ fs) t ≡ tally_from (after_tied message_size s (map event_of es)) fs (tally_from s es t)
tally_more s [] fs t = refl
tally_more s (e ∷ es) fs t =
    let s' = next_tied message_size s (event_of e) in
    tally_more s' es fs (counted (checked s'.network.setup) e (answer_tied s (event_of e)) t)

pub nothing_more : (k : ℕ) → k ≡ k + 0
nothing_more k = omega arith

one_more : (k n : ℕ) → (k + 1) + n ≡ k + suc n
one_more k n = omega arith

-- where packets go as policies say, each of their traces agrees
pub traces_agree : (s : TiedNetwork)
    → ((p : Packet) → forwarding (forwarders s.network) p ≡ reachability s.network.setup.config p)
    → (ps : List Packet) (t : Tally) → (tally_from s (map Trace ps) t).agreed ≡ t.agreed + length ps
unfolding next
traces_agree s delivers [] t = nothing_more t.agreed
traces_agree s delivers (p ∷ ps) t =
    let c = s.network.setup.config in
    traces_agree (next_tied message_size s (event_of (Trace p))) delivers ps
    (counted (checked s.network.setup) (Trace p) (answer_tied s (event_of (Trace p))) t)
    ∙ ap (λ b. (t.agreed + one_if b) + length ps)
    (ap (λ o. same_outcome o (reachability c p)) (delivers p) ∙ outcome_self (reachability c p))
    ∙ one_more t.agreed (length ps)

-- ---- one event more
pub tally_one_more : (x : Checked) (ys : List Event) (e : Event)
    → tally x (ys ++ e ∷ [])
    ≡ counted (checked (tied_moment x (ys ++ e ∷ [])).network.setup) e (answer_tied (tied_moment x ys) (event_of e)) (tally x ys)
unfolding tally
tally_one_more x ys e =
    tally_more (tied_start x) ys (e ∷ []) nothing
    ∙ ap (λ (s : TiedNetwork). counted (checked s.network.setup) e (answer_tied (tied_moment x ys) (event_of e))
    (tally_from (tied_start x) ys nothing))
    (sym (tied_more x ys e))

-- so many packets at most were counted
pub record IsFew (t : Tally) (n : ℕ) : Type 0 where
  pub delivered : t.delivered ≤ n
  pub agreed : t.agreed ≤ n

pub one_at_most : (b : Bool) → one_if b ≤ 1
one_at_most true = omega arith
one_at_most false = omega arith

plain : (t : Tally) (n : ℕ) → IsFew t n → IsFew t (n + 1)
plain t n few = record { delivered = omega (arith, few.delivered); agreed = omega (arith, few.agreed) }

settled_few : (answer : TiedAnswer) (t : Tally) (n : ℕ) → IsFew t n → IsFew (settled answer t) (n + 1)
settled_few (Answered (Rounds rounds is)) t n few =
    record { delivered = omega (arith, few.delivered); agreed = omega (arith, few.agreed) }
settled_few (Answered Did) t n few = plain t n few
settled_few (Answered Idle) t n few = plain t n few
settled_few (Answered (EditRefused f)) t n few = plain t n few
settled_few (Answered (Shown rows)) t n few = plain t n few
settled_few (Answered (Traced o)) t n few = plain t n few
settled_few (EditTied tie) t n few = plain t n few

traced_few : (y : Checked) (p : Packet) (answer : TiedAnswer) (t : Tally) (n : ℕ) → IsFew t n
    → IsFew (traced y p answer t) (n + 1)
traced_few y p (Answered (Traced o)) t n few = record {
  delivered = omega (arith, few.delivered, one_at_most (is_delivered o));
  agreed = omega (arith, few.agreed, one_at_most (same_outcome o (reachability y.config p)));
}
traced_few y p (Answered Did) t n few = plain t n few
traced_few y p (Answered Idle) t n few = plain t n few
traced_few y p (Answered (EditRefused f)) t n few = plain t n few
traced_few y p (Answered (Shown rows)) t n few = plain t n few
traced_few y p (Answered (Rounds rounds is)) t n few = plain t n few
traced_few y p (EditTied tie) t n few = plain t n few

pub few_more : (y : Checked) (e : Event) (answer : TiedAnswer) (t : Tally) (n : ℕ) → IsFew t n → IsFew (counted y e answer t) (n + 1)
few_more y Settle answer t n few = settled_few answer t n few
few_more y (Trace p) answer t n few = traced_few y p answer t n few
few_more y (Edit d) answer t n few = plain t n few
few_more y (Deliver from to k) answer t n few = plain t n few
few_more y (DeliverOctets from to k) answer t n few = plain t n few
few_more y (Lose a b) answer t n few = plain t n few
few_more y (Connect a b) answer t n few = plain t n few
few_more y (Restart name) answer t n few = plain t n few
few_more y Round answer t n few = plain t n few
few_more y (Show name) answer t n few = plain t n few
few_more y (Break from to k) answer t n few = plain t n few

-- the count so far goes on, where the network's opening and events are those of the schedule so far
pub counted_on : (x o o' : Checked) (ys es es' : List Event) (e : Event) (t t' : Tally)
    → o ≡ x → o' ≡ x → es ≡ ys → es' ≡ ys ++ e ∷ [] → t ≡ tally x ys
    → t' ≡ counted (checked (tied_moment o' es').network.setup) e (answer_tied (tied_moment o es) (event_of e)) t
    → t' ≡ tally x (ys ++ e ∷ [])
counted_on x o o' ys es es' e t t' opened opens taken takes counts counts_on =
    let after : TiedNetwork → Checked = λ s. checked s.network.setup in
    counts_on
    ∙ ap (λ z. counted (after (tied_moment z es')) e (answer_tied (tied_moment o es) (event_of e)) t) opens
    ∙ ap (λ z. counted (after (tied_moment x z)) e (answer_tied (tied_moment o es) (event_of e)) t) takes
    ∙ ap (λ z. counted (after (tied_moment x (ys ++ e ∷ []))) e (answer_tied (tied_moment z es) (event_of e)) t) opened
    ∙ ap (λ z. counted (after (tied_moment x (ys ++ e ∷ []))) e (answer_tied (tied_moment x z) (event_of e)) t) taken
    ∙ ap (λ z. counted (after (tied_moment x (ys ++ e ∷ []))) e (answer_tied (tied_moment x ys) (event_of e)) z) counts
    ∙ sym (tally_one_more x ys e)

length_more : (ys : List Event) (e : Event) → length (ys ++ e ∷ []) ≡ length ys + 1
length_more [] e = refl
length_more (y ∷ ys) e = let more = length_more ys e in omega (arith, more)

pub few_on : (y : Checked) (e : Event) (answer : TiedAnswer) (t t' : Tally) (ys : List Event) → t' ≡ counted y e answer t
    → IsFew t (length ys) → IsFew t' (length (ys ++ e ∷ []))
few_on y e answer t t' ys counts few =
    subst (λ n. IsFew t' n) (sym (length_more ys e))
    (subst (λ t. IsFew t (length ys + 1)) (sym counts) (few_more y e answer t (length ys) few))
