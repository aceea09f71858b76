-- The counts of a schedule are those of its answers.
use Rattle.std.specs.Prelude.{◌≡◌, ◌≤◌, ◌==◌, ℕ, zero, suc, ◌+◌, Bool, true, false, not, List, [], ◌∷◌, ◌++◌, map, take, length}
use Rattle.std.specs.Prelude.{slice_get, is_some, if◌then◌else◌}
use Rattle.std.specs.List.{cons_option, filter, filter_map}
use Rattle.std.specs.declared.option.Option.{Option}
use Rattle.std.specs.declared.option.Option.TheVariants.{Some, None}
use Rattle.std.proofs.Common.{refl, sym, ap, ◌∙◌, arith}
use Rattle.ov_types.specs.declared.packet.Outcome.{Outcome}
use Rattle.ov_types.specs.declared.packet.Outcome.TheVariants.{Delivered, Dropped}
use Rattle.ov_types.specs.declared.packet.Packet.{Packet}
use Rattle.config_check.specs.Checked.{Checked}
use Rattle.config_check.specs.Edits.{edit_fault}
use Rattle.config_check.specs.declared.edits.EditFault.{EditFault}
use Rattle.config_types.specs.declared.event.Event.{Event}
use Rattle.config_types.specs.declared.event.Event.TheVariants as written
use Rattle.reach_plain.specs.Reachability.{reachability}
use Rattle.route_targets.specs.Forwarding.{forwarding}
use Rattle.schedule_script.specs.declared.breaking.Tie.{Tie}
use Rattle.schedule_script.specs.declared.answer.Answer.TheVariants.{Did, Idle, Shown, Traced}
use Rattle.net_machine.specs.MachineLaws.Refusing.{TiedNetwork, after_tied, next_tied, tied_start}
use Rattle.machine_model.specs.Session.{Session}
use Rattle.machine_model.specs.Network.{MachineState}
use Rattle.machine_model.specs.Setup.{checked}
use Rattle.machine_model.specs.Steps.{in_flight, is_broken, may_connect, session_of}
use Rattle.machine_model.specs.Events.{edit_answer, event_of, forwarders, is_node, next, shown, unless}
use Rattle.net_machine.specs.RunningNodes.Stands.{message_size}
use Rattle.schedule_script.specs.declared.tied_answer.TiedAnswer.{TiedAnswer}
use Rattle.schedule_script.specs.declared.tied_answer.TiedAnswer.TheVariants.{Answered}
use Rattle.net_machine.specs.MachineMomentLaws.Runs.{answer_tied, answers, run_tied, tie_broken, unless_tied}
use Rattle.top_call.specs.declared.tally.Tally.{Tally}
use Rattle.top_call.specs.Counts.{CountsAnswers, is_delivery, is_trace, rounds_of}
use Rattle.top_call.specs.Tallies.{counted, is_delivered, nothing, one_if, same_outcome, tally, tally_from}
use Rattle.top_call.proofs.Sameness.{same_is_one}
use Rattle.top_call.proofs.Counting.{one_at_most, nothing_more}

-- ---- an answer that is neither that of a settle nor that of a trace
pub record IsPlain (answer : TiedAnswer) : Type 0 where
  pub delivery : is_delivery answer ≡ false
  pub rounds : rounds_of answer ≡ None

plain_unless : (idle : Bool) → IsPlain (Answered (unless idle))
plain_unless true = record { delivery = refl; rounds = refl }
plain_unless false = record { delivery = refl; rounds = refl }

plain_edit : (broken : Option Tie) (fault : Option EditFault) → IsPlain (unless_tied broken (edit_answer fault))
plain_edit (Some tie) fault = record { delivery = refl; rounds = refl }
plain_edit None None = record { delivery = refl; rounds = refl }
plain_edit None (Some f) = record { delivery = refl; rounds = refl }

plain_connect : (o : Option Session)
    → IsPlain (Answered (elim o [ Some s ↦ unless (not (may_connect s)) | None ↦ Idle ]))
plain_connect None = record { delivery = refl; rounds = refl }
plain_connect (Some s) = plain_unless (not (may_connect s))

plain_show : (w : MachineState) (name : List ℕ) (is : Bool)
    → IsPlain (Answered (if is then Shown (shown w name) else Idle))
plain_show w name true = record { delivery = refl; rounds = refl }
plain_show w name false = record { delivery = refl; rounds = refl }

-- ---- one event
-- the rounds of the last two settles, with those of an answer
abbrev later : ℕ × ℕ → Option ℕ → ℕ × ℕ
later two None = two
later two (Some n) = (two.1, n)

record CountsOne (t : Tally) (answer : TiedAnswer) (t' : Tally) : Type 0 where
  delivered : t'.delivered ≡ t.delivered + one_if (is_delivery answer)
  rounds : t'.rounds ≡ later t.rounds (rounds_of answer)

stays : (t : Tally) (answer : TiedAnswer) → IsPlain answer → CountsOne t answer t
stays t answer plain = record {
  delivered = nothing_more t.delivered ∙ ap (λ b. t.delivered + one_if b) (sym plain.delivery);
  rounds = ap (λ o. later t.rounds o) (sym plain.rounds);
}

delivery_is : (o : Outcome) → is_delivered o ≡ is_delivery (Answered (Traced o))
delivery_is (Delivered port services) = refl
delivery_is (Dropped why) = refl

counts_one : (y : Checked) (s : TiedNetwork) (e : Event) (t : Tally)
    → CountsOne t (answer_tied s (event_of e)) (counted y e (answer_tied s (event_of e)) t)
counts_one y s (written.Edit e) t =
    stays t _ (plain_edit (tie_broken s (event_of (written.Edit e))) (edit_fault (checked s.network.setup) e))
counts_one y s (written.Deliver from to n) t = stays t _ (plain_unless (in_flight s.network from to == 0))
counts_one y s (written.DeliverOctets from to n) t = stays t _ (plain_unless (in_flight s.network from to == 0))
counts_one y s (written.Lose a b) t = stays t _ (plain_unless (is_broken s.network a b))
counts_one y s (written.Connect a b) t = stays t _ (plain_connect (session_of s.network a b))
counts_one y s (written.Restart name) t = stays t _ (plain_unless (not (is_node s.network name)))
counts_one y s written.Round t = stays t (Answered Did) (record { delivery = refl; rounds = refl })
counts_one y s written.Settle t = record { delivered = nothing_more t.delivered; rounds = refl }
counts_one y s (written.Show name) t = stays t _ (plain_show s.network name (is_node s.network name))
counts_one y s (written.Trace p) t = record {
  delivered = ap (λ b. t.delivered + one_if b) (delivery_is (forwarding (forwarders s.network) p));
  rounds = refl;
}
counts_one y s (written.Break from to n) t = stays t _ (plain_unless (not (is_some (session_of s.network from to))))

-- ---- what was delivered
one_delivered : (b : Bool) (x : TiedAnswer) (xs : List TiedAnswer) → is_delivery x ≡ b
    → one_if b + length (filter is_delivery xs) ≡ length (filter is_delivery (x ∷ xs))
one_delivered true x xs is = rw is (omega arith)
one_delivered false x xs is = rw is (omega arith)

sums : (a b c d e : ℕ) → a ≡ b + c → c + d ≡ e → a + d ≡ b + e
sums a b c d e one more = omega (arith, one, more)

deliveries : (s : TiedNetwork) (es : List Event) (t : Tally)
    → (tally_from s es t).delivered ≡ t.delivered + length (filter is_delivery (run_tied message_size s (map event_of es)))
deliveries s [] t = nothing_more t.delivered
deliveries s (e ∷ es) t =
    let s' = next_tied message_size s (event_of e) in
    let answer = answer_tied s (event_of e) in
    let t' = counted (checked s'.network.setup) e answer t in
    let rest = run_tied message_size s' (map event_of es) in
    deliveries s' es t'
    ∙ sums t'.delivered t.delivered (one_if (is_delivery answer)) (length (filter is_delivery rest))
    (length (filter is_delivery (answer ∷ rest)))
    (counts_one (checked s'.network.setup) s e t).delivered (one_delivered (is_delivery answer) answer rest refl)

-- ---- the rounds of the last two settles
abbrev all_later : ℕ × ℕ → List ℕ → ℕ × ℕ
all_later two [] = two
all_later two (n ∷ ns) = all_later (two.1, n) ns

one_later : (two : ℕ × ℕ) (o : Option ℕ) (ns : List ℕ) → all_later (later two o) ns ≡ all_later two (cons_option o ns)
one_later two None ns = refl
one_later two (Some n) ns = refl

rounds_so_far : (s : TiedNetwork) (es : List Event) (t : Tally)
    → (tally_from s es t).rounds ≡ all_later t.rounds (filter_map rounds_of (run_tied message_size s (map event_of es)))
rounds_so_far s [] t = refl
rounds_so_far s (e ∷ es) t =
    let s' = next_tied message_size s (event_of e) in
    let answer = answer_tied s (event_of e) in
    let rest = filter_map rounds_of (run_tied message_size s' (map event_of es)) in
    rounds_so_far s' es (counted (checked s'.network.setup) e answer t)
    ∙ ap (λ two. all_later two rest) (counts_one (checked s'.network.setup) s e t).rounds
    ∙ one_later t.rounds (rounds_of answer) rest

the_last_two : (two : ℕ × ℕ) (before : List ℕ) (one other : ℕ) → all_later two (before ++ one ∷ other ∷ []) ≡ (one, other)
the_last_two two [] one other = refl
the_last_two two (n ∷ ns) one other = the_last_two (two.1, n) ns one other

-- ---- what agrees
-- from a state, each packet that was traced has the outcome of the configuration of its moment
abbrev AgreesFrom : TiedNetwork → List Event → Type 0
AgreesFrom s es = (place : ℕ) (p : Packet) (o : Outcome) → slice_get es place ≡ Some (written.Trace p)
    → slice_get (run_tied message_size s (map event_of es)) place ≡ Some (Answered (Traced o))
    → o ≡ reachability (after_tied message_size s (map event_of (take place es))).network.setup.config p

-- whether an event is the trace of a packet, and its outcome is that of the configuration
abbrev agrees_here : TiedNetwork → Event → Bool
agrees_here s (written.Trace p) = same_outcome (forwarding (forwarders s.network) p) (reachability s.network.setup.config p)
agrees_here s e = false

agreed_one : (s : TiedNetwork) (e : Event) (t : Tally)
    → (counted (checked (next_tied message_size s (event_of e)).network.setup) e (answer_tied s (event_of e)) t).agreed ≡ t.agreed + one_if (agrees_here s e)
unfolding next
agreed_one s (written.Edit e) t = nothing_more t.agreed
agreed_one s (written.Deliver from to n) t = nothing_more t.agreed
agreed_one s (written.DeliverOctets from to n) t = nothing_more t.agreed
agreed_one s (written.Lose a b) t = nothing_more t.agreed
agreed_one s (written.Connect a b) t = nothing_more t.agreed
agreed_one s (written.Restart name) t = nothing_more t.agreed
agreed_one s written.Round t = nothing_more t.agreed
agreed_one s written.Settle t = nothing_more t.agreed
agreed_one s (written.Show name) t = nothing_more t.agreed
agreed_one s (written.Trace p) t = refl
agreed_one s (written.Break from to n) t = nothing_more t.agreed

traces_at_most : (s : TiedNetwork) (e : Event) → one_if (agrees_here s e) ≤ one_if (is_trace e)
traces_at_most s (written.Edit e) = omega arith
traces_at_most s (written.Deliver from to n) = omega arith
traces_at_most s (written.DeliverOctets from to n) = omega arith
traces_at_most s (written.Lose a b) = omega arith
traces_at_most s (written.Connect a b) = omega arith
traces_at_most s (written.Restart name) = omega arith
traces_at_most s written.Round = omega arith
traces_at_most s written.Settle = omega arith
traces_at_most s (written.Show name) = omega arith
traces_at_most s (written.Trace p) = one_at_most (same_outcome (forwarding (forwarders s.network) p) (reachability s.network.setup.config p))
traces_at_most s (written.Break from to n) = omega arith

one_traced : (b : Bool) (e : Event) (es : List Event) → is_trace e ≡ b
    → length (filter is_trace (e ∷ es)) ≡ one_if b + length (filter is_trace es)
one_traced true e es is = rw is (omega arith)
one_traced false e es is = rw is (omega arith)

traces : List Event → ℕ
traces es = length (filter is_trace es)

traces_more : (e : Event) (es : List Event) → traces (e ∷ es) ≡ one_if (is_trace e) + traces es
unfolding traces
traces_more e es = one_traced (is_trace e) e es refl

agreed_at_most : (s : TiedNetwork) (es : List Event) (t : Tally) → (tally_from s es t).agreed ≤ t.agreed + traces es
agreed_at_most s [] t = omega arith
agreed_at_most s (e ∷ es) t =
    let s' = next_tied message_size s (event_of e) in
    let t' = counted (checked s'.network.setup) e (answer_tied s (event_of e)) t in
    let one = agreed_one s e t in
    let few = traces_at_most s e in
    let more = agreed_at_most s' es t' in
    let sum = traces_more e es in
    omega (arith, one, few, more, sum)

-- an event agrees, where it is a trace
abbrev AgreesHere : TiedNetwork → Event → Type 0
AgreesHere s e = (p : Packet) (o : Outcome) → Some e ≡ Some (written.Trace p)
    → Some (answer_tied s (event_of e)) ≡ Some (Answered (Traced o)) → o ≡ reachability s.network.setup.config p

is_one : (b : Bool) → 1 ≤ one_if b → b ≡ true
is_one true h = refl
is_one false h = absurd (omega (arith, h))

here : (s : TiedNetwork) (e : Event) → one_if (is_trace e) ≤ one_if (agrees_here s e) → AgreesHere s e
here s (written.Edit e) counts p o is answered = absurd cc
here s (written.Deliver from to n) counts p o is answered = absurd cc
here s (written.DeliverOctets from to n) counts p o is answered = absurd cc
here s (written.Lose a b) counts p o is answered = absurd cc
here s (written.Connect a b) counts p o is answered = absurd cc
here s (written.Restart name) counts p o is answered = absurd cc
here s written.Round counts p o is answered = absurd cc
here s written.Settle counts p o is answered = absurd cc
here s (written.Show name) counts p o is answered = absurd cc
here s (written.Trace q) counts p o is answered =
    let outcome = forwarding (forwarders s.network) q in
    let one : outcome ≡ reachability s.network.setup.config q =
    (same_is_one outcome (reachability s.network.setup.config q)).0
    (is_one (same_outcome outcome (reachability s.network.setup.config q)) counts) in
    let same : q ≡ p = cc in
    let told : outcome ≡ o = cc in
    sym told ∙ one ∙ ap (reachability s.network.setup.config) same
here s (written.Break from to n) counts p o is answered = absurd cc

counts_here : (s : TiedNetwork) (e : Event) → AgreesHere s e → one_if (agrees_here s e) ≡ one_if (is_trace e)
counts_here s (written.Edit e) agrees = refl
counts_here s (written.Deliver from to n) agrees = refl
counts_here s (written.DeliverOctets from to n) agrees = refl
counts_here s (written.Lose a b) agrees = refl
counts_here s (written.Connect a b) agrees = refl
counts_here s (written.Restart name) agrees = refl
counts_here s written.Round agrees = refl
counts_here s written.Settle agrees = refl
counts_here s (written.Show name) agrees = refl
counts_here s (written.Trace p) agrees =
    let outcome = forwarding (forwarders s.network) p in
    ap one_if ((same_is_one outcome (reachability s.network.setup.config p)).1 (agrees p outcome refl refl))
counts_here s (written.Break from to n) agrees = refl

all_agree : (s : TiedNetwork) (es : List Event) (t : Tally) → (tally_from s es t).agreed ≡ t.agreed + traces es → AgreesFrom s es
all_agree s [] t counts place p o is answered = absurd cc
all_agree s (e ∷ es) t counts zero p o is answered =
    let s' = next_tied message_size s (event_of e) in
    let one = agreed_one s e t in
    let more = agreed_at_most s' es (counted (checked s'.network.setup) e (answer_tied s (event_of e)) t) in
    let sum = traces_more e es in
    here s e (omega (arith, one, more, sum, counts)) p o is answered
all_agree s (e ∷ es) t counts (suc place) p o is answered =
    let s' = next_tied message_size s (event_of e) in
    let t' = counted (checked s'.network.setup) e (answer_tied s (event_of e)) t in
    let one = agreed_one s e t in
    let few = traces_at_most s e in
    let more = agreed_at_most s' es t' in
    let sum = traces_more e es in
    all_agree s' es t' (omega (arith, one, few, more, sum, counts)) place p o is answered

all_count : (s : TiedNetwork) (es : List Event) (t : Tally) → AgreesFrom s es → (tally_from s es t).agreed ≡ t.agreed + traces es
unfolding traces
all_count s [] t agrees = nothing_more t.agreed
all_count s (e ∷ es) t agrees =
    let s' = next_tied message_size s (event_of e) in
    let t' = counted (checked s'.network.setup) e (answer_tied s (event_of e)) t in
    let one = agreed_one s e t in
    let same = counts_here s e (λ p o is answered. agrees zero p o is answered) in
    let more = all_count s' es t' (λ place p o is answered. agrees (suc place) p o is answered) in
    let sum = traces_more e es in
    omega (arith, one, same, more, sum)

-- ---- of a schedule
none_before : (n : ℕ) → 0 + n ≡ n
none_before n = omega arith

pub counts_answers : (x : Checked) (es : List Event) → CountsAnswers x es (tally x es)
unfolding tally traces
counts_answers x es = record {
  delivered = deliveries (tied_start x) es nothing ∙ none_before (length (filter is_delivery (answers x es)));
  agreed = (
    (λ counts place p o at.
        all_agree (tied_start x) es nothing (counts ∙ sym (none_before (traces es))) place p o at.event at.answer),
    (λ agrees.
        all_count (tied_start x) es nothing (λ place p o is answered.
        agrees place p o (record { event = is; answer = answered }))
        ∙ none_before (traces es)),
  );
  rounds = λ before one other is.
      rounds_so_far (tied_start x) es nothing ∙ ap (all_later (0, 0)) is ∙ the_last_two (0, 0) before one other;
}
