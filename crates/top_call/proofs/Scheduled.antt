-- The text of a schedule, event by event.
use Rattle.std.proofs.Common.{◌≡◌, ℕ, suc, ◌+◌, List, [], ◌∷◌, ◌++◌, map, length, Option, sym, ap, subst, ◌∙◌, arith}
use Rattle.std.proofs.lemmas.List.{append_assoc, append-nil}
use Rattle.config_check.specs.Checked.{Checked}
use Rattle.config_types.specs.declared.event.Event.{Event}
use Rattle.net_machine.specs.MachineLaws.Refusing.{TiedNetwork, after_tied, next_tied, tied_start}
use Rattle.machine_model.specs.Events.{event_of}
use Rattle.net_machine.specs.RunningNodes.Stands.{message_size}
use Rattle.ov_io.specs.Inputs.{TookFront}
use Rattle.ov_io.specs.Pieces.{IsOnItsWay}
use Rattle.report.specs.Answers.{tied_answer_lines}
use Rattle.net_machine.specs.MachineMomentLaws.Runs.{answer_tied, run_tied, tied_moment}
use Rattle.top_call.specs.Schedules.{lines_from, run_text}
use Rattle.compile_answers.proofs.Ways.{front_first, front_then, way_then}

-- the lines of events from a state, the first with a number
abbrev lines_at : ℕ → TiedNetwork → List Event → List ℕ
lines_at n s es = lines_from n es (run_tied message_size s (map event_of es))

abbrev line_at : ℕ → TiedNetwork → Event → List ℕ
line_at n s e = tied_answer_lines n e (answer_tied s (event_of e))

split : (ys rest : List Event) (n : ℕ) (s : TiedNetwork)
    → lines_at n s (ys ++ rest) ≡ lines_at n s ys ++ lines_at (n + length ys) (after_tied message_size s (map event_of ys)) rest
split [] rest n s = ap (λ k. lines_at k s rest) (same n)
  where
    same : (n : ℕ) → n ≡ n + 0
    same n = omega arith
split (y ∷ ys) rest n s =
    let s' = next_tied message_size s (event_of y) in
    let more = after_tied message_size s' (map event_of ys) in
    ap (λ t. line_at n s y ++ t) (split ys rest (n + 1) s'
    ∙ ap (λ k. lines_at (n + 1) s' ys ++ lines_at k more rest) (shifted (length ys)))
    ∙ sym (append_assoc (line_at n s y) (lines_at (n + 1) s' ys) (lines_at (n + suc (length ys)) more rest))
  where
    shifted : (k : ℕ) → (n + 1) + k ≡ n + suc k
    shifted k = omega arith

-- the text of a schedule is that of its first events, and then the line of the next, and more
text_goes_on : (x : Checked) (ys : List Event) (e : Event) (rest : List Event)
    → run_text x (ys ++ e ∷ rest)
    ≡ (run_text x ys ++ line_at (length ys + 1) (tied_moment x ys) e) ++ lines_at (length ys + 1 + 1) (next_tied message_size (tied_moment x ys) (event_of e)) rest
unfolding run_text
text_goes_on x ys e rest =
    split ys (e ∷ rest) 1 (tied_start x)
    ∙ ap (λ k. run_text x ys ++ lines_at k (tied_moment x ys) (e ∷ rest)) (next_number (length ys))
    ∙ sym (append_assoc (run_text x ys) (line_at (length ys + 1) (tied_moment x ys) e) (lines_at (length ys + 1 + 1) (next_tied message_size (tied_moment x ys) (event_of e)) rest))
  where
    next_number : (k : ℕ) → 1 + k ≡ k + 1
    next_number k = omega arith

text_of_one_more : (x : Checked) (ys : List Event) (e : Event)
    → run_text x (ys ++ e ∷ []) ≡ run_text x ys ++ line_at (length ys + 1) (tied_moment x ys) e
text_of_one_more x ys e =
    text_goes_on x ys e [] ∙ append-nil (run_text x ys ++ line_at (length ys + 1) (tied_moment x ys) e)

-- the lines of the first events are on their way, and then that of the next
pub way_steps : (old mid new : Option (List ℕ)) (before after : List ℕ) (x o : Checked) (ys es : List Event) (e : Event)
    → o ≡ x → es ≡ ys → IsOnItsWay old mid before [] (run_text x ys)
    → IsOnItsWay mid new after [] (before ++ tied_answer_lines (length es + 1) e (answer_tied (tied_moment o es) (event_of e)))
    → IsOnItsWay old new after [] (run_text x (ys ++ e ∷ []))
way_steps old mid new before after x o ys es e same events way on =
    subst (λ t. IsOnItsWay old new after [] t) (sym (text_of_one_more x ys e))
    (way_then old mid new [] before after (run_text x ys) (line_at (length ys + 1) (tied_moment x ys) e) way
    (subst (λ es. IsOnItsWay mid new after [] (before ++ line_at (length es + 1) (tied_moment x es) e)) events
    (subst (λ o. IsOnItsWay mid new after [] (before ++ line_at (length es + 1) (tied_moment o es) e)) same on)))

-- or a front of it
pub front_steps : (old mid new : Option (List ℕ)) (before : List ℕ) (x o : Checked) (ys es : List Event) (e : Event) (rest all : List Event)
    → o ≡ x → es ≡ ys → ys ++ e ∷ rest ≡ all → IsOnItsWay old mid before [] (run_text x ys)
    → TookFront mid new (before ++ tied_answer_lines (length es + 1) e (answer_tied (tied_moment o es) (event_of e)))
    → TookFront old new (run_text x all)
front_steps old mid new before x o ys es e rest all same events is way stop =
    let line = line_at (length ys + 1) (tied_moment x ys) e in
    let more = lines_at (length ys + 1 + 1) (next_tied message_size (tied_moment x ys) (event_of e)) rest in
    subst (λ t. TookFront old new t) (sym (text_goes_on x ys e rest) ∙ ap (run_text x) is)
    (front_first old new [] (run_text x ys ++ line) more
    (front_then old mid new [] before (run_text x ys) line way
    (subst (λ es. TookFront mid new (before ++ line_at (length es + 1) (tied_moment x es) e)) events
    (subst (λ o. TookFront mid new (before ++ line_at (length es + 1) (tied_moment o es) e)) same stop))))

-- where all was taken, its text is that of all
pub way_of_all : (old new : Option (List ℕ)) (gathered : List ℕ) (x : Checked) {ys all : List Event} → ys ≡ all
    → IsOnItsWay old new gathered [] (run_text x ys) → IsOnItsWay old new gathered [] (run_text x all)
way_of_all old new gathered x whole way = subst (λ es. IsOnItsWay old new gathered [] (run_text x es)) whole way
