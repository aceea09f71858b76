-- What is taken of the answer of `diff` is as it promises.
use Rattle.std.proofs.Common.{◌≡◌, ◌≢◌, ◌↔◌, ◌⊎◌, ℕ, true, List, [], ◌++◌, Option, Some, None, Result, Ok, Err, inl, refl, sym, ap, subst, ◌∙◌}
use Rattle.std.specs.Prelude.{IfOk}
use Rattle.std.proofs.lemmas.List.{append-nil}
use Rattle.ov_io.specs.Inputs.{WasReadWhole}
use Rattle.compile_answers.specs.Answers.{AreReadAs, DocumentAnswer, input_of}
use Rattle.compile_answers.specs.declared.unfit.Reception.TheVariants as Received
use Rattle.std.specs.Io.KnownBytes.{Appends}
use Rattle.config_types.specs.Form.{has_config_form}
use Rattle.config_check.specs.Checked.{Checked}
use Rattle.config_check.specs.Rules.{first_broken}
use Rattle.inspect_answers.specs.Changes.{IsValidIn, TookDifferences}
use Rattle.inspect_changes.specs.DifferenceLines.{lists_text}
use Rattle.inspect_json.specs.ChangeLines.{lists_in}
use Rattle.inspect_json.specs.declared.form.Form.{Form}
use Rattle.inspect_answers.specs.Differences.{SaysWhether, Tells}
use Rattle.inspect_changes.specs.Fates.{all_differences}
use Rattle.inspect_changes.specs.Objects.{gone}
use Rattle.inspect_answers.specs.TwoRuns.{IsEndOf, OfBoth, status_found, which_found}
use Rattle.inspect_answers.specs.declared.comparing.Ending.{Ending}
use Rattle.inspect_answers.specs.declared.diffing.Comparison.{Comparison}
use Rattle.inspect_answers.specs.declared.diffing.Comparison.TheVariants.{Same, Differs, UnfitBefore, UnfitAfter}
use Rattle.inspect_answers.specs.declared.top.Status.TheVariants as Ended
use Rattle.inspect_changes.proofs.WhatWent.{gone_is, is_gone}
use Rattle.inspect_json.proofs.ReadBack.{came_reads, difference_reads, went_reads}
use Rattle.inspect_changes.proofs.Throughout.{exact, one_line, told}
use Rattle.inspect_answers.proofs.LineSizes.{each_difference, object_sized}

alike : (found : Comparison) (text : List ℕ) → SaysWhether found text → (status_found found ≡ Ended.Done) ↔ (text ≡ [])
alike Same text h = ((λ e. h), (λ e. refl))
alike Differs text h = ((λ e. absurd cc), (λ e. absurd (h e)))
alike (UnfitBefore r) text h = absurd h
alike (UnfitAfter r) text h = absurd h

otherwise : (found : Comparison) (text : List ℕ) → SaysWhether found text → (status_found found ≡ Ended.Differs) ↔ (text ≢ [])
otherwise Same text h = ((λ e. absurd cc), (λ n. absurd (n h)))
otherwise Differs text h = ((λ e. h), (λ n. refl))
otherwise (UnfitBefore r) text h = absurd h
otherwise (UnfitAfter r) text h = absurd h

-- a document of a valid configuration of the written form
pub valid_in : (octets : List ℕ) (v : Checked) → AreReadAs octets (input_of v) → has_config_form v.config ≡ true → first_broken v.topology v.config ≡ None
    → IsValidIn octets v
valid_in octets v read form valid = record { written = (read.value, read.json, read.is); form = form; valid = valid }

pub took : (form : Form) (found : Comparison) (v w : Checked) (first second : List ℕ) (old new : Option (List ℕ)) → IsValidIn first v → IsValidIn second w
    → SaysWhether found (lists_text (gone v.config w.config) (gone w.config v.config) (all_differences v.config w.config))
    → Appends old new (lists_in form v.config w.config (gone v.config w.config) (gone w.config v.config) (all_differences v.config w.config))
    → TookDifferences form (status_found found) first second old new
took form found v w first second old new read_first read_second says taken =
    let c = v.config in
    let d = w.config in
    let text : List ℕ = lists_text (gone c d) (gone d c) (all_differences c d) in
    record {
      before = v;
      after = w;
      before_read = read_first;
      after_read = read_second;
      went = gone c d;
      came = gone d c;
      lines = all_differences c d;
      taken = taken;
      went_exact = λ o. (gone_is c d o, is_gone c d o);
      came_exact = λ o. (gone_is d c o, is_gone d c o);
      exact = λ p a b number g none. exact c d p a b number w.topology read_second.form read_second.valid g none;
      told = λ p a b number x g none line. told c d p a b number w.topology read_second.form read_second.valid g none x line;
      apart = λ from to t x y tuple on_x on_y. one_line v.topology w.topology c d from to t x y read_first.valid read_second.valid tuple on_x on_y;
      alike = alike found text says;
      otherwise = otherwise found text says;
      went_reads = λ o at. went_reads c o read_first.form (object_sized c d o read_first.form at);
      came_reads = λ o at. came_reads d o read_second.form (object_sized d c o read_second.form at);
      reads = λ x at. difference_reads c d x read_first.form read_second.form
          (each_difference v.topology w.topology c d read_first.form read_second.form read_first.valid read_second.valid x at);
    }

-- what is promised of an answer is promised of one that has something to it
pub answered : {E : Type 0} (r : Result Comparison E) (Promise Is : Comparison → Type 0) → IfOk r Promise → IfOk r (λ found. Is found → Promise found)
answered (Ok found) Promise Is h = λ is. h
answered (Err e) Promise Is h = tt

-- the status that tells what two documents are found to be is that of the answer
ends : (found : Comparison) (answer : DocumentAnswer) → Tells found answer → IsEndOf (status_found found) answer
ends Same answer h = h
ends Differs answer h = h
ends (UnfitBefore Received.Good) answer h = absurd (h.1 refl)
ends (UnfitBefore Received.NotJson) answer h = h.0
ends (UnfitBefore Received.BadDocument) answer h = h.0
ends (UnfitBefore Received.Refused) answer h = h.0
ends (UnfitAfter Received.Good) answer h = absurd (h.1 refl)
ends (UnfitAfter Received.NotJson) answer h = h.0
ends (UnfitAfter Received.BadDocument) answer h = h.0
ends (UnfitAfter Received.Refused) answer h = h.0

pub completes : (found : Comparison) (ending : Ending) (answer : DocumentAnswer)
    → ending ≡ record { status = status_found found; which = which_found found } → Tells found answer
    → IsEndOf ending.status answer ⊎ (ending.status ≡ Ended.NoMemory)
completes found ending answer is tells = inl (subst (λ (e : Ending). IsEndOf e.status answer) (sym is) (ends found answer tells))

-- what was read whole is all that a source held
was_all : (held : List ℕ) (left : Option (List ℕ)) (octets : List ℕ) → WasReadWhole (Some held) left octets → octets ≡ held
was_all held None octets whole = absurd whole.consumed
was_all held (Some rest) octets whole = sym (whole.consumed ∙ ap (λ (t : List ℕ). octets ++ t) whole.ended ∙ append-nil octets)

pub of_both : (held other left left' : Option (List ℕ)) (first second : List ℕ) (Fact : List ℕ → List ℕ → Type 0) → WasReadWhole held left first
    → WasReadWhole other left' second → Fact first second → OfBoth held other Fact
of_both None other left left' first second Fact one two h = tt
of_both (Some xs) None left left' first second Fact one two h = tt
of_both (Some xs) (Some ys) left left' first second Fact one two h =
    subst (λ (t : List ℕ). Fact t ys) (was_all xs left first one) (subst (λ (t : List ℕ). Fact first t) (was_all ys left' second two) h)
