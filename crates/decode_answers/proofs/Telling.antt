-- How a report is handed on, message by message.
use Rattle.std.proofs.Common.{◌≡◌, ◌==◌, ◌||◌, Bool, true, false, ℕ, List, [], ◌++◌, length, drop, Option, Some, None, refl, ap, sym, ◌∙◌, subst}
use Rattle.std.proofs.lemmas.List.{append_assoc, append-nil}
use Rattle.std.specs.Prelude.{OnOk, OnErr, Result, Ok, Err}
use Rattle.std.specs.Io.KnownBytes.{Appends}
use Rattle.ov_io.specs.Inputs.{TookFront}
use Rattle.ov_io.specs.Pieces.{IsOnItsWay, TookText, TookFrontOf}
use Rattle.ov_io.proofs.PieceLemmas.{way_begins, way_stays, way_ends, way_breaks, way_lengthens, way_goes_on, took_nothing}
use Rattle.bgp_wire.specs.Messages.{AreOctets}
use Rattle.bgp_wire.proofs.Octets.{AreOctets-drop}
use Rattle.decode_answers.specs.Decoding.{is_wide_open, IsReport, of_a_message}
use Rattle.decode_answers.specs.Reporting.{Progress, IsReportBehind, Moves, MovesOn, MovesAll}
use Rattle.decode_answers.specs.declared.decoding.First.{First}
use Rattle.decode_answers.proofs.Reports.{Leads, leads_first, leads_on, leads_to_end}
use Rattle.decode_answers.proofs.SomeReport.{some_report}

-- nothing was taken on the way to the first message, and there is a report
pub nothing_told : (wide : Bool) (old : Option (List ℕ)) (before octets : List ℕ) → AreOctets octets → TookFrontOf (IsReportBehind wide before octets) old old
nothing_told wide old before octets h =
    let some = some_report wide octets h in
    record {
      text = before ++ some.0;
      is = record { more = some.0; report = some.1; behind = refl };
      taken = took_nothing old (before ++ some.0);
    }

front_longer : (old new : Option (List ℕ)) (text more : List ℕ) → TookFront old new text → TookFront old new (text ++ more)
front_longer old new text more stop = way_breaks old old new [] text (text ++ more) more (text ++ more) (way_begins old [] (text ++ more)) refl stop

-- what is told of the first message is a front of a report
pub first_told : (wide : Bool) (old new : Option (List ℕ)) (before after octets : List ℕ) (found : Option First) → AreOctets octets → Progress wide octets before after found
    → TookFront old new after → TookFrontOf (IsReportBehind wide before octets) old new
first_told wide old new before after octets (Some first) h progress stop =
    let said = progress.told.said in
    let content = progress.content in
    let rest = some_report (wide || is_wide_open content) (drop first.count octets) (AreOctets-drop first.count octets h) in
    let joined : after ++ rest.0 ≡ before ++ (said ++ rest.0) =
    ap (λ (t : List ℕ). t ++ rest.0) progress.told.appended ∙ append_assoc before said rest.0 in
    record {
      text = before ++ (said ++ rest.0);
      is =
          record {
            more = said ++ rest.0;
            report = of_a_message said rest.0 content first.count progress.is_first.begins progress.told.says rest.1 refl;
            behind = refl;
          };
      taken = subst (λ (t : List ℕ). TookFront old new t) joined (front_longer old new after rest.0 stop);
    }
first_told wide old new before after octets None h progress stop =
    record { text = after; is = record { more = progress.text; report = progress.report; behind = progress.appended }; taken = stop }

-- what is told of the first message is handed on
pub first_moves : (wide : Bool) (old new : Option (List ℕ)) (before mid after octets : List ℕ) (found : Option First) → Progress wide octets before mid found
    → IsOnItsWay old new after [] mid → Moves wide octets old new before after found
first_moves wide old new before mid after octets (Some first) progress way =
    record {
      content = progress.content;
      said = progress.told.said;
      is_first = progress.is_first;
      says = progress.told.says;
      way = subst (λ (t : List ℕ). IsOnItsWay old new after [] t) progress.told.appended way;
    }
first_moves wide old new before mid after octets None progress way =
    record {
      text = progress.text;
      report = progress.report;
      way = subst (λ (t : List ℕ). IsOnItsWay old new after [] t) progress.appended way;
    }

-- what was told of the octets before the rest is on its way
pub record IsTold (octets : List ℕ) (wide : Bool) (rest : List ℕ) (old now : Option (List ℕ)) (gathered : List ℕ) : Type 0 where
  pub told : List ℕ
  pub leads : Leads octets wide rest told
  pub way : IsOnItsWay old now gathered [] told

pub told_none : (octets : List ℕ) (old : Option (List ℕ)) → IsTold octets false octets old old []
told_none octets old = record { told = []; leads = leads_first octets; way = way_stays old [] }

-- one message further
pub told_on : (octets : List ℕ) (wide : Bool) (rest behind : List ℕ) (old mid new : Option (List ℕ)) (before after : List ℕ) (first : First)
    → IsTold octets wide rest old mid before → MovesOn wide rest first mid new before after → behind ≡ drop first.count rest
    → IsTold octets first.wide behind old new after
told_on octets wide rest behind old mid new before after first so step is =
    let longer : IsOnItsWay old mid before step.said (so.told ++ step.said) = way_lengthens old mid before [] step.said so.told so.way in
    record {
      told = so.told ++ step.said;
      leads = leads_on octets wide rest behind so.told step.said first step.content is so.leads step.is_first step.says;
      way = way_goes_on old mid new before after step.said step.said [] (so.told ++ step.said) longer (sym (append-nil step.said)) step.way;
    }

-- the rest of the report makes it whole
pub told_all : (octets : List ℕ) (wide : Bool) (rest : List ℕ) (old mid new : Option (List ℕ)) (before after : List ℕ) → IsTold octets wide rest old mid before
    → MovesAll wide rest mid new before after → MovesAll false octets old new [] after
told_all octets wide rest old mid new before after so all =
    let longer : IsOnItsWay old mid before all.text (so.told ++ all.text) = way_lengthens old mid before [] all.text so.told so.way in
    record {
      text = so.told ++ all.text;
      report = so.leads all.text all.report;
      way = way_goes_on old mid new before after all.text all.text [] (so.told ++ all.text) longer (sym (append-nil all.text)) all.way;
    }

-- where nothing is left the report is whole
pub told_end : (octets : List ℕ) (wide : Bool) (rest : List ℕ) (old now : Option (List ℕ)) (gathered : List ℕ) → IsTold octets wide rest old now gathered
    → (length rest == 0) ≡ true → MovesAll false octets old now [] gathered
told_end octets wide rest old now gathered so none =
    record { text = so.told; report = leads_to_end octets wide rest so.told so.leads none; way = so.way }

-- what stops at a message leaves a front of the whole
pub told_stops : (octets : List ℕ) (wide : Bool) (rest : List ℕ) (old mid new : Option (List ℕ)) (before : List ℕ) → IsTold octets wide rest old mid before
    → TookFrontOf (IsReportBehind wide before rest) mid new → TookFrontOf (IsReport false octets) old new
told_stops octets wide rest old mid new before so stop =
    let more = stop.is.more in
    let longer : IsOnItsWay old mid before more (so.told ++ more) = way_lengthens old mid before [] more so.told so.way in
    let here : TookFront mid new (before ++ more) = subst (λ (t : List ℕ). TookFront mid new t) stop.is.behind stop.taken in
    record {
      text = so.told ++ more;
      is = so.leads more stop.is.report;
      taken = way_breaks old mid new before more more [] (so.told ++ more) longer (sym (append-nil more)) here;
    }

-- what is gathered at the end is written
pub end_written : (octets : List ℕ) (old mid new : Option (List ℕ)) (gathered : List ℕ) → MovesAll false octets old mid [] gathered
    → Appends mid new gathered → TookText (IsReport false octets) old new
end_written octets old mid new gathered all last =
    record { text = all.text; is = all.report; taken = way_ends old mid new gathered [] all.text all.way refl last }

pub end_stops : (octets : List ℕ) (old mid new : Option (List ℕ)) (gathered : List ℕ) → MovesAll false octets old mid [] gathered
    → TookFront mid new gathered → TookFrontOf (IsReport false octets) old new
end_stops octets old mid new gathered all stop =
    let here : TookFront mid new (gathered ++ []) = subst (λ (t : List ℕ). TookFront mid new t) (sym (append-nil gathered)) stop in
    record { text = all.text; is = all.report; taken = way_breaks old mid new gathered [] [] [] all.text all.way refl here }

-- what a step says of a message, or of all
pub moved_on : (wide : Bool) (octets : List ℕ) (old new : Option (List ℕ)) (before after : List ℕ) (first : First) (found : Option First) → found ≡ Some first
    → Moves wide octets old new before after found → MovesOn wide octets first old new before after
moved_on wide octets old new before after first found is moves = subst (λ (o : Option First). Moves wide octets old new before after o) is moves

pub moved_all : (wide : Bool) (octets : List ℕ) (old new : Option (List ℕ)) (before after : List ℕ) (found : Option First) → found ≡ None
    → Moves wide octets old new before after found → MovesAll wide octets old new before after
moved_all wide octets old new before after found is moves = subst (λ (o : Option First). Moves wide octets old new before after o) is moves

-- how the last write ends
pub report_whole : {E : Type 0} (r : Result Unit E) (octets : List ℕ) (old mid new : Option (List ℕ)) (gathered : List ℕ)
    → MovesAll false octets old mid [] gathered → OnOk r (Appends mid new gathered) → OnOk r (TookText (IsReport false octets) old new)
report_whole (Ok x) octets old mid new gathered all last = end_written octets old mid new gathered all last
report_whole (Err e) octets old mid new gathered all last = tt

pub report_cut : {E : Type 0} (r : Result Unit E) (octets : List ℕ) (old mid new : Option (List ℕ)) (gathered : List ℕ)
    → MovesAll false octets old mid [] gathered → OnErr r (TookFront mid new gathered) → OnErr r (TookFrontOf (IsReport false octets) old new)
report_cut (Ok x) octets old mid new gathered all stop = tt
report_cut (Err e) octets old mid new gathered all stop = end_stops octets old mid new gathered all stop

-- nothing was taken, and there is a report
pub nothing_reported : (old : Option (List ℕ)) (octets : List ℕ) → AreOctets octets → TookFrontOf (IsReport false octets) old old
nothing_reported old octets h =
    let some = some_report false octets h in
    record { text = some.0; is = some.1; taken = took_nothing old some.0 }
