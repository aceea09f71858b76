-- How what a log answers is handed on, entry by entry.
use Rattle.std.proofs.Common.{◌≡◌, Bool, true, false, ℕ, ◌+◌, List, [], ◌∷◌, ◌++◌, Option, Result, Ok, Err, OnOk, OnErr, refl, ap, sym, ◌∙◌, subst, inl, inr}
use Rattle.std.specs.Option.{IfSome}
use Rattle.std.specs.List.{AllByRecursion}
use Rattle.std.proofs.lemmas.List.{append_assoc, append-nil}
use Rattle.std.specs.Io.KnownBytes.{Appends}
use Rattle.ov_io.specs.Inputs.{TookFront}
use Rattle.ov_io.specs.Pieces.{IsOnItsWay, TookText, TookFrontOf}
use Rattle.ov_io.proofs.PieceLemmas.{way_stays, way_ends, way_lengthens, way_goes_on, way_cut}
use Rattle.ov_types.specs.declared.vpn.VpnKey.{VpnKey}
use Rattle.ov_types.specs.declared.vpn.VpnRoute.{VpnRoute}
use Rattle.bgp_wire.specs.declared.fault.WireFault.{WireFault}
use Rattle.bgp_wire.specs.Content.{UpdateFields}
use Rattle.bgp_vpn.specs.Updates.{HasUpdateFault}
use Rattle.bgp_restart.specs.Events.{RestartEvent, Opened, Closed, Expired, Updated, is_up, opening}
use Rattle.bgp_restart.specs.Keeping.{Kept, StandsFor, Follows, IsUpdate, AreRows}
use Rattle.report.specs.Restarts.{did_line, faulty_line, show_line}
use Rattle.decode_answers.specs.declared.entry.LogEntry.{LogEntry}
use Rattle.decode_answers.specs.declared.entry.LogEntry.TheVariants as entry
use Rattle.decode_answers.specs.Entries.{HasEntryForm}
use Rattle.decode_answers.specs.OneMessage.{IsOneUpdate}
use Rattle.decode_answers.specs.Logs.{reads_wide, row_lines, AnswersParts, AnswersUpdate, IsLogText}
use Rattle.decode_answers.specs.LogProgress.{Steps}
use Rattle.decode_answers.proofs.SomeText.{some_text}

-- ---- what an entry answers
wide_so : (events : List RestartEvent) (named wide : Bool) → is_up events ≡ true
    → IfSome (opening events) (λ o. (named ≡ o.named) × (wide ≡ o.wide)) → wide ≡ reads_wide events
wide_so [] n w u h = cc
wide_so (Opened o ∷ before) n w u h = h.1
wide_so (Closed ∷ before) n w u h = cc
wide_so (Expired ∷ before) n w u h = wide_so before n w u h
wide_so (Updated changes marks ∷ before) n w u h = wide_so before n w u h

answers_up : (events : List RestartEvent) (n : ℕ) (octets said : List ℕ) (after : List RestartEvent) (parts : UpdateFields) → is_up events ≡ true
    → IsOneUpdate octets parts → AnswersParts events n parts said after → AnswersUpdate (is_up events) events n octets said after
answers_up events n octets said after parts up one answers =
    subst (λ (u : Bool). AnswersUpdate u events n octets said after) (sym up) (parts, one, answers)

pub heard : {E : Type 0} (r : Result Unit E) (old new : Kept) (n : ℕ) (octets : List ℕ) (parts : UpdateFields) (event : RestartEvent) (before text : List ℕ)
    → old.up ≡ true → IsOneUpdate octets parts → IsUpdate old.wide parts event → Follows old event new → OnOk r (text ≡ before ++ did_line n)
    → OnOk r (Steps old n (entry.Updated octets) new before text)
heard (Err e) old new n octets parts event before text up one is follows line = tt
heard (Ok x) old new n octets parts event before text up one is follows line = λ events stands.
    let opened = sym stands.up ∙ up in
    let read : IsUpdate (reads_wide events) parts event =
    subst (λ (w : Bool). IsUpdate w parts event) (wide_so events old.named old.wide opened stands.opening) is in
    record {
      said = did_line n;
      after = event ∷ events;
      answers = answers_up events n octets (did_line n) (event ∷ events) parts opened one (inl (event, read, record { line = refl; happened = refl }));
      stands = follows events stands;
      appended = line;
    }

pub refused : {E : Type 0} (r : Result Unit E) (old new : Kept) (n : ℕ) (octets : List ℕ) (parts : UpdateFields) (f : WireFault) (before text : List ℕ)
    → old.up ≡ true → IsOneUpdate octets parts → HasUpdateFault old.wide parts f → new ≡ old
    → OnOk r (text ≡ before ++ faulty_line n f.code f.subcode) → OnOk r (Steps old n (entry.Updated octets) new before text)
refused (Err e) old new n octets parts f before text up one faulty kept line = tt
refused (Ok x) old new n octets parts f before text up one faulty kept line = λ events stands.
    let opened = sym stands.up ∙ up in
    let read : HasUpdateFault (reads_wide events) parts f =
    subst (λ (w : Bool). HasUpdateFault w parts f) (wide_so events old.named old.wide opened stands.opening) faulty in
    record {
      said = faulty_line n f.code f.subcode;
      after = events;
      answers =
          answers_up events n octets (faulty_line n f.code f.subcode) events parts opened one
          (inr (record { fault = f; faulty = read; line = refl; no_event = refl }));
      stands = subst (λ (k : Kept). StandsFor events k) (sym kept) stands;
      appended = line;
    }

pub shown : {E : Type 0} (r : Result Unit E) (old : Kept) (n : ℕ) (rows : List (VpnKey × VpnRoute × Bool)) (before mid text : List ℕ)
    → AreRows old rows → mid ≡ before ++ show_line n → OnOk r (text ≡ mid ++ row_lines rows) → OnOk r (Steps old n entry.Show old before text)
shown (Err e) old n rows before mid text are first rest = tt
shown (Ok x) old n rows before mid text are first rest = λ events stands.
    record {
      said = show_line n ++ row_lines rows;
      after = events;
      answers =
          record {
            rows = row_lines rows;
            held = record { all = are.all; is_held = λ k. are.is_held k ∙ stands.held k; lines = ap row_lines are.in_order };
            lines = refl;
            no_event = refl;
          };
      stands = stands;
      appended = rest ∙ ap (λ (t : List ℕ). t ++ row_lines rows) first ∙ append_assoc before (show_line n) (row_lines rows);
    }

-- ---- the way of the text
-- what the entries before the rest answered is on its way
pub record IsTold (log : List LogEntry) (n : ℕ) (rest : List LogEntry) (r : Kept) (old now : Option (List ℕ)) (gathered : List ℕ) : Type 0 where
  pub events : List RestartEvent
  pub stands : StandsFor events r
  pub told : List ℕ
  pub leads : (more : List ℕ) → IsLogText events n rest more → IsLogText [] 1 log (told ++ more)
  pub way : IsOnItsWay old now gathered [] told

pub told_none : (log : List LogEntry) (r : Kept) (old : Option (List ℕ)) → StandsFor [] r → IsTold log 1 log r old old []
told_none log r old stands = record { events = []; stands = stands; told = []; leads = λ more is. is; way = way_stays old [] }

-- one entry was answered
pub told_more : (log rest behind : List LogEntry) (n : ℕ) (e : LogEntry) (r new : Kept) (old now : Option (List ℕ)) (before text : List ℕ)
    → rest ≡ e ∷ behind → IsTold log n rest r old now before → Steps r n e new before text → IsTold log (n + 1) behind new old now text
told_more log rest behind n e r new old now before text split so steps =
    let step = steps so.events so.stands in
    let way = way_lengthens old now before [] step.said so.told so.way in
    record {
      events = step.after;
      stands = step.stands;
      told = so.told ++ step.said;
      leads = λ more is.
          let all : IsLogText so.events n rest (step.said ++ more) =
          subst (λ (l : List LogEntry). IsLogText so.events n l (step.said ++ more)) (sym split)
          (step.said, step.after, more, step.answers, is, refl) in
          subst (IsLogText [] 1 log) (sym (append_assoc so.told step.said more)) (so.leads (step.said ++ more) all);
      way =
          record {
            taken = way.taken;
            appended = way.appended;
            joined = ap (λ (t : List ℕ). way.taken ++ t) (append-nil text ∙ step.appended) ∙ way.joined;
          };
    }

-- what is gathered was handed on, or stays
pub told_on : (log rest : List LogEntry) (n : ℕ) (r : Kept) (old mid now : Option (List ℕ)) (text after : List ℕ) → IsTold log n rest r old mid text
    → IsOnItsWay mid now after [] text → IsTold log n rest r old now after
told_on log rest n r old mid now text after so on =
    record {
      events = so.events;
      stands = so.stands;
      told = so.told;
      leads = so.leads;
      way =
          way_goes_on old mid now text after [] [] [] so.told so.way refl
          (subst (λ (t : List ℕ). IsOnItsWay mid now after [] t) (sym (append-nil text)) on);
    }

-- what stops there leaves a front of a text
pub told_stops : (log rest : List LogEntry) (n : ℕ) (r : Kept) (old mid new : Option (List ℕ)) (text : List ℕ) → AllByRecursion HasEntryForm rest
    → IsTold log n rest r old mid text → TookFront mid new text → TookFrontOf (IsLogText [] 1 log) old new
told_stops log rest n r old mid new text form so stop =
    let more = some_text so.events n rest form in
    record {
      text = so.told ++ more.0;
      is = so.leads more.0 more.1;
      taken = way_cut old mid new text more.0 (so.told ++ more.0) (way_lengthens old mid text [] more.0 so.told so.way) stop;
    }

-- how the last write ends
pub told_whole : {E : Type 0} (result : Result Unit E) (log rest : List LogEntry) (n : ℕ) (r : Kept) (old mid new : Option (List ℕ)) (text : List ℕ)
    → rest ≡ [] → IsTold log n rest r old mid text → OnOk result (Appends mid new text) → OnOk result (TookText (IsLogText [] 1 log) old new)
told_whole (Err e) log rest n r old mid new text none so last = tt
told_whole (Ok x) log rest n r old mid new text none so last =
    let all : IsLogText so.events n rest [] = subst (λ (l : List LogEntry). IsLogText so.events n l []) (sym none) refl in
    record {
      text = so.told;
      is = subst (IsLogText [] 1 log) (append-nil so.told) (so.leads [] all);
      taken = way_ends old mid new text [] so.told so.way refl last;
    }

pub told_cut : {E : Type 0} (result : Result Unit E) (log rest : List LogEntry) (n : ℕ) (r : Kept) (old mid new : Option (List ℕ)) (text : List ℕ)
    → AllByRecursion HasEntryForm rest → IsTold log n rest r old mid text → OnErr result (TookFront mid new text)
    → OnErr result (TookFrontOf (IsLogText [] 1 log) old new)
told_cut (Ok x) log rest n r old mid new text form so stop = tt
told_cut (Err e) log rest n r old mid new text form so stop = told_stops log rest n r old mid new text form so stop
