-- A log is answered in one way.
use Rattle.std.proofs.Common.{◌≡◌, Bool, true, false, ℕ, ◌+◌, List, [], ◌∷◌, ◌++◌, map, refl, ap, sym, ◌∙◌, subst, ◌⊎◌, inl, inr}
use Rattle.std.specs.FinMap.{FinMap, entries, same_map}
use Rattle.std.proofs.lemmas.Bool.Decides.{same_from_decides}
use Rattle.ov_types.specs.declared.vpn.VpnKey.{VpnKey}
use Rattle.ov_types.specs.declared.vpn.VpnRoute.{VpnRoute}
use Rattle.ov_sync.specs.declared.Delta.{Delta}
use Rattle.bgp_wire.specs.declared.fault.WireFault.{WireFault}
use Rattle.bgp_wire.specs.Content.{Content, Opens, Updates, OpenFields, UpdateFields}
use Rattle.bgp_wire.proofs.Readings as readings
use Rattle.bgp_vpn.specs.Updates.{HasUpdateFault}
use Rattle.bgp_vpn.proofs.UpdateLemmas as updates
use Rattle.bgp_restart.specs.Events.{RestartEvent, Opened, Closed, Updated, is_up, key_order}
use Rattle.bgp_restart.specs.Keeping.{row_of, IsUpdate}
use Rattle.bgp_restart.proofs.Owning.{key_total, key_exact}
use Rattle.report.specs.Restarts.{faulty_line, show_line}
use Rattle.decode_answers.specs.declared.entry.LogEntry.{LogEntry}
use Rattle.decode_answers.specs.declared.entry.LogEntry.TheVariants as entry
use Rattle.decode_answers.specs.OneMessage.{IsOneOpen, IsOneUpdate}
use Rattle.decode_answers.specs.Logs.{opening_of, reads_wide, row_lines, IsHeldText, IsDone, IsIdle, IsFaulty, IsShown, AnswersOpen, AnswersParts, AnswersUpdate, AnswersClose, Answers, IsLogText}

-- one text, and the same events after it
abbrev pub IsSame : List ℕ → List ℕ → List RestartEvent → List RestartEvent → Type 0
IsSame a b after behind = (a ≡ b) × (after ≡ behind)

same_open : (f g : OpenFields) → Opens f ≡ Opens g → f ≡ g
same_open f g e = cc

same_parts : (p q : UpdateFields) → Updates p ≡ Updates q → p ≡ q
same_parts p q e = cc

pub one_open : (octets : List ℕ) (f g : OpenFields) → IsOneOpen octets f → IsOneOpen octets g → f ≡ g
one_open octets f g x y = same_open f g (readings.one_message octets (Opens f) (Opens g) _ _ x y).0

pub one_update : (octets : List ℕ) (p q : UpdateFields) → IsOneUpdate octets p → IsOneUpdate octets q → p ≡ q
one_update octets p q x y = same_parts p q (readings.one_message octets (Updates p) (Updates q) _ _ x y).0

-- an UPDATE is one event
one_event : (wide : Bool) (parts : UpdateFields) (e f : RestartEvent) → IsUpdate wide parts e → IsUpdate wide parts f → e ≡ f
one_event wide parts e f x y =
    x.is ∙ ap (λ (ds : List (Delta VpnKey VpnRoute)). Updated ds x.marks) (updates.one_changes wide parts x.changes y.changes x.made y.made)
    ∙ ap (λ (m : Bool). Updated y.changes m) (same_from_decides x.marks y.marks x.decides y.decides) ∙ sym y.is

one_held : (events : List RestartEvent) (a b : List ℕ) → IsHeldText events a → IsHeldText events b → a ≡ b
one_held events a b x y =
    x.lines ∙ ap (λ (m : FinMap key_order (VpnRoute × Bool)). row_lines (map row_of (entries m)))
    (same_map key_total key_exact x.all y.all (λ k. x.is_held k ∙ sym (y.is_held k))) ∙ sym y.lines

one_done : (events : List RestartEvent) (n : ℕ) (e f : RestartEvent) (a b : List ℕ) (after behind : List RestartEvent) → e ≡ f → IsDone events n e a after → IsDone events n f b behind
    → IsSame a b after behind
one_done events n e f a b after behind same x y =
    (x.line ∙ sym y.line, x.happened ∙ ap (λ (d : RestartEvent). d ∷ events) same ∙ sym y.happened)

one_idle : (events : List RestartEvent) (n : ℕ) (a b : List ℕ) (after behind : List RestartEvent) → IsIdle events n a after → IsIdle events n b behind
    → IsSame a b after behind
one_idle events n a b after behind x y = (x.line ∙ sym y.line, x.no_event ∙ sym y.no_event)

one_faulty : (events : List RestartEvent) (n : ℕ) (parts : UpdateFields) (a b : List ℕ) (after behind : List RestartEvent) → IsFaulty events n parts a after
    → IsFaulty events n parts b behind → IsSame a b after behind
one_faulty events n parts a b after behind x y = (
  x.line ∙ ap (λ (f : WireFault). faulty_line n f.code f.subcode) (updates.one_fault (reads_wide events) parts x.fault y.fault x.faulty y.faulty)
      ∙ sym y.line,
  x.no_event ∙ sym y.no_event,
)

one_shown : (events : List RestartEvent) (n : ℕ) (a b : List ℕ) (after behind : List RestartEvent) → IsShown events n a after → IsShown events n b behind
    → IsSame a b after behind
one_shown events n a b after behind x y = (
  x.lines ∙ ap (λ (rows : List ℕ). show_line n ++ rows) (one_held events x.rows y.rows x.held y.held) ∙ sym y.lines,
  x.no_event ∙ sym y.no_event,
)

one_opened : (up : Bool) (events : List RestartEvent) (n : ℕ) (octets a b : List ℕ) (after behind : List RestartEvent) → AnswersOpen up events n octets a after
    → AnswersOpen up events n octets b behind → IsSame a b after behind
one_opened true events n octets a b after behind x y = one_idle events n a b after behind x y
one_opened false events n octets a b after behind x y =
    one_done events n _ _ a b after behind (ap (λ (f : OpenFields). Opened (opening_of f)) (one_open octets x.0 y.0 x.1 y.1)) x.2 y.2

one_heard : (events : List RestartEvent) (n : ℕ) (parts : UpdateFields) (a b : List ℕ) (after behind : List RestartEvent) → AnswersParts events n parts a after
    → AnswersParts events n parts b behind → IsSame a b after behind
one_heard events n parts a b after behind (inl x) (inl y) =
    one_done events n x.0 y.0 a b after behind (one_event (reads_wide events) parts x.0 y.0 x.1 y.1) x.2 y.2
one_heard events n parts a b after behind (inl x) (inr y) =
    absurd (updates.never_both (reads_wide events) parts x.1.changes y.fault x.1.made y.faulty)
one_heard events n parts a b after behind (inr x) (inl y) =
    absurd (updates.never_both (reads_wide events) parts y.1.changes x.fault y.1.made x.faulty)
one_heard events n parts a b after behind (inr x) (inr y) = one_faulty events n parts a b after behind x y

one_updated : (up : Bool) (events : List RestartEvent) (n : ℕ) (octets a b : List ℕ) (after behind : List RestartEvent) → AnswersUpdate up events n octets a after
    → AnswersUpdate up events n octets b behind → IsSame a b after behind
one_updated true events n octets a b after behind x y =
    one_heard events n y.0 a b after behind
    (subst (λ (p : UpdateFields). AnswersParts events n p a after) (one_update octets x.0 y.0 x.1 y.1) x.2) y.2
one_updated false events n octets a b after behind x y = one_idle events n a b after behind x y

one_closed : (up : Bool) (events : List RestartEvent) (n : ℕ) (a b : List ℕ) (after behind : List RestartEvent) → AnswersClose up events n a after
    → AnswersClose up events n b behind → IsSame a b after behind
one_closed true events n a b after behind x y = one_done events n Closed Closed a b after behind refl x y
one_closed false events n a b after behind x y = one_idle events n a b after behind x y

one_answer : (events : List RestartEvent) (n : ℕ) (e : LogEntry) (a b : List ℕ) (after behind : List RestartEvent) → Answers events n e a after
    → Answers events n e b behind → IsSame a b after behind
one_answer events n (entry.Opened octets) a b after behind x y = one_opened (is_up events) events n octets a b after behind x y
one_answer events n (entry.Updated octets) a b after behind x y = one_updated (is_up events) events n octets a b after behind x y
one_answer events n entry.Closed a b after behind x y = one_closed (is_up events) events n a b after behind x y
one_answer events n entry.Expired a b after behind x y = one_done events n _ _ a b after behind refl x y
one_answer events n entry.Show a b after behind x y = one_shown events n a b after behind x y

-- a log has one text
pub one_text : (events : List RestartEvent) (n : ℕ) (log : List LogEntry) (a b : List ℕ) → IsLogText events n log a → IsLogText events n log b → a ≡ b
one_text events n [] a b x y = x ∙ sym y
one_text events n (e ∷ log) a b x y =
    let same = one_answer events n e x.0 y.0 x.1 y.1 x.3 y.3 in
    let there : IsLogText y.1 (n + 1) log x.2 = subst (λ (after : List RestartEvent). IsLogText after (n + 1) log x.2) same.1 x.4 in
    x.5 ∙ ap (λ (t : List ℕ). t ++ x.2) same.0 ∙ ap (λ (t : List ℕ). y.0 ++ t) (one_text y.1 (n + 1) log x.2 y.2 there y.4) ∙ sym y.5
