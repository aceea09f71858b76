-- A wide OPEN counts from where it stands.
use Rattle.std.proofs.Common.{◌||◌, Bool, ◌≡◌, ℕ, List, [], ◌∷◌, ◌++◌, drop, refl, ap, sym, ◌∙◌, subst, ◌⊎◌, inl, inr}
use Rattle.std.specs.List.{list_any}
use Rattle.std.proofs.lemmas.List.{append_assoc}
use Rattle.std.proofs.Math.Bool.{or_assoc, or-false}
use Rattle.bgp_wire.specs.Content.{Content, Updates}
use Rattle.bgp_wire.specs.Messages.{BeginsWith}
use Rattle.bgp_wire.proofs.Readings as readings
use Rattle.decode_answers.specs.Decoding.{is_wide_open, BeginsWithFaultyUpdate, IsReport, of_nothing, of_a_prefix, of_a_fault, of_a_message}
use Rattle.decode_answers.specs.Before.{AreMessages, IsFaultyUpdate, HasFaultyUpdate, TellsRest}
use Rattle.decode_answers.proofs.OneReport.{nothing_is_proper}

-- a fault that ends the report is that of the first message
faulty_first : (wide : Bool) (octets : List ℕ) (content : Content) (count : ℕ) {f : _} → BeginsWith octets content count
    → BeginsWithFaultyUpdate wide octets f → IsFaultyUpdate content
faulty_first wide octets content count {f} begins update =
    let same = readings.one_message octets content (Updates update.parts) count update.count begins update.begins in
    record { parts = update.parts; wide = wide; fault = f; is = same.0; faulty = update.faulty }

-- what is told behind the first message is told behind all
told_behind : (wide first others : Bool) (rest said more text : List ℕ) → text ≡ said ++ more → TellsRest ((wide || first) || others) rest more
    → TellsRest (wide || (first || others)) rest text
told_behind wide first others rest said more text is tells = record {
  told = said ++ tells.told;
  more = tells.more;
  is = is ∙ ap (λ (t : List ℕ). said ++ t) tells.is ∙ sym (append_assoc said tells.told tells.more);
  report = subst (λ (w : Bool). IsReport w rest tells.more) (or_assoc wide first others) tells.report;
}

pub wide_counts : (wide : Bool) (octets rest text : List ℕ) (before : List Content) → IsReport wide octets text → AreMessages octets before rest
    → HasFaultyUpdate before ⊎ TellsRest (wide || list_any is_wide_open before) rest text
wide_counts wide octets rest text [] report same =
    let here : IsReport wide rest text = subst (λ (o : List ℕ). IsReport wide o text) same report in
    inr (record { told = []; more = text; is = refl; report = subst (λ (w : Bool). IsReport w rest text) (sym (or-false wide)) here })
wide_counts wide octets rest text (c ∷ before) (of_nothing e x) are =
    absurd (readings.never_message_and_prefix octets c are.0 are.1 (nothing_is_proper octets e))
wide_counts wide octets rest text (c ∷ before) (of_a_prefix some proper x) are =
    absurd (readings.never_message_and_prefix octets c are.0 are.1 proper)
wide_counts wide octets rest text (c ∷ before) (of_a_fault f (inl fault) x) are =
    absurd (readings.never_message_and_fault octets c are.0 f are.1 fault)
wide_counts wide octets rest text (c ∷ before) (of_a_fault f (inr update) x) are = inl (inl (faulty_first wide octets c are.0 are.1 update))
wide_counts wide octets rest text (c ∷ before) (of_a_message said more content count begins says left x) are =
    let same = readings.one_message octets content c count are.0 begins are.1 in
    let behind : IsReport (wide || is_wide_open content) (drop are.0 octets) more =
    subst (λ (k : ℕ). IsReport (wide || is_wide_open content) (drop k octets) more) same.1 left in
    let there : IsReport (wide || is_wide_open c) (drop are.0 octets) more =
    subst (λ (d : Content). IsReport (wide || is_wide_open d) (drop are.0 octets) more) same.0 behind in
    elim (wide_counts (wide || is_wide_open c) (drop are.0 octets) rest more before there are.2) [
      | inl faulty ↦ inl (inr faulty)
      | inr tells ↦ inr (told_behind wide (is_wide_open c) (list_any is_wide_open before) rest said more text x tells)
    ]
