-- Octets are told in one way.
use Rattle.std.proofs.Common.{◌||◌, Bool, ◌≡◌, ℕ, List, [], ◌++◌, drop, refl, ap, sym, ◌∙◌, subst, arith, ◌⊎◌, inl, inr}
use Rattle.bgp_wire.specs.declared.fault.WireFault.{WireFault}
use Rattle.bgp_wire.specs.Content.{Content, Opens, Updates, Notifies, KeepsAlive, UpdateFields}
use Rattle.bgp_wire.specs.Frames.{IsProperPrefix}
use Rattle.bgp_wire.specs.Messages.{BeginsWith, HasFault}
use Rattle.bgp_wire.proofs.Readings as readings
use Rattle.bgp_vpn.proofs.UpdateLemmas as updates
use Rattle.rt_membership.specs.Memberships.{HasMembershipFault}
use Rattle.rt_membership.proofs.Grammar as memberships
use Rattle.report.specs.Lines.{fault_line}
use Rattle.decode_answers.specs.Decoding.{is_wide_open, Says, update_lines, BeginsWithFaultyUpdate, IsReport, of_nothing, of_a_prefix, of_a_fault, of_a_message}

-- a fault of a message or of its frame
abbrev HasFirstFault : Bool → List ℕ → WireFault → Type 0
HasFirstFault wide octets f = HasFault octets f ⊎ BeginsWithFaultyUpdate wide octets f

-- no octets are a proper prefix
pub nothing_is_proper : (octets : List ℕ) → octets ≡ [] → IsProperPrefix octets
nothing_is_proper octets e = subst (λ (xs : List ℕ). IsProperPrefix xs) (sym e) (record { passes = refl; short = inl (omega arith) })

-- a message says one thing
one_saying : (wide : Bool) (content : Content) (a b : List ℕ) → Says wide content a → Says wide content b → a ≡ b
one_saying wide (Opens fields) a b x y = x ∙ sym y
one_saying wide (Updates parts) a b x y =
    x.is
    ∙ (λ i. update_lines (updates.one_changes wide parts x.changes y.changes x.changed y.changed i) (memberships.one_changes wide parts x.asks y.asks x.asked y.asked i))
    ∙ sym y.is
one_saying wide (Notifies code subcode) a b x y = x ∙ sym y
one_saying wide KeepsAlive a b x y = x ∙ sym y

-- a proper prefix has no fault
prefix_has_none : (wide : Bool) (octets : List ℕ) (f : WireFault) → IsProperPrefix octets → HasFirstFault wide octets f → ⊥
prefix_has_none wide octets f proper (inl fault) = readings.never_prefix_and_fault octets f proper fault
prefix_has_none wide octets f proper (inr update) =
    readings.never_message_and_prefix octets (Updates update.parts) update.count update.begins proper

-- a message that says something has no fault
said_has_none : (wide : Bool) (octets said : List ℕ) (content : Content) (count : ℕ) (f : WireFault) → BeginsWith octets content count
    → Says wide content said → HasFirstFault wide octets f → ⊥
said_has_none wide octets said content count f begins says (inl fault) =
    readings.never_message_and_fault octets content count f begins fault
said_has_none wide octets said content count f begins says (inr update) =
    let same = readings.one_message octets content (Updates update.parts) count update.count begins update.begins in
    let says_it : Says wide (Updates update.parts) said = subst (λ (c : Content). Says wide c said) same.0 says in
    memberships.never_both wide update.parts says_it.asks f says_it.asked update.faulty

-- the parts of an UPDATE are one
same_parts : (p q : UpdateFields) → Updates p ≡ Updates q → p ≡ q
same_parts p q h = cc

-- octets have one first fault
one_first_fault : (wide : Bool) (octets : List ℕ) (f g : WireFault) → HasFirstFault wide octets f → HasFirstFault wide octets g → f ≡ g
one_first_fault wide octets f g (inl a) (inl b) = readings.one_fault octets f g a b
one_first_fault wide octets f g (inl a) (inr b) = absurd (readings.never_message_and_fault octets (Updates b.parts) b.count f b.begins a)
one_first_fault wide octets f g (inr a) (inl b) = absurd (readings.never_message_and_fault octets (Updates a.parts) a.count g a.begins b)
one_first_fault wide octets f g (inr a) (inr b) =
    let same = readings.one_message octets (Updates a.parts) (Updates b.parts) a.count b.count a.begins b.begins in
    let there : HasMembershipFault wide b.parts f =
    subst (λ (p : UpdateFields). HasMembershipFault wide p f) (same_parts a.parts b.parts same.0) a.faulty in
    memberships.one_fault wide b.parts f g there b.faulty

-- octets have one report
pub one_report : (wide : Bool) (octets a b : List ℕ) → IsReport wide octets a → IsReport wide octets b → a ≡ b
one_report wide octets a b (of_nothing e x) (of_nothing d y) = x ∙ sym y
one_report wide octets a b (of_nothing e x) (of_a_prefix some proper y) = absurd (some e)
one_report wide octets a b (of_nothing e x) (of_a_fault f fault y) = absurd (prefix_has_none wide octets f (nothing_is_proper octets e) fault)
one_report wide octets a b (of_nothing e x) (of_a_message said more content count begins says rest y) =
    absurd (readings.never_message_and_prefix octets content count begins (nothing_is_proper octets e))
one_report wide octets a b (of_a_prefix some proper x) (of_nothing e y) = absurd (some e)
one_report wide octets a b (of_a_prefix some proper x) (of_a_prefix others prefix y) = x ∙ sym y
one_report wide octets a b (of_a_prefix some proper x) (of_a_fault f fault y) = absurd (prefix_has_none wide octets f proper fault)
one_report wide octets a b (of_a_prefix some proper x) (of_a_message said more content count begins says rest y) =
    absurd (readings.never_message_and_prefix octets content count begins proper)
one_report wide octets a b (of_a_fault f fault x) (of_nothing e y) = absurd (prefix_has_none wide octets f (nothing_is_proper octets e) fault)
one_report wide octets a b (of_a_fault f fault x) (of_a_prefix some proper y) = absurd (prefix_has_none wide octets f proper fault)
one_report wide octets a b (of_a_fault f fault x) (of_a_fault g other y) =
    x ∙ ap (λ (h : WireFault). fault_line h.code h.subcode) (one_first_fault wide octets f g fault other) ∙ sym y
one_report wide octets a b (of_a_fault f fault x) (of_a_message said more content count begins says rest y) =
    absurd (said_has_none wide octets said content count f begins says fault)
one_report wide octets a b (of_a_message said more content count begins says rest x) (of_nothing e y) =
    absurd (readings.never_message_and_prefix octets content count begins (nothing_is_proper octets e))
one_report wide octets a b (of_a_message said more content count begins says rest x) (of_a_prefix some proper y) =
    absurd (readings.never_message_and_prefix octets content count begins proper)
one_report wide octets a b (of_a_message said more content count begins says rest x) (of_a_fault f fault y) =
    absurd (said_has_none wide octets said content count f begins says fault)
one_report wide octets a b (of_a_message said more content count begins says rest x) (of_a_message told others other n starts tells left y) =
    let same = readings.one_message octets content other count n begins starts in
    let told_it : Says wide content told = subst (λ (c : Content). Says wide c told) (sym same.0) tells in
    let said_same : said ≡ told = one_saying wide content said told says told_it in
    let left_behind : IsReport (wide || is_wide_open other) (drop count octets) others =
    subst (λ (k : ℕ). IsReport (wide || is_wide_open other) (drop k octets) others) (sym same.1) left in
    let left_there : IsReport (wide || is_wide_open content) (drop count octets) others =
    subst (λ (c : Content). IsReport (wide || is_wide_open c) (drop count octets) others) (sym same.0) left_behind in
    let more_same : more ≡ others = one_report (wide || is_wide_open content) (drop count octets) more others rest left_there in
    x ∙ ap (λ (t : List ℕ). t ++ more) said_same ∙ ap (λ (t : List ℕ). told ++ t) more_same ∙ sym y
