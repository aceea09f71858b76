-- How the parts of a report make the whole.
use Rattle.std.proofs.Common.{◌≡◌, ◌≢◌, ◌<◌, ◌==◌, ◌||◌, Bool, true, false, ℕ, zero, suc, List, [], ◌∷◌, ◌++◌, length, drop, Option, Some, refl, sym, subst, arith, inl, inr}
use Rattle.std.specs.Prelude.{IfSome}
use Rattle.std.proofs.lemmas.List.{append_assoc, append-nil, length-drop}
use Rattle.std.proofs.lemmas.Bool.{eqb-true}
use Rattle.bgp_wire.specs.declared.fault.WireFault.{WireFault}
use Rattle.bgp_wire.specs.declared.message.Message.{Message}
use Rattle.bgp_wire.specs.Content.{Content, UpdateFields}
use Rattle.bgp_wire.specs.Frames.{IsProperPrefix, head}
use Rattle.bgp_wire.specs.Messages.{content_of, BeginsWith, HasFault}
use Rattle.ov_types.specs.declared.vpn.VpnKey.{VpnKey}
use Rattle.ov_types.specs.declared.vpn.VpnRoute.{VpnRoute}
use Rattle.ov_sync.specs.declared.Delta.{Delta}
use Rattle.bgp_vpn.specs.declared.fault.UpdateFault.{UpdateFault}
use Rattle.bgp_vpn.specs.declared.fault.UpdateFault.TheVariants.{Wire}
use Rattle.bgp_vpn.specs.Updates.{Changes, IfWire}
use Rattle.rt_membership.specs.Memberships.{HasMembershipFault}
use Rattle.report.specs.Lines.{fault_line, incomplete_line}
use Rattle.decode_answers.specs.Decoding.{is_wide_open, Says, IsReport, of_nothing, of_a_prefix, of_a_fault, of_a_message}
use Rattle.decode_answers.specs.Reporting.{Tells, WasFaulty, IsFirst, ToldAll}
use Rattle.decode_answers.specs.declared.decoding.First.{First}
use Rattle.decode_answers.specs.declared.decoding.Told.{Told}
use Rattle.decode_answers.specs.declared.decoding.Told.TheVariants.{Faulty}

-- the message that was found
pub begins_found : (octets : List ℕ) (found : Option (Message × ℕ)) (message : Message) (count : ℕ) → found ≡ Some (message, count)
    → IfSome found (λ x. BeginsWith octets (content_of x.0) x.1) → BeginsWith octets (content_of message) count
begins_found octets found message count e h =
    subst (λ (o : Option (Message × ℕ)). IfSome o (λ x. BeginsWith octets (content_of x.0) x.1)) e h

-- the fault of what an UPDATE asks, where its routes are good
pub fault_found : (wide : Bool) (parts : UpdateFields) (e : UpdateFault) (f : WireFault) (changes : List (Delta VpnKey VpnRoute)) → e ≡ Wire f
    → IfWire e (λ f. (wide : Bool) (routes : List (Delta VpnKey VpnRoute)) → Changes wide parts routes → HasMembershipFault wide parts f)
    → Changes wide parts changes → HasMembershipFault wide parts f
fault_found wide parts e f changes is h changed =
    subst (λ (e : UpdateFault). IfWire e (λ f. (wide : Bool) (routes : List (Delta VpnKey VpnRoute)) → Changes wide parts routes → HasMembershipFault wide parts f)) is h
    wide changes changed

-- an UPDATE with a fault ends the report
pub faulty_ends : (wide : Bool) (octets before after : List ℕ) (content : Content) (count : ℕ) (told : Told) → BeginsWith octets content count
    → told ≡ Faulty → Tells wide content before after told → ToldAll wide octets before after
faulty_ends wide octets before after content count told begins is tells =
    let was : WasFaulty wide content before after = subst (λ (t : Told). Tells wide content before after t) is tells in
    let update : BeginsWith octets _ count = subst (λ (c : Content). BeginsWith octets c count) was.update begins in
    record {
      text = fault_line was.fault.code was.fault.subcode;
      report = of_a_fault was.fault (inr (record { parts = was.parts; count = count; begins = update; faulty = was.faulty })) refl;
      appended = was.appended;
    }

-- octets that are not yet a message end the report
pub prefix_ends : (wide : Bool) (octets before after : List ℕ) → octets ≢ [] → IsProperPrefix octets
    → after ≡ before ++ incomplete_line (length octets) → ToldAll wide octets before after
prefix_ends wide octets before after some proper h =
    record { text = incomplete_line (length octets); report = of_a_prefix some proper refl; appended = h }

-- a fault ends the report
pub fault_ends : (wide : Bool) (octets before after : List ℕ) (f : WireFault) → HasFault octets f
    → after ≡ before ++ fault_line f.code f.subcode → ToldAll wide octets before after
fault_ends wide octets before after f fault h =
    record { text = fault_line f.code f.subcode; report = of_a_fault f (inl fault) refl; appended = h }

-- what was told so far, and a report of what is left, make a report of the whole
abbrev pub Leads : List ℕ → Bool → List ℕ → List ℕ → Type 0
Leads octets wide rest told = (more : List ℕ) → IsReport wide rest more → IsReport false octets (told ++ more)

pub leads_first : (octets : List ℕ) → Leads octets false octets []
leads_first octets more report = report

-- one message further
pub leads_on : (octets : List ℕ) (wide : Bool) (rest behind told said : List ℕ) (first : First) (content : Content) → behind ≡ drop first.count rest
    → Leads octets wide rest told → IsFirst wide rest first content → Says wide content said → Leads octets first.wide behind (told ++ said)
leads_on octets wide rest behind told said first content is leads begins says more report =
    let dropped : IsReport first.wide (drop first.count rest) more = subst (λ (xs : List ℕ). IsReport first.wide xs more) is report in
    let left : IsReport (wide || is_wide_open content) (drop first.count rest) more =
    subst (λ (w : Bool). IsReport w (drop first.count rest) more) begins.behind dropped in
    let whole : IsReport false octets (told ++ (said ++ more)) =
    leads (said ++ more) (of_a_message said more content first.count begins.begins says left refl) in
    subst (λ (t : List ℕ). IsReport false octets t) (sym (append_assoc told said more)) whole

-- where nothing is left the report is whole
pub leads_to_end : (octets : List ℕ) (wide : Bool) (rest told : List ℕ) → Leads octets wide rest told → (length rest == 0) ≡ true
    → IsReport false octets told
leads_to_end octets wide [] told leads none =
    subst (λ (t : List ℕ). IsReport false octets t) (append-nil told) (leads [] (of_nothing refl refl))
leads_to_end octets wide (x ∷ rest) told leads none = let e = eqb-true _ 0 none in absurd (omega arith)

-- a message has octets
pub takes_some : (octets : List ℕ) (content : Content) (count : ℕ) → BeginsWith octets content count → 0 < count
takes_some octets content zero begins =
    let e : [] ≡ head _ begins.message.kind ++ begins.message.body = begins.message.frame.spelled in absurd cc
takes_some octets content (suc n) begins = omega arith

-- fewer octets are left behind a message
pub fewer_left : (octets : List ℕ) (content : Content) (count : ℕ) → BeginsWith octets content count
    → length (drop count octets) < length octets
fewer_left octets content count begins =
    let some = takes_some octets content count begins in
    let within = begins.within in
    let left = length-drop count octets in
    omega arith

-- each way in which a report ends
pub ruleset report_ends = (faulty_ends, prefix_ends, fault_ends)
