-- Which packets have another outcome than is expected, and the lines that say so.
use Rattle.std.specs.Prelude.{ℕ, ◌+◌, ◌==◌, ◌&&◌, Bool, true, false, not, List, [], ◌∷◌, ◌++◌, codes, count_by, decimal, length}
use Rattle.std.specs.Prelude.{if◌then◌else◌}
use Rattle.std.specs.Cmp.Lexicographic.{pointwise}
use Rattle.std.specs.List.{list_all}
use Rattle.ov_types.specs.declared.numbers.PortNo.{PortNo}
use Rattle.ov_types.specs.declared.numbers.ServiceNo.{ServiceNo}
use Rattle.ov_types.specs.declared.packet.Outcome.{Outcome}
use Rattle.ov_types.specs.declared.packet.Outcome.TheVariants as Comes
use Rattle.ov_types.specs.declared.packet.Why.{Why}
use Rattle.ov_types.specs.declared.packet.Why.TheVariants as Reason
use Rattle.config_types.specs.declared.config.Config.{Config}
use Rattle.reach_plain.specs.Reachability.{reachability}
use Rattle.inspect_changes.specs.Report.Outcomes.{services_text, why_text}
use Rattle.inspect_json.specs.Form.{json_line}
use Rattle.inspect_json.specs.declared.form.Form.{Form}
use Rattle.inspect_json.specs.declared.form.Form.TheVariants.{Text, Json}
use Rattle.inspect_answers.specs.ExpectValues.{counts_value, unmet_value}
use Rattle.inspect_answers.specs.Expectations.{Expectation}
use Rattle.inspect_answers.specs.declared.expectation.Expected.{Expected}
use Rattle.inspect_answers.specs.declared.expectation.Expected.TheVariants.{Dropped, NoSourcePort, NoDestination, NoRoute, Denied, Delivered}

-- a packet that is dropped for this reason is dropped as expected
abbrev pub drop_is_met : Expected → Why → Bool
drop_is_met Dropped why = true
drop_is_met NoSourcePort Reason.NoSourcePort = true
drop_is_met NoDestination Reason.NoDestination = true
drop_is_met NoRoute Reason.NoRoute = true
drop_is_met Denied (Reason.Denied rule) = true
drop_is_met _ _ = false

-- an outcome is as expected
abbrev pub is_met : Expected → Outcome → Bool
is_met (Delivered port services) (Comes.Delivered port' services') =
    (port.0 == port'.0) && pointwise (λ s t. s.0 == t.0) services services'
is_met (Delivered port services) (Comes.Dropped why) = false
is_met expected (Comes.Delivered port services) = false
is_met expected (Comes.Dropped why) = drop_is_met expected why

-- what becomes of a packet is as expected
abbrev pub comes_so : Config → Expectation → Bool
comes_so c e = is_met e.expected (reachability c e.packet)

abbrev pub all_met : Config → List Expectation → Bool
all_met c packets = list_all (comes_so c) packets

abbrev pub delivered_text : PortNo → List ServiceNo → List ℕ
delivered_text port services = codes "delivered port " ++ (decimal port.0 ++ (codes " services " ++ services_text services))

-- what is expected, in the words of outcomes
abbrev pub expected_text : Expected → List ℕ
expected_text Dropped = codes "dropped"
expected_text NoSourcePort = codes "dropped no-source-port"
expected_text NoDestination = codes "dropped no-destination"
expected_text NoRoute = codes "dropped no-route"
expected_text Denied = codes "dropped denied"
expected_text (Delivered port services) = delivered_text port services

abbrev pub outcome_text : Outcome → List ℕ
outcome_text (Comes.Delivered port services) = delivered_text port services
outcome_text (Comes.Dropped why) = codes "dropped " ++ why_text why

-- the number of a packet, what is expected of it, and what comes
unfoldable pub unmet_line : ℕ → Expected → Outcome → List ℕ
unmet_line n expected outcome =
    decimal n ++ (codes " expected " ++ (expected_text expected ++ (codes " but " ++ (outcome_text outcome ++ (10 ∷ [])))))

-- the number of a packet, what is expected of it, and what comes, in the form that is asked for
abbrev pub unmet_line_in : Form → Config → ℕ → Expected → Outcome → List ℕ
unmet_line_in Text c n expected outcome = unmet_line n expected outcome
unmet_line_in Json c n expected outcome = json_line (unmet_value c n expected outcome)

-- the line of a packet of this number, where its outcome is otherwise
abbrev pub unmet_in : Form → Config → ℕ → Expectation → List ℕ
unmet_in form c n e = if comes_so c e then [] else unmet_line_in form c n e.expected (reachability c e.packet)

-- the lines of packets, the first with a number
abbrev pub unmet_from : Form → Config → ℕ → List Expectation → List ℕ
unmet_from form c n [] = []
unmet_from form c n (e ∷ es) = unmet_in form c n e ++ unmet_from form c (n + 1) es

-- how many packets have an outcome that is otherwise than is expected
abbrev pub unmet_count : Config → List Expectation → ℕ
unmet_count c packets = count_by (λ e. not (comes_so c e)) packets

-- how many packets there are, and of how many the outcome is otherwise
unfoldable pub counts_line : ℕ → ℕ → List ℕ
counts_line packets otherwise =
    codes "packets " ++ (decimal packets ++ (codes " otherwise " ++ (decimal otherwise ++ (10 ∷ []))))

-- how many packets there are, and of how many the outcome is otherwise, in the form that is asked for
abbrev pub counts_in : Form → ℕ → ℕ → List ℕ
counts_in Text packets otherwise = counts_line packets otherwise
counts_in Json packets otherwise = json_line (counts_value packets otherwise)

-- what `inspect expect` writes of a valid configuration and of packets, which count from 1
unfoldable pub expect_in : Form → Config → List Expectation → List ℕ
expect_in form c packets = unmet_from form c 1 packets ++ counts_in form (length packets) (unmet_count c packets)
