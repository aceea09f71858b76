-- What the answer of `expect` promises of packets.
use Rattle.std.specs.Prelude.{◌≡◌, ◌<◌, ◌^◌, ◌↔◌, ℕ, ◌+◌, IsTrue, List, [], ◌++◌, flat_map, length, slice_get, Option, Some, None, Ok}
use Rattle.std.specs.List.{All, AllPairs, Any, Contains}
use Rattle.std.specs.Io.KnownBytes.{Appends}
use Rattle.serde_json.specs.Data.{Data}
use Rattle.ov_io.specs.Json.{json_of}
use Rattle.ov_types.specs.declared.packet.Outcome.{Outcome}
use Rattle.ov_types.specs.declared.packet.Outcome.TheVariants as Comes
use Rattle.ov_types.specs.declared.packet.RuleNo.{RuleNo}
use Rattle.ov_types.specs.declared.packet.Why.{Why}
use Rattle.ov_types.specs.declared.packet.Why.TheVariants as Reason
use Rattle.config_types.specs.declared.config.Config.{Config}
use Rattle.config_check.specs.Rules.{first_broken}
use Rattle.reach_plain.specs.Reachability.{reachability}
use Rattle.inspect_answers.specs.Expectations.{ExpectInput, Expectation, expect_at}
use Rattle.inspect_answers.specs.ExpectValues.{counts_value, has_expected_size, unmet_value}
use Rattle.inspect_answers.specs.Expecting.{counts_in, unmet_line_in}
use Rattle.inspect_answers.specs.declared.expectation.Expected.{Expected}
use Rattle.inspect_answers.specs.declared.expectation.Expected.TheVariants.{Dropped, NoSourcePort, NoDestination, NoRoute, Denied, Delivered}
use Rattle.inspect_json.specs.Form.{IsReadBack}
use Rattle.inspect_json.specs.declared.form.Form.{Form}
use Rattle.inspect_answers.specs.declared.top.Status.{Status}
use Rattle.inspect_answers.specs.declared.top.Status.TheVariants as Ended

-- an outcome is as expected: it is a drop, for this reason where one is named, or just this delivery
abbrev pub IsMet : Expected → Outcome → Type 0
IsMet Dropped outcome = (why : Why) × (outcome ≡ Comes.Dropped why)
IsMet NoSourcePort outcome = outcome ≡ Comes.Dropped Reason.NoSourcePort
IsMet NoDestination outcome = outcome ≡ Comes.Dropped Reason.NoDestination
IsMet NoRoute outcome = outcome ≡ Comes.Dropped Reason.NoRoute
IsMet Denied outcome = (rule : Option RuleNo) × (outcome ≡ Comes.Dropped (Reason.Denied rule))
IsMet (Delivered port services) outcome = outcome ≡ Comes.Delivered port services

-- what becomes of a packet is as expected
abbrev pub ComesSo : Config → Expectation → Type 0
ComesSo c e = IsMet e.expected (reachability c e.packet)

-- a line: the number of a packet, what is expected of it, and what comes
pub record Unmet : Type 0 where
  pub number : ℕ
  pub expected : Expected
  pub outcome : Outcome

abbrev pub line_in : Form → Config → Unmet → List ℕ
line_in form c l = unmet_line_in form c l.number l.expected l.outcome

-- what a line of JSON says
abbrev pub line_value : Config → Unmet → Data
line_value c l = unmet_value c l.number l.expected l.outcome

-- a line is of the packet of its number, counted from 1: with what is expected of that, and what comes otherwise
pub record IsUnmet (c : Config) (packets : List Expectation) (line : Unmet) : Type 0 where
  pub place : ℕ
  pub expectation : Expectation
  pub stands : slice_get packets place ≡ Some expectation
  pub number : line.number ≡ place + 1
  pub expected : line.expected ≡ expectation.expected
  pub outcome : line.outcome ≡ reachability c expectation.packet
  pub otherwise : ¬ ComesSo c expectation

-- the input is a document of this topology, this configuration and these expectations
abbrev pub IsExpectedIn : List ℕ → ExpectInput → Type 0
IsExpectedIn octets r = (d : Data) × (json_of octets ≡ Some d) × (expect_at [] d ≡ Ok r)

-- the input has a valid configuration and expectations, and these lines were taken in the form that is asked for, in the order
-- of the packets, and one that counts both: of each packet whose outcome is otherwise; the run ends so where each is as expected,
-- and so where one is not; and the JSON of each line reads as what it says (of fewer than 2 ^ 64 packets, where the numbers of
-- what is expected have the sizes of their types)
pub record TookExpected (form : Form) (status : Status) (octets : List ℕ) (old new : Option (List ℕ)) : Type 0 where
  pub read : ExpectInput
  pub written : IsExpectedIn octets read
  pub valid : first_broken read.input.topology read.input.config ≡ None
  pub lines : List Unmet
  pub taken : Appends old new (flat_map (line_in form read.input.config) lines ++ counts_in form (length read.packets) (length lines))
  pub exact : (line : Unmet) → Contains lines line ↔ IsUnmet read.input.config read.packets line
  pub in_order : AllPairs (λ l m. l.number < m.number) lines
  pub met : (status ≡ Ended.Done) ↔ All (ComesSo read.input.config) read.packets
  pub unmet : (status ≡ Ended.Differs) ↔ Any (λ e. ¬ ComesSo read.input.config e) read.packets
  pub reads : length read.packets < 2 ^ 64 → (line : Unmet) → Contains lines line → IsTrue (has_expected_size line.expected)
      → IsReadBack (line_value read.input.config line)
  pub counts_read : length read.packets < 2 ^ 64 → IsReadBack (counts_value (length read.packets) (length lines))
