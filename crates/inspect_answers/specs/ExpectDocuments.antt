-- The documents of expectations, and what is said of their written form.
use Rattle.std.specs.Prelude.{◌≡◌, ℕ, ◌&&◌, ◌∷◌, [], List, Bool, true, codes, nat_le, None, Err}
use Rattle.std.specs.List.{list_all}
use Rattle.serde_json.specs.Data.{Data, member, no_members, object, string}
use Rattle.serde_json.specs.Find.{as_object, as_str}
use Rattle.ov_types.specs.Texts.{address_text}
use Rattle.ov_types.specs.declared.numbers.ServiceNo.{ServiceNo}
use Rattle.config_model.specs.declared.fault.DocKind.TheVariants.{Kind}
use Rattle.config_model.specs.Documents.{config_document, list_document, number_document, topology_document}
use Rattle.config_model.specs.Laws.{OtherTextIsRange, ReadHasJust, compile_form, fault_at, is_among}
use Rattle.config_types.specs.Form.{has_packet_form}
use Rattle.inspect_answers.specs.Expectations.{ExpectInput, Expectation, expect_at, expectation_at, expected_at}
use Rattle.inspect_answers.specs.declared.expectation.Expected.{Expected}
use Rattle.inspect_answers.specs.declared.expectation.Expected.TheVariants.{Dropped, NoSourcePort, NoDestination, NoRoute, Denied, Delivered}

abbrev pub service_document : ServiceNo → Data
service_document s = number_document s.0

abbrev pub expected_document : Expected → Data
expected_document Dropped = string (codes "dropped")
expected_document NoSourcePort = string (codes "dropped no-source-port")
expected_document NoDestination = string (codes "dropped no-destination")
expected_document NoRoute = string (codes "dropped no-route")
expected_document Denied = string (codes "dropped denied")
expected_document (Delivered port services) =
    object (member (codes "port") (number_document port.0)
    (member (codes "services") (list_document service_document services) no_members))

abbrev pub expectation_document : Expectation → Data
expectation_document e = object (member (codes "dport") (number_document e.packet.tuple.dport)
    (member (codes "expect") (expected_document e.expected)
    (member (codes "port") (number_document e.packet.source.0)
    (member (codes "protocol") (number_document e.packet.tuple.proto)
    (member (codes "sport") (number_document e.packet.tuple.sport)
    (member (codes "to") (string (address_text e.packet.destination.0)) no_members))))))

abbrev pub expect_document : ExpectInput → Data
expect_document r = object (member (codes "configuration") (config_document r.input.config)
    (member (codes "packets") (list_document expectation_document r.packets)
    (member (codes "topology") (topology_document r.input.topology) no_members)))

-- which expectations have documents: those of the written form
abbrev pub service_form : ServiceNo → Bool
service_form s = nat_le s.0 65535

abbrev pub expected_form : Expected → Bool
expected_form (Delivered port services) = nat_le port.0 524271 && list_all service_form services
expected_form _ = true

abbrev pub expectation_form : Expectation → Bool
expectation_form e = has_packet_form e.packet && expected_form e.expected

abbrev pub expect_form : ExpectInput → Bool
expect_form r = compile_form r.input && list_all expectation_form r.packets

-- what reads as an expectation, and as what `expect` takes, is an object with just these members
abbrev pub ExpectationHasJust : Type 0
ExpectationHasJust = ReadHasJust expectation_at
    (codes "port" ∷ codes "to" ∷ codes "protocol" ∷ codes "sport" ∷ codes "dport" ∷ codes "expect" ∷ []) []

abbrev pub ExpectHasJust : Type 0
ExpectHasJust = ReadHasJust expect_at (codes "topology" ∷ codes "configuration" ∷ codes "packets" ∷ []) []

-- the texts that say what is expected
abbrev pub expected_words : List (List ℕ)
expected_words =
    codes "dropped" ∷ codes "dropped no-source-port" ∷ codes "dropped no-destination" ∷ codes "dropped no-route"
    ∷ codes "dropped denied" ∷ []

-- a text that is none of these is out of range, and what is no text and no object is of another kind, at its own path
abbrev pub OtherIsNoExpectation : Type 0
OtherIsNoExpectation = OtherTextIsRange expected_at (is_among expected_words)

abbrev pub NothingElseIsExpected : Type 0
NothingElseIsExpected = (path : List ℕ) (d : Data) → as_str d ≡ None → as_object d ≡ None
    → expected_at path d ≡ Err (fault_at path Kind)
