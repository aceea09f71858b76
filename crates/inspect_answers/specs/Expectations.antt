-- The written form of packets of which something is expected, and of what `expect` takes.
use Rattle.std.specs.Prelude.{ℕ, ◌∷◌, [], List, codes, Option, Some, None, Result, Ok, if◌then◌else◌}
use Rattle.serde_json.specs.Data.{Data}
use Rattle.serde_json.specs.Find.{as_str}
use Rattle.ov_types.specs.First.{same_name}
use Rattle.ov_types.specs.declared.numbers.ServiceNo.{ServiceNo}
use Rattle.config_model.specs.declared.fault.DocKind.TheVariants.{Range}
use Rattle.config_model.specs.declared.fields.Count.TheVariants.{AnyNumber}
use Rattle.config_model.specs.Config.{config_at}
use Rattle.config_model.specs.Faults.{Fault, ◌>>=◌, wanted}
use Rattle.config_model.specs.Fields.{Reads, address_at, all_at, in_member, object_at, only_at, whole_at}
use Rattle.config_model.specs.Topology.{topology_at}
use Rattle.inspect_answers.specs.declared.expectation.Expected.{Expected}
use Rattle.inspect_answers.specs.declared.expectation.Expected.TheVariants as Expects
pub use Rattle.inspect_answers.specs.declared.expectation.Expectation.{Expectation}
pub use Rattle.inspect_answers.specs.declared.expectation.ExpectInput.{ExpectInput}

-- what a text says is expected, in the words of outcomes
abbrev pub expected_named : List ℕ → Option Expected
expected_named text =
    if same_name text (codes "dropped") then Some Expects.Dropped
    else (if same_name text (codes "dropped no-source-port") then Some Expects.NoSourcePort
    else (if same_name text (codes "dropped no-destination") then Some Expects.NoDestination
    else (if same_name text (codes "dropped no-route") then Some Expects.NoRoute
    else (if same_name text (codes "dropped denied") then Some Expects.Denied
    else None))))

-- the number of a service
unfoldable pub service_number_at : Reads ServiceNo
service_number_at path d = do
  number ← whole_at 0 65535 path d
  Ok (record { 0 = number })

-- an object of a port and of services, in order
unfoldable pub delivered_at : Reads Expected
delivered_at path d = do
  members ← object_at path d
  port ← in_member (whole_at 0 524271) path (codes "port") d
  services ← in_member (all_at service_number_at AnyNumber) path (codes "services") d
  done ← only_at path (codes "port" ∷ codes "services" ∷ []) members
  Ok (Expects.Delivered (record { 0 = port }) services)

abbrev pub expected_of : List ℕ → Data → Option (List ℕ) → Result Expected Fault
expected_of path d (Some text) = wanted path Range (expected_named text)
expected_of path d None = delivered_at path d

-- a text, or an object
unfoldable pub expected_at : Reads Expected
expected_at path d = expected_of path d (as_str d)

-- a packet as `reach` takes it, with the member `expect` beside the others
unfoldable pub expectation_at : Reads Expectation
expectation_at path d = do
  members ← object_at path d
  port ← in_member (whole_at 0 524271) path (codes "port") d
  to ← in_member (address_at 0 0xffff_ffff) path (codes "to") d
  protocol ← in_member (whole_at 0 255) path (codes "protocol") d
  sport ← in_member (whole_at 0 65535) path (codes "sport") d
  dport ← in_member (whole_at 0 65535) path (codes "dport") d
  expected ← in_member expected_at path (codes "expect") d
  done ← only_at path
      (codes "port" ∷ codes "to" ∷ codes "protocol" ∷ codes "sport" ∷ codes "dport" ∷ codes "expect" ∷ []) members
  Ok (record {
    packet = record {
      source = record { 0 = port };
      destination = to;
      tuple = record { proto = protocol; sport = sport; dport = dport };
    };
    expected = expected;
  })

-- what `expect` takes
unfoldable pub expect_at : Reads ExpectInput
expect_at path d = do
  members ← object_at path d
  topology ← in_member topology_at path (codes "topology") d
  config ← in_member config_at path (codes "configuration") d
  packets ← in_member (all_at expectation_at AnyNumber) path (codes "packets") d
  done ← only_at path (codes "topology" ∷ codes "configuration" ∷ codes "packets" ∷ []) members
  Ok (record { input = record { topology = topology; config = config }; packets = packets })
