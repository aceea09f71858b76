-- The written form of a packet, and of what the commands take.
use Rattle.std.specs.Prelude.{ℕ, ◌∷◌, [], List, codes, Result, Ok}
use Rattle.serde_json.specs.Data.{Data}
use Rattle.ov_types.specs.declared.packet.Packet.{Packet}
use Rattle.config_model.specs.declared.fields.Count.TheVariants.{AnyNumber}
use Rattle.config_model.specs.declared.input.CompileInput.{CompileInput}
use Rattle.config_model.specs.declared.input.ReachInput.{ReachInput}
use Rattle.config_model.specs.Faults.{Fault, ◌>>=◌}
use Rattle.config_model.specs.Fields.{object_at, in_member, whole_at, address_at, only_at, all_at}
use Rattle.config_model.specs.Topology.{topology_at}
use Rattle.config_model.specs.Config.{config_at}

unfoldable pub packet_at : List ℕ → Data → Result Packet Fault
packet_at path d = do
  members ← object_at path d
  port ← in_member (whole_at 0 524271) path (codes "port") d
  to ← in_member (address_at 0 0xffff_ffff) path (codes "to") d
  protocol ← in_member (whole_at 0 255) path (codes "protocol") d
  sport ← in_member (whole_at 0 65535) path (codes "sport") d
  dport ← in_member (whole_at 0 65535) path (codes "dport") d
  done ← only_at path (codes "port" ∷ codes "to" ∷ codes "protocol" ∷ codes "sport" ∷ codes "dport" ∷ []) members
  Ok (record {
    source = record { 0 = port };
    destination = to;
    tuple = record { proto = protocol; sport = sport; dport = dport };
  })

-- what `compile` takes
unfoldable pub compile_at : List ℕ → Data → Result CompileInput Fault
compile_at path d = do
  members ← object_at path d
  topology ← in_member topology_at path (codes "topology") d
  config ← in_member config_at path (codes "configuration") d
  done ← only_at path (codes "topology" ∷ codes "configuration" ∷ []) members
  Ok (record { topology = topology; config = config })

-- what `reach` takes
unfoldable pub reach_at : List ℕ → Data → Result ReachInput Fault
reach_at path d = do
  members ← object_at path d
  topology ← in_member topology_at path (codes "topology") d
  config ← in_member config_at path (codes "configuration") d
  packets ← in_member (all_at packet_at AnyNumber) path (codes "packets") d
  done ← only_at path (codes "topology" ∷ codes "configuration" ∷ codes "packets" ∷ []) members
  Ok (record { input = record { topology = topology; config = config }; packets = packets })
