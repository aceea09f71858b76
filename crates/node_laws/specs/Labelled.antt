-- What an agent shows of its slice, and what it wants to have told, as relations.
use Rattle.std.specs.Prelude.{◌≡◌, ◌⊎◌, ℕ, List}
use Rattle.ov_types.specs.Prefix.{Block}
use Rattle.ov_types.specs.declared.numbers.InstanceId.{InstanceId}
use Rattle.ov_types.specs.declared.numbers.PortNo.{PortNo}
use Rattle.ov_types.specs.declared.numbers.ServiceNo.{ServiceNo}
use Rattle.ov_types.specs.declared.objects.LowKey.{LowKey}
use Rattle.ov_types.specs.declared.objects.LowKey.TheVariants as key
use Rattle.ov_types.specs.declared.objects.LowValue.{LowValue}
use Rattle.ov_types.specs.declared.objects.LowValue.TheVariants as low
use Rattle.ov_types.specs.declared.prefix.Addr.{Addr}
use Rattle.ov_types.specs.declared.rows.Attached.{Attached}
use Rattle.ov_types.specs.declared.rows.Attached.TheVariants.{Port, Circuit}
use Rattle.node_model.specs.Members.{Member}
use Rattle.node_model.specs.Keys.{Key, Publish, Subscribe}
use Rattle.node_model.specs.Agent.{IsNeeded}

-- a label leads to the port or the circuit that a slice attaches under it
pub data LeadsTo (slice : List (LowKey × LowValue)) (label : ℕ) (a : Attached) : Type 0 where
  to_port : (port : PortNo) (instance : InstanceId) (address node : Addr)
      → Member (key.Attach label, low.AttachPort port instance address node) slice → a ≡ Port port instance
      → LeadsTo slice label a
  to_circuit : (circuit : ℕ) (service : ServiceNo) (node : Addr)
      → Member (key.Attach label, low.AttachCircuit circuit service node) slice → a ≡ Circuit circuit service
      → LeadsTo slice label a

-- an access list of a slice
abbrev pub IsAccessList : List (LowKey × LowValue) → LowKey → LowValue → Type 0
IsAccessList slice k v = Member (k, v) slice × ((from : ℕ) × (to : ℕ) × (k ≡ key.Acl from to))

-- what an agent may have to tell: a publication, or the subscription of an instance that it needs
abbrev pub IsToldUp : List (LowKey × LowValue) → Key → Type 0
IsToldUp slice k =
    ((i : InstanceId) × (prefix : Block) × (k ≡ Publish i prefix))
    ⊎ ((i : InstanceId) × (k ≡ Subscribe i) × IsNeeded slice i)
