-- What low-level objects must be like so that a settled network shows their compiled rows.
use Rattle.std.specs.Prelude.{◌≡◌, ◌⊎◌, ℕ, suc, ◌<◌, ◌≤◌, List, true, false, not}
use Rattle.ov_types.specs.Prefix.{Block, is_inside}
use Rattle.ov_types.specs.declared.numbers.InstanceId.{InstanceId}
use Rattle.ov_types.specs.declared.prefix.Addr.{Addr}
use Rattle.ov_types.specs.declared.rows.TableRow.{TableRow}
use Rattle.node_laws.specs.NodeModel.Members.{Member}
use Rattle.node_laws.specs.NodeModel.Maps.{Map}
use Rattle.node_laws.specs.NodeModel.Uses.{imports, is_hop, is_known}
use Rattle.node_laws.specs.NodeModel.Reaching.{Side, sides, network, subnets, hop_at, circuit_at}
use Rattle.node_laws.specs.NodeModel.Ranks.{AreOrdered}
use Rattle.machine_laws.specs.Compiled.{Agents, Attachment, attachments, circuit_prefix, table_rows}

-- the network at the other end of the chain
abbrev pub other : Side → Side
other s = record { chain = s.chain; is_right = not s.is_right }

-- an attachment is the circuit of a side that is d places from its end
abbrev pub IsCircuitAt : Side → ℕ → Attachment → Type 0
IsCircuitAt s d a = (a.instance ≡ hop_at s d) × (a.prefix ≡ circuit_prefix (circuit_at s d))

pub record IsSound (feed : Map) : Type 0 where
  -- uses are within their ranges, and no subnet of one side lies within one of the other
  pub ordered : AreOrdered feed
  -- attachments stand in known instances
  pub known : (a : Attachment) → Member a (attachments feed) → is_known feed a.instance ≡ true
  -- networks import networks
  pub imports_small : (i n : InstanceId) → is_hop i ≡ false → Member n (imports feed i) → n.0 < 16384
  -- the circuits of each service of a use are attached
  pub circuits : (s : Side) (d : ℕ) → Member s (sides feed) → d < s.chain.services
      → (a : Attachment) × Member a (attachments feed) × IsCircuitAt s (suc d) a
  -- no circuit of a use, and no port of its other network, lies within a subnet of one side
  pub circuits_apart : (s : Side) (subnet : Block) (a : Attachment) (d : ℕ) → d ≤ s.chain.services
      → Member s (sides feed) → Member subnet (subnets s) → Member a (attachments feed) → a.instance ≡ hop_at s d
      → is_inside a.prefix subnet ≡ false
  pub ports_apart : (s : Side) (subnet : Block) (a : Attachment) → Member s (sides feed)
      → Member subnet (subnets s) → Member a (attachments feed) → a.instance ≡ network (other s)
      → is_inside a.prefix subnet ≡ false
  -- no two attachments that an instance imports have one prefix
  pub one_host : (i : InstanceId) (a b : Attachment) → Member a (attachments feed) → Member b (attachments feed)
      → Member a.instance (imports feed i) → Member b.instance (imports feed i) → a.prefix ≡ b.prefix → a ≡ b

-- an agent with this address is among these
abbrev pub IsAmong : Addr → Agents → Type 0
IsAmong address agents = (e : ℕ × Addr) × Member e agents × (e.1 ≡ address)

-- each attachment is at an agent of the control node, or of one of its peers
abbrev pub IsServed : Map → Agents → List Agents → Type 0
IsServed feed agents peers =
    (a : Attachment) → Member a (attachments feed)
    → IsAmong a.node agents ⊎ ((o : Agents) × Member o peers × IsAmong a.node o)

-- a table has one row for each prefix
abbrev pub HasOneRow : Map → InstanceId → Type 0
HasOneRow feed i =
    (p : Block) (a b : TableRow) → Member (p, a) (table_rows feed i) → Member (p, b) (table_rows feed i) → a ≡ b
