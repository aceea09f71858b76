-- The first tie that a configuration breaks.
use Rattle.std.specs.Prelude.{◌≡◌, ◌≢◌, ◌⊎◌, ℕ, List, ◌==◌, ◌&&◌, ◌||◌, Bool, false, not, Option, Some, None, if◌then◌else◌}
use Rattle.ov_types.specs.First.{first_of, same_name, ◌<|>◌}
use Rattle.ov_types.specs.declared.numbers.InstanceId.{InstanceId}
use Rattle.ov_types.specs.declared.numbers.PortNo.{PortNo}
use Rattle.ov_types.specs.declared.prefix.Addr.{Addr}
use Rattle.config_types.specs.declared.config.Action.{Action}
use Rattle.config_types.specs.declared.config.Action.TheVariants.{Pass, Deny, Through}
use Rattle.config_types.specs.declared.config.Config.{Config}
use Rattle.config_types.specs.declared.config.Port.{Port}
use Rattle.config_types.specs.declared.config.Rule.{Rule}
use Rattle.config_types.specs.declared.topology.Node.{Node}
use Rattle.config_types.specs.declared.topology.Topology.{Topology}
use Rattle.config_check.specs.Checked.{Checked}
use Rattle.policy_rules.specs.Related.{all_rules}
use Rattle.schedule_script.specs.declared.breaking.Tie.{Tie}
use Rattle.schedule_script.specs.declared.breaking.Tie.TheVariants as Tied
use Rattle.schedule_script.specs.Ties.{HasNode, HasPort, HasUse, Ties}
use Rattle.schedule_script.specs.Tying.{ends_of, home_id}

-- a number has a tie, and is elsewhere
abbrev pub moved : Option InstanceId → Option InstanceId → Bool
moved (Some m) (Some n) = not (m.0 == n.0)
moved _ _ = false

abbrev pub moved_pair : Option (InstanceId × InstanceId) → Option (InstanceId × InstanceId) → Bool
moved_pair (Some m) (Some n) = not ((m.0.0 == n.0.0) && (m.1.0 == n.1.0))
moved_pair _ _ = false

-- a port is in another network than the tie of its number has
abbrev pub broken_port : Ties → Config → Port → Option Tie
broken_port t c p = if moved (t.port p.id) (home_id c p) then Some (Tied.Port p.id) else None

-- a chain rule names other networks than the tie of its number has
abbrev pub broken_use : Ties → Config → Rule → Action → Option Tie
broken_use t c r Pass = None
broken_use t c r Deny = None
broken_use t c r (Through chain use_no) =
    if moved_pair (t.chain_use use_no) (ends_of c r) then Some (Tied.ChainUse use_no) else None

abbrev pub moved_address : Option Addr → Addr → Bool
moved_address (Some a) b = not (a.0 == b.0)
moved_address None b = false

abbrev pub renamed : Option (List ℕ) → List ℕ → Bool
renamed (Some m) n = not (same_name m n)
renamed None n = false

-- a compute node is at another address than the tie of its name has, or has another name than the tie of its address
abbrev pub broken_node : Ties → Node → Option Tie
broken_node t n =
    if moved_address (t.address n.name) n.address || renamed (t.name n.address) n.name then Some (Tied.Node n.address)
    else None

-- the first tie that is broken: those of ports before those of uses, and these before those of compute nodes, each in the
-- document's order
abbrev pub broken_tie : Ties → Checked → Option Tie
broken_tie t x =
    first_of (broken_port t x.config) x.config.ports
    <|> (first_of (λ r. broken_use t x.config r.rule r.rule.action) (all_rules x.config)
    <|> first_of (broken_node t) x.topology.nodes)

-- ---- what it is to break a tie
-- a port is in another network than the tie of its number has
pub record BreaksPort (t : Ties) (c : Config) (number : PortNo) : Type 0 where
  pub tied : InstanceId
  pub home : InstanceId
  pub has_tie : t.port number ≡ Some tied
  pub has_port : HasPort c number home
  pub differ : tied ≢ home

-- a chain rule leads between other networks than the tie of its number has
pub record BreaksUse (t : Ties) (c : Config) (number : ℕ) : Type 0 where
  pub tied : InstanceId × InstanceId
  pub ends : InstanceId × InstanceId
  pub has_tie : t.chain_use number ≡ Some tied
  pub has_use : HasUse c number ends
  pub differ : tied ≢ ends

-- a compute node of a name with a tie is at another address
pub record MovesAddress (t : Ties) (x : Topology) (address : Addr) : Type 0 where
  pub name : List ℕ
  pub tied : Addr
  pub has_tie : t.address name ≡ Some tied
  pub has_node : HasNode x name address
  pub differ : tied ≢ address

-- one at an address with a tie has another name
pub record Renames (t : Ties) (x : Topology) (address : Addr) : Type 0 where
  pub name : List ℕ
  pub tied : List ℕ
  pub has_tie : t.name address ≡ Some tied
  pub has_node : HasNode x name address
  pub differ : tied ≢ name

-- the compute node at this address breaks the tie of its name or of the address
abbrev pub BreaksNode : Ties → Topology → Addr → Type 0
BreaksNode t x address = MovesAddress t x address ⊎ Renames t x address

-- a tie is broken; one of a use is named only where no port breaks its own, and one of a compute node only where no port
-- and no use does
abbrev pub IsBroken : Ties → Checked → Tie → Type 0
IsBroken t x (Tied.Port number) = BreaksPort t x.config number
IsBroken t x (Tied.ChainUse number) =
    BreaksUse t x.config number × ((p : PortNo) → ¬ BreaksPort t x.config p)
IsBroken t x (Tied.Node address) =
    BreaksNode t x.topology address
    × (((p : PortNo) → ¬ BreaksPort t x.config p) × ((u : ℕ) → ¬ BreaksUse t x.config u))
