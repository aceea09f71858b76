-- The access list that decides on a packet, and the entries that hold its tuple, in the words of access lists.
use Rattle.std.specs.Prelude.{◌≡◌, ◌≢◌, ◌≤◌, ℕ, IsTrue, List}
use Rattle.std.specs.List.{AllPairs, Any, Contains}
use Rattle.std.specs.Option.{IfSome}
use Rattle.ov_types.specs.Prefix.{Block, contains}
use Rattle.ov_types.specs.declared.packet.Range16.{Range16}
use Rattle.ov_types.specs.declared.packet.Tuple.{Tuple}
use Rattle.ov_types.specs.declared.objects.AclRule.{AclRule}
use Rattle.ov_types.specs.declared.objects.LowKey.{LowKey}
use Rattle.ov_types.specs.declared.objects.LowKey.TheVariants as Key
use Rattle.ov_types.specs.declared.objects.LowValue.{LowValue}
use Rattle.ov_types.specs.declared.objects.LowValue.TheVariants as Value

-- no two objects have one key
abbrev pub IsMap : List (LowKey × LowValue) → Type 0
IsMap lists = AllPairs (λ e f. e.0 ≢ f.0) lists

-- an object is a list from this network to another whose subnets hold the address
pub record Leads (network address to : ℕ) (rules : List AclRule) (object : LowKey × LowValue) : Type 0 where
  pub subnets : List Block
  pub key : object.0 ≡ Key.Acl network to
  pub value : object.1 ≡ Value.Acl subnets rules
  pub holding : Any (λ p. IsTrue (contains p address)) subnets

-- one of the objects is such a list, and no other such list leads to a lesser network
pub record Decides (lists : List (LowKey × LowValue)) (network address to : ℕ) (rules : List AclRule) : Type 0 where
  pub object : LowKey × LowValue
  pub listed : Contains lists object
  pub leading : Leads network address to rules object
  pub least : (other : LowKey × LowValue) (further : ℕ) (entries : List AclRule) → Contains lists other
      → Leads network address further entries other → to ≤ further

-- a port number lies in a range, both ends included
pub record IsWithin (range : Range16) (port : ℕ) : Type 0 where
  pub lo : range.lo ≤ port
  pub hi : port ≤ range.hi

-- an entry holds a tuple: of its protocol, where it names one, and with both ports in its ranges
pub record Holds (rule : AclRule) (tuple : Tuple) : Type 0 where
  pub protocol : IfSome rule.protocol (λ n. n ≡ tuple.proto)
  pub source : IsWithin rule.sports tuple.sport
  pub destination : IsWithin rule.dports tuple.dport
