-- Access lists: what becomes of a packet that leaves a network, by the lists of an agent.
use Rattle.std.specs.Prelude.{ℕ, ◌==◌, ◌&&◌, nat_le, Bool, true, List, [], ◌∷◌, find, Option, Some, None, if◌then◌else◌}
use Rattle.std.specs.List.{list_any}
use Rattle.ov_types.specs.Prefix.{contains}
use Rattle.ov_types.specs.declared.packet.Packet.{Packet}
use Rattle.ov_types.specs.declared.packet.Range16.{Range16}
use Rattle.ov_types.specs.declared.packet.RuleNo.{RuleNo}
use Rattle.ov_types.specs.declared.packet.Tuple.{Tuple}
use Rattle.ov_types.specs.declared.objects.AclAction.{AclAction}
use Rattle.ov_types.specs.declared.objects.AclAction.TheVariants as Does
use Rattle.ov_types.specs.declared.objects.AclRule.{AclRule}
use Rattle.ov_types.specs.declared.objects.LowKey.{LowKey}
use Rattle.ov_types.specs.declared.objects.LowKey.TheVariants as Key
use Rattle.ov_types.specs.declared.objects.LowValue.{LowValue}
use Rattle.ov_types.specs.declared.objects.LowValue.TheVariants as Value
use Rattle.ov_types.specs.declared.verdict.Verdict.{Verdict}
use Rattle.ov_types.specs.declared.verdict.Verdict.TheVariants.{Pass, Enter, Denied, NoDestination}

-- a port number lies in a range, both ends included
abbrev pub in_range : Range16 → ℕ → Bool
in_range r n = nat_le r.lo n && nat_le n r.hi

-- an entry's protocol: none is every protocol
abbrev pub is_of_protocol : Option ℕ → ℕ → Bool
is_of_protocol None n = true
is_of_protocol (Some m) n = m == n

-- an entry holds a tuple
abbrev pub holds : AclRule → Tuple → Bool
holds r t = is_of_protocol r.protocol t.proto && in_range r.sports t.sport && in_range r.dports t.dport

-- where an access list leads, and its entries
pub record Access : Type 0 where
  pub to : ℕ
  pub rules : List AclRule

-- an object as the access list of a network, where its subnets hold an address
abbrev pub access_by : ℕ → ℕ → LowKey → LowValue → Option Access
access_by network address (Key.Acl from to) (Value.Acl subnets rules) =
    if (from == network) && list_any (λ p. contains p address) subnets
    then Some (record { to = to; rules = rules }) else None
access_by network address _ _ = None

-- the one of two access lists that leads to the lesser network
abbrev pub lesser : Option Access → Option Access → Option Access
lesser None y = y
lesser (Some x) None = Some x
lesser (Some x) (Some y) = if nat_le x.to y.to then Some x else Some y

-- the access list that leads to the least network, among those of a network whose subnets hold an address
abbrev pub access_towards : ℕ → ℕ → List (LowKey × LowValue) → Option Access
access_towards network address [] = None
access_towards network address (e ∷ es) = lesser (access_by network address e.0 e.1) (access_towards network address es)

abbrev pub verdict_of : AclAction → RuleNo → Verdict
verdict_of Does.Pass number = Pass
verdict_of Does.Deny number = Denied (Some number)
verdict_of (Does.Enter instance) number = Enter instance

-- the first entry that holds the tuple decides; where none does, the packet is denied by no rule
abbrev pub verdict_by : Option AclRule → Verdict
verdict_by None = Denied None
verdict_by (Some r) = verdict_of r.action r.rule

-- a list that leads to the network itself passes
abbrev pub verdict_in : ℕ → Tuple → Option Access → Verdict
verdict_in network t None = NoDestination
verdict_in network t (Some x) = if x.to == network then Pass else verdict_by (find (λ r. holds r t) x.rules)

-- the verdict on a packet that leaves a network, by an agent's access lists
unfoldable pub verdict : List (LowKey × LowValue) → ℕ → Packet → Verdict
verdict lists network p = verdict_in network p.tuple (access_towards network p.destination.0 lists)
