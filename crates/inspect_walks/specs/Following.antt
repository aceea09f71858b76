-- What the steps of a walk are to each other, and to what becomes of the packet, as relations.
use Rattle.std.specs.Prelude.{◌≡◌, ◌⊎◌, ℕ, ◌≤◌, ◌++◌, IsTrue, false, List, [], ◌∷◌, Option, Some, None, option_map}
use Rattle.std.specs.List.{All, Contains}
use Rattle.ov_types.specs.Access.{verdict}
use Rattle.ov_types.specs.First.{first_of}
use Rattle.ov_types.specs.Prefix.{Block, contains}
use Rattle.ov_types.specs.declared.numbers.InstanceId.{InstanceId}
use Rattle.ov_types.specs.declared.numbers.ServiceNo.{ServiceNo}
use Rattle.ov_types.specs.declared.packet.Outcome.{Outcome}
use Rattle.ov_types.specs.declared.packet.Outcome.TheVariants.{Delivered, Dropped}
use Rattle.ov_types.specs.declared.packet.Packet.{Packet}
use Rattle.ov_types.specs.declared.packet.Why.TheVariants as Why
use Rattle.ov_types.specs.declared.rows.Entry.{Entry}
use Rattle.ov_types.specs.declared.verdict.Verdict.TheVariants as Says
use Rattle.route_targets.specs.Forwarding.{Forwarder, source_at}
use Rattle.packet_trace.specs.Lookups.{Leading, Lookup, Arrives, Stops, Passes, leading_by}
use Rattle.inspect_walks.specs.Walks.{Step, walk_over}

-- a prefix leads an entry's way in the table of a lookup's instance at its agent
abbrev pub IsRowFor : Lookup → Block → Entry → Type 0
IsRowFor l prefix e = Contains l.agent.rows.routes ((l.instance, prefix), e)

-- a row of that table contains an address, and none of it that contains the address has a longer prefix
pub record IsLongestFor (address : ℕ) (l : Lookup) (row : Block × Entry) : Type 0 where
  pub listed : IsRowFor l row.0 row.1
  pub containing : IsTrue (contains row.0 address)
  pub longest : (prefix : Block) (e : Entry) → IsRowFor l prefix e → IsTrue (contains prefix address) → prefix.len ≤ row.0.len

-- a lookup takes such a row, and none where none of the table contains the address
abbrev pub Takes : ℕ → Lookup → Option (Block × Entry) → Type 0
Takes address l None = (prefix : Block) (e : Entry) → IsRowFor l prefix e → contains prefix address ≡ false
Takes address l (Some row) = IsLongestFor address l row

-- a step takes its row, and leads to what is under the row's label at the agent of the row's next hop
pub record IsStep (agents : List Forwarder) (address : ℕ) (s : Step) : Type 0 where
  pub takes : Takes address s.lookup s.row
  pub leads : s.leads ≡ leading_by agents (option_map (λ r. r.1) s.row)

-- a packet starts at the first agent that has its source port: in the instance of the port's network where the access
-- lists there pass it, and else in the one that they have it enter
pub record IsStart (agents : List Forwarder) (p : Packet) (l : Lookup) : Type 0 where
  pub network : InstanceId
  pub first : first_of (source_at p) agents ≡ Some (l.agent, network)
  pub entered : ((verdict l.agent.rows.acls network.0 p ≡ Says.Pass) × (l.instance ≡ network))
      ⊎ (verdict l.agent.rows.acls network.0 p ≡ Says.Enter l.instance)

abbrev pub Starts : List Forwarder → Packet → List Step → Type 0
Starts agents p [] = Unit {0}
Starts agents p (s ∷ ss) = IsStart agents p s.lookup

-- a step leads to a service, behind which is the lookup of the next
abbrev pub LeadsInto : Step → Step → Type 0
LeadsInto s next = (service : ServiceNo) × (s.leads ≡ Passes service next.lookup)

abbrev pub GoOn : List Step → Type 0
GoOn [] = Unit {0}
GoOn (s ∷ []) = Unit {0}
GoOn (s ∷ next ∷ ss) = LeadsInto s next × GoOn (next ∷ ss)

-- how steps end, behind these services
abbrev pub ended_by : (List ServiceNo → Option Outcome) → List ServiceNo → Leading → Option Outcome
ended_by again services (Arrives port) = Some (Delivered port services)
ended_by again services (Stops why) = Some (Dropped why)
ended_by again services (Passes service l) = again (services ++ service ∷ [])

abbrev pub ended : List Step → List ServiceNo → Option Outcome
ended [] services = None
ended (s ∷ ss) services = ended_by (ended ss) services s.leads

-- a packet is dropped before its first lookup
abbrev pub IsDroppedBefore : Outcome → Type 0
IsDroppedBefore (Dropped Why.NoSourcePort) = Unit {0}
IsDroppedBefore (Dropped Why.NoDestination) = Unit {0}
IsDroppedBefore (Dropped (Why.Denied rule)) = Unit {0}
IsDroppedBefore _ = ⊥

-- steps end as an outcome says: at its port behind its services, or where it is dropped. There is no step only where it is
-- dropped before
abbrev pub EndAs : Outcome → List Step → Type 0
EndAs outcome [] = IsDroppedBefore outcome
EndAs outcome (s ∷ ss) = ended (s ∷ ss) [] ≡ Some outcome

-- the steps of a packet over agents that comes to an outcome: those of its trace, each of which takes its row, begins
-- where the one before leads, and the last of which ends as the outcome says
pub record IsWalk (agents : List Forwarder) (p : Packet) (outcome : Outcome) (ss : List Step) : Type 0 where
  pub traced : ss ≡ walk_over agents p
  pub each : All (IsStep agents p.destination.0) ss
  pub starts : Starts agents p ss
  pub go_on : GoOn ss
  pub ends : EndAs outcome ss
