-- How soon what configurations have in common is there again: rounds are counted, whatever other edits go on meanwhile.
use Rattle.std.specs.Prelude.{◌≡◌, ◌≤◌, ◌<◌, ◌++◌, ℕ, ◌+◌, List, [], ◌∷◌, length, Bool, true, false, if◌then◌else◌}
use Rattle.std.specs.List.{AllByRecursion}
use Rattle.ov_types.specs.Prefix.{Block}
use Rattle.ov_types.specs.declared.numbers.InstanceId.{InstanceId}
use Rattle.ov_types.specs.declared.numbers.PortNo.{PortNo}
use Rattle.ov_types.specs.declared.numbers.ServiceNo.{ServiceNo}
use Rattle.ov_types.specs.declared.objects.AclRule.{AclRule}
use Rattle.ov_types.specs.declared.objects.LowKey.TheVariants as key
use Rattle.ov_types.specs.declared.objects.LowValue.TheVariants as low
use Rattle.ov_types.specs.declared.packet.Outcome.TheVariants.{Delivered}
use Rattle.ov_types.specs.declared.packet.Packet.{Packet}
use Rattle.route_targets.specs.Forwarding.{forwarding, walk}
use Rattle.config_types.specs.declared.topology.Node.{Node}
use Rattle.schedule_script.specs.ConfigCheck.Checked.{Checked}
use Rattle.transform_model.specs.Objects.{low_objects}
use Rattle.node_laws.specs.NodeModel.Members.{Member}
use Rattle.node_laws.specs.NodeModel.Reaching.{Side, sides}
use Rattle.machine_model.specs.Events.{MachineEvent, Round, Settle, after, forwarders, next}
use Rattle.machine_model.specs.Moments.{ArePositive, EditsAreValid}
use Rattle.machine_model.specs.Network.{MachineState, start}
use Rattle.machine_model.specs.Rounds.{is_unbroken, is_whole}
use Rattle.machine_model.specs.Session.{Message}
use Rattle.machine_model.specs.Setup.{Name, opening}
use Rattle.machine_laws.specs.Headline.{IsOfForm, IsWritten}
use Rattle.machine_moment_laws.specs.Arriving.{IsCommonWay, IsDeliveredByOne, IsLedByAll, StartsInCommon, agent_at_node}
use Rattle.machine_moment_laws.specs.Common.{WhatIsCommonStays, common}
use Rattle.machine_moment_laws.specs.Windows.{IsOfWindow, configurations}

-- ---- the moment from which on
-- no session is down, and no break is pending. What is held and what is in flight may be of any configuration, and greetings
-- may be in flight too
pub record NoneIsDown (w : MachineState) : Type 0 where
  pub whole : is_whole w ≡ true
  pub unbroken : is_unbroken w ≡ true

-- ---- rounds
-- each round counts, also while sessions are down that an edit brought, of a compute node that it moves. To settle counts as
-- the one that it begins with
abbrev pub counts : MachineState → MachineEvent → Bool
counts w Round = true
counts w Settle = true
counts w _ = false

module _ (size : Name → Message → ℕ) where
  abbrev pub rounds_in : MachineState → List MachineEvent → ℕ
  rounds_in w [] = 0
  rounds_in w (e ∷ es) = (if counts w e then 1 else 0) + rounds_in (next size w e) es

-- ---- at every moment so many rounds later
-- From any moment of any schedule at which no session is down let no session be lost, no node restart and no send be broken.
-- At every moment from there: of the rounds so far, of the configurations so far, and of the network
abbrev pub AtMomentsSince : (ℕ → List Checked → MachineState → Type 0) → Type 0
AtMomentsSince P =
    (size : Name → Message → ℕ) → ArePositive size
    → (x : Checked) → IsWritten (opening x)
    → (before : List MachineEvent) → EditsAreValid size IsOfForm (start x) before
    → NoneIsDown (after size (start x) before)
    → (es : List MachineEvent) → AllByRecursion IsOfWindow es
    → EditsAreValid size IsOfForm (after size (start x) before) es
    → P (rounds_in size (after size (start x) before) es) (configurations size (after size (start x) before) es)
    (after size (after size (start x) before) es)

-- a fact that holds once as many rounds have passed
abbrev pub Later : ℕ → (List Checked → MachineState → Type 0) → ℕ → List Checked → MachineState → Type 0
Later least P rounds cs w = least ≤ rounds → P cs w

-- ---- what is there again
-- no use that the configurations have in common has more services
abbrev pub HaveAtMost : List Checked → ℕ → Type 0
HaveAtMost cs most = (s : Side) → Member s (sides (common cs)) → s.chain.services ≤ most

-- all that is common: five rounds later, and one more for each service of the longest use in common
abbrev pub AllIsBack : ℕ → List Checked → MachineState → Type 0
AllIsBack rounds cs w = (most : ℕ) → HaveAtMost cs most → most + 5 ≤ rounds → WhatIsCommonStays cs w

-- a packet goes a common way: five rounds later, and one more for each service of that way
abbrev pub GoesTheWayAgain : ℕ → List Checked → MachineState → Type 0
GoesTheWayAgain rounds cs w =
    (n : Node) (i : InstanceId) (address : ℕ) (services : List ServiceNo) (q : PortNo) → IsCommonWay cs n i address services q
    → length services + 5 ≤ rounds → (left : ℕ) (before : List ServiceNo) → length services < left
    → walk (forwarders w) address left (agent_at_node w n) before i ≡ Delivered q (before ++ services)

-- none of the ways along which the configurations lead a packet has more services
abbrev pub AreShort : ℕ → (cs : List Checked) (n : Node) (from : InstanceId) (to : ℕ) (p : Packet) (q : PortNo) → IsLedByAll cs n from to p q → Type 0
AreShort most cs n from to p q h =
    (c : Checked) (subnets : List Block) (rules : List AclRule) (among : Member c cs)
    (has : Member (key.Acl from.0 to, low.Acl subnets rules) (low_objects c.topology c.config))
    → length (h.ways c subnets rules among has).services ≤ most

-- a packet is delivered by the way of one configuration: five rounds later, and one more for each service of the longest of
-- its own ways
abbrev pub DeliversAgain : ℕ → List Checked → MachineState → Type 0
DeliversAgain rounds cs w =
    (n : Node) (from : InstanceId) (to : ℕ) (p : Packet) (q : PortNo) → StartsInCommon cs n from p
    → (h : IsLedByAll cs n from to p q) → (most : ℕ) → AreShort most cs n from to p q h → most + 5 ≤ rounds
    → IsDeliveredByOne cs n from to p q (forwarding (forwarders w) p)
