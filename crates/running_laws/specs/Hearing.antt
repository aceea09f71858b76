-- An end of a session between two nodes, which messages it may hear, and an input that takes no session down.
use Rattle.std.specs.Prelude.{◌≡◌, ◌<◌, ◌⊎◌, ℕ, List, [], length, take, Bool, true, false}
use Rattle.std.specs.List.{slice_index_or}
use Rattle.std.specs.declared.option.Option.TheVariants.{None, Some}
use Rattle.ov_link.specs.declared.step.Input.{Input}
use Rattle.node_model.specs.Members.{Member}
use Rattle.node_model.specs.Step.{Beginning, Phase, Confirmed, Post}
use Rattle.machine_laws.specs.MachineModel.Setup.{Setup}
use Rattle.machine_laws.specs.MachineModel.Session.{Message, Open, Keepalive, Hello, are_peers}
use Rattle.running_nodes.specs.Seats.{Who, Configuring, Controlling, Forwarding, name_of, others_of, role_of, whos}
use Rattle.running_nodes.specs.Stands.{octets_of}
use Rattle.running_nodes.specs.Steps.{BeginsAt}
use Rattle.running_nodes.specs.Telling.{CanSend}

-- the first node's session of this number is with the second
pub record IsBetween (x : Setup) (a b : Who) (i : ℕ) : Type 0 where
  pub near : Member a (whos x)
  pub far : Member b (whos x)
  pub within : i < length (others_of a)
  pub name : slice_index_or (others_of a) i None ≡ Some (name_of b)

-- the input brings no cause for which its session goes down
abbrev pub HasNoCause : (who : Who) (i : ℕ) (p : Post) (kept : List ℕ) (input : Input) (given : Beginning) (left : List ℕ)
    → BeginsAt who i p kept input given left → Type 0
HasNoCause (Configuring x) i p kept input given left begins = begins.0 ≡ None
HasNoCause (Controlling c) i p kept input given left begins = begins.0 ≡ None
HasNoCause (Forwarding plan) i p kept input given left begins = begins.0 ≡ None

-- ---- what a session has, between control nodes or elsewhere
-- there are no hellos between control nodes, and elsewhere no message is an OPEN or a KEEPALIVE
abbrev pub IsMessageOf : Bool → Message → Type 0
IsMessageOf true Hello = ⊥
IsMessageOf false Open = ⊥
IsMessageOf false Keepalive = ⊥
IsMessageOf peering m = Unit {0}

-- an end is Confirmed between control nodes alone
abbrev pub IsPhaseOf : Bool → Phase → Type 0
IsPhaseOf false Confirmed = ⊥
IsPhaseOf peering phase = Unit {0}

-- ---- a first part of a message
-- some octets of a message that the second node may send to the first, and not all of them
pub record IsFirstPart (a b : Who) (part : List ℕ) : Type 0 where
  pub message : Message
  pub can : CanSend (role_of b) (role_of a) message
  pub count : ℕ
  pub fewer : count < length (octets_of b (are_peers (role_of a) (role_of b)) message)
  pub is : part ≡ take count (octets_of b (are_peers (role_of a) (role_of b)) message)

-- nothing, or such a part
abbrev pub IsPartial : Who → Who → List ℕ → Type 0
IsPartial a b part = (part ≡ []) ⊎ IsFirstPart a b part
