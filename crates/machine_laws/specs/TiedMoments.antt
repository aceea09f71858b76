-- What holds at every moment of every schedule, settled or not.
use Rattle.std.specs.Prelude.{◌≡◌, ℕ, List, Some}
use Rattle.ov_types.specs.declared.numbers.InstanceId.{InstanceId}
use Rattle.ov_types.specs.declared.numbers.PortNo.{PortNo}
use Rattle.ov_types.specs.declared.numbers.ServiceNo.{ServiceNo}
use Rattle.ov_types.specs.declared.packet.Outcome.TheVariants.{Delivered}
use Rattle.ov_types.specs.declared.packet.Packet.{Packet}
use Rattle.route_targets.specs.Forwarding.{forwarding}
use Rattle.schedule_script.specs.ConfigCheck.Checked.{Checked}
use Rattle.schedule_script.specs.Ties.{AreNear, IsTiedBy, Ties}
use Rattle.machine_model.specs.Events.{MachineEvent, after, forwarders}
use Rattle.machine_model.specs.Moments.{ArePositive, Each, EditsAreValid}
use Rattle.machine_model.specs.Network.{MachineState, start}
use Rattle.machine_model.specs.Session.{Message}
use Rattle.machine_model.specs.Setup.{Name, Setup, low, opening}
use Rattle.machine_laws.specs.Settling.{Fair}
use Rattle.machine_laws.specs.Headline.{IsOfForm, IsWritten}
use Rattle.machine_laws.specs.Tied.{AreTied, tied}

-- a configuration of the written form that is as the ties have it
abbrev pub KeepsTies : Ties → Setup → Type 0
KeepsTies t x = IsOfForm x × IsTiedBy t x.config

-- after any schedule from a valid configuration, where it and each that an accepted edit leads to are as the ties have
-- them. The ties are those of the whole schedule: they only grow, so each configuration of it is as the last ones are
abbrev pub AtTiedMoments : (Ties → ℕ → MachineState → Type 0) → Type 0
AtTiedMoments P =
    (size : Name → Message → ℕ) → ArePositive size
    → (t : Ties) (x : Checked) → IsWritten (opening x) → IsTiedBy t x.config
    → (es : List MachineEvent) → EditsAreValid size (KeepsTies t) (start x) es
    → P t x.topology.asn (after size (start x) es)

-- the configuration is as the ties have it, and so are its low-level objects, and all that is held or in flight
pub record IsTiedState (t : Ties) (asn : ℕ) (w : MachineState) : Type 0 where
  pub config : IsTiedBy t w.setup.config
  pub objects : AreTied t asn (low w.setup)
  pub told : Each (Fair (tied t asn)) w.sessions

-- both ports have a tie, and their networks are one or were related
pub record AreJoined (t : Ties) (p q : PortNo) : Type 0 where
  pub from : InstanceId
  pub to : InstanceId
  pub source : t.port p ≡ Some from
  pub destination : t.port q ≡ Some to
  pub near : AreNear t from to

-- a packet that is delivered goes from a port to one that is joined to it
abbrev pub DeliversToJoined : Ties → MachineState → Type 0
DeliversToJoined t w =
    (p : Packet) (q : PortNo) (services : List ServiceNo) → forwarding (forwarders w) p ≡ Delivered q services
    → AreJoined t p.source q
