-- Addresses that change hands, as one network loses an address and another gains it while a third imports both.
use Rattle.std.specs.Prelude.{◌≡◌, ◌⊎◌, List}
use Rattle.std.specs.List.{Contains}
use Rattle.ov_types.specs.declared.numbers.InstanceId.{InstanceId}
use Rattle.ov_types.specs.declared.prefix.Addr.{Addr}
use Rattle.config_types.specs.declared.config.Config.{Config}
use Rattle.config_types.specs.declared.config.Network.{Network}
use Rattle.config_types.specs.declared.config.Port.{Port}
use Rattle.policy_rules.specs.Standing.{PassesBetween}
use Rattle.config_check.specs.Checked.{Checked}

-- the network of one number imports that of another: they are one, or a pass rule stands between them
pub record ImportsNumber (c : Config) (from other : InstanceId) : Type 0 where
  pub own : Network
  pub own_stands : Contains c.networks own
  pub own_is : own.id ≡ from
  pub imported : Network
  pub imported_stands : Contains c.networks imported
  pub imported_is : imported.id ≡ other
  pub near : (imported.name ≡ own.name) ⊎ PassesBetween c own imported

-- a port stands at an address in the network of a number
pub record HasPortAt (c : Config) (number : InstanceId) (address : Addr) : Type 0 where
  pub home : Network
  pub home_stands : Contains c.networks home
  pub home_is : home.id ≡ number
  pub port : Port
  pub port_stands : Contains c.ports port
  pub port_network : port.network ≡ home.name
  pub port_address : port.address ≡ address

-- no network but the second has a port at the address in any of these configurations, among those that the first
-- imports in some of them
abbrev pub KeepsInHand : List Checked → InstanceId → InstanceId → Addr → Type 0
KeepsInHand xs from to address =
    (x y : Checked) (number : InstanceId) → Contains xs x → Contains xs y → ImportsNumber x.config from number
    → HasPortAt y.config number address → number ≡ to
