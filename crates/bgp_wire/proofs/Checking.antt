-- Checks made in order.
use Rattle.std.proofs.Common.{◌≡◌, Bool, true, false, Option, Some, None, refl}
use Rattle.bgp_wire.specs.declared.fault.WireFault.{WireFault}
use Rattle.bgp_wire.specs.Faults.{fault_if, ◌then_check◌}

-- no fault comes exactly where no check gives one
pub pass_both : (a b : Option WireFault) → (a then_check b) ≡ None → (a ≡ None) × (b ≡ None)
pass_both None b h = (refl, h)
pass_both (Some f) b h = cc

pub both_pass : (a b : Option WireFault) → a ≡ None → b ≡ None → (a then_check b) ≡ None
both_pass None b ha hb = hb
both_pass (Some f) b ha hb = ha

pub fault_if-None : (test : Bool) (f : WireFault) → fault_if test f ≡ None → test ≡ false
fault_if-None true f h = cc
fault_if-None false f h = refl

pub fault_if-false : (test : Bool) (f : WireFault) → test ≡ false → fault_if test f ≡ None
fault_if-false true f h = cc
fault_if-false false f h = refl

-- what one check leads to
pub fault_if-Some : (test : Bool) (f g : WireFault) → fault_if test f ≡ Some g → test ≡ true
fault_if-Some true f g h = refl
fault_if-Some false f g h = cc
