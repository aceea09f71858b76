-- The walk of a packet over the tables that a valid configuration is compiled to.
use Rattle.std.proofs.Common.{◌≡◌, IsTrue, None, refl, subst}
use Rattle.ov_types.specs.declared.packet.Outcome.{Outcome}
use Rattle.ov_types.specs.declared.packet.Packet.{Packet}
use Rattle.config_types.specs.Form.{has_config_form}
use Rattle.config_check.specs.Checked.{Checked}
use Rattle.config_check.specs.Rules.{first_broken}
use Rattle.reach_plain.specs.Reachability.{reachability}
use Rattle.transform_model.proofs.Law.{forwarding_is_reachability, none_expires}
use Rattle.inspect_walks.specs.Following.{IsWalk}
use Rattle.inspect_walks.specs.Told.{TellsWalk, told_walk}
use Rattle.inspect_walks.specs.Walks.{compiled_agents, compiled_walk}
use Rattle.inspect_walks.proofs.Steps.{is_walk}

pub compiled_is_walk : (x : Checked) (p : Packet) → IsTrue (has_config_form x.config) → first_broken x.topology x.config ≡ None
    → IsWalk (compiled_agents x) p (reachability x.config p) (compiled_walk x p)
compiled_is_walk x p form valid =
    subst (λ (o : Outcome). IsWalk (compiled_agents x) p o (compiled_walk x p)) (forwarding_is_reachability x form valid p)
    (is_walk (compiled_agents x) p (none_expires x form valid p))

pub tells_walk : (x : Checked) (p : Packet) → IsTrue (has_config_form x.config) → first_broken x.topology x.config ≡ None
    → TellsWalk x p (reachability x.config p) (told_walk x p)
unfolding told_walk
tells_walk x p form valid = record { steps = compiled_walk x p; walk = compiled_is_walk x p form valid; are = refl }
