-- What the rows of agents do, where they are the compiled ones.
use Rattle.std.proofs.Common.{◌≡◌, ◌≢◌, ◌∙◌, IsTrue, None, ap, sym}
use Rattle.ov_types.specs.declared.packet.Outcome.TheVariants.{Dropped}
use Rattle.ov_types.specs.declared.packet.Packet.{Packet}
use Rattle.ov_types.specs.declared.packet.Why.TheVariants.{NoLabel, TtlExpired}
use Rattle.route_targets.specs.Forwarding.{forwarding}
use Rattle.config_types.specs.Form.{has_config_form}
use Rattle.config_check.specs.Checked.{Checked}
use Rattle.config_check.specs.Rules.{first_broken}
use Rattle.transform_model.specs.ReachPlain.Reachability.{reachability}
use Rattle.transform_model.proofs.Law.{forwarding_is_reachability, labels_lead_on, none_expires}
use Rattle.transform_model.specs.Compiled.{compiled_tables, forwarders}
use Rattle.transform_model.specs.declared.tables.Compiled.{Compiled}

pub as_reached : (x : Checked) (rows : Compiled) → IsTrue (has_config_form x.config)
    → first_broken x.topology x.config ≡ None → rows ≡ compiled_tables x → (p : Packet)
    → forwarding (forwarders x.topology.nodes rows.agents) p ≡ reachability x.config p
as_reached x rows form valid same p =
    ap (λ (c : Compiled). forwarding (forwarders x.topology.nodes c.agents) p) same
    ∙ forwarding_is_reachability x form valid p

pub has_labels : (x : Checked) (rows : Compiled) → IsTrue (has_config_form x.config)
    → first_broken x.topology x.config ≡ None → rows ≡ compiled_tables x → (p : Packet)
    → forwarding (forwarders x.topology.nodes rows.agents) p ≢ Dropped NoLabel
has_labels x rows form valid same p = λ e.
    labels_lead_on x form valid p
    (ap (λ (c : Compiled). forwarding (forwarders x.topology.nodes c.agents) p) (sym same) ∙ e)

pub ends_in_time : (x : Checked) (rows : Compiled) → IsTrue (has_config_form x.config)
    → first_broken x.topology x.config ≡ None → rows ≡ compiled_tables x → (p : Packet)
    → forwarding (forwarders x.topology.nodes rows.agents) p ≢ Dropped TtlExpired
ends_in_time x rows form valid same p = λ e.
    none_expires x form valid p
    (ap (λ (c : Compiled). forwarding (forwarders x.topology.nodes c.agents) p) (sym same) ∙ e)
