-- The topology, the configuration, the events and the packets of a scenario have the written form.
use Rattle.std.proofs.Common.{◌≡◌, ℕ, ◌<◌, ◌≤◌, ◌+◌, ◌*◌, length, ◌/◌, ◌%◌, ◌==◌, true, false, Bool, cond, List, codes, refl, arith}
use Rattle.std.specs.List.{list_all}
use Rattle.config_types.specs.Form.{has_edit_form}
use Rattle.config_types.specs.Form.{has_event_form}
use Rattle.config_types.specs.Form.{has_config_form, has_network_form, has_port_form, has_policy_form, has_service_form, has_chain_form, has_packet_form}
use Rattle.ov_types.specs.Name.{is_name}
use Rattle.scenario_gen.specs.Naming.{numbered}
use Rattle.scenario_gen.specs.Networks.{networks_of}
use Rattle.scenario_gen.specs.Policies.{policies_of}
use Rattle.scenario_gen.specs.Ports.{port, ports_count, networks_count, network_at}
use Rattle.scenario_gen.specs.Schedule.{events, packet, packets, asked_port}
use Rattle.scenario_gen.specs.Scenario.{config}
use Rattle.scenario_gen.specs.Services.{services_of, chain}
use Rattle.scenario_gen.specs.Tenants.{tenants}
use Rattle.scenario_gen.proofs.Names.{numbered_is_name}
use Rattle.scenario_gen.proofs.Forms.{all_numbered, all_appended, at_most, both}
use Rattle.scenario_gen.proofs.NodeForms.{node_at_is_name}
use Rattle.scenario_gen.proofs.TenantForms.{networks_have_form, services_have_form, chain_has_form}
use Rattle.scenario_gen.proofs.PolicyForms.{policies_have_form}

-- the name of a network at any place
network_is_name : (t place : ℕ) → t < 256 → is_name (network_at t place) ≡ true
network_is_name t place h =
    chosen (place == 0) (place == 1) (place == 2)
  where
    named : (word : List ℕ) → is_name word ≡ true → length word ≤ 2 → is_name (numbered word t) ≡ true
    named word a b = numbered_is_name word t a (omega (arith, b)) (omega (arith, h))

    chosen : (a b c : Bool) → is_name (cond a (numbered (codes "w") t) (cond b (numbered (codes "a") t) (cond c (numbered (codes "d") t) (numbered (codes "m") t)))) ≡ true
    chosen true b c = named (codes "w") refl (omega arith)
    chosen false true c = named (codes "a") refl (omega arith)
    chosen false false true = named (codes "d") refl (omega arith)
    chosen false false false = named (codes "m") refl (omega arith)

port_has_form : (n x : ℕ) → x < 1024 → has_port_form (port n x) ≡ true
unfolding has_port_form port
port_has_form n x h =
    rw (
      numbered_is_name (codes "v") x refl (omega arith) (omega (arith, h)),
      at_most 524271 x (omega (arith, h)),
      network_is_name (x % networks_count n / 4) (x % networks_count n % 4) (omega (arith, h)),
      at_most 0xffff_ffff (((10 * 256 + x % 4) * 256 + 0) * 256 + (1 + x / networks_count n)) (omega (arith, h)),
      node_at_is_name (7 * x + n),
    ) refl

asked_is_port : (count : ℕ) → asked_port count ≤ 65535
asked_is_port count = chosen (count % 4 == 0) (count % 4 == 1) (count % 4 == 2)
  where
    chosen : (a b c : Bool) → cond a 80 (cond b 22 (cond c 5432 23)) ≤ 65535
    chosen true b c = omega arith
    chosen false true c = omega arith
    chosen false false true = omega arith
    chosen false false false = omega arith

packet_has_form : (n q : ℕ) → 1 ≤ n → q < 40 → has_packet_form (packet n q) ≡ true
unfolding has_packet_form packet
packet_has_form n q first h =
    rw (
      at_most 524271 ((17 * q + n) % ports_count n) (omega arith),
      at_most 0xffff_ffff (((10 * 256 + q % 4) * 256 + 0) * 256 + (1 + q % 16)) (omega (arith, h)),
      at_most 65535 (50000 + q) (omega (arith, h)),
      at_most 65535 (asked_port (q / 4)) (asked_is_port (q / 4)),
    ) refl

pub packets_have_form : (n : ℕ) → 1 ≤ n → list_all has_packet_form (packets n) ≡ true
packets_have_form n first = all_numbered has_packet_form (packet n) 0 40 (λ q small. packet_has_form n q first small)

pub events_have_form : (n : ℕ) → list_all has_event_form (events n) ≡ true
unfolding events has_event_form has_edit_form
events_have_form n =
    let lost : (i : ℕ) → i < 4 → is_name (numbered (codes "c") i) ≡ true = λ i h. numbered_is_name (codes "c") i refl (omega arith) (omega (arith, h)) in
    both refl (both (both (lost 1 (omega arith)) (lost 2 (omega arith)))
    (both (node_at_is_name n) (both (numbered_is_name (codes "v") 5 refl (omega arith) (omega arith)) refl)))

few : (n : ℕ) → tenants n ≤ 16
few n = omega arith

pub config_has_form : (n : ℕ) → has_config_form (config n) ≡ true
unfolding has_config_form config
config_has_form n =
    rw (
      all_appended has_network_form networks_of 0 (tenants n) (λ t small. networks_have_form t (omega (arith, small, few n))),
      all_numbered has_port_form (port n) 0 (ports_count n) (λ x small. port_has_form n x (omega (arith, small, few n))),
      all_appended has_policy_form policies_of 0 (tenants n) (λ t small. policies_have_form t (omega (arith, small, few n))),
      all_appended has_service_form (services_of n) 0 (tenants n) (λ t small. services_have_form n t (omega (arith, small, few n))),
      all_numbered has_chain_form chain 0 (tenants n) (λ t small. chain_has_form t (omega (arith, small, few n))),
    ) refl
