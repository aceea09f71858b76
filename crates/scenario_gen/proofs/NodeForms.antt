-- The topology has the written form.
use Rattle.std.proofs.Common.{◌≡◌, ℕ, ◌<◌, ◌+◌, ◌%◌, true, codes, refl, arith}
use Rattle.config_types.specs.Form.{has_controller_form, has_node_form, has_topology_form, is_node_address, is_node_name}
use Rattle.ov_types.specs.Name.{is_name}
use Rattle.scenario_gen.specs.Naming.{numbered, address}
use Rattle.scenario_gen.specs.Nodes.{controller, node, topology, controller_at, node_at}
use Rattle.scenario_gen.proofs.Names.{numbered_is_name}
use Rattle.scenario_gen.proofs.Forms.{all_numbered, controller_is_no_config, within}

pub controller_at_is_name : (count : ℕ) → is_name (controller_at count) ≡ true
controller_at_is_name count = numbered_is_name (codes "c") (1 + count % 3) refl (omega arith) (omega arith)

pub node_at_is_name : (count : ℕ) → is_name (node_at count) ≡ true
node_at_is_name count = numbered_is_name (codes "n") (1 + count % 20) refl (omega arith) (omega arith)

-- 192.0.2.0 and a little more
near : (d : ℕ) → d < 256 → is_node_address (address 192 0 2 d).0 ≡ true
near d h = within 0x0100_0000 0xdfff_ffff (address 192 0 2 d).0 (omega (arith, h)) (omega (arith, h))

controller_has_form : (i : ℕ) → i < 4 → has_controller_form (controller i) ≡ true
unfolding has_controller_form controller
controller_has_form i h = rw (controller_is_no_config i (omega (arith, h)), near i (omega (arith, h))) refl

node_is_no_config : (i : ℕ) → i < 21 → is_node_name (numbered (codes "n") i) ≡ true
node_is_no_config i h = rw (numbered_is_name (codes "n") i refl (omega arith) (omega (arith, h))) refl

node_has_form : (i : ℕ) → i < 21 → has_node_form (node i) ≡ true
unfolding has_node_form node
node_has_form i h =
    rw (node_is_no_config i h, near (10 + i) (omega (arith, h)), controller_at_is_name i, controller_at_is_name (i + 1)) refl

pub topology_has_form : has_topology_form topology ≡ true
unfolding has_topology_form topology
topology_has_form =
    rw (
      all_numbered has_controller_form controller 1 3 controller_has_form,
      all_numbered has_node_form node 1 20 node_has_form,
    ) refl
