-- What tenants have has the written form.
use Rattle.std.proofs.Common.{◌≡◌, ℕ, ◌<◌, ◌≤◌, ◌+◌, ◌*◌, true, List, length, [], ◌∷◌, codes, refl, arith}
use Rattle.std.specs.List.{list_all}
use Rattle.config_types.specs.Form.{has_network_form, has_service_form, has_chain_form, is_network_name, is_from_to, is_block}
use Rattle.ov_types.specs.Name.{is_name}
use Rattle.scenario_gen.specs.Naming.{numbered}
use Rattle.scenario_gen.specs.Nodes.{node_at}
use Rattle.scenario_gen.specs.Networks.{subnet, network_of, networks_of}
use Rattle.scenario_gen.specs.Services.{services_of, service_of, chain}
use Rattle.scenario_gen.specs.Tenants.{web, application, database, management, front_policy, back_policy, management_policy}
use Rattle.scenario_gen.specs.Tenants.{firewall, balancer}
use Rattle.scenario_gen.proofs.Names.{numbered_is_name}
use Rattle.scenario_gen.proofs.Forms.{application_is_no_any, within, at_most, both, last}
use Rattle.scenario_gen.proofs.NodeForms.{node_at_is_name}

pub tenant_is_name : (word : List ℕ) (t : ℕ) → is_name word ≡ true → length word ≤ 2 → t < 16 → is_name (numbered word t) ≡ true
tenant_is_name word t h short small = numbered_is_name word t h (omega (arith, short)) (omega (arith, small))

-- each but the applications' begins with another letter than `any`
pub web_is_network_name : (t : ℕ) → t < 16 → is_network_name (web t) ≡ true
web_is_network_name t h = rw (tenant_is_name (codes "w") t refl (omega arith) h) refl

pub application_is_network_name : (t : ℕ) → t < 16 → is_network_name (application t) ≡ true
application_is_network_name t h = application_is_no_any t (omega (arith, h))

pub database_is_network_name : (t : ℕ) → t < 16 → is_network_name (database t) ≡ true
database_is_network_name t h = rw (tenant_is_name (codes "d") t refl (omega arith) h) refl

pub management_is_network_name : (t : ℕ) → t < 16 → is_network_name (management t) ≡ true
management_is_network_name t h = rw (tenant_is_name (codes "m") t refl (omega arith) h) refl

network : (name : List ℕ) (number place : ℕ) (policies : List (List ℕ)) → is_network_name name ≡ true → is_from_to 1 16383 number ≡ true
    → is_block (subnet place) ≡ true → list_all is_name policies ≡ true → has_network_form (network_of name number place policies) ≡ true
unfolding has_network_form
network name number place policies a b c d = rw (a, b, c, d) refl

pub networks_have_form : (t : ℕ) → t < 16 → list_all has_network_form (networks_of t) ≡ true
unfolding networks_of
networks_have_form t h =
    let front : is_name (front_policy t) ≡ true = tenant_is_name (codes "pf") t refl (omega arith) h in
    let back : is_name (back_policy t) ≡ true = tenant_is_name (codes "pb") t refl (omega arith) h in
    let managed : is_name (management_policy t) ≡ true = tenant_is_name (codes "pm") t refl (omega arith) h in
    rw (
      network (web t) (4 * t + 1) 0 (front_policy t ∷ management_policy t ∷ [])
          (web_is_network_name t h) (within 1 16383 (4 * t + 1) (omega arith) (omega (arith, h))) refl (both front (last managed)),
      network (application t) (4 * t + 2) 1 (front_policy t ∷ back_policy t ∷ management_policy t ∷ [])
          (application_is_network_name t h) (within 1 16383 (4 * t + 2) (omega arith) (omega (arith, h))) refl (both front (both back (last managed))),
      network (database t) (4 * t + 3) 2 (back_policy t ∷ management_policy t ∷ [])
          (database_is_network_name t h) (within 1 16383 (4 * t + 3) (omega arith) (omega (arith, h))) refl (both back (last managed)),
      network (management t) (4 * t + 4) 3 (management_policy t ∷ [])
          (management_is_network_name t h) (within 1 16383 (4 * t + 4) (omega arith) (omega (arith, h))) refl (last managed),
    ) refl

service : (name : List ℕ) (number : ℕ) (node : List ℕ) → is_name name ≡ true → number ≤ 65535 → is_name node ≡ true
    → has_service_form (service_of name number node) ≡ true
unfolding has_service_form
service name number node a b c = rw (a, at_most 65535 number b, c) refl

pub services_have_form : (n t : ℕ) → t < 16 → list_all has_service_form (services_of n t) ≡ true
unfolding services_of
services_have_form n t h =
    rw (
      service (firewall t) (2 * t + 1) (node_at (3 * t + n)) (tenant_is_name (codes "f") t refl (omega arith) h) (omega (arith, h)) (node_at_is_name (3 * t + n)),
      service (balancer t) (2 * t + 2) (node_at (3 * t + n + 1)) (tenant_is_name (codes "l") t refl (omega arith) h) (omega (arith, h)) (node_at_is_name (3 * t + n + 1)),
    ) refl

pub chain_has_form : (t : ℕ) → t < 16 → has_chain_form (chain t) ≡ true
unfolding has_chain_form chain
chain_has_form t h =
    let firewall : is_name (firewall t) ≡ true = tenant_is_name (codes "f") t refl (omega arith) h in
    let balancer : is_name (balancer t) ≡ true = tenant_is_name (codes "l") t refl (omega arith) h in
    both (both (tenant_is_name (codes "k") t refl (omega arith) h) (both firewall (last balancer))) refl
