-- Networks and ports by tenant and place.
use Rattle.std.proofs.Common.{◌≡◌, ℕ, ◌<◌, ◌≤◌, ◌+◌, ◌-◌, ◌*◌, ◌/◌, ◌%◌, List, true, zero, suc, refl, ap, subst, ◌∙◌, arith}
use Rattle.std.specs.List.{All, Contains}
use Rattle.std.proofs.lemmas.Bool.Decides.{nat_tests}
use Rattle.std.proofs.lemmas.List.Elements.{Contains-get_or}
use Rattle.std.proofs.lemmas.Nat.{mod-mul-add, div-mul-add, div_below, mod_below, mul-add-lt}
use Rattle.std.proofs.Math.Nat.{mod-mod_of_dvd, dvd-mul_right}
use Rattle.ov_types.specs.Prefix.{contains}
use Rattle.config_types.specs.declared.config.Network.{Network}
use Rattle.config_types.specs.declared.config.Port.{Port}
use Rattle.scenario_gen.specs.Laws.{IsNetworkAt, IsPortAt, HasNetwork}
use Rattle.scenario_gen.specs.Naming.{address}
use Rattle.scenario_gen.specs.Networks.{subnet, networks_of, web_network, application_network, database_network, management_network}
use Rattle.scenario_gen.specs.Ports.{port, network_at, network_after, networks_count, ports_count}
use Rattle.scenario_gen.specs.Scenario.{config}
use Rattle.scenario_gen.specs.Tenants.{tenants}
use Rattle.scenario_gen.proofs.Ranges.{of_numbered, has_numbered, has_appended}

-- what holds at the four places holds at each
by_place : (P : ℕ → Type 0) → P 0 → P 1 → P 2 → P 3 → (place : ℕ) → place < 4 → P place
by_place P a b c d zero h = a
by_place P a b c d (suc zero) h = b
by_place P a b c d (suc (suc zero)) h = c
by_place P a b c d (suc (suc (suc zero))) h = d
by_place P a b c d (suc (suc (suc (suc k)))) h = absurd (omega (arith, h))

abbrev NetworkIn : List Network → ℕ → ℕ → Type 0
NetworkIn xs t place = (x : Network) × Contains xs x × IsNetworkAt t place x

of_tenant : (t place : ℕ) → place < 4 → NetworkIn (networks_of t) t place
unfolding networks_of
of_tenant t place h =
    by_place (NetworkIn (networks_of t) t)
    (web_network t, Contains-get_or (networks_of t) 0 (web_network t) (omega arith), record { name = refl; number = omega arith; subnets = refl })
    (application_network t, Contains-get_or (networks_of t) 1 (web_network t) (omega arith), record { name = refl; number = omega arith; subnets = refl })
    (database_network t, Contains-get_or (networks_of t) 2 (web_network t) (omega arith), record { name = refl; number = omega arith; subnets = refl })
    (management_network t, Contains-get_or (networks_of t) 3 (web_network t) (omega arith), record { name = refl; number = omega arith; subnets = refl })
    place h

pub network_there : (n t place : ℕ) → t < tenants n → place < 4 → NetworkIn (config n).networks t place
unfolding config
network_there n t place h few =
    let found = of_tenant t place few in
    (found.0, has_appended networks_of found.0 0 (tenants n) t t (omega arith) h found.1, found.2)

-- the number of the port in a network at a last octet, as that of the network's ports which is next after octet - 1
abbrev port_number : ℕ → ℕ → ℕ → ℕ → ℕ
port_number n t place before = before * networks_count n + (4 * t + place)

tenants_first : (n t place : ℕ) → t < tenants n → place < 4 → 4 * t + place < networks_count n
tenants_first n t place h few = omega (arith, h, few)

number_is_small : (n t place before : ℕ) → t < tenants n → place < 4 → before < 16 → port_number n t place before < ports_count n
number_is_small n t place before h few small =
    let there : port_number n t place before < networks_count n * 16 = mul-add-lt before (networks_count n) (4 * t + place) 16 small (tenants_first n t place h few) in
    omega (arith, there)

-- the networks of tenants stand in fours
fourth : (n t place before : ℕ) → place < 4 → port_number n t place before % 4 ≡ place
fourth n t place before few =
    let e : port_number n t place before ≡ 4 * (before * tenants n + t) + place = grind arith in
    rw e (omega (arith, few))

port_is_at : (n t place before : ℕ) → t < tenants n → place < 4 → IsPortAt t place (1 + before) (port n (port_number n t place before))
unfolding port
port_is_at n t place before h few =
    let within : 4 * t + place < networks_count n = tenants_first n t place h few in
    let there : port_number n t place before % networks_count n ≡ 4 * t + place = mod-mul-add before (networks_count n) (4 * t + place) within in
    let count : port_number n t place before / networks_count n ≡ before = div-mul-add before (networks_count n) (4 * t + place) within in
    let tenant : (4 * t + place) / 4 ≡ t = omega (arith, few) in
    let four : (4 * t + place) % 4 ≡ place = omega (arith, few) in
    record {
      network = ap network_after there ∙ ap (λ k. network_at k ((4 * t + place) % 4)) tenant ∙ ap (λ k. network_at t k) four;
      address = ap (λ k. address 10 k 0 (1 + port_number n t place before / networks_count n)) (fourth n t place before few)
          ∙ ap (λ k. address 10 place 0 (1 + k)) count;
    }

pub port_there : (n t place octet : ℕ) → t < tenants n → place < 4 → 1 ≤ octet → octet ≤ 16
    → (p : Port) × Contains (config n).ports p × IsPortAt t place octet p
unfolding config
port_there n t place octet h few first last =
    let before : ℕ = octet - 1 in
    let x : ℕ = port_number n t place before in (
      port n x,
      has_numbered (port n) 0 (ports_count n) x x (omega arith) (number_is_small n t place before h few (omega (arith, first, last))),
      subst (λ o. IsPortAt t place o (port n x)) (omega (arith, first)) (port_is_at n t place before h few),
    )

inside_of : (place octet : ℕ) → octet < 256 → contains (subnet place) (address 10 place 0 octet).0 ≡ true
inside_of place octet h = grind (arith, nat_tests)

has_network : (n x : ℕ) → x < ports_count n → HasNetwork (config n) (port n x)
unfolding port
has_network n x h =
    let k : ℕ = x % networks_count n in
    let small : k < networks_count n = mod_below x (networks_count n) (omega arith) in
    let found = network_there n (k / 4) (k % 4) (omega (arith, small)) (omega arith) in
    let place : k % 4 ≡ x % 4 = mod-mod_of_dvd 4 x (dvd-mul_right 4 (tenants n)) in
    let octet : x / networks_count n < 16 = div_below x (networks_count n) 16 (omega arith) (omega (arith, h)) in
    record {
      network = found.0;
      there = found.1;
      name = found.2.name;
      inside = rw (found.2.subnets, place) (rw (inside_of (x % 4) (1 + x / networks_count n) (omega (arith, octet))) refl);
    }

pub ports_have_networks : (n : ℕ) → All (HasNetwork (config n)) (config n).ports
unfolding config
ports_have_networks n = of_numbered (HasNetwork (config n)) (port n) 0 (ports_count n) (λ x small. has_network n x (omega (arith, small)))
