-- The tenants of a scenario, and what the things of a tenant are called.
use Rattle.std.specs.Prelude.{ℕ, List, ◌+◌, ◌-◌, ◌%◌, codes}
use Rattle.scenario_gen.specs.Naming.{numbered}

-- how many tenants scenario n has: 1 to 16, in turn
abbrev pub tenants : ℕ → ℕ
tenants n = 1 + (n - 1) % 16

-- the four networks of tenant t: of its web servers, of its applications, of its databases, and for their management
abbrev pub web : ℕ → List ℕ
web t = numbered (codes "w") t

abbrev pub application : ℕ → List ℕ
application t = numbered (codes "a") t

abbrev pub database : ℕ → List ℕ
database t = numbered (codes "d") t

abbrev pub management : ℕ → List ℕ
management t = numbered (codes "m") t

-- the three policies of a tenant: between the first two networks, between the next two, and of the management with all
-- of them
abbrev pub front_policy : ℕ → List ℕ
front_policy t = numbered (codes "pf") t

abbrev pub back_policy : ℕ → List ℕ
back_policy t = numbered (codes "pb") t

abbrev pub management_policy : ℕ → List ℕ
management_policy t = numbered (codes "pm") t

-- the two services of a tenant, a firewall and a load balancer, and the chain of both
abbrev pub firewall : ℕ → List ℕ
firewall t = numbered (codes "f") t

abbrev pub balancer : ℕ → List ℕ
balancer t = numbered (codes "l") t

abbrev pub chain_name : ℕ → List ℕ
chain_name t = numbered (codes "k") t
