-- Parts of topologies and configurations that compare alike are one.
use Rattle.std.proofs.Common.{◌≡◌, ◌&&◌, Bool, true, nat_eq, [], ◌∷◌, refl}
use Rattle.std.specs.Cmp.Lexicographic.{pointwise}
use Rattle.std.proofs.lemmas.Bool.{and_parts, eqb-true}
use Rattle.ov_types.specs.Prefix.{Block}
use Rattle.ov_types.specs.declared.packet.Range16.{Range16}
use Rattle.ov_types.specs.contracts.rows.NodeIdPartialEq.TheImpl as node_id
use Rattle.config_types.specs.contracts.config.ActionPartialEq.TheImpl as action
use Rattle.config_types.specs.contracts.config.ChainPartialEq.TheImpl as chain
use Rattle.config_types.specs.contracts.config.DirectionPartialEq.TheImpl as direction
use Rattle.config_types.specs.contracts.config.EndPartialEq.TheImpl as end
use Rattle.config_types.specs.contracts.config.NetworkPartialEq.TheImpl as network
use Rattle.config_types.specs.contracts.config.PolicyPartialEq.TheImpl as policy
use Rattle.config_types.specs.contracts.config.PortPartialEq.TheImpl as port
use Rattle.config_types.specs.contracts.config.ProtocolPartialEq.TheImpl as protocol
use Rattle.config_types.specs.contracts.config.RulePartialEq.TheImpl as rule
use Rattle.config_types.specs.contracts.config.ServicePartialEq.TheImpl as service
use Rattle.config_types.specs.contracts.topology.NodePartialEq.TheImpl as node
use Rattle.config_types.specs.contracts.topology.TopologyPartialEq.TheImpl as topology
use Rattle.config_types.specs.declared.config.Action.TheVariants.{Pass, Deny, Through}
use Rattle.config_types.specs.declared.config.Direction.TheVariants.{OneWay, BothWays}
use Rattle.config_types.specs.declared.config.End.TheVariants.{Any, Named}
use Rattle.config_types.specs.declared.config.Protocol.TheVariants as Which

-- values that pass a test are one
abbrev Tells : {A : Type 0} → (A → A → Bool) → Type 0
Tells {A} test = (a b : A) → test a b ≡ true → a ≡ b

pub lists : {A : Type 0} (test : A → A → Bool) → Tells test → Tells (pointwise test)
lists test tells [] [] h = refl
lists test tells [] (y ∷ ys) h = cc
lists test tells (x ∷ xs) [] h = cc
lists test tells (x ∷ xs) (y ∷ ys) h =
    let p = and_parts (test x y) (pointwise test xs ys) h in
    λ i. tells x y p.0 i ∷ lists test tells xs ys p.1 i

numbers : Tells nat_eq
numbers a b h = eqb-true a b h

names : Tells (pointwise nat_eq)
names = lists nat_eq numbers

all_names : Tells (pointwise (pointwise nat_eq))
all_names = lists (pointwise nat_eq) names

prefixes : Tells (λ (a b : Block). nat_eq a.addr b.addr && nat_eq a.len b.len)
prefixes a b h =
    let p = and_parts _ _ h in
    λ i. record { addr = numbers a.addr b.addr p.0 i; len = numbers a.len b.len p.1 i }

ranges : Tells (λ (a b : Range16). nat_eq a.lo b.lo && nat_eq a.hi b.hi)
ranges a b h =
    let p = and_parts _ _ h in
    λ i. record { lo = numbers a.lo b.lo p.0 i; hi = numbers a.hi b.hi p.1 i }

-- ---- objects of a configuration
pub networks : Tells network.ghosts.eq
networks a b h =
    let p = and_parts _ _ h in
    let q = and_parts _ _ p.1 in
    let r = and_parts _ _ q.1 in
    λ i. record {
      name = names a.name b.name p.0 i;
      id = record { 0 = numbers a.id.0 b.id.0 q.0 i };
      subnets = lists _ prefixes a.subnets b.subnets r.0 i;
      policies = all_names a.policies b.policies r.1 i;
    }

pub ports : Tells port.ghosts.eq
ports a b h =
    let p = and_parts _ _ h in
    let q = and_parts _ _ p.1 in
    let r = and_parts _ _ q.1 in
    let s = and_parts _ _ r.1 in
    λ i. record {
      name = names a.name b.name p.0 i;
      id = record { 0 = numbers a.id.0 b.id.0 q.0 i };
      network = names a.network b.network r.0 i;
      address = record { 0 = numbers a.address.0 b.address.0 s.0 i };
      node = names a.node b.node s.1 i;
    }

directions : Tells direction.ghosts.eq
directions OneWay OneWay h = refl
directions BothWays BothWays h = refl
directions a b h = absurd cc

ends : Tells end.ghosts.eq
ends Any Any h = refl
ends (Named a) (Named b) h = λ i. Named (names a b h i)
ends a b h = absurd cc

protocols : Tells protocol.ghosts.eq
protocols Which.Any Which.Any h = refl
protocols (Which.Number a) (Which.Number b) h = λ i. Which.Number (numbers a b h i)
protocols a b h = absurd cc

actions : Tells action.ghosts.eq
actions Pass Pass h = refl
actions Deny Deny h = refl
actions (Through c m) (Through d n) h =
    let p = and_parts _ _ h in
    λ i. Through (names c d p.0 i) (numbers m n p.1 i)
actions a b h = absurd cc

rules : Tells rule.ghosts.eq
rules a b h =
    let p = and_parts _ _ h in
    let q = and_parts _ _ p.1 in
    let r = and_parts _ _ q.1 in
    let s = and_parts _ _ r.1 in
    let t = and_parts _ _ s.1 in
    let u = and_parts _ _ t.1 in
    λ i. record {
      direction = directions a.direction b.direction p.0 i;
      source = ends a.source b.source q.0 i;
      destination = ends a.destination b.destination r.0 i;
      protocol = protocols a.protocol b.protocol s.0 i;
      source_ports = ranges a.source_ports b.source_ports t.0 i;
      destination_ports = ranges a.destination_ports b.destination_ports u.0 i;
      action = actions a.action b.action u.1 i;
    }

pub policies : Tells policy.ghosts.eq
policies a b h =
    let p = and_parts _ _ h in
    let q = and_parts _ _ p.1 in
    λ i. record {
      name = names a.name b.name p.0 i;
      sequence = numbers a.sequence b.sequence q.0 i;
      rules = lists _ rules a.rules b.rules q.1 i;
    }

pub services : Tells service.ghosts.eq
services a b h =
    let p = and_parts _ _ h in
    let q = and_parts _ _ p.1 in
    λ i. record {
      name = names a.name b.name p.0 i;
      id = record { 0 = numbers a.id.0 b.id.0 q.0 i };
      node = names a.node b.node q.1 i;
    }

pub chains : Tells chain.ghosts.eq
chains a b h =
    let p = and_parts _ _ h in
    λ i. record { name = names a.name b.name p.0 i; hops = all_names a.hops b.hops p.1 i }

-- ---- topologies
controllers : Tells node_id.ghosts.eq
controllers a b h =
    let p = and_parts _ _ h in
    λ i. record {
      name = names a.name b.name p.0 i;
      address = record { 0 = numbers a.address.0 b.address.0 p.1 i };
    }

nodes : Tells node.ghosts.eq
nodes a b h =
    let p = and_parts _ _ h in
    let q = and_parts _ _ p.1 in
    λ i. record {
      name = names a.name b.name p.0 i;
      address = record { 0 = numbers a.address.0 b.address.0 q.0 i };
      controllers = all_names a.controllers b.controllers q.1 i;
    }

pub topologies : Tells topology.ghosts.eq
topologies a b h =
    let p = and_parts _ _ h in
    let q = and_parts _ _ p.1 in
    λ i. record {
      asn = numbers a.asn b.asn p.0 i;
      controllers = lists _ controllers a.controllers b.controllers q.0 i;
      nodes = lists _ nodes a.nodes b.nodes q.1 i;
    }
