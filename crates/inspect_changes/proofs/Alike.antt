-- Parts of configurations that compare alike are one.
use Rattle.std.proofs.Common.{◌≡◌, ◌&&◌, Bool, true, eqb, length, nat_eq, List, [], ◌∷◌, refl, arith}
use Rattle.std.specs.Cmp.Lexicographic.{pointwise}
use Rattle.std.specs.List.{list_all, zip}
use Rattle.std.proofs.lemmas.Bool.{and_parts, eqb-true}
use Rattle.ov_types.specs.declared.packet.Range16.{Range16}
use Rattle.config_types.specs.contracts.config.ActionPartialEq.TheImpl as action
use Rattle.config_types.specs.contracts.config.ChainPartialEq.TheImpl as chain
use Rattle.config_types.specs.contracts.config.DirectionPartialEq.TheImpl as direction
use Rattle.config_types.specs.contracts.config.EndPartialEq.TheImpl as end
use Rattle.config_types.specs.contracts.config.PolicyPartialEq.TheImpl as policy
use Rattle.config_types.specs.contracts.config.ProtocolPartialEq.TheImpl as protocol
use Rattle.config_types.specs.contracts.config.RulePartialEq.TheImpl as rule
use Rattle.config_types.specs.contracts.config.ServicePartialEq.TheImpl as service
use Rattle.config_types.specs.declared.config.Action.TheVariants.{Pass, Deny, Through}
use Rattle.config_types.specs.declared.config.Direction.TheVariants.{OneWay, BothWays}
use Rattle.config_types.specs.declared.config.End.TheVariants.{Any, Named}
use Rattle.config_types.specs.declared.config.Policy.{Policy}
use Rattle.config_types.specs.declared.config.Protocol.TheVariants as Which
use Rattle.inspect_changes.specs.Unchanged.{same_policies}

-- values that pass a test are one
abbrev Tells : {A : Type 0} → (A → A → Bool) → Type 0
Tells {A} test = (a b : A) → test a b ≡ true → a ≡ b

pub lists : {A : Type 0} (test : A → A → Bool) → Tells test → Tells (pointwise test)
lists test tells [] [] h = refl
lists test tells [] (y ∷ ys) h = cc
lists test tells (x ∷ xs) [] h = cc
lists test tells (x ∷ xs) (y ∷ ys) h =
    let p = and_parts (test x y) (pointwise test xs ys) h in
    λ i. tells x y p.0 i ∷ lists test tells xs ys p.1 i

numbers : Tells nat_eq
numbers a b h = eqb-true a b h

names : Tells (pointwise nat_eq)
names = lists nat_eq numbers

pub all_names : Tells (pointwise (pointwise nat_eq))
all_names = lists (pointwise nat_eq) names

ranges : Tells (λ (a b : Range16). nat_eq a.lo b.lo && nat_eq a.hi b.hi)
ranges a b h =
    let p = and_parts _ _ h in
    λ i. record { lo = numbers a.lo b.lo p.0 i; hi = numbers a.hi b.hi p.1 i }

directions : Tells direction.ghosts.eq
directions OneWay OneWay h = refl
directions BothWays BothWays h = refl
directions a b h = absurd cc

ends : Tells end.ghosts.eq
ends Any Any h = refl
ends (Named a) (Named b) h = λ i. Named (names a b h i)
ends a b h = absurd cc

protocols : Tells protocol.ghosts.eq
protocols Which.Any Which.Any h = refl
protocols (Which.Number a) (Which.Number b) h = λ i. Which.Number (numbers a b h i)
protocols a b h = absurd cc

actions : Tells action.ghosts.eq
actions Pass Pass h = refl
actions Deny Deny h = refl
actions (Through c m) (Through d n) h =
    let p = and_parts _ _ h in
    λ i. Through (names c d p.0 i) (numbers m n p.1 i)
actions a b h = absurd cc

rules : Tells rule.ghosts.eq
rules a b h =
    let p = and_parts _ _ h in
    let q = and_parts _ _ p.1 in
    let r = and_parts _ _ q.1 in
    let s = and_parts _ _ r.1 in
    let t = and_parts _ _ s.1 in
    let u = and_parts _ _ t.1 in
    λ i. record {
      direction = directions a.direction b.direction p.0 i;
      source = ends a.source b.source q.0 i;
      destination = ends a.destination b.destination r.0 i;
      protocol = protocols a.protocol b.protocol s.0 i;
      source_ports = ranges a.source_ports b.source_ports t.0 i;
      destination_ports = ranges a.destination_ports b.destination_ports u.0 i;
      action = actions a.action b.action u.1 i;
    }

policies : Tells policy.ghosts.eq
policies a b h =
    let p = and_parts _ _ h in
    let q = and_parts _ _ p.1 in
    λ i. record {
      name = names a.name b.name p.0 i;
      sequence = numbers a.sequence b.sequence q.0 i;
      rules = lists _ rules a.rules b.rules q.1 i;
    }

pub services : Tells service.ghosts.eq
services a b h =
    let p = and_parts _ _ h in
    let q = and_parts _ _ p.1 in
    λ i. record {
      name = names a.name b.name p.0 i;
      id = record { 0 = numbers a.id.0 b.id.0 q.0 i };
      node = names a.node b.node q.1 i;
    }

pub chains : Tells chain.ghosts.eq
chains a b h =
    let p = and_parts _ _ h in
    λ i. record { name = names a.name b.name p.0 i; hops = all_names a.hops b.hops p.1 i }

each_policy : (ps qs : List Policy) → length ps ≡ length qs → list_all (λ p. policy.ghosts.eq p.0 p.1) (zip ps qs) ≡ true → ps ≡ qs
each_policy [] [] e h = refl
each_policy [] (q ∷ qs) e h = absurd (omega (arith, e))
each_policy (p ∷ ps) [] e h = absurd (omega (arith, e))
each_policy (p ∷ ps) (q ∷ qs) e h =
    let parts = and_parts (policy.ghosts.eq p q) (list_all (λ x. policy.ghosts.eq x.0 x.1) (zip ps qs)) h in
    let first = policies p q parts.0 in
    let rest = each_policy ps qs (omega (arith, e)) parts.1 in
    λ i. first i ∷ rest i

pub policies_are : (ps qs : List Policy) → same_policies ps qs ≡ true → ps ≡ qs
policies_are ps qs h =
    let parts = and_parts (eqb (length ps) (length qs)) (list_all (λ x. policy.ghosts.eq x.0 x.1) (zip ps qs)) h in
    each_policy ps qs (eqb-true (length ps) (length qs) parts.0) parts.1
