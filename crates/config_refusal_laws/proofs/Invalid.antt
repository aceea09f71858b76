-- What breaks a rule is not valid: each case is against one of the sentences.
use Rattle.std.proofs.Common.{◌≡◌, ◌≢◌, inl, inr, ◌<◌, ◌≤◌, ◌++◌, ℕ, zero, suc, true, false, List, [], ◌∷◌, Option, Some, None, IfSome, length, get_or, refl, sym, ◌∙◌, subst, arith}
use Rattle.std.specs.List.{All, AllPairs, Any, Contains, slice_get}
use Rattle.std.specs.Option.{IsSomeAnd}
use Rattle.ov_types.specs.Prefix.{Block, contains}
use Rattle.ov_types.specs.declared.packet.RuleNo.{RuleNo}
use Rattle.config_types.specs.declared.config.Chain.{Chain}
use Rattle.config_types.specs.declared.config.Config.{Config}
use Rattle.config_types.specs.declared.config.End.TheVariants as Ends
use Rattle.config_types.specs.declared.config.Network.{Network}
use Rattle.config_types.specs.declared.config.Policy.{Policy}
use Rattle.config_types.specs.declared.config.Port.{Port}
use Rattle.config_types.specs.declared.config.Rule.{Rule}
use Rattle.config_types.specs.declared.config.Service.{Service}
use Rattle.config_types.specs.declared.topology.Node.{Node}
use Rattle.config_types.specs.declared.topology.Topology.{Topology}
use Rattle.chain_expand.specs.Expansion.{loops, expansion}
use Rattle.chain_expand.proofs.LeadsLaws.{leads_from_Leads}
use Rattle.config_check.specs.declared.refusal.IdKind.{IdKind}
use Rattle.config_check.specs.declared.refusal.IdKind.TheVariants as Id
use Rattle.config_check.specs.declared.refusal.LimitKind.{LimitKind}
use Rattle.config_check.specs.declared.refusal.LimitKind.TheVariants as Counted
use Rattle.config_check.specs.declared.refusal.Refusal.{Refusal}
use Rattle.config_check.specs.declared.refusal.Refusal.TheVariants.{Limit, DuplicateName, DuplicateId, BadReference, SubnetReserved, SubnetNested, AddressOutside, AddressTaken, ChainNeedsNetworks, ChainSameNetwork, ChainLoop, ChainTooLong, ServiceTwice, SubnetOverlap}
use Rattle.policy_rules.specs.declared.numbered.NumberedRule.{NumberedRule}
use Rattle.config_check.specs.Rules.{circuit_addresses, controller_names, node_names, network_names, port_names, policy_names, service_names, chain_names, network_named}
use Rattle.policy_rules.specs.Related.{all_rules}
use Rattle.config_check.specs.Sentences.{AreDistinct, KeepsLimits, HasDistinctNames, HasDistinctNumbers, HasReferents, EndExists, ChainExists, Overlap, ReservesCircuits, HasFlatSubnets, HoldsAddresses, HasDistinctAddresses, NamesEnds, NamesTwo, IsAround, AreApart, IsValid}
use Rattle.ov_types.proofs.FirstLemmas.{all_cons}
use Rattle.config_refusal_laws.specs.Breaks.{StandsBefore, StandsTwice, IsOutsideLimits, namespaces, numbers_of, LeadsThrough, IsChainRule, IsDangling, controller, policy, network_of_port, node_of_port, source, destination, chain_of_rule, node_of_service, hop, LiesOutside, HasAny, HasOneNetwork, OverlapAround, Breaks}

-- what holds of all holds of each

all_of : {A : Type 0} (P : A → Type 0) (xs : List A) (x : A) → All P xs → Contains xs x → P x
all_of P xs x all h = subst P h.2 (all h.0 x h.1)

pub no_any : {A : Type 0} (P Q : A → Type 0) (xs : List A) → All P xs → ((x : A) → P x → ¬ Q x) → ¬ Any Q xs
no_any P Q xs all against h = against h.1 (subst P h.3 (all h.0 h.1 h.2)) h.4

stands_at : {A : Type 0} (xs : List A) (k : ℕ) (x d : A) → slice_get xs k ≡ Some x → (k < length xs) × (get_or xs k d ≡ x)
stands_at [] k x d h = cc
stands_at (y ∷ ys) zero x d h = let same : y ≡ x = cc in (omega arith, same)
stands_at (y ∷ ys) (suc k) x d h = let rest = stands_at ys k x d h in let within : k < length ys = rest.0 in (omega arith, rest.1)

pub pair_of : {A : Type 0} (R : A → A → Type 0) (xs : List A) (a b : A) → AllPairs R xs → StandsBefore xs a b → R a b
pair_of {A} R xs a b all h =
    let i = stands_at xs h.earlier a a h.first_there in
    let j = stands_at xs h.later b a h.second_there in
    subst (λ (x : A). R x b) i.1 (subst (λ (y : A). R (get_or xs h.earlier a) y) j.1 (all h.earlier h.later a h.in_order j.0))

not_twice : {A : Type 0} (xs : List A) (x : A) → AreDistinct xs → ¬ StandsTwice xs x
not_twice {A} xs x apart twice = pair_of (λ (a : A) (b : A). a ≢ b) xs x x apart twice refl

-- counts

pub against_limit : (t : Topology) (c : Config) (what : LimitKind) → KeepsLimits t c → ¬ IsOutsideLimits t c what
against_limit t c Counted.Controllers k h = let few = k.controllers in omega arith
against_limit t c Counted.Nodes k h = elim h as (λ _. ⊥) [ inl less ↦ (let some = k.some_nodes in omega arith) | inr more ↦ (let few = k.nodes in omega arith) ]
against_limit t c Counted.Networks k h = let few = k.networks in omega arith
against_limit t c Counted.Ports k h = let few = k.ports in omega arith
against_limit t c Counted.Policies k h = let few = k.policies in omega arith
against_limit t c Counted.Services k h = let few = k.services in omega arith
against_limit t c Counted.Chains k h = let few = k.chains in omega arith
against_limit t c Counted.Subnets k h = no_any (λ (n : Network). length n.subnets ≤ 4) (λ n. 4 < length n.subnets) c.networks k.subnets (λ n few more. omega arith) h
against_limit t c Counted.Attachments k h = no_any (λ (n : Network). length n.policies ≤ 4) (λ n. 4 < length n.policies) c.networks k.attachments (λ n few more. omega arith) h
against_limit t c Counted.Rules k h = no_any (λ (p : Policy). length p.rules ≤ 16) (λ p. 16 < length p.rules) c.policies k.rules (λ p few more. omega arith) h
against_limit t c Counted.Hops k h = no_any (λ (d : Chain). length d.hops ≤ 64) (λ d. 64 < length d.hops) c.chains k.hops (λ d few more. omega arith) h

-- names and numbers

all_distinct : (t : Topology) (c : Config) → HasDistinctNames t c → All AreDistinct (namespaces t c)
all_distinct t c k =
    let hops : List (List ℕ) = service_names c ++ chain_names c in
    all_cons AreDistinct (controller_names t ++ node_names t) (network_names c ∷ port_names c ∷ policy_names c ∷ hops ∷ []) k.nodes
    (all_cons AreDistinct (network_names c) (port_names c ∷ policy_names c ∷ hops ∷ []) k.networks
    (all_cons AreDistinct (port_names c) (policy_names c ∷ hops ∷ []) k.ports
    (all_cons AreDistinct (policy_names c) (hops ∷ []) k.policies
    (all_cons AreDistinct hops [] k.hops (λ i d lt. absurd (omega arith))))))

pub against_name : (t : Topology) (c : Config) (name : List ℕ) → HasDistinctNames t c → ¬ Breaks t c (DuplicateName name)
against_name t c name k (inl h) = no_any AreDistinct (λ names. StandsTwice names name) (namespaces t c) (all_distinct t c k) (λ names. not_twice names name) h
against_name t c name k (inr h) = no_any (λ (n : Node). AreDistinct n.controllers) (λ n. StandsTwice n.controllers name) t.nodes k.controllers (λ n. not_twice n.controllers name) h

pub against_id : (t : Topology) (c : Config) (what : IdKind) (id : ℕ) → HasDistinctNumbers t c → ¬ StandsTwice (numbers_of t c what) id
against_id t c Id.Address id k = not_twice (numbers_of t c Id.Address) id k.addresses
against_id t c Id.Network id k = not_twice (numbers_of t c Id.Network) id k.networks
against_id t c Id.Port id k = not_twice (numbers_of t c Id.Port) id k.ports
against_id t c Id.Sequence id k = not_twice (numbers_of t c Id.Sequence) id k.sequences
against_id t c Id.Service id k = not_twice (numbers_of t c Id.Service) id k.services
against_id t c Id.Use id k = not_twice (numbers_of t c Id.Use) id k.uses

-- references

module _ (t : Topology) (c : Config) (name : List ℕ) (k : HasReferents t c) where
  abbrev hops : List (List ℕ)
  hops = service_names c ++ chain_names c

  pub against_reference : ¬ IsDangling t c name
  against_reference (controller h none) =
      no_any (λ (n : Node). All (Contains (controller_names t)) n.controllers) (λ n. Contains n.controllers name) t.nodes k.controllers
      (λ n all listed. none (all_of (Contains (controller_names t)) n.controllers name all listed)) h
  against_reference (policy h none) =
      no_any (λ (n : Network). All (Contains (policy_names c)) n.policies) (λ n. Contains n.policies name) c.networks k.policies
      (λ n all listed. none (all_of (Contains (policy_names c)) n.policies name all listed)) h
  against_reference (network_of_port h none) =
      no_any (λ (p : Port). Contains (network_names c) p.network × Contains (node_names t) p.node) (λ p. p.network ≡ name) c.ports k.ports
      (λ p both e. none (subst (Contains (network_names c)) e both.0)) h
  against_reference (node_of_port h none) =
      no_any (λ (p : Port). Contains (network_names c) p.network × Contains (node_names t) p.node) (λ p. p.node ≡ name) c.ports k.ports
      (λ p both e. none (subst (Contains (node_names t)) e both.1)) h
  against_reference (source h none) =
      no_any (λ (r : NumberedRule). EndExists (network_names c) r.rule.source × EndExists (network_names c) r.rule.destination × ChainExists (chain_names c) r.rule.action)
      (λ r. r.rule.source ≡ Ends.Named name) (all_rules c) k.rules
      (λ r parts e. none (subst (EndExists (network_names c)) e parts.0)) h
  against_reference (destination h none) =
      no_any (λ (r : NumberedRule). EndExists (network_names c) r.rule.source × EndExists (network_names c) r.rule.destination × ChainExists (chain_names c) r.rule.action)
      (λ r. r.rule.destination ≡ Ends.Named name) (all_rules c) k.rules
      (λ r parts e. none (subst (EndExists (network_names c)) e parts.1)) h
  against_reference (chain_of_rule h none) =
      no_any (λ (r : NumberedRule). EndExists (network_names c) r.rule.source × EndExists (network_names c) r.rule.destination × ChainExists (chain_names c) r.rule.action)
      (λ r. LeadsThrough r.rule.action name) (all_rules c) k.rules
      (λ r parts e. none (subst (ChainExists (chain_names c)) e.1 parts.2)) h
  against_reference (node_of_service h none) =
      no_any (λ (s : Service). Contains (node_names t) s.node) (λ s. s.node ≡ name) c.services k.services
      (λ s exists e. none (subst (Contains (node_names t)) e exists)) h
  against_reference (hop h none) =
      no_any (λ (d : Chain). All (Contains hops) d.hops) (λ d. Contains d.hops name) c.chains k.hops
      (λ d all listed. none (all_of (Contains hops) d.hops name all listed)) h

-- subnets, ports, chain rules, chains and related networks

pub held : (o : Option Network) (P : Network → Type 0) → IfSome o P → ¬ IsSomeAnd o (λ n. ¬ P n)
held None P h outside = outside
held (Some n) P h outside = outside h

pub against_any : (r : Rule) → NamesEnds r → IsChainRule r → ¬ HasAny r
against_any r names rule (inl e) = (names rule.0 rule.1.0 rule.1.1).0 e
against_any r names rule (inr e) = (names rule.0 rule.1.0 rule.1.1).1 e

against_overlap : (c : Config) (n a b : Network) → AllPairs (λ x y. IsAround c n x → IsAround c n y → AreApart x y) c.networks → ¬ OverlapAround c n a b
against_overlap c n a b all h =
    let apart : AreApart a b = pair_of (λ (x : Network) (y : Network). IsAround c n x → IsAround c n y → AreApart x y) c.networks a b all h.networks h.first_around h.second_around in
    no_any (λ (p : Block). All (λ q. ¬ Overlap p q) b.subnets) (λ p. Any (Overlap p) b.subnets) a.subnets apart
    (λ p none. no_any (λ (q : Block). ¬ Overlap p q) (Overlap p) b.subnets none (λ q differ. differ)) h.subnets

pub against_reserved : (t : Topology) (c : Config) (network : List ℕ) (prefix : Block) → ReservesCircuits c → ¬ Breaks t c (SubnetReserved network prefix)
against_reserved t c network prefix reserved h =
    no_any (λ (n : Network). All (λ p. ¬ Overlap circuit_addresses p) n.subnets) (λ n. (n.name ≡ network) × Contains n.subnets prefix × Overlap circuit_addresses prefix) c.networks reserved
    (λ n none e. all_of (λ (p : Block). ¬ Overlap circuit_addresses p) n.subnets prefix none e.1 e.2) h

pub against_nested : (t : Topology) (c : Config) (network : List ℕ) (first second : Block) → HasFlatSubnets c → ¬ Breaks t c (SubnetNested network first second)
against_nested t c network first second flat h =
    no_any (λ (n : Network). AllPairs (λ p q. ¬ Overlap p q) n.subnets) (λ n. (n.name ≡ network) × StandsBefore n.subnets first second × Overlap first second) c.networks flat
    (λ n none e. pair_of (λ (p : Block) (q : Block). ¬ Overlap p q) n.subnets first second none e.1 e.2) h

pub against_outside : (t : Topology) (c : Config) (port : List ℕ) → HoldsAddresses c → ¬ Breaks t c (AddressOutside port)
against_outside t c port holds h =
    no_any (λ (p : Port). IfSome (network_named c p.network) (λ n. Any (λ s. contains s p.address.0 ≡ true) n.subnets)) (λ p. (p.name ≡ port) × LiesOutside c p) c.ports holds
    (λ p inside e. held (network_named c p.network) (λ n. Any (λ s. contains s p.address.0 ≡ true) n.subnets) inside e.1) h

pub against_taken : (t : Topology) (c : Config) (first second : List ℕ) → HasDistinctAddresses c → ¬ Breaks t c (AddressTaken first second)
against_taken t c first second addresses h =
    pair_of (λ (p : Port) (q : Port). ¬ ((p.network ≡ q.network) × (p.address.0 ≡ q.address.0))) c.ports h.0 h.1 addresses h.4.ports (h.4.network, h.4.address)

pub against_needs : (t : Topology) (c : Config) (rule : RuleNo) → All (λ r. NamesEnds r.rule) (all_rules c) → ¬ Breaks t c (ChainNeedsNetworks rule)
against_needs t c rule ends h =
    no_any (λ (r : NumberedRule). NamesEnds r.rule) (λ r. (r.number ≡ rule) × IsChainRule r.rule × HasAny r.rule) (all_rules c) ends
    (λ r names e. against_any r.rule names e.1 e.2) h

pub against_same : (t : Topology) (c : Config) (rule : RuleNo) → All (λ r. NamesTwo r.rule) (all_rules c) → ¬ Breaks t c (ChainSameNetwork rule)
against_same t c rule two h =
    no_any (λ (r : NumberedRule). NamesTwo r.rule) (λ r. (r.number ≡ rule) × IsChainRule r.rule × HasOneNetwork r.rule) (all_rules c) two
    (λ r names e. names e.1.0 e.2.0 e.1.1.0 e.1.1.1 e.2.1 e.2.2) h

pub against_loop : (t : Topology) (c : Config) (chain : List ℕ) → All (λ d. loops c d.name ≡ false) c.chains → ¬ Breaks t c (ChainLoop chain)
against_loop t c chain straight h =
    no_any (λ (d : Chain). loops c d.name ≡ false) (λ d. d.name ≡ chain) c.chains straight
    (λ d none e. let never : true ≡ false = sym (leads_from_Leads c chain chain h.1) ∙ subst (λ (n : List ℕ). loops c n ≡ false) e none in cc) h.0

pub against_long : (t : Topology) (c : Config) (chain : List ℕ) → All (λ d. length (expansion c d.name) ≤ 15) c.chains → ¬ Breaks t c (ChainTooLong chain)
against_long t c chain all_short h =
    no_any (λ (d : Chain). length (expansion c d.name) ≤ 15) (λ d. d.name ≡ chain) c.chains all_short
    (λ d short e. let few : length (expansion c chain) ≤ 15 = subst (λ (n : List ℕ). length (expansion c n) ≤ 15) e short in let more = h.2 in omega arith) h.0

pub against_twice : (t : Topology) (c : Config) (chain service : List ℕ) → All (λ d. AllPairs (λ s u. s.id.0 ≢ u.id.0) (expansion c d.name)) c.chains → ¬ Breaks t c (ServiceTwice chain service)
against_twice t c chain service all_once h =
    no_any (λ (d : Chain). AllPairs (λ s u. s.id.0 ≢ u.id.0) (expansion c d.name)) (λ d. d.name ≡ chain) c.chains all_once
    (λ d once e.
    let differ : AllPairs (λ s u. s.id.0 ≢ u.id.0) (expansion c chain) = subst (λ (n : List ℕ). AllPairs (λ s u. s.id.0 ≢ u.id.0) (expansion c n)) e once in
    pair_of (λ (s : Service) (u : Service). s.id.0 ≢ u.id.0) (expansion c chain) h.2 h.3 differ h.5.places h.5.number) h.0

pub against_overlaps : (t : Topology) (c : Config) (first second : List ℕ) → All (λ n. AllPairs (λ a b. IsAround c n a → IsAround c n b → AreApart a b) c.networks) c.networks → ¬ Breaks t c (SubnetOverlap first second)
against_overlaps t c first second all_apart h =
    no_any (λ (n : Network). AllPairs (λ a b. IsAround c n a → IsAround c n b → AreApart a b) c.networks)
    (λ n. (a : Network) × (b : Network) × (a.name ≡ first) × (b.name ≡ second) × OverlapAround c n a b) c.networks all_apart
    (λ n apart e. against_overlap c n e.0 e.1 apart e.4) h

pub breaks_invalid : (t : Topology) (c : Config) (r : Refusal) → Breaks t c r → ¬ IsValid t c
breaks_invalid t c (Limit what) h v = against_limit t c what v.limits h
breaks_invalid t c (DuplicateName name) h v = against_name t c name v.names h
breaks_invalid t c (DuplicateId what id) h v = against_id t c what id v.numbers h
breaks_invalid t c (BadReference name) h v = against_reference t c name v.references h
breaks_invalid t c (SubnetReserved network prefix) h v = against_reserved t c network prefix v.reserved h
breaks_invalid t c (SubnetNested network first second) h v = against_nested t c network first second v.flat h
breaks_invalid t c (AddressOutside port) h v = against_outside t c port v.inside h
breaks_invalid t c (AddressTaken first second) h v = against_taken t c first second v.addresses h
breaks_invalid t c (ChainNeedsNetworks rule) h v = against_needs t c rule v.ends h
breaks_invalid t c (ChainSameNetwork rule) h v = against_same t c rule v.two h
breaks_invalid t c (ChainLoop chain) h v = against_loop t c chain v.straight h
breaks_invalid t c (ChainTooLong chain) h v = against_long t c chain v.short h
breaks_invalid t c (ServiceTwice chain service) h v = against_twice t c chain service v.once h
breaks_invalid t c (SubnetOverlap first second) h v = against_overlaps t c first second v.apart h
