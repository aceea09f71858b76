-- A configuration leads a packet by one way alone, and offers each way with one track alone.
use Rattle.std.proofs.Common.{◌≡◌, ◌⊎◌, inl, inr, ℕ, true, IsTrue, List, [], ◌∷◌, Option, Some, map, refl, sym, ap, ◌∙◌, subst, arith}
use Rattle.std.specs.List.{All, AllPairs, AllZip, Contains}
use Rattle.std.proofs.lemmas.List.Elements.{All-contains}
use Rattle.ov_types.specs.Prefix.{Block, contains, is_block}
use Rattle.ov_types.specs.declared.numbers.PortNo.{PortNo}
use Rattle.ov_types.specs.declared.numbers.ServiceNo.{ServiceNo}
use Rattle.ov_types.specs.declared.packet.Packet.{Packet}
use Rattle.ov_types.specs.declared.packet.Tuple.{Tuple}
use Rattle.ov_types.specs.declared.prefix.Addr.{Addr}
use Rattle.ov_types.proofs.FirstLemmas.{all_tail, contains_cases, pairs_head, pairs_tail}
use Rattle.config_types.specs.Form.{has_config_form}
use Rattle.config_types.specs.declared.config.Action.TheVariants.{Pass, Through}
use Rattle.config_types.specs.declared.config.Config.{Config}
use Rattle.config_types.specs.declared.config.Network.{Network}
use Rattle.config_types.specs.declared.config.Port.{Port}
use Rattle.config_types.specs.declared.config.Service.{Service}
use Rattle.config_types.specs.declared.topology.Node.{Node}
use Rattle.config_types.specs.declared.topology.Topology.{Topology}
use Rattle.chain_expand.specs.Expansion.{expansion}
use Rattle.policy_rules.specs.Taking.{IsDeciding}
use Rattle.policy_rules.specs.declared.matching.Match.{Match}
use Rattle.policy_rules.proofs.Taking.{deciding_iff}
use Rattle.config_check.specs.Checked.{Checked}
use Rattle.config_check.specs.Finding.{Finds, network_named, node_named, port_at, port_numbered}
use Rattle.config_check.specs.Sentences.{IsValid, Overlap}
use Rattle.config_check.proofs.Finders.{finds_network_named, finds_node_named, finds_port_at, finds_port_numbered}
use Rattle.config_check.proofs.Nested.{overlap_at}
use Rattle.config_check.proofs.OneHome.{HasBlocks, blocks_of}
use Rattle.reach_plain.specs.Outcomes.{IsTowards, Leaves}
use Rattle.reach_plain.proofs.Found.{target_is}
use Rattle.hitless_cells.specs.Ways.{Arrives, GoesBy, IsNodeNamed, IsStop, LeadsTo, Offers, Opens, Track, Way}
use Rattle.hitless_cells.specs.Ways.Way.{inside, passing, through}
use Rattle.hitless_cells.proofs.OneRule.{one_chain}

-- what is found is one
one_found : {A : Type 0} (o : Option A) (IsIt : A → Type 0) (xs : List A) → Finds o IsIt xs → (a b : A) → Contains xs a → Contains xs b → IsIt a → IsIt b → a ≡ b
one_found o IsIt xs f a b in_a in_b is_a is_b =
    let same : Some a ≡ Some b = sym ((f.some a).1 (in_a, is_a)) ∙ (f.some b).1 (in_b, is_b) in
    cc

-- one of a list of blocks apart has an address
one_block : (xs : List Block) → AllPairs (λ p q. ¬ Overlap p q) xs → All (λ p. IsTrue (is_block p)) xs → (p q : Block) (a : ℕ) → Contains xs p → Contains xs q
    → contains p a ≡ true → contains q a ≡ true → p ≡ q
one_block [] h form p q a in_p in_q has_p has_q = absurd (omega (arith, in_p.1))
one_block (z ∷ zs) h form p q a in_p in_q has_p has_q =
    by (λ i j. one_block zs (pairs_tail (λ p q. ¬ Overlap p q) z zs h) (all_tail (λ p. IsTrue (is_block p)) z zs form) p q a i j has_p has_q)
    (contains_cases z zs p in_p) (contains_cases z zs q in_q)
  where
    is : (x : Block) → Contains (z ∷ zs) x → IsTrue (is_block x)
    is x at = All-contains (λ p. IsTrue (is_block p)) (z ∷ zs) x form at

    apart : (x : Block) → Contains zs x → ¬ Overlap z x
    apart x at = All-contains (λ q. ¬ Overlap z q) zs x (pairs_head (λ p q. ¬ Overlap p q) z zs h) at

    by : (Contains zs p → Contains zs q → p ≡ q) → (z ≡ p) ⊎ Contains zs p → (z ≡ q) ⊎ Contains zs q → p ≡ q
    by again (inl first) (inl second) = sym first ∙ second
    by again (inl first) (inr later) = absurd (apart q later (subst (λ (x : Block). Overlap x q) (sym first) (overlap_at p q a (is p in_p) (is q in_q) has_p has_q)))
    by again (inr later) (inl second) = absurd (apart p later (subst (λ (x : Block). Overlap x p) (sym second) (overlap_at q p a (is q in_q) (is p in_p) has_q has_p)))
    by again (inr early) (inr late) = again early late

-- the stops of services are one list, and have their numbers
one_list : (t : Topology) (ss : List Service) (ks ls : List (ServiceNo × Node)) → ((name : List ℕ) (n m : Node) → IsNodeNamed t name n → IsNodeNamed t name m → n ≡ m)
    → AllZip (IsStop t) ss ks → AllZip (IsStop t) ss ls → ks ≡ ls
one_list t [] [] [] one h g = refl
one_list t [] [] (l ∷ ls) one h g = absurd g
one_list t [] (k ∷ ks) ls one h g = absurd h
one_list t (s ∷ ss) [] ls one h g = absurd h
one_list t (s ∷ ss) (k ∷ ks) [] one h g = absurd g
one_list t (s ∷ ss) (k ∷ ks) (l ∷ ls) one h g =
    let number : k.0 ≡ l.0 = sym h.0.number ∙ g.0.number in
    let node : k.1 ≡ l.1 = one s.node k.1 l.1 h.0.node g.0.node in
    let rest : ks ≡ ls = one_list t ss ks ls one h.1 g.1 in
    λ i. (number i, node i) ∷ rest i

pub stop_numbers : (t : Topology) (ss : List Service) (ks : List (ServiceNo × Node)) → AllZip (IsStop t) ss ks → map (λ s. s.id) ss ≡ map (λ k. k.0) ks
stop_numbers t [] [] h = refl
stop_numbers t [] (k ∷ ks) h = absurd h
stop_numbers t (s ∷ ss) [] h = absurd h
stop_numbers t (s ∷ ss) (k ∷ ks) h =
    let number : s.id ≡ k.0 = h.0.number in
    let rest : map (λ s. s.id) ss ≡ map (λ k. k.0) ks = stop_numbers t ss ks h.1 in
    λ i. number i ∷ rest i

module _ (x : Checked) (v : IsValid x.topology x.config) where
  abbrev c : Config
  c = x.config

  one_numbered : (n : PortNo) (a b : Port) → Contains c.ports a → Contains c.ports b → a.id ≡ n → b.id ≡ n → a ≡ b
  one_numbered n a b in_a in_b is_a is_b =
      one_found (port_numbered c n.0) (λ p. p.id.0 ≡ n.0) c.ports (finds_port_numbered x.topology c n.0 v) a b in_a in_b
      (ap (λ (m : PortNo). m.0) is_a) (ap (λ (m : PortNo). m.0) is_b)

  pub one_network : (name : List ℕ) (a b : Network) → Contains c.networks a → Contains c.networks b → a.name ≡ name → b.name ≡ name → a ≡ b
  one_network name a b in_a in_b is_a is_b = one_found (network_named c name) (λ n. n.name ≡ name) c.networks (finds_network_named x.topology c name v) a b in_a in_b is_a is_b

  one_node : (name : List ℕ) (n m : Node) → IsNodeNamed x.topology name n → IsNodeNamed x.topology name m → n ≡ m
  one_node name n m h g =
      one_found (node_named x.topology name) (λ n. n.name ≡ name) x.topology.nodes (finds_node_named x.topology c name v) n m h.stands g.stands h.named g.named

  one_source : (p : Packet) (a b : Network) → (h : Leaves c p a) → (g : Leaves c p b) → h.source ≡ g.source
  one_source p a b h g = one_numbered p.source h.source g.source h.source_stands g.source_stands h.source_number g.source_number

  pub one_own : (p : Packet) (a b : Network) → Leaves c p a → Leaves c p b → a ≡ b
  one_own p a b h g =
      one_network g.source.network a b h.own_stands g.own_stands (h.own_name ∙ ap (λ (q : Port). q.network) (one_source p a b h g)) g.own_name

  one_arrival : (p : Packet) (number : PortNo) (a b : Network) → (h : Arrives c p number a) → (g : Arrives c p number b) → h.arrival ≡ g.arrival
  one_arrival p number a b h g = one_numbered number h.arrival g.arrival h.arrival_stands g.arrival_stands h.arrival_number g.arrival_number

  pub one_entered : (p : Packet) (number : PortNo) (a b : Network) → Arrives c p number a → Arrives c p number b → Contains c.networks a → Contains c.networks b → a ≡ b
  one_entered p number a b h g in_a in_b =
      one_network g.arrival.network a b in_a in_b (sym h.arrival_network ∙ ap (λ (q : Port). q.network) (one_arrival p number a b h g)) (sym g.arrival_network)

  -- one way is taken

  one_decider : (a b : Network) (t : Tuple) (m n : Match) → IsDeciding c a b t m → IsDeciding c a b t n → m ≡ n
  one_decider a b t m n h g =
      let same : Some m ≡ Some n = sym ((deciding_iff c a b t m).1 h) ∙ (deciding_iff c a b t n).1 g in
      cc

  one_by : (a b : Network) (t : Tuple) (w u : Way) → GoesBy c a b t w → GoesBy c a b t u → w ≡ u
  one_by a b t inside inside h g = refl
  one_by a b t inside passing h g = absurd (g.0 h)
  one_by a b t inside (through n m) h g = absurd (g.0 h)
  one_by a b t passing inside h g = absurd (h.0 g)
  one_by a b t (through n m) inside h g = absurd (h.0 g)
  one_by a b t passing passing h g = refl
  one_by a b t passing (through n m) h g =
      let same : h.1.decider ≡ g.1.decider = one_decider a b t h.1.decider g.1.decider h.1.decides g.1.decides in
      let never : Pass ≡ Through g.1.chain n = sym h.1.passes ∙ ap (λ (d : Match). d.rule.rule.action) same ∙ g.1.leads in
      absurd (cc)
  one_by a b t (through n m) passing h g =
      let same : g.1.decider ≡ h.1.decider = one_decider a b t g.1.decider h.1.decider g.1.decides h.1.decides in
      let never : Pass ≡ Through h.1.chain n = sym g.1.passes ∙ ap (λ (d : Match). d.rule.rule.action) same ∙ h.1.leads in
      absurd (cc)
  one_by a b t (through n m) (through k l) h g =
      let same : h.1.decider ≡ g.1.decider = one_decider a b t h.1.decider g.1.decider h.1.decides g.1.decides in
      let acts : Through h.1.chain n ≡ Through g.1.chain k = sym h.1.leads ∙ ap (λ (d : Match). d.rule.rule.action) same ∙ g.1.leads in
      let number : n ≡ k = cc in
      let matched : m ≡ l = sym h.1.matched ∙ ap (λ (d : Match). d.mirrored) same ∙ g.1.matched in
      λ i. through (number i) (matched i)

  -- one track is offered

  module _ (form : IsTrue (has_config_form c)) where
    pub one_way : (p : Packet) (q r : PortNo) (w u : Way) → LeadsTo c p q w → LeadsTo c p r u → (q ≡ r) × (w ≡ u)
    one_way p q r w u h g =
        let own : h.own ≡ g.own = one_own p h.own g.own h.goes.leaves g.goes.leaves in
        let towards : IsTowards c h.own g.target p.destination.0 = subst (λ (a : Network). IsTowards c a g.target p.destination.0) (sym own) g.goes.towards in
        let found : Some h.target ≡ Some g.target =
        sym (target_is x.topology c h.own h.target p.destination.0 form v h.goes.leaves.own_stands h.goes.towards)
        ∙ target_is x.topology c h.own g.target p.destination.0 form v h.goes.leaves.own_stands towards in
        let target : h.target ≡ g.target = cc in
        let by : GoesBy c h.own h.target p.tuple u =
        subst (λ (b : Network). GoesBy c h.own b p.tuple u) (sym target) (subst (λ (a : Network). GoesBy c a g.target p.tuple u) (sym own) g.by_way) in
        let arrival : h.arrives.arrival ≡ g.arrives.arrival =
        one_found (port_at c h.target p.destination.0) (λ q. (q.network ≡ h.target.name) × (q.address.0 ≡ p.destination.0)) c.ports (finds_port_at x.topology c h.target p.destination.0 v)
        h.arrives.arrival g.arrives.arrival h.arrives.arrival_stands g.arrives.arrival_stands
        (h.arrives.arrival_network, ap (λ (a : Addr). a.0) h.arrives.arrival_address)
        (g.arrives.arrival_network ∙ ap (λ (b : Network). b.name) (sym target), ap (λ (a : Addr). a.0) g.arrives.arrival_address) in (
          sym h.arrives.arrival_number ∙ ap (λ (q : Port). q.id) arrival ∙ g.arrives.arrival_number,
          one_by h.own h.target p.tuple w u h.by_way by,
        )

    subnet_is : (p : Packet) (b : Network) → Contains c.networks b → (s t : Block) → Contains b.subnets s → Contains b.subnets t → contains s p.destination.0 ≡ true → contains t p.destination.0 ≡ true → s ≡ t
    subnet_is p b in_b s t in_s in_t has_s has_t =
        one_block b.subnets (All-contains (λ (n : Network). AllPairs (λ p q. ¬ Overlap p q) n.subnets) c.networks b v.flat in_b)
        (All-contains HasBlocks c.networks b (blocks_of c form) in_b) s t p.destination.0 in_s in_t has_s has_t

    one_opened : (p : Packet) (a b : Network) → Contains c.networks b → (w : Way) (k l : Track) → Opens x p a b w k → Opens x p a b w l → (k.stops ≡ l.stops) × (k.subnet ≡ l.subnet)
    one_opened p a b in_b inside k l h g = (h.1.no_stops ∙ sym g.1.no_stops, h.1.no_subnet ∙ sym g.1.no_subnet)
    one_opened p a b in_b passing k l h g = (h.2.no_stops ∙ sym g.2.no_stops, h.2.no_subnet ∙ sym g.2.no_subnet)
    one_opened p a b in_b (through n m) k l h g =
        let chain : h.1.chain ≡ g.1.chain = one_chain x.topology c v a b h.1.rule g.1.rule h.1.chain g.1.chain n h.1.stands g.1.stands h.1.leads g.1.leads in
        let zip : AllZip (IsStop x.topology) (expansion c h.1.chain) l.stops =
        subst (λ (d : List ℕ). AllZip (IsStop x.topology) (expansion c d) l.stops) (sym chain) g.1.stops in (
          one_list x.topology (expansion c h.1.chain) k.stops l.stops one_node h.1.stops zip,
          h.1.subnet_is ∙ ap Some (subnet_is p b in_b h.1.subnet g.1.subnet h.1.subnet_stands g.1.subnet_stands h.1.holds g.1.holds) ∙ sym g.1.subnet_is,
        )

    pub one_track : (p : Packet) (q : PortNo) (w : Way) (k l : Track) → Offers x p q w k → Offers x p q w l → k ≡ l
    one_track p q w k l h g =
        let own : h.own ≡ g.own = one_own p h.own g.own h.leaves g.leaves in
        let target : h.target ≡ g.target = one_entered p q h.target g.target h.arrives g.arrives h.target_stands g.target_stands in
        let source : h.leaves.source ≡ g.leaves.source = one_source p h.own g.own h.leaves g.leaves in
        let arrival : h.arrives.arrival ≡ g.arrives.arrival = one_arrival p q h.target g.target h.arrives g.arrives in
        let from : k.from ≡ l.from = sym h.own_is ∙ ap (λ (a : Network). a.id) own ∙ g.own_is in
        let to : k.to ≡ l.to = sym h.target_is ∙ ap (λ (a : Network). a.id) target ∙ g.target_is in
        let left : k.source_node ≡ l.source_node =
        one_node g.leaves.source.node k.source_node l.source_node
        (subst (λ (q : Port). IsNodeNamed x.topology q.node k.source_node) source h.source_node) g.source_node in
        let right : k.arrival_node ≡ l.arrival_node =
        one_node g.arrives.arrival.node k.arrival_node l.arrival_node
        (subst (λ (q : Port). IsNodeNamed x.topology q.node k.arrival_node) arrival h.arrival_node) g.arrival_node in
        let opens : Opens x p h.own h.target w l =
        subst (λ (b : Network). Opens x p h.own b w l) (sym target) (subst (λ (a : Network). Opens x p a g.target w l) (sym own) g.opens) in
        let rest = one_opened p h.own h.target h.target_stands w k l h.opens opens in
        λ i. record { from = from i; to = to i; source_node = left i; arrival_node = right i; stops = rest.0 i; subnet = rest.1 i }
