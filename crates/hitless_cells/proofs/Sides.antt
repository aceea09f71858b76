-- What a configuration offers and takes between two ports, as it is computed.
use Rattle.std.proofs.Common.{◌≡◌, ◌≢◌, ◌⊎◌, inl, inr, ℕ, ◌||◌, Bool, true, false, cond, IsTrue, List, [], Option, Some, None, IfSome, option_map, map, refl, sym, ap, ◌∙◌, subst}
use Rattle.std.specs.Bool.{Decides}
use Rattle.std.specs.List.{Any, Contains, list_any}
use Rattle.std.proofs.lemmas.Bool.Decides.{Decides-or}
use Rattle.std.proofs.lemmas.List.Elements.{All-contains}
use Rattle.ov_types.specs.First.{same_name}
use Rattle.ov_types.specs.Prefix.{Block, contains}
use Rattle.ov_types.specs.declared.numbers.PortNo.{PortNo}
use Rattle.ov_types.specs.declared.numbers.ServiceNo.{ServiceNo}
use Rattle.ov_types.specs.declared.packet.Packet.{Packet}
use Rattle.ov_types.specs.declared.packet.Tuple.{Tuple}
use Rattle.ov_types.specs.declared.prefix.Addr.{Addr}
use Rattle.ov_types.proofs.FirstLemmas.{answered, find_none, found_is, same_name_iff}
use Rattle.config_types.specs.Form.{has_config_form}
use Rattle.config_types.specs.declared.config.Action.{Action}
use Rattle.config_types.specs.declared.config.Action.TheVariants as Does
use Rattle.config_types.specs.declared.config.Config.{Config}
use Rattle.config_types.specs.declared.config.Network.{Network}
use Rattle.config_types.specs.declared.config.Port.{Port}
use Rattle.config_types.specs.declared.topology.Node.{Node}
use Rattle.policy_rules.specs.Matching.{deciding}
use Rattle.policy_rules.specs.Related.{are_related, passes, rules_between}
use Rattle.policy_rules.specs.Standing.{AreRelated, PassesBetween}
use Rattle.policy_rules.specs.Taking.{IsDeciding}
use Rattle.policy_rules.specs.declared.matching.Match.{Match}
use Rattle.policy_rules.proofs.Relations.{imports_iff, related_iff}
use Rattle.policy_rules.proofs.Taking.{deciding_iff}
use Rattle.config_check.specs.Checked.{Checked}
use Rattle.config_check.specs.Finding.{network_named, node_named}
use Rattle.config_check.specs.Rules.{network_names, node_names}
use Rattle.config_check.specs.Sentences.{IsValid}
use Rattle.config_check.proofs.Finders.{finds_network_named, finds_port_numbered}
use Rattle.reach_plain.specs.Outcomes.{IsTowards, Leaves}
use Rattle.hitless_cells.specs.Ways.{Arrives, GoesBy, IsNodeNamed, LeadsTo, Offers, Opens, Track, Way}
use Rattle.hitless_cells.specs.Ways.Way.{inside, passing, through}
use Rattle.hitless_cells.proofs.Alone.{one_entered, one_own, one_track}
use Rattle.hitless_cells.specs.Cells.{is_near}
use Rattle.hitless_cells.specs.Courses.{course_by, course_of, course_on, way_of}
use Rattle.hitless_cells.specs.Lines.{subnet_at}
use Rattle.hitless_cells.specs.Openings.{opened, opened_between, opened_within, stops_of, used_chain}
use Rattle.hitless_cells.specs.declared.course.Course.{Course}
use Rattle.hitless_cells.specs.declared.course.Course.TheVariants.{Inside, Passing, Through}
use Rattle.hitless_cells.specs.declared.stops.Stop.{Stop}
use Rattle.hitless_cells.proofs.Chains.{IsUsed, chain_stops, is_used, node_found, node_of, stop_from, stops_found, used_by}
use Rattle.hitless_cells.proofs.Sameness.{apart, differs}

-- a packet's two ports, with their networks
pub record Side (x : Checked) (p : Packet) (number : PortNo) (a b : Network) (q d : Port) : Type 0 where
  pub own_stands : Contains x.config.networks a
  pub target_stands : Contains x.config.networks b
  pub source_stands : Contains x.config.ports q
  pub source_network : q.network ≡ a.name
  pub source_number : q.id ≡ p.source
  pub arrival_stands : Contains x.config.ports d
  pub arrival_network : d.network ≡ b.name
  pub arrival_address : d.address ≡ p.destination
  pub arrival_number : d.id ≡ number

-- the subnet of a way's track
abbrev pub subnet_on : Course → Network → ℕ → Option Block
subnet_on Inside b address = None
subnet_on Passing b address = None
subnet_on (Through use_no mirrored) b address = subnet_at b address

-- the parts of a track, as they are computed
pub record Parts (x : Checked) (p : Packet) (a b : Network) (q d : Port) (w : Course) (k : Track) : Type 0 where
  pub from : a.id ≡ k.from
  pub to : b.id ≡ k.to
  pub source : node_named x.topology q.node ≡ Some k.source_node
  pub arrival : node_named x.topology d.node ≡ Some k.arrival_node
  pub stops : opened x a b w ≡ Some (map stop_from k.stops)
  pub subnet : k.subnet ≡ subnet_on w b p.destination.0

cond_true : {A : Type 0} (b : Bool) (u w : A) → b ≡ true → cond b u w ≡ u
cond_true true u w h = refl
cond_true false u w h = absurd cc

cond_false : {A : Type 0} (b : Bool) (u w : A) → b ≡ false → cond b u w ≡ w
cond_false true u w h = absurd cc
cond_false false u w h = refl

some_is : {A : Type 0} (b : Bool) (u : A) (y : A) → cond b (Some u) None ≡ Some y → (b ≡ true) × (u ≡ y)
some_is true u y h = (refl, cc)
some_is false u y h = absurd cc

mapped_some : {A B : Type 0} (f : A → B) (o : Option A) (y : B) → option_map f o ≡ Some y → (z : A) × (o ≡ Some z) × (f z ≡ y)
mapped_some f None y h = absurd cc
mapped_some f (Some z) y h = (z, refl, cc)

or_right : (a b : Bool) → b ≡ true → (a || b) ≡ true
or_right true b h = refl
or_right false b h = h

or_second : (a b : Bool) → a ≡ false → (a || b) ≡ true → b ≡ true
or_second true b h k = absurd cc
or_second false b h k = k

near_iff : (c : Config) (a b : Network) → Decides (is_near c a b) ((b.name ≡ a.name) ⊎ AreRelated c a b)
near_iff c a b = Decides-or (same_name b.name a.name) (are_related c a b) (same_name_iff b.name a.name) (related_iff c a b)

module _ (x : Checked) (v : IsValid x.topology x.config) (form : IsTrue (has_config_form x.config)) where
  abbrev c : Config
  c = x.config

  one_port : (n : PortNo) (q r : Port) → Contains c.ports q → Contains c.ports r → q.id ≡ n → r.id ≡ n → q ≡ r
  one_port n q r in_q in_r is_q is_r =
      let f = finds_port_numbered x.topology c n.0 v in
      let same : Some q ≡ Some r = sym ((f.some q).1 (in_q, ap (λ (m : PortNo). m.0) is_q)) ∙ (f.some r).1 (in_r, ap (λ (m : PortNo). m.0) is_r) in
      cc

  module _ (p : Packet) (number : PortNo) (a b : Network) (q d : Port) (s : Side x p number a b q d) where
    abbrev pub leaves : Leaves c p a
    leaves = record {
      source = q;
      source_stands = s.source_stands;
      source_number = s.source_number;
      own_stands = s.own_stands;
      own_name = sym s.source_network;
    }

    abbrev pub arrives : Arrives c p number b
    arrives = record {
      arrival = d;
      arrival_stands = s.arrival_stands;
      arrival_network = s.arrival_network;
      arrival_address = s.arrival_address;
      arrival_number = s.arrival_number;
    }

    -- the address is in a subnet
    held : Any (λ s. IsTrue (contains s p.destination.0)) b.subnets
    held =
        let named : network_named c d.network ≡ Some b = ((finds_network_named x.topology c d.network v).some b).1 (s.target_stands, sym s.arrival_network) in
        let inside = All-contains (λ (r : Port). IfSome (network_named c r.network) (λ n. Any (λ s. contains s r.address.0 ≡ true) n.subnets)) c.ports d v.inside s.arrival_stands in
        let here = answered (λ (n : Network). Any (λ s. contains s d.address.0 ≡ true) n.subnets) (network_named c d.network) inside b named in
        subst (λ (m : ℕ). Any (λ s. contains s m ≡ true) b.subnets) (ap (λ (m : Addr). m.0) s.arrival_address) here

    pub held_by : (t : Block) × (subnet_at b p.destination.0 ≡ Some t) × Contains b.subnets t × (contains t p.destination.0 ≡ true)
    held_by =
        elim (subnet_at b p.destination.0) as (λ o. subnet_at b p.destination.0 ≡ o → (t : Block) × (o ≡ Some t) × Contains b.subnets t × (contains t p.destination.0 ≡ true)) [
          | None ↦ λ e.
              let h = held in
              let fails : contains h.1 p.destination.0 ≡ false =
              All-contains (λ (t : Block). contains t p.destination.0 ≡ false) b.subnets h.1 ((find_none (λ (t : Block). contains t p.destination.0) b.subnets).0 e) (h.0, h.2, h.3) in
              let never : true ≡ false = sym h.4 ∙ fails in
              absurd cc
          | Some t ↦ λ e. let f = found_is (λ (t : Block). contains t p.destination.0) b.subnets t e in (t, refl, f.1, f.0)
        ] refl

    -- what is taken

    pub towards : is_near c a b ≡ true → IsTowards c a b p.destination.0
    towards h = record { stands = s.target_stands; near = (near_iff c a b).0 h; holds = held }

    goes_by : (t : Tuple) (w : Course) → course_on c a b t ≡ Some w → GoesBy c a b t (way_of w)
    goes_by t w h =
        elim (same_name b.name a.name) as (λ o. same_name b.name a.name ≡ o → cond o (Some Inside) (course_by (deciding c a b t)) ≡ Some w → GoesBy c a b t (way_of w)) [
          | true ↦ λ e k.
              let is : Inside ≡ w = cc in
              let same : b.name ≡ a.name = (same_name_iff b.name a.name).0 e in
              subst (λ (w : Course). GoesBy c a b t (way_of w)) is same
          | false ↦ λ e k. decided (deciding c a b t) refl (apart b.name a.name e) k
        ] refl h
      where
        acts : (m : Match) (act : Action) (w : Course) → IsDeciding c a b t m → m.rule.rule.action ≡ act → b.name ≢ a.name → course_of m.mirrored act ≡ Some w → GoesBy c a b t (way_of w)
        acts m Does.Pass w decides is differ k =
            let one : Passing ≡ w = cc in
            let g : GoesBy c a b t passing = (differ, record { decider = m; decides = decides; passes = is }) in
            subst (λ (w : Course). GoesBy c a b t (way_of w)) one g
        acts m Does.Deny w decides is differ k = absurd cc
        acts m (Does.Through chain use_no) w decides is differ k =
            let one : Through use_no m.mirrored ≡ w = cc in
            let g : GoesBy c a b t (through use_no m.mirrored) = (differ, record { decider = m; decides = decides; chain = chain; leads = is; matched = refl }) in
            subst (λ (w : Course). GoesBy c a b t (way_of w)) one g

        decided : (o : Option Match) → deciding c a b t ≡ o → b.name ≢ a.name → course_by o ≡ Some w → GoesBy c a b t (way_of w)
        decided None e differ k = absurd cc
        decided (Some m) e differ k = acts m m.rule.rule.action w ((deciding_iff c a b t m).0 e) refl differ k

    pub leads_to : (w : Course) → is_near c a b ≡ true → course_on c a b p.tuple ≡ Some w → LeadsTo c p number (way_of w)
    leads_to w near h = record {
      own = a;
      target = b;
      goes = record { leaves = leaves; towards = towards near };
      by_way = goes_by p.tuple w h;
      arrives = arrives;
    }

    -- what is offered

    offer : (w : Course) (n m : Node) (ks : List (ServiceNo × Node)) → IsNodeNamed x.topology q.node n → IsNodeNamed x.topology d.node m → opened x a b w ≡ Some (map stop_from ks)
        → Opens x p a b (way_of w) (record { from = a.id; to = b.id; source_node = n; arrival_node = m; stops = ks; subnet = subnet_on w b p.destination.0 })
        → (k : Track) × Offers x p number (way_of w) k × Parts x p a b q d w k
    offer w n m ks is_n is_m o opens =
        let k : Track = record { from = a.id; to = b.id; source_node = n; arrival_node = m; stops = ks; subnet = subnet_on w b p.destination.0 } in (
          k,
          record {
            own = a;
            own_is = refl;
            leaves = leaves;
            source_node = is_n;
            target = b;
            target_is = refl;
            target_stands = s.target_stands;
            arrives = arrives;
            arrival_node = is_m;
            opens = opens;
          },
          record { from = refl; to = refl; source = node_found x v q.node n is_n; arrival = node_found x v d.node m is_m; stops = o; subnet = refl },
        )

    node_at : (r : Port) → Contains c.ports r → (n : Node) × IsNodeNamed x.topology r.node n
    node_at r at =
        node_of x v r.node (All-contains (λ (r : Port). Contains (network_names c) r.network × Contains (node_names x.topology) r.node) c.ports r v.references.ports at).1

    pub offered_where_open : (w : Course) (stops : List Stop) → opened x a b w ≡ Some stops → (k : Track) × Offers x p number (way_of w) k × Parts x p a b q d w k
    offered_where_open w stops h =
        elim (same_name b.name a.name) as (λ o. same_name b.name a.name ≡ o → cond o (opened_within w) (opened_between x a b w) ≡ Some stops
        → (k : Track) × Offers x p number (way_of w) k × Parts x p a b q d w k) [
          | true ↦ λ e k. within w e k
          | false ↦ λ e k. between w e k
        ] refl h
      where
        n : (n : Node) × IsNodeNamed x.topology q.node n
        n = node_at q s.source_stands

        m : (n : Node) × IsNodeNamed x.topology d.node n
        m = node_at d s.arrival_stands

        passes_of : list_any (λ r. passes r.rule.action) (rules_between c a b) ≡ true → b.name ≢ a.name → PassesBetween c a b
        passes_of some differ =
            elim ((imports_iff c a b).0 (or_right (same_name a.name b.name) (list_any (λ r. passes r.rule.action) (rules_between c a b)) some)) [
              | inl same ↦ absurd (differ (sym same))
              | inr way ↦ way
            ]

        open_as : (w : Course) (b1 : Bool) → same_name b.name a.name ≡ b1 → opened x a b w ≡ cond b1 (opened_within w) (opened_between x a b w)
        open_as w b1 e = ap (λ (o : Bool). cond o (opened_within w) (opened_between x a b w)) e

        within : (w : Course) → same_name b.name a.name ≡ true → opened_within w ≡ Some stops → (k : Track) × Offers x p number (way_of w) k × Parts x p a b q d w k
        within Inside e k =
            offer Inside n.0 m.0 [] n.1 m.1 (open_as Inside true e) ((same_name_iff b.name a.name).0 e, record { no_stops = refl; no_subnet = refl })
        within Passing e k = absurd cc
        within (Through use_no mirrored) e k = absurd cc

        between : (w : Course) → same_name b.name a.name ≡ false → opened_between x a b w ≡ Some stops → (k : Track) × Offers x p number (way_of w) k × Parts x p a b q d w k
        between Inside e k = absurd cc
        between Passing e k =
            let some : Bool = list_any (λ r. passes r.rule.action) (rules_between c a b) in
            let parts = some_is some [] stops k in
            let differ : b.name ≢ a.name = apart b.name a.name e in
            let passes_by : PassesBetween c a b = passes_of parts.0 differ in
            offer Passing n.0 m.0 [] n.1 m.1 (open_as Passing false e ∙ cond_true some (Some []) None parts.0) (differ, passes_by, record { no_stops = refl; no_subnet = refl })
        between (Through use_no mirrored) e k =
            let chain = mapped_some (stops_of x) (used_chain c a b use_no mirrored) stops k in
            let u = used_by c a b use_no mirrored chain.0 chain.1 in
            let ks = chain_stops x v chain.0 in
            let are : stops_of x chain.0 ≡ map stop_from ks.0 = stops_found x v chain.0 ks.0 ks.1 in
            let t = held_by in
            offer (Through use_no mirrored) n.0 m.0 ks.0 n.1 m.1
            (open_as (Through use_no mirrored) false e ∙ ap (option_map (stops_of x)) chain.1 ∙ ap Some are) (
              apart b.name a.name e,
              record {
                rule = u.rule;
                stands = u.stands;
                chain = chain.0;
                leads = u.leads;
                speaks = u.speaks;
                stops = ks.1;
                subnet = t.0;
                subnet_stands = t.2;
                holds = t.3;
                subnet_is = t.1;
              },
            )

    opens_here : (w : Course) (k : Track) → Offers x p number (way_of w) k → Opens x p a b (way_of w) k
    opens_here w k h =
        let own : h.own ≡ a = one_own x v p h.own a h.leaves leaves in
        let target : h.target ≡ b = one_entered x v p number h.target b h.arrives arrives h.target_stands s.target_stands in
        subst (λ (b : Network). Opens x p a b (way_of w) k) target (subst (λ (a : Network). Opens x p a h.target (way_of w) k) own h.opens)

    open_where_offered : (w : Course) (k : Track) → Opens x p a b (way_of w) k → (stops : List Stop) × (opened x a b w ≡ Some stops)
    open_where_offered Inside k h =
        ([], ap (λ (o : Bool). cond o (opened_within Inside) (opened_between x a b Inside)) ((same_name_iff b.name a.name).1 h.0))
    open_where_offered Passing k h =
        let some : Bool = list_any (λ r. passes r.rule.action) (rules_between c a b) in
        let by : some ≡ true = passes_so h.1 h.0 in
        ([], ap (λ (o : Bool). cond o (opened_within Passing) (opened_between x a b Passing)) (differs b.name a.name h.0) ∙ cond_true some (Some []) None by)
      where
        passes_so : PassesBetween c a b → b.name ≢ a.name → list_any (λ r. passes r.rule.action) (rules_between c a b) ≡ true
        passes_so way differ =
            or_second (same_name a.name b.name) (list_any (λ r. passes r.rule.action) (rules_between c a b)) (differs a.name b.name (λ e. differ (sym e))) ((imports_iff c a b).1 (inr way))
    open_where_offered (Through use_no mirrored) k h =
        let u : IsUsed c a b use_no mirrored h.1.chain = record { rule = h.1.rule; stands = h.1.stands; leads = h.1.leads; speaks = h.1.speaks } in
        let used : used_chain c a b use_no mirrored ≡ Some h.1.chain = is_used c a b use_no mirrored x.topology v h.1.chain u in (
          stops_of x h.1.chain,
          ap (λ (o : Bool). cond o (opened_within (Through use_no mirrored)) (opened_between x a b (Through use_no mirrored))) (differs b.name a.name h.0)
              ∙ ap (option_map (stops_of x)) used,
        )

    -- the parts of each track that a way is offered with
    pub parts_of : (w : Course) (k : Track) → Offers x p number (way_of w) k → Parts x p a b q d w k
    parts_of w k h =
        let o = open_where_offered w k (opens_here w k h) in
        let g = offered_where_open w o.0 o.1 in
        subst (λ (k : Track). Parts x p a b q d w k) (one_track x v form p number (way_of w) g.0 k g.1 h) g.2

    -- where two ports are of a side, what leads a packet to it goes by what is computed

    course_of_way : (t : Tuple) (way : Way) → GoesBy c a b t way → (w : Course) × (course_on c a b t ≡ Some w) × (way_of w ≡ way)
    course_of_way t inside h =
        (Inside, ap (λ (o : Bool). cond o (Some Inside) (course_by (deciding c a b t))) ((same_name_iff b.name a.name).1 h), refl)
    course_of_way t passing h =
        let m = h.1.decider in (
          Passing,
          ap (λ (o : Bool). cond o (Some Inside) (course_by (deciding c a b t))) (differs b.name a.name h.0)
              ∙ ap course_by ((deciding_iff c a b t m).1 h.1.decides) ∙ ap (course_of m.mirrored) h.1.passes,
          refl,
        )
    course_of_way t (through use_no mirrored) h =
        let m = h.1.decider in (
          Through use_no mirrored,
          ap (λ (o : Bool). cond o (Some Inside) (course_by (deciding c a b t))) (differs b.name a.name h.0)
              ∙ ap course_by ((deciding_iff c a b t m).1 h.1.decides) ∙ ap (course_of m.mirrored) h.1.leads ∙ ap (λ (o : Bool). Some (Through use_no o)) h.1.matched,
          refl,
        )

-- what leads a packet to a port has a side
pub record Led (x : Checked) (p : Packet) (number : PortNo) (way : Way) : Type 0 where
  pub a : Network
  pub b : Network
  pub q : Port
  pub d : Port
  pub side : Side x p number a b q d
  pub near : is_near x.config a b ≡ true
  pub course : Course
  pub goes : course_on x.config a b p.tuple ≡ Some course
  pub is : way_of course ≡ way

pub led_by : (x : Checked) → IsValid x.topology x.config → IsTrue (has_config_form x.config) → (p : Packet) (number : PortNo) (way : Way) → LeadsTo x.config p number way → Led x p number way
led_by x v form p number way h =
    let q : Port = h.goes.leaves.source in
    let d : Port = h.arrives.arrival in
    let s : Side x p number h.own h.target q d = record {
      own_stands = h.goes.leaves.own_stands;
      target_stands = h.goes.towards.stands;
      source_stands = h.goes.leaves.source_stands;
      source_network = sym h.goes.leaves.own_name;
      source_number = h.goes.leaves.source_number;
      arrival_stands = h.arrives.arrival_stands;
      arrival_network = h.arrives.arrival_network;
      arrival_address = h.arrives.arrival_address;
      arrival_number = h.arrives.arrival_number;
    } in
    let w = course_of_way x v form p number h.own h.target q d s p.tuple way h.by_way in
    record {
      a = h.own;
      b = h.target;
      q = q;
      d = d;
      side = s;
      near = (near_iff x.config h.own h.target).1 h.goes.towards.near;
      course = w.0;
      goes = w.1;
      is = w.2;
    }
