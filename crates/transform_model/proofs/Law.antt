-- What the compiled rows of all agents do with a packet is what policies say becomes of it.
use Rattle.std.proofs.Common.{◌≡◌, ◌≢◌, ◌⊎◌, ◌==◌, ◌≤◌, ◌+◌, ◌++◌, eqb, cond, ℕ, Bool, true, false, IsTrue, List, [], ◌∷◌, Option, Some, None, option_map, find, map, length, reverse, refl, sym, ap, ◌∙◌, subst, inl, inr, arith}
use Rattle.std.specs.List.{All, Contains}
use Rattle.std.proofs.lemmas.Bool.{eqb-true, eq-eqb}
use Rattle.std.proofs.lemmas.List.Elements.{All-contains}
use Rattle.std.proofs.lemmas.List.{append-nil, length-reverse, map_push, reverse-append, reverse-reverse}
use Rattle.ov_types.specs.Access.{holds, verdict, verdict_of, verdict_by, verdict_in}
use Rattle.ov_types.specs.First.{same_name, first_of}
use Rattle.ov_types.specs.Prefix.{contains}
use Rattle.ov_types.specs.declared.numbers.InstanceId.{InstanceId}
use Rattle.ov_types.specs.declared.numbers.PortNo.{PortNo}
use Rattle.ov_types.specs.declared.numbers.ServiceNo.{ServiceNo}
use Rattle.ov_types.specs.declared.objects.AclRule.{AclRule}
use Rattle.ov_types.specs.declared.objects.AclAction.TheVariants as Does
use Rattle.ov_types.specs.declared.objects.LowKey.TheVariants as Key
use Rattle.ov_types.specs.declared.objects.LowValue.TheVariants as Value
use Rattle.ov_types.specs.declared.packet.Outcome.{Outcome}
use Rattle.ov_types.specs.declared.packet.Outcome.TheVariants.{Dropped}
use Rattle.ov_types.specs.declared.packet.Packet.{Packet}
use Rattle.ov_types.specs.declared.packet.Why.TheVariants as Why
use Rattle.ov_types.proofs.FirstLemmas.{same_name_iff, contains_at, contains_here, found_is}
use Rattle.route_targets.specs.Forwarding.{Forwarder, admitted, departed, forwarding, source_at, walk}
use Rattle.route_targets.specs.Numbers.{hop_instance_of, port_label_of}
use Rattle.reach_plain.specs.ConfigTypes.Form.{has_config_form}
use Rattle.reach_plain.specs.ConfigTypes.Action.{Action}
use Rattle.reach_plain.specs.ConfigTypes.Action.TheVariants.{Pass, Deny, Through}
use Rattle.reach_plain.specs.ConfigTypes.Config.{Config}
use Rattle.reach_plain.specs.ConfigTypes.End.{End}
use Rattle.reach_plain.specs.ConfigTypes.End.TheVariants.{Any as Anyone, Named}
use Rattle.reach_plain.specs.ConfigTypes.Network.{Network}
use Rattle.reach_plain.specs.ConfigTypes.Port.{Port}
use Rattle.reach_plain.specs.ConfigTypes.Service.{Service}
use Rattle.reach_plain.specs.ConfigTypes.Node.{Node}
use Rattle.reach_plain.specs.ConfigTypes.Topology.{Topology}
use Rattle.reach_plain.specs.ChainExpand.Expansion.{expansion}
use Rattle.reach_plain.specs.PolicyRules.Match.{Match}
use Rattle.reach_plain.specs.PolicyRules.NumberedRule.{NumberedRule}
use Rattle.reach_plain.specs.PolicyRules.Matching.{deciding}
use Rattle.reach_plain.specs.PolicyRules.Related.{rules_between}
use Rattle.reach_plain.specs.PolicyRules.Standing.{IsEnd, IsBetween, AreRelated, LetsThrough, PassesBetween}
use Rattle.reach_plain.specs.PolicyRules.Taking.{IsTaken, IsDeciding}
use Rattle.reach_plain.proofs.PolicyRules.Deciders.{of_decider}
use Rattle.reach_plain.proofs.PolicyRules.Standing.{between_iff}
use Rattle.reach_plain.proofs.PolicyRules.Taking.{deciding_iff}
use Rattle.reach_plain.specs.ConfigCheck.Checked.{Checked}
use Rattle.reach_plain.specs.ConfigCheck.Finding.{network_named, port_at, port_numbered}
use Rattle.reach_plain.specs.ConfigCheck.Rules.{first_broken}
use Rattle.reach_plain.specs.ConfigCheck.Sentences.{NamesEnds, IsValid}
use Rattle.reach_plain.proofs.ConfigCheck.Finders.{finds_network_named, finds_port_numbered}
use Rattle.reach_plain.proofs.ConfigCheck.Validity.{valid_iff}
use Rattle.acl_compile.specs.Oriented.{acl_rules, acl_value, does}
use Rattle.acl_compile.specs.Laws.{entry_by}
use Rattle.acl_compile.proofs.Deciding.{first_entry}
use Rattle.node_model.specs.Agent.{entered_by}
use Rattle.node_model.specs.Wants.{port_at as network_at}
use Rattle.reach_plain.specs.Outcomes.{IsTowards}
use Rattle.reach_plain.specs.Reachability.{network_towards, services_through, arrival_at, outcome_of, outcome_by, outcome_between, outcome_towards, outcome_from, outcome_at, reachability}
use Rattle.reach_plain.proofs.Becoming.{outcome_iff, apart}
use Rattle.reach_plain.proofs.Found.{own_exists, target_is, towards_of}
use Rattle.transform_model.specs.Compiled.{agent_rows, compiled_tables, forwarders, networks_at}
use Rattle.transform_model.specs.IsObject.IsObject.{of_port, of_networks}
use Rattle.transform_model.specs.IsRow.{IsRow, IsPort}
use Rattle.transform_model.specs.IsRow.IsRow.{to_port, to_left_circuit, to_right_circuit, to_right_subnet, to_left_subnet, at_left_end, at_right_end}
use Rattle.transform_model.specs.IsUse.{IsUse}
use Rattle.transform_model.specs.Objects.{LowObject, low_objects, attached_port}
use Rattle.transform_model.specs.Tables.{Row, host_route}
use Rattle.transform_model.specs.Uses.{ConfiguredUse}
use Rattle.transform_model.proofs.Lists.{gives}
use Rattle.transform_model.proofs.InUse.{few_services}
use Rattle.transform_model.proofs.Objects.{one_named, one_numbered}
use Rattle.transform_model.proofs.Agents.{forwarder, agents_of, Needs, needed_at}
use Rattle.transform_model.proofs.Held.{is_object}
use Rattle.transform_model.proofs.Blocks.{Holds, host_is}
use Rattle.transform_model.proofs.Chains.{right_way, left_way}
use Rattle.transform_model.proofs.Hops.{not_network}
use Rattle.transform_model.proofs.OneFound.{in_any}
use Rattle.transform_model.proofs.Sources.{starts, starts_nowhere}
use Rattle.transform_model.proofs.Valid.{node_of_port, holds_port_address}
use Rattle.transform_model.proofs.Verdicts.{access_to, towards_nothing, towards_network}
use Rattle.transform_model.proofs.Ways.{IsHost, Arrives, Way, walk_way}

named_end : (e : End) (n : Network) → e ≢ Anyone → IsEnd e n → e ≡ Named n.name
named_end Anyone n h is = absurd (h refl)
named_end (Named name) n h is = ap Named is

-- what the entry of a match does, by its rule

verdict_of_entry : (c : Config) (m : Match) → verdict_of (entry_by c m).action (entry_by c m).rule ≡ verdict_of (does c m.mirrored m.rule.rule.action) m.rule.number
verdict_of_entry c m = by_way m.mirrored
  where
    by_way : (mirrored : Bool) → verdict_of (entry_by c (record m { mirrored = mirrored })).action (entry_by c (record m { mirrored = mirrored })).rule
        ≡ verdict_of (does c mirrored m.rule.rule.action) m.rule.number
    by_way false = refl
    by_way true = refl

action_of_entry : (c : Config) (m : Match) → (entry_by c m).action ≡ does c m.mirrored m.rule.rule.action
action_of_entry c m = by_way m.mirrored
  where
    by_way : (mirrored : Bool) → (entry_by c (record m { mirrored = mirrored })).action ≡ does c mirrored m.rule.rule.action
    by_way false = refl
    by_way true = refl

mapped_reverse : (xs : List Service) → map (λ s. s.id) (reverse xs) ≡ reverse (map (λ s. s.id) xs)
mapped_reverse [] = refl
mapped_reverse (x ∷ xs) =
    let number : Service → ServiceNo = λ s. s.id in
    ap (map number) (reverse-append (x ∷ []) xs) ∙ map_push number (reverse xs) x ∙ ap (λ ys. ys ++ x.id ∷ []) (mapped_reverse xs)
    ∙ sym (reverse-append (x.id ∷ []) (map number xs))

-- the agents with their compiled rows
forwarders_are : (t : Topology) (c : Config) (ns : List Node) → forwarders ns (map (λ (n : Node). agent_rows t c n.address) ns) ≡ map (forwarder t c) ns
forwarders_are t c [] = refl
forwarders_are t c (n ∷ ns) = ap (λ fs. forwarder t c n ∷ fs) (forwarders_are t c ns)

module _ (t : Topology) (c : Config) (form : IsTrue (has_config_form c)) (v : IsValid t c) (own : Network) (in_own : Contains c.networks own) (d : ℕ) where
  -- ---- in the instance of a network

  near_of : (b : Network) → (own.name ≡ b.name) ⊎ PassesBetween c own b → (b.name ≡ own.name) ⊎ AreRelated c own b
  near_of b (inl same) = inl (sym same)
  near_of b (inr passes) =
      elim (same_name own.name b.name) as (λ x. same_name own.name b.name ≡ x → (b.name ≡ own.name) ⊎ AreRelated c own b) [
        | true ↦ λ e. inl (sym ((same_name_iff own.name b.name).0 e))
        | false ↦ λ e. inr (record { differ = apart own.name b.name e; rule = passes.rule; stands = passes.stands; lets = subst LetsThrough (sym passes.pass) tt })
      ] refl

  network_arrives : (b : Network) → IsTowards c own b d → (own.name ≡ b.name) ⊎ PassesBetween c own b → Arrives t c b d own.id
  network_arrives b towards imports = record {
    hosts = λ r is hit. of_row r is hit;
    leads = λ port node stands. to_port own b port node in_own stands imports refl refl;
  }
    where
      of_row : (r : Row) → IsRow t c own.id r → contains r.0.1 d ≡ true → IsHost t c b own.id r
      of_row r (to_port network home port node in_network stands imported at is) hit =
          let mine : network ≡ own = one_numbered t c network own v in_network in_own (sym at) in
          let imported' : (own.name ≡ home.name) ⊎ PassesBetween c own home = subst (λ (n : Network). (n.name ≡ home.name) ⊎ PassesBetween c n home) mine imported in
          let there : port.address.0 ≡ d = host_is port.address.0 d (subst (λ (x : Row). contains x.0.1 d ≡ true) is hit) in
          let held : Holds home d = subst (Holds home) there (holds_port_address t c v home port stands.has_home stands.has_port stands.home_of) in
          let near : IsTowards c own home d = record { stands = stands.has_home; near = near_of home imported'; holds = held } in
          let one : Some home ≡ Some b = sym (target_is t c own home d form v in_own near) ∙ target_is t c own b d form v in_own towards in
          let same : home ≡ b = cc in
          record {
            port = port;
            node = node;
            stands = subst (λ (n : Network). IsPort t c n port node) same stands;
            is = subst (λ (n : Network). r ≡ host_route own.id n node port) same is;
          }
      of_row r (to_left_circuit u j k node is_u is_k is_at at is) hit = absurd (not_network t c form v own u.number j in_own at)
      of_row r (to_right_circuit u j k node is_u is_k is_at at is) hit = absurd (not_network t c form v own u.number (j + 1) in_own at)
      of_row r (to_right_subnet u j k node prefix is_u is_k is_at held at is) hit = absurd (not_network t c form v own u.number j in_own at)
      of_row r (to_left_subnet u j k node prefix is_u is_k is_at held at is) hit = absurd (not_network t c form v own u.number (j + 1) in_own at)
      of_row r (at_left_end u port node is_u stands at is) hit = absurd (not_network t c form v own u.number 0 in_own at)
      of_row r (at_right_end u port node is_u stands at is) hit = absurd (not_network t c form v own u.number (length u.services) in_own at)

-- ---- a packet that leaves a network, from the node of its port

module _ (t : Topology) (c : Config) (form : IsTrue (has_config_form c)) (v : IsValid t c) (p : Packet) (q : Port) (own : Network) (n : Node) (stands : IsPort t c own q n) where
  abbrev there : ℕ
  there = p.destination.0

  abbrev agent : Forwarder
  agent = forwarder t c n

  object : Contains (low_objects t c) (attached_port q own n)
  object = is_object t c form v (attached_port q own n) (of_port own q n stands refl)

  own_needed : Needs t c n.address own.id
  own_needed =
      needed_at t c form v n.address (Key.Attach (port_label_of q.id).0) (Value.AttachPort q.id own.id q.address n.address) own.id object
      (eq-eqb n.address.0 n.address.0 refl) (contains_here own.id [])

  has_port : Contains (networks_at (low_objects t c) n.address) own.id
  has_port =
      let here : eqb n.address.0 n.address.0 ≡ true = eq-eqb n.address.0 n.address.0 refl in
      let at : network_at n.address (Value.AttachPort q.id own.id q.address n.address) ≡ Some own.id = rw here refl in
      gives (λ (o : LowObject). network_at n.address o.1) (low_objects t c) (attached_port q own n) own.id object at

  -- in the network's own instance
  inside : (b : Network) → IsTowards c own b there → (own.name ≡ b.name) ⊎ PassesBetween c own b
      → walk (agents_of t c) there 64 agent [] own.id ≡ arrival_at (port_at c b there) []
  inside b towards imports =
      walk_way t c form v b towards.stands there n own.id [] 64 [] own_needed (omega arith) (network_arrives t c form v own stands.has_home there b towards imports)

  -- ---- by a rule

  module _ (b : Network) (towards : IsTowards c own b there) (differ : b.name ≢ own.name) where
    away : own.name ≢ b.name
    away = λ e. differ (sym e)

    alone : ¬ Holds own there
    alone held =
        let mine : IsTowards c own own there = record { stands = stands.has_home; near = inl refl; holds = held } in
        let one : Some own ≡ Some b = sym (target_is t c own own there form v stands.has_home mine) ∙ target_is t c own b there form v stands.has_home towards in
        let same : own ≡ b = cc in
        away (ap (λ (m : Network). m.name) same)

    list_object : Contains (low_objects t c) (Key.Acl own.id.0 b.id.0, acl_value c own b)
    list_object =
        let near : (own ≡ b) ⊎ AreRelated c own b =
        elim towards.near [
          | inl same ↦ absurd (differ same)
          | inr related ↦ inr related
        ] in
        is_object t c form v (Key.Acl own.id.0 b.id.0, acl_value c own b) (of_networks own b stands.has_home towards.stands near refl)

    -- the instance that an entry enters is needed
    entered : (e : AclRule) (i : InstanceId) → find (λ r. holds r p.tuple) (acl_rules c own b) ≡ Some e → e.action ≡ Does.Enter i → Needs t c n.address i
    entered e i found enters =
        let concerned = in_any (λ (m : InstanceId). m.0 == own.id.0) (networks_at (low_objects t c) n.address) own.id has_port (eq-eqb own.id.0 own.id.0 refl) in
        let in_rules = (found_is (λ (r : AclRule). holds r p.tuple) (acl_rules c own b) e found).1 in
        needed_at t c form v n.address (Key.Acl own.id.0 b.id.0) (acl_value c own b) i list_object concerned
        (gives (λ (r : AclRule). entered_by r.action) (acl_rules c own b) e i in_rules (ap entered_by enters))

    module _ (m : Match) (decides : deciding c own b p.tuple ≡ Some m) where
      entry : find (λ r. holds r p.tuple) (acl_rules c own b) ≡ Some (entry_by c m)
      entry = first_entry c own b p.tuple away ∙ ap (option_map (entry_by c)) decides

      is_deciding : IsDeciding c own b p.tuple m
      is_deciding = (deciding_iff c own b p.tuple m).0 decides

      between : IsBetween c own b m.rule
      between = (between_iff c own b m.rule).0 (contains_at (rules_between c own b) is_deciding.place m.rule is_deciding.stands)

      ends : NamesEnds m.rule.rule
      ends = of_decider (λ (r : NumberedRule). NamesEnds r.rule) c own b p.tuple m v.ends decides

      rule_stands : Contains between.policy.rules m.rule.rule
      rule_stands = contains_at between.policy.rules between.place m.rule.rule between.stands

      entered_by_rule : (mirrored : Bool) (action : Action) (i : InstanceId) → m.mirrored ≡ mirrored → m.rule.rule.action ≡ action → does c mirrored action ≡ Does.Enter i → Needs t c n.address i
      entered_by_rule mirrored action i way acts enters =
          entered (entry_by c m) i entry
          (action_of_entry c m ∙ ap (λ (x : Bool). does c x m.rule.rule.action) way ∙ ap (does c mirrored) acts ∙ enters)

      through : (mirrored : Bool) (chain : List ℕ) (use_no : ℕ) → m.mirrored ≡ mirrored → m.rule.rule.action ≡ Through chain use_no
          → admitted (agents_of t c) there agent own.id (verdict_of (does c mirrored (Through chain use_no)) m.rule.number)
          ≡ arrival_at (port_at c b there) (services_through c chain mirrored)
      through false chain use_no way acts =
          let named = ends chain use_no acts in
          let taken = subst (IsTaken own b p.tuple m.rule.rule) way is_deciding.taken in
          let u : ConfiguredUse = record { number = use_no; left = own; right = b; services = expansion c chain } in
          let is_u : IsUse c u = record {
            policy = between.policy;
            rule = m.rule.rule;
            chain = chain;
            has_policy = between.configured;
            has_rule = rule_stands;
            leads = acts;
            from = named_end m.rule.rule.source own named.0 taken.source;
            to = named_end m.rule.rule.destination b named.1 taken.destination;
            has_left = stands.has_home;
            has_right = towards.stands;
            left_attaches = between.first_attaches;
            right_attaches = between.second_attaches;
            services = refl;
          } in
          let few : length (expansion c chain) ≤ 15 = few_services t c u v is_u in
          let needs = entered_by_rule false (Through chain use_no) (hop_instance_of use_no 0) way acts refl in
          let leads : Way t c b there (hop_instance_of use_no 0) (expansion c chain) = right_way t c form v u is_u there towards.holds alone [] (expansion c chain) refl in
          walk_way t c form v b towards.stands there n (hop_instance_of use_no 0) (expansion c chain) 64 [] needs (omega arith) leads
      through true chain use_no way acts =
          let named = ends chain use_no acts in
          let taken = subst (IsTaken own b p.tuple m.rule.rule) way is_deciding.taken in
          let services : List Service = expansion c chain in
          let u : ConfiguredUse = record { number = use_no; left = b; right = own; services = services } in
          let is_u : IsUse c u = record {
            policy = between.policy;
            rule = m.rule.rule;
            chain = chain;
            has_policy = between.configured;
            has_rule = rule_stands;
            leads = acts;
            from = named_end m.rule.rule.source b named.0 taken.0.source;
            to = named_end m.rule.rule.destination own named.1 taken.0.destination;
            has_left = towards.stands;
            has_right = stands.has_home;
            left_attaches = between.second_attaches;
            right_attaches = between.first_attaches;
            services = refl;
          } in
          let few : length services ≤ 15 = few_services t c u v is_u in
          let long : length (reverse services) ≡ length services = length-reverse services in
          let needs = entered_by_rule true (Through chain use_no) (hop_instance_of use_no (length services)) way acts refl in
          let whole : services ≡ reverse (reverse services) ++ [] = sym (append-nil (reverse (reverse services)) ∙ reverse-reverse services) in
          let leads : Way t c b there (hop_instance_of use_no (length services)) (reverse services) =
          subst (λ (k : ℕ). Way t c b there (hop_instance_of use_no k) (reverse services)) long (left_way t c form v u is_u there towards.holds alone (reverse services) [] whole) in
          walk_way t c form v b towards.stands there n (hop_instance_of use_no (length services)) (reverse services) 64 [] needs (omega arith) leads
          ∙ ap (arrival_at (port_at c b there)) (mapped_reverse services)

      by_action : (mirrored : Bool) (action : Action) → m.mirrored ≡ mirrored → m.rule.rule.action ≡ action
          → admitted (agents_of t c) there agent own.id (verdict_of (does c mirrored action) m.rule.number)
          ≡ outcome_of c (port_at c b there) m.rule.number mirrored action
      by_action mirrored Pass way acts = inside b towards (inr (record { rule = m.rule; stands = between; pass = acts }))
      by_action mirrored Deny way acts = refl
      by_action mirrored (Through chain use_no) way acts = through mirrored chain use_no way acts

    by_rule : (o : Option Match) → deciding c own b p.tuple ≡ o
        → admitted (agents_of t c) there agent own.id (verdict_by (find (λ r. holds r p.tuple) (acl_rules c own b))) ≡ outcome_by c (port_at c b there) o
    by_rule None e =
        ap (λ x. admitted (agents_of t c) there agent own.id (verdict_by x)) (first_entry c own b p.tuple away ∙ ap (option_map (entry_by c)) e)
    by_rule (Some m) e =
        ap (λ x. admitted (agents_of t c) there agent own.id (verdict_by x)) (entry m e)
        ∙ ap (admitted (agents_of t c) there agent own.id) (verdict_of_entry c m)
        ∙ by_action m e m.mirrored m.rule.rule.action refl refl

  between_networks : (b : Network) → IsTowards c own b there
      → admitted (agents_of t c) there agent own.id (verdict_in own.id.0 p.tuple (Some (access_to c own b))) ≡ outcome_between c own b p
  between_networks b towards =
      let passed : Outcome = walk (agents_of t c) there 64 agent [] own.id in
      elim (same_name b.name own.name) as (λ x. same_name b.name own.name ≡ x
      → admitted (agents_of t c) there agent own.id (verdict_in own.id.0 p.tuple (Some (access_to c own b)))
      ≡ cond x (arrival_at (port_at c b there) []) (outcome_by c (port_at c b there) (deciding c own b p.tuple))) [
        | true ↦ λ e.
            let names : b.name ≡ own.name = (same_name_iff b.name own.name).0 e in
            let same : b ≡ own = one_named t c b own v towards.stands stands.has_home names in
            let number : eqb b.id.0 own.id.0 ≡ true = eq-eqb b.id.0 own.id.0 (ap (λ (m : Network). m.id.0) same) in
            rw number (inside b towards (inl (sym names)))
        | false ↦ λ e.
            let differ : b.name ≢ own.name = apart b.name own.name e in
            let number : eqb b.id.0 own.id.0 ≡ false = numbers_differ b towards differ in
            rw number (by_rule b towards differ (deciding c own b p.tuple) refl)
      ] refl
    where
      numbers_differ : (b : Network) → IsTowards c own b there → b.name ≢ own.name → eqb b.id.0 own.id.0 ≡ false
      numbers_differ b towards differ =
          elim (eqb b.id.0 own.id.0) as (λ x. eqb b.id.0 own.id.0 ≡ x → x ≡ false) [
            | true ↦ λ e.
                let ids : b.id ≡ own.id = ap (λ (k : ℕ). record { 0 = k }) (eqb-true b.id.0 own.id.0 e) in
                let same : b ≡ own = one_numbered t c b own v towards.stands stands.has_home ids in
                absurd (differ (ap (λ (m : Network). m.name) same))
            | false ↦ λ e. refl
          ] refl

  towards_any : admitted (agents_of t c) there agent own.id (verdict agent.rows.acls own.id.0 p) ≡ outcome_towards c own p (network_towards c own there)
  unfolding verdict
  towards_any =
      elim (network_towards c own there) as (λ o. network_towards c own there ≡ o → admitted (agents_of t c) there agent own.id (verdict agent.rows.acls own.id.0 p) ≡ outcome_towards c own p o) [
        | None ↦ λ e.
            ap (λ x. admitted (agents_of t c) there agent own.id (verdict_in own.id.0 p.tuple x)) (towards_nothing t c form v own stands.has_home n.address there e)
        | Some b ↦ λ e.
            let towards = towards_of c own b there e in
            ap (λ x. admitted (agents_of t c) there agent own.id (verdict_in own.id.0 p.tuple x)) (towards_network t c form v own stands.has_home n.address there b towards has_port)
            ∙ between_networks b towards
      ] refl

-- ---- any packet

any_packet : (t : Topology) (c : Config) → IsTrue (has_config_form c) → IsValid t c → (p : Packet) → forwarding (agents_of t c) p ≡ reachability c p
unfolding forwarding reachability
any_packet t c form v p =
    elim (port_numbered c p.source.0) as (λ o. port_numbered c p.source.0 ≡ o → departed (agents_of t c) p (first_of (source_at p) (agents_of t c)) ≡ outcome_at c p o) [
      | None ↦ λ e.
          let absent : All (λ x. ¬ (x.id.0 ≡ p.source.0)) c.ports = (finds_port_numbered t c p.source.0 v).none.0 e in
          ap (departed (agents_of t c) p) (starts_nowhere t c form v p (λ x in_x same. All-contains (λ (x : Port). ¬ (x.id.0 ≡ p.source.0)) c.ports x absent in_x (ap (λ (k : PortNo). k.0) same)))
      | Some q ↦ λ e.
          let f = ((finds_port_numbered t c p.source.0 v).some q).0 e in
          let own = own_exists t c q v f.0 in
          let node = node_of_port t c v q f.0 in
          let stands : IsPort t c own.0 q node.0 = record { has_home = own.1; has_port = f.0; has_node = node.1; home_of = sym own.2; node_of = node.2 } in
          let named : network_named c q.network ≡ Some own.0 = ((finds_network_named t c q.network v).some own.0).1 (own.1, own.2) in
          ap (departed (agents_of t c) p) (starts t c form v p q own.0 node.0 stands (ap (λ (k : ℕ). record { 0 = k }) f.1))
          ∙ towards_any t c form v p q own.0 node.0 stands
          ∙ sym (ap (outcome_from c p) named)
    ] refl

pub forwarding_is_reachability : (x : Checked) → IsTrue (has_config_form x.config) → first_broken x.topology x.config ≡ None → (p : Packet)
    → forwarding (forwarders x.topology.nodes (compiled_tables x).agents) p ≡ reachability x.config p
unfolding compiled_tables
forwarding_is_reachability x form valid p =
    ap (λ agents. forwarding agents p) (forwarders_are x.topology x.config x.topology.nodes) ∙ any_packet x.topology x.config form ((valid_iff x.topology x.config).0 valid) p

pub labels_lead_on : (x : Checked) → IsTrue (has_config_form x.config) → first_broken x.topology x.config ≡ None → (p : Packet)
    → forwarding (forwarders x.topology.nodes (compiled_tables x).agents) p ≢ Dropped Why.NoLabel
labels_lead_on x form valid p = λ e. (outcome_iff x.topology x.config p (Dropped Why.NoLabel) form valid).0 (sym (forwarding_is_reachability x form valid p) ∙ e)

pub none_expires : (x : Checked) → IsTrue (has_config_form x.config) → first_broken x.topology x.config ≡ None → (p : Packet)
    → forwarding (forwarders x.topology.nodes (compiled_tables x).agents) p ≢ Dropped Why.TtlExpired
none_expires x form valid p = λ e. (outcome_iff x.topology x.config p (Dropped Why.TtlExpired) form valid).0 (sym (forwarding_is_reachability x form valid p) ∙ e)
