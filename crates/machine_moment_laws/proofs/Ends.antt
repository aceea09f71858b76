-- Where a packet starts and heads that all configurations lead to a port: its networks, its access list, and the ways that all
-- of them offer with one track.
use Rattle.std.specs.Prelude.{◌≡◌, ◌≢◌, ◌==◌, ◌+◌, ◌*◌, ◌<◌, ◌≤◌, ◌⊎◌, ℕ, suc, Bool, List, [], ◌∷◌, find, length, map, option_map, reverse, true, false, cond}
use Rattle.std.specs.List.{Any, Contains, list_any}
use Rattle.std.specs.declared.option.Option.{Option}
use Rattle.std.specs.declared.option.Option.TheVariants.{None, Some}
use Rattle.std.proofs.Common.{ap, arith, inl, inr, refl, subst, sym, ◌∙◌}
use Rattle.std.proofs.lemmas.Bool.{eq-eqb, eqb-true, false_from_ne_true, true≢false}
use Rattle.std.proofs.lemmas.List.{length-reverse}
use Rattle.std.proofs.lemmas.Option.{same_Some}
use Rattle.ov_types.specs.Access.{holds, verdict_by, verdict_in, verdict_of}
use Rattle.ov_types.specs.Prefix.{Block, contains, host_prefix}
use Rattle.ov_types.specs.declared.numbers.InstanceId.{InstanceId}
use Rattle.ov_types.specs.declared.numbers.PortNo.{PortNo}
use Rattle.ov_types.specs.declared.objects.AclAction.{AclAction}
use Rattle.ov_types.specs.declared.objects.AclRule.{AclRule}
use Rattle.ov_types.specs.declared.objects.LowKey.{LowKey}
use Rattle.ov_types.specs.declared.objects.LowKey.TheVariants as key
use Rattle.ov_types.specs.declared.objects.LowValue.{LowValue}
use Rattle.ov_types.specs.declared.objects.LowValue.TheVariants as low
use Rattle.ov_types.specs.declared.packet.Packet.{Packet}
use Rattle.ov_types.specs.declared.packet.Tuple.{Tuple}
use Rattle.ov_types.specs.declared.prefix.Addr.{Addr}
use Rattle.ov_types.specs.declared.verdict.Verdict.{Verdict}
use Rattle.ov_types.specs.declared.verdict.Verdict.TheVariants as Says
use Rattle.ov_types.proofs.FirstLemmas.{any_of}
use Rattle.route_targets.specs.Numbers.{hop_instance_of, port_label_of}
use Rattle.config_types.specs.declared.config.Action.TheVariants.{Pass, Through}
use Rattle.config_types.specs.declared.config.Network.{Network}
use Rattle.config_types.specs.declared.topology.Node.{Node}
use Rattle.policy_rules.proofs.Relations.{related_iff}
use Rattle.schedule_script.specs.ConfigCheck.Checked.{Checked}
use Rattle.schedule_script.specs.ConfigCheck.Sentences.{IsAround}
use Rattle.reach_plain.specs.ChainExpand.Expansion.{expansion}
use Rattle.reach_plain.specs.PolicyRules.Match.{Match}
use Rattle.reach_plain.specs.PolicyRules.Standing.{AreRelated, PassesBetween}
use Rattle.reach_plain.specs.PolicyRules.Taking.{IsDeciding}
use Rattle.reach_plain.proofs.PolicyRules.Taking.{deciding_iff}
use Rattle.acl_compile.specs.Laws.{entry_by}
use Rattle.acl_compile.proofs.Deciding.{first_entry}
use Rattle.transform_model.specs.AclCompile.Oriented.{acl_rules, acl_value, ascending, does}
use Rattle.transform_model.specs.IsObject.{IsObject, of_left_circuit, of_network, of_networks, of_port, of_right_circuit, of_use}
use Rattle.transform_model.specs.Objects.{LowObject, low_objects}
use Rattle.transform_model.proofs.Circuits.{left_instance, right_instance}
use Rattle.node_laws.specs.NodeModel.Agent.{acl_entry, needed_by, needed_for}
use Rattle.node_laws.specs.NodeModel.Maps.{Map, as_object, object, objects}
use Rattle.node_laws.specs.NodeModel.Members.{Member}
use Rattle.node_laws.specs.NodeModel.Uses.{imports, is_hop, network_imports}
use Rattle.node_laws.specs.NodeModel.Wants.{slice}
use Rattle.node_laws.proofs.NodeModel.Members.{any_in, contains_of, from_any, in_filter_map, member_of, none_some}
use Rattle.node_laws.proofs.NodeModel.Objects.{in_objects, is_hop-hop, object_of}
use Rattle.node_laws.proofs.NodeModel.Wanted.{slice_is}
use Rattle.machine_model.specs.Setup.{low_in, opening}
use Rattle.machine_model.proofs.Feed.{objects-low}
use Rattle.machine_laws.specs.Compiled.{Attachment, attachments}
use Rattle.machine_laws.specs.Headline.{IsWritten}
use Rattle.machine_laws.proofs.Lists.{zip_length}
use Rattle.machine_laws.proofs.Imports.{Imported, hop_import, imported_is, network_import}
use Rattle.machine_laws.proofs.Objects.{AttachmentKind, ascending_in, ascending_to, attachment_is, left_kind, object_is as low_is, port_kind, right_kind}
use Rattle.machine_laws.proofs.Written.{sound_setup}
use Rattle.hitless_cells.specs.Hands.{HasPortAt, ImportsNumber, KeepsInHand}
use Rattle.hitless_cells.specs.Keeping.{IsValidAsWritten}
use Rattle.hitless_cells.specs.Ways.{GoesBy, IsStop, LeadsTo, Offers, Opens, Track, Way, visited}
use Rattle.hitless_cells.specs.Ways.Way.{inside, passing, through}
use Rattle.hitless_cells.proofs.Alone.{one_entered, one_network, one_own}
use Rattle.hitless_cells.proofs.Around.{alone, holds_port, one_numbered}
use Rattle.hitless_cells.proofs.Offered.{decider_stands}
use Rattle.hitless_cells.proofs.OneRule.{one_chain}
use Rattle.machine_moment_laws.specs.Arriving.{GoesOnIn, HeadsInCommon, IsCommonWay, Meets, StartsInCommon}
use Rattle.machine_moment_laws.specs.Common.{WasHeld, common, entered, placed, standing}
use Rattle.machine_moment_laws.proofs.Parts.{object_is}
use Rattle.machine_moment_laws.proofs.Placed.{in_placed}
use Rattle.machine_moment_laws.specs.Kept.{IsStraight}
use Rattle.machine_moment_laws.proofs.Going.{arrives, needed_in, port_labelled, port_needed}
use Rattle.machine_moment_laws.proofs.Made.{ImportsInAll, ListInAll, imports_common, in_standing, list_common, port_common, port_placed, valid}
use Rattle.machine_moment_laws.proofs.Through.{few, goes_forwards, goes_mirrored}
use Rattle.machine_moment_laws.proofs.Tracked.{Stop, enters, hop_of_stop, imports_in, list_in, no_hop, place_entered, port_in}

-- ---- one configuration: what its access list says of a packet that it leads by a way
-- the instance that a packet goes on in
abbrev pub start_of : Way → Track → InstanceId
start_of inside track = track.from
start_of passing track = track.from
start_of (through use_no mirrored) track = hop_instance_of use_no (place_entered mirrored (length track.stops))

module _ (c : Checked) (w : IsWritten (opening c)) where
  as_written : IsValidAsWritten c
  as_written = record { form = w.config; valid = w.valid }

  acts_as : (m : Match) → (entry_by c.config m).action ≡ does c.config m.mirrored m.rule.rule.action
  acts_as m = by m.mirrored
    where
      by : (mirrored : Bool) → (entry_by c.config (record m { mirrored = mirrored })).action ≡ does c.config mirrored m.rule.rule.action
      by true = refl
      by false = refl

  module _ (own target : Network) (in_own : Contains c.config.networks own) (in_target : Contains c.config.networks target) (t : Tuple) where
    abbrev told : Verdict
    told = verdict_in own.id.0 t (Some (record { to = target.id.0; rules = acl_rules c.config own target }))

    -- where the networks differ, the rule that decides is asked
    decided : target.name ≢ own.name → (m : Match) → IsDeciding c.config own target t m → (a : AclAction) → does c.config m.mirrored m.rule.rule.action ≡ a → told ≡ verdict_of a (entry_by c.config m).rule
    decided differ m decides a acts =
        let numbers : (target.id.0 == own.id.0) ≡ false =
        false_from_ne_true (target.id.0 == own.id.0) (λ e.
        differ (ap (λ (n : Network). n.name) (one_numbered c.topology c.config (valid c w) own.id target own in_target in_own (λ k. record { 0 = eqb-true target.id.0 own.id.0 e k }) refl))) in
        let found : find (λ r. holds r t) (acl_rules c.config own target) ≡ Some (entry_by c.config m) =
        first_entry c.config own target t (λ e. differ (sym e)) ∙ ap (option_map (entry_by c.config)) ((deciding_iff c.config own target t m).1 decides) in
        ap (λ b. cond b Says.Pass (verdict_by (find (λ r. holds r t) (acl_rules c.config own target)))) numbers
        ∙ ap verdict_by found
        ∙ ap (λ (a : AclAction). verdict_of a (entry_by c.config m).rule) (acts_as m ∙ acts)

    goes_by : (p : Packet) (way : Way) (track : Track) → own.id ≡ track.from → GoesBy c.config own target t way → Opens c p own target way track → GoesOnIn own.id told (start_of way track)
    goes_by p inside track from_is h o =
        let same : target ≡ own = one_network c (valid c w) own.name target own in_target in_own h refl in
        let numbers : (target.id.0 == own.id.0) ≡ true = eq-eqb target.id.0 own.id.0 (ap (λ (n : Network). n.id.0) same) in
        let says : told ≡ Says.Pass = ap (λ b. cond b Says.Pass (verdict_by (find (λ r. holds r t) (acl_rules c.config own target)))) numbers in
        subst (λ (v : Verdict). GoesOnIn own.id v track.from) (sym says) (sym from_is)
    goes_by p passing track from_is h o =
        let says = decided h.0 h.1.decider h.1.decides (does c.config h.1.decider.mirrored Pass) (ap (does c.config h.1.decider.mirrored) h.1.passes) in
        subst (λ (v : Verdict). GoesOnIn own.id v track.from) (sym says) (sym from_is)
    goes_by p (through use_no mirrored) track from_is h o =
        let m : Match = h.1.decider in
        let says = decided h.0 m h.1.decides (does c.config mirrored (Through h.1.chain use_no)) ((λ k. does c.config (h.1.matched k) m.rule.rule.action) ∙ ap (does c.config mirrored) h.1.leads) in
        let chain : h.1.chain ≡ o.1.chain = one_chain c.topology c.config (valid c w) own target m.rule o.1.rule h.1.chain o.1.chain use_no (decider_stands c.config own target t m h.1.decides) o.1.stands h.1.leads o.1.leads in
        let long : length (expansion c.config h.1.chain) ≡ length track.stops = ap (λ (d : List ℕ). length (expansion c.config d)) chain ∙ sym (zip_length (IsStop c.topology) (expansion c.config o.1.chain) track.stops o.1.stops) in
        subst (λ (v : Verdict). GoesOnIn own.id v (hop_instance_of use_no (place_entered mirrored (length track.stops)))) (sym says) (entered_at mirrored h.1.chain long)
      where
        entered_at : (mirrored : Bool) (chain : List ℕ) → length (expansion c.config chain) ≡ length track.stops → GoesOnIn own.id (verdict_of (does c.config mirrored (Through chain use_no)) (entry_by c.config h.1.decider).rule) (hop_instance_of use_no (place_entered mirrored (length track.stops)))
        entered_at false chain long = refl
        entered_at true chain long = ap (hop_instance_of use_no) (sym long)

  -- an access list among the low-level objects is of two networks
  abbrev ends_of : LowKey → Option (ℕ × ℕ)
  ends_of (key.Acl a b) = Some (a, b)
  ends_of (key.Attach l) = None
  ends_of (key.Instance n) = None
  ends_of (key.ChainUse u) = None

  record IsListOf (from other : ℕ) (v : LowValue) : Type 0 where
    own : Network
    target : Network
    in_own : Contains c.config.networks own
    in_target : Contains c.config.networks target
    near : (own ≡ target) ⊎ AreRelated c.config own target
    own_is : own.id.0 ≡ from
    target_is : target.id.0 ≡ other
    value : v ≡ acl_value c.config own target

  is_list : (from other : ℕ) (v : LowValue) (o : LowObject) → o ≡ (key.Acl from other, v) → IsObject c.topology c.config o → IsListOf from other v
  is_list from other v o e (of_networks a d in_a in_d near is) =
      let ends : (a.id.0, d.id.0) ≡ (from, other) = same_Some (a.id.0, d.id.0) (from, other) (ap (λ (o : LowObject). ends_of o.0) (sym is ∙ e)) in
      record { own = a; target = d; in_own = in_a; in_target = in_d; near = near; own_is = λ k. (ends k).0; target_is = λ k. (ends k).1; value = ap (λ (o : LowObject). o.1) (sym e ∙ is) }
  is_list from other v o e (of_network n is in_n are at) = absurd (none_some (from, other) (ap (λ (o : LowObject). ends_of o.0) (sym at ∙ e)))
  is_list from other v o e (of_port n q node there at) = absurd (none_some (from, other) (ap (λ (o : LowObject). ends_of o.0) (sym at ∙ e)))
  is_list from other v o e (of_left_circuit u j k node used is there at) = absurd (none_some (from, other) (ap (λ (o : LowObject). ends_of o.0) (sym at ∙ e)))
  is_list from other v o e (of_right_circuit u j k node used is there at) = absurd (none_some (from, other) (ap (λ (o : LowObject). ends_of o.0) (sym at ∙ e)))
  is_list from other v o e (of_use u hops used zip at) = absurd (none_some (from, other) (ap (λ (o : LowObject). ends_of o.0) (sym at ∙ e)))

  in_feed : (k : LowKey) (v : LowValue) → Member (k, v) (low_objects c.topology c.config) → Member (k, v) (objects (low_in c))
  in_feed k v m = subst (λ (os : List LowObject). Member (k, v) os) (sym (objects-low (opening c))) m

  pub object_there : (k : LowKey) (v : LowValue) → Member (k, v) (low_objects c.topology c.config) → object (low_in c) k ≡ Some v
  object_there k v m = ap as_object (object_of (low_in c) k v (in_feed k v m))

  -- of the access lists of the source's network, that of the destination's alone has the address
  pub heads_alone : (p : Packet) (number : PortNo) (way : Way) (track : Track) → Offers c p number way track → (other : ℕ) (v : LowValue) → Member (key.Acl track.from.0 other, v) (low_objects c.topology c.config) → Meets v p.destination.0 → other ≡ track.to.0
  heads_alone p number way track o other v m meets =
      let l = is_list track.from.0 other v (key.Acl track.from.0 other, v) refl (low_is (opening c) w.config (valid c w) (key.Acl track.from.0 other, v) (in_feed (key.Acl track.from.0 other) v m)) in
      let subnets : ascending l.target.subnets ≡ meets.0 = ap subnets_in (sym l.value ∙ meets.2) in
      let q = from_any (λ (s : Block). contains s p.destination.0) (ascending l.target.subnets) (ap (λ (ss : List Block). list_any (λ s. contains s p.destination.0) ss) subnets ∙ meets.3) in
      let has : Any (λ s. contains s p.destination.0 ≡ true) l.target.subnets = any_of (λ s. contains s p.destination.0 ≡ true) l.target.subnets q.0 (ascending_to l.target.subnets q.0 q.1) q.2 in
      let own_is : l.own.id ≡ track.from = λ k. record { 0 = l.own_is k } in
      let near : IsAround c.config l.own l.target =
      elim l.near as (λ _. IsAround c.config l.own l.target) [
        | inl same ↦ inl (ap (λ (n : Network). n.name) (sym same))
        | inr related ↦ inr ((related_iff c.config l.own l.target).1 related)
      ] in
      sym l.target_is ∙ ap (λ (i : InstanceId). i.0) (alone c p number way track as_written o l.own l.target l.in_own l.in_target own_is near has)
    where
      subnets_in : LowValue → List Block
      subnets_in (low.Acl ss rs) = ss
      subnets_in (low.Instance is) = []
      subnets_in (low.AttachPort a i x n) = []
      subnets_in (low.AttachCircuit k s n) = []
      subnets_in (low.ChainUse l r ls rs hops) = []

  pub list_of : (p : Packet) (number : PortNo) (way : Way) (track : Track) → (o : Offers c p number way track) → object (low_in c) (key.Acl track.from.0 track.to.0) ≡ Some (low.Acl (ascending o.target.subnets) (acl_rules c.config o.own o.target))
  list_of p number way track o =
      let v : LowValue = low.Acl (ascending o.target.subnets) (acl_rules c.config o.own o.target) in
      let at : key.Acl o.own.id.0 o.target.id.0 ≡ key.Acl track.from.0 track.to.0 = λ k. key.Acl (o.own_is k).0 (o.target_is k).0 in
      subst (λ (k : LowKey). object (low_in c) k ≡ Some v) at (list_in c w p o.own o.target way track o.leaves.own_stands o.target_stands o.opens)

  pub meets_there : (p : Packet) (number : PortNo) (way : Way) (track : Track) → Offers c p number way track → (v : LowValue) → Member (key.Acl track.from.0 track.to.0, v) (low_objects c.topology c.config) → Meets v p.destination.0
  meets_there p number way track o v m =
      let value : v ≡ low.Acl (ascending o.target.subnets) (acl_rules c.config o.own o.target) = same_Some v _ (sym (object_there (key.Acl track.from.0 track.to.0) v m) ∙ list_of p number way track o) in
      let held : Any (λ s. contains s p.destination.0 ≡ true) o.target.subnets =
      subst (λ (a : Addr). Any (λ s. contains s a.0 ≡ true) o.target.subnets) o.arrives.arrival_address
      (holds_port c.topology c.config (valid c w) o.target o.arrives.arrival o.target_stands o.arrives.arrival_stands o.arrives.arrival_network) in
      (ascending o.target.subnets, acl_rules c.config o.own o.target, value, any_in (λ (s : Block). contains s p.destination.0) held.1 (ascending o.target.subnets) (ascending_in o.target.subnets held.1 (held.0, held.2, held.3)) held.4)

  -- by the entries of its list a packet that it leads by a way goes on where the way starts
  pub goes_on : (p : Packet) (number : PortNo) (way : Way) (track : Track) → Offers c p number way track → LeadsTo c.config p number way → (subnets : List Block) (rules : List AclRule) → Member (key.Acl track.from.0 track.to.0, low.Acl subnets rules) (low_objects c.topology c.config)
      → GoesOnIn track.from (verdict_in track.from.0 p.tuple (Some (record { to = track.to.0; rules = rules }))) (start_of way track)
  goes_on p number way track o h subnets rules m =
      let own : h.own ≡ o.own = one_own c (valid c w) p h.own o.own h.goes.leaves o.leaves in
      let target : h.target ≡ o.target = one_entered c (valid c w) p number h.target o.target h.arrives o.arrives h.goes.towards.stands o.target_stands in
      let by : GoesBy c.config o.own o.target p.tuple way = subst (λ (b : Network). GoesBy c.config o.own b p.tuple way) target (subst (λ (a : Network). GoesBy c.config a h.target p.tuple way) own h.by_way) in
      let mine = goes_by o.own o.target o.leaves.own_stands o.target_stands p.tuple p way track o.own_is by o.opens in
      let value : low.Acl subnets rules ≡ low.Acl (ascending o.target.subnets) (acl_rules c.config o.own o.target) = same_Some (low.Acl subnets rules) _ (sym (object_there (key.Acl track.from.0 track.to.0) (low.Acl subnets rules) m) ∙ list_of p number way track o) in
      let same : acl_rules c.config o.own o.target ≡ rules = ap rules_in (sym value) in
      subst (λ (rs : List AclRule). GoesOnIn track.from (verdict_in track.from.0 p.tuple (Some (record { to = track.to.0; rules = rs }))) (start_of way track)) same
      (subst (λ (i : InstanceId). GoesOnIn i (verdict_in i.0 p.tuple (Some (record { to = track.to.0; rules = acl_rules c.config o.own o.target }))) (start_of way track)) o.own_is
      (subst (λ (i : InstanceId). GoesOnIn o.own.id (verdict_in o.own.id.0 p.tuple (Some (record { to = i.0; rules = acl_rules c.config o.own o.target }))) (start_of way track)) o.target_is mine))
    where
      rules_in : LowValue → List AclRule
      rules_in (low.Acl ss rs) = rs
      rules_in (low.Instance is) = []
      rules_in (low.AttachPort a i x n) = []
      rules_in (low.AttachCircuit k s n) = []
      rules_in (low.ChainUse l r ls rs hops) = []

-- ---- an address in hand changes no hands
module _ (x y : Checked) (w : IsWritten (opening x)) (v : IsWritten (opening y)) where
  imports_number : (from n : InstanceId) → is_hop from ≡ false → Member n (imports (low_in x) from) → ImportsNumber x.config from n
  imports_number from n net m = by (imported_is (opening x) w.config (valid x w) from n m)
    where
      by : Imported (opening x) from n → ImportsNumber x.config from n
      by (network_import a d in_a in_d is_a is_d near) = record {
        own = a;
        own_stands = in_a;
        own_is = sym is_a;
        imported = d;
        imported_stands = in_d;
        imported_is = sym is_d;
        near = elim near as (λ _. (d.name ≡ a.name) ⊎ PassesBetween x.config a d) [ inl same ↦ inl (sym same) | inr passes ↦ inr passes ];
      }
      by (hop_import u j used within is at) = absurd (true≢false (sym (ap is_hop is ∙ is_hop-hop u.number j) ∙ net))

  has_port_at : (n : InstanceId) (address : Addr) (a : Attachment) → n.0 < 16384 → Member a (attachments (low_in y)) → a.instance ≡ n → a.prefix ≡ host_prefix address.0 → HasPortAt y.config n address
  has_port_at n address a small m instance prefix = by (attachment_is (opening y) v.config (valid y v) a m)
    where
      apart : (u j n : ℕ) → n < 16384 → 16384 + 16 * u + j ≡ n → ⊥
      apart u j n h e = omega (arith, h, e)

      by : AttachmentKind (opening y) a → HasPortAt y.config n address
      by (port_kind home q d at e) =
          let block : host_prefix q.address.0 ≡ host_prefix address.0 = ap (λ (a : Attachment). a.prefix) e ∙ prefix in
          record {
            home = home;
            home_stands = at.has_home;
            home_is = ap (λ (a : Attachment). a.instance) e ∙ instance;
            port = q;
            port_stands = at.has_port;
            port_network = at.home_of;
            port_address = λ k. record { 0 = ap (λ (b : Block). b.addr) block k };
          }
      by (left_kind u j k d used is at e) = absurd (apart u.number j n.0 small (ap (λ (i : InstanceId). i.0) (sym (left_instance u j k is) ∙ ap (λ (a : Attachment). a.instance) e ∙ instance)))
      by (right_kind u j k d used is at e) = absurd (apart u.number (j + 1) n.0 small (ap (λ (i : InstanceId). i.0) (sym (right_instance u j k is) ∙ ap (λ (a : Attachment). a.instance) e ∙ instance)))

-- ---- all configurations
module _ (b : Checked) (ds : List Checked) (written : (c : Checked) → Member c (b ∷ ds) → IsWritten (opening c)) (p : Packet) (number : PortNo) where
  abbrev pub cs : List Checked
  cs = b ∷ ds

  abbrev pub M : Map
  M = common cs

  abbrev W : Map
  W = placed cs

  abbrev pub AllOffer : Way → Track → Type 0
  AllOffer way track = (c : Checked) → Member c cs → Offers c p number way track

  abbrev ImportsAt : Checked → InstanceId → InstanceId → Type 0
  ImportsAt c i j = Member j (network_imports (object (low_in c) (key.Instance i.0)))

  module _ (way : Way) (track : Track) (offered : AllOffer way track) where
    abbrev n : Node
    n = track.source_node

    pub source_stands : Member n (standing cs)
    source_stands = in_standing b ds written n (λ c m. member_of c.topology.nodes n (offered c m).source_node.stands)

    arrival_stands : Member track.arrival_node (standing cs)
    arrival_stands = in_standing b ds written track.arrival_node (λ c m. member_of c.topology.nodes track.arrival_node (offered c m).arrival_node.stands)

    to_itself : ImportsInAll b ds written track.to track.to
    to_itself c m =
        let o = offered c m in
        subst (λ (i : InstanceId). ImportsAt c i i) o.target_is (imports_in c (written c m) o.target o.target o.target_stands o.target_stands (inl refl))

    from_no_hop : is_hop track.from ≡ false
    from_no_hop = let o = offered b (inl refl) in subst (λ (i : InstanceId). is_hop i ≡ false) o.own_is (no_hop b (written b (inl refl)) o.own o.leaves.own_stands)

    -- the port at the end of the way
    pub arrival_there : object M (key.Attach (port_label_of number).0) ≡ Some (low.AttachPort number track.to p.destination track.arrival_node.address)
    arrival_there =
        port_common b ds written (port_label_of number).0 number track.to p.destination track.arrival_node arrival_stands
        (λ c m.
        let o = offered c m in
        port_in c (written c m) o.target o.arrives.arrival track.arrival_node
        (record { has_home = o.target_stands; has_port = o.arrives.arrival_stands; has_node = o.arrival_node.stands; home_of = o.arrives.arrival_network; node_of = o.arrival_node.named })
        number track.to p.destination o.arrives.arrival_number o.target_is o.arrives.arrival_address) to_itself

    -- the source port, whatever its address
    source_placed : (a : Addr) × (object W (key.Attach (port_label_of p.source).0) ≡ Some (low.AttachPort p.source track.from a n.address))
    source_placed =
        port_placed b ds written (port_label_of p.source).0 p.source track.from n source_stands
        (λ c m.
        let o = offered c m in (
          o.leaves.source.address,
          port_in c (written c m) o.own o.leaves.source n
              (record { has_home = o.leaves.own_stands; has_port = o.leaves.source_stands; has_node = o.source_node.stands; home_of = sym o.leaves.own_name; node_of = o.source_node.named })
              p.source track.from o.leaves.source.address o.leaves.source_number o.own_is refl,
        ))

    abbrev source_value : LowValue
    source_value = low.AttachPort p.source track.from source_placed.0 n.address

    pub starts : StartsInCommon cs n track.from p
    starts = record { stays = source_stands; label = port_labelled W (port_label_of p.source) p.source track.from source_placed.0 n.address source_placed.1 }

    -- the access list
    in_lists : ListInAll b ds written track.from.0 track.to.0
    in_lists = record {
      subnets = λ c m. ascending (offered c m).target.subnets;
      rules = λ c m. acl_rules c.config (offered c m).own (offered c m).target;
      each = λ c m. list_of c (written c m) p number way track (offered c m);
    }

    abbrev list_key : LowKey
    list_key = key.Acl track.from.0 track.to.0

    the_list : (list : LowValue) × (object M list_key ≡ Some list) × ((i : InstanceId) → ((c : Checked) (m : Member c cs) → Member i (entered (acl_rules c.config (offered c m).own (offered c m).target))) → Member i (needed_for list))
    unfolding in_lists
    the_list = list_common b ds written track.from.0 track.to.0 in_lists

    list_in_slice : Member (list_key, the_list.0) (slice W n.address)
    list_in_slice =
        let at : LowKey = key.Attach (port_label_of p.source).0 in
        (slice_is W n.address list_key the_list.0).1 (
          in_objects W list_key the_list.0 (object_is W list_key the_list.0 (in_placed b ds list_key the_list.0 the_list.1)),
          record { name = at; port = source_value; held = in_objects W at source_value (object_is W at source_value source_placed.1); port_is = ap (λ c. cond c (Some track.from) None) (eq-eqb n.address.0 n.address.0 refl) },
        )

    pub heads : HeadsInCommon cs n track.from.0 track.to.0 p.destination.0
    heads = record {
      stays = source_stands;
      list = the_list.0;
      is_list = in_filter_map (λ (e : LowKey × LowValue). acl_entry e.0 e.1) (list_key, the_list.0) (list_key, the_list.0) (slice W n.address) list_in_slice refl;
      meets = λ c v m has. meets_there c (written c m) p number way track (offered c m) v has;
      alone = λ c other v m has meets. heads_alone c (written c m) p number way track (offered c m) other v has meets;
    }

    -- where the way starts, the agent has its routes
    from_needed : Member track.from (needed_by (slice W n.address))
    from_needed = port_needed W (port_label_of p.source) p.source track.from source_placed.0 n.address source_placed.1

-- ---- along the way
module _ (b : Checked) (ds : List Checked) (written : (c : Checked) → Member c (b ∷ ds) → IsWritten (opening c)) (p : Packet) (number : PortNo) where
  near_of : (c : Checked) (way : Way) (track : Track) (o : Offers c p number way track) → IsStraight way → (o.own.name ≡ o.target.name) ⊎ PassesBetween c.config o.own o.target
  near_of c inside track o s = inl (sym o.opens.0)
  near_of c passing track o s = inr o.opens.1
  near_of c (through use_no mirrored) track o s = absurd s

  at_once : (way : Way) (track : Track) → AllOffer b ds written p number way track → IsStraight way → KeepsInHand (b ∷ ds) track.from track.to p.destination
      → IsCommonWay (b ∷ ds) track.source_node track.from p.destination.0 [] number
  at_once way track offered straight hand =
      let net = from_no_hop b ds written p number way track offered in
      arrives b ds written number track.to p.destination track.arrival_node (arrival_stands b ds written p number way track offered) (arrival_there b ds written p number way track offered)
      track.source_node (source_stands b ds written p number way track offered) track.from (from_needed b ds written p number way track offered)
      (imports_common b ds written track.from track.to net (λ c m.
      let o = offered c m in
      subst (λ (i : InstanceId). Member i (network_imports (object (low_in c) (key.Instance track.from.0)))) o.target_is
      (subst (λ (i : InstanceId). Member o.target.id (network_imports (object (low_in c) (key.Instance i.0)))) o.own_is
      (imports_in c (written c m) o.own o.target o.leaves.own_stands o.target_stands (near_of c way track o straight)))))
      (λ h. h.apart (is_to net h.first h.first_held ∙ sym (is_to net h.second h.second_held)))
    where
      is_to : is_hop track.from ≡ false → (n : InstanceId) → WasHeld (b ∷ ds) track.from n (host_prefix p.destination.0) → n ≡ track.to
      is_to net n h =
          let x = h.imported in
          let y = h.attached in
          let small = (sound_setup (opening x.0) (written x.0 x.1)).sound.imports_small track.from n net x.2 in
          hand x.0 y.0 n (contains_of (b ∷ ds) x.0 x.1) (contains_of (b ∷ ds) y.0 y.1)
          (imports_number x.0 y.0 (written x.0 x.1) (written y.0 y.1) track.from n net x.2)
          (has_port_at x.0 y.0 (written x.0 x.1) (written y.0 y.1) n p.destination y.2.0 small y.2.1 y.2.2 y.2.3)

  needs_start : (use_no : ℕ) (mirrored : Bool) (track : Track) (offered : AllOffer b ds written p number (through use_no mirrored) track) → Member (hop_instance_of use_no (place_entered mirrored (length track.stops))) (needed_by (slice (placed (b ∷ ds)) track.source_node.address))
  needs_start use_no mirrored track offered =
      let way : Way = through use_no mirrored in
      let i : InstanceId = hop_instance_of use_no (place_entered mirrored (length track.stops)) in
      let list = the_list b ds written p number way track offered in
      needed_in (placed (b ∷ ds)) track.source_node.address (key.Acl track.from.0 track.to.0) list.0 i (list_in_slice b ds written p number way track offered)
      (list.2 i (λ c m. let o = offered c m in enters c (written c m) p o.own o.target o.leaves.own_stands o.target_stands use_no mirrored track o.opens))

  pub way_of : (way : Way) (track : Track) → AllOffer b ds written p number way track → (IsStraight way → KeepsInHand (b ∷ ds) track.from track.to p.destination)
      → IsCommonWay (b ∷ ds) track.source_node (start_of way track) p.destination.0 (visited way track) number
  way_of inside track offered hand = at_once inside track offered tt (hand tt)
  way_of passing track offered hand = at_once passing track offered tt (hand tt)
  way_of (through use_no false) track offered hand =
      goes_forwards b ds written p number use_no track.arrival_node (arrival_stands b ds written p number (through use_no false) track offered) track offered (arrival_there b ds written p number (through use_no false) track offered)
      track.source_node (source_stands b ds written p number (through use_no false) track offered) (needs_start use_no false track offered)
  way_of (through use_no true) track offered hand =
      goes_mirrored b ds written p number use_no track.arrival_node (arrival_stands b ds written p number (through use_no true) track offered) track offered (arrival_there b ds written p number (through use_no true) track offered)
      track.source_node (source_stands b ds written p number (through use_no true) track offered) (needs_start use_no true track offered)

  below : (k n : ℕ) → k ≡ n → n ≤ 15 → k < 64
  below k n e h = omega (arith, e, h)

  long : (stops : List Stop) → length (map (λ (s : Stop). s.0) stops) ≡ length (map hop_of_stop stops)
  long [] = refl
  long (s ∷ stops) = ap suc (long stops)

  pub few_visited : (way : Way) (track : Track) → AllOffer b ds written p number way track → length (visited way track) < 64
  few_visited inside track offered = omega arith
  few_visited passing track offered = omega arith
  few_visited (through use_no false) track offered = below (length (map (λ (s : Stop). s.0) track.stops)) (length (map hop_of_stop track.stops)) (long track.stops) (few b ds written p number use_no false track offered)
  few_visited (through use_no true) track offered =
      below (length (reverse (map (λ (s : Stop). s.0) track.stops))) (length (map hop_of_stop track.stops)) (length-reverse (map (λ (s : Stop). s.0) track.stops) ∙ long track.stops) (few b ds written p number use_no true track offered)
