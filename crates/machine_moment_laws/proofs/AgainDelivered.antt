-- Each packet that all configurations since a moment keep to a port is delivered there by one of its ways, so many rounds later.
use Rattle.std.specs.Prelude.{◌≡◌, ◌<◌, ◌≤◌, ◌+◌, ℕ, List, [], ◌∷◌, length}
use Rattle.std.specs.List.{All, Any, Contains}
use Rattle.std.specs.declared.option.Option.TheVariants.{Some}
use Rattle.std.proofs.Common.{ap, arith, inl, refl, subst, sym, ◌∙◌}
use Rattle.std.proofs.lemmas.List.Elements.{All-contains}
use Rattle.std.proofs.lemmas.Option.{same_Some}
use Rattle.ov_types.specs.Access.{verdict_in}
use Rattle.ov_types.specs.Prefix.{Block}
use Rattle.ov_types.specs.declared.numbers.InstanceId.{InstanceId}
use Rattle.ov_types.specs.declared.numbers.PortNo.{PortNo}
use Rattle.ov_types.specs.declared.numbers.ServiceNo.{ServiceNo}
use Rattle.ov_types.specs.declared.objects.AclRule.{AclRule}
use Rattle.ov_types.specs.declared.objects.LowKey.TheVariants as key
use Rattle.ov_types.specs.declared.objects.LowValue.TheVariants as low
use Rattle.ov_types.specs.declared.packet.Outcome.TheVariants.{Delivered}
use Rattle.ov_types.specs.declared.packet.Packet.{Packet}
use Rattle.ov_types.specs.declared.verdict.Verdict.{Verdict}
use Rattle.ov_types.specs.declared.verdict.Verdict.TheVariants as Says
use Rattle.route_targets.specs.Forwarding.{Forwarder, admitted, departed, forwarding, walk}
use Rattle.ov_types.proofs.FirstLemmas.{any_of}
use Rattle.reach_plain.specs.Reachability.{reachability}
use Rattle.config_types.specs.declared.config.Network.{Network}
use Rattle.config_types.specs.declared.config.Port.{Port}
use Rattle.config_types.specs.declared.topology.Node.{Node}
use Rattle.schedule_script.specs.ConfigCheck.Checked.{Checked}
use Rattle.schedule_script.specs.ConfigCheck.Finding.{port_numbered}
use Rattle.reach_plain.proofs.ConfigCheck.Finders.{finds_port_numbered}
use Rattle.transform_model.specs.Objects.{low_objects}
use Rattle.transform_model.proofs.Valid.{one_node}
use Rattle.node_laws.specs.NodeModel.Members.{Member}
use Rattle.node_laws.proofs.NodeModel.Members.{contains_of, member_of}
use Rattle.machine_model.specs.Events.{after, forwarders}
use Rattle.machine_model.specs.Network.{MachineState, start}
use Rattle.machine_model.specs.Setup.{opening}
use Rattle.machine_laws.specs.Headline.{IsWritten}
use Rattle.hitless_cells.specs.Keeping.{Keep}
use Rattle.hitless_cells.specs.Ways.{LeadsTo, Offers, Track, Way, visited}
use Rattle.hitless_cells.proofs.Alone.{one_entered, one_own}
use Rattle.hitless_cells.proofs.Visits.{visits}
use Rattle.machine_moment_laws.specs.Arriving.{GoesOnIn, HeadsInCommon, IsCommonWay, IsLedBy, StartsInCommon, StartsWhereCommon, VerdictsAreOfSome, agent_at_node}
use Rattle.machine_moment_laws.specs.Recovery.{AtMomentsSince, rounds_in}
use Rattle.machine_moment_laws.proofs.Back.{go_the_way_again, starts_again, verdicts_again}
use Rattle.machine_moment_laws.proofs.RecoveryMoments.{all_are_written, first_one, others}
use Rattle.machine_moment_laws.specs.Kept.{IsDeliveredBy, IsInHand}
use Rattle.machine_moment_laws.proofs.Ends.{AllOffer, few_visited, goes_on, heads, start_of, starts, way_of}
use Rattle.machine_moment_laws.proofs.Made.{valid}
use Rattle.machine_moment_laws.specs.Again.{KeptAreDeliveredAgain, VisitAtMost}

-- ---- the ends of two ways that one configuration offers are the same
module _ (c : Checked) (w : IsWritten (opening c)) (p : Packet) (number : PortNo) (way other : Way) (k l : Track) (h : Offers c p number way k) (g : Offers c p number other l) where
  same_from : k.from ≡ l.from
  same_from = sym h.own_is ∙ ap (λ (a : Network). a.id) (one_own c (valid c w) p h.own g.own h.leaves g.leaves) ∙ g.own_is

  same_to : k.to ≡ l.to
  same_to = sym h.target_is ∙ ap (λ (a : Network). a.id) (one_entered c (valid c w) p number h.target g.target h.arrives g.arrives h.target_stands g.target_stands) ∙ g.target_is

  same_source : h.leaves.source ≡ g.leaves.source
  same_source =
      let f = finds_port_numbered c.topology c.config p.source.0 (valid c w) in
      let found : (q : Port) → Contains c.config.ports q → q.id ≡ p.source → port_numbered c.config p.source.0 ≡ Some q = λ q at is. (f.some q).1 (at, ap (λ (n : PortNo). n.0) is) in
      same_Some h.leaves.source g.leaves.source (sym (found h.leaves.source h.leaves.source_stands h.leaves.source_number) ∙ found g.leaves.source g.leaves.source_stands g.leaves.source_number)

  same_node : k.source_node ≡ l.source_node
  same_node = one_node c.topology c.config (valid c w) k.source_node l.source_node h.source_node.stands g.source_node.stands (h.source_node.named ∙ ap (λ (q : Port). q.node) same_source ∙ sym g.source_node.named)

-- a verdict by which a packet goes on in an instance lets it be looked up there
passes_on : (agents : List Forwarder) (d : ℕ) (f : Forwarder) (from i : InstanceId) (v : Verdict) → GoesOnIn from v i → admitted agents d f from v ≡ walk agents d 64 f [] i
passes_on agents d f from i Says.Pass h = ap (walk agents d 64 f []) (sym h)
passes_on agents d f from i (Says.Enter j) h = ap (walk agents d 64 f []) (sym h)
passes_on agents d f from i (Says.Denied rule) h = absurd h
passes_on agents d f from i Says.NoDestination h = absurd h

module _ (b : Checked) (ds : List Checked) (written : (c : Checked) → Member c (b ∷ ds) → IsWritten (opening c)) (p : Packet) (number : PortNo) (ways : List Way)
    (keep : Keep (b ∷ ds) p number ways) (hand : IsInHand (b ∷ ds) p number ways) where
  abbrev cs : List Checked
  cs = b ∷ ds

  -- the way by which a configuration leads the packet, and its track
  record Taken (c : Checked) : Type 0 where
    way : Way
    among : Contains ways way
    leads : LeadsTo c.config p number way
    track : Track
    all : All (λ x. Offers x p number way track) cs

  taken : (c : Checked) → Member c cs → Taken c
  taken c m =
      let by = All-contains (λ (x : Checked). Any (λ way. LeadsTo x.config p number way) ways) cs c keep.leads (contains_of cs c m) in
      let at : Contains ways by.1 = (by.0, by.2, by.3) in
      let has = All-contains (λ (w : Way). (track : Track) × All (λ x. Offers x p number w track) cs) ways by.1 keep.offered at in
      record { way = by.1; among = at; leads = by.4; track = has.0; all = has.1 }

  offers : (way : Way) (track : Track) → All (λ x. Offers x p number way track) cs → AllOffer b ds written p number way track
  offers way track all c m = All-contains (λ (x : Checked). Offers x p number way track) cs c all (contains_of cs c m)

  first : Taken b
  first = taken b (inl refl)

  first_offers : AllOffer b ds written p number first.way first.track
  first_offers = offers first.way first.track first.all

  -- along which it is led by the entries of the list there
  record Led (n : Node) (from to : InstanceId) (rules : List AclRule) : Type 0 where
    by : IsLedBy cs n from to.0 p number rules
    way : Way
    among : Contains ways way
    track : Track
    all : All (λ x. Offers x p number way track) cs
    along : by.services ≡ visited way track

  led_there : (c : Checked) (m : Member c cs) (t : Taken c) (subnets : List Block) (rules : List AclRule) → Member (key.Acl t.track.from.0 t.track.to.0, low.Acl subnets rules) (low_objects c.topology c.config) → Led t.track.source_node t.track.from t.track.to rules
  led_there c m t subnets rules has =
      let o = offers t.way t.track t.all in
      record {
        by = record {
          instance = start_of t.way t.track;
          goes_on = goes_on c (written c m) p number t.way t.track (o c m) t.leads subnets rules has;
          services = visited t.way t.track;
          few = few_visited b ds written p number t.way t.track o;
          way = way_of b ds written p number t.way t.track o (λ s. hand t.way t.track t.among s t.all);
        };
        way = t.way;
        among = t.among;
        track = t.track;
        all = t.all;
        along = refl;
      }

  abbrev n : Node
  n = first.track.source_node

  abbrev from : InstanceId
  from = first.track.from

  abbrev to : InstanceId
  to = first.track.to

  led : (c : Checked) → Member c cs → (subnets : List Block) (rules : List AclRule) → Member (key.Acl from.0 to.0, low.Acl subnets rules) (low_objects c.topology c.config) → Led n from to rules
  led c m subnets rules has =
      let t = taken c m in
      let h = offers t.way t.track t.all c m in
      let g = first_offers c m in
      let at = same_from c (written c m) p number t.way first.way t.track first.track h g in
      let into = same_to c (written c m) p number t.way first.way t.track first.track h g in
      let near = same_node c (written c m) p number t.way first.way t.track first.track h g in
      let there : Member (key.Acl t.track.from.0 t.track.to.0, low.Acl subnets rules) (low_objects c.topology c.config) =
      subst (λ (i : InstanceId). Member (key.Acl i.0 t.track.to.0, low.Acl subnets rules) (low_objects c.topology c.config)) (sym at)
      (subst (λ (i : InstanceId). Member (key.Acl from.0 i.0, low.Acl subnets rules) (low_objects c.topology c.config)) (sym into) has) in
      subst (λ (i : InstanceId). Led n from i rules) into
      (subst (λ (i : InstanceId). Led n i t.track.to rules) at
      (subst (λ (k : Node). Led k t.track.from t.track.to rules) near (led_there c m t subnets rules there)))

  heads_there : HeadsInCommon cs n from.0 to.0 p.destination.0
  heads_there = heads b ds written p number first.way first.track first_offers

  starts_there : StartsInCommon cs n from p
  starts_there = starts b ds written p number first.way first.track first_offers

  -- by the list of one configuration, along its way
  delivered : (w : MachineState) → VerdictsAreOfSome cs w → StartsWhereCommon cs w → (most : ℕ) → VisitAtMost most cs p number ways
      → ((i : InstanceId) (services : List ServiceNo) → IsCommonWay cs n i p.destination.0 services number → length services ≤ most → length services < 64 → walk (forwarders w) p.destination.0 64 (agent_at_node w n) [] i ≡ Delivered number services)
      → IsDeliveredBy cs p number ways (forwarding (forwarders w) p)
  unfolding forwarding
  delivered w verdicts start most bound goes =
      let v = verdicts n p from.0 to.0 heads_there in
      let mine = led v.config v.among v.subnets v.rules v.has_list in
      let f : Forwarder = agent_at_node w n in
      let d : ℕ = p.destination.0 in
      let few : length mine.by.services ≤ most = subst (λ (s : List ServiceNo). length s ≤ most) (sym mine.along) (bound mine.way mine.track mine.among mine.all) in
      let there : forwarding (forwarders w) p ≡ Delivered number (visited mine.way mine.track) =
      ap (departed (forwarders w) p) (start n from p starts_there)
      ∙ ap (admitted (forwarders w) d f from) v.says
      ∙ passes_on (forwarders w) d f from mine.by.instance (verdict_in from.0 p.tuple (Some (record { to = to.0; rules = v.rules }))) mine.by.goes_on
      ∙ goes mine.by.instance mine.by.services mine.by.way few mine.by.few
      ∙ ap (Delivered number) mine.along in
      record {
        way = mine.way;
        among = mine.among;
        track = mine.track;
        offered = mine.all;
        delivered = there;
        as_one = as_some w mine.way mine.among mine.track mine.all there;
      }
    where
      -- some configuration leads by the way
      as_some : (w : MachineState) (way : Way) → Contains ways way → (track : Track) → All (λ x. Offers x p number way track) cs → forwarding (forwarders w) p ≡ Delivered number (visited way track) → Any (λ x. forwarding (forwarders w) p ≡ reachability x.config p) cs
      as_some w way among track all is =
          let by = All-contains (λ (w : Way). Any (λ x. LeadsTo x.config p number w) cs) ways way keep.taken among in
          let at : Contains cs by.1 = (by.0, by.2, by.3) in
          let written_there = written by.1 (member_of cs by.1 at) in
          any_of (λ (x : Checked). forwarding (forwarders w) p ≡ reachability x.config p) cs by.1 at
          (is ∙ sym (visits by.1 p number way track (record { form = written_there.config; valid = written_there.valid }) by.4 (All-contains (λ (x : Checked). Offers x p number way track) cs by.1 all at)))

pub kept_are_delivered_again : AtMomentsSince KeptAreDeliveredAgain
kept_are_delivered_again size positive x written before asked begins es window form p number ways keep hand most bound enough =
    let w = after size (after size (start x) before) es in
    let r = rounds_in size (after size (start x) before) es in
    let b = first_one size positive x written before asked begins es window form in
    let ds = others size positive x written before asked begins es window form in
    let valid_all = all_are_written size positive x written before asked begins es window form in
    delivered b ds valid_all p number ways keep hand w
    (verdicts_again size positive x written before asked begins es window form (two most r enough))
    (starts_again size positive x written before asked begins es window form (two most r enough)) most bound
    (λ i services way short few. go_the_way_again size positive x written before asked begins es window form (n b ds valid_all p number ways keep hand) i p.destination.0 services number way (within (length services) most r short enough) 64 [] few)
  where
    two : (k r : ℕ) → k + 5 ≤ r → 2 ≤ r
    two k r h = omega (arith, h)

    within : (k most r : ℕ) → k ≤ most → most + 5 ≤ r → k + 5 ≤ r
    within k most r g h = omega (arith, g, h)
