-- Each packet that all configurations of a window keep to a port is delivered there by one of its ways.
use Rattle.std.specs.Prelude.{◌≡◌, List, [], ◌∷◌}
use Rattle.std.specs.List.{All, Any, Contains}
use Rattle.std.specs.declared.option.Option.TheVariants.{Some}
use Rattle.std.proofs.Common.{ap, inl, refl, subst, sym, ◌∙◌}
use Rattle.std.proofs.lemmas.List.Elements.{All-contains}
use Rattle.std.proofs.lemmas.Option.{same_Some}
use Rattle.ov_types.specs.Access.{verdict_in}
use Rattle.ov_types.specs.Prefix.{Block}
use Rattle.ov_types.specs.declared.numbers.InstanceId.{InstanceId}
use Rattle.ov_types.specs.declared.numbers.PortNo.{PortNo}
use Rattle.ov_types.specs.declared.objects.AclRule.{AclRule}
use Rattle.ov_types.specs.declared.objects.LowKey.TheVariants as key
use Rattle.ov_types.specs.declared.objects.LowValue.TheVariants as low
use Rattle.ov_types.specs.declared.packet.Outcome.{Outcome}
use Rattle.ov_types.specs.declared.packet.Outcome.TheVariants.{Delivered}
use Rattle.ov_types.specs.declared.packet.Packet.{Packet}
use Rattle.ov_types.specs.declared.verdict.Verdict.{Verdict}
use Rattle.ov_types.specs.declared.verdict.Verdict.TheVariants as Says
use Rattle.route_targets.specs.Forwarding.{forwarding, walk}
use Rattle.ov_types.proofs.FirstLemmas.{any_of}
use Rattle.reach_plain.specs.Reachability.{reachability}
use Rattle.config_types.specs.declared.config.Network.{Network}
use Rattle.config_types.specs.declared.config.Port.{Port}
use Rattle.config_types.specs.declared.topology.Node.{Node}
use Rattle.schedule_script.specs.ConfigCheck.Checked.{Checked}
use Rattle.schedule_script.specs.ConfigCheck.Finding.{port_numbered}
use Rattle.reach_plain.proofs.ConfigCheck.Finders.{finds_port_numbered}
use Rattle.transform_model.specs.Objects.{low_objects}
use Rattle.transform_model.proofs.Valid.{one_node}
use Rattle.node_laws.specs.NodeModel.Members.{Member}
use Rattle.node_laws.proofs.NodeModel.Members.{contains_of, member_of}
use Rattle.machine_model.specs.Events.{after, forwarders}
use Rattle.machine_model.specs.Network.{MachineState, start}
use Rattle.machine_model.specs.Setup.{opening}
use Rattle.machine_laws.specs.Headline.{IsWritten}
use Rattle.hitless_cells.specs.Keeping.{Keep}
use Rattle.hitless_cells.specs.Ways.{LeadsTo, Offers, Track, Way, visited}
use Rattle.hitless_cells.proofs.Alone.{one_entered, one_own}
use Rattle.hitless_cells.proofs.Visits.{visits}
use Rattle.machine_moment_laws.specs.Arriving.{DeliversByOne, GoesOnIn, GoesTheCommonWay, IsLedBy, IsLedByAll, agent_at_node}
use Rattle.machine_moment_laws.specs.Windows.{AtMomentsOfWindows}
use Rattle.machine_moment_laws.proofs.Arriving.{go_the_common_way}
use Rattle.machine_moment_laws.proofs.ByOne.{delivered_by_one}
use Rattle.machine_moment_laws.proofs.CommonMoments.{all_are_written, first_one, others}
use Rattle.machine_moment_laws.specs.Kept.{IsDeliveredBy, IsInHand, KeptAreDelivered}
use Rattle.machine_moment_laws.proofs.Ends.{AllOffer, few_visited, goes_on, heads, start_of, starts, way_of}
use Rattle.machine_moment_laws.proofs.Made.{valid}

-- ---- the ends of two ways that one configuration offers are the same
module _ (c : Checked) (w : IsWritten (opening c)) (p : Packet) (number : PortNo) (way other : Way) (k l : Track) (h : Offers c p number way k) (g : Offers c p number other l) where
  same_from : k.from ≡ l.from
  same_from = sym h.own_is ∙ ap (λ (a : Network). a.id) (one_own c (valid c w) p h.own g.own h.leaves g.leaves) ∙ g.own_is

  same_to : k.to ≡ l.to
  same_to = sym h.target_is ∙ ap (λ (a : Network). a.id) (one_entered c (valid c w) p number h.target g.target h.arrives g.arrives h.target_stands g.target_stands) ∙ g.target_is

  same_source : h.leaves.source ≡ g.leaves.source
  same_source =
      let f = finds_port_numbered c.topology c.config p.source.0 (valid c w) in
      let found : (q : Port) → Contains c.config.ports q → q.id ≡ p.source → port_numbered c.config p.source.0 ≡ Some q = λ q at is. (f.some q).1 (at, ap (λ (n : PortNo). n.0) is) in
      same_Some h.leaves.source g.leaves.source (sym (found h.leaves.source h.leaves.source_stands h.leaves.source_number) ∙ found g.leaves.source g.leaves.source_stands g.leaves.source_number)

  same_node : k.source_node ≡ l.source_node
  same_node = one_node c.topology c.config (valid c w) k.source_node l.source_node h.source_node.stands g.source_node.stands (h.source_node.named ∙ ap (λ (q : Port). q.node) same_source ∙ sym g.source_node.named)

-- what goes on goes on in one instance
one_instance : (from : InstanceId) (v : Verdict) (i j : InstanceId) → GoesOnIn from v i → GoesOnIn from v j → i ≡ j
one_instance from Says.Pass i j h g = h ∙ sym g
one_instance from (Says.Enter k) i j h g = h ∙ sym g
one_instance from (Says.Denied rule) i j h g = absurd h
one_instance from Says.NoDestination i j h g = absurd h

module _ (b : Checked) (ds : List Checked) (written : (c : Checked) → Member c (b ∷ ds) → IsWritten (opening c)) (p : Packet) (number : PortNo) (ways : List Way)
    (keep : Keep (b ∷ ds) p number ways) (hand : IsInHand (b ∷ ds) p number ways) where
  abbrev cs : List Checked
  cs = b ∷ ds

  -- the way by which a configuration leads the packet, and its track
  record Taken (c : Checked) : Type 0 where
    way : Way
    among : Contains ways way
    leads : LeadsTo c.config p number way
    track : Track
    all : All (λ x. Offers x p number way track) cs

  taken : (c : Checked) → Member c cs → Taken c
  taken c m =
      let by = All-contains (λ (x : Checked). Any (λ way. LeadsTo x.config p number way) ways) cs c keep.leads (contains_of cs c m) in
      let at : Contains ways by.1 = (by.0, by.2, by.3) in
      let has = All-contains (λ (w : Way). (track : Track) × All (λ x. Offers x p number w track) cs) ways by.1 keep.offered at in
      record { way = by.1; among = at; leads = by.4; track = has.0; all = has.1 }

  offers : (way : Way) (track : Track) → All (λ x. Offers x p number way track) cs → AllOffer b ds written p number way track
  offers way track all c m = All-contains (λ (x : Checked). Offers x p number way track) cs c all (contains_of cs c m)

  first : Taken b
  first = taken b (inl refl)

  first_offers : AllOffer b ds written p number first.way first.track
  first_offers = offers first.way first.track first.all

  -- along which it is led by the entries of the list there
  record Led (n : Node) (from to : InstanceId) (rules : List AclRule) : Type 0 where
    by : IsLedBy cs n from to.0 p number rules
    way : Way
    among : Contains ways way
    track : Track
    all : All (λ x. Offers x p number way track) cs
    along : by.services ≡ visited way track

  led_there : (c : Checked) (m : Member c cs) (t : Taken c) (subnets : List Block) (rules : List AclRule) → Member (key.Acl t.track.from.0 t.track.to.0, low.Acl subnets rules) (low_objects c.topology c.config) → Led t.track.source_node t.track.from t.track.to rules
  led_there c m t subnets rules has =
      let o = offers t.way t.track t.all in
      record {
        by = record {
          instance = start_of t.way t.track;
          goes_on = goes_on c (written c m) p number t.way t.track (o c m) t.leads subnets rules has;
          services = visited t.way t.track;
          few = few_visited b ds written p number t.way t.track o;
          way = way_of b ds written p number t.way t.track o (λ s. hand t.way t.track t.among s t.all);
        };
        way = t.way;
        among = t.among;
        track = t.track;
        all = t.all;
        along = refl;
      }

  abbrev n : Node
  n = first.track.source_node

  abbrev from : InstanceId
  from = first.track.from

  abbrev to : InstanceId
  to = first.track.to

  led : (c : Checked) → Member c cs → (subnets : List Block) (rules : List AclRule) → Member (key.Acl from.0 to.0, low.Acl subnets rules) (low_objects c.topology c.config) → Led n from to rules
  led c m subnets rules has =
      let t = taken c m in
      let h = offers t.way t.track t.all c m in
      let g = first_offers c m in
      let at = same_from c (written c m) p number t.way first.way t.track first.track h g in
      let into = same_to c (written c m) p number t.way first.way t.track first.track h g in
      let near = same_node c (written c m) p number t.way first.way t.track first.track h g in
      let there : Member (key.Acl t.track.from.0 t.track.to.0, low.Acl subnets rules) (low_objects c.topology c.config) =
      subst (λ (i : InstanceId). Member (key.Acl i.0 t.track.to.0, low.Acl subnets rules) (low_objects c.topology c.config)) (sym at)
      (subst (λ (i : InstanceId). Member (key.Acl from.0 i.0, low.Acl subnets rules) (low_objects c.topology c.config)) (sym into) has) in
      subst (λ (i : InstanceId). Led n from i rules) into
      (subst (λ (i : InstanceId). Led n i t.track.to rules) at
      (subst (λ (k : Node). Led k t.track.from t.track.to rules) near (led_there c m t subnets rules there)))

  led_by_all : IsLedByAll cs n from to.0 p number
  led_by_all = record {
    heads = heads b ds written p number first.way first.track first_offers;
    ways = λ c subnets rules m has. (led c m subnets rules has).by;
  }

  pub delivered : (w : MachineState) → DeliversByOne cs w → GoesTheCommonWay cs w → IsDeliveredBy cs p number ways (forwarding (forwarders w) p)
  delivered w delivers goes =
      let d = delivers n from to.0 p number (starts b ds written p number first.way first.track first_offers) led_by_all in
      let mine = led d.config d.among d.subnets d.rules d.has_list in
      let same : mine.by.instance ≡ d.led.instance = one_instance from (verdict_in from.0 p.tuple (Some (record { to = to.0; rules = d.rules }))) mine.by.instance d.led.instance mine.by.goes_on d.led.goes_on in
      let arrived : Delivered number d.led.services ≡ Delivered number mine.by.services =
      sym (goes n d.led.instance p.destination.0 d.led.services number d.led.way 64 [] d.led.few)
      ∙ (λ k. walk_in w (sym same k))
      ∙ goes n mine.by.instance p.destination.0 mine.by.services number mine.by.way 64 [] mine.by.few in
      record {
        way = mine.way;
        among = mine.among;
        track = mine.track;
        offered = mine.all;
        delivered = d.delivered ∙ arrived ∙ ap (Delivered number) mine.along;
        as_one = as_some mine.way mine.among mine.track mine.all (d.delivered ∙ arrived ∙ ap (Delivered number) mine.along);
      }
    where
      -- some configuration leads by the way
      as_some : (way : Way) → Contains ways way → (track : Track) → All (λ x. Offers x p number way track) cs → forwarding (forwarders w) p ≡ Delivered number (visited way track) → Any (λ x. forwarding (forwarders w) p ≡ reachability x.config p) cs
      as_some way among track all is =
          let by = All-contains (λ (w : Way). Any (λ x. LeadsTo x.config p number w) cs) ways way keep.taken among in
          let at : Contains cs by.1 = (by.0, by.2, by.3) in
          let written_there = written by.1 (member_of cs by.1 at) in
          any_of (λ (x : Checked). forwarding (forwarders w) p ≡ reachability x.config p) cs by.1 at
          (is ∙ sym (visits by.1 p number way track (record { form = written_there.config; valid = written_there.valid }) by.4 (All-contains (λ (x : Checked). Offers x p number way track) cs by.1 all at)))

      walk_in : MachineState → InstanceId → Outcome
      walk_in w i = walk (forwarders w) p.destination.0 64 (agent_at_node w n) [] i

pub kept_are_delivered : AtMomentsOfWindows KeptAreDelivered
kept_are_delivered size positive x written before asked begins es window form p number ways keep hand =
    let w = after size (after size (start x) before) es in
    delivered (first_one size positive x written before asked begins es window form) (others size positive x written before asked begins es window form)
    (all_are_written size positive x written before asked begins es window form) p number ways keep hand w
    (delivered_by_one size positive x written before asked begins es window form)
    (go_the_common_way size positive x written before asked begins es window form)
