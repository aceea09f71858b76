-- So many rounds later agents have all that is common, and packets are delivered.
use Rattle.std.specs.Prelude.{◌≡◌, ◌≤◌, ◌+◌, ◌++◌, ℕ, zero, suc, List, [], ◌∷◌, length, map}
use Rattle.std.proofs.Common.{ap, append-nil, append_assoc, arith, subst, sym, ◌∙◌}
use Rattle.std.specs.declared.option.Option.TheVariants.{Some}
use Rattle.ov_types.specs.Access.{verdict_in}
use Rattle.ov_types.specs.declared.numbers.InstanceId.{InstanceId}
use Rattle.ov_types.specs.declared.numbers.PortNo.{PortNo}
use Rattle.ov_types.specs.declared.numbers.ServiceNo.{ServiceNo}
use Rattle.ov_types.specs.declared.packet.Outcome.TheVariants.{Delivered}
use Rattle.ov_types.specs.declared.rows.Attached.TheVariants.{Circuit, Port}
use Rattle.ov_types.specs.declared.rows.Attached.{Attached}
use Rattle.ov_types.specs.declared.verdict.Verdict.{Verdict}
use Rattle.ov_types.specs.declared.verdict.Verdict.TheVariants as Says
use Rattle.route_targets.specs.Forwarding.{Forwarder, admitted, departed, forwarding, visited, walk}
use Rattle.route_targets.specs.Numbers.{circuit_instance_of, other_side_of}
use Rattle.config_types.specs.declared.topology.Node.{Node}
use Rattle.schedule_script.specs.ConfigCheck.Checked.{Checked}
use Rattle.node_laws.specs.NodeModel.Agent.{slice_in_use}
use Rattle.node_laws.specs.NodeModel.Members.{Member}
use Rattle.node_laws.specs.NodeModel.Wants.{slice}
use Rattle.machine_model.specs.Events.{after, forwarders}
use Rattle.machine_model.specs.Events.{agent_rows as held_by_agent}
use Rattle.machine_model.specs.Network.{MachineState, start}
use Rattle.machine_model.specs.Moments.{Each, nodes}
use Rattle.machine_model.specs.Setup.{checked, opening}
use Rattle.machine_laws.specs.Headline.{IsWritten}
use Rattle.machine_moment_laws.specs.Arriving.{GoesOnIn, IsCommonWay, LeadsInCommon, StandsNow, StartsWhereCommon, VerdictsAreOfSome, agent_at_node}
use Rattle.machine_moment_laws.specs.Common.{AccessListsAreOfSome, NothingElseLeads, placed, rows_at}
use Rattle.machine_moment_laws.specs.Windows.{configurations}
use Rattle.machine_moment_laws.proofs.AccessLists.{lists_held}
use Rattle.machine_moment_laws.proofs.Admitting.{ListsStay, verdicts}
use Rattle.machine_moment_laws.proofs.Arriving.{LabelsStay, one_step}
use Rattle.machine_moment_laws.proofs.Here.{Here, stands_among}
use Rattle.machine_moment_laws.proofs.CommonInUse.{slice_had}
use Rattle.machine_moment_laws.proofs.LedAlone.{led_alone}
use Rattle.machine_moment_laws.proofs.Routes.{all_there, rows_there}
use Rattle.machine_moment_laws.proofs.Rows.{labels_above, lists_above}
use Rattle.machine_moment_laws.proofs.OfSome.{AreSomeTo}
use Rattle.machine_moment_laws.proofs.Says.{HoldsTo}
use Rattle.machine_moment_laws.proofs.Starting.{start_common}
use Rattle.machine_moment_laws.proofs.Stood.{HoldStood}
use Rattle.machine_moment_laws.specs.Recovery.{AllIsBack, AtMomentsSince, DeliversAgain, GoesTheWayAgain, Later, rounds_in}
use Rattle.machine_moment_laws.proofs.Depths.{within_way}
use Rattle.machine_moment_laws.proofs.RecoveryMoments.{all_are_written, first_one, others, so_many_rounds_later}
use Rattle.machine_moment_laws.proofs.Wanting.{holds_back, some_back, stood_back}

pub lists_are_of_some : AtMomentsSince (Later 2 AccessListsAreOfSome)
lists_are_of_some size positive x written before asked begins es window form rank =
    let w = after size (after size (start x) before) es in
    let b = first_one size positive x written before asked begins es window form in
    let ds = others size positive x written before asked begins es window form in
    let valid = all_are_written size positive x written before asked begins es window form in
    let r = rounds_in size (after size (start x) before) es in
    let all = so_many_rounds_later size positive x written before asked begins es window form in
    lists_held (b ∷ ds) r rank w (some_back b ds valid size positive r w.sessions all.1)

pub nothing_else_leads : AtMomentsSince (Later 5 NothingElseLeads)
nothing_else_leads size positive x written before asked begins es window form rank n stays =
    let w = after size (after size (start x) before) es in
    let b = first_one size positive x written before asked begins es window form in
    let ds = others size positive x written before asked begins es window form in
    let valid = all_are_written size positive x written before asked begins es window form in
    let r = rounds_in size (after size (start x) before) es in
    let all = so_many_rounds_later size positive x written before asked begins es window form in
    led_alone b ds valid r w.setup w.sessions all.0 (holds_back b ds valid size positive r w.sessions all.1) (some_back b ds valid size positive r w.sessions all.1) (stood_back b ds valid size positive r w.sessions all.1) n stays rank

pub what_is_common_is_back : AtMomentsSince AllIsBack
what_is_common_is_back size positive x written before asked begins es window form most bound rank n stays =
    let w = after size (after size (start x) before) es in
    let b = first_one size positive x written before asked begins es window form in
    let ds = others size positive x written before asked begins es window form in
    let valid = all_are_written size positive x written before asked begins es window form in
    let r = rounds_in size (after size (start x) before) es in
    let all = so_many_rounds_later size positive x written before asked begins es window form in
    rows_there b ds valid r w.setup w.sessions all.0 (holds_back b ds valid size positive r w.sessions all.1) (some_back b ds valid size positive r w.sessions all.1) (stood_back b ds valid size positive r w.sessions all.1) n stays most bound rank

-- labels and access lists are back after two rounds
lists_stay : AtMomentsSince (Later 2 (λ cs w. ListsStay cs w × LabelsStay cs w))
lists_stay size positive x written before asked begins es window form rank =
    let w = after size (after size (start x) before) es in
    let b = first_one size positive x written before asked begins es window form in
    let ds = others size positive x written before asked begins es window form in
    let valid = all_are_written size positive x written before asked begins es window form in
    let r = rounds_in size (after size (start x) before) es in
    let all = so_many_rounds_later size positive x written before asked begins es window form in
    let to = holds_back b ds valid size positive r w.sessions all.1 in
    let some = some_back b ds valid size positive r w.sessions all.1 in
    let st = stood_back b ds valid size positive r w.sessions all.1 in (
      (λ n stays. lists_above (slice (placed (b ∷ ds)) n.address) (slice_in_use (held_by_agent w n.name)) (slice_had b ds valid r w.setup w.sessions all.0 to some st n stays rank)),
      (λ n stays. labels_above (slice (placed (b ∷ ds)) n.address) (slice_in_use (held_by_agent w n.name)) (slice_had b ds valid r w.setup w.sessions all.0 to some st n stays rank)),
    )

stands_now : AtMomentsSince (λ rounds cs w. StandsNow cs w)
stands_now size positive x written before asked begins es window form =
    let w = after size (after size (start x) before) es in
    let b = first_one size positive x written before asked begins es window form in
    let ds = others size positive x written before asked begins es window form in
    let valid = all_are_written size positive x written before asked begins es window form in
    let all = so_many_rounds_later size positive x written before asked begins es window form in
    λ n stays. stands_among b ds valid n stays (checked w.setup) all.0.among

pub starts_again : AtMomentsSince (Later 2 StartsWhereCommon)
starts_again size positive x written before asked begins es window form rank =
    let w = after size (after size (start x) before) es in
    let b = first_one size positive x written before asked begins es window form in
    let ds = others size positive x written before asked begins es window form in
    let valid = all_are_written size positive x written before asked begins es window form in
    let r = rounds_in size (after size (start x) before) es in
    let all = so_many_rounds_later size positive x written before asked begins es window form in
    start_common b ds valid w all.0 r rank (holds_back b ds valid size positive r w.sessions all.1) (some_back b ds valid size positive r w.sessions all.1) (stood_back b ds valid size positive r w.sessions all.1)
    (lists_stay size positive x written before asked begins es window form rank).1

pub verdicts_again : AtMomentsSince (Later 2 VerdictsAreOfSome)
verdicts_again size positive x written before asked begins es window form rank =
    let w = after size (after size (start x) before) es in
    let cs = configurations size (after size (start x) before) es in
    verdicts cs w (stands_now size positive x written before asked begins es window form) (lists_stay size positive x written before asked begins es window form rank).0
    (lists_are_of_some size positive x written before asked begins es window form rank)

five : (k r : ℕ) → k + 5 ≤ r → 5 ≤ r
five k r h = omega (arith, h)

two : (k r : ℕ) → k + 5 ≤ r → 2 ≤ r
two k r h = omega (arith, h)

fewer : (k r : ℕ) → suc k + 5 ≤ r → k + 5 ≤ r
fewer k r h = omega (arith, h)

deep : (d k r : ℕ) → suc d ≤ k → k + 5 ≤ r → 5 + suc d ≤ r
deep d k r g h = omega (arith, g, h)

short : (k most r : ℕ) → k ≤ most → most + 5 ≤ r → k + 5 ≤ r
short k most r g h = omega (arith, g, h)

-- ---- a packet on its way
module _ (b : Checked) (ds : List Checked) (written : (c : Checked) → Member c (b ∷ ds) → IsWritten (opening c)) (w : MachineState) (here : Here b ds written w.setup (map nodes w.sessions)) (r : ℕ) (to : Each (HoldsTo b ds written r) w.sessions) (some : Each (AreSomeTo (b ∷ ds) r) w.sessions) (st : Each (HoldStood (b ∷ ds) b.topology.asn r) w.sessions)
    (among : StandsNow (b ∷ ds) w) (labels : LabelsStay (b ∷ ds) w) (alone : NothingElseLeads (b ∷ ds) w) where
  abbrev cs : List Checked
  cs = b ∷ ds

  -- the first route of a common way is there
  first_route : (n next : Node) (i : InstanceId) (address : ℕ) (services : List ServiceNo) (q : PortNo) (what : Attached) → IsCommonWay cs n i address services q → length services + 5 ≤ r → (h : LeadsInCommon cs n i address next what) → Member h.route (rows_at w n).routes
  first_route n next i address services q what way enough h =
      all_there b ds written r w.setup w.sessions here to some st n h.stays (five (length services) r enough) h.route.0.0 h.route.0.1 h.route.1
      (λ row t. deep t.d (length services) r (within_way b ds written h.route.0.0 h.route.0.1 row t address h.holds n services q (subst (λ (i : InstanceId). IsCommonWay cs n i address services q) (sym h.instance) way)) enough)
      h.is_route h.in_hand

  first_step : (n next : Node) (i : InstanceId) (address : ℕ) (services : List ServiceNo) (q : PortNo) (what : Attached) (left : ℕ) (before : List ServiceNo) → IsCommonWay cs n i address services q → length services + 5 ≤ r → LeadsInCommon cs n i address next what
      → walk (forwarders w) address (suc left) (agent_at_node w n) before i ≡ visited (walk (forwarders w) address left (agent_at_node w next)) before (Some what)
  first_step n next i address services q what left before way enough h =
      one_step cs w here.is_written among labels alone n next i address what left before h (first_route n next i address services q what way enough h)

  go_way : GoesTheWayAgain r cs w
  go_way n i address services q way enough zero before few = absurd (omega arith)
  go_way n i address [] q way enough (suc left) before few =
      first_step n way.0 i address [] q (Port q way.1) left before way enough way.2 ∙ ap (Delivered q) (sym (append-nil before))
  go_way n i address (s ∷ services) q way enough (suc left) before few =
      first_step n way.0 i address (s ∷ services) q (Circuit way.1 s) left before way enough way.2
      ∙ go_way way.0 (circuit_instance_of (other_side_of way.1)) address services q way.3 (fewer (length services) r enough) left (before ++ s ∷ []) (omega arith)
      ∙ ap (Delivered q) (append_assoc before (s ∷ []) services)

pub go_the_way_again : AtMomentsSince GoesTheWayAgain
go_the_way_again size positive x written before asked begins es window form n i address services q way enough left gone few =
    let w = after size (after size (start x) before) es in
    let b = first_one size positive x written before asked begins es window form in
    let ds = others size positive x written before asked begins es window form in
    let valid = all_are_written size positive x written before asked begins es window form in
    let r = rounds_in size (after size (start x) before) es in
    let all = so_many_rounds_later size positive x written before asked begins es window form in
    go_way b ds valid w all.0 r (holds_back b ds valid size positive r w.sessions all.1) (some_back b ds valid size positive r w.sessions all.1) (stood_back b ds valid size positive r w.sessions all.1)
    (stands_now size positive x written before asked begins es window form)
    (lists_stay size positive x written before asked begins es window form (two (length services) r enough)).1
    (nothing_else_leads size positive x written before asked begins es window form (five (length services) r enough))
    n i address services q way enough left gone few

-- a verdict by which a packet goes on in an instance lets it be looked up there
goes_on : (agents : List Forwarder) (d : ℕ) (f : Forwarder) (from i : InstanceId) (v : Verdict) → GoesOnIn from v i → admitted agents d f from v ≡ walk agents d 64 f [] i
goes_on agents d f from i Says.Pass h = ap (walk agents d 64 f []) (sym h)
goes_on agents d f from i (Says.Enter j) h = ap (walk agents d 64 f []) (sym h)
goes_on agents d f from i (Says.Denied rule) h = absurd h
goes_on agents d f from i Says.NoDestination h = absurd h

pub delivered_again : AtMomentsSince DeliversAgain
unfolding forwarding
delivered_again size positive x written before asked begins es window form n from to p q at h most short_ways enough =
    let w = after size (after size (start x) before) es in
    let r = rounds_in size (after size (start x) before) es in
    let v = verdicts_again size positive x written before asked begins es window form (two most r enough) n p from.0 to h.heads in
    let led = h.ways v.config v.subnets v.rules v.among v.has_list in
    let f : Forwarder = agent_at_node w n in
    let d : ℕ = p.destination.0 in
    record {
      config = v.config;
      among = v.among;
      subnets = v.subnets;
      rules = v.rules;
      has_list = v.has_list;
      led = led;
      delivered =
          ap (departed (forwarders w) p) (starts_again size positive x written before asked begins es window form (two most r enough) n from p at)
          ∙ ap (admitted (forwarders w) d f from) v.says
          ∙ goes_on (forwarders w) d f from led.instance (verdict_in from.0 p.tuple (Some (record { to = to; rules = v.rules }))) led.goes_on
          ∙ go_the_way_again size positive x written before asked begins es window form n led.instance d led.services q led.way
          (short (length led.services) most r (short_ways v.config v.subnets v.rules v.among v.has_list) enough) 64 [] led.few;
    }
