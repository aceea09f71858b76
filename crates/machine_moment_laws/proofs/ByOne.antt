-- A packet that each configuration of a window leads along a common way is delivered by the way of one of them.
use Rattle.std.specs.Prelude.{◌≡◌, ℕ, List, []}
use Rattle.std.specs.declared.option.Option.TheVariants.{Some}
use Rattle.std.proofs.Common.{ap, sym, ◌∙◌}
use Rattle.ov_types.specs.Access.{verdict_in}
use Rattle.ov_types.specs.declared.numbers.InstanceId.{InstanceId}
use Rattle.ov_types.specs.declared.verdict.Verdict.{Verdict}
use Rattle.ov_types.specs.declared.verdict.Verdict.TheVariants as Says
use Rattle.route_targets.specs.Forwarding.{Forwarder, admitted, departed, forwarding, walk}
use Rattle.schedule_script.specs.ConfigCheck.Checked.{Checked}
use Rattle.machine_model.specs.Events.{after, forwarders}
use Rattle.machine_model.specs.Network.{MachineState, start}
use Rattle.machine_moment_laws.specs.Arriving.{DeliversByOne, GoesOnIn, GoesTheCommonWay, StartsWhereCommon, VerdictsAreOfSome, agent_at_node}
use Rattle.machine_moment_laws.specs.Windows.{AtMomentsOfWindows, configurations}
use Rattle.machine_moment_laws.proofs.Admitting.{verdicts_are_of_some}
use Rattle.machine_moment_laws.proofs.Arriving.{go_the_common_way}
use Rattle.machine_moment_laws.proofs.Starting.{start_where_common}

-- a verdict by which a packet goes on in an instance lets it be looked up there
goes_on : (agents : List Forwarder) (d : ℕ) (f : Forwarder) (from i : InstanceId) (v : Verdict) → GoesOnIn from v i → admitted agents d f from v ≡ walk agents d 64 f [] i
goes_on agents d f from i Says.Pass h = ap (walk agents d 64 f []) (sym h)
goes_on agents d f from i (Says.Enter j) h = ap (walk agents d 64 f []) (sym h)
goes_on agents d f from i (Says.Denied rule) h = absurd h
goes_on agents d f from i Says.NoDestination h = absurd h

pub by_one : (cs : List Checked) (w : MachineState) → GoesTheCommonWay cs w → VerdictsAreOfSome cs w → StartsWhereCommon cs w → DeliversByOne cs w
unfolding forwarding
by_one cs w goes verdicts starts n from to p q at h =
    let v = verdicts n p from.0 to h.heads in
    let led = h.ways v.config v.subnets v.rules v.among v.has_list in
    let f : Forwarder = agent_at_node w n in
    let d : ℕ = p.destination.0 in
    record {
      config = v.config;
      among = v.among;
      subnets = v.subnets;
      rules = v.rules;
      has_list = v.has_list;
      led = led;
      delivered =
          ap (departed (forwarders w) p) (starts n from p at)
          ∙ ap (admitted (forwarders w) d f from) v.says
          ∙ goes_on (forwarders w) d f from led.instance (verdict_in from.0 p.tuple (Some (record { to = to; rules = v.rules }))) led.goes_on
          ∙ goes n led.instance d led.services q led.way 64 [] led.few;
    }

pub delivered_by_one : AtMomentsOfWindows DeliversByOne
delivered_by_one size positive x written before asked begins es window form =
    let w = after size (after size (start x) before) es in
    let cs = configurations size (after size (start x) before) es in
    by_one cs w (go_the_common_way size positive x written before asked begins es window form)
    (verdicts_are_of_some size positive x written before asked begins es window form)
    (start_where_common size positive x written before asked begins es window form)
