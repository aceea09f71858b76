-- Which things of lines have names of the form of names, and numbers of the sizes that their types have.
use Rattle.std.specs.Prelude.{ℕ, ◌&&◌, ◌^◌, List, Bool, true, Option, Some, None, nat_le, nat_lt}
use Rattle.std.specs.List.{list_all}
use Rattle.ov_types.specs.Name.{is_name}
use Rattle.ov_types.specs.declared.packet.Range16.{Range16}
use Rattle.ov_types.specs.declared.packet.RuleNo.{RuleNo}
use Rattle.ov_types.specs.declared.packet.Outcome.{Outcome}
use Rattle.ov_types.specs.declared.packet.Outcome.TheVariants as Comes
use Rattle.ov_types.specs.declared.packet.Why.{Why}
use Rattle.ov_types.specs.declared.packet.Why.TheVariants as Reason
use Rattle.ov_types.specs.declared.numbers.PortNo.{PortNo}
use Rattle.ov_types.specs.declared.numbers.ServiceNo.{ServiceNo}
use Rattle.policy_regions.specs.declared.region.Region.{Region}
use Rattle.inspect_changes.specs.declared.fate.Difference.{Difference}
use Rattle.inspect_changes.specs.declared.fate.Fate.{Fate}
use Rattle.inspect_changes.specs.declared.fate.Fate.TheVariants.{Passed, Through, Denied, Unmatched}
use Rattle.inspect_changes.specs.declared.objects.Object.{Object}
use Rattle.inspect_changes.specs.declared.objects.Object.TheVariants as Is
use Rattle.inspect_changes.specs.declared.way.Way.{Way}
use Rattle.inspect_rules.specs.declared.idle.Idle.{Idle}
use Rattle.inspect_rules.specs.declared.idle.Idle.TheVariants.{Rule, Policy, Chain}
use Rattle.inspect_rules.specs.declared.cause.Cause.{Cause}
use Rattle.inspect_rules.specs.declared.cause.Cause.TheVariants as Of
use Rattle.inspect_walks.specs.Sizes.{has_name_size}
use Rattle.inspect_json.specs.Values.{passage_services}

abbrev pub has_range_size : Range16 → Bool
has_range_size r = nat_le r.lo 65535 && nat_le r.hi 65535

abbrev pub has_region_size : Region → Bool
has_region_size r = has_range_size r.protocols && has_range_size r.source_ports && has_range_size r.destination_ports

abbrev pub has_rule_size : RuleNo → Bool
has_rule_size rule = nat_le rule.sequence 65535 && nat_le rule.position 65535

abbrev pub has_service_size : ServiceNo → Bool
has_service_size s = nat_le s.0 65535

abbrev pub has_way_size : Way → Bool
has_way_size w = has_region_size w.region && has_rule_size w.decision.rule && list_all has_service_size (passage_services w.passage)

abbrev pub has_fate_size : Fate → Bool
has_fate_size (Passed rule) = has_rule_size rule
has_fate_size (Through rule services) = has_rule_size rule && list_all has_service_size services
has_fate_size (Denied rule) = has_rule_size rule
has_fate_size Unmatched = true

abbrev pub has_difference_size : Difference → Bool
has_difference_size x = is_name x.from && is_name x.to && has_region_size x.region && has_fate_size x.was && has_fate_size x.becomes

abbrev pub has_object_size : Object → Bool
has_object_size (Is.Network name) = is_name name
has_object_size (Is.Subnet network prefix) = is_name network && nat_le prefix.len 255
has_object_size (Is.Port number network address node) = nat_le number.0 0xffff_ffff && is_name network && is_name node
has_object_size (Is.Service number node) = nat_le number.0 65535 && is_name node

abbrev pub has_idle_size : Idle → Bool
has_idle_size (Rule rule before) = has_rule_size rule && list_all has_rule_size before
has_idle_size (Policy name networks) = is_name name && nat_lt networks (2 ^ 64)
has_idle_size (Chain name) = is_name name

abbrev pub has_delivery_size : PortNo → List ServiceNo → Bool
has_delivery_size port services = nat_le port.0 0xffff_ffff && list_all has_service_size services

abbrev pub has_denier_size : Option RuleNo → Bool
has_denier_size None = true
has_denier_size (Some rule) = has_rule_size rule

abbrev pub has_why_size : Why → Bool
has_why_size (Reason.Denied rule) = has_denier_size rule
has_why_size _ = true

abbrev pub has_outcome_size : Outcome → Bool
has_outcome_size (Comes.Delivered port services) = has_delivery_size port services
has_outcome_size (Comes.Dropped why) = has_why_size why

abbrev pub has_cause_size : Cause → Bool
has_cause_size (Of.From network) = is_name network
has_cause_size (Of.To network) = is_name network
has_cause_size (Of.Skipped rule policy forwards mirrored) = has_rule_size rule && has_name_size policy
has_cause_size (Of.Decided rule policy mirrored) = has_rule_size rule && has_name_size policy
has_cause_size (Of.Attached network policy) = is_name network && is_name policy
has_cause_size (Of.Unrelated network) = is_name network
