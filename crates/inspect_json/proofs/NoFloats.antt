-- No value of a line has a float.
use Rattle.std.proofs.Common.{◌≡◌, false, ℕ, List, [], ◌∷◌, map, refl, Option, Some, None}
use Rattle.serde_json.specs.Data.{Data}
use Rattle.serde_json.specs.View.{items_of}
use Rattle.serde_json.specs.Written.{has_float, items_have_float}
use Rattle.ov_types.specs.declared.numbers.ServiceNo.{ServiceNo}
use Rattle.ov_types.specs.declared.packet.RuleNo.{RuleNo}
use Rattle.ov_types.specs.declared.packet.Outcome.{Outcome}
use Rattle.ov_types.specs.declared.packet.Outcome.TheVariants as Comes
use Rattle.ov_types.specs.declared.packet.Why.{Why}
use Rattle.ov_types.specs.declared.packet.Why.TheVariants as Reason
use Rattle.ov_types.specs.declared.numbers.PortNo.{PortNo}
use Rattle.config_types.specs.declared.config.Config.{Config}
use Rattle.inspect_changes.specs.declared.fate.Difference.{Difference}
use Rattle.inspect_changes.specs.declared.fate.Fate.{Fate}
use Rattle.inspect_changes.specs.declared.fate.Fate.TheVariants.{Passed, Through, Denied, Unmatched}
use Rattle.inspect_changes.specs.declared.objects.Object.{Object}
use Rattle.inspect_changes.specs.declared.objects.Object.TheVariants as Is
use Rattle.inspect_changes.specs.declared.way.Way.{Way}
use Rattle.inspect_rules.specs.declared.idle.Idle.{Idle}
use Rattle.inspect_rules.specs.declared.idle.Idle.TheVariants as Idles
use Rattle.inspect_json.specs.IdleValues.{idle_chain_value, idle_policy_value, idle_rule_value, idle_value}
use Rattle.inspect_json.specs.ChangeValues.{came_value, difference_value, fate_rule, fate_services, fate_value, network_value, object_value, port_name, port_value, service_object_value, subnet_value, went_value}
use Rattle.inspect_json.specs.OutcomeValues.{delivered_value, denier_value, dropped_value, outcome_value, port_number_value, to_drop_value, to_drop_why_value, why_rule}
use Rattle.inspect_rules.specs.declared.cause.Cause.{Cause}
use Rattle.inspect_rules.specs.declared.cause.Cause.TheVariants as Of
use Rattle.inspect_rules.specs.declared.cause.Condition.{Condition}
use Rattle.inspect_json.specs.ReasonValues.{attached_value, cause_value, decided_value, explained_value, mirrored_value, near_value, placed_value, skipped_value}
use Rattle.ov_types.specs.Prefix.{Block}
use Rattle.ov_types.specs.declared.rows.Entry.{Entry}
use Rattle.inspect_walks.specs.declared.told_step.LeadsTo.{LeadsTo}
use Rattle.inspect_walks.specs.declared.told_step.LeadsTo.TheVariants as To
use Rattle.inspect_walks.specs.declared.told_step.Owner.{Owner}
use Rattle.inspect_walks.specs.declared.told_step.Owner.TheVariants as Walked
use Rattle.inspect_walks.specs.declared.told_step.ToldStep.{ToldStep}
use Rattle.inspect_json.specs.WalkValues.{end_value, entry_value, hop_value, leads_value, owner_value, row_value, step_value}
use Rattle.inspect_json.specs.Values.{name_value, passage_services, policy_name, rule_value, service_name, service_value, way_value}

lists : {A : Type 0} (value : A → Data) → ((x : A) → has_float (value x) ≡ false) → (xs : List A) → items_have_float (items_of (map value xs)) ≡ false
lists value each [] = refl
lists value each (x ∷ xs) = rw (each x, lists value each xs) refl

names : (name : Option (List ℕ)) → has_float (name_value name) ≡ false
names None = refl
names (Some name) = refl

rule : (c : Config) (r : RuleNo) → has_float (rule_value c r) ≡ false
unfolding rule_value
rule c r = rw (names (policy_name c r.sequence)) refl

service : (c : Config) (s : ServiceNo) → has_float (service_value c s) ≡ false
unfolding service_value
service c s = rw (names (service_name c s.0)) refl

pub way : (c : Config) (from to : List ℕ) (w : Way) → has_float (way_value c from to w) ≡ false
unfolding way_value
way c from to w = rw (rule c w.decision.rule, lists (service_value c) (service c) (passage_services w.passage)) refl

went_object : (c : Config) (o : Object) → has_float (object_value c o) ≡ false
unfolding network_value subnet_value port_value service_object_value
went_object c (Is.Network name) = refl
went_object c (Is.Subnet network prefix) = refl
went_object c (Is.Port number network address node) = rw (names (port_name c number.0)) refl
went_object c (Is.Service number node) = rw (names (service_name c number.0)) refl

pub went : (c : Config) (o : Object) → has_float (went_value c o) ≡ false
unfolding went_value
went c o = rw (went_object c o) refl

pub came : (c : Config) (o : Object) → has_float (came_value c o) ≡ false
unfolding came_value
came c o = rw (went_object c o) refl

fate_rules : (c : Config) (f : Fate) → has_float (fate_rule c f) ≡ false
fate_rules c (Passed r) = rule c r
fate_rules c (Through r services) = rule c r
fate_rules c (Denied r) = rule c r
fate_rules c Unmatched = refl

fate : (c : Config) (f : Fate) → has_float (fate_value c f) ≡ false
unfolding fate_value
fate c f = rw (fate_rules c f, lists (service_value c) (service c) (fate_services f)) refl

pub difference : (c d : Config) (x : Difference) → has_float (difference_value c d x) ≡ false
unfolding difference_value
difference c d x = rw (fate d x.becomes, fate c x.was) refl

pub idle : (c : Config) (x : Idle) → has_float (idle_value c x) ≡ false
unfolding idle_rule_value idle_policy_value idle_chain_value
idle c (Idles.Rule r before) = rw (lists (rule_value c) (rule c) before, rule c r) refl
idle c (Idles.Policy name networks) = refl
idle c (Idles.Chain name) = refl

pub port_number : (c : Config) (port : PortNo) → has_float (port_number_value c port) ≡ false
unfolding port_number_value
port_number c port = rw (names (port_name c port.0)) refl

pub delivered : (c : Config) (port : PortNo) (services : List ServiceNo) → has_float (delivered_value c port services) ≡ false
unfolding delivered_value
delivered c port services = rw (port_number c port, lists (service_value c) (service c) services) refl

deniers : (c : Config) (o : Option RuleNo) → has_float (denier_value c o) ≡ false
deniers c None = refl
deniers c (Some r) = rule c r

why_rules : (c : Config) (w : Why) → has_float (why_rule c w) ≡ false
why_rules c Reason.NoSourcePort = refl
why_rules c Reason.NoDestination = refl
why_rules c Reason.NoRoute = refl
why_rules c (Reason.Denied o) = deniers c o
why_rules c Reason.NoLabel = refl
why_rules c Reason.TtlExpired = refl

pub outcome : (c : Config) (o : Outcome) → has_float (outcome_value c o) ≡ false
unfolding dropped_value
outcome c (Comes.Delivered port services) = delivered c port services
outcome c (Comes.Dropped why) = rw (why_rules c why) refl

pub to_drop : has_float to_drop_value ≡ false
unfolding to_drop_value
to_drop = refl

pub to_drop_why : (why : List ℕ) → has_float (to_drop_why_value why) ≡ false
unfolding to_drop_why_value
to_drop_why why = refl

placed : (r : RuleNo) (policy : Option (List ℕ)) → has_float (placed_value r policy) ≡ false
unfolding placed_value
placed r policy = rw (names policy) refl

mirrored_none : (m : Option Condition) → has_float (mirrored_value m) ≡ false
mirrored_none None = refl
mirrored_none (Some condition) = refl

cause : (x : Cause) → has_float (cause_value x) ≡ false
unfolding near_value skipped_value decided_value attached_value
cause (Of.From network) = refl
cause (Of.To network) = refl
cause (Of.Skipped r policy forwards mirrored) = rw (mirrored_none mirrored, placed r policy) refl
cause (Of.Decided r policy mirrored) = rw (placed r policy) refl
cause (Of.Attached network policy) = refl
cause (Of.Unrelated network) = refl

owner : (o : Owner) → has_float (owner_value o) ≡ false
unfolding network_value hop_value
owner (Walked.Network name) = refl
owner (Walked.Hop h) = refl
owner Walked.Nothing = refl

row : (r : Option (Block × Entry)) → has_float (row_value r) ≡ false
unfolding entry_value
row None = refl
row (Some r) = refl

leads : (l : LeadsTo) → has_float (leads_value l) ≡ false
unfolding end_value
leads (To.Port port name) = rw (names name) refl
leads (To.Service service name) = rw (names name) refl
leads To.Nothing = refl

step : (s : ToldStep) → has_float (step_value s) ≡ false
unfolding step_value
step s = rw (names s.agent, owner s.owner, row s.row, leads s.leads) refl

pub explained : (c : Config) (n : ℕ) (o : Outcome) (xs : List Cause) (walk : List ToldStep) → has_float (explained_value c n o xs walk) ≡ false
unfolding explained_value
explained c n o xs walk = rw (lists cause_value cause xs, outcome c o, lists step_value step walk) refl
