-- The value of a line is fit, so that its text reads as it.
use Rattle.std.proofs.Common.{◌≡◌, ℕ, zero, suc, ◌<◌, ◌^◌, ◌/◌, ◌%◌, ◌==◌, ◌&&◌, Bool, true, false, cond, IsTrue, List, [], ◌∷◌, map, nat_le, nat_lt, decimal, Option, Some, None, IsUtf8, codes, refl, arith}
use Rattle.std.specs.Prelude.{find, option_map}
use Rattle.std.specs.List.{list_all}
use Rattle.std.proofs.lemmas.Bool.{and_parts, leb-true, ltb-true}
use Rattle.std.proofs.lemmas.Fmt.{IsAscii-decimal}
use Rattle.std.proofs.lemmas.Str.{IsUtf8-append, IsUtf8-from_ascii}
use Rattle.json.proofs.Printed.Utf8.{are_ascii, IsUtf8-are_ascii}
use Rattle.serde_json.specs.Data.{Data}
use Rattle.serde_json.specs.View.{items_of}
use Rattle.ov_types.specs.Name.{is_name}
use Rattle.ov_types.specs.Prefix.{Block}
use Rattle.ov_types.specs.Texts.{address_text, prefix_text}
use Rattle.ov_types.proofs.Names.{name_is_utf8}
use Rattle.ov_types.specs.declared.numbers.ServiceNo.{ServiceNo}
use Rattle.ov_types.specs.declared.packet.Range16.{Range16}
use Rattle.ov_types.specs.declared.packet.RuleNo.{RuleNo}
use Rattle.ov_types.specs.declared.packet.Outcome.{Outcome}
use Rattle.ov_types.specs.declared.packet.Outcome.TheVariants as Comes
use Rattle.ov_types.specs.declared.packet.Why.{Why}
use Rattle.ov_types.specs.declared.packet.Why.TheVariants as Reason
use Rattle.ov_types.specs.declared.numbers.PortNo.{PortNo}
use Rattle.config_types.specs.Form.{has_chain_form, has_config_form, has_network_form, has_policy_form, has_port_form, has_rule_form, has_service_form}
use Rattle.config_types.specs.declared.config.Config.{Config}
use Rattle.config_types.specs.declared.config.Policy.{Policy}
use Rattle.config_types.specs.declared.config.Port.{Port}
use Rattle.config_types.specs.declared.config.Service.{Service}
use Rattle.inspect_changes.specs.declared.fate.Difference.{Difference}
use Rattle.inspect_changes.specs.declared.fate.Fate.{Fate}
use Rattle.inspect_changes.specs.declared.fate.Fate.TheVariants.{Passed, Denied, Unmatched}
use Rattle.inspect_changes.specs.declared.fate.Fate.TheVariants as Fates
use Rattle.inspect_changes.specs.declared.objects.Object.{Object}
use Rattle.inspect_changes.specs.declared.objects.Object.TheVariants as Is
use Rattle.inspect_changes.specs.declared.way.Passage.{Passage}
use Rattle.inspect_changes.specs.declared.way.Passage.TheVariants.{Straight, Through}
use Rattle.inspect_changes.specs.declared.way.Way.{Way}
use Rattle.inspect_rules.specs.declared.idle.Idle.{Idle}
use Rattle.inspect_rules.specs.declared.idle.Idle.TheVariants as Idles
use Rattle.inspect_json.specs.IdleValues.{idle_chain_value, idle_policy_value, idle_rule_value, idle_value}
use Rattle.inspect_json.specs.ChangeValues.{came_value, difference_value, fate_rule, fate_services, fate_value, fate_word, network_value, object_value, port_value, service_object_value, subnet_value, went_value}
use Rattle.inspect_json.specs.Form.{IsReadBack}
use Rattle.inspect_json.specs.Sizes.{has_delivery_size, has_denier_size, has_difference_size, has_fate_size, has_idle_size, has_object_size, has_outcome_size, has_range_size, has_region_size, has_rule_size, has_service_size, has_way_size, has_why_size}
use Rattle.inspect_json.specs.OutcomeValues.{delivered_value, denier_value, dropped_value, outcome_value, port_number_value, to_drop_value, to_drop_why_value, why_rule, why_word}
use Rattle.inspect_json.specs.Values.{list_value, name_value, passage_services, passage_word, policy_name, range_value, rule_value, service_name, service_value, way_value}
use Rattle.inspect_json.proofs.Fit.{AreFit, IsFit, is_read_back}

pub word : (s : List ℕ) → are_ascii s ≡ true → IsUtf8 s
word s h = IsUtf8-are_ascii s h

pub small : (n : ℕ) → nat_le n 65535 ≡ true → n < 2 ^ 64
small n h = omega (arith, leb-true n 65535 h)

range : (k : ℕ) (r : Range16) → has_range_size r ≡ true → IsFit (suc k) (range_value r)
range k r h =
    let p = and_parts (nat_le r.lo 65535) (nat_le r.hi 65535) h in
    (small r.lo p.0, (small r.hi p.1, tt))

pub lists : {A : Type 0} (k : ℕ) (value : A → Data) (has_size : A → Bool) → ((x : A) → has_size x ≡ true → IsFit k (value x)) → (xs : List A)
    → list_all has_size xs ≡ true → AreFit k (items_of (map value xs))
lists k value has_size each [] h = tt
lists k value has_size each (x ∷ xs) h =
    let p = and_parts (has_size x) (list_all has_size xs) h in
    (each x p.0, lists k value has_size each xs p.1)

-- the parts of a configuration's form

policies_form : (c : Config) → has_config_form c ≡ true → list_all has_policy_form c.policies ≡ true
unfolding has_config_form
policies_form c h =
    let a = and_parts (list_all has_network_form c.networks && list_all has_port_form c.ports && list_all has_policy_form c.policies
    && list_all has_service_form c.services) (list_all has_chain_form c.chains) h in
    let b = and_parts (list_all has_network_form c.networks && list_all has_port_form c.ports && list_all has_policy_form c.policies)
    (list_all has_service_form c.services) a.0 in
    (and_parts (list_all has_network_form c.networks && list_all has_port_form c.ports) (list_all has_policy_form c.policies) b.0).1

services_form : (c : Config) → has_config_form c ≡ true → list_all has_service_form c.services ≡ true
unfolding has_config_form
services_form c h =
    let a = and_parts (list_all has_network_form c.networks && list_all has_port_form c.ports && list_all has_policy_form c.policies
    && list_all has_service_form c.services) (list_all has_chain_form c.chains) h in
    (and_parts (list_all has_network_form c.networks && list_all has_port_form c.ports && list_all has_policy_form c.policies)
    (list_all has_service_form c.services) a.0).1

policy_name_form : (p : Policy) → has_policy_form p ≡ true → IsUtf8 p.name
unfolding has_policy_form
policy_name_form p h =
    let a = and_parts (is_name p.name && nat_le p.sequence 65535) (list_all has_rule_form p.rules) h in
    name_is_utf8 p.name (and_parts (is_name p.name) (nat_le p.sequence 65535) a.0).0

service_name_form : (s : Service) → has_service_form s ≡ true → IsUtf8 s.name
unfolding has_service_form
service_name_form s h =
    let a = and_parts (is_name s.name && nat_le s.id.0 65535) (is_name s.node) h in
    name_is_utf8 s.name (and_parts (is_name s.name) (nat_le s.id.0 65535) a.0).0

-- the name of what is found among things that have this form
found_name : {A : Type 0} (k : ℕ) (is_it has_form : A → Bool) (name : A → List ℕ) → ((x : A) → has_form x ≡ true → IsUtf8 (name x)) → (xs : List A)
    → list_all has_form xs ≡ true → IsFit k (name_value (option_map name (find is_it xs)))
found_name k is_it has_form name each [] h = tt
found_name k is_it has_form name each (x ∷ xs) h =
    let p = and_parts (has_form x) (list_all has_form xs) h in
    elim (is_it x) as (λ q. IsFit k (name_value (option_map name (cond q (Some x) (find is_it xs))))) [
      | true ↦ each x p.0
      | false ↦ found_name k is_it has_form name each xs p.1
    ]

rule : (k : ℕ) (c : Config) (r : RuleNo) → has_config_form c ≡ true → has_rule_size r ≡ true → IsFit (suc k) (rule_value c r)
unfolding rule_value
rule k c r form h =
    let p = and_parts (nat_le r.sequence 65535) (nat_le r.position 65535) h in (
      (
        word (codes "policy") refl,
        found_name k (λ (p : Policy). p.sequence == r.sequence) has_policy_form (λ (p : Policy). p.name) policy_name_form c.policies (policies_form c form),
        (word (codes "position") refl, small r.position p.1, (word (codes "sequence") refl, small r.sequence p.0, tt)),
      ),
      refl,
    )

service : (k : ℕ) (c : Config) → has_config_form c ≡ true → (s : ServiceNo) → has_service_size s ≡ true → IsFit (suc k) (service_value c s)
unfolding service_value
service k c form s h = (
  (
    word (codes "id") refl,
    small s.0 h,
    (word (codes "name") refl, found_name k (λ (t : Service). t.id.0 == s.0) has_service_form (λ (t : Service). t.name) service_name_form c.services (services_form c form), tt),
  ),
  refl,
)

passage : (p : Passage) → IsUtf8 (passage_word p)
passage Straight = word (codes "passed") refl
passage (Through services) = word (codes "through") refl

way : (c : Config) (from to : List ℕ) (w : Way) → has_config_form c ≡ true → is_name from ≡ true → is_name to ≡ true → has_way_size w ≡ true
    → IsFit 3 (way_value c from to w)
unfolding way_value
way c from to w form named_from named_to h =
    let a = and_parts (has_region_size w.region && has_rule_size w.decision.rule) (list_all has_service_size (passage_services w.passage)) h in
    let b = and_parts (has_region_size w.region) (has_rule_size w.decision.rule) a.0 in
    let r = and_parts (has_range_size w.region.protocols && has_range_size w.region.source_ports) (has_range_size w.region.destination_ports) b.0 in
    let s = and_parts (has_range_size w.region.protocols) (has_range_size w.region.source_ports) r.0 in (
      (
        word (codes "destination_ports") refl,
        range 1 w.region.destination_ports r.1,
        (
          word (codes "fate") refl,
          passage w.passage,
          (
            word (codes "from") refl,
            name_is_utf8 from named_from,
            (
              word (codes "protocols") refl,
              range 1 w.region.protocols s.0,
              (
                word (codes "rule") refl,
                rule 1 c w.decision.rule form b.1,
                (
                  word (codes "services") refl,
                  lists 1 (service_value c) has_service_size (service 0 c form) (passage_services w.passage) a.1,
                  (
                    word (codes "source_ports") refl,
                    range 1 w.region.source_ports s.1,
                    (word (codes "to") refl, name_is_utf8 to named_to, tt),
                  ),
                ),
              ),
            ),
          ),
        ),
      ),
      refl,
    )

pub way_reads : (c : Config) (from to : List ℕ) (w : Way) → IsTrue (has_config_form c) → IsTrue (is_name from) → IsTrue (is_name to) → IsTrue (has_way_size w)
    → IsReadBack (way_value c from to w)
way_reads c from to w form named_from named_to h = is_read_back 3 (way_value c from to w) (way c from to w form named_from named_to h) (omega arith)

-- what differs

port_name_form : (p : Port) → has_port_form p ≡ true → IsUtf8 p.name
unfolding has_port_form
port_name_form p h =
    let a = and_parts (is_name p.name && nat_le p.id.0 524271 && is_name p.network && nat_le p.address.0 0xffff_ffff) (is_name p.node) h in
    let b = and_parts (is_name p.name && nat_le p.id.0 524271 && is_name p.network) (nat_le p.address.0 0xffff_ffff) a.0 in
    let d = and_parts (is_name p.name && nat_le p.id.0 524271) (is_name p.network) b.0 in
    name_is_utf8 p.name (and_parts (is_name p.name) (nat_le p.id.0 524271) d.0).0

ports_form : (c : Config) → has_config_form c ≡ true → list_all has_port_form c.ports ≡ true
unfolding has_config_form
ports_form c h =
    let a = and_parts (list_all has_network_form c.networks && list_all has_port_form c.ports && list_all has_policy_form c.policies
    && list_all has_service_form c.services) (list_all has_chain_form c.chains) h in
    let b = and_parts (list_all has_network_form c.networks && list_all has_port_form c.ports && list_all has_policy_form c.policies)
    (list_all has_service_form c.services) a.0 in
    let d = and_parts (list_all has_network_form c.networks && list_all has_port_form c.ports) (list_all has_policy_form c.policies) b.0 in
    (and_parts (list_all has_network_form c.networks) (list_all has_port_form c.ports) d.0).1

digits : (n : ℕ) → n < 2 ^ 64 → IsUtf8 (decimal n)
digits n h = IsUtf8-from_ascii (decimal n) (IsAscii-decimal n h)

pub address : (n : ℕ) → IsUtf8 (address_text n)
address n =
    IsUtf8-append _ _ (digits (n / 16777216 % 256) (omega arith)) (IsUtf8-append _ _ (word (codes ".") refl)
    (IsUtf8-append _ _ (digits (n / 65536 % 256) (omega arith)) (IsUtf8-append _ _ (word (codes ".") refl)
    (IsUtf8-append _ _ (digits (n / 256 % 256) (omega arith)) (IsUtf8-append _ _ (word (codes ".") refl) (digits (n % 256) (omega arith)))))))

pub prefix : (b : Block) → nat_le b.len 255 ≡ true → IsUtf8 (prefix_text b)
prefix b h = IsUtf8-append _ _ (address b.addr) (IsUtf8-append _ _ (word (codes "/") refl) (digits b.len (omega (arith, leb-true b.len 255 h))))

pub network : (k : ℕ) (name : List ℕ) → is_name name ≡ true → IsFit (suc k) (network_value name)
unfolding network_value
network k name h = ((word (codes "kind") refl, word (codes "network") refl, (word (codes "name") refl, name_is_utf8 name h, tt)), refl)

subnet : (k : ℕ) (name text : List ℕ) → is_name name ≡ true → IsUtf8 text → IsFit (suc k) (subnet_value name text)
unfolding subnet_value
subnet k name text h fit =
    ((word (codes "kind") refl, word (codes "subnet") refl, (word (codes "network") refl, name_is_utf8 name h, (word (codes "prefix") refl, fit, tt))), refl)

port : (k : ℕ) (c : Config) (number : ℕ) (network place node : List ℕ) → has_config_form c ≡ true → nat_le number 0xffff_ffff ≡ true → is_name network ≡ true
    → IsUtf8 place → is_name node ≡ true → IsFit (suc k) (port_value c number network place node)
unfolding port_value
port k c number network place node form h in_network fit on_node = (
  (
    word (codes "address") refl,
    fit,
    (
      word (codes "id") refl,
      omega (arith, leb-true number 0xffff_ffff h),
      (
        word (codes "kind") refl,
        word (codes "port") refl,
        (
          word (codes "name") refl,
          found_name k (λ (p : Port). p.id.0 == number) has_port_form (λ (p : Port). p.name) port_name_form c.ports (ports_form c form),
          (
            word (codes "network") refl,
            name_is_utf8 network in_network,
            (word (codes "node") refl, name_is_utf8 node on_node, tt),
          ),
        ),
      ),
    ),
  ),
  refl,
)

service_object : (k : ℕ) (c : Config) (number : ℕ) (node : List ℕ) → has_config_form c ≡ true → nat_le number 65535 ≡ true → is_name node ≡ true
    → IsFit (suc k) (service_object_value c number node)
unfolding service_object_value
service_object k c number node form h on_node = (
  (
    word (codes "id") refl,
    small number h,
    (
      word (codes "kind") refl,
      word (codes "service") refl,
      (
        word (codes "name") refl,
        found_name k (λ (s : Service). s.id.0 == number) has_service_form (λ (s : Service). s.name) service_name_form c.services (services_form c form),
        (word (codes "node") refl, name_is_utf8 node on_node, tt),
      ),
    ),
  ),
  refl,
)

object : (k : ℕ) (c : Config) (o : Object) → has_config_form c ≡ true → has_object_size o ≡ true → IsFit (suc k) (object_value c o)
object k c (Is.Network name) form h = network k name h
object k c (Is.Subnet name block) form h =
    let p = and_parts (is_name name) (nat_le block.len 255) h in
    subnet k name (prefix_text block) p.0 (prefix block p.1)
object k c (Is.Port number name place node) form h =
    let p = and_parts (nat_le number.0 0xffff_ffff && is_name name) (is_name node) h in
    let q = and_parts (nat_le number.0 0xffff_ffff) (is_name name) p.0 in
    port k c number.0 name (address_text place.0) node form q.0 q.1 (address place.0) p.1
object k c (Is.Service number node) form h =
    let p = and_parts (nat_le number.0 65535) (is_name node) h in
    service_object k c number.0 node form p.0 p.1

pub went_reads : (c : Config) (o : Object) → IsTrue (has_config_form c) → IsTrue (has_object_size o) → IsReadBack (went_value c o)
unfolding went_value
went_reads c o form h = is_read_back 2 (went_value c o) ((word (codes "went") refl, object 0 c o form h, tt), refl) (omega arith)

pub came_reads : (c : Config) (o : Object) → IsTrue (has_config_form c) → IsTrue (has_object_size o) → IsReadBack (came_value c o)
unfolding came_value
came_reads c o form h = is_read_back 2 (came_value c o) ((word (codes "came") refl, object 0 c o form h, tt), refl) (omega arith)

fate_words : (f : Fate) → IsUtf8 (fate_word f)
fate_words (Passed r) = word (codes "passed") refl
fate_words (Fates.Through r services) = word (codes "through") refl
fate_words (Denied r) = word (codes "denied") refl
fate_words Unmatched = word (codes "denied") refl

fate_rules : (k : ℕ) (c : Config) (f : Fate) → has_config_form c ≡ true → has_fate_size f ≡ true → IsFit (suc k) (fate_rule c f)
fate_rules k c (Passed r) form h = rule k c r form h
fate_rules k c (Fates.Through r services) form h = rule k c r form (and_parts (has_rule_size r) (list_all has_service_size services) h).0
fate_rules k c (Denied r) form h = rule k c r form h
fate_rules k c Unmatched form h = tt

fate_lists : (k : ℕ) (c : Config) (f : Fate) → has_config_form c ≡ true → has_fate_size f ≡ true → IsFit (suc (suc k)) (list_value (service_value c) (fate_services f))
fate_lists k c (Passed r) form h = tt
fate_lists k c (Fates.Through r services) form h =
    lists (suc k) (service_value c) has_service_size (service k c form) services (and_parts (has_rule_size r) (list_all has_service_size services) h).1
fate_lists k c (Denied r) form h = tt
fate_lists k c Unmatched form h = tt

fate : (k : ℕ) (c : Config) (f : Fate) → has_config_form c ≡ true → has_fate_size f ≡ true → IsFit (suc (suc (suc k))) (fate_value c f)
unfolding fate_value
fate k c f form h = (
  (
    word (codes "fate") refl,
    fate_words f,
    (
      word (codes "rule") refl,
      fate_rules (suc k) c f form h,
      (word (codes "services") refl, fate_lists k c f form h, tt),
    ),
  ),
  refl,
)

difference : (c d : Config) (x : Difference) → has_config_form c ≡ true → has_config_form d ≡ true → has_difference_size x ≡ true → IsFit 4 (difference_value c d x)
unfolding difference_value
difference c d x form form' h =
    let becomes = and_parts (is_name x.from && is_name x.to && has_region_size x.region && has_fate_size x.was) (has_fate_size x.becomes) h in
    let was = and_parts (is_name x.from && is_name x.to && has_region_size x.region) (has_fate_size x.was) becomes.0 in
    let a = and_parts (is_name x.from && is_name x.to) (has_region_size x.region) was.0 in
    let names = and_parts (is_name x.from) (is_name x.to) a.0 in
    let r = and_parts (has_range_size x.region.protocols && has_range_size x.region.source_ports) (has_range_size x.region.destination_ports) a.1 in
    let s = and_parts (has_range_size x.region.protocols) (has_range_size x.region.source_ports) r.0 in (
      (
        word (codes "becomes") refl,
        fate 0 d x.becomes form' becomes.1,
        (
          word (codes "destination_ports") refl,
          range 2 x.region.destination_ports r.1,
          (
            word (codes "from") refl,
            name_is_utf8 x.from names.0,
            (
              word (codes "protocols") refl,
              range 2 x.region.protocols s.0,
              (
                word (codes "source_ports") refl,
                range 2 x.region.source_ports s.1,
                (
                  word (codes "to") refl,
                  name_is_utf8 x.to names.1,
                  (word (codes "was") refl, fate 0 c x.was form was.1, tt),
                ),
              ),
            ),
          ),
        ),
      ),
      refl,
    )

pub difference_reads : (c d : Config) (x : Difference) → IsTrue (has_config_form c) → IsTrue (has_config_form d) → IsTrue (has_difference_size x)
    → IsReadBack (difference_value c d x)
difference_reads c d x form form' h = is_read_back 4 (difference_value c d x) (difference c d x form form' h) (omega arith)

-- what is idle

idle_rule : (c : Config) (r : RuleNo) (before : List RuleNo) → has_config_form c ≡ true → has_rule_size r ≡ true → list_all has_rule_size before ≡ true
    → IsFit 3 (idle_rule_value c r before)
unfolding idle_rule_value
idle_rule c r before form h each = (
  (
    word (codes "behind") refl,
    lists 1 (rule_value c) has_rule_size (λ s fit. rule 0 c s form fit) before each,
    (
      word (codes "kind") refl,
      word (codes "rule") refl,
      (word (codes "rule") refl, rule 1 c r form h, tt),
    ),
  ),
  refl,
)

idle_policy : (name : List ℕ) (networks : ℕ) → is_name name ≡ true → nat_lt networks (2 ^ 64) ≡ true → IsFit 3 (idle_policy_value name networks)
unfolding idle_policy_value
idle_policy name networks named h = (
  (
    word (codes "kind") refl,
    word (codes "policy") refl,
    (
      word (codes "name") refl,
      name_is_utf8 name named,
      (word (codes "networks") refl, ltb-true networks (2 ^ 64) h, tt),
    ),
  ),
  refl,
)

idle_chain : (name : List ℕ) → is_name name ≡ true → IsFit 3 (idle_chain_value name)
unfolding idle_chain_value
idle_chain name named = ((word (codes "kind") refl, word (codes "chain") refl, (word (codes "name") refl, name_is_utf8 name named, tt)), refl)

idle : (c : Config) (x : Idle) → has_config_form c ≡ true → has_idle_size x ≡ true → IsFit 3 (idle_value c x)
idle c (Idles.Rule r before) form h =
    let p = and_parts (has_rule_size r) (list_all has_rule_size before) h in
    idle_rule c r before form p.0 p.1
idle c (Idles.Policy name networks) form h =
    let p = and_parts (is_name name) (nat_lt networks (2 ^ 64)) h in
    idle_policy name networks p.0 p.1
idle c (Idles.Chain name) form h = idle_chain name h

pub idle_reads : (c : Config) (x : Idle) → IsTrue (has_config_form c) → IsTrue (has_idle_size x) → IsReadBack (idle_value c x)
idle_reads c x form h = is_read_back 3 (idle_value c x) (idle c x form h) (omega arith)

-- what becomes of a packet

pub port_number : (k : ℕ) (c : Config) (port : PortNo) → has_config_form c ≡ true → nat_le port.0 0xffff_ffff ≡ true → IsFit (suc k) (port_number_value c port)
unfolding port_number_value
port_number k c port form h = (
  (
    word (codes "id") refl,
    omega (arith, leb-true port.0 0xffff_ffff h),
    (word (codes "name") refl, found_name k (λ (p : Port). p.id.0 == port.0) has_port_form (λ (p : Port). p.name) port_name_form c.ports (ports_form c form), tt),
  ),
  refl,
)

pub delivered : (c : Config) (port : PortNo) (services : List ServiceNo) → has_config_form c ≡ true → has_delivery_size port services ≡ true
    → IsFit 3 (delivered_value c port services)
unfolding delivered_value
delivered c port services form h =
    let p = and_parts (nat_le port.0 0xffff_ffff) (list_all has_service_size services) h in (
      (
        word (codes "fate") refl,
        word (codes "delivered") refl,
        (
          word (codes "port") refl,
          port_number 1 c port form p.0,
          (word (codes "services") refl, lists 1 (service_value c) has_service_size (service 0 c form) services p.1, tt),
        ),
      ),
      refl,
    )

why_words : (w : Why) → IsUtf8 (why_word w)
why_words Reason.NoSourcePort = word (codes "no-source-port") refl
why_words Reason.NoDestination = word (codes "no-destination") refl
why_words Reason.NoRoute = word (codes "no-route") refl
why_words (Reason.Denied r) = word (codes "denied") refl
why_words Reason.NoLabel = word (codes "no-label") refl
why_words Reason.TtlExpired = word (codes "ttl-expired") refl

deniers : (k : ℕ) (c : Config) (o : Option RuleNo) → has_config_form c ≡ true → has_denier_size o ≡ true → IsFit (suc k) (denier_value c o)
deniers k c None form h = tt
deniers k c (Some r) form h = rule k c r form h

why_rules : (k : ℕ) (c : Config) (w : Why) → has_config_form c ≡ true → has_why_size w ≡ true → IsFit (suc k) (why_rule c w)
why_rules k c Reason.NoSourcePort form h = tt
why_rules k c Reason.NoDestination form h = tt
why_rules k c Reason.NoRoute form h = tt
why_rules k c (Reason.Denied r) form h = deniers k c r form h
why_rules k c Reason.NoLabel form h = tt
why_rules k c Reason.TtlExpired form h = tt

pub outcome : (c : Config) (o : Outcome) → has_config_form c ≡ true → has_outcome_size o ≡ true → IsFit 3 (outcome_value c o)
unfolding dropped_value
outcome c (Comes.Delivered port services) form h = delivered c port services form h
outcome c (Comes.Dropped why) form h = (
  (
    word (codes "fate") refl,
    word (codes "dropped") refl,
    (
      word (codes "rule") refl,
      why_rules 1 c why form h,
      (word (codes "why") refl, why_words why, tt),
    ),
  ),
  refl,
)

pub to_drop : IsFit 3 to_drop_value
unfolding to_drop_value
to_drop = ((word (codes "fate") refl, word (codes "dropped") refl, tt), refl)

pub to_drop_why : (why : List ℕ) → IsUtf8 why → IsFit 3 (to_drop_why_value why)
unfolding to_drop_why_value
to_drop_why why h = ((word (codes "fate") refl, word (codes "dropped") refl, (word (codes "why") refl, h, tt)), refl)
