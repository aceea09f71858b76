-- Each entry of an access list of a valid configuration has its members within their ranges.
use Rattle.std.proofs.Common.{◌≡◌, inl, inr, ◌&&◌, ◌+◌, ◌*◌, ◌≤◌, ℕ, Bool, true, false, cond, IsTrue, List, [], ◌∷◌, length, nat_le, refl, ap, ◌∙◌, subst, arith}
use Rattle.std.specs.List.{Contains}
use Rattle.std.proofs.lemmas.Bool.{and_from, and_parts, leb-true, le-leb}
use Rattle.std.proofs.lemmas.List.Elements.{All-contains, Contains-append_cases}
use Rattle.ov_types.specs.First.{same_name}
use Rattle.ov_types.specs.Name.{is_name}
use Rattle.ov_types.specs.declared.objects.AclRule.{AclRule}
use Rattle.ov_types.specs.declared.packet.Range16.{Range16}
use Rattle.ov_types.proofs.FirstLemmas.{contains_at, contains_cases}
use Rattle.config_types.specs.Form.{has_action_form, has_config_form, has_protocol_form}
use Rattle.config_types.specs.declared.config.Action.{Action}
use Rattle.config_types.specs.declared.config.Action.TheVariants.{Pass, Deny, Through}
use Rattle.config_types.specs.declared.config.Config.{Config}
use Rattle.config_types.specs.declared.config.Network.{Network}
use Rattle.config_types.specs.declared.config.Policy.{Policy}
use Rattle.config_types.specs.declared.config.Protocol.{Protocol}
use Rattle.config_types.specs.declared.config.Protocol.TheVariants.{Any, Number}
use Rattle.config_types.specs.declared.topology.Topology.{Topology}
use Rattle.policy_rules.specs.Matching.{speaks_both_ways}
use Rattle.policy_rules.specs.Related.{fits, rules_between}
use Rattle.policy_rules.specs.Standing.{IsBetween}
use Rattle.policy_rules.specs.declared.numbered.NumberedRule.{NumberedRule}
use Rattle.policy_rules.proofs.Standing.{between_iff}
use Rattle.machine_model.specs.ConfigCheck.Sentences.{IsValid}
use Rattle.machine_model.specs.AclCompile.Bounds.{KeepsBounds}
use Rattle.machine_model.specs.AclCompile.Oriented.{acl_rules, backwards, does, entries_of, forward_entry, forwards, hop_entered, mirrored_entry, oriented, protocol_of}
use Rattle.machine_model.proofs.AclCompile.Kept.{chain_is_short}
use Rattle.policy_rules.proofs.Lists.{joined_is}
use Rattle.machine_model.proofs.TransformModel.Lists.{place_within, there_if}
use Rattle.node_core.specs.ItemWire.Entries.{is_from_to}
use Rattle.node_core.specs.ItemWire.Ranges.{are_ports, is_action, is_protocol, is_rule, is_rule_number}
use Rattle.config_node.proofs.Forms.{RuleFits, policy_fits}

-- a number between two
pub between : (low high n : ℕ) → low ≤ n → n ≤ high → is_from_to low high n ≡ true
between low high n a b = and_from (nat_le low n) (nat_le n high) (le-leb low n a) (le-leb n high b)

protocol_in_range : (p : Protocol) → has_protocol_form p ≡ true → is_protocol (protocol_of p) ≡ true
protocol_in_range Any h = refl
protocol_in_range (Number n) h = h

-- the one item of a list that may have none
one_there : {A : Type 0} (b : Bool) (x y : A) → Contains (cond b (x ∷ []) []) y → x ≡ y
one_there b x y at =
    elim (contains_cases x [] y (there_if b (x ∷ []) y at).1) [
      | inl same ↦ same
      | inr later ↦ absurd (omega (arith, later.1))
    ]

record IsEntryOf (c : Config) (r : NumberedRule) (e : AclRule) : Type 0 where
  sports : Range16
  dports : Range16
  mirrored : Bool
  is : record { protocol = protocol_of r.rule.protocol; sports = sports; dports = dports; action = does c mirrored r.rule.action; rule = r.number } ≡ e
  sports_fit : RuleFits r.rule → are_ports sports ≡ true
  dports_fit : RuleFits r.rule → are_ports dports ≡ true

entry_is : (c : Config) (a b : Network) (r : NumberedRule) (e : AclRule) → Contains (entries_of c a b r) e → IsEntryOf c r e
entry_is c a b r e at =
    elim (Contains-append_cases (forwards c a b r) (backwards c a b r) e at) [
      | inl forward ↦ record {
        sports = r.rule.source_ports;
        dports = r.rule.destination_ports;
        mirrored = false;
        is = one_there (fits r.rule a b) (forward_entry c r) e forward;
        sports_fit = λ f. f.sources;
        dports_fit = λ f. f.destinations;
      }
      | inr backward ↦ record {
        sports = r.rule.destination_ports;
        dports = r.rule.source_ports;
        mirrored = true;
        is = one_there (speaks_both_ways r.rule.direction && fits r.rule b a) (mirrored_entry c r) e backward;
        sports_fit = λ f. f.destinations;
        dports_fit = λ f. f.sources;
      }
    ]

module _ (t : Topology) (c : Config) (form : IsTrue (has_config_form c)) (v : IsValid t c) where
  bounds : KeepsBounds c
  bounds = record { form = form; rules = v.limits.rules; chains = v.limits.chains; short = v.short; once = v.once }

  hop_small : (chain : List ℕ) (mirrored : Bool) → hop_entered c chain mirrored ≤ 15
  hop_small chain false = omega arith
  hop_small chain true = chain_is_short c chain bounds

  action_in_range : (mirrored : Bool) (a : Action) → has_action_form a ≡ true → is_action (does c mirrored a) ≡ true
  action_in_range mirrored Pass h = refl
  action_in_range mirrored Deny h = refl
  action_in_range mirrored (Through chain use_no) h =
      let small = leb-true use_no 3071 (and_parts (is_name chain) (nat_le use_no 3071) h).1 in
      let hop = hop_small chain mirrored in
      between 16384 65535 (16384 + 16 * use_no + hop_entered c chain mirrored) (omega arith) (omega arith)

  -- the rules between two networks are of the written form, and numbered within the ranges
  record IsNumbered (r : NumberedRule) : Type 0 where
    fits : RuleFits r.rule
    number : is_rule_number r.number ≡ true

  numbered : (a b : Network) (r : NumberedRule) → Contains (rules_between c a b) r → IsNumbered r
  numbered a b r at =
      let s : IsBetween c a b r = (between_iff c a b r).0 at in
      let policy = policy_fits c form s.policy s.configured in
      let few = All-contains (λ (p : Policy). length p.rules ≤ 16) c.policies s.policy v.limits.rules s.configured in
      let place = place_within s.policy.rules s.place r.rule s.stands in
      let position = s.position in
      record {
        fits = policy.rules r.rule (contains_at s.policy.rules s.place r.rule s.stands);
        number = and_from (nat_le r.number.sequence 65535) (is_from_to 1 16 r.number.position)
            (ap (λ (n : ℕ). nat_le n 65535) s.sequence ∙ policy.sequence) (between 1 16 r.number.position (omega arith) (omega arith));
      }

  entry_in_range : (r : NumberedRule) (e : AclRule) → IsNumbered r → IsEntryOf c r e → is_rule e ≡ true
  entry_in_range r e n is =
      let protocol : is_protocol (protocol_of r.rule.protocol) ≡ true = protocol_in_range r.rule.protocol n.fits.protocol in
      let sports = is.sports_fit n.fits in
      let dports = is.dports_fit n.fits in
      let action = action_in_range is.mirrored r.rule.action n.fits.action in
      subst (λ (e : AclRule). is_rule e ≡ true) is.is
      (and_from (is_protocol (protocol_of r.rule.protocol) && are_ports is.sports && are_ports is.dports && is_action (does c is.mirrored r.rule.action)) (is_rule_number r.number)
      (and_from (is_protocol (protocol_of r.rule.protocol) && are_ports is.sports && are_ports is.dports) (is_action (does c is.mirrored r.rule.action))
      (and_from (is_protocol (protocol_of r.rule.protocol) && are_ports is.sports) (are_ports is.dports)
      (and_from (is_protocol (protocol_of r.rule.protocol)) (are_ports is.sports) protocol sports) dports) action) n.number)

  pub entries_in_range : (a b : Network) (e : AclRule) → Contains (acl_rules c a b) e → is_rule e ≡ true
  entries_in_range a b e at = by (same_name a.name b.name) at
    where
      by : (same : Bool) → Contains (cond same [] (oriented c a b)) e → is_rule e ≡ true
      by true at = absurd (omega (arith, at.1))
      by false at =
          let r = joined_is (entries_of c a b) (rules_between c a b) e at in
          entry_in_range r.0 e (numbered a b r.0 r.1) (entry_is c a b r.0 e r.2)
