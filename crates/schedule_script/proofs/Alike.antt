-- The ties that are kept are those of the definitions, and ties that answer alike serve alike.
use Rattle.std.proofs.Common.{◌≡◌, ◌==◌, ◌||◌, Bool, true, false, cond, List, Option, Some, None, ap, length, refl, subst, sym, ◌∙◌}
use Rattle.std.specs.List.{list_all}
use Rattle.std.specs.Prelude.{nat_le}
use Rattle.std.proofs.lemmas.Bool.{eq-eqb, eqb-true}
use Rattle.std.proofs.lemmas.List.Elements.{All-contains}
use Rattle.ov_types.specs.First.{first_of, ◌<|>◌}
use Rattle.ov_types.specs.declared.numbers.InstanceId.{InstanceId}
use Rattle.ov_types.specs.declared.numbers.PortNo.{PortNo}
use Rattle.ov_types.specs.declared.prefix.Addr.{Addr}
use Rattle.ov_types.proofs.FirstLemmas.{contains_at, first_of_none}
use Rattle.config_types.specs.declared.config.Config.{Config}
use Rattle.config_types.specs.declared.config.Port.{Port}
use Rattle.config_types.specs.declared.topology.Topology.{Topology}
use Rattle.policy_rules.proofs.Taking.{first_answer}
use Rattle.policy_rules.specs.Related.{all_rules}
use Rattle.policy_rules.specs.declared.numbered.NumberedRule.{NumberedRule}
use Rattle.config_check.specs.Checked.{Checked}
use Rattle.config_check.specs.Rules.{first_broken}
use Rattle.config_check.specs.Sentences.{IsValid}
use Rattle.config_check.proofs.Few.{few_rules, first_none}
use Rattle.schedule_script.specs.Kept.{Adds, AreAlike, Kept, Relates, RelatesBothWays, address_by, address_in, are_in, home_by, name_in, port_in, ties_in, use_in}
use Rattle.schedule_script.specs.Ties.{HasPort, Ties}
use Rattle.schedule_script.specs.Tying.{ends_by, home_id, joined, name_by, no_ties, port_network, relates}
use Rattle.schedule_script.proofs.OfNodes.{first_address}
use Rattle.schedule_script.proofs.Having.{home_is, of_port, port_iff, related_back, relates_iff}

never : {A : Type 0} (x : A) → None ≡ Some x → ⊥
never x e = cc

-- ---- a port of a number has the network of the number
module _ (s : Topology) (c : Config) (v : IsValid s c) (p : PortNo) where
  of_item : (q : Port) (n : InstanceId) → home_by c p q ≡ Some n → (q.id.0 ≡ p.0) × (home_id c q ≡ Some n)
  of_item q n e =
      elim (q.id.0 == p.0) as (λ b. (q.id.0 == p.0) ≡ b → cond b (home_id c q) None ≡ Some n → (q.id.0 ≡ p.0) × (home_id c q ≡ Some n)) [
        | true ↦ λ is e. (eqb-true q.id.0 p.0 is, e)
        | false ↦ λ is e. absurd (never n e)
      ] refl e

  gives : (n : InstanceId) (h : HasPort c p n) → home_by c p h.port ≡ Some n
  gives n h = ap (λ b. cond b (home_id c h.port) None) (eq-eqb h.port.id.0 p.0 (ap (λ (p : PortNo). p.0) h.number_is)) ∙ home_is s c v p n h

  by_network : first_of (home_by c p) c.ports ≡ None → (o : Option InstanceId) → port_network c p ≡ o → None ≡ port_network c p
  by_network none None e = sym e
  by_network none (Some n) e =
      let h = (port_iff s c v p n).0 e in
      absurd (never n (sym (All-contains (λ (q : Port). home_by c p q ≡ None) c.ports h.port ((first_of_none (home_by c p) c.ports).0 none) h.has_port) ∙ gives n h))

  by_first : (o : Option InstanceId) → first_of (home_by c p) c.ports ≡ o → o ≡ port_network c p
  by_first None is = by_network is (port_network c p) refl
  by_first (Some n) is =
      let a = first_answer (home_by c p) c.ports n is in
      let q : Port = a.item in
      let h = of_item q n a.gives in
      let same : q.id ≡ p = (λ k. record { 0 = h.0 k }) in
      sym ((port_iff s c v p n).1 (subst (λ (r : PortNo). HasPort c r n) same (of_port s c v q n (contains_at c.ports a.place q a.there) h.1)))

  pub first_home : first_of (home_by c p) c.ports ≡ port_network c p
  first_home = by_first (first_of (home_by c p) c.ports) refl

-- ---- ties that answer alike
pub alike_is_one : (s t : Ties) → AreAlike s t → s ≡ t
alike_is_one s t h = λ k. record {
  port = λ p. h.ports p k;
  chain_use = λ number. h.uses number k;
  was_related = λ a b. h.related a b k;
  address = λ name. h.addresses name k;
  name = λ a. h.names a k;
}

-- ---- relations go both ways
same_tests : (x y : Bool) → (x ≡ true → y ≡ true) → (y ≡ true → x ≡ true) → x ≡ y
same_tests true y f g = sym (f refl)
same_tests false true f g = g refl
same_tests false false f g = refl

relates_back : (c : Config) (a b : InstanceId) → relates c a b ≡ true → relates c b a ≡ true
relates_back c a b e = (relates_iff c b a).1 (related_back c a b ((relates_iff c a b).0 e))

pub none_both_ways : RelatesBothWays no_ties
none_both_ways a b = refl

pub joined_both_ways : (t : Ties) (x : Checked) → RelatesBothWays t → RelatesBothWays (joined t x)
joined_both_ways t x h a b = λ k. h a b k || same_tests (relates x.config a b) (relates x.config b a) (relates_back x.config a b) (relates_back x.config b a) k

-- ---- a valid configuration has few rules in a policy
pub few_rules_of : (s : Topology) (c d : Config) → d ≡ c → first_broken s c ≡ None → list_all (λ p. nat_le (length p.rules) 16) d.policies ≡ true
unfolding first_broken
few_rules_of s c d same h = ap (λ (e : Config). list_all (λ p. nat_le (length p.rules) 16) e.policies) same ∙ few_rules s c (first_none _ _ h)

-- ---- what is kept with one configuration more
module _ (x : Checked) (s : Topology) (d : Config) (same_s : s ≡ x.topology) (same : d ≡ x.config) (v : IsValid x.topology x.config) (rules : List NumberedRule) (all : rules ≡ all_rules x.config) where
  pub joined_is : (before after : Kept) (old : Kept) → before ≡ old
      → Adds (port_in before.ports) (λ p. first_of (home_by d p) d.ports) (port_in after.ports)
      → Adds (use_in before.uses) (λ u. first_of (λ r. ends_by d r.rule u r.rule.action) rules) (use_in after.uses)
      → Relates (are_in before.related) (relates d) (are_in after.related)
      → Adds (address_in before.addresses) (λ name. first_of (address_by name) s.nodes) (address_in after.addresses)
      → Adds (name_in before.names) (λ a. first_of (name_by a) s.nodes) (name_in after.names)
      → AreAlike (ties_in after) (joined (ties_in old) x)
  joined_is before after old is ports uses related addresses names = record {
    ports = λ p.
        ports p ∙ (λ k. port_in (is k).ports p <|> first_of (home_by (same k) p) (same k).ports)
        ∙ ap (λ (o : Option InstanceId). port_in old.ports p <|> o) (first_home x.topology x.config v p);
    uses = λ u. uses u ∙ (λ k. use_in (is k).uses u <|> first_of (λ (r : NumberedRule). ends_by (same k) r.rule u r.rule.action) (all k));
    related = λ a b. related a b ∙ (λ k. are_in (is k).related a b || relates (same k) a b);
    addresses = λ name.
        addresses name ∙ (λ k. address_in (is k).addresses name <|> first_of (address_by name) (same_s k).nodes)
        ∙ ap (λ (o : Option Addr). address_in old.addresses name <|> o) (first_address x.topology name);
    names = λ a. names a ∙ (λ k. name_in (is k).names a <|> first_of (name_by a) (same_s k).nodes);
  }
