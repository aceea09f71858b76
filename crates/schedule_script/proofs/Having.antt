-- What a configuration ties is what it has.
use Rattle.std.proofs.Common.{◌≡◌, ◌↔◌, ◌⊎◌, ◌&&◌, ◌==◌, ℕ, Bool, true, false, cond, IsTrue, List, Option, Some, None, ap, inl, inr, refl, subst, sym, ◌∙◌}
use Rattle.std.specs.List.{Contains, list_any}
use Rattle.std.specs.Option.{option_map}
use Rattle.std.specs.Prelude.{option_and_then}
use Rattle.std.proofs.lemmas.Bool.{and_from, and_parts, eq-eqb, eqb-true}
use Rattle.std.proofs.lemmas.List.Elements.{All-contains}
use Rattle.ov_types.specs.declared.numbers.InstanceId.{InstanceId}
use Rattle.ov_types.specs.declared.numbers.PortNo.{PortNo}
use Rattle.ov_types.proofs.FirstLemmas.{contains_at, first_of_none}
use Rattle.config_types.specs.declared.config.Action.TheVariants.{Deny, Pass, Through}
use Rattle.config_types.specs.declared.config.Action.{Action}
use Rattle.config_types.specs.declared.config.Config.{Config}
use Rattle.config_types.specs.declared.config.End.TheVariants.{Any, Named}
use Rattle.config_types.specs.declared.config.End.{End}
use Rattle.config_types.specs.declared.config.Network.{Network}
use Rattle.config_types.specs.declared.config.Port.{Port}
use Rattle.config_types.specs.declared.config.Rule.{Rule}
use Rattle.config_types.specs.declared.topology.Topology.{Topology}
use Rattle.policy_rules.specs.Related.{all_rules, are_related}
use Rattle.policy_rules.specs.Standing.{Fits, IsBetween}
use Rattle.policy_rules.specs.declared.numbered.NumberedRule.{NumberedRule}
use Rattle.policy_rules.proofs.Relations.{related_iff}
use Rattle.policy_rules.proofs.Taking.{first_answer}
use Rattle.config_check.specs.Finding.{network_named, port_numbered}
use Rattle.config_check.specs.Rules.{use_of}
use Rattle.config_check.specs.Sentences.{IsValid}
use Rattle.config_check.proofs.Finders.{finds_network_named, finds_port_numbered}
use Rattle.schedule_script.specs.Ties.{HasPort, HasRelated, HasUse}
use Rattle.schedule_script.specs.Tying.{end_id, ends_by, ends_of, home_id, network_id, pair_of, port_network, relates, use_networks}
use Rattle.schedule_script.proofs.Lists.{one_of_key, test_finds, test_passes}

abbrev pub NetworkPair : Type 0
NetworkPair = InstanceId × InstanceId

never : {A : Type 0} (x : A) → None ≡ Some x → ⊥
never x e = cc

is_same : {A : Type 0} (x y : A) → Some x ≡ Some y → x ≡ y
is_same x y e = cc

pub same_id : (m n : InstanceId) → m.0 ≡ n.0 → m ≡ n
same_id m n e = λ k. record { 0 = e k }

module _ (s : Topology) (c : Config) (v : IsValid s c) where
  -- ---- networks of names
  abbrev IsOfName : List ℕ → InstanceId → Type 0
  IsOfName name n = (m : Network) × Contains c.networks m × (m.name ≡ name) × (m.id ≡ n)

  of_name : (name : List ℕ) (n : InstanceId) → network_id c name ≡ Some n → IsOfName name n
  of_name name n e = by_found (network_named c name) refl e
    where
      by_found : (o : Option Network) → network_named c name ≡ o → option_map (λ n. n.id) o ≡ Some n → IsOfName name n
      by_found None is h = absurd (never n h)
      by_found (Some m) is h = let f = ((finds_network_named s c name v).some m).0 is in (m, f.0, f.1, is_same m.id n h)

  pub name_is : (name : List ℕ) (m : Network) → Contains c.networks m → m.name ≡ name → network_id c name ≡ Some m.id
  name_is name m there e = ap (λ (o : Option Network). option_map (λ n. n.id) o) (((finds_network_named s c name v).some m).1 (there, e))

  -- ---- ports
  pub of_port : (q : Port) (n : InstanceId) → Contains c.ports q → home_id c q ≡ Some n → HasPort c q.id n
  of_port q n there e =
      let m = of_name q.network n e in
      record { port = q; home = m.0; has_port = there; has_home = m.1; home_of = sym m.2; number_is = refl; network_is = m.3 }

  pub home_is : (p : PortNo) (n : InstanceId) (h : HasPort c p n) → home_id c h.port ≡ Some n
  home_is p n h = name_is h.port.network h.home h.has_home (sym h.home_of) ∙ ap Some h.network_is

  has_port : (p : PortNo) (n : InstanceId) → port_network c p ≡ Some n → HasPort c p n
  has_port p n e = by_found (port_numbered c p.0) refl e
    where
      by_found : (o : Option Port) → port_numbered c p.0 ≡ o → option_and_then (home_id c) o ≡ Some n → HasPort c p n
      by_found None is h = absurd (never n h)
      by_found (Some q) is h =
          let f = ((finds_port_numbered s c p.0 v).some q).0 is in
          subst (λ (p : PortNo). HasPort c p n) (λ k. record { 0 = f.1 k }) (of_port q n f.0 h)

  port_is : (p : PortNo) (n : InstanceId) → HasPort c p n → port_network c p ≡ Some n
  port_is p n h =
      ap (λ (o : Option Port). option_and_then (home_id c) o) (((finds_port_numbered s c p.0 v).some h.port).1 (h.has_port, ap (λ (p : PortNo). p.0) h.number_is))
      ∙ home_is p n h

  pub port_iff : (p : PortNo) (n : InstanceId) → (port_network c p ≡ Some n) ↔ HasPort c p n
  port_iff p n = (has_port p n, port_is p n)

  -- ---- uses
  abbrev IsNamed : End → InstanceId → Type 0
  IsNamed e n = (m : Network) × Contains c.networks m × (e ≡ Named m.name) × (m.id ≡ n)

  of_end : (e : End) (n : InstanceId) → end_id c e ≡ Some n → IsNamed e n
  of_end Any n h = absurd (never n h)
  of_end (Named name) n h = let m = of_name name n h in (m.0, m.1, ap Named (sym m.2), m.3)

  of_pair : (a b : Option InstanceId) (pair : NetworkPair) → pair_of a b ≡ Some pair → (a ≡ Some pair.0) × (b ≡ Some pair.1)
  of_pair (Some a) (Some b) pair e = (ap (λ (p : NetworkPair). Some p.0) (is_same (two a b) pair e), ap (λ (p : NetworkPair). Some p.1) (is_same (two a b) pair e))
    where
      two : InstanceId → InstanceId → NetworkPair
      two a b = (a, b)
  of_pair (Some a) None pair e = absurd (never pair e)
  of_pair None b pair e = absurd (never pair e)

  abbrev LeadsBy : Rule → ℕ → Action → NetworkPair → Type 0
  LeadsBy r number a pair = (chain : List ℕ) × (a ≡ Through chain number) × (ends_of c r ≡ Some pair)

  of_action : (r : Rule) (number : ℕ) (a : Action) (pair : NetworkPair) → ends_by c r number a ≡ Some pair → LeadsBy r number a pair
  of_action r number Pass pair e = absurd (never pair e)
  of_action r number Deny pair e = absurd (never pair e)
  of_action r number (Through chain n) pair e =
      elim (n == number) as (λ b. (n == number) ≡ b → cond b (ends_of c r) None ≡ Some pair → LeadsBy r number (Through chain n) pair) [
        | true ↦ λ is e. (chain, ap (Through chain) (eqb-true n number is), e)
        | false ↦ λ is e. absurd (never pair e)
      ] refl e

  pub of_rule : (r : NumberedRule) (chain : List ℕ) (number : ℕ) (pair : NetworkPair) → Contains (all_rules c) r → r.rule.action ≡ Through chain number → ends_of c r.rule ≡ Some pair → HasUse c number pair
  of_rule r chain number pair there leads e =
      let ends = of_pair (end_id c r.rule.source) (end_id c r.rule.destination) pair e in
      let left = of_end r.rule.source pair.0 ends.0 in
      let right = of_end r.rule.destination pair.1 ends.1 in
      record {
        rule = r;
        chain = chain;
        left = left.0;
        right = right.0;
        has_rule = there;
        has_left = left.1;
        has_right = right.1;
        leads = leads;
        from = left.2;
        to = right.2;
        left_is = left.3;
        right_is = right.3;
      }

  has_use : (number : ℕ) (pair : NetworkPair) → use_networks c number ≡ Some pair → HasUse c number pair
  has_use number pair e =
      let a = first_answer (λ (r : NumberedRule). ends_by c r.rule number r.rule.action) (all_rules c) pair e in
      let by = of_action a.item.rule number a.item.rule.action pair a.gives in
      of_rule a.item by.0 number pair (contains_at (all_rules c) a.place a.item a.there) by.1 by.2

  -- the rule of a use names its networks
  pub ends_are : (number : ℕ) (pair : NetworkPair) (h : HasUse c number pair) → ends_of c h.rule.rule ≡ Some pair
  ends_are number pair h =
      let r = h.rule.rule in
      let from : end_id c r.source ≡ Some pair.0 = ap (end_id c) h.from ∙ name_is h.left.name h.left h.has_left refl ∙ ap Some h.left_is in
      let to : end_id c r.destination ≡ Some pair.1 = ap (end_id c) h.to ∙ name_is h.right.name h.right h.has_right refl ∙ ap Some h.right_is in
      λ k. pair_of (from k) (to k)

  gives_ends : (number : ℕ) (pair : NetworkPair) (h : HasUse c number pair) → ends_by c h.rule.rule number h.rule.rule.action ≡ Some pair
  gives_ends number pair h =
      ap (ends_by c h.rule.rule number) h.leads ∙ ap (λ b. cond b (ends_of c h.rule.rule) None) (eq-eqb number number refl) ∙ ends_are number pair h

  use_is : (number : ℕ) (pair : NetworkPair) → HasUse c number pair → use_networks c number ≡ Some pair
  use_is number pair h = by_answer (use_networks c number) refl
    where
      f : NumberedRule → Option NetworkPair
      f r = ends_by c r.rule number r.rule.action

      number_is : (r : NumberedRule) (p : NetworkPair) → f r ≡ Some p → use_of r.rule.action ≡ Some number
      number_is r p e = ap use_of (of_action r.rule number r.rule.action p e).1

      by_answer : (o : Option NetworkPair) → use_networks c number ≡ o → use_networks c number ≡ Some pair
      by_answer None e = absurd (never pair (sym (All-contains (λ (r : NumberedRule). f r ≡ None) (all_rules c) h.rule ((first_of_none f (all_rules c)).0 e) h.has_rule) ∙ gives_ends number pair h))
      by_answer (Some q) e =
          let a = first_answer f (all_rules c) q e in
          let same = one_of_key (λ (r : NumberedRule). use_of r.rule.action) number (all_rules c) v.numbers.uses a.item h.rule (contains_at (all_rules c) a.place a.item a.there) h.has_rule (number_is a.item q a.gives) (ap use_of h.leads) in
          e ∙ sym a.gives ∙ ap f same ∙ gives_ends number pair h

  pub use_iff : (number : ℕ) (pair : NetworkPair) → (use_networks c number ≡ Some pair) ↔ HasUse c number pair
  use_iff number pair = (has_use number pair, use_is number pair)

-- ---- relations
module _ (c : Config) where
  abbrev first_of_two : InstanceId → InstanceId → Network → Bool
  first_of_two a b m = (m.id.0 == a.0) && list_any (λ n. (n.id.0 == b.0) && are_related c m n) c.networks

  has_related : (a b : InstanceId) → relates c a b ≡ true → HasRelated c a b
  has_related a b h =
      let m = test_finds (first_of_two a b) c.networks h in
      let both = and_parts (m.0.id.0 == a.0) (list_any (λ n. (n.id.0 == b.0) && are_related c m.0 n) c.networks) m.2 in
      let n = test_finds (λ (n : Network). (n.id.0 == b.0) && are_related c m.0 n) c.networks both.1 in
      let also = and_parts (n.0.id.0 == b.0) (are_related c m.0 n.0) n.2 in
      record {
        first = m.0;
        second = n.0;
        has_first = m.1;
        has_second = n.1;
        related = (related_iff c m.0 n.0).0 also.1;
        first_is = same_id m.0.id a (eqb-true m.0.id.0 a.0 both.0);
        second_is = same_id n.0.id b (eqb-true n.0.id.0 b.0 also.0);
      }

  related_is : (a b : InstanceId) → HasRelated c a b → relates c a b ≡ true
  related_is a b h =
      test_passes (first_of_two a b) c.networks h.first h.has_first
      (and_from (h.first.id.0 == a.0) (list_any (λ n. (n.id.0 == b.0) && are_related c h.first n) c.networks) (eq-eqb h.first.id.0 a.0 (ap (λ (n : InstanceId). n.0) h.first_is))
      (test_passes (λ (n : Network). (n.id.0 == b.0) && are_related c h.first n) c.networks h.second h.has_second
      (and_from (h.second.id.0 == b.0) (are_related c h.first h.second) (eq-eqb h.second.id.0 b.0 (ap (λ (n : InstanceId). n.0) h.second_is)) ((related_iff c h.first h.second).1 h.related))))

  pub relates_iff : (a b : InstanceId) → IsTrue (relates c a b) ↔ HasRelated c a b
  relates_iff a b = (has_related a b, related_is a b)

  between_back : (a b : Network) (r : NumberedRule) → IsBetween c a b r → IsBetween c b a r
  between_back a b r h = record {
    policy = h.policy;
    place = h.place;
    configured = h.configured;
    first_attaches = h.second_attaches;
    second_attaches = h.first_attaches;
    stands = h.stands;
    sequence = h.sequence;
    position = h.position;
    fits = elim h.fits as (λ _. Fits r.rule b a ⊎ Fits r.rule a b) [ inl forth ↦ inr forth | inr back ↦ inl back ];
  }

  pub related_back : (a b : InstanceId) → HasRelated c a b → HasRelated c b a
  related_back a b h = record {
    first = h.second;
    second = h.first;
    has_first = h.has_second;
    has_second = h.has_first;
    related = record { differ = λ e. h.related.differ (sym e); rule = h.related.rule; stands = between_back h.first h.second h.related.rule h.related.stands; lets = h.related.lets };
    first_is = h.second_is;
    second_is = h.first_is;
  }
