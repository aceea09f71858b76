-- Where one configuration offers a way, its destination's network alone has the address among those around the source's.
use Rattle.std.proofs.Common.{◌≡◌, inl, inr, ℕ, Bool, true, false, Option, Some, refl, sym, ap, ◌∙◌, subst}
use Rattle.std.specs.List.{Any, Contains}
use Rattle.std.specs.Option.{IfSome}
use Rattle.std.proofs.lemmas.List.Elements.{All-contains}
use Rattle.ov_types.specs.First.{same_name}
use Rattle.ov_types.specs.Prefix.{contains}
use Rattle.ov_types.specs.declared.numbers.InstanceId.{InstanceId}
use Rattle.ov_types.specs.declared.numbers.PortNo.{PortNo}
use Rattle.ov_types.specs.declared.packet.Packet.{Packet}
use Rattle.ov_types.specs.declared.prefix.Addr.{Addr}
use Rattle.ov_types.proofs.FirstLemmas.{same_name_iff}
use Rattle.config_types.specs.declared.config.Config.{Config}
use Rattle.config_types.specs.declared.config.Network.{Network}
use Rattle.config_types.specs.declared.config.Port.{Port}
use Rattle.config_types.specs.declared.topology.Topology.{Topology}
use Rattle.policy_rules.specs.Standing.{IsBetween, LetsThrough, PassesBetween}
use Rattle.policy_rules.specs.declared.numbered.NumberedRule.{NumberedRule}
use Rattle.policy_rules.proofs.Relations.{related_iff}
use Rattle.config_check.specs.Checked.{Checked}
use Rattle.config_check.specs.Finding.{network_named}
use Rattle.config_check.specs.Sentences.{IsAround, IsValid}
use Rattle.config_check.proofs.Finders.{finds_network_named, finds_network_numbered}
use Rattle.config_check.proofs.Meanings.{holds_iff}
use Rattle.config_check.proofs.OneHome.{one_network}
use Rattle.reach_plain.proofs.Kept.{valid}
use Rattle.hitless_cells.specs.Keeping.{IsValidAsWritten}
use Rattle.hitless_cells.specs.Ways.{Offers, Opens, Track, Way}
use Rattle.hitless_cells.specs.Ways.Way.{inside, passing, through}

abbrev Holds : Network → ℕ → Type 0
Holds n a = Any (λ s. contains s a ≡ true) n.subnets

-- a rule that lets through joins two networks, or they are one
around_by : (c : Config) (own b : Network) (r : NumberedRule) → IsBetween c own b r → LetsThrough r.rule.action → IsAround c own b
around_by c own b r h lets = by (same_name b.name own.name) refl
  where
    by : (v : Bool) → same_name b.name own.name ≡ v → IsAround c own b
    by true e = inl ((same_name_iff b.name own.name).0 e)
    by false e =
        inr ((related_iff c own b).1 (record {
          differ = λ same. let never : false ≡ true = sym e ∙ (same_name_iff b.name own.name).1 (sym same) in absurd (cc);
          rule = r;
          stands = h;
          lets = lets;
        }))

pub around_passed : (c : Config) (own b : Network) → PassesBetween c own b → IsAround c own b
around_passed c own b h = around_by c own b h.rule h.stands (subst LetsThrough (sym h.pass) tt)

around_opened : (x : Checked) (p : Packet) (own b : Network) (way : Way) (track : Track) → Opens x p own b way track → IsAround x.config own b
around_opened x p own b inside track h = inl h.0
around_opened x p own b passing track h = around_passed x.config own b h.1
around_opened x p own b (through use_no mirrored) track h = around_by x.config own b h.1.rule h.1.stands (subst LetsThrough (sym h.1.leads) tt)

-- a network holds the addresses of its ports
pub holds_port : (t : Topology) (c : Config) → IsValid t c → (n : Network) (q : Port) → Contains c.networks n → Contains c.ports q → q.network ≡ n.name → Holds n q.address.0
holds_port t c v n q in_n in_q named =
    let found : network_named c q.network ≡ Some n = ((finds_network_named t c q.network v).some n).1 (in_n, sym named) in
    let P : Option Network → Type 0 = λ o. IfSome o (λ n. Holds n q.address.0) in
    subst P found (All-contains (λ (q : Port). IfSome (network_named c q.network) (λ n. Holds n q.address.0)) c.ports q v.inside in_q)

pub one_numbered : (t : Topology) (c : Config) → IsValid t c → (number : InstanceId) (a b : Network) → Contains c.networks a → Contains c.networks b → a.id ≡ number → b.id ≡ number → a ≡ b
one_numbered t c v number a b in_a in_b is_a is_b =
    let f = finds_network_numbered t c number.0 v in
    let same : Some a ≡ Some b = sym ((f.some a).1 (in_a, ap (λ (i : InstanceId). i.0) is_a)) ∙ (f.some b).1 (in_b, ap (λ (i : InstanceId). i.0) is_b) in
    cc

-- a network around the source's that holds the address is the destination's
pub alone : (x : Checked) (p : Packet) (number : PortNo) (way : Way) (track : Track) → IsValidAsWritten x → Offers x p number way track
    → (own b : Network) → Contains x.config.networks own → Contains x.config.networks b → own.id ≡ track.from → IsAround x.config own b → Holds b p.destination.0 → b.id ≡ track.to
alone x p number way track v o own b in_own in_b own_is near holds =
    let ok = valid x.topology x.config v.valid in
    let same : o.own ≡ own = one_numbered x.topology x.config ok track.from o.own own o.leaves.own_stands in_own o.own_is own_is in
    let here : IsAround x.config own o.target = subst (λ (a : Network). IsAround x.config a o.target) same (around_opened x p o.own o.target way track o.opens) in
    let has : Holds o.target p.destination.0 =
    subst (λ (a : Addr). Holds o.target a.0) o.arrives.arrival_address
    (holds_port x.topology x.config ok o.target o.arrives.arrival o.target_stands o.arrives.arrival_stands o.arrives.arrival_network) in
    let one : b ≡ o.target = one_network x.topology x.config own b o.target p.destination.0 v.form ok in_own in_b o.target_stands near here ((holds_iff b p.destination.0).1 holds) ((holds_iff o.target p.destination.0).1 has) in
    ap (λ (n : Network). n.id) one ∙ o.target_is
