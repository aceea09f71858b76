-- A configuration breaks no rule exactly where the fourteen sentences hold.
use Rattle.std.proofs.Common.{◌≡◌, ◌↔◌, Option, None, IsTrue, length, refl}
use Rattle.std.proofs.lemmas.Bool.{le-leb}
use Rattle.config_types.specs.Form.{has_nodes_form, has_topology_form}
use Rattle.config_types.specs.declared.config.Config.{Config}
use Rattle.config_types.specs.declared.topology.Topology.{Topology}
use Rattle.ov_types.specs.First.{◌<|>◌}
use Rattle.config_check.specs.declared.refusal.Refusal.{Refusal}
use Rattle.config_check.specs.Rules.{broken_limit, broken_name, broken_id, broken_reference, broken_reserved, broken_nested, broken_outside, broken_taken, broken_place, broken_needs, broken_same, broken_use, broken_loop, broken_long, broken_twice, broken_chain, broken_overlap, first_broken}
use Rattle.policy_rules.specs.Related.{all_rules}
use Rattle.config_check.specs.Sentences.{IsValid}
use Rattle.ov_types.proofs.FirstLemmas.{both_none}
use Rattle.config_check.proofs.EachRule.{limits_iff, names_iff, numbers_iff, references_iff, reserved_iff, flat_iff, holds_iff, addresses_iff, ends_named_iff, two_named_iff, straight_iff, short_iff, once_iff, apart_around_iff}

-- no rule is broken
pub record NoneBroken (t : Topology) (c : Config) : Type 0 where
  pub limit : broken_limit t c ≡ None
  pub name : broken_name t c ≡ None
  pub id : broken_id t c ≡ None
  pub reference : broken_reference t c ≡ None
  pub reserved : broken_reserved c ≡ None
  pub nested : broken_nested c ≡ None
  pub outside : broken_outside c ≡ None
  pub taken : broken_taken c ≡ None
  pub needs : broken_needs (all_rules c) ≡ None
  pub same : broken_same (all_rules c) ≡ None
  pub loop : broken_loop c ≡ None
  pub long : broken_long c ≡ None
  pub twice : broken_twice c ≡ None
  pub overlap : broken_overlap c ≡ None

none_of_each : (t : Topology) (c : Config) → (first_broken t c ≡ None) ↔ NoneBroken t c
unfolding first_broken
none_of_each t c =
    let r7 : Option Refusal = broken_chain c <|> broken_overlap c in
    let r6 : Option Refusal = broken_use (all_rules c) <|> r7 in
    let r5 : Option Refusal = broken_place c <|> r6 in
    let r4 : Option Refusal = broken_reference t c <|> r5 in
    let r3 : Option Refusal = broken_id t c <|> r4 in
    let r2 : Option Refusal = broken_name t c <|> r3 in
    let p1 = both_none (broken_limit t c) r2 in
    let p2 = both_none (broken_name t c) r3 in
    let p3 = both_none (broken_id t c) r4 in
    let p4 = both_none (broken_reference t c) r5 in
    let p5 = both_none (broken_place c) r6 in
    let p6 = both_none (broken_use (all_rules c)) r7 in
    let p7 = both_none (broken_chain c) (broken_overlap c) in
    let place1 = both_none (broken_reserved c) (broken_nested c <|> (broken_outside c <|> broken_taken c)) in
    let place2 = both_none (broken_nested c) (broken_outside c <|> broken_taken c) in
    let place3 = both_none (broken_outside c) (broken_taken c) in
    let use1 = both_none (broken_needs (all_rules c)) (broken_same (all_rules c)) in
    let chain1 = both_none (broken_loop c) (broken_long c <|> broken_twice c) in
    let chain2 = both_none (broken_long c) (broken_twice c) in (
      λ h.
          let h1 = p1.0 h in
          let h2 = p2.0 h1.1 in
          let h3 = p3.0 h2.1 in
          let h4 = p4.0 h3.1 in
          let h5 = p5.0 h4.1 in
          let h6 = p6.0 h5.1 in
          let h7 = p7.0 h6.1 in
          let a1 = place1.0 h5.0 in
          let a2 = place2.0 a1.1 in
          let a3 = place3.0 a2.1 in
          let u1 = use1.0 h6.0 in
          let c1 = chain1.0 h7.0 in
          let c2 = chain2.0 c1.1 in
          record {
            limit = h1.0;
            name = h2.0;
            id = h3.0;
            reference = h4.0;
            reserved = a1.0;
            nested = a2.0;
            outside = a3.0;
            taken = a3.1;
            needs = u1.0;
            same = u1.1;
            loop = c1.0;
            long = c2.0;
            twice = c2.1;
            overlap = h7.1;
          },
      λ k.
          let place = place1.1 (k.reserved, place2.1 (k.nested, place3.1 (k.outside, k.taken))) in
          let uses = use1.1 (k.needs, k.same) in
          let chain = chain1.1 (k.loop, chain2.1 (k.long, k.twice)) in
          p1.1 (k.limit, p2.1 (k.name, p3.1 (k.id, p4.1 (k.reference, p5.1 (place, p6.1 (uses, p7.1 (chain, k.overlap))))))),
    )

pub valid_iff : (t : Topology) (c : Config) → (first_broken t c ≡ None) ↔ IsValid t c
valid_iff t c = (
  λ h.
      let k = (none_of_each t c).0 h in
      record {
        limits = (limits_iff t c).0 k.limit;
        names = (names_iff t c).0 k.name;
        numbers = (numbers_iff t c).0 k.id;
        references = (references_iff t c).0 k.reference;
        reserved = (reserved_iff c).0 k.reserved;
        flat = (flat_iff c).0 k.nested;
        inside = (holds_iff c).0 k.outside;
        addresses = (addresses_iff c).0 k.taken;
        ends = (ends_named_iff (all_rules c)).0 k.needs;
        two = (two_named_iff (all_rules c)).0 k.same;
        straight = (straight_iff c).0 k.loop;
        short = (short_iff c k.loop).0 k.long;
        once = (once_iff c k.loop).0 k.twice;
        apart = (apart_around_iff c).0 k.overlap;
      },
  λ v.
      let loop : broken_loop c ≡ None = (straight_iff c).1 v.straight in
      (none_of_each t c).1 (record {
        limit = (limits_iff t c).1 v.limits;
        name = (names_iff t c).1 v.names;
        id = (numbers_iff t c).1 v.numbers;
        reference = (references_iff t c).1 v.references;
        reserved = (reserved_iff c).1 v.reserved;
        nested = (flat_iff c).1 v.flat;
        outside = (holds_iff c).1 v.inside;
        taken = (addresses_iff c).1 v.addresses;
        needs = (ends_named_iff (all_rules c)).1 v.ends;
        same = (two_named_iff (all_rules c)).1 v.two;
        loop = loop;
        long = (short_iff c loop).1 v.short;
        twice = (once_iff c loop).1 v.once;
        overlap = (apart_around_iff c).1 v.apart;
      }),
)

-- a valid topology has compute nodes
pub form_of : (t : Topology) (c : Config) → IsTrue (has_nodes_form t) → first_broken t c ≡ None → IsTrue (has_topology_form t)
unfolding has_topology_form
form_of t c form none = let some = le-leb 1 (length t.nodes) ((valid_iff t c).0 none).limits.some_nodes in rw (form, some) refl
