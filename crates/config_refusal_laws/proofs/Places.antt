-- Refusals of subnets and of ports' addresses name what overlaps, lies outside or is taken.
use Rattle.std.proofs.Common.{◌≡◌, ◌==◌, ℕ, Bool, true, false, not, IsTrue, Option, Some, None, IfSome, find, refl, sym}
use Rattle.std.specs.Cmp.Lexicographic.{same_text}
use Rattle.std.specs.List.{Any, Contains}
use Rattle.std.specs.Option.{option_map_or, IsSomeAnd}
use Rattle.std.proofs.lemmas.Bool.{and_parts, eqb-true}
use Rattle.std.proofs.lemmas.List.Folds.{list_any-from_Any}
use Rattle.ov_types.specs.Prefix.{Block, contains}
use Rattle.config_types.specs.declared.config.Config.{Config}
use Rattle.config_types.specs.declared.config.Network.{Network}
use Rattle.config_types.specs.declared.config.Port.{Port}
use Rattle.config_types.specs.declared.topology.Topology.{Topology}
use Rattle.ov_types.specs.First.{same_name, ◌<|>◌, first_meeting}
use Rattle.config_check.specs.declared.refusal.Refusal.{Refusal}
use Rattle.config_check.proofs.Meanings.{overlap_iff}
use Rattle.config_check.specs.declared.refusal.Refusal.TheVariants.{SubnetReserved, SubnetNested, AddressOutside, AddressTaken}
use Rattle.config_check.specs.Rules.{overlap, circuit_addresses, reserved_in, broken_reserved, nested_in, broken_nested, network_named, holds_address, is_outside, broken_outside, share_address, broken_taken, broken_place}
use Rattle.config_check.specs.Sentences.{Overlap}
use Rattle.config_refusal_laws.specs.Breaks.{StandsBefore, LiesOutside, ShareAddress, Breaks}
use Rattle.config_refusal_laws.proofs.Firsts.{first_pair}
use Rattle.ov_types.proofs.FirstLemmas.{any_of, of_either, of_mapped, of_first, found, found_in}

-- subnets

pub overlaps : (p q : Block) → overlap p q ≡ true → Overlap p q
overlaps p q h = (overlap_iff p q).0 h

of_reserved : (t : Topology) (c : Config) (n : Network) → Contains c.networks n → IfSome (reserved_in n) (Breaks t c)
of_reserved t c n inside =
    of_mapped (Breaks t c) (λ (p : Block). SubnetReserved n.name p) (find (overlap circuit_addresses) n.subnets)
    (λ p e.
    let f = found (overlap circuit_addresses) n.subnets p e in
    any_of (λ (m : Network). (m.name ≡ n.name) × Contains m.subnets p × Overlap circuit_addresses p) c.networks n inside
    (refl, found_in (overlap circuit_addresses) n.subnets p f, overlaps circuit_addresses p f.passes))

reserved_breaks : (t : Topology) (c : Config) → IfSome (broken_reserved c) (Breaks t c)
unfolding broken_reserved
reserved_breaks t c = of_first (Breaks t c) reserved_in c.networks (of_reserved t c)

of_nested : (t : Topology) (c : Config) (n : Network) → Contains c.networks n → IfSome (nested_in n) (Breaks t c)
of_nested t c n inside =
    of_mapped (Breaks t c) (λ (m : Block × Block). SubnetNested n.name m.0 m.1) (first_meeting overlap n.subnets)
    (λ m e.
    let h = first_pair overlap n.subnets m e in
    any_of (λ (x : Network). (x.name ≡ n.name) × StandsBefore x.subnets m.0 m.1 × Overlap m.0 m.1) c.networks n inside (refl, h.0, overlaps m.0 m.1 h.1))

nested_breaks : (t : Topology) (c : Config) → IfSome (broken_nested c) (Breaks t c)
unfolding broken_nested
nested_breaks t c = of_first (Breaks t c) nested_in c.networks (of_nested t c)

-- ports

not_held : (b : Bool) → not b ≡ true → ¬ (b ≡ true)
not_held true h = λ e. cc
not_held false h = λ e. cc

pub outside_of : (o : Option Network) (a : ℕ) → option_map_or (λ n. not (holds_address n a)) o false ≡ true → IsSomeAnd o (λ n. ¬ Any (λ s. IsTrue (contains s a)) n.subnets)
outside_of None a h = cc
outside_of (Some n) a h = λ some. not_held (holds_address n a) h (list_any-from_Any (λ s. contains s a) n.subnets some)

outside_breaks : (t : Topology) (c : Config) → IfSome (broken_outside c) (Breaks t c)
unfolding broken_outside
outside_breaks t c =
    of_mapped (Breaks t c) (λ (p : Port). AddressOutside p.name) (find (is_outside c) c.ports)
    (λ p e.
    let f = found (is_outside c) c.ports p e in
    any_of (λ (q : Port). (q.name ≡ p.name) × LiesOutside c q) c.ports p (found_in (is_outside c) c.ports p f)
    (refl, outside_of (network_named c p.network) p.address.0 f.passes))

shares : (c : Config) (p q : Port) → StandsBefore c.ports p q → share_address p q ≡ true → ShareAddress c p q
shares c p q places h =
    let parts = and_parts (same_name p.network q.network) (p.address.0 == q.address.0) h in
    record { ports = places; network = same_text p.network q.network (sym parts.0); address = eqb-true p.address.0 q.address.0 parts.1 }

taken_breaks : (t : Topology) (c : Config) → IfSome (broken_taken c) (Breaks t c)
unfolding broken_taken
taken_breaks t c =
    of_mapped (Breaks t c) (λ (m : Port × Port). AddressTaken m.0.name m.1.name) (first_meeting share_address c.ports)
    (λ m e. let h = first_pair share_address c.ports m e in (m.0, m.1, refl, refl, shares c m.0 m.1 h.0 h.1))

pub place_breaks : (t : Topology) (c : Config) → IfSome (broken_place c) (Breaks t c)
place_breaks t c =
    let B : Refusal → Type 0 = Breaks t c in
    of_either B (broken_reserved c) (broken_nested c <|> (broken_outside c <|> broken_taken c)) (reserved_breaks t c)
    (of_either B (broken_nested c) (broken_outside c <|> broken_taken c) (nested_breaks t c)
    (of_either B (broken_outside c) (broken_taken c) (outside_breaks t c) (taken_breaks t c)))
