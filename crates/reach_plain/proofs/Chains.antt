-- Chain rules decide on a packet and its answer in opposite directions.
use Rattle.std.proofs.Common.{◌≡◌, ◌≢◌, ℕ, not, List, Some, None, refl, sym, ap}
use Rattle.ov_types.specs.declared.packet.Tuple.{Tuple}
use Rattle.config_types.specs.declared.config.Action.TheVariants.{Through}
use Rattle.config_types.specs.declared.config.Config.{Config}
use Rattle.config_types.specs.declared.config.End.{End}
use Rattle.config_types.specs.declared.config.End.TheVariants.{Any, Named}
use Rattle.config_types.specs.declared.config.Network.{Network}
use Rattle.config_types.specs.declared.topology.Topology.{Topology}
use Rattle.policy_rules.specs.Matching.{deciding}
use Rattle.policy_rules.specs.declared.matching.Match.{Match}
use Rattle.policy_rules.specs.Answering.{answering, SpeakBothWays}
use Rattle.policy_rules.proofs.Answers.{opposite}
use Rattle.policy_rules.proofs.Deciders.{of_decider}
use Rattle.config_check.specs.Rules.{first_broken}
use Rattle.config_check.specs.Sentences.{NamesEnds, NamesTwo}
use Rattle.reach_plain.proofs.Kept.{valid}

-- two ends, neither of them `any`, and not one network
two_ends : (s d : End) → s ≢ Any → d ≢ Any → ((name : List ℕ) → s ≡ Named name → d ≢ Named name) → (x y : List ℕ) × (s ≡ Named x) × (d ≡ Named y) × (x ≢ y)
two_ends Any d no_source no_destination differ = absurd (no_source refl)
two_ends (Named x) Any no_source no_destination differ = absurd (no_destination refl)
two_ends (Named x) (Named y) no_source no_destination differ = (x, y, refl, refl, λ same. differ x refl (ap Named (sym same)))

pub chain_rules_opposite : (t : Topology) (c : Config) (a b : Network) (tuple : Tuple) (m n : Match) (chain : List ℕ) (use_no : ℕ) → first_broken t c ≡ None → SpeakBothWays c a b
    → deciding c a b tuple ≡ Some m → deciding c b a (answering tuple) ≡ Some n → m.rule.rule.action ≡ Through chain use_no → n.mirrored ≡ not m.mirrored
chain_rules_opposite t c a b tuple m n chain use_no h each e f through =
    let kept = valid t c h in
    let named : NamesEnds m.rule.rule = of_decider (λ r. NamesEnds r.rule) c a b tuple m kept.ends e in
    let differ : NamesTwo m.rule.rule = of_decider (λ r. NamesTwo r.rule) c a b tuple m kept.two e in
    let ends = named chain use_no through in
    opposite c a b tuple m n each e f
    (two_ends m.rule.rule.source m.rule.rule.destination ends.0 ends.1 (λ name at. differ chain name use_no through at))
