-- A configuration that has all that another has, with the same rules between the other's networks.
use Rattle.std.proofs.Common.{◌≡◌, sym, ap, ◌∙◌}
use Rattle.std.specs.List.{Contains, slice_get}
use Rattle.ov_types.specs.declared.packet.Tuple.{Tuple}
use Rattle.config_types.specs.declared.config.Chain.{Chain}
use Rattle.config_types.specs.declared.config.Network.{Network}
use Rattle.config_types.specs.declared.config.Policy.{Policy}
use Rattle.config_types.specs.declared.config.Port.{Port}
use Rattle.config_types.specs.declared.config.Service.{Service}
use Rattle.config_types.specs.declared.topology.Node.{Node}
use Rattle.policy_rules.specs.Related.{rules_between}
use Rattle.policy_rules.specs.Standing.{IsBetween}
use Rattle.policy_rules.specs.Taking.{IsDeciding}
use Rattle.policy_rules.specs.declared.matching.Match.{Match}
use Rattle.policy_rules.specs.declared.numbered.NumberedRule.{NumberedRule}
use Rattle.config_check.specs.Checked.{Checked}

pub record Grows (x y : Checked) : Type 0 where
  pub networks : (n : Network) → Contains x.config.networks n → Contains y.config.networks n
  pub ports : (q : Port) → Contains x.config.ports q → Contains y.config.ports q
  pub policies : (q : Policy) → Contains x.config.policies q → Contains y.config.policies q
  pub services : (s : Service) → Contains x.config.services s → Contains y.config.services s
  pub chains : (d : Chain) → Contains x.config.chains d → Contains y.config.chains d
  pub nodes : (n : Node) → Contains x.topology.nodes n → Contains y.topology.nodes n
  pub rules : (a b : Network) → Contains x.config.networks a → Contains x.config.networks b → rules_between x.config a b ≡ rules_between y.config a b

pub between_on : (x y : Checked) → Grows x y → (a b : Network) (r : NumberedRule) → IsBetween x.config a b r → IsBetween y.config a b r
between_on x y g a b r h =
    record {
      policy = h.policy;
      place = h.place;
      configured = g.policies h.policy h.configured;
      first_attaches = h.first_attaches;
      second_attaches = h.second_attaches;
      stands = h.stands;
      sequence = h.sequence;
      position = h.position;
      fits = h.fits;
    }

pub deciding_on : (x y : Checked) → Grows x y → (a b : Network) (t : Tuple) (m : Match) → Contains x.config.networks a → Contains x.config.networks b
    → IsDeciding x.config a b t m → IsDeciding y.config a b t m
deciding_on x y g a b t m has_a has_b h =
    let same = g.rules a b has_a has_b in
    record {
      place = h.place;
      stands = ap (λ rs. slice_get rs h.place) (sym same) ∙ h.stands;
      taken = h.taken;
      first = λ k r lt at. h.first k r lt (ap (λ rs. slice_get rs k) same ∙ at);
    }
