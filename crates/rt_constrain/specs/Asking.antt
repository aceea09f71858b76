-- What a control node asks of its peers.
use Rattle.std.specs.Prelude.{◌≡◌, ℕ, List, map}
use Rattle.std.specs.declared.cmp.Ordering.{Ordering}
use Rattle.std.specs.List.{flat_map}
use Rattle.ov_types.specs.declared.numbers.InstanceId.{InstanceId}
use Rattle.route_targets.specs.Numbers.{target_of}
use Rattle.node_model.specs.Members.{Member}
use Rattle.node_model.specs.Paths.{Holdings}
use Rattle.node_model.specs.Uses.{imports}
use Rattle.vpn_tables.specs.Gathered.{in_order}
use Rattle.rt_constrain.specs.Cut.{cut_to}
use Rattle.rt_constrain.specs.Needs.{IsNeeded}
use Rattle.rt_membership.specs.contracts.asked.AskedOrd.TheImpl as entries
use Rattle.rt_membership.specs.declared.asked.Asked.{Asked}
use Rattle.rt_constrain.specs.Covering.{covers}
use Rattle.rt_constrain.specs.Needed.{needed}

abbrev pub asked_order : Asked → Asked → Ordering
asked_order = entries.ghosts.cmp

-- what asks for the routes of an instance: its whole target, by the system's own number
abbrev pub asked_for : ℕ → InstanceId → Asked
asked_for asn i = record { length = 96; origin = asn; target = target_of asn i }

-- the targets of the imports of the needed instances, each once, in order
abbrev pub asked : Holdings → List Asked
asked h = in_order asked_order (map (asked_for h.asn) (flat_map (imports h.feed) (needed h)))

-- what is held, with the routes of each peer restricted to those that are asked
abbrev pub cut : Holdings → Holdings
cut h = cut_to (covers (asked h)) h

-- ---- what is asked for, said as a relation
-- the whole target of an import of a needed instance, asked by the system's own number
pub record IsAskedFor (h : Holdings) (a : Asked) : Type 0 where
  pub instance : InstanceId
  pub needed : IsNeeded h instance
  pub import : InstanceId
  pub imported : Member import (imports h.feed instance)
  pub is : a ≡ asked_for h.asn import
