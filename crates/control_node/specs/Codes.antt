-- How control nodes are told apart: by the codes of their parts.
use Rattle.std.specs.Prelude.{ℕ, List, Bool, refl}
use Rattle.std.specs.Coded.{Coded, code_by, coded×, coded_bool, coded_list, coded_ℕ}
use Rattle.node_core.specs.NodeModel.Codes.{coded_post}
use Rattle.node_core.specs.NodeModel.Step.{Post}
use Rattle.control_node.specs.Core.{Core}
use Rattle.control_node.specs.contracts.plan.ControlPlan as plans
use Rattle.control_node.specs.declared.plan.ControlPlan.{ControlPlan}

abbrev pub coded_core : Coded Core
coded_core =
    code_by (ControlPlan × (List Post × (List (List ℕ) × Bool)))
    (coded× plans.the_row.coded (coded× (coded_list coded_post) (coded× (coded_list (coded_list coded_ℕ)) coded_bool)))
    (λ n. (n.plan, (n.posts, (n.kept, n.failed))))
    (λ c. record { plan = c.0; posts = c.1.0; kept = c.1.1.0; failed = c.1.1.1 }) (λ _. refl)
