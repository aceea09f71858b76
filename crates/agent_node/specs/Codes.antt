-- How agents are told apart.
use Rattle.std.specs.Prelude.{ℕ, List, Bool, refl}
use Rattle.std.specs.Coded.{Coded, code_by, coded×, coded_bool, coded_list, coded_ℕ}
use Rattle.ov_types.specs.declared.rows.AgentRows.{AgentRows}
use Rattle.ov_types.specs.contracts.rows.AgentRows as rows
use Rattle.node_core.specs.NodeModel.Codes.{coded_post}
use Rattle.node_core.specs.NodeModel.Step.{Post}
use Rattle.agent_node.specs.Core.{Core}
use Rattle.agent_node.specs.declared.plan.AgentPlan.{AgentPlan}
use Rattle.agent_node.specs.contracts.plan.AgentPlan as plans

abbrev pub coded_core : Coded Core
coded_core =
    code_by (AgentPlan × (List Post × (List (List ℕ) × (AgentRows × Bool))))
    (coded× plans.the_row.coded (coded× (coded_list coded_post) (coded× (coded_list (coded_list coded_ℕ))
    (coded× rows.the_row.coded coded_bool))))
    (λ c. (c.plan, (c.posts, (c.kept, (c.rows, c.failed)))))
    (λ p. record { plan = p.0; posts = p.1.0; kept = p.1.1.0; rows = p.1.1.1.0; failed = p.1.1.1.1 }) (λ _. refl)
