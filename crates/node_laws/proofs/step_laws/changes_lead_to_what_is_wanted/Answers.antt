use Rattle.node_model.proofs.OvSync.KeyedLaws.{after-difference, is_changed-difference}
use Rattle.node_model.specs.Values.{same_value}
use Rattle.node_model.proofs.Alike.{same_value_decides}
use Rattle.node_model.proofs.Orders.{key_exact, key_total}
use Rattle.node_laws.proofs.step_laws.changes_lead_to_what_is_wanted.Goals as goal

pub returns-clause-leads : goal.returns-clause-leads
returns-clause-leads c = after-difference same_value key_total same_value_decides key_exact

pub returns-clause-exactly : goal.returns-clause-exactly
returns-clause-exactly c = is_changed-difference same_value key_total key_exact same_value_decides
