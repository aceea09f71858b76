use Rattle.transform_model.proofs.Law.{forwarding_is_reachability, labels_lead_on, none_expires}
use Rattle.transform_model.proofs.forwarding_laws.forwarding_is_reachability.Goals as goal

pub returns : goal.returns
returns c = record { outcome = forwarding_is_reachability; labelled = labels_lead_on; in_time = none_expires }
