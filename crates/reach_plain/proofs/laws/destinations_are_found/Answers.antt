use Rattle.reach_plain.proofs.Becoming.{target_iff}
use Rattle.reach_plain.proofs.Found.{towards_none, none_towards}
use Rattle.reach_plain.proofs.laws.destinations_are_found.Goals as goal

pub returns : goal.returns
returns c = record { network = target_iff; none = λ n own address. (towards_none n own address, none_towards n own address) }
