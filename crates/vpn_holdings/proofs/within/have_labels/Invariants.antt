use Rattle.std.proofs.Common.{◌≡◌}
use Rattle.std.specs.List.{list_any}
use Rattle.vpn_holdings.specs.Indexed.{leads_label}
use Rattle.vpn_holdings.proofs.within.have_labels.Given as goal

abbrev pub invariant-loop-at : goal.invariant-loop-at
invariant-loop-at l =
    list_any (leads_label l.holdings l.imports l.subnet) l.at-iterator
    ≡ list_any (leads_label l.holdings l.imports l.subnet) l.labels.entries
