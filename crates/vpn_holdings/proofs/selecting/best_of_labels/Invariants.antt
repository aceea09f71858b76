use Rattle.std.proofs.Common.{◌≡◌}
use Rattle.std.specs.List.{filter}
use Rattle.vpn_holdings.specs.At.{best_over}
use Rattle.vpn_holdings.specs.Indexed.{is_label_to, label_path}
use Rattle.vpn_holdings.proofs.selecting.best_of_labels.Given as goal

abbrev pub invariant-loop-at : goal.invariant-loop-at
invariant-loop-at l =
    best_over (label_path l.holdings l.imports) l.best l.at-iterator
    ≡ best_over (label_path l.holdings l.imports) l.fn.first (filter (λ e. is_label_to l.prefix e.0) l.labels.entries)
