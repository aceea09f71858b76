use Rattle.std.proofs.Common.{◌≡◌, ◌++◌}
use Rattle.std.specs.List.{filter, filter_map}
use Rattle.vpn_holdings.specs.Indexed.{is_label_to, label_path}
use Rattle.vpn_holdings.proofs.received.push_labels.Given as goal

abbrev pub invariant-loop-at : goal.invariant-loop-at
invariant-loop-at l =
    l.paths.items ++ filter_map (label_path l.holdings l.imports) l.at-iterator
    ≡ l.fn.paths.items ++ filter_map (label_path l.holdings l.imports) (filter (λ e. is_label_to l.prefix e.0) l.labels.entries)
