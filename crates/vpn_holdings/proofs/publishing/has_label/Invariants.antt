use Rattle.std.proofs.Common.{◌≡◌, ◌==◌}
use Rattle.std.specs.List.{list_any}
use Rattle.ov_types.specs.Prefix.{Block}
use Rattle.vpn_holdings.specs.declared.places.LabelAt.{LabelAt}
use Rattle.vpn_holdings.proofs.publishing.has_label.Given as goal

abbrev pub invariant-loop-at : goal.invariant-loop-at
invariant-loop-at l = list_any (λ (e : LabelAt × Block). e.0.session == l.session) l.at-iterator ≡ list_any (λ (e : LabelAt × Block). e.0.session == l.session) l.labels.entries
