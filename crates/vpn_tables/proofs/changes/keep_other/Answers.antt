use Rattle.std.proofs.Common.{rules}
use Rattle.std.proofs.lemmas.Fn.{filter_same}
use Rattle.vpn_tables.proofs.MovedRows.{is_other, kept_other}
use Rattle.vpn_tables.proofs.changes.keep_other.Goals as goal

pub returns : goal.returns
returns c = kept_other c.args.changes.now.items c.retain.new.self.items (filter_same _ is_other _ (λ x b f' k. search rules) _ _ c.retain.ensures.filtered)
