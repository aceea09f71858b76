use Rattle.inspect_walks.proofs.Around.{around, as_long, is_formed, some_prefix}
use Rattle.inspect_walks.proofs.rows.prefix_around.Goals as goal

pub unwrap-requires : goal.unwrap-requires
unwrap-requires c = some_prefix c.args.address.0 c.args.len c.requires c.past_start.result c.past_start.ensures c.new.result c.new.ensures

pub returns-clause-len : goal.returns-clause-len
returns-clause-len c = as_long c.args.address.0 c.args.len c.requires c.past_start.result c.past_start.ensures c.new.result c.new.ensures c.unwrap.result c.unwrap.ensures

pub returns-clause-containing : goal.returns-clause-containing
returns-clause-containing c = around c.args.address.0 c.args.len c.requires c.past_start.result c.past_start.ensures c.new.result c.new.ensures c.unwrap.result c.unwrap.ensures

pub returns-clause-prefix : goal.returns-clause-prefix
returns-clause-prefix c = is_formed c.args.address.0 c.args.len c.requires c.past_start.result c.past_start.ensures c.new.result c.new.ensures c.unwrap.result c.unwrap.ensures
