use Rattle.serde_json.specs.View.{view}
use Rattle.item_wire.proofs.Floats.{spelled}
use Rattle.item_wire.proofs.writer.json_of.Goals as goal

pub returns : goal.returns
returns c = spelled c.to_string.result c.args.item.now (view c.in_ok-value.value) c.in_ok-value.ensures c.to_string.ensures.text
