use Rattle.std.proofs.Common.{◌∙◌, sym, ap}
use Rattle.serde_json.specs.Read.{read}
use Rattle.ov_io.proofs.JsonLaws.{json_of_text, json_of_other}
use Rattle.ov_io.proofs.json.value_of.Goals as goal

pub returns-in_default : goal.returns-in_default
returns-in_default c = json_of_other c.args.octets.now c.in_default.ensures.cases.0

pub returns-in-Ok-from_str : goal.returns-in-Ok-from_str
returns-in-Ok-from_str c =
    sym c.in-Ok-from_str.ensures.ok ∙ ap read c.in-Ok.ensures.cases.0 ∙ json_of_text c.args.octets.now c.in-Ok.ensures.cases.1

pub returns-else-is_memory : goal.returns-else-is_memory
returns-else-is_memory c =
    sym (c.in-Err.ensures.err (λ m. let t = c.is_memory.ensures.1 m in cc)) ∙ ap read c.in-Ok.ensures.cases.0 ∙ json_of_text c.args.octets.now c.in-Ok.ensures.cases.1
