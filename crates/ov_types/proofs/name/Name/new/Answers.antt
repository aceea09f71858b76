use Rattle.std.proofs.Common.{sym}
use Rattle.ov_types.proofs.Names.{fields_hold}
use Rattle.ov_types.proofs.name.Name.new.Goals as goal

pub invariant_of-result : goal.invariant_of-result
invariant_of-result c = fields_hold c.copy_from_slice.new.self c.as_bytes-bytes.result.now c.copy_from_slice.ensures.after (sym (c.if-not-is_name_text.ensures))
