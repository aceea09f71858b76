use Rattle.std.proofs.Common.{◌∙◌, None}
use Rattle.std.proofs.lemmas.Str.Pattern.{split_once_first}
use Rattle.ov_types.specs.Written.{block_of}
use Rattle.ov_types.proofs.Lengths.{no_slash}
use Rattle.ov_types.proofs.written.prefix_from.Goals as goal

pub returns-in_err-address : goal.returns-in_err-address
unfolding block_of
returns-in_err-address c = c.from_residual.ensures ∙ no_slash c.args.text.now _ (split_once_first 47 c.args.text.now None c.in_err-address.ensures.cases (omega Rattle.std.proofs.Common.arith))
