use Rattle.std.proofs.Common.{◌≡◌, ◌++◌, drop}
use Rattle.std.specs.Prelude.{string_bytes}
use Rattle.ov_types.specs.Rows.{rule_text}
use Rattle.inspect_changes.specs.Report.Lists.{more_text}
use Rattle.inspect_answers.proofs.idle_lines.append_more.Given as goal

abbrev pub invariant-loop-rule : goal.invariant-loop-rule
invariant-loop-rule l =
    string_bytes l.text ++ more_text rule_text (drop l.rule-index l.rules) ≡ string_bytes l.fn.text ++ more_text rule_text l.rules
