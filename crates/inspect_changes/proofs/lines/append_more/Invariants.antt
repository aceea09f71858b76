use Rattle.std.proofs.Common.{◌≡◌, ◌++◌, drop}
use Rattle.std.specs.Prelude.{decimal, string_bytes}
use Rattle.report.specs.Lists.{more_text}
use Rattle.inspect_changes.proofs.lines.append_more.Given as goal

abbrev pub invariant-loop-service : goal.invariant-loop-service
invariant-loop-service l =
    string_bytes l.text ++ more_text (λ s. decimal s.0) (drop l.service-index l.services)
    ≡ string_bytes l.fn.text ++ more_text (λ s. decimal s.0) l.services
