use Rattle.std.proofs.Common.{◌≡◌, drop}
use Rattle.explanations.specs.Digits.{scanned}
use Rattle.explanations.proofs.digits.DigitScan.go_on.Given as goal

abbrev pub invariant-loop-octet : goal.invariant-loop-octet
invariant-loop-octet l = scanned l.scan (drop l.octet-index l.octets) ≡ scanned l.fn.self l.fn.octets
