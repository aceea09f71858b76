-- What is kept of the input of each command, and what is said of each end.
use Rattle.std.proofs.Common.{refl}
use Rattle.overlay.specs.Keeping.{EachInputIsKept}
use Rattle.overlay.specs.Saying.{EachEndHasItsLine}

pub each_input_is_kept : EachInputIsKept
each_input_is_kept = record {
  compile = λ heard h. h.document (λ e. absurd (cc e));
  reach = λ heard h. h.document (λ e. absurd (cc e));
  scale = λ heard h. h.document (λ e. absurd (cc e));
  constrain = λ heard h. h.document (λ e. absurd (cc e));
  graceful = λ heard h. h.document (λ e. absurd (cc e));
  flows = λ heard h. h.document (λ e. absurd (cc e));
  run = λ heard h. h.document (λ e. absurd (cc e));
  decode = λ heard h. h.digits refl;
}

pub each_end_has_its_line : EachEndHasItsLine
each_end_has_its_line = record {
  read_fault = λ front heard told h. h;
  too_long = λ front heard told h. h;
  write_fault = λ front heard told h. h;
  no_memory = λ front heard told h. h;
}
