-- What digits spell has a report, and nothing is a front of what `decode` writes.
use Rattle.std.proofs.Common.{false, ◌≡◌, ℕ, List, [], ◌∷◌, ◌++◌, Option, Some, None, Result, Ok, Err, codes, refl}
use Rattle.std.specs.Result.{result_ok}
use Rattle.hex.specs.Hex.{decode_of}
use Rattle.hex.specs.declared.error.FromHexError.{FromHexError}
use Rattle.hex.proofs.HexLemmas.{decode_of-ok}
use Rattle.bgp_wire.specs.Messages.{AreOctets}
use Rattle.ov_io.specs.Pieces.{TookFrontOf}
use Rattle.ov_io.proofs.PieceLemmas.{took_nothing}
use Rattle.decode_answers.specs.Decoding.{WritesSpelled, spelled, without_blanks}
use Rattle.decode_answers.proofs.SomeReport.{some_report}

ok_from : (r : Result (List ℕ) FromHexError) (octets : List ℕ) → result_ok r ≡ Some octets → r ≡ Ok octets
ok_from (Ok x) octets e = cc
ok_from (Err f) octets e = absurd cc

-- what digits spell is octets
octets_spelled : (text octets : List ℕ) → spelled text ≡ Some octets → AreOctets octets
unfolding spelled
octets_spelled text octets e =
    let digits = without_blanks text in
    (decode_of-ok digits octets (ok_from (decode_of digits) octets e)).3

pub text_spelled : (text : List ℕ) (o : Option (List ℕ)) → spelled text ≡ o → (said : List ℕ) × WritesSpelled o said
text_spelled text None e = (codes "not hex" ++ (10 ∷ []), refl)
text_spelled text (Some octets) e = some_report false octets (octets_spelled text octets e)

-- nothing is a front of what `decode` writes
pub nothing_spelled : (text : List ℕ) (old : Option (List ℕ)) → TookFrontOf (WritesSpelled (spelled text)) old old
nothing_spelled text old =
    let some = text_spelled text (spelled text) refl in
    record { text = some.0; is = some.1; taken = took_nothing old some.0 }
