use Rattle.std.proofs.Common.{◌≡◌, ◌≤◌, ℕ, List, ◌∷◌, [], slice_index, drop, length, refl, ap, arith}
use Rattle.bgp_wire.specs.Frames.{least}
use Rattle.bgp_wire.proofs.message.read_body.Goals as goal

two_first : (xs : List ℕ) → 2 ≤ length xs → xs ≡ slice_index xs 0 ∷ slice_index xs 1 ∷ drop 2 xs
two_first [] h = absurd (omega arith)
two_first (a ∷ []) h = absurd (omega arith)
two_first (a ∷ b ∷ xs) h = refl

pub returns-in-Notification-clause-message : goal.returns-in-Notification-clause-message
returns-in-Notification-clause-message c =
    let bound = ap least c.in-Notification.is in
    (c.in-Notification.is, (drop 2 c.args.body.now, two_first c.args.body.now (omega (arith, bound, c.requires.least_length))))
