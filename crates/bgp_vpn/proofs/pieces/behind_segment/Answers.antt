use Rattle.std.proofs.Common.{◌≡◌, ◌+◌, ◌*◌, ap, sym, ◌∙◌, ℕ}
use Rattle.bgp_wire.proofs.Octets.{range_from}
use Rattle.bgp_vpn.proofs.PieceLemmas.{piece_cut, piece_whole}
use Rattle.bgp_vpn.proofs.pieces.behind_segment.Goals as goal

-- the octets of a count and of so many numbers
sizes : (s t m n : ℕ) → s ≡ t → m ≡ n → 1 + s * m ≡ 1 + t * n
sizes s t m n first second = ap (λ (k : ℕ). 1 + k * m) first ∙ ap (λ (k : ℕ). 1 + t * k) second

pub returns-then-behind-len-clause-none : goal.returns-then-behind-len-clause-none
returns-then-behind-len-clause-none c =
    piece_cut _ _ c.args.octets.now _ (1 + c.from.result * c.from-2.result) c.requires (range_from 1 c.args.octets.now)
    (sym c.is_segment.ensures ∙ c.if-not-is_segment.false) (sizes _ _ _ _ c.from.ensures (c.from-2.ensures ∙ c.octet_at.ensures)) c.if-behind-len.true

pub returns-clause-same : goal.returns-clause-same
returns-clause-same c =
    piece_whole _ _ c.args.octets.now _ (1 + c.from.result * c.from-2.result) c.requires (range_from 1 c.args.octets.now)
    (sym c.is_segment.ensures ∙ c.if-not-is_segment.false) (sizes _ _ _ _ c.from.ensures (c.from-2.ensures ∙ c.octet_at.ensures)) c.if-behind-len.false
