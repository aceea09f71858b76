use Rattle.std.proofs.Common.{◌∙◌, ap, ℕ}
use Rattle.rt_membership.specs.declared.asked.Asked.{Asked}
use Rattle.rt_membership.specs.Entries.{first_bits}
use Rattle.rt_membership.proofs.Lying.{first_read, second_read}
use Rattle.rt_membership.proofs.entry.asked_of.Goals as goal

abbrev asked : ℕ → ℕ → ℕ → Asked
asked length origin target = record { length = length; origin = origin; target = record { 0 = target } }

pub returns : goal.returns
returns c =
    let bits = c.args.entry.now.bits in
    let origin = c.read_u32.ensures ∙ first_read c.filled-octets.result c.args.entry.now.octets.now _ c.filled-octets.ensures in
    let number = c.target_in.ensures ∙ second_read c.filled-octets.result c.args.entry.now.octets.now _ c.filled-octets.ensures in
    let target = c.first_bits.ensures ∙ ap (first_bits bits) number in
    ap (λ (n : ℕ). asked bits n c.first_bits.result) origin ∙ ap (asked bits _) target
