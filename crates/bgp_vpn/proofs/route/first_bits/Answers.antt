use Rattle.std.proofs.Common.{sym, ◌∙◌, subst, refl}
use Rattle.std.specs.Option.{IsSome}
use Rattle.bgp_vpn.proofs.ValueLemmas.{first_bits_are, small_power}
use Rattle.bgp_vpn.proofs.route.first_bits.Goals as goal

pub unwrap-requires : goal.unwrap-requires
unwrap-requires c =
    let is = c.new.ensures ∙ first_bits_are c.args.len c.from.result _ c.requires (small_power c.args.len) in
    subst IsSome (sym is) refl
