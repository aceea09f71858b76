use Rattle.std.proofs.Common.{◌≡◌, Bool, true, false, ◌&&◌, ◌||◌, refl, sym, length}
use Rattle.ov_types.specs.First.{same_name}
use Rattle.chain_expand.specs.Expansion.{leads}
use Rattle.chain_expand.proofs.Reached.{leads_none}
use Rattle.chain_expand.proofs.loops.is_loop_of.Goals as goal

neither : (a b : Bool) → b ≡ false → false ≡ (a && b)
neither true b e = sym e
neither false b e = refl

pub returns-in-None : goal.returns-in-None
returns-in-None c =
    let config = c.args.config.now in
    let chain = c.args.chain.now in
    let name = c.args.name.now in
    neither (same_name chain name || leads config name chain) (leads config chain chain) (leads_none (length config.chains) config chain chain (sym c.in-None.ensures.place))
