use Rattle.chain_expand.specs.Expansion.{services_within}
use Rattle.std.specs.List.{flat_map}
use Rattle.std.proofs.Common.{arith, length, ◌≡◌, ◌++◌, ◌∙◌, sym, ap, List}
use Rattle.config_types.specs.declared.config.Service.{Service}
use Rattle.chain_expand.proofs.Expansions.{too_long}
use Rattle.chain_expand.proofs.Barren.{barren_with, none_added, adds_nothing, services_of_place, services_of_no_place}
use Rattle.chain_expand.specs.Links.{hops_at}
use Rattle.chain_expand.proofs.append.+append.Goals as goal

pub append_hops-returns-in-Full-clause-appended : goal.append_hops-returns-in-Full-clause-appended
append_hops-returns-in-Full-clause-appended t c =
    too_long (services_within c.args.depth c.args.config.now) c.args.found.now c.args.hops.now c.loop-hop.hop-index c.hop-item.result (omega arith) c.hop-item.is (rw (← c.loop-hop.invariant.found) c.in-Full.ensures.appended)

pub append_chain-returns-then-len-before-clause-barren : goal.append_chain-returns-then-len-before-clause-barren
append_chain-returns-then-len-before-clause-barren t c =
    let config = c.args.config.now in
    let services : List Service = flat_map (services_within c.args.depth config) (hops_at config c.args.place) in
    let before = c.args.found.now in
    let appended : c.append_hops.new.found ≡ before ++ services = rw (← c.hops_at.ensures) c.in-Fits.ensures.appended in
    let same : length (before ++ services) ≡ length before = sym (ap length appended) ∙ sym c.len.ensures ∙ c.if-len-before.true ∙ c.len-before.ensures in
    let few = c.requires.few in
    let within = c.requires.place in
    barren_with config c.append_hops.new.barren c.args.place c.args.depth c.append_hops.array_long (omega arith) c.in-Fits.ensures.barren (none_added before services same)

pub append_chain-returns-else-len-before-clause-appended : goal.append_chain-returns-else-len-before-clause-appended
append_chain-returns-else-len-before-clause-appended t c = rw (← c.hops_at.ensures) c.in-Fits.ensures.appended

pub append_hop-returns-in-None-clause-appended : goal.append_hop-returns-in-None-clause-appended
append_hop-returns-in-None-clause-appended t c =
    let none = services_of_no_place c.args.depth c.args.config.now c.args.hop.now (sym c.in_default.ensures) c.if-depth-eq0.false (sym c.in-None.ensures.place) in
    adds_nothing c.args.found.now (services_within c.args.depth c.args.config.now c.args.hop.now) none

pub append_hop-returns-in-Some-place_of-clause-appended : goal.append_hop-returns-in-Some-place_of-clause-appended
append_hop-returns-in-Some-place_of-clause-appended t c =
    rw (services_of_place c.args.depth c.args.config.now c.args.hop.now c.in-Some-place_of.place (sym c.in_default.ensures) c.if-depth-eq0.false (sym c.in-Some-place_of.ensures.place))
    c.append_chain.ensures.appended
