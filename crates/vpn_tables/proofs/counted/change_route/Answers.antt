use Rattle.std.proofs.Common.{◌≡◌, ap, map, sym, ◌∙◌}
use Rattle.ov_sync.specs.Keyed.{key_of}
use Rattle.vpn_holdings.specs.Moved.{targets_by_route}
use Rattle.vpn_holdings.specs.Touched.{touched, touched_rows}
use Rattle.vpn_tables.specs.Stored.{entry_of, key_at}
use Rattle.vpn_tables.proofs.Keeping.{few_steps, not_listed}
use Rattle.vpn_tables.proofs.EntriesStay.{few_touched, route_entry}
use Rattle.vpn_tables.proofs.counted.change_route.Goals as goal

pub returns-in-Ok-clause-stored : goal.returns-in-Ok-clause-stored
returns-in-Ok-clause-stored g c =
    let h = c.args.held.now in
    let d = c.args.delta in
    let rows = touched_rows h (targets_by_route h c.args.session d) (key_of d).prefix in
    let keys : c.as_slice-keys.result.now ≡ map key_at rows = c.as_slice-keys.ensures.value ∙ c.in_ok-places.ensures ∙ ap (map key_at) c.requires.rows in
    c.refresh.ensures.stored h (λ k. c.make_places.ensures.stays k ∙ c.requires.stored k) (λ k none.
    route_entry h c.args.session d c.uses_are_short.ensures k (not_listed c.as_slice-keys.result.now rows k keys none) ∙ ap (λ g. entry_of g k) (sym c.in-Ok.ensures.ok))

pub returns-in-Ok-clause-steps : goal.returns-in-Ok-clause-steps
returns-in-Ok-clause-steps g c =
    let h = c.args.held.now in
    let d = c.args.delta in
    let targets = targets_by_route h c.args.session d in
    few_steps c.refresh.new.steps c.args.steps.now c.as_slice-keys.result.now (touched_rows h targets (key_of d).prefix) (touched h targets)
    c.refresh.ensures.steps (c.as_slice-keys.ensures.value ∙ c.in_ok-places.ensures ∙ ap (map key_at) c.requires.rows) (few_touched h targets (key_of d).prefix)

pub returns-clause-stored : goal.returns-clause-stored
returns-clause-stored g c = λ k.
    c.drop_empty.ensures k ∙ c.make_places.ensures.stays k ∙ c.requires.stored k ∙ ap (λ g. entry_of g k) (sym c.in-Err.ensures.err)
