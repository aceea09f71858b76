use Rattle.std.proofs.Common.{◌≡◌, refl, ap, map, sym, ◌∙◌}
use Rattle.ov_sync.specs.Keyed.{key_of}
use Rattle.vpn_holdings.specs.Moved.{targets_by_publication}
use Rattle.vpn_holdings.specs.Touched.{rows_by_key, touched}
use Rattle.vpn_tables.specs.Stored.{entry_of, key_at}
use Rattle.vpn_tables.proofs.Keeping.{few_steps, not_listed}
use Rattle.vpn_tables.proofs.EntriesStay.{few_rows, publication_entry}
use Rattle.vpn_tables.proofs.counted.change_publication.Goals as goal

pub returns-in-Ok-clause-stored : goal.returns-in-Ok-clause-stored
returns-in-Ok-clause-stored g c =
    let h = c.args.held.now in
    let d = c.args.delta in
    let rows = rows_by_key h (targets_by_publication h c.args.session d) (key_of d) in
    let keys : c.as_slice-keys.result.now ≡ map key_at rows = c.as_slice-keys.ensures.value ∙ c.in_ok-places.ensures ∙ ap (map key_at) c.requires.rows in
    c.refresh.ensures.stored h (λ k. c.make_places.ensures.stays k ∙ c.requires.stored k) (λ k none.
    publication_entry h c.args.session d c.uses_are_short.ensures (key_of d) refl k (not_listed c.as_slice-keys.result.now rows k keys none) ∙ ap (λ g. entry_of g k) (sym c.in-Ok.ensures.ok))

pub returns-in-Ok-clause-steps : goal.returns-in-Ok-clause-steps
returns-in-Ok-clause-steps g c =
    let h = c.args.held.now in
    let d = c.args.delta in
    let targets = targets_by_publication h c.args.session d in
    few_steps c.refresh.new.steps c.args.steps.now c.as_slice-keys.result.now (rows_by_key h targets (key_of d)) (touched h targets)
    c.refresh.ensures.steps (c.as_slice-keys.ensures.value ∙ c.in_ok-places.ensures ∙ ap (map key_at) c.requires.rows) (few_rows h targets (key_of d))

pub returns-clause-stored : goal.returns-clause-stored
returns-clause-stored g c = λ k.
    c.drop_empty.ensures k ∙ c.make_places.ensures.stays k ∙ c.requires.stored k ∙ ap (λ g. entry_of g k) (sym c.in-Err.ensures.err)
