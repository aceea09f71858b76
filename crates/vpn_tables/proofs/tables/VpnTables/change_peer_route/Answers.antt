use Rattle.std.proofs.Common.{◌≡◌, IfOk, ap, map, subst, sym, ◌∙◌}
use Rattle.ov_sync.specs.Keyed.{key_of}
use Rattle.node_model.specs.Paths.{Holdings}
use Rattle.vpn_holdings.specs.Moved.{targets_by_route}
use Rattle.vpn_holdings.specs.Touched.{touched_rows}
use Rattle.vpn_tables.specs.Followed.{followed_at, unchanged_at}
use Rattle.vpn_tables.proofs.MovedRows.{each_told, every_told, route_followed}
use Rattle.vpn_tables.proofs.tables.VpnTables.change_peer_route.Goals as goal

pub returns-clause-each : goal.returns-clause-each
returns-clause-each g c =
    let h = c.args.self.now in
    let d = c.args.delta in
    each_told (λ v. v.items) h c.set_peer_route_at.new.self (touched_rows h (targets_by_route h c.args.session d) (key_of d).prefix) c.list_unchanged-listed.result c.changed_of.result
    (subst (λ rows. IfOk c.list_unchanged-listed.result (λ all. all.items ≡ map (unchanged_at h) rows)) (c.as_slice.ensures.value ∙ c.in_ok-touched.ensures) c.list_unchanged-listed.ensures)
    c.changed_of.ensures.other c.changed_of.ensures.none

pub returns-clause-every : goal.returns-clause-every
returns-clause-every g c =
    let h = c.args.self.now in
    let d = c.args.delta in
    every_told (λ v. v.items) h c.set_peer_route_at.new.self (touched_rows h (targets_by_route h c.args.session d) (key_of d).prefix) c.list_unchanged-listed.result c.changed_of.result
    (subst (λ rows. IfOk c.list_unchanged-listed.result (λ all. all.items ≡ map (unchanged_at h) rows)) (c.as_slice.ensures.value ∙ c.in_ok-touched.ensures) c.list_unchanged-listed.ensures)
    c.changed_of.ensures.other c.changed_of.ensures.none
    (λ i q clean. route_followed h c.args.session d c.uses_are_short.ensures i q clean ∙ ap (λ (g : Holdings). followed_at g i q) (sym c.in_ok-set_peer_route_at.ensures.ok))
