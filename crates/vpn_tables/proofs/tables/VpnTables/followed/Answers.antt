use Rattle.std.proofs.Common.{ap, subst, ◌∙◌}
use Rattle.node_model.specs.Paths.{Holdings}
use Rattle.vpn_tables.specs.Followed.{IsFollowed}
use Rattle.vpn_tables.specs.Stored.{key_at, stored_at}
use Rattle.vpn_tables.specs.declared.changes.Followed.{Followed}
use Rattle.vpn_tables.specs.declared.stored.Entry.{Entry}
use Rattle.vpn_tables.proofs.tables.VpnTables.followed.Goals as goal

pub returns : goal.returns
returns c =
    let s = c.self.inside in
    let i = c.args.i in
    let q = c.args.prefix.now in
    let f : Followed = (record { path = c.entry_at-entry.result.path; led_right = c.led_at.result; led_left = c.led_at-2.result }) in
    subst (λ (h : Holdings). IsFollowed h i q f) c.self.view_is (record {
      path = ap (λ (e : Entry). e.path) (c.entry_at-entry.ensures ∙ ap (stored_at s.stored) c.row_key.ensures ∙ c.self.invariant (key_at (i, q)));
      led_right = c.led_at.ensures;
      led_left = c.led_at-2.ensures;
    })
