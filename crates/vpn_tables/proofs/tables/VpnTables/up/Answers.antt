use Rattle.std.proofs.Common.{◌≡◌, ap, refl, ◌∙◌}
use Rattle.std.specs.Prelude.{Bool, cond, true, false}
use Rattle.ov_types.specs.Prefix.{Block}
use Rattle.ov_types.specs.declared.numbers.InstanceId.{InstanceId}
use Rattle.node_model.specs.Paths.{Holdings}
use Rattle.vpn_holdings.specs.Answers.{is_up_at}
use Rattle.vpn_tables.specs.Stored.{key_at, stored_at}
use Rattle.vpn_tables.specs.declared.stored.Entry.{Entry}
use Rattle.vpn_tables.proofs.tables.VpnTables.up.Goals as goal

by_end : (h : Holdings) (i : InstanceId) (q : Block) (b : Bool) → cond b (is_up_at h i q true) (is_up_at h i q false) ≡ is_up_at h i q b
by_end h i q true = refl
by_end h i q false = refl

pub returns : goal.returns
returns c =
    let s = c.self.inside in
    let i = c.args.hop in
    let q = c.args.subnet.now in
    c.is_up.ensures
    ∙ ap (λ (e : Entry). cond c.args.right e.is_up_right e.is_up_left) (c.entry_at-entry.ensures ∙ ap (stored_at s.stored) c.row_key.ensures ∙ c.self.invariant (key_at (i, q)))
    ∙ by_end s.held i q c.args.right ∙ ap (λ (h : Holdings). is_up_at h i q c.args.right) c.self.view_is
