use Rattle.std.specs.Prelude.{◌≡◌, ◌∷◌, ◌++◌, [], map, List, Bool}
use Rattle.std.proofs.Common.{sym, ◌∙◌, ap, rules}
use Rattle.ov_types.specs.declared.vpn.VpnKey.{VpnKey}
use Rattle.ov_types.specs.declared.vpn.VpnRoute.{VpnRoute}
use Rattle.ov_sync.proofs.Ascending.{ascends, entries-map_of}
use Rattle.bgp_restart.specs.Events.{key_order}
use Rattle.bgp_restart.specs.Keeping.{row_of}
use Rattle.bgp_restart.proofs.Owning.{key_total}
use Rattle.bgp_restart.proofs.Listing.{row_more, rows_done}
use Rattle.bgp_restart.proofs.restart.rows_of.Goals as goal

pub loop-key-preserved : goal.loop-key-preserved
loop-key-preserved c =
    let steps : c.loop-key.key-iterator ≡ (c.in-Some.key.now, c.in-Some.held.now) ∷ c.next.new.self = c.in-Some.ensures.steps in
    let same : c.in_ok-clone.field-0 ≡ c.in-Some.held.now.0 = search rules in (
      tt,
      tt,
      row_more row_of c.loop-key.rows.items c.push.new.self.items _ _ (c.in-Some.key.now, c.in-Some.held.now) _ steps
          (c.in_ok-push.ensures.items ∙ ap (λ (v : VpnRoute). c.loop-key.rows.items ++ (c.in-Some.key.now, v, c.in-Some.held.now.1) ∷ []) same) c.loop-key.invariant.2,
    )

pub returns : goal.returns
returns c =
    rows_done row_of c.loop-key.rows.items c.loop-key.key-iterator _ c.in-None.ensures.steps.0 c.loop-key.invariant.2
    ∙ ap (λ (es : List (VpnKey × (VpnRoute × Bool))). map row_of es) (sym (entries-map_of key_order key_total c.args.all.now (ascends key_order c.args.all.now c.iter-key-items.ensures.ascending)))
