use Rattle.std.specs.Prelude.{List, cond, None, ◌||◌}
use Rattle.std.specs.FinMap.{FinMap, get}
use Rattle.std.proofs.Common.{refl, sym, ◌∙◌, ap, subst}
use Rattle.ov_types.specs.declared.vpn.VpnKey.{VpnKey}
use Rattle.ov_types.specs.declared.vpn.VpnRoute.{VpnRoute}
use Rattle.ov_sync.specs.declared.Delta.{Delta}
use Rattle.ov_sync.specs.Keyed.{after, is_changed}
use Rattle.bgp_vpn.specs.Updates.{parts_of, Changes, HasUpdateFault}
use Rattle.bgp_restart.specs.Events.{Updated, key_order}
use Rattle.bgp_restart.specs.Keeping.{Kept}
use Rattle.bgp_restart.specs.Routes.{routes_in}
use Rattle.bgp_restart.proofs.Rooms.{Rooms}
use Rattle.bgp_restart.proofs.Steps.{updated_follows, nothing}
use Rattle.bgp_restart.proofs.restart.Restart.update.Goals as goal

pub returns-in-Err-clause-every_fault : goal.returns-in-Err-clause-every_fault
returns-in-Err-clause-every_fault c = λ f has. let e = c.in-Err.ensures.every_fault f (subst (λ (v : Kept). HasUpdateFault v.wide (parts_of c.args.part.now) f) (sym c.self.view_is) has) in cc

pub returns-in_err-add_rooms-clause-every_fault : goal.returns-in_err-add_rooms-clause-every_fault
returns-in_err-add_rooms-clause-every_fault c = λ f has. let e = c.in-Ok.ensures.every_fault f (subst (λ (v : Kept). HasUpdateFault v.wide (parts_of c.args.part.now) f) (sym c.self.view_is) has) in absurd cc

pub returns-then-is_end-clause-every_fault : goal.returns-then-is_end-clause-every_fault
returns-then-is_end-clause-every_fault c = λ f has. let e = c.in-Ok.ensures.every_fault f (subst (λ (v : Kept). HasUpdateFault v.wide (parts_of c.args.part.now) f) (sym c.self.view_is) has) in absurd cc

pub returns-else-is_end-clause-every_fault : goal.returns-else-is_end-clause-every_fault
returns-else-is_end-clause-every_fault c = λ f has. let e = c.in-Ok.ensures.every_fault f (subst (λ (v : Kept). HasUpdateFault v.wide (parts_of c.args.part.now) f) (sym c.self.view_is) has) in absurd cc

pub returns-then-is_end-clause-ok : goal.returns-then-is_end-clause-ok
returns-then-is_end-clause-ok c =
    let ds : List (Delta VpnKey VpnRoute) = c.in-Ok.changes.items in
    let old : Kept = c.args.self.now in (
      Updated ds c.is_end.result,
      (record { changes = ds; marks = c.is_end.result; is = refl; made = subst (λ (v : Kept). Changes v.wide (parts_of c.args.part.now) ds) c.self.view_is c.in-Ok.ensures.changes; decides = c.is_end.ensures }),
      updated_follows old _ ds c.is_end.result c.requires.up
          (ap (λ (v : Kept). v.up) c.self.view_is ∙ c.requires.up)
          (ap (λ (v : Kept). v.named) c.self.view_is)
          (ap (λ (v : Kept). v.wide) c.self.view_is)
          (c.apply.ensures ∙ ap (λ (m : FinMap key_order VpnRoute). after m ds) c.in_ok-add_rooms.ensures.routes
          ∙ ap (λ (v : Kept). after v.fresh ds) c.self.view_is)
          (λ k. ap (λ (es : Rooms). get (routes_in es) k) c.reset.ensures ∙ nothing k
          ∙ ap (λ b. cond (b || is_changed key_order ds k) None (get old.stale k)) (sym c.if-is_end.true)),
    )

pub returns-else-is_end-clause-ok : goal.returns-else-is_end-clause-ok
returns-else-is_end-clause-ok c =
    let ds : List (Delta VpnKey VpnRoute) = c.in-Ok.changes.items in
    let old : Kept = c.args.self.now in (
      Updated ds c.is_end.result,
      (record { changes = ds; marks = c.is_end.result; is = refl; made = subst (λ (v : Kept). Changes v.wide (parts_of c.args.part.now) ds) c.self.view_is c.in-Ok.ensures.changes; decides = c.is_end.ensures }),
      updated_follows old _ ds c.is_end.result c.requires.up
          (ap (λ (v : Kept). v.up) c.self.view_is ∙ c.requires.up)
          (ap (λ (v : Kept). v.named) c.self.view_is)
          (ap (λ (v : Kept). v.wide) c.self.view_is)
          (c.apply.ensures ∙ ap (λ (m : FinMap key_order VpnRoute). after m ds) c.in_ok-add_rooms.ensures.routes
          ∙ ap (λ (v : Kept). after v.fresh ds) c.self.view_is)
          (λ k. c.forget.ensures k
          ∙ ap (λ (es : List (Delta VpnKey VpnRoute)). cond (is_changed key_order es k) None (get (routes_in c.self.inside.stale) k)) c.as_slice-2.ensures.value
          ∙ ap (λ (v : Kept). cond (is_changed key_order ds k) None (get v.stale k)) c.self.view_is
          ∙ ap (λ b. cond (b || is_changed key_order ds k) None (get old.stale k)) (sym c.if-is_end.false)),
    )
