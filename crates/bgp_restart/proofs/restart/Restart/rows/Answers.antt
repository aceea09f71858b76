use Rattle.std.specs.Prelude.{List, [], Bool, true, false}
use Rattle.std.specs.Option.{option_or}
use Rattle.std.specs.FinMap.{get, get-from_entries}
use Rattle.std.proofs.Common.{◌∙◌, ap}
use Rattle.ov_types.specs.declared.vpn.VpnKey.{VpnKey}
use Rattle.ov_types.specs.declared.vpn.VpnRoute.{VpnRoute}
use Rattle.ov_sync.specs.Keyed.{map_of}
use Rattle.bgp_restart.specs.Events.{key_order}
use Rattle.bgp_restart.specs.Keeping.{Kept, marked, held}
use Rattle.bgp_restart.specs.Routes.{routes_in}
use Rattle.bgp_restart.proofs.Owning.{key_total}
use Rattle.bgp_restart.proofs.Listing.{either, if_ok}
use Rattle.bgp_restart.proofs.restart.Restart.rows.Goals as goal

pub returns : goal.returns
returns c =
    if_ok _ _ c.rows_of.result (λ rows order. record {
      all = map_of key_order c.add_marked-2.new.all;
      is_held = λ k.
          c.in_ok-add_marked-2.ensures k
          ∙ ap (λ x. option_or (marked false (get (routes_in c.self.inside.fresh) k)) x)
          (c.in_ok-add_marked.ensures k ∙ ap (λ x. option_or (marked true (get (routes_in c.self.inside.stale) k)) x)
          (ap (λ (es : List (VpnKey × (VpnRoute × Bool))). get (map_of key_order es) k) c.new-all.ensures ∙ get-from_entries key_total [] k))
          ∙ either (get (routes_in c.self.inside.fresh) k) (get (routes_in c.self.inside.stale) k)
          ∙ ap (λ (v : Kept). held v k) c.self.view_is;
      in_order = order;
    }) c.rows_of.ensures
