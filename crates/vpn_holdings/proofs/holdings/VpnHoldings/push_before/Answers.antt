use Rattle.std.proofs.Common.{◌++◌, Some, ap, sym, ◌∙◌, map}
use Rattle.std.specs.List.{slice_get}
use Rattle.std.specs.FinMap.{get}
use Rattle.std.proofs.lemmas.Option.{slice_get-get_or}
use Rattle.std.proofs.lemmas.Result.{on_ok_weaker}
use Rattle.vpn_holdings.specs.Views.{peer_of}
use Rattle.vpn_holdings.specs.Moved.{map_at}
use Rattle.path_select.specs.NodeModel.Keys.{Vpn}
use Rattle.path_select.specs.NodeModel.Paths.{Holdings}
use Rattle.vpn_holdings.proofs.Before.{map_is, map_past, nothing_told, targets_told}
use Rattle.std.proofs.lemmas.List.{append-nil}
use Rattle.vpn_holdings.proofs.holdings.VpnHoldings.push_before.Goals as goal

pub returns-in-Some : goal.returns-in-Some
returns-in-Some c =
    let at = ap (λ (h : Holdings). map_at h.peers c.args.place) (sym c.self.view_is)
    ∙ map_is c.self.inside.peers.items c.args.place c.in-Some.routes.now
    (ap (λ ps. slice_get ps c.args.place) (sym c.deref.ensures.value)
    ∙ slice_get-get_or c.deref.result.now c.args.place c.in-Some.routes.now c.in-Some.ensures.lookup.3.0 ∙ ap Some (sym c.in-Some.ensures.lookup.1)) in
    on_ok_weaker c.push_told.result (λ f s. f s ∙ ap (λ m. c.args.targets.now.items ++ targets_told s (Vpn c.args.key) (get m (Vpn c.args.key))) (sym at)) c.push_told.ensures

pub returns-in-None : goal.returns-in-None
returns-in-None c = λ s.
    let at = ap (λ (h : Holdings). map_at h.peers c.args.place) (sym c.self.view_is)
    ∙ ap (λ ps. map_at (map peer_of ps) c.args.place) (sym c.deref.ensures.value) ∙ map_past c.deref.result.now c.args.place c.in-None.ensures.lookup.3 in
    sym (append-nil c.args.targets.now.items) ∙ ap (λ l. c.args.targets.now.items ++ l)
    (sym (ap (λ m. targets_told s (Vpn c.args.key) (get m (Vpn c.args.key))) at ∙ nothing_told s (Vpn c.args.key)))
