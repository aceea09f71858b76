use Rattle.std.proofs.Common.{◌≡◌, ◌∙◌, ap, sym, refl, rules}
use Rattle.std.specs.Prelude.{None, Bool, true, false, not, cond, ◌==◌}
use Rattle.std.specs.BTreeMap as tree
use Rattle.std.specs.BTreeMap.{is_at}
use Rattle.std.specs.Cmp.{Equal-is}
use Rattle.std.specs.Map.{lookup}
use Rattle.std.proofs.lemmas.Map.Entries.{filter_from_retain_pairs, lookup-filter-keys}
use Rattle.ov_types.specs.Prefix.{Block}
use Rattle.vpn_holdings.specs.Indexed.{route_order}
use Rattle.vpn_holdings.specs.declared.places.RouteAt.{RouteAt}
use Rattle.vpn_holdings.proofs.PrefixOrder.{route_exact}
use Rattle.vpn_holdings.proofs.forgetting.forget_routes.Goals as goal

turned : {X : Type 0} (b : Bool) (o n : X) → cond (not b) o n ≡ cond b n o
turned true o n = refl
turned false o n = refl

pub returns : goal.returns
returns c = λ k.
    let s = c.args.session in
    let stays : RouteAt × Block → Bool = λ e. not (e.0.session == s) in
    let kept = filter_from_retain_pairs _ (λ f. f.0.now ≡ s) stays
    (λ g k v b w g' i t. (search (rules, t, i), search (rules, t), ap (λ x. x.now) t.called.met.1 ∙ i)) _ c.args.routes.now.entries c.retain.new.self.entries refl c.retain.ensures.filtered in
    ap (lookup (is_at (route_order k))) kept
    ∙ lookup-filter-keys (is_at (route_order k)) (λ j. not (j.session == s)) (not (k.session == s)) (λ j t. ap (λ (j : RouteAt). not (j.session == s)) (sym (route_exact k j ((Equal-is (route_order k j)).0 t)))) c.args.routes.now.entries
    ∙ turned (k.session == s) (tree.get route_order c.args.routes.now k) None
