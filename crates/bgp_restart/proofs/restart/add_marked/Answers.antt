use Rattle.std.specs.Prelude.{◌≡◌, ◌∷◌, None}
use Rattle.std.specs.Option.{option_or}
use Rattle.std.specs.FinMap.{get, insert, get-empty}
use Rattle.std.proofs.Common.{sym, ◌∙◌, ap, subst, rules}
use Rattle.ov_types.specs.declared.vpn.VpnRoute.{VpnRoute}
use Rattle.ov_sync.specs.Keyed.{map_of}
use Rattle.ov_sync.proofs.Ascending.{Ascends, ascends}
use Rattle.bgp_restart.specs.Events.{key_order}
use Rattle.bgp_restart.specs.Keeping.{marked}
use Rattle.bgp_restart.specs.Routes.{routes_in}
use Rattle.bgp_restart.proofs.Rooms.{Rooms}
use Rattle.bgp_restart.proofs.Listing.{one_more, none_more}
use Rattle.bgp_restart.proofs.restart.add_marked.Goals as goal

pub loop-key-init : goal.loop-key-init
loop-key-init c =
    let is = c.into_iter-key-iterator.ensures.into_iter_gives ∙ c.iter-key-items.ensures.entries in (
      tt,
      tt,
      subst (λ (es : Rooms). Ascends key_order es) (sym is) (ascends key_order c.args.routes.now c.iter-key-items.ensures.ascending),
      λ k. ap (λ (es : Rooms). option_or (marked c.args.is_stale (get (routes_in es) k)) (get (map_of key_order c.args.all.now) k)) is,
    )

pub loop-key-preserved-in_ok-apply : goal.loop-key-preserved-in_ok-apply
loop-key-preserved-in_ok-apply c =
    let steps : c.loop-key.key-iterator ≡ (c.in-Some.key.now, c.in-Some.held.now) ∷ c.next.new.self = c.in-Some.ensures.steps in
    let asc : Ascends key_order ((c.in-Some.key.now, c.in-Some.held.now) ∷ c.next.new.self) = subst (λ (es : Rooms). Ascends key_order es) steps c.loop-key.invariant.2 in
    let same : c.in_ok-clone.field-0 ≡ c.in-Some-held.route = search rules in (
      tt,
      tt,
      asc.1,
      λ k. one_more c.args.is_stale k c.in-Some.key.now c.in-Some.held.now c.in-Some-held.route c.next.new.self (map_of key_order c.loop-key.all) (map_of key_order c.apply.new.self) _ asc.0
          c.in-Some-held.is
          (c.in_ok-apply.ensures.ok ∙ ap (λ (v : VpnRoute). insert (map_of key_order c.loop-key.all) c.in-Some.key.now (v, c.args.is_stale)) same)
          (ap (λ (es : Rooms). option_or (marked c.args.is_stale (get (routes_in es) k)) (get (map_of key_order c.loop-key.all) k)) (sym steps) ∙ c.loop-key.invariant.3 k),
    )

pub loop-key-preserved : goal.loop-key-preserved
loop-key-preserved c =
    let steps : c.loop-key.key-iterator ≡ (c.in-Some.key.now, c.in-Some.held.now) ∷ c.next.new.self = c.in-Some.ensures.steps in
    let asc : Ascends key_order ((c.in-Some.key.now, c.in-Some.held.now) ∷ c.next.new.self) = subst (λ (es : Rooms). Ascends key_order es) steps c.loop-key.invariant.2 in
    let has : c.in-Some.held.now ≡ None = search rules in (
      tt,
      tt,
      asc.1,
      λ k. none_more c.args.is_stale k c.in-Some.key.now c.in-Some.held.now c.next.new.self (map_of key_order c.loop-key.all) _ asc.0 has
          (ap (λ (es : Rooms). option_or (marked c.args.is_stale (get (routes_in es) k)) (get (map_of key_order c.loop-key.all) k)) (sym steps) ∙ c.loop-key.invariant.3 k),
    )

pub returns : goal.returns
returns c k =
    ap (λ x. option_or (marked c.args.is_stale x) (get (map_of key_order c.loop-key.all) k)) (sym (get-empty key_order k))
    ∙ ap (λ (es : Rooms). option_or (marked c.args.is_stale (get (routes_in es) k)) (get (map_of key_order c.loop-key.all) k)) (sym c.in-None.ensures.steps.0)
    ∙ c.loop-key.invariant.3 k
