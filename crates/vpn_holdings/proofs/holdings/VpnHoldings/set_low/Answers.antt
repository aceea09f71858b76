use Rattle.std.proofs.Common.{ap, ◌∙◌, sym, OnOk, OnErr}
use Rattle.std.specs.declared.result.Result.{Result}
use Rattle.std.specs.declared.result.Result.TheVariants.{Ok, Err}
use Rattle.std.proofs.Common.{List, subst}
use Rattle.ov_sync.specs.Keyed.{Values, map_of}
use Rattle.ov_sync.specs.declared.Delta.TheVariants.{Put, Drop}
use Rattle.ov_types.specs.declared.objects.LowKey.{LowKey}
use Rattle.ov_types.specs.declared.objects.LowValue.{LowValue}
use Rattle.ov_sync.specs.Keyed.{PutOf}
use Rattle.path_select.specs.NodeModel.Maps.{Map}
use Rattle.path_select.specs.NodeModel.Paths.{Holdings}
use Rattle.vpn_holdings.specs.Changes.{with_low}
use Rattle.vpn_holdings.specs.Ranges.{Fits}
use Rattle.vpn_holdings.specs.Views.{low_order}
use Rattle.vpn_holdings.specs.contracts.holdings.VpnHoldings.{the_view}
use Rattle.vpn_holdings.proofs.Images.{feed-changed}
use Rattle.vpn_holdings.proofs.Values.{values_after}
use Rattle.vpn_holdings.proofs.holdings.VpnHoldings.set_low.Goals as goal

-- what follows from either answer
either_way : {A E P Q R : Type 0} (r : Result A E) → OnOk r P → OnErr r Q → (P → R) → (Q → R) → R
either_way (Ok x) p q f g = f p
either_way (Err e) p q f g = g q

where_ok : {A E P Q : Type 0} (r : Result A E) → OnOk r P → (P → Q) → OnOk r Q
where_ok (Ok x) p f = f p
where_ok (Err e) p f = tt

pub invariant_of-self : goal.invariant_of-self
invariant_of-self c =
    let es = c.self.inside.low.entries in
    let fs = c.put_object.new.low.entries in (
      either_way c.put_object.result c.put_object.ensures.ok c.put_object.ensures.err
          (λ is. values_after Fits es fs (Put c.in-Put.key c.in-Put.value) is c.self.invariant.0 (subst (PutOf Fits) c.in-Put.is c.requires))
          (λ is. subst (λ (l : List (LowKey × LowValue)). Values Fits (map_of low_order l)) (sym is) c.self.invariant.0),
      c.self.invariant.1,
      c.put_object.ensures.counted,
      c.self.invariant.3,
      c.self.invariant.4,
      c.self.invariant.5,
    )

pub invariant_of-self-in-Drop : goal.invariant_of-self-in-Drop
invariant_of-self-in-Drop c = (
  values_after Fits c.self.inside.low.entries c.drop_object.new.low.entries (Drop c.in-Drop.key) c.drop_object.ensures.dropped c.self.invariant.0 tt,
  c.self.invariant.1,
  c.drop_object.ensures.counted,
  c.self.invariant.3,
  c.self.invariant.4,
  c.self.invariant.5,
)

pub returns-in-Put-clause-ok : goal.returns-in-Put-clause-ok
returns-in-Put-clause-ok c =
    where_ok c.put_object.result c.put_object.ensures.ok
    (λ is. ap (λ (f : Map). record (the_view c.self.inside) { feed = f }) (feed-changed c.self.inside.low.entries c.put_object.new.low.entries (Put c.in-Put.key c.in-Put.value) is)
    ∙ ap (λ (h : Holdings). with_low h (Put c.in-Put.key c.in-Put.value)) c.self.view_is ∙ ap (with_low c.args.self.now) (sym c.in-Put.is))

pub returns-in-Drop-clause-ok : goal.returns-in-Drop-clause-ok
returns-in-Drop-clause-ok c =
    ap (λ (f : Map). record (the_view c.self.inside) { feed = f }) (feed-changed c.self.inside.low.entries c.drop_object.new.low.entries (Drop c.in-Drop.key) c.drop_object.ensures.dropped)
    ∙ ap (λ (h : Holdings). with_low h (Drop c.in-Drop.key)) c.self.view_is ∙ ap (with_low c.args.self.now) (sym c.in-Drop.is)
