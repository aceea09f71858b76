use Rattle.std.proofs.Common.{ap, sym, subst, ◌∙◌}
use Rattle.node_model.specs.Paths.{Holdings}
use Rattle.node_model.specs.Reaching.{AreShort}
use Rattle.vpn_holdings.specs.Gathered.{UsesAreInRange}
use Rattle.vpn_tables.specs.Changing.{rows_by_object}
use Rattle.vpn_tables.specs.Stored.{entry_of}
use Rattle.vpn_tables.proofs.Keeping.{not_listed}
use Rattle.vpn_tables.proofs.Possible.{put_entry}
use Rattle.vpn_tables.proofs.objects.put_object.Goals as goal

pub returns-in-Ok-clause-stored : goal.returns-in-Ok-clause-stored
returns-in-Ok-clause-stored g c =
    let h = c.args.held.now in
    let is = c.in-Ok.ensures.ok in
    let keys = c.as_slice-keys.ensures.value ∙ c.in_ok-touched.ensures in
    c.refresh.ensures.stored h (λ k. c.make_places.ensures.stays k ∙ c.requires.stored k) (λ k none.
    put_entry h c.args.of c.args.value c.uses_are_in_range.ensures.short (subst (λ (x : Holdings). AreShort x.feed) is c.uses_are_in_range-in-Ok.ensures.short)
    c.uses_are_in_range.ensures.in_range (subst (λ (x : Holdings). UsesAreInRange x.feed) is c.uses_are_in_range-in-Ok.ensures.in_range)
    k (not_listed c.as_slice-keys.result.now (rows_by_object h c.args.of c.args.value) k keys none)
    ∙ ap (λ g. entry_of g k) (sym is))

pub returns-clause-stored : goal.returns-clause-stored
returns-clause-stored g c = λ k.
    c.drop_empty.ensures k ∙ c.make_places.ensures.stays k ∙ c.requires.stored k ∙ ap (λ g. entry_of g k) (sym (c.in-Err.ensures.err))
