use Rattle.std.proofs.Common.{◌≡◌, subst, sym, ◌∙◌}
use Rattle.ov_types.specs.declared.objects.LowKey.{LowKey}
use Rattle.ov_sync.specs.Keyed.{key_of}
use Rattle.vpn_tables.specs.NodeModel.Keys.{Low, Row}
use Rattle.vpn_tables.specs.NodeModel.Maps.{object}
use Rattle.vpn_tables.specs.NodeModel.Paths.{Holdings}
use Rattle.vpn_tables.specs.Changes.{with_low}
use Rattle.vpn_tables.specs.Here.{IsListOfPort, IsRowOf, port_here, put_by}
use Rattle.control_wants.specs.Marks.{Covers, IsListOf, IsRowOfName, Marks, MarksOnly, no_route}
use Rattle.control_wants.proofs.Growing.{within_then}
use Rattle.control_wants.proofs.Marking.{covers_itself, covers_object, unless}
use Rattle.control_wants.proofs.Only.{marked_after, marked_before}
use Rattle.control_wants.proofs.dirty.Dirty.set_low.Goals as goal

pub returns-in_err-set_low-clause-within : goal.returns-in_err-set_low-clause-within
returns-in_err-set_low-clause-within c =
    within_then _ _ _ (within_then _ _ _ c.mark_name.ensures.within c.mark_held.ensures.within) c.mark_own_table.ensures.within

pub returns-clause-within : goal.returns-clause-within
returns-clause-within c =
    within_then _ _ _
    (within_then _ _ _ (within_then _ _ _ (within_then _ _ _ c.mark_name.ensures.within c.mark_held.ensures.within) c.mark_own_table.ensures.within) c.mark_held-2.ensures.within)
    c.mark_own_table-2.ensures.within

pub returns-clause-covers : goal.returns-clause-covers
returns-clause-covers c = λ all.
    let m = c.args.self.now in
    let m' = c.mark_own_table-2.new.dirty in
    let h = c.args.tables.now in
    let g = with_low h c.args.delta in
    let name = c.key_of-name.result in
    let named = sym c.key_of-name.ensures in
    let last = c.mark_own_table-2.ensures.within in
    let since_lists = within_then _ _ _ c.mark_held-2.ensures.within last in
    let since_table = within_then _ _ _ c.mark_own_table.ensures.within since_lists in
    let since = within_then _ _ _ c.mark_held.ensures.within since_table in
    let applied = c.in_ok-set_low.ensures.ok in
    subst (λ (g : Holdings). Covers m m' h g) (sym applied)
    (covers_object m m' (within_then _ _ _ c.mark_name.ensures.within since) h c.args.delta
    (c.mark_name.ensures.no_use (since.all all))
    (c.mark_name.ensures.known (since.all all))
    (λ n is a q subscribes clean. c.mark_own_table.ensures.marked (since_lists.all all) n (c.key_of-2.ensures ∙ is) a q subscribes (since_lists.items a _ clean))
    (λ n is a q subscribes clean r. c.mark_own_table-2.ensures.marked all n (sym named ∙ is) a q subscribes clean
    (subst (λ (g : Holdings). IsRowOf g (record { 0 = n }) (Row (record { 0 = n }) q)) (sym applied) r))
    (λ a clean. c.mark_name.ensures.marked (since.all all) a (since.items a (Low (key_of c.args.delta)) clean))
    (λ a k clean differ l. unless c.port_stays-stays.result (port_here a.address (object h.feed (key_of c.args.delta)) ≡ port_here a.address (put_by c.args.delta)) (λ stays. c.port_stays-stays.ensures stays a.address) differ (λ no. c.mark_held.ensures.marked no (since_table.all all) a k (since_table.items a k clean) (subst (λ (j : LowKey). IsListOfPort h.feed a.address (object h.feed j) k) (sym c.key_of.ensures) l)))
    (λ a k clean differ l. unless c.port_stays-stays.result (port_here a.address (object h.feed (key_of c.args.delta)) ≡ port_here a.address (put_by c.args.delta)) (λ stays. c.port_stays-stays.ensures stays a.address) differ (λ no. c.mark_held-2.ensures.marked no (last.all all) a k (last.items a k clean)
    (subst (λ (g : Holdings). IsListOfPort g.feed a.address (object g.feed name) k) (sym applied)
    (subst (λ (j : LowKey). IsListOfPort g.feed a.address (object g.feed j) k) named l)))))

pub returns-in_err-set_low-clause-covers : goal.returns-in_err-set_low-clause-covers
returns-in_err-set_low-clause-covers c = λ _.
    covers_itself c.args.self.now c.mark_own_table.new.dirty
    (within_then _ _ _ (within_then _ _ _ c.mark_name.ensures.within c.mark_held.ensures.within) c.mark_own_table.ensures.within)
    c.args.tables.now c.set_low.new.self c.in_err-set_low.ensures.err

abbrev AreListsOnly : Holdings → Marks → Marks → LowKey → Type 0
AreListsOnly h d d' name = MarksOnly no_route (IsListOf h name) d d'

abbrev AreRowsOnly : Holdings → Marks → Marks → LowKey → Type 0
AreRowsOnly h d d' name = MarksOnly no_route (IsRowOfName h name) d d'

pub returns-in_err-set_low-clause-only : goal.returns-in_err-set_low-clause-only
returns-in_err-set_low-clause-only c =
    let h = c.args.tables.now in
    marked_before (key_of c.args.delta) h c.set_low.new.self c.args.self.now c.mark_name.new.dirty c.mark_held.new.dirty c.mark_own_table.new.dirty c.mark_name.ensures.only
    (subst (AreListsOnly h c.mark_name.new.dirty c.mark_held.new.dirty) c.key_of.ensures c.mark_held.ensures.only)
    (subst (AreRowsOnly h c.mark_held.new.dirty c.mark_own_table.new.dirty) c.key_of-2.ensures c.mark_own_table.ensures.only)

pub returns-clause-only : goal.returns-clause-only
returns-clause-only c =
    let h = c.args.tables.now in
    let g = c.set_low.new.self in
    let before = marked_before (key_of c.args.delta) h g c.args.self.now c.mark_name.new.dirty c.mark_held.new.dirty c.mark_own_table.new.dirty c.mark_name.ensures.only
    (subst (AreListsOnly h c.mark_name.new.dirty c.mark_held.new.dirty) c.key_of.ensures c.mark_held.ensures.only)
    (subst (AreRowsOnly h c.mark_held.new.dirty c.mark_own_table.new.dirty) c.key_of-2.ensures c.mark_own_table.ensures.only) in
    marked_after (key_of c.args.delta) h g c.args.self.now c.mark_own_table.new.dirty c.mark_held-2.new.dirty c.mark_own_table-2.new.dirty before
    (subst (AreListsOnly g c.mark_own_table.new.dirty c.mark_held-2.new.dirty) c.key_of-name.ensures c.mark_held-2.ensures.only)
    (subst (AreRowsOnly g c.mark_held-2.new.dirty c.mark_own_table-2.new.dirty) c.key_of-name.ensures c.mark_own_table-2.ensures.only)
