use Rattle.std.proofs.Common.{ℕ, ap, inl, inr, subst, ◌∙◌}
use Rattle.ov_sync.specs.Keyed.{key_of}
use Rattle.ov_types.specs.declared.keys.UpKey.{UpKey}
use Rattle.vpn_tables.specs.NodeModel.Keys.{Vpn}
use Rattle.vpn_tables.specs.NodeModel.Paths.{Holdings}
use Rattle.vpn_tables.specs.TouchedKeys.{key_published}
use Rattle.control_wants.specs.Marks.{IsKey, IsOfSubscription, Marks, MarksOnly}
use Rattle.control_wants.proofs.Growing.{within_then}
use Rattle.control_wants.proofs.Marking.{covers_itself}
use Rattle.control_wants.proofs.Only.{known_only, only_then, publication_only}
use Rattle.control_wants.proofs.Telling.{publication_covered}
use Rattle.control_wants.proofs.dirty.Dirty.set_publication.Goals as goal

abbrev IsOwnOnly : Marks → Marks → Holdings → ℕ → UpKey → Type 0
IsOwnOnly d d' h session told = MarksOnly (IsKey (key_published h session told)) (IsOfSubscription d h session told) d d'

pub returns-in_err-changes-clause-covers : goal.returns-in_err-changes-clause-covers
returns-in_err-changes-clause-covers c = λ _.
    covers_itself c.args.self.now c.mark_own.new.dirty c.mark_own.ensures.within c.args.tables.now c.change_publication.new.tables c.in_err-changes.ensures.err

pub returns-clause-within : goal.returns-clause-within
returns-clause-within c = within_then _ _ _ c.mark_own.ensures.within c.mark_known.ensures.within

pub returns-clause-covers : goal.returns-clause-covers
returns-clause-covers c = λ all.
    let h = c.args.tables.now in
    let since = c.mark_known.ensures.within in
    publication_covered (λ v. v.items) c.args.self.now c.mark_known.new.dirty h c.args.session all (within_then _ _ _ c.mark_own.ensures.within since) c.uses_are_in_range.ensures
    c.args.delta c.change_publication.new.tables c.in_ok-changes.ensures.ok _ (c.mark_known.ensures.all all)
    (λ k is clean. c.mark_own.ensures.published (since.all all) k (ap (key_published h c.args.session) c.key_of.ensures ∙ is) (since.routes (Vpn k) clean))
    (λ i is a at k clean. c.mark_own.ensures.subscribed (since.all all) i (c.key_of.ensures ∙ is) a at k (since.items a k clean))
    (λ i is a b at bt k clean. c.mark_own.ensures.kept (since.all all) i (c.key_of.ensures ∙ is) a b at bt k (since.items a k clean))
    c.in_ok-changes.ensures.each c.in_ok-changes.ensures.every c.mark_known.ensures.marked

pub returns-in_err-changes-clause-only : goal.returns-in_err-changes-clause-only
returns-in_err-changes-clause-only c =
    publication_only c.args.session (key_of c.args.delta) c.args.tables.now c.change_publication.new.tables c.args.self.now c.mark_own.new.dirty
    (subst (IsOwnOnly c.args.self.now c.mark_own.new.dirty c.args.tables.now c.args.session) c.key_of.ensures c.mark_own.ensures.only)

pub returns-clause-only : goal.returns-clause-only
returns-clause-only c =
    let h = c.args.tables.now in
    let g = c.change_publication.new.tables in
    only_then _ _ _ c.mark_own.new.dirty _
    (publication_only c.args.session (key_of c.args.delta) h g c.args.self.now c.mark_own.new.dirty (subst (IsOwnOnly c.args.self.now c.mark_own.new.dirty h c.args.session) c.key_of.ensures c.mark_own.ensures.only))
    (known_only h g _ _ (λ k e. inr e) (λ a k e. inl e) (λ v. v.items) c.mark_own.new.dirty c.mark_known.new.dirty _ c.in_ok-changes.ensures.each c.mark_known.ensures.only c.mark_known.ensures.none)
