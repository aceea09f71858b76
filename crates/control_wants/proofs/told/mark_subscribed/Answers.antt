use Rattle.std.proofs.Common.{◌≡◌, ◌==◌, ℕ, true, ap, arith, subst, ◌∙◌}
use Rattle.ov_types.specs.declared.prefix.Addr.{Addr}
use Rattle.vpn_tables.specs.NodeModel.Keys.{Key}
use Rattle.vpn_tables.specs.Here.{IsRowOf}
use Rattle.control_wants.specs.Marks.{IsCleanItem, no_route}
use Rattle.control_wants.proofs.Only.{only_more, subscriber_only}
use Rattle.control_wants.proofs.told.mark_subscribed.Goals as goal

itself : (n : ℕ) → (n == n) ≡ true
itself n = grind arith

pub returns-then-is_clean_at-clause-marked : goal.returns-then-is_clean_at-clause-marked
returns-then-is_clean_at-clause-marked c = λ all a at k clean row.
    c.mark_table.ensures.marked all a row.prefix (ap (λ (x : Addr). c.args.address.0 == x.0) at ∙ itself c.args.address.0)
    (subst (IsCleanItem c.mark_table.new.dirty a) row.key_is clean) (subst (λ (x : Key). IsRowOf c.args.tables.now c.args.instance x) row.key_is row)

pub returns-then-is_clean_at-clause-kept : goal.returns-then-is_clean_at-clause-kept
returns-then-is_clean_at-clause-kept c = λ _ a b _ at k _. c.is_clean_at.ensures.clean c.if-is_clean_at.true b at k

pub returns-else-is_clean_at-clause-marked : goal.returns-else-is_clean_at-clause-marked
returns-else-is_clean_at-clause-marked c = λ all a at k clean _. c.add_address.ensures.marked all a at k clean

pub returns-else-is_clean_at-clause-kept : goal.returns-else-is_clean_at-clause-kept
returns-else-is_clean_at-clause-kept c = λ all a b at _ k clean. absurd (c.add_address.ensures.marked all a at k clean)

pub returns-then-is_clean_at-clause-only : goal.returns-then-is_clean_at-clause-only
returns-then-is_clean_at-clause-only c =
    subscriber_only c.args.dirty.now c.mark_table.new.dirty c.args.tables.now c.args.instance c.args.address (c.is_clean_at.ensures.items c.if-is_clean_at.true) c.mark_table.ensures.only c.mark_table.ensures.own

pub returns-else-is_clean_at-clause-only : goal.returns-else-is_clean_at-clause-only
returns-else-is_clean_at-clause-only c =
    only_more _ _ no_route (λ a k. a.address ≡ c.args.address) (λ k n. absurd n) (λ a k at. (at, λ unmarked. absurd (c.is_clean_at.ensures.other c.if-is_clean_at.false unmarked))) c.args.dirty.now c.add_address.new.self c.add_address.ensures.only
