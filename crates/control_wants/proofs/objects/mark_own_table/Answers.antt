use Rattle.std.proofs.Common.{◌≡◌, ℕ, true, is_some, subst, sym, ◌∙◌}
use Rattle.std.specs.FinMap.{get}
use Rattle.ov_types.specs.declared.objects.LowKey.TheVariants as key
use Rattle.vpn_tables.specs.NodeModel.Keys.{Row, Subscribe}
use Rattle.vpn_tables.specs.Here.{IsRowOf}
use Rattle.control_wants.specs.Marks.{IsCleanItem}
use Rattle.control_wants.specs.Marks.{no_route}
use Rattle.control_wants.proofs.Only.{only_more}
use Rattle.control_wants.proofs.objects.mark_own_table.Goals as goal

same_number : (m n : ℕ) → key.Instance m ≡ key.Instance n → m ≡ n
same_number m n e = cc

pub returns-in-Instance-clause-marked : goal.returns-in-Instance-clause-marked
returns-in-Instance-clause-marked c = λ all n is a q subscribes clean row.
    let same = same_number n c.in-Instance.number (sym is ∙ c.in-Instance.is) in
    c.mark_table.ensures.marked all a q
    (subst (λ (m : ℕ). is_some (get a.map (Subscribe (record { 0 = m }))) ≡ true) same subscribes)
    (subst (λ (m : ℕ). IsCleanItem c.mark_table.new.dirty a (Row (record { 0 = m }) q)) same clean)
    (subst (λ (m : ℕ). IsRowOf c.args.tables.now (record { 0 = m }) (Row (record { 0 = m }) q)) same row)

pub returns-in-Instance-clause-only : goal.returns-in-Instance-clause-only
returns-in-Instance-clause-only c =
    only_more _ _ no_route _ (λ k n. absurd n) (λ a k row. record { number = c.in-Instance.number; named = c.in-Instance.is; row = row }) c.args.dirty.now c.mark_table.new.dirty c.mark_table.ensures.only
