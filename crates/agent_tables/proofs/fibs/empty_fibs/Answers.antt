use Rattle.std.proofs.Common.{◌≡◌, ◌==◌, ◌||◌, ◌+◌, [], List, ap, sym, subst, ◌∙◌, drop, get_or}
use Rattle.std.specs.BTreeMap.{insert_entry}
use Rattle.std.specs.List.{AllByRecursion, list_any}
use Rattle.ov_types.specs.declared.numbers.InstanceId.{InstanceId}
use Rattle.agent_tables.specs.Routes.{Table, has_table, instance_order}
use Rattle.agent_tables.proofs.Lists.{turn_at}
use Rattle.agent_tables.proofs.Routes.{one_opened, empty_inserted}
use Rattle.agent_tables.proofs.fibs.empty_fibs.Goals as goal

pub loop-instance-preserved : goal.loop-instance-preserved
loop-instance-preserved c =
    let items = c.args.instances.now in
    let k = c.loop-instance.instance-index in
    let ts : List Table = c.loop-instance.fibs.entries in
    let n : InstanceId = get_or items k (record { 0 = 0 }) in
    let now : c.insert.new.self.entries ≡ insert_entry instance_order ts n [] = c.in_ok-insert.ensures.entries ∙ ap (insert_entry instance_order ts n) c.new.ensures in
    record {
      tables = λ i.
          ap (λ (l : List Table). has_table l i || list_any (λ m. m.0 == i.0) (drop (k + 1) items)) now
          ∙ one_opened n i ts (drop (k + 1) items) (list_any (λ m. m.0 == i.0) items)
          (ap (λ (l : List InstanceId). has_table ts i || list_any (λ m. m.0 == i.0) l) (sym (turn_at items k (record { 0 = 0 }) c.loop-instance-test.true)) ∙ c.loop-instance.invariant.tables i);
      empty = subst (AllByRecursion (λ (t : Table). t.1 ≡ [])) (sym now) (empty_inserted n ts c.loop-instance.invariant.empty);
      ordered = c.insert.ensures.ordered;
    }
