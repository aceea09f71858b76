use Rattle.std.proofs.Common.{subst, sym, ◌∙◌}
use Rattle.std.specs.List.{AllByRecursion}
use Rattle.std.specs.Prelude.{IsTrue}
use Rattle.item_wire.specs.Inputs.{may_send}
use Rattle.item_wire.specs.declared.event.ItemFrom.{ItemFrom}
use Rattle.item_wire.specs.declared.item.Item.{Item}
use Rattle.config_node.proofs.Begins.{none_of}
use Rattle.config_node.proofs.begin.hear_at.Goals as goal

pub returns-clause-heard : goal.returns-clause-heard
returns-clause-heard c =
    let w = c.in_ok-records.ensures.left in
    record {
      inputs = w.0;
      leaves = w.1;
      why = w.3;
      state = w.4;
      none = sym w.2
          ∙ none_of c.in_ok-records.field-0.records.items
          (subst (λ (from : ItemFrom). AllByRecursion (λ (i : Item). IsTrue (may_send from i))
          c.in_ok-records.field-0.records.items) c.requires.from c.in_ok-records.ensures.sent);
    }
