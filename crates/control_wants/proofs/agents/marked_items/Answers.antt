use Rattle.std.proofs.Common.{◌≡◌, List, map, length, arith, ap, subst, sym, ◌∙◌}
use Rattle.std.specs.List.Sorted.{IsStrictlySortedBy}
use Rattle.ov_types.specs.declared.keys.DownKey.{DownKey}
use Rattle.vpn_tables.specs.NodeModel.Directions.{down_order}
use Rattle.vpn_tables.specs.Listing.{told_in}
use Rattle.control_wants.specs.Marks.{is_of}
use Rattle.control_wants.specs.Marked.{marked_entry}
use Rattle.control_wants.specs.Wanted.{keys_of}
use Rattle.control_wants.proofs.Sending.{all_taken, sorted_kept}
use Rattle.control_wants.proofs.agents.marked_items.Goals as goal

pub returns : goal.returns
returns c = λ d are.
    let l = c.loop-item in
    let end : l.item-index ≡ length c.args.marked.now = omega arith in
    let a = told_in c.args.tables.now.agents c.args.session in
    let keys : map (λ e. e.0) l.wanted.items ≡ keys_of a d.items =
    (l.invariant.keys ∙ ap (keys_of a) (ap (map marked_entry) (all_taken c.args.marked.now l.item-index end) ∙ are.entries)) in
    record {
      keys = keys;
      ascending = subst (λ (ks : List DownKey). IsStrictlySortedBy down_order ks) (sym keys) (sorted_kept (λ e. is_of a e.0 e.1) d.items are.ascending);
      each = l.invariant.each;
    }
