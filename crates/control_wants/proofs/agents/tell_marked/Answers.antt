use Rattle.std.proofs.Common.{List, subst, sym}
use Rattle.std.proofs.lemmas.Result.{IfOk-weaker, on_ok_weaker}
use Rattle.std.specs.declared.option.Option.{Option}
use Rattle.ov_types.specs.declared.keys.DownKey.{DownKey}
use Rattle.ov_types.specs.declared.keys.DownValue.{DownValue}
use Rattle.control_wants.specs.NodeCore.Told.{down_of}
use Rattle.vpn_tables.specs.Here.{wanted_on}
use Rattle.control_wants.specs.Wanted.{AreItems}
use Rattle.control_wants.proofs.Sending.{items_agree}
use Rattle.control_wants.proofs.agents.tell_marked.Goals as goal

pub returns-clause-changes : goal.returns-clause-changes
returns-clause-changes c =
    let d = c.args.dirty.now in
    let h = c.args.tables.now in
    let s = c.args.session in
    let are = subst (λ (es : List (DownKey × Option DownValue)). AreItems d h s es) (sym c.as_slice.ensures.value) (c.in_ok-wanted.ensures d c.requires.marked) in
    IfOk-weaker c.tell_items.result _ _ (λ changes e.
    e (wanted_on h s) are.each (items_agree d h s (down_of c.args.sent.now) c.as_slice.result.now c.requires.not_all c.requires.elsewhere are c.requires.tracked)) c.tell_items.ensures.changes

pub returns-clause-sent : goal.returns-clause-sent
returns-clause-sent c =
    let d = c.args.dirty.now in
    let h = c.args.tables.now in
    let s = c.args.session in
    let are = subst (λ (es : List (DownKey × Option DownValue)). AreItems d h s es) (sym c.as_slice.ensures.value) (c.in_ok-wanted.ensures d c.requires.marked) in
    on_ok_weaker c.tell_items.result (λ e.
    e (wanted_on h s) are.each (items_agree d h s (down_of c.args.sent.now) c.as_slice.result.now c.requires.not_all c.requires.elsewhere are c.requires.tracked)) c.tell_items.ensures.sent
