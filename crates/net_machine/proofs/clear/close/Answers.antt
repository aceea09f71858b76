use Rattle.std.proofs.Common.{◌≡◌, ◌∙◌, ap, false, []}
use Rattle.running_nodes.specs.Seats.{far_of}
use Rattle.running_nodes.specs.Steps.{told_of_loss, with_link, with_notice}
use Rattle.net_machine.proofs.Kept.{far_kept, keeps_both}
use Rattle.net_machine.proofs.clear.close.Goals as goal

pub returns-clause-closed : goal.returns-clause-closed
returns-clause-closed c =
    let p = c.args.place in
    let before = c.args.nodes.now.seats in
    let after = c.set_notice.new.nodes.seats in
    let are : after ≡ with_notice p false (with_link p [] before) =
    c.set_notice.ensures.set ∙ ap (with_notice p false) c.clear.ensures.cleared in
    let fars : far_of after p ≡ far_of before p =
    far_kept before after p (keeps_both before _ after c.clear.ensures.keeps c.set_notice.ensures.keeps) in
    c.tell_of_loss.ensures.told ∙ (λ i. told_of_loss (are i) (fars i))
