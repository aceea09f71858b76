use Rattle.std.proofs.Common.{Option, subst, sym}
use Rattle.std.specs.Prelude.{IfSome}
use Rattle.ov_types.specs.declared.objects.LowKey.{LowKey}
use Rattle.ov_types.specs.declared.objects.LowValue.{LowValue}
use Rattle.config_node.specs.Changing.{IsOneChange}
use Rattle.config_node.proofs.Changed.{formed_there, one_key}
use Rattle.config_node.proofs.changing.one_change.Goals as goal

pub attachment_if-old-requires : goal.attachment_if-old-requires
attachment_if-old-requires c =
    let one = c.config-one in
    let differ = c.in_ok-change.ensures in
    formed_there c.args.before.now one.result.now differ.front differ.back c.in_ok-change.change.old one.ensures.part
    one.ensures.config_form differ.was

pub attachment_if-new-requires : goal.attachment_if-new-requires
attachment_if-new-requires c =
    let other = c.config-other in
    let differ = c.in_ok-change.ensures in
    formed_there c.args.now.now other.result.now differ.front differ.back c.in_ok-change.change.new other.ensures.part
    other.ensures.config_form differ.is

pub returns : goal.returns
returns c =
    let x = c.args.before.now in
    let y = c.args.now.now in
    let one = c.config-one in
    let other = c.config-other in
    subst (λ (o : Option (LowKey × Option LowValue)). IfSome o (λ change. IsOneChange x y change.0 change.1))
    (sym c.key_change.ensures)
    (one_key x y one.result.now other.result.now c.topology.result.now c.topology-2.result.now
    c.in_ok-change.change.old c.in_ok-change.change.new c.attachment_if-old.result c.attachment_if-new.result
    one.ensures.part other.ensures.part c.topology.ensures.part c.topology-2.ensures.part c.attachment_if-old.ensures
    c.attachment_if-new.ensures (c.shares_all_but_ports.ensures c.if-not-shares_all_but_ports.false)
    c.in_ok-change.ensures one.ensures.config_form one.ensures.valid other.ensures.topology_form
    other.ensures.config_form other.ensures.valid)
