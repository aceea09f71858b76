use Rattle.std.proofs.Common.{Some, sym, ◌≤◌, length, refl, arith}
use Rattle.std.proofs.lemmas.List.{append-nil}
use Rattle.ov_types.specs.declared.rows.NodeId.{NodeId}
use Rattle.running_nodes.proofs.Pushed.{all_pushed, pushed}
use Rattle.running_nodes.proofs.plans.extend.Goals as goal

pub loop-node-init : goal.loop-node-init
loop-node-init c = sym (append-nil c.args.names.now.items)

pub loop-node-preserved : goal.loop-node-preserved
loop-node-preserved c =
    pushed (λ (n : NodeId). Some n.name) c.args.names.now.items c.loop-node.names.items c.push.new.self.items c.args.nodes.now c.loop-node.node-index c.node-item.result (Some c.node-item.result.name) c.loop-node.invariant c.in_ok-push.ensures.items refl c.node-item.is c.loop-node-test.true

pub returns : goal.returns
returns c =
    let all : length c.args.nodes.now ≤ c.loop-node.node-index = omega arith in
    all_pushed (λ (n : NodeId). Some n.name) c.args.names.now.items c.loop-node.names.items c.args.nodes.now c.loop-node.node-index c.loop-node.invariant all
