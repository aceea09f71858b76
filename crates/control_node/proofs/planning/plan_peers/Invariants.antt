use Rattle.std.proofs.Common.{◌≡◌, ◌++◌, map, take, drop}
use Rattle.control_node.specs.Planning.{ArePeersTold, peer_plan}
use Rattle.control_node.specs.declared.ends.PeerEnd.{PeerEnd}
use Rattle.control_node.proofs.planning.plan_peers.Given as goal

abbrev pub invariant-loop-end : goal.invariant-loop-end
invariant-loop-end l = record {
  sessions : map (λ (e : PeerEnd). e.session) l.ends ≡ map (λ (e : PeerEnd). e.session) l.fn.ends;
  told : ArePeersTold l.tables (take l.end-index l.fn.ends) (take l.end-index l.ends);
  rest : drop l.end-index l.ends ≡ drop l.end-index l.fn.ends;
  plans : l.plans.items ≡ l.fn.plans.items ++ map (peer_plan l.tables) (take l.end-index l.fn.ends);
}
