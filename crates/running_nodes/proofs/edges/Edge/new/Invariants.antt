use Rattle.std.proofs.Common.{◌≡◌, false, take}
use Rattle.running_nodes.specs.Steps.{all_of}
use Rattle.running_nodes.proofs.Links.{fresh_link}
use Rattle.running_nodes.proofs.edges.Edge.new.Given as goal

abbrev pub invariant-loop-other : goal.invariant-loop-other
invariant-loop-other l = record {
  links : l.links ≡ all_of fresh_link (take l._other-index l._other-items);
  notices : l.notices.items ≡ all_of false (take l._other-index l._other-items);
}
