use Rattle.std.proofs.Common.{◌≤◌, ◌+◌, ◌≡◌, length, arith}
use Rattle.packet_trace.specs.Lookups.{hops_of}
use Rattle.packet_trace.proofs.Delivering.{ends, few_hops, one_hop_more}
use Rattle.packet_trace.proofs.laws.each_lookup_but_the_last_leads_to_a_service.Goals as goal

pub returns-clause-services : goal.returns-clause-services
returns-clause-services c = λ agents p port services h. (ends agents p port services h).services

pub returns-clause-one_more : goal.returns-clause-one_more
returns-clause-one_more c = λ agents p port services h. one_hop_more agents p port services h

pub returns-clause-at_most : goal.returns-clause-at_most
returns-clause-at_most c = λ agents p. few_hops agents p

pub returns-clause-few : goal.returns-clause-few
returns-clause-few c = λ agents p port services h.
    let most : length (hops_of agents p) ≤ 64 = few_hops agents p in
    let more : length (hops_of agents p) ≡ length services + 1 = one_hop_more agents p port services h in
    omega (arith, most, more)
