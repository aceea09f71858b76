use Rattle.std.proofs.Common.{◌≡◌, List, subst, sym}
use Rattle.ov_types.specs.declared.prefix.Addr.{Addr}
use Rattle.vpn_tables.specs.NodeModel.Members.{Member}
use Rattle.control_wants.specs.Marks.{IsWithin, Marks, MarksOnly, no_route}
use Rattle.control_wants.specs.contracts.dirty.Dirty.{the_view}
use Rattle.control_wants.proofs.Growing.{within_address}
use Rattle.control_wants.proofs.Only.{only_address}
use Rattle.control_wants.proofs.Sets.{last}
use Rattle.control_wants.proofs.dirty.Dirty.add_address.Goals as goal

pub returns-in-Ok-clause-within : goal.returns-in-Ok-clause-within
returns-in-Ok-clause-within c =
    let before : Marks = the_view c.self.inside in
    subst (λ (d : Marks). IsWithin d (record before { addresses = c.push.new.self.items })) c.self.view_is
    (subst (λ (l : List Addr). IsWithin before (record before { addresses = l })) (sym c.in-Ok.ensures.items) (within_address before c.args.address))

pub returns-in-Ok-clause-marked : goal.returns-in-Ok-clause-marked
returns-in-Ok-clause-marked c = λ all a at k clean.
    clean.0 (subst (λ (x : Addr). Member x c.push.new.self.items) (sym at)
    (subst (λ (l : List Addr). Member c.args.address l) (sym c.in-Ok.ensures.items) (last c.args.address c.self.inside.addresses.items)))

pub returns-in-Ok-clause-only : goal.returns-in-Ok-clause-only
returns-in-Ok-clause-only c =
    let before : Marks = the_view c.self.inside in
    subst (λ (d : Marks). MarksOnly no_route (λ a k. a.address ≡ c.args.address) d (record before { addresses = c.push.new.self.items })) c.self.view_is
    (only_address before c.push.new.self.items c.args.address c.in-Ok.ensures.items)
