use Rattle.std.proofs.Common.{ap, sym, subst, ◌∙◌}
use Rattle.std.specs.List.{list_any}
use Rattle.ov_types.specs.declared.prefix.Addr.{Addr}
use Rattle.vpn_tables.specs.NodeModel.Members.{Member}
use Rattle.control_wants.specs.Marks.{Marks}
use Rattle.control_wants.proofs.Sets.{same_number, not_found, was_found}
use Rattle.control_wants.proofs.dirty.Dirty.is_whole.Goals as goal

pub returns-clause-address : goal.returns-clause-address
returns-clause-address c = λ none n.
    not_found c.args.address c.self.inside.addresses.items
    (sym (ap (list_any (λ (y : Addr). same_number y c.args.address)) c.deref.ensures.value) ∙ sym c.contains.ensures.value ∙ none)
    (subst (λ (d : Marks). Member c.args.address d.addresses) (sym c.self.view_is) n)

pub returns-clause-whole : goal.returns-clause-whole
returns-clause-whole c = λ found _.
    subst (λ (d : Marks). Member c.args.address d.addresses) c.self.view_is
    (was_found c.args.address c.self.inside.addresses.items (sym (ap (list_any (λ (y : Addr). same_number y c.args.address)) c.deref.ensures.value) ∙ sym c.contains.ensures.value ∙ found))
