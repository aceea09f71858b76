use Rattle.std.proofs.Common.{sym, ap, ◌∙◌, List}
use Rattle.std.specs.List.{list_any}
use Rattle.ov_types.specs.Prefix.{Block, contains}
use Rattle.inspect_walks.proofs.Lists.{left_out, taken_in}
use Rattle.inspect_walks.proofs.verdicts.access_by.Goals as goal

pub returns-then-not-any_contains : goal.returns-then-not-any_contains
returns-then-not-any_contains c =
    left_out c.args.network.0 c.args.address.0 c.in-Acl.from c.in-Acl.to c.args.key.now c.args.value.now c.in-Acl-value.subnets c.in-Acl-value.rules
    c.in-Acl.is c.in-Acl-value.is c.if-from-network.false
    (sym c.if-not-any_contains.true ∙ c.any_contains.ensures
    ∙ ap (λ (l : List Block). list_any (λ p. contains p c.args.address.0) l) c.as_slice.ensures)

pub returns : goal.returns
returns c =
    taken_in c.args.network.0 c.args.address.0 c.in-Acl.from c.in-Acl.to c.args.key.now c.args.value.now c.in-Acl-value.subnets c.in-Acl-value.rules
    c.in-Acl.is c.in-Acl-value.is c.if-from-network.false
    (sym c.if-not-any_contains.false ∙ c.any_contains.ensures
    ∙ ap (λ (l : List Block). list_any (λ p. contains p c.args.address.0) l) c.as_slice.ensures)
    c.as_slice-2.result.now c.as_slice-2.ensures
