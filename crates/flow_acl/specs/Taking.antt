-- What the code takes for an access list.
use Rattle.std.specs.Prelude.{Option, option_map}
use Rattle.ov_types.specs.Access.{Access}
use Rattle.flow_acl.specs.declared.verdicts.AccessList.{AccessList}

-- where an access list of the code leads, and its entries
abbrev pub as_access : Option AccessList → Option Access
as_access o = option_map (λ l. record { to = l.to; rules = l.rules.now }) o
