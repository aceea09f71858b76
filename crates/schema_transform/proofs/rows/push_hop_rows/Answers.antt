use Rattle.std.proofs.Common.{◌∙◌, ap, map}
use Rattle.schema_transform.specs.Held.{circuit_of}
use Rattle.schema_transform.specs.HeldUses.{use_of}
use Rattle.schema_transform.proofs.Putting.{hop_put}
use Rattle.schema_transform.proofs.rows.push_hop_rows.Goals as goal

pub returns : goal.returns
returns c =
    hop_put c.args.topology.now c.args.config.now c.args.instance (use_of c.args.found.now)
    (map circuit_of c.as_slice-lefts.result.now) (map circuit_of c.as_slice-rights.result.now) c.first_hop.result
    c.last_hop.result c.args.rows.now.items _ _ _ _ _ _
    (ap (map circuit_of) c.as_slice-lefts.ensures ∙ c.args.found.now.lefts)
    (ap (map circuit_of) c.as_slice-rights.ensures ∙ c.args.found.now.rights) c.first_hop.ensures c.last_hop.ensures
    c.in_ok-push_circuit_rows.ensures c.in_ok-push_circuit_rows-2.ensures c.in_ok-push_rows_towards.ensures
    c.in_ok-push_rows_towards-2.ensures c.in_ok-push_end_rows.ensures c.in_ok-push_end_rows-2.ensures
