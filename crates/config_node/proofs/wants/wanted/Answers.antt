use Rattle.std.proofs.Common.{◌∙◌, ap}
use Rattle.std.specs.FinMap.{from_entries}
use Rattle.config_node.proofs.Law.{low_fits}
use Rattle.config_node.specs.Ends.{Objects}
use Rattle.config_node.proofs.Wanted.{as_wanted}
use Rattle.config_node.proofs.wants.wanted.Goals as goal

pub returns-in_err-objects-clause-fits : goal.returns-in_err-objects-clause-fits
returns-in_err-objects-clause-fits c =
    let e = c.config-config.ensures in
    low_fits c.args.valid.now e.topology_form e.config_form e.valid

pub returns-in_err-wants-clause-fits : goal.returns-in_err-wants-clause-fits
returns-in_err-wants-clause-fits c =
    let e = c.config-config.ensures in
    low_fits c.args.valid.now e.topology_form e.config_form e.valid

pub returns-clause-fits : goal.returns-clause-fits
returns-clause-fits c =
    let e = c.config-config.ensures in
    low_fits c.args.valid.now e.topology_form e.config_form e.valid

pub returns-clause-wanted : goal.returns-clause-wanted
returns-clause-wanted c =
    as_wanted c.args.valid.now c.in_ok-objects.objects c.in_ok-wants.wants.entries c.in_ok-objects.ensures
    (c.in_ok-wants.ensures ∙ ap (λ (es : Objects). from_entries es) c.into_vec.ensures)
