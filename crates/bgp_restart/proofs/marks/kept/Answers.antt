use Rattle.std.specs.Prelude.{ℕ, List, [], Option, option_map, unwrap_or}
use Rattle.std.specs.List.{list_any}
use Rattle.std.proofs.Common.{sym, ◌∙◌, ap}
use Rattle.bgp_restart.specs.Marks.{families_of, is_kept}
use Rattle.bgp_restart.proofs.Naming.{kept_named}
use Rattle.bgp_restart.proofs.marks.kept.Goals as goal

pub returns-in-Some-clause-of_a_named_family : goal.returns-in-Some-clause-of_a_named_family
returns-in-Some-clause-of_a_named_family c h =
    kept_named c.args.part.now
    (ap (λ (o : Option (List ℕ)). list_any is_kept (unwrap_or (option_map families_of o) [])) (sym c.in-Some.ensures)
    ∙ sym c.keeps_vpn.ensures ∙ h)
