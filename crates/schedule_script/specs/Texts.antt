-- How ties are printed.
use Rattle.std.specs.Prelude.{ℕ, List, ◌++◌, codes, decimal}
use Rattle.ov_types.specs.Texts.{address_text}
use Rattle.schedule_script.specs.declared.breaking.Tie.{Tie}
use Rattle.schedule_script.specs.declared.breaking.Tie.TheVariants as Tied

abbrev pub tie_text : Tie → List ℕ
tie_text (Tied.Port number) = codes "port " ++ decimal number.0
tie_text (Tied.ChainUse number) = codes "use " ++ decimal number
tie_text (Tied.Node address) = codes "node " ++ address_text address.0
