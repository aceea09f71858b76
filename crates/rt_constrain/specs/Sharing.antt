-- How many of the routes that a control node would tell its peers are sent to one that asks.
use Rattle.std.specs.Prelude.{ℕ, List, length}
use Rattle.std.specs.FinMap.{entries}
use Rattle.node_model.specs.Maps.{Map}
use Rattle.rt_constrain.specs.Cut.{restricted}
use Rattle.rt_membership.specs.declared.asked.Asked.{Asked}
use Rattle.rt_constrain.specs.Covering.{covers}
use Rattle.rt_constrain.specs.declared.sharing.Share.{Share}

abbrev pub count : Map → ℕ
count routes = length (entries routes)

-- how many routes are asked for, and how many there are in all
abbrev pub share : List Asked → Map → Share
share asked routes = record { sent = count (restricted (covers asked) routes); all = count routes }
