use Rattle.std.proofs.Common.{ap, sym, ◌∙◌, List}
use Rattle.std.specs.List.{filter_map}
use Rattle.std.specs.Map.Iter.{deref_pair}
use Rattle.std.proofs.lemmas.Map.Iter.{rest_all}
use Rattle.ov_types.specs.declared.keys.DownKey.{DownKey}
use Rattle.ov_types.specs.declared.keys.DownValue.{DownValue}
use Rattle.agent_tables.specs.Routes.{kept_all}
use Rattle.agent_tables.proofs.Told.{route_at, routes_are}
use Rattle.agent_tables.proofs.fibs.keep_routes.Goals as goal

pub returns : goal.returns
returns c =
    let before = rest_all deref_pair c.loop-key.key-iterator c.next.new.self c.next.result c.in-None.is c.next.ensures.steps in
    ap (λ (l : List (DownKey × DownValue)). kept_all c.loop-key.fibs.entries (filter_map route_at l)) (sym before)
    ∙ c.loop-key.invariant
    ∙ ap (kept_all c.args.fibs.now.entries) (sym (routes_are c.args.held.now c.iter-key-items.ensures.ascending))
