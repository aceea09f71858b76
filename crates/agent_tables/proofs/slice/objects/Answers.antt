use Rattle.std.proofs.Common.{ap, sym, ◌∙◌, ◌++◌, List, append-nil, rules}
use Rattle.std.specs.List.{filter_map}
use Rattle.std.specs.Map.Iter.{deref_pair}
use Rattle.std.proofs.lemmas.Map.Iter.{rest_all}
use Rattle.ov_types.specs.declared.keys.DownKey.{DownKey}
use Rattle.ov_types.specs.declared.keys.DownValue.{DownValue}
use Rattle.agent_tables.specs.Slice.{pairs_of}
use Rattle.agent_tables.proofs.Told.{all_fit, object_at, objects_are}
use Rattle.agent_tables.proofs.slice.objects.Goals as goal

pub loop-key-init : goal.loop-key-init
loop-key-init c = let fit = all_fit c.args.held.now c.iter-key-items.ensures.ascending c.requires in record { same = search rules; fit = search (rules, fit) }

pub returns : goal.returns
returns c =
    let before = rest_all deref_pair c.loop-key.key-iterator c.next.new.self c.next.result c.in-None.is c.next.ensures.steps in
    sym (append-nil (pairs_of c.loop-key.slice.items))
    ∙ ap (λ (l : List (DownKey × DownValue)). pairs_of c.loop-key.slice.items ++ filter_map object_at l) (sym before)
    ∙ c.loop-key.invariant.same ∙ sym (objects_are c.args.held.now c.iter-key-items.ensures.ascending)
