use Rattle.std.proofs.Common.{◌≡◌, ap, sym, ◌∙◌, subst, drop, length, take, arith, true, false, List}
use Rattle.std.specs.List.{AllPairs, between}
use Rattle.std.specs.List.Sorted.{IsPartitionPoint}
use Rattle.std.proofs.lemmas.Slice.{between_to_end}
use Rattle.ov_types.specs.Access.{access_towards}
use Rattle.inspect_walks.specs.Taking.{is_not_behind}
use Rattle.inspect_walks.proofs.Lists.{Below, Object, own_lists}
use Rattle.inspect_walks.proofs.Searching.{pairs_drop}
use Rattle.inspect_walks.proofs.verdicts.lists_from.Goals as goal

pub count_not_behind-requires : goal.count_not_behind-requires
count_not_behind-requires c =
    let ls : List Object = c.args.lists.now in
    let first = c.count_before.result in
    subst (AllPairs Below) (sym (between_to_end ls first (length ls) (omega arith))) (pairs_drop Below first ls c.requires)

pub returns : goal.returns
returns c = λ address.
    let ls : List Object = c.args.lists.now in
    let n = c.args.network.0 in
    let first = c.count_before.result in
    let past = c.count_not_behind.result in
    let front : between first (length ls) ls ≡ drop first ls = between_to_end ls first (length ls) (omega arith) in
    let point = subst (λ (xs : List Object). IsPartitionPoint (λ e. is_not_behind n e.0 ≡ true) (λ e. is_not_behind n e.0 ≡ false) xs past) front c.count_not_behind.ensures.point in
    ap (λ (xs : List Object). access_towards n address (take past xs)) front
    ∙ own_lists n address first past ls c.count_before.ensures.point point
