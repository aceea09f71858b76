use Rattle.std.proofs.Common.{◌≡◌, ap, sym, subst, ◌∙◌, ◌==◌, List, map}
use Rattle.std.specs.List.{list_any}
use Rattle.std.specs.List.Sorted.{IsStrictlySortedBy}
use Rattle.ov_types.specs.Keys.{low_key_cmp}
use Rattle.ov_types.specs.declared.numbers.InstanceId.{InstanceId}
use Rattle.ov_types.specs.declared.objects.LowKey.{LowKey}
use Rattle.ov_types.specs.declared.objects.LowValue.{LowValue}
use Rattle.node_core.specs.NodeModel.Agent.{Holdings, needed, needed_by, slice_in_use}
use Rattle.agent_tables.specs.Slice.{pairs_of}
use Rattle.agent_tables.specs.Views.{heard_of}
use Rattle.agent_tables.proofs.Slices.{labels_in, lists_in, slice_ascends}
use Rattle.agent_tables.proofs.sliced.slice_tables.Goals as goal

abbrev Ascending : List (LowKey × LowValue) → Type 0
Ascending slice = IsStrictlySortedBy low_key_cmp (map (λ e. e.0) slice)

pub labels_of-requires : goal.labels_of-requires
labels_of-requires c = subst Ascending (sym (ap pairs_of c.as_slice-2.ensures.value ∙ c.in_ok-slice.ensures)) (slice_ascends (map heard_of c.args.sessions.now))

pub acls_of-requires : goal.acls_of-requires
acls_of-requires c = subst Ascending (sym (ap pairs_of c.as_slice-3.ensures.value ∙ c.in_ok-slice.ensures)) (slice_ascends (map heard_of c.args.sessions.now))

pub returns : goal.returns
returns c =
    let h : Holdings = map heard_of c.args.sessions.now in
    let first : pairs_of c.as_slice-2.result.now ≡ slice_in_use h = ap pairs_of c.as_slice-2.ensures.value ∙ c.in_ok-slice.ensures in
    let second : pairs_of c.as_slice-3.result.now ≡ slice_in_use h = ap pairs_of c.as_slice-3.ensures.value ∙ c.in_ok-slice.ensures in
    let needs : c.as_slice-4.result.now ≡ needed h =
    c.as_slice-4.ensures.value ∙ c.in_ok-needed.ensures ∙ ap needed_by (ap pairs_of c.as_slice.ensures.value ∙ c.in_ok-slice.ensures) in
    record {
      labels = c.in_ok-labels.ensures.labels ∙ ap labels_in first;
      lists = c.in_ok-acls.ensures ∙ ap lists_in second;
      circuits = c.in_ok-labels.ensures.circuits;
      tables = λ i. c.in_ok-fibs.ensures.tables i ∙ ap (list_any (λ (n : InstanceId). n.0 == i.0)) needs;
      empty = c.in_ok-fibs.ensures.empty;
      ascending = c.in_ok-fibs.ensures.ascending;
    }
