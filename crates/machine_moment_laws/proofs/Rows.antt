-- Labels and access lists of a list of objects that another has all of.
use Rattle.std.specs.Prelude.{◌≡◌, List}
use Rattle.std.specs.List.{filter_map}
use Rattle.std.specs.declared.option.Option.TheVariants.{Some}
use Rattle.std.proofs.Common.{ap, sym, ◌∙◌}
use Rattle.std.proofs.lemmas.Option.{same_Some}
use Rattle.ov_types.specs.declared.numbers.Label.{Label as LabelNo}
use Rattle.ov_types.specs.declared.objects.LowKey.{LowKey}
use Rattle.ov_types.specs.declared.objects.LowKey.TheVariants as key
use Rattle.ov_types.specs.declared.objects.LowValue.{LowValue}
use Rattle.ov_types.specs.declared.objects.LowValue.TheVariants as low
use Rattle.ov_types.specs.declared.rows.Attached.{Attached}
use Rattle.node_laws.specs.NodeModel.Agent.{acl_entry, attached}
use Rattle.node_laws.specs.NodeModel.Members.{Member}
use Rattle.node_laws.proofs.NodeModel.Members.{from_filter_map, in_filter_map, none_some}
use Rattle.machine_moment_laws.proofs.Above.{ListPlaced}
use Rattle.machine_moment_laws.proofs.Placed.{IsPlacedAs}

-- ---- labels and access lists of a list that is had
label_same : (k : LowKey) (w v : LowValue) (l : LabelNo × Attached) → attached k w ≡ Some l → IsPlacedAs w v → attached k v ≡ Some l
label_same (key.Attach n) (low.AttachPort p i x d) (low.AttachPort q j y o) l e h = (λ t. attached (key.Attach n) (low.AttachPort (sym h.0 t) (sym h.1.0 t) y o)) ∙ e
label_same (key.Attach n) (low.AttachPort p i x d) (low.AttachCircuit c s o) l e h = absurd h
label_same (key.Attach n) (low.AttachPort p i x d) (low.Instance is) l e h = absurd h
label_same (key.Attach n) (low.AttachPort p i x d) (low.Acl s r) l e h = absurd h
label_same (key.Attach n) (low.AttachPort p i x d) (low.ChainUse a b c f g) l e h = absurd h
label_same (key.Attach n) (low.AttachCircuit c s d) v l e h = ap (attached (key.Attach n)) (sym h) ∙ e
label_same (key.Attach n) (low.Instance is) v l e h = absurd (none_some l e)
label_same (key.Attach n) (low.Acl s r) v l e h = absurd (none_some l e)
label_same (key.Attach n) (low.ChainUse x y c d f) v l e h = absurd (none_some l e)
label_same (key.Instance n) w v l e h = absurd (none_some l e)
label_same (key.Acl x y) w v l e h = absurd (none_some l e)
label_same (key.ChainUse u) w v l e h = absurd (none_some l e)

abbrev pub named : LowKey → LowValue → LowKey × LowValue
named k v = (k, v)

list_key : (k : LowKey) (w : LowValue) (o : LowKey × LowValue) (v : LowValue) → acl_entry k w ≡ Some o → acl_entry k v ≡ Some (named o.0 v)
list_key (key.Acl x y) w o v e = ap (λ (o : LowKey × LowValue). Some (named o.0 v)) (same_Some (named (key.Acl x y) w) o e)
list_key (key.Attach n) w o v e = absurd (none_some o e)
list_key (key.Instance n) w o v e = absurd (none_some o e)
list_key (key.ChainUse u) w o v e = absurd (none_some o e)

module _ (xs ys : List (LowKey × LowValue)) (above : ListPlaced xs ys) where
  pub labels_above : (l : LabelNo × Attached) → Member l (filter_map (λ e. attached e.0 e.1) xs) → Member l (filter_map (λ e. attached e.0 e.1) ys)
  labels_above l m =
      let q = from_filter_map (λ (e : LowKey × LowValue). attached e.0 e.1) l xs m in
      let v = above q.0.0 q.0.1 q.1 in
      in_filter_map (λ (e : LowKey × LowValue). attached e.0 e.1) (named q.0.0 v.0) l ys v.1 (label_same q.0.0 q.0.1 v.0 l q.2 v.2)

  pub lists_above : (k : LowKey) (w : LowValue) → Member (k, w) (filter_map (λ e. acl_entry e.0 e.1) xs) → (v : LowValue) × Member (k, v) (filter_map (λ e. acl_entry e.0 e.1) ys)
  lists_above k w m =
      let q = from_filter_map (λ (e : LowKey × LowValue). acl_entry e.0 e.1) (named k w) xs m in
      let v = above q.0.0 q.0.1 q.1 in
      (v.0, in_filter_map (λ (e : LowKey × LowValue). acl_entry e.0 e.1) (named q.0.0 v.0) (named k v.0) ys v.1 (list_key q.0.0 q.0.1 (named k w) v.0 q.2))
