-- What a map has that has all of another: its attachments, its slices and what they need.
use Rattle.std.specs.Prelude.{◌≡◌, List, [], ◌∷◌, is_some, true}
use Rattle.std.specs.declared.option.Option.{Option}
use Rattle.std.specs.declared.option.Option.TheVariants.{Some, None}
use Rattle.std.specs.FinMap.{get}
use Rattle.std.proofs.Common.{ap, refl, subst, sym, ◌∙◌}
use Rattle.std.proofs.lemmas.Option.{same_Some}
use Rattle.ov_types.specs.declared.numbers.InstanceId.{InstanceId}
use Rattle.ov_types.specs.declared.objects.LowKey.{LowKey}
use Rattle.ov_types.specs.declared.objects.LowKey.TheVariants as key
use Rattle.ov_types.specs.declared.objects.LowValue.{LowValue}
use Rattle.ov_types.specs.declared.objects.LowValue.TheVariants as low
use Rattle.ov_types.specs.declared.prefix.Addr.{Addr}
use Rattle.schedule_script.specs.ConfigCheck.Checked.{Checked}
use Rattle.transform_model.specs.Objects.{low_objects}
use Rattle.node_laws.specs.NodeModel.Agent.{needed_by, needed_for}
use Rattle.node_laws.specs.NodeModel.Keys.{Low}
use Rattle.node_laws.specs.NodeModel.Maps.{Map, as_object, object, objects}
use Rattle.node_laws.specs.NodeModel.Members.{Member}
use Rattle.node_laws.specs.NodeModel.Values.{Entry, Label, Object, Route, Value}
use Rattle.node_laws.specs.NodeModel.Wants.{BelongsTo, IsAttachedAt, port_at, slice}
use Rattle.node_laws.proofs.NodeModel.Members.{from_filter_map, from_flat_map, in_filter_map, in_flat_map, none_some}
use Rattle.node_laws.proofs.NodeModel.Objects.{in_objects, object_of}
use Rattle.node_laws.proofs.NodeModel.Wanted.{slice_is}
use Rattle.machine_model.specs.Setup.{low_in, opening}
use Rattle.machine_model.proofs.Feed.{objects-low}
use Rattle.machine_laws.specs.Compiled.{Attachment, as_attachment, attachments}
use Rattle.machine_moment_laws.specs.Common.{common, placed}
use Rattle.machine_moment_laws.proofs.OfSome.{AllOfSome, EntryOfSome, ObjectOfSome}
use Rattle.machine_moment_laws.proofs.Parts.{IsAbove, IsPartOf, common_is_part, object_is}
use Rattle.machine_moment_laws.proofs.Placed.{IsPlacedAs, IsPlacedIn, placed_in}

-- ---- a held map whose objects are of some configuration, and which has each key of the common part
object_from : (c : Checked) (k : LowKey) (v : LowValue) → Member (k, v) (low_objects c.topology c.config) → object (low_in c) k ≡ Some v
object_from c k v m = ap as_object (object_of (low_in c) k v (subst (λ (os : List (LowKey × LowValue)). Member (k, v) os) (sym (objects-low (opening c))) m))

-- the objects of a list are had by another, but for the addresses of ports
abbrev pub ListPlaced : List (LowKey × LowValue) → List (LowKey × LowValue) → Type 0
ListPlaced xs ys = (k : LowKey) (w : LowValue) → Member (k, w) xs → (v : LowValue) × Member (k, v) ys × IsPlacedAs w v

module _ (b : Checked) (ds : List Checked) where
  abbrev cs : List Checked
  cs = b ∷ ds

  pub stood_above : (k : LowKey) (w v : LowValue) → object (common cs) k ≡ Some w → ObjectOfSome cs k v → IsPartOf w v
  stood_above k w v h q =
      let p = common_is_part b ds q.0 q.1 k w h in
      subst (IsPartOf w) (same_Some p.0 v (sym p.1 ∙ object_from q.0 k v q.2)) p.2

  pub stood_placed : (k : LowKey) (w v : LowValue) → object (placed cs) k ≡ Some w → ObjectOfSome cs k v → IsPlacedAs w v
  stood_placed k w v h q =
      let p = placed_in b ds q.0 q.1 k w h in
      subst (IsPlacedAs w) (same_Some p.0 v (sym p.1 ∙ object_from q.0 k v q.2)) p.2

  pub value_of_some : (f : Map) (k : LowKey) (o : Option Value) → get f (Low k) ≡ o → is_some o ≡ true → ((u : Value) → o ≡ Some u → EntryOfSome cs (Low k) u) → (v : LowValue) × (object f k ≡ Some v) × ObjectOfSome cs k v
  value_of_some f k (Some (Object v)) is e some = (v, ap as_object is, some (Object v) refl)
  value_of_some f k (Some (Route r)) is e some = absurd (some (Route r) refl)
  value_of_some f k (Some (Entry r)) is e some = absurd (some (Entry r) refl)
  value_of_some f k (Some (Label l)) is e some = absurd (some (Label l) refl)
  value_of_some f k None is e some = absurd (cc e)

  pub held_above : (f : Map) → ((k : LowKey) → is_some (object (common cs) k) ≡ true → is_some (get f (Low k)) ≡ true) → AllOfSome cs f → IsAbove (common cs) f
  held_above f has some k w h =
      let q = value_of_some f k (get f (Low k)) refl (has k (ap is_some h)) (λ u e. some (Low k) u e) in
      (q.0, q.1, stood_above k w q.0 h q.2)

  pub held_placed : (f : Map) → ((k : LowKey) → is_some (object (placed cs) k) ≡ true → is_some (get f (Low k)) ≡ true) → AllOfSome cs f → IsPlacedIn (placed cs) f
  held_placed f has some k w h =
      let q = value_of_some f k (get f (Low k)) refl (has k (ap is_some h)) (λ u e. some (Low k) u e) in
      (q.0, q.1, stood_placed k w q.0 h q.2)

-- ---- attachments and slices
pub attached_same : (k : LowKey) (w v : LowValue) (a : Attachment) → as_attachment k w ≡ Some a → IsPartOf w v → w ≡ v
attached_same (key.Attach l) (low.AttachPort p i x n) v a e h = h
attached_same (key.Attach l) (low.AttachCircuit c s n) v a e h = h
attached_same (key.Attach l) (low.Instance is) v a e h = absurd (none_some a e)
attached_same (key.Attach l) (low.Acl s r) v a e h = absurd (none_some a e)
attached_same (key.Attach l) (low.ChainUse x y c d f) v a e h = absurd (none_some a e)
attached_same (key.Instance n) w v a e h = absurd (none_some a e)
attached_same (key.Acl x y) w v a e h = absurd (none_some a e)
attached_same (key.ChainUse u) w v a e h = absurd (none_some a e)

module _ (m f : Map) (above : IsAbove m f) where
  pub object_above : (k : LowKey) (w : LowValue) → Member (k, w) (objects m) → (v : LowValue) × Member (k, v) (objects f) × IsPartOf w v
  object_above k w h =
      let q = above k w (ap as_object (object_of m k w h)) in
      (q.0, in_objects f k q.0 (object_is f k q.0 q.1), q.2)

  pub attachment_above : (a : Attachment) → Member a (attachments m) → Member a (attachments f)
  attachment_above a h =
      let q = from_filter_map (λ (e : LowKey × LowValue). as_attachment e.0 e.1) a (objects m) h in
      let p = object_above q.0.0 q.0.1 q.1 in
      let same = attached_same q.0.0 q.0.1 p.0 a q.2 p.2 in
      in_filter_map (λ (e : LowKey × LowValue). as_attachment e.0 e.1) (q.0.0, p.0) a (objects f) p.1 (ap (as_attachment q.0.0) (sym same) ∙ q.2)

-- ---- slices, but for the addresses of ports
port_same : (address : Addr) (w v : LowValue) (i : InstanceId) → port_at address w ≡ Some i → IsPlacedAs w v → port_at address v ≡ Some i
port_same address (low.AttachPort p j x n) (low.AttachPort q k y o) i e h = (λ t. port_at address (low.AttachPort q (sym h.1.0 t) y (sym h.1.1 t))) ∙ e
port_same address (low.AttachPort p j x n) (low.AttachCircuit c s o) i e h = absurd h
port_same address (low.AttachPort p j x n) (low.Instance is) i e h = absurd h
port_same address (low.AttachPort p j x n) (low.Acl s r) i e h = absurd h
port_same address (low.AttachPort p j x n) (low.ChainUse l r ls rs hops) i e h = absurd h
port_same address (low.AttachCircuit c s n) v i e h = absurd (none_some i e)
port_same address (low.Instance is) v i e h = absurd (none_some i e)
port_same address (low.Acl s r) v i e h = absurd (none_some i e)
port_same address (low.ChainUse x y c d g) v i e h = absurd (none_some i e)

pub at_placed : (address : Addr) (w v : LowValue) → IsAttachedAt address w → IsPlacedAs w v → IsAttachedAt address v
at_placed address (low.AttachPort p i x n) (low.AttachPort q j y o) h is = sym is.1.1 ∙ h
at_placed address (low.AttachPort p i x n) (low.AttachCircuit c s o) h is = absurd is
at_placed address (low.AttachPort p i x n) (low.Instance js) h is = absurd is
at_placed address (low.AttachPort p i x n) (low.Acl s r) h is = absurd is
at_placed address (low.AttachPort p i x n) (low.ChainUse l r ls rs hops) h is = absurd is
at_placed address (low.AttachCircuit c s n) v h is = subst (IsAttachedAt address) is h
at_placed address (low.Instance js) v h is = absurd h
at_placed address (low.Acl s r) v h is = absurd h
at_placed address (low.ChainUse x y c d g) v h is = absurd h

module _ (m f : Map) (placed_there : IsPlacedIn m f) where
  object_placed : (k : LowKey) (w : LowValue) → Member (k, w) (objects m) → (v : LowValue) × Member (k, v) (objects f) × IsPlacedAs w v
  object_placed k w h =
      let q = placed_there k w (ap as_object (object_of m k w h)) in
      (q.0, in_objects f k q.0 (object_is f k q.0 q.1), q.2)

  belongs_placed : (address : Addr) (k : LowKey) (w v : LowValue) → BelongsTo m address k w → IsPlacedAs w v → BelongsTo f address k v
  belongs_placed address (key.Attach l) w v h is = at_placed address w v h is
  belongs_placed address (key.Acl x y) w v h is =
      let q = object_placed h.name h.port h.held in
      record { name = h.name; port = q.0; held = q.1; port_is = port_same address h.port q.0 (record { 0 = x }) h.port_is q.2 }
  belongs_placed address (key.Instance n) w v h is = absurd h
  belongs_placed address (key.ChainUse u) w v h is = absurd h

  pub slice_placed : (address : Addr) → ListPlaced (slice m address) (slice f address)
  slice_placed address k w h =
      let s = (slice_is m address k w).0 h in
      let q = object_placed k w s.0 in
      (q.0, (slice_is f address k q.0).1 (q.1, belongs_placed address k w q.0 s.1 q.2), q.2)

-- ---- what a slice needs
needed_placed : (w v : LowValue) (i : InstanceId) → IsPlacedAs w v → Member i (needed_for w) → Member i (needed_for v)
needed_placed (low.AttachPort p j x n) (low.AttachPort q k y o) i is h = subst (λ (j : InstanceId). Member i (j ∷ [])) is.1.0 h
needed_placed (low.AttachPort p j x n) (low.AttachCircuit c s o) i is h = absurd is
needed_placed (low.AttachPort p j x n) (low.Instance js) i is h = absurd is
needed_placed (low.AttachPort p j x n) (low.Acl s r) i is h = absurd is
needed_placed (low.AttachPort p j x n) (low.ChainUse l r ls rs hops) i is h = absurd is
needed_placed (low.AttachCircuit c s n) v i is h = subst (λ (v : LowValue). Member i (needed_for v)) is h
needed_placed (low.Acl ss rs) (low.Acl ts qs) i is h = is.1 i h
needed_placed (low.Acl ss rs) (low.Instance js) i is h = absurd is
needed_placed (low.Acl ss rs) (low.AttachPort p j x n) i is h = absurd is
needed_placed (low.Acl ss rs) (low.AttachCircuit c s n) i is h = absurd is
needed_placed (low.Acl ss rs) (low.ChainUse x y c d g) i is h = absurd is
needed_placed (low.Instance js) v i is h = absurd h
needed_placed (low.ChainUse x y c d g) v i is h = absurd h

pub needed_above : (xs ys : List (LowKey × LowValue)) → ListPlaced xs ys → (i : InstanceId) → Member i (needed_by xs) → Member i (needed_by ys)
needed_above xs ys above i h =
    let q = from_flat_map (λ (e : LowKey × LowValue). needed_for e.1) i xs h in
    let p = above q.0.0 q.0.1 q.1 in
    in_flat_map (λ (e : LowKey × LowValue). needed_for e.1) (q.0.0, p.0) i ys p.1 (needed_placed q.0.1 p.0 i p.2 q.2)
