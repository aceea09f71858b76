-- The slice in use, where one access list of it may have changed.
--     object_in_use h k      the object under a key in the slice in use
--     SameBut k h g      two holdings have the same routes, and the same slice in use but for the object under k
--     list_key c      the networks of the access list that a change puts or drops, where it is one
--     HaveSame k h t      the tables are those of holdings that are the same as h but for k, and need the same instances
use Rattle.std.specs.Prelude.{◌≡◌, List, [], Bool, true, false}
use Rattle.std.specs.declared.option.Option.{Option}
use Rattle.std.specs.declared.option.Option.TheVariants.{Some, None}
use Rattle.std.specs.BTreeMap.{insert_entry, is_at}
use Rattle.std.specs.FinMap.{find}
use Rattle.std.specs.Map.{remove_entry}
use Rattle.std.specs.Ordering.{eq_by_cmp}
use Rattle.ov_types.specs.Keys.{low_key_cmp}
use Rattle.ov_types.specs.declared.numbers.InstanceId.{InstanceId}
use Rattle.ov_types.specs.declared.objects.LowKey.{LowKey}
use Rattle.ov_types.specs.declared.objects.LowKey.TheVariants.{Acl}
use Rattle.ov_types.specs.declared.objects.LowValue.{LowValue}
use Rattle.ov_sync.specs.declared.Delta.TheVariants.{Put, Drop}
use Rattle.node_core.specs.NodeModel.Agent.{Holdings, is_needed, needed_for, slice_in_use}
use Rattle.node_core.specs.NodeModel.Keys.{Low}
use Rattle.node_core.specs.NodeModel.Maps.{Change}
use Rattle.agent_tables.specs.Touched.{AreTables, SameRoutes, Tabled}

abbrev pub object_in_use : Holdings → LowKey → Option LowValue
object_in_use h k = find low_key_cmp k (slice_in_use h)

-- a key is an access list's
abbrev pub is_list : LowKey → Bool
is_list (Acl from to) = true
is_list _ = false

-- the instances that an object makes an agent need, where there is one
abbrev pub needed_at : Option LowValue → List InstanceId
needed_at None = []
needed_at (Some v) = needed_for v

-- a list in which another object, or none, stands under a key
abbrev pub with_object : List (LowKey × LowValue) → LowKey → Option LowValue → List (LowKey × LowValue)
with_object es k None = remove_entry (is_at (low_key_cmp k)) es
with_object es k (Some v) = insert_entry low_key_cmp es k v

pub record SameBut (k : LowKey) (h g : Holdings) : Type 0 where
  pub others : (q : LowKey) → eq_by_cmp low_key_cmp q k ≡ false → object_in_use h q ≡ object_in_use g q
  pub routes : SameRoutes h g

pub record HaveSame (k : LowKey) (h : Holdings) (t : Tabled) : Type 0 where
  pub before : Holdings
  pub same : SameBut k before h
  pub needs : (i : InstanceId) → is_needed before i ≡ is_needed h i
  pub are : AreTables before t

-- the two networks of the access list that a change puts or drops, where it is one
abbrev pub list_key : Option Change → Option (InstanceId × InstanceId)
list_key (Some (Put (Low (Acl from to)) v)) = Some (record { 0 = from }, record { 0 = to })
list_key (Some (Drop (Low (Acl from to)))) = Some (record { 0 = from }, record { 0 = to })
list_key _ = None

abbrev pub list_between : InstanceId × InstanceId → LowKey
list_between n = Acl n.0.0 n.1.0
