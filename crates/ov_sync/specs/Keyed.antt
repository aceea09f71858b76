-- A keyed map that is told to another place by its changes.
--     map_of R es      the map that has these entries
--     changed m d, after m ds      the map after one change, and after a list of them
--     change_at same sent wanted k      the change that the key k needs, if it needs one
--     difference same sent wanted      the change of each key that needs one, in the order of the keys
--     is_changed R ds k      whether one of the changes is of the key k
--     set_key m k w      the map where the key k has what is wanted of it, a value or none
--     set_keys wanted m ks, told_keys same wanted m ks      the map where the keys ks, one after the other, have what is wanted of them, and the changes that are told so
--     AgreeBut ks a b      two maps have the same at every key that is not one of ks
--     IsInStep held queue sent      what is held, with the changes on their way applied, is what was sent
use Rattle.std.specs.Prelude.{◌≡◌, Bool, false, List, [], ◌∷◌, ◌++◌, if◌then◌else◌}
use Rattle.std.specs.declared.option.Option.{Option}
use Rattle.std.specs.declared.option.Option.TheVariants.{Some, None}
use Rattle.std.specs.declared.cmp.Ordering.{Ordering}
use Rattle.std.specs.Ordering.{eq_by_cmp}
use Rattle.std.specs.List.{cons_option, filter_map, list_any}
use Rattle.std.specs.FinMap.{FinMap, get, insert, remove, entries, keys, from_entries}
use Rattle.ov_sync.specs.declared.Delta.{Delta}
use Rattle.ov_sync.specs.declared.Delta.TheVariants.{Put, Drop}

-- the map that has these entries, which stand in the order of their keys
abbrev pub map_of : {K V : Type 0} (R : K → K → Ordering) → List (K × V) → FinMap R V
map_of R es = from_entries es

-- the key of a change
abbrev pub key_of : {K V : Type 0} → Delta K V → K
key_of (Put k v) = k
key_of (Drop k) = k

-- a change that gives its key a value
abbrev pub IsPut : {K V : Type 0} → Delta K V → Type 0
IsPut (Put k v) = Unit {0}
IsPut (Drop k) = ⊥

-- whether one of the changes is of this key
abbrev pub is_changed : {K V : Type 0} → (K → K → Ordering) → List (Delta K V) → K → Bool
is_changed R ds k = list_any (λ d. eq_by_cmp R k (key_of d)) ds

module _ {K V : Type 0} {R : K → K → Ordering} where
  abbrev pub changed : FinMap R V → Delta K V → FinMap R V
  changed m (Put k v) = insert m k v
  changed m (Drop k) = remove m k

  abbrev pub after : FinMap R V → List (Delta K V) → FinMap R V
  after m [] = m
  after m (d ∷ ds) = after (changed m d) ds

  -- every key that the one or the other has, in order
  abbrev pub keys_of_either : FinMap R V → FinMap R V → List K
  keys_of_either a b = keys (from_entries {R = R} (entries a ++ entries b))

  -- what is held, with the changes on their way applied, is what was sent
  abbrev pub IsInStep : FinMap R V → List (Delta K V) → FinMap R V → Type 0
  IsInStep held queue sent = after held queue ≡ sent

-- the change from one value of a key to another
abbrev pub change : {K V : Type 0} → (V → V → Bool) → K → Option V → Option V → Option (Delta K V)
change same k None None = None
change same k (Some v) None = Some (Drop k)
change same k None (Some w) = Some (Put k w)
change same k (Some v) (Some w) = if same v w then None else Some (Put k w)

module _ {K V : Type 0} {R : K → K → Ordering} (same : V → V → Bool) where
  abbrev pub change_at : FinMap R V → FinMap R V → K → Option (Delta K V)
  change_at sent wanted k = change same k (get sent k) (get wanted k)

  abbrev pub difference : FinMap R V → FinMap R V → List (Delta K V)
  difference sent wanted = filter_map (change_at sent wanted) (keys_of_either sent wanted)

module _ {K V : Type 0} {R : K → K → Ordering} where
  -- one key has what is wanted of it
  abbrev pub set_key : FinMap R V → K → Option V → FinMap R V
  set_key m k None = remove m k
  set_key m k (Some v) = insert m k v

  -- some keys, one after the other, have what is wanted of them
  abbrev pub set_keys : FinMap R V → FinMap R V → List K → FinMap R V
  set_keys wanted m [] = m
  set_keys wanted m (k ∷ ks) = set_keys wanted (set_key m k (get wanted k)) ks

  -- the changes that are told so
  abbrev pub told_keys : (V → V → Bool) → FinMap R V → FinMap R V → List K → List (Delta K V)
  told_keys same wanted m [] = []
  told_keys same wanted m (k ∷ ks) =
      cons_option (change_at same m wanted k) (told_keys same wanted (set_key m k (get wanted k)) ks)

  -- the two have the same at every key that is not one of these
  abbrev pub AgreeBut : List K → FinMap R V → FinMap R V → Type 0
  AgreeBut ks a b = (k : K) → list_any (eq_by_cmp R k) ks ≡ false → get a k ≡ get b k

-- a change puts what has P
abbrev pub PutOf : {K V : Type 0} → (K → V → Type 0) → Delta K V → Type 0
PutOf P (Put k v) = P k v
PutOf P (Drop k) = Unit {0}

-- each entry of a map has P
abbrev pub Values : {K V : Type 0} {R : K → K → Ordering} → (K → V → Type 0) → FinMap R V → Type 0
Values {K = K} {V = V} P m = (k : K) (v : V) → get m k ≡ Some v → P k v
