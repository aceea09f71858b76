-- The rows that a change of an agent's address, or of an object, may change.
use Rattle.std.specs.Prelude.{ℕ, List, [], ◌∷◌, ◌++◌, map, Bool, true, false, ◌==◌, is_some, nat_le, if◌then◌else◌}
use Rattle.std.specs.declared.option.Option.{Option}
use Rattle.std.specs.declared.option.Option.TheVariants.{Some, None}
use Rattle.std.specs.List.{flat_map}
use Rattle.ov_sync.specs.declared.Delta.TheVariants.{Drop}
use Rattle.ov_types.specs.Prefix.{Block}
use Rattle.ov_types.specs.declared.keys.UpKey.{UpKey}
use Rattle.ov_types.specs.declared.keys.UpKey.TheVariants as Up
use Rattle.ov_types.specs.declared.numbers.InstanceId.{InstanceId}
use Rattle.ov_types.specs.declared.objects.LowKey.{LowKey}
use Rattle.ov_types.specs.declared.objects.LowKey.TheVariants as key
use Rattle.ov_types.specs.declared.objects.LowValue.{LowValue}
use Rattle.route_targets.specs.Numbers.{hop_instance_of, target_of}
use Rattle.node_model.specs.Maps.{object}
use Rattle.node_model.specs.Paths.{Holdings}
use Rattle.node_model.specs.Reaching.{below}
use Rattle.node_model.specs.Uses.{Use, as_use, is_hop, use_of}
use Rattle.vpn_holdings.specs.Gathered.{held_keys, keys_told, prefixes_told}
use Rattle.vpn_holdings.specs.Listing.{told_in}
use Rattle.vpn_holdings.specs.Moved.{targets_by_publication}
use Rattle.vpn_holdings.specs.Touched.{rows_by_key, touched_rows}

-- the rows that the publications of the agent of a session touch
abbrev pub rows_by_agent : Holdings → ℕ → List (InstanceId × Block)
rows_by_agent h session =
    flat_map (λ k. rows_by_key h (targets_by_publication h session (Drop k)) k) (keys_told (told_in h.agents session))

-- ---- an instance or a use
-- the instances of an object: of a use as many places as one may have. There are 3072 numbers of uses
abbrev pub instances_of : LowKey → List InstanceId
instances_of (key.Instance n) = record { 0 = n } ∷ []
instances_of (key.ChainUse u) = if nat_le u 3071 then map (hop_instance_of u) (below 16) else []
instances_of _ = []

abbrev pub is_of : LowKey → InstanceId → Bool
is_of (key.Instance n) i = if is_hop i then false else i.0 == n
is_of (key.ChainUse u) i = if is_hop i then use_of i == u else false
is_of _ i = false

-- rows follow from the object of a key: from an attachment and an access list none do
abbrev pub makes_rows : LowKey → Bool
makes_rows (key.Instance n) = true
makes_rows (key.ChainUse u) = true
makes_rows _ = false

-- the subnets of a use
abbrev pub subnets_by : Option Use → List Block
subnets_by None = []
subnets_by (Some u) = u.left_subnets ++ u.right_subnets

abbrev pub subnets_of : LowKey → Option LowValue → List Block
subnets_of k None = []
subnets_of k (Some v) = subnets_by (as_use k v)

-- the rows of the instances of an object, for each prefix that something was told with, and each of some subnets
abbrev pub own_rows : Holdings → LowKey → List Block → List (InstanceId × Block)
own_rows h k subnets = flat_map (λ i. map (λ p. (i, p)) (prefixes_told h ++ subnets)) (instances_of k)

-- the rows that what an agent told touches, where it is a publication in an instance of the object
abbrev pub rows_published : Holdings → LowKey → UpKey → List (InstanceId × Block)
rows_published h k (Up.Publish i prefix) = if is_of k i then touched_rows h (target_of h.asn i ∷ []) prefix else []
rows_published h k (Up.Subscribe i) = []

-- an instance that is held stays known where it is put anew: what it imports may change alone
abbrev pub stays_known : Holdings → LowKey → Bool
stays_known h (key.Instance n) = is_some (object h.feed (key.Instance n))
stays_known h _ = false

abbrev pub rows_by_object : Holdings → LowKey → LowValue → List (InstanceId × Block)
rows_by_object h k v =
    own_rows h k (subnets_of k (object h.feed k) ++ subnets_of k (Some v))
    ++ (if stays_known h k then [] else flat_map (rows_published h k) (held_keys h))
