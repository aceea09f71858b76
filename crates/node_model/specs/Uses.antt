-- Uses of chains as they are held, the instances of their hops, and what is imported where.
use Rattle.std.specs.Prelude.{◌≡◌, ◌⊎◌, ℕ, ◌-◌, ◌/◌, ◌%◌, List, [], ◌∷◌, ◌++◌, Bool, false, ◌==◌, if◌then◌else◌, nat_lt}
use Rattle.std.specs.Prelude.{nat_le, length, is_some}
use Rattle.std.specs.declared.option.Option.{Option}
use Rattle.std.specs.declared.option.Option.TheVariants.{Some, None}
use Rattle.std.specs.List.{filter_map}
use Rattle.ov_types.specs.Prefix.{Block}
use Rattle.ov_types.specs.declared.numbers.InstanceId.{InstanceId}
use Rattle.ov_types.specs.declared.objects.LowKey.{LowKey}
use Rattle.ov_types.specs.declared.objects.LowKey.TheVariants as key
use Rattle.ov_types.specs.declared.objects.LowValue.{LowValue}
use Rattle.ov_types.specs.declared.objects.LowValue.TheVariants as low
use Rattle.route_targets.specs.Numbers.{hop_instance_of}
use Rattle.node_model.specs.Maps.{Map, object, objects}

pub record Use : Type 0 where
  pub number : ℕ
  pub left : InstanceId
  pub right : InstanceId
  pub left_subnets : List Block
  pub right_subnets : List Block
  -- how many services it has
  pub services : ℕ

abbrev pub as_use : LowKey → LowValue → Option Use
as_use (key.ChainUse u) (low.ChainUse left right left_subnets right_subnets hops) =
    Some (record {
      number = u;
      left = left;
      right = right;
      left_subnets = left_subnets;
      right_subnets = right_subnets;
      services = length hops;
    })
as_use _ _ = None

abbrev pub use_from : ℕ → Option LowValue → Option Use
use_from u None = None
use_from u (Some v) = as_use (key.ChainUse u) v

-- the held uses, by number
abbrev pub uses : Map → List Use
uses feed = filter_map (λ e. as_use e.0 e.1) (objects feed)

-- the instance of a place in a use: place j is behind service j
abbrev pub hop : Use → ℕ → InstanceId
hop u j = hop_instance_of u.number j

-- ---- whether an instance is a hop's, of which use, and its place there
abbrev pub is_hop : InstanceId → Bool
is_hop i = nat_lt 16383 i.0

abbrev pub use_of : InstanceId → ℕ
use_of i = (i.0 - 16384) / 16

abbrev pub place_of : InstanceId → ℕ
place_of i = (i.0 - 16384) % 16

-- the held use that an instance of a hop is of
abbrev pub held_use : Map → InstanceId → Option Use
held_use feed i = use_from (use_of i) (object feed (key.ChainUse (use_of i)))

-- ---- known instances and their imports
abbrev pub is_place : ℕ → Option Use → Bool
is_place j None = false
is_place j (Some u) = nat_le j u.services

-- the known instances: those of held networks, and those of the places of held uses
abbrev pub is_known : Map → InstanceId → Bool
is_known feed i =
    if is_hop i then is_place (place_of i) (held_use feed i)
    else is_some (object feed (key.Instance i.0))

abbrev pub network_imports : Option LowValue → List InstanceId
network_imports (Some (low.Instance imports)) = imports
network_imports _ = []

-- a place imports itself, the left network at the left end and the right network at the right end
abbrev pub hop_imports : ℕ → Option Use → List InstanceId
hop_imports j None = []
hop_imports j (Some u) =
    if nat_le j u.services
    then hop u j ∷ (if j == 0 then u.left ∷ [] else []) ++ (if j == u.services then u.right ∷ [] else [])
    else []

-- an instance that is not known has none
abbrev pub imports : Map → InstanceId → List InstanceId
imports feed i =
    if is_hop i then hop_imports (place_of i) (held_use feed i)
    else network_imports (object feed (key.Instance i.0))

-- ---- imports, said as a relation
-- what is imported at place j of a use: the place itself, the left network exactly at the left end, the right network
-- exactly at the right end
abbrev pub IsImportedAt : Use → ℕ → InstanceId → Type 0
IsImportedAt u j n = (n ≡ hop u j) ⊎ (((j ≡ 0) × (n ≡ u.left)) ⊎ ((j ≡ u.services) × (n ≡ u.right)))
