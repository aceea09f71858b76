-- Which subnets are reachable along a chain, and the routes that lead them on.
use Rattle.std.specs.Prelude.{◌≡◌, ℕ, zero, suc, ◌+◌, ◌-◌, ◌<◌, ◌≤◌, List, [], ◌∷◌, ◌++◌, Bool, true, false, ◌&&◌, ◌||◌}
use Rattle.std.specs.Prelude.{if◌then◌else◌, is_some}
use Rattle.std.specs.declared.option.Option.{Option}
use Rattle.std.specs.declared.option.Option.TheVariants.{Some, None}
use Rattle.std.specs.List.{flat_map, list_any}
use Rattle.std.specs.FinMap.{get}
use Rattle.ov_types.specs.Prefix.{Block, host_prefix, is_inside}
use Rattle.ov_types.specs.declared.numbers.InstanceId.{InstanceId}
use Rattle.ov_types.specs.declared.numbers.Label.{Label as LabelNo}
use Rattle.ov_types.specs.declared.prefix.Addr.{Addr}
use Rattle.route_targets.specs.Numbers.{target_of, distinguisher_of, left_circuit_of, right_circuit_of}
use Rattle.route_targets.specs.Numbers.{circuit_instance_of, circuit_address_of}
use Rattle.node_model.specs.Members.{Member}
use Rattle.node_model.specs.Keys.{Publish}
use Rattle.node_model.specs.Maps.{Map, as_label}
use Rattle.node_model.specs.Uses.{Use, uses, hop}
use Rattle.node_model.specs.Paths.{Holdings, Told, Path, received}

-- ---- circuits that are published here
-- an agent publishes a circuit under the circuit's instance and host address
abbrev pub published_by : Told → ℕ → Option LabelNo
published_by a circuit =
    as_label (get a.map (Publish (circuit_instance_of circuit) (host_prefix (circuit_address_of circuit).0)))

-- the address and the label of a circuit. Where two agents publish it, the lower session counts
abbrev pub published_in : List Told → ℕ → Option (Addr × LabelNo)
published_in [] circuit = None
published_in (a ∷ agents) circuit =
    elim (published_by a circuit) [ Some label ↦ Some (a.address, label) | None ↦ published_in agents circuit ]

abbrev pub publisher : Holdings → ℕ → Option (Addr × LabelNo)
publisher h circuit = published_in h.agents circuit

-- ---- the two sides of a use
-- a network at an end of the chain, as it is seen from that end. Both sides are read by the same functions
pub record Side : Type 0 where
  pub chain : Use
  pub is_right : Bool

abbrev pub network : Side → InstanceId
network s = if s.is_right then s.chain.right else s.chain.left

abbrev pub subnets : Side → List Block
subnets s = if s.is_right then s.chain.right_subnets else s.chain.left_subnets

-- the instance that is d places from the side's end: place k - d from the right, and d from the left
abbrev pub hop_at : Side → ℕ → InstanceId
hop_at s d = hop s.chain (if s.is_right then s.chain.services - d else d)

-- the circuit there that leads towards the side's end: the left one of the service to its right, or the right one of
-- that to its left
abbrev pub circuit_at : Side → ℕ → ℕ
circuit_at s d =
    if s.is_right then left_circuit_of s.chain.number (s.chain.services - d + 1)
    else right_circuit_of s.chain.number d

-- the right one before the left one
abbrev pub sides_of : Use → List Side
sides_of u = record { chain = u; is_right = true } ∷ record { chain = u; is_right = false } ∷ []

abbrev pub sides : Map → List Side
sides feed = flat_map sides_of (uses feed)

-- ---- reachable ends
abbrev pub has_path_within : Holdings → InstanceId → Block → Bool
has_path_within h i subnet = list_any (λ p. is_inside p.prefix subnet) (received h i)

-- a subnet of a side is up, d places from its end: a path within it was received there, or the circuit towards the end
-- is published here, and it is up one place nearer
abbrev pub is_up : Holdings → Side → Block → ℕ → Bool
is_up h s subnet zero = has_path_within h (hop_at s zero) subnet
is_up h s subnet (suc d) =
    has_path_within h (hop_at s (suc d)) subnet
    || (is_some (publisher h (circuit_at s (suc d))) && is_up h s subnet d)

-- ---- re-originated routes
abbrev pub towards : Holdings → InstanceId → Block → Option (Addr × LabelNo) → List Path
towards h i subnet None = []
towards h i subnet (Some p) =
    record {
      prefix = subnet;
      rd = distinguisher_of p.0 i;
      next_hop = p.0;
      label = p.1;
      targets = target_of h.asn i ∷ [];
      session = 65535;
    } ∷ []

-- the numbers below n, in order
abbrev pub below : ℕ → List ℕ
below zero = []
below (suc n) = below n ++ n ∷ []

-- into the place one step farther from the end: towards its circuit, the subnets that pass the test at place d
abbrev pub into : (Side → Block → ℕ → Bool) → Holdings → Side → ℕ → List Path
into test h s d =
    flat_map
    (λ subnet. if test s subnet d then towards h (hop_at s (suc d)) subnet (publisher h (circuit_at s (suc d))) else [])
    (subnets s)

abbrev pub reoriginated_by : (Side → Block → ℕ → Bool) → Holdings → List Path
reoriginated_by test h = flat_map (λ s. flat_map (into test h s) (below s.chain.services)) (sides h.feed)

-- each subnet that is up leads on, one place farther
abbrev pub reoriginated_paths : Holdings → List Path
reoriginated_paths h = reoriginated_by (is_up h) h

-- ---- what is reached and led on, said as relations
-- a path within the subnet was received at some place between the end and place d, and every circuit on the way from
-- place d to there is published here
pub record IsReached (h : Holdings) (s : Side) (subnet : Block) (d : ℕ) : Type 0 where
  pub place : ℕ
  pub nearer : place ≤ d
  pub received : has_path_within h (hop_at s place) subnet ≡ true
  pub published : (e : ℕ) → place < e → e ≤ d → is_some (publisher h (circuit_at s e)) ≡ true

-- a path leads a subnet of a side on, into a place of the use: towards the circuit there, which is published here, and
-- the subnet is up one place nearer to its end
pub record IsReoriginated (h : Holdings) (p : Path) : Type 0 where
  pub side : Side
  pub depth : ℕ
  pub held : Member side (sides h.feed)
  pub within : depth < side.chain.services
  pub subnet : Member p.prefix (subnets side)
  pub up : is_up h side p.prefix depth ≡ true
  pub published : publisher h (circuit_at side (suc depth)) ≡ Some (p.next_hop, p.label)
  pub rd : p.rd ≡ distinguisher_of p.next_hop (hop_at side (suc depth))
  pub targets : p.targets ≡ target_of h.asn (hop_at side (suc depth)) ∷ []
  pub session : p.session ≡ 65535

-- no held use has more than 15 services
abbrev pub AreShort : Map → Type 0
AreShort feed = (u : Use) → Member u (uses feed) → u.services ≤ 15
