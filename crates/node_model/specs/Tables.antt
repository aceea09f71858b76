-- The table of an instance: for each prefix the least of its paths.
use Rattle.std.specs.Prelude.{◌≡◌, ◌<◌, ◌⊎◌, false, ℕ, List, [], ◌∷◌, ◌++◌, map, Bool, ◌==◌, ◌&&◌, if◌then◌else◌}
use Rattle.std.specs.Ordering.{nat_cmp, is_lt}
use Rattle.std.specs.Cmp.Lexicographic.{slice_cmp}
use Rattle.std.specs.List.{filter, filter_map, flat_map}
use Rattle.std.specs.declared.option.Option.{Option}
use Rattle.std.specs.declared.option.Option.TheVariants.{Some, None}
use Rattle.std.specs.FinMap.{FinMap, entries, from_entries}
use Rattle.ov_types.specs.Prefix.{Block, block_cmp}
use Rattle.ov_types.specs.declared.numbers.InstanceId.{InstanceId}
use Rattle.ov_types.specs.declared.objects.LowKey.{LowKey}
use Rattle.ov_types.specs.declared.objects.LowKey.TheVariants as key
use Rattle.ov_types.specs.declared.rows.TableRow.{TableRow}
use Rattle.route_targets.specs.Numbers.{target_of}
use Rattle.node_model.specs.Members.{Member}
use Rattle.node_model.specs.Maps.{Map, objects}
use Rattle.node_model.specs.Uses.{uses, hop}
use Rattle.node_model.specs.Paths.{Holdings, Path, received, has_target}
use Rattle.node_model.specs.Reaching.{reoriginated_paths, below}

-- the lesser by next hop, then label, then distinguisher, then session
abbrev pub path_numbers : Path → List ℕ
path_numbers p = p.next_hop.0 ∷ p.label.0 ∷ p.rd.0 ∷ p.session ∷ []

abbrev pub is_better : Path → Path → Bool
is_better a b = is_lt (slice_cmp nat_cmp (path_numbers a) (path_numbers b))

-- the first of the least
abbrev pub least : Path → List Path → Path
least a [] = a
least a (b ∷ paths) = least (if is_better b a then b else a) paths

abbrev pub same_prefix : Block → Block → Bool
same_prefix p q = (p.addr == q.addr) && (p.len == q.len)

abbrev pub of_prefix : Block → List Path → List Path
of_prefix prefix paths = filter (λ p. same_prefix p.prefix prefix) paths

-- for each prefix the least of its paths
abbrev pub selected : List Path → FinMap block_cmp Path
selected paths = from_entries (map (λ p. (p.prefix, least p (of_prefix p.prefix paths))) paths)

-- all paths of an instance
abbrev pub paths_of : Holdings → InstanceId → List Path
paths_of h i = received h i ++ filter (has_target (target_of h.asn i ∷ [])) (reoriginated_paths h)

abbrev pub table : Holdings → InstanceId → FinMap block_cmp Path
table h i = selected (paths_of h i)

-- ---- what is shown of the tables
abbrev pub table_row : Path → TableRow
table_row p = record { rd = p.rd; next_hop = p.next_hop; label = p.label }

abbrev pub network_of : LowKey → Option InstanceId
network_of (key.Instance n) = Some (record { 0 = n })
network_of _ = None

-- the known instances, in order: networks, and then the places of uses
abbrev pub known_instances : Map → List InstanceId
known_instances feed =
    filter_map (λ e. network_of e.0) (objects feed)
    ++ flat_map (λ u. map (hop u) (below u.services ++ u.services ∷ [])) (uses feed)

abbrev pub rows : Holdings → List ((InstanceId × Block) × TableRow)
rows h = flat_map (λ i. map (λ e. ((i, e.0), table_row e.1)) (entries (table h i))) (known_instances h.feed)

-- a path is of this prefix and of these paths, and none of them is better
pub record IsLeast (prefix : Block) (paths : List Path) (p : Path) : Type 0 where
  pub member : Member p paths
  pub prefix_is : p.prefix ≡ prefix
  pub least_of : (q : Path) → Member q paths → q.prefix ≡ prefix → is_better q p ≡ false

-- the lesser next hop; of one next hop the lesser label; of one label the lesser distinguisher; of one distinguisher
-- the lesser session
abbrev pub IsBetter : Path → Path → Type 0
IsBetter a b =
    (a.next_hop.0 < b.next_hop.0)
    ⊎ ((a.next_hop.0 ≡ b.next_hop.0) × ((a.label.0 < b.label.0)
    ⊎ ((a.label.0 ≡ b.label.0) × ((a.rd.0 < b.rd.0)
    ⊎ ((a.rd.0 ≡ b.rd.0) × (a.session < b.session))))))
