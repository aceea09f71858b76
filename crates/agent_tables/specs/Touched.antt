-- The rows that routes touch, where they change one by one.
--     with_row rows k o      the rows, where the key k leads to what o has, or nowhere
--     with_routes h t ks      the tables, where each of the routes ks is that of the first session that is up and has it
--     AreTables h t      the tables are those of what is held
--     AgreeBut ks h g      two holdings have the same routes but for ks, and the same of all else
--     SameRoutes h g      two holdings have the same routes, whatever they have of all else
--     HaveRoutes h t      the tables are those of holdings with the same routes as h
use Rattle.std.specs.Prelude.{◌≡◌, ℕ, Bool, false, ◌==◌, List, [], ◌∷◌, if◌then◌else◌}
use Rattle.std.specs.declared.option.Option.{Option}
use Rattle.std.specs.declared.option.Option.TheVariants.{Some, None}
use Rattle.std.specs.BTreeMap.{insert_entry, is_at}
use Rattle.std.specs.Coded.{Coded, code_by, coded×, coded_list}
use Rattle.std.specs.List.{list_any, slice_set}
use Rattle.std.specs.Map.{remove_entry}
use Rattle.std.specs.Ordering.{eq_by_cmp}
use Rattle.std.proofs.Common.{refl}
use Rattle.ov_types.specs.Keys.{row_key_cmp}
use Rattle.ov_types.specs.Prefix.{Block, block_cmp}
use Rattle.ov_types.specs.contracts.numbers.InstanceId as numbers
use Rattle.ov_types.specs.contracts.rows.AgentRows as rows
use Rattle.ov_types.specs.declared.numbers.InstanceId.{InstanceId}
use Rattle.ov_types.specs.declared.rows.AgentRows.{AgentRows}
use Rattle.ov_types.specs.declared.rows.Entry.{Entry}
use Rattle.ov_sync.specs.declared.Delta.TheVariants.{Put, Drop}
use Rattle.ov_sync.specs.Keyed.{changed}
use Rattle.node_core.specs.NodeModel.Agent.{Heard, Holdings, besides_rows, is_needed, route_from, rows as rows_of}
use Rattle.node_core.specs.NodeModel.Keys.{Row}
use Rattle.node_core.specs.NodeModel.Maps.{Change}
use Rattle.agent_tables.specs.Routes.{Table}

-- an instance and a prefix
abbrev pub RowKey : Type 0
RowKey = InstanceId × Block

-- ---- rows in the order of their keys
abbrev pub with_row : List (RowKey × Entry) → RowKey → Option Entry → List (RowKey × Entry)
with_row rows k None = remove_entry (is_at (row_key_cmp k)) rows
with_row rows k (Some hop) = insert_entry row_key_cmp rows k hop

-- where each of some keys, one after the other, of the instances that are listed, leads where the first session that
-- is up and has it tells
abbrev pub is_listed : List InstanceId → InstanceId → Bool
is_listed instances i = list_any (λ n. n.0 == i.0) instances

abbrev pub with_rows : List InstanceId → Holdings → List (RowKey × Entry) → List RowKey → List (RowKey × Entry)
with_rows instances h rows [] = rows
with_rows instances h rows (k ∷ ks) =
    with_rows instances h (if is_listed instances k.0 then with_row rows k (route_from h k.0 k.1) else rows) ks

-- ---- the tables of an agent
pub record Tabled : Type 0 where
  pub rows : AgentRows
  -- the instances that have a table, perhaps of no routes
  pub instances : List InstanceId

abbrev pub coded_tabled : Coded Tabled
coded_tabled =
    code_by (AgentRows × List InstanceId) (coded× rows.the_row.coded (coded_list numbers.the_row.coded))
    (λ t. (t.rows, t.instances)) (λ p. record { rows = p.0; instances = p.1 }) (λ _. refl)

abbrev pub with_routes : Holdings → Tabled → List RowKey → Tabled
with_routes h t ks =
    record t { rows = record t.rows { routes = with_rows t.instances h t.rows.routes ks } }

-- the rows of what is held, and a table for each instance that is needed
pub record AreTables (h : Holdings) (t : Tabled) : Type 0 where
  pub rows : t.rows ≡ rows_of h
  pub instances : (i : InstanceId) → is_listed t.instances i ≡ is_needed h i

-- ---- what changes of what is held
abbrev pub is_among : List RowKey → RowKey → Bool
is_among ks k = list_any (λ n. eq_by_cmp row_key_cmp k n) ks

pub record AgreeBut (ks : List RowKey) (h g : Holdings) : Type 0 where
  pub besides : besides_rows h ≡ besides_rows g
  pub routes : (k : RowKey) → is_among ks k ≡ false → route_from h k.0 k.1 ≡ route_from g k.0 k.1

pub record SameRoutes (h g : Holdings) : Type 0 where
  pub routes : (k : RowKey) → route_from h k.0 k.1 ≡ route_from g k.0 k.1

-- the tables are those of holdings with the same routes
pub record HaveRoutes (h : Holdings) (t : Tabled) : Type 0 where
  pub before : Holdings
  pub same : SameRoutes before h
  pub are : AreTables before t

-- the key of the route that a change puts or drops, where it is one
abbrev pub route_key : Option Change → Option RowKey
route_key (Some (Put (Row i prefix) v)) = Some (i, prefix)
route_key (Some (Drop (Row i prefix))) = Some (i, prefix)
route_key _ = None

-- what is held, once a session told a change
abbrev pub told : Holdings → ℕ → Heard → Change → Holdings
told h session s change = slice_set h session (record s { map = changed s.map change })

-- ---- the tables, as the code has them
abbrev pub led : List (Block × Entry) → Block → Option Entry → List (Block × Entry)
led routes prefix None = remove_entry (is_at (block_cmp prefix)) routes
led routes prefix (Some hop) = insert_entry block_cmp routes prefix hop

abbrev pub led_in : List Table → InstanceId → Block → Option Entry → List Table
led_in [] i prefix o = []
led_in (t ∷ ts) i prefix o = if t.0.0 == i.0 then (t.0, led t.1 prefix o) ∷ ts else t ∷ led_in ts i prefix o

abbrev pub led_all : Holdings → List Table → List RowKey → List Table
led_all h ts [] = ts
led_all h ts (k ∷ ks) = led_all h (led_in ts k.0 k.1 (route_from h k.0 k.1)) ks

-- the route that one session gives
abbrev pub route_on : Heard → InstanceId → Block → Option Entry
route_on s i prefix = route_from (s ∷ []) i prefix
