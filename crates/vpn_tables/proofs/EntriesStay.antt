-- What follows where a change of a route, or of what an agent told, does not touch it.
use Rattle.std.specs.Prelude.{◌≡◌, ◌≤◌, ℕ, zero, suc, Bool, length, true, false}
use Rattle.std.specs.declared.option.Option.TheVariants.{None}
use Rattle.std.specs.FinMap.{get}
use Rattle.std.specs.Option.{option_map}
use Rattle.std.proofs.Common.{refl, ◌∙◌, ap, subst, arith, List}
use Rattle.ov_sync.specs.declared.Delta.{Delta}
use Rattle.ov_sync.specs.Keyed.{key_of}
use Rattle.ov_types.specs.Prefix.{Block}
use Rattle.ov_types.specs.declared.keys.UpKey.{UpKey}
use Rattle.ov_types.specs.declared.keys.UpKey.TheVariants as Up
use Rattle.ov_types.specs.declared.numbers.Label.{Label as LabelNo}
use Rattle.ov_types.specs.declared.targets.Target.{Target}
use Rattle.ov_types.specs.declared.vpn.VpnKey.{VpnKey}
use Rattle.ov_types.specs.declared.vpn.VpnRoute.{VpnRoute}
use Rattle.node_model.specs.Members.{Member}
use Rattle.node_model.specs.Paths.{Holdings}
use Rattle.node_model.specs.Reaching.{AreShort}
use Rattle.node_model.specs.Tables.{table}
use Rattle.path_select.specs.Selection.{plain}
use Rattle.vpn_holdings.specs.Answers.{is_up_at}
use Rattle.vpn_holdings.specs.Changes.{with_publication, with_route}
use Rattle.vpn_holdings.specs.Moved.{moved_by_publication, moved_by_route, place_by_publication, targets_by_publication, targets_by_route}
use Rattle.vpn_holdings.specs.Touched.{rows_by_key, touched, touched_rows}
use Rattle.vpn_tables.proofs.RowsCounted.{counted}
use Rattle.vpn_tables.proofs.TouchedByChanges.{covers_all, covers_publication, no_rows, publication_moves, publication_rows, route_moves, route_rows, subscription_rows, subscription_targets}
use Rattle.vpn_tables.proofs.Wanted.{at_row}
use Rattle.vpn_tables.specs.Stored.{entry_of}
use Rattle.vpn_tables.specs.declared.stored.RowKey.{RowKey}
use Rattle.vpn_tables.proofs.UpStays.{up_stays}

-- an entry is the row, and what is up
pub entry_same : (h g : Holdings) (k : RowKey) → get (table h k.instance) k.prefix ≡ get (table g k.instance) k.prefix → ((b : Bool) → is_up_at h k.instance k.prefix b ≡ is_up_at g k.instance k.prefix b)
    → entry_of h k ≡ entry_of g k
entry_same h g k row up = λ n. record { path = option_map plain (row n); is_up_right = up true n; is_up_left = up false n }

-- ---- a route
pub route_entry : (h : Holdings) (session : ℕ) (d : Delta VpnKey VpnRoute) → AreShort h.feed → (k : RowKey)
    → (Member (at_row k.instance k.prefix) (touched_rows h (targets_by_route h session d) (key_of d).prefix) → ⊥) → entry_of h k ≡ entry_of (with_route h session d) k
route_entry h zero d short k clean = refl
route_entry h (suc place) d short k clean =
    entry_same h (with_route h (suc place) d) k (route_rows h (suc place) d short k.instance k.prefix clean) (λ b.
    up_stays h (with_route h (suc place) d).peers h.agents (moved_by_route h (suc place) d) None (route_moves h (suc place) d) (targets_by_route h (suc place) d)
    (covers_all h.asn (moved_by_route h (suc place) d)) short (key_of d).prefix k.instance k.prefix b clean)

-- ---- what an agent told
publication_up : (h : Holdings) (session : ℕ) (d : Delta UpKey LabelNo) → AreShort h.feed → (prefix : Block) (k : RowKey) (b : Bool)
    → (Member (at_row k.instance k.prefix) (touched_rows h (targets_by_publication h session d) prefix) → ⊥)
    → is_up_at h k.instance k.prefix b ≡ is_up_at (with_publication h session d) k.instance k.prefix b
publication_up h session d short prefix k b clean =
    up_stays h h.peers (with_publication h session d).agents (moved_by_publication h session d) (place_by_publication h session d) (publication_moves h session d) (targets_by_publication h session d)
    (covers_publication h session d) short prefix k.instance k.prefix b clean

pub publication_entry : (h : Holdings) (session : ℕ) (d : Delta UpKey LabelNo) → AreShort h.feed → (key : UpKey) → key_of d ≡ key → (k : RowKey)
    → (Member (at_row k.instance k.prefix) (rows_by_key h (targets_by_publication h session d) key) → ⊥) → entry_of h k ≡ entry_of (with_publication h session d) k
publication_entry h session d short (Up.Publish j prefix) e k clean =
    entry_same h (with_publication h session d) k (publication_rows h session d j prefix short e k.instance k.prefix clean) (λ b. publication_up h session d short prefix k b clean)
publication_entry h session d short (Up.Subscribe j) e k clean =
    entry_same h (with_publication h session d) k (subscription_rows h session d j short e k.instance k.prefix) (λ b.
    publication_up h session d short k.prefix k b (λ m.
    subst (Member (at_row k.instance k.prefix)) (ap (λ ts. touched_rows h ts k.prefix) (subscription_targets h session d j e) ∙ no_rows h k.prefix) m))

-- ---- how many are touched
pub few_rows : (h : Holdings) (targets : List Target) (k : UpKey) → length (rows_by_key h targets k) ≤ touched h targets
few_rows h targets (Up.Publish i prefix) = at_most (length (touched_rows h targets prefix)) (touched h targets) (counted h targets prefix)
  where
    at_most : (m n : ℕ) → m ≡ n → m ≤ n
    at_most m n e = omega arith
few_rows h targets (Up.Subscribe i) = none (touched h targets)
  where
    none : (n : ℕ) → 0 ≤ n
    none n = omega arith

pub few_touched : (h : Holdings) (targets : List Target) (prefix : Block) → length (touched_rows h targets prefix) ≤ touched h targets
few_touched h targets prefix = at_most (length (touched_rows h targets prefix)) (touched h targets) (counted h targets prefix)
  where
    at_most : (m n : ℕ) → m ≡ n → m ≤ n
    at_most m n e = omega arith
