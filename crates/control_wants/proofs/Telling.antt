-- Marks of what peers and agents told cover what it changes.
use Rattle.std.specs.Prelude.{◌≡◌, ◌⊎◌, ◌<◌, ℕ, zero, suc, List, [], ◌∷◌, ◌++◌, map, take, length, get_or, is_some, IfSome, Bool, true, false, cond, ◌==◌, ◌≢◌}
use Rattle.std.specs.declared.option.Option.{Option}
use Rattle.std.specs.declared.option.Option.TheVariants.{Some, None}
use Rattle.std.specs.FinMap.{entries, find, get, get-entries, get-from_entries}
use Rattle.std.specs.List.{AllByRecursion, filter}
use Rattle.std.specs.Option.{option_map}
use Rattle.std.proofs.Common.{refl, sym, ◌∙◌, ap, subst, inl, inr, arith}
use Rattle.std.proofs.lemmas.Bool.{and_parts, eqb-true, true≢false}
use Rattle.std.proofs.lemmas.Bool.Decides.{nat_tests}
use Rattle.ov_types.specs.Prefix.{Block, block_cmp}
use Rattle.ov_types.specs.declared.keys.DownKey.TheVariants as down
use Rattle.ov_types.specs.declared.keys.UpKey.{UpKey}
use Rattle.ov_types.specs.declared.keys.UpKey.TheVariants as Up
use Rattle.ov_types.specs.declared.numbers.InstanceId.{InstanceId}
use Rattle.ov_types.specs.declared.numbers.Label.{Label as LabelNo}
use Rattle.ov_types.specs.declared.objects.LowKey.{LowKey}
use Rattle.ov_types.specs.declared.objects.LowKey.TheVariants as key
use Rattle.ov_types.specs.declared.objects.LowValue.{LowValue}
use Rattle.ov_types.specs.declared.rows.TableRow.{TableRow}
use Rattle.ov_types.specs.declared.vpn.VpnKey.{VpnKey}
use Rattle.ov_types.specs.declared.vpn.VpnRoute.{VpnRoute}
use Rattle.ov_sync.specs.declared.Delta.{Delta}
use Rattle.ov_sync.specs.Embed.{moved_delta}
use Rattle.ov_sync.specs.Keyed.{changed, key_of}
use Rattle.vpn_tables.specs.NodeModel.Keys.{Key, Low, Publish, Row, Subscribe, Vpn, key_cmp, of_up}
use Rattle.vpn_tables.specs.NodeModel.Members.{Member}
use Rattle.vpn_tables.specs.NodeModel.Paths.{Holdings, Path, Told, own_paths}
use Rattle.vpn_tables.specs.NodeModel.Reaching.{AreShort, reoriginated_paths}
use Rattle.vpn_tables.specs.NodeModel.Tables.{same_prefix, table, table_row}
use Rattle.vpn_tables.specs.NodeModel.Values.{Entry, Label}
use Rattle.vpn_tables.specs.NodeModel.Wants.{route_entry, wanted_by_peers}
use Rattle.vpn_tables.proofs.NodeModel.Members.{in_map}
use Rattle.vpn_tables.proofs.NodeModel.Orders.{key_total, prefix_exact, prefix_same}
use Rattle.vpn_tables.specs.Answers.{rows_at}
use Rattle.vpn_tables.specs.Changes.{with_publication, with_route}
use Rattle.vpn_tables.specs.Listing.{told_in}
use Rattle.vpn_tables.specs.At.{row_at, selected_at, shown}
use Rattle.vpn_tables.specs.Gathered.{UsesAreInRange}
use Rattle.vpn_tables.specs.Moved.{moved_by_publication}
use Rattle.vpn_tables.specs.TouchedKeys.{first_keyed, key_published, path_key, same_key}
use Rattle.vpn_tables.specs.Followed.{HasMoved, IsListed, IsRowChange, key_led, led_of}
use Rattle.vpn_tables.specs.declared.changes.RowChange.{RowChange}
use Rattle.vpn_tables.proofs.Choosing.{shown_plain}
use Rattle.vpn_tables.proofs.Differing.{IsUnder, appended_same, keyed_same, selected_same}
use Rattle.control_wants.specs.Entries.{hop_of}
use Rattle.control_wants.proofs.OneKey.{no_row_wanted, route_wanted, row_wanted, told_value}
use Rattle.vpn_tables.proofs.Covering.{moved_publication}
use Rattle.vpn_tables.proofs.Filtering.{all_from}
use Rattle.vpn_tables.proofs.TouchedByChanges.{publication_moves}
use Rattle.vpn_tables.specs.Here.{IsRowOf, wanted_on}
use Rattle.vpn_tables.proofs.AgentRows.{publication_address, publication_rows, publication_subscribes, route_address, route_rows, same_elsewhere, subscription_elsewhere, subscription_rows_alone, with_route_agents}
use Rattle.control_wants.specs.Marks.{AreChangesMarked, AreKeysMarked, AreListsMarked, AreTableRowsMarked, Covers, IsChangeMarked, IsCleanItem, IsCleanRoute, IsKeyMarked, IsRowMarked, IsWithin, Marks, is_of}
use Rattle.control_wants.specs.declared.whom.Whom.{Whom}
use Rattle.control_wants.proofs.Growing.{clean_as}
use Rattle.control_wants.proofs.Sets.{found_entry}

-- ---- marks stay as others are added
key_stays : (d d' : Marks) (key : Option VpnKey) → IsKeyMarked d key → IsWithin d d' → IsKeyMarked d' key
key_stays d d' key m w = λ k is clean. m k is (w.routes (Vpn k) clean)

pub both_stay : (d d' : Marks) (P : Type 0) (before after : Option VpnKey) → AreKeysMarked d P before after → IsWithin d d' → AreKeysMarked d' P before after
both_stay d d' P before after m w = λ all p. (key_stays d d' before (m (w.all all) p).0 w, key_stays d d' after (m (w.all all) p).1 w)

pub both_marked : (d d' : Marks) (P : Type 0) (before after : Option VpnKey) → (d.all ≡ false → IsKeyMarked d before) → IsWithin d d' → (d'.all ≡ false → IsKeyMarked d' after) → AreKeysMarked d' P before after
both_marked d d' P before after m w now = λ all _. (key_stays d d' before (m (w.all all)) w, now all)

pub row_stays : (d d' : Marks) (c : RowChange) → IsRowMarked d c → IsWithin d d' → IsRowMarked d' c
row_stays d d' c m w = λ all other a subscribes clean. m (w.all all) other a subscribes (w.items a (Row c.instance c.prefix) clean)

change_stays : (d d' : Marks) (c : RowChange) → IsChangeMarked d c → IsWithin d d' → IsChangeMarked d' c
change_stays d d' c m w = record {
  row = row_stays d d' c m.row w;
  right = both_stay d d' (c.before.led_right ≢ c.after.led_right) (key_led c.before.led_right) (key_led c.after.led_right) m.right w;
  left = both_stay d d' (c.before.led_left ≢ c.after.led_left) (key_led c.before.led_left) (key_led c.after.led_left) m.left w;
}

-- ---- one more is marked
one_more : {X : Type 0} (xs : List X) (i : ℕ) (d x : X) → i < length xs → Member x (take (suc i) xs) → Member x (take i xs) ⊎ (get_or xs i d ≡ x)
one_more [] i d x lt n = absurd (omega (arith, lt))
one_more (y ∷ ys) zero d x lt (inl e) = inr e
one_more (y ∷ ys) zero d x lt (inr n) = absurd n
one_more (y ∷ ys) (suc i) d x lt (inl e) = inl (inl e)
one_more (y ∷ ys) (suc i) d x lt (inr n) = elim (one_more ys i d x (omega (arith, lt)) n) as (λ _. Member x (y ∷ take i ys) ⊎ (get_or ys i d ≡ x)) [ inl m ↦ inl (inr m) | inr e ↦ inr e ]

pub changes_more : (d d' : Marks) (cs : List RowChange) (i : ℕ) (e : RowChange) → i < length cs → e ≡ get_or cs i e → AreChangesMarked d (take i cs) → IsWithin d d' → IsChangeMarked d' e → AreChangesMarked d' (take (suc i) cs)
changes_more d d' cs i e lt at so w now = λ c n.
    elim (one_more cs i e c lt n) as (λ _. IsChangeMarked d' c) [
      | inl m ↦ change_stays d d' c (so c m) w
      | inr is ↦ subst (IsChangeMarked d') (at ∙ is) now
    ]

pub table_rows_more : (d d' : Marks) (whom : Whom) (instance : InstanceId) (rows : List (Block × TableRow)) (i : ℕ) (e : Block × TableRow) → i < length rows → e ≡ get_or rows i e → AreTableRowsMarked d whom instance (take i rows)
    → IsWithin d d' → (d'.all ≡ false → (a : Told) → is_of a (down.Route instance e.0) whom ≡ true → IsCleanItem d' a (Row instance e.0) → ⊥) → AreTableRowsMarked d' whom instance (take (suc i) rows)
table_rows_more d d' whom instance rows i e lt at so w now = λ all q r n a of clean.
    elim (one_more rows i e (q, r) lt n) as (λ _. ⊥) [
      | inl m ↦ so (w.all all) q r m a of (w.items a (Row instance q) clean)
      | inr is ↦
          let same = sym (at ∙ is) in
          now all a (subst (λ (x : Block × TableRow). is_of a (down.Route instance x.0) whom ≡ true) same of) (subst (λ (x : Block × TableRow). IsCleanItem d' a (Row instance x.0)) same clean)
    ]

pub lists_more : (d d' : Marks) (from : ℕ) (objects : List (LowKey × LowValue)) (i : ℕ) (e : LowKey × LowValue) → i < length objects → e ≡ get_or objects i e → AreListsMarked d from (take i objects)
    → IsWithin d d' → (d'.all ≡ false → (to : ℕ) → e.0 ≡ key.Acl from to → (a : Told) → IsCleanItem d' a (Low e.0) → ⊥) → AreListsMarked d' from (take (suc i) objects)
lists_more d d' from objects i e lt at so w now = λ all to v n a clean.
    elim (one_more objects i e (key.Acl from to, v) lt n) as (λ _. ⊥) [
      | inl m ↦ so (w.all all) to v m a (w.items a (Low (key.Acl from to)) clean)
      | inr is ↦
          let named : e.0 ≡ key.Acl from to = ap (λ (x : LowKey × LowValue). x.0) (at ∙ is) in
          now all to named a (subst (λ (x : LowKey). IsCleanItem d' a (Low x)) (sym named) clean)
    ]

taken_all : {X : Type 0} (xs : List X) → take (length xs) xs ≡ xs
taken_all [] = refl
taken_all (x ∷ xs) = ap (λ ys. x ∷ ys) (taken_all xs)

pub all_changes : (d : Marks) (cs : List RowChange) (i : ℕ) → i ≡ length cs → AreChangesMarked d (take i cs) → AreChangesMarked d cs
all_changes d cs i end m = subst (AreChangesMarked d) (ap (λ n. take n cs) end ∙ taken_all cs) m

pub all_table_rows : (d : Marks) (whom : Whom) (instance : InstanceId) (rows : List (Block × TableRow)) (i : ℕ) → i ≡ length rows → AreTableRowsMarked d whom instance (take i rows) → AreTableRowsMarked d whom instance rows
all_table_rows d whom instance rows i end m = subst (AreTableRowsMarked d whom instance) (ap (λ n. take n rows) end ∙ taken_all rows) m

-- the rows of a table are marked where those are that are listed
pub table_marked : (d : Marks) (whom : Whom) (h : Holdings) (i : InstanceId) → AreTableRowsMarked d whom i (rows_at h i) → d.all ≡ false → (a : Told) (q : Block) → is_of a (down.Route i q) whom ≡ true
    → IsCleanItem d a (Row i q) → IsRowOf h i (Row i q) → ⊥
table_marked d whom h i m all a q of clean r =
    m all q (table_row r.path)
    (in_map (λ (e : Block × Path). (e.0, table_row e.1)) (q, r.path) (entries (table h i))
    (found_entry block_cmp prefix_exact (entries (table h i)) q r.path (sym (get-entries (table h i) q) ∙ ap (get (table h i)) (same_prefix i q r.prefix r.key_is) ∙ r.has)))
    a of clean
  where
    same_prefix : (i : InstanceId) (q p : Block) → Row i q ≡ Row i p → q ≡ p
    same_prefix i q p e = cc

pub all_lists : (d : Marks) (from : ℕ) (objects : List (LowKey × LowValue)) (i : ℕ) → i ≡ length objects → AreListsMarked d from (take i objects) → AreListsMarked d from objects
all_lists d from objects i end m = subst (AreListsMarked d from) (ap (λ n. take n objects) end ∙ taken_all objects) m

-- ---- towards peers there are routes alone
no_low : (x : LowKey) (ps : List Path) → find key_cmp (Low x) (map route_entry ps) ≡ None
no_low x [] = refl
no_low x (p ∷ ps) = no_low x ps

no_row : (i : InstanceId) (q : Block) (ps : List Path) → find key_cmp (Row i q) (map route_entry ps) ≡ None
no_row i q [] = refl
no_row i q (p ∷ ps) = no_row i q ps

no_publication : (i : InstanceId) (q : Block) (ps : List Path) → find key_cmp (Publish i q) (map route_entry ps) ≡ None
no_publication i q [] = refl
no_publication i q (p ∷ ps) = no_publication i q ps

no_subscription : (i : InstanceId) (ps : List Path) → find key_cmp (Subscribe i) (map route_entry ps) ≡ None
no_subscription i [] = refl
no_subscription i (p ∷ ps) = no_subscription i ps

peers_by_routes : (h g : Holdings) (k : Key) → ((v : VpnKey) → k ≡ Vpn v → get (wanted_by_peers h) (Vpn v) ≡ get (wanted_by_peers g) (Vpn v)) → get (wanted_by_peers h) k ≡ get (wanted_by_peers g) k
peers_by_routes h g k same = by_kind k same
  where
    both : (k : Key) → ((ps : List Path) → find key_cmp k (map route_entry ps) ≡ None) → get (wanted_by_peers h) k ≡ get (wanted_by_peers g) k
    both k none =
        get-from_entries key_total (map route_entry (own_paths h ++ reoriginated_paths h)) k ∙ none (own_paths h ++ reoriginated_paths h)
        ∙ sym (none (own_paths g ++ reoriginated_paths g)) ∙ sym (get-from_entries key_total (map route_entry (own_paths g ++ reoriginated_paths g)) k)

    by_kind : (k : Key) → ((v : VpnKey) → k ≡ Vpn v → get (wanted_by_peers h) (Vpn v) ≡ get (wanted_by_peers g) (Vpn v)) → get (wanted_by_peers h) k ≡ get (wanted_by_peers g) k
    by_kind (Vpn v) same = same v refl
    by_kind (Low x) same = both (Low x) (no_low x)
    by_kind (Row i q) same = both (Row i q) (no_row i q)
    by_kind (Publish i q) same = both (Publish i q) (no_publication i q)
    by_kind (Subscribe i) same = both (Subscribe i) (no_subscription i)

-- ---- under one key, and of one row
keyed : (k : VpnKey) (p : Path) → same_key k p ≡ true → path_key p ≡ k
keyed k p t =
    let parts = and_parts (p.rd.0 == k.rd.0) (same_prefix p.prefix k.prefix) t in
    λ n. record { rd = record { 0 = eqb-true p.rd.0 k.rd.0 parts.0 n }; prefix = prefix_same p.prefix k.prefix parts.1 n }

first_filtered : (k : VpnKey) (ps : List Path) → first_keyed k (filter (same_key k) ps) ≡ first_keyed k ps
first_filtered k [] = refl
first_filtered k (p ∷ ps) =
    elim (same_key k p) as (λ t. same_key k p ≡ t → first_keyed k (cond t (p ∷ filter (same_key k) ps) (filter (same_key k) ps)) ≡ cond t (Some p) (first_keyed k ps)) [
      | true ↦ λ t. ap (λ b. cond b (Some p) (first_keyed k (filter (same_key k) ps))) t
      | false ↦ λ _. first_filtered k ps
    ] refl

wanted_same : (h g : Holdings) (k : VpnKey) → first_keyed k (own_paths h) ≡ first_keyed k (own_paths g) → first_keyed k (reoriginated_paths h) ≡ first_keyed k (reoriginated_paths g)
    → get (wanted_by_peers h) (Vpn k) ≡ get (wanted_by_peers g) (Vpn k)
wanted_same h g k own led =
    sym (route_wanted h k (first_keyed k (own_paths h ++ reoriginated_paths h)) refl)
    ∙ ap (option_map told_value) (appended_same k (own_paths h) (reoriginated_paths h) (own_paths g) (reoriginated_paths g) own led)
    ∙ route_wanted g k (first_keyed k (own_paths g ++ reoriginated_paths g)) refl

row_of_selected : (h g : Holdings) (i : InstanceId) (q : Block) → selected_at h i q ≡ selected_at g i q → row_at h i q ≡ row_at g i q
row_of_selected h g i q same = shown_plain (get (table h i) q) ∙ ap (option_map shown) same ∙ sym (shown_plain (get (table g i) q))

told_same : (h g : Holdings) (agent : ℕ) (i : InstanceId) (q : Block) → is_some (get (told_in g.agents agent).map (Subscribe i)) ≡ is_some (get (told_in h.agents agent).map (Subscribe i))
    → (is_some (get (told_in h.agents agent).map (Subscribe i)) ≡ true → selected_at h i q ≡ selected_at g i q) → get (wanted_on h agent) (Row i q) ≡ get (wanted_on g agent) (Row i q)
told_same h g agent i q still same =
    elim (is_some (get (told_in h.agents agent).map (Subscribe i))) as (λ b. is_some (get (told_in h.agents agent).map (Subscribe i)) ≡ b → get (wanted_on h agent) (Row i q) ≡ get (wanted_on g agent) (Row i q)) [
      | true ↦ λ yes_it_is.
          sym (row_wanted h (told_in h.agents agent) i q yes_it_is)
          ∙ ap (λ o. option_map Entry (option_map hop_of o)) (row_of_selected h g i q (same yes_it_is))
          ∙ row_wanted g (told_in g.agents agent) i q (still ∙ yes_it_is)
      | false ↦ λ none. sym (no_row_wanted h (told_in h.agents agent) i q none) ∙ no_row_wanted g (told_in g.agents agent) i q (still ∙ none)
    ] refl

-- what an agent is told is that of a row or of none
by_row : (h g : Holdings) (agent : ℕ) (k : Key) → ((i : InstanceId) (q : Block) → k ≡ Row i q → get (wanted_on h agent) (Row i q) ≡ get (wanted_on g agent) (Row i q))
    → (((i : InstanceId) (q : Block) → k ≡ Row i q → ⊥) → get (wanted_on h agent) k ≡ get (wanted_on g agent) k) → get (wanted_on h agent) k ≡ get (wanted_on g agent) k
by_row h g agent (Row i q) row other = row i q refl
by_row h g agent (Low x) row other = other (λ i q e. unlike x i q e)
  where
    unlike : (x : LowKey) (i : InstanceId) (q : Block) → Low x ≡ Row i q → ⊥
    unlike x i q e = cc
by_row h g agent (Vpn x) row other = other (λ i q e. unlike x i q e)
  where
    unlike : (x : VpnKey) (i : InstanceId) (q : Block) → Vpn x ≡ Row i q → ⊥
    unlike x i q e = cc
by_row h g agent (Publish j p) row other = other (λ i q e. unlike j p i q e)
  where
    unlike : (j : InstanceId) (p : Block) (i : InstanceId) (q : Block) → Publish j p ≡ Row i q → ⊥
    unlike j p i q e = cc
by_row h g agent (Subscribe j) row other = other (λ i q e. unlike j i q e)
  where
    unlike : (j i : InstanceId) (q : Block) → Subscribe j ≡ Row i q → ⊥
    unlike j i q e = cc

-- ---- where what changed is marked
module _ (m' : Marks) (all : m'.all ≡ false) (h g : Holdings) (cs : List RowChange) (each : AllByRecursion (IsRowChange h g) cs) (every : (i : InstanceId) (q : Block) → HasMoved h g i q → IsListed cs i q) (marked : AreChangesMarked m' cs) where
  clean_key : (k : VpnKey) → IsCleanRoute m' (Vpn k) → (c : RowChange) → Member c cs → (b : Bool) → led_of b c.before ≢ led_of b c.after → IsUnder k (led_of b c.before) ⊎ IsUnder k (led_of b c.after) → ⊥
  clean_key k clean c m b differs under =
      elim under as (λ _. ⊥) [
        | inl u ↦ (of_end b differs).0 k u clean
        | inr u ↦ (of_end b differs).1 k u clean
      ]
    where
      of_end : (b : Bool) → led_of b c.before ≢ led_of b c.after → IsKeyMarked m' (key_led (led_of b c.before)) × IsKeyMarked m' (key_led (led_of b c.after))
      of_end true differs = (marked c m).right all differs
      of_end false differs = (marked c m).left all differs

  led_same : UsesAreInRange h.feed → UsesAreInRange g.feed → (k : VpnKey) → IsCleanRoute m' (Vpn k) → first_keyed k (reoriginated_paths h) ≡ first_keyed k (reoriginated_paths g)
  led_same there here k clean = keyed_same h g cs each every k there here (clean_key k clean)

  row_same : (a : Told) (i : InstanceId) (q : Block) → is_some (get a.map (Subscribe i)) ≡ true → IsCleanItem m' a (Row i q) → selected_at h i q ≡ selected_at g i q
  row_same a i q subscribes clean =
      selected_same h g cs each every i q (λ c m at to other.
      (marked c m).row all other a (subst (λ (j : InstanceId). is_some (get a.map (Subscribe j)) ≡ true) (sym at) subscribes)
      (subst (IsCleanItem m' a) (λ n. Row (sym at n) (sym to n)) clean))

-- ---- a route of a peer
own_stays : (h : Holdings) (session : ℕ) (d : Delta VpnKey VpnRoute) (k : VpnKey) → first_keyed k (own_paths h) ≡ first_keyed k (own_paths (with_route h session d))
own_stays h zero d k = refl
own_stays h (suc place) d k = refl

same_feed : (h : Holdings) (session : ℕ) (d : Delta VpnKey VpnRoute) → UsesAreInRange h.feed → UsesAreInRange (with_route h session d).feed
same_feed h zero d range = range
same_feed h (suc place) d range = range

pub covers_route : (m m' : Marks) (h : Holdings) (session : ℕ) (d : Delta VpnKey VpnRoute) (cs : List RowChange) → UsesAreInRange h.feed → IsWithin m m' → m'.all ≡ false
    → AllByRecursion (IsRowChange h (with_route h session d)) cs → ((i : InstanceId) (q : Block) → HasMoved h (with_route h session d) i q → IsListed cs i q) → AreChangesMarked m' cs
    → Covers m m' h (with_route h session d)
covers_route m m' h session d cs range within all each every marked = record {
  addresses = route_address h session d;
  peers = λ k clean. peers_by_routes h (with_route h session d) k (λ v is.
      wanted_same h (with_route h session d) v (own_stays h session d v) (led_same m' all h (with_route h session d) cs each every marked range (same_feed h session d range) v (subst (IsCleanRoute m') is clean)));
  agents = λ agent k clean. by_row h (with_route h session d) agent k
      (λ i q is. told_same h (with_route h session d) agent i q (ap (λ ts. is_some (get (told_in ts agent).map (Subscribe i))) (with_route_agents h session d)) (λ subscribes.
      row_same m' all h (with_route h session d) cs each every marked (told_in h.agents agent) i q subscribes (subst (IsCleanItem m' (told_in h.agents agent)) is (as_before agent k clean))))
      (λ other. route_rows h session d agent k (λ i q is _. absurd (other i q is)));
  kept = λ agent k clean. within.items (told_in h.agents agent) k (as_before agent k clean);
}
  where
    as_before : (agent : ℕ) (k : Key) → IsCleanItem m' (told_in (with_route h session d).agents agent) k → IsCleanItem m' (told_in h.agents agent) k
    as_before agent k clean = subst (λ ts. IsCleanItem m' (told_in ts agent) k) (with_route_agents h session d) clean

-- ---- what an agent told
-- a key is told an agent as before, and was not marked of it before
abbrev StaysClean : Marks → Holdings → Holdings → ℕ → Key → Type 0
StaysClean m h g agent k = (get (wanted_on h agent) k ≡ get (wanted_on g agent) k) × IsCleanItem m (told_in h.agents agent) k

own_but : (h : Holdings) (session : ℕ) (d : Delta UpKey LabelNo) (k : VpnKey) → key_published h session (key_of d) ≢ Some k → first_keyed k (own_paths h) ≡ first_keyed k (own_paths (with_publication h session d))
own_but h session d k away =
    sym (first_filtered k (own_paths h))
    ∙ ap (first_keyed k) ((publication_moves h session d).own (same_key k) (all_from (λ (p : Path). same_key k p ≡ false) (moved_by_publication h session d) (λ p m. not_its p (moved_publication h session d p m))))
    ∙ first_filtered k (own_paths (with_publication h session d))
  where
    not_its : (p : Path) → key_published h session (key_of d) ≡ Some (path_key p) → same_key k p ≡ false
    not_its p is =
        elim (same_key k p) as (λ t. same_key k p ≡ t → t ≡ false) [
          | true ↦ λ t. absurd (away (is ∙ ap Some (keyed k p t)))
          | false ↦ λ _. refl
        ] refl

pub covers_publication : (m m' : Marks) (h : Holdings) (session : ℕ) (d : Delta UpKey LabelNo) (cs : List RowChange) → UsesAreInRange h.feed → IsWithin m m' → m'.all ≡ false
    → ((k : VpnKey) → key_published h session (key_of d) ≡ Some k → IsCleanRoute m' (Vpn k) → ⊥)
    → ((i : InstanceId) → key_of d ≡ Up.Subscribe i → (a : Told) → a.address ≡ (told_in h.agents session).address → (k : Key) → IsCleanItem m' a k → IsRowOf h i k → ⊥)
    → ((i : InstanceId) → key_of d ≡ Up.Subscribe i → (a b : Told) → a.address ≡ (told_in h.agents session).address → b.address ≡ (told_in h.agents session).address → (k : Key) → IsCleanItem m' a k → IsCleanItem m b k)
    → AllByRecursion (IsRowChange h (with_publication h session d)) cs → ((i : InstanceId) (q : Block) → HasMoved h (with_publication h session d) i q → IsListed cs i q) → AreChangesMarked m' cs
    → Covers m m' h (with_publication h session d)
covers_publication m m' h session d cs range within all own subscribed kept each every marked = record {
  addresses = publication_address h session d;
  peers = λ k clean. peers_by_routes h (with_publication h session d) k (λ v is.
      let here = subst (IsCleanRoute m') is clean in
      wanted_same h (with_publication h session d) v (own_but h session d v (λ e. own v e here)) (led_same m' all h (with_publication h session d) cs each every marked range range v here));
  agents = λ agent k clean. (by_key (key_of d) refl agent k clean).0;
  kept = λ agent k clean. (by_key (key_of d) refl agent k clean).1;
}
  where
    short : AreShort h.feed
    short = λ u n. (range u n).1

    published : (j : InstanceId) (prefix : Block) → key_of d ≡ Up.Publish j prefix → (agent : ℕ) (k : Key) → IsCleanItem m' (told_in (with_publication h session d).agents agent) k → StaysClean m h (with_publication h session d) agent k
    published j prefix is agent k clean =
        let here = clean_as m' (told_in h.agents agent) (told_in (with_publication h session d).agents agent) (publication_address h session d agent) (publication_subscribes h session d j prefix is agent) k clean in (
          by_row h (with_publication h session d) agent k
              (λ i q at. told_same h (with_publication h session d) agent i q (publication_subscribes h session d j prefix is agent i) (λ subscribes.
              row_same m' all h (with_publication h session d) cs each every marked (told_in h.agents agent) i q subscribes (subst (IsCleanItem m' (told_in h.agents agent)) at here)))
              (λ other. publication_rows h session d j prefix is agent k (λ i q at _. absurd (other i q at))),
          within.items (told_in h.agents agent) k here,
        )

    elsewhere : (j : InstanceId) → key_of d ≡ Up.Subscribe j → (agent : ℕ) → agent ≢ session → (k : Key) → IsCleanItem m' (told_in (with_publication h session d).agents agent) k → StaysClean m h (with_publication h session d) agent k
    elsewhere j is agent away k clean = (
      subscription_elsewhere h session d j short is agent away k,
      within.items (told_in h.agents agent) k
          (subst (λ (a : Told). IsCleanItem m' a k) (same_elsewhere (λ m. changed m (moved_delta of_up Label d)) h.agents session agent away) clean),
    )

    here : (j : InstanceId) → key_of d ≡ Up.Subscribe j → (k : Key) → IsCleanItem m' (told_in (with_publication h session d).agents session) k → StaysClean m h (with_publication h session d) session k
    here j is k clean =
        let address = publication_address h session d session in (
          subscription_rows_alone h session d j short is session k (subscribed j is (told_in (with_publication h session d).agents session) address k clean),
          kept j is (told_in (with_publication h session d).agents session) (told_in h.agents session) address refl k clean,
        )

    by_key : (x : UpKey) → key_of d ≡ x → (agent : ℕ) (k : Key) → IsCleanItem m' (told_in (with_publication h session d).agents agent) k → StaysClean m h (with_publication h session d) agent k
    by_key (Up.Publish j prefix) is agent k clean = published j prefix is agent k clean
    by_key (Up.Subscribe j) is agent k clean =
        elim (agent == session) as (λ b. (agent == session) ≡ b → StaysClean m h (with_publication h session d) agent k) [
          | true ↦ λ e.
              let same : agent ≡ session = eqb-true agent session e in
              subst (λ n. StaysClean m h (with_publication h session d) n k) (sym same) (here j is k (subst (λ n. IsCleanItem m' (told_in (with_publication h session d).agents n) k) same clean))
          | false ↦ λ e. elsewhere j is agent (λ same. apart agent session same e) k clean
        ] refl
      where
        apart : (a b : ℕ) → a ≡ b → (a == b) ≡ false → ⊥
        apart a b same e = grind (arith, nat_tests)

-- ---- where it is known what changed
module _ {V : Type 0} (items : V → List RowChange) (m m' : Marks) (h : Holdings) (session : ℕ) (all : m'.all ≡ false) (within : IsWithin m m') (range : UsesAreInRange h.feed) where
  abbrev IsTold : Holdings → Option V → Type 0
  IsTold g changes = IfSome changes (λ rows. AllByRecursion (IsRowChange h g) (items rows))

  abbrev IsWhole : Holdings → Option V → Type 0
  IsWhole g changes = IfSome changes (λ rows. (i : InstanceId) (q : Block) → HasMoved h g i q → IsListed (items rows) i q)

  abbrev IsMarked : Option V → Type 0
  IsMarked changes = IfSome changes (λ rows. AreChangesMarked m' (items rows))

  pub route_covered : (d : Delta VpnKey VpnRoute) (g : Holdings) → g ≡ with_route h session d → (changes : Option V) → is_some changes ≡ true → IsTold g changes → IsWhole g changes → IsMarked changes → Covers m m' h g
  route_covered d g is None known each every marked = absurd (true≢false (sym known))
  route_covered d g is (Some rows) known each every marked =
      subst (λ (g : Holdings). IsTold g (Some rows) → IsWhole g (Some rows) → Covers m m' h g) (sym is) (λ each every. covers_route m m' h session d (items rows) range within all each every marked) each every

  pub publication_covered : (d : Delta UpKey LabelNo) (g : Holdings) → g ≡ with_publication h session d → (changes : Option V) → is_some changes ≡ true
      → ((k : VpnKey) → key_published h session (key_of d) ≡ Some k → IsCleanRoute m' (Vpn k) → ⊥)
      → ((i : InstanceId) → key_of d ≡ Up.Subscribe i → (a : Told) → a.address ≡ (told_in h.agents session).address → (k : Key) → IsCleanItem m' a k → IsRowOf h i k → ⊥)
      → ((i : InstanceId) → key_of d ≡ Up.Subscribe i → (a b : Told) → a.address ≡ (told_in h.agents session).address → b.address ≡ (told_in h.agents session).address → (k : Key) → IsCleanItem m' a k → IsCleanItem m b k)
      → IsTold g changes → IsWhole g changes → IsMarked changes → Covers m m' h g
  publication_covered d g is None known own subscribed kept each every marked = absurd (true≢false (sym known))
  publication_covered d g is (Some rows) known own subscribed kept each every marked =
      subst (λ (g : Holdings). IsTold g (Some rows) → IsWhole g (Some rows) → Covers m m' h g) (sym is)
      (λ each every. covers_publication m m' h session d (items rows) range within all own subscribed kept each every marked) each every
