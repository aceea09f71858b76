-- Marks that are no more than what is said.
use Rattle.std.specs.Prelude.{◌≡◌, ◌≢◌, ◌⊎◌, ◌<◌, ℕ, zero, suc, List, [], ◌∷◌, ◌++◌, map, length, get_or, IfSome, is_some, Bool, true, false, cond, not, ◌==◌}
use Rattle.std.specs.declared.option.Option.{Option}
use Rattle.std.specs.declared.option.Option.TheVariants.{Some, None}
use Rattle.std.specs.Ordering.{eq_by_cmp}
use Rattle.std.specs.Cmp.{Equal-is}
use Rattle.std.specs.FinMap.{entries, get, get-from_entries, insert}
use Rattle.std.specs.List.{AllByRecursion}
use Rattle.std.specs.Option.{option_eq}
use Rattle.std.proofs.lemmas.Bool.{eq-eqb, eqb-true, true≢false}
use Rattle.std.proofs.lemmas.Option.{same_Some}
use Rattle.std.proofs.Common.{refl, sym, ◌∙◌, ap, subst, inl, inr, arith}
use Rattle.ov_sync.specs.Keyed.{map_of}
use Rattle.ov_types.specs.Prefix.{Block}
use Rattle.ov_types.specs.declared.keys.DownKey.{DownKey}
use Rattle.ov_types.specs.declared.keys.UpKey.{UpKey}
use Rattle.ov_types.specs.declared.numbers.InstanceId.{InstanceId}
use Rattle.ov_types.specs.declared.objects.LowKey.{LowKey}
use Rattle.ov_types.specs.declared.objects.LowKey.TheVariants as key
use Rattle.ov_types.specs.declared.objects.LowValue.{LowValue}
use Rattle.ov_types.specs.declared.prefix.Addr.{Addr}
use Rattle.ov_types.specs.declared.rows.TableRow.{TableRow}
use Rattle.ov_types.specs.declared.vpn.VpnKey.{VpnKey}
use Rattle.vpn_tables.specs.NodeModel.Directions.{down_order}
use Rattle.vpn_tables.specs.NodeModel.Keys.{Key, Low, Row, Vpn, of_down}
use Rattle.vpn_tables.specs.NodeModel.Maps.{as_object, object}
use Rattle.vpn_tables.specs.NodeModel.Members.{Member}
use Rattle.vpn_tables.specs.NodeModel.Paths.{Holdings, Path, Told}
use Rattle.vpn_tables.specs.NodeModel.Tables.{table, table_row}
use Rattle.vpn_tables.specs.NodeModel.Wants.{slice}
use Rattle.vpn_tables.specs.Answers.{rows_at}
use Rattle.vpn_tables.specs.TouchedKeys.{key_published}
use Rattle.vpn_tables.proofs.NodeModel.Members.{from_map, get_member, in_either, none_some}
use Rattle.vpn_tables.proofs.NodeModel.Objects.{object_of}
use Rattle.vpn_tables.proofs.NodeModel.Orders.{prefix_total}
use Rattle.vpn_tables.proofs.NodeModel.Wanted.{slice_is}
use Rattle.vpn_tables.proofs.NodeModel.Directions.{down_exact, down_total}
use Rattle.vpn_tables.specs.Followed.{IsRowChange}
use Rattle.vpn_tables.specs.declared.changes.RowChange.{RowChange}
use Rattle.vpn_tables.specs.Here.{IsRowOf, port_here}
use Rattle.control_wants.specs.Marks.{AreAllOf, IsBeside, IsCleanItem, IsKey, IsListAmong, IsListOf, IsOfLed, IsOfRow, IsOfSubscriber, IsOfSubscription, IsOfTable, IsPort, IsRowOfName, LedMoves, Marks, MarksByObject, MarksByPublication, MarksByRoute, MarksOnly, RowMoves, is_marked, is_of, marked_of, no_item, no_route}
use Rattle.control_wants.specs.declared.whom.Whom.{Whom}
use Rattle.control_wants.specs.declared.whom.Whom.TheVariants.{Only}
use Rattle.control_wants.proofs.Sets.{mapped, put_is, unmapped}

module _ (P : Key → Type 0) (Q : Told → Key → Type 0) where
  pub only_itself : (d : Marks) → MarksOnly P Q d d
  only_itself d = record { routes = λ k clean _. clean; items = λ a k clean _. clean }

  pub only_then : (a b c : Marks) → MarksOnly P Q a b → MarksOnly P Q b c → MarksOnly P Q a c
  only_then a b c v w = record {
    routes = λ k clean none. w.routes k (v.routes k clean none) none;
    items = λ at k clean none. w.items at k (v.items at k clean none) none;
  }

  -- everything is a mark of its own
  pub only_all : (d d' : Marks) → d' ≡ record d { all = true } → MarksOnly P Q d d'
  only_all d d' e = subst (MarksOnly P Q d) (sym e) (record { routes = λ k clean _. clean; items = λ a k clean _. clean })

  pub only_more : (P' : Key → Type 0) (Q' : Told → Key → Type 0) → ((k : Key) → P' k → P k) → ((a : Told) (k : Key) → Q' a k → Q a k) → (d d' : Marks) → MarksOnly P' Q' d d' → MarksOnly P Q d d'
  only_more P' Q' more most d d' m = record {
    routes = λ k clean none. m.routes k clean (λ p. none (more k p));
    items = λ a k clean none. m.items a k clean (λ p. none (most a k p));
  }

pub only_routes : (d : Marks) (keys : List VpnKey) (key : VpnKey) → ((k : VpnKey) → Member k keys → Member k d.routes ⊎ (k ≡ key)) → MarksOnly (λ k. k ≡ Vpn key) no_item d (record d { routes = keys })
only_routes d keys key of = record {
  routes = λ k clean none n. (let u = unmapped Vpn k keys n in
      elim (of u.0 u.1) as (λ _. ⊥) [
        | inl m ↦ clean (subst (λ (x : Key). Member x (map Vpn d.routes)) u.2 (mapped Vpn u.0 d.routes m))
        | inr e ↦ none (sym u.2 ∙ ap Vpn e)
      ]);
  items = λ a k clean _. clean;
}

pub only_put : (d : Marks) (items : List (DownKey × Whom)) (key : DownKey) (whom : Whom) → map_of down_order items ≡ insert (map_of down_order d.items) key whom
    → MarksOnly no_route (λ a k. k ≡ of_down key) d (record d { items = items })
only_put d items key whom put = record {
  routes = λ k clean _. clean;
  items = λ a k clean none. (clean.0, λ x is. as_before a k clean none x is);
}
  where
    as_before : (a : Told) (k : Key) → IsCleanItem d a k → (k ≡ of_down key → ⊥) → (x : DownKey) → of_down x ≡ k → is_marked a x (get (map_of down_order items) x) ≡ false
    as_before a k clean none x is =
        ap (is_marked a x) (put_is down_order down_total down_exact d.items items key whom put x)
        ∙ elim (eq_by_cmp down_order x key) as (λ b. eq_by_cmp down_order x key ≡ b → is_marked a x (cond b (Some whom) (marked_of d x)) ≡ false) [
          | true ↦ λ e. absurd (none (sym is ∙ ap of_down (down_exact x key ((Equal-is (down_order x key)).0 e))))
          | false ↦ λ _. clean.1 x is
        ] refl

pub only_address : (d : Marks) (addresses : List Addr) (address : Addr) → addresses ≡ d.addresses ++ (address ∷ []) → MarksOnly no_route (λ a k. a.address ≡ address) d (record d { addresses = addresses })
only_address d addresses address is = record {
  routes = λ k clean _. clean;
  items = λ a k clean none. (
    λ n. elim (in_either a.address d.addresses (address ∷ []) (subst (λ (l : List Addr). Member a.address l) is n)) as (λ _. ⊥) [
      | inl m ↦ clean.0 m
      | inr (inl e) ↦ none (sym e)
      | inr (inr m) ↦ absurd m
    ],
    clean.1,
  );
}

-- ---- of two that a comparison tells apart
pub itself : (n : ℕ) → (n == n) ≡ true
itself n = eq-eqb n n refl

pub no_other : {X : Type 0} (E : X → X → Bool) (a b : Option X) → true ≡ not (option_eq E a b) → ((x : X) → E x x ≡ true) → a ≢ b
no_other {X} E a b differs own e = true≢false (differs ∙ ap (λ (o : Option X). not (option_eq E a o)) (sym e) ∙ ap not (alike a))
  where
    alike : (o : Option X) → option_eq E o o ≡ true
    alike None = refl
    alike (Some x) = own x

-- ---- of some row changes
pub member_at : {X : Type 0} (xs : List X) (i : ℕ) (d : X) → i < length xs → Member (get_or xs i d) xs
member_at [] i d lt = absurd (omega (arith, lt))
member_at (x ∷ xs) zero d lt = inl refl
member_at (x ∷ xs) (suc i) d lt = inr (member_at xs i d (omega (arith, lt)))

of_each : {X : Type 0} (P : X → Type 0) (x : X) (xs : List X) → AllByRecursion P xs → Member x xs → P x
of_each P x [] all m = absurd m
of_each P x (y ∷ ys) all (inl e) = subst P e all.0
of_each P x (y ∷ ys) all (inr m) = of_each P x ys all.1 m

module _ (h g : Holdings) (cs : List RowChange) (each : AllByRecursion (IsRowChange h g) cs) where
  led_moves : (k : Key) → IsOfLed cs k → LedMoves h g k
  led_moves k o =
      let c = of_each (IsRowChange h g) o.0 cs each o.1.0 in
      record {
        instance = o.0.instance;
        prefix = o.0.prefix;
        before = o.0.before;
        after = o.0.after;
        was = c.was;
        is = c.is;
        right = o.1.1.0;
        moved = o.1.1.1;
      }

  row_moves : (a : Told) (k : Key) → IsOfRow cs a k → RowMoves h g k
  row_moves a k o =
      let c = of_each (IsRowChange h g) o.0 cs each o.1.0 in
      record { instance = o.0.instance; prefix = o.0.prefix; key_is = o.1.1.1; other = λ e. o.1.1.0 (c.was.path ∙ e ∙ sym c.is.path) }

-- ---- of some agents alone
pub all_of_put : (d : Marks) (items : List (DownKey × Whom)) (key : DownKey) (put whom : Whom) → map_of down_order items ≡ insert (map_of down_order d.items) key put
    → put ≡ whom → AreAllOf d whom → AreAllOf (record d { items = items }) whom
all_of_put d items key put whom is same all x other marked =
    elim (eq_by_cmp down_order x key) as (λ b. cond b (Some put) (marked_of d x) ≡ Some other → other ≡ whom) [
      | true ↦ λ e. sym (same_Some put other e) ∙ same
      | false ↦ λ e. all x other e
    ] (sym (put_is down_order down_total down_exact d.items items key put is x) ∙ marked)

pub all_joined : (before : Option Whom) (whom joined : Whom) → ((other : Whom) → before ≡ Some other → other ≡ whom) → (before ≡ None → joined ≡ whom) → (before ≡ Some whom → joined ≡ whom) → joined ≡ whom
all_joined None whom joined all first same = first refl
all_joined (Some other) whom joined all first same = same (ap Some (all other refl))

nothing_marked : (d : Marks) → d.items ≡ [] → (x : DownKey) → marked_of d x ≡ None
nothing_marked d none x = ap (λ items. get (map_of down_order items) x) none ∙ get-from_entries down_total [] x

-- ---- of a subscription
pub of_table : (h : Holdings) (i : InstanceId) (a : Told) (k : Key) → IsOfTable i (rows_at h i) a k → IsRowOf h i k
of_table h i a k o =
    let found = from_map (λ (e : Block × Path). (e.0, table_row e.1)) o.0 (entries (table h i)) o.1.0 in
    record {
      prefix = found.0.0;
      path = found.0.1;
      has = get_member prefix_total (table h i) found.0.0 found.0.1 found.1;
      key_is = o.1.1 ∙ ap (λ (e : Block × TableRow). Row i e.0) (sym found.2);
    }

no_use_row : (h : Holdings) (i : InstanceId) (n : ℕ) → IsRowOf h i (Low (key.ChainUse n)) → ⊥
no_use_row h i n row = apart n i row.prefix row.key_is
  where
    apart : (n : ℕ) (i : InstanceId) (q : Block) → Low (key.ChainUse n) ≡ Row i q → ⊥
    apart n i q e = cc

pub subscriber_only : (d d' : Marks) (h : Holdings) (i : InstanceId) (address : Addr) → d.items ≡ [] → MarksOnly no_route (λ a k. IsRowOf h i k) d d' → (AreAllOf d (Only address) → AreAllOf d' (Only address))
    → MarksOnly no_route (IsOfSubscriber d h i address) d d'
subscriber_only d d' h i address none only own = record { routes = only.routes; items = of_agent }
  where
    unmarked : (a : Told) (k : Key) → IsCleanItem d a k → (n : ℕ) → IsCleanItem d a (Low (key.ChainUse n))
    unmarked a k clean n = (clean.0, λ x is. ap (is_marked a x) (nothing_marked d none x))

    of_other : (a : Told) (x : DownKey) (whom : Option Whom) → (address.0 == a.address.0) ≡ false → ((other : Whom) → whom ≡ Some other → other ≡ Only address) → is_marked a x whom ≡ false
    of_other a x None differs all = refl
    of_other a x (Some other) differs all = ap (is_of a x) (all other refl) ∙ differs

    all_of : AreAllOf d' (Only address)
    all_of = own (λ x other marked. absurd (none_some other (sym (nothing_marked d none x) ∙ marked)))

    of_agent : (a : Told) (k : Key) → IsCleanItem d a k → (IsOfSubscriber d h i address a k → ⊥) → IsCleanItem d' a k
    of_agent a k clean other =
        elim (address.0 == a.address.0) as (λ b. (address.0 == a.address.0) ≡ b → IsCleanItem d' a k) [
          | true ↦ λ same. only.items a k clean (λ row. other (sym (ap (λ (n : ℕ). record { 0 = n }) (eqb-true address.0 a.address.0 same)), λ _. row))
          | false ↦ λ differs. ((only.items a (Low (key.ChainUse 0)) (unmarked a k clean 0) (no_use_row h i 0)).0, λ x is. of_other a x (marked_of d' x) differs (all_of x))
        ] refl

-- ---- of a change
module _ (h g : Holdings) (P : Key → Type 0) (Q : Told → Key → Type 0) (led : (k : Key) → LedMoves h g k → P k) (rows : (a : Told) (k : Key) → RowMoves h g k → Q a k) where
  pub known_only : {V : Type 0} (items : V → List RowChange) (n m : Marks) (changes : Option V) → IfSome changes (λ rows. AllByRecursion (IsRowChange h g) (items rows))
      → IfSome changes (λ rows. MarksOnly (IsOfLed (items rows)) (IsOfRow (items rows)) n m) → (changes ≡ None → m ≡ record n { all = true }) → MarksOnly P Q n m
  known_only items n m None each only none = only_all P Q n m (none refl)
  known_only items n m (Some found) each only none =
      only_more P Q (IsOfLed (items found)) (IsOfRow (items found)) (λ k o. led k (led_moves h g (items found) each k o)) (λ a k o. rows a k (row_moves h g (items found) each a k o)) n m only

pub route_only : (own : VpnKey) (h g : Holdings) (m n : Marks) → MarksOnly (λ k. k ≡ Vpn own) no_item m n → MarksByRoute own h g m n
route_only own h g m n o = only_more _ _ (λ k. k ≡ Vpn own) no_item (λ k e. inl e) (λ a k n. absurd n) m n o

pub publication_only : (session : ℕ) (told : UpKey) (h g : Holdings) (m n : Marks) → MarksOnly (IsKey (key_published h session told)) (IsOfSubscription m h session told) m n → MarksByPublication session told h g m n
publication_only session told h g m n o = only_more _ _ (IsKey (key_published h session told)) (IsOfSubscription m h session told) (λ k e. inl e) (λ a k e. inr e) m n o

-- ---- of an object
pub list_of : (h : Holdings) (name : LowKey) (v : LowValue) (port : Addr × InstanceId) → object h.feed name ≡ Some v → IsPort (Some v) (Some port) → (a : Told) (k : Key) → IsListAmong port.1.0 (slice h.feed port.0) a k → IsListOf h name a k
list_of h name v port held is a k l =
    let to = l.1.1.0 in
    let in_slice = (slice_is h.feed port.0 l.0.0 l.0.1).0 l.1.0 in (
      port.0,
      record {
        network = port.1;
        to = to;
        port_is = ap (port_here port.0) held ∙ is port.0 ∙ ap (λ (b : Bool). cond b (Some port.1) None) (itself port.0.0);
        held = ap (λ (x : LowKey). is_some (object h.feed x)) (sym l.1.1.1.0) ∙ ap (λ o. is_some (as_object o)) (object_of h.feed l.0.0 l.0.1 in_slice.0);
        key_is = l.1.1.1.1 ∙ ap Low l.1.1.1.0;
      },
    )

-- what is beside an object before a change of it, and after
module _ (name : LowKey) (h g : Holdings) where
  abbrev IsByObject : Told → Key → Type 0
  IsByObject a k = (k ≡ Low name) ⊎ (IsBeside h name a k ⊎ IsBeside g name a k)

  abbrev Marking : Marks → Marks → Type 0
  Marking = MarksByObject name h g

  itself_by : (m n : Marks) → MarksOnly no_route (λ a k. k ≡ Low name) m n → Marking m n
  itself_by m n o = only_more no_route IsByObject no_route (λ a k. k ≡ Low name) (λ k n. absurd n) (λ a k e. inl e) m n o

  lists_before : (m n : Marks) → MarksOnly no_route (IsListOf h name) m n → Marking m n
  lists_before m n o = only_more no_route IsByObject no_route (IsListOf h name) (λ k n. absurd n) (λ a k e. inr (inl (inl e))) m n o

  rows_before : (m n : Marks) → MarksOnly no_route (IsRowOfName h name) m n → Marking m n
  rows_before m n o = only_more no_route IsByObject no_route (IsRowOfName h name) (λ k n. absurd n) (λ a k e. inr (inl (inr e))) m n o

  lists_after : (m n : Marks) → MarksOnly no_route (IsListOf g name) m n → Marking m n
  lists_after m n o = only_more no_route IsByObject no_route (IsListOf g name) (λ k n. absurd n) (λ a k e. inr (inr (inl e))) m n o

  rows_after : (m n : Marks) → MarksOnly no_route (IsRowOfName g name) m n → Marking m n
  rows_after m n o = only_more no_route IsByObject no_route (IsRowOfName g name) (λ k n. absurd n) (λ a k e. inr (inr (inr e))) m n o

  pub marked_before : (m named listed n : Marks) → MarksOnly no_route (λ a k. k ≡ Low name) m named → MarksOnly no_route (IsListOf h name) named listed → MarksOnly no_route (IsRowOfName h name) listed n → Marking m n
  marked_before m named listed n own lists rows =
      only_then no_route IsByObject m listed n (only_then no_route IsByObject m named listed (itself_by m named own) (lists_before named listed lists)) (rows_before listed n rows)

  pub marked_after : (m before listed n : Marks) → Marking m before → MarksOnly no_route (IsListOf g name) before listed → MarksOnly no_route (IsRowOfName g name) listed n → Marking m n
  marked_after m before listed n first lists rows =
      only_then no_route IsByObject m listed n (only_then no_route IsByObject m before listed first (lists_after before listed lists)) (rows_after listed n rows)
