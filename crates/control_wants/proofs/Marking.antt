-- Marks of a change cover what it changes.
use Rattle.std.specs.Prelude.{◌≡◌, ◌≢◌, ◌==◌, ℕ, Bool, cond, is_some, true, false}
use Rattle.std.specs.declared.option.Option.{Option}
use Rattle.std.specs.declared.option.Option.TheVariants.{Some, None}
use Rattle.std.specs.FinMap.{get}
use Rattle.std.proofs.Common.{refl, sym, ◌∙◌, ap, subst, arith}
use Rattle.std.proofs.lemmas.Bool.Decides.{nat_tests}
use Rattle.std.proofs.lemmas.Bool.{eqb-true, true≢false}
use Rattle.std.proofs.lemmas.Option.{same_Some}
use Rattle.ov_sync.specs.declared.Delta.{Delta}
use Rattle.ov_sync.specs.Embed.{moved_delta}
use Rattle.ov_sync.specs.Keyed.{changed, key_of}
use Rattle.ov_types.specs.Prefix.{Block}
use Rattle.ov_types.specs.declared.numbers.InstanceId.{InstanceId}
use Rattle.ov_types.specs.declared.objects.LowKey.{LowKey}
use Rattle.ov_types.specs.declared.objects.LowKey.TheVariants as key
use Rattle.ov_types.specs.declared.objects.LowValue.{LowValue}
use Rattle.ov_types.specs.declared.prefix.Addr.{Addr}
use Rattle.vpn_tables.specs.NodeModel.Keys.{Key, Low, Row, Subscribe}
use Rattle.vpn_tables.specs.NodeModel.Maps.{Map, object}
use Rattle.vpn_tables.specs.NodeModel.Paths.{Holdings, Told}
use Rattle.vpn_tables.specs.NodeModel.Values.{Object}
use Rattle.vpn_tables.specs.NodeModel.Tables.{table}
use Rattle.vpn_tables.specs.NodeModel.Wants.{slice, wanted_by_peers}
use Rattle.vpn_tables.proofs.NodeModel.Members.{none_some}
use Rattle.vpn_tables.proofs.NodeModel.Wanted.{slice_is}
use Rattle.vpn_tables.specs.Changes.{with_low}
use Rattle.vpn_tables.specs.Listing.{told_in}
use Rattle.vpn_tables.proofs.TablesStay.{instance_peers, instance_tables, object_stays, peers_stay, tables_stay}
use Rattle.vpn_tables.specs.Here.{IsListOfPort, IsRowOf, port_here, put_by}
use Rattle.vpn_tables.proofs.Ports.{held_object, object_put}
use Rattle.vpn_tables.proofs.Slices.{any_object}
use Rattle.control_wants.specs.Marks.{AreListsMarked, Covers, IsCleanItem, IsPort, IsWithin, Marks, seen_at}

-- what is held stays, and more is marked
pub covers_itself : (m m' : Marks) → IsWithin m m' → (h g : Holdings) → g ≡ h → Covers m m' h g
covers_itself m m' within h g is =
    subst (λ (g : Holdings). Covers m m' h g) (sym is)
    (record { addresses = λ a. refl; peers = λ k c. refl; agents = λ a k c. refl; kept = λ agent k clean. within.items (told_in h.agents agent) k clean })

-- ---- what is held
some_value : (o : Option LowValue) → is_some o ≡ true → (v : LowValue) × (o ≡ Some v)
some_value (Some v) e = (v, refl)
some_value None e = absurd (true≢false (sym e))

-- what is excluded where something stays, and where it does not
pub unless : (stays : Bool) (A : Type 0) → (stays ≡ true → A) → (A → ⊥) → (stays ≡ false → ⊥) → ⊥
unless true A same differ marked = differ (same refl)
unless false A same differ marked = marked refl

-- ---- access lists of the networks of ports
seen : (port : Addr × InstanceId) (address : Addr) (n : InstanceId) → seen_at address (Some port) ≡ Some n → (port.0 ≡ address) × (port.1 ≡ n)
seen port address n e =
    elim (port.0.0 == address.0) as (λ t. (port.0.0 == address.0) ≡ t → cond t (Some port.1) None ≡ Some n → (port.0 ≡ address) × (port.1 ≡ n)) [
      | true ↦ λ same e. (ap (λ (z : ℕ). record { 0 = z }) (same_number same), same_Some port.1 n e)
      | false ↦ λ _ e. absurd (none_some n e)
    ] refl e
  where
    same_number : (port.0.0 == address.0) ≡ true → port.0.0 ≡ address.0
    same_number same = grind (arith, nat_tests)

pub port_lists : (m : Marks) (feed : Map) (v : LowValue) (port : Addr × InstanceId) → IsPort (Some v) (Some port) → AreListsMarked m port.1.0 (slice feed port.0) → m.all ≡ false
    → (name : LowKey) → object feed name ≡ Some v → (a : Told) (k : Key) → IsCleanItem m a k → IsListOfPort feed a.address (Some v) k → ⊥
port_lists m feed v port is marked all name held a k clean l =
    let address = a.address in
    let q = seen port address l.network (sym (is address) ∙ l.port_is) in
    let so = subst (λ (n : InstanceId). AreListsMarked m n.0 (slice feed address)) q.1 (subst (λ (a : Addr). AreListsMarked m port.1.0 (slice feed a)) q.0 marked) in
    let w = some_value (object feed (key.Acl l.network.0 l.to)) l.held in
    so all l.to w.0 ((slice_is feed address (key.Acl l.network.0 l.to) w.0).1 (held_object feed (key.Acl l.network.0 l.to) w.0 w.1, record { name = name; port = v; held = held_object feed name v held; port_is = l.port_is }))
    a (subst (IsCleanItem m a) l.key_is clean)

-- one of them that is held before a change is held after it
still : (feed : Map) (d : Delta LowKey LowValue) (address : Addr) (k : Key) → k ≢ Low (key_of d) → IsListOfPort feed address (put_by d) k
    → IsListOfPort (changed feed (moved_delta Low Object d)) address (object (changed feed (moved_delta Low Object d)) (key_of d)) k
still feed d address k away l = record {
  network = l.network;
  to = l.to;
  port_is = subst (λ (o : Option LowValue). port_here address o ≡ Some l.network) (sym (object_put feed d)) l.port_is;
  held = subst (λ (o : Option LowValue). is_some o ≡ true) (object_stays feed d (key.Acl l.network.0 l.to) (λ e. away (l.key_is ∙ ap Low (sym e)))) l.held;
  key_is = l.key_is;
}

-- ---- what covers the change of an object that is no use
module _ (m m' : Marks) (within : IsWithin m m') (h : Holdings) (d : Delta LowKey LowValue) where
  abbrev PortChanges : Told → Type 0
  PortChanges a = port_here a.address (object h.feed (key_of d)) ≢ port_here a.address (put_by d)

  abbrev IsSubscribed : Told → InstanceId → Type 0
  IsSubscribed a i = is_some (get a.map (Subscribe i)) ≡ true

  -- each row that the table of an instance has is marked of those who subscribe it
  abbrev IsMarkedTable : Holdings → InstanceId → Type 0
  IsMarkedTable g i = (a : Told) (q : Block) → IsSubscribed a i → IsCleanItem m' a (Row i q) → IsRowOf g i (Row i q) → ⊥

  no_row : (g : Holdings) (i : InstanceId) (q : Block) → (IsRowOf g i (Row i q) → ⊥) → get (table g i) q ≡ None
  no_row g i q none =
      elim (get (table g i) q) as (λ o. get (table g i) q ≡ o → o ≡ None) [
        | None ↦ λ _. refl
        | Some p ↦ λ e. absurd (none (record { prefix = q; path = p; has = e; key_is = refl }))
      ] refl

  own_row : (i : InstanceId) → IsMarkedTable h i → IsMarkedTable (with_low h d) i → (a : Told) (q : Block) → IsSubscribed a i → IsCleanItem m' a (Row i q)
      → get (table h i) q ≡ get (table (with_low h d) i) q
  own_row i before after a q subscribes clean = no_row h i q (before a q subscribes clean) ∙ sym (no_row (with_low h d) i q (after a q subscribes clean))

  pub covers_object : ((n : ℕ) → key_of d ≢ key.ChainUse n)
      → ((n : ℕ) → key_of d ≡ key.Instance n → is_some (object h.feed (key_of d)) ≡ is_some (put_by d))
      → ((n : ℕ) → key_of d ≡ key.Instance n → IsMarkedTable h (record { 0 = n }))
      → ((n : ℕ) → key_of d ≡ key.Instance n → IsMarkedTable (with_low h d) (record { 0 = n }))
      → ((a : Told) → IsCleanItem m' a (Low (key_of d)) → ⊥)
      → ((a : Told) (k : Key) → IsCleanItem m' a k → PortChanges a → IsListOfPort h.feed a.address (object h.feed (key_of d)) k → ⊥)
      → ((a : Told) (k : Key) → IsCleanItem m' a k → PortChanges a → IsListOfPort (with_low h d).feed a.address (object (with_low h d).feed (key_of d)) k → ⊥)
      → Covers m m' h (with_low h d)
  covers_object uses known row_before row_after marked before after = by_name (key_of d) refl
    where
      by_tables : wanted_by_peers h ≡ wanted_by_peers (with_low h d)
          → ((a : Told) (k : Key) → IsCleanItem m' a k → (i : InstanceId) (q : Block) → k ≡ Row i q → IsSubscribed a i → get (table h i) q ≡ get (table (with_low h d) i) q)
          → Covers m m' h (with_low h d)
      by_tables peers rows = record {
        addresses = λ agent. refl;
        peers = λ k clean. ap (λ w. get w k) peers;
        agents = λ agent k clean. (let a = told_in h.agents agent in
            let away : k ≢ Low (key_of d) = λ e. marked a (subst (IsCleanItem m' a) e clean) in
            any_object h d a k (rows a k clean) away (before a k clean) (λ differ l. after a k clean differ (still h.feed d a.address k away l)));
        kept = λ agent k clean. within.items (told_in h.agents agent) k clean;
      }

      no_instance : ((n : ℕ) → key_of d ≢ key.Instance n) → Covers m m' h (with_low h d)
      no_instance instances = by_tables (peers_stay h d instances uses) (λ _ _ _ i q _ _. ap (λ t. get t q) (tables_stay h d instances uses i))

      instance : (n : ℕ) → key_of d ≡ key.Instance n → Covers m m' h (with_low h d)
      instance n is =
          let stays : is_some (object h.feed (key.Instance n)) ≡ is_some (object (with_low h d).feed (key.Instance n)) =
          (ap (λ (x : LowKey). is_some (object h.feed x)) (sym is) ∙ known n is ∙ ap is_some (sym (object_put h.feed d))
          ∙ ap (λ (x : LowKey). is_some (object (with_low h d).feed x)) is) in
          by_tables (instance_peers h d n is stays) (λ a k clean i q at subscribes.
          elim (i.0 == n) as (λ b. (i.0 == n) ≡ b → get (table h i) q ≡ get (table (with_low h d) i) q) [
            | true ↦ λ e.
                let same : i ≡ record { 0 = n } = (λ j. record { 0 = eqb-true i.0 n e j }) in
                own_row i
                (subst (IsMarkedTable h) (sym same) (row_before n is)) (subst (IsMarkedTable (with_low h d)) (sym same) (row_after n is))
                a q subscribes (subst (IsCleanItem m' a) at clean)
            | false ↦ λ e. ap (λ t. get t q) (instance_tables h d n is stays i (λ same. apart i.0 n same e))
          ] refl)
        where
          apart : (a b : ℕ) → a ≡ b → (a == b) ≡ false → ⊥
          apart a b same e = grind (arith, nat_tests)

      by_name : (x : LowKey) → key_of d ≡ x → Covers m m' h (with_low h d)
      by_name (key.Instance n) is = instance n is
      by_name (key.ChainUse n) is = absurd (uses n is)
      by_name (key.Attach label) is = no_instance (λ n e. attached label n (sym is ∙ e))
        where
          attached : (a n : ℕ) → key.Attach a ≡ key.Instance n → ⊥
          attached a n e = cc
      by_name (key.Acl from to) is = no_instance (λ n e. listed from to n (sym is ∙ e))
        where
          listed : (a b n : ℕ) → key.Acl a b ≡ key.Instance n → ⊥
          listed a b n e = cc
