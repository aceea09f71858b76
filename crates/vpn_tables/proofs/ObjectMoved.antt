-- Where an object changes, its own instances change alone, and what is published in them.
use Rattle.std.specs.Prelude.{◌≡◌, ◌≢◌, ◌⊎◌, Ok, Err, OnOk, OnErr, Result, ℕ, ◌≤◌, List, [], ◌∷◌, true, false, cond, ◌==◌, is_some}
use Rattle.std.specs.List.{enumerate_from, filter_map, flat_map}
use Rattle.std.specs.FinMap.{entries}
use Rattle.std.proofs.lemmas.Bool.{true≢false, eq-eqb}
use Rattle.std.proofs.Common.{refl, sym, ◌∙◌, ap, subst, inl, inr}
use Rattle.ov_sync.specs.declared.Delta.{Delta}
use Rattle.ov_sync.specs.Keyed.{key_of}
use Rattle.ov_types.specs.Prefix.{Block}
use Rattle.ov_types.specs.declared.keys.UpKey.TheVariants as Up
use Rattle.ov_types.specs.declared.numbers.InstanceId.{InstanceId}
use Rattle.ov_types.specs.declared.objects.LowKey.{LowKey}
use Rattle.ov_types.specs.declared.objects.LowKey.TheVariants as key
use Rattle.ov_types.specs.declared.objects.LowValue.{LowValue}
use Rattle.route_targets.specs.Numbers.{hop_instance_of, target_of}
use Rattle.node_model.specs.Keys.{Key, Publish}
use Rattle.node_model.specs.Values.{Value, Label}
use Rattle.node_model.specs.Maps.{Map, object}
use Rattle.node_model.specs.Members.{Member}
use Rattle.node_model.specs.Uses.{held_use, hop_imports, imports, is_hop, is_known, is_place, network_imports, place_of, use_from, use_of}
use Rattle.node_model.specs.Paths.{Holdings, Told, own_paths, peer_path}
use Rattle.node_model.specs.Reaching.{AreShort, Side, hop_at, published_in, sides}
use Rattle.node_model.proofs.Members.{in_filter_map, in_flat_map, member_get}
use Rattle.node_model.proofs.Objects.{in_sides, is_hop-hop, side_use, use_held, use_of-hop}
use Rattle.node_model.proofs.Orders.{key_exact, key_total}
use Rattle.node_model.proofs.Places.{use_found}
use Rattle.node_model.proofs.Routes.{own_route_from, own_route_in}
use Rattle.node_model.proofs.Unknown.{le_trans, place_at, place_at-within}
use Rattle.vpn_holdings.specs.Changes.{with_low}
use Rattle.vpn_holdings.specs.Gathered.{held_keys, keys_told, up_key}
use Rattle.vpn_holdings.specs.Touched.{imports_one, is_touched, touched_rows}
use Rattle.vpn_tables.proofs.TablesStay.{object_stays}
use Rattle.vpn_tables.proofs.Wanted.{at_row}
use Rattle.vpn_tables.specs.Changing.{is_of, makes_rows, rows_published}
use Rattle.vpn_tables.specs.Stored.{entry_of}
use Rattle.vpn_tables.specs.declared.stored.RowKey.{RowKey}
use Rattle.vpn_tables.proofs.AgentMoved.{Publishes, imported_touched, not_true, use_touched}
use Rattle.vpn_tables.proofs.Alike.{IsClean, IsMoved, alike, clean_too}

-- an instance that is none of an object's is known by another one
instance_apart : (k : LowKey) (i : InstanceId) → is_hop i ≡ false → is_of k i ≡ false → k ≢ key.Instance i.0
instance_apart k i network none e =
    true≢false (sym (ap (λ b. cond b false (i.0 == i.0)) network ∙ eq-eqb i.0 i.0 refl) ∙ ap (λ (j : LowKey). is_of j i) (sym e) ∙ none)

use_apart : (k : LowKey) (i : InstanceId) → is_hop i ≡ true → is_of k i ≡ false → k ≢ key.ChainUse (use_of i)
use_apart k i place none e =
    true≢false (sym (ap (λ b. cond b (use_of i == use_of i) false) place ∙ eq-eqb (use_of i) (use_of i) refl) ∙ ap (λ (j : LowKey). is_of j i) (sym e) ∙ none)

-- a place of a use is its object's
of_place : (k : LowKey) (u j n : ℕ) → j ≤ 15 → n ≤ 15 → is_of k (hop_instance_of u j) ≡ is_of k (hop_instance_of u n)
of_place (key.ChainUse v) u j n w x =
    ap (λ b. cond b (use_of (hop_instance_of u j) == v) false) (is_hop-hop u j) ∙ ap (λ m. m == v) (use_of-hop u j w)
    ∙ sym (ap (λ b. cond b (use_of (hop_instance_of u n) == v) false) (is_hop-hop u n) ∙ ap (λ m. m == v) (use_of-hop u n x))
of_place (key.Instance v) u j n w x =
    ap (λ b. cond b false ((hop_instance_of u j).0 == v)) (is_hop-hop u j) ∙ sym (ap (λ b. cond b false ((hop_instance_of u n).0 == v)) (is_hop-hop u n))
of_place (key.Attach v) u j n w x = refl
of_place (key.Acl a b) u j n w x = refl

-- a publication in an instance of the object
pub record Moves (k : LowKey) (agents : List Told) (j : InstanceId) (q : Block) : Type 0 where
  pub of_object : is_of k j ≡ true
  pub agent : Told
  pub held : Member agent agents
  pub publishes : Publishes agent j q

-- where the same instances are known, none moves
abbrev None_moves : InstanceId → Block → Type 0
None_moves j q = ⊥

-- what moves between two holdings that differ by one object alone
module _ (h g : Holdings) (k : LowKey) (asn : g.asn ≡ h.asn) (peers : g.peers ≡ h.peers) (agents : g.agents ≡ h.agents) (stays : (j : LowKey) → k ≢ j → object h.feed j ≡ object g.feed j) (short : AreShort h.feed) where
  use_stays : (i : InstanceId) → is_hop i ≡ true → is_of k i ≡ false → held_use h.feed i ≡ held_use g.feed i
  use_stays i is none = ap (use_from (use_of i)) (stays (key.ChainUse (use_of i)) (use_apart k i is none))

  imports_stay : (i : InstanceId) → is_of k i ≡ false → imports h.feed i ≡ imports g.feed i
  imports_stay i none =
      elim (is_hop i) as (λ t. is_hop i ≡ t → cond t (hop_imports (place_of i) (held_use h.feed i)) (network_imports (object h.feed (key.Instance i.0)))
      ≡ cond t (hop_imports (place_of i) (held_use g.feed i)) (network_imports (object g.feed (key.Instance i.0)))) [
        | true ↦ λ is. ap (hop_imports (place_of i)) (use_stays i is none)
        | false ↦ λ is. ap network_imports (stays (key.Instance i.0) (instance_apart k i is none))
      ] refl

  known_stays : (i : InstanceId) → is_of k i ≡ false → is_known h.feed i ≡ is_known g.feed i
  known_stays i none =
      elim (is_hop i) as (λ t. is_hop i ≡ t → cond t (is_place (place_of i) (held_use h.feed i)) (is_some (object h.feed (key.Instance i.0)))
      ≡ cond t (is_place (place_of i) (held_use g.feed i)) (is_some (object g.feed (key.Instance i.0)))) [
        | true ↦ λ is. ap (is_place (place_of i)) (use_stays i is none)
        | false ↦ λ is. ap is_some (stays (key.Instance i.0) (instance_apart k i is none))
      ] refl

  small : (s : Side) → Member s (sides h.feed) → (d : ℕ) → d ≤ s.chain.services → place_at s d ≤ 15
  small s held d w = le_trans (place_at s d) s.chain.services 15 (place_at-within s d w) (short s.chain (side_use h.feed s held))

  held_stays : (s : Side) → Member s (sides h.feed) → (d : ℕ) → d ≤ s.chain.services → is_of k (hop_at s d) ≡ false → Member s (sides g.feed)
  held_stays s held d w none =
      let u = s.chain in
      let at = small s held d w in
      let apart : k ≢ key.ChainUse u.number = λ e. use_apart k (hop_at s d) (is_hop-hop u.number (place_at s d)) none (e ∙ ap key.ChainUse (sym (use_of-hop u.number (place_at s d) at))) in
      in_sides g.feed u s.is_right (use_found g.feed u.number u (ap (use_from u.number) (sym (stays (key.ChainUse u.number) apart)) ∙ use_held h.feed u (side_use h.feed s held))).0

  pub moved : IsMoved h g (is_of k) (Moves k h.agents)
  moved = record {
    asn = asn;
    imported = imports_stay;
    paths = λ p m.
        let r = own_route_from h p m in
        elim (is_of k r.instance) as (λ t. is_of k r.instance ≡ t → Member p (own_paths g) ⊎ ((j : InstanceId) × (p.targets ≡ target_of h.asn j ∷ []) × Moves k h.agents j p.prefix)) [
          | true ↦ λ is. inr (r.instance, r.targets, record { of_object = is; agent = r.agent; held = r.told; publishes = record { label = p.label; told = r.publishes } })
          | false ↦ λ none. inl (own_route_in g p (record {
            agent = r.agent;
            instance = r.instance;
            told = subst (Member r.agent) (sym agents) r.told;
            publishes = r.publishes;
            known = sym (known_stays r.instance none) ∙ r.known;
            rd = r.rd;
            next_hop = r.next_hop;
            targets = r.targets ∙ ap (λ a. target_of a r.instance ∷ []) (sym asn);
            session = r.session;
          }))
        ] refl;
    peers = λ p m. subst (λ (ms : List Map). Member p (flat_map (λ (x : ℕ × Map). filter_map (λ e. peer_path x.0 e.0 e.1) (entries x.1)) (enumerate_from 1 ms))) (sym peers) m;
    held = held_stays;
    along = λ s held d e w v none. of_place k s.chain.number (place_at s e) (place_at s d) (small s held e v) (small s held d w) ∙ none;
    publishers = λ c. inl (ap (λ (ts : List Told). published_in ts c) (sym agents));
  }

  pub moved_known : ((i : InstanceId) → is_of k i ≡ true → is_known h.feed i ≡ is_known g.feed i) → IsMoved h g (is_of k) None_moves
  moved_known known = record {
    asn = asn;
    imported = imports_stay;
    paths = λ p m.
        let r = own_route_from h p m in
        inl (own_route_in g p (record {
          agent = r.agent;
          instance = r.instance;
          told = subst (Member r.agent) (sym agents) r.told;
          publishes = r.publishes;
          known = sym (known_same r.instance) ∙ r.known;
          rd = r.rd;
          next_hop = r.next_hop;
          targets = r.targets ∙ ap (λ a. target_of a r.instance ∷ []) (sym asn);
          session = r.session;
        }));
    peers = moved.peers;
    held = held_stays;
    along = moved.along;
    publishers = λ c. inl (ap (λ (ts : List Told). published_in ts c) (sym agents));
  }
    where
      known_same : (i : InstanceId) → is_known h.feed i ≡ is_known g.feed i
      known_same i = elim (is_of k i) as (λ t. is_of k i ≡ t → is_known h.feed i ≡ is_known g.feed i) [ true ↦ known i | false ↦ known_stays i ] refl

-- ---- a change of an object
module _ (h : Holdings) (d : Delta LowKey LowValue) (short_h : AreShort h.feed) (short_g : AreShort (with_low h d).feed) where
  abbrev later : Holdings
  later = with_low h d

  abbrev k : LowKey
  k = key_of d

  abbrev there : IsMoved h later (is_of k) (Moves k h.agents)
  there = moved h later k refl refl refl (object_stays h.feed d) short_h

  abbrev back : IsMoved later h (is_of k) (Moves k h.agents)
  back = moved later h k refl refl refl (λ j e. sym (object_stays h.feed d j e)) short_g

  listed : (j : InstanceId) (q : Block) → Moves k h.agents j q → (r : InstanceId × Block) → Member r (touched_rows h (target_of h.asn j ∷ []) q) → Member r (flat_map (rows_published h k) (held_keys h))
  listed j q m r n =
      in_flat_map (rows_published h k) (Up.Publish j q) r (held_keys h)
      (in_flat_map keys_told m.agent (Up.Publish j q) h.agents m.held
      (in_filter_map (λ (e : Key × Value). up_key e.0 e.1) (Publish j q, Label m.publishes.label) (Up.Publish j q) (entries m.agent.map)
      (member_get key_total key_exact m.agent.map (Publish j q) (Label m.publishes.label) m.publishes.told) refl))
      (subst (λ b. Member r (cond b (touched_rows h (target_of h.asn j ∷ []) q) [])) (sym m.of_object) n)

  clean : (i : InstanceId) (q : Block) → is_of k i ≡ false → (Member (at_row i q) (flat_map (rows_published h k) (held_keys h)) → ⊥) → IsClean h (is_of k) (Moves k h.agents) i q
  clean i q other none = record {
    other = other;
    row = λ j m. not_true (imports_one h (target_of h.asn j ∷ []) i) (λ t. none (listed j q m (at_row i q) (imported_touched h j i q short_h t)));
    of_use = λ s held row j x m. not_true (is_touched h (target_of h.asn j ∷ []) s.chain) (λ t. none (listed j x m (at_row i q) (use_touched h j i q x s held row t)));
  }

  pub object_entry : (r : RowKey) → is_of k r.instance ≡ false → (Member (at_row r.instance r.prefix) (flat_map (rows_published h k) (held_keys h)) → ⊥) → entry_of h r ≡ entry_of later r
  object_entry r other none =
      let c = clean r.instance r.prefix other none in
      alike h later (is_of k) (Moves k h.agents) there back short_h short_g r c (clean_too h later (is_of k) (Moves k h.agents) there back r.instance r.prefix c)

  -- entries stay outside an instance that stays known
  pub known_entry : ((i : InstanceId) → is_of k i ≡ true → is_known h.feed i ≡ is_known later.feed i) → (r : RowKey) → is_of k r.instance ≡ false → entry_of h r ≡ entry_of later r
  known_entry known r other =
      let there : IsMoved h later (is_of k) None_moves = moved_known h later k refl refl refl (object_stays h.feed d) short_h known in
      let back : IsMoved later h (is_of k) None_moves = moved_known later h k refl refl refl (λ j e. sym (object_stays h.feed d j e)) short_g (λ i own. sym (known i own)) in
      let c : IsClean h (is_of k) None_moves r.instance r.prefix = record { other = other; row = λ j m. absurd m; of_use = λ s held row j x m. absurd m } in
      alike h later (is_of k) None_moves there back short_h short_g r c (clean_too h later (is_of k) None_moves there back r.instance r.prefix c)

  -- entries stay where an attachment or an access list changes
  none_of : (j : LowKey) (i : InstanceId) → makes_rows j ≡ false → is_of j i ≡ false
  none_of (key.Instance n) i e = absurd (true≢false e)
  none_of (key.ChainUse n) i e = absurd (true≢false e)
  none_of (key.Attach n) i e = refl
  none_of (key.Acl m n) i e = refl

  other_entry : makes_rows k ≡ false → (r : RowKey) → entry_of h r ≡ entry_of later r
  other_entry e r =
      let none : (i : InstanceId) → is_of k i ≡ false = λ i. none_of k i e in
      let c : IsClean h (is_of k) (Moves k h.agents) r.instance r.prefix = record {
        other = none r.instance;
        row = λ j m. absurd (true≢false (sym m.of_object ∙ none j));
        of_use = λ s held row j x m. absurd (true≢false (sym m.of_object ∙ none j));
      } in
      alike h later (is_of k) (Moves k h.agents) there back short_h short_g r c (clean_too h later (is_of k) (Moves k h.agents) there back r.instance r.prefix c)

-- where it may have failed
pub changed_entry : {T E : Type 0} (h g : Holdings) (d : Delta LowKey LowValue) (r : Result T E) → OnOk r (g ≡ with_low h d) → OnErr r (g ≡ h) → AreShort h.feed → AreShort g.feed → makes_rows (key_of d) ≡ false
    → (k : RowKey) → entry_of h k ≡ entry_of g k
changed_entry h g d (Ok done) ok err short_h short_g none k =
    other_entry h d short_h (subst (λ (x : Holdings). AreShort x.feed) ok short_g) none k ∙ ap (λ (x : Holdings). entry_of x k) (sym ok)
changed_entry h g d (Err e) ok err short_h short_g none k = ap (λ (x : Holdings). entry_of x k) (sym err)
