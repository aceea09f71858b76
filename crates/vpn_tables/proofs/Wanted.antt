-- What a change of one route or one publication changes of tables, and of what is wanted.
use Rattle.std.specs.Prelude.{◌≡◌, ◌≢◌, ◌⊎◌, ℕ, List, [], ◌∷◌, ◌++◌, map, Bool, true, false, cond, ◌&&◌, ◌==◌, Some, None}
use Rattle.std.specs.declared.option.Option.{Option}
use Rattle.std.specs.List.{filter, flat_map, AllByRecursion}
use Rattle.std.specs.Option.{option_map}
use Rattle.std.specs.Ordering.{eq_by_cmp, is_eq}
use Rattle.std.specs.Cmp.{Equal-is, tied_itself}
use Rattle.std.specs.FinMap.{entries, find, get, get-entries, get-from_entries}
use Rattle.std.proofs.lemmas.Bool.{true≢false, eqb-true}
use Rattle.std.proofs.Common.{refl, sym, ◌∙◌, ap, subst, inl, inr, arith}
use Rattle.ov_types.specs.Prefix.{Block, block_cmp}
use Rattle.ov_types.specs.declared.numbers.InstanceId.{InstanceId}
use Rattle.ov_types.specs.declared.targets.Target.{Target}
use Rattle.route_targets.specs.Numbers.{target_of}
use Rattle.node_model.specs.Members.{Member}
use Rattle.node_model.specs.Keys.{Key, Low, Vpn, Row, Publish, Subscribe, key_cmp}
use Rattle.node_model.specs.Values.{Value, Entry}
use Rattle.node_model.specs.Maps.{Map}
use Rattle.node_model.specs.Uses.{uses, imports}
use Rattle.node_model.specs.Paths.{Holdings, Told, Path, has_target, own_paths, peer_paths, received}
use Rattle.node_model.specs.Reaching.{Side, sides, reoriginated_paths, AreShort}
use Rattle.node_model.specs.Tables.{known_instances, of_prefix, paths_of, same_prefix, table}
use Rattle.node_model.specs.Wants.{route_entry, rows_of, slice, slice_entry, subscriptions, wanted_by_agent, wanted_by_peers}
use Rattle.node_model.proofs.Members.{in_filter, in_flat_map, in_left, in_map, in_right, from_map, iff_same}
use Rattle.node_model.proofs.Orders.{key_exact, key_total, prefix_exact, prefix_same, prefix_total}
use Rattle.node_model.proofs.Objects.{side_use}
use Rattle.vpn_holdings.specs.Touched.{imports_one, is_touched, rows_at_use, touched_rows}
use Rattle.vpn_tables.proofs.Moves.{Covers, Moves, told_otherwise}
use Rattle.vpn_holdings.specs.Leading.{leads}
use Rattle.vpn_tables.specs.PeerKeys.{IsTouchedKey}
use Rattle.vpn_tables.proofs.Filtering.{all_from, filter_append, filter_twice, found_after, found_among, found_in_each, found_nowhere}
use Rattle.vpn_tables.proofs.Rows.{same_row}
use Rattle.vpn_tables.proofs.Untouched.{led_same, not_moved}
use Rattle.vpn_tables.proofs.Led.{along, importing}

abbrev pub at_row : InstanceId → Block → InstanceId × Block
at_row i q = (i, q)

module _ (h : Holdings) (peers : List Map) (agents : List Told) (moved : List Path) (place : Option InstanceId) (m : Moves moved place h (told_otherwise h peers agents)) (targets : List Target) (covers : Covers h.asn moved place targets) (short : AreShort h.feed) where
  abbrev later : Holdings
  later = told_otherwise h peers agents

  -- ---- tables
  module _ (prefix : Block) (to : AllByRecursion (λ p. p.prefix ≡ prefix) moved) (i : InstanceId) (q : Block) (clean : Member (i, q) (touched_rows h targets prefix) → ⊥) where
    abbrev imported : Path → Bool
    imported = has_target (map (target_of h.asn) (imports h.feed i))

    abbrev here : Path → Bool
    here p = same_prefix p.prefix q

    to_prefix : (xs : List Path) → AllByRecursion (λ p. p.prefix ≡ prefix) xs → (p : Path) → Member p xs → p.prefix ≡ prefix
    to_prefix [] a p n = absurd n
    to_prefix (x ∷ xs) a p (inl e) = ap (λ (p : Path). p.prefix) (sym e) ∙ a.0
    to_prefix (x ∷ xs) a p (inr n) = to_prefix xs a.1 p n

    both_false : (a b : Bool) → (a ≡ true → b ≡ true → ⊥) → (a && b) ≡ false
    both_false true true f = absurd (f refl refl)
    both_false true false f = refl
    both_false false b f = refl

    -- no path that moved makes this row
    moved_apart : (p : Path) → Member p moved → (imported p && here p) ≡ false
    moved_apart p n = both_false (imported p) (here p) (λ im at.
        let is : prefix ≡ q = sym (to_prefix moved to p n) ∙ prefix_same p.prefix q at in
        elim (imports_one h targets i) as (λ b. imports_one h targets i ≡ b → ⊥) [
          | true ↦ λ e. clean (in_left (at_row i q) (map (λ (i : InstanceId). (i, prefix)) (filter (imports_one h targets) (known_instances h.feed))) (flat_map rows_at_use (filter (is_touched h targets) (uses h.feed)))
              (subst (λ (x : Block). Member (at_row i x) (map (λ (i : InstanceId). (i, prefix)) (filter (imports_one h targets) (known_instances h.feed)))) is
              (in_map (λ (i : InstanceId). (i, prefix)) i (filter (imports_one h targets) (known_instances h.feed)) (importing h targets i short e))))
          | false ↦ λ e. true≢false (sym im ∙ not_moved h peers agents moved place m targets covers i e p n)
        ] refl)

    -- no route along a touched use makes this row
    led_apart : (s : Side) → Member s (sides h.feed) → is_touched h targets s.chain ≡ true → (p : Path) → Member p (leads h s) ⊎ Member p (leads later s)
        → (has_target (target_of h.asn i ∷ []) p && here p) ≡ false
    led_apart s held t p n = both_false (has_target (target_of h.asn i ∷ []) p) (here p) (λ into at.
        clean (in_right (at_row i q) (map (λ (i : InstanceId). (i, prefix)) (filter (imports_one h targets) (known_instances h.feed))) (flat_map rows_at_use (filter (is_touched h targets) (uses h.feed)))
        (in_flat_map rows_at_use s.chain (at_row i q) (filter (is_touched h targets) (uses h.feed)) (in_filter (is_touched h targets) s.chain (uses h.feed) (side_use h.feed s held) t)
        (elim n as (λ _. Member (at_row i q) (rows_at_use s.chain)) [
          | inl l ↦ along h s i q p l into (prefix_same p.prefix q at)
          | inr l ↦ along later s i q p l into (prefix_same p.prefix q at)
        ]))))

    received_here : of_prefix q (received h i) ≡ of_prefix q (received later i)
    received_here =
        let test : Path → Bool = (λ p. imported p && here p) in
        let all = all_from (λ p. test p ≡ false) moved moved_apart in
        filter_twice here imported (own_paths h ++ peer_paths h) ∙ filter_append test (own_paths h) (peer_paths h)
        ∙ (λ k. m.own test all k ++ m.peers test all k)
        ∙ sym (filter_twice here imported (own_paths later ++ peer_paths later) ∙ filter_append test (own_paths later) (peer_paths later))

    led_here : of_prefix q (filter (has_target (target_of h.asn i ∷ [])) (reoriginated_paths h)) ≡ of_prefix q (filter (has_target (target_of h.asn i ∷ [])) (reoriginated_paths later))
    led_here =
        filter_twice here (has_target (target_of h.asn i ∷ [])) (reoriginated_paths h)
        ∙ led_same h peers agents moved place m targets covers short (λ p. has_target (target_of h.asn i ∷ []) p && here p) led_apart
        ∙ sym (filter_twice here (has_target (target_of h.asn i ∷ [])) (reoriginated_paths later))

    pub row_same : get (table h i) q ≡ get (table later i) q
    row_same =
        same_row (paths_of h i) (paths_of later i) q
        (filter_append here (received h i) (filter (has_target (target_of h.asn i ∷ [])) (reoriginated_paths h))
        ∙ (λ k. received_here k ++ led_here k)
        ∙ sym (filter_append here (received later i) (filter (has_target (target_of h.asn i ∷ [])) (reoriginated_paths later))))

  -- ---- towards peers
  module _ (k : Key) (clean : IsTouchedKey moved targets h later k → ⊥) where
    abbrev of_key : Path → Bool
    of_key p = eq_by_cmp key_cmp k (route_entry p).0

    is_key : (p : Path) → of_key p ≡ true → (route_entry p).0 ≡ k
    is_key p e = sym (key_exact k (route_entry p).0 ((Equal-is (key_cmp k (route_entry p).0)).0 e))

    moved_off : (p : Path) → Member p moved → of_key p ≡ false
    moved_off p n = elim (of_key p) as (λ b. of_key p ≡ b → b ≡ false) [
      | true ↦ λ e. absurd (clean (record { path = p; key_is = is_key p e; stands = inl n }))
      | false ↦ λ _. refl
    ] refl

    led_off : (s : Side) → Member s (sides h.feed) → is_touched h targets s.chain ≡ true → (p : Path) → Member p (leads h s) ⊎ Member p (leads later s) → of_key p ≡ false
    led_off s held t p n = elim (of_key p) as (λ b. of_key p ≡ b → b ≡ false) [
      | true ↦ λ e. absurd (clean (record { path = p; key_is = is_key p e; stands = inr (s, held, t, n) }))
      | false ↦ λ _. refl
    ] refl

    pub peers_same : get (wanted_by_peers h) k ≡ get (wanted_by_peers later) k
    peers_same =
        get-from_entries key_total (map route_entry (own_paths h ++ reoriginated_paths h)) k
        ∙ found_among key_cmp k route_entry (own_paths h ++ reoriginated_paths h)
        ∙ ap (λ ps. find key_cmp k (map route_entry ps))
        (filter_append of_key (own_paths h) (reoriginated_paths h)
        ∙ (λ j. m.own of_key (all_from (λ p. of_key p ≡ false) moved moved_off) j ++ led_same h peers agents moved place m targets covers short of_key led_off j)
        ∙ sym (filter_append of_key (own_paths later) (reoriginated_paths later)))
        ∙ sym (found_among key_cmp k route_entry (own_paths later ++ reoriginated_paths later))
        ∙ sym (get-from_entries key_total (map route_entry (own_paths later ++ reoriginated_paths later)) k)

-- ---- towards an agent
abbrev pub told_hop : Path → Value
told_hop p = Entry (record { next_hop = p.next_hop; label = p.label })

abbrev pub told_row : InstanceId → Block × Path → Key × Value
told_row i e = (Row i e.0, told_hop e.1)

same_key : (a b : Key) → eq_by_cmp key_cmp a b ≡ true → a ≡ b
same_key a b e = key_exact a b ((Equal-is (key_cmp a b)).0 e)

ties_itself : (a b : Key) → a ≡ b → eq_by_cmp key_cmp a b ≡ true
ties_itself a b e = ap is_eq (ap (key_cmp a) (sym e) ∙ tied_itself key_total a)

abbrev block_in : Key → Block → Block
block_in (Row i q) d = q
block_in (Low k) d = d
block_in (Vpn k) d = d
block_in (Publish i q) d = d
block_in (Subscribe i) d = d

abbrev instance_in_row : Key → InstanceId → InstanceId
instance_in_row (Row i q) d = i
instance_in_row (Low k) d = d
instance_in_row (Vpn k) d = d
instance_in_row (Publish i q) d = d
instance_in_row (Subscribe i) d = d

row_ties : (i : InstanceId) (q x : Block) → eq_by_cmp key_cmp (Row i q) (Row i x) ≡ eq_by_cmp block_cmp q x
row_ties i q x =
    iff_same (eq_by_cmp key_cmp (Row i q) (Row i x)) (eq_by_cmp block_cmp q x)
    (λ e. ap is_eq (ap (block_cmp q) (sym (ap (λ k. block_in k q) (same_key (Row i q) (Row i x) e))) ∙ tied_itself prefix_total q))
    (λ e. ties_itself (Row i q) (Row i x) (ap (Row i) (prefix_exact q x ((Equal-is (block_cmp q x)).0 e))))

pub row_found : (i : InstanceId) (q : Block) (es : List (Block × Path)) → find key_cmp (Row i q) (map (told_row i) es) ≡ option_map told_hop (find block_cmp q es)
row_found i q [] = refl
row_found i q (e ∷ es) =
    (λ k. cond (row_ties i q e.0 k) (Some (told_hop e.1)) (row_found i q es k))
    ∙ elim (eq_by_cmp block_cmp q e.0) as (λ b. cond b (Some (told_hop e.1)) (option_map told_hop (find block_cmp q es)) ≡ option_map told_hop (cond b (Some e.1) (find block_cmp q es))) [ true ↦ refl | false ↦ refl ]

pub row_elsewhere : (k : Key) (i : InstanceId) (es : List (Block × Path)) → ((q : Block) → k ≢ Row i q) → find key_cmp k (map (told_row i) es) ≡ None
row_elsewhere k i es h = found_nowhere key_cmp k (map (told_row i) es) (λ e n.
    let f = from_map (told_row i) e es n in
    elim (eq_by_cmp key_cmp k e.0) as (λ b. eq_by_cmp key_cmp k e.0 ≡ b → b ≡ false) [
      | true ↦ λ t. absurd (h f.0.0 (same_key k e.0 t ∙ ap (λ (x : Key × Value). x.0) (sym f.2)))
      | false ↦ λ _. refl
    ] refl)

module _ (h g : Holdings) where
  rows_at_row : (i j : InstanceId) (q : Block) → (i ≡ j → get (table h i) q ≡ get (table g i) q) → find key_cmp (Row i q) (rows_of h j) ≡ find key_cmp (Row i q) (rows_of g j)
  rows_at_row i j q same =
      elim (i.0 == j.0) as (λ b. (i.0 == j.0) ≡ b → find key_cmp (Row i q) (rows_of h j) ≡ find key_cmp (Row i q) (rows_of g j)) [
        | true ↦ λ e.
            let is : i ≡ j = (λ k. record { 0 = eqb-true i.0 j.0 e k }) in
            subst (λ (j : InstanceId). find key_cmp (Row i q) (rows_of h j) ≡ find key_cmp (Row i q) (rows_of g j)) is
            (row_found i q (entries (table h i)) ∙ ap (option_map told_hop) (sym (get-entries (table h i) q) ∙ same is ∙ get-entries (table g i) q) ∙ sym (row_found i q (entries (table g i))))
        | false ↦ λ e.
            let away : (x : Block) → Row i q ≢ Row j x = (λ x is. true≢false (sym (itself i.0 j.0 (ap (λ (n : InstanceId). n.0) (ap (λ k. instance_in_row k i) is))) ∙ e)) in
            row_elsewhere (Row i q) j (entries (table h j)) away ∙ sym (row_elsewhere (Row i q) j (entries (table g j)) away)
      ] refl
    where
      itself : (a b : ℕ) → a ≡ b → (a == b) ≡ true
      itself a b e = grind arith

  -- an agent's rows at a key are the same, where that of its row in the tables is
  pub rows_at_key : (k : Key) → ((i : InstanceId) (q : Block) → k ≡ Row i q → get (table h i) q ≡ get (table g i) q) → (j : InstanceId) → find key_cmp k (rows_of h j) ≡ find key_cmp k (rows_of g j)
  rows_at_key (Row i q) same j = rows_at_row i j q (λ _. same i q refl)
  rows_at_key (Low k) same j = row_elsewhere (Low k) j (entries (table h j)) (λ q is. absurd (low_row k j q is)) ∙ sym (row_elsewhere (Low k) j (entries (table g j)) (λ q is. absurd (low_row k j q is)))
    where
      low_row : (k : _) (j : InstanceId) (q : Block) → Low k ≡ Row j q → ⊥
      low_row k j q is = cc
  rows_at_key (Vpn k) same j = row_elsewhere (Vpn k) j (entries (table h j)) (λ q is. absurd (vpn_row k j q is)) ∙ sym (row_elsewhere (Vpn k) j (entries (table g j)) (λ q is. absurd (vpn_row k j q is)))
    where
      vpn_row : (k : _) (j : InstanceId) (q : Block) → Vpn k ≡ Row j q → ⊥
      vpn_row k j q is = cc
  rows_at_key (Publish i x) same j = row_elsewhere (Publish i x) j (entries (table h j)) (λ q is. absurd (publish_row i x j q is)) ∙ sym (row_elsewhere (Publish i x) j (entries (table g j)) (λ q is. absurd (publish_row i x j q is)))
    where
      publish_row : (i : InstanceId) (x : Block) (j : InstanceId) (q : Block) → Publish i x ≡ Row j q → ⊥
      publish_row i x j q is = cc
  rows_at_key (Subscribe i) same j = row_elsewhere (Subscribe i) j (entries (table h j)) (λ q is. absurd (subscribe_row i j q is)) ∙ sym (row_elsewhere (Subscribe i) j (entries (table g j)) (λ q is. absurd (subscribe_row i j q is)))
    where
      subscribe_row : (i j : InstanceId) (q : Block) → Subscribe i ≡ Row j q → ⊥
      subscribe_row i j q is = cc

  -- what is found at a key among the rows of an instance stays, where its row of the key does
  pub rows_of_one : (k : Key) (j : InstanceId) → ((q : Block) → k ≡ Row j q → get (table h j) q ≡ get (table g j) q) → find key_cmp k (rows_of h j) ≡ find key_cmp k (rows_of g j)
  rows_of_one (Row i q) j same = rows_at_row i j q (λ e. subst (λ (x : InstanceId). get (table h x) q ≡ get (table g x) q) (sym e) (same q (ap (λ (x : InstanceId). Row x q) e)))
  rows_of_one (Low k) j same = rows_at_key (Low k) (λ i q is. absurd (low_apart k i q is)) j
    where
      low_apart : (k : _) (i : InstanceId) (q : Block) → Low k ≡ Row i q → ⊥
      low_apart k i q is = cc
  rows_of_one (Vpn k) j same = rows_at_key (Vpn k) (λ i q is. absurd (vpn_apart k i q is)) j
    where
      vpn_apart : (k : _) (i : InstanceId) (q : Block) → Vpn k ≡ Row i q → ⊥
      vpn_apart k i q is = cc
  rows_of_one (Publish n x) j same = rows_at_key (Publish n x) (λ i q is. absurd (publish_apart n x i q is)) j
    where
      publish_apart : (n : InstanceId) (x : Block) (i : InstanceId) (q : Block) → Publish n x ≡ Row i q → ⊥
      publish_apart n x i q is = cc
  rows_of_one (Subscribe n) j same = rows_at_key (Subscribe n) (λ i q is. absurd (subscribe_apart n i q is)) j
    where
      subscribe_apart : (n i : InstanceId) (q : Block) → Subscribe n ≡ Row i q → ⊥
      subscribe_apart n i q is = cc

pub agents_same : (h : Holdings) (peers : List Map) (agents : List Told) (a : Told) (k : Key)
    → ((i : InstanceId) (q : Block) → k ≡ Row i q → get (table h i) q ≡ get (table (told_otherwise h peers agents) i) q)
    → get (wanted_by_agent h a) k ≡ get (wanted_by_agent (told_otherwise h peers agents) a) k
agents_same h peers agents a k same =
    let g = told_otherwise h peers agents in
    let objects = map slice_entry (slice h.feed a.address) in
    get-from_entries key_total (objects ++ flat_map (rows_of h) (subscriptions a.map)) k
    ∙ found_after key_cmp k objects (flat_map (rows_of h) (subscriptions a.map)) (flat_map (rows_of g) (subscriptions a.map))
    (found_in_each key_cmp k (rows_of h) (rows_of g) (subscriptions a.map) (λ j _. rows_at_key h g k same j))
    ∙ sym (get-from_entries key_total (objects ++ flat_map (rows_of g) (subscriptions a.map)) k)
