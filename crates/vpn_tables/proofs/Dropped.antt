-- Less is held where a session is dropped, and where an object is.
use Rattle.std.specs.Prelude.{◌≡◌, ◌⊎◌, ℕ, zero, suc, ◌+◌, List, [], ◌∷◌, Bool, true, false, cond, ◌==◌, is_some, nat_lt}
use Rattle.std.specs.declared.option.Option.{Option}
use Rattle.std.specs.declared.option.Option.TheVariants.{Some, None}
use Rattle.std.specs.List.{enumerate_from, filter_map}
use Rattle.std.specs.FinMap.{empty, entries, get, get-empty, get-remove}
use Rattle.std.specs.Option.{option_map}
use Rattle.std.specs.Ordering.{eq_by_cmp}
use Rattle.std.proofs.Common.{refl, sym, ◌∙◌, ap, subst, inl, inr}
use Rattle.ov_sync.proofs.Ascending.{entries-empty}
use Rattle.ov_sync.specs.declared.Delta.TheVariants.{Drop}
use Rattle.ov_types.specs.declared.numbers.InstanceId.{InstanceId}
use Rattle.ov_types.specs.declared.numbers.Label.{Label as LabelNo}
use Rattle.ov_types.specs.declared.objects.LowKey.{LowKey}
use Rattle.ov_types.specs.declared.objects.LowKey.TheVariants as key
use Rattle.ov_types.specs.declared.objects.LowValue.{LowValue}
use Rattle.node_model.specs.Keys.{Key, Low, Publish, key_cmp}
use Rattle.node_model.specs.Values.{Value}
use Rattle.node_model.specs.Maps.{Map, as_label, as_object, object}
use Rattle.node_model.specs.Members.{Member}
use Rattle.node_model.specs.Uses.{Use, held_use, hop_imports, imports, is_hop, is_known, is_place, network_imports, place_of, use_from, use_of}
use Rattle.node_model.specs.Paths.{Holdings, Path, Told, own_paths, peer_path, peer_paths}
use Rattle.node_model.specs.Reaching.{Side, published_by, published_in, sides}
use Rattle.node_model.proofs.Members.{from_flat_map, in_flat_map, none_some}
use Rattle.node_model.proofs.Objects.{in_sides, side_use, use_held}
use Rattle.node_model.proofs.Orders.{key_total}
use Rattle.node_model.proofs.Places.{use_found}
use Rattle.node_model.proofs.Routes.{own_route_from, own_route_in}
use Rattle.vpn_holdings.specs.Answers.{seen_from, side_at}
use Rattle.vpn_holdings.specs.Changes.{at_session, emptied_at, with_low, without}
use Rattle.vpn_tables.proofs.Less.{IsLess}

-- ---- a session
abbrev nothing_told : Map → Map
nothing_told m = empty

abbrev with_map : Told → Map → Told
with_map a m = record a { map = m }

dropped_member : (a : Told) (ts : List Told) (s : ℕ) → Member a (at_session nothing_told ts s) → Member a ts ⊎ (a.map ≡ empty)
dropped_member a [] s m = absurd m
dropped_member a (b ∷ ts) s m =
    elim (nat_lt b.session s) as (λ t. Member a (cond t (b ∷ at_session nothing_told ts s) (cond (b.session == s) (with_map b empty ∷ ts) (b ∷ ts))) → Member a (b ∷ ts) ⊎ (a.map ≡ empty)) [
      | true ↦ λ m. elim m as (λ _. Member a (b ∷ ts) ⊎ (a.map ≡ empty)) [
        | inl e ↦ inl (inl e)
        | inr n ↦ elim (dropped_member a ts s n) as (λ _. Member a (b ∷ ts) ⊎ (a.map ≡ empty)) [ inl o ↦ inl (inr o) | inr e ↦ inr e ]
      ]
      | false ↦ λ m.
          elim (b.session == s) as (λ t. Member a (cond t (with_map b empty ∷ ts) (b ∷ ts)) → Member a (b ∷ ts) ⊎ (a.map ≡ empty)) [
            | true ↦ λ m. elim m as (λ _. Member a (b ∷ ts) ⊎ (a.map ≡ empty)) [ inl e ↦ inr (sym (ap (λ (t : Told). t.map) e)) | inr n ↦ inl (inr n) ]
            | false ↦ λ m. inl m
          ] m
    ] m

dropped_publisher : (c : ℕ) (ts : List Told) (s : ℕ) → is_some (published_in (at_session nothing_told ts s) c) ≡ true → is_some (published_in ts c) ≡ true
dropped_publisher c [] s e = e
dropped_publisher c (a ∷ ts) s e =
    elim (nat_lt a.session s) as (λ t. is_some (published_in (cond t (a ∷ at_session nothing_told ts s) (cond (a.session == s) (with_map a empty ∷ ts) (a ∷ ts))) c) ≡ true → is_some (published_in (a ∷ ts) c) ≡ true) [
      | true ↦ rest (published_by a c) (at_session nothing_told ts s) (dropped_publisher c ts s)
      | false ↦ λ e.
          elim (a.session == s) as (λ t. is_some (published_in (cond t (with_map a empty ∷ ts) (a ∷ ts)) c) ≡ true → is_some (published_in (a ∷ ts) c) ≡ true) [
            | true ↦ λ e. first (published_by a c) (published_by (with_map a empty) c) none e
            | false ↦ λ e. e
          ] e
    ] e
  where
    none : published_by (with_map a empty) c ≡ None
    none = ap as_label (get-empty key_cmp (Publish _ _))

    rest : (o : Option LabelNo) (bs : List Told) → (is_some (published_in bs c) ≡ true → is_some (published_in ts c) ≡ true)
        → is_some (elim o [ Some label ↦ Some (a.address, label) | None ↦ published_in bs c ]) ≡ true → is_some (elim o [ Some label ↦ Some (a.address, label) | None ↦ published_in ts c ]) ≡ true
    rest (Some label) bs f e = refl
    rest None bs f e = f e

    first : (o w : Option LabelNo) → w ≡ None → is_some (elim w [ Some label ↦ Some (a.address, label) | None ↦ published_in ts c ]) ≡ true
        → is_some (elim o [ Some label ↦ Some (a.address, label) | None ↦ published_in ts c ]) ≡ true
    first (Some label) w n e = refl
    first None w n e = ap (λ (o : Option LabelNo). is_some (elim o [ Some label ↦ Some (a.address, label) | None ↦ published_in ts c ])) (sym n) ∙ e

dropped_peer : (x : ℕ × Map) (n : ℕ) (maps : List Map) (place : ℕ) → Member x (enumerate_from n (emptied_at maps place)) → Member x (enumerate_from n maps) ⊎ (x.1 ≡ empty)
dropped_peer x n [] place m = inl m
dropped_peer x n (k ∷ maps) zero m = elim m as (λ _. Member x (enumerate_from n (k ∷ maps)) ⊎ (x.1 ≡ empty)) [ inl e ↦ inr (sym (ap (λ (y : ℕ × Map). y.1) e)) | inr o ↦ inl (inr o) ]
dropped_peer x n (k ∷ maps) (suc place) m =
    elim m as (λ _. Member x (enumerate_from n (k ∷ maps)) ⊎ (x.1 ≡ empty)) [
      | inl e ↦ inl (inl e)
      | inr o ↦ elim (dropped_peer x (n + 1) maps place o) as (λ _. Member x (enumerate_from n (k ∷ maps)) ⊎ (x.1 ≡ empty)) [ inl q ↦ inl (inr q) | inr e ↦ inr e ]
    ]

pub session_less : (h : Holdings) (place : ℕ) → IsLess (without h (suc place)) h
session_less h place = record {
  asn = refl;
  imported = λ i n m. m;
  own = own;
  peers = peers;
  seen = λ n b s e. e;
  held = λ s m. m;
  published = λ c e. dropped_publisher c h.agents (suc place) e;
}
  where
    own : (p : Path) → Member p (own_paths (without h (suc place))) → Member p (own_paths h)
    own p m =
        let r = own_route_from (without h (suc place)) p m in
        elim (dropped_member r.agent h.agents (suc place) r.told) as (λ _. Member p (own_paths h)) [
          | inl n ↦ own_route_in h p (record {
            agent = r.agent;
            instance = r.instance;
            told = n;
            publishes = r.publishes;
            known = r.known;
            rd = r.rd;
            next_hop = r.next_hop;
            targets = r.targets;
            session = r.session;
          })
          | inr e ↦ absurd (none_some _ (sym (get-empty key_cmp (Publish r.instance p.prefix)) ∙ ap (λ (m : Map). get m (Publish r.instance p.prefix)) (sym e) ∙ r.publishes))
        ]

    of_peer : ℕ × Map → List Path
    of_peer x = filter_map (λ e. peer_path x.0 e.0 e.1) (entries x.1)

    peers : (p : Path) → Member p (peer_paths (without h (suc place))) → Member p (peer_paths h)
    peers p m =
        let f = from_flat_map (λ (x : ℕ × Map). filter_map (λ e. peer_path x.0 e.0 e.1) (entries x.1)) p (enumerate_from 1 (emptied_at h.peers place)) m in
        elim (dropped_peer f.0 1 h.peers place f.1) as (λ _. Member p (peer_paths h)) [
          | inl n ↦ in_flat_map (λ (x : ℕ × Map). filter_map (λ e. peer_path x.0 e.0 e.1) (entries x.1)) f.0 p (enumerate_from 1 h.peers) n f.2
          | inr e ↦ absurd (subst (λ (es : List (Key × Value)). Member p (filter_map (λ e. peer_path f.0.0 e.0 e.1) es)) (ap entries e ∙ entries-empty {V = Value} key_cmp) f.2)
        ]

-- ---- an object
module _ (h : Holdings) (k : LowKey) where
  abbrev less : Holdings
  less = with_low h (Drop k)

  object_less : (j : LowKey) (v : LowValue) → object less.feed j ≡ Some v → object h.feed j ≡ Some v
  object_less j v e = by_test (eq_by_cmp key_cmp (Low j) (Low k)) (sym (ap as_object (get-remove key_total h.feed (Low k) (Low j))) ∙ e)
    where
      by_test : (b : Bool) → as_object (cond b None (get h.feed (Low j))) ≡ Some v → object h.feed j ≡ Some v
      by_test true e = absurd (none_some v e)
      by_test false e = e

  use_less : (n : ℕ) (u : Use) → use_from n (object less.feed (key.ChainUse n)) ≡ Some u → use_from n (object h.feed (key.ChainUse n)) ≡ Some u
  use_less n u e = by_object (object less.feed (key.ChainUse n)) refl e
    where
      by_object : (o : Option LowValue) → object less.feed (key.ChainUse n) ≡ o → use_from n o ≡ Some u → use_from n (object h.feed (key.ChainUse n)) ≡ Some u
      by_object None is e = absurd (none_some u e)
      by_object (Some v) is e = ap (use_from n) (object_less (key.ChainUse n) v is) ∙ e

  imports_less : (i n : InstanceId) → Member n (imports less.feed i) → Member n (imports h.feed i)
  imports_less i n m =
      elim (is_hop i) as (λ t. Member n (cond t (hop_imports (place_of i) (held_use less.feed i)) (network_imports (object less.feed (key.Instance i.0))))
      → Member n (cond t (hop_imports (place_of i) (held_use h.feed i)) (network_imports (object h.feed (key.Instance i.0))))) [
        | true ↦ of_use (held_use less.feed i) refl
        | false ↦ of_network (object less.feed (key.Instance i.0)) refl
      ] m
    where
      of_use : (o : Option Use) → held_use less.feed i ≡ o → Member n (hop_imports (place_of i) o) → Member n (hop_imports (place_of i) (held_use h.feed i))
      of_use None e m = absurd m
      of_use (Some u) e m = subst (λ (o : Option Use). Member n (hop_imports (place_of i) o)) (sym (use_less (use_of i) u e)) m

      of_network : (o : Option LowValue) → object less.feed (key.Instance i.0) ≡ o → Member n (network_imports o) → Member n (network_imports (object h.feed (key.Instance i.0)))
      of_network None e m = absurd m
      of_network (Some v) e m = subst (λ (o : Option LowValue). Member n (network_imports o)) (sym (object_less (key.Instance i.0) v e)) m

  known_less : (i : InstanceId) → is_known less.feed i ≡ true → is_known h.feed i ≡ true
  known_less i e =
      elim (is_hop i) as (λ t. cond t (is_place (place_of i) (held_use less.feed i)) (is_some (object less.feed (key.Instance i.0))) ≡ true
      → cond t (is_place (place_of i) (held_use h.feed i)) (is_some (object h.feed (key.Instance i.0))) ≡ true) [
        | true ↦ of_use (held_use less.feed i) refl
        | false ↦ of_network (object less.feed (key.Instance i.0)) refl
      ] e
    where
      of_use : (o : Option Use) → held_use less.feed i ≡ o → is_place (place_of i) o ≡ true → is_place (place_of i) (held_use h.feed i) ≡ true
      of_use None is e = absurd (not_true e)
        where
          not_true : false ≡ true → ⊥
          not_true e = cc
      of_use (Some u) is e = ap (is_place (place_of i)) (use_less (use_of i) u is) ∙ e

      of_network : (o : Option LowValue) → object less.feed (key.Instance i.0) ≡ o → is_some o ≡ true → is_some (object h.feed (key.Instance i.0)) ≡ true
      of_network None is e = absurd (not_true e)
        where
          not_true : false ≡ true → ⊥
          not_true e = cc
      of_network (Some v) is e = ap is_some (object_less (key.Instance i.0) v is)

  seen_less : (n : ℕ) (b : Bool) (s : Side) → side_at less.feed n b ≡ Some s → side_at h.feed n b ≡ Some s
  seen_less n b s e = of_use (use_from n (object less.feed (key.ChainUse n))) refl e
    where
      of_use : (o : Option Use) → use_from n (object less.feed (key.ChainUse n)) ≡ o → option_map (seen_from b) o ≡ Some s → side_at h.feed n b ≡ Some s
      of_use None is e = absurd (none_some s e)
      of_use (Some u) is e = ap (option_map (seen_from b)) (use_less n u is) ∙ e

  held_less : (s : Side) → Member s (sides less.feed) → Member s (sides h.feed)
  held_less s m =
      let u = use_held less.feed s.chain (side_use less.feed s m) in
      in_sides h.feed s.chain s.is_right (use_found h.feed s.chain.number s.chain (use_less s.chain.number s.chain u)).0

  own_less : (p : Path) → Member p (own_paths less) → Member p (own_paths h)
  own_less p m =
      let r = own_route_from less p m in
      own_route_in h p (record {
        agent = r.agent;
        instance = r.instance;
        told = r.told;
        publishes = r.publishes;
        known = known_less r.instance r.known;
        rd = r.rd;
        next_hop = r.next_hop;
        targets = r.targets;
        session = r.session;
      })

  pub object_dropped : IsLess less h
  object_dropped = record {
    asn = refl;
    imported = imports_less;
    own = own_less;
    peers = λ p m. m;
    seen = seen_less;
    held = held_less;
    published = λ c e. e;
  }
