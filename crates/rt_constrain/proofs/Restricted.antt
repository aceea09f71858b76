-- The entries and the paths of restricted maps.
use Rattle.std.specs.Prelude.{◌≡◌, ℕ, ◌+◌, List, [], ◌∷◌, ◌++◌, map, Bool, true, false, cond, T}
use Rattle.std.specs.declared.cmp.Ordering.{Ordering}
use Rattle.std.specs.declared.cmp.Ordering.TheVariants.{Less, Equal, Greater}
use Rattle.std.specs.List.{filter, filter_map, cons_option, flat_map, enumerate_from}
use Rattle.std.specs.Ordering.{is_lt}
use Rattle.std.specs.Cmp.{IsTotalOrder}
use Rattle.std.specs.FinMap.{entries, from_entries, put, is_sorted, entries_sorted, entries-insert}
use Rattle.std.specs.FinMap.Entries.{below_all, by_order}
use Rattle.std.proofs.Common.{refl, sym, ◌∙◌, ap}
use Rattle.ov_types.specs.declared.vpn.VpnRoute.{VpnRoute}
use Rattle.ov_sync.proofs.Ascending.{entries-empty}
use Rattle.node_model.specs.Keys.{Key, key_cmp, Low, Vpn, Row, Publish, Subscribe}
use Rattle.node_model.specs.Values.{Value, Object, Route, Entry, Label}
use Rattle.node_model.specs.Maps.{Map}
use Rattle.node_model.specs.Paths.{Path, peer_path}
use Rattle.node_model.proofs.Members.{first_of_and, second_of_and, both_of_and}
use Rattle.node_model.proofs.Orders.{key_total}
use Rattle.rt_constrain.specs.Cut.{passes, restricted}

-- ---- a list in order is that of its map
is_less : {A : Type 0} (r : Ordering) (a b c : A) → T (is_lt r) → by_order r a b c ≡ a
is_less Less a b c h = refl
is_less Equal a b c h = absurd h
is_less Greater a b c h = absurd h

module _ {K V : Type 0} (R : K → K → Ordering) where
  put_first : (e : K × V) (es : List (K × V)) → T (below_all R e.0 es) → put R e.0 e.1 es ≡ e ∷ es
  put_first e [] h = refl
  put_first e (f ∷ es) h = is_less (R e.0 f.0) (e ∷ f ∷ es) ((f.0, e.1) ∷ es) (f ∷ put R e.0 e.1 es) (first_of_and (is_lt (R e.0 f.0)) (below_all R e.0 es) h)

  pub entries_again : IsTotalOrder R → (es : List (K × V)) → T (is_sorted R es) → entries (from_entries {R = R} es) ≡ es
  entries_again o [] h = entries-empty R
  entries_again o (e ∷ es) h =
      entries-insert o (from_entries es) e.0 e.1
      ∙ ap (put R e.0 e.1) (entries_again o es (second_of_and (below_all R e.0 es) (is_sorted R es) h))
      ∙ put_first e es (first_of_and (below_all R e.0 es) (is_sorted R es) h)

  -- what passes a test stays in order
  below_filter : (p : K × V → Bool) (x : K) (es : List (K × V)) → T (below_all R x es) → T (below_all R x (filter p es))
  below_filter p x [] h = h
  below_filter p x (e ∷ es) h =
      let rest = below_filter p x es (second_of_and (is_lt (R x e.0)) (below_all R x es) h) in
      elim (p e) as (λ b. T (below_all R x (cond b (e ∷ filter p es) (filter p es)))) [
        | true ↦ both_of_and (is_lt (R x e.0)) (below_all R x (filter p es)) (first_of_and (is_lt (R x e.0)) (below_all R x es) h) rest
        | false ↦ rest
      ]

  pub sorted_filter : (p : K × V → Bool) (es : List (K × V)) → T (is_sorted R es) → T (is_sorted R (filter p es))
  sorted_filter p [] h = h
  sorted_filter p (e ∷ es) h =
      let rest = sorted_filter p es (second_of_and (below_all R e.0 es) (is_sorted R es) h) in
      elim (p e) as (λ b. T (is_sorted R (cond b (e ∷ filter p es) (filter p es)))) [
        | true ↦ both_of_and (below_all R e.0 (filter p es)) (is_sorted R (filter p es)) (below_filter p e.0 es (first_of_and (below_all R e.0 es) (is_sorted R es) h)) rest
        | false ↦ rest
      ]

pub filter_append : {X : Type 0} (p : X → Bool) (xs ys : List X) → filter p (xs ++ ys) ≡ filter p xs ++ filter p ys
filter_append p [] ys = refl
filter_append p (x ∷ xs) ys =
    elim (p x) as (λ b. cond b (x ∷ filter p (xs ++ ys)) (filter p (xs ++ ys)) ≡ cond b (x ∷ filter p xs) (filter p xs) ++ filter p ys) [
      | true ↦ ap (λ zs. x ∷ zs) (filter_append p xs ys)
      | false ↦ filter_append p xs ys
    ]

-- ---- the paths of peers
module _ (test : VpnRoute → Bool) where
  pub restricted_entries : (m : Map) → entries (restricted test m) ≡ filter (λ e. passes test e.1) (entries m)
  restricted_entries m = entries_again key_cmp key_total (filter (λ e. passes test e.1) (entries m)) (sorted_filter key_cmp (λ (e : Key × Value). passes test e.1) (entries m) (entries_sorted m))

  abbrev pub passes_path : Path → Bool
  passes_path p = test (record { next_hop = p.next_hop; label = p.label; targets = p.targets })

  abbrev Passed : ℕ → Key → Value → Type 0
  Passed n k v = (ps : List Path)
      → cond (passes test v) (cons_option (peer_path n k v) (filter passes_path ps)) (filter passes_path ps) ≡ filter passes_path (cons_option (peer_path n k v) ps)

  -- an entry that gives no path changes nothing
  either : {X : Type 0} (b : Bool) (x : X) → cond b x x ≡ x
  either true x = refl
  either false x = refl

  passed : (n : ℕ) (k : Key) (v : Value) → Passed n k v
  passed n (Vpn k) (Route r) ps = refl
  passed n (Vpn k) (Object v) ps = refl
  passed n (Vpn k) (Entry v) ps = refl
  passed n (Vpn k) (Label v) ps = refl
  passed n (Low k) v ps = either (passes test v) (filter passes_path ps)
  passed n (Row i prefix) v ps = either (passes test v) (filter passes_path ps)
  passed n (Publish i prefix) v ps = either (passes test v) (filter passes_path ps)
  passed n (Subscribe i) v ps = either (passes test v) (filter passes_path ps)

  of_entries : (n : ℕ) (es : List (Key × Value)) → filter_map (λ e. peer_path n e.0 e.1) (filter (λ e. passes test e.1) es) ≡ filter passes_path (filter_map (λ e. peer_path n e.0 e.1) es)
  of_entries n [] = refl
  of_entries n (e ∷ es) =
      let kept = filter (λ (e : Key × Value). passes test e.1) es in
      elim (passes test e.1) as (λ b. filter_map (λ e. peer_path n e.0 e.1) (cond b (e ∷ kept) kept)
      ≡ cond b (cons_option (peer_path n e.0 e.1) (filter_map (λ e. peer_path n e.0 e.1) kept)) (filter_map (λ e. peer_path n e.0 e.1) kept)) [ true ↦ refl | false ↦ refl ]
      ∙ (λ j. cond (passes test e.1) (cons_option (peer_path n e.0 e.1) (of_entries n es j)) (of_entries n es j))
      ∙ passed n e.0 e.1 (filter_map (λ e. peer_path n e.0 e.1) es)

  pub of_peers : (n : ℕ) (ms : List Map)
      → flat_map (λ p. filter_map (λ e. peer_path p.0 e.0 e.1) (entries p.1)) (enumerate_from n (map (restricted test) ms))
      ≡ filter passes_path (flat_map (λ p. filter_map (λ e. peer_path p.0 e.0 e.1) (entries p.1)) (enumerate_from n ms))
  of_peers n [] = refl
  of_peers n (m ∷ ms) =
      (λ j. (ap (filter_map (λ e. peer_path n e.0 e.1)) (restricted_entries m) ∙ of_entries n (entries m)) j ++ of_peers (n + 1) ms j)
      ∙ sym (filter_append passes_path (filter_map (λ e. peer_path n e.0 e.1) (entries m)) (flat_map (λ p. filter_map (λ e. peer_path p.0 e.0 e.1) (entries p.1)) (enumerate_from (n + 1) ms)))
