-- The tables of instances, and entries put among others.
use Rattle.std.proofs.Common.{◌≡◌, ◌==◌, ℕ, ◌<◌, ◌≤◌, ◌++◌, true, false, cond, not, List, [], ◌∷◌, Option, None, option_map, length, drop, get_or, refl, sym, ap, ◌∙◌, subst, append-nil, drop-cons, arith}
use Rattle.std.specs.List.{All, filter_map, cons_option}
use Rattle.std.specs.Prelude.{OnOk, OnErr}
use Rattle.std.specs.declared.result.Result.{Result}
use Rattle.std.specs.declared.result.Result.TheVariants.{Ok, Err}
use Rattle.std.specs.BTreeMap.{insert_entry}
use Rattle.std.specs.Ordering.{match_ordering}
use Rattle.std.specs.declared.cmp.Ordering.{Ordering}
use Rattle.std.specs.declared.cmp.Ordering.TheVariants.{Less, Equal, Greater}
use Rattle.std.proofs.lemmas.Bool.{eqb-true}
use Rattle.std.proofs.lemmas.List.Elements.{filter_map-append}
use Rattle.std.proofs.Math.ListN.{drop_of_length-le}
use Rattle.ov_types.specs.Prefix.{Block}
use Rattle.ov_types.specs.Routing.{longest}
use Rattle.ov_types.specs.declared.numbers.InstanceId.{InstanceId}
use Rattle.ov_types.specs.declared.rows.Entry.{Entry}
use Rattle.ov_types.proofs.FirstLemmas.{all_cons, all_head, all_tail}
use Rattle.route_targets.specs.Forwarding.{route_in}
use Rattle.packet_trace.specs.Tables.{others, rows_in, rows_of, table_of}

pub all_inserted : {K V : Type 0} (P : V → Type 0) (R : K → K → Ordering) (k : K) (v : V) (es : List (K × V)) → All (λ e. P e.1) es → P v → All (λ e. P e.1) (insert_entry R es k v)
all_inserted P R k v [] all here = all_cons (λ e. P e.1) (k, v) [] here (λ n d lt. absurd (omega arith))
all_inserted {K} {V} P R k v (e ∷ es) all here =
    let Q : K × V → Type 0 = λ d. P d.1 in
    let first : P e.1 = all_head Q e es all in
    let rest : All Q es = all_tail Q e es all in
    elim (R k e.0) as (λ o. All Q (match_ordering o ((k, v) ∷ e ∷ es) ((e.0, v) ∷ es) (e ∷ insert_entry R es k v))) [
      | Less ↦ all_cons Q (k, v) (e ∷ es) here all
      | Equal ↦ all_cons Q (e.0, v) es here rest
      | Greater ↦ all_cons Q e (insert_entry R es k v) first (all_inserted P R k v es rest here)
    ]

pub all_kept : {K V E T : Type 0} (P : V → Type 0) (R : K → K → Ordering) (k : K) (v : V) (es later : List (K × V)) (r : Result T E)
    → OnOk r (later ≡ insert_entry R es k v) → OnErr r (later ≡ es) → All (λ e. P e.1) es → P v → All (λ e. P e.1) later
all_kept {K} {V} P R k v es later (Ok u) ok err all here =
    let Q : List (K × V) → Type 0 = λ l. All (λ (e : K × V). P e.1) l in subst Q (sym ok) (all_inserted P R k v es all here)
all_kept {K} {V} P R k v es later (Err e) ok err all here =
    let Q : List (K × V) → Type 0 = λ l. All (λ (e : K × V). P e.1) l in subst Q (sym err) all

module _ (n i : InstanceId) where
  in_same : (n.0 == i.0) ≡ true → (routes : List (Block × Entry)) → filter_map (route_in i) (rows_in n routes) ≡ routes
  in_same e [] = refl
  in_same e (r ∷ rs) = rw e (ap (λ (l : List (Block × Entry)). r ∷ l) (in_same e rs))

  in_other : (n.0 == i.0) ≡ false → (routes : List (Block × Entry)) → filter_map (route_in i) (rows_in n routes) ≡ []
  in_other e [] = refl
  in_other e (r ∷ rs) = rw e (in_other e rs)

  kept_same : (n.0 == i.0) ≡ true → (rows : List ((InstanceId × Block) × Entry)) → filter_map (route_in i) (others n rows) ≡ []
  kept_same e [] = refl
  kept_same e (r ∷ rs) =
      elim (r.0.0.0 == n.0) as (λ b. (r.0.0.0 == n.0) ≡ b → filter_map (route_in i) (cond (not b) (r ∷ others n rs) (others n rs)) ≡ []) [
        | true ↦ λ q. kept_same e rs
        | false ↦ λ q.
            let same : n.0 ≡ i.0 = eqb-true _ _ e in
            let apart : (r.0.0.0 == i.0) ≡ false = ap (λ (m : ℕ). r.0.0.0 == m) (sym same) ∙ q in
            rw apart (kept_same e rs)
      ] refl

  kept_other : (n.0 == i.0) ≡ false → (rows : List ((InstanceId × Block) × Entry)) → filter_map (route_in i) (others n rows) ≡ filter_map (route_in i) rows
  kept_other e [] = refl
  kept_other e (r ∷ rs) =
      elim (r.0.0.0 == n.0) as (λ b. (r.0.0.0 == n.0) ≡ b → filter_map (route_in i) (cond (not b) (r ∷ others n rs) (others n rs)) ≡ filter_map (route_in i) (r ∷ rs)) [
        | true ↦ λ q.
            let same : r.0.0.0 ≡ n.0 = eqb-true _ _ q in
            let apart : (r.0.0.0 == i.0) ≡ false = ap (λ (m : ℕ). m == i.0) same ∙ e in
            rw apart (kept_other e rs)
        | false ↦ λ q. ap (cons_option (route_in i r)) (kept_other e rs)
      ] refl

pub routes_of : (i : InstanceId) (ts : List (InstanceId × List (Block × Entry))) → filter_map (route_in i) (rows_of ts) ≡ table_of ts i
routes_of i [] = refl
routes_of i (t ∷ ts) =
    filter_map-append (route_in i) (rows_in t.0 t.1) (others t.0 (rows_of ts))
    ∙ elim (t.0.0 == i.0) as (λ b. (t.0.0 == i.0) ≡ b → filter_map (route_in i) (rows_in t.0 t.1) ++ filter_map (route_in i) (others t.0 (rows_of ts)) ≡ cond b t.1 (table_of ts i)) [
      | true ↦ λ e. rw (in_same t.0 i e t.1, kept_same t.0 i e (rows_of ts)) (append-nil t.1)
      | false ↦ λ e. rw (in_other t.0 i e t.1, kept_other t.0 i e (rows_of ts)) (routes_of i ts)
    ] refl

-- where the routes of an instance lead, by its table
pub by_table : (a : ℕ) (i : InstanceId) (ts : List (InstanceId × List (Block × Entry))) → option_map (λ r. r.1) (longest a (filter_map (route_in i) (rows_of ts))) ≡ option_map (λ r. r.1) (longest a (table_of ts i))
by_table a i ts = ap (λ (l : List (Block × Entry)). option_map (λ (r : Block × Entry). r.1) (longest a l)) (routes_of i ts)

pub here_is : (i : InstanceId) (ts : List (InstanceId × List (Block × Entry))) (k : ℕ) (t : InstanceId × List (Block × Entry)) → k < length ts → t ≡ get_or ts k t → (t.0.0 == i.0) ≡ true → table_of (drop k ts) i ≡ t.1
here_is i ts k t lt at e = rw (drop-cons ts k t lt, sym at, e) refl

-- a walk over the tables

module _ (a : ℕ) (i : InstanceId) (ts items : List (InstanceId × List (Block × Entry))) (k : ℕ) (same : items ≡ ts) (so_far : table_of ts i ≡ table_of (drop k ts) i) where
  abbrev led_by : List (Block × Entry) → Option Entry
  led_by l = option_map (λ (r : Block × Entry). r.1) (longest a l)

  pub found_in_table : (t : InstanceId × List (Block × Entry)) (o : Option Entry) → k < length items → t ≡ get_or items k t → (t.0.0 == i.0) ≡ true
      → o ≡ option_map (λ r. r.1) (longest a t.1) → o ≡ option_map (λ r. r.1) (longest a (filter_map (route_in i) (rows_of ts)))
  found_in_table t o lt at e h =
      let lt' : k < length ts = subst (λ (l : List (InstanceId × List (Block × Entry))). k < length l) same lt in
      let at' : t ≡ get_or ts k t = subst (λ (l : List (InstanceId × List (Block × Entry))). t ≡ get_or l k t) same at in
      h ∙ sym (ap led_by (so_far ∙ here_is i ts k t lt' at' e)) ∙ sym (by_table a i ts)

  pub in_no_table : length items ≤ k → None ≡ option_map (λ r. r.1) (longest a (filter_map (route_in i) (rows_of ts)))
  in_no_table past =
      let past' : length ts ≤ k = subst (λ (l : List (InstanceId × List (Block × Entry))). length l ≤ k) same past in
      let none : drop k ts ≡ [] = drop_of_length-le ts past' in
      sym (ap led_by (so_far ∙ ap (λ (l : List (InstanceId × List (Block × Entry))). table_of l i) none)) ∙ sym (by_table a i ts)
