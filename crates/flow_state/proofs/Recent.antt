-- The table of flows as the flows that were used last.
use Rattle.std.proofs.Common.{◌≡◌, ℕ, zero, suc, ◌<◌, ◌≤◌, ◌-◌, ◌&&◌, ◌==◌, Bool, true, false, not, cond, List, [], ◌∷◌, length, take, Option, Some, None, refl, sym, ap, ◌∙◌, subst, arith}
use Rattle.std.specs.List.{AllByRecursion, IsDistinct}
use Rattle.std.specs.Option.{option_map_or}
use Rattle.std.specs.Map.{keys_of, lookup_entry, remove_entry}
use Rattle.std.proofs.lemmas.Bool.{and_parts}
use Rattle.std.proofs.lemmas.Bool.Decides.{nat_tests}
use Rattle.lru.specs.LruCache.{LruCache, put_entries}
use Rattle.flow_state.specs.declared.flow.Flow.{Flow}
use Rattle.flow_state.specs.Recent.{same_flow, without, each_once, recent}

abbrev flow_by : ℕ → ℕ → ℕ → ℕ → ℕ → Flow
flow_by a b x y z = record { source = record { 0 = a }; target = record { 0 = b }; tuple = record { proto = x; sport = y; dport = z } }

equal : (m n : ℕ) → (m == n) ≡ true → m ≡ n
equal m n h = grind (arith, nat_tests)

pub same_flow_is : (f g : Flow) → same_flow f g ≡ true → f ≡ g
same_flow_is f g h =
    let d = and_parts ((f.source.0 == g.source.0) && (f.target.0 == g.target.0) && (f.tuple.proto == g.tuple.proto) && (f.tuple.sport == g.tuple.sport)) (f.tuple.dport == g.tuple.dport) h in
    let e = and_parts ((f.source.0 == g.source.0) && (f.target.0 == g.target.0) && (f.tuple.proto == g.tuple.proto)) (f.tuple.sport == g.tuple.sport) d.0 in
    let p = and_parts ((f.source.0 == g.source.0) && (f.target.0 == g.target.0)) (f.tuple.proto == g.tuple.proto) e.0 in
    let q = and_parts (f.source.0 == g.source.0) (f.target.0 == g.target.0) p.0 in
    ap (λ n. flow_by n f.target.0 f.tuple.proto f.tuple.sport f.tuple.dport) (equal f.source.0 g.source.0 q.0)
    ∙ ap (λ n. flow_by g.source.0 n f.tuple.proto f.tuple.sport f.tuple.dport) (equal f.target.0 g.target.0 q.1)
    ∙ ap (λ n. flow_by g.source.0 g.target.0 n f.tuple.sport f.tuple.dport) (equal f.tuple.proto g.tuple.proto p.1)
    ∙ ap (λ n. flow_by g.source.0 g.target.0 g.tuple.proto n f.tuple.dport) (equal f.tuple.sport g.tuple.sport e.1)
    ∙ ap (λ n. flow_by g.source.0 g.target.0 g.tuple.proto g.tuple.sport n) (equal f.tuple.dport g.tuple.dport d.1)

abbrev pub Misses : Flow → List Flow → Type 0
Misses k ks = AllByRecursion (λ y. same_flow k y ≡ false) ks

pub without_missing : (k : Flow) (ks : List Flow) → Misses k ks → without k ks ≡ ks
without_missing k [] h = refl
without_missing k (x ∷ xs) h =
    ap (λ (b : Bool). cond (not b) (x ∷ without k xs) (without k xs)) h.0 ∙ ap (λ l. x ∷ l) (without_missing k xs h.1)

pub distinct_once : (ks : List Flow) → IsDistinct same_flow ks → each_once ks ≡ ks
unfolding each_once IsDistinct
distinct_once [] h = refl
distinct_once (x ∷ xs) h = ap (λ l. x ∷ without x l) (distinct_once xs h.1) ∙ ap (λ l. x ∷ l) (without_missing x xs h.0)

pub none_misses : {V : Type 0} (k : Flow) (es : List (Flow × V)) → lookup_entry (same_flow k) es ≡ None → Misses k (keys_of es)
none_misses k [] h = tt
none_misses {V} k (e ∷ es) h = (elim (same_flow k e.0) as (λ b. same_flow k e.0 ≡ b → Misses k (keys_of (e ∷ es))) [
  | true ↦ λ t. let never : Some e ≡ None = rw t at h in cc
  | false ↦ λ t. (t, none_misses k es (rw t at h))
]) refl

abbrev Removed : {V : Type 0} → Flow → List (Flow × V) → Flow × V → Type 0
Removed k es e = (keys_of (remove_entry (same_flow k) es) ≡ without k (keys_of es)) × (e.0 ≡ k) × (suc (length (without k (keys_of es))) ≡ length (keys_of es))

pub removed : {V : Type 0} (k : Flow) (es : List (Flow × V)) (e : Flow × V) → IsDistinct same_flow (keys_of es) → lookup_entry (same_flow k) es ≡ Some e → Removed k es e
unfolding IsDistinct
removed k [] e d h = cc
removed {V} k (x ∷ es) e d h = (elim (same_flow k x.0) as (λ b. same_flow k x.0 ≡ b → Removed k (x ∷ es) e) [
  | true ↦ λ t.
      let here : Some x ≡ Some e = rw t at h in
      let is : k ≡ x.0 = same_flow_is k x.0 t in
      let misses : Misses k (keys_of es) = subst (λ (f : Flow). Misses f (keys_of es)) (sym is) d.0 in
      let none : without k (keys_of es) ≡ keys_of es = without_missing k (keys_of es) misses in
      let gone : without k (keys_of (x ∷ es)) ≡ keys_of es = ap (λ (b : Bool). cond (not b) (x.0 ∷ without k (keys_of es)) (without k (keys_of es))) t ∙ none in
      let kept : keys_of (remove_entry (same_flow k) (x ∷ es)) ≡ keys_of es = ap (λ (b : Bool). keys_of (cond b es (x ∷ remove_entry (same_flow k) es))) t in
      let same : x ≡ e = cc in
      (kept ∙ sym gone, sym (is ∙ ap (λ (y : Flow × V). y.0) same), ap (λ (l : List Flow). suc (length l)) gone)
  | false ↦ λ t.
      let on = removed k es e d.1 (rw t at h) in
      let kept : keys_of (remove_entry (same_flow k) (x ∷ es)) ≡ x.0 ∷ keys_of (remove_entry (same_flow k) es) = ap (λ (b : Bool). keys_of (cond b es (x ∷ remove_entry (same_flow k) es))) t in
      let stays : without k (keys_of (x ∷ es)) ≡ x.0 ∷ without k (keys_of es) = ap (λ (b : Bool). cond (not b) (x.0 ∷ without k (keys_of es)) (without k (keys_of es))) t in
      (kept ∙ ap (λ l. x.0 ∷ l) on.0 ∙ sym stays, on.1, ap (λ (l : List Flow). suc (length l)) stays ∙ ap suc on.2)
]) refl

pub take_whole : {A : Type 0} (n : ℕ) (xs : List A) → length xs ≤ n → take n xs ≡ xs
take_whole zero [] h = refl
take_whole (suc n) [] h = refl
take_whole zero (x ∷ xs) h = absurd (omega arith)
take_whole (suc n) (x ∷ xs) h = ap (λ l. x ∷ l) (take_whole n xs (omega arith))

keys_take : {V : Type 0} (n : ℕ) (es : List (Flow × V)) → keys_of (take n es) ≡ take n (keys_of es)
keys_take zero es = refl
keys_take (suc n) [] = refl
keys_take (suc n) (e ∷ es) = ap (λ l. e.0 ∷ l) (keys_take n es)

length_keys : {V : Type 0} (es : List (Flow × V)) → length (keys_of es) ≡ length es
length_keys [] = refl
length_keys (e ∷ es) = let h = length_keys es in omega arith

take_more : {A : Type 0} (n : ℕ) (x : A) (xs : List A) → 0 < n → take n (x ∷ xs) ≡ x ∷ take (n - 1) xs
take_more zero x xs h = absurd (omega arith)
take_more (suc n) x xs h = let less : suc n - 1 ≡ n = omega arith in ap (λ m. x ∷ take m xs) (sym less)

module _ {V : Type 0} (c : LruCache Flow V) (k : Flow) (v : V) (d : IsDistinct same_flow (keys_of c.entries)) (fits : length c.entries ≤ c.cap) (some : 0 < c.cap) where
  wanted : recent c.cap (k ∷ keys_of c.entries) ≡ k ∷ take (c.cap - 1) (without k (keys_of c.entries))
  unfolding each_once
  wanted = take_more c.cap k (without k (each_once (keys_of c.entries))) some ∙ ap (λ l. k ∷ take (c.cap - 1) (without k l)) (distinct_once (keys_of c.entries) d)

  abbrev after : Option (Flow × V) → List (Flow × V)
  after o = option_map_or (λ e. (e.0, v) ∷ remove_entry (same_flow k) c.entries) o ((k, v) ∷ take (c.cap - 1) c.entries)

  put_cases : (o : Option (Flow × V)) → lookup_entry (same_flow k) c.entries ≡ o → keys_of (after o) ≡ k ∷ take (c.cap - 1) (without k (keys_of c.entries))
  put_cases None h =
      ap (λ l. k ∷ l) (keys_take (c.cap - 1) c.entries)
      ∙ ap (λ l. k ∷ take (c.cap - 1) l) (sym (without_missing k (keys_of c.entries) (none_misses k c.entries h)))
  put_cases (Some e) h =
      let r = removed k c.entries e d h in
      let len : length (keys_of c.entries) ≡ length c.entries = length_keys c.entries in
      let short : length (without k (keys_of c.entries)) ≤ c.cap - 1 = let counted = r.2 in omega arith in
      ap (λ f. f ∷ keys_of (remove_entry (same_flow k) c.entries)) r.1
      ∙ ap (λ l. k ∷ l) r.0
      ∙ ap (λ l. k ∷ l) (sym (take_whole (c.cap - 1) (without k (keys_of c.entries)) short))

  -- what the cache keeps after a put is the flows that were used last
  pub put_is_recent : keys_of (put_entries same_flow c k v) ≡ recent c.cap (k ∷ keys_of c.entries)
  put_is_recent = put_cases (lookup_entry (same_flow k) c.entries) refl ∙ sym wanted
