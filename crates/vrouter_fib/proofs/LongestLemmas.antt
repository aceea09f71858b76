-- The longest of the prefixes that contain an address.
use Rattle.std.proofs.Common.{◌≡◌, ◌≢◌, ℕ, zero, suc, ◌+◌, ◌-◌, ◌*◌, ◌/◌, ◌%◌, ◌<◌, ◌≤◌, true, false, cond, leb, ltb, IsTrue, List, [], ◌∷◌, Option, Some, None, length, get_or, refl, sym, ap, ◌∙◌, subst, arith}
use Rattle.std.specs.List.{All, AllPairs, Contains}
use Rattle.std.proofs.lemmas.Bool.{leb-true, leb-false, ltb-true, ltb-false, true≢false, eqb-true, and_parts}
use Rattle.std.proofs.lemmas.Nat.{pow_pos}
use Rattle.std.proofs.Math.Nat.{lt_of_mul-lt-mul_left}
use Rattle.ov_types.specs.Prefix.{Block, contains, is_prefix, size_of}
use Rattle.ov_types.specs.Routing.{longer, longest}
use Rattle.ov_types.proofs.Blocks.{ranges}
use Rattle.ov_types.proofs.FirstLemmas.{all_cons, all_head, all_tail, contains_here, contains_later}
use Rattle.vrouter_fib.specs.Longest.{IsLongest, IsTable}

module _ {A : Type 0} (a : ℕ) where
  abbrev Silent : Block × A → Type 0
  Silent r = contains r.0 a ≡ false

  abbrev AtMost : ℕ → Block × A → Type 0
  AtMost n r = IsTrue (contains r.0 a) → r.0.len ≤ n

  some_longer : (r : Block × A) (o : Option (Block × A)) → longer r o ≡ None → ⊥
  some_longer r None h = cc
  some_longer r (Some s) h = elim (leb s.0.len r.0.len) as (λ b. cond b (Some r) (Some s) ≡ None → ⊥) [ true ↦ λ e. cc | false ↦ λ e. cc ] h

  pub none_contains : (rs : List (Block × A)) → longest a rs ≡ None → All Silent rs
  none_contains [] h = λ k d lt. absurd (omega arith)
  none_contains (r ∷ rs) h =
      elim (contains r.0 a) as (λ b. contains r.0 a ≡ b → cond b (longer r (longest a rs)) (longest a rs) ≡ None → All Silent (r ∷ rs)) [
        | true ↦ λ e none. absurd (some_longer r (longest a rs) none)
        | false ↦ λ e none. all_cons Silent r rs e (none_contains rs none)
      ] refl h

  pub silent_none : (rs : List (Block × A)) → All Silent rs → longest a rs ≡ None
  silent_none [] h = refl
  silent_none (r ∷ rs) h =
      let here : contains r.0 a ≡ false = all_head Silent r rs h in
      rw here (silent_none rs (all_tail Silent r rs h))

  at_most_silent : (n : ℕ) (rs : List (Block × A)) → All Silent rs → All (AtMost n) rs
  at_most_silent n rs h = λ k d lt inside. absurd (true≢false (sym inside ∙ h k d lt))

  at_most_more : (m n : ℕ) (rs : List (Block × A)) → m ≤ n → All (AtMost m) rs → All (AtMost n) rs
  at_most_more m n rs le h = λ k d lt inside. let x : (get_or rs k d).0.len ≤ m = h k d lt inside in omega (arith, x)

  of_two : (r : Block × A) (rs : List (Block × A)) (s : Block × A) (route : Block × A) → IsTrue (contains r.0 a) → IsLongest rs a s
      → longer r (Some s) ≡ Some route → IsLongest (r ∷ rs) a route
  of_two r rs s route inside l h =
      elim (leb s.0.len r.0.len) as (λ b. leb s.0.len r.0.len ≡ b → cond b (Some r) (Some s) ≡ Some route → IsLongest (r ∷ rs) a route) [
        | true ↦ λ e is. let same : r ≡ route = cc in subst (λ (x : Block × A). IsLongest (r ∷ rs) a x) same (record {
          listed = contains_here r rs;
          containing = inside;
          longest = all_cons (AtMost r.0.len) r rs (λ w. omega arith) (at_most_more s.0.len r.0.len rs (leb-true _ _ e) l.longest);
        })
        | false ↦ λ e is. let same : s ≡ route = cc in let lt : r.0.len < s.0.len = leb-false _ _ e in subst (λ (x : Block × A). IsLongest (r ∷ rs) a x) same (record {
          listed = contains_later s r rs l.listed;
          containing = l.containing;
          longest = all_cons (AtMost s.0.len) r rs (λ w. omega arith) l.longest;
        })
      ] refl h

  pub longest_is : (rs : List (Block × A)) (route : Block × A) → longest a rs ≡ Some route → IsLongest rs a route
  longest_is [] route h = cc
  longest_is (r ∷ rs) route h =
      elim (contains r.0 a) as (λ b. contains r.0 a ≡ b → cond b (longer r (longest a rs)) (longest a rs) ≡ Some route → IsLongest (r ∷ rs) a route) [
        | true ↦ λ inside is. elim (longest a rs) as (λ o. longest a rs ≡ o → longer r o ≡ Some route → IsLongest (r ∷ rs) a route) [
          | None ↦ λ none here. let same : r ≡ route = cc in subst (λ (x : Block × A). IsLongest (r ∷ rs) a x) same (record {
            listed = contains_here r rs;
            containing = inside;
            longest = all_cons (AtMost r.0.len) r rs (λ w. omega arith) (at_most_silent r.0.len rs (none_contains rs none));
          })
          | Some s ↦ λ some here. of_two r rs s route inside (longest_is rs s some) here
        ] refl is
        | false ↦ λ apart is.
            let l : IsLongest rs a route = longest_is rs route is in
            record {
              listed = contains_later route r rs l.listed;
              containing = l.containing;
              longest = all_cons (AtMost route.0.len) r rs (λ inside. absurd (true≢false (sym inside ∙ apart))) l.longest;
            }
      ] refl h

-- prefixes of one length that contain an address are one

multiples : (s m n a : ℕ) → s * m ≤ a → a < s * n + s → m ≤ n
multiples s m n a lo hi =
    let lt : m < n + 1 = lt_of_mul-lt-mul_left s (omega arith) in
    omega arith

same_start : (s x y a : ℕ) → 0 < s → x % s ≡ 0 → y % s ≡ 0 → x ≤ a → a < x + s → y ≤ a → a < y + s → x ≡ y
same_start s x y a some rx ry lx hx ly hy =
    let ex : s * (x / s) + x % s ≡ x = omega arith in
    let ey : s * (y / s) + y % s ≡ y = omega arith in
    let one : x / s ≤ y / s = multiples s (x / s) (y / s) a (omega arith) (omega arith) in
    let two : y / s ≤ x / s = multiples s (y / s) (x / s) a (omega arith) (omega arith) in
    let same : x / s ≡ y / s = omega arith in
    sym ex ∙ ap (λ q. s * q + x % s) same ∙ ap (λ r. s * (y / s) + r) (rx ∙ sym ry) ∙ ey

aligned : (b : Block) → IsTrue (is_prefix b.addr b.len) → b.addr % size_of b.len ≡ 0
aligned b h = eqb-true _ _ ((and_parts _ _ h).1)

same_block : (p q : Block) → p.addr ≡ q.addr → p.len ≡ q.len → p ≡ q
same_block p q x y =
    let by_addr : ℕ → Block = λ n. record { addr = n; len = p.len } in
    let by_len : ℕ → Block = λ n. record { addr = q.addr; len = n } in
    ap by_addr x ∙ ap by_len y

pub one_prefix : (a : ℕ) (p q : Block) → IsTrue (is_prefix p.addr p.len) → IsTrue (is_prefix q.addr q.len) → p.len ≡ q.len → IsTrue (contains p a) → IsTrue (contains q a) → p ≡ q
one_prefix a p q hp hq e cp cq =
    let rp = ranges p a cp in
    let rq = ranges q a cq in
    let ap : p.addr % size_of p.len ≡ 0 = aligned p hp in
    let aq : q.addr % size_of q.len ≡ 0 = aligned q hq in
    let aq' : q.addr % size_of p.len ≡ 0 = subst (λ (n : ℕ). q.addr % size_of n ≡ 0) (sym e) aq in
    let hi : a < q.addr + size_of p.len = subst (λ (n : ℕ). a < q.addr + size_of n) (sym e) rq.hi in
    same_block p q (same_start (size_of p.len) p.addr q.addr a (pow_pos (32 - p.len)) ap aq' rp.lo rp.hi rq.lo hi) e

-- the one longest route of a table

at_any : {B : Type 0} (xs : List B) (k : ℕ) (d e : B) → k < length xs → get_or xs k d ≡ get_or xs k e
at_any [] k d e lt = absurd (omega arith)
at_any (x ∷ xs) zero d e lt = refl
at_any (x ∷ xs) (suc k) d e lt = at_any xs k d e (omega arith)

module _ {A : Type 0} (rs : List (Block × A)) where
  holding : (P : Block × A → Type 0) (r : Block × A) → All P rs → Contains rs r → P r
  holding P r all (k, lt, e) = subst P e (all k r lt)

  one_place : AllPairs (λ r s. r.0 ≢ s.0) rs → (r s : Block × A) → Contains rs r → Contains rs s → r.0 ≡ s.0 → r ≡ s
  one_place distinct r s (i, li, ei) (j, lj, ej) same =
      let there : get_or rs j r ≡ s = at_any rs j r s lj ∙ ej in
      let apart : (r.0 ≡ s.0) → i < j → ⊥ = λ q lt. distinct i j r lt lj (ap (λ (x : Block × A). x.0) ei ∙ q ∙ ap (λ (x : Block × A). x.0) (sym there)) in
      let apart' : (r.0 ≡ s.0) → j < i → ⊥ = λ q lt. distinct j i r lt li (ap (λ (x : Block × A). x.0) there ∙ sym q ∙ ap (λ (x : Block × A). x.0) (sym ei)) in
      elim (ltb i j) as (λ b. ltb i j ≡ b → r ≡ s) [
        | true ↦ λ e. absurd (apart same (ltb-true _ _ e))
        | false ↦ λ e. elim (ltb j i) as (λ b. ltb j i ≡ b → r ≡ s) [
          | true ↦ λ f. absurd (apart' same (ltb-true _ _ f))
          | false ↦ λ f.
              let below : j ≤ i = ltb-false _ _ e in
              let above : i ≤ j = ltb-false _ _ f in
              let place : i ≡ j = omega arith in
              sym ei ∙ ap (λ (k : ℕ). get_or rs k r) place ∙ there
        ] refl
      ] refl

  pub the_longest : (a : ℕ) (r : Block × A) → IsTable rs → IsLongest rs a r → longest a rs ≡ Some r
  the_longest a r table l =
      elim (longest a rs) as (λ o. longest a rs ≡ o → o ≡ Some r) [
        | None ↦ λ e. absurd (true≢false (sym l.containing ∙ holding (Silent a) r (none_contains a rs e) l.listed))
        | Some s ↦ λ e.
            let m : IsLongest rs a s = longest_is a rs s e in
            let low : s.0.len ≤ r.0.len = holding (AtMost a r.0.len) s l.longest m.listed m.containing in
            let high : r.0.len ≤ s.0.len = holding (AtMost a s.0.len) r m.longest l.listed l.containing in
            let P : Block × A → Type 0 = λ x. IsTrue (is_prefix x.0.addr x.0.len) in
            let same : s.0 ≡ r.0 = one_prefix a s.0 r.0 (holding P s table.prefixes m.listed) (holding P r table.prefixes l.listed) (omega arith) m.containing l.containing in
            let found : s ≡ r = one_place table.distinct s r m.listed l.listed same in
            ap Some found
      ] refl
