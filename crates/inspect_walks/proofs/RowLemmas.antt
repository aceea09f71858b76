-- The row of a key, and the row of the longest prefix.
use Rattle.std.proofs.Common.{◌≡◌, ◌<◌, ◌≤◌, ◌+◌, ℕ, true, false, cond, eqb, IsTrue, List, Some, None, option_map, filter_map, find, get_or, refl, sym, ap, ◌∙◌, subst, inl, inr, arith}
use Rattle.std.specs.Cmp.{IsTotalOrder, nat_cmp_is, on_total}
use Rattle.std.specs.FinMap.{nat_cmp-IsAntisymmetric}
use Rattle.std.specs.List.{All, AllPairs, Contains}
use Rattle.std.specs.Ordering.{is_eq, is_lt, nat_cmp, ordering_then}
use Rattle.std.specs.declared.cmp.Ordering.{Ordering}
use Rattle.std.specs.declared.cmp.Ordering.TheVariants.{Less, Equal, Greater}
use Rattle.std.proofs.lemmas.Bool.{and_parts, cases_lt, eq-eqb, eqb-true, ltb-true, true≢false}
use Rattle.std.proofs.lemmas.Cmp.{nat_cmp_total, then_total}
use Rattle.std.proofs.lemmas.List.Elements.{All-contains}
use Rattle.ov_types.specs.Keys.{row_key_cmp}
use Rattle.ov_types.specs.Prefix.{Block, block_cmp, contains, is_prefix}
use Rattle.ov_types.specs.Routing.{longest}
use Rattle.ov_types.specs.declared.numbers.InstanceId.{InstanceId}
use Rattle.ov_types.specs.declared.rows.Entry.{Entry}
use Rattle.ov_types.proofs.FirstLemmas.{find_none, found_is}
use Rattle.config_check.proofs.OneHome.{two_among}
use Rattle.route_targets.specs.Forwarding.{route_in}
use Rattle.transform_model.proofs.Lists.{given, gives}
use Rattle.transform_model.proofs.OneFound.{no_longest, none_contains}
use Rattle.vrouter_fib.proofs.LongestLemmas.{longest_is, one_prefix}
use Rattle.inspect_walks.specs.Taking.{has_key}

abbrev Key : Type 0
Key = InstanceId × Block

abbrev pub TableRow : Type 0
TableRow = Key × Entry

abbrev pub Below : TableRow → TableRow → Type 0
Below q r = row_key_cmp q.0 r.0 ≡ Less

-- ---- the order of keys

key_order : IsTotalOrder row_key_cmp
key_order =
    then_total (on_total (λ (k : Key). k.0.0) nat_cmp_total)
    (then_total (on_total (λ (k : Key). k.1.addr) nat_cmp_total) (on_total (λ (k : Key). k.1.len) nat_cmp_total))

both_equal : (o p : Ordering) → ordering_then o p ≡ Equal → (o ≡ Equal) × (p ≡ Equal)
both_equal Less p h = cc
both_equal Equal p h = (refl, h)
both_equal Greater p h = cc

same_block : (p q : Block) → p.addr ≡ q.addr → p.len ≡ q.len → p ≡ q
same_block p q e f = λ i. record { addr = e i; len = f i }

one_key : (a b : Key) → row_key_cmp a b ≡ Equal → a ≡ b
one_key a b h =
    let parts = both_equal (nat_cmp a.0.0 b.0.0) (block_cmp a.1 b.1) h in
    let block = both_equal (nat_cmp a.1.addr b.1.addr) (nat_cmp a.1.len b.1.len) parts.1 in
    let instance : a.0.0 ≡ b.0.0 = nat_cmp-IsAntisymmetric a.0.0 b.0.0 parts.0 in
    let prefix : a.1 ≡ b.1 = same_block a.1 b.1 (nat_cmp-IsAntisymmetric a.1.addr b.1.addr block.0) (nat_cmp-IsAntisymmetric a.1.len b.1.len block.1) in
    λ i. (record { 0 = instance i }, prefix i)

less : (o : Ordering) → is_lt o ≡ true → o ≡ Less
less Less h = refl
less Equal h = cc
less Greater h = cc

equal : (o : Ordering) → is_eq o ≡ true → o ≡ Equal
equal Less h = cc
equal Equal h = refl
equal Greater h = cc

less_not_equal : (o : Ordering) → is_lt o ≡ true → is_eq o ≡ false
less_not_equal Less h = refl
less_not_equal Equal h = cc
less_not_equal Greater h = cc

same_number : (n : ℕ) → nat_cmp n n ≡ Equal
same_number n = sym (nat_cmp_is n n Equal refl)

itself : (k : Key) → row_key_cmp k k ≡ Equal
itself k =
    ap (λ (o : Ordering). ordering_then o (block_cmp k.1 k.1)) (same_number k.0.0)
    ∙ ap (λ (o : Ordering). ordering_then o (nat_cmp k.1.len k.1.len)) (same_number k.1.addr)
    ∙ same_number k.1.len

pub key_falls : (key : Key) (q r : TableRow) → Below q r → is_lt (row_key_cmp r.0 key) ≡ true → is_lt (row_key_cmp q.0 key) ≡ true
key_falls key q r h e = ap is_lt (key_order.trans q.0 r.0 key h (less (row_key_cmp r.0 key) e))

pub key_apart : (key : Key) (r : TableRow) → is_lt (row_key_cmp r.0 key) ≡ true → has_key key r ≡ false
key_apart key r h = less_not_equal (row_key_cmp r.0 key) h

pub key_past : (key : Key) (q r : TableRow) → Below q r → is_lt (row_key_cmp q.0 key) ≡ false → has_key key r ≡ false
key_past key q r h e =
    elim (has_key key r) as (λ b. has_key key r ≡ b → b ≡ false) [
      | true ↦ λ f.
          let same : r.0 ≡ key = one_key r.0 key (equal (row_key_cmp r.0 key) f) in
          let before : is_lt (row_key_cmp q.0 key) ≡ true = ap is_lt (ap (row_key_cmp q.0) (sym same) ∙ h) in
          absurd (true≢false (sym before ∙ e))
      | false ↦ λ f. refl
    ] refl

pub keys_past : (key : Key) (rows : List TableRow) → AllPairs Below rows
    → AllPairs (λ (q r : TableRow). is_lt (row_key_cmp q.0 key) ≡ false → has_key key r ≡ false) rows
keys_past key rows up = λ i j d le lt. key_past key (get_or rows i d) (get_or rows j d) (up i j d le lt)

-- ---- the rows of an instance

route_is : (i : InstanceId) (r : TableRow) (s : Block × Entry) → route_in i r ≡ Some s → r ≡ ((i, s.0), s.1)
route_is i r s h =
    elim (eqb r.0.0.0 i.0) as (λ b. eqb r.0.0.0 i.0 ≡ b → cond b (Some (r.0.1, r.1)) None ≡ Some s → r ≡ ((i, s.0), s.1)) [
      | true ↦ λ e k.
          let number : r.0.0.0 ≡ i.0 = eqb-true r.0.0.0 i.0 e in
          let both : (r.0.1, r.1) ≡ s = cc in
          λ j. ((record { 0 = number j }, (both j).0), (both j).1)
      | false ↦ λ e k. cc
    ] refl h

pub row_there : (i : InstanceId) (rows : List TableRow) (s : Block × Entry) → Contains (filter_map (route_in i) rows) s → Contains rows ((i, s.0), s.1)
row_there i rows s h =
    let from = given (route_in i) rows s h in
    subst (Contains rows) (route_is i from.0 s from.2) from.1

pub there_row : (i : InstanceId) (rows : List TableRow) (prefix : Block) (e : Entry) → Contains rows ((i, prefix), e)
    → Contains (filter_map (route_in i) rows) (prefix, e)
there_row i rows prefix e h = gives (route_in i) rows ((i, prefix), e) (prefix, e) h (rw (eq-eqb i.0 i.0 refl) refl)

-- ---- the longest prefix, by lengths

module _ (i : InstanceId) (a : ℕ) (rows : List TableRow) where
  -- each prefix of a row of the instance that contains the address is shorter than so many bits
  abbrev pub Shorter : ℕ → Type 0
  Shorter n = (prefix : Block) (e : Entry) → Contains rows ((i, prefix), e) → IsTrue (contains prefix a) → prefix.len < n

  pub none_shorter : Shorter 0 → longest a (filter_map (route_in i) rows) ≡ None
  none_shorter h =
      no_longest a (filter_map (route_in i) rows) (λ s in_s hits.
      let lt : s.0.len < 0 = h s.0 s.1 (row_there i rows s in_s) hits in
      absurd (omega (arith, lt)))

  module _ (formed : All (λ r. IsTrue (is_prefix r.0.1.addr r.0.1.len)) rows) where
    form_of : (prefix : Block) (e : Entry) → Contains rows ((i, prefix), e) → IsTrue (is_prefix prefix.addr prefix.len)
    form_of prefix e h = All-contains (λ (r : TableRow). IsTrue (is_prefix r.0.1.addr r.0.1.len)) rows ((i, prefix), e) formed h

    pub all_shorter : Shorter 33
    all_shorter prefix e h hits = ltb-true prefix.len 33 ((and_parts _ _ (form_of prefix e h)).0)

    module _ (m : ℕ) (p : Block) (long : p.len ≡ m) (hit : IsTrue (contains p a)) (form : IsTrue (is_prefix p.addr p.len)) (so_far : Shorter (m + 1)) where
      one : (prefix : Block) (e : Entry) → Contains rows ((i, prefix), e) → IsTrue (contains prefix a) → m ≤ prefix.len → prefix ≡ p
      one prefix e h hits le =
          let lt : prefix.len < m + 1 = so_far prefix e h hits in
          one_prefix a prefix p (form_of prefix e h) form (omega (arith, lt, le, long)) hits hit

      pub still_shorter : find (has_key (i, p)) rows ≡ None → Shorter m
      still_shorter none prefix e h hits =
          elim (cases_lt prefix.len m) [
            | inl lt ↦ lt
            | inr le ↦
                let same : prefix ≡ p = one prefix e h hits le in
                let no : has_key (i, p) ((i, prefix), e) ≡ false =
                All-contains (λ (r : TableRow). has_key (i, p) r ≡ false) rows ((i, prefix), e) ((find_none (has_key (i, p)) rows).0 none) h in
                let yes_key : has_key (i, p) ((i, prefix), e) ≡ true = ap (λ (b : Block). is_eq (row_key_cmp (i, b) (i, p))) same ∙ ap is_eq (itself (i, p)) in
                absurd (true≢false (sym yes_key ∙ no))
          ]

      module _ (up : AllPairs Below rows) (r : TableRow) (is : find (has_key (i, p)) rows ≡ Some r) where
        key_is : r.0 ≡ (i, p)
        key_is = one_key r.0 (i, p) (equal (row_key_cmp r.0 (i, p)) (found_is (has_key (i, p)) rows r is).0)

        stands : Contains rows ((i, p), r.1)
        stands = subst (λ (k : Key). Contains rows (k, r.1)) key_is (found_is (has_key (i, p)) rows r is).1

        alone : (e : Entry) → Contains rows ((i, p), e) → e ≡ r.1
        alone e h =
            elim (two_among Below rows ((i, p), e) ((i, p), r.1) up h stands) [
              | inl same ↦ ap (λ (x : TableRow). x.1) same
              | inr others ↦ elim others [
                | inl f ↦ let both : Equal ≡ Less = sym (itself (i, p)) ∙ f in cc
                | inr f ↦ let both : Equal ≡ Less = sym (itself (i, p)) ∙ f in cc
              ]
            ]

        pub is_longest : longest a (filter_map (route_in i) rows) ≡ Some (p, r.1)
        is_longest =
            let here : List (Block × Entry) = filter_map (route_in i) rows in
            let in_here : Contains here (p, r.1) = there_row i rows p r.1 stands in
            elim (longest a here) as (λ o. longest a here ≡ o → o ≡ Some (p, r.1)) [
              | None ↦ λ e. absurd (none_contains a here e (p, r.1) in_here hit)
              | Some s ↦ λ e.
                  let l = longest_is a here s e in
                  let le : p.len ≤ s.0.len = All-contains (λ (x : Block × Entry). IsTrue (contains x.0 a) → x.0.len ≤ s.0.len) here (p, r.1) l.longest in_here hit in
                  let there : Contains rows ((i, s.0), s.1) = row_there i rows s l.listed in
                  let same : s.0 ≡ p = one s.0 s.1 there l.containing (subst (λ (n : ℕ). n ≤ s.0.len) long le) in
                  let entry : s.1 ≡ r.1 = alone s.1 (subst (λ (b : Block). Contains rows ((i, b), s.1)) same there) in
                  λ j. Some (same j, entry j)
            ] refl

  -- what was found of a key is taken, or nothing as long

  module _ (formed : All (λ r. IsTrue (is_prefix r.0.1.addr r.0.1.len)) rows) (left m : ℕ) (more : left ≡ m + 1) (so_far : Shorter left) (p : Block) (long : p.len ≡ m) (hit : IsTrue (contains p a))
      (form : IsTrue (is_prefix p.addr p.len)) where
    before : Shorter (m + 1)
    before = subst Shorter more so_far

    pub taken : AllPairs Below rows → (e : Entry) → Some e ≡ option_map (λ r. r.1) (find (has_key (i, p)) rows) → Some (p, e) ≡ longest a (filter_map (route_in i) rows)
    taken up e h =
        elim (find (has_key (i, p)) rows) as (λ o. find (has_key (i, p)) rows ≡ o → Some e ≡ option_map (λ (r : TableRow). r.1) o → Some (p, e) ≡ longest a (filter_map (route_in i) rows)) [
          | None ↦ λ f none. absurd cc
          | Some r ↦ λ f some.
              let same : e ≡ r.1 = cc in
              ap (λ (x : Entry). Some (p, x)) same ∙ sym (is_longest formed m p long hit form before up r f)
        ] refl h

    pub passed : None ≡ option_map (λ r. r.1) (find (has_key (i, p)) rows) → Shorter m
    passed h =
        elim (find (has_key (i, p)) rows) as (λ o. find (has_key (i, p)) rows ≡ o → None ≡ option_map (λ (r : TableRow). r.1) o → Shorter m) [
          | None ↦ λ f none. still_shorter formed m p long hit form before f
          | Some r ↦ λ f some. absurd cc
        ] refl h
