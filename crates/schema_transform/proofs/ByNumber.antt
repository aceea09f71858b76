-- The uses give an instance what the one gives that it is a hop of.
use Rattle.std.proofs.Common.{◌≡◌, ◌≢◌, inl, inr, ◌==◌, ◌+◌, ◌-◌, ◌*◌, ◌/◌, ◌%◌, ◌<◌, ◌≤◌, ℕ, leb, true, false, cond, List, [], ◌∷◌, ◌++◌, length, Option, None, Some, refl, sym, ap, ◌∙◌, subst, arith}
use Rattle.std.specs.Prelude.{flat_map, option_and_then}
use Rattle.std.proofs.lemmas.Bool.{leb-false, leb-true}
use Rattle.std.proofs.lemmas.List.{append-nil}
use Rattle.std.specs.List.{AllPairs, Contains, filter_map}
use Rattle.std.proofs.lemmas.Bool.Decides.{nat_tests}
use Rattle.std.proofs.lemmas.List.Elements.{All-contains}
use Rattle.ov_types.specs.declared.numbers.InstanceId.{InstanceId}
use Rattle.ov_types.proofs.FirstLemmas.{contains_here, contains_later, pairs_head, pairs_tail}
use Rattle.route_targets.specs.Numbers.{hop_instance_of, hop_of}
use Rattle.route_targets.specs.declared.numbers.UseHop.{UseHop}
use Rattle.config_types.specs.declared.config.Config.{Config}
use Rattle.config_types.specs.declared.config.Network.{Network}
use Rattle.config_types.specs.declared.topology.Topology.{Topology}
use Rattle.config_check.specs.Finding.{network_numbered}
use Rattle.transform_model.specs.Tables.{Row, circuit_row, circuits_in, end_rows, hop_rows, instance_table, rows_of, subnet_rows}
use Rattle.transform_model.specs.Uses.{Circuit, ConfiguredUse, left_circuits, right_circuits, first_hop, last_hop, uses}
use Rattle.transform_model.proofs.InUse.{use_is}
use Rattle.transform_model.proofs.Lists.{place_within}
use Rattle.transform_model.proofs.Rows.{at_end, either_in, left_in, right_in}
use Rattle.schema_transform.specs.ByNumber.{use_at, use_numbered, use_rows}
use Rattle.schema_transform.specs.Sound.{IsSound}
use Rattle.schema_transform.proofs.Services.{is_short}

nothing_in : {A : Type 0} (xs : List A) → ((x : A) → Contains xs x → ⊥) → xs ≡ []
nothing_in [] none = refl
nothing_in (x ∷ xs) none = absurd (none x (contains_here x xs))

-- an instance is a hop of no use of this number
abbrev Apart : ℕ → InstanceId → Type 0
Apart number i = (j : ℕ) → j ≤ 15 → i ≢ hop_instance_of number j

no_end_rows : (t : Topology) (c : Config) (i end : InstanceId) (n : Network) → i ≢ end → end_rows t c i end n ≡ []
no_end_rows t c i end n apart = nothing_in (end_rows t c i end n) (λ r h. apart (at_end t c i end n r h).at)

-- then the use gives it nothing
gives_nothing : (t : Topology) (c : Config) (i : InstanceId) (u : ConfiguredUse) → length u.services ≤ 15 → Apart u.number i
    → hop_rows t c i u ≡ []
gives_nothing t c i u few apart =
    let no_left : (k : Circuit) → Contains (circuits_in i (left_circuits u)) k → ⊥ = λ k h.
    let q = left_in u i k h in
    let within = place_within u.services q.place k.service q.is.service in
    apart q.place (omega arith) q.at
    in
    let no_right : (k : Circuit) → Contains (circuits_in i (right_circuits u)) k → ⊥ = λ k h.
    let q = right_in u i k h in
    let within = place_within u.services q.place k.service q.is.service in
    apart (q.place + 1) (omega arith) q.at
    in
    let no_circuit : (k : Circuit) → Contains (circuits_in i (left_circuits u ++ right_circuits u)) k → ⊥ = λ k h.
    elim (either_in u i k h) [
      | inl q ↦ let within = place_within u.services q.place k.service q.is.service in apart q.place (omega arith) q.at
      | inr q ↦ let within = place_within u.services q.place k.service q.is.service in apart (q.place + 1) (omega arith) q.at
    ]
    in
    let rights : List Row = flat_map (subnet_rows t c i u.right) (circuits_in i (left_circuits u)) in
    let lefts : List Row = flat_map (subnet_rows t c i u.left) (circuits_in i (right_circuits u)) in
    let first : List Row = end_rows t c i (first_hop u) u.left in
    let last : List Row = end_rows t c i (last_hop u) u.right in
    ap (λ (ks : List Circuit). filter_map (circuit_row t i) ks ++ (rights ++ (lefts ++ (first ++ last))))
    (nothing_in (circuits_in i (left_circuits u ++ right_circuits u)) no_circuit)
    ∙ ap (λ (ks : List Circuit). flat_map (subnet_rows t c i u.right) ks ++ (lefts ++ (first ++ last)))
    (nothing_in (circuits_in i (left_circuits u)) no_left)
    ∙ ap (λ (ks : List Circuit). flat_map (subnet_rows t c i u.left) ks ++ (first ++ last))
    (nothing_in (circuits_in i (right_circuits u)) no_right)
    ∙ ap (λ (rs : List Row). rs ++ last) (no_end_rows t c i (first_hop u) u.left (apart 0 (omega arith)))
    ∙ no_end_rows t c i (last_hop u) u.right (apart (length u.services) few)

all_give_nothing : (t : Topology) (c : Config) (i : InstanceId) (us : List ConfiguredUse)
    → ((u : ConfiguredUse) → Contains us u → length u.services ≤ 15) → ((u : ConfiguredUse) → Contains us u → Apart u.number i)
    → flat_map (hop_rows t c i) us ≡ []
all_give_nothing t c i [] few apart = refl
all_give_nothing t c i (u ∷ us) few apart =
    ap (λ (rs : List Row). rs ++ flat_map (hop_rows t c i) us)
    (gives_nothing t c i u (few u (contains_here u us)) (apart u (contains_here u us)))
    ∙ all_give_nothing t c i us (λ v h. few v (contains_later v u us h)) (λ v h. apart v (contains_later v u us h))

-- of uses that each have a number of their own, at most the one of this number gives the instance anything
one_gives : (t : Topology) (c : Config) (i : InstanceId) (n : ℕ) (us : List ConfiguredUse)
    → ((u : ConfiguredUse) → Contains us u → length u.services ≤ 15) → AllPairs (λ u v. u.number ≢ v.number) us
    → ((m : ℕ) → m ≢ n → Apart m i)
    → use_rows t c i (use_numbered us n) ≡ flat_map (hop_rows t c i) us
one_gives t c i n [] few distinct apart = refl
one_gives t c i n (u ∷ us) few distinct apart =
    let few_left : (v : ConfiguredUse) → Contains us v → length v.services ≤ 15 = λ v h. few v (contains_later v u us h) in
    elim (u.number == n) as (λ b. (u.number == n) ≡ b → use_rows t c i (cond b (Some u) (use_numbered us n))
    ≡ hop_rows t c i u ++ flat_map (hop_rows t c i) us) [
      | true ↦ λ e.
          let same : u.number ≡ n = grind (arith, nat_tests, e) in
          let others : (v : ConfiguredUse) → Contains us v → Apart v.number i = λ v h.
          let differ : u.number ≢ v.number =
          All-contains (λ (w : ConfiguredUse). u.number ≢ w.number) us v
          (pairs_head (λ (v w : ConfiguredUse). v.number ≢ w.number) u us distinct) h
          in
          apart v.number (λ one. differ (same ∙ sym one))
          in
          sym (append-nil (hop_rows t c i u))
          ∙ ap (λ (rs : List Row). hop_rows t c i u ++ rs) (sym (all_give_nothing t c i us few_left others))
      | false ↦ λ e.
          let differ : u.number ≢ n = λ one. absurd (grind (arith, nat_tests, e, one)) in
          one_gives t c i n us few_left (pairs_tail (λ (v w : ConfiguredUse). v.number ≢ w.number) u us distinct) apart
          ∙ ap (λ (rs : List Row). rs ++ flat_map (hop_rows t c i) us)
          (sym (gives_nothing t c i u (few u (contains_here u us)) (apart u.number differ)))
    ] refl

few_in_use : (c : Config) → IsSound c → (u : ConfiguredUse) → Contains (uses c) u → length u.services ≤ 15
few_in_use c h u inside =
    let used = use_is c u inside in
    subst (λ n. n ≤ 15) (sym (ap length used.services)) (is_short c used.chain h)

-- an instance of a network is a hop of no use
network_is_apart : (i : InstanceId) (number : ℕ) → i.0 ≤ 16383 → Apart number i
network_is_apart i number low = λ j few same. let e = ap (λ (k : InstanceId). k.0) same in absurd (omega arith)

no_hop : (i : InstanceId) → hop_of i ≡ None → i.0 ≤ 16383
no_hop i none =
    let told : UseHop = record { use_no = (i.0 - 16384) / 16; place = (i.0 - 16384) % 16 } in
    elim (leb i.0 16383) as (λ b. leb i.0 16383 ≡ b → cond b None (Some told) ≡ None → i.0 ≤ 16383) [
      | true ↦ λ low e. leb-true i.0 16383 low
      | false ↦ λ high e. cc
    ] refl none

record IsNumbered (i : InstanceId) (number : ℕ) : Type 0 where
  high : 16383 < i.0
  number_is : number ≡ (i.0 - 16384) / 16

one_inside : (a b : UseHop) → Some a ≡ Some b → a ≡ b
one_inside a b e = cc

hop_is : (i : InstanceId) (hop : UseHop) → hop_of i ≡ Some hop → IsNumbered i hop.use_no
hop_is i hop some =
    let told : UseHop = record { use_no = (i.0 - 16384) / 16; place = (i.0 - 16384) % 16 } in
    elim (leb i.0 16383) as (λ b. leb i.0 16383 ≡ b → cond b None (Some told) ≡ Some hop → IsNumbered i hop.use_no) [
      | true ↦ λ low e. cc
      | false ↦ λ high e. record {
        high = leb-false i.0 16383 high;
        number_is = sym (ap (λ (h : UseHop). h.use_no) (one_inside told hop e));
      }
    ] refl some

hop_is_apart : (i : InstanceId) (n m : ℕ) → IsNumbered i n → m ≢ n → Apart m i
hop_is_apart i n m h differ = λ j few same.
    let e : i.0 ≡ 16384 + 16 * m + j = ap (λ (k : InstanceId). k.0) same in
    let high = h.high in
    let number = h.number_is in
    let one : m ≡ n = omega arith in
    differ one

pub use_rows_are : (t : Topology) (c : Config) (i : InstanceId) (among : ℕ → Option ConfiguredUse) → IsSound c
    → ((n : ℕ) → among n ≡ use_numbered (uses c) n)
    → use_rows t c i (use_at among i) ≡ flat_map (hop_rows t c i) (uses c)
use_rows_are t c i among h is =
    elim (hop_of i) as (λ o. hop_of i ≡ o → use_rows t c i (option_and_then (λ (hop : UseHop). among hop.use_no) o)
    ≡ flat_map (hop_rows t c i) (uses c)) [
      | None ↦ λ e. sym (all_give_nothing t c i (uses c) (few_in_use c h)
          (λ u inside. network_is_apart i u.number (no_hop i e)))
      | Some hop ↦ λ e.
          ap (use_rows t c i) (is hop.use_no)
          ∙ one_gives t c i hop.use_no (uses c) (few_in_use c h) h.uses
          (λ m differ. hop_is_apart i hop.use_no m (hop_is i hop e) differ)
    ] refl

-- the rows of the network with an instance's number, and then what the uses give it
pub table_made : (t : Topology) (c : Config) (i : InstanceId) (among : ℕ → Option ConfiguredUse) (before more after : List Row) → IsSound c
    → ((n : ℕ) → among n ≡ use_numbered (uses c) n)
    → before ≡ []
    → more ≡ before ++ rows_of t c (network_numbered c i.0)
    → after ≡ more ++ use_rows t c i (use_at among i)
    → after ≡ instance_table t c i
table_made t c i among before more after h is empty first second =
    second
    ∙ ap (λ (rs : List Row). rs ++ use_rows t c i (use_at among i))
    (first ∙ ap (λ (rs : List Row). rs ++ rows_of t c (network_numbered c i.0)) empty)
    ∙ ap (λ (rs : List Row). rows_of t c (network_numbered c i.0) ++ rs) (use_rows_are t c i among h is)
