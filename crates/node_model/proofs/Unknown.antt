-- An instance that is not known has no paths.
use Rattle.std.specs.Prelude.{◌≡◌, ℕ, suc, ◌-◌, ◌<◌, ◌≤◌, List, [], ◌∷◌, ◌++◌, map, Bool, true, false, cond, ◌==◌}
use Rattle.std.specs.List.{filter, list_any}
use Rattle.std.specs.FinMap.{entries}
use Rattle.std.proofs.lemmas.Bool.{true≢false, or_cases, or_left, eqb-true, eq-eqb}
use Rattle.std.proofs.Common.{refl, sym, ◌∙◌, ap, inl, inr, arith}
use Rattle.std.proofs.lemmas.Grind.{common_steps}
use Rattle.ov_types.specs.Prefix.{block_cmp}
use Rattle.ov_types.specs.declared.numbers.InstanceId.{InstanceId}
use Rattle.ov_types.specs.declared.targets.Target.{Target}
use Rattle.ov_sync.proofs.Ascending.{entries-empty}
use Rattle.route_targets.specs.Numbers.{target_of}
use Rattle.node_model.specs.Members.{Member}
use Rattle.node_model.specs.Maps.{Map}
use Rattle.node_model.specs.Uses.{is_known}
use Rattle.node_model.specs.Paths.{Holdings, Path, own_paths, peer_paths, has_target}
use Rattle.node_model.specs.Reaching.{Side, sides, hop_at, reoriginated_paths, AreShort}
use Rattle.node_model.specs.Tables.{paths_of, selected, table}
use Rattle.node_model.proofs.Members.{in_map, any_in}
use Rattle.node_model.proofs.Objects.{side_use, known_hop, imports_nothing}
use Rattle.node_model.proofs.Routes.{reoriginated_from}

pub same_target : (asn : ℕ) (i j : InstanceId) → (target_of asn i).0 ≡ (target_of asn j).0 → i ≡ j
same_target asn i j e = λ k. record { 0 = number asn i.0 j.0 e k }
  where
    number : (asn i j : ℕ) → (target_of asn (record { 0 = i })).0 ≡ (target_of asn (record { 0 = j })).0 → i ≡ j
    number asn i j e = grind (arith, common_steps)

-- ---- the one target of a path
pub target_in : (asn : ℕ) (n : InstanceId) (ns : List InstanceId) (p : Path) → p.targets ≡ target_of asn n ∷ [] → Member n ns → has_target (map (target_of asn) ns) p ≡ true
target_in asn n ns p e m =
    let wanted = map (target_of asn) ns in
    ap (λ (ts : List Target). list_any (λ t. list_any (λ u. t.0 == u.0) wanted) ts) e
    ∙ or_left (list_any (λ u. (target_of asn n).0 == u.0) wanted) false
    (any_in (λ (u : Target). (target_of asn n).0 == u.0) (target_of asn n) wanted (in_map (target_of asn) n ns m) (eq-eqb (target_of asn n).0 (target_of asn n).0 refl))

pub target_from : (asn : ℕ) (n : InstanceId) (ns : List InstanceId) (p : Path) → p.targets ≡ target_of asn n ∷ [] → has_target (map (target_of asn) ns) p ≡ true → Member n ns
target_from asn n ns p e h =
    elim (or_cases (list_any (λ u. (target_of asn n).0 == u.0) (map (target_of asn) ns)) false (sym (ap (λ (ts : List Target). list_any (λ t. list_any (λ u. t.0 == u.0) (map (target_of asn) ns)) ts) e) ∙ h)) as (λ _. Member n ns) [
      | inl l ↦ among ns l
      | inr r ↦ absurd (true≢false (sym r))
    ]
  where
    among : (ns : List InstanceId) → list_any (λ u. (target_of asn n).0 == u.0) (map (target_of asn) ns) ≡ true → Member n ns
    among [] h = absurd (true≢false (sym h))
    among (m ∷ ns) h =
        elim (or_cases ((target_of asn n).0 == (target_of asn m).0) (list_any (λ u. (target_of asn n).0 == u.0) (map (target_of asn) ns)) h) as (λ _. Member n (m ∷ ns)) [
          | inl l ↦ inl (sym (same_target asn n m (eqb-true (target_of asn n).0 (target_of asn m).0 l)))
          | inr r ↦ inr (among ns r)
        ]

-- ---- a place on a chain
abbrev pub place_at : Side → ℕ → ℕ
place_at s d = cond s.is_right (s.chain.services - d) d

pub place_at-within : (s : Side) (d : ℕ) → d ≤ s.chain.services → place_at s d ≤ s.chain.services
place_at-within s d h = elim s.is_right as (λ b. cond b (s.chain.services - d) d ≤ s.chain.services) [ true ↦ omega arith | false ↦ h ]

pub le_trans : (a b c : ℕ) → a ≤ b → b ≤ c → a ≤ c
le_trans a b c x y = omega arith

next : (d k : ℕ) → d < k → suc d ≤ k
next d k h = omega arith

pub known_place : (feed : Map) (s : Side) (d : ℕ) → AreShort feed → Member s (sides feed) → d ≤ s.chain.services → is_known feed (hop_at s d) ≡ true
known_place feed s d short m h =
    let u = side_use feed s m in
    let at = place_at-within s d h in
    known_hop feed s.chain (place_at s d) u (le_trans (place_at s d) s.chain.services 15 at (short s.chain u)) at

-- ---- nothing is of an instance that is not known
filter_nothing : {X : Type 0} (p : X → Bool) (xs : List X) → ((x : X) → Member x xs → p x ≡ false) → filter p xs ≡ []
filter_nothing p [] h = refl
filter_nothing {X} p (x ∷ xs) h = ap (λ b. cond b (x ∷ filter p xs) (filter p xs)) (h x (inl refl)) ∙ filter_nothing p xs (λ y m. h y (inr m))

untargeted : (p : Path) → has_target [] p ≡ false
untargeted p = each p.targets
  where
    each : (ts : List Target) → list_any (λ (t : Target). list_any (λ (u : Target). t.0 == u.0) []) ts ≡ false
    each [] = refl
    each (t ∷ ts) = each ts

not_reoriginated : (h : Holdings) (i : InstanceId) → AreShort h.feed → is_known h.feed i ≡ false → (p : Path) → Member p (reoriginated_paths h) → has_target (target_of h.asn i ∷ []) p ≡ false
not_reoriginated h i short unknown p m =
    let r = reoriginated_from h p m in
    let place = hop_at r.side (suc r.depth) in
    elim (has_target (target_of h.asn i ∷ []) p) as (λ b. has_target (target_of h.asn i ∷ []) p ≡ b → b ≡ false) [
      | true ↦ λ e.
          elim (target_from h.asn place (i ∷ []) p r.targets e) as (λ _. true ≡ false) [
            | inl is ↦ sym (known_place h.feed r.side (suc r.depth) short r.held (next r.depth r.side.chain.services r.within)) ∙ ap (is_known h.feed) (sym is) ∙ unknown
            | inr none ↦ absurd none
          ]
      | false ↦ λ _. refl
    ] refl

pub no_paths : (h : Holdings) (i : InstanceId) → AreShort h.feed → is_known h.feed i ≡ false → paths_of h i ≡ []
no_paths h i short unknown =
    (λ k. filter (has_target (map (target_of h.asn) (imports_nothing h.feed i unknown k))) (own_paths h ++ peer_paths h) ++ filter_nothing (has_target (target_of h.asn i ∷ [])) (reoriginated_paths h) (not_reoriginated h i short unknown) k)
    ∙ ap (λ (ps : List Path). ps ++ []) (filter_nothing (has_target []) (own_paths h ++ peer_paths h) (λ p m. untargeted p))

pub no_rows : (h : Holdings) (i : InstanceId) → AreShort h.feed → is_known h.feed i ≡ false → entries (table h i) ≡ []
no_rows h i short unknown = ap (λ (ps : List Path). entries (selected ps)) (no_paths h i short unknown) ∙ entries-empty block_cmp
