-- How many rows are touched.
use Rattle.std.specs.Prelude.{◌≡◌, ℕ, zero, suc, ◌+◌, ◌*◌, List, [], ◌∷◌, ◌++◌, map, length}
use Rattle.std.specs.List.{filter, flat_map, sum_by}
use Rattle.std.proofs.lemmas.List.Sums.{sum_by-cons}
use Rattle.std.proofs.Common.{refl, sym, ◌∙◌, ap, arith}
use Rattle.ov_types.specs.Prefix.{Block}
use Rattle.ov_types.specs.declared.numbers.InstanceId.{InstanceId}
use Rattle.ov_types.specs.declared.targets.Target.{Target}
use Rattle.node_model.specs.Uses.{Use, uses, hop}
use Rattle.node_model.specs.Paths.{Holdings}
use Rattle.node_model.specs.Reaching.{below}
use Rattle.node_model.specs.Tables.{known_instances}
use Rattle.vpn_holdings.specs.Listing.{hops}
use Rattle.vpn_holdings.specs.Touched.{imports_one, is_touched, rows_at_use, touched, touched_rows, weight}

many : {X Y : Type 0} (f : X → Y) (xs : List X) → length (map f xs) ≡ length xs
many f [] = refl
many f (x ∷ xs) = ap suc (many f xs)

together : {X : Type 0} (xs ys : List X) → length (xs ++ ys) ≡ length xs + length ys
together [] ys = none (length ys)
  where
    none : (n : ℕ) → n ≡ 0 + n
    none n = omega arith
together (x ∷ xs) ys = ap suc (together xs ys) ∙ next (length xs) (length ys)
  where
    next : (m n : ℕ) → suc (m + n) ≡ suc m + n
    next m n = omega arith

below_many : (n : ℕ) → length (below n ++ n ∷ []) ≡ n + 1
below_many zero = refl
below_many (suc n) = together (below n ++ n ∷ []) (suc n ∷ []) ∙ ap (λ m. m + 1) (below_many n) ∙ next n
  where
    next : (n : ℕ) → n + 1 + 1 ≡ suc n + 1
    next n = omega arith

of_each : {X Y : Type 0} (f : X → List Y) (n : ℕ) (xs : List X) → ((x : X) → length (f x) ≡ n) → length (flat_map f xs) ≡ length xs * n
of_each f n [] h = none n
  where
    none : (n : ℕ) → 0 ≡ 0 * n
    none n = omega arith
of_each f n (x ∷ xs) h = together (f x) (flat_map f xs) ∙ (λ i. h x i + of_each f n xs h i) ∙ more n (length xs)
  where
    more : (n m : ℕ) → n + m * n ≡ suc m * n
    more n m = omega arith

of_use : (u : Use) → length (rows_at_use u) ≡ weight u
of_use u =
    let subnets = u.left_subnets ++ u.right_subnets in
    of_each (λ (i : InstanceId). map (λ (subnet : Block). (i, subnet)) subnets) (length subnets) (hops u) (λ i. many (λ (subnet : Block). (i, subnet)) subnets)
    ∙ ap (λ n. n * length subnets) (many (hop u) (below u.services ++ u.services ∷ []) ∙ below_many u.services)

of_uses : (us : List Use) → length (flat_map rows_at_use us) ≡ sum_by weight us
of_uses [] = refl
of_uses (u ∷ us) = together (rows_at_use u) (flat_map rows_at_use us) ∙ (λ i. of_use u i + of_uses us i) ∙ sym (sum_by-cons weight u us)

abbrev row_in : Block → InstanceId → InstanceId × Block
row_in prefix i = (i, prefix)

pub counted : (h : Holdings) (targets : List Target) (prefix : Block) → length (touched_rows h targets prefix) ≡ touched h targets
counted h targets prefix =
    let importing = filter (imports_one h targets) (known_instances h.feed) in
    let along = filter (is_touched h targets) (uses h.feed) in
    together (map (row_in prefix) importing) (flat_map rows_at_use along)
    ∙ (λ k. many (row_in prefix) importing k + of_uses along k)
