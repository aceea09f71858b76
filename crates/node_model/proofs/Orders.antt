-- The orders of keys and of prefixes are total, and tell them apart.
use Rattle.std.specs.Prelude.{◌≡◌, ℕ, List, [], ◌∷◌, get_or, ◌==◌}
use Rattle.std.specs.declared.cmp.Ordering.{Ordering}
use Rattle.std.specs.declared.cmp.Ordering.TheVariants.{Less, Equal, Greater}
use Rattle.std.specs.Ordering.{nat_cmp, ordering_then}
use Rattle.std.specs.Cmp.{IsTotalOrder, on_total}
use Rattle.std.specs.Cmp.Lexicographic.{slice_cmp, nat_list_cmp_total}
use Rattle.std.specs.FinMap.{IsAntisymmetric, slice_cmp-IsAntisymmetric, nat_cmp-IsAntisymmetric}
use Rattle.std.proofs.lemmas.Bool.{eq-eqb, eqb-true, and_parts, and_from}
use Rattle.std.proofs.Common.{true, refl, sym, ◌∙◌, ap, subst}
use Rattle.ov_types.specs.Prefix.{Block, block_cmp}
use Rattle.node_model.specs.Keys.{numbers, key_cmp, key_of_numbers, numbers_tell}
use Rattle.node_model.specs.Tables.{same_prefix}

pub key_total : IsTotalOrder key_cmp
key_total = on_total numbers nat_list_cmp_total

pub key_exact : IsAntisymmetric key_cmp
key_exact a b e = sym (numbers_tell a) ∙ ap key_of_numbers (slice_cmp-IsAntisymmetric nat_cmp-IsAntisymmetric (numbers a) (numbers b) e) ∙ numbers_tell b

pub then_equal : (r : Ordering) → ordering_then r Equal ≡ r
then_equal Less = refl
then_equal Equal = refl
then_equal Greater = refl

-- the order of prefixes is that of their numbers
abbrev by_numbers : Block → Block → Ordering
by_numbers p q = slice_cmp nat_cmp (p.addr ∷ p.len ∷ []) (q.addr ∷ q.len ∷ [])

same_at : (p q : Block) → by_numbers p q ≡ block_cmp p q
same_at p q = ap (ordering_then (nat_cmp p.addr q.addr)) (then_equal (nat_cmp p.len q.len))

same_order : by_numbers ≡ block_cmp
same_order = λ i p q. same_at p q i

pub prefix_total : IsTotalOrder block_cmp
prefix_total = subst IsTotalOrder same_order (on_total (λ (p : Block). p.addr ∷ p.len ∷ []) nat_list_cmp_total)

pub prefix_exact : IsAntisymmetric block_cmp
prefix_exact p q e =
    ap (λ (ns : List ℕ). record { addr = get_or ns 0 0; len = get_or ns 1 0 }) (slice_cmp-IsAntisymmetric nat_cmp-IsAntisymmetric (p.addr ∷ p.len ∷ []) (q.addr ∷ q.len ∷ []) (same_at p q ∙ e))

pub prefix_same : (p q : Block) → same_prefix p q ≡ true → p ≡ q
prefix_same p q e = let a = and_parts (p.addr == q.addr) (p.len == q.len) e in λ i. record { addr = eqb-true p.addr q.addr a.0 i; len = eqb-true p.len q.len a.1 i }

pub same_prefix-from : (p q : Block) → p ≡ q → same_prefix p q ≡ true
same_prefix-from p q e = and_from (p.addr == q.addr) (p.len == q.len) (eq-eqb p.addr q.addr (ap (λ (p : Block). p.addr) e)) (eq-eqb p.len q.len (ap (λ (p : Block). p.len) e))
