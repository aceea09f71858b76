-- The instances of a use, one after the other.
use Rattle.std.proofs.Common.{◌≡◌, ℕ, zero, suc, ◌+◌, List, [], ◌∷◌, ◌++◌, refl, ap, ◌∙◌, add-one, arith}
use Rattle.ov_types.specs.declared.numbers.InstanceId.{InstanceId}
use Rattle.route_targets.specs.Numbers.{hop_instance_of}
use Rattle.transform_model.specs.Uses.{hops_from}

one_more_from : (number place more : ℕ)
    → hops_from number place (suc more) ≡ hops_from number place more ++ hop_instance_of number (place + suc more) ∷ []
one_more_from number place zero = refl
one_more_from number place (suc more) =
    ap (λ (xs : List InstanceId). hop_instance_of number place ∷ xs)
    (one_more_from number (place + 1) more
    ∙ ap (λ (n : ℕ). hops_from number (place + 1) more ++ hop_instance_of number n ∷ []) (omega arith))

-- the next instance comes behind those before
pub one_more : (number more : ℕ)
    → hops_from number 0 (more + 1) ≡ hops_from number 0 more ++ hop_instance_of number (more + 1) ∷ []
one_more number more =
    rw add-one
    (one_more_from number 0 more
    ∙ ap (λ (n : ℕ). hops_from number 0 more ++ hop_instance_of number n ∷ []) (omega arith))
