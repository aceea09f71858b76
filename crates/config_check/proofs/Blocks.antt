-- That a block is inside another as a test, and as a fact on each address.
use Rattle.std.proofs.Common.{◌≡◌, ℕ, ◌↔◌, Bool, true, false, IsTrue, refl, sym}
use Rattle.ov_types.specs.Prefix.{Block, contains, is_inside}
use Rattle.ov_types.proofs.Blocks.{within_is}

same_test : (b c : Bool) → (IsTrue b → IsTrue c) → (IsTrue c → IsTrue b) → b ≡ c
same_test true true f g = refl
same_test true false f g = sym (f refl)
same_test false true f g = g refl
same_test false false f g = refl

pub inside_of_within : (x y : Block) (b : Bool) → IsTrue b ↔ ((a : ℕ) → IsTrue (contains x a) → IsTrue (contains y a)) → b ≡ is_inside x y
inside_of_within x y b h =
    let w = within_is x y (is_inside x y) refl in
    same_test b (is_inside x y) (λ t. w.1 (h.0 t)) (λ t. h.1 (w.0 t))
