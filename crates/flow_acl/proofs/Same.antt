-- Access lists that compare alike are the same.
use Rattle.std.proofs.Common.{◌≡◌, ◌&&◌, ◌↔◌, Bool, IsTrue, List, refl, true}
use Rattle.std.specs.Bool.{Decides}
use Rattle.std.specs.Cmp.Lexicographic.{pointwise}
use Rattle.std.proofs.lemmas.Bool.Decides.{Decides-eqb, Decides-and}
use Rattle.std.proofs.lemmas.Slice.Eq.{slice_eq-Decides}
use Rattle.ov_types.specs.contracts.objects.LowKeyPartialEq.TheImpl as low_key
use Rattle.ov_types.specs.contracts.objects.LowValuePartialEq.TheImpl as low_value
use Rattle.ov_types.specs.declared.objects.LowKey.{LowKey}
use Rattle.ov_types.specs.declared.objects.LowKey.TheVariants.{Instance, Attach, Acl, ChainUse}
use Rattle.ov_types.specs.declared.objects.LowValue.{LowValue}
use Rattle.ov_types.proofs.Values.{objects}

keys : (a b : LowKey) → Decides (low_key.ghosts.eq a b) (a ≡ b)
keys (Instance m) (Instance n) = let d = Decides-eqb m n in (λ e. let h = d.0 e in λ i. Instance (h i), λ e. d.1 (cc))
keys (Attach m) (Attach n) = let d = Decides-eqb m n in (λ e. let h = d.0 e in λ i. Attach (h i), λ e. d.1 (cc))
keys (Acl a b) (Acl c d) =
    let t = Decides-and _ _ (Decides-eqb a c) (Decides-eqb b d) in
    (λ e. let h = t.0 e in λ i. Acl (h.0 i) (h.1 i), λ e. t.1 (cc, cc))
keys (ChainUse m) (ChainUse n) = let d = Decides-eqb m n in (λ e. let h = d.0 e in λ i. ChainUse (h i), λ e. d.1 (cc))
keys a b = (λ e. absurd cc, λ e. absurd cc)

pairs : (p q : LowKey × LowValue) → Decides (low_key.ghosts.eq p.0 q.0 && low_value.ghosts.eq p.1 q.1) (p ≡ q)
pairs p q =
    let d = Decides-and _ _ (keys p.0 q.0) (objects p.1 q.1) in
    (λ e. let h = d.0 e in λ i. (h.0 i, h.1 i), λ e. d.1 (λ i. (e i).0, λ i. (e i).1))

pub same_lists : (a b : List (LowKey × LowValue)) (r : Bool) → r ≡ pointwise (λ p q. low_key.ghosts.eq p.0 q.0 && low_value.ghosts.eq p.1 q.1) a b
    → IsTrue r ↔ (a ≡ b)
same_lists a b r e = let d = slice_eq-Decides pairs a b r e in (d.0, d.1)
