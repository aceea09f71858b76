-- Lists of distinct names.
use Rattle.std.specs.Prelude.{◌≡◌, ℕ, suc, ◌<◌, List, [], ◌∷◌, ◌++◌, length, false, slice_index_or}
use Rattle.std.specs.Cmp.Lexicographic.{bytes_decides}
use Rattle.std.proofs.lemmas.Bool.{false_from_ne_true}
use Rattle.std.proofs.Common.{sym, ◌∙◌, arith, inl, inr}
use Rattle.ov_types.specs.First.{same_name}
use Rattle.schedule_script.specs.ConfigCheck.Sentences.{AreDistinct}
use Rattle.transform_model.specs.NodeModel.Members.{Member}
use Rattle.transform_model.proofs.NodeModel.Members.{in_left, in_right}
use Rattle.machine_model.specs.Setup.{Name}

pub same_false : (a b : Name) → (a ≡ b → ⊥) → same_name a b ≡ false
same_false a b h = false_from_ne_true (same_name a b) (λ e. h ((bytes_decides a b).0 e))

-- ---- names
abbrev pub Apart : List Name → Type 0
Apart [] = Unit {0}
Apart (n ∷ ns) = ((m : Name) → Member m ns → n ≡ m → ⊥) × Apart ns

member_at : (m : Name) (ns : List Name) (d : Name) → Member m ns → (j : ℕ) × (j < length ns) × (slice_index_or ns j d ≡ m)
member_at m [] d i = absurd i
member_at m (n ∷ ns) d (inl e) = (0, omega arith, e)
member_at m (n ∷ ns) d (inr i) = let q = member_at m ns d i in (suc q.0, omega (arith, q.1), q.2)

pub apart_of : (ns : List Name) → AreDistinct ns → Apart ns
apart_of [] h = tt
apart_of (n ∷ ns) h = (
  (λ m i e. let q = member_at m ns n i in h 0 (suc q.0) n (omega arith) (omega (arith, q.1)) (e ∙ sym q.2)),
  apart_of ns (λ i j d less within. h (suc i) (suc j) d (omega (arith, less)) (omega (arith, within))),
)

pub apart_left : (ms ns : List Name) → Apart (ms ++ ns) → Apart ms
apart_left [] ns a = tt
apart_left (m ∷ ms) ns a = ((λ n i. a.0 n (in_left n ms ns i)), apart_left ms ns a.1)

pub apart_right : (ms ns : List Name) → Apart (ms ++ ns) → Apart ns
apart_right [] ns a = a
apart_right (m ∷ ms) ns a = apart_right ms ns a.1

pub apart_between : (ms ns : List Name) → Apart (ms ++ ns) → (m n : Name) → Member m ms → Member n ns → m ≡ n → ⊥
apart_between [] ns a m n i j is = absurd i
apart_between (k ∷ ms) ns a m n (inl e) j is = a.0 n (in_right n ms ns j) (e ∙ is)
apart_between (k ∷ ms) ns a m n (inr i) j is = apart_between ms ns a.1 m n i j is
