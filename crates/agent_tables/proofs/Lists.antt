-- Lists that are walked over, and the first of two answers.
use Rattle.std.specs.Prelude.{◌≡◌, ◌<◌, ◌≤◌, ℕ, suc, ◌+◌, length, drop, get_or, List, [], ◌∷◌, true, is_some}
use Rattle.std.specs.declared.option.Option.{Option}
use Rattle.std.specs.declared.option.Option.TheVariants.{Some, None}
use Rattle.std.proofs.Math.Seq.{drop-cons}
use Rattle.std.proofs.Common.{refl, ◌∙◌, ap, arith}
use Rattle.std.proofs.Math.ListN.{drop_of_length-le}
use Rattle.node_core.specs.NodeModel.Agent.{first_some}

next : (k : ℕ) → suc k ≡ k + 1
next k = omega arith

-- one turn of a walk
pub turn_at : {A : Type 0} (items : List A) (k : ℕ) (d : A) → k < length items → drop k items ≡ get_or items k d ∷ drop (k + 1) items
turn_at items k d lt = drop-cons items k d lt ∙ ap (λ n. get_or items k d ∷ drop n items) (next k)

pub or_none : {A : Type 0} (o : Option A) → first_some o None ≡ o
or_none None = refl
or_none (Some x) = refl

pub or_assoc : {A : Type 0} (a b c : Option A) → first_some (first_some a b) c ≡ first_some a (first_some b c)
or_assoc None b c = refl
or_assoc (Some x) b c = refl

pub or_there : {A : Type 0} (o p : Option A) → is_some o ≡ true → first_some o p ≡ o
or_there (Some x) p e = refl
or_there None p e = cc

pub rest_none : {A : Type 0} (items : List A) (k : ℕ) → length items ≤ k → drop k items ≡ []
rest_none items k past = drop_of_length-le items past
