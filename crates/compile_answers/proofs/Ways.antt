-- Texts that are handed on one after the other.
use Rattle.std.proofs.Common.{ℕ, List, [], ◌++◌, Option, refl, sym, subst}
use Rattle.std.proofs.lemmas.List.{append_assoc, append-nil}
use Rattle.std.specs.Prelude.{OnOk, OnErr, Result, Ok, Err}
use Rattle.ov_io.specs.Inputs.{TookFront}
use Rattle.ov_io.specs.Pieces.{IsOnItsWay}
use Rattle.ov_io.proofs.PieceLemmas.{way_begins, way_breaks, way_goes_on, way_lengthens}

-- a text is on its way, and another is left
longer : (old mid : Option (List ℕ)) (g before a b : List ℕ) → IsOnItsWay old mid before [] (g ++ a) → IsOnItsWay old mid before b (g ++ (a ++ b))
longer old mid g before a b way =
    subst (λ (t : List ℕ). IsOnItsWay old mid before b t) (append_assoc g a b) (way_lengthens old mid before [] b (g ++ a) way)

-- both are on their way
pub way_then : (old mid new : Option (List ℕ)) (g before after a b : List ℕ) → IsOnItsWay old mid before [] (g ++ a)
    → IsOnItsWay mid new after [] (before ++ b) → IsOnItsWay old new after [] (g ++ (a ++ b))
way_then old mid new g before after a b way on =
    way_goes_on old mid new before after b b [] (g ++ (a ++ b)) (longer old mid g before a b way) (sym (append-nil b)) on

-- a front of the first is a front of both
pub front_first : (old new : Option (List ℕ)) (g a b : List ℕ) → TookFront old new (g ++ a) → TookFront old new (g ++ (a ++ b))
front_first old new g a b stop = way_breaks old old new g a (a ++ b) b (g ++ (a ++ b)) (way_begins old g (a ++ b)) refl stop

-- the first, and a front of the second
pub front_then : (old mid new : Option (List ℕ)) (g before a b : List ℕ) → IsOnItsWay old mid before [] (g ++ a)
    → TookFront mid new (before ++ b) → TookFront old new (g ++ (a ++ b))
front_then old mid new g before a b way stop =
    way_breaks old mid new before b b [] (g ++ (a ++ b)) (longer old mid g before a b way) (sym (append-nil b)) stop

-- as what the call for the second answers
pub ok_then : {E : Type 0} (r : Result Unit E) (old mid new : Option (List ℕ)) (g before after a b : List ℕ)
    → IsOnItsWay old mid before [] (g ++ a) → OnOk r (IsOnItsWay mid new after [] (before ++ b))
    → OnOk r (IsOnItsWay old new after [] (g ++ (a ++ b)))
ok_then (Ok x) old mid new g before after a b way on = way_then old mid new g before after a b way on
ok_then (Err e) old mid new g before after a b way on = tt

pub err_then : {E : Type 0} (r : Result Unit E) (old mid new : Option (List ℕ)) (g before a b : List ℕ)
    → IsOnItsWay old mid before [] (g ++ a) → OnErr r (TookFront mid new (before ++ b))
    → OnErr r (TookFront old new (g ++ (a ++ b)))
err_then (Ok x) old mid new g before a b way stop = tt
err_then (Err e) old mid new g before a b way stop = front_then old mid new g before a b way stop
