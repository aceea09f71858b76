-- Targets among imports.
use Rattle.std.specs.Prelude.{◌≡◌, List, [], Bool, true, false, ◌||◌}
use Rattle.std.specs.declared.option.Option.{Option}
use Rattle.std.specs.declared.option.Option.TheVariants.{Some, None}
use Rattle.std.specs.List.{cons_option, list_any}
use Rattle.std.proofs.Common.{refl, sym, ◌∙◌, ap}
use Rattle.ov_types.specs.declared.targets.Target.{Target}

-- a test of the first of some targets, where there is one, and of those that are left
pub first_then : (p : Target → Bool) (o : Option Target) (ys : List Target) → list_any p (cons_option o ys) ≡ (list_any p (cons_option o []) || list_any p ys)
first_then p None ys = refl
first_then p (Some x) ys = turn (p x)
  where
    turn : (b : Bool) → (b || list_any p ys) ≡ ((b || false) || list_any p ys)
    turn true = refl
    turn false = refl

pub first_is : (p : Target → Bool) (o : Option Target) (ys : List Target) → list_any p (cons_option o []) ≡ true → true ≡ list_any p (cons_option o ys)
first_is p o ys e = sym (first_then p o ys ∙ ap (λ b. b || list_any p ys) e)

pub first_is_not : (p : Target → Bool) (o : Option Target) (ys : List Target) → list_any p (cons_option o []) ≡ false → list_any p (cons_option o ys) ≡ list_any p ys
first_is_not p o ys e = first_then p o ys ∙ ap (λ b. b || list_any p ys) e
