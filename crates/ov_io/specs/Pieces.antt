-- Text that is gathered, and handed to a sink in pieces.
use Rattle.std.specs.Prelude.{◌≡◌, ℕ, List, ◌++◌, Option, Result, Ok, Err}
use Rattle.std.specs.Io.KnownBytes.{Appends}
use Rattle.ov_io.specs.Causes.{Rose}
use Rattle.ov_io.specs.Inputs.{TookFront}
use Rattle.ov_io.specs.declared.pieces.WriteRefusal.{WriteRefusal}
use Rattle.ov_io.specs.declared.pieces.WriteRefusal.TheVariants.{Fault, NoMemory}

-- what a sink took, then what is gathered, then what is left is the whole text
pub record IsOnItsWay (old new : Option (List ℕ)) (gathered left whole : List ℕ) : Type 0 where
  pub taken : List ℕ
  pub appended : Appends old new taken
  pub joined : taken ++ (gathered ++ left) ≡ whole

-- a text of which this holds was taken whole
pub record TookText (Is : List ℕ → Type 0) (old new : Option (List ℕ)) : Type 0 where
  pub text : List ℕ
  pub is : Is text
  pub taken : Appends old new text

-- a front of a text of which this holds was taken
pub record TookFrontOf (Is : List ℕ → Type 0) (old new : Option (List ℕ)) : Type 0 where
  pub text : List ℕ
  pub is : Is text
  pub taken : TookFront old new text

-- the count of a sink's faults rose where the answer is a fault, and else stayed
abbrev pub HasWriteCause : {T : Type 0} → ℕ → ℕ → Result T WriteRefusal → Type 0
HasWriteCause before now (Ok x) = now ≡ before
HasWriteCause before now (Err Fault) = Rose before now
HasWriteCause before now (Err NoMemory) = now ≡ before
