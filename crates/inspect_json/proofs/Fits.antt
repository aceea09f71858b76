-- Values that are fit to be written and read.
use Rattle.std.proofs.Common.{◌≡◌, ℕ, zero, suc, ◌<◌, ◌^◌, List, IsUtf8}
use Rattle.std.specs.Prelude.{⊤}
use Rattle.serde_json.specs.Data.{unsigned, negative, float, Data, null, boolean, number, string, array, object, Items, no_items, item, Members, no_members, member, put}

-- the members, each read
abbrev pub read_one_by_one : Members → Members → Members
read_one_by_one no_members found = found
read_one_by_one (member name d ms) found = read_one_by_one ms (put name d found)

-- a value whose numbers are whole, of 64 bits and not below zero, whose texts are UTF-8, whose members are in order, and that
-- nests at most so deep
abbrev mutual
  pub IsFit : ℕ → Data → Type 0
  IsFit k null = ⊤
  IsFit k (boolean b) = ⊤
  IsFit k (number (unsigned n)) = n < 2 ^ 64
  IsFit k (number (negative z)) = ⊥
  IsFit k (number (float x)) = ⊥
  IsFit k (string s) = IsUtf8 s
  IsFit zero (array ds) = ⊥
  IsFit (suc k) (array ds) = AreFit k ds
  IsFit zero (object ms) = ⊥
  IsFit (suc k) (object ms) = HasFit k ms × (read_one_by_one ms no_members ≡ ms)

  pub AreFit : ℕ → Items → Type 0
  AreFit k no_items = ⊤
  AreFit k (item d ds) = IsFit k d × AreFit k ds

  pub HasFit : ℕ → Members → Type 0
  HasFit k no_members = ⊤
  HasFit k (member name d ms) = IsUtf8 name × IsFit k d × HasFit k ms
