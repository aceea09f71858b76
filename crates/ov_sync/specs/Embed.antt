-- A keyed map under other keys that lie in the same order.
use Rattle.std.specs.Prelude.{map}
use Rattle.std.specs.declared.cmp.Ordering.{Ordering}
use Rattle.std.specs.FinMap.{FinMap, entries, from_entries}
use Rattle.ov_sync.specs.declared.Delta.{Delta}
use Rattle.ov_sync.specs.declared.Delta.TheVariants.{Put, Drop}

module _ {K L V W : Type 0} (f : K → L) (g : V → W) where
  abbrev pub moved_entry : K × V → L × W
  moved_entry e = (f e.0, g e.1)

  abbrev pub moved_delta : Delta K V → Delta L W
  moved_delta (Put k v) = Put (f k) (g v)
  moved_delta (Drop k) = Drop (f k)

-- a keyed map under other keys, with each key and value as f and g have them
abbrev pub embedded : {K L V W : Type 0} {R : K → K → Ordering} {S : L → L → Ordering} → (K → L) → (V → W) → FinMap R V
    → FinMap S W
embedded f g m = from_entries (map (moved_entry f g) (entries m))
