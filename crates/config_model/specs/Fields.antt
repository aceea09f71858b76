-- Members of objects and items of lists.
use Rattle.std.specs.Prelude.{ℕ, ◌+◌, ◌∷◌, [], List, ⊤, Bool, true, not, nat_le, ◌==◌, nat_eq, Option, Some, None}
use Rattle.std.specs.Prelude.{Result, Ok, if◌then◌else◌}
use Rattle.std.specs.List.{list_any}
use Rattle.std.specs.Cmp.Lexicographic.{pointwise}
use Rattle.serde_json.specs.Data.{Num, unsigned, negative, float, Data, Items, no_items, item, Members, no_members}
use Rattle.serde_json.specs.Data.{member}
use Rattle.serde_json.specs.Events.{items_len}
use Rattle.serde_json.specs.Find.{get, as_number, as_str, as_array, as_object}
use Rattle.ov_types.specs.Name.{name_of}
use Rattle.ov_types.specs.Prefix.{Block}
use Rattle.ov_types.specs.declared.prefix.Addr.{Addr}
use Rattle.config_model.specs.declared.fault.DocKind.TheVariants.{Missing, Kind, Range, Unknown}
use Rattle.config_model.specs.declared.fields.Count.{Count}
use Rattle.config_model.specs.declared.fields.Count.TheVariants.{AnyNumber, AtLeastOne, OneOrTwo, Two}
use Rattle.config_model.specs.Paths.{member_path, item_path}
use Rattle.config_model.specs.Faults.{Fault, ◌>>=◌, refused, wanted, kept}
use Rattle.config_types.specs.Form.{is_from_to}
use Rattle.ov_types.specs.Written.{address_of, block_of}

-- how to read a value at a path
abbrev pub Reads : Type 0 → Type 0
Reads A = List ℕ → Data → Result A Fault

-- a member that has to be there
unfoldable pub member_at : List ℕ → List ℕ → Data → Result Data Fault
member_at path name d = wanted (member_path path name) Missing (get name d)

-- what is read from a member that has to be there
unfoldable pub in_member : {A : Type 0} → Reads A → List ℕ → List ℕ → Data → Result A Fault
in_member reads path name d = do
  found ← member_at path name d
  reads (member_path path name) found

unfoldable pub object_at : List ℕ → Data → Result Members Fault
object_at path d = wanted path Kind (as_object d)

unfoldable pub text_at : List ℕ → Data → Result (List ℕ) Fault
text_at path d = wanted path Kind (as_str d)

abbrev pub whole_of : ℕ → ℕ → List ℕ → Option Num → Result ℕ Fault
whole_of low high path None = refused path Kind
whole_of low high path (Some (unsigned n)) = kept path (is_from_to low high n) n
whole_of low high path (Some (negative z)) = refused path Range
whole_of low high path (Some (float x)) = refused path Kind

-- a whole number from low to high
unfoldable pub whole_at : ℕ → ℕ → List ℕ → Data → Result ℕ Fault
whole_at low high path d = whole_of low high path (as_number d)

unfoldable pub name_at : List ℕ → Data → Result (List ℕ) Fault
name_at path d = do
  text ← text_at path d
  wanted path Range (name_of text)

-- a name that is not the reserved one
unfoldable pub name_but_at : List ℕ → List ℕ → Data → Result (List ℕ) Fault
name_but_at reserved path d = do
  name ← name_at path d
  kept path (not (pointwise nat_eq name reserved)) name

-- an address from low to high
unfoldable pub address_at : ℕ → ℕ → List ℕ → Data → Result Addr Fault
address_at low high path d = do
  text ← text_at path d
  n ← wanted path Range (address_of text)
  kept path (is_from_to low high n) (record { 0 = n })

unfoldable pub prefix_at : List ℕ → Data → Result Block Fault
prefix_at path d = do
  text ← text_at path d
  wanted path Range (block_of text)

-- the first name that is none of these
abbrev pub first_other : List (List ℕ) → Members → Option (List ℕ)
first_other known no_members = None
first_other known (member k d ms) = if list_any (λ x. pointwise nat_eq x k) known then first_other known ms else Some k

abbrev pub none_left : List ℕ → Option (List ℕ) → Result ⊤ Fault
none_left path None = Ok tt
none_left path (Some k) = refused (member_path path k) Unknown

-- no member but these; of others the first is the fault
unfoldable pub only_at : List ℕ → List (List ℕ) → Members → Result ⊤ Fault
only_at path known ms = none_left path (first_other known ms)

-- whether a list may have this number of items
abbrev pub allows : Count → ℕ → Bool
allows AnyNumber n = true
allows AtLeastOne n = nat_le 1 n
allows OneOrTwo n = is_from_to 1 2 n
allows Two n = n == 2

-- a list of a number of items that is allowed
unfoldable pub list_at : Count → List ℕ → Data → Result Items Fault
list_at count path d = do
  items ← wanted path Kind (as_array d)
  kept path (allows count (items_len items)) items

-- each item of a list in order, the first at place i
unfoldable pub items_at : {A : Type 0} → Reads A → List ℕ → ℕ → Items → Result (List A) Fault
items_at reads path i no_items = Ok []
items_at reads path i (item d ds) = do
  first ← reads (item_path path i) d
  others ← items_at reads path (i + 1) ds
  Ok (first ∷ others)

-- a list, whose items are read once their number is allowed
unfoldable pub all_at : {A : Type 0} → Reads A → Count → List ℕ → Data → Result (List A) Fault
all_at reads count path d = do
  items ← list_at count path d
  items_at reads path 0 items

abbrev pub all_if_there : {A : Type 0} → Reads A → List ℕ → Option Data → Result (List A) Fault
all_if_there reads path None = Ok []
all_if_there reads path (Some d) = all_at reads AnyNumber path d

-- a list that may be absent, which is read as empty
unfoldable pub optional_all : {A : Type 0} → Reads A → List ℕ → List ℕ → Data → Result (List A) Fault
optional_all reads path name d = all_if_there reads (member_path path name) (get name d)
