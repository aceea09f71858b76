-- Paths in a document.
use Rattle.std.specs.Prelude.{ℕ, List, [], ◌++◌, length, ◌==◌, if◌then◌else◌, codes, decimal}
use Rattle.config_model.specs.declared.fault.DocumentPlace.{DocumentPlace, Whole, Member', Item'}

-- the path of a member of the object at a path
abbrev pub member_path : List ℕ → List ℕ → List ℕ
member_path path name = if length path == 0 then name else path ++ (codes "." ++ name)

-- the path of an item of the list at a path; items are counted from 0
abbrev pub item_path : List ℕ → ℕ → List ℕ
item_path path index = path ++ (codes "[" ++ (decimal index ++ codes "]"))

abbrev pub place_text : DocumentPlace → List ℕ
place_text Whole = []
place_text (Member' pointer outer name) = member_path (place_text outer) name.now
place_text (Item' pointer outer index) = item_path (place_text outer) index
