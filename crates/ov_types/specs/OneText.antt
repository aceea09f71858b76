-- One text for each address, prefix and name.
use Rattle.std.specs.Prelude.{◌≡◌, ◌↔◌, ℕ, ◌<◌, ◌^◌, List, IsTrue, Some}
use Rattle.ov_types.specs.Name.{is_name, name_of}
use Rattle.ov_types.specs.Prefix.{Block, is_prefix}
use Rattle.ov_types.specs.Texts.{address_text, prefix_text}
use Rattle.ov_types.specs.Written.{address_of, block_of}

-- each address has one text, which reads as it, and no other text does
abbrev pub AddressHasOneText : Type 0
AddressHasOneText = (text : List ℕ) (n : ℕ) → (address_of text ≡ Some n) ↔ ((n < 2 ^ 32) × (text ≡ address_text n))

-- each prefix has one text, which reads as it, and no other text does
abbrev pub PrefixHasOneText : Type 0
PrefixHasOneText = (text : List ℕ) (b : Block) → (block_of text ≡ Some b)
    ↔ ((b.addr < 2 ^ 32) × IsTrue (is_prefix b.addr b.len) × (text ≡ prefix_text b))

-- each name is its own text
abbrev pub NameIsItsText : Type 0
NameIsItsText = (text name : List ℕ) → (name_of text ≡ Some name) ↔ (IsTrue (is_name name) × (text ≡ name))
