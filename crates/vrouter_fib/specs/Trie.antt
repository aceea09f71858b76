-- What a trie over the bits of prefixes stands for.
use Rattle.std.specs.Prelude.{◌≤◌, ◌+◌, ◌^◌, ◌&&◌, nat_le, ℕ, Bool, true, false, IsTrue, List, [], ◌∷◌, ◌++◌}
use Rattle.std.specs.declared.option.Option.{Option}
use Rattle.std.specs.declared.option.Option.TheVariants.{Some, None}
use Rattle.ov_types.specs.Prefix.{Block, contains, is_prefix, size_of}
use Rattle.ov_types.specs.declared.rows.Entry.{Entry}
use Rattle.vrouter_fib.specs.declared.trie.Trie.{Trie}
use Rattle.vrouter_fib.specs.declared.trie.Trie.TheVariants.{Empty, Node'}

-- the two halves of a block
abbrev pub lower_half : Block → Block
lower_half b = record { addr = b.addr; len = b.len + 1 }

abbrev pub upper_half : Block → Block
upper_half b = record { addr = b.addr + size_of (b.len + 1); len = b.len + 1 }

-- the block of all addresses
abbrev pub all_addresses : Block
all_addresses = record { addr = 0; len = 0 }

-- the route of a block itself, where there is one
abbrev pub own : Block → Option Entry → List (Block × Entry)
own b None = []
own b (Some e) = (b, e) ∷ []

-- the routes of a node that stands for a block: that of the block itself, those in its lower half, those in its upper
abbrev pub routes_at : Trie → Block → List (Block × Entry)
routes_at Empty b = []
routes_at (Node' p entry lower upper) b =
    own b entry ++ (routes_at lower (lower_half b) ++ routes_at upper (upper_half b))

-- a node that stands for a block of this length stands for one of at most 32, and so do those below it
abbrev pub is_deep : Trie → ℕ → Bool
is_deep Empty len = true
is_deep (Node' p entry lower upper) len = nat_le len 32 && (is_deep lower (len + 1) && is_deep upper (len + 1))

abbrev pub IsDeep : Trie → ℕ → Type 0
IsDeep t len = IsTrue (is_deep t len)

-- the routes of a whole trie
unfoldable pub routes_of : Trie → List (Block × Entry)
routes_of t = routes_at t all_addresses

-- a block of addresses, of which the last is below 2 ^ 32
abbrev pub IsSpan : Block → Type 0
IsSpan b = IsTrue (is_prefix b.addr b.len) × (b.addr + size_of b.len ≤ 2 ^ 32)

-- a prefix that begins in a block, and is no longer a block than that
abbrev pub IsIn : Block → Block → Type 0
IsIn b p = IsTrue (contains b p.addr) × (b.len ≤ p.len)

-- the entry of a route, or else another
abbrev pub entry_or : Option (Block × Entry) → Option Entry → Option Entry
entry_or None other = other
entry_or (Some r) other = Some r.1

-- whether there is a node
abbrev pub is_node : Trie → Bool
is_node Empty = false
is_node (Node' p entry lower upper) = true
