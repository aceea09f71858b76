-- The words of the command line.
use Rattle.std.specs.Prelude.{◌≡◌, ◌≤◌, ◌&&◌, ◌+◌, ◌-◌, ◌*◌, ℕ, Bool, List, [], ◌∷◌, codes, nat_eq, nat_le, decimal}
use Rattle.std.specs.Prelude.{Option, Some, None, ⊤}
use Rattle.std.specs.Prelude.{String, string_bytes, if◌then◌else◌}
use Rattle.std.specs.Option.{option_map}
use Rattle.std.specs.declared.alloc.Global.{Global}
use Rattle.std.specs.Cmp.Lexicographic.{pointwise}
use Rattle.top_call.specs.declared.command.Command.{Command}
use Rattle.top_call.specs.declared.command.Command.TheVariants.{Compile, Reach, Scale, Constrain, Graceful, Flows, Run, Decode, Gen}

-- the command of a name
abbrev pub command_named : List ℕ → Option Command
command_named word =
    if pointwise nat_eq word (codes "compile") then Some Compile
    else (if pointwise nat_eq word (codes "reach") then Some Reach
    else (if pointwise nat_eq word (codes "scale") then Some Scale
    else (if pointwise nat_eq word (codes "constrain") then Some Constrain
    else (if pointwise nat_eq word (codes "graceful") then Some Graceful
    else (if pointwise nat_eq word (codes "flows") then Some Flows
    else (if pointwise nat_eq word (codes "run") then Some Run
    else (if pointwise nat_eq word (codes "decode") then Some Decode else None)))))))

-- a decimal digit, and one that is not 0 (US-ASCII)
abbrev pub is_digit : ℕ → Bool
is_digit c = nat_le 48 c && nat_le c 57

abbrev pub is_first_digit : ℕ → Bool
is_first_digit c = nat_le 49 c && nat_le c 57

-- the number 1 to 999 that a text writes: one to three decimal digits, of which the first is not 0
unfoldable pub scenario_number : List ℕ → Option ℕ
scenario_number (a ∷ []) = if is_first_digit a then Some (a - 48) else None
scenario_number (a ∷ b ∷ []) =
    if is_first_digit a && is_digit b then Some (10 * (a - 48) + (b - 48)) else None
scenario_number (a ∷ b ∷ c ∷ []) =
    if is_first_digit a && (is_digit b && is_digit c) then Some (100 * (a - 48) + (10 * (b - 48) + (c - 48))) else None
scenario_number _ = None

-- a number 1 to 999, and its decimal text
pub record IsInDecimal (n : ℕ) (text : List ℕ) : Type 0 where
  pub first : 1 ≤ n
  pub last : n ≤ 999
  pub is : text ≡ decimal n

-- the command of a name with a number
abbrev pub command_numbered : List ℕ → List ℕ → Option Command
command_numbered word number =
    if pointwise nat_eq word (codes "gen") then option_map Gen (scenario_number number) else None

-- the command that words name: one word, alone, or `gen` and a number
abbrev pub command_of : List (String Global) → Option Command
command_of [] = None
command_of (word ∷ []) = command_named (string_bytes word)
command_of (word ∷ number ∷ []) = command_numbered (string_bytes word) (string_bytes number)
command_of (word ∷ number ∷ other ∷ words) = None

-- the number of a scenario is one of 1 to 999
abbrev pub IsCommand : Command → Type 0
IsCommand (Gen n) = (1 ≤ n) × (n ≤ 999)
IsCommand command = ⊤
