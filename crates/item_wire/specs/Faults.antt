-- Reading that stops at the first fault.
use Rattle.std.specs.Prelude.{◌≡◌, Option, Some, None, Result, Ok, Err}
use Rattle.item_wire.specs.declared.fault.ItemFault.{ItemFault}
use Rattle.item_wire.specs.declared.fault.ItemRefusal.{ItemRefusal}
use Rattle.item_wire.specs.declared.fault.ItemRefusal.TheVariants.{Fault, NoMemory}

-- reading goes on with what was read, and stops at the first fault
infixl 10 ◌>>=◌
abbrev pub ◌>>=◌ : {A B : Type 0} → Result A ItemFault → (A → Result B ItemFault) → Result B ItemFault
(Ok x) >>= f = f x
(Err e) >>= f = Err e

-- the value, where there is one
abbrev pub wanted : {A : Type 0} → ItemFault → Option A → Result A ItemFault
wanted fault None = Err fault
wanted fault (Some x) = Ok x

-- what a function returned, seen by view, is what reading gives
abbrev pub IsRead : {X Y : Type 0} → (X → Y) → Result X ItemFault → Result Y ItemFault → Type 0
IsRead view (Ok x) read = read ≡ Ok (view x)
IsRead view (Err fault) read = read ≡ Err fault

-- reading stops at what the refusal says, or memory ran out
abbrev pub Fails : {Y : Type 0} → ItemRefusal → Result Y ItemFault → Type 0
Fails (Fault fault) read = read ≡ Err fault
Fails NoMemory read = Unit {0}

-- what a function returned is what reading gives, unless memory ran out
abbrev pub Gives : {X : Type 0} → Result X ItemRefusal → Result X ItemFault → Type 0
Gives (Ok x) read = read ≡ Ok x
Gives (Err e) read = Fails e read
