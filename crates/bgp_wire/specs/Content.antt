-- What messages say, whatever octets they lie in.
use Rattle.std.specs.Prelude.{ℕ, List}
use Rattle.bgp_wire.specs.Parts.{Part}

-- the fields of an OPEN; of each of its parameters, the capabilities
pub record OpenFields : Type 0 where
  pub my_as : ℕ
  pub hold : ℕ
  pub id : ℕ
  pub parameters : List (List Part)

-- the parts of an UPDATE
pub record UpdateFields : Type 0 where
  pub withdrawn : List ℕ
  pub attributes : List ℕ
  pub routes : List ℕ

pub data Content : Type 0 where
  Opens : OpenFields → Content
  Updates : UpdateFields → Content
  Notifies : (code subcode : ℕ) → Content
  KeepsAlive : Content
