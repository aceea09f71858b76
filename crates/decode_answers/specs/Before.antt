-- Messages that stand before others in octets.
use Rattle.std.specs.Prelude.{◌≡◌, ◌⊎◌, ℕ, Bool, List, [], ◌∷◌, ◌++◌, drop}
use Rattle.bgp_wire.specs.declared.fault.WireFault.{WireFault}
use Rattle.bgp_wire.specs.Content.{Content, Updates, UpdateFields}
use Rattle.bgp_wire.specs.Messages.{BeginsWith}
use Rattle.rt_membership.specs.Memberships.{HasMembershipFault}
use Rattle.decode_answers.specs.Decoding.{IsReport}

-- octets are these messages, one after the other, and then the rest
abbrev pub AreMessages : List ℕ → List Content → List ℕ → Type 0
AreMessages octets [] rest = octets ≡ rest
AreMessages octets (content ∷ contents) rest =
    (count : ℕ) × BeginsWith octets content count × AreMessages (drop count octets) contents rest

-- a message is an UPDATE with a fault, read wide or not
pub record IsFaultyUpdate (content : Content) : Type 0 where
  pub parts : UpdateFields
  pub wide : Bool
  pub fault : WireFault
  pub is : content ≡ Updates parts
  pub faulty : HasMembershipFault wide parts fault

abbrev pub HasFaultyUpdate : List Content → Type 0
HasFaultyUpdate [] = ⊥
HasFaultyUpdate (content ∷ contents) = IsFaultyUpdate content ⊎ HasFaultyUpdate contents

-- a text ends in a report of the rest, which is read wide or not
pub record TellsRest (wide : Bool) (rest text : List ℕ) : Type 0 where
  pub told : List ℕ
  pub more : List ℕ
  pub is : text ≡ told ++ more
  pub report : IsReport wide rest more
