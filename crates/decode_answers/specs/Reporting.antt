-- How far a report has come.
use Rattle.std.specs.Prelude.{◌≡◌, ◌||◌, ℕ, Bool, List, [], ◌++◌, Option, Some, None}
use Rattle.ov_io.specs.Pieces.{IsOnItsWay}
use Rattle.bgp_wire.specs.declared.fault.WireFault.{WireFault}
use Rattle.bgp_wire.specs.Content.{Content, Updates, UpdateFields}
use Rattle.bgp_wire.specs.Messages.{BeginsWith}
use Rattle.rt_membership.specs.Memberships.{HasMembershipFault}
use Rattle.report.specs.Lines.{fault_line}
use Rattle.decode_answers.specs.declared.decoding.First.{First}
use Rattle.decode_answers.specs.declared.decoding.Told.{Told}
use Rattle.decode_answers.specs.declared.decoding.Told.TheVariants.{Whole, Faulty}
use Rattle.decode_answers.specs.Decoding.{is_wide_open, Says, IsReport}

-- a message without a fault was told, so that its text was appended
pub record WasTold (wide : Bool) (content : Content) (before after : List ℕ) : Type 0 where
  pub said : List ℕ
  pub says : Says wide content said
  pub appended : after ≡ before ++ said

-- the message is an UPDATE with a fault, which was told
pub record WasFaulty (wide : Bool) (content : Content) (before after : List ℕ) : Type 0 where
  pub parts : UpdateFields
  pub fault : WireFault
  pub update : content ≡ Updates parts
  pub faulty : HasMembershipFault wide parts fault
  pub appended : after ≡ before ++ fault_line fault.code fault.subcode

abbrev pub Tells : Bool → Content → List ℕ → List ℕ → Told → Type 0
Tells wide content before after Whole = WasTold wide content before after
Tells wide content before after Faulty = WasFaulty wide content before after

-- the octets begin with a message of so many octets, and so is read what stands behind it
pub record IsFirst (wide : Bool) (octets : List ℕ) (first : First) (content : Content) : Type 0 where
  pub begins : BeginsWith octets content first.count
  pub behind : first.wide ≡ (wide || is_wide_open content)

-- the first message was told
pub record ToldFirst (wide : Bool) (octets : List ℕ) (first : First) (before after : List ℕ) : Type 0 where
  pub content : Content
  pub is_first : IsFirst wide octets first content
  pub told : WasTold wide content before after

-- the whole report of the octets was appended
pub record ToldAll (wide : Bool) (octets before after : List ℕ) : Type 0 where
  pub text : List ℕ
  pub report : IsReport wide octets text
  pub appended : after ≡ before ++ text

-- the first message was told; or nothing is left to tell
abbrev pub Progress : Bool → List ℕ → List ℕ → List ℕ → Option First → Type 0
Progress wide octets before after (Some first) = ToldFirst wide octets first before after
Progress wide octets before after None = ToldAll wide octets before after

-- a report of the octets stands behind a text
pub record IsReportBehind (wide : Bool) (before octets text : List ℕ) : Type 0 where
  pub more : List ℕ
  pub report : IsReport wide octets more
  pub behind : text ≡ before ++ more

-- what the first message says was handed on
pub record MovesOn (wide : Bool) (octets : List ℕ) (first : First) (old new : Option (List ℕ)) (before after : List ℕ)
    : Type 0 where
  pub content : Content
  pub said : List ℕ
  pub is_first : IsFirst wide octets first content
  pub says : Says wide content said
  pub way : IsOnItsWay old new after [] (before ++ said)

-- the whole report of the octets was handed on
pub record MovesAll (wide : Bool) (octets : List ℕ) (old new : Option (List ℕ)) (before after : List ℕ) : Type 0 where
  pub text : List ℕ
  pub report : IsReport wide octets text
  pub way : IsOnItsWay old new after [] (before ++ text)

-- what is told of the first message was handed on; or nothing is left to tell
abbrev pub Moves : Bool → List ℕ → Option (List ℕ) → Option (List ℕ) → List ℕ → List ℕ → Option First → Type 0
Moves wide octets old new before after (Some first) = MovesOn wide octets first old new before after
Moves wide octets old new before after None = MovesAll wide octets old new before after
