-- Which packets a list of configurations keeps, and which changes of a configuration are hitless: they interrupt no packet
-- that was delivered before and is after.
use Rattle.std.specs.Prelude.{◌≡◌, List, [], ◌∷◌, IsTrue, None}
use Rattle.std.specs.List.{All, Any}
use Rattle.ov_types.specs.declared.numbers.PortNo.{PortNo}
use Rattle.ov_types.specs.declared.numbers.ServiceNo.{ServiceNo}
use Rattle.ov_types.specs.declared.packet.Outcome.TheVariants.{Delivered}
use Rattle.ov_types.specs.declared.packet.Packet.{Packet}
use Rattle.config_types.specs.Form.{has_config_form}
use Rattle.config_types.specs.declared.edit.Edit.{Edit}
use Rattle.config_check.specs.Checked.{Checked}
use Rattle.config_check.specs.Edits.{edit_fault, edited}
use Rattle.config_check.specs.Rules.{first_broken}
use Rattle.reach_plain.specs.Reachability.{reachability}
use Rattle.hitless_cells.specs.Ways.{LeadsTo, Offers, Track, Way}

-- configurations keep a packet to a port by some ways: each leads it there by one of them, each way is taken by a
-- configuration, and each is offered by all configurations with one track
pub record Keep (xs : List Checked) (p : Packet) (number : PortNo) (ways : List Way) : Type 0 where
  pub leads : All (λ x. Any (λ way. LeadsTo x.config p number way) ways) xs
  pub taken : All (λ way. Any (λ x. LeadsTo x.config p number way) xs) ways
  pub offered : All (λ way. (track : Track) × All (λ x. Offers x p number way track) xs) ways

-- both configurations offer a way for a packet to a port, with one track
abbrev pub OfferAlike : Checked → Checked → Packet → PortNo → Way → Type 0
OfferAlike x y p number way = (track : Track) × Offers x p number way track × Offers y p number way track

-- a configuration delivers a packet to a port, through whichever services
abbrev pub Delivers : Checked → Packet → PortNo → Type 0
Delivers x p number = (services : List ServiceNo) × (reachability x.config p ≡ Delivered number services)

-- each packet that both configurations deliver they deliver to one port, and both keep it
pub record IsHitless (x y : Checked) : Type 0 where
  pub kept : (p : Packet) (number : PortNo) → Delivers x p number → Delivers y p number
      → (ways : List Way) × Keep (x ∷ y ∷ []) p number ways
  pub one_port : (p : Packet) (before after : PortNo) → Delivers x p before → Delivers y p after → before ≡ after

-- an edit is hitless where it is refused, or where the change to what it makes is
abbrev pub IsHitlessEdit : Checked → Edit → Type 0
IsHitlessEdit x e = edit_fault x e ≡ None → IsHitless x (edited e x)

-- a configuration of the written form that breaks no rule
pub record IsValidAsWritten (x : Checked) : Type 0 where
  pub form : IsTrue (has_config_form x.config)
  pub valid : first_broken x.topology x.config ≡ None

-- all that the first configuration delivers the second delivers to the same port, through the same services
abbrev pub DeliversAlike : Checked → Checked → Type 0
DeliversAlike x y =
    (p : Packet) (number : PortNo) (services : List ServiceNo)
    → reachability x.config p ≡ Delivered number services → reachability y.config p ≡ Delivered number services
