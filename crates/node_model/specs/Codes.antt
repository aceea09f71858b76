-- How values, maps and ends are told apart: by the codes of their parts.
use Rattle.std.specs.Prelude.{◌≡◌, ◌⊎◌, ℕ, zero, suc, refl, Bool}
use Rattle.std.specs.Coded.{Coded, code_by, coded×, coded⊎, coded_ℕ, coded_bool}
use Rattle.std.specs.FinMap as finite
use Rattle.std.proofs.Common.{inl, inr}
use Rattle.ov_types.specs.declared.numbers.Label.{Label as LabelNo}
use Rattle.ov_types.specs.declared.objects.LowValue.{LowValue}
use Rattle.ov_types.specs.declared.rows.Entry.{Entry as RouteEntry}
use Rattle.ov_types.specs.declared.vpn.VpnRoute.{VpnRoute}
use Rattle.ov_types.specs.contracts.objects.LowValue as objects
use Rattle.ov_types.specs.contracts.rows.Entry as entries
use Rattle.ov_types.specs.contracts.numbers.Label as labels
use Rattle.ov_types.specs.contracts.vpn.VpnRoute as routes
use Rattle.node_model.specs.Keys.{coded_key}
use Rattle.node_model.specs.Values.{Value, Object, Route, Entry, Label}
use Rattle.node_model.specs.Maps.{Map}
use Rattle.node_model.specs.Step.{Phase, Idle, Opened, Confirmed, Up, Post}

abbrev pub Parts : Type 0
Parts = LowValue ⊎ (VpnRoute ⊎ (RouteEntry ⊎ LabelNo))

abbrev pub part : Value → Parts
part (Object v) = inl v
part (Route r) = inr (inl r)
part (Entry e) = inr (inr (inl e))
part (Label l) = inr (inr (inr l))

abbrev pub value_of : Parts → Value
value_of (inl v) = Object v
value_of (inr (inl r)) = Route r
value_of (inr (inr (inl e))) = Entry e
value_of (inr (inr (inr l))) = Label l

pub parts_tell : (v : Value) → value_of (part v) ≡ v
parts_tell (Object v) = refl
parts_tell (Route r) = refl
parts_tell (Entry e) = refl
parts_tell (Label l) = refl

abbrev pub coded_value : Coded Value
coded_value =
    code_by Parts
    (coded⊎ objects.the_row.coded (coded⊎ routes.the_row.coded (coded⊎ entries.the_row.coded labels.the_row.coded)))
    part value_of parts_tell

abbrev pub coded_map : Coded Map
coded_map = finite.code coded_key coded_value

-- the states of an end by number
abbrev pub phase_number : Phase → ℕ
phase_number Idle = 0
phase_number Opened = 1
phase_number Confirmed = 2
phase_number Up = 3

abbrev pub phase_at : ℕ → Phase
phase_at zero = Idle
phase_at (suc zero) = Opened
phase_at (suc (suc zero)) = Confirmed
phase_at (suc (suc (suc n))) = Up

pub phases_tell : (p : Phase) → phase_at (phase_number p) ≡ p
phases_tell Idle = refl
phases_tell Opened = refl
phases_tell Confirmed = refl
phases_tell Up = refl

abbrev pub coded_phase : Coded Phase
coded_phase = code_by ℕ coded_ℕ phase_number phase_at phases_tell

abbrev pub coded_post : Coded Post
coded_post =
    code_by (Phase × (Map × (Map × Bool))) (coded× coded_phase (coded× coded_map (coded× coded_map coded_bool)))
    (λ p. (p.phase, (p.sent, (p.held, p.wide))))
    (λ c. record { phase = c.0; sent = c.1.0; held = c.1.1.0; wide = c.1.1.1 }) (λ _. refl)
