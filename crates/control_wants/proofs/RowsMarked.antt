-- What an agent is to be told of a row.
use Rattle.std.specs.Prelude.{◌≡◌, ℕ, Bool, true, false, if◌then◌else◌, None, is_some}
use Rattle.std.specs.declared.option.Option.{Option}
use Rattle.std.specs.Option.{option_map}
use Rattle.std.specs.FinMap.{get}
use Rattle.std.proofs.Common.{refl, ◌∙◌, ap}
use Rattle.ov_types.specs.Prefix.{Block}
use Rattle.ov_types.specs.declared.numbers.InstanceId.{InstanceId}
use Rattle.ov_types.specs.declared.rows.Entry.{Entry as RouteEntry}
use Rattle.control_wants.specs.Entries.{hop_of}
use Rattle.control_wants.proofs.OneKey.{no_row_wanted, row_wanted}
use Rattle.vpn_tables.specs.NodeModel.Keys.{Row, Subscribe}
use Rattle.vpn_tables.specs.NodeModel.Paths.{Holdings}
use Rattle.vpn_tables.specs.NodeModel.Values.{Entry}
use Rattle.vpn_tables.specs.At.{row_at}
use Rattle.vpn_tables.specs.Listing.{told_in}
use Rattle.vpn_tables.specs.Here.{wanted_on}

pub row_told : (h : Holdings) (session : ℕ) (i : InstanceId) (q : Block) (row : Option RouteEntry) → row ≡ option_map hop_of (row_at h i q)
    → (if is_some (get (told_in h.agents session).map (Subscribe i)) then option_map Entry row else None) ≡ get (wanted_on h session) (Row i q)
row_told h session i q row e = by_test (is_some (get (told_in h.agents session).map (Subscribe i))) refl
  where
    by_test : (b : Bool) → is_some (get (told_in h.agents session).map (Subscribe i)) ≡ b
        → (if b then option_map Entry row else None) ≡ get (wanted_on h session) (Row i q)
    by_test true yes_it_is = ap (option_map Entry) e ∙ row_wanted h (told_in h.agents session) i q yes_it_is
    by_test false none = no_row_wanted h (told_in h.agents session) i q none
