-- What follows of an instance and a prefix, and how it is stored.
use Rattle.std.specs.Prelude.{◌≡◌, Bool, true, false}
use Rattle.std.specs.declared.cmp.Ordering.{Ordering}
use Rattle.std.specs.declared.option.Option.{Option}
use Rattle.std.specs.declared.option.Option.TheVariants.{Some, None}
use Rattle.std.specs.BTreeMap as tree
use Rattle.std.specs.BTreeMap.{BTreeMap, is_at}
use Rattle.ov_types.specs.Prefix.{Block}
use Rattle.ov_types.specs.declared.numbers.InstanceId.{InstanceId}
use Rattle.node_model.specs.Paths.{Holdings}
use Rattle.vpn_holdings.specs.Answers.{is_up_at}
use Rattle.vpn_holdings.specs.At.{selected_at}
use Rattle.vpn_tables.specs.declared.stored.Entry.{Entry}
use Rattle.vpn_tables.specs.declared.stored.RowKey.{RowKey}
use Rattle.vpn_tables.specs.contracts.stored.RowKeyOrd.TheImpl as row_keys

abbrev pub row_order : RowKey → RowKey → Ordering
row_order = row_keys.ghosts.cmp

abbrev pub is_row : RowKey → RowKey → Bool
is_row k key = is_at (row_order key) k

-- ---- what follows by the definitions: the selected path, and whether the prefix is a subnet of an end that is up
abbrev pub entry_of : Holdings → RowKey → Entry
entry_of h k = record {
  path = selected_at h k.instance k.prefix;
  is_up_right = is_up_at h k.instance k.prefix true;
  is_up_left = is_up_at h k.instance k.prefix false;
}

-- ---- what is stored: nothing where there is no place
abbrev pub nothing_stored : Entry
nothing_stored = record { path = None; is_up_right = false; is_up_left = false }

abbrev pub entry_or : Option Entry → Entry
entry_or None = nothing_stored
entry_or (Some e) = e

abbrev pub stored_at : BTreeMap RowKey Entry → RowKey → Entry
stored_at stored k = entry_or (tree.get row_order stored k)

-- at each instance and prefix what follows is stored
abbrev pub AreStored : BTreeMap RowKey Entry → Holdings → Type 0
AreStored stored h = (k : RowKey) → stored_at stored k ≡ entry_of h k

-- a key, as it is listed
abbrev pub key_at : InstanceId × Block → RowKey
key_at e = record { instance = e.0; prefix = e.1 }
