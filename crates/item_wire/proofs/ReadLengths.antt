-- An item is written in no more octets than it was read from.
use Rattle.std.proofs.Common.{◌≡◌, ℕ, ◌≤◌, Bool, true, false, List, length, Option, Some, None, Result, Ok, Err, IfOk}
use Rattle.std.proofs.Common.{cond, IsTrue, refl, arith}
use Rattle.std.specs.Str.{is_utf8}
use Rattle.serde_json.specs.Data.{Data}
use Rattle.serde_json.specs.Read.{read}
use Rattle.item_wire.specs.declared.fault.ItemFault.TheVariants.{NotJson}
use Rattle.item_wire.specs.declared.item.Item.{Item}
use Rattle.item_wire.specs.declared.fault.ItemRefusal.{ItemRefusal}
use Rattle.item_wire.specs.Faults.{◌>>=◌, wanted, Gives}
use Rattle.item_wire.specs.Ranges.{is_in_range}
use Rattle.ov_io.specs.Json.{json_of}
use Rattle.item_wire.specs.Reading.{item_of, item_in}
use Rattle.item_wire.specs.Records.{json_text}
use Rattle.item_wire.proofs.Weights.{json_weight}
use Rattle.item_wire.proofs.ValueWeights.{read_weight}
use Rattle.item_wire.proofs.ItemWeights.{item_weight}

where_text : (b : Bool) (o : Option Data) (d : Data) → cond b o None ≡ Some d → o ≡ Some d
where_text true o d h = h
where_text false o d h = absurd (cc)

was_read : (octets : List ℕ) (d : Data) → json_of octets ≡ Some d → read octets ≡ Some d
unfolding json_of
was_read octets d h = where_text (is_utf8 octets) (read octets) d h

value_of : (o : Option Data) (i : Item) → (wanted NotJson o >>= item_of) ≡ Ok i
    → (d : Data) × (o ≡ Some d) × (item_of d ≡ Ok i)
value_of None i h = absurd (cc)
value_of (Some d) i h = (d, refl, h)

pub not_longer : (octets : List ℕ) (i : Item) → IsTrue (is_in_range i) → item_in octets ≡ Ok i
    → length (json_text i) ≤ length octets
unfolding item_in
not_longer octets i fit h =
    let v = value_of (json_of octets) i h in
    omega (arith, json_weight i fit, item_weight v.0 i v.2, read_weight octets v.0 (was_read octets v.0 v.1))

-- the same of what a reader returned
pub result_not_longer : (octets : List ℕ) (r : Result Item ItemRefusal)
    → Gives r (item_in octets) → IfOk r (λ i. IsTrue (is_in_range i))
    → IfOk r (λ i. length (json_text i) ≤ length octets)
result_not_longer octets (Ok i) given fit = not_longer octets i fit given
result_not_longer octets (Err e) given fit = tt
