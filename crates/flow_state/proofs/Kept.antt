-- What is held of a replay goes by its ties, however they are kept.
use Rattle.std.proofs.Common.{◌≡◌, ℕ, [], None}
use Rattle.config_types.specs.declared.edit.Edit.{Edit}
use Rattle.config_check.specs.Checked.{Checked}
use Rattle.config_check.specs.Edits.{edited}
use Rattle.schedule_script.specs.Kept.{AreAlike, Kept, ties_in}
use Rattle.schedule_script.specs.Tying.{joined, ties_of}
use Rattle.schedule_script.proofs.Alike.{alike_is_one}
use Rattle.flow_state.specs.Playing.{Playing, opening, played_edit, playing}

pub starts : (capacity : ℕ) (v : Checked) (kept : Kept) → AreAlike (ties_in kept) (ties_of v)
    → playing (record { checked = v; kept = kept; capacity = capacity; flows = [] }) ≡ opening capacity v
starts capacity v kept h =
    λ k. record { checked = v; ties = alike_is_one (ties_in kept) (ties_of v) h k; capacity = capacity; flows = [] }

pub goes_on : (e : Edit) (s : Playing) (kept : Kept) → AreAlike (ties_in kept) (joined s.ties (edited e s.checked))
    → playing (record { checked = edited e s.checked; kept = kept; capacity = s.capacity; flows = [] }) ≡ played_edit e None s
goes_on e s kept h = λ k. record {
  checked = edited e s.checked;
  ties = alike_is_one (ties_in kept) (joined s.ties (edited e s.checked)) h k;
  capacity = s.capacity;
  flows = [];
}
