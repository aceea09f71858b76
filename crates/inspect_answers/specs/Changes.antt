-- What the answer of `diff` promises of packets between ports.
use Rattle.std.specs.Prelude.{◌≡◌, ◌≢◌, ◌↔◌, ℕ, IsTrue, List, [], Option, None}
use Rattle.std.specs.List.{Contains}
use Rattle.std.specs.Io.KnownBytes.{Appends}
use Rattle.ov_types.specs.declared.packet.Packet.{Packet}
use Rattle.ov_types.specs.declared.packet.Tuple.{Tuple}
use Rattle.config_types.specs.Form.{has_config_form}
use Rattle.config_types.specs.declared.config.Network.{Network}
use Rattle.config_check.specs.Checked.{Checked}
use Rattle.config_check.specs.Rules.{first_broken}
use Rattle.policy_regions.specs.Parts.{IsTuple}
use Rattle.inspect_changes.specs.Deliveries.{GoesBetween, delivery_in}
use Rattle.inspect_changes.specs.DifferenceLines.{lists_text}
use Rattle.inspect_json.specs.ChangeLines.{lists_in}
use Rattle.inspect_json.specs.ChangeValues.{came_value, difference_value, went_value}
use Rattle.inspect_json.specs.Form.{IsReadBack}
use Rattle.inspect_json.specs.declared.form.Form.{Form}
use Rattle.inspect_changes.specs.Fates.{passage}
use Rattle.inspect_changes.specs.Objects.{objects_of}
use Rattle.inspect_answers.specs.Promise.{IsWrittenIn}
use Rattle.inspect_changes.specs.Unnamed.{IsOnLine, IsUnnamed}
use Rattle.inspect_changes.specs.declared.fate.Difference.{Difference}
use Rattle.inspect_changes.specs.declared.objects.Object.{Object}
use Rattle.inspect_answers.specs.declared.top.Status.{Status}
use Rattle.inspect_answers.specs.declared.top.Status.TheVariants as Ended

-- the input is a document of this topology and this configuration, which has the written form and is valid
pub record IsValidIn (octets : List ℕ) (v : Checked) : Type 0 where
  pub written : IsWrittenIn octets (record { topology = v.topology; config = v.config })
  pub form : IsTrue (has_config_form v.config)
  pub valid : first_broken v.topology v.config ≡ None

-- the objects are those of one configuration that another does not have
abbrev pub AreGone : List Object → Checked → Checked → Type 0
AreGone went v w = (o : Object) → Contains went o ↔ (Contains (objects_of v.config) o × ¬ Contains (objects_of w.config) o)

-- two inputs have valid configurations, and these lines were taken, in the form that is asked for: of the objects that one of
-- the two has alone, and of differences. Where no line of what went names a packet's networks and ports, whether it is delivered to its port, or by
-- which services, differs exactly where a line of its networks holds it; then it was delivered as that line says, and is;
-- no two lines of two networks hold one packet; the run ends so where there is no line, and so where there is one; and the JSON
-- of each line reads as what it says
pub record TookDifferences (form : Form) (status : Status) (first second : List ℕ) (old new : Option (List ℕ)) : Type 0 where
  pub before : Checked
  pub after : Checked
  pub before_read : IsValidIn first before
  pub after_read : IsValidIn second after
  pub went : List Object
  pub came : List Object
  pub lines : List Difference
  pub taken : Appends old new (lists_in form before.config after.config went came lines)
  pub went_exact : AreGone went before after
  pub came_exact : AreGone came after before
  pub exact : (p : Packet) (a b : Network) (number : ℕ) → GoesBetween before.config p a b number → IsUnnamed went before.config p a b number
      → (delivery_in before.config p number ≢ delivery_in after.config p number) ↔ ((x : Difference) × IsOnLine lines a.name b.name p.tuple x)
  pub told : (p : Packet) (a b : Network) (number : ℕ) (x : Difference) → GoesBetween before.config p a b number
      → IsUnnamed went before.config p a b number → IsOnLine lines a.name b.name p.tuple x
      → (delivery_in before.config p number ≡ passage x.was) × (delivery_in after.config p number ≡ passage x.becomes)
  pub apart : (from to : List ℕ) (t : Tuple) (x y : Difference) → IsTuple t → IsOnLine lines from to t x → IsOnLine lines from to t y → x ≡ y
  pub alike : (status ≡ Ended.Done) ↔ (lists_text went came lines ≡ [])
  pub otherwise : (status ≡ Ended.Differs) ↔ (lists_text went came lines ≢ [])
  pub went_reads : (o : Object) → Contains went o → IsReadBack (went_value before.config o)
  pub came_reads : (o : Object) → Contains came o → IsReadBack (came_value after.config o)
  pub reads : (x : Difference) → Contains lines x → IsReadBack (difference_value before.config after.config x)
