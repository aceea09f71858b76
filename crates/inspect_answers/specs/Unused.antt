-- What the answer of `unused` promises.
use Rattle.std.specs.Prelude.{◌≡◌, ℕ, List, flat_map, Option, None}
use Rattle.std.specs.List.{Contains}
use Rattle.std.specs.Io.KnownBytes.{Appends}
use Rattle.config_model.specs.declared.input.CompileInput.{CompileInput}
use Rattle.config_check.specs.Rules.{first_broken}
use Rattle.inspect_rules.specs.IdleSentences.{IsAllIdle}
use Rattle.inspect_rules.specs.declared.idle.Idle.{Idle}
use Rattle.inspect_answers.specs.IdleLines.{idle_line_in}
use Rattle.inspect_answers.specs.Promise.{IsWrittenIn}
use Rattle.inspect_json.specs.Form.{IsReadBack}
use Rattle.inspect_json.specs.IdleValues.{idle_value}
use Rattle.inspect_json.specs.declared.form.Form.{Form}

-- the input has a valid configuration, the lines of what is idle of it were taken, in the form that is asked for, and the JSON of
-- each reads as what it says
pub record TookUnused (form : Form) (octets : List ℕ) (old new : Option (List ℕ)) : Type 0 where
  pub input : CompileInput
  pub written : IsWrittenIn octets input
  pub valid : first_broken input.topology input.config ≡ None
  pub found : List Idle
  pub taken : Appends old new (flat_map (idle_line_in form input.config) found)
  pub exact : IsAllIdle input.config found
  pub reads : (x : Idle) → Contains found x → IsReadBack (idle_value input.config x)
