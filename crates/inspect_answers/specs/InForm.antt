-- Whatever an input is read as has a configuration of the written form.
use Rattle.std.specs.Prelude.{◌≡◌, ℕ, List, [], Some, Result, Ok, IsTrue}
use Rattle.serde_json.specs.Data.{Data}
use Rattle.ov_io.specs.Json.{json_of}
use Rattle.config_types.specs.Form.{has_config_form}
use Rattle.config_types.specs.declared.config.Config.{Config}
use Rattle.config_model.specs.Faults.{Fault}
use Rattle.config_model.specs.Input.{compile_at}
use Rattle.inspect_answers.specs.Expectations.{expect_at}

-- whatever octets are read as has a configuration of the written form, if they are JSON
unfoldable pub AreInForm : {Input : Type 0} → (Data → Result Input Fault) → (Input → Config) → List ℕ → Type 0
AreInForm {Input} read config octets =
    (d : Data) → json_of octets ≡ Some d → (input : Input) → read d ≡ Ok input → IsTrue (has_config_form (config input))

-- what octets are read as for `ways` and `unused`, and for `expect`, has a configuration of the written form
abbrev pub AreWrittenInForm : List ℕ → Type 0
AreWrittenInForm octets = AreInForm (compile_at []) (λ p. p.config) octets

abbrev pub AreExpectedInForm : List ℕ → Type 0
AreExpectedInForm octets = AreInForm (expect_at []) (λ r. r.input.config) octets
