-- The value of a line of `expect` is fit, so that its text reads as it.
use Rattle.std.proofs.Common.{◌≡◌, ◌∙◌, ◌==◌, ◌<◌, ◌^◌, ℕ, true, cond, IsTrue, List, codes, refl, sym, ap, arith}
use Rattle.serde_json.specs.Data.{Data}
use Rattle.ov_types.specs.declared.numbers.ServiceNo.{ServiceNo}
use Rattle.ov_types.specs.declared.packet.Outcome.{Outcome}
use Rattle.config_types.specs.Form.{has_config_form}
use Rattle.config_types.specs.declared.config.Config.{Config}
use Rattle.inspect_json.specs.Form.{IsReadBack}
use Rattle.inspect_json.specs.OutcomeValues.{delivered_value, port_number_value, to_drop_value, to_drop_why_value}
use Rattle.inspect_json.specs.Sizes.{has_outcome_size}
use Rattle.inspect_json.specs.Values.{service_value}
use Rattle.inspect_json.proofs.Fit.{IsFit, is_read_back}
use Rattle.inspect_json.proofs.ReadBack.{delivered, outcome, to_drop, to_drop_why, word}
use Rattle.inspect_json.proofs.ReasonsBack.{fourth, list_back, list_in, outcome_says, port_in, service_back, service_in}
use Rattle.inspect_json.proofs.SameSaid.{after, body, first, items, size, text, whole}
use Rattle.inspect_answers.specs.ExpectValues.{counts_value, expected_value, has_expected_size, unmet_value}
use Rattle.inspect_answers.specs.declared.expectation.Expected.{Expected}
use Rattle.inspect_answers.specs.declared.expectation.Expected.TheVariants.{Dropped, NoSourcePort, NoDestination, NoRoute, Denied, Delivered}

expected : (c : Config) (e : Expected) → has_config_form c ≡ true → has_expected_size e ≡ true → IsFit 3 (expected_value c e)
expected c Dropped form h = to_drop
expected c NoSourcePort form h = to_drop_why (codes "no-source-port") (word (codes "no-source-port") refl)
expected c NoDestination form h = to_drop_why (codes "no-destination") (word (codes "no-destination") refl)
expected c NoRoute form h = to_drop_why (codes "no-route") (word (codes "no-route") refl)
expected c Denied form h = to_drop_why (codes "denied") (word (codes "denied") refl)
expected c (Delivered port services) form h = delivered c port services form h

pub unmet_reads : (c : Config) (n : ℕ) (e : Expected) (o : Outcome) → IsTrue (has_config_form c) → n < 2 ^ 64 → IsTrue (has_expected_size e)
    → IsTrue (has_outcome_size o) → IsReadBack (unmet_value c n e o)
unfolding unmet_value
unmet_reads c n e o form few h k =
    is_read_back 4 (unmet_value c n e o) (
      (
        word (codes "expected") refl,
        expected c e form h,
        (
          word (codes "outcome") refl,
          outcome c o form k,
          (word (codes "packet") refl, few, tt),
        ),
      ),
      refl,
    ) (omega arith)

pub counts_reads : (packets otherwise : ℕ) → packets < 2 ^ 64 → otherwise < 2 ^ 64 → IsReadBack (counts_value packets otherwise)
unfolding counts_value
counts_reads packets otherwise h k =
    is_read_back 1 (counts_value packets otherwise)
    ((word (codes "otherwise") refl, k, (word (codes "packets") refl, h, tt)), refl) (omega arith)

-- what a value says

abbrev reason_in : ℕ → Expected
reason_in n = cond (n == 115) NoSourcePort (cond (n == 100) NoDestination (cond (n == 114) NoRoute Denied))

-- by how many members it has
abbrev expected_in : Data → Expected
expected_in d = cond (size (body d) == 1) Dropped (cond (size (body d) == 2) (reason_in (fourth (text (first (after (body d))))))
    (Delivered (port_in (first (after (body d)))) (list_in service_in (items (first (after (after (body d))))))))

expected_back : (c : Config) (e : Expected) → expected_in (expected_value c e) ≡ e
unfolding delivered_value port_number_value to_drop_value to_drop_why_value
expected_back c Dropped = refl
expected_back c NoSourcePort = refl
expected_back c NoDestination = refl
expected_back c NoRoute = refl
expected_back c Denied = refl
expected_back c (Delivered port services) =
    ap (λ (xs : List ServiceNo). Delivered port xs) (list_back service_in (service_value c) (service_back c) services)

pub unmet_says : (c d : Config) (n m : ℕ) (e f : Expected) (o p : Outcome) → unmet_value c n e o ≡ unmet_value d m f p → (n ≡ m) × (e ≡ f) × (o ≡ p)
unfolding unmet_value
unmet_says c d n m e f o p h = (
  ap (λ (d : Data). whole (first (after (after (body d))))) h,
  sym (expected_back c e) ∙ ap (λ (d : Data). expected_in (first (body d))) h ∙ expected_back d f,
  outcome_says c d o p (ap (λ (d : Data). first (after (body d))) h),
)

pub counts_says : (n m j k : ℕ) → counts_value n j ≡ counts_value m k → (n ≡ m) × (j ≡ k)
unfolding counts_value
counts_says n m j k h = (ap (λ (d : Data). whole (first (after (body d)))) h, ap (λ (d : Data). whole (first (body d))) h)
