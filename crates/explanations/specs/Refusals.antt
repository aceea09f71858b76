-- The words of a line that tells a broken rule.
use Rattle.std.specs.Prelude.{ℕ, ◌∷◌, [], List, drop, codes, Option, if◌then◌else◌, None}
use Rattle.std.specs.Option.{option_map}
use Rattle.explanations.specs.Sentences.{rule_named}
use Rattle.explanations.specs.Words.{begins_so, behind_blank, ends_so, first_word, utf8_front, without_end}
use Rattle.explanations.specs.declared.refused.Refused.{Refused}
use Rattle.explanations.specs.declared.rule.RuleKind.{RuleKind}

-- a rule, and the texts of up to three objects
pub record RefusedWords : Type 0 where
  pub rule : RuleKind
  pub first : List ℕ
  pub second : List ℕ
  pub third : List ℕ

abbrev pub refused_words : Refused → RefusedWords
refused_words r = record { rule = r.rule; first = r.first.now; second = r.second.now; third = r.third.now }

-- words between blanks: that of the rule, and the objects
unfoldable pub words_in : List ℕ → Option RefusedWords
words_in words =
    let objects = behind_blank words in
    let others = behind_blank objects in
    option_map (λ rule. record {
      rule = rule;
      first = first_word objects;
      second = first_word others;
      third = behind_blank others;
    }) (rule_named (first_word words))

-- the words of the line of a refusal
unfoldable pub refused_in : List ℕ → Option RefusedWords
refused_in line =
    if begins_so (codes "refused ") line
    then (let told = drop 8 line in
    if ends_so (10 ∷ []) told then words_in (utf8_front (without_end (10 ∷ []) told)) else None)
    else None
