-- Texts that are cut at blanks.
use Rattle.std.proofs.Common.{◌≡◌, ℕ, ◌+◌, ◌-◌, ◌==◌, true, false, nat_lt, List, [], ◌∷◌, ◌++◌, length, length-append, take, drop, refl, ap, ◌∙◌, arith, add-one, codes, option_map}
use Rattle.std.specs.List.{list_all, position_or_len}
use Rattle.std.proofs.lemmas.Bool.{and_parts, ltb-true, ne_eqb}
use Rattle.std.proofs.lemmas.List.{take_all, take_at, drop_at}
use Rattle.std.proofs.lemmas.List.Folds.{list_all-append}
use Rattle.std.proofs.lemmas.Str.{utf8_valid_len-IsUtf8}
use Rattle.explanations.specs.Refusals.{RefusedWords, refused_in, words_in}
use Rattle.explanations.specs.Sentences.{rule_named}
use Rattle.explanations.specs.Words.{behind_blank, first_word, utf8_front}
use Rattle.explanations.specs.declared.rule.RuleKind.{RuleKind}
use Rattle.explanations.proofs.Plain.{IsPlain, ascii, ascii_is_utf8, plain, plain_is_ascii}

other_than_blank : (c : ℕ) → plain c ≡ true → (c == 32) ≡ false
other_than_blank c h =
    let p = and_parts (nat_lt 32 c) (nat_lt c 128) h in
    let k = ltb-true 32 c p.0 in
    ne_eqb c 32 (λ e. absurd (omega (arith, k, e)))

-- where the first blank is
place : (w rest : List ℕ) → IsPlain w → position_or_len (λ c. c == 32) (w ++ 32 ∷ rest) ≡ length w
place [] rest h = refl
place (c ∷ w) rest h =
    let p = and_parts (plain c) (list_all plain w) h in
    rw (other_than_blank c p.0, place w rest p.1) (omega arith)

no_place : (w : List ℕ) → IsPlain w → position_or_len (λ c. c == 32) w ≡ length w
no_place [] h = refl
no_place (c ∷ w) h =
    let p = and_parts (plain c) (list_all plain w) h in
    rw (other_than_blank c p.0, no_place w p.1) (omega arith)

pub past_first : (xs : List ℕ) (c : ℕ) (ys : List ℕ) → drop (length xs + 1) (xs ++ c ∷ ys) ≡ ys
past_first [] c ys = refl
past_first (x ∷ xs) c ys = rw add-one (rw add-one at (past_first xs c ys))

past_all : (xs : List ℕ) → drop (length xs + 1) xs ≡ []
past_all [] = refl
past_all (x ∷ xs) = rw add-one (rw add-one at (past_all xs))

pub first_is : (w rest : List ℕ) → IsPlain w → first_word (w ++ 32 ∷ rest) ≡ w
first_is w rest h =
    ap (λ (k : ℕ). take k (w ++ 32 ∷ rest)) (place w rest h) ∙ take_at w (32 ∷ rest) (length w) refl

pub behind_is : (w rest : List ℕ) → IsPlain w → behind_blank (w ++ 32 ∷ rest) ≡ rest
behind_is w rest h = ap (λ (k : ℕ). drop (k + 1) (w ++ 32 ∷ rest)) (place w rest h) ∙ past_first w 32 rest

pub only_is : (w : List ℕ) → IsPlain w → first_word w ≡ w
only_is w h = ap (λ (k : ℕ). take k w) (no_place w h) ∙ take_all (length w) w (omega arith)

pub behind_only : (w : List ℕ) → IsPlain w → behind_blank w ≡ []
behind_only w h = ap (λ (k : ℕ). drop (k + 1) w) (no_place w h) ∙ past_all w

-- a rule with its objects
abbrev with_objects : List ℕ → List ℕ → List ℕ → RuleKind → RefusedWords
with_objects a b c rule = record { rule = rule; first = a; second = b; third = c }

pub one_object : (w a : List ℕ) → IsPlain w → IsPlain a
    → words_in (w ++ 32 ∷ a) ≡ option_map (with_objects a [] []) (rule_named w)
unfolding words_in
one_object w a p q =
    rw (first_is w a p, behind_is w a p, only_is a q, behind_only a q) refl

pub two_objects : (w a b : List ℕ) → IsPlain w → IsPlain a → IsPlain b
    → words_in (w ++ 32 ∷ (a ++ 32 ∷ b)) ≡ option_map (with_objects a b []) (rule_named w)
unfolding words_in
two_objects w a b p q r =
    rw (first_is w (a ++ 32 ∷ b) p, behind_is w (a ++ 32 ∷ b) p, first_is a b q, behind_is a b q, only_is b r, behind_only b r) refl

pub three_objects : (w a b c : List ℕ) → IsPlain w → IsPlain a → IsPlain b → IsPlain c
    → words_in (w ++ 32 ∷ (a ++ 32 ∷ (b ++ 32 ∷ c))) ≡ option_map (with_objects a b c) (rule_named w)
unfolding words_in
three_objects w a b c p q r s =
    rw (first_is w (a ++ 32 ∷ (b ++ 32 ∷ c)) p, behind_is w (a ++ 32 ∷ (b ++ 32 ∷ c)) p, first_is a (b ++ 32 ∷ c) q, behind_is a (b ++ 32 ∷ c) q, first_is b c r, behind_is b c r) refl

-- a line of words
pub line_has : (words : List ℕ) → list_all ascii words ≡ true
    → refused_in (codes "refused " ++ (words ++ (10 ∷ []))) ≡ words_in words
unfolding refused_in
line_has words h =
    let size : length (words ++ 10 ∷ []) - 1 ≡ length words = omega (arith, length-append words (10 ∷ [])) in
    let end : drop (length (words ++ 10 ∷ []) - 1) (words ++ 10 ∷ []) ≡ 10 ∷ [] = rw size (drop_at words (10 ∷ []) (length words) refl) in
    let front : take (length (words ++ 10 ∷ []) - 1) (words ++ 10 ∷ []) ≡ words = rw size (take_at words (10 ∷ []) (length words) refl) in
    let whole : utf8_front words ≡ words = take_all _ words (omega (arith, utf8_valid_len-IsUtf8 words (ascii_is_utf8 words h))) in
    rw (end, front, whole) refl

pub ascii_two : (w a : List ℕ) → IsPlain w → list_all ascii a ≡ true → list_all ascii (w ++ 32 ∷ a) ≡ true
ascii_two w a p q = list_all-append ascii w (32 ∷ a) ∙ rw (plain_is_ascii w p, q) refl
