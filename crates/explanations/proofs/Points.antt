-- A path is cut at its last point.
use Rattle.std.proofs.Common.{◌≡◌, ℕ, ◌+◌, ◌-◌, ◌<◌, ◌≤◌, ◌==◌, true, not, List, [], length, length-drop, take, drop, get_or, sym, ap, ◌∙◌, arith}
use Rattle.std.specs.List.{suffix_len}
use Rattle.std.specs.Str.{NoCharPasses}
use Rattle.std.specs.Str.Pattern.{HasCharAt}
use Rattle.std.proofs.lemmas.Bool.{eq-eqb, ne_eqb}
use Rattle.std.proofs.lemmas.List.{get_or-drop}
use Rattle.std.proofs.lemmas.List.Sums.{suffix_len_is}
use Rattle.std.proofs.lemmas.Str.{len_utf8_ascii}
use Rattle.std.proofs.lemmas.Str.Pattern.{NoCharPasses-char}
use Rattle.explanations.specs.Wanted.{before_point, behind_point}

-- how many octets stand behind the last point
abbrev pub behind : List ℕ → ℕ
behind text = suffix_len (λ c. not (c == 46)) text

abbrev HasNoPoint : List ℕ → Type 0
HasNoPoint text = NoCharPasses (λ d. d == 46) text

other_than_point : (text : List ℕ) → HasNoPoint text → (k : ℕ) → k < length text → not (get_or text k 0 == 46) ≡ true
other_than_point text none k l = ap not (ne_eqb (get_or text k 0) 46 (NoCharPasses-char 46 text k none (omega arith) l))

all_behind : (text : List ℕ) → HasNoPoint text → behind text ≡ length text
all_behind text none =
    suffix_len_is (λ c. not (c == 46)) text 0 0 (omega arith) (λ k low l. other_than_point text none k l) (λ l. absurd (omega arith))
    ∙ omega arith

pub nothing_before : (text : List ℕ) → HasNoPoint text → [] ≡ before_point text
nothing_before text none =
    let zero : length text - behind text - 1 ≡ 0 = omega (arith, all_behind text none) in
    sym (ap (λ n. take n text) zero)

pub whole_behind : (text : List ℕ) → HasNoPoint text → text ≡ behind_point text
whole_behind text none =
    let zero : length text - behind text ≡ 0 = omega (arith, all_behind text none) in
    sym (ap (λ n. drop n text) zero)

-- as many stand behind a point as do behind the character, where no other is
behind_at : (text : List ℕ) (i j : ℕ) → HasNoPoint (drop j text) → HasCharAt 46 text i j → j ≤ length text
    → behind text ≡ length text - (i + 1)
behind_at text i j none here within =
    let next : j ≡ i + 1 = omega (arith, here.ends, len_utf8_ascii 46 (omega arith)) in
    suffix_len_is (λ c. not (c == 46)) text (i + 1) 0 (omega arith)
    (λ k low l.
    let back : j + (k - j) ≡ k = omega arith in
    let same : get_or (drop j text) (k - j) 0 ≡ get_or text k 0 = get_or-drop j text (k - j) 0 ∙ ap (λ n. get_or text n 0) back in
    ap (λ c. not (c == 46)) (sym same) ∙ other_than_point (drop j text) none (k - j) (omega (arith, length-drop j text)))
    (λ l.
    let at : i + 1 - 1 ≡ i = omega arith in
    ap (λ n. not (get_or text n 0 == 46)) at ∙ ap not (eq-eqb (get_or text i 0) 46 (here.byte (omega arith))))

pub before_is : (text : List ℕ) (i j : ℕ) → HasNoPoint (drop j text) → HasCharAt 46 text i j → j ≤ length text
    → take i text ≡ before_point text
before_is text i j none here within =
    let next : j ≡ i + 1 = omega (arith, here.ends, len_utf8_ascii 46 (omega arith)) in
    let front : i ≡ length text - behind text - 1 = omega (arith, behind_at text i j none here within) in
    ap (λ n. take n text) front

pub behind_is : (text : List ℕ) (i j : ℕ) → HasNoPoint (drop j text) → HasCharAt 46 text i j → j ≤ length text
    → drop j text ≡ behind_point text
behind_is text i j none here within =
    let next : j ≡ i + 1 = omega (arith, here.ends, len_utf8_ascii 46 (omega arith)) in
    let back : j ≡ length text - behind text = omega (arith, behind_at text i j none here within) in
    ap (λ n. drop n text) back
