-- A path leads to the phrase of its last member.
use Rattle.std.proofs.Common.{◌≡◌, ℕ, suc, zero, ◌+◌, ◌-◌, ◌<◌, ◌==◌, ◌||◌, Bool, true, false, not, nat_eq, cond, List, [], ◌∷◌, ◌++◌, length, length-append, append_assoc, take, drop, get_or, refl, sym, ap, ◌∙◌, arith, add-one, Option, Some, None}
use Rattle.std.specs.Cmp.Lexicographic.{pointwise}
use Rattle.std.specs.List.{list_all, position_or_len}
use Rattle.std.proofs.Math.Seq.{get_or-append_seam}
use Rattle.std.proofs.lemmas.Bool.{and_parts}
use Rattle.std.proofs.lemmas.List.{drop_at, get_or-append_right, take_all, take_at}
use Rattle.std.proofs.lemmas.List.Folds.{list_all-append}
use Rattle.std.proofs.lemmas.List.Sums.{suffix_len_is}
use Rattle.explanations.specs.Leading.{IsPart, IsPlace, PathsLeadToPhrases, is_part_octet, joined, phrase_of, placed}
use Rattle.explanations.specs.Wanted.{before_point, behind_point, is_item, item_wanted, member_name, member_wanted, wanted_at}
use Rattle.explanations.proofs.Cuts.{past_first}
use Rattle.explanations.proofs.Points.{behind}
use Rattle.explanations.proofs.Scans.{not_is_true}

-- no octet is c
abbrev Lacks : ℕ → List ℕ → Type 0
Lacks c text = list_all (λ d. not (d == c)) text ≡ true

or_parts : (a b : Bool) → not (a || b) ≡ true → (not a ≡ true) × (not b ≡ true)
or_parts true b h = absurd (cc)
or_parts false b h = (refl, h)

-- a part lacks each of the three
record LacksAll (text : List ℕ) : Type 0 where
  point : Lacks 46 text
  opening : Lacks 91 text
  closing : Lacks 93 text

lacks : (text : List ℕ) → IsPart text → LacksAll text
lacks [] h = record { point = refl; opening = refl; closing = refl }
lacks (c ∷ text) h =
    let p = and_parts (is_part_octet c) (list_all is_part_octet text) h in
    let q = or_parts (c == 46) (c == 91 || c == 93) p.0 in
    let r = or_parts (c == 91) (c == 93) q.1 in
    let rest = lacks text p.1 in
    record {
      point = rw (q.0, rest.point) refl;
      opening = rw (r.0, rest.opening) refl;
      closing = rw (r.1, rest.closing) refl;
    }

at_each : (c : ℕ) (text : List ℕ) → Lacks c text → (k : ℕ) → k < length text → not (get_or text k 0 == c) ≡ true
at_each c [] h k l = absurd (omega arith)
at_each c (d ∷ text) h zero l = (and_parts (not (d == c)) (list_all (λ e. not (e == c)) text) h).0
at_each c (d ∷ text) h (suc k) l = at_each c text (and_parts (not (d == c)) (list_all (λ e. not (e == c)) text) h).1 k (omega arith)

word_behind : (front word : List ℕ) → Lacks 46 word → behind (front ++ 46 ∷ word) ≡ length word
word_behind front word h =
    let size : length (front ++ 46 ∷ word) ≡ length front + 1 + length word = omega (arith, length-append front (46 ∷ word)) in
    suffix_len_is (λ c. not (c == 46)) (front ++ 46 ∷ word) (length front + 1) 0 (omega arith)
    (λ k low l.
    let next : k - length front ≡ (k - length front - 1) + 1 = omega arith in
    let there : get_or (front ++ 46 ∷ word) k 0 ≡ get_or (46 ∷ word) ((k - length front - 1) + 1) 0 =
    get_or-append_right front (46 ∷ word) (length front) k 0 refl (omega arith) ∙ ap (λ n. get_or (46 ∷ word) n 0) next in
    let same : get_or (46 ∷ word) ((k - length front - 1) + 1) 0 ≡ get_or word (k - length front - 1) 0 = rw add-one refl in
    ap (λ c. not (c == 46)) (there ∙ same) ∙ at_each 46 word h (k - length front - 1) (omega arith))
    (λ l.
    let at : length front + 1 - 1 ≡ length front = omega arith in
    ap (λ n. not (get_or (front ++ 46 ∷ word) n 0 == 46)) at ∙ ap (λ c. not (c == 46)) (get_or-append_seam front 46 word 0))
    ∙ omega arith

front_is : (front word : List ℕ) → Lacks 46 word → before_point (front ++ 46 ∷ word) ≡ front
front_is front word h =
    let size : length (front ++ 46 ∷ word) ≡ length front + 1 + length word = omega (arith, length-append front (46 ∷ word)) in
    let at : length (front ++ 46 ∷ word) - behind (front ++ 46 ∷ word) - 1 ≡ length front = omega (arith, word_behind front word h) in
    ap (λ n. take n (front ++ 46 ∷ word)) at ∙ take_at front (46 ∷ word) (length front) refl

word_is : (front word : List ℕ) → Lacks 46 word → behind_point (front ++ 46 ∷ word) ≡ word
word_is front word h =
    let size : length (front ++ 46 ∷ word) ≡ length front + 1 + length word = omega (arith, length-append front (46 ∷ word)) in
    let at : length (front ++ 46 ∷ word) - behind (front ++ 46 ∷ word) ≡ length front + 1 = omega (arith, word_behind front word h) in
    ap (λ n. drop n (front ++ 46 ∷ word)) at ∙ past_first front 46 word

all_behind : (word : List ℕ) → Lacks 46 word → behind word ≡ length word
all_behind word h =
    suffix_len_is (λ c. not (c == 46)) word 0 0 (omega arith) (λ k low l. at_each 46 word h k l) (λ l. absurd (omega arith)) ∙ omega arith

nothing_before : (word : List ℕ) → Lacks 46 word → before_point word ≡ []
nothing_before word h =
    let at : length word - behind word - 1 ≡ 0 = omega (arith, all_behind word h) in
    ap (λ n. take n word) at

only_word : (word : List ℕ) → Lacks 46 word → behind_point word ≡ word
only_word word h =
    let at : length word - behind word ≡ 0 = omega (arith, all_behind word h) in
    ap (λ n. drop n word) at

last_word : (front : Option (List ℕ)) (word : List ℕ) → Lacks 46 word → behind_point (joined front word) ≡ word
last_word None word h = only_word word h
last_word (Some front) word h = word_is front word h

placed_lacks : (name : List ℕ) (place : Option (List ℕ)) → IsPart name → IsPlace place → Lacks 46 (placed name place)
placed_lacks name None h g = (lacks name h).point
placed_lacks name (Some place) h g =
    list_all-append (λ d. not (d == 46)) name (91 ∷ (place ++ 93 ∷ []))
    ∙ rw ((lacks name h).point, list_all-append (λ d. not (d == 46)) place (93 ∷ []), (lacks place g).point) refl

-- where the first bracket is
opening_at : (name rest : List ℕ) → Lacks 91 name → position_or_len (λ c. c == 91) (name ++ 91 ∷ rest) ≡ length name
opening_at [] rest h = refl
opening_at (c ∷ name) rest h =
    let p = and_parts (not (c == 91)) (list_all (λ d. not (d == 91)) name) h in
    rw (not_is_true (c == 91) p.0, opening_at name rest p.1) (omega arith)

no_opening : (name : List ℕ) → Lacks 91 name → position_or_len (λ c. c == 91) name ≡ length name
no_opening [] h = refl
no_opening (c ∷ name) h =
    let p = and_parts (not (c == 91)) (list_all (λ d. not (d == 91)) name) h in
    rw (not_is_true (c == 91) p.0, no_opening name p.1) (omega arith)

name_is : (name : List ℕ) (place : Option (List ℕ)) → IsPart name → member_name (placed name place) ≡ name
name_is name None h =
    ap (λ (k : ℕ). take k name) (no_opening name (lacks name h).opening) ∙ take_all (length name) name (omega arith)
name_is name (Some place) h =
    ap (λ (k : ℕ). take k (name ++ 91 ∷ (place ++ 93 ∷ []))) (opening_at name (place ++ 93 ∷ []) (lacks name h).opening)
    ∙ take_at name (91 ∷ (place ++ 93 ∷ [])) (length name) refl

ends_as_item : (word : List ℕ) → is_item (word ++ 93 ∷ []) ≡ true
ends_as_item word =
    let size : length (word ++ 93 ∷ []) - 1 ≡ length word = omega (arith, length-append word (93 ∷ [])) in
    let end : drop (length (word ++ 93 ∷ []) - 1) (word ++ 93 ∷ []) ≡ 93 ∷ [] = rw size (drop_at word (93 ∷ []) (length word) refl) in
    rw end refl

other_end : (c : ℕ) (word : List ℕ) → Lacks 93 (c ∷ word) → pointwise nat_eq (drop (length word) (c ∷ word)) (93 ∷ []) ≡ false
other_end c [] h = let p = and_parts (not (c == 93)) true h in rw (not_is_true (c == 93) p.0) refl
other_end c (d ∷ word) h = other_end d word (and_parts (not (c == 93)) (list_all (λ e. not (e == 93)) (d ∷ word)) h).1

ends_as_member : (word : List ℕ) → Lacks 93 word → is_item word ≡ false
ends_as_member [] h = refl
ends_as_member (c ∷ word) h =
    let size : length (c ∷ word) - 1 ≡ length word = omega arith in
    ap (λ n. pointwise nat_eq (drop n (c ∷ word)) (93 ∷ [])) size ∙ other_end c word h

by_words : (path word parent : List ℕ) → behind_point path ≡ word → member_name (behind_point (before_point path)) ≡ parent
    → wanted_at path ≡ cond (is_item word) (item_wanted parent (member_name word) word) (member_wanted parent (member_name word))
unfolding wanted_at
by_words path word parent e f = rw (e, f) refl

phrase_is : (parent name : List ℕ) (place : Option (List ℕ)) → IsPart name
    → cond (is_item (placed name place)) (item_wanted parent (member_name (placed name place)) (placed name place)) (member_wanted parent (member_name (placed name place)))
    ≡ phrase_of parent name place
phrase_is parent name None h = rw (ends_as_member name (lacks name h).closing, name_is name None h) refl
phrase_is parent name (Some place) h =
    let item : is_item (name ++ 91 ∷ (place ++ 93 ∷ [])) ≡ true =
    ap is_item (sym (append_assoc name (91 ∷ place) (93 ∷ []))) ∙ ends_as_item (name ++ 91 ∷ place) in
    rw (item, name_is name (Some place) h) refl

pub paths_lead_to_phrases : PathsLeadToPhrases
paths_lead_to_phrases = record {
  first = λ name place h g.
      let no_point = placed_lacks name place h g in
      by_words (placed name place) (placed name place) [] (only_word (placed name place) no_point)
      (ap (λ (front : List ℕ). member_name (behind_point front)) (nothing_before (placed name place) no_point))
      ∙ phrase_is [] name place h;
  later = λ front parent holder name place p b h g.
      let no_point = placed_lacks name place h g in
      let before = joined front (placed parent holder) in
      by_words (joined (Some before) (placed name place)) (placed name place) parent (word_is before (placed name place) no_point)
      (ap (λ (path : List ℕ). member_name (behind_point path)) (front_is before (placed name place) no_point)
      ∙ (ap (λ (word : List ℕ). member_name word) (last_word front (placed parent holder) (placed_lacks parent holder p b))
      ∙ name_is parent holder p))
      ∙ phrase_is parent name place h;
}
