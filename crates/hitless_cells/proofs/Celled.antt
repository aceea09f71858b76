-- Each tuple that both configurations let through goes as that of some cell does.
use Rattle.std.proofs.Common.{◌≡◌, ◌≢◌, ◌≤◌, ◌<◌, inl, inr, ◌+◌, ℕ, zero, suc, ◌&&◌, eqb, leb, ltb, min, length, get_or, Bool, true, false, cond, IsTrue, List, [], ◌∷◌, Option, Some, None, option_map, map, refl, sym, ap, ◌∙◌, subst, arith}
use Rattle.std.specs.List.{All, AllPairs, Contains, count_by}
use Rattle.std.proofs.lemmas.Bool.{and_parts}
use Rattle.std.proofs.lemmas.Bool.Decides.{nat_tests}
use Rattle.std.proofs.lemmas.List.Elements.{All-contains, Contains-append_right}
use Rattle.std.proofs.lemmas.List.Kept.{AllPairs-cons}
use Rattle.std.proofs.lemmas.List.Sums.{sum_by-cons}
use Rattle.ov_types.specs.Access.{in_range}
use Rattle.ov_types.specs.First.{same_name}
use Rattle.ov_types.specs.declared.packet.RuleNo.{RuleNo}
use Rattle.ov_types.specs.declared.packet.Tuple.{Tuple}
use Rattle.ov_types.proofs.FirstLemmas.{all_cons, all_head, all_tail, contains_at, contains_here, pairs_head, pairs_tail}
use Rattle.config_types.specs.declared.config.Config.{Config}
use Rattle.config_types.specs.declared.config.Network.{Network}
use Rattle.config_types.specs.declared.topology.Topology.{Topology}
use Rattle.policy_rules.specs.Matching.{deciding, decision, decision_by}
use Rattle.policy_rules.specs.Related.{rules_between}
use Rattle.policy_rules.specs.Standing.{ComesBefore}
use Rattle.policy_rules.specs.declared.matching.Match.{Match}
use Rattle.policy_rules.specs.declared.numbered.NumberedRule.{NumberedRule}
use Rattle.policy_rules.proofs.Lists.{is_joined, joined_is}
use Rattle.policy_rules.proofs.Standing.{in_order}
use Rattle.policy_rules.proofs.Taking.{deciding_iff}
use Rattle.policy_regions.specs.Joined.{regions_between}
use Rattle.policy_regions.specs.Overlay.{IsComparedOnce, overlay}
use Rattle.policy_regions.specs.Parts.{IsTuple}
use Rattle.policy_regions.specs.Regions.{holds}
use Rattle.policy_regions.specs.declared.overlays.Compared.{Compared}
use Rattle.policy_regions.specs.declared.region.Region.{Region}
use Rattle.policy_regions.proofs.Boxes.{between_decides, between_lies}
use Rattle.policy_regions.proofs.Overlaid.{all_compare, compared_once}
use Rattle.config_check.specs.Checked.{Checked}
use Rattle.config_check.specs.Sentences.{AreDistinct, IsValid}
use Rattle.config_check.proofs.OneHome.{two_among}
use Rattle.hitless_cells.specs.Cells.{cell_at, cells_of, cells_on, cells_with, corner}
use Rattle.hitless_cells.specs.Courses.{course_by, course_on}
use Rattle.hitless_cells.specs.Lines.{comes_first}
use Rattle.hitless_cells.specs.Openings.{opening_of}
use Rattle.hitless_cells.specs.declared.cells.Cell.{Cell}
use Rattle.hitless_cells.specs.declared.course.Course.{Course}
use Rattle.hitless_cells.specs.declared.course.Course.TheVariants.{Inside}
use Rattle.hitless_cells.proofs.Sameness.{both_true}

-- lists of one item, and of none

pub sole : {A : Type 0} (x y : A) → Contains (x ∷ []) y → x ≡ y
sole x y at = at_first at.0 at.1 at.2 where
  at_first : (k : ℕ) → k < length (x ∷ []) → get_or (x ∷ []) k y ≡ y → x ≡ y
  at_first zero lt is = is
  at_first (suc k) lt is = absurd (omega arith)

pub nothing : {A B : Type 0} (x : A) → Contains [] x → B
nothing x at = absurd (let lt = at.1 in omega arith)

some_held : {A : Type 0} (p : A → Bool) (xs : List A) → count_by p xs ≡ 1 → (x : A) × Contains xs x × (p x ≡ true)
some_held p [] h = absurd (omega arith)
some_held {A} p (x ∷ xs) h =
    elim (p x) as (λ b. p x ≡ b → cond b 1 0 + count_by p xs ≡ 1 → (y : A) × Contains (x ∷ xs) y × (p y ≡ true)) [
      | true ↦ λ e one. (x, contains_here x xs, e)
      | false ↦ λ e one. let fewer : count_by p xs ≡ 1 = omega (arith, one) in let rest = some_held p xs fewer in (rest.0, Contains-append_right (x ∷ []) xs rest.0 rest.1, rest.2)
    ] refl (sym (sum_by-cons (λ y. cond (p y) 1 0) x xs) ∙ h)

-- the least tuple of a region

low : (lo hi n : ℕ) → (leb lo n && leb n hi) ≡ true → lo ≤ n
low lo hi n h = grind (arith, nat_tests)

low_in : (lo hi n : ℕ) → (leb lo n && leb n hi) ≡ true → (leb lo lo && leb lo hi) ≡ true
low_in lo hi n h = grind (arith, nat_tests)

least_is : (lo n : ℕ) → lo ≤ n → n ≤ 255 → min lo 255 ≡ lo
least_is lo n h k = omega arith

not_first : (a b c k l m : ℕ) → k ≤ a → l ≤ b → m ≤ c → cond (eqb a k) (cond (eqb b l) (ltb c m) (ltb b l)) (ltb a k) ≡ true → ⊥
not_first a b c k l m h1 h2 h3 h = grind (arith, nat_tests)

pub record IsCorner (r : Region) (t : Tuple) : Type 0 where
  pub on : holds r (corner r) ≡ true
  pub is : IsTuple (corner r)
  pub least : ¬ IsTrue (comes_first t (corner r))

pub corner_is : (r : Region) (t : Tuple) → IsTuple t → holds r t ≡ true → IsCorner r t
corner_is r t is h =
    let parts = and_parts (in_range r.protocols t.proto) (in_range r.source_ports t.sport && in_range r.destination_ports t.dport) h in
    let ports = and_parts (in_range r.source_ports t.sport) (in_range r.destination_ports t.dport) parts.1 in
    let p = low r.protocols.lo r.protocols.hi t.proto parts.0 in
    let s = low r.source_ports.lo r.source_ports.hi t.sport ports.0 in
    let d = low r.destination_ports.lo r.destination_ports.hi t.dport ports.1 in
    let same : min r.protocols.lo 255 ≡ r.protocols.lo = least_is r.protocols.lo t.proto p is.proto in
    let p_in : in_range r.protocols (min r.protocols.lo 255) ≡ true =
    subst (λ (n : ℕ). in_range r.protocols n ≡ true) (sym same) (low_in r.protocols.lo r.protocols.hi t.proto parts.0) in
    record {
      on = both_true (in_range r.protocols (min r.protocols.lo 255)) (in_range r.source_ports r.source_ports.lo && in_range r.destination_ports r.destination_ports.lo) p_in
          (both_true (in_range r.source_ports r.source_ports.lo) (in_range r.destination_ports r.destination_ports.lo)
          (low_in r.source_ports.lo r.source_ports.hi t.sport ports.0) (low_in r.destination_ports.lo r.destination_ports.hi t.dport ports.1));
      is = record { proto = omega arith; sport = omega (arith, is.sport); dport = omega (arith, is.dport) };
      least = λ first. not_first t.proto t.sport t.dport (min r.protocols.lo 255) r.source_ports.lo r.destination_ports.lo (omega (arith, same)) s d first;
    }

-- one rule has a number

all_unmapped : {A B : Type 0} (f : A → B) (P : B → Type 0) (xs : List A) → All P (map f xs) → All (λ x. P (f x)) xs
all_unmapped f P [] h = λ k d lt. absurd (omega arith)
all_unmapped f P (x ∷ xs) h =
    all_cons (λ y. P (f y)) x xs (all_head P (f x) (map f xs) h) (all_unmapped f P xs (all_tail P (f x) (map f xs) h))

unmapped : {A B : Type 0} (f : A → B) (xs : List A) → AreDistinct (map f xs) → AllPairs (λ x y. f x ≢ f y) xs
unmapped f [] h = λ i j d lt within. absurd (omega arith)
unmapped f (x ∷ xs) h =
    AllPairs-cons (λ x y. f x ≢ f y) x xs (all_unmapped f (λ y. f x ≢ y) xs (pairs_head (λ x y. x ≢ y) (f x) (map f xs) h))
    (unmapped f xs (pairs_tail (λ x y. x ≢ y) (f x) (map f xs) h))

no_order : (n : RuleNo) → ComesBefore n n → ⊥
no_order n h = elim h [ inl lt ↦ omega arith | inr more ↦ omega (arith, more.1) ]

one_rule : (t : Topology) (c : Config) → IsValid t c → (a b : Network) (r s : NumberedRule) → Contains (rules_between c a b) r → Contains (rules_between c a b) s → r.number ≡ s.number → r ≡ s
one_rule t c v a b r s in_r in_s same =
    elim (two_among (λ r s. ComesBefore r.number s.number) (rules_between c a b) r s (in_order c a b (unmapped (λ p. p.sequence) c.policies v.numbers.sequences)) in_r in_s) [
      | inl one ↦ one
      | inr apart ↦ elim apart [
        | inl first ↦ absurd (no_order s.number (subst (λ (n : RuleNo). ComesBefore n s.number) same first))
        | inr second ↦ absurd (no_order s.number (subst (λ (n : RuleNo). ComesBefore s.number n) same second))
      ]
    ]

-- tuples on which one rule decides go by one way
module _ (t : Topology) (c : Config) (v : IsValid t c) (a b : Network) where
  stands : (u : Tuple) (m : Match) → deciding c a b u ≡ Some m → Contains (rules_between c a b) m.rule
  stands u m e = let d = (deciding_iff c a b u m).0 e in contains_at (rules_between c a b) d.place m.rule d.stands

  by_one : (u w : Tuple) (o p : Option Match) → deciding c a b u ≡ o → deciding c a b w ≡ p → option_map decision_by o ≡ option_map decision_by p → course_by o ≡ course_by p
  by_one u w None None e f h = refl
  by_one u w None (Some n) e f h = absurd cc
  by_one u w (Some m) None e f h = absurd cc
  by_one u w (Some m) (Some n) e f h =
      let one : decision_by m ≡ decision_by n = cc in
      let number : m.rule.number ≡ n.rule.number = ap (λ d. d.rule) one in
      let way : m.mirrored ≡ n.mirrored = ap (λ d. d.mirrored) one in
      let rule : m.rule ≡ n.rule = one_rule t c v a b m.rule n.rule (stands u m e) (stands w n f) number in
      λ i. course_by (Some (record { rule = rule i; mirrored = way i }))

  pub one_course : (u w : Tuple) → decision c a b u ≡ decision c a b w → course_on c a b u ≡ course_on c a b w
  one_course u w h =
      ap (λ (o : Option Course). cond (same_name b.name a.name) (Some Inside) o) (by_one u w (deciding c a b u) (deciding c a b w) refl refl h)

-- cells

module _ (x y : Checked) (a b c d : Network) where
  -- what a cell says
  pub record IsCell (cell : Cell) : Type 0 where
    pub before : course_on x.config a b cell.tuple ≡ Some cell.was
    pub after : course_on y.config c d cell.tuple ≡ Some cell.becomes
    pub opening : cell.opening ≡ opening_of x a b y c d cell.was cell.becomes

  at_is : (t : Tuple) (o u : Option Course) (cell : Cell) → course_on x.config a b t ≡ o → course_on y.config c d t ≡ u → Contains (cell_at x a b y c d t o u) cell → IsCell cell
  at_is t None u cell e f at = nothing cell at
  at_is t (Some was) None cell e f at = nothing cell at
  at_is t (Some was) (Some becomes) cell e f at =
      let made : Cell = record { tuple = t; was = was; becomes = becomes; opening = opening_of x a b y c d was becomes } in
      subst IsCell (sole made cell at) (record { before = e; after = f; opening = refl })

  pub cells_are : (cell : Cell) → Contains (cells_of x a b y c d) cell → IsCell cell
  cells_are cell at =
      let from = joined_is (cells_on x a b y c d) (overlay (regions_between x.config a b) (regions_between y.config c d)) cell at in
      let t = corner from.0.region in
      at_is t (course_on x.config a b t) (course_on y.config c d t) cell refl refl from.2

  pub record HasCell (t : Tuple) (was becomes : Course) : Type 0 where
    pub cell : Cell
    pub stands : Contains (cells_of x a b y c d) cell
    pub before : cell.was ≡ was
    pub after : cell.becomes ≡ becomes
    pub least : ¬ IsTrue (comes_first t cell.tuple)

  module _ (v : IsValid x.topology x.config) (w : IsValid y.topology y.config) where
    pub has_cell : (t : Tuple) (was becomes : Course) → IsTuple t → course_on x.config a b t ≡ Some was → course_on y.config c d t ≡ Some becomes → HasCell t was becomes
    has_cell t was becomes is e f =
        let rs = regions_between x.config a b in
        let ss = regions_between y.config c d in
        let all : List Compared = overlay rs ss in
        let once : IsComparedOnce t all = compared_once t rs ss (between_lies x.config a b t is) (between_lies y.config c d t is) in
        let found = some_held (λ (r : Compared). holds r.region t) all once in
        let r : Compared = found.0 in
        let k = corner_is r.region t is found.2 in
        let u : Tuple = corner r.region in
        let here = All-contains (λ (s : Compared). IsTrue (holds s.region t) → (s.before ≡ decision x.config a b t) × (s.after ≡ decision y.config c d t)) all r
        (all_compare t (decision x.config a b t) (decision y.config c d t) rs ss (between_decides x.config a b t is) (between_decides y.config c d t is)) found.1 found.2 in
        let there = All-contains (λ (s : Compared). IsTrue (holds s.region u) → (s.before ≡ decision x.config a b u) × (s.after ≡ decision y.config c d u)) all r
        (all_compare u (decision x.config a b u) (decision y.config c d u) rs ss (between_decides x.config a b u k.is) (between_decides y.config c d u k.is)) found.1 k.on in
        let before : course_on x.config a b u ≡ Some was = one_course x.topology x.config v a b u t (sym there.0 ∙ here.0) ∙ e in
        let after : course_on y.config c d u ≡ Some becomes = one_course y.topology y.config w c d u t (sym there.1 ∙ here.1) ∙ f in
        let cell : Cell = record { tuple = u; was = was; becomes = becomes; opening = opening_of x a b y c d was becomes } in
        let at : Contains (cells_with x a b y c d u) cell =
        subst (λ (o : Option Course). Contains (cell_at x a b y c d u o (course_on y.config c d u)) cell) (sym before)
        (subst (λ (o : Option Course). Contains (cell_at x a b y c d u (Some was) o) cell) (sym after) (contains_here cell [])) in
        record {
          cell = cell;
          stands = is_joined (cells_on x a b y c d) all r cell found.1 at;
          before = refl;
          after = refl;
          least = k.least;
        }
