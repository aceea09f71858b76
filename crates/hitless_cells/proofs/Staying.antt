-- Between networks of which a change leaves the ways and the ports as they are no line stands.
use Rattle.std.proofs.Common.{◌≡◌, inl, inr, ◌&&◌, ◌||◌, eqb, not, Bool, true, false, cond, List, [], ◌∷◌, Option, Some, None, option_map, refl, sym, ap, ◌∙◌}
use Rattle.std.specs.List.{Contains, list_all, list_any}
use Rattle.std.proofs.lemmas.Bool.{and_parts}
use Rattle.ov_types.specs.First.{same_name}
use Rattle.ov_types.specs.declared.packet.Tuple.{Tuple}
use Rattle.ov_types.proofs.FirstLemmas.{contains_at, contains_cases, contains_here}
use Rattle.config_types.specs.declared.config.Action.{Action}
use Rattle.config_types.specs.declared.config.Action.TheVariants as Does
use Rattle.config_types.specs.declared.config.Config.{Config}
use Rattle.config_types.specs.declared.config.Network.{Network}
use Rattle.policy_rules.specs.Matching.{deciding}
use Rattle.policy_rules.specs.Related.{passes, rules_between}
use Rattle.policy_rules.specs.declared.matching.Match.{Match}
use Rattle.policy_rules.proofs.Lists.{joined_is}
use Rattle.policy_rules.proofs.Taking.{deciding_iff}
use Rattle.config_check.specs.Checked.{Checked}
use Rattle.hitless_cells.specs.Cells.{are_near, cells_of}
use Rattle.hitless_cells.specs.Courses.{course_by, course_of, course_on}
use Rattle.hitless_cells.specs.Lines.{best_line, difference_at, difference_by, difference_of, first_difference, leads, line_on, line_with, lines_at, lines_between, lines_from, lines_of, same_subnet, subnet_counts}
use Rattle.hitless_cells.specs.Openings.{opened, opened_between, opened_within, opening_by, opening_of, worse}
use Rattle.hitless_cells.specs.Steady.{arrives_alike, ends_stay, is_same, is_steady, leads_between, leads_on, stays, ways_stay}
use Rattle.hitless_cells.specs.declared.cells.Cell.{Cell}
use Rattle.hitless_cells.specs.declared.changes.Change.{Change}
use Rattle.hitless_cells.specs.declared.changes.Change.TheVariants.{Same, Listening, Place}
use Rattle.hitless_cells.specs.declared.course.Course.{Course}
use Rattle.hitless_cells.specs.declared.course.Course.TheVariants.{Inside, Passing}
use Rattle.hitless_cells.specs.declared.ends.Ends.{Ends}
use Rattle.hitless_cells.specs.declared.joints.Joint.{Joint}
use Rattle.hitless_cells.specs.declared.lines.Difference.TheVariants as Is
use Rattle.hitless_cells.specs.declared.openings.Opening.TheVariants.{Both}
use Rattle.hitless_cells.specs.declared.stops.Stop.{Stop}
use Rattle.hitless_cells.proofs.Best.{line_is}
use Rattle.hitless_cells.proofs.Celled.{IsCell, cells_are, nothing}
use Rattle.hitless_cells.proofs.Exactly.{option_one}

-- tests of items

or_late : (a b : Bool) → b ≡ true → (a || b) ≡ true
or_late true b h = refl
or_late false b h = h

not_true : (b : Bool) → not b ≡ true → b ≡ false
not_true true h = absurd cc
not_true false h = refl

all_pass : {A : Type 0} (p : A → Bool) (xs : List A) (x : A) → list_all p xs ≡ true → Contains xs x → p x ≡ true
all_pass p [] x h at = nothing x at
all_pass p (y ∷ ys) x h at =
    let parts = and_parts (p y) (list_all p ys) h in
    elim (contains_cases y ys x at) [ inl here ↦ sym (ap p here) ∙ parts.0 | inr later ↦ all_pass p ys x parts.1 later ]

some_pass : {A : Type 0} (p : A → Bool) (xs : List A) (x : A) → Contains xs x → p x ≡ true → list_any p xs ≡ true
some_pass p [] x at h = nothing x at
some_pass p (y ∷ ys) x at h =
    elim (contains_cases y ys x at) [
      | inl here ↦ ap (λ (b : Bool). b || list_any p ys) (ap p here ∙ h)
      | inr later ↦ or_late (p y) (list_any p ys) (some_pass p ys x later h)
    ]

none_pass : {A : Type 0} (p : A → Bool) (xs : List A) (x : A) → Contains xs x → list_any p xs ≡ false → p x ≡ false
none_pass p xs x at n =
    elim (p x) as (λ b. p x ≡ b → b ≡ false) [
      | true ↦ λ e. let never : true ≡ false = sym (some_pass p xs x at e) ∙ n in absurd cc
      | false ↦ λ e. refl
    ] refl

empty : {A : Type 0} (xs : List A) → ((x : A) → Contains xs x → ⊥) → xs ≡ []
empty [] h = refl
empty (x ∷ xs) h = absurd (h x (contains_here x xs))

-- where no rule leads through a chain, packets pass

by_rule : (act : Action) (mirrored : Bool) (w : Course) → leads_on act ≡ false → course_of mirrored act ≡ Some w → (w ≡ Passing) × (passes act ≡ true)
by_rule Does.Pass mirrored w n h = let one : Some Passing ≡ Some w = h in let same : w ≡ Passing = cc in (same, refl)
by_rule Does.Deny mirrored w n h = let never : None ≡ Some w = h in absurd cc
by_rule (Does.Through chain use_no) mirrored w n h = let never : true ≡ false = n in absurd cc

goes_by : (c : Config) (a b : Network) (t : Tuple) (w : Course) (o : Option Match) → deciding c a b t ≡ o → leads_between c a b ≡ false → course_by o ≡ Some w
    → (w ≡ Passing) × (list_any (λ r. passes r.rule.action) (rules_between c a b) ≡ true)
goes_by c a b t w None e n h = let never : None ≡ Some w = h in absurd cc
goes_by c a b t w (Some m) e n h =
    let d = (deciding_iff c a b t m).0 e in
    let at : Contains (rules_between c a b) m.rule = contains_at (rules_between c a b) d.place m.rule d.stands in
    let rule = by_rule m.rule.rule.action m.mirrored w (none_pass (λ r. leads_on r.rule.action) (rules_between c a b) m.rule at n) h in
    (rule.0, some_pass (λ r. passes r.rule.action) (rules_between c a b) m.rule at rule.1)

taken : (b : Bool) (u w : Option (List Stop)) → b ≡ true → cond b u w ≡ u
taken true u w h = refl
taken false u w h = absurd cc

passes_open : (x : Checked) (a b : Network) (t : Tuple) (w : Course) → same_name b.name a.name ≡ false → leads_between x.config a b ≡ false
    → course_on x.config a b t ≡ Some w → (w ≡ Passing) × (opened x a b Passing ≡ Some [])
passes_open x a b t w apart n h =
    let course : course_by (deciding x.config a b t) ≡ Some w = sym (ap (λ (o : Bool). cond o (Some Inside) (course_by (deciding x.config a b t))) apart) ∙ h in
    let goes = goes_by x.config a b t w (deciding x.config a b t) refl n course in (
      goes.0,
      ap (λ (o : Bool). cond o (opened_within Passing) (opened_between x a b Passing)) apart
          ∙ taken (list_any (λ r. passes r.rule.action) (rules_between x.config a b)) (Some []) None goes.1,
    )

inside_open : (x : Checked) (a b : Network) (t : Tuple) (w : Course) → same_name b.name a.name ≡ true
    → course_on x.config a b t ≡ Some w → (w ≡ Inside) × (opened x a b Inside ≡ Some [])
inside_open x a b t w alike h =
    let one : Some Inside ≡ Some w = sym (ap (λ (o : Bool). cond o (Some Inside) (course_by (deciding x.config a b t))) alike) ∙ h in
    let is : w ≡ Inside = cc in
    (is, ap (λ (o : Bool). cond o (opened_within Inside) (opened_between x a b Inside)) alike)

-- cells whose ways stay as they are

record IsSteady (cell : Cell) : Type 0 where
  opening : cell.opening ≡ Both Same
  was : leads cell.was ≡ false
  becomes : leads cell.becomes ≡ false

module _ (x y : Checked) (a b c d : Network) where
  both_open : (w : Course) → opened x a b w ≡ Some [] → opened y c d w ≡ Some [] → opening_of x a b y c d w w ≡ Both Same
  both_open w e f = λ i. opening_by (e i) (f i) (e i) (f i)

  steady_by : (cell : Cell) (w : Course) → IsCell x y a b c d cell → cell.was ≡ w → cell.becomes ≡ w → leads w ≡ false
      → opened x a b w ≡ Some [] → opened y c d w ≡ Some [] → IsSteady cell
  steady_by cell w is was becomes n e f =
      let same : opening_of x a b y c d cell.was cell.becomes ≡ opening_of x a b y c d w w = λ i. opening_of x a b y c d (was i) (becomes i) in
      record { opening = is.opening ∙ same ∙ both_open w e f; was = ap leads was ∙ n; becomes = ap leads becomes ∙ n }

  cell_steady : ways_stay x a b y c d ≡ true → (cell : Cell) → Contains (cells_of x a b y c d) cell → IsSteady cell
  cell_steady h cell at =
      let is = cells_are x y a b c d cell at in
      elim (same_name b.name a.name) as (λ s. same_name b.name a.name ≡ s
      → cond s (same_name d.name c.name) (not (same_name d.name c.name) && (not (leads_between x.config a b) && not (leads_between y.config c d))) ≡ true → IsSteady cell) [
        | true ↦ λ s h.
            let before = inside_open x a b cell.tuple cell.was s is.before in
            let after = inside_open y c d cell.tuple cell.becomes h is.after in
            steady_by cell Inside is before.0 after.0 refl before.1 after.1
        | false ↦ λ s h.
            let parts = and_parts (not (same_name d.name c.name)) (not (leads_between x.config a b) && not (leads_between y.config c d)) h in
            let none = and_parts (not (leads_between x.config a b)) (not (leads_between y.config c d)) parts.1 in
            let before = passes_open x a b cell.tuple cell.was s (not_true (leads_between x.config a b) none.0) is.before in
            let after = passes_open y c d cell.tuple cell.becomes (not_true (same_name d.name c.name) parts.0) (not_true (leads_between y.config c d) none.1) is.after in
            steady_by cell Passing is before.0 after.0 refl before.1 after.1
      ] refl h

-- such cells give no line between ports that stay as they are

same_is : (change : Change) → is_same change ≡ true → change ≡ Same
same_is Same h = refl
same_is Listening h = absurd cc
same_is Place h = absurd cc

module _ (from to : Ends) (j k : Joint) (cell : Cell) where
  no_line : ((eqb from.before.id.0 from.after.id.0) && (eqb to.before.id.0 to.after.id.0)) ≡ true → eqb k.before.id.0 k.after.id.0 ≡ true
      → j.change ≡ Same → k.change ≡ Same → IsSteady cell → line_on from to j k cell ≡ None
  no_line numbers one left right s =
      let was = s.was in
      let becomes = s.becomes in
      let subnet : subnet_counts to k.before.address.0 cell ≡ false = λ i. (was i || becomes i) && not (same_subnet to k.before.address.0) in
      let by : difference_by from to j k cell (Both Same) ≡ None = λ i. first_difference (numbers i) (worse (left i) (right i)) Same (subnet i) in
      let none : difference_at from to j k cell ≡ None =
      ap (λ (o : Bool). cond o (difference_of from to j k cell) (Some (Is.AnotherPort k.after.id))) one
      ∙ ap (difference_by from to j k cell) s.opening ∙ by in
      ap (option_map (line_with j k cell)) none

no_lines : (from to : Ends) (cells : List Cell) → ends_stay from to ≡ true → ((cell : Cell) → Contains cells cell → IsSteady cell) → lines_of from to cells ≡ []
no_lines from to cells h steady =
    let numbers = eqb from.before.id.0 from.after.id.0 && eqb to.before.id.0 to.after.id.0 in
    let parts = and_parts numbers (list_all stays from.joints && list_all arrives_alike to.joints) h in
    let ports = and_parts (list_all stays from.joints) (list_all arrives_alike to.joints) parts.1 in
    empty (lines_of from to cells) (λ l at.
    let j = joined_is (lines_from from to cells) from.joints l at in
    let k = joined_is (lines_at from to cells j.0) to.joints l j.2 in
    let of = line_is from to j.0 k.0 cells l (option_one (best_line from to j.0 k.0 None cells) l k.2) in
    let left : j.0.change ≡ Same = same_is j.0.change (all_pass stays from.joints j.0 ports.0 j.1) in
    let right = and_parts (eqb k.0.before.id.0 k.0.after.id.0) (is_same k.0.change) (all_pass arrives_alike to.joints k.0 ports.1 k.1) in
    let none : line_on from to j.0 k.0 of.cell ≡ None = no_line from to j.0 k.0 of.cell parts.0 right.0 left (same_is k.0.change right.1) (steady of.cell of.stands) in
    let never : None ≡ Some l = sym none ∙ of.is in
    absurd cc)

same_either : {A : Type 0} (b : Bool) (xs : List A) → xs ≡ [] → cond b xs [] ≡ []
same_either true xs h = h
same_either false xs h = refl

pub no_lines_between : (x y : Checked) (from to : Ends) → is_steady x y from to ≡ true → lines_between x y from to ≡ []
no_lines_between x y from to h =
    let parts = and_parts (ends_stay from to) (ways_stay x from.before to.before y from.after to.after) h in
    let cells : List Cell = cells_of x from.before to.before y from.after to.after in
    same_either (are_near x from.before to.before y from.after to.after) (lines_of from to cells)
    (no_lines from to cells parts.0 (cell_steady x y from.before to.before from.after to.after parts.1))
