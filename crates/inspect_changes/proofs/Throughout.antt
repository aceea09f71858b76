-- All differences of two configurations, and the packets between ports that no line of objects names.
use Rattle.std.proofs.Common.{◌≡◌, ◌≢◌, ◌↔◌, ◌≤◌, arith, inl, inr, ℕ, Bool, true, false, cond, IsTrue, List, [], ◌∷◌, Option, Some, None, refl, sym, ap, ◌∙◌, subst}
use Rattle.std.specs.Prelude.{count_by}
use Rattle.std.specs.List.{Contains}
use Rattle.std.proofs.lemmas.List.Sums.{sum_by-cons}
use Rattle.ov_types.specs.First.{same_name}
use Rattle.ov_types.specs.declared.packet.Packet.{Packet}
use Rattle.ov_types.specs.declared.packet.Tuple.{Tuple}
use Rattle.ov_types.proofs.FirstLemmas.{contains_cases, found_is, same_name_iff}
use Rattle.config_types.specs.Form.{has_config_form}
use Rattle.config_types.specs.declared.config.Config.{Config}
use Rattle.config_types.specs.declared.config.Network.{Network}
use Rattle.config_types.specs.declared.topology.Topology.{Topology}
use Rattle.config_check.specs.Finding.{network_named}
use Rattle.config_check.specs.Rules.{first_broken}
use Rattle.config_check.proofs.Finders.{finds_network_named}
use Rattle.policy_rules.proofs.Lists.{is_joined, joined_is}
use Rattle.policy_regions.specs.Joined.{regions_between}
use Rattle.policy_regions.specs.Overlay.{overlay}
use Rattle.policy_regions.specs.Parts.{IsTuple}
use Rattle.policy_regions.specs.Regions.{holds}
use Rattle.policy_regions.specs.declared.overlays.Compared.{Compared}
use Rattle.reach_plain.proofs.Kept.{valid}
use Rattle.inspect_changes.specs.Deliveries.{GoesBetween, delivery_in}
use Rattle.inspect_changes.specs.Fates.{IsOnDifference, all_differences, differences_between, differences_from, differences_of, differences_to, passage, same_passage}
use Rattle.inspect_changes.specs.Objects.{gone}
use Rattle.inspect_changes.specs.Unnamed.{GoesOn, IsOnLine, IsUnnamed}
use Rattle.inspect_changes.specs.declared.fate.Difference.{Difference}
use Rattle.inspect_changes.proofs.Delivered as Delivered
use Rattle.inspect_changes.proofs.Differing.{fares, made, new_fate, old_fate, on_one_at_most}
use Rattle.inspect_changes.proofs.Exact.{nothing, sole}
use Rattle.inspect_changes.proofs.WhatWent.{goes_on}

-- a difference is of two networks that stand in both configurations
record IsOf (c d : Config) (x : Difference) : Type 0 where
  from : Network
  to : Network
  from_after : Network
  to_after : Network
  from_stands : Contains c.networks from
  to_stands : Contains c.networks to
  from_after_stands : Contains d.networks from_after
  to_after_stands : Contains d.networks to_after
  from_name : from_after.name ≡ from.name
  to_name : to_after.name ≡ to.name
  among : Contains (differences_between c from to d from_after to_after) x

named_is : (d : Config) (name : List ℕ) (n : Network) → network_named d name ≡ Some n → Contains d.networks n × (n.name ≡ name)
named_is d name n e = let f = found_is (λ (m : Network). same_name m.name name) d.networks n e in (f.1, (same_name_iff n.name name).0 f.0)

differ_of : (c d : Config) (a b a' b' : Network) (q : Bool) (x : Difference) → Contains (cond q [] (differences_between c a b d a' b')) x
    → Contains (differences_between c a b d a' b') x
differ_of c d a b a' b' true x at = nothing x at
differ_of c d a b a' b' false x at = at

to_is : (c d : Config) (a b a' : Network) (x : Difference) (o : Option Network) → network_named d b.name ≡ o → Contains c.networks a → Contains c.networks b
    → Contains d.networks a' → a'.name ≡ a.name → Contains (differences_to c a d a' b o) x → IsOf c d x
to_is c d a b a' x None e in_a in_b in_a' same at = nothing x at
to_is c d a b a' x (Some b') e in_a in_b in_a' same at =
    let found = named_is d b.name b' e in
    record {
      from = a;
      to = b;
      from_after = a';
      to_after = b';
      from_stands = in_a;
      to_stands = in_b;
      from_after_stands = in_a';
      to_after_stands = found.0;
      from_name = same;
      to_name = found.1;
      among = differ_of c d a b a' b' (same_name a.name b.name) x at;
    }

from_is : (c d : Config) (a : Network) (x : Difference) (o : Option Network) → network_named d a.name ≡ o → Contains c.networks a
    → Contains (differences_from c a d o) x → IsOf c d x
from_is c d a x None e in_a at = nothing x at
from_is c d a x (Some a') e in_a at =
    let named = named_is d a.name a' e in
    let found = joined_is (λ b. differences_to c a d a' b (network_named d b.name)) c.networks x at in
    to_is c d a found.0 a' x (network_named d found.0.name) refl in_a found.1 named.0 named.1 found.2

is_of : (c d : Config) (x : Difference) → Contains (all_differences c d) x → IsOf c d x
is_of c d x at =
    let found = joined_is (λ a. differences_from c a d (network_named d a.name)) c.networks x at in
    from_is c d found.0 x (network_named d found.0.name) refl found.1 found.2

one_found : {A : Type 0} (o : Option A) (x y : A) → o ≡ Some x → o ≡ Some y → x ≡ y
one_found o x y h k = let both : Some x ≡ Some y = sym h ∙ k in cc

one_network : (t : Topology) (c : Config) (x y : Network) → first_broken t c ≡ None → Contains c.networks x → Contains c.networks y → x.name ≡ y.name → x ≡ y
one_network t c x y kept in_x in_y same =
    let found = finds_network_named t c y.name (valid t c kept) in
    one_found (network_named c y.name) x y ((found.some x).1 (in_x, same)) ((found.some y).1 (in_y, refl))

-- the networks of a difference are those of its region's making
names_in : (from to : List ℕ) (c d : Config) (r : Compared) (x : Difference) → Contains (differences_of from to c d r) x → (x.from ≡ from) × (x.to ≡ to)
names_in from to c d r x at =
    elim (same_passage (passage (old_fate c r)) (passage (new_fate d r))) as (λ q. Contains (cond q [] (made from to c d r ∷ [])) x → (x.from ≡ from) × (x.to ≡ to)) [
      | true ↦ λ k. nothing x k
      | false ↦ λ k. let is = sole (made from to c d r) x k in (sym (ap (λ (x : Difference). x.from) is), sym (ap (λ (x : Difference). x.to) is))
    ] at

names_of : (c d : Config) (a b a' b' : Network) (x : Difference) → Contains (differences_between c a b d a' b') x → (x.from ≡ a.name) × (x.to ≡ b.name)
names_of c d a b a' b' x at =
    let found = joined_is (differences_of a.name b.name c d) (overlay (regions_between c a b) (regions_between d a' b')) x at in
    names_in a.name b.name c d found.0 x found.2

-- the differences of two networks are among all
among_all : (t : Topology) (c d : Config) (a b a' b' : Network) (x : Difference) → first_broken t d ≡ None → Contains c.networks a → Contains c.networks b
    → Contains d.networks a' → Contains d.networks b' → a'.name ≡ a.name → b'.name ≡ b.name → same_name a.name b.name ≡ false
    → Contains (differences_between c a b d a' b') x → Contains (all_differences c d) x
among_all t c d a b a' b' x kept in_a in_b in_a' in_b' e f other at =
    let v = valid t d kept in
    let first : network_named d a.name ≡ Some a' = ((finds_network_named t d a.name v).some a').1 (in_a', e) in
    let second : network_named d b.name ≡ Some b' = ((finds_network_named t d b.name v).some b').1 (in_b', f) in
    let here : Contains (cond (same_name a.name b.name) [] (differences_between c a b d a' b')) x =
    subst (λ (q : Bool). Contains (cond q [] (differences_between c a b d a' b')) x) (sym other) at in
    let there : Contains (differences_to c a d a' b (network_named d b.name)) x = subst (λ (o : Option Network). Contains (differences_to c a d a' b o) x) (sym second) here in
    let row : Contains (differences_from c a d (Some a')) x = is_joined (λ b. differences_to c a d a' b (network_named d b.name)) c.networks b x in_b there in
    is_joined (λ a. differences_from c a d (network_named d a.name)) c.networks a x in_a
    (subst (λ (o : Option Network). Contains (differences_from c a d o) x) (sym first) row)

differs : (a b : List ℕ) → b ≢ a → same_name a b ≡ false
differs a b h =
    elim (same_name a b) as (λ q. same_name a b ≡ q → q ≡ false) [
      | true ↦ λ e. absurd (h (sym ((same_name_iff a b).0 e)))
      | false ↦ λ e. refl
    ] refl

module _ (c d : Config) (p : Packet) (a b : Network) (number : ℕ) (topology : Topology) (form : IsTrue (has_config_form d)) (kept : first_broken topology d ≡ None)
    (g : GoesBetween c p a b number) (none : IsUnnamed (gone c d) c p a b number) where
  on : GoesOn d p a b number
  on = goes_on c d p a b number topology form kept g none

  -- a line that holds the packet is a difference of its networks
  of_these : (x : Difference) → IsOnLine (all_differences c d) a.name b.name p.tuple x → Contains (differences_between c a b d on.from on.to) x
  of_these x line =
      let is = is_of c d x line.stands in
      let names = names_of c d is.from is.to is.from_after is.to_after x is.among in
      let first : is.from ≡ a = one_network g.topology c is.from a g.valid is.from_stands g.leaves.own_stands (sym names.0 ∙ line.source) in
      let second : is.to ≡ b = one_network g.topology c is.to b g.valid is.to_stands g.stands (sym names.1 ∙ line.destination) in
      let third : is.from_after ≡ on.from =
      one_network topology d is.from_after on.from kept is.from_after_stands on.goes.leaves.own_stands (is.from_name ∙ ap (λ (n : Network). n.name) first ∙ sym on.from_name) in
      let fourth : is.to_after ≡ on.to =
      one_network topology d is.to_after on.to kept is.to_after_stands on.goes.stands (is.to_name ∙ ap (λ (n : Network). n.name) second ∙ sym on.to_name) in
      subst (λ (n : Network). Contains (differences_between c a b d on.from n) x) fourth
      (subst (λ (n : Network). Contains (differences_between c a b d n is.to_after) x) third
      (subst (λ (n : Network). Contains (differences_between c a n d is.from_after is.to_after) x) second
      (subst (λ (n : Network). Contains (differences_between c n is.to d is.from_after is.to_after) x) first is.among)))

  as_difference : (x : Difference) → IsOnLine (all_differences c d) a.name b.name p.tuple x → IsOnDifference (differences_between c a b d on.from on.to) p.tuple x.was x.becomes
  as_difference x line = record { difference = x; stands = of_these x line; on = line.on; before = refl; after = refl }

  pub told : (x : Difference) → IsOnLine (all_differences c d) a.name b.name p.tuple x
      → (delivery_in c p number ≡ passage x.was) × (delivery_in d p number ≡ passage x.becomes)
  told x line = Delivered.told c a b d on.from on.to p number x.was x.becomes g on.goes (as_difference x line)

  from_line : ((x : Difference) × IsOnLine (all_differences c d) a.name b.name p.tuple x) → delivery_in c p number ≢ delivery_in d p number
  from_line line same =
      let said = told line.0 line.1 in
      let fared = fares c a b d on.from on.to p.tuple g.tuple line.0.was line.0.becomes (as_difference line.0 line.1) in
      fared.differ (sym said.0 ∙ same ∙ said.1)

  to_line : delivery_in c p number ≢ delivery_in d p number → (x : Difference) × IsOnLine (all_differences c d) a.name b.name p.tuple x
  to_line differ =
      let is = (Delivered.exact c a b d on.from on.to p number g on.goes).0 differ in
      let names = names_of c d a b on.from on.to is.difference is.stands in (
        is.difference,
        record {
          stands = among_all topology c d a b on.from on.to is.difference kept g.leaves.own_stands g.stands on.goes.leaves.own_stands on.goes.stands on.from_name on.to_name
              (differs a.name b.name g.other) is.stands;
          source = names.0;
          destination = names.1;
          on = is.on;
        },
      )

  pub exact : (delivery_in c p number ≢ delivery_in d p number) ↔ ((x : Difference) × IsOnLine (all_differences c d) a.name b.name p.tuple x)
  exact = (to_line, from_line)

-- of what holds of one item at most, two items are one

counted : (b : Bool) → b ≡ true → 1 ≤ cond b 1 0
counted true h = omega arith
counted false h = absurd cc

held_by_none : {A : Type 0} (p : A → Bool) (xs : List A) (x : A) → count_by p xs ≤ 0 → Contains xs x → p x ≡ true → ⊥
held_by_none p [] x few at held = nothing x at
held_by_none p (y ∷ xs) x few at held =
    let sum = sum_by-cons (λ z. cond (p z) 1 0) y xs in
    elim (contains_cases y xs x at) [
      | inl same ↦ let first = counted (p y) (ap p same ∙ held) in omega (arith, first, sum, few)
      | inr later ↦ held_by_none p xs x (omega (arith, sum, few)) later held
    ]

only_one : {A : Type 0} (p : A → Bool) (xs : List A) (x y : A) → count_by p xs ≤ 1 → Contains xs x → Contains xs y → p x ≡ true → p y ≡ true → x ≡ y
only_one p [] x y few at_x at_y is_x is_y = nothing x at_x
only_one p (z ∷ xs) x y few at_x at_y is_x is_y =
    let sum = sum_by-cons (λ w. cond (p w) 1 0) z xs in
    elim (contains_cases z xs x at_x) [
      | inl first ↦ elim (contains_cases z xs y at_y) [
        | inl second ↦ sym first ∙ second
        | inr later ↦
            let one = counted (p z) (ap p first ∙ is_x) in
            absurd (held_by_none p xs y (omega (arith, one, sum, few)) later is_y)
      ]
      | inr there ↦ elim (contains_cases z xs y at_y) [
        | inl second ↦
            let one = counted (p z) (ap p second ∙ is_y) in
            absurd (held_by_none p xs x (omega (arith, one, sum, few)) there is_x)
        | inr later ↦ only_one p xs x y (omega (arith, sum, few)) there later is_x is_y
      ]
    ]

-- no two lines of two networks hold one tuple
pub one_line : (s t : Topology) (c d : Config) (from to : List ℕ) (u : Tuple) (x y : Difference) → first_broken s c ≡ None → first_broken t d ≡ None
    → IsTuple u → IsOnLine (all_differences c d) from to u x → IsOnLine (all_differences c d) from to u y → x ≡ y
one_line s t c d from to u x y good kept tuple first second =
    let f = is_of c d x first.stands in
    let g = is_of c d y second.stands in
    let fs = names_of c d f.from f.to f.from_after f.to_after x f.among in
    let gs = names_of c d g.from g.to g.from_after g.to_after y g.among in
    let one : g.from ≡ f.from = one_network s c g.from f.from good g.from_stands f.from_stands (sym gs.0 ∙ second.source ∙ sym first.source ∙ fs.0) in
    let two : g.to ≡ f.to = one_network s c g.to f.to good g.to_stands f.to_stands (sym gs.1 ∙ second.destination ∙ sym first.destination ∙ fs.1) in
    let three : g.from_after ≡ f.from_after =
    one_network t d g.from_after f.from_after kept g.from_after_stands f.from_after_stands (g.from_name ∙ ap (λ (n : Network). n.name) one ∙ sym f.from_name) in
    let four : g.to_after ≡ f.to_after =
    one_network t d g.to_after f.to_after kept g.to_after_stands f.to_after_stands (g.to_name ∙ ap (λ (n : Network). n.name) two ∙ sym f.to_name) in
    let there : Contains (differences_between c f.from f.to d f.from_after f.to_after) y =
    subst (λ (n : Network). Contains (differences_between c f.from f.to d f.from_after n) y) four
    (subst (λ (n : Network). Contains (differences_between c f.from f.to d n g.to_after) y) three
    (subst (λ (n : Network). Contains (differences_between c f.from n d g.from_after g.to_after) y) two
    (subst (λ (n : Network). Contains (differences_between c n g.to d g.from_after g.to_after) y) one g.among))) in
    only_one (λ (z : Difference). holds z.region u) (differences_between c f.from f.to d f.from_after f.to_after) x y
    (on_one_at_most c f.from f.to d f.from_after f.to_after u tuple) f.among there first.on second.on
