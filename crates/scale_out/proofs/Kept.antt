-- What groups of the form keep that choices rest on.
use Rattle.std.proofs.Common.{◌≡◌, ℕ, ◌+◌, ◌<◌, ◌≤◌, Bool, true, false, ltb, leb, IsTrue, List, [], ◌∷◌, length, get_or, Option, Some, None, refl, sym, ap, arith, ◌&&◌}
use Rattle.std.specs.List.{list_all}
use Rattle.std.specs.List.Sorted.{IsStrictlyIncreasing}
use Rattle.std.specs.Option.{option_map_or}
use Rattle.std.specs.Prelude.{option_and_then}
use Rattle.std.proofs.lemmas.Bool.{ltb-true, leb-true}
use Rattle.std.proofs.lemmas.List.Elements.{All-cons, All-contains, All-weaker}
use Rattle.std.proofs.lemmas.List.Kept.{AllPairs-cons, AllPairs-from_increasing}
use Rattle.ov_types.specs.First.{same_name}
use Rattle.ov_types.specs.Name.{is_name}
use Rattle.ov_types.proofs.FirstLemmas.{found_is, pairs_head}
use Rattle.ov_types.specs.declared.numbers.ServiceNo.{ServiceNo}
use Rattle.config_types.specs.declared.config.Config.{Config}
use Rattle.config_types.specs.declared.config.Service.{Service}
use Rattle.config_check.proofs.Iffs.{list_all_true}
use Rattle.scale_out.specs.declared.groups.Group.{Group}
use Rattle.scale_out.specs.Choice.{score, chosen, IsChosen}
use Rattle.scale_out.specs.Form.{is_ascending, are_members, has_group_form}
use Rattle.scale_out.specs.Groups.{group_named, service_numbered, group_for, members_of}
use Rattle.scale_out.proofs.Choices.{Below, Ascends, chosen_of_some, is_the_chosen}

both : (a b : Bool) → (a && b) ≡ true → (a ≡ true) × (b ≡ true)
both true b h = (refl, h)
both false b h = cc

-- each number is below all later ones
ascends : (xs : List ℕ) → is_ascending xs ≡ true → Ascends xs
ascends [] h = λ i j d lt within. absurd (omega (arith, within))
ascends (x ∷ []) h = λ i j d lt within. absurd (omega (arith, lt, within))
ascends (x ∷ (y ∷ ys)) h =
    let parts = both (ltb x y) (is_ascending (y ∷ ys)) h in
    let rest : Ascends (y ∷ ys) = ascends (y ∷ ys) parts.1 in
    let less : x < y = ltb-true x y parts.0 in
    AllPairs-cons Below x (y ∷ ys) (All-cons (Below x) y ys less (All-weaker (Below y) (Below x) (λ z more. omega (arith, less, more)) ys (pairs_head Below y ys rest))) rest

pub increasing : (xs : List ℕ) → is_ascending xs ≡ true → IsStrictlyIncreasing xs
increasing xs h = λ k lt. ascends xs h k (k + 1) 0 (omega arith) lt

pub record AreMembers (members : List ℕ) : Type 0 where
  pub some : 0 < length members
  pub increase : IsStrictlyIncreasing members

pub members_are : (members : List ℕ) → are_members members ≡ true → AreMembers members
unfolding are_members
members_are members h =
    let last = both ((leb 1 (length members) && leb (length members) 16) && list_all (λ m. leb m 65535) members) (is_ascending members) h in
    let first = both (leb 1 (length members) && leb (length members) 16) (list_all (λ m. leb m 65535) members) last.0 in
    let count = both (leb 1 (length members)) (leb (length members) 16) first.0 in
    let least = leb-true 1 (length members) count.0 in
    record { some = omega (arith, least); increase = increasing members last.1 }

pub group_keeps : (g : Group) → has_group_form g ≡ true → AreMembers g.members
group_keeps g h = members_are g.members (both (is_name g.service) (are_members g.members) h).1

pub named_keeps : (groups : List Group) (name : List ℕ) (g : Group) → IsTrue (list_all has_group_form groups) → group_named groups name ≡ Some g → AreMembers g.members
named_keeps groups name g h e =
    let inside = (found_is (λ (x : Group). same_name x.service name) groups g e).1 in
    group_keeps g (All-contains (λ x. has_group_form x ≡ true) groups g ((list_all_true has_group_form groups).0 h) inside)

-- the group of a service, where the service is known
for_keeps_by : (groups : List Group) (o : Option Service) (g : Group) → IsTrue (list_all has_group_form groups) → option_and_then (λ s. group_named groups s.name) o ≡ Some g → AreMembers g.members
for_keeps_by groups None g h e = cc
for_keeps_by groups (Some s) g h e = named_keeps groups s.name g h e

pub for_keeps : (c : Config) (groups : List Group) (number : ServiceNo) (g : Group) → IsTrue (list_all has_group_form groups) → group_for c groups number ≡ Some g → AreMembers g.members
for_keeps c groups number g h e = for_keeps_by groups (service_numbered c number) g h e

pub for_some : (c : Config) (groups : List Group) (number : ServiceNo) (g : Group) → group_for c groups number ≡ Some g → IsTrue (list_all has_group_form groups) → 0 < length g.members
for_some c groups number g e h = (for_keeps c groups number g h e).some

pub for_increase : (c : Config) (groups : List Group) (number : ServiceNo) (g : Group) → group_for c groups number ≡ Some g → IsTrue (list_all has_group_form groups) → IsStrictlyIncreasing g.members
for_increase c groups number g e h = (for_keeps c groups number g h e).increase

lone_increases : (x : ℕ) → IsStrictlyIncreasing (x ∷ [])
lone_increases x k lt = absurd (omega (arith, lt))

-- without a group there is one member
pub lone_keeps : (x : ℕ) → AreMembers (x ∷ [])
lone_keeps x = record { some = omega arith; increase = lone_increases x }

members_keep_by : (o : Option Group) → ((g : Group) → o ≡ Some g → AreMembers g.members) → AreMembers (option_map_or (λ g. g.members) o (0 ∷ []))
members_keep_by None each = lone_keeps 0
members_keep_by (Some g) each = each g refl

pub members_keep : (c : Config) (groups : List Group) (number : ServiceNo) → IsTrue (list_all has_group_form groups) → AreMembers (members_of c groups number)
members_keep c groups number h = members_keep_by (group_for c groups number) (λ g e. for_keeps c groups number g h e)

pub one_is_chosen : (c : Config) (groups : List Group) (number : ServiceNo) (key : ℕ) → IsTrue (list_all has_group_form groups) → IsChosen (members_of c groups number) key (chosen (members_of c groups number) key)
one_is_chosen c groups number key h =
    let keeps = members_keep c groups number h in
    chosen_of_some (members_of c groups number) key keeps.some (AllPairs-from_increasing (members_of c groups number) keeps.increase)

-- of one member that one is chosen
pub lone_is_chosen : (x key : ℕ) → chosen (x ∷ []) key ≡ x
lone_is_chosen x key =
    is_the_chosen (x ∷ []) key x (omega arith) (AllPairs-from_increasing (x ∷ []) (lone_increases x)) (record {
      stands = (0, omega arith, refl);
      greatest = at_one;
      least = at_least;
    })
  where
    zero_only : (k : ℕ) → k < length (x ∷ []) → k ≡ 0
    zero_only k lt = omega (arith, lt)

    at_one : (k d : ℕ) → k < length (x ∷ []) → score key (get_or (x ∷ []) k d) ≤ score key x
    at_one k d lt = let is : get_or (x ∷ []) k d ≡ x = ap (λ i. get_or (x ∷ []) i d) (zero_only k lt) in let same = ap (score key) is in omega (arith, same)

    at_least : (k d : ℕ) → k < length (x ∷ []) → score key (get_or (x ∷ []) k d) ≡ score key x → x ≤ get_or (x ∷ []) k d
    at_least k d lt e = let is : get_or (x ∷ []) k d ≡ x = ap (λ i. get_or (x ∷ []) i d) (zero_only k lt) in omega (arith, is)

pub no_group : (c : Config) (groups : List Group) (number : ServiceNo) (key : ℕ) → group_for c groups number ≡ None → 0 ≡ chosen (members_of c groups number) key
no_group c groups number key e = rw e (sym (lone_is_chosen 0 key))

pub some_group : (c : Config) (groups : List Group) (number : ServiceNo) (g : Group) → group_for c groups number ≡ Some g → members_of c groups number ≡ g.members
some_group c groups number g e = rw e refl

pub ruleset kept_members = (for_some, for_increase, no_group, some_group)
