-- What tests of sameness say: of names, compute nodes, services and subnets.
use Rattle.std.proofs.Common.{◌≡◌, ◌≢◌, ℕ, ◌&&◌, eqb, Bool, true, false, cond, List, [], ◌∷◌, Option, Some, None, refl, sym, ap, ◌∙◌}
use Rattle.std.specs.Cmp.Lexicographic.{pointwise}
use Rattle.std.proofs.lemmas.Bool.{and_parts, eqb-true}
use Rattle.std.proofs.lemmas.Bool.Decides.{nat_tests}
use Rattle.std.proofs.Common.{arith}
use Rattle.ov_types.specs.First.{same_name}
use Rattle.ov_types.specs.Prefix.{Block}
use Rattle.ov_types.proofs.FirstLemmas.{same_name_iff}
use Rattle.config_types.specs.declared.topology.Node.{Node}
use Rattle.hitless_cells.specs.Openings.{change_found, change_of, stops_change, worse}
use Rattle.hitless_cells.specs.Lines.{same_found}
use Rattle.hitless_cells.specs.declared.changes.Change.{Change}
use Rattle.hitless_cells.specs.declared.changes.Change.TheVariants.{Same, Listening, Place}
use Rattle.hitless_cells.specs.declared.stops.Stop.{Stop}

pub same_number : (n : ℕ) → eqb n n ≡ true
same_number n = grind (arith, nat_tests)

pub both_true : (a b : Bool) → a ≡ true → b ≡ true → (a && b) ≡ true
both_true true b h k = k
both_true false b h k = absurd cc

pub apart : (x y : List ℕ) → same_name x y ≡ false → x ≢ y
apart x y e = λ same. let never : true ≡ false = sym ((same_name_iff x y).1 same) ∙ e in absurd cc

pub differs : (x y : List ℕ) → x ≢ y → same_name x y ≡ false
differs x y h = elim (same_name x y) as (λ v. same_name x y ≡ v → v ≡ false) [ true ↦ λ e. absurd (h ((same_name_iff x y).0 e)) | false ↦ λ e. refl ] refl

pub number_apart : (m n : ℕ) → m ≢ n → eqb m n ≡ false
number_apart m n h = elim (eqb m n) as (λ v. eqb m n ≡ v → v ≡ false) [ true ↦ λ e. absurd (h (eqb-true m n e)) | false ↦ λ e. refl ] refl

-- names

names_are : (xs ys : List (List ℕ)) → pointwise same_name xs ys ≡ true → xs ≡ ys
names_are [] [] h = refl
names_are [] (y ∷ ys) h = absurd cc
names_are (x ∷ xs) [] h = absurd cc
names_are (x ∷ xs) (y ∷ ys) h =
    let parts = and_parts (same_name x y) (pointwise same_name xs ys) h in
    let head : x ≡ y = (same_name_iff x y).0 parts.0 in
    let rest : xs ≡ ys = names_are xs ys parts.1 in
    λ i. head i ∷ rest i

names_self : (xs : List (List ℕ)) → pointwise same_name xs xs ≡ true
names_self [] = refl
names_self (x ∷ xs) = both_true (same_name x x) (pointwise same_name xs xs) ((same_name_iff x x).1 refl) (names_self xs)

-- compute nodes

not_place : (b : Bool) → cond b Same Listening ≡ Same → b ≡ true
not_place true h = refl
not_place false h = absurd cc

is_same : (b e : Bool) → cond b (cond e Same Listening) Place ≡ Same → (b ≡ true) × (e ≡ true)
is_same true e h = (refl, not_place e h)
is_same false e h = absurd cc

pub node_is : (n m : Node) → change_of n m ≡ Same → n ≡ m
node_is n m h =
    let parts = is_same (same_name n.name m.name && eqb n.address.0 m.address.0) (pointwise same_name n.controllers m.controllers) h in
    let both = and_parts (same_name n.name m.name) (eqb n.address.0 m.address.0) parts.0 in
    let named : n.name ≡ m.name = (same_name_iff n.name m.name).0 both.0 in
    let address : n.address.0 ≡ m.address.0 = eqb-true n.address.0 m.address.0 both.1 in
    let controllers : n.controllers ≡ m.controllers = names_are n.controllers m.controllers parts.1 in
    λ i. record { name = named i; address = record { 0 = address i }; controllers = controllers i }

pub node_self : (n : Node) → change_of n n ≡ Same
node_self n =
    let place : (same_name n.name n.name && eqb n.address.0 n.address.0) ≡ true =
    both_true (same_name n.name n.name) (eqb n.address.0 n.address.0) ((same_name_iff n.name n.name).1 refl) (same_number n.address.0) in
    (λ i. cond (place i) (cond (names_self n.controllers i) Same Listening) Place)

pub found_node_is : (o u : Option Node) → change_found o u ≡ Same → o ≡ u
found_node_is None u h = absurd cc
found_node_is (Some n) None h = absurd cc
found_node_is (Some n) (Some m) h = ap Some (node_is n m h)

-- changes

pub none_worse : (a b : Change) → worse a b ≡ Same → (a ≡ Same) × (b ≡ Same)
none_worse Same b h = (refl, h)
none_worse Place b h = absurd cc
none_worse Listening Place h = absurd cc
none_worse Listening Same h = absurd cc
none_worse Listening Listening h = absurd cc

pub worse_none : (a b : Change) → a ≡ Same → b ≡ Same → worse a b ≡ Same
worse_none a b h k = ap (λ (u : Change). worse u b) h ∙ k

-- services

is_stop : (b : Bool) (c : Change) → cond b c Place ≡ Same → (b ≡ true) × (c ≡ Same)
is_stop true c h = (refl, h)
is_stop false c h = absurd cc

pub stops_are : (ss us : List Stop) → stops_change ss us ≡ Same → ss ≡ us
stops_are [] [] h = refl
stops_are [] (u ∷ us) h = absurd cc
stops_are (s ∷ ss) [] h = absurd cc
stops_are (s ∷ ss) (u ∷ us) h =
    let parts = is_stop (eqb s.service.0 u.service.0) (worse (change_of s.node u.node) (stops_change ss us)) h in
    let both = none_worse (change_of s.node u.node) (stops_change ss us) parts.1 in
    let number : s.service.0 ≡ u.service.0 = eqb-true s.service.0 u.service.0 parts.0 in
    let node : s.node ≡ u.node = node_is s.node u.node both.0 in
    let rest : ss ≡ us = stops_are ss us both.1 in
    λ i. record { service = record { 0 = number i }; node = node i } ∷ rest i

pub stops_self : (ss : List Stop) → stops_change ss ss ≡ Same
stops_self [] = refl
stops_self (s ∷ ss) =
    ap (λ (b : Bool). cond b (worse (change_of s.node s.node) (stops_change ss ss)) Place) (same_number s.service.0)
    ∙ worse_none (change_of s.node s.node) (stops_change ss ss) (node_self s.node) (stops_self ss)

-- subnets

pub found_block_is : (o u : Option Block) → same_found o u ≡ true → o ≡ u
found_block_is None u h = absurd cc
found_block_is (Some p) None h = absurd cc
found_block_is (Some p) (Some q) h =
    let parts = and_parts (eqb p.addr q.addr) (eqb p.len q.len) h in
    let addr : p.addr ≡ q.addr = eqb-true p.addr q.addr parts.0 in
    let len : p.len ≡ q.len = eqb-true p.len q.len parts.1 in
    λ i. Some (record { addr = addr i; len = len i })

pub found_block_self : (p : Block) → same_found (Some p) (Some p) ≡ true
found_block_self p = both_true (eqb p.addr p.addr) (eqb p.len p.len) (same_number p.addr) (same_number p.len)
