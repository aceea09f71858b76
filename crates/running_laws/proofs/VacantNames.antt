-- The names at the other ends of a node's sessions, some of which are nobody's.
use Rattle.std.specs.Cmp.Lexicographic.{bytes_decides}
use Rattle.std.specs.Option.{unwrap_or}
use Rattle.std.specs.Prelude.{List, cond, length, map, slice_index_or, suc, true, zero, ℕ, [], ◌++◌, ◌+◌, ◌<◌, ◌∷◌, ◌≡◌}
use Rattle.std.specs.declared.option.Option.TheVariants.{None, Some}
use Rattle.std.specs.declared.option.Option.{Option}
use Rattle.std.proofs.Common.{ap, arith, inl, inr, refl, subst, sym, ◌∙◌}
use Rattle.std.proofs.lemmas.Bool.{true≢false}
use Rattle.std.proofs.lemmas.Option.{same_Some}
use Rattle.ov_types.specs.declared.rows.NodeId.{NodeId}
use Rattle.node_model.specs.Members.{Member}
use Rattle.node_model.proofs.Members.{from_map, in_either, in_map, none_some}
use Rattle.machine_laws.specs.MachineModel.Moments.{AreOnce}
use Rattle.machine_laws.specs.MachineModel.Setup.{Name}
use Rattle.machine_laws.proofs.MachineModel.Distinct.{Apart, same_false}
use Rattle.running_nodes.specs.Seats.{index_from, is_name, name_there, names_of, no_node}
use Rattle.running_laws.proofs.FirstPlaces.{at_map, index_found, mapped_length, member_of_at, shifted}

-- ---- a place at which there is somebody
pub some_within : {A : Type 0} (os : List (Option A)) (k : ℕ) (a : A) → slice_index_or os k None ≡ Some a → k < length os
some_within [] k a e = absurd (none_some a e)
some_within (o ∷ os) zero a e = omega arith
some_within (o ∷ os) (suc k) a e = let less = some_within os k a e in omega (arith, less)

pub some_member : {A : Type 0} (os : List (Option A)) (k : ℕ) (a : A) → slice_index_or os k None ≡ Some a → Member (Some a) os
some_member {A = A} os k a e = subst (λ (o : Option A). Member o os) e (member_of_at os k None (some_within os k a e))

pub somebody_is : (o : Option Name) (name : Name) → o ≡ Some name → (o ≡ Some (unwrap_or o [])) × (unwrap_or o [] ≡ name)
somebody_is None name e = absurd (none_some name e)
somebody_is (Some n) name e = (refl, same_Some n name e)

-- ---- each name that there is stands once
abbrev pub AreNamedOnce : List (Option Name) → Type 0
AreNamedOnce [] = Unit {0}
AreNamedOnce (None ∷ os) = AreNamedOnce os
AreNamedOnce (Some n ∷ os) = ((m : Name) → Member (Some m) os → n ≡ m → ⊥) × AreNamedOnce os

number_from : (i : ℕ) (os : List (Option Name)) (k : ℕ) (name : Name) → AreNamedOnce os → slice_index_or os k None ≡ Some name → index_from i (is_name name) os ≡ Some (i + k)
number_from i [] k name a e = absurd (none_some name e)
number_from i (None ∷ os) zero name a e = absurd (none_some name e)
number_from i (None ∷ os) (suc k) name a e =
    let on : suc i + k ≡ i + suc k = omega arith in
    number_from (suc i) os k name a e ∙ ap (λ (k : ℕ). Some k) on
number_from i (Some n ∷ os) zero name a e =
    let on : i ≡ i + 0 = omega arith in
    ap (λ b. cond b (Some i) (index_from (suc i) (is_name name) os)) ((bytes_decides n name).1 (same_Some n name e)) ∙ ap (λ (k : ℕ). Some k) on
number_from i (Some n ∷ os) (suc k) name a e =
    let on : suc i + k ≡ i + suc k = omega arith in
    ap (λ b. cond b (Some i) (index_from (suc i) (is_name name) os)) (same_false n name (a.0 name (some_member os k name e)))
    ∙ number_from (suc i) os k name a.1 e ∙ ap (λ (k : ℕ). Some k) on

-- each is found at its own place
pub number_here : (os : List (Option Name)) (k : ℕ) (name : Name) → AreNamedOnce os → slice_index_or os k None ≡ Some name → index_from 0 (is_name name) os ≡ Some k
number_here os k name a e = let on : 0 + k ≡ k = omega arith in number_from 0 os k name a e ∙ ap (λ (k : ℕ). Some k) on

is_it : (name : Name) (o : Option Name) → is_name name o ≡ true → o ≡ Some name
is_it name None e = absurd (true≢false (sym e))
is_it name (Some m) e = ap (λ (n : Name). Some n) ((bytes_decides m name).0 e)

-- and what is found is there
pub number_found : (name : Name) (os : List (Option Name)) (k : ℕ) → index_from 0 (is_name name) os ≡ Some k → slice_index_or os k None ≡ Some name
number_found name os k e =
    let q = index_found (is_name name) 0 os k None e in
    let same : q.0 ≡ k = omega (arith, q.1) in
    is_it name (slice_index_or os k None) (subst (λ j. is_name name (slice_index_or os j None) ≡ true) same q.3)

-- ---- names of nodes
pub from_named : (m : Name) (nodes : List NodeId) → Member (Some m) (names_of nodes) → (d : NodeId) × Member d nodes × (d.name ≡ m)
from_named m nodes k = let q = from_map (λ (n : NodeId). Some n.name) (Some m) nodes k in (q.0, q.1, same_Some q.0.name m q.2)

pub once_named : (nodes : List NodeId) → Apart (map (λ (n : NodeId). n.name) nodes) → AreNamedOnce (names_of nodes)
once_named [] a = tt
once_named (n ∷ nodes) a = (
  (λ m k e.
      let q = from_named m nodes k in
      a.0 m (subst (λ (m : Name). Member m (map (λ (n : NodeId). n.name) nodes)) q.2 (in_map (λ (n : NodeId). n.name) q.0 nodes q.1)) e),
  once_named nodes a.1,
)

pub from_there : (m : Name) (agents : List (Option NodeId)) → Member (Some m) (map name_there agents) → (a : NodeId) × Member (Some a) agents × (a.name ≡ m)
from_there m [] k = absurd k
from_there m (None ∷ agents) (inl e) = absurd (none_some m e)
from_there m (None ∷ agents) (inr k) = let q = from_there m agents k in (q.0, inr q.1, q.2)
from_there m (Some a ∷ agents) (inl e) = (a, inl refl, same_Some a.name m e)
from_there m (Some a ∷ agents) (inr k) = let q = from_there m agents k in (q.0, inr q.1, q.2)

pub once_there : (agents : List (Option NodeId)) → AreOnce agents → AreNamedOnce (map name_there agents)
once_there [] a = tt
once_there (None ∷ agents) a = once_there agents a
once_there (Some b ∷ agents) a = (
  (λ m k e. let q = from_there m agents k in a.0 q.0 q.1 (e ∙ sym q.2)),
  once_there agents a.1,
)

pub once_both : (ms ns : List (Option Name)) → AreNamedOnce ms → AreNamedOnce ns → ((m n : Name) → Member (Some m) ms → Member (Some n) ns → m ≡ n → ⊥) → AreNamedOnce (ms ++ ns)
once_both [] ns a b h = b
once_both (None ∷ ms) ns a b h = once_both ms ns a b (λ m n i j. h m n (inr i) j)
once_both (Some m ∷ ms) ns a b h = (
  (λ n i e. elim (in_either (Some n) ms ns i) as (λ _. ⊥) [ inl l ↦ a.0 n l e | inr r ↦ h m n (inl refl) r e ]),
  once_both ms ns a.1 b (λ k n i j. h k n (inr i) j),
)

-- ---- by their places
pub named_at : (nodes : List NodeId) (others : List (Option Name)) (j : ℕ) → j < length nodes → slice_index_or (names_of nodes ++ others) j None ≡ Some (slice_index_or nodes j no_node).name
named_at [] others j h = absurd (omega (arith, h))
named_at (n ∷ nodes) others zero h = refl
named_at (n ∷ nodes) others (suc j) h = named_at nodes others j (omega (arith, h))

pub there_at : (nodes : List NodeId) (agents : List (Option NodeId)) (j : ℕ) (a : NodeId) → slice_index_or agents j None ≡ Some a
    → slice_index_or (names_of nodes ++ map name_there agents) (length nodes + j) None ≡ Some a.name
there_at nodes agents j a e =
    shifted (names_of nodes) (map name_there agents) (length nodes) j None (sym (mapped_length (λ (n : NodeId). Some n.name) nodes (names_of nodes) refl))
    ∙ at_map name_there agents j None ∙ ap name_there e
