-- Lists with an item at a place, or behind the last.
use Rattle.std.specs.Prelude.{◌≡◌, ℕ, zero, suc, ◌+◌, ◌-◌, ◌≤◌, ◌<◌, List, [], ◌∷◌, ◌++◌, drop, length, true}
use Rattle.std.proofs.Common.{refl, sym, ◌∙◌, ap, arith, get_or, inl, inr, set}
use Rattle.std.proofs.lemmas.Bool.{cases_eq}
use Rattle.std.proofs.lemmas.List.{get_or-set_other}
use Rattle.node_core.specs.Keeping.{AreFew, AreOfLive, kept_at}
use Rattle.node_core.specs.NodeModel.Step.{Post, is_idle, nothing, post}
use Rattle.ov_types.specs.declared.rows.NodeId.{NodeId}
use Rattle.control_node.specs.Agents.{AreRetired, agents_with, number_for, put_at, with_retired}
use Rattle.control_node.specs.Core.{sessions}
use Rattle.control_node.specs.declared.plan.ControlPlan.{ControlPlan}
use Rattle.control_node.proofs.Retired.{first_bounds, first_few, rest_ascends}

pub put_there : {X : Type 0} (xs : List X) (i : ℕ) (x : X) → i < length xs → put_at xs i x ≡ set xs i x
put_there [] i x lt = absurd (omega (arith, lt))
put_there (y ∷ ys) zero x lt = refl
put_there {X} (y ∷ ys) (suc i) x lt = ap (λ (l : List X). y ∷ l) (put_there ys i x (omega (arith, lt)))

pub put_behind : {X : Type 0} (xs : List X) (i : ℕ) (x : X) → i ≡ length xs → put_at xs i x ≡ xs ++ x ∷ []
put_behind [] i x at = refl
put_behind (y ∷ ys) zero x at = absurd (omega (arith, at))
put_behind {X} (y ∷ ys) (suc i) x at = ap (λ (l : List X). y ∷ l) (put_behind ys i x (omega (arith, at)))

pub put_longer : {X : Type 0} (xs : List X) (i : ℕ) (x : X) → length xs ≤ length (put_at xs i x)
put_longer [] i x = omega arith
put_longer (y ∷ ys) zero x = omega arith
put_longer (y ∷ ys) (suc i) x = (let h = put_longer ys i x in omega (arith, h))

pub put_alike : {X Y : Type 0} (xs : List X) (ys : List Y) (i : ℕ) (x : X) (y : Y) → length xs ≡ length ys
    → length (put_at xs i x) ≡ length (put_at ys i y)
put_alike [] [] i x y e = refl
put_alike [] (b ∷ ys) i x y e = absurd (omega (arith, e))
put_alike (a ∷ xs) [] i x y e = absurd (omega (arith, e))
put_alike (a ∷ xs) (b ∷ ys) zero x y e = e
put_alike (a ∷ xs) (b ∷ ys) (suc i) x y e =
    (let h = put_alike xs ys i x y (omega (arith, e)) in omega (arith, h))

-- ---- nothing is kept there
pub few_put : (kept : List (List ℕ)) (n : ℕ) → AreFew kept → AreFew (put_at kept n [])
few_put [] n few = λ i. elim i as (λ i. length (kept_at ([] ∷ []) i) ≤ 65539) [
  | zero ↦ omega arith
  | suc j ↦ omega arith
]
few_put (x ∷ kept) zero few = λ i. elim i as (λ i. length (kept_at ([] ∷ kept) i) ≤ 65539) [
  | zero ↦ omega arith
  | suc j ↦ few (suc j)
]
few_put (x ∷ kept) (suc n) few = λ i. elim i as (λ i. length (kept_at (x ∷ put_at kept n []) i) ≤ 65539) [
  | zero ↦ few zero
  | suc j ↦ few_put kept n (λ i. few (suc i)) j
]

pub live_put : (posts : List Post) (kept : List (List ℕ)) (n : ℕ) → length kept ≡ length posts → AreOfLive posts kept
    → AreOfLive (put_at posts n nothing) (put_at kept n [])
live_put [] [] n long live = λ i.
    elim i as (λ i. is_idle (post (nothing ∷ []) i).phase ≡ true → kept_at ([] ∷ []) i ≡ []) [
      | zero ↦ λ idle. refl
      | suc j ↦ λ idle. refl
    ]
live_put [] (x ∷ kept) n long live = absurd (omega (arith, long))
live_put (p ∷ posts) [] n long live = absurd (omega (arith, long))
live_put (p ∷ posts) (x ∷ kept) zero long live = λ i.
    elim i as (λ i. is_idle (post (nothing ∷ posts) i).phase ≡ true → kept_at ([] ∷ kept) i ≡ []) [
      | zero ↦ λ idle. refl
      | suc j ↦ λ idle. live (suc j) idle
    ]
live_put (p ∷ posts) (x ∷ kept) (suc n) long live = λ i.
    elim i as (λ i. is_idle (post (p ∷ put_at posts n nothing) i).phase ≡ true
    → kept_at (x ∷ put_at kept n []) i ≡ []) [
      | zero ↦ λ idle. live zero idle
      | suc j ↦ λ idle. live_put posts kept n (omega (arith, long)) (λ i idle. live (suc i) idle) j idle
    ]

-- nothing is kept of an end that is closed
set_nothing : {X : Type 0} (xs : List X) (i : ℕ) (d : X) → get_or (set xs i d) i d ≡ d
set_nothing [] i d = refl
set_nothing (x ∷ xs) zero d = refl
set_nothing (x ∷ xs) (suc i) d = set_nothing xs i d

pub live_set : (posts : List Post) (kept : List (List ℕ)) (n : ℕ) → AreOfLive posts kept
    → AreOfLive (set posts n nothing) (set kept n [])
live_set posts kept n live i idle =
    elim (cases_eq i n) as (λ _. kept_at (set kept n []) i ≡ []) [
      | inl e ↦ ap (kept_at (set kept n [])) e ∙ set_nothing kept n []
      | inr ne ↦ get_or-set_other kept n i [] [] ne
          ∙ live i (ap (λ (p : Post). is_idle p.phase) (sym (get_or-set_other posts n i nothing nothing ne)) ∙ idle)
    ]

-- ---- a node with one more agent
module _ (plan : ControlPlan) (posts : List Post) (kept : List (List ℕ)) (retired : List ℕ) (number : ℕ) (agent : NodeId) where
  abbrev now : ControlPlan
  now = record plan { agents = agents_with plan number agent }

  pub retired_still : AreRetired (with_retired plan retired) → AreRetired (with_retired now (drop 1 retired))
  retired_still are =
      let longer = put_longer plan.agents (number - (1 + length plan.peers)) agent in
      rest_ascends (1 + length plan.peers) (sessions plan) (sessions now) retired (omega (arith, longer)) are

  -- its number is in range
  pub number_range : AreRetired (with_retired plan retired) → number ≡ number_for (with_retired plan retired)
      → sessions plan ≤ 65535 → (retired ≡ [] → sessions plan < 65535)
      → (length plan.peers < number) × ((number < 65535) × (number ≤ sessions plan))
  number_range are at few room =
      let bounds = first_bounds (1 + length plan.peers) (sessions plan) retired (omega arith) are in
      let small = first_few (1 + length plan.peers) (sessions plan) 65535 retired are few room in
      let low = bounds.0 in let high = bounds.1 in
      (omega (arith, at, low), (omega (arith, at, small), omega (arith, at, high)))
