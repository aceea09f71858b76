-- An agent that comes to a control node: what the node makes of it is what its seat makes of it.
use Rattle.std.proofs.Common.{◌≡◌, ◌≢◌, ◌<◌, ◌≤◌, ◌+◌, ◌-◌, ◌==◌, ◌⊎◌, ◌&&◌, ◌||◌, ℕ, zero, suc, Bool, true, false, not, if◌then◌else◌, Option, Some, None, List, [], ◌∷◌, ◌++◌, length, map, get_or, sym, ◌∙◌, ap, refl, subst, arith, eq-eqb, ne_eqb}
use Rattle.std.proofs.Common.{inl, inr}
use Rattle.std.specs.List.{list_any}
use Rattle.ov_types.specs.declared.rows.NodeId.{NodeId}
use Rattle.node_model.specs.Step.{nothing, post}
use Rattle.running_nodes.specs.ControlNode.Agents.{AreRetired, Ascend, is_retired, joined, number_for, put_at, with_agent}
use Rattle.running_nodes.specs.ControlNode.Core as control
use Rattle.running_nodes.specs.ControlNode.ControlPlan.{ControlPlan}
use Rattle.running_nodes.proofs.ControlNodeBelow.Retired.{first_bounds, first_gone, first_least, first_taken}
use Rattle.running_nodes.specs.MachineModel.Setup.{Name}
use Rattle.running_nodes.specs.MachineModel.Setup as model
use Rattle.running_nodes.specs.Controls.{Controls, agents_at, controls_of}
use Rattle.running_nodes.specs.Moving as moving
use Rattle.running_nodes.specs.Moving.{number_in}
use Rattle.running_nodes.specs.Seats.{Controlling, name_there, names_of, others_of}
use Rattle.running_nodes.specs.Changes.{joined_inner}
use Rattle.running_nodes.specs.Cores.{IsVacated, controlled}
use Rattle.running_nodes.proofs.Vacant.{peers_named, there, those}

alike : (m n : ℕ) → (m ≡ n) ⊎ (m ≢ n)
alike m n = search arith

-- ---- a list with an item at a place
pub put_here : {A : Type 0} (xs : List A) (i : ℕ) (x d : A) → i ≤ length xs → get_or (put_at xs i x) i d ≡ x
put_here [] zero x d le = refl
put_here [] (suc i) x d le = absurd (omega arith)
put_here (y ∷ ys) zero x d le = refl
put_here (y ∷ ys) (suc i) x d le = put_here ys i x d (omega arith)

pub put_elsewhere : {A : Type 0} (xs : List A) (i j : ℕ) (x d : A) → i ≤ length xs → j ≢ i → get_or (put_at xs i x) j d ≡ get_or xs j d
put_elsewhere [] zero zero x d le unlike = absurd (unlike refl)
put_elsewhere [] zero (suc j) x d le unlike = refl
put_elsewhere [] (suc i) j x d le unlike = absurd (omega arith)
put_elsewhere (y ∷ ys) zero zero x d le unlike = absurd (unlike refl)
put_elsewhere (y ∷ ys) zero (suc j) x d le unlike = refl
put_elsewhere (y ∷ ys) (suc i) zero x d le unlike = refl
put_elsewhere (y ∷ ys) (suc i) (suc j) x d le unlike = put_elsewhere ys i j x d (omega arith) (λ e. unlike (ap suc e))

pub put_behind_front : {A : Type 0} (xs ys : List A) (j : ℕ) (a : A) → put_at (xs ++ ys) (length xs + j) a ≡ xs ++ put_at ys j a
put_behind_front [] ys j a = ap (λ (n : ℕ). put_at ys n a) (let e : 0 + j ≡ j = omega arith in e)
put_behind_front {A} (x ∷ xs) ys j a =
    ap (λ (n : ℕ). put_at (x ∷ (xs ++ ys)) n a) (let e : length (x ∷ xs) + j ≡ suc (length xs + j) = omega arith in e)
    ∙ ap (λ (zs : List A). x ∷ zs) (put_behind_front xs ys j a)

-- ---- the number of the session
number_all : (s : ℕ) (agents : List NodeId) → number_in (those (λ _. false) s agents) ≡ length agents
number_all s [] = refl
number_all s (a ∷ agents) = (let rest = number_all (s + 1) agents in omega (arith, rest))

number_at : (gone : ℕ → Bool) (s : ℕ) (agents : List NodeId) (j : ℕ) → j < length agents → gone (s + j) ≡ true
    → ((k : ℕ) → k < j → gone (s + k) ≡ false) → number_in (those gone s agents) ≡ j
number_at gone s [] j lt is before = absurd (omega arith)
number_at gone s (a ∷ agents) zero lt is before =
    let here : s ≡ s + 0 = omega arith in
    ap (λ (b : Bool). number_in ((if b then None else Some a) ∷ those gone (s + 1) agents)) (ap gone here ∙ is)
number_at gone s (a ∷ agents) (suc j) lt is before =
    let here : s ≡ s + 0 = omega arith in
    let next : (s + 1) + j ≡ s + suc j = omega arith in
    let rest = number_at gone (s + 1) agents j (omega arith) (ap gone next ∙ is)
    (λ k below. (let move : (s + 1) + k ≡ s + suc k = omega arith in ap gone move ∙ before (suc k) (omega (arith, below)))) in
    ap (λ (b : Bool). number_in ((if b then None else Some a) ∷ those gone (s + 1) agents)) (ap gone here ∙ before 0 (omega arith))
    ∙ (omega (arith, rest))

pub numbers_agree : (plan : ControlPlan) → AreRetired plan → number_for plan ≡ moving.number_for (controls_of plan)
numbers_agree plan are = by_retired plan.retired refl
  where
    s : ℕ
    s = 1 + length plan.peers

    by_retired : (r : List ℕ) → plan.retired ≡ r → number_for plan ≡ moving.number_for (controls_of plan)
    by_retired [] is =
        let last : number_for plan ≡ control.sessions plan = ap (λ (r : List ℕ). get_or r 0 (control.sessions plan)) is in
        let all : number_in (agents_at plan) ≡ length plan.agents =
        ap (λ (r : List ℕ). number_in (those (λ i. list_any (λ n. n == i) r) s plan.agents)) is ∙ number_all s plan.agents in
        omega (arith, last, all)
    by_retired (m ∷ ms) is =
        let first : number_for plan ≡ m = ap (λ (r : List ℕ). get_or r 0 (control.sessions plan)) is in
        let ascends : Ascend s (control.sessions plan) (m ∷ ms) = subst (Ascend s (control.sessions plan)) is are in
        let above = ascends.0 in
        let below = ascends.1.0 in
        let j : ℕ = m - s in
        let here : s + j ≡ m = omega (arith, above) in
        let gone : is_retired plan m ≡ true =
        ap (λ (r : List ℕ). list_any (λ n. n == m) r) is ∙ ap (λ (b : Bool). b || list_any (λ n. n == m) ms) (eq-eqb m m refl) in
        let before : (k : ℕ) → k < j → is_retired plan (s + k) ≡ false =
        λ k lt. by_test k lt (is_retired plan (s + k)) refl m first (omega (arith, above, lt)) in
        let at : number_in (agents_at plan) ≡ j = number_at (is_retired plan) s plan.agents j (omega (arith, below, above)) (ap (is_retired plan) here ∙ gone) before in
        omega (arith, first, at, here)
      where
        by_test : (k : ℕ) → k < m - s → (b : Bool) → is_retired plan (s + k) ≡ b → (n : ℕ) → number_for plan ≡ n → s + k < n → is_retired plan (s + k) ≡ false
        by_test k lt false e n first below = e
        by_test k lt true e n first below =
            (let least = (first_least plan.retired s (control.sessions plan) (control.sessions plan) (s + k) are e).1 in
            absurd (omega (arith, least, first, below)))

-- ---- who is there then
with_at : (a : NodeId) (os : List (Option NodeId)) → model.with_agent a os ≡ put_at os (number_in os) (Some a)
with_at a [] = refl
with_at a (None ∷ os) = refl
with_at a (Some b ∷ os) =
    let next : suc (number_in os) ≡ 1 + number_in os = omega arith in
    ap (λ (ps : List (Option NodeId)). Some b ∷ ps) (with_at a os) ∙ ap (λ (n : ℕ). put_at (Some b ∷ os) n (Some a)) next

those_put : (gone gone' : ℕ → Bool) (s : ℕ) (agents : List NodeId) (j : ℕ) (a : NodeId) → j ≤ length agents → gone' (s + j) ≡ false
    → ((k : ℕ) → k ≢ j → gone' (s + k) ≡ gone (s + k))
    → those gone' s (put_at agents j a) ≡ put_at (those gone s agents) j (Some a)
those_put gone gone' s [] zero a le is same =
    let here : s ≡ s + 0 = omega arith in
    ap (λ (b : Bool). (if b then None else Some a) ∷ []) (ap gone' here ∙ is)
those_put gone gone' s [] (suc j) a le is same = absurd (omega arith)
those_put gone gone' s (b ∷ agents) zero a le is same =
    let here : s ≡ s + 0 = omega arith in
    let first : there gone' (s, a) ≡ Some a = ap (λ (x : Bool). if x then None else Some a) (ap gone' here ∙ is) in
    let rest : those gone' (s + 1) agents ≡ those gone (s + 1) agents =
    those_alike gone gone' (s + 1) agents (λ k. (let move : (s + 1) + k ≡ s + suc k = omega arith in
    ap gone' move ∙ (same (suc k) (λ e. absurd (omega (arith, e))) ∙ ap gone (sym move)))) in
    λ i. first i ∷ rest i
  where
    those_alike : (gone gone' : ℕ → Bool) (s : ℕ) (agents : List NodeId) → ((k : ℕ) → gone' (s + k) ≡ gone (s + k))
        → those gone' s agents ≡ those gone s agents
    those_alike gone gone' s [] same = refl
    those_alike gone gone' s (b ∷ agents) same =
        let here : s ≡ s + 0 = omega arith in
        let first : there gone' (s, b) ≡ there gone (s, b) =
        ap (λ (x : Bool). if x then None else Some b) (ap gone' here ∙ (same 0 ∙ ap gone (sym here))) in
        let rest = those_alike gone gone' (s + 1) agents (λ k. (let move : (s + 1) + k ≡ s + suc k = omega arith in
        ap gone' move ∙ (same (suc k) ∙ ap gone (sym move)))) in
        λ i. first i ∷ rest i
those_put gone gone' s (b ∷ agents) (suc j) a le is same =
    let here : s ≡ s + 0 = omega arith in
    let first : there gone' (s, b) ≡ there gone (s, b) =
    ap (λ (x : Bool). if x then None else Some b) (ap gone' here ∙ (same 0 (λ e. absurd (omega (arith, e))) ∙ ap gone (sym here))) in
    let next : (s + 1) + j ≡ s + suc j = omega arith in
    let rest = those_put gone gone' (s + 1) agents j a (omega arith) (ap gone' next ∙ is)
    (λ k unlike. (let move : (s + 1) + k ≡ s + suc k = omega arith in
    ap gone' move ∙ (same (suc k) (λ e. unlike (omega (arith, e))) ∙ ap gone (sym move)))) in
    λ i. first i ∷ rest i

and_true : (b : Bool) → (b && true) ≡ b
and_true true = refl
and_true false = refl

module _ (plan : ControlPlan) (are : AreRetired plan) (a : NodeId) where
  abbrev s : ℕ
  s = 1 + length plan.peers

  number : ℕ
  number = number_for plan

  bounds : (s ≤ number_for plan) × (number_for plan ≤ control.sessions plan)
  bounds = first_bounds s (control.sessions plan) plan.retired (omega arith) are

  kept_numbers : (i : ℕ) → i ≢ number_for plan → is_retired (with_agent plan a) i ≡ is_retired plan i
  kept_numbers i unlike =
      first_taken plan.retired s (control.sessions plan) (control.sessions plan) i are
      ∙ (ap (λ (b : Bool). is_retired plan i && not b) (ne_eqb i (number_for plan) unlike) ∙ and_true (is_retired plan i))

  pub agents_joined : agents_at (with_agent plan a) ≡ model.with_agent a (agents_at plan)
  agents_joined =
      let agree = numbers_agree plan are in
      let low = bounds.0 in
      let high = bounds.1 in
      let j : ℕ = number_for plan - s in
      let here : s + j ≡ number_for plan = omega (arith, low) in
      let at : j ≡ number_in (agents_at plan) = omega (arith, agree, low) in
      those_put (is_retired plan) (is_retired (with_agent plan a)) s plan.agents j a (omega (arith, low, high))
      (ap (is_retired (with_agent plan a)) here ∙ first_gone plan.retired s (control.sessions plan) (control.sessions plan) are)
      (λ k unlike. kept_numbers (s + k) (λ e. unlike (omega (arith, e, here))))
      ∙ (ap (λ (n : ℕ). put_at (agents_at plan) n (Some a)) at ∙ sym (with_at a (agents_at plan)))

  pub controls_joined : controls_of (with_agent plan a) ≡ record (controls_of plan) { agents = model.with_agent a (agents_at plan) }
  controls_joined = λ i. record { me = plan.me; asn = plan.asn; peers = plan.peers; agents = agents_joined i }

pub joined_seen : (c : control.Core) (a : NodeId) → AreRetired c.plan → controlled (joined c a) ≡ joined_inner a (controlled c)
joined_seen c a are =
    let who = controls_joined c.plan are a in
    let number = numbers_agree c.plan are in
    λ i. record { who = Controlling (who i); posts = put_at c.posts (number i) nothing; kept = put_at c.kept (number i) [] }

pub joined_vacated : (c : control.Core) (a : NodeId) → AreRetired c.plan → control.sessions c.plan ≡ length c.posts → IsVacated c
    → IsVacated (joined c a)
joined_vacated c a are long vacant = record {
  none = λ i gone. elim (alike i (number_for c.plan)) [
    | inl is ↦ (
        let high = (bounds c.plan are a).1 in
        ap (λ (n : ℕ). post (put_at c.posts (number_for c.plan) nothing) n) is
        ∙ put_here c.posts (number_for c.plan) nothing nothing (omega (arith, high, long)))
    | inr unlike ↦ (
        let high = (bounds c.plan are a).1 in
        put_elsewhere c.posts (number_for c.plan) i nothing nothing (omega (arith, high, long)) unlike
        ∙ vacant.none i (sym (kept_numbers c.plan are a i unlike) ∙ gone))
  ];
}

-- ---- at the other ends
named_with : (a : NodeId) (os : List (Option NodeId)) → map name_there (model.with_agent a os) ≡ put_at (map name_there os) (number_in os) (Some a.name)
named_with a [] = refl
named_with a (None ∷ os) = refl
named_with a (Some b ∷ os) =
    let next : suc (number_in os) ≡ 1 + number_in os = omega arith in
    ap (λ (ps : List (Option Name)). Some b.name ∷ ps) (named_with a os) ∙ ap (λ (n : ℕ). put_at (map name_there (Some b ∷ os)) n (Some a.name)) next

pub others_joined : (a : NodeId) (c : Controls)
    → others_of (Controlling (record c { agents = model.with_agent a c.agents }))
    ≡ put_at (others_of (Controlling c)) (moving.number_for c) (Some a.name)
others_joined a c =
    let front = names_of c.peers in
    let back = map name_there c.agents in
    let named = peers_named c.peers in
    let far : suc (length front + number_in c.agents) ≡ moving.number_for c = omega (arith, named) in
    ap (λ (os : List (Option Name)). get_or (others_of (Controlling c)) 0 None ∷ (front ++ os)) (named_with a c.agents)
    ∙ (ap (λ (os : List (Option Name)). get_or (others_of (Controlling c)) 0 None ∷ os) (sym (put_behind_front front back (number_in c.agents) (Some a.name)))
    ∙ ap (λ (n : ℕ). put_at (others_of (Controlling c)) n (Some a.name)) far)
