-- An agent that goes from a control node: what the node makes of it is what its seat makes of it.
use Rattle.std.proofs.Common.{◌≡◌, ◌≢◌, ◌<◌, ◌≤◌, ◌+◌, ◌-◌, ◌==◌, ◌⊎◌, ◌||◌, ℕ, zero, suc, Bool, true, false, if◌then◌else◌, Option, Some, None, List, [], ◌∷◌, ◌++◌, length, map, get_or, set, sym, ◌∙◌, ap, refl, subst, arith, eq-eqb, ne_eqb}
use Rattle.std.proofs.Common.{inl, inr}
use Rattle.std.proofs.lemmas.List.{get_or-append-add, get_or-set_other, get_or-set_same}
use Rattle.ov_types.specs.First.{same_name}
use Rattle.ov_types.proofs.FirstLemmas.{same_name_iff, same_name_self}
use Rattle.ov_types.specs.declared.rows.NodeId.{NodeId}
use Rattle.node_model.specs.Step.{Post, nothing, post}
use Rattle.running_nodes.specs.ControlNode.Agents.{departed, is_retired, retiring}
use Rattle.running_nodes.specs.ControlNode.Core as control
use Rattle.running_nodes.specs.ControlNode.ControlPlan.{ControlPlan}
use Rattle.running_nodes.proofs.ControlNodeBelow.Retired.{one_more}
use Rattle.running_nodes.specs.MachineModel.Setup.{Name, has_name, without_agent}
use Rattle.running_nodes.specs.Controls.{Controls, agents_at, controls_of}
use Rattle.running_nodes.specs.Moving.{retired_of, vacated, vacated_from}
use Rattle.running_nodes.specs.Seats.{Controlling, Seat, Who, index_from, is_name, name_there, names_of, others_of, session_with}
use Rattle.running_nodes.specs.Changes.{IsAlone, emptied_at, vacated_inner}
use Rattle.running_nodes.specs.Cores.{IsVacated, controlled}
use Rattle.running_nodes.specs.Halves.{Inner, Outer, whole}
use Rattle.running_nodes.proofs.Vacant.{peers_named, there, those}

alike : (m n : ℕ) → (m ≡ n) ⊎ (m ≢ n)
alike m n = search arith

-- ---- who is at the other ends then
abbrev without_name : Name → Option NodeId → Option NodeId
without_name name o = if has_name name o then None else o

named_there : (gone : ℕ → Bool) (s : ℕ) (agents : List NodeId) (j : ℕ) (a : NodeId) → j < length agents → get_or agents j a ≡ a
    → get_or (map name_there (those gone s agents)) j None ≡ name_there (there gone (s + j, a))
named_there gone s [] j a lt at = absurd (omega arith)
named_there gone s (b ∷ agents) zero a lt at =
    let here : s ≡ s + 0 = omega arith in
    (λ i. name_there (there gone (here i, at i)))
named_there gone s (b ∷ agents) (suc j) a lt at =
    let here : (s + 1) + j ≡ s + suc j = omega arith in
    named_there gone (s + 1) agents j a (omega arith) at ∙ ap (λ (n : ℕ). name_there (there gone (n, a))) here

gone_alike : (gone gone' : ℕ → Bool) (name : Name) (s : ℕ) (agents : List NodeId)
    → ((j : ℕ) (a : NodeId) → j < length agents → get_or agents j a ≡ a → there gone' (s + j, a) ≡ without_name name (there gone (s + j, a)))
    → those gone' s agents ≡ map (without_name name) (those gone s agents)
gone_alike gone gone' name s [] same = refl
gone_alike gone gone' name s (a ∷ agents) same =
    let here : s + 0 ≡ s = omega arith in
    let first : there gone' (s, a) ≡ without_name name (there gone (s, a)) =
    subst (λ (n : ℕ). there gone' (n, a) ≡ without_name name (there gone (n, a))) here (same 0 a (omega arith) refl) in
    let rest : those gone' (s + 1) agents ≡ map (without_name name) (those gone (s + 1) agents) =
    gone_alike gone gone' name (s + 1) agents (λ j b lt at.
    let next : s + suc j ≡ (s + 1) + j = omega arith in
    subst (λ (n : ℕ). there gone' (n, b) ≡ without_name name (there gone (n, b))) next (same (suc j) b (omega (arith, lt)) at)) in
    λ i. first i ∷ rest i

module _ (plan : ControlPlan) (session : ℕ) (name : Name)
    (above : 1 + length plan.peers ≤ session)
    (at : get_or (others_of (Controlling (controls_of plan))) session None ≡ Some name)
    (alone : (j : ℕ) → get_or (others_of (Controlling (controls_of plan))) j None ≡ Some name → j ≡ session) where
  -- of the agents' sessions that one alone is nobody's then
  one : (i : ℕ) → is_retired (retiring plan session) i ≡ ((i == session) || is_retired plan i)
  one i = one_more plan.retired session i

  other_at : (j : ℕ) (a : NodeId) → j < length plan.agents → get_or plan.agents j a ≡ a
      → get_or (others_of (Controlling (controls_of plan))) ((1 + length plan.peers) + j) None
      ≡ name_there (there (is_retired plan) ((1 + length plan.peers) + j, a))
  other_at j a lt here =
      let named = peers_named plan.peers in
      let far : (1 + length plan.peers) + j ≡ suc (length (names_of plan.peers) + j) = omega (arith, named) in
      ap (λ (n : ℕ). get_or (others_of (Controlling (controls_of plan))) n None) far
      ∙ (get_or-append-add (names_of plan.peers) (map name_there (agents_at plan)) j None
      ∙ named_there (is_retired plan) (1 + length plan.peers) plan.agents j a lt here)

  each : (j : ℕ) (a : NodeId) → j < length plan.agents → get_or plan.agents j a ≡ a
      → there (is_retired (retiring plan session)) ((1 + length plan.peers) + j, a)
      ≡ without_name name (there (is_retired plan) ((1 + length plan.peers) + j, a))
  each j a lt here = elim (alike n session) [
    | inl is ↦ by_gone (is_retired plan n) refl is
    | inr unlike ↦ by_stay (is_retired plan n) refl unlike
  ]
    where
      n : ℕ
      n = (1 + length plan.peers) + j

      by_gone : (b : Bool) → is_retired plan n ≡ b → n ≡ session
          → there (is_retired (retiring plan session)) (n, a) ≡ without_name name (there (is_retired plan) (n, a))
      by_gone b e is =
          let now : is_retired (retiring plan session) n ≡ true =
          one n ∙ ap (λ (x : Bool). x || is_retired plan n) (eq-eqb n session is) in
          let named : name_there (there (is_retired plan) (n, a)) ≡ Some name =
          sym (other_at j a lt here) ∙ (ap (λ (m : ℕ). get_or (others_of (Controlling (controls_of plan))) m None) is ∙ at) in
          let none : without_name name (there (is_retired plan) (n, a)) ≡ None = dropped b (ap (λ (x : Bool). name_there (if x then None else Some a)) (sym e) ∙ named) e in
          ap (λ (x : Bool). if x then None else Some a) now ∙ sym none
        where
          dropped : (b : Bool) → name_there (if b then None else Some a) ≡ Some name → is_retired plan n ≡ b
              → without_name name (there (is_retired plan) (n, a)) ≡ None
          dropped true named e = absurd (let both : None ≡ Some name = named in cc)
          dropped false named e =
              let same : a.name ≡ name = (let both : Some a.name ≡ Some name = named in cc) in
              ap (λ (x : Bool). without_name name (if x then None else Some a)) e
              ∙ ap (λ (x : Bool). if x then None else Some a) ((same_name_iff a.name name).1 same)

      by_stay : (b : Bool) → is_retired plan n ≡ b → n ≢ session
          → there (is_retired (retiring plan session)) (n, a) ≡ without_name name (there (is_retired plan) (n, a))
      by_stay true e unlike =
          let now : is_retired (retiring plan session) n ≡ true =
          one n ∙ (ap (λ (x : Bool). x || is_retired plan n) (ne_eqb n session unlike) ∙ e) in
          ap (λ (x : Bool). if x then None else Some a) now
          ∙ sym (ap (λ (x : Bool). without_name name (if x then None else Some a)) e)
      by_stay false e unlike =
          let now : is_retired (retiring plan session) n ≡ false =
          one n ∙ (ap (λ (x : Bool). x || is_retired plan n) (ne_eqb n session unlike) ∙ e) in
          ap (λ (x : Bool). if x then None else Some a) now
          ∙ (sym (by_name (same_name a.name name) refl)
          ∙ sym (ap (λ (x : Bool). without_name name (if x then None else Some a)) e))
        where
          by_name : (b : Bool) → same_name a.name name ≡ b → without_name name (Some a) ≡ Some a
          by_name false differs = ap (λ (x : Bool). if x then None else Some a) differs
          by_name true same =
              let is : a.name ≡ name = (same_name_iff a.name name).0 same in
              absurd (unlike (alone n (other_at j a lt here
              ∙ (ap (λ (x : Bool). name_there (if x then None else Some a)) e ∙ ap (λ (m : Name). Some m) is))))

  pub agents_left : agents_at (retiring plan session) ≡ without_agent name (agents_at plan)
  agents_left = gone_alike (is_retired plan) (is_retired (retiring plan session)) name (1 + length plan.peers) plan.agents each

  pub controls_left : controls_of (retiring plan session) ≡ record (controls_of plan) { agents = without_agent name (agents_at plan) }
  controls_left = λ i. record { me = plan.me; asn = plan.asn; peers = plan.peers; agents = agents_left i }

  none_left : (posts : List Post) → session < length posts → ((i : ℕ) → is_retired plan i ≡ true → post posts i ≡ nothing)
      → (i : ℕ) → is_retired (retiring plan session) i ≡ true → post (set posts session nothing) i ≡ nothing
  none_left posts lt none i gone = elim (alike i session) [
    | inl is ↦ ap (λ (n : ℕ). post (set posts session nothing) n) is ∙ get_or-set_same posts session nothing nothing lt
    | inr unlike ↦ get_or-set_other posts session i nothing nothing unlike
        ∙ none i (sym (ap (λ (x : Bool). x || is_retired plan i) (ne_eqb i session unlike)) ∙ (sym (one i) ∙ gone))
  ]

pub above_of : (c : control.Core) (session : ℕ) (name : Name) → IsAlone name session (controlled c) → 1 + length c.plan.peers ≤ session
above_of c session name is =
    let same : controls_of c.plan ≡ is.controls = (let both : Controlling (controls_of c.plan) ≡ Controlling is.controls = is.control in cc) in
    subst (λ (d : Controls). 1 + length d.peers ≤ session) (sym same) is.agent

pub within_others : (c : control.Core) (session : ℕ) (name : Name) → IsAlone name session (controlled c)
    → session < length (others_of (controlled c).who)
within_others c session name is = within (others_of (controlled c).who) session is.there
  where
    within : (xs : List (Option Name)) (i : ℕ) → get_or xs i None ≡ Some name → i < length xs
    within [] i at = absurd (let both : None ≡ Some name = at in cc)
    within (x ∷ xs) zero at = omega arith
    within (x ∷ xs) (suc i) at = (let rest = within xs i at in omega (arith, rest))

-- the control node without the agent
pub departed_seen : (c : control.Core) (session : ℕ) (name : Name) → IsAlone name session (controlled c)
    → controlled (departed c session) ≡ vacated_inner name session (controlled c)
departed_seen c session name is =
    let now = controls_left c.plan session name (above_of c session name is) is.there is.alone in
    λ i. record { who = Controlling (now i); posts = set c.posts session nothing; kept = set c.kept session [] }

pub departed_vacated : (c : control.Core) (session : ℕ) (name : Name) → IsAlone name session (controlled c) → session < length c.posts
    → IsVacated c → IsVacated (departed c session)
departed_vacated c session name is lt vacant = record {
  none = none_left c.plan session name (above_of c session name is) is.there is.alone c.posts lt vacant.none;
}

-- ---- the session of a name
first_named : (name : Name) (xs : List (Option Name)) (k i : ℕ) → get_or xs i None ≡ Some name
    → ((j : ℕ) → get_or xs j None ≡ Some name → j ≡ i) → index_from k (is_name name) xs ≡ Some (k + i)
first_named name [] k i at alone = absurd (let both : None ≡ Some name = at in cc)
first_named name (o ∷ xs) k zero at alone =
    let here : k ≡ k + 0 = omega arith in
    ap (λ (b : Bool). if b then Some k else index_from (suc k) (is_name name) xs) (ap (is_name name) at ∙ same_name_self name) ∙ ap (λ (n : ℕ). Some n) here
first_named name (o ∷ xs) k (suc i) at alone =
    let next : suc k + i ≡ k + suc i = omega arith in
    ap (λ (b : Bool). if b then Some k else index_from (suc k) (is_name name) xs) (by_name o refl)
    ∙ (first_named name xs (suc k) i at (λ j e. let same = alone (suc j) e in omega (arith, same)) ∙ ap (λ (n : ℕ). Some n) next)
  where
    by_name : (p : Option Name) → o ≡ p → is_name name o ≡ false
    by_name None is = ap (is_name name) is
    by_name (Some m) is = by_test (same_name m name) refl
      where
        by_test : (b : Bool) → same_name m name ≡ b → is_name name o ≡ false
        by_test false differs = ap (is_name name) is ∙ differs
        by_test true same = absurd (let first = alone 0 (is ∙ ap (λ (n : Name). Some n) ((same_name_iff m name).0 same)) in omega (arith, first))

pub vacated_is : (name : Name) (i : ℕ) (n : Inner) (o : Outer) → IsAlone name i n
    → vacated name (whole n o) ≡ whole (vacated_inner name i n) (emptied_at i o)
vacated_is name i n o is =
    let found : session_with (whole n o) name ≡ Some i = first_named name (others_of n.who) 0 i is.there is.alone ∙ ap (λ (k : ℕ). Some k) (let e : 0 + i ≡ i = omega arith in e) in
    ap (λ (r : Option ℕ). let m : Seat = record (vacated_from r (whole n o)) { who = retired_of name n.who } in m) found

-- nobody is at the other end of the session then
emptied_others : (name : Name) (agents : List (Option NodeId)) (j : ℕ) → get_or (map name_there agents) j None ≡ Some name
    → ((k : ℕ) → get_or (map name_there agents) k None ≡ Some name → k ≡ j)
    → map name_there (without_agent name agents) ≡ set (map name_there agents) j None
emptied_others name [] j at alone = absurd (let both : None ≡ Some name = at in cc)
emptied_others name (o ∷ agents) zero at alone =
    let rest : map name_there (without_agent name agents) ≡ map name_there agents = none_named name agents (λ k e. let no = alone (suc k) e in omega (arith, no)) in
    let first : name_there (without_name name o) ≡ None = by_name o at in
    λ i. first i ∷ rest i
  where
    by_name : (p : Option NodeId) → name_there p ≡ Some name → name_there (without_name name p) ≡ None
    by_name None e = refl
    by_name (Some a) e =
        let same : a.name ≡ name = (let both : Some a.name ≡ Some name = e in cc) in
        ap (λ (b : Bool). name_there (if b then None else Some a)) ((same_name_iff a.name name).1 same)

    none_named : (name : Name) (agents : List (Option NodeId)) → ((k : ℕ) → get_or (map name_there agents) k None ≡ Some name → ⊥)
        → map name_there (without_agent name agents) ≡ map name_there agents
    none_named name [] none = refl
    none_named name (o ∷ agents) none =
        let rest : map name_there (without_agent name agents) ≡ map name_there agents = none_named name agents (λ k e. none (suc k) e) in
        let first : name_there (without_name name o) ≡ name_there o = stays o (none 0) in
        λ i. first i ∷ rest i
      where
        stays : (p : Option NodeId) → (name_there p ≡ Some name → ⊥) → name_there (without_name name p) ≡ name_there p
        stays None h = refl
        stays (Some a) h = by_test (same_name a.name name) refl
          where
            by_test : (b : Bool) → same_name a.name name ≡ b → name_there (without_name name (Some a)) ≡ Some a.name
            by_test false differs = ap (λ (b : Bool). name_there (if b then None else Some a)) differs
            by_test true same = absurd (h (ap (λ (n : Name). Some n) ((same_name_iff a.name name).0 same)))
emptied_others name (o ∷ agents) (suc j) at alone =
    let rest = emptied_others name agents j at (λ k e. let same = alone (suc k) e in omega (arith, same)) in
    let first : name_there (without_name name o) ≡ name_there o = stays o (λ e. let no = alone 0 e in absurd (omega (arith, no))) in
    λ i. first i ∷ rest i
  where
    stays : (p : Option NodeId) → (name_there p ≡ Some name → ⊥) → name_there (without_name name p) ≡ name_there p
    stays None h = refl
    stays (Some a) h = by_test (same_name a.name name) refl
      where
        by_test : (b : Bool) → same_name a.name name ≡ b → name_there (without_name name (Some a)) ≡ Some a.name
        by_test false differs = ap (λ (b : Bool). name_there (if b then None else Some a)) differs
        by_test true same = absurd (h (ap (λ (n : Name). Some n) ((same_name_iff a.name name).0 same)))

set_behind : {A : Type 0} (xs ys : List A) (j : ℕ) (a : A) → set (xs ++ ys) (length xs + j) a ≡ xs ++ set ys j a
set_behind [] ys j a = ap (λ (n : ℕ). set ys n a) (let e : 0 + j ≡ j = omega arith in e)
set_behind {A} (x ∷ xs) ys j a =
    ap (λ (n : ℕ). set (x ∷ (xs ++ ys)) n a) (let e : length (x ∷ xs) + j ≡ suc (length xs + j) = omega arith in e)
    ∙ ap (λ (zs : List A). x ∷ zs) (set_behind xs ys j a)

pub others_left : (name : Name) (i : ℕ) (n : Inner) → IsAlone name i n
    → others_of (retired_of name n.who) ≡ set (others_of n.who) i None
others_left name i n is =
    let c = is.controls in
    let j : ℕ = i - (1 + length c.peers) in
    let above = is.agent in
    let named = peers_named c.peers in
    let far : i ≡ suc (length (names_of c.peers) + j) = omega (arith, above, named) in
    let front = names_of c.peers in
    let back = map name_there c.agents in
    let there : (k : ℕ) → get_or (others_of (Controlling c)) (suc (length front + k)) None ≡ get_or back k None =
    λ k. get_or-append-add front back k None in
    let at : get_or back j None ≡ Some name =
    sym (there j) ∙ (ap (λ (n : ℕ). get_or (others_of (Controlling c)) n None) (sym far) ∙ (ap (λ (w : Who). get_or (others_of w) i None) (sym is.control) ∙ is.there)) in
    let alone : (k : ℕ) → get_or back k None ≡ Some name → k ≡ j =
    λ k e. (let same = is.alone (suc (length front + k)) (ap (λ (w : Who). get_or (others_of w) (suc (length front + k)) None) is.control ∙ (there k ∙ e)) in omega (arith, same, far)) in
    ap (λ (w : Who). others_of (retired_of name w)) is.control
    ∙ (ap (λ (os : List (Option Name)). get_or (others_of (Controlling c)) 0 None ∷ (front ++ os)) (emptied_others name c.agents j at alone)
    ∙ (ap (λ (os : List (Option Name)). get_or (others_of (Controlling c)) 0 None ∷ os) (sym (set_behind front back j None))
    ∙ (ap (λ (n : ℕ). set (others_of (Controlling c)) n None) (sym far)
    ∙ ap (λ (w : Who). set (others_of w) i None) (sym is.control))))
