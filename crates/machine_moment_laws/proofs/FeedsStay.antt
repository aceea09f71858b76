-- The feeds that control nodes hold, and that a pass leaves all of them as they are.
use Rattle.std.specs.Prelude.{◌≡◌, List, [], ◌∷◌, map, true, false, cond, if◌then◌else◌}
use Rattle.std.specs.declared.option.Option.TheVariants.{Some, None}
use Rattle.std.specs.List.{AllByRecursion, cons_option}
use Rattle.std.specs.FinMap.{empty}
use Rattle.std.proofs.Common.{refl, ◌∙◌, ap}
use Rattle.machine_model.proofs.OvSync.KeyedLaws.{difference-itself}
use Rattle.ov_types.specs.First.{same_name}
use Rattle.node_laws.specs.NodeModel.Values.{same_value}
use Rattle.node_laws.proofs.NodeModel.Alike.{same_value_decides}
use Rattle.node_laws.specs.NodeModel.Maps.{Map, Change, difference}
use Rattle.machine_model.specs.Setup.{Name}
use Rattle.machine_model.specs.Session.{Configuration, Controller, Carries, Session, turned, may_send, told, passed}
use Rattle.machine_model.specs.Network.{MachineState, View, first_held, is_at, same_role, sessions_of, view, views_of, wanted, with_role}
use Rattle.machine_model.specs.Steps.{at_node, pass}
use Rattle.machine_model.specs.Moments.{Each, NodePair, nodes}
use Rattle.machine_model.proofs.NetworkFact.{at_node_nodes, passed_nodes}
use Rattle.machine_model.proofs.ToldFact.{passed_touches}
use Rattle.machine_moment_laws.proofs.Slices.{FarIsOther, is_config, mark, not_config}
use Rattle.machine_moment_laws.proofs.Quiet.{wants_nothing}

abbrev pub Entry : Type 0
Entry = NodePair × Map

abbrev pub entry : Session → Entry
entry s = (nodes s, s.far.held)

abbrev pub feed_at : Name → List Entry → Map
feed_at c [] = empty
feed_at c (e ∷ es) =
    if same_name e.0.0.0 c then feed_at c es
    else if same_name e.0.1.0 c then (if same_role Configuration e.0.0.1 then e.1 else feed_at c es)
    else feed_at c es

pub feed_found : (c : Name) (ss : List Session) → AllByRecursion FarIsOther (map mark ss) → first_held (with_role Configuration (views_of c ss)) ≡ feed_at c (map entry ss)
feed_found c [] o = refl
feed_found c (s ∷ ss) o =
    let rest = feed_found c ss o.1 in
    elim (is_at c s.near) as (λ b. first_held (with_role Configuration (map view (cons_option (cond b (Some s) (cond (is_at c s.far) (Some (turned s)) None)) (sessions_of c ss)))) ≡ cond b (feed_at c (map entry ss)) (cond (is_at c s.far) (cond (same_role Configuration s.near.role) s.far.held (feed_at c (map entry ss))) (feed_at c (map entry ss)))) [
      | true ↦ ap (λ b. first_held (cond b (view s ∷ with_role Configuration (views_of c ss)) (with_role Configuration (views_of c ss)))) (not_config s.far.role o.0) ∙ rest
      | false ↦ elim (is_at c s.far) as (λ b. first_held (with_role Configuration (map view (cons_option (cond b (Some (turned s)) None) (sessions_of c ss)))) ≡ cond b (cond (same_role Configuration s.near.role) s.far.held (feed_at c (map entry ss))) (feed_at c (map entry ss))) [
        | true ↦ elim (same_role Configuration s.near.role) as (λ b. first_held (cond b (view (turned s) ∷ with_role Configuration (views_of c ss)) (with_role Configuration (views_of c ss))) ≡ cond b s.far.held (feed_at c (map entry ss))) [ true ↦ refl | false ↦ rest ]
        | false ↦ rest
      ]
    ]

pub one_same : (c : Name) (p : NodePair) (h k : Map) (es fs : List Entry) → (p.0.1 ≡ Configuration → k ≡ h) → feed_at c fs ≡ feed_at c es → feed_at c ((p, k) ∷ fs) ≡ feed_at c ((p, h) ∷ es)
one_same c p h k es fs same rest =
    elim (same_name p.0.0 c) as (λ b. cond b (feed_at c fs) (cond (same_name p.1.0 c) (cond (same_role Configuration p.0.1) k (feed_at c fs)) (feed_at c fs)) ≡ cond b (feed_at c es) (cond (same_name p.1.0 c) (cond (same_role Configuration p.0.1) h (feed_at c es)) (feed_at c es))) [
      | true ↦ rest
      | false ↦ elim (same_name p.1.0 c) as (λ b. cond b (cond (same_role Configuration p.0.1) k (feed_at c fs)) (feed_at c fs) ≡ cond b (cond (same_role Configuration p.0.1) h (feed_at c es)) (feed_at c es)) [
        | true ↦ elim (same_role Configuration p.0.1) as (λ b. same_role Configuration p.0.1 ≡ b → cond b k (feed_at c fs) ≡ cond b h (feed_at c es)) [ true ↦ λ is. same (is_config p.0.1 is) | false ↦ λ _. rest ] refl
        | false ↦ rest
      ]
    ]

pub feed_same : (Q : Session → Type 0) (g : Session → Session) → ((s : Session) → nodes (g s) ≡ nodes s) → ((s : Session) → Q s → s.near.role ≡ Configuration → (g s).far.held ≡ s.far.held) → (c : Name) (ss : List Session) → Each Q ss → feed_at c (map entry (map g ss)) ≡ feed_at c (map entry ss)
feed_same Q g kept held c [] e = refl
feed_same Q g kept held c (s ∷ ss) e =
    ap (λ (p : NodePair). feed_at c ((p, (g s).far.held) ∷ map entry (map g ss))) (kept s)
    ∙ one_same c (nodes s) s.far.held (g s).far.held (map entry ss) (map entry (map g ss)) (held s e.0) (feed_same Q g kept held c ss e.1)

-- ---- a pass of a control node on its feed sends nothing
told_nothing : (t : Session) → told [] t ≡ t
unfolding told
told_nothing t = refl

passed_nothing : (m : Map) (s : Session) → s.near.sent ≡ empty → m ≡ empty → (passed m s).near.held ≡ s.near.held
unfolding passed
passed_nothing m s e f =
    elim (may_send s) as (λ b. (cond b (told (map Carries (difference s.near.sent m)) (record s { near = record s.near { sent = m } })) s).near.held ≡ s.near.held) [
      | true ↦
          let none : difference s.near.sent m ≡ [] = (λ i. difference (e i) (f i)) ∙ difference-itself same_value same_value_decides empty in
          ap (λ (ds : List Change). (told (map Carries ds) (record s { near = record s.near { sent = m } })).near.held) none
          ∙ ap (λ (t : Session). t.near.held) (told_nothing (record s { near = record s.near { sent = m } }))
      | false ↦ refl
    ]

-- a feed, whose far end is a control node that has sent nothing
abbrev pub IsQuietFeed : Session → Type 0
IsQuietFeed s = s.near.role ≡ Configuration → (s.far.role ≡ Controller) × (s.far.sent ≡ empty)

pub pass_leaves : (n c : Name) (w : MachineState) → Each IsQuietFeed w.sessions → feed_at c (map entry (pass n w).sessions) ≡ feed_at c (map entry w.sessions)
pass_leaves n c w e =
    let W = λ (s : Session). wanted w.setup (views_of n w.sessions) (view s) in
    feed_same IsQuietFeed (at_node n (λ s. passed (W s) s)) (at_node_nodes n (λ s. passed (W s) s) (λ s. passed_nodes (W s) s))
    (λ s q role. elim (is_at n s.near) as (λ b. (cond b (passed (W s) s) (cond (is_at n s.far) (turned (passed (W (turned s)) (turned s))) s)).far.held ≡ s.far.held) [
      | true ↦ ap (λ (v : View). v.held) (passed_touches (W s) s).view
      | false ↦ elim (is_at n s.far) as (λ b. (cond b (turned (passed (W (turned s)) (turned s))) s).far.held ≡ s.far.held) [
        | true ↦ passed_nothing (W (turned s)) (turned s) (q role).1 (wants_nothing w.setup (views_of n w.sessions) (view (turned s)) (q role).0 role)
        | false ↦ refl
      ]
    ]) c w.sessions e
