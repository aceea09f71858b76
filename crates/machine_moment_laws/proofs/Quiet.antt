-- At every moment each control node has told the configuration node nothing.
use Rattle.std.specs.Prelude.{◌≡◌, ℕ, List, [], ◌∷◌, false}
use Rattle.std.specs.FinMap.{empty}
use Rattle.std.proofs.Common.{refl, sym, ◌∙◌, ap, inl, inr}
use Rattle.node_laws.specs.NodeModel.Maps.{Map}
use Rattle.node_laws.specs.NodeModel.Step.{Opened}
use Rattle.machine_model.specs.Setup.{Name, Setup, agents_of}
use Rattle.machine_model.specs.Session.{Configuration, Controller, Message, Session, turned, shut, passed, greeting, opened, arrived, octets_arrived}
use Rattle.machine_model.specs.Network.{View, sessions_of, view, views_of, wanted, wanted_from, wanted_from_control}
use Rattle.machine_model.specs.Moments.{Each, NodePair, nodes}
use Rattle.machine_model.proofs.NetworkFact.{passed_nodes, opened_nodes}
use Rattle.machine_model.proofs.NodesFact.{arrived_nodes, octets_nodes}
use Rattle.machine_model.proofs.ToldFact.{alike_refl, passed_touches, arrived_touches, told_from}
use Rattle.machine_model.proofs.ToldNext.{octets_touches}
use Rattle.machine_laws.proofs.EachFact.{Keeps}
use Rattle.machine_moment_laws.proofs.SentStays.{SentStays, arrived_stays, octets_arrived_stays, opened_stays, passed_stays}

abbrev pub IsQuiet : Session → Type 0
IsQuiet s = s.near.role ≡ Controller → s.far.role ≡ Configuration → s.near.sent ≡ empty

abbrev pub AreQuiet : Session → Type 0
AreQuiet s = IsQuiet s × IsQuiet (turned s)

near_quiet : (s t : Session) → nodes t ≡ nodes s → SentStays s t → IsQuiet s → IsQuiet t
near_quiet s t e k q a b = elim k as (λ _. t.near.sent ≡ empty) [
  | inl f ↦ f ∙ q (ap (λ (p : NodePair). p.0.1) (sym e) ∙ a) (ap (λ (p : NodePair). p.1.1) (sym e) ∙ b)
  | inr f ↦ f
]

far_quiet : (s t : Session) → nodes t ≡ nodes s → t.far.sent ≡ s.far.sent → IsQuiet (turned s) → IsQuiet (turned t)
far_quiet s t e k q a b = k ∙ q (ap (λ (p : NodePair). p.1.1) (sym e) ∙ a) (ap (λ (p : NodePair). p.0.1) (sym e) ∙ b)

-- whose other end is seen as before
pub opened_leaves : (s : Session) → (view (turned (opened s)) ≡ view (turned s)) × ((opened s).far.sent ≡ s.far.sent)
unfolding opened
opened_leaves s =
    let t : Session = record { is_down = false; near = record s.near { phase = Opened }; far = s.far } in
    let a = told_from (greeting s ∷ []) t t (alike_refl (turned t)) in
    (a.view, a.sent)

pub wants_nothing : (x : Setup) (vs : List View) (v : View) → v.role ≡ Controller → v.other_role ≡ Configuration → wanted x vs v ≡ empty
unfolding wanted
wants_nothing x vs v a b =
    ap (wanted_from x vs v) a ∙ ap (wanted_from_control x.topology.asn (agents_of x v.name) vs v) b

wants_each : (x : Setup) (vs : List View) (own : List Session) → Each (λ s. s.near.role ≡ Controller → s.far.role ≡ Configuration → wanted x vs (view s) ≡ empty) own
wants_each x vs [] = tt
wants_each x vs (s ∷ own) = (wants_nothing x vs (view s), wants_each x vs own)

abbrev pub MayTellFeed : Session → Map → Type 0
MayTellFeed s m = s.near.role ≡ Controller → s.far.role ≡ Configuration → m ≡ empty

pub quiet_keeps : (size : Name → Message → ℕ) → Keeps size (λ _. Unit {0}) AreQuiet MayTellFeed
quiet_keeps size = record {
  both = λ s q. (q.1, q.0);
  begins = λ x v c m n k. ((λ a b. refl), (λ a b. refl));
  arrives = λ s q. (near_quiet s (arrived s) (arrived_nodes s) (arrived_stays s) q.0, far_quiet s (arrived s) (arrived_nodes s) (arrived_touches s).sent q.1);
  octets = λ n s q. (near_quiet s (octets_arrived size n s) (octets_nodes size n s) (octets_arrived_stays size n s) q.0, far_quiet s (octets_arrived size n s) (octets_nodes size n s) (octets_touches size n s).sent q.1);
  passes = λ m s may q. (
    (λ a b. let e = passed_nodes m s in
        let a' = ap (λ (p : NodePair). p.0.1) (sym e) ∙ a in
        let b' = ap (λ (p : NodePair). p.1.1) (sym e) ∙ b in
        passed_stays m s (q.0 a' b') (may a' b')),
    far_quiet s (passed m s) (passed_nodes m s) (passed_touches m s).sent q.1,
  );
  shuts = λ s q. ((λ a b. refl), far_quiet s (shut s) refl refl q.1);
  loses = λ s q. q;
  opens = λ s q. (near_quiet s (opened s) (opened_nodes s) (opened_stays s) q.0, far_quiet s (opened s) (opened_nodes s) (opened_leaves s).1 q.1);
  breaks = λ a b s q. q;
  wants = λ x ss n v e. wants_each x (views_of n ss) (sessions_of n ss);
}
