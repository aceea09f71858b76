-- What steps of some nodes leave of the ends of all others, and so of feeds and of slices that were told.
use Rattle.std.specs.Prelude.{◌≡◌, List, [], ◌∷◌, map, Bool, true, false, cond}
use Rattle.std.specs.FinMap.{get}
use Rattle.std.specs.Cmp.Lexicographic.{bytes_decides}
use Rattle.std.proofs.lemmas.Bool.{true≢false}
use Rattle.std.proofs.Common.{refl, sym, ◌∙◌, ap}
use Rattle.ov_types.specs.First.{same_name}
use Rattle.node_laws.specs.NodeModel.Keys.{Low}
use Rattle.node_laws.specs.NodeModel.Maps.{Map}
use Rattle.node_laws.specs.NodeModel.Step.{Phase, is_idle}
use Rattle.node_laws.specs.NodeModel.Wants.{wanted_by_agent}
use Rattle.machine_model.specs.Setup.{Name, Setup, agents_of}
use Rattle.machine_model.specs.Session.{Configuration, Session, SessionEnd, turned}
use Rattle.machine_model.specs.Network.{View, address_in, is_at, same_role, view}
use Rattle.machine_model.specs.Steps.{joins, with_session}
use Rattle.machine_model.specs.Moments.{Each, NodePair, nodes}
use Rattle.machine_moment_laws.proofs.Slices.{at_address, bare}
use Rattle.machine_moment_laws.proofs.FeedsStay.{entry, feed_at}
use Rattle.machine_moment_laws.proofs.PassTells.{Slicing, feed_in}

-- ---- an end that goes on as it was
pub record GoesOn (e f : SessionEnd) : Type 0 where
  pub phase : f.phase ≡ e.phase
  pub sent : f.sent ≡ e.sent
  pub held : f.held ≡ e.held

-- of two nodes that stay, ends go on, but those of the nodes that act
pub record LeavesOthers (acts : Name → Bool) (s t : Session) : Type 0 where
  pub kept : nodes t ≡ nodes s
  pub near : acts s.near.name ≡ false → GoesOn s.near t.near
  pub far : acts s.far.name ≡ false → GoesOn s.far t.far

abbrev pub AllLeaveOthers : (Name → Bool) → List Session → List Session → Type 0
AllLeaveOthers acts [] [] = Unit {0}
AllLeaveOthers acts (s ∷ ss) (t ∷ ts) = LeavesOthers acts s t × AllLeaveOthers acts ss ts
AllLeaveOthers acts [] (t ∷ ts) = ⊥
AllLeaveOthers acts (s ∷ ss) [] = ⊥

-- one node acts, or none does
abbrev pub one_acts : Name → Name → Bool
one_acts n m = same_name m n

abbrev pub none_acts : Name → Bool
none_acts m = false

pub leaves_refl : (acts : Name → Bool) (s : Session) → LeavesOthers acts s s
leaves_refl acts s = record {
  kept = refl;
  near = λ _. record { phase = refl; sent = refl; held = refl };
  far = λ _. record { phase = refl; sent = refl; held = refl };
}

all_refl : (acts : Name → Bool) (ss : List Session) → AllLeaveOthers acts ss ss
all_refl acts [] = tt
all_refl acts (s ∷ ss) = (leaves_refl acts s, all_refl acts ss)

pub turned_leaves : (acts : Name → Bool) (s t : Session) → LeavesOthers acts s t → LeavesOthers acts (turned s) (turned t)
turned_leaves acts s t h = record { kept = ap (λ (p : NodePair). (p.1, p.0)) h.kept; near = h.far; far = h.near }

-- a node acts at its end, and the other end is seen as before
pub near_acts : (n : Name) (s t : Session) → is_at n s.near ≡ true → nodes t ≡ nodes s → view (turned t) ≡ view (turned s) → t.far.sent ≡ s.far.sent → LeavesOthers (one_acts n) s t
near_acts n s t at kept v e = record {
  kept = kept;
  near = λ off. absurd (true≢false (sym at ∙ off));
  far = λ _. record { phase = ap (λ (v : View). v.phase) v; sent = e; held = ap (λ (v : View). v.held) v };
}

-- ---- lists
pub mapped_leaves : (acts : Name → Bool) (f : Session → Session) → ((s : Session) → LeavesOthers acts s (f s)) → (ss : List Session) → AllLeaveOthers acts ss (map f ss)
mapped_leaves acts f h [] = tt
mapped_leaves acts f h (s ∷ ss) = (h s, mapped_leaves acts f h ss)

pub session_leaves : (acts : Name → Bool) (a b : Name) (f : Session → Session) → ((s : Session) → joins a b s ≡ true → LeavesOthers acts s (f s)) → ((s : Session) → joins b a s ≡ true → LeavesOthers acts s (turned (f (turned s))))
    → (ss : List Session) → AllLeaveOthers acts ss (with_session a b f ss)
session_leaves acts a b f there back [] = tt
session_leaves acts a b f there back (s ∷ ss) =
    elim (joins a b s) as (λ c. joins a b s ≡ c → AllLeaveOthers acts (s ∷ ss) (cond c (f s ∷ ss) (cond (joins b a s) (turned (f (turned s)) ∷ ss) (s ∷ with_session a b f ss)))) [
      | true ↦ λ is. (there s is, all_refl acts ss)
      | false ↦ λ _. elim (joins b a s) as (λ c. joins b a s ≡ c → AllLeaveOthers acts (s ∷ ss) (cond c (turned (f (turned s)) ∷ ss) (s ∷ with_session a b f ss))) [
        | true ↦ λ is. (back s is, all_refl acts ss)
        | false ↦ λ _. (leaves_refl acts s, session_leaves acts a b f there back ss)
      ] refl
    ] refl

-- ---- the feeds that the others hold
module _ (acts : Name → Bool) (c : Name) (off : acts c ≡ false) where
  pub feed_stays : (ss ts : List Session) → AllLeaveOthers acts ss ts → feed_in ts c ≡ feed_in ss c
  feed_stays [] [] a = refl
  feed_stays [] (t ∷ ts) a = absurd a
  feed_stays (s ∷ ss) [] a = absurd a
  feed_stays (s ∷ ss) (t ∷ ts) a =
      let rest = feed_stays ss ts a.1 in
      ap (λ (p : NodePair). feed_at c ((p, t.far.held) ∷ map entry ts)) a.0.kept
      ∙ elim (same_name s.near.name c) as (λ b. cond b (feed_in ts c) (cond (same_name s.far.name c) (cond (same_role Configuration s.near.role) t.far.held (feed_in ts c)) (feed_in ts c)) ≡ cond b (feed_in ss c) (cond (same_name s.far.name c) (cond (same_role Configuration s.near.role) s.far.held (feed_in ss c)) (feed_in ss c))) [
        | true ↦ rest
        | false ↦ elim (same_name s.far.name c) as (λ b. same_name s.far.name c ≡ b → cond b (cond (same_role Configuration s.near.role) t.far.held (feed_in ts c)) (feed_in ts c) ≡ cond b (cond (same_role Configuration s.near.role) s.far.held (feed_in ss c)) (feed_in ss c)) [
          | true ↦ λ is. let same : t.far.held ≡ s.far.held = (a.0.far (ap acts ((bytes_decides s.far.name c).0 is) ∙ off)).held in
              (λ i. cond (same_role Configuration s.near.role) (same i) (rest i))
          | false ↦ λ _. rest
        ] refl
      ]

-- ---- slices that were told
-- an agent is known under the same address, and the same feed is held
pub same_slicing : (x y : Setup) (feed fed : Name → Map) (s : Session) → address_in (agents_of y s.near.name) s.far.name ≡ address_in (agents_of x s.near.name) s.far.name → fed s.near.name ≡ feed s.near.name
    → Slicing x feed s → Slicing y fed s
same_slicing x y feed fed s a f h control agent live k =
    h control agent live k ∙ (λ i. get (wanted_by_agent (bare (sym f i)) (at_address (sym a i))) (Low k))

-- an end that goes on has told what it had told
pub slicing_stays : (x : Setup) (acts : Name → Bool) (feed fed : Name → Map) (s t : Session) → LeavesOthers acts s t → acts s.near.name ≡ false → fed s.near.name ≡ feed s.near.name → Slicing x feed s → Slicing x fed t
slicing_stays x acts feed fed s t l off f h control agent live k =
    let on = l.near off in
    ap (λ (m : Map). get m (Low k)) on.sent
    ∙ h (ap (λ (p : NodePair). p.0.1) (sym l.kept) ∙ control) (ap (λ (p : NodePair). p.1.1) (sym l.kept) ∙ agent) (ap (λ (p : Phase). is_idle p) (sym on.phase) ∙ live) k
    ∙ (λ i. get (wanted_by_agent (bare (sym f i)) (at_address (address_in (agents_of x s.near.name) s.far.name))) (Low k))
    ∙ (λ i. get (wanted_by_agent (bare (fed (sym l.kept i).0.0)) (at_address (address_in (agents_of x (sym l.kept i).0.0) (sym l.kept i).1.0))) (Low k))

module _ (x : Setup) (acts : Name → Bool) (feed fed : Name → Map) (same : (c : Name) → acts c ≡ false → fed c ≡ feed c) where
  each_stays : (ss ts : List Session) → AllLeaveOthers acts ss ts → Each (Slicing x feed) ss → Each (λ t. acts t.near.name ≡ false → Slicing x fed t) ts
  each_stays [] [] a h = tt
  each_stays [] (t ∷ ts) a h = absurd a
  each_stays (s ∷ ss) [] a h = absurd a
  each_stays (s ∷ ss) (t ∷ ts) a h = (
    (λ off. let at = ap (λ (p : NodePair). acts p.0.0) (sym a.0.kept) ∙ off in slicing_stays x acts feed fed s t a.0 at (same s.near.name at) h.0),
    each_stays ss ts a.1 h.1,
  )

-- the others have told their slices, as before
pub others_told : (x : Setup) (acts : Name → Bool) (ss ts : List Session) → AllLeaveOthers acts ss ts → Each (Slicing x (feed_in ss)) ss → Each (λ t. acts t.near.name ≡ false → Slicing x (feed_in ts) t) ts
others_told x acts ss ts a h = each_stays x acts (feed_in ss) (feed_in ts) (λ c off. feed_stays acts c off ss ts a) ss ts a h
