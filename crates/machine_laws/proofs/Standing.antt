-- What an edit leaves of the sessions of nodes that do not move by it.
use Rattle.std.specs.Prelude.{◌≡◌, ℕ, List, [], ◌∷◌, ◌++◌, map, true, false, not, cond, ◌&&◌}
use Rattle.std.specs.declared.option.Option.{Option}
use Rattle.std.specs.declared.option.Option.TheVariants.{Some, None}
use Rattle.std.specs.List.{filter}
use Rattle.std.specs.Cmp.Lexicographic.{bytes_decides}
use Rattle.std.proofs.lemmas.Bool.{and_parts}
use Rattle.std.proofs.lemmas.List.{append_assoc}
use Rattle.std.proofs.Common.{refl, sym, ◌∙◌, ap, subst, inl, inr}
use Rattle.ov_types.specs.declared.rows.NodeId.{NodeId}
use Rattle.config_types.specs.declared.edit.Edit.{Edit}
use Rattle.config_types.specs.declared.edit.Edit.TheVariants.{Put}
use Rattle.config_types.specs.declared.edit.Object.TheVariants as Objects
use Rattle.config_types.specs.declared.topology.Node.{Node}
use Rattle.config_types.specs.declared.topology.Topology.{Topology}
use Rattle.schedule_script.specs.ConfigCheck.Edits.{edit_fault, edited as checked_edited}
use Rattle.schedule_script.specs.ConfigCheck.EditFault.{EditFault}
use Rattle.node_laws.specs.NodeModel.Maps.{Map, Change, difference}
use Rattle.node_laws.proofs.NodeModel.Members.{none_some}
use Rattle.machine_model.specs.Setup.{Name, Move, Setup, checked, edited_without, lists, moves, remade, renumbered}
use Rattle.machine_model.specs.Session.{Agent, Carries, Controller, Message, Session, may_send, passed, told, turned}
use Rattle.machine_model.specs.Network.{MachineState, between, brought, config, is_at, is_of, replaced, same_role, view, views_of, wanted}
use Rattle.machine_model.specs.Steps.{at_node, joins, pass, session_in, session_of}
use Rattle.machine_model.specs.Rounds.{is_empty}
use Rattle.machine_model.specs.Events.{Edits, edits, moved, next, passes}
use Rattle.machine_model.specs.Moments.{Each}
use Rattle.machine_model.specs.Deeds.{StandsThere}
use Rattle.machine_model.proofs.Calm.{told_easy}
use Rattle.machine_model.proofs.Changing.{MoverIs, Renews, renews}
use Rattle.machine_model.proofs.Distinct.{same_false}
use Rattle.machine_model.proofs.NetworkFact.{passed_nodes}
use Rattle.machine_model.proofs.Renumbered.{put_moves_none}
use Rattle.machine_model.proofs.Replaced.{each_of}
use Rattle.machine_model.proofs.SessionFact.{append_nil, sends}
use Rattle.machine_model.proofs.Twins.{MaybeBoth, pairs_found, pairs_node}
use Rattle.machine_laws.specs.Closing.{EndStays, MovesNode, SessionStays, StaysOrNone, TakesDown}

-- ---- sessions of another node are taken away, and new ones stand in their place
abbrev pub EndsAt : Name → Session → Type 0
EndsAt name s = s.far.name ≡ name

module _ (a b name : Name) (not_a : name ≡ a → ⊥) (not_b : name ≡ b → ⊥) where
  joins_not : (s : Session) → EndsAt name s → joins a b s ≡ false
  joins_not s e = elim (is_at a s.near) as (λ c. (c && is_at b s.far) ≡ false) [ true ↦ same_false s.far.name b (λ f. not_b (sym e ∙ f)) | false ↦ refl ]

  joins_not_back : (s : Session) → EndsAt name s → joins b a s ≡ false
  joins_not_back s e = elim (is_at b s.near) as (λ c. (c && is_at a s.far) ≡ false) [ true ↦ same_false s.far.name a (λ f. not_a (sym e ∙ f)) | false ↦ refl ]

  passed_over : (s : Session) (ss : List Session) → EndsAt name s → session_in (s ∷ ss) a b ≡ session_in ss a b
  passed_over s ss e =
      ap (λ c. cond c (Some s) (cond (joins b a s) (Some (turned s)) (session_in ss a b))) (joins_not s e)
      ∙ ap (λ c. cond c (Some (turned s)) (session_in ss a b)) (joins_not_back s e)

  all_passed : (new ss : List Session) → Each (EndsAt name) new → session_in (new ++ ss) a b ≡ session_in ss a b
  all_passed [] ss n = refl
  all_passed (s ∷ new) ss n = passed_over s (new ++ ss) n.0 ∙ all_passed new ss n.1

  ends_there : (s : Session) → is_of name s ≡ true → EndsAt name s
  ends_there s e = (bytes_decides s.far.name name).0 (and_parts (is_at name s.far) (same_role Agent s.far.role) e).0

  same_first : (s : Session) (ss ts : List Session) → session_in ss a b ≡ session_in ts a b → session_in (s ∷ ss) a b ≡ session_in (s ∷ ts) a b
  same_first s ss ts e = ap (λ (o : Option Session). cond (joins a b s) (Some s) (cond (joins b a s) (Some (turned s)) o)) e

  abbrev others_in : List Session → List Session
  others_in ss = filter (λ s. not (is_of name s)) ss

  others_found : (ss : List Session) → session_in (others_in ss) a b ≡ session_in ss a b
  others_found [] = refl
  others_found (s ∷ ss) =
      elim (is_of name s) as (λ c. is_of name s ≡ c → session_in (cond (not c) (s ∷ others_in ss) (others_in ss)) a b ≡ session_in (s ∷ ss) a b) [
        | true ↦ λ is. others_found ss ∙ sym (passed_over s ss (ends_there s is))
        | false ↦ λ _. same_first s (others_in ss) ss (others_found ss)
      ] refl

  pub replaced_found : (new ss : List Session) → Each (EndsAt name) new → session_in (replaced name new ss) a b ≡ session_in ss a b
  replaced_found new [] n = ap (λ (ss : List Session). session_in ss a b) (append_nil new) ∙ all_passed new [] n
  replaced_found new (s ∷ ss) n =
      elim (is_of name s) as (λ c. is_of name s ≡ c → session_in (cond c (new ++ others_in ss) (s ∷ replaced name new ss)) a b ≡ session_in (s ∷ ss) a b) [
        | true ↦ λ is. all_passed new (others_in ss) n ∙ others_found ss ∙ sym (passed_over s ss (ends_there s is))
        | false ↦ λ _. same_first s (replaced name new ss) ss (replaced_found new ss n)
      ] refl

-- the new ones are of the node that moves
pub new_ends : (name : Name) (t u : Topology) (o : Option Node) → MoverIs name o t u → (cs : List NodeId) → Each (EndsAt name) (brought cs o)
new_ends name t u None m cs = tt
new_ends name t u (Some n) m cs = each_of (EndsAt name) (λ (c : NodeId). between c.name Controller n.name Agent) (λ c. m.0) (filter (lists n) cs)

-- ---- passes
end_stays : (s : Session) → EndStays s.near s.near
end_stays s = record { name = refl; role = refl; phase = refl; notice = refl; held = refl; taken = refl; breaks = refl; told = []; flight = append_nil s.near.flight }

stays_itself : (s : Session) → SessionStays s s
stays_itself s = record { down = refl; near = end_stays s; far = end_stays (turned s) }

stays_turned : (s t : Session) → SessionStays s t → SessionStays (turned s) (turned t)
stays_turned s t h = record { down = h.down; near = h.far; far = h.near }

more_told : (f : List Message) (ds es : List Change) → (f ++ map Carries ds) ++ map Carries es ≡ f ++ map Carries (ds ++ es)
more_told f ds es = append_assoc f (map Carries ds) (map Carries es) ∙ ap (λ (ms : List Message). f ++ ms) (both ds)
  where
    both : (ds : List Change) → map Carries ds ++ map Carries es ≡ map Carries (ds ++ es)
    both [] = refl
    both (d ∷ ds) = ap (λ (ms : List Message). Carries d ∷ ms) (both ds)

end_on : (s t u : Session) → EndStays s.near t.near → EndStays t.near u.near → EndStays s.near u.near
end_on s t u h k = record {
  name = k.name ∙ h.name;
  role = k.role ∙ h.role;
  phase = k.phase ∙ h.phase;
  notice = k.notice ∙ h.notice;
  held = k.held ∙ h.held;
  taken = k.taken ∙ h.taken;
  breaks = k.breaks ∙ h.breaks;
  told = h.told ++ k.told;
  flight = k.flight ∙ ap (λ (f : List Message). f ++ map Carries k.told) h.flight ∙ more_told s.near.flight h.told k.told;
}

-- where no break is pending
abbrev IsFree : Session → Type 0
IsFree s = (s.near.breaks ≡ []) × (s.far.breaks ≡ [])

abbrev StaysFree : Session → Session → Type 0
StaysFree s t = IsFree s → SessionStays s t

free_turned : (s t : Session) → StaysFree s t → StaysFree (turned s) (turned t)
free_turned s t h f = stays_turned s t (h (f.1, f.0))

free_on : (s t u : Session) → StaysFree s t → StaysFree t u → StaysFree s u
free_on s t u h k f =
    let p = h f in
    let q = k (p.near.breaks ∙ f.0, p.far.breaks ∙ f.1) in
    record { down = q.down ∙ p.down; near = end_on s t u p.near q.near; far = end_on (turned s) (turned t) (turned u) p.far q.far }

passed_stays : (m : Map) (s : Session) → StaysFree s (passed m s)
unfolding passed
passed_stays m s f =
    let ds = difference s.near.sent m in
    let u : Session = record s { near = record s.near { sent = m } } in
    elim (may_send s) as (λ c. SessionStays s (cond c (told (map Carries ds) u) s)) [
      | true ↦ subst (SessionStays s) (sym (told_easy (map Carries ds) u f.0))
          (elim s.is_down as (λ d. SessionStays (record { is_down = d; near = s.near; far = s.far }) (sends (map Carries ds) (record { is_down = d; near = u.near; far = s.far }))) [
            | true ↦ record {
              down = refl;
              near = record { name = refl; role = refl; phase = refl; notice = refl; held = refl; taken = refl; breaks = refl; told = []; flight = append_nil s.near.flight };
              far = end_stays (turned s);
            }
            | false ↦ record {
              down = refl;
              near = record { name = refl; role = refl; phase = refl; notice = refl; held = refl; taken = refl; breaks = refl; told = ds; flight = refl };
              far = end_stays (turned s);
            }
          ])
      | false ↦ stays_itself s
    ]

module _ (a b : Name) where
  abbrev Follows : Option Session → Option Session → Type 0
  Follows o r = MaybeBoth StaysFree o r

  follows_on : (o r q : Option Session) → Follows o r → Follows r q → Follows o q
  follows_on (Some s) (Some t) (Some u) h k = free_on s t u h k
  follows_on None None None h k = tt
  follows_on (Some s) (Some t) None h k = absurd k
  follows_on (Some s) None q h k = absurd h
  follows_on None (Some t) q h k = absurd h
  follows_on None None (Some u) h k = absurd k

  follows_itself : (o : Option Session) → Follows o o
  follows_itself (Some s) = λ _. stays_itself s
  follows_itself None = tt

  of_both : (o r : Option Session) → MaybeBoth (λ s t. (s.near.name ≡ a) × (s.far.name ≡ b) × StaysFree s t) o r → Follows o r
  of_both (Some s) (Some t) m = m.2
  of_both None None m = tt
  of_both (Some s) None m = absurd m
  of_both None (Some t) m = absurd m

  units : (ss : List Session) → Each (λ _. Unit {0}) ss
  units [] = tt
  units (s ∷ ss) = (tt, units ss)

  pass_follows : (n : Name) (w : MachineState) → Follows (session_of w a b) (session_of (pass n w) a b)
  pass_follows n w =
      let W = λ (s : Session). wanted w.setup (views_of n w.sessions) (view s) in
      of_both (session_of w a b) (session_of (pass n w) a b)
      (pairs_found StaysFree free_turned a b w.sessions (map (at_node n (λ s. passed (W s) s)) w.sessions)
      (pairs_node StaysFree free_turned (λ s _. stays_itself s) (λ _. Unit {0}) (λ s u. u) (λ s. passed (W s) s) (λ s. passed_nodes (W s) s) n (λ s u. passed_stays (W s) s) w.sessions (units w.sessions)))

  passes_follow : (ns : List Name) (w : MachineState) → Follows (session_of w a b) (session_of (passes ns w) a b)
  passes_follow [] w = follows_itself (session_of w a b)
  passes_follow (n ∷ ns) w = follows_on (session_of w a b) (session_of (pass n w) a b) (session_of (passes ns (pass n w)) a b) (pass_follows n w) (passes_follow ns (pass n w))

none_of : (ns : List ℕ) → is_empty ns ≡ true → ns ≡ []
none_of [] e = refl
none_of (n ∷ ns) e = cc

where_free : (o r : Option Session) → MaybeBoth StaysFree o r → StaysOrNone o r
where_free (Some s) (Some t) m = λ e. let p = and_parts (is_empty s.near.breaks) (is_empty s.far.breaks) e in m (none_of s.near.breaks p.0, none_of s.far.breaks p.1)
where_free None None m = tt
where_free (Some s) None m = absurd m
where_free None (Some t) m = absurd m

-- ---- an edit
module _ (w : MachineState) (d : Edit) (a b : Name) (off : MovesNode w d a → ⊥) (off_back : MovesNode w d b → ⊥) where
  abbrev made : Setup
  made = remade (checked_edited d (checked w.setup)) (renumbered (moves d w.setup.topology) w.setup.numbers)

  abbrev begun : MachineState
  begun = record { setup = made; sessions = w.sessions }

  -- what stands at the two before the passes
  pub moved_found : edit_fault (checked w.setup) d ≡ None → (m : Move) → moves d w.setup.topology ≡ Some m → session_in (replaced m.name (brought made.topology.controllers m.now) w.sessions) a b ≡ session_of w a b
  moved_found none m is =
      let r : Renews w.setup.topology made.topology (Some m) = subst (Renews w.setup.topology made.topology) is (renews (checked w.setup) d none) in
      replaced_found a b m.name (λ e. off (record { accepted = none; move = m; moved = is; named = e })) (λ e. off_back (record { accepted = none; move = m; moved = is; named = e }))
      (brought made.topology.controllers m.now) w.sessions (new_ends m.name w.setup.topology made.topology m.now r.mover.1 made.topology.controllers)

  by_move : edit_fault (checked w.setup) d ≡ None → (m : Option Move) → moves d w.setup.topology ≡ m → MaybeBoth StaysFree (session_of w a b) (session_of (pass config (moved m begun)) a b)
  by_move none None is = pass_follows a b config begun
  by_move none (Some m) is =
      let u : MachineState = record { setup = made; sessions = replaced m.name (brought made.topology.controllers m.now) w.sessions } in
      subst (λ (o : Option Session). MaybeBoth StaysFree o (session_of (pass config (moved (Some m) begun)) a b)) (moved_found none m is)
      (follows_on a b (session_of u a b) (session_of (passes m.left u) a b) (session_of (pass config (passes m.left u)) a b) (passes_follow a b m.left u) (pass_follows a b config (passes m.left u)))

  by_fault : (f : Option EditFault) → edit_fault (checked w.setup) d ≡ f → MaybeBoth StaysFree (session_of w a b) (session_of (edits (moves d w.setup.topology) (edited_without f w.setup d) w) a b)
  by_fault None none = by_move none (moves d w.setup.topology) refl
  by_fault (Some f) is = follows_itself a b (session_of w a b)

pub others_stay : (size : Name → Message → ℕ) (w : MachineState) (d : Edit) (a b : Name) → (TakesDown w a b (Edits d) → ⊥) → StaysOrNone (session_of w a b) (session_of (next size w (Edits d)) a b)
unfolding next
others_stay size w d a b not =
    where_free (session_of w a b) (session_of (edits (moves d w.setup.topology) (edited_without (edit_fault (checked w.setup) d) w.setup d) w) a b)
    (by_fault w d a b (λ m. not (inl m)) (λ m. not (inr m)) (edit_fault (checked w.setup) d) refl)

-- where a compute node is put as it stands, none moves
pub put_stays : (size : Name → Message → ℕ) (w : MachineState) (n : Node) → StandsThere w.setup.topology n → (a b : Name)
    → StaysOrNone (session_of w a b) (session_of (next size w (Edits (Put (Objects.Node n)))) a b)
put_stays size w n there a b =
    let stay : moves (Put (Objects.Node n)) w.setup.topology ≡ None = (put_moves_none n w.setup.topology).1 there in
    let off : (name : Name) → MovesNode w (Put (Objects.Node n)) name → ⊥ = λ name m. none_some m.move (sym stay ∙ m.moved) in
    others_stay size w (Put (Objects.Node n)) a b (λ t. elim t as (λ _. ⊥) [ inl m ↦ off a m | inr m ↦ off b m ])
