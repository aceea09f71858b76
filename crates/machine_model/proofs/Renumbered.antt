-- Which compute nodes an edit moves, and what it makes of the numbers of sessions.
use Rattle.std.specs.Prelude.{◌≡◌, ◌≢◌, ◌↔◌, ℕ, zero, suc, ◌<◌, List, [], ◌∷◌, map, length, true, false, cond, ◌&&◌, ◌==◌, is_some, if◌then◌else◌}
use Rattle.std.specs.declared.option.Option.{Option}
use Rattle.std.specs.declared.option.Option.TheVariants.{Some, None}
use Rattle.std.specs.Cmp.Lexicographic.{bytes_decides, pointwise}
use Rattle.std.proofs.lemmas.Bool.{true≢false, and_parts, eqb-true, eq-eqb}
use Rattle.std.proofs.lemmas.Option.{same_Some}
use Rattle.std.proofs.Math.Dec.{eqb-suc-suc, eqb-suc-zero, eqb-zero-suc}
use Rattle.std.proofs.Common.{refl, sym, ◌∙◌, ap, subst, arith}
use Rattle.ov_types.specs.First.{same_name}
use Rattle.ov_types.specs.declared.rows.NodeId.{NodeId}
use Rattle.schedule_script.specs.ConfigTypes.Edit.{Edit}
use Rattle.schedule_script.specs.ConfigTypes.Edit.TheVariants.{Put, Delete}
use Rattle.schedule_script.specs.ConfigTypes.Object.TheVariants as Objects
use Rattle.schedule_script.specs.ConfigTypes.ObjectKind.TheVariants as Kinds
use Rattle.schedule_script.specs.ConfigTypes.Node.{Node}
use Rattle.schedule_script.specs.ConfigTypes.Topology.{Topology}
use Rattle.schedule_script.specs.ConfigCheck.Checked.{Checked}
use Rattle.schedule_script.specs.ConfigCheck.Edits.{edit_fault, edited as checked_edited}
use Rattle.schedule_script.specs.ConfigCheck.Finding.{node_named}
use Rattle.schedule_script.specs.ConfigCheck.EditFault.{EditFault}
use Rattle.transform_model.specs.NodeModel.Members.{Member}
use Rattle.transform_model.proofs.NodeModel.Members.{none_some}
use Rattle.machine_model.specs.Setup.{Name, Move, Numbers, Setup, agents_in, agents_of, came_at, checked, edited, edited_without, id_of, is_listed, listed_by, lists, moves, remade, renumbered, renumbered_at, stands, with_agent, without_agent}
use Rattle.machine_model.specs.Session.{Message}
use Rattle.machine_model.specs.Network.{MachineState, start}
use Rattle.machine_model.specs.Events.{Edits, after, edits, next}
use Rattle.machine_model.specs.Moments.{AtEveryMoment, NodePair}
use Rattle.machine_model.specs.Deeds.{HasTaken, IsOfNoNode, StandsThere, agent_at}
use Rattle.machine_model.proofs.NodesFact.{Holds, after_holds}
use Rattle.machine_model.proofs.Changing.{Renews, renews, stood}
use Rattle.machine_model.proofs.Listed.{moved_setup}
use Rattle.machine_model.proofs.Numbered.{HasEntry, agents_renumbered, entry_kept, start_entries}

-- ---- which compute nodes move
same_as_itself : (ns : List Name) → pointwise same_name ns ns ≡ true
same_as_itself [] = refl
same_as_itself (n ∷ ns) = ap (λ b. b && pointwise same_name ns ns) ((bytes_decides n n).1 refl) ∙ same_as_itself ns

module _ (n : Node) (t : Topology) where
  abbrev mover : Move
  mover = record { name = n.name; left = listed_by (node_named t n.name); now = Some n }

  found_there : (o : Option Node) → node_named t n.name ≡ o → stands o n ≡ true → StandsThere t n
  found_there None is e = absurd (true≢false (sym e))
  found_there (Some m) is e =
      let a : m.address.0 ≡ n.address.0 = eqb-true m.address.0 n.address.0 (and_parts (m.address.0 == n.address.0) (pointwise same_name m.controllers n.controllers) e).0 in
      record { node = m; found = is; address = λ i. record { 0 = a i }; controllers = stood (Some m) n e }

  there_stands : StandsThere t n → stands (node_named t n.name) n ≡ true
  there_stands s =
      ap (λ (o : Option Node). stands o n) s.found
      ∙ ap (λ (ns : List Name). (s.node.address.0 == n.address.0) && pointwise same_name ns n.controllers) s.controllers
      ∙ ap (λ b. b && pointwise same_name n.controllers n.controllers) (eq-eqb s.node.address.0 n.address.0 (λ i. (s.address i).0))
      ∙ same_as_itself n.controllers

  pub put_moves_none : (moves (Put (Objects.Node n)) t ≡ None) ↔ StandsThere t n
  put_moves_none = (
    (λ e. elim (stands (node_named t n.name) n) as (λ b. stands (node_named t n.name) n ≡ b → cond b None (Some mover) ≡ None → StandsThere t n) [
      | true ↦ λ is _. found_there (node_named t n.name) refl is
      | false ↦ λ _ e. absurd (none_some mover (sym e))
    ] refl e),
    (λ s. ap (λ b. cond b None (Some mover)) (there_stands s)),
  )

  pub put_moves_it : (StandsThere t n → ⊥) → moves (Put (Objects.Node n)) t ≡ Some mover
  put_moves_it off =
      elim (stands (node_named t n.name) n) as (λ b. stands (node_named t n.name) n ≡ b → cond b None (Some mover) ≡ Some mover) [
        | true ↦ λ is. absurd (off (found_there (node_named t n.name) refl is))
        | false ↦ λ _. refl
      ] refl

abbrev gone : Name → List Name → Option Move
gone name left = Some (record { name = name; left = left; now = None })

pub delete_moves_it : (x : Checked) (name : Name) → edit_fault x (Delete Kinds.Node name) ≡ None
    → (n : Node) × (node_named x.topology name ≡ Some n) × (moves (Delete Kinds.Node name) x.topology ≡ gone name n.controllers)
delete_moves_it x name none = by (node_named x.topology name) refl (renews x (Delete Kinds.Node name) none).mover.1
  where
    by : (o : Option Node) → node_named x.topology name ≡ o → is_some o ≡ true
        → (n : Node) × (node_named x.topology name ≡ Some n) × (moves (Delete Kinds.Node name) x.topology ≡ gone name n.controllers)
    by None is e = absurd (true≢false (sym e))
    by (Some n) is e = (n, is, ap (λ (o : Option Node). gone name (listed_by o)) is)

pub others_move_none : (d : Edit) (t : Topology) → IsOfNoNode d → moves d t ≡ None
others_move_none (Put (Objects.Node n)) t h = absurd h
others_move_none (Delete Kinds.Node name) t h = absurd h
others_move_none (Put (Objects.Network n)) t h = refl
others_move_none (Put (Objects.Port n)) t h = refl
others_move_none (Put (Objects.Policy n)) t h = refl
others_move_none (Put (Objects.Service n)) t h = refl
others_move_none (Put (Objects.Chain n)) t h = refl
others_move_none (Delete Kinds.Network name) t h = refl
others_move_none (Delete Kinds.Port name) t h = refl
others_move_none (Delete Kinds.Policy name) t h = refl
others_move_none (Delete Kinds.Service name) t h = refl
others_move_none (Delete Kinds.Chain name) t h = refl

-- ---- the least number that is no agent's
taken_first : (a : NodeId) (rest : List (Option NodeId)) (i : ℕ)
    → agent_at (Some a ∷ rest) i ≡ (if i == 0 then Some a else agent_at (None ∷ rest) i)
taken_first a rest zero = refl
taken_first a rest (suc i) = ap (λ b. if b then Some a else agent_at rest i) (sym (eqb-suc-zero i))

taken_alone : (a : NodeId) (i : ℕ) → agent_at (Some a ∷ []) i ≡ (if i == 0 then Some a else agent_at [] i)
taken_alone a zero = refl
taken_alone a (suc i) = ap (λ b. if b then Some a else None) (sym (eqb-suc-zero i))

module _ (a b : NodeId) (agents : List (Option NodeId)) (t : HasTaken a agents (with_agent a agents)) where
  others_below : (i : ℕ) → i < suc t.number → agent_at (Some b ∷ agents) i ≢ None
  others_below zero lt e = none_some b (sym e)
  others_below (suc i) lt e = t.least.below i (omega arith) e

  taken_later : (i : ℕ) → agent_at (with_agent a (Some b ∷ agents)) i ≡ (if i == suc t.number then Some a else agent_at (Some b ∷ agents) i)
  taken_later zero = ap (λ c. if c then Some a else Some b) (sym (eqb-zero-suc t.number))
  taken_later (suc i) = t.agents i ∙ ap (λ c. if c then Some a else agent_at agents i) (sym (eqb-suc-suc i t.number))

pub least_taken : (a : NodeId) (agents : List (Option NodeId)) → HasTaken a agents (with_agent a agents)
least_taken a [] = record {
  number = 0;
  least = record { within = omega arith; free = refl; below = λ i lt. absurd (omega arith) };
  agents = taken_alone a;
  count = refl;
}
least_taken a (None ∷ agents) = record {
  number = 0;
  least = record { within = omega arith; free = refl; below = λ i lt. absurd (omega arith) };
  agents = taken_first a agents;
  count = omega arith;
}
least_taken a (Some b ∷ agents) =
    let t = least_taken a agents in
    let within = t.least.within in
    let count = t.count in
    record {
      number = suc t.number;
      least = record { within = omega (arith, within); free = t.least.free; below = others_below a b agents t };
      agents = taken_later a b agents t;
      count = omega (arith, count);
    }

-- ---- the number of an agent that goes
pub retired_exactly : (name : Name) (agents : List (Option NodeId)) (i : ℕ) (a : NodeId)
    → (agent_at (without_agent name agents) i ≡ Some a) ↔ ((agent_at agents i ≡ Some a) × (a.name ≢ name))
retired_exactly name [] i a = ((λ e. absurd (none_some a e)), (λ p. p.0))
retired_exactly name (o ∷ agents) (suc i) a = retired_exactly name agents i a
retired_exactly name (None ∷ agents) zero a = ((λ e. absurd (none_some a e)), (λ p. p.0))
retired_exactly name (Some b ∷ agents) zero a =
    elim (same_name b.name name) as (λ c. same_name b.name name ≡ c → (cond c None (Some b) ≡ Some a) ↔ ((Some b ≡ Some a) × (a.name ≢ name))) [
      | true ↦ λ is. (
        (λ e. absurd (none_some a e)),
        (λ p. absurd (p.1 (ap (λ (k : NodeId). k.name) (sym (same_Some b a p.0)) ∙ (bytes_decides b.name name).0 is))),
      )
      | false ↦ λ off. (
        (λ e. (e, λ same. true≢false (sym ((bytes_decides b.name name).1 (ap (λ (k : NodeId). k.name) (same_Some b a e) ∙ same)) ∙ off))),
        (λ p. p.0),
      )
    ] refl

pub retired_count : (name : Name) (agents : List (Option NodeId)) → length (without_agent name agents) ≡ length agents
retired_count name [] = refl
retired_count name (o ∷ agents) = ap (λ k. suc k) (retired_count name agents)

-- ---- the numbers after an edit
came_off : (o : Option Node) (c : Name) (those : List (Option NodeId)) → ((n : Node) → o ≡ Some n → is_listed c n ≡ false) → came_at o c those ≡ those
came_off None c those off = refl
came_off (Some n) c those off = ap (λ b. cond b (with_agent (id_of n) those) those) (off n refl)

agents_left : (m : Move) (c : Name) (ns : List Numbers) → ((n : Node) → m.now ≡ Some n → is_listed c n ≡ false)
    → agents_in (map (renumbered_at m) ns) c ≡ without_agent m.name (agents_in ns c)
agents_left m c [] off = refl
agents_left m c (n ∷ ns) off =
    elim (same_name n.control c) as (λ b. same_name n.control c ≡ b
    → cond b (came_at m.now n.control (without_agent m.name n.agents)) (agents_in (map (renumbered_at m) ns) c) ≡ without_agent m.name (cond b n.agents (agents_in ns c))) [
      | true ↦ λ is. came_off m.now n.control (without_agent m.name n.agents) (λ k e. ap (λ (c : Name). is_listed c k) ((bytes_decides n.control c).0 is) ∙ off k e)
      | false ↦ λ _. agents_left m c ns off
    ] refl

module _ (size : Name → Message → ℕ) (w : MachineState) (d : Edit) where
  abbrev made : Option Move → Setup
  made o = remade (checked_edited d (checked w.setup)) (renumbered o w.setup.numbers)

  numbers_made : (o : Option Move) → moves d w.setup.topology ≡ o → edit_fault (checked w.setup) d ≡ None
      → (next size w (Edits d)).setup.numbers ≡ renumbered o w.setup.numbers
  unfolding next
  numbers_made o is none =
      let m = moves d w.setup.topology in
      ap (λ (f : Option EditFault). (edits m (edited_without f w.setup d) w).setup.numbers) none
      ∙ ap (λ (x : Setup). x.numbers) (moved_setup m (record { setup = made m; sessions = w.sessions }))
      ∙ ap (λ (o : Option Move). renumbered o w.setup.numbers) is

  pub numbers_stay : moves d w.setup.topology ≡ None → (next size w (Edits d)).setup.numbers ≡ w.setup.numbers
  unfolding next
  numbers_stay is =
      let m = moves d w.setup.topology in
      elim (edit_fault (checked w.setup) d) as (λ f. (edits m (edited_without f w.setup d) w).setup.numbers ≡ w.setup.numbers) [
        | None ↦ ap (λ (x : Setup). x.numbers) (moved_setup m (record { setup = made m; sessions = w.sessions })) ∙ ap (λ (o : Option Move). renumbered o w.setup.numbers) is
        | Some f ↦ refl
      ]

  pub numbers_go : (m : Move) (c : NodeId) → edit_fault (checked w.setup) d ≡ None → moves d w.setup.topology ≡ Some m
      → ((n : Node) → m.now ≡ Some n → lists n c ≡ false)
      → agents_of (next size w (Edits d)).setup c.name ≡ without_agent m.name (agents_of w.setup c.name)
  numbers_go m c none is off =
      ap (λ (ns : List Numbers). agents_in ns c.name) (numbers_made (Some m) is none) ∙ agents_left m c.name w.setup.numbers off

  numbers_renewed : (m : Move) (n : Node) (c : NodeId) → HasEntry w.setup.numbers c.name → edit_fault (checked w.setup) d ≡ None
      → moves d w.setup.topology ≡ Some m → m.now ≡ Some n → lists n c ≡ true
      → agents_of (next size w (Edits d)).setup c.name ≡ with_agent (id_of n) (without_agent m.name (agents_of w.setup c.name))
  numbers_renewed m n c entry none is now listed =
      let kept : List (Option NodeId) = without_agent m.name (agents_of w.setup c.name) in
      ap (λ (ns : List Numbers). agents_in ns c.name) (numbers_made (Some m) is none)
      ∙ agents_renumbered m c.name w.setup.numbers entry
      ∙ ap (λ (o : Option Node). came_at o c.name kept) now
      ∙ ap (λ b. cond b (with_agent (id_of n) kept) kept) listed

-- ---- each control node has its numbers
abbrev AllHaveEntries : Setup → List NodePair → Type 0
AllHaveEntries x ps = (c : NodeId) → Member c x.topology.controllers → HasEntry x.numbers c.name

entries_edited : (d : Edit) (w : MachineState) → Holds AllHaveEntries w → Holds AllHaveEntries (edits (moves d w.setup.topology) (edited w.setup d) w)
entries_edited d w q =
    elim (edit_fault (checked w.setup) d) as (λ f. edit_fault (checked w.setup) d ≡ f → Holds AllHaveEntries (edits (moves d w.setup.topology) (edited_without f w.setup d) w)) [
      | None ↦ λ none.
          let m = moves d w.setup.topology in
          let y : Setup = remade (checked_edited d (checked w.setup)) (renumbered m w.setup.numbers) in
          let r : Renews w.setup.topology y.topology m = renews (checked w.setup) d none in
          subst (λ (z : Setup). AllHaveEntries z []) (sym (moved_setup m (record { setup = y; sessions = w.sessions })))
          (λ c i. entry m c.name (q c (subst (Member c) r.controllers i)))
      | Some f ↦ λ _. q
    ] refl
  where
    entry : (o : Option Move) (c : Name) → HasEntry w.setup.numbers c → HasEntry (renumbered o w.setup.numbers) c
    entry None c h = h
    entry (Some m) c h = entry_kept m c w.setup.numbers h

pub numbers_come : AtEveryMoment (λ size w. (d : Edit) (m : Move) (n : Node) (c : NodeId)
    → Member c w.setup.topology.controllers → edit_fault (checked w.setup) d ≡ None
    → moves d w.setup.topology ≡ Some m → m.now ≡ Some n → lists n c ≡ true
    → agents_of (next size w (Edits d)).setup c.name ≡ with_agent (id_of n) (without_agent m.name (agents_of w.setup c.name)))
numbers_come size positive x es d m n c i none is now listed =
    let entries : Holds AllHaveEntries (after size (start x) es) =
    after_holds size AllHaveEntries entries_edited (start x) es (λ c i. start_entries c x.topology.nodes x.topology.controllers i) in
    numbers_renewed size (after size (start x) es) d m n c (entries c i) none is now listed
