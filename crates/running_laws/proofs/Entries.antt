-- At every moment each control node has its numbers, in the order of the topology. Numbers of which each control node's are
-- alike are alike.
use Rattle.std.specs.Prelude.{◌≡◌, List, [], ◌∷◌, map, length, Bool, true, false, cond}
use Rattle.std.specs.List.{AllByRecursion}
use Rattle.std.specs.declared.option.Option.{Option}
use Rattle.std.specs.declared.option.Option.TheVariants.{Some, None}
use Rattle.std.proofs.lemmas.Bool.{true≢false}
use Rattle.std.proofs.Common.{refl, sym, ◌∙◌, ap, subst, inl, inr, suc-ne-zero}
use Rattle.ov_types.specs.First.{same_name}
use Rattle.ov_types.specs.declared.rows.NodeId.{NodeId}
use Rattle.ov_types.proofs.FirstLemmas.{same_name_self}
use Rattle.config_types.specs.declared.edit.Edit.{Edit}
use Rattle.config_types.specs.declared.topology.Node.{Node}
use Rattle.schedule_script.specs.ConfigCheck.Edits.{edit_fault}
use Rattle.schedule_script.specs.ConfigCheck.EditFault.{EditFault}
use Rattle.node_model.specs.Members.{Member}
use Rattle.machine_laws.specs.MachineModel.Setup.{Move, Name, Numbers, Setup, agents_in, checked, edited_without, first_numbers, moves, renumbered}
use Rattle.machine_laws.specs.MachineModel.Setup.{renumbered_at}
use Rattle.machine_laws.specs.MachineModel.Network.{MachineState, start}
use Rattle.machine_laws.specs.MachineModel.Events.{MachineEvent, Edits, Deliver, DeliverOctets, Lose, Connect, Restart, Round, Settle, Show, Trace, Break}
use Rattle.machine_laws.specs.MachineModel.Events.{edits, next}
use Rattle.machine_laws.proofs.MachineModel.Changing.{renews}
use Rattle.machine_laws.proofs.MachineModel.Deeds.{setup_kept}
use Rattle.machine_laws.proofs.MachineModel.Distinct.{Apart, same_false}
use Rattle.machine_laws.proofs.MachineModel.Listed.{moved_setup}
use Rattle.running_nodes.specs.Stands.{message_size}
use Rattle.running_laws.specs.Moments.{IsMoment, after_moves, moved}
use Rattle.running_laws.proofs.Resettled.{setup_after}

abbrev pub HasEntries : Setup → Type 0
HasEntries x = map (λ (n : Numbers). n.control) x.numbers ≡ map (λ (c : NodeId). c.name) x.topology.controllers

-- ---- at first
first_entries : (nodes : List Node) (cs : List NodeId)
    → map (λ (n : Numbers). n.control) (first_numbers nodes cs) ≡ map (λ (c : NodeId). c.name) cs
first_entries nodes [] = refl
first_entries nodes (c ∷ cs) = ap (λ names. c.name ∷ names) (first_entries nodes cs)

-- ---- after an edit
all_renumbered : (m : Move) (ns : List Numbers)
    → map (λ (n : Numbers). n.control) (map (renumbered_at m) ns) ≡ map (λ (n : Numbers). n.control) ns
all_renumbered m [] = refl
all_renumbered m (n ∷ ns) = ap (λ names. n.control ∷ names) (all_renumbered m ns)

same_controls : (o : Option Move) (ns : List Numbers)
    → map (λ (n : Numbers). n.control) (renumbered o ns) ≡ map (λ (n : Numbers). n.control) ns
same_controls None ns = refl
same_controls (Some m) ns = all_renumbered m ns

edit_keeps : (d : Edit) (w : MachineState) → HasEntries w.setup → (o : Option EditFault) → edit_fault (checked w.setup) d ≡ o
    → HasEntries (edits (moves d w.setup.topology) (edited_without o w.setup d) w).setup
edit_keeps d w h (Some f) is = h
edit_keeps d w h None is =
    let m = moves d w.setup.topology in
    let y = setup_after w.setup d in
    let made : HasEntries y =
    same_controls m w.setup.numbers ∙ h
    ∙ ap (map (λ (c : NodeId). c.name)) (sym (renews (checked w.setup) d is).controllers)
    in
    subst HasEntries (sym (moved_setup m (record { setup = y; sessions = w.sessions }))) made

edit_next : (d : Edit) (w : MachineState) → HasEntries w.setup → HasEntries (next message_size w (Edits d)).setup
unfolding next
edit_next d w h = edit_keeps d w h (edit_fault (checked w.setup) d) refl

-- ---- every other event keeps the setup
abbrev is_edit : MachineEvent → Bool
is_edit (Edits d) = true
is_edit _ = false

other_next : (w : MachineState) (e : MachineEvent) → is_edit e ≡ false → HasEntries w.setup → HasEntries (next message_size w e).setup
other_next w e off h =
    subst HasEntries (sym (setup_kept message_size w e (λ d is. true≢false (sym (ap is_edit is) ∙ off)))) h

next_keeps : (w : MachineState) (e : MachineEvent) → HasEntries w.setup → HasEntries (next message_size w e).setup
next_keeps w (Edits d) h = edit_next d w h
next_keeps w (Deliver from to n) h = other_next w (Deliver from to n) refl h
next_keeps w (DeliverOctets from to n) h = other_next w (DeliverOctets from to n) refl h
next_keeps w (Lose a b) h = other_next w (Lose a b) refl h
next_keeps w (Connect a b) h = other_next w (Connect a b) refl h
next_keeps w (Restart name) h = other_next w (Restart name) refl h
next_keeps w Round h = other_next w Round refl h
next_keeps w Settle h = other_next w Settle refl h
next_keeps w (Show name) h = other_next w (Show name) refl h
next_keeps w (Trace p) h = other_next w (Trace p) refl h
next_keeps w (Break from to n) h = other_next w (Break from to n) refl h

moves_keep : (w : MachineState) (ms : List (Option MachineEvent)) → HasEntries w.setup → HasEntries (after_moves w ms).setup
moves_keep w [] h = h
moves_keep w (None ∷ ms) h = moves_keep (moved w None) ms h
moves_keep w (Some e ∷ ms) h = moves_keep (moved w (Some e)) ms (next_keeps w e h)

pub entries : (w : MachineState) → IsMoment w → HasEntries w.setup
entries w m =
    subst (λ (v : MachineState). HasEntries v.setup) (sym m.is)
    (moves_keep (start m.opening) m.moves (first_entries m.opening.topology.nodes m.opening.topology.controllers))

-- ---- numbers that are alike
all_but_first : (names : List Name) (n m : Numbers) (ns ms : List Numbers)
    → ((k : Name) → Member k names → n.control ≡ k → ⊥) → m.control ≡ n.control
    → AllByRecursion (λ k. agents_in (n ∷ ns) k ≡ agents_in (m ∷ ms) k) names
    → AllByRecursion (λ k. agents_in ns k ≡ agents_in ms k) names
all_but_first [] n m ns ms apart same h = tt
all_but_first (k ∷ names) n m ns ms apart same h =
    let off : same_name n.control k ≡ false = same_false n.control k (apart k (inl refl)) in (
      sym (ap (λ (b : Bool). cond b n.agents (agents_in ns k)) off) ∙ h.0
          ∙ ap (λ (b : Bool). cond b m.agents (agents_in ms k)) (ap (λ c. same_name c k) same ∙ off),
      all_but_first names n m ns ms (λ j i. apart j (inr i)) same h.1,
    )

abbrev head_name : Name → List Name → Name
head_name d [] = d
head_name d (k ∷ names) = k

abbrev tail_names : List Name → List Name
tail_names [] = []
tail_names (k ∷ names) = names

pub same_numbers : (names : List Name) (ns ms : List Numbers) → Apart names
    → map (λ (n : Numbers). n.control) ns ≡ names → map (λ (n : Numbers). n.control) ms ≡ names
    → AllByRecursion (λ k. agents_in ns k ≡ agents_in ms k) names → ns ≡ ms
same_numbers [] [] [] apart e f h = refl
same_numbers [] (n ∷ ns) ms apart e f h = absurd (suc-ne-zero (length (map (λ (n : Numbers). n.control) ns)) (ap length e))
same_numbers [] [] (m ∷ ms) apart e f h = absurd (suc-ne-zero (length (map (λ (n : Numbers). n.control) ms)) (ap length f))
same_numbers (k ∷ names) [] ms apart e f h = absurd (suc-ne-zero (length names) (ap length (sym e)))
same_numbers (k ∷ names) (n ∷ ns) [] apart e f h = absurd (suc-ne-zero (length names) (ap length (sym f)))
same_numbers (k ∷ names) (n ∷ ns) (m ∷ ms) apart e f h =
    let n_is : n.control ≡ k = ap (head_name k) e in
    let m_is : m.control ≡ k = ap (head_name k) f in
    let mine : same_name n.control k ≡ true = ap (λ c. same_name c k) n_is ∙ same_name_self k in
    let yours : same_name m.control k ≡ true = ap (λ c. same_name c k) m_is ∙ same_name_self k in
    let agents : n.agents ≡ m.agents =
    sym (ap (λ (b : Bool). cond b n.agents (agents_in ns k)) mine) ∙ h.0
    ∙ ap (λ (b : Bool). cond b m.agents (agents_in ms k)) yours
    in
    let rest : ns ≡ ms =
    same_numbers names ns ms apart.1 (ap tail_names e) (ap tail_names f)
    (all_but_first names n m ns ms (λ j i is. apart.0 j i (sym n_is ∙ is)) (m_is ∙ sym n_is) h.1)
    in
    λ i. record { control = (n_is ∙ sym m_is) i; agents = agents i } ∷ rest i
