-- At every moment a control node has few numbers of agents: no more than the compute nodes that there may be.
use Rattle.std.specs.Prelude.{◌≡◌, ◌≢◌, ◌≤◌, ◌⊎◌, suc, List, [], ◌∷◌, length, map, Bool, true, false, cond}
use Rattle.std.specs.declared.option.Option.{Option}
use Rattle.std.specs.declared.option.Option.TheVariants.{Some, None}
use Rattle.std.specs.List.{filter}
use Rattle.std.proofs.Common.{refl, sym, ◌∙◌, ap, subst, arith, inl, inr}
use Rattle.std.proofs.lemmas.List.{length-map}
use Rattle.std.proofs.lemmas.Option.{same_Some}
use Rattle.ov_types.specs.First.{same_name}
use Rattle.ov_types.specs.declared.rows.NodeId.{NodeId}
use Rattle.config_check.specs.Checked.{Checked}
use Rattle.config_check.specs.Edits.{edit_fault, edited as checked_edited}
use Rattle.config_check.specs.declared.edits.EditFault.{EditFault}
use Rattle.config_types.specs.declared.edit.Edit.{Edit}
use Rattle.config_types.specs.declared.topology.Node.{Node}
use Rattle.running_laws.specs.MachineLaws.Headline.{IsOfForm, IsWritten}
use Rattle.running_laws.proofs.MachineLaws.EachFact.{Keeps, after_keeps, edit_valid}
use Rattle.running_nodes.specs.MachineModel.Events.{MachineEvent, next}
use Rattle.running_nodes.specs.MachineModel.Moments.{AreOnce, Each, EditIsValid, NumbersFit}
use Rattle.running_nodes.specs.MachineModel.Network.{MachineState, sessions_of}
use Rattle.running_nodes.specs.MachineModel.Session.{Session}
use Rattle.running_nodes.specs.MachineModel.Setup.{Move, Name, Numbers, Setup, agents_in, agents_of, came_at, checked, edited, edited_without, first_numbers, has_name, id_of}
use Rattle.running_nodes.specs.MachineModel.Setup.{is_listed, lists, moves, opening, remade, renumbered, renumbered_at, with_agent, without_agent}
use Rattle.node_model.proofs.Members.{none_some}
use Rattle.node_model.specs.Maps.{Map}
use Rattle.node_model.specs.Members.{Member}
use Rattle.running_nodes.specs.Stands.{message_size}
use Rattle.running_nodes.proofs.SetUp.{set_up}
use Rattle.running_laws.specs.Moments.{IsMoment}
use Rattle.running_laws.proofs.Moments.{Follows, at_first, at_moment, follows_edit, follows_next}

-- ---- in lists
pub few_filtered : {A : Type 0} (p : A → Bool) (xs : List A) → length (filter p xs) ≤ length xs
few_filtered p [] = omega arith
few_filtered p (x ∷ xs) =
    let h = few_filtered p xs in
    let with_it : suc (length (filter p xs)) ≤ suc (length xs) = omega (arith, h) in
    let without_it : length (filter p xs) ≤ suc (length xs) = omega (arith, h) in
    elim (p x) as (λ b. length (cond b (x ∷ filter p xs) (filter p xs)) ≤ suc (length xs)) [
      | true ↦ with_it
      | false ↦ without_it
    ]

-- a list without one that stands there
without_one : (ns : List Node) (n : Node) → Member n ns → List Node
without_one [] n i = []
without_one (m ∷ ns) n (inl e) = ns
without_one (m ∷ ns) n (inr i) = m ∷ without_one ns n i

one_less : (ns : List Node) (n : Node) (i : Member n ns) → length ns ≡ suc (length (without_one ns n i))
unfolding without_one
one_less [] n i = absurd i
one_less (m ∷ ns) n (inl e) = refl
one_less (m ∷ ns) n (inr i) = ap suc (one_less ns n i)

others_stay : (ns : List Node) (n : Node) (i : Member n ns) (k : Node) → Member k ns → n.name ≢ k.name
    → Member k (without_one ns n i)
unfolding without_one
others_stay [] n i k j off = absurd j
others_stay (m ∷ ns) n (inl e) k (inl f) off = absurd (off (ap (λ (a : Node). a.name) (sym e ∙ f)))
others_stay (m ∷ ns) n (inl e) k (inr j) off = j
others_stay (m ∷ ns) n (inr i) k (inl f) off = inl f
others_stay (m ∷ ns) n (inr i) k (inr j) off = inr (others_stay ns n i k j off)

-- ---- where no number is retired, there are no more numbers than nodes
abbrev AllThere : List (Option NodeId) → Type 0
AllThere [] = Unit {0}
AllThere (None ∷ those) = ⊥
AllThere (Some a ∷ those) = AllThere those

abbrev AreOf : List Node → List (Option NodeId) → Type 0
AreOf ns those = (a : NodeId) → Member (Some a) those → (n : Node) × Member n ns × (n.name ≡ a.name)

few_there : (those : List (Option NodeId)) (ns : List Node) → AllThere those → AreOnce those → AreOf ns those
    → length those ≤ length ns
few_there [] ns there once of = omega arith
few_there (None ∷ those) ns there once of = absurd there
few_there (Some a ∷ those) ns there once of =
    let first = of a (inl refl) in
    let less = one_less ns first.0 first.1 in
    let h = few_there those (without_one ns first.0 first.1) there once.1 (λ b i.
    let q = of b (inr i) in
    (q.0, others_stay ns first.0 first.1 q.0 q.1 (λ e. once.0 b i (sym first.2 ∙ e ∙ q.2)), q.2)) in
    omega (arith, less, h)

-- ---- what comes gets a retired number, unless there is none
abbrev Grows : List (Option NodeId) → List (Option NodeId) → Type 0
Grows old new = (length new ≡ length old) ⊎ AllThere new

with_grows : (a : NodeId) (those : List (Option NodeId)) → Grows those (with_agent a those)
with_grows a [] = inr tt
with_grows a (None ∷ those) = inl refl
with_grows a (Some b ∷ those) =
    elim (with_grows a those) as (λ _. Grows (Some b ∷ those) (Some b ∷ with_agent a those)) [
      | inl e ↦ inl (ap suc e)
      | inr there ↦ inr there
    ]

came_grows : (o : Option Node) (c : Name) (those : List (Option NodeId)) → Grows those (came_at o c those)
came_grows None c those = inl refl
came_grows (Some n) c those =
    elim (is_listed c n) as (λ b. Grows those (cond b (with_agent (id_of n) those) those)) [
      | true ↦ with_grows (id_of n) those
      | false ↦ inl refl
    ]

without_long : (name : Name) (those : List (Option NodeId)) → length (without_agent name those) ≡ length those
without_long name those = length-map those (λ o. cond (has_name name o) None o)

moved_grows : (m : Move) (n : Numbers) → Grows n.agents (renumbered_at m n).agents
moved_grows m n =
    elim (came_grows m.now n.control (without_agent m.name n.agents)) as (λ _. Grows n.agents (renumbered_at m n).agents) [
      | inl e ↦ inl (e ∙ without_long m.name n.agents)
      | inr there ↦ inr there
    ]

agents_grow : (m : Move) (ns : List Numbers) (c : Name) → Grows (agents_in ns c) (agents_in (map (renumbered_at m) ns) c)
agents_grow m [] c = inl refl
agents_grow m (n ∷ ns) c =
    elim (same_name n.control c) as (λ b. Grows (cond b n.agents (agents_in ns c))
    (cond b (renumbered_at m n).agents (agents_in (map (renumbered_at m) ns) c))) [
      | true ↦ moved_grows m n
      | false ↦ agents_grow m ns c
    ]

renumbered_grow : (o : Option Move) (ns : List Numbers) (c : Name) → Grows (agents_in ns c) (agents_in (renumbered o ns) c)
renumbered_grow None ns c = inl refl
renumbered_grow (Some m) ns c = agents_grow m ns c

-- ---- at every moment
abbrev HasFew : Setup → Type 0
HasFew x = (c : NodeId) → Member c x.topology.controllers → length (agents_of x c.name) ≤ 64

few_nodes : (x : Setup) → IsWritten x → length x.topology.nodes ≤ 64
few_nodes x w = (set_up x.topology x.config w.topology w.valid).nodes

first_few : (ns : List Node) (cs : List NodeId) (c : Name) → length (agents_in (first_numbers ns cs) c) ≤ length ns
first_few ns [] c = omega arith
first_few ns (d ∷ cs) c =
    let those = filter (λ (n : Node). lists n d) ns in
    let long = length-map those (λ (n : Node). Some (id_of n)) in
    let few = few_filtered (λ (n : Node). lists n d) ns in
    let here : length (map (λ (n : Node). Some (id_of n)) those) ≤ length ns = omega (arith, long, few) in
    elim (same_name d.name c) as (λ b. length (cond b (map (λ (n : Node). Some (id_of n)) (filter (λ n. lists n d) ns))
    (agents_in (first_numbers ns cs) c)) ≤ length ns) [
      | true ↦ here
      | false ↦ first_few ns cs c
    ]

start_few : (x : Checked) → IsWritten (opening x) → HasFew (opening x)
start_few x w c i =
    let few : length (agents_of (opening x) c.name) ≤ length x.topology.nodes =
    first_few x.topology.nodes x.topology.controllers c.name in
    let nodes : length x.topology.nodes ≤ 64 = few_nodes (opening x) w in
    omega (arith, few, nodes)

-- as many as before, or no more than the nodes that there are
still_few : (x y : Setup) (c : NodeId) → Grows (agents_of x c.name) (agents_of y c.name) → length (agents_of x c.name) ≤ 64
    → IsWritten y → NumbersFit y.topology c (agents_of y c.name) → length (agents_of y c.name) ≤ 64
still_few x y c (inl e) few w fit = omega (arith, e, few)
still_few x y c (inr there) few w fit =
    let nodes = few_nodes y w in
    let h = few_there (agents_of y c.name) y.topology.nodes there fit.once (λ a i.
    let q = fit.only a i in (q.0, q.1, ap (λ (k : NodeId). k.name) q.2)) in
    omega (arith, nodes, h)

grows_edited : (x : Setup) (d : Edit) (y : Setup) (c : Name) → edited x d ≡ Some y
    → Grows (agents_of x c) (agents_of y c)
grows_edited x d y c e = by_fault (edit_fault (checked x) d) e
  where
    by_fault : (o : Option EditFault) → edited_without o x d ≡ Some y → Grows (agents_of x c) (agents_of y c)
    by_fault (Some fault) h = absurd (none_some y h)
    by_fault None h =
        subst (λ (z : Setup). Grows (agents_of x c) (agents_of z c))
        (same_Some (remade (checked_edited d (checked x)) (renumbered (moves d x.topology) x.numbers)) y h)
        (renumbered_grow (moves d x.topology) x.numbers c)

few_edited : (first x : Setup) (d : Edit) (y : Setup) → edited x d ≡ Some y → Follows first x → HasFew x
    → Follows first y → HasFew y
few_edited first x d y e was few is c i =
    let before : Member c x.topology.controllers = subst (Member c) (is.controllers ∙ sym was.controllers) i in
    still_few x y c (grows_edited x d y c.name e) (few c before) is.written (is.fits.fit c i)

-- nothing is asked of sessions
abbrev Anything : Session → Type 0
Anything s = Unit {0}

abbrev MayTellAnything : Session → Map → Type 0
MayTellAnything s m = Unit {0}

each_anything : (ss : List Session) → Each Anything ss
each_anything [] = tt
each_anything (s ∷ ss) = (tt, each_anything ss)

few_keep : Keeps message_size HasFew Anything MayTellAnything
few_keep = record {
  both = λ s p. tt;
  begins = λ y f c m n k. tt;
  arrives = λ s p. tt;
  octets = λ n s p. tt;
  passes = λ m s may p. tt;
  shuts = λ s p. tt;
  loses = λ s p. tt;
  opens = λ s p. tt;
  breaks = λ a b s p. tt;
  wants = λ y ss n f p. each_anything (sessions_of n ss);
}

abbrev IsRoomy : Setup → MachineState → Type 0
IsRoomy x w = Follows x w.setup × HasFew w.setup

roomy_followed : (x : Setup) (w : MachineState) (e : MachineEvent) → EditIsValid IsOfForm w e → IsRoomy x w
    → IsRoomy x (next message_size w e)
roomy_followed x w e valid h = (
  follows_next x w e valid h.0,
  (after_keeps message_size HasFew Anything MayTellAnything few_keep w (e ∷ [])
      (edit_valid (Follows x) HasFew w e (λ d y is f. few_edited x w.setup d y is h.0 h.1 f) (follows_edit x w e valid h.0), tt)
      (h.1, each_anything w.sessions)).0,
)

pub moment_few : (w : MachineState) → IsMoment w → (c : NodeId) → Member c w.setup.topology.controllers
    → length (agents_of w.setup c.name) ≤ 64
moment_few w m =
    (at_moment (IsRoomy (opening m.opening)) (λ v h. h) (roomy_followed (opening m.opening)) w m
    (at_first m.opening m.written, start_few m.opening m.written)).1
