-- The control nodes of a topology, and the form of what they ask.
use Rattle.std.specs.Prelude.{◌≡◌, ◌++◌, List, [], ◌∷◌, map}
use Rattle.std.specs.Cmp.Lexicographic.{bytes_decides}
use Rattle.std.proofs.Common.{refl, sym, ap, ◌∙◌, subst, inl, inr}
use Rattle.std.proofs.lemmas.List.{append_assoc}
use Rattle.ov_types.specs.First.{same_name}
use Rattle.ov_types.specs.declared.rows.NodeId.{NodeId}
use Rattle.config_types.specs.declared.topology.Topology.{Topology}
use Rattle.node_model.specs.Members.{Member}
use Rattle.node_model.proofs.Members.{any_in}
use Rattle.machine_model.specs.Network.{MachineState}
use Rattle.net_machine.specs.Looking.{held_at}
use Rattle.rt_constrain.proofs.Asks.{asked_form}
use Rattle.top_call.specs.Constraint.{AreControlNodes, AreInForm, asking_of, askings}
use Rattle.top_call.specs.declared.asking.Asking.{Asking}

all_there : (t : Topology) (cs : List NodeId) → ((c : NodeId) → Member c cs → Member c t.controllers) → AreControlNodes t cs
all_there t [] among = tt
all_there t (c ∷ cs) among = (
  any_in (λ (d : NodeId). same_name d.name c.name) c t.controllers (among c (inl refl))
      ((bytes_decides c.name c.name).1 refl),
  all_there t cs (λ d m. among d (inr m)),
)

pub controllers_are_there : (t : Topology) → AreControlNodes t t.controllers
controllers_are_there t = all_there t t.controllers (λ c m. m)

in_form : (w : MachineState) (cs : List NodeId) → AreInForm (map (asking_of w) cs)
in_form w [] = tt
in_form w (c ∷ cs) = (asked_form (held_at w c.name), in_form w cs)

pub askings_are_in_form : (w : MachineState) (all : List Asking) → all ≡ askings w → AreInForm all
askings_are_in_form w all is = subst AreInForm (sym is) (in_form w w.setup.topology.controllers)

-- one more is asked
pub made_more : (w : MachineState) (all more : List Asking) (a : Asking) (c : NodeId) (left later whole : List NodeId)
    → all ++ map (asking_of w) left ≡ map (asking_of w) whole → left ≡ c ∷ later → a ≡ asking_of w c → more ≡ all ++ a ∷ []
    → more ++ map (asking_of w) later ≡ map (asking_of w) whole
made_more w all more a c left later whole made splits is pushed =
    ap (λ xs. xs ++ map (asking_of w) later) pushed
    ∙ append_assoc all (a ∷ []) (map (asking_of w) later)
    ∙ ap (λ b. all ++ b ∷ map (asking_of w) later) is
    ∙ ap (λ cs. all ++ map (asking_of w) cs) (sym splits)
    ∙ made
