-- One control node of all nodes, as it is after an agent left it or came to it.
use Rattle.std.proofs.Common.{◌≡◌, ◌<◌, ◌+◌, ℕ, List, length, get_or, set, sym, ◌∙◌, ap, subst}
use Rattle.running_nodes.specs.ConfigNode.Core as configuration
use Rattle.running_nodes.specs.ControlNode.Core as control
use Rattle.agent_node.specs.Core as agent
use Rattle.running_nodes.specs.Cores.{controlled, inners}
use Rattle.running_nodes.specs.Halves.{Inner, inner, no_inner}
use Rattle.running_nodes.proofs.Halves.{set_itself}
use Rattle.running_nodes.proofs.Numbers.{control_is, control_set, set_at}

module _ (v : List Inner) (x : configuration.Core) (cs : List control.Core) (agents : List agent.Core) (node n i : ℕ)
    (view : inners x cs agents ≡ v) (len : n ≡ length cs) (number : 1 + i ≡ node) (within : i < n) (there : node < length v)
    (y z : control.Core) (at : y ≡ get_or cs i y) where
  abbrev after : List Inner
  after = inners x (set cs i z) agents

  pub was_there : inner v node ≡ controlled y
  was_there = control_is v x cs agents node n i view len y number within at

  pub is_set : after ≡ set v node (controlled z)
  is_set = control_set v x cs agents node n i view len z number within

  now_there : inner after node ≡ controlled z
  now_there = set_at v after node (controlled z) is_set there

  pub one_set : after ≡ set v node (inner after node)
  one_set = is_set ∙ ap (λ (m : Inner). set v node m) (sym now_there)

  -- what holds of the node itself holds of the one of its number
  pub of_both : (P : Inner → Inner → Type 0) → P (controlled y) (controlled z) → P (inner v node) (inner after node)
  of_both P h =
      subst (λ (m : Inner). P (inner v node) m) (sym now_there)
      (subst (λ (m : Inner). P m (controlled z)) (sym was_there) h)

  pub becomes : (f : Inner → Inner) → controlled z ≡ f (controlled y) → after ≡ set v node (f (inner v node))
  becomes f is = is_set ∙ ap (λ (m : Inner). set v node m) (is ∙ ap f (sym was_there))

  pub unchanged : z ≡ y → after ≡ v
  unchanged same =
      becomes (λ (m : Inner). m) (ap controlled same) ∙ set_itself v node no_inner
