-- An edit leaves the address under which a control node knows an agent, but for the agent that moves.
use Rattle.std.specs.Prelude.{◌≡◌, List, [], ◌∷◌, true, false, cond}
use Rattle.std.specs.declared.option.Option.{Option}
use Rattle.std.specs.declared.option.Option.TheVariants.{Some, None}
use Rattle.std.specs.Cmp.Lexicographic.{bytes_decides}
use Rattle.std.proofs.Common.{refl, sym, ◌∙◌, ap}
use Rattle.ov_types.specs.First.{same_name}
use Rattle.ov_types.specs.declared.rows.NodeId.{NodeId}
use Rattle.config_types.specs.declared.topology.Node.{Node}
use Rattle.machine_model.specs.Setup.{Name, came_at, id_of, is_listed, with_agent, without_agent}
use Rattle.machine_model.specs.Network.{address_in}
use Rattle.machine_model.proofs.Distinct.{same_false}

module _ (name a : Name) (other : name ≡ a → ⊥) where
  address_without : (those : List (Option NodeId)) → address_in (without_agent name those) a ≡ address_in those a
  address_without [] = refl
  address_without (None ∷ those) = address_without those
  address_without (Some b ∷ those) =
      elim (same_name b.name name) as (λ c. same_name b.name name ≡ c → address_in (cond c None (Some b) ∷ without_agent name those) a ≡ address_in (Some b ∷ those) a) [
        | true ↦ λ is. address_without those ∙ sym (ap (λ c. cond c b.address (address_in those a)) (same_false b.name a (λ e. other (sym ((bytes_decides b.name name).0 is) ∙ e))))
        | false ↦ λ _. ap (cond (same_name b.name a) b.address) (address_without those)
      ] refl

  address_with : (n : NodeId) → n.name ≡ name → (those : List (Option NodeId)) → address_in (with_agent n those) a ≡ address_in those a
  address_with n e [] = ap (λ c. cond c n.address (address_in [] a)) (same_false n.name a (λ f. other (sym e ∙ f)))
  address_with n e (None ∷ those) = ap (λ c. cond c n.address (address_in those a)) (same_false n.name a (λ f. other (sym e ∙ f)))
  address_with n e (Some b ∷ those) = ap (cond (same_name b.name a) b.address) (address_with n e those)

  pub address_stays : (o : Option Node) → ((n : Node) → o ≡ Some n → n.name ≡ name) → (c : Name) (those : List (Option NodeId)) → address_in (came_at o c (without_agent name those)) a ≡ address_in those a
  address_stays None h c those = address_without those
  address_stays (Some n) h c those =
      elim (is_listed c n) as (λ b. address_in (cond b (with_agent (id_of n) (without_agent name those)) (without_agent name those)) a ≡ address_in those a) [
        | true ↦ address_with (id_of n) (h n refl) (without_agent name those) ∙ address_without those
        | false ↦ address_without those
      ]
