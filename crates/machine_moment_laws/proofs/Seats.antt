-- What a node holds of its feed and of its peers, and the members of a numbered list.
use Rattle.std.specs.Prelude.{◌+◌, ℕ, List, [], ◌∷◌, map, true, false, cond}
use Rattle.std.specs.FinMap.{empty}
use Rattle.std.specs.List.{enumerate_from}
use Rattle.std.proofs.Common.{ap, inl, inr, subst}
use Rattle.node_laws.specs.NodeModel.Maps.{Map}
use Rattle.node_laws.specs.NodeModel.Members.{Member}
use Rattle.machine_model.specs.Moments.{Each}
use Rattle.machine_model.specs.Network.{first_held, same_role, view, with_role}
use Rattle.machine_model.specs.Session.{Configuration, Controller, Session}
use Rattle.machine_laws.proofs.Views.{views}

pub enumerated : {X : Type 0} (n : ℕ) (x : ℕ × X) (xs : List X) → Member x (enumerate_from n xs) → Member x.1 xs
enumerated n x [] m = absurd m
enumerated n x (y ∷ xs) (inl e) = inl (ap (λ (x : ℕ × _). x.1) e)
enumerated n x (y ∷ xs) (inr m) = inr (enumerated (n + 1) x xs m)

-- for any fact of a map
module _ (P : Map → Type 0) (none : P empty) where
  abbrev Held : Session → Type 0
  Held s = P s.near.held

  pub feed_of : (own : List Session) → Each Held own → P (first_held (with_role Configuration (views own)))
  feed_of [] h = none
  feed_of (s ∷ own) h = elim (same_role Configuration s.far.role) as (λ b. P (first_held (cond b (view s ∷ with_role Configuration (views own)) (with_role Configuration (views own))))) [ true ↦ h.0 | false ↦ feed_of own h.1 ]

  pub peers_of : (own : List Session) → Each Held own → (m : Map) → Member m (map (λ v. v.held) (with_role Controller (views own))) → P m
  peers_of [] h m i = absurd i
  peers_of (s ∷ own) h m i =
      elim (same_role Controller s.far.role) as (λ b. Member m (map (λ v. v.held) (cond b (view s ∷ with_role Controller (views own)) (with_role Controller (views own)))) → P m) [
        | true ↦ λ i. elim i as (λ _. P m) [ inl e ↦ subst P e h.0 | inr i ↦ peers_of own h.1 m i ]
        | false ↦ λ i. peers_of own h.1 m i
      ] i
