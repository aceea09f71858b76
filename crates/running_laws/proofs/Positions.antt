-- The places of a control node, by their numbers: its feed, then its peers, then its agents.
use Rattle.std.specs.List.{enumerate_from, filter_map}
use Rattle.std.specs.Prelude.{List, cond, false, length, map, nat_le, slice_index_or, suc, true, zero, ℕ, [], ◌&&◌, ◌++◌, ◌+◌, ◌<◌, ◌==◌, ◌∷◌, ◌≡◌, ◌⊎◌}
use Rattle.std.specs.declared.option.Option.TheVariants.{None, Some}
use Rattle.std.specs.declared.option.Option.{Option}
use Rattle.std.proofs.Common.{ap, arith, inl, inr, refl, sym, ◌∙◌}
use Rattle.std.proofs.lemmas.Bool.{eq-eqb, le-leb, lt-leb, lt-ltb, ne_eqb}
use Rattle.std.proofs.lemmas.Option.{same_Some}
use Rattle.ov_types.specs.declared.rows.NodeId.{NodeId}
use Rattle.node_model.specs.Paths.{Told}
use Rattle.node_model.specs.Step.{Post, post}
use Rattle.node_model.proofs.Members.{none_some}
use Rattle.machine_laws.specs.MachineModel.Session.{Controller}
use Rattle.machine_laws.specs.Goal.{Party}
use Rattle.running_nodes.specs.ControlNode.Core.{is_peer}
use Rattle.running_nodes.specs.ControlWants.Held.{told_in}
use Rattle.running_nodes.specs.Controls.{Controls, plan_of, told_at}
use Rattle.running_nodes.specs.Seats.{Controlling, name_there, names_of}
use Rattle.running_laws.proofs.FirstPlaces.{mapped_length, shifted}
use Rattle.running_laws.proofs.Parties.{client, parties_of, site, with_client, with_site}

-- ---- the three kinds
pub data Position (c : Controls) (i : ℕ) : Type 0 where
  AtFeed : i ≡ 0 → Position c i
  AtPeer : (j : ℕ) → i ≡ suc j → j < length c.peers → Position c i
  AtAgent : (j : ℕ) → i ≡ suc (length c.peers + j) → Position c i

parted : (n j : ℕ) → (j < n) ⊎ ((k : ℕ) × (j ≡ n + k))
parted zero j = inr (j, omega arith)
parted (suc n) zero = inl (omega arith)
parted (suc n) (suc j) = elim (parted n j) as (λ _. (suc j < suc n) ⊎ ((k : ℕ) × (suc j ≡ suc n + k))) [ inl h ↦ inl (omega (arith, h)) | inr q ↦ inr (q.0, omega (arith, q.1)) ]

pub position : (c : Controls) (i : ℕ) → Position c i
position c zero = AtFeed refl
position c (suc j) =
    elim (parted (length c.peers) j) as (λ _. Position c (suc j)) [
      | inl less ↦ AtPeer j refl less
      | inr q ↦ AtAgent q.0 (ap suc q.1)
    ]

pub both_long : (peers : List NodeId) (agents : List (Option NodeId)) → length (names_of peers ++ map name_there agents) ≡ length peers + length agents
both_long [] agents = let e : length agents ≡ 0 + length agents = omega arith in sym (mapped_length name_there agents (map name_there agents) refl) ∙ e
both_long (d ∷ peers) agents = let e : suc (length peers + length agents) ≡ suc (length peers) + length agents = omega arith in ap suc (both_long peers agents) ∙ e

-- ---- who is there
peer_among : (peers : List NodeId) (rest : List (Option Party)) (j : ℕ) (p : Party) → j < length peers → slice_index_or (map with_site peers ++ rest) j None ≡ Some p → p.1 ≡ Controller
peer_among [] rest j p h e = absurd (omega (arith, h))
peer_among (d ∷ peers) rest zero p h e = sym (ap (λ (p : Party). p.1) (same_Some (site d) p e))
peer_among (d ∷ peers) rest (suc j) p h e = peer_among peers rest j p (omega (arith, h)) e

-- the agent of a session
agent_in : (agents : List (Option NodeId)) (j : ℕ) (p : Party) → slice_index_or (map with_client agents) j None ≡ Some p → (a : NodeId) × (slice_index_or agents j None ≡ Some a) × (client a ≡ p)
agent_in [] j p e = absurd (none_some p e)
agent_in (None ∷ agents) zero p e = absurd (none_some p e)
agent_in (Some a ∷ agents) zero p e = (a, refl, same_Some (client a) p e)
agent_in (o ∷ agents) (suc j) p e = agent_in agents j p e

pub peer_at : (c : Controls) (j : ℕ) (p : Party) → j < length c.peers → slice_index_or (parties_of (Controlling c)) (suc j) None ≡ Some p → p.1 ≡ Controller
peer_at c j p h e = peer_among c.peers (map with_client c.agents) j p h e

pub agent_at : (c : Controls) (j : ℕ) (p : Party) → slice_index_or (parties_of (Controlling c)) (suc (length c.peers + j)) None ≡ Some p → (a : NodeId) × (slice_index_or c.agents j None ≡ Some a) × (client a ≡ p)
agent_at c j p e =
    agent_in c.agents j p
    (sym (shifted (map with_site c.peers) (map with_client c.agents) (length c.peers) j None (sym (mapped_length with_site c.peers (map with_site c.peers) refl))) ∙ e)

-- ---- the tests on numbers
pub not_feed : (j : ℕ) → (suc j == 0) ≡ false
not_feed j = ne_eqb (suc j) 0 (λ e. omega (arith, e))

pub peer_is : (c : Controls) (j : ℕ) → j < length c.peers → is_peer (plan_of c) (suc j) ≡ true
peer_is c j h =
    ap (λ b. b && nat_le (suc j) (length c.peers)) (lt-ltb 0 (suc j) (omega arith)) ∙ le-leb (suc j) (length c.peers) (omega (arith, h))

pub agent_is : (c : Controls) (j : ℕ) → is_peer (plan_of c) (suc (length c.peers + j)) ≡ false
agent_is c j =
    let i = suc (length c.peers + j) in
    ap (λ b. b && nat_le i (length c.peers)) (lt-ltb 0 i (omega arith)) ∙ lt-leb i (length c.peers) (omega arith)

-- ---- what an agent told, by its session
abbrev pub told_from : List Post → ℕ → List (Option NodeId) → List Told
told_from posts m agents = filter_map (λ (e : ℕ × Option NodeId). told_at posts e.0 e.1) (enumerate_from m agents)

abbrev told_so : List Post → NodeId → ℕ → Told
told_so posts a m = record { session = m; address = a.address; map = (post posts m).held }

pub agent_told : (posts : List Post) (agents : List (Option NodeId)) (m j k : ℕ) (a : NodeId) → k ≡ m + j → slice_index_or agents j None ≡ Some a
    → told_in (told_from posts m agents) k ≡ record { session = k; address = a.address; map = (post posts k).held }
agent_told posts [] m j k a at e = absurd (none_some a e)
agent_told posts (None ∷ agents) m zero k a at e = absurd (none_some a e)
agent_told posts (None ∷ agents) m (suc j) k a at e =
    let next : k ≡ (m + 1) + j = omega (arith, at) in
    agent_told posts agents (m + 1) j k a next e
agent_told posts (Some b ∷ agents) m zero k a at e =
    let is : m ≡ k = omega (arith, at) in
    let same : b ≡ a = same_Some b a e in
    ap (λ t. cond t (told_so posts b m) (told_in (told_from posts (m + 1) agents) k)) (eq-eqb m k is) ∙ (λ i. told_so posts (same i) (is i))
agent_told posts (Some b ∷ agents) m (suc j) k a at e =
    let off : (m == k) ≡ false = ne_eqb m k (λ is. omega (arith, is, at)) in
    let next : k ≡ (m + 1) + j = omega (arith, at) in
    ap (λ t. cond t (told_so posts b m) (told_in (told_from posts (m + 1) agents) k)) off ∙ agent_told posts agents (m + 1) j k a next e
