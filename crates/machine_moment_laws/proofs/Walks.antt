-- A walk whose lookups keep a fact of the services so far and of the instance ends as the fact says.
use Rattle.std.specs.Prelude.{List, Option, None, Some, length, suc, zero, ℕ, [], ◌+◌, ◌++◌, ◌∷◌, ◌≡◌, ◌≢◌, ◌≤◌}
use Rattle.std.proofs.Common.{arith, length-append, refl, subst}
use Rattle.ov_types.specs.declared.numbers.InstanceId.{InstanceId}
use Rattle.ov_types.specs.declared.numbers.Label.{Label as LabelNo}
use Rattle.ov_types.specs.declared.numbers.PortNo.{PortNo}
use Rattle.ov_types.specs.declared.numbers.ServiceNo.{ServiceNo}
use Rattle.ov_types.specs.declared.packet.Outcome.TheVariants.{Delivered, Dropped}
use Rattle.ov_types.specs.declared.packet.Outcome.{Outcome}
use Rattle.ov_types.specs.declared.packet.Why.TheVariants as Why
use Rattle.ov_types.specs.declared.packet.Why.{Why as Reason}
use Rattle.ov_types.specs.declared.rows.Attached.TheVariants.{Circuit, Port}
use Rattle.ov_types.specs.declared.rows.Attached.{Attached}
use Rattle.ov_types.specs.declared.rows.Entry.{Entry as RouteEntry}
use Rattle.route_targets.specs.Forwarding.{Forwarder, agent_at, attached, followed, handed, looked_up, visited, walk}
use Rattle.route_targets.specs.Numbers.{circuit_instance_of, other_side_of}
use Rattle.node_laws.specs.NodeModel.Members.{Member}
use Rattle.machine_laws.proofs.Found.{agent_in, dropped}

-- what an attachment leads to: a port ends the walk, behind a circuit's service the fact holds again
abbrev pub Follows : (List ServiceNo → InstanceId → Type 0) → (PortNo → List ServiceNo → Type 0) → List ServiceNo → Attached → Type 0
Follows Holds Ends ss (Port q i) = Ends q ss
Follows Holds Ends ss (Circuit c s) = Holds (ss ++ s ∷ []) (circuit_instance_of (other_side_of c))

-- each lookup keeps the fact
abbrev pub AreKept : List Forwarder → ℕ → (List ServiceNo → InstanceId → Type 0) → (PortNo → List ServiceNo → Type 0) → Type 0
AreKept agents address Holds Ends =
    (f g : Forwarder) → Member f agents → Member g agents → (ss : List ServiceNo) (i : InstanceId) → Holds ss i
    → (hop : RouteEntry) → looked_up f.rows i address ≡ Some hop → (a : Attached) → attached g.rows hop.label ≡ Some a
    → Follows Holds Ends ss a

never_out : (w : Reason) → w ≢ Why.TtlExpired → Dropped w ≢ Dropped Why.TtlExpired
never_out w h e = h cc

delivers : (p q : PortNo) (ss ts : List ServiceNo) → Delivered p ss ≡ Delivered q ts → (p ≡ q) × (ss ≡ ts)
delivers p q ss ts e = (cc, cc)

never_delivered : (p : PortNo) (ss : List ServiceNo) → Delivered p ss ≢ Dropped Why.TtlExpired
never_delivered p ss e = cc

module _ (agents : List Forwarder) (address : ℕ) (Holds : List ServiceNo → InstanceId → Type 0) (Ends : PortNo → List ServiceNo → Type 0) (keeps : AreKept agents address Holds Ends) where
  -- ---- where it delivers
  abbrev Arrives : (List ServiceNo → InstanceId → Outcome) → PortNo → List ServiceNo → Type 0
  Arrives again q to = (ss : List ServiceNo) (i : InstanceId) → Holds ss i → again ss i ≡ Delivered q to → Ends q to

  visited_ends : (again : List ServiceNo → InstanceId → Outcome) (q : PortNo) (to : List ServiceNo) → Arrives again q to
      → (ss : List ServiceNo) (o : Option Attached) → ((a : Attached) → o ≡ Some a → Follows Holds Ends ss a) → visited again ss o ≡ Delivered q to → Ends q to
  visited_ends again q to goes ss None h e = absurd (dropped Why.NoLabel q to e)
  visited_ends again q to goes ss (Some (Port p j)) h e =
      let same = delivers p q ss to e in
      subst (λ (x : PortNo). Ends x to) same.0 (subst (Ends p) same.1 (h (Port p j) refl))
  visited_ends again q to goes ss (Some (Circuit c s)) h e = goes (ss ++ s ∷ []) (circuit_instance_of (other_side_of c)) (h (Circuit c s) refl) e

  handed_ends : (again : Forwarder → List ServiceNo → InstanceId → Outcome) (q : PortNo) (to : List ServiceNo) → ((g : Forwarder) → Member g agents → Arrives (again g) q to)
      → (ss : List ServiceNo) (label : LabelNo) (o : Option Forwarder) → ((g : Forwarder) → o ≡ Some g → Member g agents)
      → ((g : Forwarder) → Member g agents → (a : Attached) → attached g.rows label ≡ Some a → Follows Holds Ends ss a) → handed again ss label o ≡ Delivered q to → Ends q to
  handed_ends again q to goes ss label None there h e = absurd (dropped Why.NoLabel q to e)
  handed_ends again q to goes ss label (Some g) there h e = visited_ends (again g) q to (goes g (there g refl)) ss (attached g.rows label) (h g (there g refl)) e

  followed_ends : (again : Forwarder → List ServiceNo → InstanceId → Outcome) (q : PortNo) (to : List ServiceNo) → ((g : Forwarder) → Member g agents → Arrives (again g) q to)
      → (ss : List ServiceNo) (o : Option RouteEntry)
      → ((hop : RouteEntry) → o ≡ Some hop → (g : Forwarder) → Member g agents → (a : Attached) → attached g.rows hop.label ≡ Some a → Follows Holds Ends ss a)
      → followed again agents ss o ≡ Delivered q to → Ends q to
  followed_ends again q to goes ss None h e = absurd (dropped Why.NoRoute q to e)
  followed_ends again q to goes ss (Some hop) h e = handed_ends again q to goes ss hop.label (agent_at agents hop.next_hop) (λ g is. agent_in agents hop.next_hop g is) (h hop refl) e

  pub walk_ends : (left : ℕ) (f : Forwarder) (ss : List ServiceNo) (i : InstanceId) (q : PortNo) (to : List ServiceNo) → Member f agents → Holds ss i → walk agents address left f ss i ≡ Delivered q to → Ends q to
  walk_ends zero f ss i q to m h e = absurd (dropped Why.TtlExpired q to e)
  walk_ends (suc left) f ss i q to m h e =
      followed_ends (walk agents address left) q to (λ g n rest j k x. walk_ends left g rest j q to n k x) ss (looked_up f.rows i address)
      (λ hop is g n a at. keeps f g m n ss i h hop is a at) e

  -- ---- that it does not run out of lookups
  module _ (few : (ss : List ServiceNo) (i : InstanceId) → Holds ss i → length ss ≤ 15) where
    abbrev GoesOn : (List ServiceNo → InstanceId → Outcome) → ℕ → Type 0
    GoesOn again left = (ss : List ServiceNo) (i : InstanceId) → Holds ss i → 16 ≤ left + length ss → again ss i ≢ Dropped Why.TtlExpired

    visited_lasts : (again : List ServiceNo → InstanceId → Outcome) (left : ℕ) → GoesOn again left
        → (ss : List ServiceNo) → 16 ≤ suc left + length ss → (o : Option Attached) → ((a : Attached) → o ≡ Some a → Follows Holds Ends ss a) → visited again ss o ≢ Dropped Why.TtlExpired
    visited_lasts again left goes ss many None h = never_out Why.NoLabel (λ e. cc)
    visited_lasts again left goes ss many (Some (Port p j)) h = never_delivered p ss
    visited_lasts again left goes ss many (Some (Circuit c s)) h =
        goes (ss ++ s ∷ []) (circuit_instance_of (other_side_of c)) (h (Circuit c s) refl) (more left (length ss) (length (ss ++ s ∷ [])) (length-append ss (s ∷ [])) many)
      where
        more : (left n m : ℕ) → m ≡ n + 1 → 16 ≤ suc left + n → 16 ≤ left + m
        more left n m e h = omega (arith, e, h)

    handed_lasts : (again : Forwarder → List ServiceNo → InstanceId → Outcome) (left : ℕ) → ((g : Forwarder) → Member g agents → GoesOn (again g) left)
        → (ss : List ServiceNo) → 16 ≤ suc left + length ss → (label : LabelNo) (o : Option Forwarder) → ((g : Forwarder) → o ≡ Some g → Member g agents)
        → ((g : Forwarder) → Member g agents → (a : Attached) → attached g.rows label ≡ Some a → Follows Holds Ends ss a) → handed again ss label o ≢ Dropped Why.TtlExpired
    handed_lasts again left goes ss many label None there h = never_out Why.NoLabel (λ e. cc)
    handed_lasts again left goes ss many label (Some g) there h = visited_lasts (again g) left (goes g (there g refl)) ss many (attached g.rows label) (h g (there g refl))

    followed_lasts : (again : Forwarder → List ServiceNo → InstanceId → Outcome) (left : ℕ) → ((g : Forwarder) → Member g agents → GoesOn (again g) left)
        → (ss : List ServiceNo) → 16 ≤ suc left + length ss → (o : Option RouteEntry)
        → ((hop : RouteEntry) → o ≡ Some hop → (g : Forwarder) → Member g agents → (a : Attached) → attached g.rows hop.label ≡ Some a → Follows Holds Ends ss a)
        → followed again agents ss o ≢ Dropped Why.TtlExpired
    followed_lasts again left goes ss many None h = never_out Why.NoRoute (λ e. cc)
    followed_lasts again left goes ss many (Some hop) h = handed_lasts again left goes ss many hop.label (agent_at agents hop.next_hop) (λ g is. agent_in agents hop.next_hop g is) (h hop refl)

    pub walk_lasts : (left : ℕ) (f : Forwarder) (ss : List ServiceNo) (i : InstanceId) → Member f agents → Holds ss i → 16 ≤ left + length ss → walk agents address left f ss i ≢ Dropped Why.TtlExpired
    walk_lasts zero f ss i m h many = absurd (never (length ss) many (few ss i h))
      where
        never : (n : ℕ) → 16 ≤ 0 + n → n ≤ 15 → ⊥
        never n a b = omega (arith, a, b)
    walk_lasts (suc left) f ss i m h many =
        followed_lasts (walk agents address left) left (λ g n rest j k lots. walk_lasts left g rest j n k lots) ss many (looked_up f.rows i address)
        (λ hop is g n a at. keeps f g m n ss i h hop is a at)
