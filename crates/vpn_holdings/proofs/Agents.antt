-- What agents told, session by session.
use Rattle.std.specs.Prelude.{◌≡◌, ◌==◌, ℕ, zero, suc, List, [], ◌∷◌, map, length, insert, true, false, cond, Some, nat_lt}
use Rattle.std.specs.List.{slice_get, slice_set}
use Rattle.std.proofs.lemmas.Option.{same_Some, slice_get_within, slice_get_read}
use Rattle.std.proofs.lemmas.Bool.{eq-eqb}
use Rattle.std.proofs.Common.{refl, sym, ◌∙◌, ap, arith, get_or}
use Rattle.ov_types.specs.declared.keys.UpKey.{UpKey}
use Rattle.ov_types.specs.declared.numbers.Label.{Label as LabelNo}
use Rattle.ov_types.specs.declared.prefix.Addr.{Addr}
use Rattle.path_select.specs.NodeModel.Maps.{Map}
use Rattle.path_select.specs.NodeModel.Paths.{Told}
use Rattle.vpn_holdings.specs.declared.holdings.Agent.{Agent}
use Rattle.vpn_holdings.specs.Views.{told_of, agent_of}
use Rattle.vpn_holdings.specs.Changes.{with_nothing, named, at_session}
use Rattle.vpn_holdings.specs.Seats.{seat_of, IsTaken}
use Rattle.vpn_holdings.proofs.Images.{told-empty}

abbrev at_front : Agent → List Told → List Told
at_front a agents = agent_of a ∷ agents

-- the session of the agent that stands at the seat is that of another address
pub named_there : (agents : List Agent) (session : ℕ) (x : Addr) (k : ℕ) (a : Agent) → seat_of agents session ≡ k → slice_get agents k ≡ Some a → a.session ≡ session
    → map agent_of (slice_set agents k (record a { address = x })) ≡ named (map agent_of agents) session x
named_there [] session x k a e h s = cc
named_there (b ∷ agents) session x k a e h s =
    elim (nat_lt b.session session) as (λ t. cond t (suc (seat_of agents session)) 0 ≡ k
    → map agent_of (slice_set (b ∷ agents) k (record a { address = x }))
    ≡ cond t (agent_of b ∷ named (map agent_of agents) session x) (cond (b.session == session) (record (agent_of b) { address = x } ∷ map agent_of agents) (with_nothing session x ∷ agent_of b ∷ map agent_of agents))) [
      | true ↦ λ e. farther (λ k e h. named_there agents session x k a e h s) k e h
      | false ↦ λ e. here k e h
    ] e
  where
    farther : ((k : ℕ) → seat_of agents session ≡ k → slice_get agents k ≡ Some a → map agent_of (slice_set agents k (record a { address = x })) ≡ named (map agent_of agents) session x) →
        (k : ℕ) → suc (seat_of agents session) ≡ k → slice_get (b ∷ agents) k ≡ Some a
        → map agent_of (slice_set (b ∷ agents) k (record a { address = x })) ≡ agent_of b ∷ named (map agent_of agents) session x
    farther again zero e h = absurd (omega (arith, e))
    farther again (suc k) e h = ap (at_front b) (again k (omega (arith, e)) h)

    here : (k : ℕ) → 0 ≡ k → slice_get (b ∷ agents) k ≡ Some a
        → map agent_of (slice_set (b ∷ agents) k (record a { address = x }))
        ≡ cond (b.session == session) (record (agent_of b) { address = x } ∷ map agent_of agents) (with_nothing session x ∷ agent_of b ∷ map agent_of agents)
    here (suc k) e h = absurd (omega (arith, e))
    here zero e h =
        let is = same_Some b a h in
        ap (λ (c : Agent). record (agent_of c) { address = x } ∷ map agent_of agents) (sym is)
        ∙ ap (λ t. cond t (record (agent_of b) { address = x } ∷ map agent_of agents) (with_nothing session x ∷ agent_of b ∷ map agent_of agents))
        (sym (eq-eqb b.session session (ap (λ (c : Agent). c.session) is ∙ s)))

-- a new agent goes to its seat
pub named_new : (agents : List Agent) (session : ℕ) (x : Addr) (k : ℕ) (told : List (UpKey × LabelNo)) → told ≡ [] → seat_of agents session ≡ k
    → ((a : Agent) → slice_get agents k ≡ Some a → (a.session == session) ≡ false)
    → map agent_of (insert agents k (record { session = session; address = x; told = told })) ≡ named (map agent_of agents) session x
named_new [] session x k told t e h =
    ap (λ (k : ℕ). map agent_of (insert [] k (record { session = session; address = x; told = told }))) (sym e)
    ∙ ap (λ (m : Map). record { session = session; address = x; map = m } ∷ []) (ap told_of t ∙ told-empty)
named_new (b ∷ agents) session x k told t e h =
    elim (nat_lt b.session session) as (λ t. cond t (suc (seat_of agents session)) 0 ≡ k
    → map agent_of (insert (b ∷ agents) k (record { session = session; address = x; told = told }))
    ≡ cond t (agent_of b ∷ named (map agent_of agents) session x) (cond (b.session == session) (record (agent_of b) { address = x } ∷ map agent_of agents) (with_nothing session x ∷ agent_of b ∷ map agent_of agents))) [
      | true ↦ λ e. farther (λ k e h. named_new agents session x k told t e h) k e h
      | false ↦ λ e. here k e h
    ] e
  where
    farther : ((k : ℕ) → seat_of agents session ≡ k → ((a : Agent) → slice_get agents k ≡ Some a → (a.session == session) ≡ false) → map agent_of (insert agents k (record { session = session; address = x; told = told })) ≡ named (map agent_of agents) session x) →
        (k : ℕ) → suc (seat_of agents session) ≡ k → ((a : Agent) → slice_get (b ∷ agents) k ≡ Some a → (a.session == session) ≡ false)
        → map agent_of (insert (b ∷ agents) k (record { session = session; address = x; told = told })) ≡ agent_of b ∷ named (map agent_of agents) session x
    farther again zero e h = absurd (omega (arith, e))
    farther again (suc k) e h = ap (at_front b) (again k (omega (arith, e)) h)

    here : (k : ℕ) → 0 ≡ k → ((a : Agent) → slice_get (b ∷ agents) k ≡ Some a → (a.session == session) ≡ false)
        → map agent_of (insert (b ∷ agents) k (record { session = session; address = x; told = told }))
        ≡ cond (b.session == session) (record (agent_of b) { address = x } ∷ map agent_of agents) (with_nothing session x ∷ agent_of b ∷ map agent_of agents)
    here (suc k) e h = absurd (omega (arith, e))
    here zero e h =
        ap (λ (m : Map). record { session = session; address = x; map = m } ∷ agent_of b ∷ map agent_of agents) (ap told_of t ∙ told-empty)
        ∙ ap (λ t. cond t (record (agent_of b) { address = x } ∷ map agent_of agents) (with_nothing session x ∷ agent_of b ∷ map agent_of agents)) (sym (h b refl))

pub told_there : (f : Map → Map) (agents : List Agent) (session k : ℕ) (a : Agent) (fs : List (UpKey × LabelNo)) → seat_of agents session ≡ k → slice_get agents k ≡ Some a → a.session ≡ session
    → told_of fs ≡ f (told_of a.told)
    → map agent_of (slice_set agents k (record a { told = fs })) ≡ at_session f (map agent_of agents) session
told_there f [] session k a fs e h s g = cc
told_there f (b ∷ agents) session k a fs e h s g =
    elim (nat_lt b.session session) as (λ t. cond t (suc (seat_of agents session)) 0 ≡ k
    → map agent_of (slice_set (b ∷ agents) k (record a { told = fs }))
    ≡ cond t (agent_of b ∷ at_session f (map agent_of agents) session) (cond (b.session == session) (record (agent_of b) { map = f (told_of b.told) } ∷ map agent_of agents) (agent_of b ∷ map agent_of agents))) [
      | true ↦ λ e. farther (λ k e h. told_there f agents session k a fs e h s g) k e h
      | false ↦ λ e. here k e h
    ] e
  where
    farther : ((k : ℕ) → seat_of agents session ≡ k → slice_get agents k ≡ Some a → map agent_of (slice_set agents k (record a { told = fs })) ≡ at_session f (map agent_of agents) session) →
        (k : ℕ) → suc (seat_of agents session) ≡ k → slice_get (b ∷ agents) k ≡ Some a
        → map agent_of (slice_set (b ∷ agents) k (record a { told = fs })) ≡ agent_of b ∷ at_session f (map agent_of agents) session
    farther again zero e h = absurd (omega (arith, e))
    farther again (suc k) e h = ap (at_front b) (again k (omega (arith, e)) h)

    here : (k : ℕ) → 0 ≡ k → slice_get (b ∷ agents) k ≡ Some a
        → map agent_of (slice_set (b ∷ agents) k (record a { told = fs }))
        ≡ cond (b.session == session) (record (agent_of b) { map = f (told_of b.told) } ∷ map agent_of agents) (agent_of b ∷ map agent_of agents)
    here (suc k) e h = absurd (omega (arith, e))
    here zero e h =
        let is = same_Some b a h in
        ap (λ (m : Map). record (agent_of a) { map = m } ∷ map agent_of agents) g
        ∙ ap (λ (c : Agent). record (agent_of c) { map = f (told_of c.told) } ∷ map agent_of agents) (sym is)
        ∙ ap (λ t. cond t (record (agent_of b) { map = f (told_of b.told) } ∷ map agent_of agents) (agent_of b ∷ map agent_of agents))
        (sym (eq-eqb b.session session (ap (λ (c : Agent). c.session) is ∙ s)))

-- where no agent has the session, nothing changes
pub told_nowhere : (f : Map → Map) (agents : List Agent) (session k : ℕ) → seat_of agents session ≡ k
    → ((a : Agent) → slice_get agents k ≡ Some a → (a.session == session) ≡ false)
    → map agent_of agents ≡ at_session f (map agent_of agents) session
told_nowhere f [] session k e h = refl
told_nowhere f (b ∷ agents) session k e h =
    elim (nat_lt b.session session) as (λ t. cond t (suc (seat_of agents session)) 0 ≡ k
    → map agent_of (b ∷ agents)
    ≡ cond t (agent_of b ∷ at_session f (map agent_of agents) session) (cond (b.session == session) (record (agent_of b) { map = f (told_of b.told) } ∷ map agent_of agents) (agent_of b ∷ map agent_of agents))) [
      | true ↦ λ e. farther (λ k e h. told_nowhere f agents session k e h) k e h
      | false ↦ λ e. here k e h
    ] e
  where
    farther : ((k : ℕ) → seat_of agents session ≡ k → ((a : Agent) → slice_get agents k ≡ Some a → (a.session == session) ≡ false) → map agent_of agents ≡ at_session f (map agent_of agents) session) →
        (k : ℕ) → suc (seat_of agents session) ≡ k → ((a : Agent) → slice_get (b ∷ agents) k ≡ Some a → (a.session == session) ≡ false)
        → map agent_of (b ∷ agents) ≡ agent_of b ∷ at_session f (map agent_of agents) session
    farther again zero e h = absurd (omega (arith, e))
    farther again (suc k) e h = ap (at_front b) (again k (omega (arith, e)) h)

    here : (k : ℕ) → 0 ≡ k → ((a : Agent) → slice_get (b ∷ agents) k ≡ Some a → (a.session == session) ≡ false)
        → map agent_of (b ∷ agents) ≡ cond (b.session == session) (record (agent_of b) { map = f (told_of b.told) } ∷ map agent_of agents) (agent_of b ∷ map agent_of agents)
    here (suc k) e h = absurd (omega (arith, e))
    here zero e h = ap (λ t. cond t (record (agent_of b) { map = f (told_of b.told) } ∷ map agent_of agents) (agent_of b ∷ map agent_of agents)) (sym (h b refl))

-- ---- by what is told of a seat
module _ (agents : List Agent) (session i : ℕ) (t : IsTaken agents session i) (a : Agent) (e : a ≡ get_or agents i a) where
  stands : slice_get agents i ≡ Some a
  stands = slice_get_read agents (length agents) i a refl (slice_get_within agents i t.agent t.stands) e

  session_is : a.session ≡ session
  session_is = ap (λ (b : Agent). b.session) (same_Some a t.agent (sym stands ∙ t.stands)) ∙ t.session_is

  pub named_taken : (x : Addr) → map agent_of (slice_set agents i (record a { address = x })) ≡ named (map agent_of agents) session x
  named_taken x = named_there agents session x i a t.seat stands session_is

  pub told_taken : (f : Map → Map) (fs : List (UpKey × LabelNo)) → told_of fs ≡ f (told_of a.told)
      → map agent_of (slice_set agents i (record a { told = fs })) ≡ at_session f (map agent_of agents) session
  told_taken f fs g = told_there f agents session i a fs t.seat stands session_is g
