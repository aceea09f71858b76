-- Which sends a break makes fail.
use Rattle.std.specs.Prelude.{◌≡◌, ◌⊎◌, ◌↔◌, ℕ, ◌≤◌, List, [], ◌∷◌, ◌++◌, length, Bool, true, false, cond, ◌==◌, if◌then◌else◌}
use Rattle.std.proofs.lemmas.Bool.{eqb-true}
use Rattle.std.proofs.Common.{refl, sym, subst, inl, inr}
use Rattle.ov_link.specs.Breaks.{is_break, with_break}
use Rattle.node_laws.specs.NodeModel.Members.{Member}
use Rattle.node_laws.proofs.NodeModel.Members.{in_left, in_right, in_either, from_any}
use Rattle.machine_model.specs.Session.{Message, Session, counted, left, meets_break, shut, told, with_breaks}
use Rattle.machine_model.specs.Events.{add_break}
use Rattle.machine_model.specs.Deeds.{MeetsOne}
use Rattle.machine_model.proofs.Deeds.{told_meets}

stands_there : (n : ℕ) (breaks : List ℕ) → is_break breaks n ≡ true → Member n breaks
stands_there n breaks e =
    let q = from_any (λ m. m == n) breaks e in
    let is : q.0 ≡ n = eqb-true q.0 n q.2 in
    subst (λ k. Member k breaks) is q.1

stands_then : (n : ℕ) (breaks : List ℕ) → Member n (with_break n breaks)
stands_then n breaks =
    elim (is_break breaks n) as (λ b. is_break breaks n ≡ b → Member n (if b then breaks else breaks ++ n ∷ [])) [
      | true ↦ λ e. stands_there n breaks e
      | false ↦ λ _. in_right n breaks (n ∷ []) (inl refl)
    ] refl

stands_still : (m n : ℕ) (breaks : List ℕ) → Member m breaks → Member m (with_break n breaks)
stands_still m n breaks h =
    elim (is_break breaks n) as (λ b. Member m (if b then breaks else breaks ++ n ∷ [])) [
      | true ↦ h
      | false ↦ in_left m breaks (n ∷ []) h
    ]

added : (m n : ℕ) → Member m (n ∷ []) → n ≡ m
added m n (inl e) = e
added m n (inr h) = absurd h

stood : (m n : ℕ) (breaks : List ℕ) → Member m (with_break n breaks) → Member m breaks ⊎ (n ≡ m)
stood m n breaks h =
    elim (is_break breaks n) as (λ b. Member m (if b then breaks else breaks ++ n ∷ []) → Member m breaks ⊎ (n ≡ m)) [
      | true ↦ λ h. inl h
      | false ↦ λ h. elim (in_either m breaks (n ∷ []) h) as (λ _. Member m breaks ⊎ (n ≡ m)) [
        | inl there ↦ inl there
        | inr last ↦ inr (added m n last)
      ]
    ] h

meets_with : (n k : ℕ) (breaks : List ℕ) → MeetsOne k (with_break n breaks) → (n ≤ k) ⊎ MeetsOne k breaks
meets_with n k breaks m =
    elim (stood m.number n breaks m.pending) as (λ _. (n ≤ k) ⊎ MeetsOne k breaks) [
      | inl there ↦ inr (record { number = m.number; pending = there; comes = m.comes; within = m.within })
      | inr is ↦ inl (subst (λ j. j ≤ k) (sym is) m.within)
    ]

with_meets : (n k : ℕ) (breaks : List ℕ) → 1 ≤ n → (n ≤ k) ⊎ MeetsOne k breaks → MeetsOne k (with_break n breaks)
with_meets n k breaks least (inl within) =
    record { number = n; pending = stands_then n breaks; comes = least; within = within }
with_meets n k breaks least (inr m) =
    record { number = m.number; pending = stands_still m.number n breaks m.pending; comes = m.comes; within = m.within }

pub fails_from_then : (n : ℕ) (ms : List Message) (s : Session) → s.is_down ≡ false → 1 ≤ n
    → ((told ms (add_break n s)).is_down ≡ true) ↔ ((n ≤ length ms) ⊎ ((told ms s).is_down ≡ true))
fails_from_then n ms s whole least =
    let after = told_meets ms (add_break n s) whole in
    let before = told_meets ms s whole in (
      (λ d. elim (meets_with n (length ms) s.near.breaks (after.0 d)) as (λ _. (n ≤ length ms) ⊎ ((told ms s).is_down ≡ true)) [
        | inl within ↦ inl within
        | inr m ↦ inr (before.1 m)
      ]),
      (λ h. after.1 (with_meets n (length ms) s.near.breaks least (elim h as (λ _. (n ≤ length ms) ⊎ MeetsOne (length ms) s.near.breaks) [
        | inl within ↦ inl within
        | inr d ↦ inr (before.0 d)
      ]))),
    )

left_breaks : (d : Bool) (m : Message) (b : List ℕ) (s : Session) → (cond d (with_breaks b s) (record (with_breaks b s) { near = record (with_breaks b s).near { flight = s.near.flight ++ m ∷ [] } })).near.breaks ≡ b
left_breaks true m b s = refl
left_breaks false m b s = refl

pub each_counts : (m : Message) (s : Session) → (told (m ∷ []) s).near.breaks ≡ counted s.near.breaks
unfolding told
each_counts m s =
    elim (meets_break s.near.breaks) as (λ b. (cond b (shut (with_breaks (counted s.near.breaks) s)) (told [] (left m (with_breaks (counted s.near.breaks) s)))).near.breaks ≡ counted s.near.breaks) [
      | true ↦ refl
      | false ↦ left_breaks s.is_down m (counted s.near.breaks) s
    ]

pub no_more : (n : ℕ) (s : Session) → with_breaks s.near.breaks (add_break n s) ≡ s
no_more n s = refl
