-- The machine that keeps ties is that without them over the events that it keeps.
use Rattle.std.specs.Prelude.{List, cond, false, is_some, true, ℕ, [], ◌++◌, ◌∷◌, ◌≡◌}
use Rattle.std.specs.declared.option.Option.TheVariants.{None, Some}
use Rattle.std.specs.declared.option.Option.{Option}
use Rattle.std.proofs.Common.{ap, refl, subst, sym, ◌∙◌}
use Rattle.std.proofs.lemmas.Bool.{true≢false}
use Rattle.config_types.specs.declared.config.Config.{Config}
use Rattle.machine_model.specs.Events.{Break, Connect, Deliver, DeliverOctets, Edits, MachineEvent, Lose, Restart, Round, Settle, Show, Trace, after, next}
use Rattle.machine_model.specs.Network.{MachineState, start}
use Rattle.machine_model.specs.Session.{Message}
use Rattle.machine_model.specs.Setup.{Name, checked}
use Rattle.machine_model.specs.Moments.{EditIsValid, EditsAreValid}
use Rattle.machine_laws.specs.Headline.{IsOfForm}
use Rattle.schedule_script.specs.declared.breaking.Tie.{Tie}
use Rattle.schedule_script.specs.Broken.{broken_tie}
use Rattle.schedule_script.specs.Ties.{Ties}
use Rattle.schedule_script.proofs.Broken.{broken_iff}
use Rattle.machine_laws.specs.Running.{AtMomentsOfRuns, EditKeeps, EditsKeep, IsIsolated, configs, ties_after, ties_next}
use Rattle.machine_laws.specs.Stood.{DeliversToThoseJoined, IsStayingAmong}
use Rattle.machine_laws.specs.Refusing.{AtMomentsWithTies, GoesOn, KeepsWhatIsNotRefused, TiedNetwork, after_tied, breaks, kept_events, next_tied, refuses, tied_start}
use Rattle.machine_laws.proofs.Come.{joined_so_far, stays_among}
use Rattle.machine_laws.proofs.Edited.{edited_valid}
use Rattle.machine_laws.proofs.Runs.{runs_isolate}

no_tie : (o : Option Tie) → is_some o ≡ false → o ≡ None
no_tie None e = refl
no_tie (Some t) e = absurd (true≢false e)

module _ (size : Name → Message → ℕ) where
  abbrev stepped : TiedNetwork → MachineEvent → TiedNetwork
  stepped s e = record { ties = ties_next s.ties s.network e; network = next size s.network e }

  same_network : (s : TiedNetwork) (es : List MachineEvent) → (after_tied size s es).network ≡ after size s.network (kept_events size s es)
  same_network s [] = refl
  same_network s (e ∷ es) =
      elim (refuses s.ties s.network e) as (λ b. (after_tied size (cond b s (stepped s e)) es).network ≡ after size s.network (cond b (kept_events size s es) (e ∷ kept_events size (stepped s e) es))) [
        | true ↦ same_network s es
        | false ↦ same_network (stepped s e) es
      ]

  same_ties : (s : TiedNetwork) (es : List MachineEvent) → (after_tied size s es).ties ≡ ties_after size s.ties s.network (kept_events size s es)
  same_ties s [] = refl
  same_ties s (e ∷ es) =
      elim (refuses s.ties s.network e) as (λ b. (after_tied size (cond b s (stepped s e)) es).ties ≡ ties_after size s.ties s.network (cond b (kept_events size s es) (e ∷ kept_events size (stepped s e) es))) [
        | true ↦ same_ties s es
        | false ↦ same_ties (stepped s e) es
      ]

  -- an edit that is not refused breaks no tie
  edit_keeps : (t : Ties) (w : MachineState) (e : MachineEvent) → refuses t w e ≡ false → EditIsValid IsOfForm w e → EditKeeps t w e
  edit_keeps t w (Edits d) h v = λ y is. (v y is, ((broken_iff t (checked y) (edited_valid w.setup d y is)).0 (no_tie (broken_tie t (checked y)) (sym (ap (breaks t) is) ∙ h))).0)
  edit_keeps t w (Deliver a b n) h v = tt
  edit_keeps t w (DeliverOctets a b n) h v = tt
  edit_keeps t w (Lose a b) h v = tt
  edit_keeps t w (Connect a b) h v = tt
  edit_keeps t w (Restart n) h v = tt
  edit_keeps t w Round h v = tt
  edit_keeps t w Settle h v = tt
  edit_keeps t w (Show n) h v = tt
  edit_keeps t w (Trace p) h v = tt
  edit_keeps t w (Break a b n) h v = tt

  edits_keep : (s : TiedNetwork) (es : List MachineEvent) → EditsAreValid size IsOfForm s.network (kept_events size s es) → EditsKeep size s.ties s.network (kept_events size s es)
  edits_keep s [] v = tt
  edits_keep s (e ∷ es) v =
      elim (refuses s.ties s.network e) as (λ b. refuses s.ties s.network e ≡ b → EditsAreValid size IsOfForm s.network (cond b (kept_events size s es) (e ∷ kept_events size (stepped s e) es)) → EditsKeep size s.ties s.network (cond b (kept_events size s es) (e ∷ kept_events size (stepped s e) es))) [
        | true ↦ λ is v. edits_keep s es v
        | false ↦ λ is v. (edit_keeps s.ties s.network e is v.0, edits_keep (stepped s e) es v.1)
      ] refl v

-- ---- an event more
one_more : (size : Name → Message → ℕ) (s : TiedNetwork) (es : List MachineEvent) (e : MachineEvent) → after_tied size s (es ++ e ∷ []) ≡ next_tied size (after_tied size s es) e
one_more size s [] e = refl
one_more size s (d ∷ es) e = one_more size (next_tied size s d) es e

abbrev kept_of : TiedNetwork → MachineEvent → List MachineEvent
kept_of s e = cond (refuses s.ties s.network e) [] (e ∷ [])

one_kept : (size : Name → Message → ℕ) (s : TiedNetwork) (es : List MachineEvent) (e : MachineEvent) → kept_events size s (es ++ e ∷ []) ≡ kept_events size s es ++ kept_of (after_tied size s es) e
one_kept size s [] e = elim (refuses s.ties s.network e) as (λ b. cond b [] (e ∷ []) ≡ cond b [] (e ∷ [])) [ true ↦ refl | false ↦ refl ]
one_kept size s (d ∷ es) e =
    elim (refuses s.ties s.network d) as (λ b. cond b (kept_events size s (es ++ e ∷ [])) (d ∷ kept_events size (stepped size s d) (es ++ e ∷ []))
    ≡ cond b (kept_events size s es) (d ∷ kept_events size (stepped size s d) es) ++ kept_of (after_tied size (cond b s (stepped size s d)) es) e) [
      | true ↦ one_kept size s es e
      | false ↦ ap (λ (es : List MachineEvent). d ∷ es) (one_kept size (stepped size s d) es e)
    ]

pub goes_on : GoesOn
goes_on size s es e = (one_more size s es e, one_kept size s es e)

pub keeps_what_is_not_refused : KeepsWhatIsNotRefused
keeps_what_is_not_refused size s es = same_network size s es

-- what holds of runs that keep their ties holds of this machine
of_runs : (P : Ties → List Config → MachineState → Type 0) → AtMomentsOfRuns P → AtMomentsWithTies P
of_runs P h size positive x written es valid =
    let s = tied_start x in
    let kept = kept_events size s es in
    subst (λ (t : Ties). P t (configs size (start x) kept) (after_tied size s es).network) (sym (same_ties size s es))
    (subst (λ (w : MachineState). P (ties_after size s.ties (start x) kept) (configs size (start x) kept) w) (sym (same_network size s es))
    (h size positive x written kept (edits_keep size s es valid)))

pub isolated_with_ties : AtMomentsWithTies DeliversToThoseJoined
isolated_with_ties = of_runs DeliversToThoseJoined joined_so_far

pub joined_with_ties : AtMomentsWithTies IsIsolated
joined_with_ties = of_runs IsIsolated runs_isolate

pub among_with_ties : AtMomentsWithTies IsStayingAmong
among_with_ties = of_runs IsStayingAmong stays_among
