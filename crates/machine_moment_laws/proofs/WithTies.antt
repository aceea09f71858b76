-- What holds of runs that keep their ties, with no word of ties, holds of the machine that refuses edits which break one.
use Rattle.std.specs.Prelude.{List, cond, false, is_some, true, ℕ, [], ◌∷◌, ◌≡◌}
use Rattle.std.specs.declared.option.Option.TheVariants.{None, Some}
use Rattle.std.specs.declared.option.Option.{Option}
use Rattle.std.proofs.Common.{ap, refl, subst, sym, ◌∙◌}
use Rattle.std.proofs.lemmas.Bool.{true≢false}
use Rattle.config_types.specs.declared.config.Config.{Config}
use Rattle.schedule_script.specs.Broken.{broken_tie}
use Rattle.schedule_script.specs.Ties.{Ties}
use Rattle.schedule_script.specs.declared.breaking.Tie.{Tie}
use Rattle.schedule_script.proofs.Broken.{broken_iff}
use Rattle.machine_model.specs.Events.{Break, Connect, Deliver, DeliverOctets, Edits, MachineEvent, Lose, Restart, Round, Settle, Show, Trace, next}
use Rattle.machine_model.specs.Moments.{EditIsValid, EditsAreValid}
use Rattle.machine_model.specs.Network.{MachineState, start}
use Rattle.machine_model.specs.Session.{Message}
use Rattle.machine_model.specs.Setup.{Name, checked}
use Rattle.machine_laws.specs.Headline.{IsOfForm}
use Rattle.machine_laws.specs.Refusing.{AtMomentsWithTies, TiedNetwork, breaks, kept_events, refuses, tied_start}
use Rattle.machine_laws.specs.Running.{AtMomentsOfRuns, EditKeeps, EditsKeep, configs, ties_next}
use Rattle.machine_laws.proofs.Edited.{edited_valid}
use Rattle.machine_laws.proofs.Refused.{keeps_what_is_not_refused}

no_tie : (o : Option Tie) → is_some o ≡ false → o ≡ None
no_tie None e = refl
no_tie (Some t) e = absurd (true≢false e)

-- an edit that is not refused breaks no tie
edit_keeps : (t : Ties) (w : MachineState) (e : MachineEvent) → refuses t w e ≡ false → EditIsValid IsOfForm w e → EditKeeps t w e
edit_keeps t w (Edits d) h v = λ y is. (v y is, ((broken_iff t (checked y) (edited_valid w.setup d y is)).0 (no_tie (broken_tie t (checked y)) (sym (ap (breaks t) is) ∙ h))).0)
edit_keeps t w (Deliver a b n) h v = tt
edit_keeps t w (DeliverOctets a b n) h v = tt
edit_keeps t w (Lose a b) h v = tt
edit_keeps t w (Connect a b) h v = tt
edit_keeps t w (Restart n) h v = tt
edit_keeps t w Round h v = tt
edit_keeps t w Settle h v = tt
edit_keeps t w (Show n) h v = tt
edit_keeps t w (Trace p) h v = tt
edit_keeps t w (Break a b n) h v = tt

module _ (size : Name → Message → ℕ) where
  abbrev stepped : TiedNetwork → MachineEvent → TiedNetwork
  stepped s e = record { ties = ties_next s.ties s.network e; network = next size s.network e }

  edits_keep : (s : TiedNetwork) (es : List MachineEvent) → EditsAreValid size IsOfForm s.network (kept_events size s es) → EditsKeep size s.ties s.network (kept_events size s es)
  edits_keep s [] v = tt
  edits_keep s (e ∷ es) v =
      elim (refuses s.ties s.network e) as (λ b. refuses s.ties s.network e ≡ b → EditsAreValid size IsOfForm s.network (cond b (kept_events size s es) (e ∷ kept_events size (stepped s e) es)) → EditsKeep size s.ties s.network (cond b (kept_events size s es) (e ∷ kept_events size (stepped s e) es))) [
        | true ↦ λ is v. edits_keep s es v
        | false ↦ λ is v. (edit_keeps s.ties s.network e is v.0, edits_keep (stepped s e) es v.1)
      ] refl v

pub with_ties : (P : List Config → MachineState → Type 0) → AtMomentsOfRuns (λ t cs w. P cs w) → AtMomentsWithTies (λ t cs w. P cs w)
with_ties P h size positive x written es valid =
    let s = tied_start x in
    let kept = kept_events size s es in
    subst (λ (w : MachineState). P (configs size (start x) kept) w) (sym (keeps_what_is_not_refused size s es))
    (h size positive x written kept (edits_keep size s es valid))
