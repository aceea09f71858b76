-- Ties only grow, so that each configuration of a run is as the last ties have it.
use Rattle.std.specs.Prelude.{List, ℕ, [], ◌∷◌, ◌≡◌}
use Rattle.std.specs.declared.option.Option.TheVariants.{None, Some}
use Rattle.std.specs.declared.option.Option.{Option}
use Rattle.std.proofs.Common.{ap, inl, inr, refl, subst, ◌∙◌}
use Rattle.config_types.specs.declared.config.Config.{Config}
use Rattle.config_types.specs.declared.edit.Edit.{Edit}
use Rattle.schedule_script.specs.ConfigCheck.Checked.{Checked}
use Rattle.schedule_script.proofs.ConfigCheck.Validity.{valid_iff}
use Rattle.schedule_script.specs.Ties.{BreaksNone, Grows, IsTiedBy, Ties}
use Rattle.schedule_script.specs.Tying.{joined, no_ties, ties_of}
use Rattle.schedule_script.proofs.Growing.{breaks_nothing, grows_itself, grows_on, joined_grows, joined_tied, tied_grows}
use Rattle.node_laws.specs.NodeModel.Members.{Member}
use Rattle.machine_model.specs.Events.{Break, Connect, Deliver, DeliverOctets, Edits, MachineEvent, Lose, Restart, Round, Settle, Show, Trace, next}
use Rattle.machine_model.specs.Moments.{Each, EditIsValid, EditsAreValid}
use Rattle.machine_model.specs.Network.{MachineState, sessions_of, start, views_of}
use Rattle.machine_model.specs.Session.{Message, Session}
use Rattle.machine_model.specs.Setup.{Name, Setup, checked, edited, opening}
use Rattle.machine_model.proofs.Start.{start_each}
use Rattle.node_laws.specs.NodeModel.Maps.{Map}
use Rattle.machine_laws.specs.Settling.{Fair, FairMap, WantsFair}
use Rattle.machine_laws.proofs.EachFact.{Keeps, after_keeps, edits_valid}
use Rattle.machine_laws.proofs.FairFact.{fair_keeps}
use Rattle.machine_laws.specs.Headline.{IsOfForm, IsWritten}
use Rattle.machine_laws.proofs.Written.{anything, each_anything}
use Rattle.machine_laws.specs.TiedMoments.{KeepsTies}
use Rattle.machine_laws.specs.Running.{AtMomentsOfRuns, EditKeeps, EditsKeep, HasAllTies, IsIsolated, configs, ties_after, ties_next, ties_with}
use Rattle.machine_laws.proofs.Edited.{written_edit}
use Rattle.machine_laws.proofs.Walk.{isolates}

-- ---- a schedule
next_grows : (t : Ties) (w : MachineState) (e : MachineEvent) → Grows t (ties_next t w e)
next_grows t w (Edits d) = by_edit (edited w.setup d)
  where
    by_edit : (o : Option Setup) → Grows t (ties_with o t)
    by_edit None = grows_itself t
    by_edit (Some y) = joined_grows t (checked y)
next_grows t w (Deliver a b n) = grows_itself t
next_grows t w (DeliverOctets a b n) = grows_itself t
next_grows t w (Lose a b) = grows_itself t
next_grows t w (Connect a b) = grows_itself t
next_grows t w (Restart n) = grows_itself t
next_grows t w Round = grows_itself t
next_grows t w Settle = grows_itself t
next_grows t w (Show n) = grows_itself t
next_grows t w (Trace p) = grows_itself t
next_grows t w (Break a b n) = grows_itself t

after_grows : (size : Name → Message → ℕ) (t : Ties) (w : MachineState) (es : List MachineEvent) → Grows t (ties_after size t w es)
after_grows size t w [] = grows_itself t
after_grows size t w (e ∷ es) = grows_on t (ties_next t w e) (ties_after size (ties_next t w e) (next size w e) es) (next_grows t w e) (after_grows size (ties_next t w e) (next size w e) es)

anything_wants : (Valid : Setup → Type 0) → WantsFair anything Valid
anything_wants Valid x ss n w f = each_anything x (views_of n ss) (sessions_of n ss)

abbrev MayTell : Session → Map → Type 0
MayTell s m = FairMap anything (s.near.name, s.near.role) (s.far.name, s.far.role) m

module _ (size : Name → Message → ℕ) where
  keeps : (Valid : Setup → Type 0) → Keeps size Valid (Fair anything) MayTell
  keeps Valid = fair_keeps anything size Valid (anything_wants Valid)

  edit_by : (Valid : Setup → Type 0) (t : Ties) (w : MachineState) (e : MachineEvent) → EditKeeps t w e → ((d : Edit) (y : Setup) → e ≡ Edits d → edited w.setup d ≡ Some y → IsOfForm y → BreaksNone t y.config → Valid y) → EditIsValid Valid w e
  edit_by Valid t w (Edits d) k h = λ y is. h d y refl is (k y is).0 (k y is).1
  edit_by Valid t w (Deliver a b n) k h = tt
  edit_by Valid t w (DeliverOctets a b n) k h = tt
  edit_by Valid t w (Lose a b) k h = tt
  edit_by Valid t w (Connect a b) k h = tt
  edit_by Valid t w (Restart n) k h = tt
  edit_by Valid t w Round k h = tt
  edit_by Valid t w Settle k h = tt
  edit_by Valid t w (Show n) k h = tt
  edit_by Valid t w (Trace p) k h = tt
  edit_by Valid t w (Break a b n) k h = tt

  -- each configuration of a schedule is as ties have it that the last ones grow to
  all_keep : (last : Ties) (t : Ties) (w : MachineState) (es : List MachineEvent) → IsWritten w.setup × Each (Fair anything) w.sessions → EditsKeep size t w es → Grows (ties_after size t w es) last → EditsAreValid size (KeepsTies last) w es
  all_keep last t w [] h k g = tt
  all_keep last t w (e ∷ es) h k g =
      let after_it = ties_next t w e in
      let grown : Grows after_it last = grows_on after_it (ties_after size after_it (next size w e) es) last (after_grows size after_it (next size w e) es) g in (
        edit_by (KeepsTies last) t w e k.0 (λ d y at is form breaks.
            let valid = (valid_iff y.topology y.config).0 (written_edit w.setup d y is form).valid in
            let here : ties_next t w e ≡ joined t (checked y) = ap (ties_next t w) at ∙ ap (λ (o : Option Setup). ties_with o t) is in
            (form, tied_grows (joined t (checked y)) last y.config (subst (λ (s : Ties). Grows s last) here grown) (joined_tied t (checked y) valid breaks))),
        all_keep last after_it (next size w e) es
            (after_keeps size IsWritten (Fair anything) MayTell (keeps IsWritten) w (e ∷ []) (edit_by IsWritten t w e k.0 (λ d y at is form breaks. written_edit w.setup d y is form), tt) h) k.1 g,
      )

  abbrev HeldBy : Ties → Setup → Type 0
  HeldBy last y = IsTiedBy last y.config

  all_as_tied : (last : Ties) (w : MachineState) (es : List MachineEvent) → HeldBy last w.setup × Each (Fair anything) w.sessions → EditsAreValid size (KeepsTies last) w es → (c : Config) → Member c (configs size w es) → IsTiedBy last c
  all_as_tied last w [] h v c m = elim m as (λ _. IsTiedBy last c) [ inl e ↦ subst (IsTiedBy last) e h.0 | inr n ↦ absurd n ]
  all_as_tied last w (e ∷ es) h v c m =
      elim m as (λ _. IsTiedBy last c) [
        | inl e ↦ subst (IsTiedBy last) e h.0
        | inr later ↦ all_as_tied last (next size w e) es (after_keeps size (HeldBy last) (Fair anything) MayTell (keeps (HeldBy last)) w (e ∷ []) (edits_valid size (KeepsTies last) (HeldBy last) (λ y k. k.1) w (e ∷ []) (v.0, tt)) h) v.1 c later
      ]

  start_fair : (x : Checked) → Each (Fair anything) (start x).sessions
  start_fair x = start_each (Fair anything) (λ n m r q. record { near_held = λ k v e. tt; far_held = λ k v e. tt; near_flight = tt; far_flight = tt }) x

module _ (size : Name → Message → ℕ) (x : Checked) (written : IsWritten (opening x)) (es : List MachineEvent) where
  abbrev first : Ties
  first = ties_of x

  abbrev last : Ties
  last = ties_after size first (start x) es

  opening_tied : IsTiedBy last x.config
  opening_tied =
      tied_grows first last x.config (after_grows size first (start x) es)
      (joined_tied no_ties x ((valid_iff x.topology x.config).0 written.valid) (breaks_nothing x.config))

  kept_by_last : EditsKeep size first (start x) es → EditsAreValid size (KeepsTies last) (start x) es
  kept_by_last keep = all_keep size last first (start x) es (written, start_fair size x) keep (grows_itself last)

pub runs_isolate : AtMomentsOfRuns IsIsolated
runs_isolate size positive x written es keep = isolates size positive (last size x written es) x written (opening_tied size x written es) es (kept_by_last size x written es keep)

pub all_are_tied : AtMomentsOfRuns HasAllTies
all_are_tied size positive x written es keep c m = all_as_tied size (last size x written es) (start x) es (opening_tied size x written es, start_fair size x) (kept_by_last size x written es keep) c m
