-- At every moment of a window: what is said is held, and the setup is one of the window.
use Rattle.std.specs.Prelude.{List, map, ℕ, [], ◌∷◌, ◌≡◌}
use Rattle.std.specs.List.{AllByRecursion}
use Rattle.std.specs.declared.option.Option.TheVariants.{None, Some}
use Rattle.std.specs.declared.option.Option.{Option}
use Rattle.std.proofs.Common.{ap, inl, inr, refl, subst, sym, ◌∙◌}
use Rattle.config_types.specs.declared.edit.Edit.{Edit}
use Rattle.schedule_script.specs.ConfigCheck.Checked.{Checked}
use Rattle.node_laws.specs.NodeModel.Members.{Member}
use Rattle.node_laws.proofs.NodeModel.Members.{in_either}
use Rattle.machine_model.specs.Events.{Break, Connect, Deliver, DeliverOctets, Edits, Lose, MachineEvent, Restart, Round, Settle, Show, Trace, after, edits, next}
use Rattle.machine_model.specs.Moments.{ArePositive, Each, EditIsValid, EditsAreValid, LaidOut, nodes}
use Rattle.machine_model.specs.Network.{MachineState, start}
use Rattle.machine_model.specs.Session.{Message}
use Rattle.machine_model.specs.Setup.{Name, Setup, checked, edited, moves, opening}
use Rattle.machine_model.proofs.Asking.{sessions_are_asked}
use Rattle.machine_model.proofs.Listed.{moved_setup}
use Rattle.machine_model.proofs.NetworkFact.{after_sound}
use Rattle.machine_model.proofs.NodesFact.{HasSetup, setup_steps}
use Rattle.machine_model.proofs.Numbered.{AllFit, fits_edited, start_fits}
use Rattle.machine_model.proofs.Start.{start_sound}
use Rattle.machine_model.proofs.Walk.{next_walk}
use Rattle.machine_laws.specs.Headline.{IsOfForm, IsWritten}
use Rattle.machine_laws.specs.Setups.{IsSoundSetup}
use Rattle.machine_laws.proofs.EachFact.{edits_valid}
use Rattle.machine_laws.proofs.Edited.{written_edit}
use Rattle.machine_laws.proofs.Final.{laid_out}
use Rattle.machine_laws.proofs.Written.{all_sound, sound_setup}
use Rattle.machine_moment_laws.specs.Windows.{IsBeginning, IsOfWindow, led_by, led_to, led_to_by}
use Rattle.machine_moment_laws.proofs.Beginning.{edits_among, first_apart, first_rests, first_written}
use Rattle.machine_moment_laws.proofs.Course.{window_keeps}
use Rattle.machine_moment_laws.proofs.Here.{Here, IsAsked, lasts}
use Rattle.machine_moment_laws.proofs.CommonLasting.{IsKept, Tells, all_quiet, begins_kept, keeps}
use Rattle.machine_moment_laws.proofs.OfSome.{all_still, begins_of_some}

-- ---- every configuration of a window is valid
module _ (size : Name → Message → ℕ) where
  setup_stays : (w : MachineState) (e : MachineEvent) → ((d : Edit) → e ≡ Edits d → ⊥) → (next size w e).setup ≡ w.setup
  setup_stays w e none = next_walk size (HasSetup w.setup) (setup_steps size w.setup) w e (λ d is _. absurd (none d is)) refl

  setup_edited : (w : MachineState) (d : Edit) (o : Option Setup) → edited w.setup d ≡ o → (next size w (Edits d)).setup ≡ elim o [ Some y ↦ y | None ↦ w.setup ]
  unfolding next
  setup_edited w d None is = ap (λ (o : Option Setup). (edits (moves d w.setup.topology) o w).setup) is
  setup_edited w d (Some y) is =
      ap (λ (o : Option Setup). (edits (moves d w.setup.topology) o w).setup) is
      ∙ moved_setup (moves d w.setup.topology) (record { setup = y; sessions = w.sessions })

  next_written : (w : MachineState) (e : MachineEvent) → EditIsValid IsOfForm w e → IsWritten w.setup → IsWritten (next size w e).setup
  next_written w (Edits d) ok h = by (edited w.setup d) refl
    where
      by : (o : Option Setup) → edited w.setup d ≡ o → IsWritten (next size w (Edits d)).setup
      by None is = subst IsWritten (sym (setup_edited w d None is)) h
      by (Some y) is = subst IsWritten (sym (setup_edited w d (Some y) is)) (written_edit w.setup d y is (ok y is))
  next_written w (Deliver a b n) ok h = subst IsWritten (sym (setup_stays w (Deliver a b n) (λ d e. cc))) h
  next_written w (DeliverOctets a b n) ok h = subst IsWritten (sym (setup_stays w (DeliverOctets a b n) (λ d e. cc))) h
  next_written w (Lose a b) ok h = subst IsWritten (sym (setup_stays w (Lose a b) (λ d e. cc))) h
  next_written w (Connect a b) ok h = subst IsWritten (sym (setup_stays w (Connect a b) (λ d e. cc))) h
  next_written w (Restart n) ok h = subst IsWritten (sym (setup_stays w (Restart n) (λ d e. cc))) h
  next_written w Round ok h = subst IsWritten (sym (setup_stays w Round (λ d e. cc))) h
  next_written w Settle ok h = subst IsWritten (sym (setup_stays w Settle (λ d e. cc))) h
  next_written w (Show n) ok h = subst IsWritten (sym (setup_stays w (Show n) (λ d e. cc))) h
  next_written w (Trace p) ok h = subst IsWritten (sym (setup_stays w (Trace p) (λ d e. cc))) h
  next_written w (Break a b n) ok h = subst IsWritten (sym (setup_stays w (Break a b n) (λ d e. cc))) h

  led_written : (w : MachineState) (e : MachineEvent) → EditIsValid IsOfForm w e → (c : Checked) → Member c (led_to_by w e) → IsWritten (opening c)
  led_written w (Edits d) ok c m = by (edited w.setup d) refl m
    where
      as_opening : (y : Setup) → IsWritten y → IsWritten (opening (checked y))
      as_opening y h = record { topology = h.topology; config = h.config; valid = h.valid }

      by : (o : Option Setup) → edited w.setup d ≡ o → Member c (led_by o) → IsWritten (opening c)
      by None is m = absurd m
      by (Some y) is m = elim m as (λ _. IsWritten (opening c)) [ inl e ↦ subst (λ (c : Checked). IsWritten (opening c)) e (as_opening y (written_edit w.setup d y is (ok y is))) | inr n ↦ absurd n ]
  led_written w (Deliver a b n) ok c m = absurd m
  led_written w (DeliverOctets a b n) ok c m = absurd m
  led_written w (Lose a b) ok c m = absurd m
  led_written w (Connect a b) ok c m = absurd m
  led_written w (Restart n) ok c m = absurd m
  led_written w Round ok c m = absurd m
  led_written w Settle ok c m = absurd m
  led_written w (Show n) ok c m = absurd m
  led_written w (Trace p) ok c m = absurd m
  led_written w (Break a b n) ok c m = absurd m

  pub all_written : (w : MachineState) (es : List MachineEvent) → EditsAreValid size IsOfForm w es → IsWritten w.setup → (c : Checked) → Member c (led_to size w es) → IsWritten (opening c)
  all_written w [] ok h c m = absurd m
  all_written w (e ∷ es) ok h c m =
      elim (in_either c (led_to_by w e) (led_to size (next size w e) es) m) as (λ _. IsWritten (opening c)) [
        | inl l ↦ led_written w e ok.0 c l
        | inr r ↦ all_written (next size w e) es ok.1 (next_written w e ok.0 h) c r
      ]

-- both of two senses of valid
edit_both : (P Q : Setup → Type 0) (w : MachineState) (e : MachineEvent) → EditIsValid P w e → EditIsValid Q w e → EditIsValid (λ y. P y × Q y) w e
edit_both P Q w (Edits d) p q = λ y is. (p y is, q y is)
edit_both P Q w (Deliver a b n) p q = tt
edit_both P Q w (DeliverOctets a b n) p q = tt
edit_both P Q w (Lose a b) p q = tt
edit_both P Q w (Connect a b) p q = tt
edit_both P Q w (Restart n) p q = tt
edit_both P Q w Round p q = tt
edit_both P Q w Settle p q = tt
edit_both P Q w (Show n) p q = tt
edit_both P Q w (Trace p) q r = tt
edit_both P Q w (Break a b n) p q = tt

pub edits_both : (size : Name → Message → ℕ) (P Q : Setup → Type 0) (w : MachineState) (es : List MachineEvent) → EditsAreValid size P w es → EditsAreValid size Q w es → EditsAreValid size (λ y. P y × Q y) w es
edits_both size P Q w [] p q = tt
edits_both size P Q w (e ∷ es) p q = (edit_both P Q w e p.0 q.0, edits_both size P Q (next size w e) es p.1 q.1)

-- the numbers of a schedule's setups fit
numbers_after : (size : Name → Message → ℕ) (w : MachineState) (e : MachineEvent) → EditIsValid LaidOut w e → LaidOut w.setup → AllFit w.setup → LaidOut (next size w e).setup × AllFit (next size w e).setup
numbers_after size w (Edits d) ok l h = by (edited w.setup d) refl
  where
    by : (o : Option Setup) → edited w.setup d ≡ o → LaidOut (next size w (Edits d)).setup × AllFit (next size w (Edits d)).setup
    by None is = subst (λ (x : Setup). LaidOut x × AllFit x) (sym (setup_edited size w d None is)) (l, h)
    by (Some y) is = subst (λ (x : Setup). LaidOut x × AllFit x) (sym (setup_edited size w d (Some y) is)) (ok y is, fits_edited w.setup d y is l h)
numbers_after size w (Deliver a b n) ok l h = subst (λ (x : Setup). LaidOut x × AllFit x) (sym (setup_stays size w (Deliver a b n) (λ d e. cc))) (l, h)
numbers_after size w (DeliverOctets a b n) ok l h = subst (λ (x : Setup). LaidOut x × AllFit x) (sym (setup_stays size w (DeliverOctets a b n) (λ d e. cc))) (l, h)
numbers_after size w (Lose a b) ok l h = subst (λ (x : Setup). LaidOut x × AllFit x) (sym (setup_stays size w (Lose a b) (λ d e. cc))) (l, h)
numbers_after size w (Connect a b) ok l h = subst (λ (x : Setup). LaidOut x × AllFit x) (sym (setup_stays size w (Connect a b) (λ d e. cc))) (l, h)
numbers_after size w (Restart n) ok l h = subst (λ (x : Setup). LaidOut x × AllFit x) (sym (setup_stays size w (Restart n) (λ d e. cc))) (l, h)
numbers_after size w Round ok l h = subst (λ (x : Setup). LaidOut x × AllFit x) (sym (setup_stays size w Round (λ d e. cc))) (l, h)
numbers_after size w Settle ok l h = subst (λ (x : Setup). LaidOut x × AllFit x) (sym (setup_stays size w Settle (λ d e. cc))) (l, h)
numbers_after size w (Show n) ok l h = subst (λ (x : Setup). LaidOut x × AllFit x) (sym (setup_stays size w (Show n) (λ d e. cc))) (l, h)
numbers_after size w (Trace p) ok l h = subst (λ (x : Setup). LaidOut x × AllFit x) (sym (setup_stays size w (Trace p) (λ d e. cc))) (l, h)
numbers_after size w (Break a b n) ok l h = subst (λ (x : Setup). LaidOut x × AllFit x) (sym (setup_stays size w (Break a b n) (λ d e. cc))) (l, h)

pub all_fit : (size : Name → Message → ℕ) (w : MachineState) (es : List MachineEvent) → EditsAreValid size LaidOut w es → LaidOut w.setup → AllFit w.setup → AllFit (after size w es).setup
all_fit size w [] ok l h = h
all_fit size w (e ∷ es) ok l h = let q = numbers_after size w e ok.0 l h in all_fit size (next size w e) es ok.1 q.0 q.1

module _ (size : Name → Message → ℕ) (positive : ArePositive size) (x : Checked) (written : IsWritten (opening x)) (before : List MachineEvent) (asked_before : EditsAreValid size IsOfForm (start x) before) (begins : IsBeginning (after size (start x) before)) (es : List MachineEvent) (window : AllByRecursion IsOfWindow es) (form : EditsAreValid size IsOfForm (after size (start x) before) es) where
  abbrev pub began : MachineState
  began = after size (start x) before

  abbrev pub now : MachineState
  now = after size began es

  abbrev pub first_one : Checked
  first_one = checked began.setup

  abbrev pub others : List Checked
  others = led_to size began es

  abbrev pub cs : List Checked
  cs = first_one ∷ others

  began_written : IsWritten began.setup
  began_written = first_written size positive x written before asked_before

  pub all_are_written : (c : Checked) → Member c cs → IsWritten (opening c)
  all_are_written c (inl e) = subst (λ (c : Checked). IsWritten (opening c)) e (record { topology = began_written.topology; config = began_written.config; valid = began_written.valid })
  all_are_written c (inr m) = all_written size began es form began_written c m

  all_laid : EditsAreValid size LaidOut (start x) before
  all_laid = edits_valid size IsSoundSetup LaidOut laid_out (start x) before (all_sound size positive x written before asked_before)

  opening_laid : LaidOut (opening x)
  opening_laid = laid_out (opening x) (sound_setup (opening x) written)

  begins_here : Here first_one others all_are_written began.setup (map nodes began.sessions)
  begins_here = record {
    is_written = began_written;
    among = inl refl;
    fit = all_fit size (start x) before all_laid opening_laid (start_fits x opening_laid);
    controllers = refl;
    asn = refl;
    are_asked = (sessions_are_asked size positive x opening_laid before all_laid).1;
  }

  all_asked : EditsAreValid size (IsAsked first_one others all_are_written) began es
  all_asked = edits_both size (λ y. Member (checked y) cs) IsOfForm began es (edits_among size cs began es (λ c h. inr h)) form

  pub every_moment : Here first_one others all_are_written now.setup (map nodes now.sessions) × Each (IsKept first_one others all_are_written) now.sessions
  every_moment =
      let apart = first_apart size positive x written before asked_before in
      let rest = first_rests size positive x written before asked_before begins in
      let some = begins_of_some cs began apart rest begins.settled (inl refl) in
      let quiet = all_quiet first_one others all_are_written size began.sessions (after_sound size positive (start x) before (start_sound size positive x)) (all_still began.sessions begins.settled) begins.unbroken in
      window_keeps size (lasts first_one others all_are_written) (Here first_one others all_are_written) (IsAsked first_one others all_are_written) (IsKept first_one others all_are_written) (Tells first_one others all_are_written) (keeps first_one others all_are_written size) began es window all_asked
      (begins_here, begins_kept first_one others all_are_written began apart rest begins_here quiet some)
