-- The events that are not refused for a tie, and the moment that they lead to.
use Rattle.std.specs.Prelude.{◌≡◌, ◌++◌, List, [], ◌∷◌, map, cond, true, false, is_some, IsTrue}
use Rattle.std.specs.declared.option.Option.{Option}
use Rattle.std.specs.declared.option.Option.TheVariants.{Some, None}
use Rattle.std.specs.List.{list_all}
use Rattle.std.proofs.Common.{refl, sym, ap, subst, ◌∙◌}
use Rattle.std.proofs.lemmas.Bool.{and_from, and_parts}
use Rattle.config_types.specs.Form.{has_event_form}
use Rattle.config_types.specs.declared.event.Event.{Event as Written}
use Rattle.config_check.specs.Checked.{Checked}
use Rattle.machine_laws.specs.MachineModel.Events.{MachineEvent, Edits, Deliver, DeliverOctets, Lose, Connect, Restart, Round, Settle, Show, Trace, Break, after, event_of, next}
use Rattle.machine_laws.specs.MachineModel.Moments.{EditsAreValid}
use Rattle.machine_laws.specs.MachineModel.Network.{start}
use Rattle.machine_laws.specs.MachineModel.Setup.{Setup, edited, opening}
use Rattle.running_nodes.specs.Stands.{message_size, moment}
use Rattle.machine_laws.specs.Headline.{IsOfForm, IsWritten}
use Rattle.machine_moment_laws.proofs.AsCompiled.{edits_of_form}
use Rattle.machine_laws.specs.Refusing.{TiedNetwork, after_tied, breaks, kept_events, next_tied, refuses, tied_start}
use Rattle.machine_laws.specs.Running.{ties_next}
use Rattle.machine_laws.proofs.Refused.{goes_on, keeps_what_is_not_refused}
use Rattle.schedule_script.specs.Ties.{Ties}
use Rattle.machine_moment_laws.specs.Runs.{broken_by, tie_broken, tied_moment}

-- ---- what is refused is answered with a tie
broken_is : (t : Ties) (o : Option Setup) → breaks t o ≡ is_some (broken_by t o)
broken_is t None = refl
broken_is t (Some y) = refl

pub refused_is : (s : TiedNetwork) (e : MachineEvent) → refuses s.ties s.network e ≡ is_some (tie_broken s e)
refused_is s (Edits d) = broken_is s.ties (edited s.network.setup d)
refused_is s (Deliver a b n) = refl
refused_is s (DeliverOctets a b n) = refl
refused_is s (Lose a b) = refl
refused_is s (Connect a b) = refl
refused_is s (Restart n) = refl
refused_is s Round = refl
refused_is s Settle = refl
refused_is s (Show n) = refl
refused_is s (Trace p) = refl
refused_is s (Break a b n) = refl

-- ---- the events of a document that are kept
abbrev pub stepped : TiedNetwork → MachineEvent → TiedNetwork
stepped s e = record { ties = ties_next s.ties s.network e; network = next message_size s.network e }

abbrev pub kept_from : TiedNetwork → List Written → List Written
kept_from s [] = []
kept_from s (e ∷ es) =
    cond (refuses s.ties s.network (event_of e)) (kept_from s es) (e ∷ kept_from (stepped s (event_of e)) es)

abbrev pub kept : Checked → List Written → List Written
kept x es = kept_from (tied_start x) es

kept_is : (s : TiedNetwork) (es : List Written)
    → map event_of (kept_from s es) ≡ kept_events message_size s (map event_of es)
kept_is s [] = refl
kept_is s (e ∷ es) =
    elim (refuses s.ties s.network (event_of e)) as (λ b. map event_of (cond b (kept_from s es) (e ∷ kept_from (stepped s (event_of e)) es))
    ≡ cond b (kept_events message_size s (map event_of es)) (event_of e ∷ kept_events message_size (stepped s (event_of e)) (map event_of es))) [
      | true ↦ kept_is s es
      | false ↦ ap (λ (ys : List MachineEvent). event_of e ∷ ys) (kept_is (stepped s (event_of e)) es)
    ]

pub same_moment : (x : Checked) (es : List Written) → (tied_moment x es).network ≡ moment x (kept x es)
same_moment x es =
    keeps_what_is_not_refused message_size (tied_start x) (map event_of es)
    ∙ ap (after message_size (start x)) (sym (kept_is (tied_start x) es))

-- they have the form that all have
kept_forms : (s : TiedNetwork) (es : List Written) → IsTrue (list_all has_event_form es)
    → IsTrue (list_all has_event_form (kept_from s es))
kept_forms s [] forms = refl
kept_forms s (e ∷ es) forms =
    let parts = and_parts (has_event_form e) (list_all has_event_form es) forms in
    elim (refuses s.ties s.network (event_of e)) as (λ b. IsTrue (list_all has_event_form (cond b (kept_from s es) (e ∷ kept_from (stepped s (event_of e)) es)))) [
      | true ↦ kept_forms s es parts.1
      | false ↦ and_from (has_event_form e) (list_all has_event_form (kept_from (stepped s (event_of e)) es)) parts.0
          (kept_forms (stepped s (event_of e)) es parts.1)
    ]

module _ (x : Checked) (written : IsWritten (opening x)) (es : List Written) (forms : IsTrue (list_all has_event_form es)) where
  pub asked_of_kept : EditsAreValid message_size IsOfForm (start x) (map event_of (kept x es))
  asked_of_kept = edits_of_form (kept x es) (start x) (kept_forms (tied_start x) es forms) (written.topology, written.config)

  pub asked_with_ties : EditsAreValid message_size IsOfForm (start x) (kept_events message_size (tied_start x) (map event_of es))
  asked_with_ties = subst (EditsAreValid message_size IsOfForm (start x)) (kept_is (tied_start x) es) asked_of_kept

-- ---- an event more
map_more : (es : List Written) (e : Written) → map event_of (es ++ e ∷ []) ≡ map event_of es ++ event_of e ∷ []
map_more [] e = refl
map_more (d ∷ es) e = ap (λ (ys : List MachineEvent). event_of d ∷ ys) (map_more es e)

pub tied_more : (x : Checked) (es : List Written) (e : Written)
    → tied_moment x (es ++ e ∷ []) ≡ next_tied message_size (tied_moment x es) (event_of e)
tied_more x es e =
    ap (after_tied message_size (tied_start x)) (map_more es e)
    ∙ (goes_on message_size (tied_start x) (map event_of es) (event_of e)).0
