-- A compute node moves: what holds of the network whose sessions are replaced, and of it after passes.
use Rattle.std.specs.Prelude.{◌≡◌, map, true}
use Rattle.std.specs.declared.option.Option.{Option}
use Rattle.std.specs.declared.option.Option.TheVariants.{Some, None}
use Rattle.std.proofs.Common.{refl, sym, ◌∙◌, ap, subst, inr}
use Rattle.config_types.specs.declared.edit.Edit.{Edit}
use Rattle.schedule_script.specs.ConfigCheck.Edits.{edit_fault}
use Rattle.schedule_script.specs.ConfigCheck.EditFault.{EditFault}
use Rattle.machine_laws.specs.MachineModel.Setup.{Move, Name, Setup, checked, edited_without, moves}
use Rattle.machine_laws.specs.MachineModel.Session.{Role, Session, passed}
use Rattle.machine_laws.specs.MachineModel.Network.{MachineState, asked, brought, config, fresh, view, views_of, wanted}
use Rattle.machine_laws.specs.MachineModel.Steps.{pass}
use Rattle.machine_laws.specs.MachineModel.Events.{Edits, edits, moved, next, passes}
use Rattle.machine_laws.specs.MachineModel.Moments.{EditIsValid, nodes}
use Rattle.machine_laws.proofs.MachineModel.NetworkFact.{nodes_keep}
use Rattle.machine_laws.proofs.MachineModel.NodesFact.{pass_nodes, passes_nodes, passes_setup}
use Rattle.machine_laws.proofs.MachineModel.Replaced.{each_brought, each_replaced}
use Rattle.machine_laws.proofs.MachineModel.SessionFact.{Fact, Fact-turned, passed_keeps}
use Rattle.machine_laws.specs.Headline.{IsOfForm, IsWritten}
use Rattle.running_nodes.specs.Stands.{message_size}
use Rattle.running_nodes.proofs.Sizes.{positive}
use Rattle.running_laws.specs.Moments.{IsMoment}
use Rattle.running_laws.specs.Wiring.{HasNumbers}
use Rattle.running_laws.proofs.AtMoments.{IsSound, all_quiet, moment_sound}
use Rattle.running_laws.proofs.Facts.{Facts, IsRight}
use Rattle.running_laws.proofs.Resettled.{resettled, setup_after}

-- ---- sessions are sound
-- new ones have nothing
fresh_sound : (n m : Name) (r q : Role) → Fact message_size (record { is_down = true; near = fresh n r; far = fresh m q })
fresh_sound n m r q = inr (record {
  down = refl;
  near = record { notice = refl; flight = refl; taken = refl; tidy = λ _. (refl, refl) };
  far = record { notice = refl; flight = refl; taken = refl; tidy = λ _. (refl, refl) };
})

pub resettled_sound : (m : Move) (y : Setup) (w : MachineState) → IsSound w → IsSound (resettled m y w)
resettled_sound m y w sound =
    each_replaced (Fact message_size) (Fact message_size) m.name (λ s off f. f) (brought y.topology.controllers m.now)
    w.sessions (each_brought (Fact message_size) fresh_sound y.topology.controllers m.now) sound

pub pass_sound : (n : Name) (v : MachineState) → IsSound v → IsSound (pass n v)
pass_sound n v sound =
    let told : Session → Session = λ s. passed (wanted v.setup (views_of n v.sessions) (view s)) s in
    nodes_keep (Fact message_size) (Fact-turned message_size) told
    (λ s f. passed_keeps message_size positive (wanted v.setup (views_of n v.sessions) (view s)) s f) n v.sessions sound

-- ---- what passes keep
pub pass_right : (n : Name) (v : MachineState) → IsSound v → IsRight v → IsRight (pass n v)
pass_right n v sound r = record {
  written = r.written;
  numbers = r.numbers;
  sessions = pass_nodes n v ∙ r.sessions;
  quiet = all_quiet (pass n v) (pass_sound n v sound);
}

-- ---- at a moment
module _ (facts : Facts) (w : MachineState) (moment : IsMoment w) (e : Edit) (form : EditIsValid IsOfForm w (Edits e))
    (none : edit_fault (checked w.setup) e ≡ None) (m : Move) (is : moves e w.setup.topology ≡ Some m) where
  abbrev y : Setup
  y = setup_after w.setup e

  -- once all have made their passes it is the next moment
  next_is : next message_size w (Edits e) ≡ pass config (passes m.left (resettled m y w))
  unfolding next
  next_is =
      ap (λ (f : Option EditFault). edits (moves e w.setup.topology) (edited_without f w.setup e) w) none
      ∙ ap (λ (o : Option Move). pass config (moved o (record { setup = y; sessions = w.sessions }))) is

  pub settled_moment : IsMoment (pass config (passes m.left (resettled m y w)))
  settled_moment = subst IsMoment next_is (facts.moments.after w (Edits e) moment form)

  same_setup : (passes m.left (resettled m y w)).setup ≡ y
  same_setup = passes_setup m.left (resettled m y w)

  pub sound_resettled : IsSound (resettled m y w)
  sound_resettled = resettled_sound m y w (moment_sound w moment)

  pub right_resettled : IsRight (resettled m y w)
  right_resettled = record {
    written = subst IsWritten same_setup (facts.moments.written (pass config (passes m.left (resettled m y w))) settled_moment);
    numbers = subst HasNumbers same_setup (facts.moments.numbers (pass config (passes m.left (resettled m y w))) settled_moment);
    sessions =
        sym (passes_nodes m.left (resettled m y w)) ∙ sym (pass_nodes config (passes m.left (resettled m y w)))
        ∙ facts.moments.sessions (pass config (passes m.left (resettled m y w))) settled_moment
        ∙ ap (λ (x : Setup). map nodes (asked x.topology)) same_setup;
    quiet = all_quiet (resettled m y w) sound_resettled;
  }
