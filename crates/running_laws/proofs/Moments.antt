-- What holds at every moment of its configuration and of its sessions, and the moment after the next move.
use Rattle.std.specs.Prelude.{List, [], ◌++◌, ◌∷◌, ◌≡◌}
use Rattle.std.specs.declared.option.Option.TheVariants.{None, Some}
use Rattle.std.specs.declared.option.Option.{Option}
use Rattle.std.proofs.Common.{ap, refl, subst, sym, ◌∙◌}
use Rattle.std.proofs.lemmas.Option.{same_Some}
use Rattle.config_types.specs.declared.edit.Edit.{Edit}
use Rattle.schedule_script.specs.ConfigCheck.Checked.{Checked}
use Rattle.schedule_script.specs.ConfigCheck.Edits.{edit_fault}
use Rattle.schedule_script.specs.ConfigCheck.EditFault.{EditFault}
use Rattle.node_model.specs.Maps.{Map}
use Rattle.node_model.specs.Members.{Member}
use Rattle.ov_types.specs.declared.rows.NodeId.{NodeId}
use Rattle.node_model.proofs.Members.{none_some}
use Rattle.machine_laws.specs.MachineModel.Events.{MachineEvent, after, next}
use Rattle.machine_laws.specs.MachineModel.Moments.{Each, EditIsValid, EditsAreValid, HasSessions, IsLaidOut, LaidOut, NumbersFit}
use Rattle.machine_laws.specs.MachineModel.Network.{MachineState, sessions_of, start}
use Rattle.machine_laws.specs.MachineModel.Session.{Session}
use Rattle.machine_laws.specs.MachineModel.Setup.{Setup, agents_of, checked, edited, edited_without, opening}
use Rattle.machine_laws.specs.MachineModel.Steps.{without_breaks}
use Rattle.machine_laws.proofs.MachineModel.NetworkFact.{after_sound, breaks_apart, each_map}
use Rattle.machine_laws.proofs.MachineModel.Asking.{after_laid}
use Rattle.machine_laws.proofs.MachineModel.Changing.{renews}
use Rattle.machine_laws.proofs.MachineModel.Listed.{Placed, after_placed, start_placed}
use Rattle.machine_laws.proofs.MachineModel.NodesFact.{Holds, map_nodes}
use Rattle.machine_laws.proofs.MachineModel.Numbered.{AllFit, fits_edited, start_fits}
use Rattle.machine_laws.proofs.MachineModel.SessionFact.{Fact}
use Rattle.machine_laws.proofs.MachineModel.Start.{start_sound, start_told}
use Rattle.machine_laws.proofs.MachineModel.ToldEdits.{AllHaveTold}
use Rattle.machine_laws.proofs.MachineModel.ToldNext.{after_told, unbroken_told}
use Rattle.machine_laws.proofs.EachFact.{Keeps, after_keeps, edit_valid, edits_valid_on}
use Rattle.machine_laws.proofs.Final.{laid_out}
use Rattle.machine_laws.specs.Headline.{IsOfForm, IsWritten}
use Rattle.machine_laws.proofs.Written.{edits_keep, sound_setup}
use Rattle.running_nodes.specs.Stands.{message_size}
use Rattle.running_nodes.proofs.Sizes.{positive}
use Rattle.running_laws.specs.Moments.{AreValidMoves, IsMoment, IsValidMove, after_moves, moved, unbroken}

-- ---- what every move keeps
module _ (Q : MachineState → Type 0) (removed : (w : MachineState) → Q w → Q (unbroken w))
    (followed : (w : MachineState) (e : MachineEvent) → EditIsValid IsOfForm w e → Q w → Q (next message_size w e)) where
  moved_keeps : (w : MachineState) (move : Option MachineEvent) → IsValidMove w move → Q w → Q (moved w move)
  moved_keeps w None valid q = removed w q
  moved_keeps w (Some e) valid q = followed w e valid q

  moves_keep : (w : MachineState) (moves : List (Option MachineEvent)) → AreValidMoves w moves → Q w → Q (after_moves w moves)
  moves_keep w [] valid q = q
  moves_keep w (move ∷ moves) valid q = moves_keep (moved w move) moves valid.1 (moved_keeps w move valid.0 q)

  -- holds at every moment where it holds at the start
  pub at_moment : (w : MachineState) (m : IsMoment w) → Q (start m.opening) → Q w
  at_moment w m q = subst Q (sym m.is) (moves_keep (start m.opening) m.moves m.edits q)

-- ---- a valid configuration of the written form, with the control nodes of the opening one, and the numbers of its agents
pub record Follows (x y : Setup) : Type 0 where
  pub controllers : y.topology.controllers ≡ x.topology.controllers
  pub written : IsWritten y
  pub fits : AllFit y

pub laid : (y : Setup) → IsWritten y → IsLaidOut y.topology
laid y w = laid_out y (sound_setup y w)

follows : (x y : Setup) (d : Edit) (z : Setup) → Follows x y → edited y d ≡ Some z → IsOfForm z → Follows x z
follows x y d z f e form = by_fault (edit_fault (checked y) d) refl e
  where
    by_fault : (o : Option EditFault) → edit_fault (checked y) d ≡ o → edited_without o y d ≡ Some z → Follows x z
    by_fault (Some fault) is h = absurd (none_some z h)
    by_fault None is h = record {
      controllers = ap (λ (z : Setup). z.topology.controllers) (sym (same_Some _ z h)) ∙ (renews (checked y) d is).controllers ∙ f.controllers;
      written = edits_keep y d z f.written e form;
      fits = fits_edited y d z e (laid y f.written) f.fits;
    }

-- nothing is asked of sessions
abbrev Anything : Session → Type 0
Anything s = Unit {0}

abbrev MayTellAnything : Session → Map → Type 0
MayTellAnything s m = Unit {0}

each_anything : (ss : List Session) → Each Anything ss
each_anything [] = tt
each_anything (s ∷ ss) = (tt, each_anything ss)

module _ (x : Setup) where
  setups_keep : Keeps message_size (Follows x) Anything MayTellAnything
  setups_keep = record {
    both = λ s p. tt;
    begins = λ y f c m n k. tt;
    arrives = λ s p. tt;
    octets = λ n s p. tt;
    passes = λ m s may p. tt;
    shuts = λ s p. tt;
    loses = λ s p. tt;
    opens = λ s p. tt;
    breaks = λ a b s p. tt;
    wants = λ y ss n f p. each_anything (sessions_of n ss);
  }

  -- an edit that is asked for leads to such a configuration
  pub follows_edit : (w : MachineState) (e : MachineEvent) → EditIsValid IsOfForm w e → Follows x w.setup
      → EditIsValid (Follows x) w e
  follows_edit w e valid f =
      (edits_valid_on message_size IsOfForm (Follows x) Anything MayTellAnything setups_keep (follows x) w (e ∷ [])
      (f, each_anything w.sessions) (valid, tt)).0

  pub follows_next : (w : MachineState) (e : MachineEvent) → EditIsValid IsOfForm w e → Follows x w.setup
      → Follows x (next message_size w e).setup
  follows_next w e valid f =
      (after_keeps message_size (Follows x) Anything MayTellAnything setups_keep w (e ∷ [])
      (follows_edit w e valid f, tt) (f, each_anything w.sessions)).0

pub at_first : (x : Checked) → IsWritten (opening x) → Follows (opening x) (opening x)
at_first x written =
    record { controllers = refl; written = written; fits = start_fits x (laid (opening x) written) }

-- ---- its configuration
pub follows_now : (w : MachineState) (m : IsMoment w) → Follows (opening m.opening) w.setup
follows_now w m =
    at_moment (λ (v : MachineState). Follows (opening m.opening) v.setup) (λ v f. f) (follows_next (opening m.opening)) w m
    (at_first m.opening m.written)

pub moment_written : (w : MachineState) → IsMoment w → IsWritten w.setup
moment_written w m = (follows_now w m).written

-- ---- the numbers of its agents
pub moment_numbers : (w : MachineState) → IsMoment w → (c : NodeId) → Member c w.setup.topology.controllers
    → NumbersFit w.setup.topology c (agents_of w.setup c.name)
moment_numbers w m c i = (follows_now w m).fits.fit c i

-- ---- its sessions
-- they are those of its topology, and nodes are listed by the control nodes of their sessions
abbrev HasNodes : Setup → MachineState → Type 0
HasNodes x w = Follows x w.setup × (HasSessions w × Holds Placed w)

nodes_removed : (x : Setup) (w : MachineState) → HasNodes x w → HasNodes x (unbroken w)
nodes_removed x w h =
    let same = map_nodes without_breaks (λ s. refl) w.sessions in
    (h.0, (same ∙ h.1.0, subst (Placed w.setup) (sym same) h.1.1))

laid_edit : (w : MachineState) (e : MachineEvent) (x : Setup) → EditIsValid IsOfForm w e → Follows x w.setup → EditIsValid LaidOut w e
laid_edit w e x valid f = edit_valid (Follows x) LaidOut w e (λ d y is g. laid y g.written) (follows_edit x w e valid f)

nodes_followed : (x : Setup) (w : MachineState) (e : MachineEvent) → EditIsValid IsOfForm w e → HasNodes x w → HasNodes x (next message_size w e)
nodes_followed x w e valid h = (
  follows_next x w e valid h.0,
  (
    (after_laid message_size w (e ∷ []) (laid_edit w e x valid h.0, tt) (laid w.setup h.0.written, h.1.0)).1,
    after_placed message_size w (e ∷ []) h.1.1,
  ),
)

moment_nodes : (w : MachineState) (m : IsMoment w) → HasNodes (opening m.opening) w
moment_nodes w m =
    at_moment (HasNodes (opening m.opening)) (nodes_removed (opening m.opening)) (nodes_followed (opening m.opening)) w m
    (at_first m.opening m.written, (refl, start_placed m.opening (laid (opening m.opening) m.written).apart))

pub moment_sessions : (w : MachineState) → IsMoment w → HasSessions w
moment_sessions w m = (moment_nodes w m).1.0

abbrev pub IsSound : MachineState → Type 0
IsSound w = Each (Fact message_size) w.sessions

sound_removed : (w : MachineState) → IsSound w → IsSound (unbroken w)
sound_removed w h =
    each_map (Fact message_size) (Fact message_size) without_breaks
    (λ s f. breaks_apart message_size positive [] [] s f) w.sessions h

-- each of them is sound
pub moment_sound : (w : MachineState) → IsMoment w → IsSound w
moment_sound w m =
    at_moment IsSound sound_removed (λ v e valid h. after_sound message_size positive v (e ∷ []) h) w m
    (start_sound message_size positive m.opening)

-- ---- its nodes have told what they want
abbrev HasToldOf : MachineState → Type 0
HasToldOf w = Holds Placed w × AllHaveTold w

told_removed : (w : MachineState) → HasToldOf w → HasToldOf (unbroken w)
told_removed w h =
    (subst (Placed w.setup) (sym (map_nodes without_breaks (λ s. refl) w.sessions)) h.0, unbroken_told w h.1)

told_followed : (w : MachineState) (e : MachineEvent) → HasToldOf w → HasToldOf (next message_size w e)
told_followed w e h =
    (after_placed message_size w (e ∷ []) h.0, after_told message_size w (e ∷ []) h.0 h.1)

pub moment_told : (w : MachineState) → IsMoment w → AllHaveTold w
moment_told w m =
    (at_moment HasToldOf told_removed (λ v e valid h. told_followed v e h) w m
    (start_placed m.opening (laid (opening m.opening) m.written).apart, start_told m.opening)).1

-- ---- the first moment, and the next one
pub moment_start : (x : Checked) → IsWritten (opening x) → IsMoment (start x)
moment_start x written = record { opening = x; written = written; moves = []; edits = tt; is = refl }

after_one_more : (w : MachineState) (moves : List (Option MachineEvent)) (move : Option MachineEvent)
    → after_moves w (moves ++ move ∷ []) ≡ moved (after_moves w moves) move
after_one_more w [] move = refl
after_one_more w (first ∷ moves) move = after_one_more (moved w first) moves move

one_more_valid : (w : MachineState) (moves : List (Option MachineEvent)) (move : Option MachineEvent) → AreValidMoves w moves
    → IsValidMove (after_moves w moves) move → AreValidMoves w (moves ++ move ∷ [])
one_more_valid w [] move all valid = (valid, tt)
one_more_valid w (first ∷ moves) move all valid = (all.0, one_more_valid (moved w first) moves move all.1 valid)

moment_moved : (w : MachineState) (move : Option MachineEvent) → IsMoment w → IsValidMove w move → IsMoment (moved w move)
moment_moved w move m valid = record {
  opening = m.opening;
  written = m.written;
  moves = m.moves ++ move ∷ [];
  edits = one_more_valid (start m.opening) m.moves move m.edits
      (subst (λ (v : MachineState). IsValidMove v move) m.is valid);
  is = ap (λ (v : MachineState). moved v move) m.is ∙ sym (after_one_more (start m.opening) m.moves move);
}

pub moment_next : (w : MachineState) (e : MachineEvent) → IsMoment w → EditIsValid IsOfForm w e → IsMoment (next message_size w e)
moment_next w e m valid = moment_moved w (Some e) m valid

-- where the breaks are removed that were not met
pub moment_unbroken : (w : MachineState) → IsMoment w → IsMoment (unbroken w)
moment_unbroken w m = moment_moved w None m tt

-- after more events of a schedule
pub moment_after : (w : MachineState) (es : List MachineEvent) → IsMoment w → EditsAreValid message_size IsOfForm w es
    → IsMoment (after message_size w es)
moment_after w [] m valid = m
moment_after w (e ∷ es) m valid = moment_after (next message_size w e) es (moment_next w e m valid.0) valid.1

-- after any schedule
pub moment_of : (x : Checked) → IsWritten (opening x) → (es : List MachineEvent) → EditsAreValid message_size IsOfForm (start x) es
    → IsMoment (after message_size (start x) es)
moment_of x written es valid = moment_after (start x) es (moment_start x written) valid
