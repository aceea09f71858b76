-- How a session reads, told by all that came to it.
use Rattle.std.specs.Prelude.{◌≡◌, List, [], ◌∷◌, Bool, false, Option, Some}
use Rattle.bgp_session.specs.declared.event.State.{State}
use Rattle.bgp_session.specs.declared.event.State.TheVariants.{Idle, OpenSent, OpenConfirm, Established}
use Rattle.bgp_session.specs.Inputs.{Came, RightOpen}
use Rattle.bgp_session.specs.Happenings.{SessionFields, after}

-- a session after these inputs, in order
abbrev pub after_all : SessionFields → List Came → SessionFields
after_all s [] = s
after_all s (came ∷ more) = after_all (after s came) more

-- whether the last right OPEN of these inputs was wide, and as it was before where there is none
abbrev pub last_open : Option Bool → List Came → Option Bool
last_open before [] = before
last_open before (RightOpen wide ∷ more) = last_open (Some wide) more
last_open before (_ ∷ more) = last_open before more

-- a session that took no OPEN since its connection was opened does not read wide; one that took an OPEN reads as the
-- last one said
abbrev pub ReadsAs : State → Bool → Option Bool → Type 0
ReadsAs Idle wide said = wide ≡ false
ReadsAs OpenSent wide said = wide ≡ false
ReadsAs OpenConfirm wide said = said ≡ Some wide
ReadsAs Established wide said = said ≡ Some wide
