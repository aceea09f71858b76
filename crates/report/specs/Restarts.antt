-- The lines of what the events of a peer's session answer: the number of the event, and what it answers.
use Rattle.std.specs.Prelude.{ℕ, Bool, List, [], ◌∷◌, ◌++◌, codes, decimal, if◌then◌else◌}
use Rattle.ov_types.specs.Texts.{address_text}
use Rattle.ov_types.specs.declared.vpn.VpnKey.{VpnKey}
use Rattle.ov_types.specs.declared.vpn.VpnRoute.{VpnRoute}
use Rattle.report.specs.Lines.{code_text, key_text, targets_text}

-- an event that was taken
unfoldable pub did_line : ℕ → List ℕ
did_line n = decimal n ++ (codes " did" ++ (10 ∷ []))

-- one that the state of the session passes over
unfoldable pub idle_line : ℕ → List ℕ
idle_line n = decimal n ++ (codes " idle" ++ (10 ∷ []))

-- an UPDATE with a fault, by the NOTIFICATION that would answer it
unfoldable pub faulty_line : ℕ → ℕ → ℕ → List ℕ
faulty_line n code subcode = decimal n ++ (codes " fault " ++ code_text code subcode)

-- what is held is shown
unfoldable pub show_line : ℕ → List ℕ
show_line n = decimal n ++ (codes " show" ++ (10 ∷ []))

abbrev pub mark_text : Bool → List ℕ
mark_text is_stale = if is_stale then codes "stale" else codes "fresh"

-- a route that is held, where it leads, and whether it is stale
unfoldable pub held_line : VpnKey → VpnRoute → Bool → List ℕ
held_line key route is_stale =
    codes "route " ++ (key_text key ++ (codes " next-hop " ++ (address_text route.next_hop.0 ++ (codes " label "
    ++ (decimal route.label.0 ++ (codes " targets " ++ (targets_text route.targets ++ (codes " "
    ++ (mark_text is_stale ++ (10 ∷ []))))))))))
