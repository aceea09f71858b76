-- The lines that tell of messages and of what they change.
use Rattle.std.specs.Prelude.{ℕ, List, [], ◌∷◌, ◌++◌, codes, decimal}
use Rattle.ov_types.specs.Texts.{address_text, distinguisher_text, prefix_text, target_text}
use Rattle.ov_types.specs.declared.prefix.Addr.{Addr}
use Rattle.ov_types.specs.declared.numbers.Label.{Label}
use Rattle.ov_types.specs.declared.targets.Target.{Target}
use Rattle.ov_types.specs.declared.vpn.VpnKey.{VpnKey}
use Rattle.ov_types.specs.declared.vpn.VpnRoute.{VpnRoute}
use Rattle.report.specs.Lists.{list_text}

-- targets joined by commas
abbrev pub targets_text : List Target → List ℕ
targets_text targets = list_text (λ t. target_text t.0) targets

-- an OPEN: the autonomous system, the Hold Time, the identifier
unfoldable pub open_line : ℕ → ℕ → Addr → List ℕ
open_line asn hold id =
    codes "open as " ++ (decimal asn ++ (codes " hold " ++ (decimal hold ++ (codes " id "
    ++ (address_text id.0 ++ (10 ∷ []))))))

-- the distinguisher and the prefix that name a route
abbrev pub key_text : VpnKey → List ℕ
key_text key = distinguisher_text key.rd.0 ++ (codes " " ++ prefix_text key.prefix)

-- a route that is put, and where it leads, by the text of its targets
unfoldable pub route_line : VpnKey → Addr → Label → List ℕ → List ℕ
route_line key next_hop label targets =
    codes "put " ++ (key_text key ++ (codes " next-hop " ++ (address_text next_hop.0 ++ (codes " label "
    ++ (decimal label.0 ++ (codes " targets " ++ (targets ++ (10 ∷ []))))))))

-- a route that is put, and where it leads
unfoldable pub put_line : VpnKey → VpnRoute → List ℕ
put_line key route = route_line key route.next_hop route.label (targets_text route.targets)

-- a route that is dropped
unfoldable pub drop_line : VpnKey → List ℕ
drop_line key = codes "drop " ++ (key_text key ++ (10 ∷ []))

-- a code and a subcode, joined by `/`
abbrev pub code_text : ℕ → ℕ → List ℕ
code_text code subcode = decimal code ++ (codes "/" ++ (decimal subcode ++ (10 ∷ [])))

-- a NOTIFICATION
unfoldable pub notification_line : ℕ → ℕ → List ℕ
notification_line code subcode = codes "notification " ++ code_text code subcode

-- a fault, by the NOTIFICATION that would answer it
unfoldable pub fault_line : ℕ → ℕ → List ℕ
fault_line code subcode = codes "fault " ++ code_text code subcode

-- how many octets there are that a message only begins with
unfoldable pub incomplete_line : ℕ → List ℕ
incomplete_line octets = codes "incomplete " ++ (decimal octets ++ (10 ∷ []))
