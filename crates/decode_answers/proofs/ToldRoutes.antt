-- The lines of routes, one after the other.
use Rattle.std.proofs.Common.{◌≡◌, ℕ, List, [], ◌∷◌, ◌++◌, map, Result, Ok, Err, refl, ap, sym, ◌∙◌}
use Rattle.std.proofs.lemmas.List.{append_assoc, append-nil}
use Rattle.std.specs.Prelude.{OnOk}
use Rattle.ov_types.specs.declared.prefix.Addr.{Addr}
use Rattle.ov_types.specs.declared.targets.Target.{Target}
use Rattle.ov_types.specs.declared.vpn.VpnKey.{VpnKey}
use Rattle.ov_types.specs.declared.vpn.VpnRoute.{VpnRoute}
use Rattle.ov_sync.specs.declared.Delta.{Delta}
use Rattle.bgp_vpn.specs.declared.routes.Labeled.{Labeled}
use Rattle.bgp_vpn.specs.Said.{put_to}
use Rattle.report.specs.Lines.{put_line, route_line, targets_text}
use Rattle.decode_answers.specs.Decoding.{change_line, change_lines}

-- one route more
pub one_told : (change : Labeled → Delta VpnKey VpnRoute) (whole now new : List ℕ) (routes after : List Labeled) (route : Labeled)
    → now ++ change_lines (map change routes) ≡ whole → routes ≡ route ∷ after → new ≡ now ++ change_line (change route)
    → new ++ change_lines (map change after) ≡ whole
one_told change whole now new routes after route so steps is =
    ap (λ (t : List ℕ). t ++ change_lines (map change after)) is
    ∙ append_assoc now (change_line (change route)) (change_lines (map change after))
    ∙ ap (λ (rs : List Labeled). now ++ change_lines (map change rs)) (sym steps) ∙ so

-- all routes
pub all_told : (change : Labeled → Delta VpnKey VpnRoute) (whole now : List ℕ) (routes : List Labeled)
    → now ++ change_lines (map change routes) ≡ whole → routes ≡ [] → now ≡ whole
all_told change whole now routes so none =
    sym (append-nil now) ∙ ap (λ (rs : List Labeled). now ++ change_lines (map change rs)) (sym none) ∙ so

-- the line of a route that is put, by the text of its targets
pub put_told : (next_hop : Addr) (targets : List Target) (route : Labeled)
    → change_line (put_to next_hop targets route) ≡ route_line route.key next_hop route.label (targets_text targets)
unfolding put_line
put_told next_hop targets route = refl

pub lines_of_both : (a b : List (Delta VpnKey VpnRoute)) → change_lines (a ++ b) ≡ change_lines a ++ change_lines b
lines_of_both [] b = refl
lines_of_both (x ∷ a) b =
    ap (λ (t : List ℕ). change_line x ++ t) (lines_of_both a b) ∙ sym (append_assoc (change_line x) (change_lines a) (change_lines b))

-- the lines of an UPDATE's routes
pub both_told : (old mid new : List ℕ) (a b : List (Delta VpnKey VpnRoute)) → mid ≡ old ++ change_lines a → new ≡ mid ++ change_lines b
    → new ≡ old ++ change_lines (a ++ b)
both_told old mid new a b first second =
    second ∙ ap (λ (t : List ℕ). t ++ change_lines b) first ∙ append_assoc old (change_lines a) (change_lines b)
    ∙ ap (λ (t : List ℕ). old ++ t) (sym (lines_of_both a b))

pub on_ok : {E : Type 0} (r : Result Unit E) (A B : Type 0) → (A → B) → OnOk r A → OnOk r B
on_ok (Ok x) A B f h = f h
on_ok (Err e) A B f h = tt
