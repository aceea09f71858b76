-- A peer keeps only what it names.
use Rattle.std.specs.Prelude.{◌≡◌, Bool, true, false, ◌&&◌, ◌||◌, List, [], ◌∷◌}
use Rattle.std.specs.List.{list_any}
use Rattle.std.proofs.Common.{refl}
use Rattle.bgp_wire.specs.Content.{OpenFields}
use Rattle.bgp_restart.specs.Marks.{Family, is_vpn, is_preserved, is_kept, named_in, named, kept}

first : (a b c d : Bool) → (c ≡ true → d ≡ true) → ((a && b) || c) ≡ true → (a || d) ≡ true
first true b c d more h = refl
first false b c d more h = more h

some_kept : (fs : List Family) → list_any is_kept fs ≡ true → list_any is_vpn fs ≡ true
some_kept [] h = h
some_kept (f ∷ fs) h = first (is_vpn f) (is_preserved f) _ _ (some_kept fs) h

pub kept_named : (o : OpenFields) → kept o ≡ true → named o ≡ true
kept_named o h = some_kept (named_in o) h
