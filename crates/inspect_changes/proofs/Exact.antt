-- The ways from one network to another are what the rules between them let through.
use Rattle.std.proofs.Common.{◌≡◌, ◌↔◌, ◌≤◌, ◌<◌, ◌+◌, ℕ, zero, suc, length, get_or, Bool, true, false, cond, IsTrue, List, [], ◌∷◌, ◌++◌, Option, Some, None, option_map, flat_map, refl, sym, ap, ◌∙◌, subst, arith}
use Rattle.std.specs.List.{Contains, count_by}
use Rattle.std.proofs.lemmas.List.Elements.{All-contains, Contains-append_right}
use Rattle.std.proofs.lemmas.List.Sums.{sum_by-append, sum_by-cons}
use Rattle.ov_types.specs.declared.packet.Tuple.{Tuple}
use Rattle.ov_types.proofs.FirstLemmas.{contains_here}
use Rattle.config_types.specs.declared.config.Action.{Action}
use Rattle.config_types.specs.declared.config.Action.TheVariants.{Pass, Deny, Through}
use Rattle.config_types.specs.declared.config.Config.{Config}
use Rattle.config_types.specs.declared.config.Network.{Network}
use Rattle.policy_rules.specs.Matching.{deciding, decision, decision_by}
use Rattle.policy_rules.specs.declared.matching.Decision.{Decision}
use Rattle.policy_rules.specs.declared.matching.Match.{Match}
use Rattle.policy_rules.proofs.Lists.{joined_is, is_joined}
use Rattle.policy_rules.proofs.Taking.{deciding_iff}
use Rattle.policy_regions.specs.Claims.{effect_by, effect_of}
use Rattle.policy_regions.specs.Joined.{regions_between}
use Rattle.policy_regions.specs.Parts.{IsTuple}
use Rattle.policy_regions.specs.Regions.{holds}
use Rattle.policy_regions.specs.declared.region.DecidedRegion.{DecidedRegion}
use Rattle.policy_regions.specs.declared.region.Effect.{Effect}
use Rattle.policy_regions.specs.declared.region.Effect.TheVariants.{Passes, Drops, Leads}
use Rattle.policy_regions.specs.declared.region.Region.{Region}
use Rattle.policy_regions.proofs.Boxes.{between_lies, between_decides, between_does}
use Rattle.reach_plain.specs.Reachability.{services_through}
use Rattle.inspect_changes.specs.Ways.{IsLetThrough, IsOnOneAtMost, IsOnOneOf, LetsThrough, ways_between, ways_by, ways_of}
use Rattle.inspect_changes.specs.declared.way.Passage.{Passage}
use Rattle.inspect_changes.specs.declared.way.Passage.TheVariants as Goes
use Rattle.inspect_changes.specs.declared.way.Way.{Way}

-- at most one way

abbrev W : Tuple → Way → Bool
W t w = holds w.region t

abbrev H : Tuple → DecidedRegion → Bool
H t r = holds r.region t

many : (t : Tuple) (c : Config) (r : Region) (d : Option Decision) (e : Effect) → count_by (W t) (ways_by c r d e) ≤ cond (holds r t) 1 0
many t c r None e = omega arith
many t c r (Some d) Passes =
    let sum = sum_by-cons (λ (w : Way). cond (W t w) 1 0) (record { region = r; decision = d; passage = Goes.Straight }) [] in
    omega arith
many t c r (Some d) Drops = omega arith
many t c r (Some d) (Leads chain) =
    let sum = sum_by-cons (λ (w : Way). cond (W t w) 1 0) (record { region = r; decision = d; passage = Goes.Through (services_through c chain d.mirrored) }) [] in
    omega arith

apart : (t : Tuple) (c : Config) (rs : List DecidedRegion) → count_by (W t) (flat_map (ways_of c) rs) ≤ count_by (H t) rs
apart t c [] = omega arith
apart t c (r ∷ rs) =
    let both : count_by (W t) (ways_of c r ++ flat_map (ways_of c) rs) ≡ count_by (W t) (ways_of c r) + count_by (W t) (flat_map (ways_of c) rs) =
    sum_by-append (λ (w : Way). cond (W t w) 1 0) (ways_of c r) (flat_map (ways_of c) rs) in
    let here = many t c r.region r.decision r.effect in
    let rest = apart t c rs in
    let sum : count_by (H t) (r ∷ rs) ≡ cond (H t r) 1 0 + count_by (H t) rs = sum_by-cons (λ (s : DecidedRegion). cond (H t s) 1 0) r rs in
    omega arith

pub on_one_at_most : (c : Config) (a b : Network) (t : Tuple) → IsTuple t → IsOnOneAtMost (ways_between c a b) t
on_one_at_most c a b t h =
    let one = between_lies c a b t h in
    let most = apart t c (regions_between c a b) in
    omega arith

-- one way

pub sole : {A : Type 0} (x y : A) → Contains (x ∷ []) y → x ≡ y
sole x y at = at_first at.0 at.1 at.2 where
  at_first : (k : ℕ) → k < length (x ∷ []) → get_or (x ∷ []) k y ≡ y → x ≡ y
  at_first zero lt is = is
  at_first (suc k) lt is = absurd (omega arith)

pub nothing : {A B : Type 0} (x : A) → Contains [] x → B
nothing x at = absurd (let lt = at.1 in omega arith)

region_of : (c : Config) (r : Region) (d : Option Decision) (e : Effect) (w : Way) → Contains (ways_by c r d e) w → w.region ≡ r
region_of c r None e w at = nothing w at
region_of c r (Some d) Passes w at = sym (ap (λ (w : Way). w.region) (sole _ w at))
region_of c r (Some d) Drops w at = nothing w at
region_of c r (Some d) (Leads chain) w at = sym (ap (λ (w : Way). w.region) (sole _ w at))

leads : (c : Config) (mirrored : Bool) (chain : List ℕ) (use_no : ℕ) → LetsThrough c mirrored (Through chain use_no) (Goes.Through (services_through c chain mirrored))
leads c false chain use_no = refl
leads c true chain use_no = refl

led : (c : Config) (mirrored : Bool) (chain : List ℕ) (use_no : ℕ) (passage : Passage) → LetsThrough c mirrored (Through chain use_no) passage
    → passage ≡ Goes.Through (services_through c chain mirrored)
led c false chain use_no passage h = h
led c true chain use_no passage h = h

lets_by : (c : Config) (m : Match) (x : Action) (r : Region) (w : Way) → Contains (ways_by c r (Some (decision_by m)) (effect_of x)) w
    → (decision_by m ≡ w.decision) × LetsThrough c m.mirrored x w.passage
lets_by c m Pass r w at = subst (λ (w : Way). (decision_by m ≡ w.decision) × LetsThrough c m.mirrored Pass w.passage) (sole _ w at) (refl, refl)
lets_by c m Deny r w at = nothing w at
lets_by c m (Through chain use_no) r w at =
    subst (λ (w : Way). (decision_by m ≡ w.decision) × LetsThrough c m.mirrored (Through chain use_no) w.passage) (sole _ w at)
    (refl, leads c m.mirrored chain use_no)

has_way : (c : Config) (m : Match) (x : Action) (passage : Passage) (r : Region) → LetsThrough c m.mirrored x passage
    → Contains (ways_by c r (Some (decision_by m)) (effect_of x)) (record { region = r; decision = decision_by m; passage = passage })
has_way c m Pass passage r h =
    subst (λ (p : Passage). Contains (ways_by c r (Some (decision_by m)) Passes) (record { region = r; decision = decision_by m; passage = p })) (sym h)
    (contains_here _ [])
has_way c m Deny passage r h = absurd h
has_way c m (Through chain use_no) passage r h =
    subst (λ (p : Passage). Contains (ways_by c r (Some (decision_by m)) (Leads chain)) (record { region = r; decision = decision_by m; passage = p }))
    (sym (led c m.mirrored chain use_no passage h)) (contains_here _ [])

-- from a way to the rule

from_match : (c : Config) (a b : Network) (t : Tuple) (found : Option Match) → deciding c a b t ≡ found → (r : Region) (w : Way)
    → Contains (ways_by c r (option_map decision_by found) (effect_by found)) w → IsLetThrough c a b t w.decision w.passage
from_match c a b t None e r w at = nothing w at
from_match c a b t (Some m) e r w at =
    let lets = lets_by c m m.rule.rule.action r w at in
    record { decider = m; decides = (deciding_iff c a b t m).0 e; decision = lets.0; lets = lets.1 }

pub let_through : (c : Config) (a b : Network) (t : Tuple) (d : Decision) (passage : Passage) → IsTuple t → IsOnOneOf (ways_between c a b) t d passage
    → IsLetThrough c a b t d passage
let_through c a b t d passage h on =
    let found = joined_is (ways_of c) (regions_between c a b) on.way on.stands in
    let r : DecidedRegion = found.0 in
    let same = region_of c r.region r.decision r.effect on.way found.2 in
    let held : IsTrue (holds r.region t) = subst (λ (r : Region). IsTrue (holds r t)) same on.on in
    let says : r.decision ≡ decision c a b t = All-contains (λ (s : DecidedRegion). IsTrue (holds s.region t) → s.decision ≡ decision c a b t) (regions_between c a b) r (between_decides c a b t h) found.1 held in
    let does : r.effect ≡ effect_by (deciding c a b t) = All-contains (λ (s : DecidedRegion). IsTrue (holds s.region t) → s.effect ≡ effect_by (deciding c a b t)) (regions_between c a b) r (between_does c a b t h) found.1 held in
    let at = subst (λ (d : Option Decision). Contains (ways_by c r.region d r.effect) on.way) says found.2 in
    let there = subst (λ (e : Effect). Contains (ways_by c r.region (decision c a b t) e) on.way) does at in
    let through = from_match c a b t (deciding c a b t) refl r.region on.way there in
    subst (λ (d : Decision). IsLetThrough c a b t d passage) on.decided
    (subst (λ (p : Passage). IsLetThrough c a b t on.way.decision p) on.goes through)

-- from the rule to a way

pub some_held : {A : Type 0} (p : A → Bool) (xs : List A) → count_by p xs ≡ 1 → (x : A) × Contains xs x × (p x ≡ true)
some_held p [] h = absurd (omega arith)
some_held {A} p (x ∷ xs) h =
    elim (p x) as (λ b. p x ≡ b → cond b 1 0 + count_by p xs ≡ 1 → (y : A) × Contains (x ∷ xs) y × (p y ≡ true)) [
      | true ↦ λ e one. (x, contains_here x xs, e)
      | false ↦ λ e one. let fewer : count_by p xs ≡ 1 = omega (arith, one) in let rest = some_held p xs fewer in (rest.0, Contains-append_right (x ∷ []) xs rest.0 rest.1, rest.2)
    ] refl (sym (sum_by-cons (λ y. cond (p y) 1 0) x xs) ∙ h)

pub on_one : (c : Config) (a b : Network) (t : Tuple) (d : Decision) (passage : Passage) → IsTuple t → IsLetThrough c a b t d passage
    → IsOnOneOf (ways_between c a b) t d passage
on_one c a b t d passage h through =
    let m = through.decider in
    let decides : deciding c a b t ≡ Some m = (deciding_iff c a b t m).1 through.decides in
    let found = some_held (H t) (regions_between c a b) (between_lies c a b t h) in
    let r : DecidedRegion = found.0 in
    let says : r.decision ≡ decision c a b t = All-contains (λ (s : DecidedRegion). IsTrue (holds s.region t) → s.decision ≡ decision c a b t) (regions_between c a b) r (between_decides c a b t h) found.1 found.2 in
    let does : r.effect ≡ effect_by (deciding c a b t) = All-contains (λ (s : DecidedRegion). IsTrue (holds s.region t) → s.effect ≡ effect_by (deciding c a b t)) (regions_between c a b) r (between_does c a b t h) found.1 found.2 in
    let by_rule : r.decision ≡ Some (decision_by m) = says ∙ ap (option_map decision_by) decides in
    let by_action : r.effect ≡ effect_of m.rule.rule.action = does ∙ ap effect_by decides in
    let w : Way = record { region = r.region; decision = decision_by m; passage = passage } in
    let there = has_way c m m.rule.rule.action passage r.region through.lets in
    let at = subst (λ (e : Effect). Contains (ways_by c r.region (Some (decision_by m)) e) w) (sym by_action) there in
    let stands = subst (λ (d : Option Decision). Contains (ways_by c r.region d r.effect) w) (sym by_rule) at in
    record {
      way = w;
      stands = is_joined (ways_of c) (regions_between c a b) r w found.1 stands;
      on = found.2;
      decided = through.decision;
      goes = refl;
    }

pub exact : (c : Config) (a b : Network) (t : Tuple) (d : Decision) (passage : Passage) → IsTuple t
    → IsOnOneOf (ways_between c a b) t d passage ↔ IsLetThrough c a b t d passage
exact c a b t d passage h = (let_through c a b t d passage h, on_one c a b t d passage h)
