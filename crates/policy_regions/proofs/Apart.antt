-- Of joined regions no two that say the same make one box.
use Rattle.std.proofs.Common.{◌≡◌, inl, inr, ℕ, zero, suc, ◌+◌, ◌≤◌, ◌<◌, ◌&&◌, leb, ltb, eqb, Bool, true, false, cond, length, List, [], ◌∷◌, ◌++◌, refl, sym, ap, subst, arith, Option, Some, None, option_map, get_or}
use Rattle.std.specs.List.{All, AllPairs}
use Rattle.std.specs.Option.{option_map_or}
use Rattle.std.proofs.lemmas.Bool.Decides.{nat_tests}
use Rattle.std.proofs.lemmas.List.Elements.{All-cons}
use Rattle.std.proofs.lemmas.List.Quantifiers.{all_pairs_push}
use Rattle.std.proofs.lemmas.Option.{none-some}
use Rattle.std.proofs.lemmas.Slice.Eq.{bytes_eq-Decides}
use Rattle.ov_types.specs.First.{◌<|>◌}
use Rattle.ov_types.specs.declared.packet.Range16.{Range16}
use Rattle.config_types.specs.declared.config.Config.{Config}
use Rattle.config_types.specs.declared.config.Network.{Network}
use Rattle.policy_rules.specs.declared.matching.Decision.{Decision}
use Rattle.policy_regions.specs.Carved.{carved_between}
use Rattle.policy_regions.specs.Joining.{agree, all_among, among, both_ranges, box_of, goes_on, joined, joined_within, joint, same_decision, same_effect, same_range, say_the_same}
use Rattle.policy_regions.specs.Joined.{regions_between}
use Rattle.policy_regions.specs.Touching.{Follows, IsJoined, MakeOneBox}
use Rattle.policy_regions.specs.declared.region.DecidedRegion.{DecidedRegion}
use Rattle.policy_regions.specs.declared.region.Effect.{Effect}
use Rattle.policy_regions.specs.declared.region.Effect.TheVariants.{Passes, Drops, Leads}
use Rattle.policy_regions.specs.declared.region.Region.{Region}

-- two regions have no joint one
abbrev Stands : DecidedRegion → DecidedRegion → Type 0
Stands r s = joint s r ≡ None

-- no later region has a joint one with an earlier
abbrev pub Apart : List DecidedRegion → Type 0
Apart list = AllPairs Stands list

-- lengths

among_longest : (r : DecidedRegion) (list : List DecidedRegion) → length (among r list) ≤ suc (length list)
among_longest r [] = omega arith
among_longest r (s ∷ ss) =
    elim (joint r s) as (λ o. length (option_map_or (λ b. among b ss) o (s ∷ among r ss)) ≤ suc (suc (length ss))) [
      | None ↦ let rest = among_longest r ss in omega (arith, rest)
      | Some b ↦ let rest = among_longest b ss in omega (arith, rest)
    ]

all_longest : (done list : List DecidedRegion) → length (all_among done list) ≤ length done + length list
all_longest done [] = omega arith
all_longest done (r ∷ rs) = let one = among_longest r done in let rest = all_longest (among r done) rs in omega (arith, one, rest)

-- a region that is joined with none stands behind the others

abbrev LeftApart : DecidedRegion → List DecidedRegion → Type 0
LeftApart r list = (among r list ≡ list ++ r ∷ []) × All (λ s. joint r s ≡ None) list

left_apart : (r : DecidedRegion) (list : List DecidedRegion) → suc (length list) ≤ length (among r list) → LeftApart r list
left_apart r [] h = (refl, λ k d lt. absurd (omega (arith, lt)))
left_apart r (s ∷ ss) h =
    elim (joint r s) as (λ o. joint r s ≡ o → suc (suc (length ss)) ≤ length (option_map_or (λ b. among b ss) o (s ∷ among r ss))
    → (option_map_or (λ b. among b ss) o (s ∷ among r ss) ≡ s ∷ (ss ++ r ∷ [])) × All (λ q. joint r q ≡ None) (s ∷ ss)) [
      | None ↦ λ e le.
          let rest = left_apart r ss (omega (arith, le)) in
          (ap (λ (list : List DecidedRegion). s ∷ list) rest.0, All-cons (λ q. joint r q ≡ None) s ss e rest.1)
      | Some b ↦ λ e le. let fewer = among_longest b ss in absurd (omega (arith, le, fewer))
    ] refl h

snoc_length : (r : DecidedRegion) (list : List DecidedRegion) → length (list ++ r ∷ []) ≡ suc (length list)
snoc_length r [] = refl
snoc_length r (s ∷ ss) = ap suc (snoc_length r ss)

snoc_append : (r : DecidedRegion) (list rest : List DecidedRegion) → (list ++ r ∷ []) ++ rest ≡ list ++ r ∷ rest
snoc_append r [] rest = refl
snoc_append r (s ∷ ss) rest = ap (λ (list : List DecidedRegion). s ∷ list) (snoc_append r ss rest)

all_to_nothing : (list : List DecidedRegion) → list ++ [] ≡ list
all_to_nothing [] = refl
all_to_nothing (s ∷ ss) = ap (λ (list : List DecidedRegion). s ∷ list) (all_to_nothing ss)

-- where no region is joined, none has a joint one with another
all_apart : (done list : List DecidedRegion) → length done + length list ≤ length (all_among done list) → Apart done → Apart (done ++ list)
all_apart done [] h apart = subst Apart (sym (all_to_nothing done)) apart
all_apart done (r ∷ rs) h apart =
    let longest = all_longest (among r done) rs in
    let alone = left_apart r done (omega (arith, h, longest)) in
    let next : Apart (done ++ r ∷ []) = all_pairs_push Stands done r apart (λ k d lt. alone.1 k d lt) in
    let same : all_among (among r done) rs ≡ all_among (done ++ r ∷ []) rs = ap (λ (d : List DecidedRegion). all_among d rs) alone.0 in
    let long : length (all_among (among r done) rs) ≡ length (all_among (done ++ r ∷ []) rs) = ap length same in
    let one = snoc_length r done in
    subst Apart (snoc_append r done rs) (all_apart (done ++ r ∷ []) rs (omega (arith, h, long, one)) next)

is_less : (a b : ℕ) → ltb a b ≡ true → a < b
is_less a b h = grind (arith, nat_tests)

is_no_less : (a b : ℕ) → ltb a b ≡ false → b ≤ a
is_no_less a b h = grind (arith, nat_tests)

none_apart : Apart []
none_apart = λ i j d lt within. absurd (omega (arith, within))

within_apart : (n : ℕ) (list : List DecidedRegion) → length list ≤ n → Apart (joined_within n list)
within_apart zero [] h = none_apart
within_apart zero (r ∷ rs) h = absurd (omega (arith, h))
within_apart (suc n) list h =
    elim (ltb (length (all_among [] list)) (length list)) as (λ b. ltb (length (all_among [] list)) (length list) ≡ b
    → Apart (cond b (joined_within n (all_among [] list)) list)) [
      | true ↦ λ e. let fewer = is_less (length (all_among [] list)) (length list) e in within_apart n (all_among [] list) (omega (arith, h, fewer))
      | false ↦ λ e. let longer = is_no_less (length (all_among [] list)) (length list) e in all_apart [] list (omega (arith, longer)) none_apart
    ] refl

-- two that say the same and make one box have a joint region

same_number : (n : ℕ) → eqb n n ≡ true
same_number n = grind (arith, nat_tests)

agrees : (b : Bool) → agree b b ≡ true
agrees true = refl
agrees false = refl

both_true : (a b : Bool) → a ≡ true → b ≡ true → (a && b) ≡ true
both_true true b h k = k
both_true false b h k = absurd cc

decides_same : (d : Option Decision) → same_decision d d ≡ true
decides_same None = refl
decides_same (Some d) =
    both_true (eqb d.rule.sequence d.rule.sequence) (eqb d.rule.position d.rule.position && agree d.mirrored d.mirrored) (same_number d.rule.sequence)
    (both_true (eqb d.rule.position d.rule.position) (agree d.mirrored d.mirrored) (same_number d.rule.position) (agrees d.mirrored))

does_same : (e : Effect) → same_effect e e ≡ true
does_same Passes = refl
does_same Drops = refl
does_same (Leads c) = (bytes_eq-Decides c c).1 refl

says_same : (r s : DecidedRegion) → r.decision ≡ s.decision → r.effect ≡ s.effect → say_the_same s r ≡ true
says_same r s d e =
    both_true (same_decision s.decision r.decision) (same_effect s.effect r.effect)
    (subst (λ (x : Option Decision). same_decision s.decision x ≡ true) (sym d) (decides_same s.decision))
    (subst (λ (x : Effect). same_effect s.effect x ≡ true) (sym e) (does_same s.effect))

range_same : (r s : Range16) → r ≡ s → same_range r s ≡ true
range_same r s e =
    subst (λ (x : Range16). same_range r x ≡ true) e
    (both_true (eqb r.lo r.lo) (eqb r.hi r.hi) (same_number r.lo) (same_number r.hi))

begins : (a b c d : ℕ) → a ≤ b → c ≤ d → b + 1 ≡ c → (eqb (b + 1) c && (leb a c && leb b d)) ≡ true
begins a b c d h k e = grind (arith, nat_tests)

follows : (r s : Range16) → Follows r s → goes_on r s ≡ true
follows r s f = begins r.lo r.hi s.lo s.hi f.first f.second f.next

-- of three tests one that holds
some_first : {A : Type 0} (a b c : Bool) (x y z : A) → a ≡ true → cond a (Some x) (cond b (Some y) (cond c (Some z) None)) ≡ None → ⊥
some_first true b c x y z h e = none-some x (sym e)
some_first false b c x y z h e = cc

some_second : {A : Type 0} (a b c : Bool) (x y z : A) → b ≡ true → cond a (Some x) (cond b (Some y) (cond c (Some z) None)) ≡ None → ⊥
some_second true b c x y z h e = none-some x (sym e)
some_second false true c x y z h e = none-some y (sym e)
some_second false false c x y z h e = cc

some_third : {A : Type 0} (a b c : Bool) (x y z : A) → c ≡ true → cond a (Some x) (cond b (Some y) (cond c (Some z) None)) ≡ None → ⊥
some_third true b c x y z h e = none-some x (sym e)
some_third false true c x y z h e = none-some y (sym e)
some_third false false true x y z h e = none-some z (sym e)
some_third false false false x y z h e = cc

abbrev by_protocols : Region → Region → Bool
by_protocols r s = goes_on r.protocols s.protocols && (same_range r.source_ports s.source_ports && same_range r.destination_ports s.destination_ports)

abbrev by_source_ports : Region → Region → Bool
by_source_ports r s = goes_on r.source_ports s.source_ports && (same_range r.protocols s.protocols && same_range r.destination_ports s.destination_ports)

abbrev by_destination_ports : Region → Region → Bool
by_destination_ports r s = goes_on r.destination_ports s.destination_ports && (same_range r.protocols s.protocols && same_range r.source_ports s.source_ports)

abbrev along_protocols : Region → Region → Region
along_protocols r s = record { protocols = both_ranges r.protocols s.protocols; source_ports = r.source_ports; destination_ports = r.destination_ports }

abbrev along_source_ports : Region → Region → Region
along_source_ports r s = record { protocols = r.protocols; source_ports = both_ranges r.source_ports s.source_ports; destination_ports = r.destination_ports }

abbrev along_destination_ports : Region → Region → Region
along_destination_ports r s = record { protocols = r.protocols; source_ports = r.source_ports; destination_ports = both_ranges r.destination_ports s.destination_ports }

has_box_by_protocols : (r s : Region) → Follows r.protocols s.protocols → r.source_ports ≡ s.source_ports → r.destination_ports ≡ s.destination_ports → box_of r s ≡ None → ⊥
has_box_by_protocols r s f e g none =
    some_first (by_protocols r s) (by_source_ports r s) (by_destination_ports r s) (along_protocols r s) (along_source_ports r s) (along_destination_ports r s)
    (both_true (goes_on r.protocols s.protocols) (same_range r.source_ports s.source_ports && same_range r.destination_ports s.destination_ports) (follows r.protocols s.protocols f)
    (both_true (same_range r.source_ports s.source_ports) (same_range r.destination_ports s.destination_ports)
    (range_same r.source_ports s.source_ports e) (range_same r.destination_ports s.destination_ports g))) none

has_box_by_source_ports : (r s : Region) → Follows r.source_ports s.source_ports → r.protocols ≡ s.protocols → r.destination_ports ≡ s.destination_ports → box_of r s ≡ None → ⊥
has_box_by_source_ports r s f e g none =
    some_second (by_protocols r s) (by_source_ports r s) (by_destination_ports r s) (along_protocols r s) (along_source_ports r s) (along_destination_ports r s)
    (both_true (goes_on r.source_ports s.source_ports) (same_range r.protocols s.protocols && same_range r.destination_ports s.destination_ports) (follows r.source_ports s.source_ports f)
    (both_true (same_range r.protocols s.protocols) (same_range r.destination_ports s.destination_ports)
    (range_same r.protocols s.protocols e) (range_same r.destination_ports s.destination_ports g))) none

has_box_by_destination_ports : (r s : Region) → Follows r.destination_ports s.destination_ports → r.protocols ≡ s.protocols → r.source_ports ≡ s.source_ports → box_of r s ≡ None → ⊥
has_box_by_destination_ports r s f e g none =
    some_third (by_protocols r s) (by_source_ports r s) (by_destination_ports r s) (along_protocols r s) (along_source_ports r s) (along_destination_ports r s)
    (both_true (goes_on r.destination_ports s.destination_ports) (same_range r.protocols s.protocols && same_range r.source_ports s.source_ports) (follows r.destination_ports s.destination_ports f)
    (both_true (same_range r.protocols s.protocols) (same_range r.source_ports s.source_ports)
    (range_same r.protocols s.protocols e) (range_same r.source_ports s.source_ports g))) none

neither : {A : Type 0} (x y : Option A) → (x <|> y) ≡ None → (x ≡ None) × (y ≡ None)
neither None y h = (refl, h)
neither (Some a) y h = absurd (none-some a (sym h))

no_box : (r s : Region) → box_of r s ≡ None → box_of s r ≡ None → ¬ MakeOneBox r s
no_box r s h k (inl (inl f, e, g)) = has_box_by_protocols r s f e g h
no_box r s h k (inl (inr f, e, g)) = has_box_by_protocols s r f (sym e) (sym g) k
no_box r s h k (inr (inl (inl f, e, g))) = has_box_by_source_ports r s f e g h
no_box r s h k (inr (inl (inr f, e, g))) = has_box_by_source_ports s r f (sym e) (sym g) k
no_box r s h k (inr (inr (inl f, e, g))) = has_box_by_destination_ports r s f e g h
no_box r s h k (inr (inr (inr f, e, g))) = has_box_by_destination_ports s r f (sym e) (sym g) k

no_joint : {A B : Type 0} (f : A → B) (same : Bool) (o : Option A) → same ≡ true → option_map f (cond same o None) ≡ None → o ≡ None
no_joint f true None e h = refl
no_joint f true (Some a) e h = absurd (none-some (f a) (sym h))
no_joint f false o e h = absurd cc

stands_apart : (r s : DecidedRegion) → Stands r s → r.decision ≡ s.decision → r.effect ≡ s.effect → ¬ MakeOneBox r.region s.region
stands_apart r s none d e =
    let boxes = box_of s.region r.region <|> box_of r.region s.region in
    let no : boxes ≡ None =
    no_joint (λ (b : Region). record { region = b; decision = s.decision; effect = s.effect }) (say_the_same s r) boxes (says_same r s d e) none in
    let each = neither (box_of s.region r.region) (box_of r.region s.region) no in
    no_box r.region s.region each.1 each.0

omega_refl : (n : ℕ) → n ≤ n
omega_refl n = omega arith

pub joined_is_joined : (list : List DecidedRegion) → IsJoined (joined list)
joined_is_joined list = λ i j d lt within.
    stands_apart (get_or (joined list) i d) (get_or (joined list) j d)
    (within_apart (length list) list (omega_refl (length list)) i j d lt within)

pub between_is_joined : (c : Config) (a b : Network) → IsJoined (regions_between c a b)
between_is_joined c a b = joined_is_joined (carved_between c a b)
