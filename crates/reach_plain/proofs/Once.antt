-- In a valid configuration no packet passes a service twice.
use Rattle.std.proofs.Common.{◌≡◌, ◌≢◌, inl, inr, ℕ, ◌<◌, ◌-◌, Bool, true, false, List, [], ◌∷◌, None, map, reverse, length, get_or, sym, ap, ◌∙◌, subst, arith}
use Rattle.std.specs.List.{All, AllPairs}
use Rattle.std.proofs.lemmas.List.{get_or-reverse, length-reverse}
use Rattle.std.proofs.lemmas.List.Kept.{AllPairs-cons}
use Rattle.ov_types.specs.declared.numbers.PortNo.{PortNo}
use Rattle.ov_types.specs.declared.numbers.ServiceNo.{ServiceNo}
use Rattle.ov_types.specs.declared.packet.Outcome.{Outcome}
use Rattle.ov_types.specs.declared.packet.Outcome.TheVariants.{Delivered}
use Rattle.ov_types.specs.declared.packet.Packet.{Packet}
use Rattle.ov_types.proofs.FirstLemmas.{all_head, all_tail, all_cons, pairs_head, pairs_tail}
use Rattle.config_types.specs.declared.config.Action.{Action}
use Rattle.config_types.specs.declared.config.Action.TheVariants.{Pass, Deny, Through}
use Rattle.config_types.specs.declared.config.Config.{Config}
use Rattle.config_types.specs.declared.config.Service.{Service}
use Rattle.config_types.specs.declared.topology.Topology.{Topology}
use Rattle.chain_expand.specs.Expansion.{expansion}
use Rattle.config_check.specs.Rules.{first_broken}
use Rattle.reach_plain.specs.Outcomes.{numbers_of, LeadsThrough, IsDelivered, Becomes}
use Rattle.reach_plain.specs.Reachability.{reachability}
use Rattle.reach_plain.proofs.Becoming.{becomes}
use Rattle.reach_plain.proofs.Kept.{valid, chain_is_once}

-- each service once

abbrev Apart : ServiceNo → ServiceNo → Type 0
Apart s u = s.0 ≢ u.0

all_numbers : (x : Service) (xs : List Service) → All (λ u. x.id.0 ≢ u.id.0) xs → (k : ℕ) (d : ServiceNo) → k < length (map (λ s. s.id) xs) → Apart x.id (get_or (map (λ s. s.id) xs) k d)
all_numbers x [] h = λ k d lt. absurd (omega arith)
all_numbers x (y ∷ ys) h =
    all_cons (Apart x.id) y.id (map (λ s. s.id) ys) (all_head (λ (u : Service). x.id.0 ≢ u.id.0) y ys h) (all_numbers x ys (all_tail (λ (u : Service). x.id.0 ≢ u.id.0) y ys h))

numbers_apart : (xs : List Service) → AllPairs (λ s u. s.id.0 ≢ u.id.0) xs → AllPairs Apart (map (λ s. s.id) xs)
numbers_apart [] h = λ i j d lt within. absurd (omega arith)
numbers_apart (x ∷ xs) h =
    AllPairs-cons Apart x.id (map (λ s. s.id) xs)
    (all_numbers x xs (pairs_head (λ (s u : Service). s.id.0 ≢ u.id.0) x xs h))
    (numbers_apart xs (pairs_tail (λ (s u : Service). s.id.0 ≢ u.id.0) x xs h))

reversed_apart : (xs : List ServiceNo) → AllPairs Apart xs → AllPairs Apart (reverse xs)
reversed_apart xs h = λ i j d lt within.
    let few : j < length xs = omega (arith, length-reverse xs) in
    let low : i < length xs = omega arith in
    let one : get_or (reverse xs) i d ≡ get_or xs (length xs - 1 - i) d = get_or-reverse xs i d low in
    let two : get_or (reverse xs) j d ≡ get_or xs (length xs - 1 - j) d = get_or-reverse xs j d few in
    let apart : Apart (get_or xs (length xs - 1 - j) d) (get_or xs (length xs - 1 - i) d) = h (length xs - 1 - j) (length xs - 1 - i) d (omega arith) (omega arith) in
    λ same. apart (ap (λ (s : ServiceNo). s.0) (sym two) ∙ sym same ∙ ap (λ (s : ServiceNo). s.0) one)

none_apart : (services : List ServiceNo) → services ≡ [] → AllPairs Apart services
none_apart services e = let P : List ServiceNo → Type 0 = λ xs. AllPairs Apart xs in subst P (sym e) (λ i j d lt within. absurd (omega arith))

led_once : (t : Topology) (c : Config) (mirrored : Bool) (action : Action) (services : List ServiceNo) → first_broken t c ≡ None → LeadsThrough c mirrored action services → AllPairs Apart services
led_once t c mirrored Pass services h leads = none_apart services leads
led_once t c mirrored Deny services h leads = absurd leads
led_once t c false (Through chain use_no) services h leads =
    let P : List ServiceNo → Type 0 = λ xs. AllPairs Apart xs in
    subst P (sym leads) (numbers_apart (expansion c chain) (chain_is_once t c chain h))
led_once t c true (Through chain use_no) services h leads =
    let P : List ServiceNo → Type 0 = λ xs. AllPairs Apart xs in
    subst P (sym leads) (reversed_apart (numbers_of c chain) (numbers_apart (expansion c chain) (chain_is_once t c chain h)))

pub passed_once : (t : Topology) (c : Config) (p : Packet) (number : PortNo) (services : List ServiceNo) → first_broken t c ≡ None → reachability c p ≡ Delivered number services → AllPairs (λ s u. s.0 ≢ u.0) services
passed_once t c p number services h e =
    let P : Outcome → Type 0 = λ o. Becomes c p o in
    let d : IsDelivered c p number services = subst P e (becomes t c (valid t c h) p) in
    elim d.enters [
      | inl inside ↦ none_apart services inside.1
      | inr by ↦ led_once t c by.1.decider.mirrored by.1.decider.rule.rule.action services h by.1.leads
    ]
