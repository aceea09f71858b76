-- A peer that puts again what it had has it.
use Rattle.std.specs.Prelude.{◌≡◌, Bool, true, false, cond, not, ◌||◌, ◌&&◌, List, [], ◌∷◌, ◌++◌, Some, None, is_some, option_map, option_and_then}
use Rattle.std.specs.declared.option.Option.{Option}
use Rattle.std.specs.List.{list_any, AllByRecursion}
use Rattle.std.specs.Option.{option_or}
use Rattle.std.specs.Ordering.{eq_by_cmp}
use Rattle.std.specs.Cmp.{Equal-is}
use Rattle.std.proofs.lemmas.Bool.{true≢false}
use Rattle.std.proofs.Common.{refl, sym, ◌∙◌, ap, inl, inr, ◌⊎◌}
use Rattle.ov_types.specs.declared.vpn.VpnKey.{VpnKey}
use Rattle.ov_types.specs.declared.vpn.VpnRoute.{VpnRoute}
use Rattle.ov_sync.specs.declared.Delta.{Delta}
use Rattle.ov_sync.specs.declared.Delta.TheVariants.{Put, Drop}
use Rattle.ov_sync.specs.Keyed.{key_of, is_changed}
use Rattle.bgp_restart.specs.Events.{RestartEvent, Opened, Closed, Expired, Updated, is_up, opening, since_opened, since_closed, is_expiry, is_mark, changes_in, key_order, value_of, last_change, own, has_change}
use Rattle.bgp_restart.specs.Keeping.{marked, says_kept, left_over, held_up, held_at}
use Rattle.bgp_restart.specs.Returning.{had, PutsAgain, Returns, NotMarked, MarkedAfterAll, route_at}
use Rattle.bgp_restart.proofs.Owning.{key_exact, changed_last, changed-append}

abbrev Deltas : Type 0
Deltas = List (Delta VpnKey VpnRoute)

puts_value : (events : List RestartEvent) (d : Delta VpnKey VpnRoute) (k : VpnKey) → PutsAgain events d → eq_by_cmp key_order k (key_of d) ≡ true → value_of d ≡ had events k
puts_value events (Put x route) k p e = p ∙ ap (had events) (sym (key_exact k x ((Equal-is (key_order k x)).0 e)))
puts_value events (Drop x) k p e = absurd p

last_again : (events : List RestartEvent) (ds : Deltas) (k : VpnKey) → AllByRecursion (PutsAgain events) ds → option_and_then value_of (last_change ds k) ≡ cond (is_some (last_change ds k)) (had events k) None
last_again events [] k all = refl
last_again events (d ∷ ds) k all = at (last_change ds k) (eq_by_cmp key_order k (key_of d)) (last_again events ds k all.1) (puts_value events d k all.0) where
  at : (x : Option (Delta VpnKey VpnRoute)) (b : Bool) → option_and_then value_of x ≡ cond (is_some x) (had events k) None → (b ≡ true → value_of d ≡ had events k) → option_and_then value_of (option_or x (cond b (Some d) None)) ≡ cond (is_some (option_or x (cond b (Some d) None))) (had events k) None
  at (Some y) b ih p = ih
  at None true ih p = p refl
  at None false ih p = refl

own_again : (events : List RestartEvent) (k : VpnKey) → Returns events → has_change (since_opened events) k ≡ true → own (since_opened events) k ≡ had events k
own_again events k r c =
    last_again events (changes_in (since_opened events)) k r.again
    ∙ ap (λ b. cond b (had events k) None) (sym (changed_last (changes_in (since_opened events)) k) ∙ c)

left_again : (events : List RestartEvent) (k : VpnKey) → Returns events → left_over events k ≡ had events k
left_again events k r =
    ap (λ b. cond (b && not (list_any is_expiry (since_closed events))) (had events k) None) r.named
    ∙ ap (λ b. cond (not b) (had events k) None) r.in_time

up_at : (events : List RestartEvent) (k : VpnKey) → is_up events ≡ true → held_at events k ≡ held_up events k
up_at events k up = ap (λ b. cond b (held_up events k) (marked true (left_over events k))) up

plain : (b : Bool) (o : Option VpnRoute) → option_map (λ (h : VpnRoute × Bool). h.0) (marked b o) ≡ o
plain b None = refl
plain b (Some v) = refl

route_of : (c kept : Bool) (o l h : Option VpnRoute) → (c ≡ true → o ≡ h) → l ≡ h → (c ≡ false → (kept ≡ true) ⊎ (h ≡ None)) → option_map (λ (x : VpnRoute × Bool). x.0) (cond c (marked false o) (cond kept (marked true l) None)) ≡ h
route_of true kept o l h own-is left-is or = plain false o ∙ own-is refl
route_of false true o l h own-is left-is or = plain true l ∙ left-is
route_of false false o l h own-is left-is or = elim (or refl) as (λ _. None ≡ h) [ inl e ↦ absurd (true≢false (sym e)) | inr e ↦ sym e ]

returned : (events : List RestartEvent) (k : VpnKey) → Returns events → (has_change (since_opened events) k ≡ false → ((says_kept (opening events) && not (list_any is_mark (since_opened events))) ≡ true) ⊎ (had events k ≡ None)) → route_at events k ≡ had events k
returned events k r or =
    ap (option_map (λ (h : VpnRoute × Bool). h.0)) (up_at events k r.up)
    ∙ route_of (has_change (since_opened events) k) (says_kept (opening events) && not (list_any is_mark (since_opened events))) (own (since_opened events) k) (left_over events k) (had events k) (own_again events k r) (left_again events k r) or

pub returned_before : (events : List RestartEvent) (k : VpnKey) → Returns events → NotMarked events → route_at events k ≡ had events k
returned_before events k r not-marked = returned events k r (λ _. inl (ap (λ b. b && not (list_any is_mark (since_opened events))) r.kept ∙ ap not not-marked))

or_true : (b c : Bool) → c ≡ true → (b || c) ≡ true
or_true true c e = refl
or_true false c e = e

changed_more : (e : RestartEvent) (before : List RestartEvent) (k : VpnKey) → has_change before k ≡ true → has_change (e ∷ before) k ≡ true
changed_more (Opened o) before k h = h
changed_more Closed before k h = h
changed_more Expired before k h = h
changed_more (Updated ds marks) before k h = changed-append (changes_in before) ds k ∙ or_true (is_changed key_order ds k) (has_change before k) h

changed_later : (later before : List RestartEvent) (k : VpnKey) → has_change before k ≡ true → has_change (later ++ before) k ≡ true
changed_later [] before k h = h
changed_later (e ∷ later) before k h = changed_more e (later ++ before) k (changed_later later before k h)

pub returned_after : (events : List RestartEvent) (k : VpnKey) → Returns events → MarkedAfterAll events → route_at events k ≡ had events k
returned_after events k r m = returned events k r (λ c. inr (none (had events k) refl c)) where
  none : (o : Option VpnRoute) → had events k ≡ o → has_change (since_opened events) k ≡ false → o ≡ None
  none None e c = refl
  none (Some route) e c = absurd (true≢false (sym (ap (λ (p : List RestartEvent). has_change p k) m.came ∙ changed_later m.later (m.mark ∷ m.earlier) k (changed_more m.mark m.earlier k (m.all k route e))) ∙ c))

-- after the mark what the period has no change of is gone
pub gone_after : (events : List RestartEvent) (k : VpnKey) → is_up events ≡ true → list_any is_mark (since_opened events) ≡ true → has_change (since_opened events) k ≡ false → held_at events k ≡ None
gone_after events k up m c =
    up_at events k up
    ∙ ap (λ b. cond b (marked false (own (since_opened events) k)) (cond (says_kept (opening events) && not (list_any is_mark (since_opened events))) (marked true (left_over events k)) None)) c
    ∙ ap (λ b. cond (says_kept (opening events) && not b) (marked true (left_over events k)) None) m
    ∙ at (says_kept (opening events)) where
      at : (b : Bool) → cond (b && false) (marked true (left_over events k)) None ≡ None
      at true = refl
      at false = refl
