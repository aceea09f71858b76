-- Each event leads from what some events stand for to what those with it stand for.
use Rattle.std.specs.Prelude.{◌≡◌, Bool, true, false, cond, not, ◌||◌, ◌&&◌, List, [], ◌∷◌, Some, None, is_some, option_map, option_and_then, IfSome}
use Rattle.std.specs.declared.option.Option.{Option}
use Rattle.std.specs.List.{list_any}
use Rattle.std.specs.Option.{option_or}
use Rattle.std.specs.FinMap.{FinMap, get, empty, get-empty}
use Rattle.std.proofs.lemmas.Bool.{true≢false}
use Rattle.std.proofs.Common.{refl, sym, ◌∙◌, ap}
use Rattle.ov_types.specs.declared.vpn.VpnKey.{VpnKey}
use Rattle.ov_types.specs.declared.vpn.VpnRoute.{VpnRoute}
use Rattle.ov_sync.specs.declared.Delta.{Delta}
use Rattle.ov_sync.specs.Keyed.{after, is_changed}
use Rattle.bgp_restart.specs.Events.{Opening, RestartEvent, Opened, Closed, Expired, Updated, is_up, opening, since_opened, until_closed, is_mark, changes_in, key_order, value_of, last_change, own, has_change}
use Rattle.bgp_restart.specs.Keeping.{marked, says_named, says_kept, left_over, held_up, Kept, fresh_or, held, StandsFor, Follows}
use Rattle.bgp_restart.proofs.Owning.{get-after, own_none, changed_last, changed-append, last-append}

abbrev Maybe : Type 0
Maybe = Option VpnRoute

abbrev Marked : Type 0
Marked = Option (VpnRoute × Bool)

-- two marked routes are equal where the routes are
same_route : (v w : VpnRoute) (a b : Bool) → ◌≡◌ {A = Marked} (Some (v, a)) (Some (w, b)) → Some v ≡ Some w
same_route v w a b e = ap (option_map (λ (h : VpnRoute × Bool). h.0)) e

mark_of : Bool → Marked → Bool
mark_of d None = d
mark_of d (Some h) = h.1

other_mark : (v w : VpnRoute) → ◌≡◌ {A = Marked} (Some (v, false)) (Some (w, true)) → ⊥
unfolding mark_of
other_mark v w e = true≢false (sym (ap (mark_of false) e))

pub nothing : (k : VpnKey) → get (empty {X = VpnRoute} {R = key_order}) k ≡ None
nothing k = get-empty key_order k

-- what is fresh, where what is held is known
pub fresh_is : (c kept : Bool) (f s o l : Maybe) → (c ≡ false → o ≡ None) → fresh_or f s ≡ cond c (marked false o) (cond kept (marked true l) None) → f ≡ o
fresh_is true kept (Some v) s (Some w) l n e = same_route v w false false e
fresh_is true kept (Some v) s None l n e = cc
fresh_is true kept None (Some x) (Some w) l n e = absurd (other_mark w x (sym e))
fresh_is true kept None None (Some w) l n e = cc
fresh_is true kept None s None l n e = refl
fresh_is false true (Some v) s o (Some w) n e = absurd (other_mark v w e)
fresh_is false true (Some v) s o None n e = cc
fresh_is false false (Some v) s o l n e = cc
fresh_is false kept None s o l n e = sym (n refl)

-- while the session is down nothing is fresh
pub fresh_down : (f s l : Maybe) → fresh_or f s ≡ marked true l → f ≡ None
fresh_down (Some v) s (Some w) e = absurd (other_mark v w e)
fresh_down (Some v) s None e = cc
fresh_down None s l e = refl

pub named_so : (events : List RestartEvent) (named wide : Bool) → is_up events ≡ true → IfSome (opening events) (λ o. (named ≡ o.named) × (wide ≡ o.wide)) → says_named (opening events) ≡ named
named_so [] n w u h = cc
named_so (Opened o ∷ before) n w u h = sym h.0
named_so (Closed ∷ before) n w u h = cc
named_so (Expired ∷ before) n w u h = named_so before n w u h
named_so (Updated changes marks ∷ before) n w u h = named_so before n w u h

still_opened : (old new : Kept) → new.named ≡ old.named → new.wide ≡ old.wide → (o : Option Opening) → IfSome o (λ o. (old.named ≡ o.named) × (old.wide ≡ o.wide)) → IfSome o (λ o. (new.named ≡ o.named) × (new.wide ≡ o.wide))
still_opened old new a b None h = h
still_opened old new a b (Some o) h = (a ∙ h.0, b ∙ h.1)

-- what is held while the session is up, and while it is down
up_held : (events : List RestartEvent) (r : Kept) (k : VpnKey) → StandsFor events r → r.up ≡ true → held r k ≡ held_up events k
up_held events r k s u = s.held k ∙ ap (λ b. cond b (held_up events k) (marked true (left_over events k))) (sym s.up ∙ u)

down_held : (events : List RestartEvent) (r : Kept) (k : VpnKey) → StandsFor events r → r.up ≡ false → held r k ≡ marked true (left_over events k)
down_held events r k s u = s.held k ∙ ap (λ b. cond b (held_up events k) (marked true (left_over events k))) (sym s.up ∙ u)

up_fresh : (events : List RestartEvent) (r : Kept) (k : VpnKey) → StandsFor events r → r.up ≡ true → get r.fresh k ≡ own (since_opened events) k
up_fresh events r k s u =
    fresh_is (has_change (since_opened events) k) (says_kept (opening events) && not (list_any is_mark (since_opened events)))
    (get r.fresh k) (get r.stale k) (own (since_opened events) k) (left_over events k)
    (own_none (changes_in (since_opened events)) k) (up_held events r k s u)

-- ---- a session comes up
opened_at : (f s l : Maybe) (kept : Bool) → fresh_or f s ≡ marked true l → fresh_or f (cond kept s None) ≡ cond kept (marked true l) None
opened_at f s l true e = e
opened_at f s l false e = ap (λ (x : Maybe). fresh_or x None) (fresh_down f s l e)

pub opened_follows : (old new : Kept) (o : Opening) → old.up ≡ false → new.up ≡ true → new.named ≡ o.named → new.wide ≡ o.wide → new.fresh ≡ old.fresh → new.stale ≡ cond o.kept old.stale empty → Follows old (Opened o) new
opened_follows old new o down up named wide fresh stale events s = record {
  up = up;
  opening = (named, wide);
  held = λ k.
      ap (λ (m : FinMap key_order VpnRoute). fresh_or (get m k) (get new.stale k)) fresh
      ∙ ap (λ (x : Maybe). fresh_or (get old.fresh k) x) (ap (λ (m : FinMap key_order VpnRoute). get m k) stale ∙ stays k o.kept)
      ∙ opened_at (get old.fresh k) (get old.stale k) (left_over events k) o.kept (down_held events old k s down)
      ∙ ends o.kept (marked true (left_over events k));
} where
  stays : (k : VpnKey) (b : Bool) → get (cond b old.stale empty) k ≡ cond b (get old.stale k) None
  stays k true = refl
  stays k false = nothing k

  ends : (b : Bool) (x : Marked) → cond b x None ≡ cond (b && true) x None
  ends true x = refl
  ends false x = refl

-- ---- a session is lost
closed_at : (n : Bool) (f o : Maybe) → f ≡ o → fresh_or None (cond n f None) ≡ marked true (cond (n && true) o None)
closed_at true f o e = ap (marked true) e
closed_at false f o e = refl

pub closed_follows : (old new : Kept) → old.up ≡ true → new.up ≡ false → new.named ≡ old.named → new.wide ≡ old.wide → new.fresh ≡ empty → new.stale ≡ cond old.named old.fresh empty → Follows old Closed new
closed_follows old new up down named wide fresh stale events s = record {
  up = down;
  opening = still_opened old new named wide (opening events) s.opening;
  held = λ k.
      ap (λ (x : Maybe). fresh_or x (get new.stale k)) (ap (λ (m : FinMap key_order VpnRoute). get m k) fresh ∙ nothing k)
      ∙ ap (λ (x : Maybe). fresh_or None x) (ap (λ (m : FinMap key_order VpnRoute). get m k) stale ∙ stays k old.named)
      ∙ closed_at old.named (get old.fresh k) (own (since_opened events) k) (up_fresh events old k s up)
      ∙ ap (λ b. marked true (cond (b && true) (own (since_opened events) k) None)) (sym (named_so events old.named old.wide (sym s.up ∙ up) s.opening));
} where
  stays : (k : VpnKey) (b : Bool) → get (cond b old.fresh empty) k ≡ cond b (get old.fresh k) None
  stays k true = refl
  stays k false = nothing k

-- ---- the time runs out
expired_up : (c kept n : Bool) (f o x : Maybe) → f ≡ o → (c ≡ false → o ≡ None) → fresh_or f None ≡ cond c (marked false o) (cond kept (marked true (cond (n && false) x None)) None)
expired_up c kept n f o x e h = ap (λ (y : Maybe). fresh_or y None) e ∙ at c kept n o h where
  at : (c kept n : Bool) (o : Maybe) → (c ≡ false → o ≡ None) → fresh_or o None ≡ cond c (marked false o) (cond kept (marked true (cond (n && false) x None)) None)
  at true kept n None h = refl
  at true kept n (Some v) h = refl
  at false true true o h = ap (λ (y : Maybe). fresh_or y None) (h refl)
  at false true false o h = ap (λ (y : Maybe). fresh_or y None) (h refl)
  at false false n o h = ap (λ (y : Maybe). fresh_or y None) (h refl)

expired_down : (n : Bool) (f x : Maybe) → f ≡ None → fresh_or f None ≡ marked true (cond (n && false) x None)
expired_down true f x e = ap (λ (y : Maybe). fresh_or y None) e
expired_down false f x e = ap (λ (y : Maybe). fresh_or y None) e

pub expired_follows : (old new : Kept) → new.up ≡ old.up → new.named ≡ old.named → new.wide ≡ old.wide → new.fresh ≡ old.fresh → new.stale ≡ empty → Follows old Expired new
expired_follows old new up named wide fresh stale events s = record {
  up = up ∙ s.up;
  opening = still_opened old new named wide (opening events) s.opening;
  held = λ k.
      ap (λ (m : FinMap key_order VpnRoute). fresh_or (get m k) (get new.stale k)) fresh
      ∙ ap (λ (x : Maybe). fresh_or (get old.fresh k) x) (ap (λ (m : FinMap key_order VpnRoute). get m k) stale ∙ nothing k)
      ∙ at k (is_up events) refl;
} where
  at : (k : VpnKey) (b : Bool) → is_up events ≡ b → fresh_or (get old.fresh k) None ≡ cond b (held_up (Expired ∷ events) k) (marked true (left_over (Expired ∷ events) k))
  at k true e = expired_up (has_change (since_opened events) k) (says_kept (opening events) && not (list_any is_mark (since_opened events))) (says_named (opening (until_closed events))) _ (own (since_opened events) k) (own (since_opened (until_closed events)) k) (up_fresh events old k s (s.up ∙ e)) (own_none (changes_in (since_opened events)) k)
  at k false e = expired_down (says_named (opening (until_closed events))) _ (own (since_opened (until_closed events)) k) (fresh_down _ _ _ (down_held events old k s (s.up ∙ e)))

-- ---- an UPDATE
abbrev Change : Type 0
Change = Option (Delta VpnKey VpnRoute)

updated_at : (d last : Change) (c marks kept ended : Bool) (f s l : Maybe) → f ≡ option_and_then value_of last → (c ≡ false → option_and_then value_of last ≡ None)
    → fresh_or f s ≡ cond c (marked false (option_and_then value_of last)) (cond (kept && not ended) (marked true l) None)
    → fresh_or (cond (is_some d) (option_and_then value_of d) f) (cond (marks || is_some d) None s) ≡ cond (is_some d || c) (marked false (option_and_then value_of (option_or d last))) (cond (kept && not (marks || ended)) (marked true l) None)
updated_at (Some d) last c marks kept ended f s l e n h = put (value_of d) marks where
  put : (v : Maybe) (marks : Bool) → fresh_or v (cond (marks || true) None s) ≡ marked false v
  put (Some v) marks = refl
  put None true = refl
  put None false = refl
updated_at None last c false kept ended f s l e n h = h
updated_at None last true true kept ended f s l e n h = ap (λ (y : Maybe). fresh_or y None) e ∙ alone (option_and_then value_of last) where
  alone : (v : Maybe) → fresh_or v None ≡ marked false v
  alone (Some v) = refl
  alone None = refl
updated_at None last false true kept ended f s l e n h = ap (λ (y : Maybe). fresh_or y None) (e ∙ n refl) ∙ gone kept where
  gone : (b : Bool) → None ≡ cond (b && false) (marked true l) None
  gone true = refl
  gone false = refl

pub updated_follows : (old new : Kept) (ds : List (Delta VpnKey VpnRoute)) (marks : Bool) → old.up ≡ true → new.up ≡ true → new.named ≡ old.named → new.wide ≡ old.wide
    → new.fresh ≡ after old.fresh ds
    → ((k : VpnKey) → get new.stale k ≡ cond (marks || is_changed key_order ds k) None (get old.stale k))
    → Follows old (Updated ds marks) new
updated_follows old new ds marks up up' named wide fresh stale events s = record {
  up = up' ∙ sym up ∙ s.up;
  opening = still_opened old new named wide (opening events) s.opening;
  held = λ k.
      let P = since_opened events in
      let kept = says_kept (opening events) in
      let ended = list_any is_mark P in
      let d = last_change ds k in
      let last = last_change (changes_in P) k in
      ap (λ (x : Maybe). fresh_or x (get new.stale k)) (ap (λ (m : FinMap key_order VpnRoute). get m k) fresh ∙ get-after ds old.fresh k)
      ∙ ap (λ (x : Maybe). fresh_or (cond (is_changed key_order ds k) (option_and_then value_of d) (get old.fresh k)) x) (stale k)
      ∙ ap (λ b. fresh_or (cond b (option_and_then value_of d) (get old.fresh k)) (cond (marks || b) None (get old.stale k))) (changed_last ds k)
      ∙ updated_at d last (has_change P k) marks kept ended (get old.fresh k) (get old.stale k) (left_over events k) (up_fresh events old k s up) (own_none (changes_in P) k) (up_held events old k s up)
      ∙ ap (λ b. cond b (marked false (option_and_then value_of (option_or d last))) (cond (kept && not (marks || ended)) (marked true (left_over events k)) None)) (ap (λ b. b || has_change P k) (sym (changed_last ds k)) ∙ sym (changed-append (changes_in P) ds k))
      ∙ ap (λ (x : Change). cond (has_change (Updated ds marks ∷ P) k) (marked false (option_and_then value_of x)) (cond (kept && not (marks || ended)) (marked true (left_over events k)) None)) (sym (last-append (changes_in P) ds k))
      ∙ ap (λ b. cond b (held_up (Updated ds marks ∷ events) k) (marked true (left_over (Updated ds marks ∷ events) k))) (sym (sym s.up ∙ up));
}

-- ---- nothing happened yet
pub new_stands : (r : Kept) → r.up ≡ false → r.fresh ≡ empty → r.stale ≡ empty → StandsFor [] r
new_stands r down fresh stale = record {
  up = down;
  opening = tt;
  held = λ k. ap (λ (x : Maybe). fresh_or x (get r.stale k)) (ap (λ (m : FinMap key_order VpnRoute). get m k) fresh ∙ nothing k) ∙ ap (marked true) (ap (λ (m : FinMap key_order VpnRoute). get m k) stale ∙ nothing k);
}
