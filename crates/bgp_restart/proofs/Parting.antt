-- What is held, by the periods of the events.
use Rattle.std.specs.Prelude.{◌≡◌, Bool, true, false, cond, not, ◌||◌, ◌&&◌, List, [], ◌∷◌, ◌++◌, Some, None}
use Rattle.std.specs.List.{list_any, AllByRecursion}
use Rattle.std.proofs.Common.{refl, ◌∙◌, ap}
use Rattle.std.specs.declared.option.Option.{Option}
use Rattle.ov_types.specs.declared.vpn.VpnKey.{VpnKey}
use Rattle.ov_types.specs.declared.vpn.VpnRoute.{VpnRoute}
use Rattle.bgp_restart.specs.Events.{Opening, RestartEvent, Opened, Closed, Expired, Updated, is_up, opening, since_opened, since_closed, until_closed, is_expiry, is_mark, own, has_change}
use Rattle.bgp_restart.specs.Periods.{IsInner, DownAfter, UpIn}
use Rattle.bgp_restart.specs.Keeping.{marked, says_named, says_kept, left_over, held_up, held_at}

-- what stands behind a part of a list that neither opens nor closes
record PartOpened (p : List RestartEvent) (o : Opening) (before : List RestartEvent) : Type 0 where
  up : is_up (p ++ Opened o ∷ before) ≡ true
  opened : opening (p ++ Opened o ∷ before) ≡ Some o
  since : since_opened (p ++ Opened o ∷ before) ≡ p
  until : until_closed (p ++ Opened o ∷ before) ≡ until_closed before
  expiry : list_any is_expiry (since_closed (p ++ Opened o ∷ before)) ≡ (list_any is_expiry p || list_any is_expiry (since_closed before))

part_opened : (p : List RestartEvent) (o : Opening) (before : List RestartEvent) → AllByRecursion IsInner p → PartOpened p o before
part_opened [] o before all = record { up = refl; opened = refl; since = refl; until = refl; expiry = refl }
part_opened (Opened x ∷ p) o before all = absurd all.0
part_opened (Closed ∷ p) o before all = absurd all.0
part_opened (Expired ∷ p) o before all = let h = part_opened p o before all.1 in record { up = h.up; opened = h.opened; since = ap (λ (q : List RestartEvent). Expired ∷ q) h.since; until = h.until; expiry = refl }
part_opened (Updated ds marks ∷ p) o before all = let h = part_opened p o before all.1 in record { up = h.up; opened = h.opened; since = ap (λ (q : List RestartEvent). Updated ds marks ∷ q) h.since; until = h.until; expiry = h.expiry }

record PartClosed (p before : List RestartEvent) : Type 0 where
  down : is_up (p ++ Closed ∷ before) ≡ false
  since : since_closed (p ++ Closed ∷ before) ≡ p
  until : until_closed (p ++ Closed ∷ before) ≡ before

part_closed : (p before : List RestartEvent) → AllByRecursion IsInner p → PartClosed p before
part_closed [] before all = record { down = refl; since = refl; until = refl }
part_closed (Opened x ∷ p) before all = absurd all.0
part_closed (Closed ∷ p) before all = absurd all.0
part_closed (Expired ∷ p) before all = let h = part_closed p before all.1 in record { down = h.down; since = ap (λ (q : List RestartEvent). Expired ∷ q) h.since; until = h.until }
part_closed (Updated ds marks ∷ p) before all = let h = part_closed p before all.1 in record { down = h.down; since = ap (λ (q : List RestartEvent). Updated ds marks ∷ q) h.since; until = h.until }

-- what the last closed period leaves, by its parts
left_parts : (events : List RestartEvent) (d : DownAfter events) (k : VpnKey) → left_over events k ≡ cond (d.opening.named && not (list_any is_expiry d.since)) (own d.period k) None
left_parts events d k =
    let c = part_closed d.since (d.period ++ Opened d.opening ∷ d.older) d.none_since in
    let o = part_opened d.period d.opening d.older d.one_period in
    ap (λ (es : List RestartEvent). left_over es k) d.are
    ∙ ap (λ (es : List RestartEvent). cond (says_named (opening es) && not (list_any is_expiry (since_closed (d.since ++ Closed ∷ (d.period ++ Opened d.opening ∷ d.older))))) (own (since_opened es) k) None) c.until
    ∙ ap (λ (es : List RestartEvent). cond (says_named (opening (d.period ++ Opened d.opening ∷ d.older)) && not (list_any is_expiry es)) (own (since_opened (d.period ++ Opened d.opening ∷ d.older)) k) None) c.since
    ∙ ap (λ (es : List RestartEvent). cond (says_named (opening (d.period ++ Opened d.opening ∷ d.older)) && not (list_any is_expiry d.since)) (own es k) None) o.since
    ∙ ap (λ x. cond (says_named x && not (list_any is_expiry d.since)) (own d.period k) None) o.opened

pub held_down : (events : List RestartEvent) (d : DownAfter events) (k : VpnKey) → held_at events k ≡ cond (d.opening.named && not (list_any is_expiry d.since)) (marked true (own d.period k)) None
held_down events d k =
    ap (λ b. cond b (held_up events k) (marked true (left_over events k))) (ap is_up d.are ∙ (part_closed d.since (d.period ++ Opened d.opening ∷ d.older) d.none_since).down)
    ∙ ap (marked true) (left_parts events d k)
    ∙ inside (d.opening.named && not (list_any is_expiry d.since)) where
      inside : (b : Bool) → marked true (cond b (own d.period k) None) ≡ cond b (marked true (own d.period k)) None
      inside true = refl
      inside false = refl

-- in a period, by what was left over of those before
left_up : (events : List RestartEvent) (u : UpIn events) (d : DownAfter u.before) (k : VpnKey) → left_over events k ≡ cond (d.opening.named && not (list_any is_expiry u.period || list_any is_expiry d.since)) (own d.period k) None
left_up events u d k =
    let p = part_opened u.period u.opening u.before u.one_period in
    let c = part_closed d.since (d.period ++ Opened d.opening ∷ d.older) d.none_since in
    let o = part_opened d.period d.opening d.older d.one_period in
    let whole = u.period ++ Opened u.opening ∷ u.before in
    let until : until_closed whole ≡ d.period ++ Opened d.opening ∷ d.older = p.until ∙ ap until_closed d.are ∙ c.until in
    let expiry : list_any is_expiry (since_closed whole) ≡ (list_any is_expiry u.period || list_any is_expiry d.since) =
    p.expiry ∙ ap (λ (es : List RestartEvent). list_any is_expiry u.period || list_any is_expiry es) (ap since_closed d.are ∙ c.since) in
    ap (λ (es : List RestartEvent). left_over es k) u.are
    ∙ ap (λ b. cond (says_named (opening (until_closed whole)) && not b) (own (since_opened (until_closed whole)) k) None) expiry
    ∙ ap (λ (es : List RestartEvent). cond (says_named (opening es) && not (list_any is_expiry u.period || list_any is_expiry d.since)) (own (since_opened es) k) None) until
    ∙ ap (λ (es : List RestartEvent). cond (says_named (opening (d.period ++ Opened d.opening ∷ d.older)) && not (list_any is_expiry u.period || list_any is_expiry d.since)) (own es k) None) o.since
    ∙ ap (λ x. cond (says_named x && not (list_any is_expiry u.period || list_any is_expiry d.since)) (own d.period k) None) o.opened

held_in : (events : List RestartEvent) (u : UpIn events) (k : VpnKey) → held_at events k ≡ cond (has_change u.period k) (marked false (own u.period k)) (cond (u.opening.kept && not (list_any is_mark u.period)) (marked true (left_over events k)) None)
held_in events u k =
    let p = part_opened u.period u.opening u.before u.one_period in
    let L = left_over events k in
    ap (λ b. cond b (held_up events k) (marked true L)) (ap is_up u.are ∙ p.up)
    ∙ ap (λ (es : List RestartEvent). cond (has_change es k) (marked false (own es k)) (cond (says_kept (opening events) && not (list_any is_mark es)) (marked true L) None)) (ap since_opened u.are ∙ p.since)
    ∙ ap (λ x. cond (has_change u.period k) (marked false (own u.period k)) (cond (says_kept x && not (list_any is_mark u.period)) (marked true L) None)) (ap opening u.are ∙ p.opened)

pub held_own : (events : List RestartEvent) (u : UpIn events) (k : VpnKey) → has_change u.period k ≡ true → held_at events k ≡ marked false (own u.period k)
held_own events u k c = held_in events u k ∙ ap (λ b. cond b (marked false (own u.period k)) (cond (u.opening.kept && not (list_any is_mark u.period)) (marked true (left_over events k)) None)) c

pub held_before : (events : List RestartEvent) (u : UpIn events) (d : DownAfter u.before) (k : VpnKey) → has_change u.period k ≡ false
    → held_at events k ≡ cond (u.opening.kept && not (list_any is_mark u.period)) (marked true (cond (d.opening.named && not (list_any is_expiry u.period || list_any is_expiry d.since)) (own d.period k) None)) None
held_before events u d k c =
    held_in events u k
    ∙ ap (λ b. cond b (marked false (own u.period k)) (cond (u.opening.kept && not (list_any is_mark u.period)) (marked true (left_over events k)) None)) c
    ∙ ap (λ x. cond (u.opening.kept && not (list_any is_mark u.period)) (marked true x) None) (left_up events u d k)

-- in the first period nothing is left over
no_close : (before : List RestartEvent) → AllByRecursion IsInner before → until_closed before ≡ []
no_close [] all = refl
no_close (Opened o ∷ before) all = absurd all.0
no_close (Closed ∷ before) all = absurd all.0
no_close (Expired ∷ before) all = no_close before all.1
no_close (Updated ds marks ∷ before) all = no_close before all.1

pub held_first : (events : List RestartEvent) (u : UpIn events) (k : VpnKey) → AllByRecursion IsInner u.before → has_change u.period k ≡ false → held_at events k ≡ None
held_first events u k all c =
    let p = part_opened u.period u.opening u.before u.one_period in
    held_in events u k
    ∙ ap (λ b. cond b (marked false (own u.period k)) (cond (u.opening.kept && not (list_any is_mark u.period)) (marked true (left_over events k)) None)) c
    ∙ ap (λ (es : List RestartEvent). cond (u.opening.kept && not (list_any is_mark u.period)) (marked true (cond (says_named (opening es) && not (list_any is_expiry (since_closed events))) (own (since_opened es) k) None)) None) (ap until_closed u.are ∙ p.until ∙ no_close u.before all)
    ∙ nothing (u.opening.kept && not (list_any is_mark u.period)) where
      nothing : (b : Bool) → cond {A = Option (VpnRoute × Bool)} b None None ≡ None
      nothing true = refl
      nothing false = refl

pub held_never : (events : List RestartEvent) (k : VpnKey) → AllByRecursion IsInner events → held_at events k ≡ None
held_never events k all =
    ap (λ b. cond b (held_up events k) (marked true (left_over events k))) (never_up events all)
    ∙ ap (λ (es : List RestartEvent). marked true (cond (says_named (opening es) && not (list_any is_expiry (since_closed events))) (own (since_opened es) k) None)) (no_close events all) where
      never_up : (es : List RestartEvent) → AllByRecursion IsInner es → is_up es ≡ false
      never_up [] all = refl
      never_up (Opened o ∷ es) all = absurd all.0
      never_up (Closed ∷ es) all = absurd all.0
      never_up (Expired ∷ es) all = never_up es all.1
      never_up (Updated ds marks ∷ es) all = never_up es all.1
