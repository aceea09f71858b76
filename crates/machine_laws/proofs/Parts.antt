-- Octets that are not a whole message.
use Rattle.std.specs.Prelude.{◌≡◌, ℕ, ◌<◌, ◌-◌, ◌+◌, List, [], ◌∷◌, true, false, cond, nat_lt}
use Rattle.std.proofs.lemmas.Bool.{true≢false}
use Rattle.std.proofs.Common.{refl, sym, ◌∙◌, ap, subst, inl, inr, arith}
use Rattle.node_laws.specs.NodeModel.Step.{Phase, Idle, Opened, Confirmed, Up}
use Rattle.machine_model.specs.Setup.{Name}
use Rattle.machine_model.specs.Session.{Message, Open, Keepalive, Hello, Carries, Session, arrived, closed, is_peering, item_took, octets_arrived, peer_took, told, took, took_first, took_octets, without_first}
use Rattle.machine_model.proofs.SessionFact.{sends, told_cases}

-- ---- a message that is taken leaves the rest in flight, where the session stays, and brings no notice
record IsTaken (s t : Session) : Type 0 where
  quiet : t.near.notice ≡ false
  rest : t.is_down ≡ false → t.far.flight ≡ s.far.flight

told_taken : (ms : List Message) (s : Session) → s.near.notice ≡ false → IsTaken s (told ms s)
told_taken ms s e =
    elim (told_cases ms s) as (λ _. IsTaken s (told ms s)) [
      | inl p ↦ record {
        quiet = ap (λ (t : Session). t.near.notice) p.1;
        rest = λ d. absurd (true≢false (sym (ap (λ (t : Session). t.is_down) p.1) ∙ d));
      }
      | inr p ↦ record {
        quiet = ap (λ (t : Session). t.near.notice) p.1
            ∙ elim s.is_down as (λ d. (sends ms (record { is_down = d; near = s.near; far = s.far })).near.notice ≡ false) [ true ↦ e | false ↦ e ];
        rest = λ _. ap (λ (t : Session). t.far.flight) p.1
            ∙ elim s.is_down as (λ d. (sends ms (record { is_down = d; near = s.near; far = s.far })).far.flight ≡ s.far.flight) [ true ↦ refl | false ↦ refl ];
      }
    ]

peer_taken : (p : Phase) (m : Message) (s : Session) → s.near.notice ≡ false → IsTaken s (peer_took p m s)
peer_taken Idle m s e = record { quiet = e; rest = λ _. refl }
peer_taken Opened Open s e = let t = told_taken (Keepalive ∷ []) (record s { near = record s.near { phase = Confirmed } }) e in record { quiet = t.quiet; rest = t.rest }
peer_taken Confirmed Keepalive s e = record { quiet = e; rest = λ _. refl }
peer_taken Up Keepalive s e = record { quiet = e; rest = λ _. refl }
peer_taken Up (Carries d) s e = record { quiet = e; rest = λ _. refl }
peer_taken _ _ s e = record { quiet = refl; rest = λ d. absurd (true≢false d) }

item_taken : (p : Phase) (m : Message) (s : Session) → s.near.notice ≡ false → IsTaken s (item_took p m s)
item_taken Idle m s e = record { quiet = e; rest = λ _. refl }
item_taken Opened Hello s e = record { quiet = e; rest = λ _. refl }
item_taken Up (Carries d) s e = record { quiet = e; rest = λ _. refl }
item_taken _ _ s e = record { quiet = refl; rest = λ d. absurd (true≢false d) }

is_taken : (m : Message) (s : Session) → s.near.notice ≡ false → IsTaken s (took m s)
is_taken m s e =
    elim (is_peering s) as (λ b. IsTaken s (cond b (peer_took s.near.phase m s) (item_took s.near.phase m s))) [
      | true ↦ peer_taken s.near.phase m s e
      | false ↦ item_taken s.near.phase m s e
    ]

-- ---- octets

module _ (size : Name → Message → ℕ) where
  is_part : (n k : ℕ) → n < k → nat_lt n k ≡ true
  is_part n k h = grind (arith, h)

  -- the session with so many octets more that were taken
  abbrev taken_more : ℕ → Session → Session
  taken_more n s = record s { far = record s.far { taken = s.far.taken + n } }

  within : (n : ℕ) (s : Session) (m : Message) (ms : List Message) → s.is_down ≡ false → n < size s.far.name m - s.far.taken → took_octets size n (m ∷ ms) s ≡ taken_more n s
  within n s m ms whole less =
      let rest : ℕ = size s.far.name m - s.far.taken in
      subst (λ d. cond d s (cond (nat_lt n rest) (taken_more n s) (took_octets size (n - rest) ms (took m (without_first ms s)))) ≡ taken_more n s) (sym whole)
      (subst (λ b. cond b (taken_more n s) (took_octets size (n - rest) ms (took m (without_first ms s))) ≡ taken_more n s) (sym (is_part n rest less)) refl)

  pub part_kept : (n : ℕ) (s : Session) (m : Message) (ms : List Message) → s.is_down ≡ false → s.near.notice ≡ false → s.far.flight ≡ m ∷ ms → n < size s.far.name m - s.far.taken
      → octets_arrived size n s ≡ taken_more n s
  unfolding octets_arrived
  part_kept n s m ms whole quiet flight less =
      subst (λ b. cond b (record s { near = closed s.near }) (took_octets size n s.far.flight s) ≡ taken_more n s) (sym quiet)
      (subst (λ f. took_octets size n f s ≡ taken_more n s) (sym flight) (within n s m ms whole less))

  pub notice_taken : (n : ℕ) (s : Session) → s.near.notice ≡ true → octets_arrived size n s ≡ arrived s
  unfolding octets_arrived arrived
  notice_taken n s waits =
      subst (λ b. cond b (record s { near = closed s.near }) (took_octets size n s.far.flight s) ≡ cond b (record s { near = closed s.near }) (took_first s.far.flight s)) (sym waits) refl

  -- on a session that is down no octets are taken
  down_stays : (f : List Message) (k : ℕ) (t : Session) → t.is_down ≡ true → took_octets size k f t ≡ t
  down_stays [] k t d = refl
  down_stays (m ∷ ms) k t d =
      let rest : ℕ = size t.far.name m - t.far.taken in
      subst (λ d. cond d t (cond (nat_lt k rest) (taken_more k t) (took_octets size (k - rest) ms (took m (without_first ms t)))) ≡ t) (sym d) refl

  -- where it is not, those in flight are
  as_in_flight : (ms : List Message) (k : ℕ) (t : Session) → (t.is_down ≡ false → t.far.flight ≡ ms) → took_octets size k ms t ≡ took_octets size k t.far.flight t
  as_in_flight ms k t rest =
      elim t.is_down as (λ d. t.is_down ≡ d → took_octets size k ms t ≡ took_octets size k t.far.flight t) [
        | true ↦ λ d. down_stays ms k t d ∙ sym (down_stays t.far.flight k t d)
        | false ↦ λ d. ap (λ f. took_octets size k f t) (sym (rest d))
      ] refl

  no_less : (n k : ℕ) → nat_lt (n + k) n ≡ false
  no_less n k = grind (arith)

  what_is_left : (n k : ℕ) → (n + k) - n ≡ k
  what_is_left n k = omega arith

  past : (k : ℕ) (s : Session) (m : Message) (ms : List Message) → s.is_down ≡ false → took_octets size ((size s.far.name m - s.far.taken) + k) (m ∷ ms) s ≡ took_octets size k ms (took m (without_first ms s))
  past k s m ms whole =
      let rest : ℕ = size s.far.name m - s.far.taken in
      let next : Session = took m (without_first ms s) in
      subst (λ d. cond d s (cond (nat_lt (rest + k) rest) (taken_more (rest + k) s) (took_octets size ((rest + k) - rest) ms next)) ≡ took_octets size k ms next) (sym whole)
      (subst (λ b. cond b (taken_more (rest + k) s) (took_octets size ((rest + k) - rest) ms next) ≡ took_octets size k ms next) (sym (no_less rest k))
      (ap (λ j. took_octets size j ms next) (what_is_left rest k)))

  pub whole_taken : (k : ℕ) (s : Session) (m : Message) (ms : List Message) → s.is_down ≡ false → s.near.notice ≡ false → s.far.flight ≡ m ∷ ms
      → octets_arrived size ((size s.far.name m - s.far.taken) + k) s ≡ octets_arrived size k (arrived s)
  unfolding octets_arrived arrived
  whole_taken k s m ms whole quiet flight =
      let n : ℕ = (size s.far.name m - s.far.taken) + k in
      let next : Session = took m (without_first ms s) in
      let taken = is_taken m (without_first ms s) quiet in
      let first : cond s.near.notice (record s { near = closed s.near }) (took_first s.far.flight s) ≡ next =
      subst (λ b. cond b (record s { near = closed s.near }) (took_first s.far.flight s) ≡ next) (sym quiet) (ap (λ f. took_first f s) flight) in
      let goes_on : took_octets size n s.far.flight s ≡ cond next.near.notice (record next { near = closed next.near }) (took_octets size k next.far.flight next) =
      ap (λ f. took_octets size n f s) flight ∙ past k s m ms whole ∙ as_in_flight ms k next taken.rest
      ∙ ap (λ b. cond b (record next { near = closed next.near }) (took_octets size k next.far.flight next)) (sym taken.quiet) in
      ap (λ b. cond b (record s { near = closed s.near }) (took_octets size n s.far.flight s)) quiet
      ∙ goes_on
      ∙ ap (λ (t : Session). cond t.near.notice (record t { near = closed t.near }) (took_octets size k t.far.flight t)) (sym first)

  pub none_taken : (n : ℕ) (s : Session) → s.near.notice ≡ false → s.far.flight ≡ [] → octets_arrived size n s ≡ s
  unfolding octets_arrived
  none_taken n s quiet flight =
      ap (λ b. cond b (record s { near = closed s.near }) (took_octets size n s.far.flight s)) quiet ∙ ap (λ f. took_octets size n f s) flight
