-- Policies by sequence: the first match among their rules is the match of the policy with the least sequence.
use Rattle.std.proofs.Common.{◌≡◌, ℕ, ◌+◌, ◌<◌, ◌≤◌, ◌&&◌, ◌||◌, ltb, Bool, true, false, cond, List, [], ◌∷◌, Option, Some, None, flat_map, filter, length, get_or, drop, refl, sym, ap, ◌∙◌, arith}
use Rattle.std.proofs.lemmas.Bool.{ltb-true, ltb-false, le-ltb, lt-ltb}
use Rattle.ov_types.specs.declared.packet.Tuple.{Tuple}
use Rattle.config_types.specs.declared.config.Network.{Network}
use Rattle.config_types.specs.declared.config.Policy.{Policy}
use Rattle.config_types.specs.declared.config.Rule.{Rule}
use Rattle.ov_types.specs.First.{◌<|>◌, first_of}
use Rattle.ov_types.proofs.FirstLemmas.{first_flat, first_kept, next_is, all_here}
use Rattle.policy_rules.specs.declared.numbered.NumberedRule.{NumberedRule}
use Rattle.policy_rules.specs.Related.{numbered_from, numbered_rules, attaches, put_by_sequence, by_sequence, fits}
use Rattle.ov_types.specs.Access.{in_range}
use Rattle.policy_rules.specs.Matching.{Match, has_protocol, speaks_both_ways, match_by}
use Rattle.policy_rules.specs.Least.{match_in, least}

-- a rule that matches fits

fitless : (f g p s d both s' d' : Bool) (forwards mirrored : Match) → (f || g) ≡ false
    → cond (((f && p) && s) && d) (Some forwards) (cond ((((both && g) && p) && s') && d') (Some mirrored) None) ≡ None
fitless true g p s d both s' d' forwards mirrored h = cc
fitless false true p s d both s' d' forwards mirrored h = cc
fitless false false p s d true s' d' forwards mirrored h = refl
fitless false false p s d false s' d' forwards mirrored h = refl

unmatched : (a b : Network) (t : Tuple) (r : NumberedRule) → (fits r.rule a b || fits r.rule b a) ≡ false → match_by a b t r ≡ None
unmatched a b t r h =
    fitless (fits r.rule a b) (fits r.rule b a) (has_protocol r.rule.protocol t.proto) (in_range r.rule.source_ports t.sport) (in_range r.rule.destination_ports t.dport)
    (speaks_both_ways r.rule.direction) (in_range r.rule.source_ports t.dport) (in_range r.rule.destination_ports t.sport)
    (record { rule = r; mirrored = false }) (record { rule = r; mirrored = true }) h

-- a match names the rule that matches

named : (p q : Bool) (r : NumberedRule) (m : Match) → cond p (Some (record { rule = r; mirrored = false })) (cond q (Some (record { rule = r; mirrored = true })) None) ≡ Some m → m.rule ≡ r
named true q r m h = let e : m ≡ record { rule = r; mirrored = false } = cc in ap (λ (k : Match). k.rule) e
named false true r m h = let e : m ≡ record { rule = r; mirrored = true } = cc in ap (λ (k : Match). k.rule) e
named false false r m h = cc

pub matched_rule : (a b : Network) (t : Tuple) (r : NumberedRule) (m : Match) → match_by a b t r ≡ Some m → m.rule ≡ r
matched_rule a b t r m h = named _ _ r m h

abbrev sequence_of : Match → ℕ
sequence_of m = m.rule.number.sequence

sequence_kept : (a b : Network) (t : Tuple) (s place : ℕ) (rs : List Rule) (m : Match) → first_of (match_by a b t) (numbered_from s place rs) ≡ Some m → sequence_of m ≡ s
sequence_kept a b t s place [] m h = cc
sequence_kept a b t s place (r ∷ rs) m h =
    let here : NumberedRule = record { number = record { sequence = s; position = place }; rule = r } in
    let rest : Option Match = first_of (match_by a b t) (numbered_from s (place + 1) rs) in
    elim (match_by a b t here) as (λ o. match_by a b t here ≡ o → (o <|> rest) ≡ Some m → sequence_of m ≡ s) [
      | None ↦ λ e h'. sequence_kept a b t s (place + 1) rs m h'
      | Some k ↦ λ e h'.
          let same : k ≡ m = cc in
          ap sequence_of (sym same) ∙ ap (λ (x : NumberedRule). x.number.sequence) (matched_rule a b t here k e)
    ] refl h

-- policies in order, none before a sequence

abbrev Ascends : ℕ → List Policy → Type 0
Ascends s [] = Unit {0}
Ascends s (q ∷ qs) = (s ≤ q.sequence) × Ascends q.sequence qs

put_ascends : (s : ℕ) (p : Policy) (qs : List Policy) → s ≤ p.sequence → Ascends s qs → Ascends s (put_by_sequence p qs)
put_ascends s p [] le h = (le, tt)
put_ascends s p (q ∷ qs) le h =
    elim (ltb q.sequence p.sequence) as (λ b. ltb q.sequence p.sequence ≡ b → Ascends s (cond b (q ∷ put_by_sequence p qs) (p ∷ q ∷ qs))) [
      | true ↦ λ e. (h.0, put_ascends q.sequence p qs (omega (arith, ltb-true q.sequence p.sequence e)) h.1)
      | false ↦ λ e. (le, (omega (arith, ltb-false q.sequence p.sequence e), h.1))
    ] refl

ascends : (ps : List Policy) → Ascends 0 (by_sequence ps)
ascends [] = tt
ascends (p ∷ ps) = put_ascends 0 p (by_sequence ps) (omega arith) (ascends ps)

-- answers that have the sequence of their policy
module _ (g : Policy → Option Match) (kept : (p : Policy) (m : Match) → g p ≡ Some m → sequence_of m ≡ p.sequence) where
  not_before : (s : ℕ) (qs : List Policy) (m : Match) → Ascends s qs → first_of g qs ≡ Some m → s ≤ sequence_of m
  not_before s [] m up h = cc
  not_before s (q ∷ qs) m up h =
      elim (g q) as (λ o. g q ≡ o → (o <|> first_of g qs) ≡ Some m → s ≤ sequence_of m) [
        | None ↦ λ e h'. let later : q.sequence ≤ sequence_of m = not_before q.sequence qs m up.1 h' in omega (arith, up.0, later)
        | Some k ↦ λ e h'.
            let same : k ≡ m = cc in
            let at : sequence_of m ≡ q.sequence = ap sequence_of (sym same) ∙ kept q k e in
            omega (arith, up.0, at)
      ] refl h

  -- a match that comes first
  over : (p q : Policy) (o later : Option Match) → g q ≡ o → q.sequence < p.sequence → (o <|> least (g p) later) ≡ least (g p) (o <|> later)
  over p q None later e le = refl
  over p q (Some m) later e le =
      elim (g p) as (λ x. g p ≡ x → Some m ≡ least x (Some m)) [
        | None ↦ λ f. refl
        | Some k ↦ λ f.
            let first : ltb (sequence_of m) (sequence_of k) ≡ true = lt-ltb (sequence_of m) (sequence_of k) (omega (arith, kept q m e, kept p k f, le)) in
            sym (rw first refl)
      ] refl

  -- a match that comes after none
  before : (p : Policy) (later : Option Match) → ((m : Match) → later ≡ Some m → p.sequence ≤ sequence_of m) → (g p <|> later) ≡ least (g p) later
  before p later far =
      elim (g p) as (λ x. g p ≡ x → (x <|> later) ≡ least x later) [
        | None ↦ λ f. refl
        | Some k ↦ λ f.
            elim later as (λ o. later ≡ o → Some k ≡ least (Some k) o) [
              | None ↦ λ e. refl
              | Some m ↦ λ e.
                  let last : ltb (sequence_of m) (sequence_of k) ≡ false = le-ltb (sequence_of m) (sequence_of k) (omega (arith, far m e, kept p k f)) in
                  sym (rw last refl)
            ] refl
      ] refl

  put_least : (s : ℕ) (p : Policy) (qs : List Policy) → Ascends s qs → first_of g (put_by_sequence p qs) ≡ least (g p) (first_of g qs)
  put_least s p [] up = elim (g p) as (λ x. (x <|> None) ≡ least x None) [ None ↦ refl | Some k ↦ refl ]
  put_least s p (q ∷ qs) up =
      elim (ltb q.sequence p.sequence) as (λ b. ltb q.sequence p.sequence ≡ b → first_of g (cond b (q ∷ put_by_sequence p qs) (p ∷ q ∷ qs)) ≡ least (g p) (g q <|> first_of g qs)) [
        | true ↦ λ e.
            ap (λ (o : Option Match). g q <|> o) (put_least q.sequence p qs up.1)
            ∙ over p q (g q) (first_of g qs) refl (ltb-true q.sequence p.sequence e)
        | false ↦ λ e.
            before p (g q <|> first_of g qs)
            (λ m h. let far : q.sequence ≤ sequence_of m = not_before q.sequence (q ∷ qs) m (omega arith, up.1) h in omega (arith, ltb-false q.sequence p.sequence e, far))
      ] refl

-- the rule that decides, policy by policy in the document's order

abbrev pub among : Network → Network → Tuple → List Policy → Option Match
among a b t ps =
    first_of (match_by a b t)
    (filter (λ r. fits r.rule a b || fits r.rule b a) (flat_map numbered_rules (by_sequence (filter (λ p. attaches a p && attaches b p) ps))))

among_is : (a b : Network) (t : Tuple) (ps : List Policy) → among a b t ps ≡ first_of (λ p. first_of (match_by a b t) (numbered_rules p)) (by_sequence (filter (λ p. attaches a p && attaches b p) ps))
among_is a b t ps =
    let shared : List Policy = by_sequence (filter (λ p. attaches a p && attaches b p) ps) in
    first_kept (match_by a b t) (λ r. fits r.rule a b || fits r.rule b a) (unmatched a b t) (flat_map numbered_rules shared)
    ∙ first_flat (match_by a b t) numbered_rules shared

pub among_more : (a b : Network) (t : Tuple) (p : Policy) (ps : List Policy) → among a b t (p ∷ ps) ≡ least (match_in a b t p) (among a b t ps)
among_more a b t p ps =
    let g : Policy → Option Match = λ q. first_of (match_by a b t) (numbered_rules q) in
    let both : Policy → Bool = λ q. attaches a q && attaches b q in
    among_is a b t (p ∷ ps)
    ∙ elim (both p) as (λ v. first_of g (by_sequence (cond v (p ∷ filter both ps) (filter both ps))) ≡ least (cond v (g p) None) (first_of g (by_sequence (filter both ps)))) [
      | true ↦ put_least g (λ q m h. sequence_kept a b t q.sequence 1 q.rules m h) 0 p (by_sequence (filter both ps)) (ascends (filter both ps))
      | false ↦ refl
    ]
    ∙ ap (least (match_in a b t p)) (sym (among_is a b t ps))

least_apart : (x y z : Option Match) → least (least x y) z ≡ least x (least y z)
least_apart None y z = refl
least_apart (Some a) None z = refl
least_apart (Some a) (Some b) None = elim (ltb (sequence_of b) (sequence_of a)) as (λ v. least (cond v (Some b) (Some a)) None ≡ cond v (Some b) (Some a)) [ true ↦ refl | false ↦ refl ]
least_apart (Some a) (Some b) (Some c) =
    let i : ℕ = sequence_of a in
    let j : ℕ = sequence_of b in
    let k : ℕ = sequence_of c in
    elim (ltb j i) as (λ u. ltb j i ≡ u → least (cond u (Some b) (Some a)) (Some c) ≡ least (Some a) (cond (ltb k j) (Some c) (Some b))) [
      | true ↦ λ e.
          elim (ltb k j) as (λ v. ltb k j ≡ v → cond v (Some c) (Some b) ≡ least (Some a) (cond v (Some c) (Some b))) [
            | true ↦ λ f. let first : ltb k i ≡ true = lt-ltb k i (omega (arith, ltb-true j i e, ltb-true k j f)) in sym (rw first refl)
            | false ↦ λ f. sym (rw e refl)
          ] refl
      | false ↦ λ e.
          elim (ltb k j) as (λ v. ltb k j ≡ v → cond (ltb k i) (Some c) (Some a) ≡ least (Some a) (cond v (Some c) (Some b))) [
            | true ↦ λ f. refl
            | false ↦ λ f. let last : ltb k i ≡ false = le-ltb k i (omega (arith, ltb-false j i e, ltb-false k j f)) in rw (last, e) refl
          ] refl
    ] refl

-- one policy more
pub policy_here : (a b : Network) (t : Tuple) (ps : List Policy) (i : ℕ) (p : Policy) (best total : Option Match) → i < length ps → p ≡ get_or ps i p
    → least best (among a b t (drop i ps)) ≡ total → least (least best (match_in a b t p)) (among a b t (drop (i + 1) ps)) ≡ total
policy_here a b t ps i p best total lt at so_far =
    least_apart best (match_in a b t p) (among a b t (drop (i + 1) ps))
    ∙ ap (least best) (sym (among_more a b t p (drop (i + 1) ps)) ∙ ap (among a b t) (sym (next_is ps i p lt at)))
    ∙ so_far

-- a policy more, which has few rules
pub ruleset next_policy = (policy_here, all_here)
