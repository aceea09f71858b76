-- The configuration node has another configuration, of the same control nodes: no other node reads what is valid there, so
-- that other nodes make the same passes.
use Rattle.std.specs.Prelude.{◌≡◌, ◌≢◌, ℕ, zero, suc, ◌+◌, List, [], ◌∷◌, length, Bool, true, false, cond, not, ◌&&◌, option_and_then}
use Rattle.std.specs.declared.option.Option.{Option}
use Rattle.std.specs.declared.option.Option.TheVariants.{Some, None}
use Rattle.std.specs.List.{slice_index_or}
use Rattle.std.specs.Option.{option_map}
use Rattle.std.proofs.lemmas.Option.{none-some, same_Some}
use Rattle.std.proofs.Common.{refl, sym, ◌∙◌, ap, subst, inl, inr, arith}
use Rattle.ov_types.specs.First.{same_name}
use Rattle.schedule_script.specs.ConfigCheck.Checked.{Checked}
use Rattle.node_model.specs.Members.{Member}
use Rattle.machine_laws.specs.MachineModel.Setup.{Name}
use Rattle.machine_laws.specs.MachineModel.Network.{config}
use Rattle.machine_laws.proofs.MachineModel.Distinct.{same_false}
use Rattle.running_nodes.specs.Moving.{PassesAll, PassesAt}
use Rattle.running_nodes.specs.Seats.{Configuring, Seat, far_of, index_from, is_down_at, is_name, live_at, name_of, names_of, other, others_of}
use Rattle.running_nodes.specs.Seats.{place_at, place_of, seat, seat_named, whole_at, whole_there}
use Rattle.running_nodes.specs.Steps.{Passes, cleared, cleared_at, cleared_from, told_of_loss, with_link, with_notice, with_seat}
use Rattle.running_nodes.specs.declared.place.SessionPlace.{SessionPlace}
use Rattle.running_laws.proofs.Clearing.{place}

-- the configuration node has what is valid then, and did nothing yet
abbrev pub reconfigured : Checked → List Seat → List Seat
reconfigured y seats = with_seat 0 (record (seat seats 0) { who = Configuring y }) seats

-- ---- the first seat stays that of the same node
head_link : (s : List Seat) (k i : ℕ) (ms : List (List ℕ)) → (seat (with_link (place k i) ms s) 0).who ≡ (seat s 0).who
head_link [] k i ms = refl
head_link (n ∷ s) zero i ms = refl
head_link (n ∷ s) (suc k) i ms = refl

head_notice : (s : List Seat) (k i : ℕ) (b : Bool) → (seat (with_notice (place k i) b s) 0).who ≡ (seat s 0).who
head_notice [] k i b = refl
head_notice (n ∷ s) zero i b = refl
head_notice (n ∷ s) (suc k) i b = refl

head_told : (s : List Seat) (o : Option SessionPlace) → (seat (told_of_loss s o) 0).who ≡ (seat s 0).who
head_told s None = refl
head_told s (Some q) =
    head_link (with_notice q (live_at s q) s) q.node q.session [] ∙ head_notice s q.node q.session (live_at s q)

head_at : (s : List Seat) (k i : ℕ) → (seat (cleared_at s (place k i)) 0).who ≡ (seat s 0).who
head_at s k i = by_tests (live_at s (place k i)) (is_down_at s (place k i))
  where
    by_tests : (b c : Bool)
        → (seat (cond b (cond c (with_link (place k i) [] s) s)
        (told_of_loss (with_notice (place k i) false (with_link (place k i) [] s)) (far_of s (place k i)))) 0).who
        ≡ (seat s 0).who
    by_tests true true = head_link s k i []
    by_tests true false = refl
    by_tests false c =
        head_told (with_notice (place k i) false (with_link (place k i) [] s)) (far_of s (place k i))
        ∙ head_notice (with_link (place k i) [] s) k i false ∙ head_link s k i []

head_from : (n k i : ℕ) (s : List Seat) → (seat (cleared_from n k i s) 0).who ≡ (seat s 0).who
head_from zero k i s = refl
head_from (suc n) k i s = head_from n k (i + 1) (cleared_at s (place k i)) ∙ head_at s k i

head_with : (s : List Seat) (k : ℕ) (n : Seat) → (seat (with_seat (suc k) n s) 0).who ≡ (seat s 0).who
head_with [] k n = refl
head_with (m ∷ s) k n = refl

-- ---- with another configuration
module _ (y : Checked) where
  abbrev then : List Seat → List Seat
  then s = reconfigured y s

  posts_then : (s : List Seat) (k : ℕ) → (seat (then s) k).posts ≡ (seat s k).posts
  posts_then [] k = refl
  posts_then (n ∷ s) zero = refl
  posts_then (n ∷ s) (suc k) = refl

  live_then : (s : List Seat) (k i : ℕ) → live_at (then s) (place k i) ≡ live_at s (place k i)
  live_then [] k i = refl
  live_then (n ∷ s) zero i = refl
  live_then (n ∷ s) (suc k) i = refl

  whole_then : (s : List Seat) (k i : ℕ) → whole_at (then s) (place k i) ≡ whole_at s (place k i)
  whole_then [] k i = refl
  whole_then (n ∷ s) zero i = refl
  whole_then (n ∷ s) (suc k) i = refl

  link_then : (s : List Seat) (k i : ℕ) (ms : List (List ℕ))
      → with_link (place k i) ms (then s) ≡ then (with_link (place k i) ms s)
  link_then [] k i ms = refl
  link_then (n ∷ s) zero i ms = refl
  link_then (n ∷ s) (suc k) i ms = refl

  notice_then : (s : List Seat) (k i : ℕ) (b : Bool)
      → with_notice (place k i) b (then s) ≡ then (with_notice (place k i) b s)
  notice_then [] k i b = refl
  notice_then (n ∷ s) zero i b = refl
  notice_then (n ∷ s) (suc k) i b = refl

  seat_then : (s : List Seat) (k : ℕ) → seat (then s) (suc k) ≡ seat s (suc k)
  seat_then [] k = refl
  seat_then (n ∷ s) k = refl

  with_then : (s : List Seat) (k : ℕ) (n : Seat) → with_seat (suc k) n (then s) ≡ then (with_seat (suc k) n s)
  with_then [] k n = refl
  with_then (m ∷ s) k n = refl

  told_then : (s : List Seat) (o : Option SessionPlace) → told_of_loss (then s) o ≡ then (told_of_loss s o)
  told_then s None = refl
  told_then s (Some q) =
      (λ i. with_link q [] (with_notice q (live_then s q.node q.session i) (then s)))
      ∙ ap (with_link q []) (notice_then s q.node q.session (live_at s q))
      ∙ link_then (with_notice q (live_at s q) s) q.node q.session []

  -- of the same control nodes
  abbrev pub IsOf : List Seat → Type 0
  IsOf s = (x : Checked) × ((seat s 0).who ≡ Configuring x) × (x.topology.controllers ≡ y.topology.controllers)

  is_of : (s s' : List Seat) → (seat s' 0).who ≡ (seat s 0).who → IsOf s → IsOf s'
  is_of s s' same h = (h.0, same ∙ h.1, h.2)

  others_then : (s : List Seat) → IsOf s → (k : ℕ) → others_of (seat (then s) k).who ≡ others_of (seat s k).who
  others_then [] h k = refl
  others_then (n ∷ s) h zero = ap names_of (sym h.2) ∙ ap others_of (sym h.1)
  others_then (n ∷ s) h (suc k) = refl

  name_then : (s : List Seat) → IsOf s → (k : ℕ) → name_of (seat (then s) k).who ≡ name_of (seat s k).who
  name_then [] h k = refl
  name_then (n ∷ s) h zero = ap name_of (sym h.1)
  name_then (n ∷ s) h (suc k) = refl

  pub named_then : (s : List Seat) → IsOf s → (a : Name) → seat_named (then s) a ≡ seat_named s a
  named_then [] h a = refl
  named_then (n ∷ s) h a =
      ap (λ m. cond (same_name m a) (Some 0) (index_from 1 (λ (n : Seat). same_name (name_of n.who) a) s)) (ap name_of (sym h.1))

  place_at_then : (s : List Seat) → IsOf s → (b : Name) (o : Option ℕ) → place_at (then s) b o ≡ place_at s b o
  place_at_then s h b None = refl
  place_at_then s h b (Some k) =
      ap (λ ms. option_map (λ i. record { node = k; session = i }) (index_from 0 (is_name b) ms)) (others_then s h k)

  place_then : (s : List Seat) → IsOf s → (a b : Name) → place_of (then s) a b ≡ place_of s a b
  place_then s h a b = ap (place_at (then s) b) (named_then s h a) ∙ place_at_then s h b (seat_named s a)

  other_then : (s : List Seat) → IsOf s → (k i : ℕ) → other (seat (then s) k) i ≡ other (seat s k) i
  other_then s h k i = ap (λ xs. slice_index_or xs i None) (others_then s h k)

  far_then : (s : List Seat) → IsOf s → (k i : ℕ) → far_of (then s) (place k i) ≡ far_of s (place k i)
  far_then s h k i =
      (λ j. option_and_then (λ b. place_of (then s) b (name_then s h k j)) (other_then s h k i j))
      ∙ (λ j. option_and_then (λ b. place_then s h b (name_of (seat s k).who) j) (other (seat s k) i))

  there_then : (s : List Seat) (o : Option SessionPlace) → whole_there (then s) o ≡ whole_there s o
  there_then s None = refl
  there_then s (Some q) = whole_then s q.node q.session

  down_then : (s : List Seat) → IsOf s → (k i : ℕ) → is_down_at (then s) (place k i) ≡ is_down_at s (place k i)
  down_then s h k i =
      (λ j. not (whole_then s k i j && whole_there (then s) (far_then s h k i j)))
      ∙ ap (λ b. not (whole_at s (place k i) && b)) (there_then s (far_of s (place k i)))

  lost_then : (s : List Seat) → IsOf s → (k i : ℕ)
      → told_of_loss (with_notice (place k i) false (with_link (place k i) [] (then s))) (far_of (then s) (place k i))
      ≡ then (told_of_loss (with_notice (place k i) false (with_link (place k i) [] s)) (far_of s (place k i)))
  lost_then s h k i =
      (λ j. told_of_loss (with_notice (place k i) false (link_then s k i [] j)) (far_then s h k i j))
      ∙ ap (λ u. told_of_loss u (far_of s (place k i))) (notice_then (with_link (place k i) [] s) k i false)
      ∙ told_then (with_notice (place k i) false (with_link (place k i) [] s)) (far_of s (place k i))

  at_then : (s : List Seat) → IsOf s → (k i : ℕ) → cleared_at (then s) (place k i) ≡ then (cleared_at s (place k i))
  at_then s h k i =
      (λ j. cond (live_then s k i j) (cond (down_then s h k i j) (link_then s k i [] j) (then s)) (lost_then s h k i j))
      ∙ by_tests (with_link (place k i) [] s) s
      (told_of_loss (with_notice (place k i) false (with_link (place k i) [] s)) (far_of s (place k i)))
      (live_at s (place k i)) (is_down_at s (place k i))
    where
      by_tests : (a b c : List Seat) (d e : Bool) → cond d (cond e (then a) (then b)) (then c) ≡ then (cond d (cond e a b) c)
      by_tests a b c true true = refl
      by_tests a b c true false = refl
      by_tests a b c false e = refl

  from_then : (n k i : ℕ) (s : List Seat) → IsOf s → cleared_from n k i (then s) ≡ then (cleared_from n k i s)
  from_then zero k i s h = refl
  from_then (suc n) k i s h =
      ap (cleared_from n k (i + 1)) (at_then s h k i)
      ∙ from_then n k (i + 1) (cleared_at s (place k i)) (is_of s (cleared_at s (place k i)) (head_at s k i) h)

  cleared_then : (s : List Seat) → IsOf s → (k : ℕ) → cleared (then s) k ≡ then (cleared s k)
  cleared_then s h k =
      ap (λ ps. cleared_from (length ps) k 0 (then s)) (posts_then s k) ∙ from_then (length (seat s k).posts) k 0 s h

  -- ---- a pass of another node
  abbrev IsSame : List Seat → List Seat → Option ℕ → Type 0
  IsSame s after o = PassesAt o (then s) (then after) × IsOf after

  same_pass : (o : Option ℕ) → o ≢ Some 0 → (s after : List Seat) → IsOf s → PassesAt o s after → IsSame s after o
  same_pass None off s after h is = (ap then is, subst IsOf (sym is) h)
  same_pass (Some zero) off s after h is = absurd (off refl)
  same_pass (Some (suc k)) off s after h is =
      let one = with_seat (suc k) is.0 s in
      let of_one : IsOf one = is_of s one (head_with s k is.0) h in (
        (
          is.0,
          subst (λ n. Passes n is.0) (sym (seat_then s k)) is.1,
          ap then is.2 ∙ sym (cleared_then one of_one (suc k)) ∙ ap (λ u. cleared u (suc k)) (sym (with_then s k is.0)),
        ),
        subst IsOf (sym is.2) (is_of one (cleared one (suc k)) (head_from (length (seat one (suc k)).posts) (suc k) 0 one) of_one),
      )

  -- no other name is that of the configuration node
  past_first : (is : Seat → Bool) (i : ℕ) (s : List Seat) → index_from (suc i) is s ≢ Some 0
  past_first is i [] e = none-some 0 e
  past_first is i (n ∷ s) e = by_test (past_first is (suc i) s) (is n) e
    where
      by_test : index_from (suc (suc i)) is s ≢ Some 0 → (b : Bool)
          → cond b (Some (suc i)) (index_from (suc (suc i)) is s) ≡ Some 0 → ⊥
      by_test rest true e = (let f = same_Some (suc i) 0 e in absurd (omega (arith, f)))
      by_test rest false e = rest e

  not_first : (s : List Seat) → IsOf s → (c : Name) → config ≢ c → seat_named s c ≢ Some 0
  not_first [] h c ne e = none-some 0 e
  not_first (n ∷ s) h c ne e =
      past_first (λ (n : Seat). same_name (name_of n.who) c) 0 s
      (sym (ap (λ b. cond b (Some 0) (index_from 1 (λ (n : Seat). same_name (name_of n.who) c) s))
      (ap (λ w. same_name (name_of w) c) h.1 ∙ same_false config c ne)) ∙ e)

  pub same_passes : (cs : List Name) → ((c : Name) → Member c cs → config ≢ c) → (s after : List Seat) → IsOf s
      → PassesAll cs s after → PassesAll cs (then s) (then after)
  same_passes [] off s after h is = ap then is
  same_passes (c ∷ cs) off s after h (between, one, more) =
      let q = same_pass (seat_named s c) (not_first s h c (off c (inl refl))) s between h one in (
        then between,
        subst (λ o. PassesAt o (then s) (then between)) (sym (named_then s h c)) q.0,
        same_passes cs (λ d i. off d (inr i)) between after q.1 more,
      )
