-- The configurations of a window with one accepted edit at most: the first, and what that edit makes of it. In such a window no
-- address changes hands.
use Rattle.std.specs.Prelude.{◌≡◌, ◌≤◌, ◌⊎◌, ℕ, List, [], ◌∷◌, ◌++◌, length}
use Rattle.std.specs.List.{Contains}
use Rattle.std.specs.declared.option.Option.{Option}
use Rattle.std.specs.declared.option.Option.TheVariants.{None, Some}
use Rattle.std.proofs.Common.{ap, arith, inl, inr, refl, subst, sym, ◌∙◌}
use Rattle.std.proofs.lemmas.List.Elements.{All-contains}
use Rattle.std.proofs.lemmas.Option.{same_Some}
use Rattle.ov_types.specs.declared.numbers.InstanceId.{InstanceId}
use Rattle.ov_types.specs.declared.numbers.PortNo.{PortNo}
use Rattle.ov_types.specs.declared.packet.Packet.{Packet}
use Rattle.ov_types.proofs.FirstLemmas.{contains_cases}
use Rattle.config_types.specs.declared.edit.Edit.{Edit}
use Rattle.schedule_script.specs.ConfigCheck.Checked.{Checked}
use Rattle.schedule_script.specs.ConfigCheck.EditFault.{EditFault}
use Rattle.schedule_script.specs.ConfigCheck.Edits as config_edits
use Rattle.node_laws.specs.NodeModel.Members.{Member}
use Rattle.node_laws.proofs.NodeModel.Members.{none_some}
use Rattle.machine_model.specs.Events.{Break, Connect, Deliver, DeliverOctets, Edits, Lose, MachineEvent, Restart, Round, Settle, Show, Trace, edits, next}
use Rattle.machine_model.specs.Network.{MachineState}
use Rattle.machine_model.specs.Session.{Message}
use Rattle.machine_model.specs.Setup.{Name, Setup, checked, edited, edited_without, moves, opening}
use Rattle.machine_model.proofs.NodesFact.{HasSetup, setup_steps}
use Rattle.machine_model.proofs.Walk.{next_walk}
use Rattle.machine_laws.specs.Headline.{IsWritten}
use Rattle.hitless_cells.specs.Hands.{HasPortAt, ImportsNumber, KeepsInHand}
use Rattle.hitless_cells.specs.Keeping.{IsValidAsWritten}
use Rattle.hitless_cells.specs.Ways.{Offers, Track, Way}
use Rattle.hitless_cells.proofs.ByKind.{parts_of_fault}
use Rattle.hitless_cells.proofs.OneEdit.{Change, changed, turned}
use Rattle.hitless_cells.proofs.Hands.{across}
use Rattle.machine_moment_laws.specs.Windows.{led_by, led_to, led_to_by}
use Rattle.machine_moment_laws.specs.Kept.{IsInHand}

-- ---- what one edit leads to
-- a configuration is that which an accepted edit makes of another
abbrev pub IsMadeOf : Checked → Checked → Type 0
IsMadeOf b c = (d : Edit) × (config_edits.edit_fault b d ≡ None) × (config_edits.edited d b ≡ c)

made_by : (x : Setup) (d : Edit) (y : Setup) → edited x d ≡ Some y → IsMadeOf (checked x) (checked y)
made_by x d y e = by (config_edits.edit_fault (checked x) d) refl e
  where
    by : (o : Option EditFault) → config_edits.edit_fault (checked x) d ≡ o → edited_without o x d ≡ Some y → IsMadeOf (checked x) (checked y)
    by None is h = (d, is, ap checked (same_Some _ y h))
    by (Some f) is h = absurd (none_some y h)

module _ (size : Name → Message → ℕ) where
  setup_stays : (w : MachineState) (e : MachineEvent) → ((d : Edit) → e ≡ Edits d → ⊥) → (next size w e).setup ≡ w.setup
  setup_stays w e none = next_walk size (HasSetup w.setup) (setup_steps size w.setup) w e (λ d is _. absurd (none d is)) refl

  setup_refused : (w : MachineState) (d : Edit) → edited w.setup d ≡ None → (next size w (Edits d)).setup ≡ w.setup
  unfolding next
  setup_refused w d is = ap (λ (o : Option Setup). (edits (moves d w.setup.topology) o w).setup) is

  goes_on : (w : MachineState) (e : MachineEvent) (es : List MachineEvent) (c : Checked) (cs : List Checked) → ((d : Edit) → e ≡ Edits d → ⊥) → led_to size (next size w e) es ≡ c ∷ cs
      → (led_to size (next size w e) es ≡ c ∷ cs → IsMadeOf (checked (next size w e).setup) c) → IsMadeOf (checked w.setup) c
  goes_on w e es c cs none is rest = subst (λ (x : Setup). IsMadeOf (checked x) c) (setup_stays w e none) (rest is)

  -- the first accepted edit of a list of events leads from the configuration before it
  pub first_made : (w : MachineState) (es : List MachineEvent) (c : Checked) (cs : List Checked) → led_to size w es ≡ c ∷ cs → IsMadeOf (checked w.setup) c
  first_made w [] c cs e = absurd (nothing e)
    where
      nothing : [] ≡ c ∷ cs → ⊥
      nothing e = omega (arith, ap (λ (xs : List Checked). length xs) e)
  first_made w (Edits d ∷ es) c cs e = by (edited w.setup d) refl (first_made (next size w (Edits d)) es c cs)
    where
      by : (o : Option Setup) → edited w.setup d ≡ o → (led_to size (next size w (Edits d)) es ≡ c ∷ cs → IsMadeOf (checked (next size w (Edits d)).setup) c) → IsMadeOf (checked w.setup) c
      by None is rest =
          let none : led_to_by w (Edits d) ≡ [] = ap led_by is in
          subst (λ (x : Setup). IsMadeOf (checked x) c) (setup_refused w d is) (rest (ap (λ (xs : List Checked). xs ++ led_to size (next size w (Edits d)) es) (sym none) ∙ e))
      by (Some y) is rest =
          let one : led_to_by w (Edits d) ≡ checked y ∷ [] = ap led_by is in
          let same : checked y ∷ led_to size (next size w (Edits d)) es ≡ c ∷ cs = ap (λ (xs : List Checked). xs ++ led_to size (next size w (Edits d)) es) (sym one) ∙ e in
          subst (IsMadeOf (checked w.setup)) (same_first (checked y) c (led_to size (next size w (Edits d)) es) cs same) (made_by w.setup d y is)
        where
          same_first : (a b : Checked) (xs ys : List Checked) → a ∷ xs ≡ b ∷ ys → a ≡ b
          same_first a b xs ys e = cc
  first_made w (Deliver a b n ∷ es) c cs e = goes_on w (Deliver a b n) es c cs (λ d e. cc) e (first_made (next size w (Deliver a b n)) es c cs)
  first_made w (DeliverOctets a b n ∷ es) c cs e = goes_on w (DeliverOctets a b n) es c cs (λ d e. cc) e (first_made (next size w (DeliverOctets a b n)) es c cs)
  first_made w (Lose a b ∷ es) c cs e = goes_on w (Lose a b) es c cs (λ d e. cc) e (first_made (next size w (Lose a b)) es c cs)
  first_made w (Connect a b ∷ es) c cs e = goes_on w (Connect a b) es c cs (λ d e. cc) e (first_made (next size w (Connect a b)) es c cs)
  first_made w (Restart n ∷ es) c cs e = goes_on w (Restart n) es c cs (λ d e. cc) e (first_made (next size w (Restart n)) es c cs)
  first_made w (Round ∷ es) c cs e = goes_on w Round es c cs (λ d e. cc) e (first_made (next size w Round) es c cs)
  first_made w (Settle ∷ es) c cs e = goes_on w Settle es c cs (λ d e. cc) e (first_made (next size w Settle) es c cs)
  first_made w (Show n ∷ es) c cs e = goes_on w (Show n) es c cs (λ d e. cc) e (first_made (next size w (Show n)) es c cs)
  first_made w (Trace p ∷ es) c cs e = goes_on w (Trace p) es c cs (λ d e. cc) e (first_made (next size w (Trace p)) es c cs)
  first_made w (Break a b n ∷ es) c cs e = goes_on w (Break a b n) es c cs (λ d e. cc) e (first_made (next size w (Break a b n)) es c cs)

-- ---- no address changes hands
module _ (p : Packet) (number : PortNo) (way : Way) (track : Track) where
  -- between two configurations that offer a way, of which one edit makes the one of the other, or which are one
  keeps_between : (x y : Checked) → IsValidAsWritten x → IsValidAsWritten y → Offers x p number way track → Change x y
      → (other : InstanceId) → ImportsNumber x.config track.from other → HasPortAt y.config other p.destination → other ≡ track.to
  keeps_between x y v w o change other i h = across p number way track x y v w o other i h change

  keeps_one : (b : Checked) → IsValidAsWritten b → Offers b p number way track → KeepsInHand (b ∷ []) track.from track.to p.destination
  keeps_one b v o x y other at_x at_y i h =
      let x_is : b ≡ x = the_one b x at_x in
      let y_is : b ≡ y = the_one b y at_y in
      keeps_between b b v v o (inl refl) other (subst (λ (u : Checked). ImportsNumber u.config track.from other) (sym x_is) i) (subst (λ (u : Checked). HasPortAt u.config other p.destination) (sym y_is) h)
    where
      the_one : (b z : Checked) → Contains (b ∷ []) z → b ≡ z
      the_one b z at = elim (contains_cases b [] z at) [ inl same ↦ same | inr never ↦ absurd (omega (arith, never.1)) ]

  keeps_two : (b c : Checked) → IsValidAsWritten b → IsValidAsWritten c → IsMadeOf b c → Offers b p number way track → Offers c p number way track → KeepsInHand (b ∷ c ∷ []) track.from track.to p.destination
  keeps_two b c v w made before after x y other at_x at_y i h = by (contains_cases b (c ∷ []) x at_x) (contains_cases b (c ∷ []) y at_y)
    where
      change : Change b c
      change = subst (Change b) made.2 (changed b made.0 (parts_of_fault made.0 b made.1).0)

      only : (z : Checked) → Contains (c ∷ []) z → c ≡ z
      only z at = elim (contains_cases c [] z at) [ inl same ↦ same | inr never ↦ absurd (omega (arith, never.1)) ]

      to : (y' z : Checked) → y' ≡ x → z ≡ y → IsValidAsWritten y' → IsValidAsWritten z → Offers y' p number way track → Change y' z → other ≡ track.to
      to y' z is_x is_y vy vz offers change =
          keeps_between y' z vy vz offers change other (subst (λ (u : Checked). ImportsNumber u.config track.from other) (sym is_x) i) (subst (λ (u : Checked). HasPortAt u.config other p.destination) (sym is_y) h)

      by : (b ≡ x) ⊎ Contains (c ∷ []) x → (b ≡ y) ⊎ Contains (c ∷ []) y → other ≡ track.to
      by (inl first) (inl second) = to b b first second v v before (inl refl)
      by (inl first) (inr second) = to b c first (only y second) v w before change
      by (inr first) (inl second) = to c b (only x first) second w v after (turned b c change)
      by (inr first) (inr second) = to c c (only x first) (only y second) w w after (inl refl)

-- so in a window with one accepted edit at most
pub in_hand : (b : Checked) (ds : List Checked) → length (b ∷ ds) ≤ 2 → ((c : Checked) → Member c (b ∷ ds) → IsWritten (opening c)) → ((c : Checked) (cs : List Checked) → ds ≡ c ∷ cs → IsMadeOf b c)
    → (p : Packet) (number : PortNo) (ways : List Way) → IsInHand (b ∷ ds) p number ways
in_hand b [] few written made p number ways way track among straight all = keeps_one p number way track b (as_written b (written b (inl refl))) (offers b (0, omega arith, refl))
  where
    as_written : (c : Checked) → IsWritten (opening c) → IsValidAsWritten c
    as_written c w = record { form = w.config; valid = w.valid }

    offers : (c : Checked) → Contains (b ∷ []) c → Offers c p number way track
    offers c at = All-contains (λ (x : Checked). Offers x p number way track) (b ∷ []) c all at
in_hand b (c ∷ []) few written made p number ways way track among straight all =
    keeps_two p number way track b c (as_written b (written b (inl refl))) (as_written c (written c (inr (inl refl)))) (made c [] refl) (offers b (0, omega arith, refl)) (offers c (1, omega arith, refl))
  where
    as_written : (c : Checked) → IsWritten (opening c) → IsValidAsWritten c
    as_written c w = record { form = w.config; valid = w.valid }

    offers : (z : Checked) → Contains (b ∷ c ∷ []) z → Offers z p number way track
    offers z at = All-contains (λ (x : Checked). Offers x p number way track) (b ∷ c ∷ []) z all at
in_hand b (c ∷ d ∷ ds) few written made p number ways way track among straight all = absurd (omega (arith, few))
