-- Elements of lists that were stored, and what depends on the nodes of seats alone: their names, sessions and places.
use Rattle.std.specs.Prelude.{◌≡◌, ◌≢◌, ◌⊎◌, ◌<◌, ◌≤◌, ℕ, suc, zero, List, [], ◌∷◌, map, length, Bool, false, cond, option_and_then}
use Rattle.std.specs.Prelude.{slice_index_or}
use Rattle.std.specs.declared.option.Option.{Option}
use Rattle.std.specs.declared.option.Option.TheVariants.{Some, None}
use Rattle.std.specs.Option.{option_map, unwrap_or}
use Rattle.std.specs.List.{slice_set}
use Rattle.std.proofs.lemmas.Bool.{cases_eq, cases_lt}
use Rattle.std.proofs.lemmas.List.{get_or-set_same, get_or-set_other, get_or_past, length-map, map-set, set-get_or}
use Rattle.std.proofs.lemmas.Option.{none-some, same_Some}
use Rattle.std.proofs.Common.{refl, sym, ◌∙◌, ap, subst, inl, inr}
use Rattle.ov_types.specs.First.{same_name}
use Rattle.node_model.specs.Step.{nothing}
use Rattle.machine_laws.specs.MachineModel.Setup.{Name}
use Rattle.machine_laws.specs.MachineModel.Network.{MachineState}
use Rattle.running_nodes.specs.Seats.{Seat, far_of, index_from, is_name, name_of, nobody, other, others_of, place_at, place_of}
use Rattle.running_nodes.specs.Seats.{seat, seat_named, session_with}
use Rattle.running_nodes.specs.Stands.{HasEnd, IsLong, IsVacant, Seats}
use Rattle.running_nodes.specs.Steps.{with_seat}
use Rattle.running_nodes.specs.declared.place.SessionPlace.{SessionPlace}
use Rattle.running_laws.specs.Wiring.{IsPlace, name_at, other_at}

-- ---- seats
pub seat_here : (k : ℕ) (n : Seat) (seats : List Seat) → k < length seats → seat (with_seat k n seats) k ≡ n
seat_here k n seats lt = get_or-set_same seats k n nobody lt

pub seat_elsewhere : (k j : ℕ) (n : Seat) (seats : List Seat) → j ≢ k → seat (with_seat k n seats) j ≡ seat seats j
seat_elsewhere k j n seats ne = get_or-set_other seats k j n nobody ne

-- the nodes are the same
abbrev pub AreAlike : List Seat → List Seat → Type 0
AreAlike seats seats' = map (λ (n : Seat). n.who) seats' ≡ map (λ (n : Seat). n.who) seats

pub who_at : (seats : List Seat) (k : ℕ)
    → (seat seats k).who ≡ slice_index_or (map (λ (n : Seat). n.who) seats) k nobody.who
who_at [] k = refl
who_at (n ∷ seats) zero = refl
who_at (n ∷ seats) (suc k) = who_at seats k

pub index_map : {A B : Type 0} (is : B → Bool) (f : A → B) (i : ℕ) (xs : List A)
    → index_from i (λ a. is (f a)) xs ≡ index_from i is (map f xs)
index_map is f i [] = refl
index_map is f i (a ∷ xs) = ap (λ o. cond (is (f a)) (Some i) o) (index_map is f (suc i) xs)

pub with_alike : (k : ℕ) (n : Seat) (seats : List Seat) → n.who ≡ (seat seats k).who → AreAlike seats (with_seat k n seats)
with_alike k n seats e =
    map-set (λ (n : Seat). n.who) seats k n
    ∙ ap (λ x. slice_set (map (λ (n : Seat). n.who) seats) k x) (e ∙ who_at seats k)
    ∙ set-get_or (map (λ (n : Seat). n.who) seats) k nobody.who

module _ (seats seats' : List Seat) (alike : AreAlike seats seats') where
  pub same_long : length seats' ≡ length seats
  same_long = sym (length-map seats' (λ (n : Seat). n.who)) ∙ ap length alike ∙ length-map seats (λ (n : Seat). n.who)

  pub same_who : (k : ℕ) → (seat seats' k).who ≡ (seat seats k).who
  same_who k = who_at seats' k ∙ ap (λ xs. slice_index_or xs k nobody.who) alike ∙ sym (who_at seats k)

  pub same_name_at : (p : SessionPlace) → name_at seats' p ≡ name_at seats p
  same_name_at p = ap name_of (same_who p.node)

  pub same_other : (p : SessionPlace) → other (seat seats' p.node) p.session ≡ other (seat seats p.node) p.session
  same_other p = ap (λ x. slice_index_or (others_of x) p.session None) (same_who p.node)

  pub same_other_at : (p : SessionPlace) → other_at seats' p ≡ other_at seats p
  same_other_at p = ap (λ o. unwrap_or o []) (same_other p)

  pub same_place : (p : SessionPlace) → IsPlace seats' p → IsPlace seats p
  same_place p h = record {
    node = subst (λ n. p.node < n) same_long h.node;
    session = subst (λ x. p.session < length (others_of x)) (same_who p.node) h.session;
    somebody = sym (same_other p) ∙ h.somebody ∙ ap Some (same_other_at p);
  }

  pub same_named : (a : Name) → seat_named seats' a ≡ seat_named seats a
  same_named a =
      index_map (λ x. same_name (name_of x) a) (λ (n : Seat). n.who) 0 seats'
      ∙ ap (index_from 0 (λ x. same_name (name_of x) a)) alike
      ∙ sym (index_map (λ x. same_name (name_of x) a) (λ (n : Seat). n.who) 0 seats)

  same_place_at : (b : Name) (o : Option ℕ) → place_at seats' b o ≡ place_at seats b o
  same_place_at b None = refl
  same_place_at b (Some k) =
      ap (λ x. option_map (λ i. record { node = k; session = i }) (index_from 0 (is_name b) (others_of x)))
      (same_who k)

  pub same_place_of : (a b : Name) → place_of seats' a b ≡ place_of seats a b
  same_place_of a b = ap (place_at seats' b) (same_named a) ∙ same_place_at b (seat_named seats a)

  pub same_far_of : (p : SessionPlace) → far_of seats' p ≡ far_of seats p
  same_far_of p =
      (λ i. option_and_then (λ b. place_of seats' b (same_name_at p i)) (same_other p i))
      ∙ (λ i. option_and_then (λ b. same_place_of b (name_at seats p) i) (other (seat seats p.node) p.session))

-- ---- which place
pub same_or_other : (p q : SessionPlace) → (p ≡ q) ⊎ (p ≢ q)
same_or_other p q = by_node (cases_eq p.node q.node) (cases_eq p.session q.session)
  where
    by_node : (p.node ≡ q.node) ⊎ (p.node ≢ q.node) → (p.session ≡ q.session) ⊎ (p.session ≢ q.session) → (p ≡ q) ⊎ (p ≢ q)
    by_node (inl e) (inl f) = inl (λ i. record { node = e i; session = f i })
    by_node (inr e) f = inr (λ is. e (ap (λ (p : SessionPlace). p.node) is))
    by_node (inl e) (inr f) = inr (λ is. f (ap (λ (p : SessionPlace). p.session) is))

-- the node of a place that is found by names
place_node : (seats : List Seat) (b : Name) (o : Option ℕ) (p : SessionPlace) → place_at seats b o ≡ Some p → o ≡ Some p.node
place_node seats b None p is = absurd (none-some p is)
place_node seats b (Some k) p is = by_session (session_with (seat seats k) b) is
  where
    by_session : (o : Option ℕ) → option_map (λ i. record { node = k; session = i }) o ≡ Some p → Some k ≡ Some p.node
    by_session None is = absurd (none-some p is)
    by_session (Some i) is = ap (λ (p : SessionPlace). Some p.node) (same_Some (record { node = k; session = i }) p is)

pub named_by : (seats : List Seat) (a b : Name) (p : SessionPlace) → place_of seats a b ≡ Some p → seat_named seats a ≡ Some p.node
named_by seats a b p is = place_node seats b (seat_named seats a) p is

-- ---- who is at the other end
found_within : {A : Type 0} (xs : List (Option A)) (i : ℕ) (a : A) → slice_index_or xs i None ≡ Some a → i < length xs
found_within xs i a is = by_length (cases_lt i (length xs))
  where
    by_length : (i < length xs) ⊎ (length xs ≤ i) → i < length xs
    by_length (inl less) = less
    by_length (inr more) = absurd (none-some a (sym (get_or_past xs i None more) ∙ is))

-- past all seats there is nobody
past_seats : (seats : List Seat) (p : SessionPlace) → length seats ≤ p.node → other (seat seats p.node) p.session ≡ None
past_seats seats p more = ap (λ (n : Seat). other n p.session) (get_or_past seats p.node nobody more)

-- where somebody is there is a place
pub place_with : (seats : List Seat) (p : SessionPlace) (b : Name) → other (seat seats p.node) p.session ≡ Some b
    → IsPlace seats p
place_with seats p b is = record {
  node = by_length (cases_lt p.node (length seats));
  session = found_within (others_of (seat seats p.node).who) p.session b is;
  somebody = is ∙ ap Some (sym (ap (λ o. unwrap_or o []) is));
}
  where
    by_length : (p.node < length seats) ⊎ (length seats ≤ p.node) → p.node < length seats
    by_length (inl less) = less
    by_length (inr more) = absurd (none-some b (sym (past_seats seats p more) ∙ is))

pub there_or_nobody : (seats : List Seat) (p : SessionPlace) → IsPlace seats p ⊎ (other (seat seats p.node) p.session ≡ None)
there_or_nobody seats p = by_other (other (seat seats p.node) p.session) refl
  where
    by_other : (o : Option Name) → other (seat seats p.node) p.session ≡ o
        → IsPlace seats p ⊎ (other (seat seats p.node) p.session ≡ None)
    by_other None is = inr is
    by_other (Some b) is = inl (place_with seats p b is)

pub not_nobody : (seats : List Seat) (p r : SessionPlace) → IsPlace seats p → other (seat seats r.node) r.session ≡ None → r ≢ p
not_nobody seats p r is none e =
    none-some (other_at seats p)
    (sym none ∙ ap (λ (p : SessionPlace). other (seat seats p.node) p.session) e ∙ is.somebody)

-- a session that is nobody's leads nowhere
pub far_nowhere : (seats : List Seat) (p : SessionPlace) → other (seat seats p.node) p.session ≡ None → far_of seats p ≡ None
far_nowhere seats p none = ap (option_and_then (λ b. place_of seats b (name_at seats p))) none

-- ---- nothing is at the ends that are nobody's
abbrev pub AreVacant : List Seat → Type 0
AreVacant seats = (p : SessionPlace) → other (seat seats p.node) p.session ≡ None → IsVacant (seat seats p.node) p.session

-- nor past all ends
pub vacant_past : (n : Seat) (i : ℕ) → IsLong n → length (others_of n.who) ≤ i → IsVacant n i
vacant_past n i l more = record {
  post = get_or_past n.posts i nothing (subst (λ m. m ≤ i) (sym l.posts) more);
  kept = get_or_past n.kept i [] (subst (λ m. m ≤ i) (sym l.kept) more);
  link = get_or_past n.links i [] (subst (λ m. m ≤ i) (sym l.links) more);
  breaks = get_or_past n.breaks i [] (subst (λ m. m ≤ i) (sym l.breaks) more);
  notice = get_or_past n.notices i false (subst (λ m. m ≤ i) (sym l.notices) more);
}

pub vacant_nobody : (i : ℕ) → IsVacant nobody i
vacant_nobody i = record { post = refl; kept = refl; link = refl; breaks = refl; notice = refl }

-- each seat has room for its sessions, and nothing is at those that are nobody's
pub record AreFit (seats : List Seat) : Type 0 where
  pub long : (k : ℕ) → k < length seats → IsLong (seat seats k)
  pub vacant : AreVacant seats

pub fit_within : (seats : List Seat) → ((k : ℕ) → k < length seats → IsLong (seat seats k))
    → ((k i : ℕ) → k < length seats → i < length (others_of (seat seats k).who) → other (seat seats k) i ≡ None
    → IsVacant (seat seats k) i)
    → AreFit seats
fit_within seats long vacant = record {
  long = long;
  vacant = λ p none. by_node p none (cases_lt p.node (length seats)) (cases_lt p.session (length (others_of (seat seats p.node).who)));
}
  where
    by_node : (p : SessionPlace) → other (seat seats p.node) p.session ≡ None → (p.node < length seats) ⊎ (length seats ≤ p.node)
        → (p.session < length (others_of (seat seats p.node).who)) ⊎ (length (others_of (seat seats p.node).who) ≤ p.session)
        → IsVacant (seat seats p.node) p.session
    by_node p none (inl lt) (inl less) = vacant p.node p.session lt less none
    by_node p none (inl lt) (inr more) = vacant_past (seat seats p.node) p.session (long p.node lt) more
    by_node p none (inr out) b =
        subst (λ n. IsVacant n p.session) (sym (get_or_past seats p.node nobody out)) (vacant_nobody p.session)

pub seats_fit : (seats : List Seat) (w : MachineState) → Seats seats w → AreFit seats
seats_fit seats w stands =
    fit_within seats stands.long
    (λ k i lt less none. stands.vacant k i lt (subst (λ m. i < m) (sym (stands.long k lt).posts) less) none)

-- what stands at a place
abbrev pub EndAt : MachineState → List Seat → SessionPlace → Type 0
EndAt w seats p = HasEnd w (seat seats p.node) p.session (other_at seats p)
