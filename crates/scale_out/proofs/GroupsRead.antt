-- Reading groups one after the other, as a loop does.
use Rattle.std.proofs.Common.{◌≡◌, ℕ, suc, ◌+◌, ◌<◌, ◌≤◌, List, [], ◌∷◌, ◌++◌, length, drop, get_or, true, false, Ok, Err, refl, sym, ap, ◌∙◌, add-one, drop-cons}
use Rattle.std.specs.Prelude.{Result}
use Rattle.std.proofs.Math.ListN.{drop_of_length-le}
use Rattle.serde_json.specs.Data.{Data}
use Rattle.serde_json.specs.Events.{items_len}
use Rattle.serde_json.specs.View.{view, items_view}
use Rattle.serde_json.specs.declared.value.Value.{Value}
use Rattle.serde_json.proofs.Views.{items_len-items_view}
use Rattle.ov_types.specs.Bounds.{is_from_to}
use Rattle.config_types.specs.declared.config.Config.{Config}
use Rattle.config_model.specs.declared.fault.DocKind.TheVariants.{Range}
use Rattle.config_model.specs.declared.fault.ReadRefusal.{ReadRefusal}
use Rattle.config_model.specs.declared.fault.ReadRefusal.TheVariants.{Doc, NoMemory}
use Rattle.config_model.specs.declared.fields.Count.TheVariants.{AnyNumber}
use Rattle.config_model.specs.Paths.{item_path}
use Rattle.config_model.specs.Faults.{Fault, Fails}
use Rattle.config_model.specs.Fields.{list_at}
use Rattle.scale_out.specs.declared.groups.Group.{Group}
use Rattle.scale_out.specs.Reading.{few_at, group_at, groups_from}

-- lists of 1 to 16 items

pub few_kept : (path : List ℕ) (d : Data) (vs : List Value) → list_at AnyNumber path d ≡ Ok (items_view vs) → is_from_to 1 16 (length vs) ≡ true
    → few_at path d ≡ Ok (items_view vs)
unfolding few_at
few_kept path d vs read few =
    let n : is_from_to 1 16 (items_len (items_view vs)) ≡ true = ap (is_from_to 1 16) (items_len-items_view vs) ∙ few in
    rw (read, n) refl

pub few_refused : (path : List ℕ) (d : Data) (vs : List Value) → list_at AnyNumber path d ≡ Ok (items_view vs) → is_from_to 1 16 (length vs) ≡ false
    → few_at path d ≡ Err (record { path = path; kind = Range })
unfolding few_at
few_refused path d vs read many =
    let n : is_from_to 1 16 (items_len (items_view vs)) ≡ false = ap (is_from_to 1 16) (items_len-items_view vs) ∙ many in
    rw (read, n) refl

-- the value at i is read next
next_is : (vs : List Value) (i : ℕ) (v : Value) → i < length vs → v ≡ get_or vs i v → drop i vs ≡ v ∷ drop (i + 1) vs
next_is vs i v lt e = rw add-one (drop-cons vs i v lt ∙ ap (λ w. w ∷ drop (suc i) vs) (sym e))

-- groups, each behind those that were read before it, where `total` is what reading them all gives
module _ (c : Config) (path : List ℕ) (gs : List Group) (vs : List Value) (i : ℕ) (total : Result (List Group) Fault)
    (so_far : groups_from c path i gs (items_view (drop i vs)) ≡ total) where
  pub goes_on : (front : List Group) (v : Value) (g : Group) → front ≡ gs → i < length vs → v ≡ get_or vs i v → group_at c front (item_path path i) (view v) ≡ Ok g
      → groups_from c path (i + 1) (gs ++ g ∷ []) (items_view (drop (i + 1) vs)) ≡ total
  goes_on front v g same lt at read =
      let next : group_at c gs (item_path path i) (view v) ≡ Ok g = ap (λ (xs : List Group). group_at c xs (item_path path i) (view v)) (sym same) ∙ read in
      let one : groups_from c path i gs (items_view (drop i vs)) ≡ groups_from c path (i + 1) (gs ++ g ∷ []) (items_view (drop (i + 1) vs)) =
      rw (next_is vs i v lt at, next) refl in
      sym one ∙ so_far

  pub stops : (e : ReadRefusal) (front : List Group) (v : Value) → front ≡ gs → i < length vs → v ≡ get_or vs i v → Fails e (group_at c front (item_path path i) (view v)) → Fails e total
  stops NoMemory front v same lt at read = tt
  stops (Doc f) front v same lt at read =
      let next : group_at c gs (item_path path i) (view v) ≡ Err _ = ap (λ (xs : List Group). group_at c xs (item_path path i) (view v)) (sym same) ∙ read in
      let one : groups_from c path i gs (items_view (drop i vs)) ≡ Err _ = rw (next_is vs i v lt at, next) refl in
      sym so_far ∙ one

  pub is_done : length vs ≤ i → total ≡ Ok gs
  is_done le =
      let one : groups_from c path i gs (items_view (drop i vs)) ≡ Ok gs = rw (drop_of_length-le vs le) refl in
      sym so_far ∙ one
