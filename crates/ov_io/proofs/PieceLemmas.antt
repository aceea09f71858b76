-- How pieces make the whole text.
use Rattle.std.proofs.Common.{◌≡◌, ◌+◌, ℕ, List, [], ◌++◌, Option, length, take, drop, refl, ap, sym, ◌∙◌, subst, arith}
use Rattle.std.proofs.lemmas.List.{append_assoc, append-nil, length-append, take-append-drop}
use Rattle.std.proofs.Math.Seq.{take-append_seam}
use Rattle.std.specs.Prelude.{OnOk, OnErr, Result, Ok, Err}
use Rattle.std.proofs.KnownBytes.{Appends-nil, Appends-trans}
use Rattle.std.specs.Io.KnownBytes.{Appends}
use Rattle.ov_io.specs.Inputs.{TookFront}
use Rattle.ov_io.specs.Pieces.{HasWriteCause, IsOnItsWay}
use Rattle.ov_io.specs.declared.pieces.WriteRefusal.{WriteRefusal}

-- nothing was taken yet
pub way_begins : (old : Option (List ℕ)) (gathered left : List ℕ) → IsOnItsWay old old gathered left (gathered ++ left)
way_begins old gathered left = record { taken = []; appended = Appends-nil old; joined = refl }

-- what is gathered stays so
pub way_stays : (old : Option (List ℕ)) (gathered : List ℕ) → IsOnItsWay old old gathered [] gathered
way_stays old gathered = record { taken = []; appended = Appends-nil old; joined = append-nil gathered }

-- what was gathered was taken
pub way_taken : (old new : Option (List ℕ)) (gathered after : List ℕ) → Appends old new gathered → after ≡ []
    → IsOnItsWay old new after [] gathered
way_taken old new gathered after taken none =
    record {
      taken = gathered;
      appended = taken;
      joined = ap (λ (t : List ℕ). gathered ++ (t ++ [])) none ∙ append-nil gathered;
    }

-- one way goes on where another ends
pub way_goes_on : (old mid new : Option (List ℕ)) (before after text left more whole : List ℕ) → IsOnItsWay old mid before left whole
    → left ≡ text ++ more → IsOnItsWay mid new after [] (before ++ text) → IsOnItsWay old new after more whole
way_goes_on old mid new before after text left more whole way split on =
    let said : on.taken ++ after ≡ before ++ text = ap (λ (t : List ℕ). on.taken ++ t) (sym (append-nil after)) ∙ on.joined in
    let here : on.taken ++ (after ++ more) ≡ before ++ left =
    sym (append_assoc on.taken after more) ∙ ap (λ (t : List ℕ). t ++ more) said ∙ append_assoc before text more
    ∙ ap (λ (t : List ℕ). before ++ t) (sym split) in
    record {
      taken = way.taken ++ on.taken;
      appended = Appends-trans old mid new way.taken on.taken way.appended on.appended;
      joined = append_assoc way.taken on.taken (after ++ more) ∙ ap (λ (t : List ℕ). way.taken ++ t) here ∙ way.joined;
    }

-- more is left than was said
pub way_lengthens : (old new : Option (List ℕ)) (gathered left more whole : List ℕ) → IsOnItsWay old new gathered left whole
    → IsOnItsWay old new gathered (left ++ more) (whole ++ more)
way_lengthens old new gathered left more whole way =
    record {
      taken = way.taken;
      appended = way.appended;
      joined =
          ap (λ (t : List ℕ). way.taken ++ t) (sym (append_assoc gathered left more)) ∙ sym (append_assoc way.taken (gathered ++ left) more)
          ∙ ap (λ (t : List ℕ). t ++ more) way.joined;
    }

-- all that was gathered was taken, and nothing is left
pub way_ends : (old mid new : Option (List ℕ)) (gathered left whole : List ℕ) → IsOnItsWay old mid gathered left whole → left ≡ []
    → Appends mid new gathered → Appends old new whole
way_ends old mid new gathered left whole way none last =
    let here : gathered ++ left ≡ gathered = ap (λ (t : List ℕ). gathered ++ t) none ∙ append-nil gathered in
    let joined : way.taken ++ gathered ≡ whole = ap (λ (t : List ℕ). way.taken ++ t) (sym here) ∙ way.joined in
    subst (λ (t : List ℕ). Appends old new t) joined (Appends-trans old mid new way.taken gathered way.appended last)

-- nothing is a front of every text
pub took_nothing : (old : Option (List ℕ)) (whole : List ℕ) → TookFront old old whole
took_nothing old whole = record { count = 0; fits = omega arith; front = Appends-nil old }

-- a front of a text, after which more comes
front_of : (old new : Option (List ℕ)) (front more : List ℕ) → Appends old new front → TookFront old new (front ++ more)
front_of old new front more taken =
    record {
      count = length front;
      fits = omega (arith, length-append front more);
      front = subst (λ (t : List ℕ). Appends old new t) (sym (take-append_seam front more)) taken;
    }

-- and so it is where the next piece stops
pub way_breaks : (old mid new : Option (List ℕ)) (before text left more whole : List ℕ) → IsOnItsWay old mid before left whole
    → left ≡ text ++ more → TookFront mid new (before ++ text) → TookFront old new whole
way_breaks old mid new before text left more whole way split stop =
    let here = before ++ text in
    let front = take stop.count here in
    let rest = drop stop.count here ++ more in
    let there : front ++ rest ≡ before ++ left =
    sym (append_assoc front (drop stop.count here) more) ∙ ap (λ (t : List ℕ). t ++ more) (take-append-drop stop.count here)
    ∙ append_assoc before text more ∙ ap (λ (t : List ℕ). before ++ t) (sym split) in
    let joined : (way.taken ++ front) ++ rest ≡ whole =
    append_assoc way.taken front rest ∙ ap (λ (t : List ℕ). way.taken ++ t) there ∙ way.joined in
    subst (λ (t : List ℕ). TookFront old new t) joined
    (front_of old new (way.taken ++ front) rest (Appends-trans old mid new way.taken front way.appended stop.front))

-- what holds in any case holds at an error
pub on_err : {T E : Type 0} (r : Result T E) (P : Type 0) → P → OnErr r P
on_err (Ok x) P p = tt
on_err (Err e) P p = p

-- a front of what is gathered is a front of the whole
pub way_cut : (old mid new : Option (List ℕ)) (gathered left whole : List ℕ) → IsOnItsWay old mid gathered left whole
    → TookFront mid new gathered → TookFront old new whole
way_cut old mid new gathered left whole way stop =
    way_breaks old mid new gathered [] left left whole way refl
    (subst (λ (t : List ℕ). TookFront mid new t) (sym (append-nil gathered)) stop)

-- what is gathered at the end is written, or a front of it
pub ends_whole : {E : Type 0} (r : Result Unit E) (old mid new : Option (List ℕ)) (gathered left whole : List ℕ)
    → IsOnItsWay old mid gathered left whole → left ≡ [] → OnOk r (Appends mid new gathered) → OnOk r (Appends old new whole)
ends_whole (Ok x) old mid new gathered left whole way none last = way_ends old mid new gathered left whole way none last
ends_whole (Err e) old mid new gathered left whole way none last = tt

pub ends_cut : {E : Type 0} (r : Result Unit E) (old mid new : Option (List ℕ)) (gathered left whole : List ℕ)
    → IsOnItsWay old mid gathered left whole → OnErr r (TookFront mid new gathered) → OnErr r (TookFront old new whole)
ends_cut (Ok x) old mid new gathered left whole way stop = tt
ends_cut (Err e) old mid new gathered left whole way stop = way_cut old mid new gathered left whole way stop

-- the cause of a step is that of the whole, where nothing was counted before
pub cause_from : {T : Type 0} (r : Result T WriteRefusal) (before mid now : ℕ) → mid ≡ before → HasWriteCause mid now r → HasWriteCause before now r
cause_from r before mid now same cause = subst (λ (n : ℕ). HasWriteCause n now r) same cause
