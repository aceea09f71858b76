-- Links that may fail, by what they keep.
use Rattle.std.proofs.Common.{◌≡◌, ◌<◌, ℕ, Bool, Option, Some, List, [], ◌∷◌, length, get_or, set, sym, ◌∙◌, ap, refl}
use Rattle.std.proofs.Math.ListN.{get_or-map as get_or-mapped}
use Rattle.std.proofs.lemmas.List.{get_or-map, length-map, map-set, set-get_or}
use Rattle.std.proofs.lemmas.Option.{get_or_from_slice_get, slice_get_within}
use Rattle.std.specs.List.{slice_get}
use Rattle.ov_link.specs.FailingState.{FailingState}
use Rattle.node_model.specs.Step.{At}
use Rattle.running_nodes.specs.MachineModel.Setup.{Name}
use Rattle.running_nodes.specs.Steps.{all_of}
use Rattle.running_nodes.specs.Halves.{IsEven, Outer, accepted_of, breaks_of}

-- an edge with these links
abbrev pub edge_of : Name → List (Option Name) → List Bool → List FailingState → Outer
edge_of name others notices links = record {
  name = name;
  others = others;
  links = accepted_of links;
  breaks = breaks_of links;
  notices = notices;
}

pub even_of : (name : Name) (others : List (Option Name)) (notices : List Bool) (ls ls' : List FailingState)
    → IsEven (edge_of name others notices ls) → length ls' ≡ length ls → IsEven (edge_of name others notices ls')
even_of name others notices ls ls' even long = record {
  links = length-map ls' (λ (l : FailingState). l.accepted) ∙ (long ∙ (sym (length-map ls (λ (l : FailingState). l.accepted)) ∙ even.links));
  breaks = length-map ls' (λ (l : FailingState). l.breaks) ∙ (long ∙ (sym (length-map ls (λ (l : FailingState). l.breaks)) ∙ even.breaks));
  notices = even.notices;
  few = even.few;
}

pub links_long : (name : Name) (others : List (Option Name)) (notices : List Bool) (ls : List FailingState) (e : Outer)
    → edge_of name others notices ls ≡ e → length ls ≡ length e.links
links_long name others notices ls e view =
    sym (length-map ls (λ (l : FailingState). l.accepted)) ∙ ap (λ (o : Outer). length o.links) view

-- ---- links on which nothing was sent
abbrev pub fresh_link : FailingState
fresh_link = record { accepted = []; breaks = []; faults = 0 }

pub fresh_accepted : {A : Type 0} (xs : List A) → accepted_of (all_of fresh_link xs) ≡ all_of [] xs
fresh_accepted [] = refl
fresh_accepted (x ∷ xs) = ap (λ (ls : List (List (List ℕ))). [] ∷ ls) (fresh_accepted xs)

pub fresh_breaks : {A : Type 0} (xs : List A) → breaks_of (all_of fresh_link xs) ≡ all_of [] xs
fresh_breaks [] = refl
fresh_breaks (x ∷ xs) = ap (λ (bs : List (List ℕ)). [] ∷ bs) (fresh_breaks xs)

-- ---- one of them
module _ (ls : List FailingState) (i : ℕ) (l : FailingState) (at : slice_get ls i ≡ Some l) where
  within : i < length ls
  within = slice_get_within ls i l at

  pub accepted_at : get_or (accepted_of ls) i [] ≡ l.accepted
  accepted_at =
      get_or-map (λ (m : FailingState). m.accepted) ls i l [] within
      ∙ ap (λ (m : FailingState). m.accepted) (get_or_from_slice_get ls i l l at)

  pub breaks_at : get_or (breaks_of ls) i [] ≡ l.breaks
  breaks_at =
      get_or-map (λ (m : FailingState). m.breaks) ls i l [] within
      ∙ ap (λ (m : FailingState). m.breaks) (get_or_from_slice_get ls i l l at)

  -- another in its place
  module _ (new : FailingState) where
    accepted_set : (messages : List (List ℕ)) → new.accepted ≡ messages
        → accepted_of (set ls i new) ≡ set (accepted_of ls) i messages
    accepted_set messages is =
        map-set (λ (m : FailingState). m.accepted) ls i new ∙ ap (λ (ms : List (List ℕ)). set (accepted_of ls) i ms) is

    breaks_set : (breaks : List ℕ) → new.breaks ≡ breaks → breaks_of (set ls i new) ≡ set (breaks_of ls) i breaks
    breaks_set breaks is =
        map-set (λ (m : FailingState). m.breaks) ls i new ∙ ap (λ (bs : List ℕ). set (breaks_of ls) i bs) is

    accepted_same : new.accepted ≡ l.accepted → accepted_of (set ls i new) ≡ accepted_of ls
    accepted_same is =
        accepted_set l.accepted is
        ∙ (ap (λ (ms : List (List ℕ)). set (accepted_of ls) i ms) (sym accepted_at) ∙ set-get_or (accepted_of ls) i [])

    breaks_same : new.breaks ≡ l.breaks → breaks_of (set ls i new) ≡ breaks_of ls
    breaks_same is =
        breaks_set l.breaks is
        ∙ (ap (λ (bs : List ℕ). set (breaks_of ls) i bs) (sym breaks_at) ∙ set-get_or (breaks_of ls) i [])

    -- ---- in an edge
    module _ (o : Outer) (name : Name) (others : List (Option Name)) (notices : List Bool) where
      module _ (view : edge_of name others notices ls ≡ o) where
        -- the messages of one end change
        pub links_changed : (f : List (List ℕ) → List (List ℕ)) → new.accepted ≡ f l.accepted → new.breaks ≡ l.breaks
            → edge_of name others notices (set ls i new) ≡ record o { links = set o.links i (f (get_or o.links i [])) }
        links_changed f is same =
            let messages = accepted_set (f (get_or (accepted_of ls) i [])) (is ∙ ap f (sym accepted_at)) in
            let breaks = breaks_same same in
            let changed : edge_of name others notices (set ls i new) ≡ record (edge_of name others notices ls) { links = set (accepted_of ls) i (f (get_or (accepted_of ls) i [])) } =
            λ j. record { name = name; others = others; links = messages j; breaks = breaks j; notices = notices } in
            changed ∙ ap (λ (p : Outer). let q : Outer = record p { links = set p.links i (f (get_or p.links i [])) } in q) view

        -- the breaks of one end change
        pub breaks_changed : (f : List ℕ → List ℕ) → new.breaks ≡ f l.breaks → new.accepted ≡ l.accepted
            → edge_of name others notices (set ls i new) ≡ record o { breaks = set o.breaks i (f (get_or o.breaks i [])) }
        breaks_changed f is same =
            let messages = accepted_same same in
            let breaks = breaks_set (f (get_or (breaks_of ls) i [])) (is ∙ ap f (sym breaks_at)) in
            let changed : edge_of name others notices (set ls i new) ≡ record (edge_of name others notices ls) { breaks = set (breaks_of ls) i (f (get_or (breaks_of ls) i [])) } =
            λ j. record { name = name; others = others; links = messages j; breaks = breaks j; notices = notices } in
            changed ∙ ap (λ (p : Outer). let q : Outer = record p { breaks = set p.breaks i (f (get_or p.breaks i [])) } in q) view

        -- nothing changes
        pub edge_same : new.accepted ≡ l.accepted → new.breaks ≡ l.breaks → edge_of name others notices (set ls i new) ≡ o
        edge_same accepted breaks =
            let messages = accepted_same accepted in
            let same = breaks_same breaks in
            let changed : edge_of name others notices (set ls i new) ≡ edge_of name others notices ls =
            λ j. record { name = name; others = others; links = messages j; breaks = same j; notices = notices } in
            changed ∙ view

-- ---- those of a seat's end
pub accepted_there : (ls : List FailingState) (i : ℕ) (l : FailingState) → At ls i l → get_or (accepted_of ls) i [] ≡ l.accepted
accepted_there ls i l at = get_or-mapped (λ (m : FailingState). m.accepted) ls i fresh_link ∙ ap (λ (m : FailingState). m.accepted) (at fresh_link)

pub breaks_there : (ls : List FailingState) (i : ℕ) (l : FailingState) → At ls i l → get_or (breaks_of ls) i [] ≡ l.breaks
breaks_there ls i l at = get_or-mapped (λ (m : FailingState). m.breaks) ls i fresh_link ∙ ap (λ (m : FailingState). m.breaks) (at fresh_link)
