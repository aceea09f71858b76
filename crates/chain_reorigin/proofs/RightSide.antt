-- Of each use the right side's routes stand first.
use Rattle.std.specs.Prelude.{◌≡◌, List, [], ◌∷◌, ◌++◌, true, false}
use Rattle.std.specs.List.{flat_map}
use Rattle.std.proofs.Common.{sym, ◌∙◌, ap, inl, inr}
use Rattle.std.proofs.lemmas.List.{append_assoc}
use Rattle.vpn_tables.specs.NodeModel.Members.{Member}
use Rattle.vpn_tables.specs.NodeModel.Paths.{Holdings, Path}
use Rattle.vpn_tables.specs.NodeModel.Reaching.{sides_of}
use Rattle.vpn_tables.specs.NodeModel.Uses.{Use, uses}
use Rattle.vpn_tables.specs.Leading.{leads}
use Rattle.chain_reorigin.specs.Laws.{RightFirst}

module _ (h : Holdings) where
  abbrev right : Use → List Path
  right u = leads h (record { chain = u; is_right = true })

  abbrev left : Use → List Path
  left u = leads h (record { chain = u; is_right = false })

  abbrev Split : Use → List Path → Type 0
  Split u all = (before : List Path) × (after : List Path) × (all ≡ before ++ (right u ++ (left u ++ after)))

  split : (u : Use) (us : List Use) → Member u us → Split u (flat_map (leads h) (flat_map sides_of us))
  split u [] m = absurd m
  split u (v ∷ us) (inl is) =
      ([], flat_map (leads h) (flat_map sides_of us), ap (λ w. right w ++ (left w ++ flat_map (leads h) (flat_map sides_of us))) is)
  split u (v ∷ us) (inr m) =
      let s = split u us m in
      let rest : List Path = right u ++ (left u ++ s.1) in (
        right v ++ (left v ++ s.0),
        s.1,
        ap (λ (l : List Path). right v ++ (left v ++ l)) s.2
            ∙ ap (λ (l : List Path). right v ++ l) (sym (append_assoc (left v) s.0 rest))
            ∙ sym (append_assoc (right v) (left v ++ s.0) rest),
      )

  pub right_first : (u : Use) → Member u (uses h.feed) → RightFirst h u
  right_first u m = let s = split u (uses h.feed) m in record { before = s.0; after = s.1; stands = s.2 }
