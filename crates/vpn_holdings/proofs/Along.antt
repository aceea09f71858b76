-- What held uses give, one after the other, from the typed entries of the feed.
use Rattle.std.specs.Prelude.{◌≡◌, List, [], ◌∷◌, ◌++◌, Bool, true, false, cond}
use Rattle.std.specs.declared.option.Option.{Option}
use Rattle.std.specs.declared.option.Option.TheVariants.{Some, None}
use Rattle.std.specs.List.{cons_option, filter, filter_map, flat_map}
use Rattle.std.proofs.Common.{refl, sym, ◌∙◌, ap}
use Rattle.std.proofs.lemmas.List.{append_assoc}
use Rattle.ov_types.specs.declared.objects.LowKey.{LowKey}
use Rattle.ov_types.specs.declared.objects.LowValue.{LowValue}
use Rattle.path_select.specs.NodeModel.Maps.{Map, object, objects}
use Rattle.path_select.specs.NodeModel.Uses.{Use, as_use, uses}
use Rattle.vpn_holdings.specs.Kinds.{is_use}
use Rattle.vpn_holdings.specs.Leading.{use_at}
use Rattle.vpn_holdings.specs.Listing.{each_of}
use Rattle.vpn_holdings.proofs.KindWalks.{uses_in}
use Rattle.vpn_holdings.proofs.Uses.{use_is}

module _ {B : Type 0} (f : Use → List B) where
  abbrev pub along : List (LowKey × LowValue) → List B
  along es = flat_map f (filter_map (λ e. as_use e.0 e.1) es)

  first_use : (o : Option Use) (us : List Use) → flat_map f (cons_option o us) ≡ each_of f o ++ flat_map f us
  first_use None us = refl
  first_use (Some u) us = refl

  pub along_turn : (feed : Map) (k : LowKey) (v : LowValue) (rest : List (LowKey × LowValue)) (so_far new : List B) → object feed k ≡ Some v
      → new ≡ so_far ++ each_of f (use_at feed k) → new ++ along rest ≡ so_far ++ along ((k, v) ∷ rest)
  along_turn feed k v rest so_far new held is =
      ap (λ (l : List B). l ++ along rest) (is ∙ ap (λ (o : Option Use). so_far ++ each_of f o) (use_is feed k v held))
      ∙ append_assoc so_far (each_of f (as_use k v)) (along rest)
      ∙ ap (λ (l : List B). so_far ++ l) (sym (first_use (as_use k v) (filter_map (λ e. as_use e.0 e.1) rest)))

  -- those of the uses that are held
  pub along_held : (feed : Map) → along (filter (λ e. is_use e.0) (objects feed)) ≡ flat_map f (uses feed)
  along_held feed = ap (flat_map f) (uses_in (objects feed))

  -- those of the uses that pass a test
  pub along_passing : (test : Use → Bool) (us : List Use) → flat_map (λ u. cond (test u) (f u) []) us ≡ flat_map f (filter test us)
  along_passing test [] = refl
  along_passing test (u ∷ us) =
      elim (test u) as (λ b. cond b (f u) [] ++ flat_map (λ u. cond (test u) (f u) []) us ≡ flat_map f (cond b (u ∷ filter test us) (filter test us))) [
        | true ↦ ap (λ (l : List B). f u ++ l) (along_passing test us)
        | false ↦ along_passing test us
      ]
