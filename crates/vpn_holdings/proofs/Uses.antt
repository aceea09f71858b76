-- The routes that lead on, from the typed entries of the feed.
use Rattle.std.specs.Prelude.{◌≡◌, List, [], ◌∷◌, ◌++◌, map}
use Rattle.std.specs.declared.option.Option.{Option}
use Rattle.std.specs.declared.option.Option.TheVariants.{Some, None}
use Rattle.std.specs.List.{flat_map, filter, filter_map, cons_option}
use Rattle.std.proofs.Common.{refl, sym, ◌∙◌, ap}
use Rattle.std.proofs.lemmas.List.{append_assoc}
use Rattle.ov_sync.specs.Embed.{moved_entry}
use Rattle.ov_types.specs.declared.objects.LowKey.{LowKey}
use Rattle.ov_types.specs.declared.objects.LowKey.TheVariants as key
use Rattle.ov_types.specs.declared.objects.LowValue.{LowValue}
use Rattle.path_select.specs.NodeModel.Keys.{Low}
use Rattle.path_select.specs.NodeModel.Values.{Object}
use Rattle.path_select.specs.NodeModel.Maps.{Map, object, objects, low_entry}
use Rattle.path_select.specs.NodeModel.Uses.{Use, as_use, use_from}
use Rattle.path_select.specs.NodeModel.Paths.{Holdings, Path}
use Rattle.path_select.specs.NodeModel.Reaching.{Side, sides_of, reoriginated_paths}
use Rattle.vpn_holdings.specs.Kinds.{is_use}
use Rattle.vpn_holdings.specs.Leading.{leads, use_at, sides_of_held}
use Rattle.vpn_holdings.proofs.KindWalks.{uses_in}

abbrev Entry : Type 0
Entry = LowKey × LowValue

abbrev pub total : Holdings → List Entry → List Path
total h es = flat_map (leads h) (flat_map sides_of (filter_map (λ e. as_use e.0 e.1) es))

pub use_is : (feed : Map) (k : LowKey) (v : LowValue) → object feed k ≡ Some v → use_at feed k ≡ as_use k v
use_is feed (key.ChainUse n) v e = ap (use_from n) e
use_is feed (key.Instance n) v e = refl
use_is feed (key.Attach n) v e = refl
use_is feed (key.Acl a b) v e = refl

pub leads-append : (h : Holdings) (xs ys : List Side) → flat_map (leads h) (xs ++ ys) ≡ flat_map (leads h) xs ++ flat_map (leads h) ys
leads-append h [] ys = refl
leads-append h (x ∷ xs) ys = ap (λ (l : List Path). leads h x ++ l) (leads-append h xs ys) ∙ sym (append_assoc (leads h x) (flat_map (leads h) xs) (flat_map (leads h) ys))

sides_first : (o : Option Use) (us : List Use) → flat_map sides_of (cons_option o us) ≡ sides_of_held o ++ flat_map sides_of us
sides_first None us = refl
sides_first (Some u) us = refl

pub led_turn : (h : Holdings) (k : LowKey) (v : LowValue) (rest : List Entry) (routes new : List Path) → object h.feed k ≡ Some v
    → new ≡ routes ++ flat_map (leads h) (sides_of_held (use_at h.feed k)) → new ++ total h rest ≡ routes ++ total h ((k, v) ∷ rest)
led_turn h k v rest routes new held e =
    ap (λ (l : List Path). l ++ total h rest) (e ∙ ap (λ (o : Option Use). routes ++ flat_map (leads h) (sides_of_held o)) (use_is h.feed k v held))
    ∙ append_assoc routes (flat_map (leads h) (sides_of_held (as_use k v))) (total h rest)
    ∙ ap (λ (l : List Path). routes ++ l) (sym (leads-append h (sides_of_held (as_use k v)) (flat_map sides_of (filter_map (λ e. as_use e.0 e.1) rest)))
    ∙ ap (flat_map (leads h)) (sym (sides_first (as_use k v) (filter_map (λ e. as_use e.0 e.1) rest))))

-- ---- the two sides of a use

-- ---- the entries
pub objects_typed : (es : List Entry) → filter_map (λ e. low_entry e.0 e.1) (map (moved_entry Low Object) es) ≡ es
objects_typed [] = refl
objects_typed (e ∷ es) = ap (λ (l : List Entry). e ∷ l) (objects_typed es)

pub total_is : (h : Holdings) → total h (filter (λ e. is_use e.0) (objects h.feed)) ≡ reoriginated_paths h
total_is h = ap (λ (us : List Use). flat_map (leads h) (flat_map sides_of us)) (uses_in (objects h.feed))
