-- The paths that are walked over, from the typed entries.
use Rattle.std.specs.Prelude.{◌≡◌, ℕ, suc, ◌+◌, ◌<◌, length, drop, List, [], ◌∷◌, ◌++◌, map}
use Rattle.std.specs.declared.option.Option.{Option}
use Rattle.std.specs.List.{filter_map, flat_map, cons_option}
use Rattle.std.specs.List.Sorted.{IsStrictlySortedBy}
use Rattle.std.specs.FinMap.{entries}
use Rattle.std.proofs.Math.Seq.{drop-cons}
use Rattle.std.proofs.Common.{refl, sym, ◌∙◌, ap, arith, get_or}
use Rattle.ov_sync.specs.Embed.{moved_entry}
use Rattle.ov_types.specs.declared.keys.UpKey.{UpKey}
use Rattle.ov_types.specs.declared.numbers.Label.{Label as LabelNo}
use Rattle.path_select.specs.NodeModel.Keys.{Key, of_up}
use Rattle.path_select.specs.NodeModel.Values.{Value, Label}
use Rattle.path_select.specs.NodeModel.Paths.{Holdings, Told, Path, own_path}
use Rattle.vpn_holdings.specs.declared.holdings.Agent.{Agent}
use Rattle.vpn_holdings.specs.Views.{agent_of, up_order}
use Rattle.vpn_holdings.proofs.Images.{told-entries}

abbrev pub own_of : Holdings → Told → List Path
own_of h a = filter_map (λ e. own_path h a e.0 e.1) (entries a.map)

abbrev pub own_typed : Holdings → Agent → UpKey × LabelNo → Option Path
own_typed h a e = own_path h (agent_of a) (of_up e.0) (Label e.1)

filter_map-map : {A B C : Type 0} (f : B → Option C) (g : A → B) (xs : List A) → filter_map f (map g xs) ≡ filter_map (λ x. f (g x)) xs
filter_map-map f g [] = refl
filter_map-map {C = C} f g (x ∷ xs) = ap (λ (l : List C). cons_option (f (g x)) l) (filter_map-map f g xs)

pub own_is : (h : Holdings) (a : Agent) → IsStrictlySortedBy up_order (map (λ e. e.0) a.told) → own_of h (agent_of a) ≡ filter_map (own_typed h a) a.told
own_is h a sorted =
    ap (filter_map (λ (e : Key × Value). own_path h (agent_of a) e.0 e.1)) (told-entries a.told sorted)
    ∙ filter_map-map (λ (e : Key × Value). own_path h (agent_of a) e.0 e.1) (moved_entry of_up Label) a.told

pub next_place : (k : ℕ) → suc k ≡ k + 1
next_place k = omega arith

pub agents_turn : (h : Holdings) (items : List Agent) (k : ℕ) (a : Agent) → k < length items → a ≡ get_or items k a
    → flat_map (own_of h) (map agent_of (drop k items)) ≡ own_of h (agent_of a) ++ flat_map (own_of h) (map agent_of (drop (k + 1) items))
agents_turn h items k a lt e =
    ap (λ (l : List Agent). flat_map (own_of h) (map agent_of l)) (drop-cons items k a lt ∙ ap (λ (b : Agent). b ∷ drop (suc k) items) (sym e))
    ∙ (λ i. own_of h (agent_of a) ++ flat_map (own_of h) (map agent_of (drop (next_place k i) items)))
