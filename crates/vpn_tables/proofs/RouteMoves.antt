-- A change of a peer's route moves the paths of its key alone.
use Rattle.std.specs.Prelude.{◌≡◌, ℕ, zero, suc, ◌+◌, List, [], ◌∷◌, ◌++◌, Bool}
use Rattle.std.specs.List.{enumerate_from, filter, filter_map, flat_map}
use Rattle.std.specs.FinMap.{empty, entries}
use Rattle.std.proofs.Common.{refl, sym, ◌∙◌, ap, subst, arith}
use Rattle.ov_sync.specs.Keyed.{changed}
use Rattle.ov_sync.proofs.Ascending.{entries-empty}
use Rattle.node_model.specs.Keys.{key_cmp}
use Rattle.node_model.specs.Values.{Value}
use Rattle.node_model.specs.Maps.{Change, Map}
use Rattle.node_model.specs.Paths.{Path, peer_path}
use Rattle.vpn_holdings.specs.Changes.{changed_at}
use Rattle.vpn_tables.proofs.Filtering.{filter_append}
use Rattle.vpn_holdings.specs.Moved.{map_at, moved_in}
use Rattle.vpn_tables.proofs.OneKey.{Off, changed_off, paths}

module _ (test : Path → Bool) where
  abbrev of_peer : ℕ × Map → List Path
  of_peer p = filter_map (λ e. peer_path p.0 e.0 e.1) (entries p.1)

  abbrev of_peers : ℕ → List Map → List Path
  of_peers n maps = flat_map of_peer (enumerate_from n maps)

  abbrev of_session : ℕ → Map → List Path
  of_session n m = paths test (peer_path n) m

  no_paths : (n : ℕ) → of_session n empty ≡ []
  no_paths n = ap (filter_map (λ e. peer_path n e.0 e.1)) (entries-empty {V = Value} key_cmp)

  beside : (ps qs ps' qs' : List Path) → filter test ps ≡ filter test ps' → filter test qs ≡ filter test qs' → filter test (ps ++ qs) ≡ filter test (ps' ++ qs')
  beside ps qs ps' qs' a b = filter_append test ps qs ∙ (λ i. a i ++ b i) ∙ sym (filter_append test ps' qs')

  here : (n s : ℕ) → s ≡ n + zero → s ≡ n
  here n s e = omega arith

  further : (n p s : ℕ) → s ≡ n + suc p → s ≡ n + 1 + p
  further n p s e = omega arith

  pub peers_off : (s n : ℕ) (maps : List Map) (place : ℕ) (d : Change) → s ≡ n + place → Off test (moved_in (peer_path s) (map_at maps place) d)
      → filter test (of_peers n maps) ≡ filter test (of_peers n (changed_at maps place d))
  peers_off s n [] zero d e h =
      ap (filter test) (sym (no_paths n)) ∙ changed_off test (peer_path n) empty d (subst (λ s. Off test (moved_in (peer_path s) empty d)) (here n s e) h)
      ∙ ap (filter test) (sym (append_none (of_session n (changed empty d))))
    where
      append_none : (ps : List Path) → ps ++ [] ≡ ps
      append_none [] = refl
      append_none (p ∷ ps) = λ i. p ∷ append_none ps i
  peers_off s n [] (suc place) d e h =
      peers_off s (n + 1) [] place d (further n place s e) h ∙ ap (λ ps. filter test (ps ++ of_peers (n + 1) (changed_at [] place d))) (sym (no_paths n))
  peers_off s n (m ∷ maps) zero d e h =
      beside (of_session n m) (of_peers (n + 1) maps) (of_session n (changed m d)) (of_peers (n + 1) maps)
      (changed_off test (peer_path n) m d (subst (λ s. Off test (moved_in (peer_path s) m d)) (here n s e) h)) refl
  peers_off s n (m ∷ maps) (suc place) d e h =
      beside (of_session n m) (of_peers (n + 1) maps) (of_session n m) (of_peers (n + 1) (changed_at maps place d)) refl
      (peers_off s (n + 1) maps place d (further n place s e) h)
