-- A selected path is what the paths to its prefix are, in whatever order.
use Rattle.std.specs.Prelude.{◌≡◌}
use Rattle.std.specs.declared.option.Option.{Option}
use Rattle.std.specs.declared.option.Option.TheVariants.{Some, None}
use Rattle.std.specs.FinMap.{get}
use Rattle.std.specs.Option.{option_map}
use Rattle.std.proofs.Common.{refl, sym, ◌∙◌, ap, subst}
use Rattle.ov_types.specs.Prefix.{Block}
use Rattle.ov_types.specs.declared.numbers.InstanceId.{InstanceId}
use Rattle.node_model.specs.Members.{Member}
use Rattle.node_model.specs.Paths.{Holdings, Path}
use Rattle.node_model.specs.Tables.{paths_of, selected, table}
use Rattle.node_model.proofs.Members.{none_some}
use Rattle.node_model.proofs.Selection.{selected_found, selected_least}
use Rattle.path_select.specs.Selection.{plain}
use Rattle.vpn_holdings.specs.At.{selected_at}
use Rattle.vpn_holdings.proofs.Choosing.{one_path}

-- each path of g to the prefix has one of h's beside it
abbrev pub Beside : Holdings → Holdings → InstanceId → Block → Type 0
Beside h g i q = (p : Path) → Member p (paths_of g i) → p.prefix ≡ q → (r : Path) × Member r (paths_of h i) × (r.prefix ≡ q)

-- where there is no row, and each path has one beside it, there is none
none_found : (h g : Holdings) (i : InstanceId) (q : Block) → Beside h g i q → get (table h i) q ≡ None → (o : Option Path) → get (table g i) q ≡ o → o ≡ None
none_found h g i q beside none None e = refl
none_found h g i q beside none (Some p) e =
    let l = selected_least (paths_of g i) q p e in
    let r = beside p l.member l.prefix_is in
    let f = selected_found (paths_of h i) r.0 r.1 in
    absurd (none_some f.0 (sym none ∙ subst (λ (x : Block). get (selected (paths_of h i)) x ≡ Some f.0) r.2 f.1))

nothing_plain : (o : Option Path) → option_map plain o ≡ None → o ≡ None
nothing_plain None e = refl
nothing_plain (Some p) e = absurd (none_some (plain p) (sym e))

pub none_stays : (h g : Holdings) (i : InstanceId) (q : Block) → Beside h g i q → selected_at h i q ≡ None → selected_at g i q ≡ None
none_stays h g i q beside none = ap (option_map plain) (none_found h g i q beside (nothing_plain (get (table h i) q) none) (get (table g i) q) refl)

-- each path of g to the prefix is one of h
abbrev pub Within : Holdings → Holdings → InstanceId → Block → Type 0
Within h g i q = (p : Path) → Member p (paths_of g i) → p.prefix ≡ q → Member p (paths_of h i)

within_beside : (h g : Holdings) (i : InstanceId) (q : Block) → Within h g i q → Beside h g i q
within_beside h g i q w = λ p m e. (p, w p m e, e)

some_found : (h g : Holdings) (i : InstanceId) (q : Block) → Within h g i q → Within g h i q → (p : Path) → get (table h i) q ≡ Some p → option_map plain (get (table g i) q) ≡ Some (plain p)
some_found h g i q w v p e =
    let l = selected_least (paths_of h i) q p e in
    let f = selected_found (paths_of g i) p (v p l.member l.prefix_is) in
    let is : get (table g i) q ≡ Some f.0 = subst (λ (x : Block). get (selected (paths_of g i)) x ≡ Some f.0) l.prefix_is f.1 in
    let k = selected_least (paths_of g i) q f.0 is in
    ap (option_map plain) is
    ∙ ap Some (one_path (plain f.0) (plain p) (l.least_of f.0 (w f.0 k.member k.prefix_is) k.prefix_is) (k.least_of p (v p l.member l.prefix_is) l.prefix_is))

pub same_selected : (h g : Holdings) (i : InstanceId) (q : Block) → Within h g i q → Within g h i q → selected_at h i q ≡ selected_at g i q
same_selected h g i q w v = by_case (get (table h i) q) refl
  where
    by_case : (o : Option Path) → get (table h i) q ≡ o → selected_at h i q ≡ selected_at g i q
    by_case None e = ap (option_map plain) e ∙ sym (none_stays h g i q (within_beside h g i q w) (ap (option_map plain) e))
    by_case (Some p) e = ap (option_map plain) e ∙ sym (some_found h g i q w v p e)
