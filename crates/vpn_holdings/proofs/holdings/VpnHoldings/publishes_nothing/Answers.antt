use Rattle.std.proofs.Common.{◌≡◌, ◌∙◌, ◌==◌, ap, sym, subst, refl, arith, List, [], ◌∷◌, ℕ, cond, map, inl, inr}
use Rattle.std.specs.Prelude.{Bool, true, false, not, ◌||◌, Option, Some, None}
use Rattle.std.specs.BTreeMap.{is_at}
use Rattle.std.specs.Cmp.{Equal-is}
use Rattle.std.specs.FinMap.{get}
use Rattle.std.specs.List.{list_any}
use Rattle.std.specs.Map.{lookup}
use Rattle.std.specs.Ordering.{is_eq}
use Rattle.std.proofs.lemmas.Bool.{eqb-true, or_cases, true≢false}
use Rattle.std.proofs.lemmas.Bool.Decides.{nat_tests}
use Rattle.ov_types.specs.Prefix.{Block}
use Rattle.path_select.specs.NodeModel.Keys.{Publish}
use Rattle.path_select.specs.NodeModel.Maps.{as_label}
use Rattle.path_select.specs.NodeModel.Paths.{Holdings}
use Rattle.path_select.proofs.NodeModel.Members.{none_some}
use Rattle.node_laws.specs.Quiet.{PublishesNothing}
use Rattle.vpn_holdings.specs.Listing.{told_in}
use Rattle.vpn_holdings.specs.Indexed.{block_at, if_told, label_at, label_in, label_order}
use Rattle.vpn_holdings.specs.Views.{agent_of}
use Rattle.vpn_holdings.specs.declared.places.LabelAt.{LabelAt}
use Rattle.vpn_holdings.proofs.PrefixOrder.{label_exact, label_itself}
use Rattle.vpn_holdings.proofs.holdings.VpnHoldings.publishes_nothing.Goals as goal

neither : (a b : Bool) → (a || b) ≡ false → (a ≡ false) × (b ≡ false)
neither true b e = absurd (true≢false e)
neither false b e = (refl, e)

not_so : (b : Bool) → not b ≡ true → b ≡ false
not_so true e = absurd (true≢false (sym e))
not_so false e = refl

itself : (n : ℕ) → (n == n) ≡ true
itself n = grind (arith, nat_tests)

-- where nothing is kept of a session, nothing is found at a place of it
none_kept : (es : List (LabelAt × Block)) (k : LabelAt) → list_any (λ (e : LabelAt × Block). e.0.session == k.session) es ≡ false
    → lookup (is_at (label_order k)) es ≡ None
none_kept [] k none = refl
none_kept (e ∷ es) k none =
    let both = neither (e.0.session == k.session) (list_any (λ (e : LabelAt × Block). e.0.session == k.session) es) none in
    elim (is_at (label_order k) e.0) as (λ b. is_at (label_order k) e.0 ≡ b → cond b (Some e.1) (lookup (is_at (label_order k)) es) ≡ None) [
      | true ↦ λ t.
          let is : k ≡ e.0 = label_exact k e.0 ((Equal-is (label_order k e.0)).0 t) in
          absurd (true≢false (sym (itself k.session) ∙ ap (λ (j : LabelAt). j.session == k.session) is ∙ both.0))
      | false ↦ λ _. none_kept es k both.1
    ] refl

-- what is kept of a session is found at its place
not_first : (b : Bool) (v : Block) (o : Option Block) → cond b (Some v) o ≡ None → o ≡ None
not_first true v o e = absurd (none_some v (sym e))
not_first false v o e = e

kept_found : (es : List (LabelAt × Block)) (session : ℕ) → list_any (λ (e : LabelAt × Block). e.0.session == session) es ≡ true
    → (k : LabelAt) × (k.session ≡ session) × (lookup (is_at (label_order k)) es ≡ None → ⊥)
kept_found [] session any = absurd (true≢false (sym any))
kept_found (e ∷ es) session any =
    elim (or_cases (e.0.session == session) (list_any (λ (e : LabelAt × Block). e.0.session == session) es) any)
    as (λ _. (k : LabelAt) × (k.session ≡ session) × (lookup (is_at (label_order k)) (e ∷ es) ≡ None → ⊥)) [
      | inl here ↦ (
        e.0,
        eqb-true e.0.session session here,
        (λ none. none_some e.1 (sym (ap (λ r. cond (is_eq r) (Some e.1) (lookup (is_at (label_order e.0)) es)) (sym (label_itself e.0)) ∙ none))),
      )
      | inr later ↦
          let q = kept_found es session later in
          (q.0, q.1, (λ none. q.2 (not_first (is_at (label_order q.0) e.0) e.1 (lookup (is_at (label_order q.0)) es) none)))
    ]

-- nothing stands where nothing was told, and the other way
untold : {X : Type 0} (b : Block) (o : Option X) → if_told b o ≡ None → o ≡ None
untold b None e = refl
untold b (Some x) e = absurd (none_some b (sym e))

pub returns-clause-only_if_nothing : goal.returns-clause-only_if_nothing
returns-clause-only_if_nothing c = λ t i prefix.
    let s = c.self.inside in
    let k = label_at c.args.session i prefix in
    subst (λ (h : Holdings). as_label (get (told_in h.agents c.args.session).map (Publish i prefix)) ≡ None) c.self.view_is
    (untold prefix (label_in (map agent_of s.agents.items) k) (sym (c.self.invariant.4 k) ∙ none_kept s.labels.entries k (sym c.has_label.ensures ∙ not_so c.has_label.result t)))

pub returns-clause-if_nothing : goal.returns-clause-if_nothing
returns-clause-if_nothing c = λ nothing.
    let s = c.self.inside in
    let silent = subst (λ (h : Holdings). PublishesNothing (told_in h.agents c.args.session).map) (sym c.self.view_is) nothing in
    elim c.has_label.result as (λ b. c.has_label.result ≡ b → not b ≡ true) [
      | true ↦ λ t.
          let q = kept_found s.labels.entries c.args.session (sym c.has_label.ensures ∙ t) in
          absurd (q.2 (c.self.invariant.4 q.0
          ∙ ap (if_told (block_at q.0)) (ap (λ n. as_label (get (told_in (map agent_of s.agents.items) n).map (Publish q.0.instance (block_at q.0)))) q.1
          ∙ silent q.0.instance (block_at q.0))))
      | false ↦ λ _. refl
    ] refl
