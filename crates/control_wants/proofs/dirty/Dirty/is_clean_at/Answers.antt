use Rattle.std.proofs.Common.{◌≡◌, List, [], ◌∷◌, length, ap, subst, sym, refl, ◌∙◌}
use Rattle.std.proofs.lemmas.Bool.{eqb-true}
use Rattle.std.specs.FinMap.{get, get-from_entries}
use Rattle.ov_sync.specs.Keyed.{map_of}
use Rattle.ov_types.specs.declared.keys.DownKey.{DownKey}
use Rattle.ov_types.specs.declared.prefix.Addr.{Addr}
use Rattle.vpn_tables.specs.NodeModel.Directions.{down_order}
use Rattle.vpn_tables.specs.NodeModel.Members.{Member}
use Rattle.vpn_tables.proofs.NodeModel.Directions.{down_total}
use Rattle.control_wants.specs.Marks.{Marks, is_marked, marked_of}
use Rattle.control_wants.specs.declared.whom.Whom.{Whom}
use Rattle.control_wants.proofs.dirty.Dirty.is_clean_at.Goals as goal

empty : {X : Type 0} (xs : List X) → length xs ≡ 0 → xs ≡ []
empty [] e = refl
empty (x ∷ xs) e = cc

pub returns-clause-clean : goal.returns-clause-clean
returns-clause-clean c = λ none a at k. (
  λ n. c.is_whole.ensures.address c.if-is_whole.false (subst (λ (x : Addr). Member x c.args.self.now.addresses) at n),
  λ x is.
      ap (λ (d : Marks). is_marked a x (marked_of d x)) (sym c.self.view_is)
      ∙ ap (λ (items : List (DownKey × Whom)). is_marked a x (get (map_of down_order items) x))
      (empty c.self.inside.items (ap length (sym c.iter.ensures.entries) ∙ sym c.len.ensures.value ∙ eqb-true c.len.result 0 none))
      ∙ ap (is_marked a x) (get-from_entries down_total [] x),
)

pub returns-clause-items : goal.returns-clause-items
returns-clause-items c = λ none.
    ap (λ (d : Marks). d.items) (sym c.self.view_is)
    ∙ empty c.self.inside.items (ap length (sym c.iter.ensures.entries) ∙ sym c.len.ensures.value ∙ eqb-true c.len.result 0 none)
