-- Marks that grow.
use Rattle.std.specs.Prelude.{◌≡◌, List, [], ◌∷◌, ◌++◌, map, Bool, true, false, cond, is_some, ◌==◌}
use Rattle.std.specs.declared.option.Option.{Option}
use Rattle.std.specs.declared.option.Option.TheVariants.{Some, None}
use Rattle.std.specs.Ordering.{eq_by_cmp, is_eq}
use Rattle.std.specs.Cmp.{Equal-is, tied_itself}
use Rattle.std.specs.FinMap.{get, insert}
use Rattle.std.proofs.Common.{refl, subst, sym, ◌∙◌, ap}
use Rattle.std.proofs.lemmas.Bool.{true≢false}
use Rattle.ov_sync.specs.Keyed.{map_of}
use Rattle.ov_types.specs.declared.keys.DownKey.{DownKey}
use Rattle.ov_types.specs.declared.keys.DownKey.TheVariants as down
use Rattle.ov_types.specs.declared.numbers.InstanceId.{InstanceId}
use Rattle.ov_types.specs.declared.prefix.Addr.{Addr}
use Rattle.ov_types.specs.declared.vpn.VpnKey.{VpnKey}
use Rattle.vpn_tables.specs.NodeModel.Keys.{Key, Subscribe, Vpn, of_down}
use Rattle.vpn_tables.specs.NodeModel.Members.{Member}
use Rattle.vpn_tables.specs.NodeModel.Paths.{Told}
use Rattle.vpn_tables.specs.NodeModel.Directions.{down_order}
use Rattle.vpn_tables.proofs.NodeModel.Directions.{down_exact, down_total}
use Rattle.control_wants.specs.Marks.{IsCleanItem, IsWithin, Marks, is_marked, is_of, marked_of}
use Rattle.control_wants.specs.declared.whom.Whom.{Whom}
use Rattle.control_wants.specs.declared.whom.Whom.TheVariants.{Every, Only, Subscribers}
use Rattle.control_wants.proofs.Sets.{before_last, mapped, put_is, unmapped}

pub within_itself : (d : Marks) → IsWithin d d
within_itself d = record { all = λ e. e; routes = λ k c. c; items = λ a k c. c }

pub within_then : (a b c : Marks) → IsWithin a b → IsWithin b c → IsWithin a c
within_then a b c v w = record { all = λ e. v.all (w.all e); routes = λ k n. v.routes k (w.routes k n); items = λ at k n. v.items at k (w.items at k n) }

pub within_address : (d : Marks) (at : Addr) → IsWithin d (record d { addresses = d.addresses ++ at ∷ [] })
within_address d at = record { all = λ e. e; routes = λ k c. c; items = λ a k c. (λ n. c.0 (before_last a.address at d.addresses n), c.1) }

pub within_routes : (d : Marks) (keys : List VpnKey) → ((k : VpnKey) → Member k d.routes → Member k keys) → IsWithin d (record d { routes = keys })
within_routes d keys keeps = record {
  all = λ e. e;
  routes = λ k c n. (let u = unmapped Vpn k d.routes n in c (subst (λ (k : Key). Member k (map Vpn keys)) u.2 (mapped Vpn u.0 keys (keeps u.0 u.1))));
  items = λ a k c. c;
}

not_true : (b : Bool) → (b ≡ true → ⊥) → b ≡ false
not_true true h = absurd (h refl)
not_true false h = refl

pub within_items : (d : Marks) (items : List (DownKey × Whom))
    → ((a : Told) (x : DownKey) → is_marked a x (marked_of d x) ≡ true → is_marked a x (get (map_of down_order items) x) ≡ true) → IsWithin d (record d { items = items })
within_items d items keeps = record {
  all = λ e. e;
  routes = λ k c. c;
  items = λ a k c. (c.0, λ x is. not_true (is_marked a x (marked_of d x)) (λ t. true≢false (sym (keeps a x t) ∙ c.1 x is)));
}

-- of a key that was put with such agents beside those of which it was marked
module _ (d : Marks) (items : List (DownKey × Whom)) (key : DownKey) (whom : Whom) (put : map_of down_order items ≡ insert (map_of down_order d.items) key whom) where
  pub within_put : ((a : Told) (x : DownKey) → is_marked a x (marked_of d key) ≡ true → is_of a x whom ≡ true) → IsWithin d (record d { items = items })
  within_put keeps = within_items d items (λ a x t. subst (λ o. is_marked a x o ≡ true) (sym (put_is down_order down_total down_exact d.items items key whom put x))
      (elim (eq_by_cmp down_order x key) as (λ b. eq_by_cmp down_order x key ≡ b → is_marked a x (cond b (Some whom) (marked_of d x)) ≡ true) [
        | true ↦ λ e. keeps a x (subst (λ (y : DownKey). is_marked a x (marked_of d y) ≡ true) (down_exact x key ((Equal-is (down_order x key)).0 e)) t)
        | false ↦ λ _. t
      ] refl))

  pub put_marks : (a : Told) → is_of a key whom ≡ true → IsCleanItem (record d { items = items }) a (of_down key) → ⊥
  put_marks a of clean =
      let here = put_is down_order down_total down_exact d.items items key whom put key ∙ ap (λ b. cond b (Some whom) (marked_of d key)) (ap is_eq (tied_itself down_total key)) in
      true≢false (sym of ∙ ap (is_marked a key) (sym here) ∙ clean.1 key refl)

-- whether a key is marked of an agent follows from its address and from what it subscribed
module _ (d : Marks) (a b : Told) (address : b.address ≡ a.address) (subscribes : (i : InstanceId) → is_some (get b.map (Subscribe i)) ≡ is_some (get a.map (Subscribe i))) where
  same_of_whom : (x : DownKey) (whom : Whom) → is_of a x whom ≡ is_of b x whom
  same_of_whom x Every = refl
  same_of_whom (down.Slice k) Subscribers = refl
  same_of_whom (down.Route i q) Subscribers = sym (subscribes i)
  same_of_whom x (Only at) = ap (λ (y : Addr). at.0 == y.0) (sym address)

  same_mark : (x : DownKey) (o : Option Whom) → is_marked a x o ≡ is_marked b x o
  same_mark x None = refl
  same_mark x (Some whom) = same_of_whom x whom

  pub clean_as : (k : Key) → IsCleanItem d b k → IsCleanItem d a k
  clean_as k clean = (λ n. clean.0 (subst (λ (y : Addr). Member y d.addresses) (sym address) n), λ x is. same_mark x (marked_of d x) ∙ clean.1 x is)
