use Rattle.std.proofs.Common.{◌≡◌, List, [], ◌∷◌, map, Some, ap, sym, ◌∙◌, is_some}
use Rattle.std.specs.List.{list_any}
use Rattle.item_wire.specs.declared.item.Item.{Item}
use Rattle.node_core.specs.Told.{change_of}
use Rattle.agent_tables.specs.Listed.{list_key}
use Rattle.agent_tables.specs.Touched.{route_key}
use Rattle.agent_tables.specs.declared.hearing.Hearing.{Hearing}
use Rattle.agent_node.specs.Applying.{HasLed, HasListed}
use Rattle.agent_node.proofs.Led.{has_kept_routes, has_led, has_listed, if_both}
use Rattle.agent_node.proofs.begin.hear_at.Goals as goal

pub returns-clause-led : goal.returns-clause-led
returns-clause-led c =
    let h = c.args.hearing.now in
    let h' : Hearing = record { session = c.hear.new.session; held = c.apply_all.new.held } in
    if_both (λ keys. c.state-after.result ≡ c.state-before.result)
    (λ keys. map (λ i. route_key (change_of i)) c.deref.result.now ≡ map Some keys.items)
    (λ keys. HasLed keys.items h h') c.in_ok-routes.routes (λ keys state routes.
    has_led h h' c.in_ok-records.field-0.records.items keys.items
    (sym c.state-after.ensures ∙ state ∙ c.state-before.ensures)
    (ap (λ (is : List Item). map (λ i. route_key (change_of i)) is) (sym c.deref.ensures.value) ∙ routes)
    c.in_ok-apply_all.ensures.after) c.in_ok-routes.ensures.state c.in_ok-routes.ensures.routes

pub returns-clause-stay : goal.returns-clause-stay
returns-clause-stay c = λ on.
    let h = c.args.hearing.now in
    let h' : Hearing = record { session = c.hear.new.session; held = c.apply_all.new.held } in
    has_kept_routes h h' c.in_ok-records.field-0.records.items
    (sym c.state-after.ensures ∙ c.routes_stay-routes_stay.ensures.state on ∙ c.state-before.ensures)
    (ap (list_any (λ (i : Item). is_some (route_key (change_of i)))) (sym c.deref-2.ensures.value) ∙ c.routes_stay-routes_stay.ensures.routes on)
    c.in_ok-apply_all.ensures.after

pub returns-clause-list : goal.returns-clause-list
returns-clause-list c =
    let h = c.args.hearing.now in
    let h' : Hearing = record { session = c.hear.new.session; held = c.apply_all.new.held } in
    if_both (λ n. c.state-after.result ≡ c.state-before.result)
    (λ n. map (λ i. list_key (change_of i)) c.deref-3.result.now ≡ Some n ∷ [])
    (λ n. HasListed n h h') c.list_alone-list.result (λ n state list.
    has_listed h h' c.in_ok-records.field-0.records.items n
    (sym c.state-after.ensures ∙ state ∙ c.state-before.ensures)
    (ap (λ (is : List Item). map (λ i. list_key (change_of i)) is) (sym c.deref-3.ensures.value) ∙ list)
    c.in_ok-apply_all.ensures.after) c.list_alone-list.ensures.state c.list_alone-list.ensures.list
