use Rattle.std.proofs.Common.{◌≡◌, ap, subst, sym, ◌∙◌}
use Rattle.std.specs.declared.option.Option.TheVariants.{Some}
use Rattle.std.specs.Option.{option_map}
use Rattle.ov_types.specs.declared.keys.UpKey.TheVariants as Up
use Rattle.ov_types.specs.declared.numbers.InstanceId.{InstanceId}
use Rattle.vpn_tables.specs.NodeModel.Keys.{Vpn}
use Rattle.vpn_tables.specs.Here.{IsRowOf}
use Rattle.control_wants.specs.Marks.{no_item, no_route}
use Rattle.control_wants.proofs.Only.{only_itself, only_more}
use Rattle.control_wants.proofs.told.mark_own.Goals as goal

same_instance : (i j : InstanceId) → Up.Subscribe i ≡ Up.Subscribe j → i ≡ j
same_instance i j e = cc

pub returns-in-Subscribe-clause-subscribed : goal.returns-in-Subscribe-clause-subscribed
returns-in-Subscribe-clause-subscribed c = λ all i is a at k clean row.
    c.mark_subscribed.ensures.marked all a (at ∙ sym c.address_of.ensures) k clean
    (subst (λ (j : InstanceId). IsRowOf c.args.tables.now j k) (same_instance i c.in-Subscribe.instance (sym is ∙ c.in-Subscribe.is)) row)

pub returns-in-Subscribe-clause-kept : goal.returns-in-Subscribe-clause-kept
returns-in-Subscribe-clause-kept c = λ all i is a b at bt k clean.
    c.mark_subscribed.ensures.kept all a b (at ∙ sym c.address_of.ensures) (bt ∙ sym c.address_of.ensures) k clean

pub returns-in-Subscribe-clause-only : goal.returns-in-Subscribe-clause-only
returns-in-Subscribe-clause-only c =
    only_more _ _ no_route _ (λ k n. absurd n)
    (λ a k o. record { instance = c.in-Subscribe.instance; subscribes = c.in-Subscribe.is; of = (o.0 ∙ c.address_of.ensures, o.1) }) c.args.dirty.now c.mark_subscribed.new.dirty c.mark_subscribed.ensures.only

pub returns-in-Some-clause-only : goal.returns-in-Some-clause-only
returns-in-Some-clause-only c =
    only_more _ _ _ no_item (λ k e. ap (option_map Vpn) (sym c.key_published.ensures ∙ c.in-Some.is) ∙ ap Some (sym e)) (λ a k n. absurd n) c.args.dirty.now c.add_route.new.self c.add_route.ensures.only

pub returns-in-None-clause-only : goal.returns-in-None-clause-only
returns-in-None-clause-only c = only_itself _ _ c.args.dirty.now
