use Rattle.std.proofs.Common.{◌≡◌, ◌+◌, ◌<◌, ℕ, suc, take, length, arith, subst, sym}
use Rattle.ov_types.specs.declared.objects.LowKey.{LowKey}
use Rattle.ov_types.specs.declared.objects.LowKey.TheVariants as key
use Rattle.ov_types.specs.declared.objects.LowValue.{LowValue}
use Rattle.vpn_tables.specs.NodeModel.Keys.{Low}
use Rattle.vpn_tables.specs.NodeModel.Members.{Member}
use Rattle.control_wants.specs.Marks.{AreListsMarked, IsListAmong, Marks, MarksOnly, no_route}
use Rattle.control_wants.proofs.Growing.{within_itself, within_then}
use Rattle.control_wants.proofs.Only.{member_at, only_itself, only_more, only_then}
use Rattle.control_wants.proofs.Telling.{all_lists, lists_more}
use Rattle.control_wants.proofs.objects.mark_lists.Goals as goal

pub loop-name-init : goal.loop-name-init
loop-name-init c = record { within = within_itself c.args.dirty.now; marked = λ all to v n. absurd n; only = only_itself _ _ c.args.dirty.now }

pub loop-name-preserved : goal.loop-name-preserved
loop-name-preserved c =
    let l = c.loop-name in
    let lt : l.name-index < length c.args.objects.now = omega arith in
    let more : suc l.name-index ≡ l.name-index + 1 = omega arith in
    record {
      within = within_then _ _ _ l.invariant.within c.mark_list.ensures.within;
      marked = subst (λ i. AreListsMarked c.mark_list.new.dirty c.args.from (take i c.args.objects.now)) more
          (lists_more l.dirty c.mark_list.new.dirty c.args.from c.args.objects.now l.name-index c.loop-name-item.result lt c.loop-name-item.is l.invariant.marked c.mark_list.ensures.within c.mark_list.ensures.marked);
      only = only_then _ _ _ _ _ l.invariant.only (of_one l.dirty c.mark_list.new.dirty c.loop-name-item.result (subst (λ e. Member e c.args.objects.now) (sym c.loop-name-item.is) (member_at c.args.objects.now l.name-index c.loop-name-item.result lt)) c.mark_list.ensures.only);
    }
  where
    of_one : (d d' : Marks) (e : LowKey × LowValue) → Member e c.args.objects.now → MarksOnly no_route (λ a k. (to : ℕ) × ((e.0 ≡ key.Acl c.args.from to) × (k ≡ Low e.0))) d d' → MarksOnly no_route (IsListAmong c.args.from c.args.objects.now) d d'
    of_one d d' e m o = only_more _ _ no_route (λ a k. (to : ℕ) × ((e.0 ≡ key.Acl c.args.from to) × (k ≡ Low e.0))) (λ k n. absurd n) (λ a k is. (e, (m, is))) d d' o

pub returns-clause-marked : goal.returns-clause-marked
returns-clause-marked c =
    let end : c.loop-name.name-index ≡ length c.args.objects.now = omega arith in
    all_lists c.loop-name.dirty c.args.from c.args.objects.now c.loop-name.name-index end c.loop-name.invariant.marked
