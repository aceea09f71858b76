-- Values that compare alike are one.
use Rattle.std.proofs.Common.{◌≡◌, ◌&&◌, Bool, nat_eq, Some, None, refl}
use Rattle.std.specs.Bool.{Decides}
use Rattle.std.specs.Cmp.Lexicographic.{pointwise}
use Rattle.std.specs.Option.{option_eq}
use Rattle.std.proofs.lemmas.Bool.Decides.{Decides-eqb, Decides-and}
use Rattle.std.proofs.lemmas.Slice.Eq.{slice_eq-Decides}
use Rattle.ov_types.specs.Prefix.{Block}
use Rattle.ov_types.specs.declared.numbers.InstanceId.{InstanceId}
use Rattle.ov_types.specs.declared.numbers.Label.{Label}
use Rattle.ov_types.specs.declared.numbers.PortNo.{PortNo}
use Rattle.ov_types.specs.declared.numbers.ServiceNo.{ServiceNo}
use Rattle.ov_types.specs.declared.objects.AclAction.TheVariants.{Pass, Deny, Enter}
use Rattle.ov_types.specs.declared.objects.LowKey.TheVariants.{Instance as InstanceKey, Attach, Acl as AclKey, ChainUse as UseKey}
use Rattle.ov_types.specs.declared.objects.LowValue.TheVariants.{Instance, AttachPort, AttachCircuit, Acl, ChainUse}
use Rattle.ov_types.specs.declared.packet.Range16.{Range16}
use Rattle.ov_types.specs.declared.packet.RuleNo.{RuleNo}
use Rattle.ov_types.specs.declared.prefix.Addr.{Addr}
use Rattle.ov_types.specs.declared.rows.Attached.TheVariants.{Port, Circuit}
use Rattle.ov_types.specs.declared.targets.Target.{Target}
use Rattle.ov_types.specs.contracts.objects.AclActionPartialEq.TheImpl as acl_action
use Rattle.ov_types.specs.contracts.objects.AclRulePartialEq.TheImpl as acl_rule
use Rattle.ov_types.specs.contracts.objects.LowKeyPartialEq.TheImpl as low_key
use Rattle.ov_types.specs.contracts.objects.LowValuePartialEq.TheImpl as low_value
use Rattle.ov_types.specs.contracts.rows.AgentRowsPartialEq.TheImpl as agent_rows
use Rattle.ov_types.specs.contracts.rows.AttachedPartialEq.TheImpl as attached
use Rattle.ov_types.specs.contracts.rows.EntryPartialEq.TheImpl as entry
use Rattle.ov_types.specs.contracts.vpn.VpnRoutePartialEq.TheImpl as vpn_route

-- a test that decides whether two values are one
abbrev IsTest : {A : Type 0} → (A → A → Bool) → Type 0
IsTest {A} test = (a b : A) → Decides (test a b) (a ≡ b)

pairs : {A B : Type 0} (s : A → A → Bool) (t : B → B → Bool) → IsTest s → IsTest t → IsTest (λ (p q : A × B). s p.0 q.0 && t p.1 q.1)
pairs s t hs ht p q =
    let d = Decides-and _ _ (hs p.0 q.0) (ht p.1 q.1) in
    (λ e. let h = d.0 e in λ i. (h.0 i, h.1 i), λ e. d.1 (λ i. (e i).0, λ i. (e i).1))

lists : {A : Type 0} (t : A → A → Bool) → IsTest t → IsTest (pointwise t)
lists t h a b = slice_eq-Decides h a b _ refl

-- numbers with a type of their own
instances : IsTest (λ (a b : InstanceId). nat_eq a.0 b.0)
instances a b = let d = Decides-eqb a.0 b.0 in (λ e. let h = d.0 e in λ i. record { 0 = h i }, λ e. d.1 (λ i. (e i).0))

labels : IsTest (λ (a b : Label). nat_eq a.0 b.0)
labels a b = let d = Decides-eqb a.0 b.0 in (λ e. let h = d.0 e in λ i. record { 0 = h i }, λ e. d.1 (λ i. (e i).0))

ports : IsTest (λ (a b : PortNo). nat_eq a.0 b.0)
ports a b = let d = Decides-eqb a.0 b.0 in (λ e. let h = d.0 e in λ i. record { 0 = h i }, λ e. d.1 (λ i. (e i).0))

services : IsTest (λ (a b : ServiceNo). nat_eq a.0 b.0)
services a b = let d = Decides-eqb a.0 b.0 in (λ e. let h = d.0 e in λ i. record { 0 = h i }, λ e. d.1 (λ i. (e i).0))

addresses : IsTest (λ (a b : Addr). nat_eq a.0 b.0)
addresses a b = let d = Decides-eqb a.0 b.0 in (λ e. let h = d.0 e in λ i. record { 0 = h i }, λ e. d.1 (λ i. (e i).0))

targets : IsTest (λ (a b : Target). nat_eq a.0 b.0)
targets a b = let d = Decides-eqb a.0 b.0 in (λ e. let h = d.0 e in λ i. record { 0 = h i }, λ e. d.1 (λ i. (e i).0))

prefixes : IsTest (λ (a b : Block). nat_eq a.addr b.addr && nat_eq a.len b.len)
prefixes a b =
    let d = Decides-and _ _ (Decides-eqb a.addr b.addr) (Decides-eqb a.len b.len) in
    (λ e. let h = d.0 e in λ i. record { addr = h.0 i; len = h.1 i }, λ e. d.1 (λ i. (e i).addr, λ i. (e i).len))

entries : IsTest entry.ghosts.eq
entries a b =
    let d = Decides-and _ _ (addresses a.next_hop b.next_hop) (labels a.label b.label) in
    (λ e. let h = d.0 e in λ i. record { next_hop = h.0 i; label = h.1 i }, λ e. d.1 (λ i. (e i).next_hop, λ i. (e i).label))

pub target_lists : IsTest (pointwise (λ (a b : Target). nat_eq a.0 b.0))
target_lists = lists _ targets

pub routes : IsTest vpn_route.ghosts.eq
routes a b =
    let d = Decides-and _ _ (addresses a.next_hop b.next_hop) (Decides-and _ _ (labels a.label b.label) (target_lists a.targets b.targets)) in (
      λ e. let h = d.0 e in λ i. record { next_hop = h.0 i; label = h.1.0 i; targets = h.1.1 i },
      λ e. d.1 (λ i. (e i).next_hop, (λ i. (e i).label, λ i. (e i).targets)),
    )

actions : IsTest acl_action.ghosts.eq
actions Pass Pass = (λ e. refl, λ e. refl)
actions Deny Deny = (λ e. refl, λ e. refl)
actions (Enter m) (Enter n) = let d = instances m n in (λ e. let h = d.0 e in λ i. Enter (h i), λ e. d.1 (cc))
actions a b = (λ e. absurd cc, λ e. absurd cc)

ranges : IsTest (λ (a b : Range16). nat_eq a.lo b.lo && nat_eq a.hi b.hi)
ranges a b =
    let d = Decides-and _ _ (Decides-eqb a.lo b.lo) (Decides-eqb a.hi b.hi) in
    (λ e. let h = d.0 e in λ i. record { lo = h.0 i; hi = h.1 i }, λ e. d.1 (λ i. (e i).lo, λ i. (e i).hi))

numbers : IsTest (λ (a b : RuleNo). nat_eq a.sequence b.sequence && nat_eq a.position b.position)
numbers a b =
    let d = Decides-and _ _ (Decides-eqb a.sequence b.sequence) (Decides-eqb a.position b.position) in
    (λ e. let h = d.0 e in λ i. record { sequence = h.0 i; position = h.1 i }, λ e. d.1 (λ i. (e i).sequence, λ i. (e i).position))

protocols : IsTest (option_eq nat_eq)
protocols None None = (λ e. refl, λ e. refl)
protocols (Some m) (Some n) = let d = Decides-eqb m n in (λ e. let h = d.0 e in λ i. Some (h i), λ e. d.1 (cc))
protocols a b = (λ e. absurd cc, λ e. absurd cc)

pub acl_rules : IsTest acl_rule.ghosts.eq
acl_rules a b =
    let d =
    Decides-and _ _ (protocols a.protocol b.protocol) (Decides-and _ _ (ranges a.sports b.sports)
    (Decides-and _ _ (ranges a.dports b.dports) (Decides-and _ _ (actions a.action b.action) (numbers a.rule b.rule)))) in (
      λ e. let h = d.0 e in
          λ i. record { protocol = h.0 i; sports = h.1.0 i; dports = h.1.1.0 i; action = h.1.1.1.0 i; rule = h.1.1.1.1 i },
      λ e. d.1 (λ i. (e i).protocol, (λ i. (e i).sports, (λ i. (e i).dports, (λ i. (e i).action, λ i. (e i).rule)))),
    )

keys : IsTest low_key.ghosts.eq
keys (InstanceKey m) (InstanceKey n) = let d = Decides-eqb m n in (λ e. let h = d.0 e in λ i. InstanceKey (h i), λ e. d.1 (cc))
keys (Attach m) (Attach n) = let d = Decides-eqb m n in (λ e. let h = d.0 e in λ i. Attach (h i), λ e. d.1 (cc))
keys (AclKey a b) (AclKey c d) =
    let t = Decides-and _ _ (Decides-eqb a c) (Decides-eqb b d) in
    (λ e. let h = t.0 e in λ i. AclKey (h.0 i) (h.1 i), λ e. t.1 (cc, cc))
keys (UseKey m) (UseKey n) = let d = Decides-eqb m n in (λ e. let h = d.0 e in λ i. UseKey (h i), λ e. d.1 (cc))
keys a b = (λ e. absurd cc, λ e. absurd cc)

pub objects : IsTest low_value.ghosts.eq
objects (Instance a) (Instance b) = let d = lists _ instances a b in (λ e. let h = d.0 e in λ i. Instance (h i), λ e. d.1 (cc))
objects (AttachPort p n a d) (AttachPort q m b f) =
    let t = Decides-and _ _ (ports p q) (Decides-and _ _ (instances n m) (Decides-and _ _ (addresses a b) (addresses d f))) in
    (λ e. let h = t.0 e in λ i. AttachPort (h.0 i) (h.1.0 i) (h.1.1.0 i) (h.1.1.1 i), λ e. t.1 (cc, (cc, (cc, cc))))
objects (AttachCircuit c s d) (AttachCircuit e u f) =
    let t = Decides-and _ _ (Decides-eqb c e) (Decides-and _ _ (services s u) (addresses d f)) in
    (λ e. let h = t.0 e in λ i. AttachCircuit (h.0 i) (h.1.0 i) (h.1.1 i), λ e. t.1 (cc, (cc, cc)))
objects (Acl xs rs) (Acl ys ss) =
    let t = Decides-and _ _ (lists _ prefixes xs ys) (lists _ acl_rules rs ss) in
    (λ e. let h = t.0 e in λ i. Acl (h.0 i) (h.1 i), λ e. t.1 (cc, cc))
objects (ChainUse l r xs ys hs) (ChainUse m s us vs ks) =
    let t =
    Decides-and _ _ (instances l m) (Decides-and _ _ (instances r s) (Decides-and _ _ (lists _ prefixes xs us)
    (Decides-and _ _ (lists _ prefixes ys vs) (lists _ (pairs _ _ services addresses) hs ks)))) in
    (λ e. let h = t.0 e in λ i. ChainUse (h.0 i) (h.1.0 i) (h.1.1.0 i) (h.1.1.1.0 i) (h.1.1.1.1 i), λ e. t.1 (cc, (cc, (cc, (cc, cc)))))
objects a b = (λ e. absurd cc, λ e. absurd cc)

attachments : IsTest attached.ghosts.eq
attachments (Port p n) (Port q m) =
    let t = Decides-and _ _ (ports p q) (instances n m) in (λ e. let h = t.0 e in λ i. Port (h.0 i) (h.1 i), λ e. t.1 (cc, cc))
attachments (Circuit c s) (Circuit d u) =
    let t = Decides-and _ _ (Decides-eqb c d) (services s u) in (λ e. let h = t.0 e in λ i. Circuit (h.0 i) (h.1 i), λ e. t.1 (cc, cc))
attachments a b = (λ e. absurd cc, λ e. absurd cc)

pub agents : IsTest agent_rows.ghosts.eq
agents a b =
    let d =
    Decides-and _ _ (lists _ (pairs _ _ labels attachments) a.labels b.labels)
    (Decides-and _ _ (lists _ (pairs _ _ keys objects) a.acls b.acls)
    (lists _ (pairs _ _ (pairs _ _ instances prefixes) entries) a.routes b.routes)) in (
      λ e. let h = d.0 e in λ i. record { labels = h.0 i; acls = h.1.0 i; routes = h.1.1 i },
      λ e. d.1 (λ i. (e i).labels, (λ i. (e i).acls, λ i. (e i).routes)),
    )
