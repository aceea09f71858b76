use Rattle.std.proofs.Common.{◌≡◌, ◌↔◌, IsTrue, List, subst}
use Rattle.ov_types.specs.declared.objects.LowKey.{LowKey}
use Rattle.ov_types.specs.declared.objects.LowValue.{LowValue}
use Rattle.flow_acl.proofs.Same.{same_lists}
use Rattle.flow_acl.proofs.acls.Acls.is.Goals as goal

pub returns : goal.returns
returns c =
    subst (λ (a : List (LowKey × LowValue)). IsTrue c.eq.result ↔ (a ≡ c.args.other.now)) c.self.view_is
    (subst (λ (b : List (LowKey × LowValue)). IsTrue c.eq.result ↔ (c.self.inside.lists.entries ≡ b)) c.other.view_is
    (same_lists c.self.inside.lists.entries c.other.inside.lists.entries c.eq.result c.eq.ensures))
