use Rattle.std.specs.Prelude.{◌≡◌, true, false, cond}
use Rattle.std.proofs.Common.{refl, ap, sym, ◌∙◌, rules}
use Rattle.bgp_restart.specs.Keeping.{Kept}
use Rattle.std.specs.FinMap.{empty}
use Rattle.bgp_restart.specs.Routes.{routes_in}
use Rattle.bgp_restart.proofs.Steps.{opened_follows}
use Rattle.bgp_restart.proofs.restart.Restart.opened.Goals as goal

pub returns-then-not-kept : goal.returns-then-not-kept
returns-then-not-kept c =
    let lost : c.args.kept ≡ false = search rules in
    opened_follows c.args.self.now _ (record { named = c.args.named; kept = c.args.kept; wide = c.args.wide })
    c.requires.down refl refl refl (ap (λ (v : Kept). v.fresh) c.self.view_is)
    (ap routes_in c.reset.ensures ∙ ap (λ b. cond b c.args.self.now.stale empty) (sym lost))

pub returns-else-not-kept : goal.returns-else-not-kept
returns-else-not-kept c =
    let stays : c.args.kept ≡ true = search rules in
    opened_follows c.args.self.now _ (record { named = c.args.named; kept = c.args.kept; wide = c.args.wide })
    c.requires.down refl refl refl (ap (λ (v : Kept). v.fresh) c.self.view_is)
    (ap (λ (v : Kept). v.stale) c.self.view_is ∙ ap (λ b. cond b c.args.self.now.stale empty) (sym stays))
