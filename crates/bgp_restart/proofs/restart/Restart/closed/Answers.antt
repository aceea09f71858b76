use Rattle.std.specs.Prelude.{◌≡◌, true, false, cond}
use Rattle.std.proofs.Common.{refl, ap, sym, ◌∙◌, rules}
use Rattle.bgp_restart.specs.Keeping.{Kept}
use Rattle.std.specs.FinMap.{empty}
use Rattle.bgp_restart.specs.Routes.{routes_in}
use Rattle.bgp_restart.proofs.Steps.{closed_follows}
use Rattle.bgp_restart.proofs.restart.Restart.closed.Goals as goal

pub returns-then-not-self : goal.returns-then-not-self
returns-then-not-self c =
    let n : c.self.inside.named ≡ false = search rules in
    let same : c.self.inside.named ≡ c.args.self.now.named = ap (λ (v : Kept). v.named) c.self.view_is in
    closed_follows c.args.self.now _ c.requires.up refl same (ap (λ (v : Kept). v.wide) c.self.view_is) (ap routes_in c.reset.ensures)
    (ap routes_in c.reset-then-not-self.ensures ∙ ap (λ b. cond b c.args.self.now.fresh empty) (sym n ∙ same))

pub returns-else-not-self : goal.returns-else-not-self
returns-else-not-self c =
    let n : c.self.inside.named ≡ true = search rules in
    let same : c.self.inside.named ≡ c.args.self.now.named = ap (λ (v : Kept). v.named) c.self.view_is in
    closed_follows c.args.self.now _ c.requires.up refl same (ap (λ (v : Kept). v.wide) c.self.view_is) (ap routes_in c.reset.ensures)
    (ap routes_in c.swap.ensures.y_after ∙ ap (λ (v : Kept). v.fresh) c.self.view_is ∙ ap (λ b. cond b c.args.self.now.fresh empty) (sym n ∙ same))
