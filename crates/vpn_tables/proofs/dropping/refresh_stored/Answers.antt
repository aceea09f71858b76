use Rattle.std.proofs.Common.{◌≡◌, refl, rules}
use Rattle.vpn_tables.proofs.Keeping.{retained}
use Rattle.vpn_tables.proofs.dropping.refresh_stored.Goals as goal

pub returns : goal.returns
returns c =
    let h = c.args.held.now in
    retained _ h (λ f. f.0.now ≡ h) (λ f k v b w g i t. ((search (rules, t, i), search (rules, t, i)), search (rules, t, i))) _ c.args.stored.now.entries c.retain.new.self.entries refl c.retain.ensures.filtered
