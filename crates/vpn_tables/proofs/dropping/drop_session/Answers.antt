use Rattle.vpn_tables.proofs.Emptied.{nothing_are, session_stored}
use Rattle.vpn_tables.proofs.dropping.drop_session.Goals as goal

pub returns-then-session-eq0-clause-stored : goal.returns-then-session-eq0-clause-stored
returns-then-session-eq0-clause-stored c =
    nothing_are c.clear.new.self c.args.held.now c.drop_session.new.self c.args.session c.drop_session.ensures c.if-session-eq0.true c.clear.ensures.empty

pub returns-clause-stored : goal.returns-clause-stored
returns-clause-stored c =
    session_stored c.args.stored.now c.refresh_stored.new.stored c.args.held.now c.drop_session.new.self c.args.session c.drop_session.ensures c.if-session-eq0.false c.requires c.refresh_stored.ensures
