-- What is known of seats, of what nodes hear, and of moments, all together.
use Rattle.running_laws.proofs.HeardEnds.{end_closed, end_opened, message_heard, octets_heard}
use Rattle.running_laws.proofs.Sizes.{has_size}
use Rattle.running_laws.proofs.Written as seats
use Rattle.running_laws.proofs.HeardInFlight.{heard}
use Rattle.running_laws.proofs.Moments.{moment_next, moment_numbers, moment_sessions, moment_unbroken, moment_written}
use Rattle.running_laws.proofs.Facts.{Facts}

pub given : Facts
given = record {
  wired = record {
    far = λ x ss p written numbers are is. seats.has_far x written numbers ss are p is;
    place = λ x ss p written numbers are is. seats.place_found x written numbers ss are p is;
    place_is = λ x ss a b p written numbers are found. seats.place_is x written numbers ss are a b p found;
    session = λ w ss p written numbers has are is. seats.has_session w written numbers ss are has p is;
    none = λ w ss a b written numbers has are none. seats.session_without_place w written numbers ss are has a b none;
    found = λ w ss written numbers has are. seats.sessions_found w written numbers ss are has;
    goes_by = λ w ss p s written numbers has stands is found. seats.goes_by w written numbers ss stands has p is s found;
    nodes = λ w ss k written numbers has stands above lt. seats.seats_are_nodes w written numbers ss stands has k above lt;
    shown = λ w ss name written numbers has stands is. seats.shows_at w written numbers ss stands has name is;
  };
  hears = record {
    message = λ x written numbers a b near far i within name p live m next cell can kept bytes is given left begins.
        let heard = message_heard x written.topology written.valid numbers a b i
        (record { near = near; far = far; within = within; name = name }) p live m next cell can kept bytes is given left begins
        in
        (heard.0, heard.1);
    octets = λ x written numbers a b near far i within name p live phase ms passing can part partial kept bytes is given left begins.
        let heard = octets_heard x written.topology written.valid numbers a b i
        (record { near = near; far = far; within = within; name = name }) p live phase ms passing can part partial kept bytes
        is given left begins
        in
        (heard.0, heard.1);
    sizes = λ a b m can of. (has_size a b m can of).0;
    opens = λ x written numbers a b near far i within name p kept given left begins.
        let heard = end_opened x written.topology written.valid numbers a b i
        (record { near = near; far = far; within = within; name = name }) p kept given left begins
        in
        (heard.0, heard.1);
    closes = λ a i p kept given left begins. let heard = end_closed a i p kept given left begins in (heard.0, heard.1);
  };
  moments = record {
    written = moment_written;
    numbers = moment_numbers;
    sessions = moment_sessions;
    after = moment_next;
    unbreaks = moment_unbroken;
    heard = heard;
  };
}
