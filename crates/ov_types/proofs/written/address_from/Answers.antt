use Rattle.std.specs.Net.Addr.{ipv4_octets, ipv4_bits}
use Rattle.ov_types.proofs.Addresses.{reads_dotted, reads_none}
use Rattle.ov_types.proofs.written.address_from.Goals as goal

pub returns-in-Ok : goal.returns-in-Ok
unfolding ipv4_bits
returns-in-Ok c = rw c.from.ensures (reads_dotted c.args.text.now (ipv4_octets c.in-Ok.address) c.in-Ok.ensures.value)

pub returns-in-Err : goal.returns-in-Err
returns-in-Err c = reads_none c.args.text.now c.in-Err.ensures.value
