use Rattle.inspect_changes.proofs.WhatWent.{goes_on}
use Rattle.inspect_changes.proofs.laws.unnamed_packets_go_on.Goals as goal

pub returns : goal.returns
returns g = goes_on
