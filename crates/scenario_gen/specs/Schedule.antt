-- The events of a scenario, and the packets that are traced after them.
use Rattle.std.specs.Prelude.{ℕ, List, [], ◌∷◌, ◌+◌, ◌*◌, ◌/◌, ◌%◌, ◌==◌, map, codes, if◌then◌else◌}
use Rattle.ov_types.specs.declared.packet.Packet.{Packet}
use Rattle.config_types.specs.declared.edit.Edit.TheVariants.{Delete}
use Rattle.config_types.specs.declared.edit.ObjectKind.TheVariants.{Port}
use Rattle.config_types.specs.declared.event.Event.{Event}
use Rattle.config_types.specs.declared.event.Event.TheVariants.{Settle, Lose, Restart, Edit}
use Rattle.scenario_gen.specs.Naming.{below, numbered, address}
use Rattle.scenario_gen.specs.Nodes.{node_at}
use Rattle.scenario_gen.specs.Ports.{ports_count}

unfoldable pub events : ℕ → List Event
events n =
    Settle
    ∷ Lose (numbered (codes "c") 1) (numbered (codes "c") 2)
    ∷ Restart (node_at n)
    ∷ Edit (Delete Port (numbered (codes "v") 5))
    ∷ Settle
    ∷ []

-- the port number that a count reaches which goes round the four that rules speak of
abbrev pub asked_port : ℕ → ℕ
asked_port count =
    if count % 4 == 0 then 80
    else (if count % 4 == 1 then 22
    else (if count % 4 == 2 then 5432
    else 23))

unfoldable pub packet : ℕ → ℕ → Packet
packet n q = record {
  source = record { 0 = (17 * q + n) % ports_count n };
  destination = address 10 (q % 4) 0 (1 + q % 16);
  tuple = record { proto = 6; sport = 50000 + q; dport = asked_port (q / 4) };
}

abbrev pub packets : ℕ → List Packet
packets n = map (packet n) (below 40)
