-- A rule speaks of packets from one network into another, forwards or of their answers, exactly where it is taken so for some tuple.
use Rattle.std.proofs.Common.{◌≡◌, ◌≢◌, ◌↔◌, ℕ, Bool, true, false, List, refl, sym, ◌∙◌, arith}
use Rattle.std.proofs.lemmas.List.Elements.{All-contains}
use Rattle.ov_types.specs.declared.packet.Tuple.{Tuple}
use Rattle.config_types.specs.declared.config.Action.TheVariants.{Through}
use Rattle.config_types.specs.declared.config.End.{End}
use Rattle.config_types.specs.declared.config.End.TheVariants as Ends
use Rattle.config_types.specs.declared.config.Network.{Network}
use Rattle.config_types.specs.declared.config.Protocol.{Protocol}
use Rattle.config_types.specs.declared.config.Protocol.TheVariants as Of
use Rattle.config_types.specs.declared.config.Rule.{Rule}
use Rattle.policy_rules.specs.Related.{all_rules}
use Rattle.policy_rules.specs.Standing.{IsBetween, IsEnd}
use Rattle.policy_rules.specs.Taking.{IsProtocol, IsTaken, MatchesForwards}
use Rattle.policy_rules.specs.declared.numbered.NumberedRule.{NumberedRule}
use Rattle.config_check.specs.Checked.{Checked}
use Rattle.config_check.specs.Sentences.{IsValid, NamesEnds}
use Rattle.reach_plain.proofs.Kept.{valid}
use Rattle.hitless_cells.specs.Keeping.{IsValidAsWritten}
use Rattle.hitless_cells.specs.Ways.{HasPorts, SpeaksOf}
use Rattle.hitless_cells.proofs.Offered.{speaks}
use Rattle.hitless_cells.proofs.OneRule.{among_all}

-- a number of a protocol
some_number : (p : Protocol) → (n : ℕ) × IsProtocol p n
some_number Of.Any = (0, tt)
some_number (Of.Number n) = (n, refl)

-- one end is no two networks
one_end : (e : End) (a b : Network) → e ≢ Ends.Any → IsEnd e a → IsEnd e b → a.name ≡ b.name
one_end Ends.Any a b named h k = absurd (named refl)
one_end (Ends.Named name) a b named h k = sym h ∙ k

forwards : (a b : Network) (r : Rule) → HasPorts r → SpeaksOf a b r false → (t : Tuple) × IsTaken a b t r false
forwards a b r ports h =
    let p = some_number r.protocol in (
      record { proto = p.0; sport = r.source_ports.lo; dport = r.destination_ports.lo },
      record {
        source = h.0;
        destination = h.1;
        protocol = p.1;
        source_port = record { from = omega arith; to = ports.0 };
        destination_port = record { from = omega arith; to = ports.1 };
      },
    )

mirrored : (a b : Network) (r : Rule) → HasPorts r → r.source ≢ Ends.Any → a.name ≢ b.name → SpeaksOf a b r true → (t : Tuple) × IsTaken a b t r true
mirrored a b r ports named differ h =
    let p = some_number r.protocol in
    let t : Tuple = record { proto = p.0; sport = r.destination_ports.lo; dport = r.source_ports.lo } in (
      t,
      (
        record {
          both_ways = h.0;
          source = h.1.0;
          destination = h.1.1;
          protocol = p.1;
          source_port = record { from = omega arith; to = ports.0 };
          destination_port = record { from = omega arith; to = ports.1 };
        },
        λ (m : MatchesForwards a b t r). differ (one_end r.source a b named m.source h.1.0),
      ),
    )

pub speaks_where_taken : (x : Checked) (own target : Network) (r : NumberedRule) (chain : List ℕ) (use_no : ℕ) (way : Bool) → IsValidAsWritten x → IsBetween x.config own target r
    → r.rule.action ≡ Through chain use_no → HasPorts r.rule → own.name ≢ target.name → SpeaksOf own target r.rule way ↔ ((t : Tuple) × IsTaken own target t r.rule way)
speaks_where_taken x own target r chain use_no false v h leads ports differ = (forwards own target r.rule ports, λ k. speaks own target k.0 r.rule false k.1)
speaks_where_taken x own target r chain use_no true v h leads ports differ =
    let ok : IsValid x.topology x.config = valid x.topology x.config v.valid in
    let ends = All-contains (λ (r : NumberedRule). NamesEnds r.rule) (all_rules x.config) r ok.ends (among_all x.config own target r h) in
    (mirrored own target r.rule ports (ends chain use_no leads).0 differ, λ k. speaks own target k.0 r.rule true k.1)
