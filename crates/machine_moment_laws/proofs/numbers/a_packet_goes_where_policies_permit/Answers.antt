use Rattle.machine_moment_laws.proofs.numbers.a_packet_goes_where_policies_permit.Goals as goal

pub returns : goal.returns
returns c = λ y p a answers. answers.0
