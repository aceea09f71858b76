use Rattle.std.proofs.Common.{◌≡◌, ℕ, List, [], ◌∷◌, ◌++◌, ap, subst, ◌∙◌}
use Rattle.std.specs.Result.{OnOk}
use Rattle.byteorder.specs.Endian.{big_bytes}
use Rattle.bgp_wire.specs.declared.kind.MessageKind.TheVariants.{Open}
use Rattle.bgp_wire.specs.Content.{Opens}
use Rattle.bgp_wire.specs.Opens.{open_octets}
use Rattle.bgp_wire.specs.Spelling.{framed, open_fields, my_as_of}
use Rattle.bgp_wire.proofs.Spelling.{read_again, open_says}
use Rattle.bgp_wire.proofs.write.write_open.Goals as goal

abbrev start : ℕ → ℕ → List ℕ
start my_as id = 4 ∷ [] ++ big_bytes 2 my_as ++ big_bytes 2 0 ++ big_bytes 4 id ++ 14 ∷ []

pub returns-clause-ok : goal.returns-clause-ok
returns-clause-ok c =
    let part = c.args.part.now in
    let parameters = c.open_parameters-parameters.result in
    let body : c.open_start-start.result ++ parameters ≡ open_octets (open_fields part) =
    ap (λ (xs : List ℕ). xs ++ parameters) (c.open_start-start.ensures.octets ∙ ap (λ (n : ℕ). start n part.id.0) c.my_as_of.ensures)
    ∙ ap (λ (xs : List ℕ). start (my_as_of part.asn) part.id.0 ++ xs) c.open_parameters-parameters.ensures.octets in
    subst (λ (xs : List ℕ). OnOk c.write_frame.result (c.write_frame.new.out.items ≡ c.args.out.now.items ++ framed Open xs)) body
    c.write_frame.ensures.ok

pub returns-clause-read_again : goal.returns-clause-read_again
returns-clause-read_again c = read_again (Opens (open_fields c.args.part.now)) (open_says c.args.part.now c.open_start-start.ensures.identifier c.requires.identifier)
