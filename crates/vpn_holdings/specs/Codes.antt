-- How holdings are told apart: by the codes of their parts.
use Rattle.std.specs.Prelude.{ℕ, List, refl}
use Rattle.std.specs.Coded.{Coded, code_by, coded×, coded_list, coded_ℕ}
use Rattle.ov_types.specs.declared.prefix.Addr.{Addr}
use Rattle.ov_types.specs.contracts.prefix.Addr as addresses
use Rattle.path_select.specs.NodeModel.Codes.{coded_map}
use Rattle.path_select.specs.NodeModel.Maps.{Map}
use Rattle.path_select.specs.NodeModel.Paths.{Holdings, Told}

abbrev pub coded_told : Coded Told
coded_told =
    code_by (ℕ × (Addr × Map)) (coded× coded_ℕ (coded× addresses.the_row.coded coded_map))
    (λ a. (a.session, (a.address, a.map))) (λ p. record { session = p.0; address = p.1.0; map = p.1.1 }) (λ _. refl)

abbrev pub coded_holdings : Coded Holdings
coded_holdings =
    code_by (ℕ × (Map × (List Map × List Told)))
    (coded× coded_ℕ (coded× coded_map (coded× (coded_list coded_map) (coded_list coded_told))))
    (λ h. (h.asn, (h.feed, (h.peers, h.agents))))
    (λ p. record { asn = p.0; feed = p.1.0; peers = p.1.1.0; agents = p.1.1.1 }) (λ _. refl)
