-- Two configurations keep a packet exactly where both offer both ways, each with one track.
use Rattle.std.proofs.Common.{◌≡◌, ◌↔◌, List, [], ◌∷◌, subst}
use Rattle.std.specs.List.{All, Any, Contains}
use Rattle.std.proofs.lemmas.List.Elements.{All-contains}
use Rattle.ov_types.specs.declared.numbers.PortNo.{PortNo}
use Rattle.ov_types.specs.declared.packet.Packet.{Packet}
use Rattle.ov_types.proofs.FirstLemmas.{any_of, contains_here, contains_later}
use Rattle.config_check.specs.Checked.{Checked}
use Rattle.reach_plain.proofs.Kept.{valid}
use Rattle.hitless_cells.specs.Keeping.{IsValidAsWritten, Keep, OfferAlike}
use Rattle.hitless_cells.specs.Ways.{LeadsTo, Offers, Track, Way}
use Rattle.hitless_cells.proofs.Alone.{one_way}
use Rattle.hitless_cells.proofs.Hitless.{all_two}

-- a way that one of them takes is offered by both
offered_alike : (x y z : Checked) (p : Packet) (number : PortNo) (way : Way) (ways : List Way) → IsValidAsWritten z → Contains (x ∷ y ∷ []) z → Keep (x ∷ y ∷ []) p number ways
    → LeadsTo z.config p number way → OfferAlike x y p number way
offered_alike x y z p number way ways v at h leads =
    let by = All-contains (λ (u : Checked). Any (λ way. LeadsTo u.config p number way) ways) (x ∷ y ∷ []) z h.leads at in
    let there : Contains ways by.1 = (by.0, by.2, by.3) in
    let same : by.1 ≡ way = (one_way z (valid z.topology z.config v.valid) v.form p number number by.1 way by.4 leads).1 in
    let has = All-contains (λ (u : Way). (track : Track) × All (λ z. Offers z p number u track) (x ∷ y ∷ [])) ways by.1 h.offered there in
    subst (OfferAlike x y p number) same (
      has.0,
      All-contains (λ (z : Checked). Offers z p number by.1 has.0) (x ∷ y ∷ []) x has.1 (contains_here x (y ∷ [])),
      All-contains (λ (z : Checked). Offers z p number by.1 has.0) (x ∷ y ∷ []) y has.1 (contains_later y x (y ∷ []) (contains_here y [])),
    )

pub two_keep : (x y : Checked) (p : Packet) (number : PortNo) (before after : Way) → IsValidAsWritten x → IsValidAsWritten y
    → LeadsTo x.config p number before → LeadsTo y.config p number after
    → ((ways : List Way) × Keep (x ∷ y ∷ []) p number ways) ↔ (OfferAlike x y p number before × OfferAlike x y p number after)
two_keep x y p number before after v w lead_x lead_y = (
  λ h. (
    offered_alike x y x p number before h.0 v (contains_here x (y ∷ [])) h.1 lead_x,
    offered_alike x y y p number after h.0 w (contains_later y x (y ∷ []) (contains_here y [])) h.1 lead_y,
  ),
  λ h.
      let ways : List Way = before ∷ after ∷ [] in
      let second : Contains ways after = contains_later after before (after ∷ []) (contains_here after []) in
      let By : Checked → Type 0 = λ z. Any (λ way. LeadsTo z.config p number way) ways in
      let Is : Way → Type 0 = λ u. Any (λ z. LeadsTo z.config p number u) (x ∷ y ∷ []) in
      let Has : Way → Type 0 = λ u. (track : Track) × All (λ z. Offers z p number u track) (x ∷ y ∷ []) in (
        ways,
        record {
          leads = all_two By x y (any_of (λ u. LeadsTo x.config p number u) ways before (contains_here before (after ∷ [])) lead_x)
              (any_of (λ u. LeadsTo y.config p number u) ways after second lead_y);
          taken = all_two Is before after (any_of (λ z. LeadsTo z.config p number before) (x ∷ y ∷ []) x (contains_here x (y ∷ [])) lead_x)
              (any_of (λ z. LeadsTo z.config p number after) (x ∷ y ∷ []) y (contains_later y x (y ∷ []) (contains_here y [])) lead_y);
          offered = all_two Has before after (h.0.0, all_two (λ z. Offers z p number before h.0.0) x y h.0.1 h.0.2)
              (h.1.0, all_two (λ z. Offers z p number after h.1.0) x y h.1.1 h.1.2);
        },
      ),
)
