-- A change to a configuration that has more, and the change back, interrupt no packet.
use Rattle.std.proofs.Common.{◌≡◌, [], ◌∷◌, sym, ◌∙◌, arith}
use Rattle.std.specs.List.{All, Any}
use Rattle.ov_types.specs.declared.numbers.PortNo.{PortNo}
use Rattle.ov_types.specs.declared.packet.Outcome.TheVariants.{Delivered}
use Rattle.ov_types.specs.declared.packet.Packet.{Packet}
use Rattle.ov_types.proofs.FirstLemmas.{all_cons, any_of, contains_here}
use Rattle.config_check.specs.Checked.{Checked}
use Rattle.config_check.specs.Sentences.{IsValid}
use Rattle.reach_plain.proofs.Kept.{valid}
use Rattle.hitless_cells.specs.Keeping.{Delivers, DeliversAlike, IsHitless, IsValidAsWritten, Keep}
use Rattle.hitless_cells.specs.Ways.{LeadsTo, Offers, Track, Way}
use Rattle.hitless_cells.proofs.Grown.{Grows}
use Rattle.hitless_cells.proofs.Larger.{delivered_on, leads_on, offers_on}
use Rattle.hitless_cells.proofs.Offered.{offered}
use Rattle.hitless_cells.proofs.Taken.{delivers_is, led_where_delivered}

all_none : {A : Type 0} (P : A → Type 0) → All P []
all_none P = λ k d lt. absurd (omega arith)

pub all_two : {A : Type 0} (P : A → Type 0) (a b : A) → P a → P b → All P (a ∷ b ∷ [])
all_two P a b h k = all_cons P a (b ∷ []) h (all_cons P b [] k (all_none P))

all_one : {A : Type 0} (P : A → Type 0) (a : A) → P a → All P (a ∷ [])
all_one P a h = all_cons P a [] h (all_none P)

-- two configurations that lead a packet by one way, which both offer with one track, keep it
pub keep_two : (x y : Checked) (p : Packet) (number : PortNo) (way : Way) (track : Track) → LeadsTo x.config p number way → LeadsTo y.config p number way
    → Offers x p number way track → Offers y p number way track → Keep (x ∷ y ∷ []) p number (way ∷ [])
keep_two x y p number way track lead_x lead_y offer_x offer_y =
    let By : Checked → Type 0 = λ z. Any (λ way. LeadsTo z.config p number way) (way ∷ []) in
    let Is : Way → Type 0 = λ v. Any (λ z. LeadsTo z.config p number v) (x ∷ y ∷ []) in
    let Has : Way → Type 0 = λ v. (track : Track) × All (λ z. Offers z p number v track) (x ∷ y ∷ []) in
    record {
      leads = all_two By x y (any_of (λ v. LeadsTo x.config p number v) (way ∷ []) way (contains_here way []) lead_x)
          (any_of (λ v. LeadsTo y.config p number v) (way ∷ []) way (contains_here way []) lead_y);
      taken = all_one Is way (any_of (λ z. LeadsTo z.config p number way) (x ∷ y ∷ []) x (contains_here x (y ∷ [])) lead_x);
      offered = all_one Has way (track, all_two (λ z. Offers z p number way track) x y offer_x offer_y);
    }

module _ (x y : Checked) (v : IsValidAsWritten x) (w : IsValidAsWritten y) (g : Grows x y) where
  valid_x : IsValid x.topology x.config
  valid_x = valid x.topology x.config v.valid

  valid_y : IsValid y.topology y.config
  valid_y = valid y.topology y.config w.valid

  pub delivers_alike : DeliversAlike x y
  delivers_alike p number services h =
      (delivers_is y w p number services).1 (delivered_on x y valid_x valid_y g p number services ((delivers_is x v p number services).0 h))

  one_port : (p : Packet) (before after : PortNo) → Delivers x p before → Delivers y p after → before ≡ after
  one_port p before after h k =
      let same : Delivered before h.0 ≡ Delivered after k.0 = sym (delivers_alike p before h.0 h.1) ∙ k.1 in
      cc

  pub grown_is_hitless : IsHitless x y
  grown_is_hitless =
      record {
        kept = λ p number h k.
            let way = (led_where_delivered x v p number).0 h in
            let track = offered x valid_x p number way.0 way.1 in (
              way.0 ∷ [],
              keep_two x y p number way.0 track.0 way.1 (leads_on x y valid_x valid_y g p number way.0 way.1)
                  track.1 (offers_on x y valid_x valid_y g p number way.0 track.0 track.1),
            );
        one_port = one_port;
      }

  pub shrunk_is_hitless : IsHitless y x
  shrunk_is_hitless =
      record {
        kept = λ p number k h.
            let way = (led_where_delivered x v p number).0 h in
            let track = offered x valid_x p number way.0 way.1 in (
              way.0 ∷ [],
              keep_two y x p number way.0 track.0 (leads_on x y valid_x valid_y g p number way.0 way.1) way.1
                  (offers_on x y valid_x valid_y g p number way.0 track.0 track.1) track.1,
            );
        one_port = λ p before after k h. sym (one_port p after before h k);
      }
