use Rattle.std.proofs.Common.{◌≢◌, Bool, true, false}
use Rattle.vpn_tables.specs.Followed.{key_led, led_of}
use Rattle.control_wants.specs.Marks.{IsEither, IsLedMoved, IsRowMoved, Marks, MarksOnly, no_item, no_route}
use Rattle.control_wants.proofs.Growing.{within_then}
use Rattle.control_wants.proofs.Only.{only_more, only_then}
use Rattle.control_wants.proofs.Telling.{both_stay, row_stays}
use Rattle.control_wants.proofs.told.mark_change.Goals as goal

pub returns-clause-within : goal.returns-clause-within
returns-clause-within c = within_then _ _ _ c.mark_row.ensures.within (within_then _ _ _ c.mark_led_change.ensures.within c.mark_led_change-2.ensures.within)

pub returns-clause-marked : goal.returns-clause-marked
returns-clause-marked c =
    let x = c.args.change.now in
    let right = c.mark_led_change.new.dirty in
    let left = c.mark_led_change-2.new.dirty in
    record {
      row = row_stays c.mark_row.new.dirty left x c.mark_row.ensures.marked (within_then _ _ _ c.mark_led_change.ensures.within c.mark_led_change-2.ensures.within);
      right = both_stay right left _ (key_led x.before.led_right) (key_led x.after.led_right) c.mark_led_change.ensures.marked c.mark_led_change-2.ensures.within;
      left = c.mark_led_change-2.ensures.marked;
    }

pub returns-clause-only : goal.returns-clause-only
returns-clause-only c =
    let x = c.args.change.now in
    let P = IsLedMoved x in
    let Q = IsRowMoved x in
    only_then P Q _ _ _ (only_more P Q no_route Q (λ k n. absurd n) (λ a k r. r) _ _ c.mark_row.ensures.only)
    (only_then P Q _ _ _ (of_end true _ _ c.mark_led_change.ensures.only) (of_end false _ _ c.mark_led_change-2.ensures.only))
  where
    of_end : (b : Bool) (d d' : Marks) → MarksOnly (IsEither (led_of b c.args.change.now.before ≢ led_of b c.args.change.now.after) (key_led (led_of b c.args.change.now.before)) (key_led (led_of b c.args.change.now.after))) no_item d d'
        → MarksOnly (IsLedMoved c.args.change.now) (IsRowMoved c.args.change.now) d d'
    of_end b d d' m = only_more (IsLedMoved c.args.change.now) (IsRowMoved c.args.change.now) _ no_item (λ k e. (b, e)) (λ a k n. absurd n) d d' m
