-- Each line is of a packet that is interrupted, and each packet that is not kept has a line.
use Rattle.std.proofs.Common.{◌≡◌, ◌≢◌, ◌↔◌, ◌⊎◌, inl, inr, ℕ, eqb, Bool, true, false, cond, IsTrue, List, [], ◌∷◌, Option, Some, None, option_map, option_to_list, refl, sym, ap, ◌∙◌, subst}
use Rattle.std.specs.List.{Contains}
use Rattle.std.proofs.lemmas.Bool.{and_parts, eqb-true}
use Rattle.ov_types.specs.declared.numbers.PortNo.{PortNo}
use Rattle.ov_types.specs.declared.packet.Packet.{Packet}
use Rattle.ov_types.specs.declared.packet.Tuple.{Tuple}
use Rattle.ov_types.specs.declared.prefix.Addr.{Addr}
use Rattle.ov_types.proofs.FirstLemmas.{contains_here}
use Rattle.policy_rules.proofs.Lists.{is_joined, joined_is}
use Rattle.policy_regions.specs.Parts.{IsTuple}
use Rattle.config_check.specs.Checked.{Checked}
use Rattle.config_check.specs.Finding.{node_named}
use Rattle.config_check.specs.Sentences.{IsValid}
use Rattle.reach_plain.proofs.Kept.{valid}
use Rattle.hitless_cells.specs.Keeping.{Delivers, IsHitless, IsValidAsWritten}
use Rattle.hitless_cells.specs.Ways.{LeadsTo, Way}
use Rattle.hitless_cells.proofs.Both.{two_keep}
use Rattle.hitless_cells.proofs.Taken.{led_where_delivered}
use Rattle.hitless_cells.specs.Cells.{are_near, cells_of, is_near}
use Rattle.hitless_cells.specs.Courses.{course_on, way_of}
use Rattle.hitless_cells.specs.Ends.{ends_of, joint_of}
use Rattle.hitless_cells.specs.Interrupted.{EachHasLine, HasLine, IsInterrupted, IsKept, IsNotKept, Says, SaysOfWays}
use Rattle.hitless_cells.specs.Lines.{all_lines, best_line, comes_first, difference_at, difference_of, interruptions, line_on, line_with, lines_at, lines_between, lines_from, lines_of, lines_out}
use Rattle.hitless_cells.specs.Openings.{change_found}
use Rattle.hitless_cells.specs.declared.cells.Cell.{Cell}
use Rattle.hitless_cells.specs.declared.course.Course.{Course}
use Rattle.hitless_cells.specs.declared.ends.Ends.{Ends}
use Rattle.hitless_cells.specs.declared.joints.Joint.{Joint}
use Rattle.hitless_cells.specs.declared.joints.Meeting.TheVariants.{ByNumber, ByAddress}
use Rattle.hitless_cells.specs.declared.lines.Difference.{Difference}
use Rattle.hitless_cells.specs.declared.lines.Difference.TheVariants as Is
use Rattle.hitless_cells.specs.declared.lines.Interruption.{Interruption}
use Rattle.hitless_cells.proofs.Best.{has_line, line_is, no_later}
use Rattle.hitless_cells.proofs.Celled.{IsCell, cells_are, has_cell, nothing, sole}
use Rattle.hitless_cells.proofs.Differing.{kept_where_none, none_where_kept}
use Rattle.hitless_cells.proofs.Narrow.{narrowed}
use Rattle.hitless_cells.proofs.Joined.{AreEnds, MeetAt, ends_are, meet_at}
use Rattle.hitless_cells.proofs.Ordered.{in_order}
use Rattle.hitless_cells.proofs.Saying.{says_so}
use Rattle.hitless_cells.proofs.Sameness.{both_true, same_number}
use Rattle.hitless_cells.proofs.Sides.{Led, Side, led_by, leads_to}

pub option_one : {A : Type 0} (o : Option A) (z : A) → Contains (option_to_list o) z → o ≡ Some z
option_one None z at = nothing z at
option_one (Some y) z at = ap Some (sole y z at)

one_option : {A : Type 0} (o : Option A) (z : A) → o ≡ Some z → Contains (option_to_list o) z
one_option {A} o z e = subst (λ (o : Option A). Contains (option_to_list o) z) (sym e) (contains_here z [])

mapped : {A B : Type 0} (f : A → B) (o : Option A) (z : B) → option_map f o ≡ Some z → (y : A) × (o ≡ Some y) × (f y ≡ z)
mapped f None z h = absurd cc
mapped f (Some y) z h = (y, refl, cc)

module _ (x y : Checked) (v : IsValidAsWritten x) (w : IsValidAsWritten y) where
  abbrev ok_x : IsValid x.topology x.config
  ok_x = valid x.topology x.config v.valid

  abbrev ok_y : IsValid y.topology y.config
  ok_y = valid y.topology y.config w.valid

  -- a packet of a line, with both sides of it
  module _ (from to : Ends) (j k : Joint) (own : AreEnds x y ByNumber from j) (target : AreEnds x y ByAddress to k) (t : Tuple) where
    abbrev packet : Packet
    packet = record { source = j.before.id; destination = k.before.address; tuple = t }

    side_before : Side x packet k.before.id from.before to.before j.before k.before
    side_before = record {
      own_stands = own.own;
      target_stands = target.own;
      source_stands = own.joint.before;
      source_network = own.network_before;
      source_number = refl;
      arrival_stands = target.joint.before;
      arrival_network = target.network_before;
      arrival_address = refl;
      arrival_number = refl;
    }

    side_after : Side y packet k.after.id from.after to.after j.after k.after
    side_after = record {
      own_stands = own.target;
      target_stands = target.target;
      source_stands = own.joint.after;
      source_network = own.network_after;
      source_number = ap (λ m. record { 0 = m }) (sym (eqb-true j.before.id.0 j.after.id.0 own.joint.meet));
      arrival_stands = target.joint.after;
      arrival_network = target.network_after;
      arrival_address = ap (λ m. record { 0 = m }) (sym (eqb-true k.before.address.0 k.after.address.0 target.joint.meet));
      arrival_number = refl;
    }

    source_change : j.change ≡ change_found (node_named x.topology j.before.node) (node_named y.topology j.after.node)
    source_change = ap (λ (i : Joint). i.change) (sym own.joint.made)

    arrival_change : k.change ≡ change_found (node_named x.topology k.before.node) (node_named y.topology k.after.node)
    arrival_change = ap (λ (i : Joint). i.change) (sym target.joint.made)

    -- to one port
    module _ (one : k.before.id.0 ≡ k.after.id.0) where
      pub number_is : k.after.id ≡ k.before.id
      number_is = ap (λ m. record { 0 = m }) (sym one)

      pub side_same : Side y packet k.before.id from.after to.after j.after k.after
      side_same = subst (λ (n : PortNo). Side y packet n from.after to.after j.after k.after) number_is side_after

  -- a line of a cell

  one_id : (k : Joint) → k.before.id.0 ≡ k.after.id.0 → k.after.id ≡ k.before.id
  one_id k one = ap (λ m. record { 0 = m }) (sym one)

  other_id : (k : Joint) → eqb k.before.id.0 k.after.id.0 ≡ false → k.after.id ≢ k.before.id
  other_id k e same = let never : false ≡ true = sym e ∙ ap (λ (n : PortNo). eqb k.before.id.0 n.0) same ∙ same_number k.before.id.0 in absurd cc

  says_one : (p : Packet) (number other : PortNo) (was becomes : Way) (d : Difference) → other ≡ number → SaysOfWays x y p number was becomes d → Says x y p number other was becomes d
  says_one p number other was becomes (Is.AnotherPort after) e h = absurd h
  says_one p number other was becomes Is.NotOfferedBefore e h = (e, h)
  says_one p number other was becomes Is.NotOfferedAfter e h = (e, h)
  says_one p number other was becomes Is.Network e h = (e, h)
  says_one p number other was becomes Is.Node e h = (e, h)
  says_one p number other was becomes Is.Services e h = (e, h)
  says_one p number other was becomes Is.Subnet e h = (e, h)
  says_one p number other was becomes Is.ControlNodes e h = (e, h)

  alike : (from to : Ends) (j k : Joint) (cell : Cell) → k.before.id.0 ≡ k.after.id.0 → difference_at from to j k cell ≡ difference_of from to j k cell
  alike from to j k cell one = ap (λ (b : Bool). cond b (difference_of from to j k cell) (Some (Is.AnotherPort k.after.id))) (ap (λ (m : ℕ). eqb k.before.id.0 m) (sym one) ∙ same_number k.before.id.0)

  interrupted_by : (from to : Ends) (j k : Joint) (cell : Cell) (d : Difference) → AreEnds x y ByNumber from j → AreEnds x y ByAddress to k
      → are_near x from.before to.before y from.after to.after ≡ true → Contains (cells_of x from.before to.before y from.after to.after) cell
      → difference_at from to j k cell ≡ Some d → IsInterrupted x y (line_with j k cell d)
  interrupted_by from to j k cell d own target near at differ =
      let is = cells_are x y from.before to.before from.after to.after cell at in
      let both = and_parts (is_near x.config from.before to.before) (is_near y.config from.after to.after) near in
      let p : Packet = record { source = j.before.id; destination = k.before.address; tuple = cell.tuple } in
      let s = side_before from to j k own target cell.tuple in
      let r = side_after from to j k own target cell.tuple in
      let before : LeadsTo x.config p k.before.id (way_of cell.was) =
      leads_to x ok_x v.form p k.before.id from.before to.before j.before k.before s cell.was both.0 is.before in
      let after : LeadsTo y.config p k.after.id (way_of cell.becomes) =
      leads_to y ok_y w.form p k.after.id from.after to.after j.after k.after r cell.becomes both.1 is.after in
      record {
        packet = p;
        other = k.after.id;
        source = refl;
        tuple = refl;
        before = before;
        after = after;
        not_kept = elim (eqb k.before.id.0 k.after.id.0) as (λ b. eqb k.before.id.0 k.after.id.0 ≡ b → IsNotKept x y p k.before.id k.after.id) [
          | true ↦ λ e.
              let one : k.before.id.0 ≡ k.after.id.0 = eqb-true k.before.id.0 k.after.id.0 e in
              let same = side_same from to j k own target cell.tuple one in
              inr (
                one_id k one,
                λ kept.
                    let offers = (two_keep x y p k.before.id (way_of cell.was) (way_of cell.becomes) v w before (there one after)).0 kept in
                    let kept_so = none_where_kept x y ok_x ok_y v.form w.form p k.before.id from to j k s same cell is.opening
                    (source_change from to j k own target cell.tuple) (arrival_change from to j k own target cell.tuple) offers.0 offers.1 in
                    let never : None ≡ Some d = sym kept_so ∙ sym (alike from to j k cell one) ∙ differ in
                    absurd cc,
              )
          | false ↦ λ e. inl (other_id k e)
        ] refl;
        says = elim (eqb k.before.id.0 k.after.id.0) as (λ b. eqb k.before.id.0 k.after.id.0 ≡ b → cond b (difference_of from to j k cell) (Some (Is.AnotherPort k.after.id)) ≡ Some d
            → Says x y p k.before.id k.after.id (way_of cell.was) (way_of cell.becomes) d) [
              | true ↦ λ e some.
                  let one : k.before.id.0 ≡ k.after.id.0 = eqb-true k.before.id.0 k.after.id.0 e in
                  let same = side_same from to j k own target cell.tuple one in
                  says_one p k.before.id k.after.id (way_of cell.was) (way_of cell.becomes) d (one_id k one)
                  (says_so x y ok_x ok_y v.form w.form p k.before.id from to j k s same cell before (there one after)
                  (source_change from to j k own target cell.tuple) (arrival_change from to j k own target cell.tuple) refl is.opening d some)
              | false ↦ λ e some.
                  let which : Is.AnotherPort k.after.id ≡ d = cc in
                  subst (Says x y p k.before.id k.after.id (way_of cell.was) (way_of cell.becomes)) which (refl, other_id k e)
            ] refl differ;
      }
    where
      there : {p : Packet} {way : Way} → k.before.id.0 ≡ k.after.id.0 → LeadsTo y.config p k.after.id way → LeadsTo y.config p k.before.id way
      there {p} {way} one after = subst (λ (n : PortNo). LeadsTo y.config p n way) (one_id k one) after

  pub interrupted : (l : Interruption) → Contains (all_lines x y) l → IsInterrupted x y l
  interrupted l at =
      let arrivals = ends_of x y ByAddress in
      let from = joined_is (lines_out x y arrivals) (ends_of x y ByNumber) l at in
      let to = joined_is (lines_between x y from.0) arrivals l from.2 in
      let a = from.0 in
      let b = to.0 in
      elim (are_near x a.before b.before y a.after b.after) as (λ q. are_near x a.before b.before y a.after b.after ≡ q
      → Contains (cond q (lines_of a b (cells_of x a.before b.before y a.after b.after)) []) l → IsInterrupted x y l) [
        | true ↦ λ e at.
            let cells : List Cell = cells_of x a.before b.before y a.after b.after in
            let j = joined_is (lines_from a b cells) a.joints l at in
            let k = joined_is (lines_at a b cells j.0) b.joints l j.2 in
            let of = line_is a b j.0 k.0 cells l (option_one (best_line a b j.0 k.0 None cells) l k.2) in
            let d = mapped (line_with j.0 k.0 of.cell) (difference_at a b j.0 k.0 of.cell) l of.is in
            subst (IsInterrupted x y) d.2
            (interrupted_by a b j.0 k.0 of.cell d.0 (ends_are x y ByNumber a j.0 from.1 j.1) (ends_are x y ByAddress b k.0 to.1 k.1) e of.stands d.1)
        | false ↦ λ e at. nothing l at
      ] refl to.2

  -- a packet that is not kept

  module _ (from to : Ends) (j k : Joint) (own : AreEnds x y ByNumber from j) (target : AreEnds x y ByAddress to k) (t : Tuple) where
    -- it is kept to its port
    abbrev IsKeptThere : Type 0
    IsKeptThere = (k.after.id ≡ k.before.id) × IsKept x y (packet from to j k own target t) k.before.id

    kept_there : (cell : Cell) → IsCell x y from.before to.before from.after to.after cell → LeadsTo x.config (packet from to j k own target t) k.before.id (way_of cell.was)
        → LeadsTo y.config (packet from to j k own target t) k.after.id (way_of cell.becomes) → difference_at from to j k cell ≡ None → IsKeptThere
    kept_there cell is before after e =
        let p : Packet = packet from to j k own target t in
        let one = one_port e in
        let number : k.after.id ≡ k.before.id = ap (λ m. record { 0 = m }) (sym one) in
        let s = side_before from to j k own target t in
        let r = side_same from to j k own target t one in
        let there : LeadsTo y.config p k.before.id (way_of cell.becomes) = subst (λ (n : PortNo). LeadsTo y.config p n (way_of cell.becomes)) number after in
        let offers = kept_where_none x y ok_x ok_y v.form w.form p k.before.id from to j k s r cell is.opening
        (source_change from to j k own target t) (arrival_change from to j k own target t) (sym (alike from to j k cell one) ∙ e) in
        (number, (two_keep x y p k.before.id (way_of cell.was) (way_of cell.becomes) v w before there).1 offers)
      where
        one_port : difference_at from to j k cell ≡ None → k.before.id.0 ≡ k.after.id.0
        one_port e =
            elim (eqb k.before.id.0 k.after.id.0) as (λ b. eqb k.before.id.0 k.after.id.0 ≡ b → cond b (difference_of from to j k cell) (Some (Is.AnotherPort k.after.id)) ≡ None → k.before.id.0 ≡ k.after.id.0) [
              | true ↦ λ e absent. eqb-true k.before.id.0 k.after.id.0 e
              | false ↦ λ e absent. absurd cc
            ] refl e

    line_at : (at_from : Contains (ends_of x y ByNumber) from) (at_to : Contains (ends_of x y ByAddress) to) (in_from : Contains from.joints j) (in_to : Contains to.joints k)
        → is_near x.config from.before to.before ≡ true → is_near y.config from.after to.after ≡ true → (u : Tuple) → IsTuple u → (IsTuple t → u ≡ t)
        → (was becomes : Course) → course_on x.config from.before to.before t ≡ Some was → course_on y.config from.after to.after t ≡ Some becomes
        → course_on x.config from.before to.before u ≡ Some was → course_on y.config from.after to.after u ≡ Some becomes
        → IsKeptThere ⊎ HasLine (all_lines x y) (packet from to j k own target t) k.before.id
    line_at at_from at_to in_from in_to near_x near_y u is_tuple as_it_is was becomes goes_x goes_y also_x also_y =
        let has = has_cell x y from.before to.before from.after to.after ok_x ok_y u was becomes is_tuple also_x also_y in
        let cells : List Cell = cells_of x from.before to.before y from.after to.after in
        let cell : Cell = has.cell in
        let is = cells_are x y from.before to.before from.after to.after cell has.stands in
        let p : Packet = packet from to j k own target t in
        let before : LeadsTo x.config p k.before.id (way_of cell.was) =
        leads_to x ok_x v.form p k.before.id from.before to.before j.before k.before (side_before from to j k own target t) cell.was near_x (goes_x ∙ ap Some (sym has.before)) in
        let after : LeadsTo y.config p k.after.id (way_of cell.becomes) =
        leads_to y ok_y w.form p k.after.id from.after to.after j.after k.after (side_after from to j k own target t) cell.becomes near_y (goes_y ∙ ap Some (sym has.after)) in
        elim (difference_at from to j k cell) as (λ o. difference_at from to j k cell ≡ o → IsKeptThere ⊎ HasLine (all_lines x y) p k.before.id) [
          | None ↦ λ absent. inl (kept_there cell is before after absent)
          | Some d ↦ λ some. inr (
              let m : Interruption = line_with j k cell d in
              let on : line_on from to j k cell ≡ Some m = ap (option_map (line_with j k cell)) some in
              let best = has_line from to j k cells cell m has.stands on in
              let l : Interruption = best.line in
              let of = line_is from to j k cells l best.is in
              let e = mapped (line_with j k of.cell) (difference_at from to j k of.cell) l of.is in
              let here : Contains (lines_at from to cells j k) l = one_option (best_line from to j k None cells) l best.is in
              let among : Contains (lines_of from to cells) l =
              is_joined (lines_from from to cells) from.joints j l in_from (is_joined (lines_at from to cells j) to.joints k l in_to here) in
              let near : are_near x from.before to.before y from.after to.after ≡ true = both_true (is_near x.config from.before to.before) (is_near y.config from.after to.after) near_x near_y in
              let between : Contains (lines_between x y from to) l = subst (λ (b : Bool). Contains (cond b (lines_of from to cells) []) l) (sym near) among in
              record {
                line = l;
                stands = is_joined (lines_out x y (ends_of x y ByAddress)) (ends_of x y ByNumber) from l at_from (is_joined (lines_between x y from) (ends_of x y ByAddress) to l at_to between);
                from = sym (ap (λ (l : Interruption). l.from) e.2);
                to = sym (ap (λ (l : Interruption). l.to) e.2);
                least = λ of_range first.
                    let same : u ≡ t = as_it_is of_range in
                    let not_before : comes_first t cell.tuple ≡ false = subst (λ (t : Tuple). comes_first t cell.tuple ≡ false) same (not_so (comes_first u cell.tuple) has.least) in
                    let never : comes_first t l.tuple ≡ false = no_later t cell.tuple l.tuple not_before best.no_later in
                    let both : true ≡ false = sym first ∙ never in
                    absurd cc;
              })
        ] refl
      where
        not_so : (b : Bool) → ¬ IsTrue b → b ≡ false
        not_so true h = absurd (h refl)
        not_so false h = refl

  -- the two networks and ports of a packet, in both configurations
  module _ (p : Packet) (number other : PortNo) (one two : Way) (h : Led x p number one) (g : Led y p other two) where
    sources : MeetAt x y ByNumber h.a g.a h.q g.q
    sources =
        meet_at x y ByNumber h.a g.a h.q g.q h.side.own_stands g.side.own_stands h.side.source_stands g.side.source_stands h.side.source_network g.side.source_network
        (ap (λ (n : PortNo). eqb h.q.id.0 n.0) (g.side.source_number ∙ sym h.side.source_number) ∙ same_number h.q.id.0)

    arrivals : MeetAt x y ByAddress h.b g.b h.d g.d
    arrivals =
        meet_at x y ByAddress h.b g.b h.d g.d h.side.target_stands g.side.target_stands h.side.arrival_stands g.side.arrival_stands h.side.arrival_network g.side.arrival_network
        (ap (λ (a : Addr). eqb h.d.address.0 a.0) (g.side.arrival_address ∙ sym h.side.arrival_address) ∙ same_number h.d.address.0)

    pub line_of : ((other ≡ number) × IsKept x y p number) ⊎ HasLine (all_lines x y) p number
    line_of =
        let from : Ends = sources.ends in
        let to : Ends = arrivals.ends in
        let j : Joint = joint_of x y h.q g.q in
        let k : Joint = joint_of x y h.d g.d in
        let own = ends_are x y ByNumber from j sources.stands sources.joint in
        let target = ends_are x y ByAddress to k arrivals.stands arrivals.joint in
        let near_x : is_near x.config from.before to.before ≡ true = (λ i. is_near x.config (sources.before i) (arrivals.before i)) ∙ h.near in
        let near_y : is_near y.config from.after to.after ≡ true = (λ i. is_near y.config (sources.after i) (arrivals.after i)) ∙ g.near in
        let goes_x : course_on x.config from.before to.before p.tuple ≡ Some h.course = (λ i. course_on x.config (sources.before i) (arrivals.before i) p.tuple) ∙ h.goes in
        let goes_y : course_on y.config from.after to.after p.tuple ≡ Some g.course = (λ i. course_on y.config (sources.after i) (arrivals.after i) p.tuple) ∙ g.goes in
        let u = narrowed x y v w from.before to.before from.after to.after own.own own.target p.tuple h.course g.course goes_x goes_y in
        let same : packet from to j k own target p.tuple ≡ p = λ i. record { source = h.side.source_number i; destination = h.side.arrival_address i; tuple = p.tuple } in
        let line = line_at from to j k own target p.tuple sources.stands arrivals.stands sources.joint arrivals.joint near_x near_y u.tuple u.is u.as_it_is h.course g.course goes_x goes_y u.before u.after in
        let There : Packet → PortNo → PortNo → Type 0 = λ p n m. ((m ≡ n) × IsKept x y p n) ⊎ HasLine (all_lines x y) p n in
        let there : There p h.d.id g.d.id = subst (λ (q : Packet). There q h.d.id g.d.id) same line in
        subst (λ (m : PortNo). There p number m) g.side.arrival_number (subst (λ (n : PortNo). There p n g.d.id) h.side.arrival_number there)

  pub kept_or_line : (p : Packet) (number other : PortNo) → Delivers x p number → Delivers y p other → ((other ≡ number) × IsKept x y p number) ⊎ HasLine (all_lines x y) p number
  kept_or_line p number other h g =
      let one = (led_where_delivered x v p number).0 h in
      let two = (led_where_delivered y w p other).0 g in
      line_of p number other one.0 two.0 (led_by x ok_x v.form p number one.0 one.1) (led_by y ok_y w.form p other two.0 two.1)

  pub each_has_line : EachHasLine x y (all_lines x y)
  each_has_line p number other h g not_kept =
      elim (kept_or_line p number other h g) [
        | inl kept ↦ elim not_kept [ inl apart ↦ absurd (apart kept.0) | inr never ↦ absurd (never.1 kept.1) ]
        | inr line ↦ line
      ]

  -- there is no line exactly where the change is hitless

  hitless_where_none : all_lines x y ≡ [] → IsHitless x y
  hitless_where_none absent =
      record { kept = λ p number h g. (kept p number number h g).1; one_port = λ p before after h g. sym (kept p before after h g).0 }
    where
      kept : (p : Packet) (number other : PortNo) → Delivers x p number → Delivers y p other → (other ≡ number) × IsKept x y p number
      kept p number other h g =
          elim (kept_or_line p number other h g) [
            | inl is ↦ is
            | inr line ↦ nothing line.line (subst (λ (ls : List Interruption). Contains ls line.line) absent line.stands)
          ]

  no_line : IsHitless x y → (l : Interruption) → ¬ Contains (all_lines x y) l
  no_line h l at =
      let i = interrupted l at in
      let p : Packet = i.packet in
      let before : Delivers x p l.to = (led_where_delivered x v p l.to).1 (way_of l.was, i.before) in
      let after : Delivers y p i.other = (led_where_delivered y w p i.other).1 (way_of l.becomes, i.after) in
      elim i.not_kept [
        | inl apart ↦ absurd (apart (sym (h.one_port p l.to i.other before after)))
        | inr never ↦ absurd (never.1 (h.kept p l.to before (subst (λ (n : PortNo). Delivers y p n) never.0 after)))
      ]

  empty : (lines : List Interruption) → ((l : Interruption) → ¬ Contains lines l) → lines ≡ []
  empty [] h = refl
  empty (l ∷ ls) h = absurd (h l (contains_here l ls))

  pub none_exactly : (all_lines x y ≡ []) ↔ IsHitless x y
  none_exactly = (hitless_where_none, λ h. empty (all_lines x y) (no_line h))

  -- of the lines by their ports

  pub each_is_interrupted : (l : Interruption) → Contains (interruptions x y) l → IsInterrupted x y l
  each_is_interrupted l at = interrupted l ((in_order l (all_lines x y)).1 at)

  pub each_has_its_line : EachHasLine x y (interruptions x y)
  each_has_its_line p number other h g not_kept =
      let has = each_has_line p number other h g not_kept in
      record { line = has.line; stands = (in_order has.line (all_lines x y)).0 has.stands; from = has.from; to = has.to; least = has.least }

  pub hitless_exactly : (interruptions x y ≡ []) ↔ IsHitless x y
  hitless_exactly = (
    λ absent. none_exactly.0 (empty (all_lines x y) (λ l at. nothing l (subst (λ (ls : List Interruption). Contains ls l) absent ((in_order l (all_lines x y)).0 at)))),
    λ h. empty (interruptions x y) (λ l at. no_line h l ((in_order l (all_lines x y)).1 at)),
  )
