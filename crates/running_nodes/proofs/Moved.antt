-- The halves of a control node's seat, where an agent left it or came to it.
use Rattle.std.proofs.Common.{◌≡◌, ◌<◌, ◌≤◌, ℕ, zero, suc, Option, Some, None, List, [], ◌∷◌, ◌++◌, length, set, false, sym, ◌∙◌, ap, refl, subst, arith}
use Rattle.std.proofs.lemmas.List.{length-set}
use Rattle.ov_types.specs.declared.rows.NodeId.{NodeId}
use Rattle.node_model.specs.Step.{Post, nothing}
use Rattle.running_nodes.specs.ControlNode.Agents.{put_at}
use Rattle.running_nodes.proofs.ControlNodeBelow.Placed.{put_alike, put_behind, put_there}
use Rattle.running_nodes.specs.MachineModel.Setup.{Name}
use Rattle.running_nodes.specs.Controls.{Controls}
use Rattle.running_nodes.specs.Moving.{joined, number_for, retired_of, vacated}
use Rattle.running_nodes.specs.Seats.{Who, Configuring, Controlling, Forwarding, name_of, others_of}
use Rattle.running_nodes.specs.Changes.{IsAlone, emptied_at, joined_inner, joined_outer, longer_outer, vacated_inner}
use Rattle.running_nodes.specs.Halves.{AreHalves, Inner, IsEven, Outer, whole}
use Rattle.running_nodes.proofs.Joining.{others_joined}
use Rattle.running_nodes.proofs.Leaving.{others_left, vacated_is}

-- ---- an agent left
name_kept : (name : Name) (w : Who) → name_of (retired_of name w) ≡ name_of w
name_kept name (Configuring x) = refl
name_kept name (Controlling c) = refl
name_kept name (Forwarding plan) = refl

module _ (name : Name) (i : ℕ) (n n' : Inner) (o e o' : Outer) (is : IsAlone name i n) (inside : n' ≡ vacated_inner name i n)
    (empty : e ≡ emptied_at i o) (now : o' ≡ record e { others = set e.others i None }) where
  abbrev left : Outer
  left = record (emptied_at i o) { others = set o.others i None }

  outside : o' ≡ left
  outside = now ∙ ap (λ (p : Outer). let q : Outer = record p { others = set p.others i None } in q) empty

  pub left_halves : AreHalves n o → AreHalves n' o'
  left_halves h =
      let even = h.even in
      let long = length-set o.others i None in
      let others : set o.others i None ≡ others_of (retired_of name n.who) =
      ap (λ (os : List (Option Name)). set os i None) h.others ∙ sym (others_left name i n is) in
      let same : length (others_of n.who) ≡ length (others_of (retired_of name n.who)) =
      ap length (sym h.others) ∙ (sym long ∙ ap length others) in
      let all : AreHalves (vacated_inner name i n) (record (emptied_at i o) { others = set o.others i None }) =
      record {
        name = h.name ∙ sym (name_kept name n.who);
        others = others;
        posts = length-set n.posts i nothing ∙ (h.posts ∙ same);
        kept = length-set n.kept i [] ∙ (h.kept ∙ same);
        even = record {
          links = length-set o.links i [] ∙ (even.links ∙ sym long);
          breaks = length-set o.breaks i [] ∙ (even.breaks ∙ sym long);
          notices = length-set o.notices i false ∙ (even.notices ∙ sym long);
          few = (let few = even.few in omega (arith, few, long));
        };
      } in
      subst (λ (m : Inner). AreHalves m o') (sym inside) (subst (AreHalves (vacated_inner name i n)) (sym outside) all)

  pub left_whole : whole n' o' ≡ vacated name (whole n o)
  left_whole = (λ j. whole (inside j) (outside j)) ∙ sym (vacated_is name i n o is)

-- ---- an agent came
put_short : {A : Type 0} (xs : List A) (i : ℕ) (x : A) → length (put_at xs i x) ≤ suc (length xs)
put_short [] i x = omega arith
put_short (y ∷ ys) zero x = omega arith
put_short (y ∷ ys) (suc i) x = (let rest = put_short ys i x in omega (arith, rest))

abbrev controlling : Controls → List Post → List (List ℕ) → Inner
controlling c posts kept = record { who = Controlling c; posts = posts; kept = kept }

halves_joined : (a : NodeId) (c : Controls) (posts : List Post) (kept : List (List ℕ)) (o : Outer) → AreHalves (controlling c posts kept) o
    → length o.others < 65535 → AreHalves (joined_inner a (controlling c posts kept)) (joined_outer a.name (number_for c) o)
halves_joined a c posts kept o h few =
    let k = number_for c in
    let others = others_joined a c in record {
      name = h.name;
      others = ap (λ (os : List (Option Name)). put_at os k (Some a.name)) h.others ∙ sym others;
      posts = put_alike posts (others_of (Controlling c)) k nothing (Some a.name) h.posts ∙ ap length (sym others);
      kept = put_alike kept (others_of (Controlling c)) k [] (Some a.name) h.kept ∙ ap length (sym others);
      even = record {
        links = put_alike o.links o.others k [] (Some a.name) h.even.links;
        breaks = put_alike o.breaks o.others k [] (Some a.name) h.even.breaks;
        notices = put_alike o.notices o.others k false (Some a.name) h.even.notices;
        few = (let short = put_short o.others k (Some a.name) in omega (arith, short, few));
      };
    }

pub joined_there : (name : Name) (i : ℕ) (o e o' : Outer) → IsEven o → i < length o.others → e ≡ emptied_at i o
    → o' ≡ record e { others = set e.others i (Some name) } → o' ≡ joined_outer name i o
joined_there name i o e o' even lt empty is =
    let links : set o.links i [] ≡ put_at o.links i [] = sym (put_there o.links i [] (let n = even.links in omega (arith, n, lt))) in
    let breaks : set o.breaks i [] ≡ put_at o.breaks i [] = sym (put_there o.breaks i [] (let n = even.breaks in omega (arith, n, lt))) in
    let notices : set o.notices i false ≡ put_at o.notices i false = sym (put_there o.notices i false (let n = even.notices in omega (arith, n, lt))) in
    let others : set o.others i (Some name) ≡ put_at o.others i (Some name) = sym (put_there o.others i (Some name) lt) in
    let all : record (emptied_at i o) { others = set o.others i (Some name) } ≡ joined_outer name i o =
    λ j. record { name = o.name; others = others j; links = links j; breaks = breaks j; notices = notices j } in
    is ∙ (ap (λ (p : Outer). let q : Outer = record p { others = set p.others i (Some name) } in q) empty ∙ all)

pub joined_behind : (name : Name) (i : ℕ) (o : Outer) → IsEven o → i ≡ length o.others → longer_outer name o ≡ joined_outer name i o
joined_behind name i o even last =
    let links : o.links ++ [] ∷ [] ≡ put_at o.links i [] = sym (put_behind o.links i [] (let n = even.links in omega (arith, n, last))) in
    let breaks : o.breaks ++ [] ∷ [] ≡ put_at o.breaks i [] = sym (put_behind o.breaks i [] (let n = even.breaks in omega (arith, n, last))) in
    let notices : o.notices ++ false ∷ [] ≡ put_at o.notices i false = sym (put_behind o.notices i false (let n = even.notices in omega (arith, n, last))) in
    let others : o.others ++ Some name ∷ [] ≡ put_at o.others i (Some name) = sym (put_behind o.others i (Some name) last) in
    λ j. record { name = o.name; others = others j; links = links j; breaks = breaks j; notices = notices j }

module _ (a : NodeId) (c : Controls) (number : ℕ) (n n' : Inner) (o o' : Outer) (control : n.who ≡ Controlling c)
    (at : number ≡ number_for c) (inside : n' ≡ joined_inner a n) (outside : o' ≡ joined_outer a.name number o) where
  as_controlling : n ≡ controlling c n.posts n.kept
  as_controlling = λ i. record { who = control i; posts = n.posts; kept = n.kept }

  now_inside : n' ≡ joined_inner a (controlling c n.posts n.kept)
  now_inside = inside ∙ ap (λ (m : Inner). joined_inner a m) as_controlling

  now_outside : o' ≡ joined_outer a.name (number_for c) o
  now_outside = outside ∙ ap (λ (k : ℕ). joined_outer a.name k o) at

  pub joined_halves : AreHalves n o → length o.others < 65535 → AreHalves n' o'
  joined_halves h few =
      subst (λ (m : Inner). AreHalves m o') (sym now_inside)
      (subst (λ (p : Outer). AreHalves (joined_inner a (controlling c n.posts n.kept)) p) (sym now_outside)
      (halves_joined a c n.posts n.kept o (subst (λ (m : Inner). AreHalves m o) as_controlling h) few))

  pub joined_whole : whole n' o' ≡ joined a (whole n o)
  joined_whole =
      ap (λ (m : Inner). whole m o') now_inside
      ∙ (ap (λ (p : Outer). whole (joined_inner a (controlling c n.posts n.kept)) p) now_outside
      ∙ ap (λ (m : Inner). joined a (whole m o)) (sym as_controlling))
