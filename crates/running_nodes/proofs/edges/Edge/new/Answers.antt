use Rattle.std.proofs.Common.{ap, sym, ◌∙◌, ◌≤◌, ◌≡◌, false, Option, List, [], length, take, refl, arith}
use Rattle.std.proofs.lemmas.List.{length-take-le}
use Rattle.running_nodes.specs.MachineModel.Setup.{Name}
use Rattle.running_nodes.specs.Steps.{all_of}
use Rattle.running_nodes.specs.Halves.{accepted_of, breaks_of}
use Rattle.ov_link.specs.FailingState.{FailingState}
use Rattle.running_nodes.proofs.Links.{fresh_accepted, fresh_breaks, fresh_link}
use Rattle.running_nodes.proofs.Pushed.{all_pushed, pushed}
use Rattle.running_nodes.proofs.Stepping.{as_long}
use Rattle.running_nodes.proofs.edges.Edge.new.Goals as goal

pub loop-other-init : goal.loop-other-init
loop-other-init c = record { links = c.new-links.ensures; notices = c.new-notices.ensures.items }

pub push-requires : goal.push-requires
push-requires c =
    let items : length c.as_slice-other-items.result.now ≡ length c.args.others = ap length c.as_slice-other-items.ensures in
    let long : length c.loop-other.links ≡ length (take c.loop-other._other-index c.as_slice-other-items.result.now) =
    ap length c.loop-other.invariant.links ∙ as_long fresh_link (take c.loop-other._other-index c.as_slice-other-items.result.now) in
    omega (arith, length-take-le c.loop-other._other-index c.as_slice-other-items.result.now)

pub loop-other-preserved : goal.loop-other-preserved
loop-other-preserved c = record {
  links = pushed (λ (n : Option Name). fresh_link) [] c.loop-other.links c.push.new.self c.as_slice-other-items.result.now c.loop-other._other-index c._other-item.result c.new.result c.loop-other.invariant.links c.in_ok-push.ensures.ok c.new.ensures c._other-item.is c.loop-other-test.true;
  notices = pushed (λ (n : Option Name). false) [] c.loop-other.notices.items c.push-in-loop-other.new.self.items c.as_slice-other-items.result.now c.loop-other._other-index c._other-item.result false c.loop-other.invariant.notices c.in_ok-push-2.ensures.items refl c._other-item.is c.loop-other-test.true;
}

-- the links of fresh ends
links_are : (others : List (Option Name)) (links : List FailingState) (items : List (Option Name)) → links ≡ all_of fresh_link items → items ≡ others → links ≡ all_of fresh_link others
links_are others links items is same = is ∙ ap (λ (xs : List (Option Name)). all_of fresh_link xs) same

pub invariant_of-result : goal.invariant_of-result
invariant_of-result c =
    let all : length c.as_slice-other-items.result.now ≤ c.loop-other._other-index = omega arith in
    let links : c.loop-other.links ≡ all_of fresh_link c.args.others =
    links_are c.args.others c.loop-other.links c.as_slice-other-items.result.now (all_pushed (λ (n : Option Name). fresh_link) [] c.loop-other.links c.as_slice-other-items.result.now c.loop-other._other-index c.loop-other.invariant.links all) c.as_slice-other-items.ensures in
    let notices : c.loop-other.notices.items ≡ all_of false c.args.others =
    all_pushed (λ (n : Option Name). false) [] c.loop-other.notices.items c.as_slice-other-items.result.now c.loop-other._other-index c.loop-other.invariant.notices all ∙ ap (λ (xs : List (Option Name)). all_of false xs) c.as_slice-other-items.ensures in
    let same : length c.args.others ≡ length c.into_vec.result.items = ap length (sym c.into_vec.ensures) in
    record {
      links = ap length (ap accepted_of links ∙ fresh_accepted c.args.others) ∙ (as_long [] c.args.others ∙ same);
      breaks = ap length (ap breaks_of links ∙ fresh_breaks c.args.others) ∙ (as_long [] c.args.others ∙ same);
      notices = ap length notices ∙ (as_long false c.args.others ∙ same);
      few = omega (arith, same, c.requires);
    }

pub returns : goal.returns
returns c =
    let all : length c.as_slice-other-items.result.now ≤ c.loop-other._other-index = omega arith in
    let links : c.loop-other.links ≡ all_of fresh_link c.args.others =
    links_are c.args.others c.loop-other.links c.as_slice-other-items.result.now (all_pushed (λ (n : Option Name). fresh_link) [] c.loop-other.links c.as_slice-other-items.result.now c.loop-other._other-index c.loop-other.invariant.links all) c.as_slice-other-items.ensures in
    let notices : c.loop-other.notices.items ≡ all_of false c.args.others =
    all_pushed (λ (n : Option Name). false) [] c.loop-other.notices.items c.as_slice-other-items.result.now c.loop-other._other-index c.loop-other.invariant.notices all ∙ ap (λ (xs : List (Option Name)). all_of false xs) c.as_slice-other-items.ensures in
    let accepted = ap accepted_of links ∙ fresh_accepted c.args.others in
    let breaks = ap breaks_of links ∙ fresh_breaks c.args.others in
    λ i. record { name = c.args.name; others = c.into_vec.ensures i; links = accepted i; breaks = breaks i; notices = notices i }
