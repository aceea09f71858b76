use Rattle.std.proofs.Common.{ap, sym, ◌∙◌, ◌==◌, Bool, map}
use Rattle.std.specs.List.{cons_option, list_any}
use Rattle.ov_types.specs.declared.targets.Target.{Target}
use Rattle.route_targets.specs.Numbers.{target_of}
use Rattle.vpn_holdings.proofs.Imported.{first_is, first_is_not}
use Rattle.vpn_holdings.proofs.imports.Imports.has.Goals as goal

pub returns-then-is_wanted : goal.returns-then-is_wanted
returns-then-is_wanted c =
    let test : Target → Bool = (λ u. c.args.wanted.0 == u.0) in
    let s = c.self.inside in
    first_is test s.own (cons_option s.left (cons_option s.right (map (target_of s.asn) s.listed.now))) (sym c.is_wanted.ensures ∙ c.if-is_wanted.true)
    ∙ ap (list_any test) c.self.view_is

pub returns-then-is_wanted-2 : goal.returns-then-is_wanted-2
returns-then-is_wanted-2 c =
    let test : Target → Bool = (λ u. c.args.wanted.0 == u.0) in
    let s = c.self.inside in
    let last = map (target_of s.asn) s.listed.now in
    first_is test s.left (cons_option s.right last) (sym c.is_wanted-2.ensures ∙ c.if-is_wanted-2.true)
    ∙ sym (first_is_not test s.own (cons_option s.left (cons_option s.right last)) (sym c.is_wanted.ensures ∙ c.if-is_wanted.false))
    ∙ ap (list_any test) c.self.view_is

pub returns-then-is_wanted-3 : goal.returns-then-is_wanted-3
returns-then-is_wanted-3 c =
    let test : Target → Bool = (λ u. c.args.wanted.0 == u.0) in
    let s = c.self.inside in
    let last = map (target_of s.asn) s.listed.now in
    first_is test s.right last (sym c.is_wanted-3.ensures ∙ c.if-is_wanted-3.true)
    ∙ sym (first_is_not test s.left (cons_option s.right last) (sym c.is_wanted-2.ensures ∙ c.if-is_wanted-2.false))
    ∙ sym (first_is_not test s.own (cons_option s.left (cons_option s.right last)) (sym c.is_wanted.ensures ∙ c.if-is_wanted.false))
    ∙ ap (list_any test) c.self.view_is

pub returns : goal.returns
returns c =
    let test : Target → Bool = (λ u. c.args.wanted.0 == u.0) in
    let s = c.self.inside in
    let last = map (target_of s.asn) s.listed.now in
    c.is_of_any.ensures
    ∙ sym (first_is_not test s.right last (sym c.is_wanted-3.ensures ∙ c.if-is_wanted-3.false))
    ∙ sym (first_is_not test s.left (cons_option s.right last) (sym c.is_wanted-2.ensures ∙ c.if-is_wanted-2.false))
    ∙ sym (first_is_not test s.own (cons_option s.left (cons_option s.right last)) (sym c.is_wanted.ensures ∙ c.if-is_wanted.false))
    ∙ ap (list_any test) c.self.view_is
