-- Ports keep their addresses in an edit that puts no port of their number.
use Rattle.std.specs.Prelude.{◌≡◌, ◌⊎◌, List, [], ◌∷◌, None}
use Rattle.std.specs.List.{Contains}
use Rattle.std.proofs.Common.{ap, arith, inl, inr, refl, subst, sym, ◌∙◌}
use Rattle.std.proofs.lemmas.List.Elements.{Contains-append_cases, Contains-append_left, Contains-append_right}
use Rattle.std.proofs.lemmas.Option.{same_Some}
use Rattle.ov_types.specs.declared.numbers.PortNo.{PortNo}
use Rattle.ov_types.proofs.FirstLemmas.{contains_cases, contains_later}
use Rattle.config_types.specs.declared.config.Port.{Port}
use Rattle.config_types.specs.declared.edit.Edit.{Edit}
use Rattle.config_types.specs.declared.edit.Edit.TheVariants.{Delete, Put}
use Rattle.config_types.specs.declared.edit.Object.TheVariants as Objects
use Rattle.config_types.specs.declared.edit.ObjectKind.{ObjectKind}
use Rattle.config_types.specs.declared.edit.ObjectKind.TheVariants as Kinds
use Rattle.schedule_script.specs.ConfigCheck.Checked.{Checked}
use Rattle.schedule_script.specs.ConfigCheck.EditLaws.{Appends, Replaces}
use Rattle.schedule_script.specs.ConfigCheck.Edits.{edited, edited_config, missing_name, port_name}
use Rattle.schedule_script.specs.ConfigCheck.Sentences.{IsValid}
use Rattle.schedule_script.proofs.ConfigCheck.EditLaws.{port_deleted, port_put}
use Rattle.reach_plain.proofs.ConfigCheck.Finders.{finds_port_numbered}
use Rattle.machine_moment_laws.specs.Kept.{HasOneAddress, PutsPort}

-- one port of a valid configuration has a number
one_port : (c : Checked) → IsValid c.topology c.config → (a b : Port) → Contains c.config.ports a → Contains c.config.ports b → a.id ≡ b.id → a ≡ b
one_port c v a b in_a in_b same =
    let f = finds_port_numbered c.topology c.config b.id.0 v in
    same_Some a b (sym ((f.some a).1 (in_a, ap (λ (n : PortNo). n.0) same)) ∙ (f.some b).1 (in_b, refl))

abbrev AllIn : List Port → List Port → Type 0
AllIn xs ys = (a : Port) → Contains xs a → Contains ys a

of_two : (x y z : Checked) (P : Checked → Type 0) → P x → P y → Contains (x ∷ y ∷ []) z → P z
of_two x y z P h k at =
    elim (contains_cases x (y ∷ []) z at) [
      | inl first ↦ subst P first h
      | inr later ↦ elim (contains_cases y [] z later) [ inl second ↦ subst P second k | inr never ↦ absurd (omega (arith, never.1)) ]
    ]

-- ---- what an edit makes of the ports
stays_or_put : (e : Edit) (x : Checked) → missing_name e x ≡ None → (b : Port) → Contains (edited e x).config.ports b → Contains x.config.ports b ⊎ (e ≡ Put (Objects.Port b))
unfolding edited_config
stays_or_put (Put (Objects.Port o)) x m b at =
    let put = port_put o x in
    let at' : Contains put.0 b = subst (λ (c : Checked). Contains c.config.ports b) put.2 at in
    elim put.1 [
      | inl r ↦ replaced r at'
      | inr a ↦ appended a at'
    ]
  where
    of_put : (q : Port) → o ≡ q → b ≡ q → Put (Objects.Port o) ≡ Put (Objects.Port b)
    of_put q e f = ap (λ (q : Port). Put (Objects.Port q)) (e ∙ sym f)

    replaced : {new : List Port} → Replaces port_name o x.config.ports new → Contains new b → Contains x.config.ports b ⊎ (Put (Objects.Port o) ≡ Put (Objects.Port b))
    replaced r at =
        elim (Contains-append_cases r.before (o ∷ r.after) b (subst (λ (qs : List Port). Contains qs b) r.is at)) [
          | inl front ↦ inl (subst (λ (qs : List Port). Contains qs b) (sym r.was) (Contains-append_left r.before (r.replaced ∷ r.after) b front))
          | inr back ↦ elim (contains_cases o r.after b back) [
            | inl same ↦ inr (of_put b same refl)
            | inr later ↦ inl (subst (λ (qs : List Port). Contains qs b) (sym r.was) (Contains-append_right r.before (r.replaced ∷ r.after) b (contains_later b r.replaced r.after later)))
          ]
        ]

    appended : {new : List Port} → Appends port_name o x.config.ports new → Contains new b → Contains x.config.ports b ⊎ (Put (Objects.Port o) ≡ Put (Objects.Port b))
    appended a at =
        elim (Contains-append_cases x.config.ports (o ∷ []) b (subst (λ (qs : List Port). Contains qs b) a.is at)) [
          | inl front ↦ inl front
          | inr back ↦ elim (contains_cases o [] b back) [ inl same ↦ inr (of_put b same refl) | inr never ↦ absurd (omega (arith, never.1)) ]
        ]
stays_or_put (Put (Objects.Network n)) x m b at = inl at
stays_or_put (Put (Objects.Policy q)) x m b at = inl at
stays_or_put (Put (Objects.Service s)) x m b at = inl at
stays_or_put (Put (Objects.Chain d)) x m b at = inl at
stays_or_put (Put (Objects.Node n)) x m b at = inl at
stays_or_put (Delete kind name) x m b at = inl (less kind m b at)
  where
    less : (kind : ObjectKind) → missing_name (Delete kind name) x ≡ None → AllIn (edited (Delete kind name) x).config.ports x.config.ports
    less Kinds.Port m b at =
        let del = port_deleted name x m in
        let at' : Contains del.0 b = subst (λ (c : Checked). Contains c.config.ports b) del.2 at in
        let r = del.1 in
        subst (λ (qs : List Port). Contains qs b) (sym r.was)
        (elim (Contains-append_cases r.before r.after b (subst (λ (qs : List Port). Contains qs b) r.is at')) [
          | inl front ↦ Contains-append_left r.before (r.removed ∷ r.after) b front
          | inr back ↦ Contains-append_right r.before (r.removed ∷ r.after) b (contains_later b r.removed r.after back)
        ])
    less Kinds.Network m b at = at
    less Kinds.Policy m b at = at
    less Kinds.Service m b at = at
    less Kinds.Chain m b at = at
    less Kinds.Node m b at = at

-- an accepted edit that puts no port of a number leaves the port of that number its address
pub not_put : (x : Checked) (e : Edit) → IsValid x.topology x.config → missing_name e x ≡ None → (number : PortNo) → (PutsPort e number → ⊥) → HasOneAddress (x ∷ edited e x ∷ []) number
not_put x e v m number none u w a b at_u at_w in_a in_b is_a is_b =
    let P : Checked → Type 0 = λ u. (q : Port) → Contains u.config.ports q → q.id ≡ number → Contains x.config.ports q in
    let there : P (edited e x) = λ q at is. elim (stays_or_put e x m q at) as (λ _. Contains x.config.ports q) [ inl stays ↦ stays | inr put ↦ absurd (none (q, put, is)) ] in
    ap (λ (q : Port). q.address) (one_port x v a b (of_two x (edited e x) u P (λ q at is. at) there at_u a in_a is_a) (of_two x (edited e x) w P (λ q at is. at) there at_w b in_b is_b) (is_a ∙ sym is_b))
