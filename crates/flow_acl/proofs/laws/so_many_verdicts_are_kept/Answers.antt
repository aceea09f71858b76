use Rattle.std.specs.Prelude.{◌≡◌, ℕ, ◌+◌, ◌<◌, ◌≤◌, List, [], ◌∷◌, ◌++◌, length, take}
use Rattle.std.proofs.Common.{refl, sym, ◌∙◌, ap, subst, arith}
use Rattle.std.proofs.lemmas.List.{take_all, length-append}
use Rattle.std.proofs.Math.Seq.{take-append_seam}
use Rattle.ov_types.specs.declared.verdict.Verdict.{Verdict}
use Rattle.flow_acl.specs.declared.flow.FlowKey.{FlowKey}
use Rattle.flow_acl.proofs.laws.so_many_verdicts_are_kept.Goals as goal

pub returns-clause-fewer : goal.returns-clause-fewer
returns-clause-fewer c = λ f v kept few. ap (λ (rest : List (FlowKey × Verdict)). (f, v) ∷ rest) (take_all 1023 kept (omega (arith, few)))

-- as many stand before the last
before : (front : List (FlowKey × Verdict)) (last : FlowKey × Verdict) → length (front ++ last ∷ []) ≡ 1024 → length front ≡ 1023
before front last e = let n = length-append front (last ∷ []) in omega (arith, e, n)

pub returns-clause-full : goal.returns-clause-full
returns-clause-full c = λ f v front last e.
    ap (λ (rest : List (FlowKey × Verdict)). (f, v) ∷ rest)
    (ap (λ n. take n (front ++ last ∷ [])) (sym (before front last e)) ∙ take-append_seam front (last ∷ []))
