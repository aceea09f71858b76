-- The search for a service that stands twice, a step on.
use Rattle.std.proofs.Common.{◌≡◌, ℕ, ◌+◌, ◌<◌, List, [], ◌∷◌, ◌++◌, Bool, None, option_map, length, take, drop, get_or, ap, sym, ◌∙◌}
use Rattle.std.specs.List.{find}
use Rattle.std.proofs.lemmas.List.{take_more, drop_more}
use Rattle.config_types.specs.declared.config.Service.{Service}
use Rattle.ov_types.specs.First.{meeting_after, ◌<|>◌}
use Rattle.chain_expand.specs.Expansion.{same_number}

past : {A : Type 0} (meets : A → A → Bool) (before : List A) (x : A) (xs : List A) → find (λ b. meets b x) before ≡ None → meeting_after meets before (x ∷ xs) ≡ meeting_after meets (before ++ x ∷ []) xs
past meets before x xs e = ap (λ o. option_map (λ b. (b, x)) o <|> meeting_after meets (before ++ x ∷ []) xs) e

pub meeting_on : (xs : List Service) (i : ℕ) (x : Service) → i < length xs → x ≡ get_or xs i x → find (λ b. same_number b x) (take i xs) ≡ None → meeting_after same_number (take i xs) (drop i xs) ≡ meeting_after same_number (take (i + 1) xs) (drop (i + 1) xs)
meeting_on xs i x lt is none =
    ap (meeting_after same_number (take i xs)) (drop_more xs i x lt ∙ ap (λ y. y ∷ drop (i + 1) xs) (sym is))
    ∙ past same_number (take i xs) x (drop (i + 1) xs) none
    ∙ ap (λ front. meeting_after same_number front (drop (i + 1) xs)) (sym (take_more xs i x lt ∙ ap (λ y. take i xs ++ y ∷ []) (sym is)))
