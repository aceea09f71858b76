-- What a pair of networks adds to those that were related, and a compute node to the names with addresses.
use Rattle.std.proofs.Common.{◌≡◌, ◌==◌, ◌&&◌, ◌||◌, ℕ, Bool, true, false, cond, List, Option, Some, None, is_some, ap, refl, sym, ◌∙◌, arith}
use Rattle.std.specs.declared.cmp.Ordering.{Ordering}
use Rattle.std.specs.declared.cmp.Ordering.TheVariants.{Less, Equal, Greater}
use Rattle.std.specs.Ordering.{is_eq, nat_cmp, ordering_then}
use Rattle.std.specs.Cmp.Lexicographic.{texts_ties}
use Rattle.std.proofs.lemmas.Bool.{false≢true, true≢false}
use Rattle.ov_types.specs.First.{same_name, ◌<|>◌}
use Rattle.ov_types.specs.declared.prefix.Addr.{Addr}
use Rattle.ov_types.proofs.FirstLemmas.{same_name_iff}
use Rattle.schedule_script.specs.Kept.{address_in, name_cmp}

-- numbers compare as equal where they are one
same_number : (m n : ℕ) → is_eq (nat_cmp m n) ≡ (m == n)
same_number m n = grind arith

equal_both : (x y : Ordering) → is_eq (ordering_then x y) ≡ (is_eq x && is_eq y)
equal_both Less y = refl
equal_both Equal y = refl
equal_both Greater y = refl

same_pair : (k l m n : ℕ) → is_eq (ordering_then (nat_cmp k m) (nat_cmp l n)) ≡ ((k == m) && (l == n))
same_pair k l m n = equal_both (nat_cmp k m) (nat_cmp l n) ∙ (λ i. same_number k m i && same_number l n i)

or_put : (o b s : Bool) → s ≡ b → cond s true o ≡ (o || b)
or_put o b s e = ap (λ (s : Bool). cond s true o) e ∙ by_test o b
  where
    by_test : (o b : Bool) → cond b true o ≡ (o || b)
    by_test true true = refl
    by_test true false = refl
    by_test false true = refl
    by_test false false = refl

and_true : (b : Bool) → b ≡ (b && true)
and_true true = refl
and_true false = refl

-- a pair of numbers that is put is among those that were there
pub put_pair : (o w : Bool) (k l m n : ℕ) → w ≡ true
    → cond (is_eq (ordering_then (nat_cmp k m) (nat_cmp l n))) true o ≡ (o || ((k == m) && ((l == n) && w)))
put_pair o false k l m n e = absurd (false≢true e)
put_pair o true k l m n e =
    or_put o ((k == m) && ((l == n) && true)) (is_eq (ordering_then (nat_cmp k m) (nat_cmp l n)))
    (same_pair k l m n ∙ ap (λ (b : Bool). (k == m) && b) (and_true (l == n)))

pub or_apart : (a b c : Bool) → ((a || b) || c) ≡ (a || (b || c))
or_apart true b c = refl
or_apart false b c = refl

pub and_apart : (a b c : Bool) → (a && (b && c)) ≡ ((a && b) && c)
and_apart true b c = refl
and_apart false b c = refl

-- ---- names with addresses
none_there : {A : Type 0} (o : Option A) → is_some o ≡ false → o ≡ None
none_there None h = refl
none_there (Some x) h = absurd (true≢false h)

none_after : {A : Type 0} (o : Option A) → o ≡ (o <|> None)
none_after None = refl
none_after (Some x) = refl

put_where : {A : Type 0} (b : Bool) (o : Option A) (x : A) → (b ≡ true → o ≡ None) → cond b (Some x) o ≡ (o <|> cond b (Some x) None)
put_where {A} true o x h = ap (λ (p : Option A). p <|> Some x) (sym (h refl))
put_where false o x h = none_after o

-- an address that is put for a name that had none is that of the name alone
pub put_address : (old : List (List ℕ × Addr)) (m name : List ℕ) (a : Addr) → is_some (address_in old m) ≡ false
    → cond (is_eq (name_cmp m name)) (Some a) (address_in old name) ≡ (address_in old name <|> cond (same_name m name) (Some a) None)
put_address old m name a h =
    ap (λ (b : Bool). cond b (Some a) (address_in old name)) (sym (texts_ties m name))
    ∙ put_where (same_name m name) (address_in old name) a (λ e. ap (address_in old) (sym ((same_name_iff m name).0 e)) ∙ none_there (address_in old m) h)
