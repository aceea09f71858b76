-- The prefix of a length around an address.
use Rattle.std.proofs.Common.{◌≡◌, ℕ, ◌+◌, ◌-◌, ◌*◌, ◌/◌, ◌%◌, ◌<◌, ◌≤◌, ◌==◌, ltb, cond, Bool, Option, Some, None, IsTrue, IsSome, refl, sym, ap, ◌∙◌, subst, arith}
use Rattle.std.proofs.lemmas.Bool.{and_from, eq-eqb, lt-ltb}
use Rattle.std.proofs.lemmas.Nat.{div-add-mod', mod-mul-add, mod_below, pow_pos}
use Rattle.ov_types.specs.Prefix.{Block, contains, is_prefix, prefix_of, size_of}
use Rattle.ov_types.proofs.Blocks.{contains_from}

module _ (a len : ℕ) where
  positive : 0 < size_of len
  positive = pow_pos (32 - len)

  whole : a / size_of len * size_of len + a % size_of len ≡ a
  whole = div-add-mod' a (size_of len)

  pub past_below : a % size_of len ≤ a
  past_below = let e = whole in omega (arith, e)

  pub formed : len ≤ 32 → IsTrue (is_prefix (a - a % size_of len) len)
  formed few =
      let e = whole in
      let multiple : a - a % size_of len ≡ a / size_of len * size_of len + 0 = omega (arith, e) in
      and_from (ltb len 33) ((a - a % size_of len) % size_of len == 0) (lt-ltb len 33 (omega (arith, few)))
      (eq-eqb ((a - a % size_of len) % size_of len) 0 (ap (λ (n : ℕ). n % size_of len) multiple ∙ mod-mul-add (a / size_of len) (size_of len) 0 positive))

  pub holds : IsTrue (contains (record { addr = a - a % size_of len; len = len }) a)
  holds =
      let e = whole in
      let below = mod_below a (size_of len) positive in
      contains_from (record { addr = a - a % size_of len; len = len }) a (omega (arith, e)) (omega (arith, e, below))

  -- the prefix that begins where the address does, less what it is past the start

  pub is_around : len ≤ 32 → (past : ℕ) → past ≡ a % size_of len → (r : Option Block) → r ≡ prefix_of (a - past) len → r ≡ Some (record { addr = a - a % size_of len; len = len })
  is_around few past is r e =
      e ∙ ap (λ (n : ℕ). prefix_of (a - n) len) is
      ∙ ap (λ (b : Bool). cond b (Some (record { addr = a - a % size_of len; len = len })) None) (formed few)

  pub some_prefix : len ≤ 32 → (past : ℕ) → past ≡ a % size_of len → (r : Option Block) → r ≡ prefix_of (a - past) len → IsSome r
  some_prefix few past is r e = subst IsSome (sym (is_around few past is r e)) refl

  module _ (few : len ≤ 32) (past : ℕ) (is : past ≡ a % size_of len) (r : Option Block) (e : r ≡ prefix_of (a - past) len) (b : Block) (some : r ≡ Some b) where
    same : record { addr = a - a % size_of len; len = len } ≡ b
    same = let both : Some (record { addr = a - a % size_of len; len = len }) ≡ Some b = sym (is_around few past is r e) ∙ some in cc

    pub as_long : b.len ≡ len
    as_long = sym (ap (λ (x : Block). x.len) same)

    pub around : IsTrue (contains b a)
    around = subst (λ (x : Block). IsTrue (contains x a)) same holds

    pub is_formed : IsTrue (is_prefix b.addr b.len)
    is_formed = subst (λ (x : Block). IsTrue (is_prefix x.addr x.len)) same (formed few)
