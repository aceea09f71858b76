-- What is taken of the answer of `why` is as it promises.
use Rattle.std.proofs.Common.{◌≡◌, ◌<◌, ◌+◌, ◌^◌, inl, inr, true, ℕ, zero, suc, IsTrue, List, [], ◌∷◌, ◌++◌, Option, Some, None, Ok, refl, sym, ap, subst, arith, length, flat_map}
use Rattle.std.specs.Prelude.{slice_get}
use Rattle.std.specs.List.{Contains, list_all}
use Rattle.std.specs.Io.KnownBytes.{Appends}
use Rattle.std.proofs.lemmas.Bool.{and_parts}
use Rattle.ov_types.specs.declared.packet.Outcome.{Outcome}
use Rattle.ov_types.specs.declared.packet.Packet.{Packet}
use Rattle.ov_types.proofs.FirstLemmas.{contains_cases}
use Rattle.config_types.specs.Form.{has_config_form}
use Rattle.config_model.specs.Input.{reach_at}
use Rattle.config_check.specs.Checked.{Checked}
use Rattle.config_check.specs.Rules.{first_broken}
use Rattle.compile_answers.specs.Answers.{AreDocument, input_of}
use Rattle.reach_plain.specs.Reachability.{reachability}
use Rattle.inspect_rules.specs.Causes.{causes}
use Rattle.inspect_rules.specs.declared.cause.Cause.{Cause}
use Rattle.inspect_rules.proofs.Explained.{explains}
use Rattle.inspect_walks.specs.Sizes.{has_step_size}
use Rattle.inspect_walks.specs.Told.{told_walk}
use Rattle.inspect_walks.proofs.Law.{tells_walk}
use Rattle.inspect_json.specs.Form.{IsReadBack}
use Rattle.inspect_json.specs.Sizes.{has_cause_size, has_outcome_size}
use Rattle.inspect_json.specs.declared.form.Form.{Form}
use Rattle.inspect_json.proofs.ReasonsBack.{explained_reads}
use Rattle.inspect_answers.specs.Explained.{Explained, IsExplained, TookExplained, has_walk_size, packet_in, packets_from, told_in, told_value, why_in}
use Rattle.inspect_answers.proofs.PacketSizes.{causes_sized, outcome_sized}

-- what is told of packets

abbrev explained : Checked → ℕ → Packet → Explained
explained v n p = record { number = n; outcome = reachability v.config p; causes = causes v.config p; walk = told_walk v p }

abbrev explained_from : Checked → ℕ → List Packet → List Explained
explained_from v n [] = []
explained_from v n (p ∷ ps) = explained v n p ∷ explained_from v (n + 1) ps

text_of_each : (form : Form) (v : Checked) (n : ℕ) (ps : List Packet) → packets_from form v n ps ≡ flat_map (told_in form v.config) (explained_from v n ps)
text_of_each form v n [] = refl
text_of_each form v n (p ∷ ps) = ap (λ (t : List ℕ). packet_in form v n p ++ t) (text_of_each form v (n + 1) ps)

as_many : (v : Checked) (n : ℕ) (ps : List Packet) → length (explained_from v n ps) ≡ length ps
as_many v n [] = refl
as_many v n (p ∷ ps) = ap suc (as_many v (n + 1) ps)

some_is : {A : Type 0} (x y : A) → Some x ≡ Some y → x ≡ y
some_is x y h = cc

module _ (v : Checked) (form : IsTrue (has_config_form v.config)) (kept : first_broken v.topology v.config ≡ None) where
  explained_at : (n : ℕ) (ps : List Packet) (place : ℕ) (p : Packet) (x : Explained)
      → slice_get ps place ≡ Some p → slice_get (explained_from v n ps) place ≡ Some x → (m : ℕ) → m + 1 ≡ place + n → IsExplained v m p x
  explained_at n [] place p x at told m e = absurd cc
  explained_at n (q ∷ ps) zero p x at told m e =
      let packet : q ≡ p = some_is q p at in
      let is : explained v n q ≡ x = some_is (explained v n q) x told in
      let number : n ≡ m + 1 = omega (arith, e) in
      let of_q : IsExplained v m q (explained v n q) =
      record { number = number; outcome = refl; explain = explains v.topology v.config q kept; walk = tells_walk v q form kept } in
      subst (λ (r : Packet). IsExplained v m r x) packet (subst (IsExplained v m q) is of_q)
  explained_at n (q ∷ ps) (suc place) p x at told m e =
      explained_at (n + 1) ps place p x at told m (omega (arith, e))

-- what lines of JSON read as

-- what is told of some packet, whose number is less than this
record IsToldBelow (v : Checked) (bound : ℕ) (x : Explained) : Type 0 where
  pub packet : Packet
  pub number : x.number < bound
  pub outcome : x.outcome ≡ reachability v.config packet
  pub because : x.causes ≡ causes v.config packet
  pub walk : list_all has_step_size x.walk ≡ true

told_below : (v : Checked) (n : ℕ) (ps : List Packet) → list_all (has_walk_size v) ps ≡ true → (x : Explained) → Contains (explained_from v n ps) x
    → IsToldBelow v (n + length ps) x
told_below v n [] sized x at = absurd (omega (arith, at.1))
told_below v n (p ∷ ps) sized x at =
    let parts = and_parts (has_walk_size v p) (list_all (has_walk_size v) ps) sized in
    elim (contains_cases (explained v n p) (explained_from v (n + 1) ps) x at) [
      | inl same ↦
          let here : n < n + suc (length ps) = omega arith in
          record {
            packet = p;
            number = subst (λ (y : Explained). y.number < n + suc (length ps)) same here;
            outcome = sym (ap (λ (y : Explained). y.outcome) same);
            because = sym (ap (λ (y : Explained). y.causes) same);
            walk = subst (λ (y : Explained). list_all has_step_size y.walk ≡ true) same parts.0;
          }
      | inr later ↦
          let rest = told_below v (n + 1) ps parts.1 x later in
          let below : x.number < (n + 1) + length ps = rest.number in
          record { packet = rest.packet; number = omega (arith, below); outcome = rest.outcome; because = rest.because; walk = rest.walk }
    ]

each_reads : (v : Checked) → has_config_form v.config ≡ true → first_broken v.topology v.config ≡ None → (ps : List Packet)
    → list_all (has_walk_size v) ps ≡ true → length ps < 2 ^ 64 → (x : Explained) → Contains (explained_from v 1 ps) x → IsReadBack (told_value v.config x)
each_reads v form valid ps sized few x at =
    let told = told_below v 1 ps sized x at in
    let below : x.number < 1 + length ps = told.number in
    explained_reads v.config x.number x.outcome x.causes x.walk form (omega (arith, below, few))
    (subst (λ (o : Outcome). has_outcome_size o ≡ true) (sym told.outcome) (outcome_sized v.topology v.config form valid told.packet))
    (subst (λ (xs : List Cause). list_all has_cause_size xs ≡ true) (sym told.because) (causes_sized v.topology v.config form valid told.packet))
    told.walk

pub took_explained : (form : Form) (octets : List ℕ) (v : Checked) (ps : List Packet) (old new : Option (List ℕ))
    → AreDocument octets (λ d. reach_at [] d ≡ Ok (record { input = input_of v; packets = ps })) → has_config_form v.config ≡ true
    → first_broken v.topology v.config ≡ None → list_all (has_walk_size v) ps ≡ true → Appends old new (why_in form v ps) → TookExplained form octets old new
unfolding why_in
took_explained form octets v ps old new asked formed valid sized taken = record {
  read = record { input = input_of v; packets = ps };
  written = (asked.value, asked.json, asked.is);
  valid = valid;
  explained = explained_from v 1 ps;
  taken = subst (λ (t : List ℕ). Appends old new t) (text_of_each form v 1 ps) taken;
  many = as_many v 1 ps;
  each = λ place p x at told. explained_at v formed valid 1 ps place p x at told place refl;
  reads = each_reads v formed valid ps sized;
}
