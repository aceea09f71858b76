-- The body of an UPDATE, by its lengths.
use Rattle.std.proofs.Common.{◌≡◌, ◌≤◌, ℕ, ◌+◌, List, ◌++◌, length, take, drop, ap, sym, ◌∙◌, arith, subst}
use Rattle.std.proofs.lemmas.List.{append_assoc, take-append-drop, length-take-le, length-drop}
use Rattle.byteorder.specs.Endian.{big_bytes, big_number}
use Rattle.bgp_wire.specs.Updates.{IsUpdate}
use Rattle.bgp_wire.specs.Messages.{AreOctets}
use Rattle.bgp_wire.proofs.Octets.{split_two, number_below_two, AreOctets-drop}

-- octets that begin with a length of two octets, and hold that many more
pub sized : (octets : List ℕ) → AreOctets octets → 2 + big_number 2 octets ≤ length octets
    → (length (take (big_number 2 octets) (drop 2 octets)) ≡ big_number 2 octets)
    × (octets ≡ big_bytes 2 (length (take (big_number 2 octets) (drop 2 octets))) ++ take (big_number 2 octets) (drop 2 octets) ++ drop (big_number 2 octets) (drop 2 octets))
sized octets are enough =
    let n = big_number 2 octets in
    let len = length-take-le (big_number 2 octets) (drop 2 octets) (omega (arith, length-drop 2 octets)) in
    let whole : octets ≡ big_bytes 2 (big_number 2 octets) ++ drop 2 octets = split_two octets are (omega arith) in
    let behind : drop 2 octets ≡ take (big_number 2 octets) (drop 2 octets) ++ drop (big_number 2 octets) (drop 2 octets) = sym (take-append-drop (big_number 2 octets) (drop 2 octets)) in (
      len,
      whole ∙ ap (λ (r : List ℕ). big_bytes 2 (big_number 2 octets) ++ r) behind
          ∙ sym (append_assoc (big_bytes 2 (big_number 2 octets)) (take (big_number 2 octets) (drop 2 octets)) (drop (big_number 2 octets) (drop 2 octets)))
          ∙ ap (λ (k : ℕ). big_bytes 2 k ++ take (big_number 2 octets) (drop 2 octets) ++ drop (big_number 2 octets) (drop 2 octets)) (sym len),
    )

pub update_is : (body withdrawn rest attributes routes : List ℕ) (n m : ℕ) → AreOctets body
    → n ≡ big_number 2 body → 4 + n ≤ length body → withdrawn ≡ take n (drop 2 body) → rest ≡ drop n (drop 2 body)
    → m ≡ big_number 2 rest → 4 + n + m ≤ length body → attributes ≡ take m (drop 2 rest) → routes ≡ drop m (drop 2 rest)
    → IsUpdate body (record { withdrawn = withdrawn; attributes = attributes; routes = routes })
update_is body withdrawn rest attributes routes n m octets n_is room withdrawn_is rest_is m_is more_room attributes_is routes_is =
    let behind : AreOctets (drop n (drop 2 body)) = AreOctets-drop n (drop 2 body) (AreOctets-drop 2 body octets) in
    let behind_rest : AreOctets rest = subst AreOctets (sym rest_is) behind in
    let rest_len : length rest + n + 2 ≡ length body = let e = ap length rest_is in omega (arith, e, length-drop n (drop 2 body), length-drop 2 body) in
    let first = sized body octets (omega arith) in
    let second = sized rest behind_rest (omega arith) in
    let small = number_below_two body octets in
    let small_too = number_below_two rest behind_rest in
    let w : withdrawn ≡ take (big_number 2 body) (drop 2 body) = rw (← n_is) withdrawn_is in
    let r : rest ≡ drop (big_number 2 body) (drop 2 body) = rw (← n_is) rest_is in
    let a : attributes ≡ take (big_number 2 rest) (drop 2 rest) = rw (← m_is) attributes_is in
    let o : routes ≡ drop (big_number 2 rest) (drop 2 rest) = rw (← m_is) routes_is in
    let whole : body ≡ big_bytes 2 (length withdrawn) ++ withdrawn ++ rest = rw (w, r) first.1 in
    let inner : rest ≡ big_bytes 2 (length attributes) ++ attributes ++ routes = rw (a, o) second.1 in
    let w_len : length withdrawn ≡ big_number 2 body = ap length w ∙ first.0 in
    let a_len : length attributes ≡ big_number 2 rest = ap length a ∙ second.0 in
    record {
      spelled = whole ∙ ap (λ (t : List ℕ). big_bytes 2 (length withdrawn) ++ withdrawn ++ t) inner;
      withdrawn_length = omega arith;
      attributes_length = omega arith;
    }
