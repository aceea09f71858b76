-- The test of an UPDATE passes exactly where the octets are one.
use Rattle.std.proofs.Common.{◌≡◌, ◌≤◌, ◌<◌, ◌^◌, ℕ, ◌+◌, List, ◌++◌, length, take, drop, refl, ap, sym, ◌∙◌, arith, subst, true}
use Rattle.std.proofs.lemmas.List.{take_at, drop_at, drop-drop, length-append}
use Rattle.byteorder.specs.Endian.{big_bytes, big_number}
use Rattle.byteorder.specs.Numbers.{big_number-reads_back}
use Rattle.bgp_wire.specs.Content.{UpdateFields, Updates}
use Rattle.bgp_wire.specs.Frames.{greatest}
use Rattle.bgp_wire.specs.Updates.{update_octets, withdrawn_length_at, attributes_length_at}
use Rattle.bgp_wire.specs.Messages.{IsMessage}
use Rattle.bgp_wire.specs.Spelling.{framed, spelling}
use Rattle.decode_answers.specs.OneMessage.{IsOneUpdate, update_in, is_one_update}
use Rattle.decode_answers.proofs.Opens.{whole, message_of, spelled_parts, spelled_from}

update_message : (parts : UpdateFields) → length (spelling (Updates parts)) ≤ 4096 → IsMessage (spelling (Updates parts)) (Updates parts)
update_message parts most =
    let withdrawn = length-append parts.withdrawn (big_bytes 2 (length parts.attributes) ++ parts.attributes ++ parts.routes) in
    let attributes = length-append parts.attributes parts.routes in
    record {
      kind = _;
      body = update_octets parts;
      frame = record { spelled = refl; least_length = omega arith; greatest_length = omega arith };
      says = (refl, record { spelled = refl; withdrawn_length = omega arith; attributes_length = omega arith });
    }

-- octets that pass the test are one UPDATE
pub passed_update : (octets : List ℕ) → is_one_update octets ≡ true → IsOneUpdate octets (update_in (drop 19 octets))
unfolding is_one_update
passed_update octets h =
    let parts = update_in (drop 19 octets) in
    let spelled = spelled_parts octets (Updates parts) h in
    let most : length (spelling (Updates parts)) ≤ 4096 = subst (λ (x : List ℕ). length x ≤ 4096) (sym spelled.1) spelled.0 in
    whole octets (Updates parts) (subst (λ (x : List ℕ). IsMessage x (Updates parts)) spelled.1 (update_message parts most))

abbrev parts_of : List ℕ → List ℕ → List ℕ → UpdateFields
parts_of withdrawn attributes routes = record { withdrawn = withdrawn; attributes = attributes; routes = routes }

-- the parts that stand behind two lengths
abbrev parts_by : ℕ → ℕ → List ℕ → UpdateFields
parts_by n m body = parts_of (take n (drop 2 body)) (take m (drop (4 + n) body)) (drop (4 + n + m) body)

further : (xs : List ℕ) (n m k : ℕ) → k ≡ n + m → drop k xs ≡ drop m (drop n xs)
further xs n m k is = ap (λ (i : ℕ). drop i xs) is ∙ sym (drop-drop m n xs)

-- what stands in the body of an UPDATE are its parts
stands_in : (parts : UpdateFields) → length parts.withdrawn < 2 ^ 16 → length parts.attributes < 2 ^ 16 → update_in (update_octets parts) ≡ parts
stands_in parts small smaller =
    let w = parts.withdrawn in
    let a = parts.attributes in
    let body = update_octets parts in
    let behind = big_bytes 2 (length a) ++ a ++ parts.routes in
    let n : withdrawn_length_at body ≡ length w = big_number-reads_back 2 (length w) (w ++ behind) small in
    let rest : drop (2 + length w) body ≡ behind = further body 2 (length w) (2 + length w) refl ∙ drop_at w behind (length w) refl in
    let m : attributes_length_at body ≡ length a =
    ap (λ (k : ℕ). big_number 2 (drop (2 + k) body)) n ∙ ap (big_number 2) rest ∙ big_number-reads_back 2 (length a) (a ++ parts.routes) smaller in
    let first : take (length w) (drop 2 body) ≡ w = take_at w behind (length w) refl in
    let inner : drop (4 + length w) body ≡ a ++ parts.routes = further body (2 + length w) 2 (4 + length w) (omega arith) ∙ ap (drop 2) rest in
    let second : take (length a) (drop (4 + length w) body) ≡ a = ap (take (length a)) inner ∙ take_at a parts.routes (length a) refl in
    let third : drop (4 + length w + length a) body ≡ parts.routes =
    further body (4 + length w) (length a) (4 + length w + length a) (omega arith) ∙ ap (drop (length a)) inner ∙ drop_at a parts.routes (length a) refl in
    ap (λ (k : ℕ). parts_by k (attributes_length_at body) body) n
    ∙ ap (λ (k : ℕ). parts_by (length w) k body) m
    ∙ ap (λ (x : List ℕ). parts_of x (take (length a) (drop (4 + length w) body)) (drop (4 + length w + length a) body)) first
    ∙ ap (λ (x : List ℕ). parts_of w x (drop (4 + length w + length a) body)) second
    ∙ ap (parts_of w a) third

-- an UPDATE is spelled by its parts, in no more octets than it may have
record IsSpelled (octets : List ℕ) (parts : UpdateFields) : Type 0 where
  spelled : octets ≡ spelling (Updates parts)
  most : length octets ≤ 4096

spelled_again : (octets : List ℕ) (parts : UpdateFields) → IsMessage octets (Updates parts) → IsSpelled octets parts
spelled_again octets parts m =
    let kind = m.says.0 in
    let body = m.says.1.spelled in
    let spelled : octets ≡ spelling (Updates parts) = m.frame.spelled ∙ ap (framed m.kind) body ∙ ap (λ k. framed k (update_octets parts)) kind in
    let greatest = ap greatest kind in
    let sizes = ap length m.frame.spelled in
    record { spelled = spelled; most = omega (arith, m.frame.greatest_length, greatest, sizes) }

-- one UPDATE passes the test
pub update_passes : (octets : List ℕ) (parts : UpdateFields) → IsOneUpdate octets parts → is_one_update octets ≡ true
unfolding is_one_update
update_passes octets parts one =
    let m = message_of octets (Updates parts) one in
    let is = spelled_again octets parts m in
    let same : update_in (drop 19 octets) ≡ parts =
    ap (λ (x : List ℕ). update_in (drop 19 x)) is.spelled ∙ stands_in parts m.says.1.withdrawn_length m.says.1.attributes_length in
    spelled_from octets (Updates (update_in (drop 19 octets))) is.most
    (ap (λ (p : UpdateFields). spelling (Updates p)) same ∙ sym is.spelled)
