-- In a valid configuration the name beside a number is that of the one thing of this number.
use Rattle.std.proofs.Common.{◌≡◌, ◌≢◌, ◌<◌, ◌==◌, ℕ, zero, suc, Bool, true, false, List, [], ◌∷◌, Some, None, find, map, length, get_or, refl, sym, ap, ◌∙◌, arith}
use Rattle.std.specs.Prelude.{option_map}
use Rattle.std.specs.List.{All, AllPairs, Contains}
use Rattle.std.proofs.lemmas.Bool.{false_from_ne_true}
use Rattle.std.proofs.lemmas.List.Kept.{AllPairs-cons}
use Rattle.config_types.specs.declared.config.Config.{Config}
use Rattle.config_types.specs.declared.config.Policy.{Policy}
use Rattle.config_types.specs.declared.config.Port.{Port}
use Rattle.config_types.specs.declared.config.Service.{Service}
use Rattle.config_types.specs.declared.topology.Topology.{Topology}
use Rattle.config_check.specs.Rules.{first_broken}
use Rattle.config_check.specs.Sentences.{AreDistinct}
use Rattle.config_check.proofs.Iffs.{all_cons, all_head, all_tail, pairs_head, pairs_tail}
use Rattle.config_check.proofs.Meanings.{number_iff}
use Rattle.config_check.proofs.Validity.{valid_iff}
use Rattle.inspect_json.specs.ChangeValues.{port_name}
use Rattle.inspect_json.specs.Values.{policy_name, service_name}

only_one : {A : Type 0} (p : A → Bool) (xs : List A) → AllPairs (λ x y. p x ≡ true → p y ≢ true) xs
    → (x : A) (k : ℕ) → k < length xs → get_or xs k x ≡ x → p x ≡ true → find p xs ≡ Some x
only_one p [] apart x k lt same e = absurd (omega arith)
only_one p (y ∷ ys) apart x zero lt same e = let here : p y ≡ true = ap p same ∙ e in rw here (ap Some same)
only_one {A} p (y ∷ ys) apart x (suc k) lt same e =
    let R : A → A → Type 0 = λ a b. p a ≡ true → p b ≢ true in
    let never : p y ≢ true = λ t. pairs_head R y ys apart k x (omega arith) t (ap p same ∙ e) in
    let missed : p y ≡ false = false_from_ne_true (p y) never in
    rw missed (only_one p ys (pairs_tail R y ys apart) x k (omega arith) same e)

all_unmapped : {A B : Type 0} (f : A → B) (P : B → Type 0) (xs : List A) → All P (map f xs) → All (λ x. P (f x)) xs
all_unmapped f P [] h = λ k d lt. absurd (omega arith)
all_unmapped f P (x ∷ xs) h =
    all_cons (λ y. P (f y)) x xs (all_head P (f x) (map f xs) h) (all_unmapped f P xs (all_tail P (f x) (map f xs) h))

unmapped : {A B : Type 0} (f : A → B) (xs : List A) → AreDistinct (map f xs) → AllPairs (λ x y. f x ≢ f y) xs
unmapped f [] h = λ i j d lt within. absurd (omega arith)
unmapped {A} {B} f (x ∷ xs) h =
    let R : B → B → Type 0 = λ a b. a ≢ b in
    AllPairs-cons (λ y z. f y ≢ f z) x xs (all_unmapped f (R (f x)) xs (pairs_head R (f x) (map f xs) h)) (unmapped f xs (pairs_tail R (f x) (map f xs) h))

-- the name of what is found by its number
named : {A : Type 0} (number_of : A → ℕ) (name : A → List ℕ) (xs : List A) (x : A) → AreDistinct (map number_of xs) → Contains xs x
    → option_map name (find (λ y. number_of y == number_of x) xs) ≡ Some (name x)
named number_of name xs x distinct stands =
    let alone : AllPairs (λ y z. (number_of y == number_of x) ≡ true → (number_of z == number_of x) ≢ true) xs =
    λ i j d lt within e1 e2. unmapped number_of xs distinct i j d lt within
    ((number_iff (number_of (get_or xs i d)) (number_of x)).0 e1 ∙ sym ((number_iff (number_of (get_or xs j d)) (number_of x)).0 e2)) in
    ap (option_map name)
    (only_one (λ y. number_of y == number_of x) xs alone x stands.0 stands.1 stands.2 ((number_iff (number_of x) (number_of x)).1 refl))

pub policy_named : (t : Topology) (c : Config) (p : Policy) → first_broken t c ≡ None → Contains c.policies p → policy_name c p.sequence ≡ Some p.name
policy_named t c p h stands = named (λ (p : Policy). p.sequence) (λ (p : Policy). p.name) c.policies p ((valid_iff t c).0 h).numbers.sequences stands

pub service_named : (t : Topology) (c : Config) (s : Service) → first_broken t c ≡ None → Contains c.services s → service_name c s.id.0 ≡ Some s.name
service_named t c s h stands = named (λ (s : Service). s.id.0) (λ (s : Service). s.name) c.services s ((valid_iff t c).0 h).numbers.services stands

pub port_named : (t : Topology) (c : Config) (p : Port) → first_broken t c ≡ None → Contains c.ports p → port_name c p.id.0 ≡ Some p.name
port_named t c p h stands = named (λ (p : Port). p.id.0) (λ (p : Port). p.name) c.ports p ((valid_iff t c).0 h).numbers.ports stands
