-- In a valid configuration each finder finds exactly the one object that has the name, the number or the address.
use Rattle.std.proofs.Common.{◌≡◌, ◌≢◌, ◌↔◌, ◌<◌, ◌++◌, ◌&&◌, ◌==◌, ℕ, zero, suc, Bool, true, false, IsTrue, List, [], ◌∷◌, Some, find, map, length, get_or, sym, ap, ◌∙◌, arith}
use Rattle.std.specs.List.{All, AllPairs}
use Rattle.std.proofs.lemmas.Bool.{false_from_ne_true}
use Rattle.std.proofs.lemmas.List.Kept.{AllPairs-cons}
use Rattle.config_types.specs.declared.config.Config.{Config}
use Rattle.config_types.specs.declared.config.Network.{Network}
use Rattle.config_types.specs.declared.config.Port.{Port}
use Rattle.config_types.specs.declared.topology.Node.{Node}
use Rattle.config_types.specs.declared.topology.Topology.{Topology}
use Rattle.ov_types.specs.First.{same_name}
use Rattle.config_check.specs.Finding.{Finds, network_named, network_numbered, port_numbered, port_at, node_named}
use Rattle.config_check.specs.Rules.{controller_names}
use Rattle.config_check.specs.Sentences.{AreDistinct, IsValid}
use Rattle.config_check.proofs.Iffs.{iff_then, all_iff, find_none, all_cons, all_head, all_tail, pairs_head, pairs_tail}
use Rattle.ov_types.proofs.FirstLemmas.{found_is, same_name_iff}
use Rattle.config_check.proofs.Meanings.{fails_iff, and_iff, number_iff}

-- what passes alone is found

only_one : {A : Type 0} (p : A → Bool) (xs : List A) → AllPairs (λ x y. p x ≡ true → p y ≢ true) xs
    → (x : A) (k : ℕ) → k < length xs → get_or xs k x ≡ x → p x ≡ true → find p xs ≡ Some x
only_one p [] apart x k lt same e = absurd (omega arith)
only_one p (y ∷ ys) apart x zero lt same e = let here : p y ≡ true = ap p same ∙ e in rw here (ap Some same)
only_one {A} p (y ∷ ys) apart x (suc k) lt same e =
    let R : A → A → Type 0 = λ a b. p a ≡ true → p b ≢ true in
    let never : p y ≢ true = λ t. pairs_head R y ys apart k x (omega arith) t (ap p same ∙ e) in
    let missed : p y ≡ false = false_from_ne_true (p y) never in
    rw missed (only_one p ys (pairs_tail R y ys apart) x k (omega arith) same e)

finds : {A : Type 0} (p : A → Bool) (IsIt : A → Type 0) → ((x : A) → IsTrue (p x) ↔ IsIt x) → (xs : List A)
    → AllPairs (λ x y. IsIt x → ¬ IsIt y) xs → Finds (find p xs) IsIt xs
finds {A} p IsIt same xs apart =
    let alone : AllPairs (λ x y. p x ≡ true → p y ≢ true) xs = λ i j d lt within e1 e2.
    apart i j d lt within ((same (get_or xs i d)).0 e1) ((same (get_or xs j d)).0 e2) in
    record {
      some = λ x. (
        λ h. let f = found_is p xs x h in (f.1, (same x).0 f.0),
        λ h. only_one p xs alone x h.0.0 h.0.1 h.0.2 ((same x).1 h.1),
      );
      none = iff_then (find_none p xs) (all_iff (λ x. p x ≡ false) (λ x. ¬ IsIt x) (λ x. fails_iff (p x) (same x)) xs);
    }

-- distinct names and numbers, as a fact on the objects that have them

all_unmapped : {A B : Type 0} (f : A → B) (P : B → Type 0) (xs : List A) → All P (map f xs) → All (λ x. P (f x)) xs
all_unmapped f P [] h = λ k d lt. absurd (omega arith)
all_unmapped f P (x ∷ xs) h =
    all_cons (λ y. P (f y)) x xs (all_head P (f x) (map f xs) h) (all_unmapped f P xs (all_tail P (f x) (map f xs) h))

unmapped : {A B : Type 0} (f : A → B) (xs : List A) → AreDistinct (map f xs) → AllPairs (λ x y. f x ≢ f y) xs
unmapped f [] h = λ i j d lt within. absurd (omega arith)
unmapped {A} {B} f (x ∷ xs) h =
    let R : B → B → Type 0 = λ a b. a ≢ b in
    AllPairs-cons (λ y z. f y ≢ f z) x xs (all_unmapped f (R (f x)) xs (pairs_head R (f x) (map f xs) h)) (unmapped f xs (pairs_tail R (f x) (map f xs) h))

pub back_pairs : {A : Type 0} (R : A → A → Type 0) (xs ys : List A) → AllPairs R (xs ++ ys) → AllPairs R ys
back_pairs R [] ys h = h
back_pairs R (x ∷ xs) ys h = back_pairs R xs ys (pairs_tail R x (xs ++ ys) h)

-- no two items have one key
one_key : {A B : Type 0} (f : A → B) (key : B) (xs : List A) → AllPairs (λ x y. f x ≢ f y) xs → AllPairs (λ x y. f x ≡ key → f y ≢ key) xs
one_key f key xs h = λ i j d lt within e1 e2. h i j d lt within (e1 ∙ sym e2)

-- each finder

pub finds_network_named : (t : Topology) (c : Config) (name : List ℕ) → IsValid t c → Finds (network_named c name) (λ n. n.name ≡ name) c.networks
finds_network_named t c name v =
    let named : Network → List ℕ = λ n. n.name in
    finds (λ (n : Network). same_name n.name name) (λ n. n.name ≡ name) (λ n. same_name_iff n.name name) c.networks
    (one_key named name c.networks (unmapped named c.networks v.names.networks))

pub finds_network_numbered : (t : Topology) (c : Config) (number : ℕ) → IsValid t c → Finds (network_numbered c number) (λ n. n.id.0 ≡ number) c.networks
finds_network_numbered t c number v =
    let numbered : Network → ℕ = λ n. n.id.0 in
    finds (λ (n : Network). n.id.0 == number) (λ n. n.id.0 ≡ number) (λ n. number_iff n.id.0 number) c.networks
    (one_key numbered number c.networks (unmapped numbered c.networks v.numbers.networks))

pub finds_port_numbered : (t : Topology) (c : Config) (number : ℕ) → IsValid t c → Finds (port_numbered c number) (λ p. p.id.0 ≡ number) c.ports
finds_port_numbered t c number v =
    let numbered : Port → ℕ = λ p. p.id.0 in
    finds (λ (p : Port). p.id.0 == number) (λ p. p.id.0 ≡ number) (λ p. number_iff p.id.0 number) c.ports
    (one_key numbered number c.ports (unmapped numbered c.ports v.numbers.ports))

pub finds_port_at : (t : Topology) (c : Config) (n : Network) (address : ℕ) → IsValid t c
    → Finds (port_at c n address) (λ p. (p.network ≡ n.name) × (p.address.0 ≡ address)) c.ports
finds_port_at t c n address v =
    finds (λ (p : Port). same_name p.network n.name && (p.address.0 == address)) (λ p. (p.network ≡ n.name) × (p.address.0 ≡ address))
    (λ p. and_iff (same_name p.network n.name) (p.address.0 == address) (same_name_iff p.network n.name) (number_iff p.address.0 address)) c.ports
    (λ i j d lt within e1 e2. v.addresses i j d lt within (e1.0 ∙ sym e2.0, e1.1 ∙ sym e2.1))

pub finds_node_named : (t : Topology) (c : Config) (name : List ℕ) → IsValid t c → Finds (node_named t name) (λ n. n.name ≡ name) t.nodes
finds_node_named t c name v =
    let named : Node → List ℕ = λ n. n.name in
    finds (λ (n : Node). same_name n.name name) (λ n. n.name ≡ name) (λ n. same_name_iff n.name name) t.nodes
    (one_key named name t.nodes (unmapped named t.nodes (back_pairs (λ a b. a ≢ b) (controller_names t) (map named t.nodes) v.names.nodes)))
