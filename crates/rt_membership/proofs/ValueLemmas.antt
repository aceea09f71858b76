-- The value of a type among attributes that are walked over.
use Rattle.std.proofs.Common.{◌≡◌, ◌==◌, ℕ, List, [], ◌∷◌, refl, ap, sym, ◌∙◌, subst, cond, Some, None, Bool, true, false, find}
use Rattle.std.specs.Option.{option_map}
use Rattle.bgp_wire.specs.Attributes.{AttributeFields, AreAttributes, BeginsWithAttribute, IsCut}
use Rattle.bgp_wire.proofs.Attributing.{behind, nothing_behind, cut_behind}
use Rattle.bgp_vpn.specs.Values.{value_at}

-- none of those that were walked over has the type
abbrev pub ValueLeft : ℕ → List ℕ → List ℕ → Type 0
ValueLeft kind octets rest = (all : List AttributeFields) → AreAttributes octets all []
    → (left : List AttributeFields) × AreAttributes rest left [] × (value_at kind all ≡ value_at kind left)

pub all_left : (kind : ℕ) (octets rest : List ℕ) → octets ≡ rest → ValueLeft kind octets rest
all_left kind octets rest is = λ all are. (all, subst (λ (o : List ℕ). AreAttributes o all []) is are, refl)

value_by : (kind : ℕ) (a : AttributeFields) (left : List AttributeFields) (b : Bool) → (a.kind == kind) ≡ b
    → value_at kind (a ∷ left) ≡ cond b (Some a.value) (value_at kind left)
value_by kind a left true is =
    ap (λ (c : Bool). option_map (λ (x : AttributeFields). x.value) (cond c (Some a) (find (λ x. x.kind == kind) left))) is
value_by kind a left false is =
    ap (λ (c : Bool). option_map (λ (x : AttributeFields). x.value) (cond c (Some a) (find (λ x. x.kind == kind) left))) is

-- the next one has it
pub found_here : (kind : ℕ) (octets rest after : List ℕ) (a : AttributeFields) → ValueLeft kind octets rest → BeginsWithAttribute rest a after
    → (a.kind == kind) ≡ true → (all : List AttributeFields) → AreAttributes octets all [] → Some a.value ≡ value_at kind all
found_here kind octets rest after a so_far begins is all are =
    let now = so_far all are in
    let less = behind rest after [] now.0 a now.1 begins in
    sym (now.2 ∙ ap (value_at kind) less.is ∙ value_by kind a less.others true is)

-- or has not
pub one_less : (kind : ℕ) (octets rest after : List ℕ) (a : AttributeFields) → ValueLeft kind octets rest → BeginsWithAttribute rest a after
    → (a.kind == kind) ≡ false → ValueLeft kind octets after
one_less kind octets rest after a so_far begins is = λ all are.
    let now = so_far all are in
    let less = behind rest after [] now.0 a now.1 begins in
    (less.others, less.are, now.2 ∙ ap (value_at kind) less.is ∙ value_by kind a less.others false is)

-- a cut one is none of whole attributes
pub cut_less : (kind : ℕ) (octets rest after : List ℕ) → ValueLeft kind octets rest → IsCut rest → ValueLeft kind octets after
cut_less kind octets rest after so_far cut = λ all are.
    let now = so_far all are in
    let none = cut_behind rest [] now.0 now.1 cut in
    absurd (subst IsCut (sym none.1) cut)

pub none_left : (kind : ℕ) (octets rest : List ℕ) → ValueLeft kind octets rest → rest ≡ [] → (all : List AttributeFields) → AreAttributes octets all []
    → None ≡ value_at kind all
none_left kind octets rest so_far end all are =
    let now = so_far all are in
    let none = nothing_behind rest [] now.0 now.1 end in
    sym (now.2 ∙ ap (value_at kind) none.0)
