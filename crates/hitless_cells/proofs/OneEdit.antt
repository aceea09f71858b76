-- One edit leaves all networks, or all ports and all networks but one.
use Rattle.std.proofs.Common.{◌≡◌, ◌⊎◌, inl, inr, List, [], ◌∷◌, ◌++◌, None, refl, sym, ◌∙◌, subst, arith}
use Rattle.std.specs.List.{Contains}
use Rattle.std.proofs.lemmas.List.Elements.{Contains-append_cases, Contains-append_left, Contains-append_right}
use Rattle.ov_types.proofs.FirstLemmas.{contains_cases, contains_later}
use Rattle.config_types.specs.declared.config.Network.{Network}
use Rattle.config_types.specs.declared.edit.Edit.{Edit}
use Rattle.config_types.specs.declared.edit.Edit.TheVariants.{Put, Delete}
use Rattle.config_types.specs.declared.edit.Object.TheVariants as Objects
use Rattle.config_types.specs.declared.edit.ObjectKind.TheVariants as Kinds
use Rattle.config_check.specs.Checked.{Checked}
use Rattle.config_check.specs.Edits.{edited, edited_config, missing_name, network_name}
use Rattle.config_check.specs.EditLaws.{Appends, Replaces, with_networks}
use Rattle.config_check.proofs.EditLaws.{network_deleted, network_put}

-- of two of a list one is in the other list too, or they are one
abbrev pub AllButOne : List Network → List Network → Type 0
AllButOne xs ys = (a b : Network) → Contains xs a → Contains xs b → (a ≡ b) ⊎ (Contains ys a ⊎ Contains ys b)

pub record ButForOne (x y : Checked) : Type 0 where
  pub ports : x.config.ports ≡ y.config.ports
  pub there : AllButOne x.config.networks y.config.networks
  pub back : AllButOne y.config.networks x.config.networks

abbrev pub Change : Checked → Checked → Type 0
Change x y = (x.config.networks ≡ y.config.networks) ⊎ ButForOne x y

pub turned : (x y : Checked) → Change x y → Change y x
turned x y (inl same) = inl (sym same)
turned x y (inr one) = inr (record { ports = sym one.ports; there = one.back; back = one.there })

all_of : (xs ys : List Network) → ((a : Network) → Contains xs a → Contains ys a) → AllButOne xs ys
all_of xs ys more a b in_a in_b = inr (inl (more a in_a))

-- one of a list is apart, and the others are in another
apart : (before after : List Network) (z : Network) (ys : List Network) → ((a : Network) → Contains before a → Contains ys a)
    → ((a : Network) → Contains after a → Contains ys a) → AllButOne (before ++ z ∷ after) ys
apart before after z ys early late a b in_a in_b = by (one_of a in_a) (one_of b in_b)
  where
    one_of : (a : Network) → Contains (before ++ z ∷ after) a → (z ≡ a) ⊎ Contains ys a
    one_of a at =
        elim (Contains-append_cases before (z ∷ after) a at) [
          | inl here ↦ inr (early a here)
          | inr there ↦ elim (contains_cases z after a there) [ inl same ↦ inl same | inr more ↦ inr (late a more) ]
        ]

    by : (z ≡ a) ⊎ Contains ys a → (z ≡ b) ⊎ Contains ys b → (a ≡ b) ⊎ (Contains ys a ⊎ Contains ys b)
    by (inl one) (inl two) = inl (sym one ∙ two)
    by (inl one) (inr there) = inr (inr there)
    by (inr there) h = inr (inl there)

in_front : (before after : List Network) (z a : Network) → Contains before a → Contains (before ++ z ∷ after) a
in_front before after z a at = Contains-append_left before (z ∷ after) a at

in_back : (before after : List Network) (z a : Network) → Contains after a → Contains (before ++ z ∷ after) a
in_back before after z a at = Contains-append_right before (z ∷ after) a (contains_later a z after at)

by_lists : (x : Checked) (new : List Network) → AllButOne x.config.networks new → AllButOne new x.config.networks → Change x (with_networks x new)
by_lists x new there back = inr (record { ports = refl; there = there; back = back })

replaced : (x : Checked) (n : Network) (new : List Network) → Replaces network_name n x.config.networks new → Change x (with_networks x new)
replaced x n new h =
    let was : List Network = h.before ++ h.replaced ∷ h.after in
    let is : List Network = h.before ++ n ∷ h.after in
    let there : AllButOne was is = apart h.before h.after h.replaced is (in_front h.before h.after n) (in_back h.before h.after n) in
    let back : AllButOne is was = apart h.before h.after n was (in_front h.before h.after h.replaced) (in_back h.before h.after h.replaced) in
    by_lists x new
    (subst (λ (xs : List Network). AllButOne xs new) (sym h.was) (subst (λ (ys : List Network). AllButOne was ys) (sym h.is) there))
    (subst (λ (xs : List Network). AllButOne new xs) (sym h.was) (subst (λ (ys : List Network). AllButOne ys was) (sym h.is) back))

-- a list with one more
one_more : (x : Checked) (small : List Network) (before after : List Network) (z : Network) → small ≡ before ++ after → x.config.networks ≡ before ++ z ∷ after → Change x (with_networks x small)
one_more x small before after z was is =
    let into : (a : Network) → Contains small a → Contains x.config.networks a = λ a at.
    subst (λ (xs : List Network). Contains xs a) (sym is)
    (elim (Contains-append_cases before after a (subst (λ (xs : List Network). Contains xs a) was at)) [
      | inl here ↦ in_front before after z a here
      | inr there ↦ in_back before after z a there
    ]) in
    let there : AllButOne (before ++ z ∷ after) small = apart before after z small
    (λ a at. subst (λ (xs : List Network). Contains xs a) (sym was) (Contains-append_left before after a at))
    (λ a at. subst (λ (xs : List Network). Contains xs a) (sym was) (Contains-append_right before after a at)) in
    by_lists x small (subst (λ (xs : List Network). AllButOne xs small) (sym is) there) (all_of small x.config.networks into)

appended : (x : Checked) (n : Network) (new : List Network) → Appends network_name n x.config.networks new → Change x (with_networks x new)
appended x n new h =
    let into : (a : Network) → Contains x.config.networks a → Contains new a = λ a at.
    subst (λ (xs : List Network). Contains xs a) (sym h.is) (Contains-append_left x.config.networks (n ∷ []) a at) in
    let back : AllButOne (x.config.networks ++ n ∷ []) x.config.networks = apart x.config.networks [] n x.config.networks (λ a at. at) (λ a at. absurd (omega (arith, at.1))) in
    by_lists x new (all_of x.config.networks new into) (subst (λ (xs : List Network). AllButOne xs x.config.networks) (sym h.is) back)

pub changed : (x : Checked) (e : Edit) → missing_name e x ≡ None → Change x (edited e x)
unfolding edited_config
changed x (Put (Objects.Network n)) h =
    let put = network_put n x in
    subst (Change x) (sym put.2) (elim put.1 [ inl replaces ↦ replaced x n put.0 replaces | inr appends ↦ appended x n put.0 appends ])
changed x (Delete Kinds.Network name) h =
    let del = network_deleted name x h in
    subst (Change x) (sym del.2) (one_more x del.0 del.1.before del.1.after del.1.removed del.1.is del.1.was)
changed x (Put (Objects.Port q)) h = inl refl
changed x (Put (Objects.Policy q)) h = inl refl
changed x (Put (Objects.Service s)) h = inl refl
changed x (Put (Objects.Chain d)) h = inl refl
changed x (Put (Objects.Node n)) h = inl refl
changed x (Delete Kinds.Port name) h = inl refl
changed x (Delete Kinds.Policy name) h = inl refl
changed x (Delete Kinds.Service name) h = inl refl
changed x (Delete Kinds.Chain name) h = inl refl
changed x (Delete Kinds.Node name) h = inl refl
