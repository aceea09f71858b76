-- A slice is what concerns an agent by the networks of its ports.
use Rattle.std.proofs.Common.{◌≡◌, Bool, List, [], ◌∷◌, refl}
use Rattle.std.specs.Prelude.{filter}
use Rattle.ov_types.specs.declared.objects.LowKey.{LowKey}
use Rattle.ov_types.specs.declared.objects.LowKey.TheVariants.{Instance, Attach, Acl, ChainUse}
use Rattle.ov_types.specs.declared.objects.LowValue.{LowValue}
use Rattle.ov_types.specs.declared.prefix.Addr.{Addr}
use Rattle.transform_model.specs.Compiled.{concerns, networks_at, slice_of}
use Rattle.transform_model.specs.Objects.{LowObject}
use Rattle.schema_transform.specs.Concerning.{concerns_among}

same_test : (low : List LowObject) (a : Addr) (k : LowKey) (v : LowValue)
    → concerns_among (networks_at low a) a k v ≡ concerns low a k v
same_test low a (Instance n) v = refl
same_test low a (Attach label) v = refl
same_test low a (Acl from to) v = refl
same_test low a (ChainUse u) v = refl

same_filter : {A : Type 0} (f g : A → Bool) → ((x : A) → f x ≡ g x) → (xs : List A) → filter f xs ≡ filter g xs
same_filter f g h [] = refl
same_filter f g h (x ∷ xs) = rw (h x) (rw (same_filter f g h xs) refl)

pub slice_is : (low : List LowObject) (a : Addr)
    → filter (λ e. concerns_among (networks_at low a) a e.0 e.1) low ≡ slice_of low a
slice_is low a =
    same_filter (λ e. concerns_among (networks_at low a) a e.0 e.1) (λ e. concerns low a e.0 e.1)
    (λ e. same_test low a e.0 e.1) low
