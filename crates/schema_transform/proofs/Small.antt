-- The circuits of low-level objects are those of services.
use Rattle.std.proofs.Common.{◌≡◌, IsTrue, List, None, get_or, sym, subst, arith}
use Rattle.std.specs.List.{All}
use Rattle.std.proofs.lemmas.List.{get_or_default}
use Rattle.std.proofs.lemmas.List.Elements.{All-filter}
use Rattle.ov_types.specs.declared.prefix.Addr.{Addr}
use Rattle.config_types.specs.Form.{has_config_form}
use Rattle.config_types.specs.declared.config.Config.{Config}
use Rattle.config_types.specs.declared.topology.Topology.{Topology}
use Rattle.config_check.specs.Rules.{first_broken}
use Rattle.config_check.specs.Sentences.{IsValid}
use Rattle.config_check.proofs.Validity.{valid_iff}
use Rattle.transform_model.specs.Compiled.{concerns, slice_of}
use Rattle.transform_model.specs.IsObject.{IsObject, of_left_circuit, of_network, of_networks, of_port, of_right_circuit}
use Rattle.transform_model.specs.IsObject.{of_use}
use Rattle.transform_model.specs.Objects.{LowObject, low_objects}
use Rattle.transform_model.proofs.InUse.{few_services}
use Rattle.transform_model.proofs.Lists.{place_within}
use Rattle.transform_model.proofs.LowKeys.{low_is}
use Rattle.transform_model.proofs.Prefixes.{use_number}
use Rattle.schema_transform.specs.Sound.{IsSmall}

is_small : (t : Topology) (c : Config) (o : LowObject) → IsTrue (has_config_form c) → IsValid t c → IsObject t c o → IsSmall o.1
is_small t c o form v (of_network n is has imports e) = subst (λ (x : LowObject). IsSmall x.1) (sym e) record {}
is_small t c o form v (of_port n p node has e) = subst (λ (x : LowObject). IsSmall x.1) (sym e) record {}
is_small t c o form v (of_left_circuit u j k node used is at e) =
    let few = few_services t c u v used in
    let most = use_number c u form used in
    let place = place_within u.services j k.service is.service in
    let number = is.number in
    subst (λ (x : LowObject). IsSmall x.1) (sym e) (omega arith)
is_small t c o form v (of_right_circuit u j k node used is at e) =
    let few = few_services t c u v used in
    let most = use_number c u form used in
    let place = place_within u.services j k.service is.service in
    let number = is.number in
    subst (λ (x : LowObject). IsSmall x.1) (sym e) (omega arith)
is_small t c o form v (of_networks a b has_a has_b related e) = subst (λ (x : LowObject). IsSmall x.1) (sym e) record {}
is_small t c o form v (of_use u hops used has e) = subst (λ (x : LowObject). IsSmall x.1) (sym e) record {}

pub low_is_small : (t : Topology) (c : Config) → IsTrue (has_config_form c) → first_broken t c ≡ None
    → All (λ e. IsSmall e.1) (low_objects t c)
low_is_small t c form h = λ k d lt.
    let v : IsValid t c = (valid_iff t c).0 h in
    let o : LowObject = get_or (low_objects t c) k d in
    is_small t c o form v (low_is t c o v form (k, lt, sym (get_or_default (low_objects t c) k d o lt)))

pub slices_are_small : (low : List LowObject) (a : Addr) → All (λ e. IsSmall e.1) low → All (λ e. IsSmall e.1) (slice_of low a)
slices_are_small low a h = All-filter (λ (e : LowObject). concerns low a e.0 e.1) (λ (e : LowObject). IsSmall e.1) low h
