-- What is in flight is known by its octets: changes of one spelling are one, and so are lists of them.
use Rattle.std.specs.Prelude.{◌≡◌, List, [], ◌∷◌, ◌++◌, map, length, Bool, true, false}
use Rattle.std.specs.List.{AllByRecursion}
use Rattle.std.proofs.Common.{refl, sym, ◌∙◌, ap, subst, suc-ne-zero}
use Rattle.ov_types.specs.declared.vpn.VpnKey.{VpnKey}
use Rattle.ov_types.specs.declared.vpn.VpnRoute.{VpnRoute}
use Rattle.ov_sync.specs.Embed.{moved_delta}
use Rattle.ov_sync.specs.declared.Delta.{Delta}
use Rattle.item_wire.specs.declared.event.ItemFrom.{ItemFrom}
use Rattle.bgp_session.specs.Happenings.{SessionFields, idle_session}
use Rattle.bgp_session.specs.Inputs.{Came, RightUpdate}
use Rattle.node_core.proofs.Changes.{one_change}
use Rattle.node_model.specs.Keys.{Vpn}
use Rattle.node_model.specs.Maps.{Change}
use Rattle.node_model.specs.Values.{Route}
use Rattle.running_nodes.specs.NodeRoutes.Hearing.{IsNext}
use Rattle.running_nodes.specs.NodeRoutes.Told.{spelled}
use Rattle.running_nodes.proofs.NodeRoutes.One.{update_first}
use Rattle.machine_laws.specs.MachineModel.Session.{Carries, Message}
use Rattle.machine_laws.proofs.MachineModel.SessionFact.{map_append}
use Rattle.running_nodes.specs.Seats.{Who, no_node}
use Rattle.running_nodes.specs.Stands.{octets_of}
use Rattle.running_nodes.specs.Telling.{CanCarryAs, IsRouteChange}

-- ---- one change
-- an UPDATE is heard as the change of its route, and as no other
abbrev first_update : Delta VpnKey VpnRoute → Came → Delta VpnKey VpnRoute
first_update d (RightUpdate (e ∷ es)) = e
first_update d came = d

one_route : (c d : Change) → IsRouteChange c → IsRouteChange d → spelled c ≡ spelled d → c ≡ d
one_route c d r r' e =
    let s : SessionFields = idle_session 0 no_node in
    let first = update_first s r.change [] r.writable r.typed in
    let second = update_first s r'.change [] r'.writable r'.typed in
    let octets : spelled (moved_delta Vpn Route r'.change) ≡ spelled (moved_delta Vpn Route r.change) =
    ap spelled (sym r'.is) ∙ sym e ∙ ap spelled r.is
    in
    let heard : IsNext s (spelled (moved_delta Vpn Route r.change) ++ []) (RightUpdate (r'.change ∷ [])) [] =
    subst (λ o. IsNext s (o ++ []) (RightUpdate (r'.change ∷ [])) []) octets second.next
    in
    let same : r'.change ≡ r.change =
    ap (first_update r.change) (first.only (RightUpdate (r'.change ∷ [])) [] heard).0
    in
    r.is ∙ ap (moved_delta Vpn Route) (sym same) ∙ sym r'.is

carried_once : (who : Who) (b : Bool) (from : ItemFrom) (c d : Change) → CanCarryAs b from c → CanCarryAs b from d
    → octets_of who b (Carries c) ≡ octets_of who b (Carries d) → c ≡ d
carried_once who true from c d r r' e = one_route c d r r' e
carried_once who false from c d r r' e = one_change c d r.told r'.told e

-- ---- lists
abbrev pub head_or : {A : Type 0} → A → List A → A
head_or d [] = d
head_or d (x ∷ xs) = x

abbrev pub tail_of : {A : Type 0} → List A → List A
tail_of [] = []
tail_of (x ∷ xs) = xs

same_rest : {A : Type 0} (xs ys zs : List A) → xs ++ ys ≡ xs ++ zs → ys ≡ zs
same_rest [] ys zs e = e
same_rest (x ∷ xs) ys zs e = same_rest xs ys zs (ap tail_of e)

one_by_one : {A B : Type 0} (f : A → B) (P : A → Type 0) → ((a b : A) → P a → P b → f a ≡ f b → a ≡ b)
    → (xs ys : List A) → AllByRecursion P xs → AllByRecursion P ys → map f xs ≡ map f ys → xs ≡ ys
one_by_one f P once [] [] p q e = refl
one_by_one f P once [] (y ∷ ys) p q e = absurd (suc-ne-zero (length (map f ys)) (ap length (sym e)))
one_by_one f P once (x ∷ xs) [] p q e = absurd (suc-ne-zero (length (map f xs)) (ap length e))
one_by_one f P once (x ∷ xs) (y ∷ ys) p q e =
    let first = once x y p.0 q.0 (ap (head_or (f x)) e) in
    let rest = one_by_one f P once xs ys p.1 q.1 (ap tail_of e) in
    λ i. first i ∷ rest i

map_carried : {B : Type 0} (f : Message → B) (cs : List Change) → map f (map Carries cs) ≡ map (λ c. f (Carries c)) cs
map_carried f [] = refl
map_carried f (c ∷ cs) = ap (λ xs. f (Carries c) ∷ xs) (map_carried f cs)

-- ---- all that an end told, after the same greetings
pub one_flight : (who : Who) (b : Bool) (from : ItemFrom) (greetings : List Message) (cs ds : List Change)
    → AllByRecursion (CanCarryAs b from) cs → AllByRecursion (CanCarryAs b from) ds
    → map (octets_of who b) (greetings ++ map Carries cs) ≡ map (octets_of who b) (greetings ++ map Carries ds)
    → cs ≡ ds
one_flight who b from greetings cs ds p q e =
    let o = octets_of who b in
    let both : map o greetings ++ map o (map Carries cs) ≡ map o greetings ++ map o (map Carries ds) =
    sym (map_append o greetings (map Carries cs)) ∙ e ∙ map_append o greetings (map Carries ds)
    in
    let after = same_rest (map o greetings) (map o (map Carries cs)) (map o (map Carries ds)) both in
    one_by_one (λ c. o (Carries c)) (CanCarryAs b from) (carried_once who b from) cs ds p q
    (sym (map_carried o cs) ∙ after ∙ map_carried o ds)
