-- Of the publications under one key, that of the lowest session counts.
use Rattle.std.specs.Prelude.{◌≡◌, ◌≤◌, [], ◌∷◌}
use Rattle.std.specs.declared.option.Option.TheVariants.{Some}
use Rattle.std.specs.FinMap.{get}
use Rattle.std.proofs.Common.{refl, sym, ◌∙◌, subst}
use Rattle.ov_types.specs.Prefix.{Block}
use Rattle.ov_types.specs.declared.numbers.InstanceId.{InstanceId}
use Rattle.ov_types.specs.declared.numbers.Label.{Label as LabelNo}
use Rattle.route_targets.specs.Numbers.{distinguisher_of, target_of}
use Rattle.node_model.specs.Keys.{Vpn}
use Rattle.node_model.specs.Values.{Route}
use Rattle.node_model.specs.Paths.{Holdings, IsOwnRoute, Path, Told}
use Rattle.node_model.specs.Wants.{wanted_by_peers}
use Rattle.node_laws.specs.Counts.{AreListed, AreNumbered, HasKey, IsLowestSession, Publishes, as_own, published_key, published_route}
use Rattle.node_laws.proofs.Counting.{counted_is}

-- the path of a publication
path_of : Holdings → Told → InstanceId → Block → LabelNo → Path
path_of h a i prefix label = record {
  prefix = prefix;
  rd = distinguisher_of a.address i;
  next_hop = a.address;
  label = label;
  targets = target_of h.asn i ∷ [];
  session = a.session;
}

module _ (h : Holdings) (a : Told) (i : InstanceId) (prefix : Block) (label : LabelNo) where
  own_of : Publishes h a i prefix label → IsOwnRoute h (path_of h a i prefix label)
  unfolding path_of
  own_of p = record {
    agent = a;
    instance = i;
    told = p.told;
    publishes = p.publishes;
    known = p.known;
    rd = refl;
    next_hop = refl;
    targets = refl;
    session = refl;
  }

  lowest_of : IsLowestSession h (published_key a i prefix) a.session
      → (q : Path) → IsOwnRoute h q → HasKey (published_key a i prefix) q → a.session ≤ q.session
  lowest_of lowest q o key =
      let p : Publishes h o.agent o.instance q.prefix q.label = record { told = o.told; publishes = o.publishes; known = o.known } in
      let same : published_key o.agent o.instance q.prefix ≡ published_key a i prefix = (λ j. record { rd = sym o.rd j; prefix = q.prefix }) ∙ key in
      subst (λ n. a.session ≤ n) (sym o.session) (lowest o.agent o.instance q.prefix q.label p same)

  pub lowest_publishes : AreListed h.agents → AreNumbered h.feed → Publishes h a i prefix label
      → IsLowestSession h (published_key a i prefix) a.session
      → get (wanted_by_peers h) (Vpn (published_key a i prefix)) ≡ Some (Route (published_route h a i label))
  unfolding path_of
  lowest_publishes listed numbered p lowest =
      (counted_is h listed numbered (published_key a i prefix) (published_route h a i label)).1
      (path_of h a i prefix label, refl, refl, as_own (own_of p) (lowest_of lowest))
