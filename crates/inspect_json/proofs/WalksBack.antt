-- The JSON of the steps of walks: their texts read as them, and a step's line can be told from its value.
use Rattle.std.proofs.Common.{◌≡◌, ◌==◌, ◌&&◌, ◌<◌, ◌^◌, ◌++◌, ℕ, suc, true, cond, List, codes, decimal, nat_le, Option, Some, None, IsUtf8, refl, ap, arith}
use Rattle.std.proofs.lemmas.Bool.{and_parts, leb-true}
use Rattle.serde_json.specs.Data.{Data, string, object}
use Rattle.ov_types.proofs.Names.{name_is_utf8}
use Rattle.ov_types.specs.Prefix.{Block}
use Rattle.ov_types.specs.declared.rows.Entry.{Entry}
use Rattle.inspect_walks.specs.Lines.{leads_text, name_text, owner_text, row_text, step_text}
use Rattle.inspect_walks.specs.Sizes.{has_leads_size, has_name_size, has_owner_size, has_row_size, has_step_size}
use Rattle.inspect_walks.specs.declared.told_step.LeadsTo.{LeadsTo}
use Rattle.inspect_walks.specs.declared.told_step.LeadsTo.TheVariants as To
use Rattle.inspect_walks.specs.declared.told_step.Owner.{Owner}
use Rattle.inspect_walks.specs.declared.told_step.Owner.TheVariants as Of
use Rattle.inspect_walks.specs.declared.told_step.ToldStep.{ToldStep}
use Rattle.inspect_json.specs.ChangeValues.{network_value}
use Rattle.inspect_json.specs.Values.{name_value}
use Rattle.inspect_json.specs.WalkValues.{end_value, entry_value, hop_value, leads_value, owner_value, row_value, step_value}
use Rattle.inspect_json.proofs.Fit.{IsFit}
use Rattle.inspect_json.proofs.ReadBack.{address, network, prefix, small, word}
use Rattle.inspect_json.proofs.SameSaid.{after, body, first, letter, size, text, whole}

-- the text reads as the value

pub name_fits : (k : ℕ) (name : Option (List ℕ)) → has_name_size name ≡ true → IsFit k (name_value name)
name_fits k None h = tt
name_fits k (Some name) h = name_is_utf8 name h

hop : (k use_no place : ℕ) → (nat_le use_no 65535 && nat_le place 255) ≡ true → IsFit (suc k) (hop_value use_no place)
unfolding hop_value
hop k use_no place h =
    let p = and_parts (nat_le use_no 65535) (nat_le place 255) h in (
      (
        word (codes "hop") refl,
        omega (arith, leb-true place 255 p.1),
        (
          word (codes "kind") refl,
          word (codes "use") refl,
          (word (codes "use") refl, small use_no p.0, tt),
        ),
      ),
      refl,
    )

owner : (k : ℕ) (o : Owner) → has_owner_size o ≡ true → IsFit (suc k) (owner_value o)
owner k (Of.Network name) h = network k name h
owner k (Of.Hop at) h = hop k at.use_no at.place h
owner k Of.Nothing h = tt

entry : (k : ℕ) (b : Block) (e : Entry) → (nat_le b.len 255 && nat_le e.label.0 0xffff_ffff) ≡ true → IsFit (suc k) (entry_value b e)
unfolding entry_value
entry k b e h =
    let p = and_parts (nat_le b.len 255) (nat_le e.label.0 0xffff_ffff) h in (
      (
        word (codes "label") refl,
        omega (arith, leb-true e.label.0 0xffff_ffff p.1),
        (
          word (codes "next_hop") refl,
          address e.next_hop.0,
          (word (codes "prefix") refl, prefix b p.0, tt),
        ),
      ),
      refl,
    )

row : (k : ℕ) (r : Option (Block × Entry)) → has_row_size r ≡ true → IsFit (suc k) (row_value r)
row k None h = tt
row k (Some r) h = entry k r.0 r.1 h

at_end : (k : ℕ) (kind : List ℕ) (number : ℕ) (name : Option (List ℕ)) → IsUtf8 kind → number < 2 ^ 64 → has_name_size name ≡ true
    → IsFit (suc k) (end_value kind number name)
unfolding end_value
at_end k kind number name fit few h = (
  (
    word (codes "id") refl,
    few,
    (
      word (codes "kind") refl,
      fit,
      (word (codes "name") refl, name_fits k name h, tt),
    ),
  ),
  refl,
)

leads : (k : ℕ) (l : LeadsTo) → has_leads_size l ≡ true → IsFit (suc k) (leads_value l)
leads k (To.Port port name) h =
    let p = and_parts (nat_le port.0 0xffff_ffff) (has_name_size name) h in
    at_end k (codes "port") port.0 name (word (codes "port") refl) (omega (arith, leb-true port.0 0xffff_ffff p.0)) p.1
leads k (To.Service service name) h =
    let p = and_parts (nat_le service.0 65535) (has_name_size name) h in
    at_end k (codes "service") service.0 name (word (codes "service") refl) (small service.0 p.0) p.1
leads k To.Nothing h = tt

pub step : (k : ℕ) (s : ToldStep) → has_step_size s ≡ true → IsFit (suc (suc k)) (step_value s)
unfolding step_value
step k s h =
    let a = and_parts (has_name_size s.agent && nat_le s.instance.0 65535 && has_owner_size s.owner && has_row_size s.row) (has_leads_size s.leads) h in
    let b = and_parts (has_name_size s.agent && nat_le s.instance.0 65535 && has_owner_size s.owner) (has_row_size s.row) a.0 in
    let d = and_parts (has_name_size s.agent && nat_le s.instance.0 65535) (has_owner_size s.owner) b.0 in
    let e = and_parts (has_name_size s.agent) (nat_le s.instance.0 65535) d.0 in (
      (
        word (codes "agent") refl,
        name_fits (suc k) s.agent e.0,
        (
          word (codes "of") refl,
          owner k s.owner d.1,
          (
            word (codes "row") refl,
            row k s.row b.1,
            (
              word (codes "table") refl,
              small s.instance.0 e.1,
              (word (codes "to") refl, leads k s.leads a.1, tt),
            ),
          ),
        ),
      ),
      refl,
    )

-- what a value says

abbrev name_in : Data → List ℕ
name_in (string s) = s
name_in d = codes "-"

name_back : (name : Option (List ℕ)) → name_in (name_value name) ≡ name_text name
name_back None = refl
name_back (Some name) = refl

-- a network has two members, and a hop three
abbrev owner_in : Data → List ℕ
owner_in d = cond (size (body d) == 2) (codes "network " ++ text (first (after (body d))))
    (cond (size (body d) == 3) (codes "use " ++ (decimal (whole (first (after (after (body d))))) ++ (codes " hop " ++ decimal (whole (first (body d))))))
    (codes "-"))

owner_back : (o : Owner) → owner_in (owner_value o) ≡ owner_text o
unfolding network_value hop_value
owner_back (Of.Network name) = refl
owner_back (Of.Hop at) = refl
owner_back Of.Nothing = refl

abbrev row_in : Data → List ℕ
row_in (object ms) = text (first (after (after ms))) ++ (codes " " ++ (text (first (after ms)) ++ (codes " " ++ decimal (whole (first ms)))))
row_in d = codes "-"

row_back : (r : Option (Block × Entry)) → row_in (row_value r) ≡ row_text r
unfolding entry_value
row_back None = refl
row_back (Some r) = refl

-- by the first letter of the kind
abbrev leads_in : Data → List ℕ
leads_in (object ms) = cond (letter (text (first (after ms))) == 112) (codes "port " ++ name_in (first (after (after ms))))
    (codes "service " ++ name_in (first (after (after ms))))
leads_in d = codes "-"

leads_back : (l : LeadsTo) → leads_in (leads_value l) ≡ leads_text l
unfolding end_value
leads_back (To.Port port name) = ap (λ (s : List ℕ). codes "port " ++ s) (name_back name)
leads_back (To.Service service name) = ap (λ (s : List ℕ). codes "service " ++ s) (name_back name)
leads_back To.Nothing = refl

abbrev pub step_in : Data → List ℕ
step_in d =
    codes "agent " ++ (name_in (first (body d)) ++ (codes " table " ++ (decimal (whole (first (after (after (after (body d)))))) ++ (codes " "
    ++ (row_in (first (after (after (body d)))) ++ (codes " of " ++ (owner_in (first (after (body d))) ++ (codes " to "
    ++ leads_in (first (after (after (after (after (body d))))))))))))))

pub step_back : (s : ToldStep) → step_in (step_value s) ≡ step_text s
unfolding step_value
step_back s =
    λ i. codes "agent " ++ (name_back s.agent i ++ (codes " table " ++ (decimal s.instance.0 ++ (codes " " ++ (row_back s.row i
    ++ (codes " of " ++ (owner_back s.owner i ++ (codes " to " ++ leads_back s.leads i))))))))
