-- Values that are the same say the same.
use Rattle.std.proofs.Common.{◌≡◌, ◌≢◌, ◌∙◌, ℕ, suc, List, [], ◌∷◌, ◌++◌, length, map, codes, decimal, refl, sym, ap, arith}
use Rattle.serde_json.specs.Data.{Data, null, number, string, array, object, unsigned, Items, no_items, item, Members, no_members, member}
use Rattle.serde_json.specs.View.{items_of}
use Rattle.inspect_changes.specs.Report.Outcomes.{services_text}
use Rattle.ov_types.specs.Rows.{rule_text}
use Rattle.ov_types.specs.declared.numbers.ServiceNo.{ServiceNo}
use Rattle.ov_types.specs.declared.packet.Range16.{Range16}
use Rattle.ov_types.specs.declared.packet.RuleNo.{RuleNo}
use Rattle.config_types.specs.declared.config.Config.{Config}
use Rattle.inspect_changes.specs.DifferenceLines.{came_line, difference_line, fate_text, object_text, went_line}
use Rattle.inspect_changes.specs.Lines.{passage_text, region_text, way_line}
use Rattle.inspect_changes.specs.declared.fate.Difference.{Difference}
use Rattle.inspect_changes.specs.declared.fate.Fate.{Fate}
use Rattle.inspect_changes.specs.declared.fate.Fate.TheVariants as Fates
use Rattle.inspect_changes.specs.declared.objects.Object.{Object}
use Rattle.inspect_changes.specs.declared.objects.Object.TheVariants as Is
use Rattle.inspect_changes.specs.declared.way.Passage.{Passage}
use Rattle.inspect_changes.specs.declared.way.Passage.TheVariants.{Straight, Through}
use Rattle.inspect_changes.specs.declared.way.Way.{Way}
use Rattle.inspect_rules.specs.declared.idle.Idle.{Idle}
use Rattle.inspect_rules.specs.declared.idle.Idle.TheVariants as Idles
use Rattle.inspect_json.specs.IdleValues.{idle_chain_value, idle_policy_value, idle_rule_value, idle_value}
use Rattle.inspect_json.specs.ChangeValues.{came_value, difference_value, fate_rule, fate_services, fate_value, fate_word, network_value, object_value, port_value, service_object_value, subnet_value, went_value}
use Rattle.inspect_json.specs.Values.{list_value, passage_services, passage_word, range_value, rule_value, service_value, way_value}

-- the parts of a value

abbrev pub first : Members → Data
first no_members = null
first (member name d ms) = d

abbrev pub after : Members → Members
after no_members = no_members
after (member name d ms) = ms

abbrev pub body : Data → Members
body (object ms) = ms
body d = no_members

abbrev pub items : Data → Items
items (array ds) = ds
items d = no_items

abbrev pub head : Items → Data
head no_items = null
head (item d ds) = d

abbrev pub tail : Items → Items
tail no_items = no_items
tail (item d ds) = ds

abbrev pub text : Data → List ℕ
text (string s) = s
text d = []

abbrev pub whole : Data → ℕ
whole (number (unsigned n)) = n
whole d = 0

-- how many items there are
abbrev count : Items → ℕ
count no_items = 0
count (item d ds) = 1

pub same_range : (r s : Range16) → range_value r ≡ range_value s → r ≡ s
same_range r s h =
    let lo : r.lo ≡ s.lo = ap (λ (d : Data). whole (head (items d))) h in
    let hi : r.hi ≡ s.hi = ap (λ (d : Data). whole (head (tail (items d)))) h in
    λ i. record { lo = lo i; hi = hi i }

pub same_rule : (c d : Config) (r s : RuleNo) → rule_value c r ≡ rule_value d s → r ≡ s
unfolding rule_value
same_rule c d r s h =
    let position : r.position ≡ s.position = ap (λ (d : Data). whole (first (after (body d)))) h in
    let sequence : r.sequence ≡ s.sequence = ap (λ (d : Data). whole (first (after (after (body d))))) h in
    λ i. record { sequence = sequence i; position = position i }

same_service : (c d : Config) (s t : ServiceNo) → service_value c s ≡ service_value d t → s ≡ t
unfolding service_value
same_service c d s t h =
    let id : s.0 ≡ t.0 = ap (λ (d : Data). whole (first (body d))) h in
    λ i. record { 0 = id i }

pub same_list : {A : Type 0} (f g : A → Data) → ((x y : A) → f x ≡ g y → x ≡ y) → (xs ys : List A) → items_of (map f xs) ≡ items_of (map g ys) → xs ≡ ys
same_list f g each [] [] h = refl
same_list f g each [] (y ∷ ys) h = absurd (omega (arith, ap count h))
same_list f g each (x ∷ xs) [] h = absurd (omega (arith, ap count h))
same_list f g each (x ∷ xs) (y ∷ ys) h =
    let here : x ≡ y = each x y (ap head h) in
    let there : xs ≡ ys = same_list f g each xs ys (ap tail h) in
    λ i. here i ∷ there i

pub same_services : (c d : Config) (xs ys : List ServiceNo) → list_value (service_value c) xs ≡ list_value (service_value d) ys → xs ≡ ys
same_services c d xs ys h = same_list (service_value c) (service_value d) (same_service c d) xs ys (ap items h)

same_passage : (p q : Passage) → passage_word p ≡ passage_word q → passage_services p ≡ passage_services q → p ≡ q
same_passage Straight Straight e h = refl
same_passage Straight (Through services) e h = absurd (omega (arith, ap length e))
same_passage (Through services) Straight e h = absurd (omega (arith, ap length e))
same_passage (Through services) (Through others) e h = ap Through h

-- two ways of one value have one line
pub way_says : (c d : Config) (from to from' to' : List ℕ) (w w' : Way) → way_value c from to w ≡ way_value d from' to' w'
    → way_line from to w ≡ way_line from' to' w'
unfolding way_value way_line
way_says c d from to from' to' w w' h =
    let destination : w.region.destination_ports ≡ w'.region.destination_ports = same_range _ _ (ap (λ (d : Data). first (body d)) h) in
    let fate : passage_word w.passage ≡ passage_word w'.passage = ap (λ (d : Data). text (first (after (body d)))) h in
    let source_name : from ≡ from' = ap (λ (d : Data). text (first (after (after (body d))))) h in
    let protocols : w.region.protocols ≡ w'.region.protocols = same_range _ _ (ap (λ (d : Data). first (after (after (after (body d))))) h) in
    let rule : w.decision.rule ≡ w'.decision.rule = same_rule c d _ _ (ap (λ (d : Data). first (after (after (after (after (body d)))))) h) in
    let services : passage_services w.passage ≡ passage_services w'.passage =
    same_services c d _ _ (ap (λ (d : Data). first (after (after (after (after (after (body d))))))) h) in
    let source : w.region.source_ports ≡ w'.region.source_ports = same_range _ _ (ap (λ (d : Data). first (after (after (after (after (after (after (body d)))))))) h) in
    let destination_name : to ≡ to' = ap (λ (d : Data). text (first (after (after (after (after (after (after (after (body d)))))))))) h in
    let passage = same_passage w.passage w'.passage fate services in
    let region : w.region ≡ w'.region = λ i. record { protocols = protocols i; source_ports = source i; destination_ports = destination i } in
    λ i. source_name i ++ (codes " > " ++ (destination_name i ++ (codes " " ++ (region_text (region i) ++ (codes " "
    ++ (passage_text (rule i) (passage i) ++ (10 ∷ [])))))))

-- what differs

-- how many members there are
abbrev pub size : Members → ℕ
size no_members = 0
size (member name d ms) = suc (size ms)

-- the first letter of a word
abbrev pub letter : List ℕ → ℕ
letter [] = 0
letter (x ∷ xs) = x

other_size : (d e : Data) → d ≡ e → (m n : ℕ) → size (body d) ≡ m → size (body e) ≡ n → m ≢ n → ⊥
other_size d e h m n p q other = other (sym p ∙ ap (λ (d : Data). size (body d)) h ∙ q)

pub object_says : (c d : Config) (o o' : Object) → object_value c o ≡ object_value d o' → object_text o ≡ object_text o'
unfolding network_value subnet_value port_value service_object_value
object_says c d (Is.Network name) (Is.Network name') h = λ i. codes "network " ++ ap (λ (d : Data). text (first (after (body d)))) h i
object_says c d (Is.Network name) (Is.Subnet network prefix) h = absurd (other_size _ _ h 2 3 refl refl (λ e. cc))
object_says c d (Is.Network name) (Is.Port n network address node) h = absurd (other_size _ _ h 2 6 refl refl (λ e. cc))
object_says c d (Is.Network name) (Is.Service n node) h = absurd (other_size _ _ h 2 4 refl refl (λ e. cc))
object_says c d (Is.Subnet network prefix) (Is.Network name) h = absurd (other_size _ _ h 3 2 refl refl (λ e. cc))
object_says c d (Is.Subnet network prefix) (Is.Subnet network' prefix') h =
    λ i. codes "subnet " ++ (ap (λ (d : Data). text (first (after (body d)))) h i ++ (codes " " ++ ap (λ (d : Data). text (first (after (after (body d))))) h i))
object_says c d (Is.Subnet network prefix) (Is.Port n network' address node) h = absurd (other_size _ _ h 3 6 refl refl (λ e. cc))
object_says c d (Is.Subnet network prefix) (Is.Service n node) h = absurd (other_size _ _ h 3 4 refl refl (λ e. cc))
object_says c d (Is.Port n network address node) (Is.Network name) h = absurd (other_size _ _ h 6 2 refl refl (λ e. cc))
object_says c d (Is.Port n network address node) (Is.Subnet network' prefix) h = absurd (other_size _ _ h 6 3 refl refl (λ e. cc))
object_says c d (Is.Port n network address node) (Is.Port n' network' address' node') h =
    λ i. codes "port " ++ (decimal (ap (λ (d : Data). whole (first (after (body d)))) h i)
    ++ (codes " network " ++ (ap (λ (d : Data). text (first (after (after (after (after (body d))))))) h i
    ++ (codes " address " ++ (ap (λ (d : Data). text (first (body d))) h i
    ++ (codes " node " ++ ap (λ (d : Data). text (first (after (after (after (after (after (body d)))))))) h i))))))
object_says c d (Is.Port n network address node) (Is.Service n' node') h = absurd (other_size _ _ h 6 4 refl refl (λ e. cc))
object_says c d (Is.Service n node) (Is.Network name) h = absurd (other_size _ _ h 4 2 refl refl (λ e. cc))
object_says c d (Is.Service n node) (Is.Subnet network prefix) h = absurd (other_size _ _ h 4 3 refl refl (λ e. cc))
object_says c d (Is.Service n node) (Is.Port n' network address node') h = absurd (other_size _ _ h 4 6 refl refl (λ e. cc))
object_says c d (Is.Service n node) (Is.Service n' node') h =
    λ i. codes "service " ++ (decimal (ap (λ (d : Data). whole (first (body d))) h i)
    ++ (codes " node " ++ ap (λ (d : Data). text (first (after (after (after (body d)))))) h i))

pub went_says : (c d : Config) (o o' : Object) → went_value c o ≡ went_value d o' → went_line o ≡ went_line o'
unfolding went_value went_line
went_says c d o o' h =
    let same = object_says c d o o' (ap (λ (d : Data). first (body d)) h) in
    λ i. codes "went " ++ (same i ++ (10 ∷ []))

pub came_says : (c d : Config) (o o' : Object) → came_value c o ≡ came_value d o' → came_line o ≡ came_line o'
unfolding came_value came_line
came_says c d o o' h =
    let same = object_says c d o o' (ap (λ (d : Data). first (body d)) h) in
    λ i. codes "came " ++ (same i ++ (10 ∷ []))

other_letter : (s t : List ℕ) → s ≡ t → (m n : ℕ) → letter s ≡ m → letter t ≡ n → m ≢ n → ⊥
other_letter s t h m n p q other = other (sym p ∙ ap letter h ∙ q)

no_rule : (c : Config) (r : RuleNo) → rule_value c r ≡ null → ⊥
unfolding rule_value
no_rule c r h = other_size (rule_value c r) null h 3 0 refl refl (λ e. cc)

by_fate : (c d : Config) (f g : Fate) → fate_word f ≡ fate_word g → fate_rule c f ≡ fate_rule d g
    → list_value (service_value c) (fate_services f) ≡ list_value (service_value d) (fate_services g) → fate_text f ≡ fate_text g
by_fate c d (Fates.Passed r) (Fates.Passed s) word rule services = λ i. codes "passed " ++ rule_text (same_rule c d r s rule i)
by_fate c d (Fates.Passed r) (Fates.Through s xs) word rule services = absurd (other_letter _ _ word 112 116 refl refl (λ e. omega (arith, e)))
by_fate c d (Fates.Passed r) (Fates.Denied s) word rule services = absurd (other_letter _ _ word 112 100 refl refl (λ e. omega (arith, e)))
by_fate c d (Fates.Passed r) Fates.Unmatched word rule services = absurd (other_letter _ _ word 112 100 refl refl (λ e. omega (arith, e)))
by_fate c d (Fates.Through r xs) (Fates.Passed s) word rule services = absurd (other_letter _ _ word 116 112 refl refl (λ e. omega (arith, e)))
by_fate c d (Fates.Through r xs) (Fates.Through s ys) word rule services =
    λ i. codes "through " ++ (rule_text (same_rule c d r s rule i) ++ (codes " services " ++ services_text (same_services c d xs ys services i)))
by_fate c d (Fates.Through r xs) (Fates.Denied s) word rule services = absurd (other_letter _ _ word 116 100 refl refl (λ e. omega (arith, e)))
by_fate c d (Fates.Through r xs) Fates.Unmatched word rule services = absurd (other_letter _ _ word 116 100 refl refl (λ e. omega (arith, e)))
by_fate c d (Fates.Denied r) (Fates.Passed s) word rule services = absurd (other_letter _ _ word 100 112 refl refl (λ e. omega (arith, e)))
by_fate c d (Fates.Denied r) (Fates.Through s ys) word rule services = absurd (other_letter _ _ word 100 116 refl refl (λ e. omega (arith, e)))
by_fate c d (Fates.Denied r) (Fates.Denied s) word rule services = λ i. codes "denied " ++ rule_text (same_rule c d r s rule i)
by_fate c d (Fates.Denied r) Fates.Unmatched word rule services = absurd (no_rule c r rule)
by_fate c d Fates.Unmatched (Fates.Passed s) word rule services = absurd (other_letter _ _ word 100 112 refl refl (λ e. omega (arith, e)))
by_fate c d Fates.Unmatched (Fates.Through s ys) word rule services = absurd (other_letter _ _ word 100 116 refl refl (λ e. omega (arith, e)))
by_fate c d Fates.Unmatched (Fates.Denied s) word rule services = absurd (no_rule d s (sym rule))
by_fate c d Fates.Unmatched Fates.Unmatched word rule services = refl

same_fate : (c d : Config) (f g : Fate) → fate_value c f ≡ fate_value d g → fate_text f ≡ fate_text g
unfolding fate_value
same_fate c d f g h =
    by_fate c d f g (ap (λ (d : Data). text (first (body d))) h) (ap (λ (d : Data). first (after (body d))) h) (ap (λ (d : Data). first (after (after (body d)))) h)

-- two differences of one value have one line
pub difference_says : (c d c' d' : Config) (x y : Difference) → difference_value c d x ≡ difference_value c' d' y → difference_line x ≡ difference_line y
unfolding difference_value difference_line
difference_says c d c' d' x y h =
    let becomes : fate_text x.becomes ≡ fate_text y.becomes = same_fate d d' _ _ (ap (λ (d : Data). first (body d)) h) in
    let destination : x.region.destination_ports ≡ y.region.destination_ports = same_range _ _ (ap (λ (d : Data). first (after (body d))) h) in
    let source_name : x.from ≡ y.from = ap (λ (d : Data). text (first (after (after (body d))))) h in
    let protocols : x.region.protocols ≡ y.region.protocols = same_range _ _ (ap (λ (d : Data). first (after (after (after (body d))))) h) in
    let source : x.region.source_ports ≡ y.region.source_ports = same_range _ _ (ap (λ (d : Data). first (after (after (after (after (body d)))))) h) in
    let destination_name : x.to ≡ y.to = ap (λ (d : Data). text (first (after (after (after (after (after (body d)))))))) h in
    let was : fate_text x.was ≡ fate_text y.was = same_fate c c' _ _ (ap (λ (d : Data). first (after (after (after (after (after (after (body d)))))))) h) in
    let region : x.region ≡ y.region = λ i. record { protocols = protocols i; source_ports = source i; destination_ports = destination i } in
    λ i. source_name i ++ (codes " > " ++ (destination_name i ++ (codes " " ++ (region_text (region i) ++ (codes ": " ++ (was i ++ (codes " => "
    ++ (becomes i ++ (10 ∷ [])))))))))

-- what is idle is one where its value is

by_kind : (d e : Data) → d ≡ e → (m n : ℕ) → letter (text (first (body d))) ≡ m → letter (text (first (body e))) ≡ n → m ≢ n → ⊥
by_kind d e h m n p q other = other (sym p ∙ ap (λ (d : Data). letter (text (first (body d)))) h ∙ q)

pub idle_says : (c d : Config) (x y : Idle) → idle_value c x ≡ idle_value d y → x ≡ y
unfolding idle_rule_value idle_policy_value idle_chain_value
idle_says c d (Idles.Rule r before) (Idles.Rule s others) h =
    let rules = same_rule c d r s (ap (λ (d : Data). first (after (after (body d)))) h) in
    let befores = same_list (rule_value c) (rule_value d) (same_rule c d) before others (ap (λ (d : Data). items (first (body d))) h) in
    λ i. Idles.Rule (rules i) (befores i)
idle_says c d (Idles.Rule r before) (Idles.Policy name networks) h = absurd (by_kind _ _ h 0 112 refl refl (λ e. cc))
idle_says c d (Idles.Rule r before) (Idles.Chain name) h = absurd (by_kind _ _ h 0 99 refl refl (λ e. cc))
idle_says c d (Idles.Policy name networks) (Idles.Rule r before) h = absurd (by_kind _ _ h 112 0 refl refl (λ e. cc))
idle_says c d (Idles.Policy name networks) (Idles.Policy name' networks') h =
    λ i. Idles.Policy (ap (λ (d : Data). text (first (after (body d)))) h i) (ap (λ (d : Data). whole (first (after (after (body d))))) h i)
idle_says c d (Idles.Policy name networks) (Idles.Chain name') h = absurd (by_kind _ _ h 112 99 refl refl (λ e. cc))
idle_says c d (Idles.Chain name) (Idles.Rule r before) h = absurd (by_kind _ _ h 99 0 refl refl (λ e. cc))
idle_says c d (Idles.Chain name) (Idles.Policy name' networks) h = absurd (by_kind _ _ h 99 112 refl refl (λ e. cc))
idle_says c d (Idles.Chain name) (Idles.Chain name') h = ap Idles.Chain (ap (λ (d : Data). text (first (after (body d)))) h)
