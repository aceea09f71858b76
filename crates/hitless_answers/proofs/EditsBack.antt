-- The JSON of what is said of edits: its text reads as it, and what it says can be told from it.
use Rattle.std.proofs.Common.{◌≡◌, ◌∙◌, ◌==◌, ◌&&◌, ◌<◌, ◌^◌, ℕ, suc, true, cond, IsTrue, List, [], ◌∷◌, ◌++◌, length, codes, decimal, nat_le, IsUtf8, refl, sym, ap, arith}
use Rattle.std.proofs.lemmas.Bool.{and_parts}
use Rattle.serde_json.specs.Data.{Data, string}
use Rattle.ov_types.specs.declared.numbers.PortNo.{PortNo}
use Rattle.config_types.specs.Form.{has_config_form}
use Rattle.config_types.specs.declared.config.Config.{Config}
use Rattle.schedule_script.specs.declared.edits.TiedFault.{TiedFault}
use Rattle.hitless_cells.specs.declared.course.Course.{Course}
use Rattle.hitless_cells.specs.declared.course.Course.TheVariants.{Inside, Passing, Through}
use Rattle.hitless_cells.specs.declared.lines.Difference.{Difference}
use Rattle.hitless_cells.specs.declared.lines.Difference.TheVariants as Is
use Rattle.hitless_cells.specs.declared.lines.Interruption.{Interruption}
use Rattle.inspect_json.specs.Form.{IsReadBack}
use Rattle.inspect_json.specs.OutcomeValues.{port_number_value}
use Rattle.inspect_json.proofs.Fit.{IsFit, is_read_back}
use Rattle.inspect_json.proofs.ReadBack.{port_number, small, word}
use Rattle.inspect_json.proofs.SameSaid.{after, body, first, text, whole}
use Rattle.hitless_answers.specs.EditValues.{count_value, course_use, course_value, course_word, difference_word, has_course_size, has_other_port_size, has_packet_size, other_port_value, packet_value, refused_value}
use Rattle.hitless_answers.specs.Lines.{course_text, difference_text, packet_line, refused_line, tied_fault_text, tuple_text}

-- the text reads as the value

course_words : (course : Course) → IsUtf8 (course_word course)
course_words Inside = word (codes "inside") refl
course_words Passing = word (codes "pass") refl
course_words (Through use_no mirrored) = word (codes "use") refl

course_uses : (k : ℕ) (course : Course) → has_course_size course ≡ true → IsFit k (course_use course)
course_uses k Inside h = tt
course_uses k Passing h = tt
course_uses k (Through use_no mirrored) h = small use_no h

course : (k : ℕ) (x : Course) → has_course_size x ≡ true → IsFit (suc k) (course_value x)
unfolding course_value
course k x h = ((word (codes "use") refl, course_uses k x h, (word (codes "way") refl, course_words x, tt)), refl)

difference_words : (x : Difference) → IsUtf8 (difference_word x)
difference_words Is.NotOfferedBefore = word (codes "not offered before") refl
difference_words Is.NotOfferedAfter = word (codes "not offered after") refl
difference_words Is.Network = word (codes "network") refl
difference_words Is.Node = word (codes "node") refl
difference_words Is.Services = word (codes "services") refl
difference_words Is.Subnet = word (codes "subnet") refl
difference_words Is.ControlNodes = word (codes "control nodes") refl
difference_words (Is.AnotherPort after) = word (codes "another port") refl

other_port : (k : ℕ) (c : Config) (x : Difference) → has_config_form c ≡ true → has_other_port_size x ≡ true → IsFit (suc k) (other_port_value c x)
other_port k c Is.NotOfferedBefore form h = tt
other_port k c Is.NotOfferedAfter form h = tt
other_port k c Is.Network form h = tt
other_port k c Is.Node form h = tt
other_port k c Is.Services form h = tt
other_port k c Is.Subnet form h = tt
other_port k c Is.ControlNodes form h = tt
other_port k c (Is.AnotherPort after) form h = port_number k c after form h

pub packet_reads : (c : Config) (n : ℕ) (l : Interruption) → IsTrue (has_config_form c) → n < 2 ^ 64 → IsTrue (has_packet_size l)
    → IsReadBack (packet_value c n l)
unfolding packet_value
packet_reads c n l form few h =
    let other = and_parts (nat_le l.from.0 0xffff_ffff && nat_le l.to.0 0xffff_ffff && nat_le l.tuple.proto 65535 && nat_le l.tuple.sport 65535
    && nat_le l.tuple.dport 65535 && has_course_size l.was && has_course_size l.becomes) (has_other_port_size l.difference) h in
    let becomes = and_parts (nat_le l.from.0 0xffff_ffff && nat_le l.to.0 0xffff_ffff && nat_le l.tuple.proto 65535 && nat_le l.tuple.sport 65535
    && nat_le l.tuple.dport 65535 && has_course_size l.was) (has_course_size l.becomes) other.0 in
    let was = and_parts (nat_le l.from.0 0xffff_ffff && nat_le l.to.0 0xffff_ffff && nat_le l.tuple.proto 65535 && nat_le l.tuple.sport 65535
    && nat_le l.tuple.dport 65535) (has_course_size l.was) becomes.0 in
    let dport = and_parts (nat_le l.from.0 0xffff_ffff && nat_le l.to.0 0xffff_ffff && nat_le l.tuple.proto 65535 && nat_le l.tuple.sport 65535)
    (nat_le l.tuple.dport 65535) was.0 in
    let sport = and_parts (nat_le l.from.0 0xffff_ffff && nat_le l.to.0 0xffff_ffff && nat_le l.tuple.proto 65535) (nat_le l.tuple.sport 65535) dport.0 in
    let proto = and_parts (nat_le l.from.0 0xffff_ffff && nat_le l.to.0 0xffff_ffff) (nat_le l.tuple.proto 65535) sport.0 in
    let ports = and_parts (nat_le l.from.0 0xffff_ffff) (nat_le l.to.0 0xffff_ffff) proto.0 in
    is_read_back 3 (packet_value c n l) (
      (
        word (codes "becomes") refl,
        course 1 l.becomes becomes.1,
        (
          word (codes "difference") refl,
          difference_words l.difference,
          (
            word (codes "dport") refl,
            small l.tuple.dport dport.1,
            (
              word (codes "edit") refl,
              few,
              (
                word (codes "from") refl,
                port_number 1 c l.from form ports.0,
                (
                  word (codes "other_port") refl,
                  other_port 1 c l.difference form other.1,
                  (
                    word (codes "protocol") refl,
                    small l.tuple.proto proto.1,
                    (
                      word (codes "sport") refl,
                      small l.tuple.sport sport.1,
                      (
                        word (codes "to") refl,
                        port_number 1 c l.to form ports.1,
                        (word (codes "was") refl, course 1 l.was was.1, tt),
                      ),
                    ),
                  ),
                ),
              ),
            ),
          ),
        ),
      ),
      refl,
    ) (omega arith)

pub refused_reads : (n : ℕ) (fault : TiedFault) → n < 2 ^ 64 → IsUtf8 (tied_fault_text fault) → IsReadBack (refused_value n fault)
unfolding refused_value
refused_reads n fault few h =
    is_read_back 1 (refused_value n fault) ((word (codes "edit") refl, few, (word (codes "refused") refl, h, tt)), refl) (omega arith)

pub count_reads : (n count : ℕ) → n < 2 ^ 64 → count < 2 ^ 64 → IsReadBack (count_value n count)
unfolding count_value
count_reads n count few h =
    is_read_back 1 (count_value n count) ((word (codes "edit") refl, few, (word (codes "interrupts") refl, h, tt)), refl) (omega arith)

-- what a value says

-- the text of a way, and of what differs, by the parts of a value
abbrev course_said : List ℕ → ℕ → List ℕ
course_said way use_no = cond (length way == 3) (codes "use " ++ decimal use_no) way

course_back : (x : Course) → course_said (text (first (after (body (course_value x))))) (whole (first (body (course_value x)))) ≡ course_text x
unfolding course_value
course_back Inside = refl
course_back Passing = refl
course_back (Through use_no mirrored) = refl

same_course : (x y : Course) → course_value x ≡ course_value y → course_text x ≡ course_text y
same_course x y h =
    sym (course_back x) ∙ ap (λ (d : Data). course_said (text (first (after (body d)))) (whole (first (body d)))) h ∙ course_back y

abbrev difference_said : List ℕ → ℕ → List ℕ
difference_said differs port = cond (length differs == 12) (codes "another port " ++ decimal port) differs

difference_back : (c : Config) (x : Difference) → difference_said (difference_word x) (whole (first (body (other_port_value c x)))) ≡ difference_text x
unfolding port_number_value
difference_back c Is.NotOfferedBefore = refl
difference_back c Is.NotOfferedAfter = refl
difference_back c Is.Network = refl
difference_back c Is.Node = refl
difference_back c Is.Services = refl
difference_back c Is.Subnet = refl
difference_back c Is.ControlNodes = refl
difference_back c (Is.AnotherPort after) = refl

same_difference : (c d : Config) (x y : Difference) → difference_word x ≡ difference_word y → other_port_value c x ≡ other_port_value d y
    → difference_text x ≡ difference_text y
same_difference c d x y differs port =
    sym (difference_back c x) ∙ (λ i. difference_said (differs i) (whole (first (body (port i))))) ∙ difference_back d y

same_port : (c d : Config) (p q : PortNo) → port_number_value c p ≡ port_number_value d q → p.0 ≡ q.0
unfolding port_number_value
same_port c d p q h = ap (λ (d : Data). whole (first (body d))) h

-- two packets of one value have one line
pub packet_says : (c d : Config) (n m : ℕ) (l k : Interruption) → packet_value c n l ≡ packet_value d m k → packet_line n l ≡ packet_line m k
unfolding packet_value packet_line
packet_says c d n m l k h =
    let becomes = same_course l.becomes k.becomes (ap (λ (d : Data). first (body d)) h) in
    let dport : l.tuple.dport ≡ k.tuple.dport = ap (λ (d : Data). whole (first (after (after (body d))))) h in
    let number : n ≡ m = ap (λ (d : Data). whole (first (after (after (after (body d)))))) h in
    let from = same_port c d l.from k.from (ap (λ (d : Data). first (after (after (after (after (body d)))))) h) in
    let differs = same_difference c d l.difference k.difference (ap (λ (d : Data). text (first (after (body d)))) h)
    (ap (λ (d : Data). first (after (after (after (after (after (body d))))))) h) in
    let proto : l.tuple.proto ≡ k.tuple.proto = ap (λ (d : Data). whole (first (after (after (after (after (after (after (body d))))))))) h in
    let sport : l.tuple.sport ≡ k.tuple.sport = ap (λ (d : Data). whole (first (after (after (after (after (after (after (after (body d)))))))))) h in
    let to = same_port c d l.to k.to (ap (λ (d : Data). first (after (after (after (after (after (after (after (after (body d)))))))))) h) in
    let was = same_course l.was k.was (ap (λ (d : Data). first (after (after (after (after (after (after (after (after (after (body d))))))))))) h) in
    λ i. decimal (number i) ++ (codes " from " ++ (decimal (from i) ++ (codes " to " ++ (decimal (to i) ++ (codes " tuple "
    ++ (tuple_text (record { proto = proto i; sport = sport i; dport = dport i })
    ++ (codes " was " ++ ((was i ++ (codes " is " ++ (becomes i ++ (codes ": " ++ differs i)))) ++ (10 ∷ [])))))))))

pub refused_says : (n m : ℕ) (f g : TiedFault) → refused_value n f ≡ refused_value m g → refused_line n f ≡ refused_line m g
unfolding refused_value refused_line
refused_says n m f g h =
    let number : n ≡ m = ap (λ (d : Data). whole (first (body d))) h in
    let fault : tied_fault_text f ≡ tied_fault_text g = ap (λ (d : Data). text (first (after (body d)))) h in
    λ i. decimal (number i) ++ (codes " refused " ++ (fault i ++ (10 ∷ [])))

pub count_says : (n m j k : ℕ) → count_value n j ≡ count_value m k → (n ≡ m) × (j ≡ k)
unfolding count_value
count_says n m j k h = (ap (λ (d : Data). whole (first (body d))) h, ap (λ (d : Data). whole (first (after (body d)))) h)
