-- Spellings, read again.
use Rattle.std.proofs.Common.{◌≡◌, ◌≢◌, ◌≤◌, ◌<◌, ◌^◌, ℕ, ◌+◌, List, [], ◌∷◌, length, refl, sym, ap, subst, arith, Bool, true, false, cond, nat_le}
use Rattle.std.specs.List.{AllByRecursion}
use Rattle.std.proofs.lemmas.Bool.{leb-true}
use Rattle.std.proofs.lemmas.List.{length-append}
use Rattle.std.proofs.Math.Seq.{take-append_seam}
use Rattle.bgp_wire.specs.declared.kind.MessageKind.TheVariants.{Open, Update, Notification, Keepalive}
use Rattle.bgp_wire.specs.declared.write.OpenOut.{OpenOut}
use Rattle.bgp_wire.specs.Content.{Content, Opens, Updates, Notifies, KeepsAlive}
use Rattle.bgp_wire.specs.Frames.{least, greatest}
use Rattle.bgp_wire.specs.Messages.{IsMessage}
use Rattle.bgp_wire.specs.Opens.{IsCapability, open_octets}
use Rattle.bgp_wire.specs.Spelling.{spelling, IsReadAgain, vpn_capability, four_octet_capability, my_as_of, open_fields, attributes_alone}
use Rattle.bgp_wire.specs.Updates.{update_octets}

pub notification_says : (code subcode : ℕ) → IsMessage (spelling (Notifies code subcode)) (Notifies code subcode)
notification_says code subcode = record {
  kind = Notification;
  body = code ∷ subcode ∷ [];
  frame = record { spelled = refl; least_length = omega arith; greatest_length = omega arith };
  says = (refl, ([], refl));
}

pub keepalive_says : IsMessage (spelling KeepsAlive) KeepsAlive
keepalive_says = record {
  kind = Keepalive;
  body = [];
  frame = record { spelled = refl; least_length = omega arith; greatest_length = omega arith };
  says = (refl, refl);
}

-- what octets say, its spelling says
pub said_again : (octets : List ℕ) (content : Content) → IsMessage octets content → IsMessage (spelling content) content
said_again octets (Opens fields) m =
    let lengths = ap length m.says.1.spelled in
    let least = ap least m.says.0 in
    let greatest = ap greatest m.says.0 in
    record {
      kind = Open;
      body = open_octets fields;
      frame = record { spelled = refl; least_length = omega (arith, m.frame.least_length, lengths, least); greatest_length = omega (arith, m.frame.greatest_length, lengths, greatest) };
      says = (refl, record { spelled = refl; my_as = m.says.1.my_as; hold = m.says.1.hold; id = m.says.1.id; hold_time = m.says.1.hold_time; identifier = m.says.1.identifier; parameters = m.says.1.parameters });
    }
said_again octets (Updates parts) m =
    let lengths = ap length m.says.1.spelled in
    let least = ap least m.says.0 in
    let greatest = ap greatest m.says.0 in
    record {
      kind = Update;
      body = update_octets parts;
      frame = record { spelled = refl; least_length = omega (arith, m.frame.least_length, lengths, least); greatest_length = omega (arith, m.frame.greatest_length, lengths, greatest) };
      says = (refl, record { spelled = refl; withdrawn_length = m.says.1.withdrawn_length; attributes_length = m.says.1.attributes_length });
    }
said_again octets (Notifies code subcode) m = notification_says code subcode
said_again octets KeepsAlive m = keepalive_says

pub read_again : (content : Content) → IsMessage (spelling content) content → IsReadAgain content
read_again content m more = record {
  within = omega (arith, length-append (spelling content) more);
  message = subst (λ (octets : List ℕ). IsMessage octets content) (sym (take-append_seam (spelling content) more)) m;
}

capabilities : (asn : ℕ) → AllByRecursion IsCapability (vpn_capability ∷ four_octet_capability asn ∷ [])
capabilities asn = (λ _. refl, (λ _. refl, tt))

-- My Autonomous System has room
small_of : (asn : ℕ) (b : Bool) → nat_le asn 65535 ≡ b → cond b asn 23456 < 65536
small_of asn true is = let low = leb-true asn 65535 is in omega arith
small_of asn false is = omega arith

my_as_small : (asn : ℕ) → my_as_of asn < 65536
my_as_small asn = small_of asn (nat_le asn 65535) refl

pub open_says : (part : OpenOut) → part.id.0 < 2 ^ 32 → part.id.0 ≢ 0 → IsMessage (spelling (Opens (open_fields part))) (Opens (open_fields part))
open_says part id some = record {
  kind = Open;
  body = open_octets (open_fields part);
  frame = record { spelled = refl; least_length = omega arith; greatest_length = omega arith };
  says = (refl, record { spelled = refl; my_as = my_as_small part.asn; hold = omega arith; id = id; hold_time = (λ e. absurd (omega (arith, e)), λ e. absurd (omega (arith, e))); identifier = some; parameters = (capabilities part.asn, tt) });
}

pub attributes_say : (attributes : List ℕ) → 23 + length attributes ≤ 4096 → IsMessage (spelling (Updates (attributes_alone attributes))) (Updates (attributes_alone attributes))
attributes_say attributes short = record {
  kind = Update;
  body = update_octets (attributes_alone attributes);
  frame = record { spelled = refl; least_length = omega arith; greatest_length = omega (arith, short, length-append attributes []) };
  says = (refl, record { spelled = refl; withdrawn_length = omega arith; attributes_length = omega (arith, short) });
}
