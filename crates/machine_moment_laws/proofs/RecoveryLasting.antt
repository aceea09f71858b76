-- What is back up to a rank stays so at every step of a window, whatever edits go on.
use Rattle.std.specs.Prelude.{◌≡◌, ◌&&◌, ℕ, suc, Bool, List, [], ◌∷◌, not, true, false}
use Rattle.std.proofs.Common.{ap, refl, subst, sym, ◌∙◌}
use Rattle.std.proofs.lemmas.Bool.{and_parts, true≢false}
use Rattle.schedule_script.specs.ConfigCheck.Checked.{Checked}
use Rattle.node_laws.specs.NodeModel.Keys.{key_cmp}
use Rattle.node_laws.specs.NodeModel.Maps.{Map}
use Rattle.node_laws.specs.NodeModel.Members.{Member}
use Rattle.machine_model.specs.Moments.{ArePositive, NodePair, nodes}
use Rattle.machine_model.specs.Network.{sessions_of, view, views_of, wanted}
use Rattle.machine_model.specs.Session.{Agent, Controller, Message, Session, arrived, octets_arrived, passed}
use Rattle.machine_model.specs.Setup.{Name, opening}
use Rattle.machine_model.specs.Steps.{may_connect}
use Rattle.machine_model.proofs.NetworkFact.{opened_nodes, passed_nodes}
use Rattle.machine_model.proofs.NodesFact.{arrived_nodes, octets_nodes}
use Rattle.machine_model.proofs.OvSync.KeyedLaws.{empty_values}
use Rattle.machine_model.proofs.Twins.{each_weaker}
use Rattle.machine_laws.specs.Headline.{IsWritten}
use Rattle.machine_laws.specs.Settling.{Fair, FairMap}
use Rattle.machine_laws.proofs.EachFact.{Keeps}
use Rattle.machine_laws.proofs.FairFact.{fair_keeps}
use Rattle.machine_moment_laws.proofs.Course.{KeepsInWindow}
use Rattle.machine_moment_laws.proofs.Here.{Here, IsAsked, here_edited, lasts, moves_off}
use Rattle.machine_moment_laws.proofs.CommonLasting.{lasts_of, none_of_both}
use Rattle.machine_moment_laws.proofs.Meeting.{MeetsAt, meets_arrived, meets_cleared, meets_octets_arrived, meets_passed, meets_turned}
use Rattle.machine_moment_laws.proofs.OfSome.{some_to}
use Rattle.machine_moment_laws.proofs.Says.{Says, lasting, swap}
use Rattle.machine_moment_laws.proofs.Stays.{HasKeys}
use Rattle.machine_moment_laws.proofs.Stood.{AreStood, stood}
use Rattle.machine_moment_laws.proofs.Exchanges.{IsBack}
use Rattle.machine_moment_laws.proofs.Wanting.{Tells, good_weaker, wants_good}

module _ (b : Checked) (ds : List Checked) (written : (c : Checked) → Member c (b ∷ ds) → IsWritten (opening c)) (size : Name → Message → ℕ) (positive : ArePositive size) (r : ℕ) where
  abbrev cs : List Checked
  cs = b ∷ ds

  -- no setup is asked for, since its wants are shown apart
  fairly : Keeps size (λ x. ⊥) (Fair (some_to cs r)) (λ s m. FairMap (some_to cs r) (s.near.name, s.near.role) (s.far.name, s.far.role) m)
  fairly = fair_keeps (some_to cs r) size (λ x. ⊥) (λ x ss n no_setup f. absurd no_setup)

  truly : Keeps size (λ x. ⊥) (AreStood cs b.topology.asn r) (λ s m. FairMap (stood cs b.topology.asn r) (s.near.name, s.near.role) (s.far.name, s.far.role) m)
  truly = fair_keeps (stood cs b.topology.asn r) size (λ x. ⊥) (λ x ss n no_setup f. absurd no_setup)

  keys_told : (m : Map) (s : Session) → Tells b ds written r s m → lasting b ds written s ≡ true → HasKeys (Says b ds written r) (s.near.name, s.near.role) (s.far.name, s.far.role) m
  keys_told m s h l = let p = and_parts (lasts b ds written s.near.name) (lasts b ds written s.far.name) l in h.0 p.0 p.1

  abbrev MeetsTo : Session → Type 0
  MeetsTo s = lasting b ds written s ≡ true → MeetsAt (Says b ds written r) r size positive (nodes s) s

  -- what keeps the nodes of a session, and what is said on it
  met_where : (s t : Session) → nodes t ≡ nodes s → (lasting b ds written s ≡ true → MeetsAt (Says b ds written r) r size positive (nodes s) s → MeetsAt (Says b ds written r) r size positive (nodes s) t) → MeetsTo s → MeetsTo t
  met_where s t same h m = λ l.
      let k : lasting b ds written s ≡ true = sym (ap (lasts_of b ds written) same) ∙ l in
      subst (λ (p : NodePair). MeetsAt (Says b ds written r) r size positive p t) (sym same) (h k (m k))

  down_is_off : (s : Session) → MeetsTo s → may_connect s ≡ true → lasting b ds written s ≡ false
  down_is_off s m may = by (lasting b ds written s) refl
    where
      by : (c : Bool) → lasting b ds written s ≡ c → c ≡ false
      by false e = refl
      by true e = absurd (true≢false (sym (and_parts s.is_down (not s.near.notice && not s.far.notice) may).0 ∙ (m e).0.0.whole))

  pub keeps : KeepsInWindow size (lasts b ds written) (Here b ds written) (IsAsked b ds written) (IsBack b ds written size positive r) (Tells b ds written r)
  keeps = record {
    both = λ s f. (
      (λ l. meets_turned (Says b ds written r) r size positive (nodes s) s (f.0 (swap (lasts b ds written s.far.name) (lasts b ds written s.near.name) l))),
      (fairly.both s f.1.0, truly.both s f.1.1),
    );
    begins = λ x c n off. (
      (λ l. absurd (true≢false (sym l ∙ none_of_both (lasts b ds written n.name) (lasts b ds written c.name) off))),
      (
        record { near_held = empty_values key_cmp (some_to cs r (n.name, Agent) (c.name, Controller)); far_held = empty_values key_cmp (some_to cs r (c.name, Controller) (n.name, Agent)); near_flight = tt; far_flight = tt },
        record { near_held = empty_values key_cmp (stood cs b.topology.asn r (n.name, Agent) (c.name, Controller)); far_held = empty_values key_cmp (stood cs b.topology.asn r (c.name, Controller) (n.name, Agent)); near_flight = tt; far_flight = tt },
      ),
    );
    arrives = λ s f. (met_where s (arrived s) (arrived_nodes s) (λ l. meets_arrived (Says b ds written r) r size positive (nodes s) s) f.0, (fairly.arrives s f.1.0, truly.arrives s f.1.1));
    octets = λ n s f. (met_where s (octets_arrived size n s) (octets_nodes size n s) (λ l. meets_octets_arrived (Says b ds written r) r size positive (nodes s) n s) f.0, (fairly.octets n s f.1.0, truly.octets n s f.1.1));
    passes = λ m s h f. (
      met_where s (passed m s) (passed_nodes m s) (λ l. meets_passed (Says b ds written r) r size positive (nodes s) m s (keys_told m s h l)) f.0,
      (fairly.passes m s h.1.0 f.1.0, truly.passes m s h.1.1 f.1.1),
    );
    off = λ s f may. down_is_off s f.0 may;
    opens = λ s off f. ((λ l. absurd (true≢false (sym l ∙ ap (lasts_of b ds written) (opened_nodes s) ∙ off))), (fairly.opens s f.1.0, truly.opens s f.1.1));
    clears = λ s f. ((λ l. meets_cleared (Says b ds written r) r size positive (nodes s) s (f.0 l)), (fairly.breaks [] [] s f.1.0, truly.breaks [] [] s f.1.1));
    wants = λ x ss n h e.
        each_weaker (λ s. Tells b ds written (suc r) s (wanted x (views_of n ss) (view s))) (λ s. Tells b ds written r s (wanted x (views_of n ss) (view s)))
        (λ s g. good_weaker b ds written r (s.near.name, s.near.role) (s.far.name, s.far.role) (wanted x (views_of n ss) (view s)) g) (sessions_of n ss) (wants_good b ds written size positive r x ss h e n);
    here = λ w d y h is ok. here_edited b ds written w d y h is ok;
    moves_off = λ w d y h is ok m e n now. moves_off b ds written w d y h is ok m e n now;
  }
