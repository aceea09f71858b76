-- What other sessions are told stays, as an agent comes, or as one goes that published nothing.
use Rattle.std.specs.Prelude.{◌≡◌, ◌+◌, ◌<◌, ◌==◌, ℕ, zero, suc, List, [], ◌∷◌, ◌++◌, length, map, true, false, nat_lt, cond}
use Rattle.std.specs.FinMap.{empty, get}
use Rattle.std.specs.List.{AllByRecursion}
use Rattle.std.proofs.Common.{refl, sym, ◌∙◌, ap, subst, arith, get_or, set, length-set, set-set, inl, inr}
use Rattle.std.proofs.lemmas.Bool.{true≢false, eqb-true}
use Rattle.std.proofs.lemmas.Bool.Decides.{nat_tests}
use Rattle.ov_types.specs.declared.prefix.Addr.{Addr}
use Rattle.ov_types.specs.declared.rows.NodeId.{NodeId}
use Rattle.node_core.specs.NodeModel.Maps.{Map}
use Rattle.node_core.specs.NodeModel.Paths.{Holdings, Told}
use Rattle.node_core.specs.NodeModel.Wants.{wanted_by_agent, wanted_by_peers}
use Rattle.vpn_tables.specs.Changes.{at_session, named, with_agent, with_nothing, without}
use Rattle.vpn_tables.specs.Listing.{told_in}
use Rattle.vpn_tables.proofs.AgentsIndexed.{told_apart}
use Rattle.vpn_tables.specs.NodeLaws.Quiet.{IsWithoutSilent, PublishesNothing, SameButSilent}
use Rattle.vpn_tables.proofs.NodeLaws.Quiet.{silent_by_agent, silent_by_peers, told_nothing}
use Rattle.control_wants.specs.Marks.{IsCleanItem, Marks}
use Rattle.control_node.specs.Ends.{seat, seats}
use Rattle.control_node.specs.Made.{new_agent}
use Rattle.control_node.specs.Planning.{agent_sends}
use Rattle.control_node.specs.Tracking.{AreAgentsTracked, IsAgentTracked, IsPeerTracked, Tracks}
use Rattle.control_node.specs.declared.ends.AgentEnd.{AgentEnd}
use Rattle.control_node.specs.declared.ends.PeerEnd.{PeerEnd}
use Rattle.control_node.proofs.Closed.{emptied-past}
use Rattle.control_node.proofs.Posts.{at_session-there, seated-length}
use Rattle.control_node.proofs.Seated.{named-there, named-seats}

unlike : (m n : ℕ) → (m ≡ n → ⊥) → (m == n) ≡ false
unlike m n away = elim (m == n) as (λ b. (m == n) ≡ b → b ≡ false) [ true ↦ λ t. absurd (away (eqb-true m n t)) | false ↦ λ _. refl ] refl

-- ---- a list of agents without the one at a place
abbrev except : List Told → ℕ → List Told
except [] i = []
except (t ∷ ts) zero = ts
except (t ∷ ts) (suc i) = t ∷ except ts i

itself : (ts : List Told) → IsWithoutSilent ts ts
itself [] = refl
itself (t ∷ ts) = inr (ts, refl, itself ts)

silent_at : (ts : List Told) (i : ℕ) (d : Told) → i < length ts → PublishesNothing (get_or ts i d).map → IsWithoutSilent ts (except ts i)
silent_at [] i d lt silent = absurd (omega (arith, lt))
silent_at (t ∷ ts) zero d lt silent = inl (silent, itself ts)
silent_at (t ∷ ts) (suc i) d lt silent = inr (except ts i, refl, silent_at ts i d (omega (arith, lt)) silent)

silent_set : (ts : List Told) (i : ℕ) (x : Told) → i < length ts → PublishesNothing x.map → IsWithoutSilent (set ts i x) (except ts i)
silent_set [] i x lt silent = absurd (omega (arith, lt))
silent_set (t ∷ ts) zero x lt silent = inl (silent, itself ts)
silent_set (t ∷ ts) (suc i) x lt silent = inr (except ts i, refl, silent_set ts i x (omega (arith, lt)) silent)

-- ---- the agent of a session, among those held
told_there : (ts : List Told) (es : List AgentEnd) (first session i : ℕ) (d : Told) → map seat ts ≡ seats first es
    → session ≡ first + i → i < length es → told_in ts session ≡ get_or ts i d
told_there ts [] first session i d h at lt = absurd (omega (arith, lt))
told_there [] (e ∷ es) first session i d h at lt = cc
told_there (a ∷ ts) (e ∷ es) first session zero d h at lt =
    let is : a.session ≡ first = ap (λ (l : List (ℕ × Addr)). (get_or l 0 (seat a)).0) h in
    let same : (a.session == session) ≡ true = grind (arith, nat_tests) in
    rw same refl
told_there (a ∷ ts) (e ∷ es) first session (suc i) d h at lt =
    let is : a.session ≡ first = ap (λ (l : List (ℕ × Addr)). (get_or l 0 (seat a)).0) h in
    let apart : (a.session == session) ≡ false = grind (arith, nat_tests) in
    let rest : map seat ts ≡ seats (suc first) es = cc in
    rw apart (told_there ts es (suc first) session i d rest (omega (arith, at)) (omega (arith, lt)))

got_set : (ts : List Told) (i : ℕ) (x d : Told) → i < length ts → get_or (set ts i x) i d ≡ x
got_set [] i x d lt = absurd (omega (arith, lt))
got_set (t ∷ ts) zero x d lt = refl
got_set (t ∷ ts) (suc i) x d lt = got_set ts i x d (omega (arith, lt))

-- one that told nothing comes behind all others
silent_behind : (ts : List Told) (es : List AgentEnd) (first session : ℕ) (to : Addr) → map seat ts ≡ seats first es
    → session ≡ first + length es → IsWithoutSilent (named ts session to) ts
silent_behind [] [] first session to h at = inl (told_nothing empty refl, refl)
silent_behind (a ∷ ts) [] first session to h at = cc
silent_behind [] (x ∷ es) first session to h at = cc
silent_behind (a ∷ ts) (x ∷ es) first session to h at =
    let is : a.session ≡ first = ap (λ (l : List (ℕ × Addr)). (get_or l 0 (seat a)).0) h in
    let low : nat_lt a.session session ≡ true = grind (arith, nat_tests) in
    let rest : map seat ts ≡ seats (suc first) es = cc in
    let more : IsWithoutSilent (named ts session to) ts = silent_behind ts es (suc first) session to rest (omega (arith, at)) in
    subst (λ t. IsWithoutSilent (cond t (a ∷ named ts session to) (cond (a.session == session) (record a { address = to } ∷ ts) (with_nothing session to ∷ a ∷ ts))) (a ∷ ts)) (sym low)
    (inr (ts, refl, more))

-- whose session another is stays
named_apart : (ts : List Told) (session : ℕ) (to : Addr) (n : ℕ) → (n ≡ session → ⊥) → told_in (named ts session to) n ≡ told_in ts n
named_apart [] session to n away = ap (λ b. cond b (with_nothing session to) (told_in [] n)) (unlike session n (λ e. away (sym e)))
named_apart (b ∷ ts) session to n away =
    elim (nat_lt b.session session) as (λ t. told_in (cond t (b ∷ named ts session to) (cond (b.session == session) (record b { address = to } ∷ ts) (with_nothing session to ∷ b ∷ ts))) n ≡ told_in (b ∷ ts) n) [
      | true ↦ ap (cond (b.session == n) b) (named_apart ts session to n away)
      | false ↦ elim (b.session == session) as (λ t. (b.session == session) ≡ t → told_in (cond t (record b { address = to } ∷ ts) (with_nothing session to ∷ b ∷ ts)) n ≡ told_in (b ∷ ts) n) [
        | true ↦ λ t.
            let no : (b.session == n) ≡ false = unlike b.session n (λ e. away (sym e ∙ eqb-true b.session session t)) in
            ap (λ t. cond t (record b { address = to }) (told_in ts n)) no ∙ ap (λ t. cond t b (told_in ts n)) (sym no)
        | false ↦ λ _. ap (λ t. cond t (with_nothing session to) (told_in (b ∷ ts) n)) (unlike session n (λ e. away (sym e)))
      ] refl
    ]

-- ---- what every session but one is told stays
record SameBut (h h' : Holdings) (session : ℕ) : Type 0 where
  peers : wanted_by_peers h ≡ wanted_by_peers h'
  agents : (a : Told) → wanted_by_agent h a ≡ wanted_by_agent h' a
  told : (n : ℕ) → (n ≡ session → ⊥) → told_in h'.agents n ≡ told_in h.agents n

module _ (d : Marks) (h h' : Holdings) (session : ℕ) (same : SameBut h h' session) where
  peers_as_before : (es : List PeerEnd) → AllByRecursion (IsPeerTracked d h) es → AllByRecursion (IsPeerTracked d h') es
  peers_as_before [] all = tt
  peers_as_before (e ∷ es) all =
      ((λ sends none k clean. all.0 sends none k clean ∙ ap (λ (m : Map). get m k) same.peers), peers_as_before es all.1)

  agent_as_before : (n : ℕ) (e : AgentEnd) → (n ≡ session → ⊥) → IsAgentTracked d h n e → IsAgentTracked d h' n e
  agent_as_before n e away tracked = λ sends none k clean.
      let told = same.told n away in
      tracked sends none k (subst (λ (a : Told). IsCleanItem d a k) told clean)
      ∙ ap (λ (m : Map). get m k) (same.agents (told_in h.agents n))
      ∙ ap (λ (a : Told). get (wanted_by_agent h' a) k) (sym told)

  silent_end : (n : ℕ) (e : AgentEnd) → agent_sends e ≡ false → IsAgentTracked d h' n e
  silent_end n e idle = λ sends. absurd (true≢false (sym sends ∙ idle))

  agents_behind : (n : ℕ) (es : List AgentEnd) → session < n → AreAgentsTracked d h n es → AreAgentsTracked d h' n es
  agents_behind n [] lt all = tt
  agents_behind n (e ∷ es) lt all = (agent_as_before n e (λ is. omega (arith, lt, is)) all.0, agents_behind (suc n) es (omega (arith, lt)) all.1)

  -- where the end of that session may not send
  agents_but : (n : ℕ) (es : List AgentEnd) (i : ℕ) (e : AgentEnd) → session ≡ n + i → agent_sends e ≡ false → AreAgentsTracked d h n es
      → AreAgentsTracked d h' n (set es i e)
  agents_but n [] i e at idle all = tt
  agents_but n (x ∷ es) zero e at idle all = (silent_end n e idle, agents_behind (suc n) es (omega (arith, at)) all.1)
  agents_but n (x ∷ es) (suc i) e at idle all =
      (agent_as_before n x (λ is. omega (arith, at, is)) all.0, agents_but (suc n) es i e (omega (arith, at)) idle all.1)

  agents_and : (n : ℕ) (es : List AgentEnd) (e : AgentEnd) → session ≡ n + length es → agent_sends e ≡ false → AreAgentsTracked d h n es
      → AreAgentsTracked d h' n (es ++ e ∷ [])
  agents_and n [] e at idle all = (silent_end n e idle, tt)
  agents_and n (x ∷ es) e at idle all =
      (agent_as_before n x (λ is. omega (arith, at, is)) all.0, agents_and (suc n) es e (omega (arith, at)) idle all.1)

  tracks_but : (peers : List PeerEnd) (agents : List AgentEnd) (i : ℕ) (e : AgentEnd) → session ≡ suc (length peers + i) → agent_sends e ≡ false
      → Tracks d h peers agents → Tracks d h' peers (set agents i e)
  tracks_but peers agents i e at idle old all =
      let are = old all in
      record {
        peers_are = peers_as_before peers are.peers_are;
        agents_are = agents_but (1 + length peers) agents i e (omega (arith, at)) idle are.agents_are;
      }

  tracks_and : (peers : List PeerEnd) (agents : List AgentEnd) (e : AgentEnd) → session ≡ suc (length peers + length agents) → agent_sends e ≡ false
      → Tracks d h peers agents → Tracks d h' peers (agents ++ e ∷ [])
  tracks_and peers agents e at idle old all =
      let are = old all in
      record {
        peers_are = peers_as_before peers are.peers_are;
        agents_are = agents_and (1 + length peers) agents e (omega (arith, at)) idle are.agents_are;
      }

-- ---- an agent goes, or another takes its session
same_but : (h k l : Holdings) (session : ℕ) → SameButSilent h l → SameButSilent k l
    → ((n : ℕ) → (n ≡ session → ⊥) → told_in k.agents n ≡ told_in h.agents n) → SameBut h k session
same_but h k l session one two told = record {
  peers = silent_by_peers h l one ∙ sym (silent_by_peers k l two);
  agents = λ a. silent_by_agent h l one a ∙ sym (silent_by_agent k l two a);
  told = told;
}

module _ (h : Holdings) (peers : List PeerEnd) (agents : List AgentEnd) (held : length h.peers ≡ length peers)
    (seated : map seat h.agents ≡ seats (1 + length peers) agents) where
  abbrev nobody : Told
  nobody = with_nothing 0 (record { 0 = 0 })

  gone_at : (i : ℕ) → i < length agents → length h.agents ≡ length agents → PublishesNothing (told_in h.agents (suc (length peers + i))).map
      → SameBut h (without h (suc (length peers + i))) (suc (length peers + i))
  gone_at i lt long silent =
      let session = suc (length peers + i) in
      let first = 1 + length peers in
      let x : Told = record (get_or h.agents i nobody) { map = empty } in
      let past = emptied-past h.peers (length peers + i) (omega (arith, held)) in
      let there : at_session (λ m. empty) h.agents session ≡ set h.agents i x = at_session-there (λ m. empty) h.agents agents first session i nobody seated (omega arith) lt in
      let here = told_there h.agents agents first session i nobody seated (omega arith) lt in
      let short : i < length h.agents = omega (arith, lt, long) in
      let rest : Holdings = record h { agents = except h.agents i } in
      same_but h (without h session) rest session
      (record {
        asn = refl;
        feed = refl;
        peers = refl;
        agents = silent_at h.agents i nobody short (subst (λ (a : Told). PublishesNothing a.map) here silent);
      })
      (record {
        asn = refl;
        feed = refl;
        peers = past;
        agents = subst (λ (ts : List Told). IsWithoutSilent ts (except h.agents i)) (sym there) (silent_set h.agents i x short (told_nothing empty refl));
      })
      (λ n away. told_apart (λ m. empty) h.agents session n away)

  gone : (session i : ℕ) → session ≡ suc (length peers + i) → i < length agents → PublishesNothing (told_in h.agents session).map
      → SameBut h (without h session) session
  gone session i at lt silent =
      subst (λ s. PublishesNothing (told_in h.agents s).map → SameBut h (without h s) s) (sym at)
      (gone_at i lt (seated-length h.agents agents (1 + length peers) seated)) silent

  again_at : (i : ℕ) (agent : NodeId) → i < length agents → length h.agents ≡ length agents
      → PublishesNothing (told_in (named h.agents (suc (length peers + i)) agent.address) (suc (length peers + i))).map
      → SameBut h (without (with_agent h (suc (length peers + i)) agent.address) (suc (length peers + i))) (suc (length peers + i))
  again_at i agent lt long silent =
      let session = suc (length peers + i) in
      let first = 1 + length peers in
      let e = new_agent agent in
      let now = named h.agents session agent.address in
      let one : Told = record (get_or h.agents i nobody) { address = agent.address } in
      let named_now : now ≡ set h.agents i one = named-there h.agents agents first session i nobody agent.address seated (omega arith) lt in
      let seats_now = named-seats h.agents agents first session i e seated (omega arith) lt in
      let wide = length-set agents i e in
      let x : Told = record (get_or now i nobody) { map = empty } in
      let short : i < length h.agents = omega (arith, lt, long) in
      let there : at_session (λ m. empty) now session ≡ set h.agents i x =
      at_session-there (λ m. empty) now (set agents i e) first session i nobody seats_now (omega arith) (omega (arith, wide, lt))
      ∙ ap (λ (ts : List Told). set ts i x) named_now ∙ set-set h.agents i one x in
      let here : told_in now session ≡ one =
      told_there now (set agents i e) first session i nobody seats_now (omega arith) (omega (arith, wide, lt))
      ∙ ap (λ (ts : List Told). get_or ts i nobody) named_now ∙ got_set h.agents i one nobody short in
      let past = emptied-past h.peers (length peers + i) (omega (arith, held)) in
      let rest : Holdings = record h { agents = except h.agents i } in
      same_but h (without (with_agent h session agent.address) session) rest session
      (record {
        asn = refl;
        feed = refl;
        peers = refl;
        agents = silent_at h.agents i nobody short (subst (λ (a : Told). PublishesNothing a.map) here silent);
      })
      (record {
        asn = refl;
        feed = refl;
        peers = past;
        agents = subst (λ (ts : List Told). IsWithoutSilent ts (except h.agents i)) (sym there) (silent_set h.agents i x short (told_nothing empty refl));
      })
      (λ n away. told_apart (λ m. empty) now session n away ∙ named_apart h.agents session agent.address n away)

  again : (session i : ℕ) (agent : NodeId) → session ≡ suc (length peers + i) → i < length agents
      → PublishesNothing (told_in (with_agent h session agent.address).agents session).map
      → SameBut h (without (with_agent h session agent.address) session) session
  again session i agent at lt silent =
      subst (λ s. PublishesNothing (told_in (with_agent h s agent.address).agents s).map → SameBut h (without (with_agent h s agent.address) s) s) (sym at)
      (again_at i agent lt (seated-length h.agents agents (1 + length peers) seated)) silent

  -- ---- one comes behind all others
  behind : (session : ℕ) (to : Addr) → session ≡ suc (length peers + length agents) → SameBut h (with_agent h session to) session
  behind session to at =
      same_but h (with_agent h session to) h session
      (record { asn = refl; feed = refl; peers = refl; agents = itself h.agents })
      (record {
        asn = refl;
        feed = refl;
        peers = refl;
        agents = silent_behind h.agents agents (1 + length peers) session to seated (omega (arith, at));
      })
      (λ n away. named_apart h.agents session to n away)

  -- ---- what was sent on the others stays what is wanted there, but for what is marked
  module _ (d d' : Marks) (old : Tracks d h peers agents) (kept : d'.all ≡ false → d' ≡ d) where
    pub tracks-gone : (session i : ℕ) (e : AgentEnd) (h' : Holdings) → session ≡ suc (length peers + i) → i < length agents
        → agent_sends e ≡ false → h' ≡ without h session → (d'.all ≡ false → PublishesNothing (told_in h.agents session).map)
        → Tracks d' h' peers (set agents i e)
    tracks-gone session i e h' at lt idle by silent = λ all.
        let same = gone session i at lt (silent all) in
        subst (λ (m : Marks). Tracks m h' peers (set agents i e)) (sym (kept all))
        (subst (λ (h' : Holdings). Tracks d h' peers (set agents i e)) (sym by)
        (tracks_but d h (without h session) session same peers agents i e at idle old)) all

    pub tracks-again : (session i : ℕ) (agent : NodeId) (e : AgentEnd) (h' : Holdings) → session ≡ suc (length peers + i) → i < length agents
        → e ≡ new_agent agent → h' ≡ without (with_agent h session agent.address) session
        → (d'.all ≡ false → PublishesNothing (told_in (with_agent h session agent.address).agents session).map)
        → Tracks d' h' peers (set agents i e)
    tracks-again session i agent e h' at lt is by silent = λ all.
        let same = again session i agent at lt (silent all) in
        subst (λ (m : Marks). Tracks m h' peers (set agents i e)) (sym (kept all))
        (subst (λ (h' : Holdings). Tracks d h' peers (set agents i e)) (sym by)
        (tracks_but d h (without (with_agent h session agent.address) session) session same peers agents i e at (ap agent_sends is) old)) all

  pub tracks-behind : (d : Marks) (session : ℕ) (agent : NodeId) (es : List AgentEnd) (h' : Holdings) → Tracks d h peers agents
      → session ≡ suc (length peers + length agents) → es ≡ agents ++ new_agent agent ∷ [] → h' ≡ with_agent h session agent.address
      → Tracks d h' peers es
  tracks-behind d session agent es h' old at is by =
      subst (λ (es : List AgentEnd). Tracks d h' peers es) (sym is)
      (subst (λ (h' : Holdings). Tracks d h' peers (agents ++ new_agent agent ∷ [])) (sym by)
      (tracks_and d h (with_agent h session agent.address) session (behind session agent.address at) peers agents (new_agent agent) at refl old))
