-- What may have changed of what sessions are to be told, since they were told last.
use Rattle.std.specs.Prelude.{◌≡◌, ◌≢◌, ◌⊎◌, ◌==◌, ℕ, List, [], map, Bool, if◌then◌else◌, true, false, is_some, refl}
use Rattle.std.specs.declared.option.Option.{Option}
use Rattle.std.specs.declared.option.Option.TheVariants.{Some, None}
use Rattle.std.specs.Coded.{Coded, code_by, coded×, coded_bool, coded_list, coded_option}
use Rattle.std.specs.FinMap.{get}
use Rattle.std.specs.Option.{option_map}
use Rattle.ov_sync.specs.Keyed.{map_of}
use Rattle.ov_types.specs.contracts.keys.DownKey as down_keys
use Rattle.ov_types.specs.contracts.prefix.Addr as addresses
use Rattle.ov_types.specs.contracts.vpn.VpnKey as vpn_keys
use Rattle.ov_types.specs.declared.keys.DownKey.{DownKey}
use Rattle.ov_types.specs.declared.keys.DownKey.TheVariants as down
use Rattle.ov_types.specs.Prefix.{Block}
use Rattle.ov_types.specs.declared.numbers.InstanceId.{InstanceId}
use Rattle.ov_types.specs.declared.keys.UpKey.{UpKey}
use Rattle.ov_types.specs.declared.keys.UpKey.TheVariants as up
use Rattle.ov_types.specs.declared.objects.LowKey.{LowKey}
use Rattle.ov_types.specs.declared.objects.LowKey.TheVariants as key
use Rattle.ov_types.specs.declared.objects.LowValue.{LowValue}
use Rattle.ov_types.specs.declared.prefix.Addr.{Addr}
use Rattle.ov_types.specs.declared.rows.TableRow.{TableRow}
use Rattle.ov_types.specs.declared.vpn.VpnKey.{VpnKey}
use Rattle.vpn_tables.specs.NodeModel.Directions.{down_order}
use Rattle.vpn_tables.specs.NodeModel.Maps.{object}
use Rattle.vpn_tables.specs.NodeModel.Members.{Member}
use Rattle.vpn_tables.specs.NodeModel.Keys.{Key, Low, Row, Subscribe, Vpn, of_down}
use Rattle.vpn_tables.specs.NodeModel.Paths.{Holdings, Told}
use Rattle.vpn_tables.specs.NodeModel.Wants.{wanted_by_peers}
use Rattle.vpn_tables.specs.Listing.{told_in}
use Rattle.vpn_tables.specs.At.{selected_at}
use Rattle.vpn_tables.specs.Followed.{IsFollowed, key_led, led_of}
use Rattle.vpn_tables.specs.TouchedKeys.{key_published}
use Rattle.vpn_tables.specs.declared.changes.Followed.{Followed}
use Rattle.vpn_tables.specs.declared.changes.RowChange.{RowChange}
use Rattle.vpn_tables.specs.Here.{IsListOfPort, IsRowOf, port_here, wanted_on}
use Rattle.control_wants.specs.declared.whom.Whom.{Whom}
use Rattle.control_wants.specs.declared.whom.Whom.TheVariants.{Every, Only, Subscribers}

-- ---- of which agents a key is marked
-- whether an agent subscribed the instance of a row. An object of slices asks for none
abbrev pub is_subscribed : Told → DownKey → Bool
is_subscribed a (down.Slice k) = true
is_subscribed a (down.Route i q) = is_some (get a.map (Subscribe i))

-- whether an agent is among them
abbrev pub is_of : Told → DownKey → Whom → Bool
is_of a x Every = true
is_of a x Subscribers = is_subscribed a x
is_of a x (Only address) = address.0 == a.address.0

abbrev pub is_marked : Told → DownKey → Option Whom → Bool
is_marked a x None = false
is_marked a x (Some whom) = is_of a x whom

-- how they are told apart
abbrev pub whom_code : Whom → Option (Option Addr)
whom_code Every = None
whom_code Subscribers = Some None
whom_code (Only address) = Some (Some address)

abbrev pub whom_of : Option (Option Addr) → Whom
whom_of None = Every
whom_of (Some None) = Subscribers
whom_of (Some (Some address)) = Only address

pub whom_tells : (whom : Whom) → whom_of (whom_code whom) ≡ whom
whom_tells Every = refl
whom_tells Subscribers = refl
whom_tells (Only address) = refl

abbrev pub coded_whom : Coded Whom
coded_whom =
    code_by (Option (Option Addr)) (coded_option (coded_option addresses.the_row.coded)) whom_code whom_of whom_tells

-- ---- marks
-- everything of every session, or everything of the agents at some addresses, some keys of peers, and some of agents
pub record Marks : Type 0 where
  pub all : Bool
  pub addresses : List Addr
  pub routes : List VpnKey
  pub items : List (DownKey × Whom)

-- how they are told apart
abbrev pub coded_marks : Coded Marks
coded_marks =
    code_by (Bool × (List Addr × (List VpnKey × List (DownKey × Whom))))
    (coded× coded_bool (coded× (coded_list addresses.the_row.coded) (coded× (coded_list vpn_keys.the_row.coded) (coded_list (coded× down_keys.the_row.coded coded_whom)))))
    (λ d. (d.all, (d.addresses, (d.routes, d.items))))
    (λ c. record { all = c.0; addresses = c.1.0; routes = c.1.1.0; items = c.1.1.1 }) (λ _. refl)

-- the network of a port, where it is at this address
abbrev pub seen_at : Addr → Option (Addr × InstanceId) → Option InstanceId
seen_at address None = None
seen_at address (Some port) = if port.0.0 == address.0 then Some port.1 else None

-- where an object that may not be there is a port, and of which network
abbrev pub IsPort : Option LowValue → Option (Addr × InstanceId) → Type 0
IsPort object port = (address : Addr) → port_here address object ≡ seen_at address port

-- a key is not marked, of peers, and of an agent
abbrev pub IsCleanRoute : Marks → Key → Type 0
IsCleanRoute d k = Member k (map Vpn d.routes) → ⊥

abbrev pub marked_of : Marks → DownKey → Option Whom
marked_of d key = get (map_of down_order d.items) key

abbrev pub IsCleanItem : Marks → Told → Key → Type 0
IsCleanItem d a k =
    (Member a.address d.addresses → ⊥) × ((x : DownKey) → of_down x ≡ k → is_marked a x (marked_of d x) ≡ false)

-- what is marked there is marked here
pub record IsWithin (d d' : Marks) : Type 0 where
  pub all : d'.all ≡ false → d.all ≡ false
  pub routes : (k : Key) → IsCleanRoute d' k → IsCleanRoute d k
  pub items : (a : Told) (k : Key) → IsCleanItem d' a k → IsCleanItem d a k

-- from the one holdings to the other, what sessions are to be told changes at keys alone that are marked then, and what
-- was marked of an agent still is, whatever it subscribes
pub record Covers (d d' : Marks) (h h' : Holdings) : Type 0 where
  pub addresses : (agent : ℕ) → (told_in h'.agents agent).address ≡ (told_in h.agents agent).address
  pub peers : (k : Key) → IsCleanRoute d' k → get (wanted_by_peers h) k ≡ get (wanted_by_peers h') k
  pub agents : (agent : ℕ) (k : Key) → IsCleanItem d' (told_in h'.agents agent) k
      → get (wanted_on h agent) k ≡ get (wanted_on h' agent) k
  pub kept : (agent : ℕ) (k : Key) → IsCleanItem d' (told_in h'.agents agent) k → IsCleanItem d (told_in h.agents agent) k

abbrev pub Covered : Marks → Marks → Holdings → Holdings → Type 0
Covered d d' h h' = d'.all ≡ false → Covers d d' h h'

-- the rows of an instance with these prefixes are marked of such agents
abbrev pub AreTableRowsMarked : Marks → Whom → InstanceId → List (Block × TableRow) → Type 0
AreTableRowsMarked d whom i rows =
    d.all ≡ false → (q : Block) (r : TableRow) → Member (q, r) rows → (a : Told) → is_of a (down.Route i q) whom ≡ true
    → IsCleanItem d a (Row i q) → ⊥

-- the access lists from a network among these objects are marked
abbrev pub AreListsMarked : Marks → ℕ → List (LowKey × LowValue) → Type 0
AreListsMarked d from objects =
    d.all ≡ false → (to : ℕ) (v : LowValue) → Member (key.Acl from to, v) objects → (a : Told)
    → IsCleanItem d a (Low (key.Acl from to)) → ⊥

-- ---- what changed is marked
-- a key that may not be there is marked of peers
abbrev pub IsKeyMarked : Marks → Option VpnKey → Type 0
IsKeyMarked d key = (k : VpnKey) → key ≡ Some k → IsCleanRoute d (Vpn k) → ⊥

-- two of them are, where something is so
abbrev pub AreKeysMarked : Marks → Type 0 → Option VpnKey → Option VpnKey → Type 0
AreKeysMarked d Differs before after = d.all ≡ false → Differs → IsKeyMarked d before × IsKeyMarked d after

-- the row is marked of those who subscribe it, where another path is selected
abbrev pub IsRowMarked : Marks → RowChange → Type 0
IsRowMarked d c =
    d.all ≡ false → c.before.path ≢ c.after.path → (a : Told) → is_some (get a.map (Subscribe c.instance)) ≡ true
    → IsCleanItem d a (Row c.instance c.prefix) → ⊥

pub record IsChangeMarked (d : Marks) (c : RowChange) : Type 0 where
  pub row : IsRowMarked d c
  pub right : AreKeysMarked d (c.before.led_right ≢ c.after.led_right) (key_led c.before.led_right) (key_led c.after.led_right)
  pub left : AreKeysMarked d (c.before.led_left ≢ c.after.led_left) (key_led c.before.led_left) (key_led c.after.led_left)

abbrev pub AreChangesMarked : Marks → List RowChange → Type 0
AreChangesMarked d cs = (c : RowChange) → Member c cs → IsChangeMarked d c

-- ---- nothing else is marked
-- of peers such keys alone are marked then that were not marked before, and of agents such keys
pub record MarksOnly (OfPeers : Key → Type 0) (OfAgents : Told → Key → Type 0) (d d' : Marks) : Type 0 where
  pub routes : (k : Key) → IsCleanRoute d k → (OfPeers k → ⊥) → IsCleanRoute d' k
  pub items : (a : Told) (k : Key) → IsCleanItem d a k → (OfAgents a k → ⊥) → IsCleanItem d' a k

abbrev pub no_route : Key → Type 0
no_route k = ⊥

abbrev pub no_item : Told → Key → Type 0
no_item a k = ⊥

-- of agents nothing is marked
pub record AreAgentsUnmarked (d : Marks) : Type 0 where
  pub all : d.all ≡ false
  pub addresses : d.addresses ≡ []
  pub items : d.items ≡ []

-- each key that is marked of agents is marked of these
abbrev pub AreAllOf : Marks → Whom → Type 0
AreAllOf d whom = (x : DownKey) (other : Whom) → marked_of d x ≡ Some other → other ≡ whom

-- a row of an instance with one of some prefixes
abbrev pub IsOfTable : InstanceId → List (Block × TableRow) → Told → Key → Type 0
IsOfTable i rows a k = (e : Block × TableRow) × (Member e rows × (k ≡ Row i e.0))

-- a key of an agent at an address: a row that the table of an instance has, where nothing was marked of agents before
abbrev pub IsOfSubscriber : Marks → Holdings → InstanceId → Addr → Told → Key → Type 0
IsOfSubscriber d h i address a k = (a.address ≡ address) × (AreAgentsUnmarked d → IsRowOf h i k)

-- a key of peers that may not be there
abbrev pub IsKey : Option VpnKey → Key → Type 0
IsKey key k = option_map Vpn key ≡ Some k

-- one of two of them, where something is so
abbrev pub IsEither : Type 0 → Option VpnKey → Option VpnKey → Key → Type 0
IsEither Differs before after k = Differs × (IsKey before k ⊎ IsKey after k)

-- the row, where another path is selected
abbrev pub IsRowMoved : RowChange → Told → Key → Type 0
IsRowMoved c a k = (c.before.path ≢ c.after.path) × (k ≡ Row c.instance c.prefix)

-- the key of a route that leads on from an end before a row change or after it, and not both
abbrev pub IsLedMoved : RowChange → Key → Type 0
IsLedMoved c k =
    (right : Bool) × IsEither (led_of right c.before ≢ led_of right c.after) (key_led (led_of right c.before)) (key_led (led_of right c.after)) k

-- of one of some row changes
abbrev pub IsOfLed : List RowChange → Key → Type 0
IsOfLed cs k = (c : RowChange) × (Member c cs × IsLedMoved c k)

abbrev pub IsOfRow : List RowChange → Told → Key → Type 0
IsOfRow cs a k = (c : RowChange) × (Member c cs × IsRowMoved c a k)

-- from the one holdings to the other, another route leads on, of a row from an end, and the key is that of the one or of
-- the other
pub record LedMoves (h h' : Holdings) (k : Key) : Type 0 where
  pub instance : InstanceId
  pub prefix : Block
  pub before : Followed
  pub after : Followed
  pub was : IsFollowed h instance prefix before
  pub is : IsFollowed h' instance prefix after
  pub right : Bool
  pub moved : IsEither (led_of right before ≢ led_of right after) (key_led (led_of right before)) (key_led (led_of right after)) k

-- from the one holdings to the other, another path is selected for the row
pub record RowMoves (h h' : Holdings) (k : Key) : Type 0 where
  pub instance : InstanceId
  pub prefix : Block
  pub key_is : k ≡ Row instance prefix
  pub other : selected_at h instance prefix ≢ selected_at h' instance prefix

-- what a change of a peer's route marks at most
abbrev pub MarksByRoute : VpnKey → Holdings → Holdings → Marks → Marks → Type 0
MarksByRoute own h h' = MarksOnly (λ k. (k ≡ Vpn own) ⊎ LedMoves h h' k) (λ a k. RowMoves h h' k)

-- what is told is a subscription, and the key is one of its agent, at most
pub record IsOfSubscription (d : Marks) (h : Holdings) (session : ℕ) (told : UpKey) (a : Told) (k : Key) : Type 0 where
  pub instance : InstanceId
  pub subscribes : told ≡ up.Subscribe instance
  pub of : IsOfSubscriber d h instance (told_in h.agents session).address a k

-- what a change of what an agent told marks at most
abbrev pub MarksByPublication : ℕ → UpKey → Holdings → Holdings → Marks → Marks → Type 0
MarksByPublication session told h h' d =
    MarksOnly (λ k. IsKey (key_published h session told) k ⊎ LedMoves h h' k) (λ a k. RowMoves h h' k ⊎ IsOfSubscription d h session told a k) d

-- a name is that of an access list from a network among some objects
abbrev pub IsListAmong : ℕ → List (LowKey × LowValue) → Told → Key → Type 0
IsListAmong from objects a k = (e : LowKey × LowValue) × (Member e objects × ((to : ℕ) × ((e.0 ≡ key.Acl from to) × (k ≡ Low e.0))))

-- a held access list of the network of the port that an object is
abbrev pub IsListOf : Holdings → LowKey → Told → Key → Type 0
IsListOf h name a k = (address : Addr) × IsListOfPort h.feed address (object h.feed name) k

-- a row that the table of an instance of this name has
pub record IsRowOfName (h : Holdings) (name : LowKey) (a : Told) (k : Key) : Type 0 where
  pub number : ℕ
  pub named : name ≡ key.Instance number
  pub row : IsRowOf h (record { 0 = number }) k

-- what an object of this name is beside itself
abbrev pub IsBeside : Holdings → LowKey → Told → Key → Type 0
IsBeside h name a k = IsListOf h name a k ⊎ IsRowOfName h name a k

-- what a change of an object marks at most
abbrev pub MarksByObject : LowKey → Holdings → Holdings → Marks → Marks → Type 0
MarksByObject name h h' = MarksOnly no_route (λ a k. (k ≡ Low name) ⊎ (IsBeside h name a k ⊎ IsBeside h' name a k))
