-- What the words of a call ask for.
use Rattle.std.specs.Prelude.{◌≡◌, ℕ, ◌*◌, Bool, true, false, List, [], ◌∷◌, ◌++◌, map, Option, Some, None, option_map, option_and_then, codes, if◌then◌else◌}
use Rattle.std.specs.Str.{bytes_eq}
use Rattle.std.specs.Borrow.{Bor}
use Rattle.std.specs.Option.{option_copied}
use Rattle.std.specs.Net.Addr.{IsLoopbackV4, IsLoopbackV6, MatchIp}
use Rattle.std.specs.Net.Grammar.{IsSocketText}
use Rattle.std.specs.Net.Socket.{socket_ip}
use Rattle.std.specs.declared.net.socket_addr.SocketAddr.{SocketAddr}
use Rattle.sv_ending.specs.Numbers.{number_between}
use Rattle.sv_host.specs.declared.options.Options.{Options}

-- A world file, the folder of its log, and how they are to be served. Times are in milliseconds.
pub record Asked : Type 0 where
  pub world : List ℕ
  pub folder : List ℕ
  pub at : List ℕ
  pub site : Option (List ℕ)
  pub keys : Option (List ℕ)
  pub origins : List (List ℕ)
  pub idle : ℕ
  pub report_within : ℕ
  pub has_steward : Bool
  pub syncs : Bool
  pub state_every : ℕ
  pub stops : Bool

abbrev pub asked_by : Options → Asked
asked_by o = record {
  world = o.world.now;
  folder = o.folder.now;
  at = o.at.now;
  site = option_copied o.site;
  keys = option_copied o.keys;
  origins = map (λ (text : Bor (List ℕ)). text.now) o.origins.items;
  idle = o.idle;
  report_within = o.report_within;
  has_steward = o.has_steward;
  syncs = o.syncs;
  state_every = o.state_every;
  stops = o.stops;
}

-- What is asked for where there is no option.
abbrev pub plain : List ℕ → List ℕ → Asked
plain world folder = record {
  world = world;
  folder = folder;
  at = codes "127.0.0.1:4000";
  site = None;
  keys = None;
  origins = [];
  idle = 60000;
  report_within = 250;
  has_steward = true;
  syncs = true;
  state_every = 1000000;
  stops = false;
}

-- ---- Options

-- A word that is an option by itself.
unfoldable pub flagged : List ℕ → Asked → Option Asked
flagged word asked = if bytes_eq word (codes "--no-steward") then Some (record asked { has_steward = false })
    else (if bytes_eq word (codes "--stdin") then Some (record asked { stops = true }) else None)

-- An option that names something.
unfoldable pub named : List ℕ → List ℕ → Asked → Option Asked
named word value asked = if bytes_eq word (codes "--at") then Some (record asked { at = value })
    else (if bytes_eq word (codes "--site") then Some (record asked { site = Some value })
    else (if bytes_eq word (codes "--keys") then Some (record asked { keys = Some value })
    else (if bytes_eq word (codes "--origin") then Some (record asked { origins = asked.origins ++ value ∷ [] }) else None)))

-- Whether lines are synced before replies are sent.
unfoldable pub syncs_by : List ℕ → Option Bool
syncs_by value = if bytes_eq value (codes "batch") then Some true else (if bytes_eq value (codes "none") then Some false else None)

-- An option with a number, or with a word of its own.
unfoldable pub measured : List ℕ → List ℕ → Asked → Option Asked
measured word value asked = if bytes_eq word (codes "--idle") then option_map (λ seconds. record asked { idle = seconds * 1000 }) (number_between 1 1000000 value)
    else (if bytes_eq word (codes "--report-within") then option_map (λ time. record asked { report_within = time }) (number_between 0 1000000 value)
    else (if bytes_eq word (codes "--state-every") then option_map (λ entries. record asked { state_every = entries }) (number_between 1 4000000000 value)
    else (if bytes_eq word (codes "--sync") then option_map (λ synced. record asked { syncs = synced }) (syncs_by value) else None)))

-- the first that there is
abbrev pub or_else : Option Asked → Option Asked → Option Asked
or_else (Some asked) other = Some asked
or_else None other = other

-- what is asked for behind an option by itself, or else behind one with a value
abbrev pub passed : Option Asked → (Asked → Option Asked) → Option Asked → Option Asked
passed (Some asked) alone valued = alone asked
passed None alone valued = valued

-- What is asked for once these words are taken, one option behind the other: nothing where one of them is none.
abbrev pub taken : List (List ℕ) → Asked → Option Asked
taken [] asked = Some asked
taken (word ∷ []) asked = flagged word asked
taken (word ∷ value ∷ words) asked = passed (flagged word asked) (taken (value ∷ words))
    (option_and_then (taken words) (or_else (named word value asked) (measured word value asked)))

-- ---- The whole call

-- A text is an address with a port.
pub record IsAddress (text : List ℕ) : Type 0 where
  pub address : SocketAddr
  pub spelled : IsSocketText text address

-- A text is an address of this machine alone.
pub record IsLocal (text : List ℕ) : Type 0 where
  pub address : SocketAddr
  pub spelled : IsSocketText text address
  pub loops : MatchIp (socket_ip address) IsLoopbackV4 IsLoopbackV6

-- `host WORLD DIR`, and options behind. All other words ask for nothing.
abbrev pub asked_of : List (List ℕ) → Option Asked
asked_of (word ∷ world ∷ folder ∷ words) = if bytes_eq word (codes "host") then taken words (plain world folder) else None
asked_of _ = None

-- The words ask for this, at an address.
pub record Ask (words : List (List ℕ)) (asked : Asked) : Type 0 where
  pub asked_is : asked_of words ≡ Some asked
  pub address : IsAddress asked.at

-- The words ask for nothing, or for no address.
abbrev pub AsksNothing : List (List ℕ) → Type 0
AsksNothing words = (asked : Asked) → ¬ Ask words asked
