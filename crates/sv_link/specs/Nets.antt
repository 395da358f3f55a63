-- Pairs of ends, and what settling compares.
use Rattle.std.specs.Prelude.{◌≡◌, ℕ, suc, ◌+◌, ◌<◌, ◌≤◌, Bool, true, nat_lt, if◌then◌else◌, List, [], ◌∷◌, ◌++◌}
use mathlib.Core.List.{IsPrefix}
use Rattle.sv_bytes.specs.Faults.{Rose}
use Rattle.sv_link.specs.Ends.{Told, new_end}
use Rattle.sv_link.specs.declared.side.Side.TheVariants.{Server, Client}
use Rattle.sv_link.specs.declared.nets.Pair.{Pair}
use Rattle.sv_link.specs.declared.nets.Pair.TheVariants.{Made, Failed, Memory}
use Rattle.sv_link.specs.declared.nets.Settle.{Settle}
use Rattle.sv_link.specs.declared.nets.Settle.TheVariants as settle

-- What is kept of a settled pair: the bytes that each end sent and received, whether a read of it answered Ended, and whether it had a
-- fault.
pub record Transcript : Type 0 where
  pub client_sent : List ℕ
  pub client_received : List ℕ
  pub client_ended : Bool
  pub client_faulty : Bool
  pub server_sent : List ℕ
  pub server_received : List ℕ
  pub server_ended : Bool
  pub server_faulty : Bool

-- the transcript of two ends and their counts of faults
abbrev pub transcript_of : Told → ℕ → Told → ℕ → Transcript
transcript_of server server_faults client client_faults =
    record {
      client_sent = client.sent;
      client_received = client.received;
      client_ended = client.ended;
      client_faulty = nat_lt 0 client_faults;
      server_sent = server.sent;
      server_received = server.received;
      server_ended = server.ended;
      server_faulty = nat_lt 0 server_faults;
    }

-- Both ends of a pair as they are when it is settled: what each tells of itself, and its count of faults.
pub record BothEnds : Type 0 where
  pub server : Told
  pub server_faults : ℕ
  pub client : Told
  pub client_faults : ℕ

abbrev pub both_ends : Told → ℕ → Told → ℕ → BothEnds
both_ends server server_faults client client_faults =
    record { server = server; server_faults = server_faults; client = client; client_faults = client_faults }

-- What was received is what the other side sent, or a beginning of it; all of it where a read answered Ended.
pub record Arrived (sent received : List ℕ) (ended : Bool) : Type 0 where
  pub part : IsPrefix received sent
  pub whole : ended ≡ true → received ≡ sent

-- both ways
pub record BothArrived (server client : Told) : Type 0 where
  pub to_server : Arrived client.sent server.received server.ended
  pub to_client : Arrived server.sent client.received client.ended

-- the two ends of one pair of a net that made so many
pub record AreTwoEnds (made : ℕ) (server client : Told) : Type 0 where
  pub same : server.pair ≡ client.pair
  pub made_here : server.pair < made
  pub server_side : server.side ≡ Server
  pub client_side : client.side ≡ Client

-- the faults of two ends that count for the net: none where the session was cut
abbrev pub counted : Bool → ℕ → ℕ → ℕ
counted cut server client = if cut then 0 else server + client

-- Matched: the bytes agree, no fault counts, and the net has the pair's transcript more. Failed: nothing was added.
pub record IsMatched (server : Told) (server_faults : ℕ) (client : Told) (client_faults : ℕ) (cut : Bool) (old new : List Transcript) : Type 0 where
  pub arrived : BothArrived server client
  pub faultless : counted cut server_faults client_faults ≡ 0
  pub added : new ≡ old ++ transcript_of server server_faults client client_faults ∷ []

abbrev pub Settles : Told → ℕ → Told → ℕ → Bool → List Transcript → List Transcript → Settle → Type 0
Settles server server_faults client client_faults cut old new settle.Matched = IsMatched server server_faults client client_faults cut old new
Settles server server_faults client client_faults cut old new settle.Failed = new ≡ old

-- a net lists the pairs that it told as not matched, each with its ends as they were then: here one more, or none
abbrev pub ListsUnmatched : BothEnds → List BothEnds → List BothEnds → Settle → Type 0
ListsUnmatched ends old new settle.Matched = new ≡ old
ListsUnmatched ends old new settle.Failed = new ≡ old ++ ends ∷ []

-- a net's count of faults at an answer of `settle`: the ends' faults count too, but not those of a session that was cut
abbrev pub SettleCause : ℕ → ℕ → ℕ → Settle → Type 0
SettleCause before now counted settle.Matched = now ≡ before
SettleCause before now counted settle.Failed = Rose before now × (before + counted ≤ now)

module _ {E : Type 0} (told : E → Told) (faults : E → ℕ) where
  -- the server's end and then the client's, both new, under the next number
  abbrev pub MakesPair : ℕ → ℕ → Pair E → Type 0
  MakesPair before now (Made server client) =
      (now ≡ suc before)
      × (told server ≡ new_end before Server)
      × (told client ≡ new_end before Client)
      × (faults server ≡ 0)
      × (faults client ≡ 0)
  MakesPair before now Failed = now ≡ before
  MakesPair before now Memory = now ≡ before

module _ {E : Type 0} where
  -- a pair that was made is owed until it is settled
  abbrev pub OwesPair : ℕ → ℕ → Pair E → Type 0
  OwesPair before now (Made server client) = now ≡ suc before
  OwesPair before now Failed = now ≡ before
  OwesPair before now Memory = now ≡ before

  -- a net's count of faults at an answer of `pair`
  abbrev pub PairCause : ℕ → ℕ → Pair E → Type 0
  PairCause before now (Made server client) = now ≡ before
  PairCause before now Failed = Rose before now
  PairCause before now Memory = now ≡ before

-- a calm net gives calm ends, or there is no memory
module _ {E : Type 0} (calm : E → Type 0) where
  abbrev pub IsCalmPair : Pair E → Type 0
  IsCalmPair (Made server client) = calm server × calm client
  IsCalmPair Failed = ⊥
  IsCalmPair Memory = Unit {0}
