-- Nets and ends in memory: their lists of calls that fail.
use Rattle.std.specs.Prelude.{◌≡◌, ◌≢◌, ℕ, ◌-◌, ◌^◌, ◌≤◌, ◌⊎◌, List, [], Contains}
use Rattle.sv_bytes.specs.Plans.{next_call}
use Rattle.sv_bytes.specs.declared.plan.CallPlan.{CallPlan}
use Rattle.sv_link.specs.Books.{IsNewBook}
use Rattle.sv_link.specs.Ends.{Told}
use Rattle.sv_link.specs.Logs.{told_of}
use Rattle.sv_link.specs.Nets.{Transcript, BothEnds}
use Rattle.sv_link.specs.Unmatched.{unmatched_in}
use Rattle.sv_link.specs.declared.book.Book.{Book}
use Rattle.sv_link.specs.declared.ends.EndRead.{EndRead}
use Rattle.sv_link.specs.declared.ends.EndRead.TheVariants as read
use Rattle.sv_link.specs.declared.ends.EndWrote.{EndWrote}
use Rattle.sv_link.specs.declared.ends.EndWrote.TheVariants as wrote
use Rattle.sv_link.specs.declared.nets.Pair.{Pair}
use Rattle.sv_link.specs.declared.nets.Pair.TheVariants as pair
use Rattle.sv_link.specs.declared.pipe_end.PipeEnd.{PipeEnd}
use Rattle.sv_link.specs.declared.pipe_net.PipeNet.{PipeNet}

-- one call more was counted
pub record CountsCall (old new : CallPlan) : Type 0 where
  pub made : new.made ≡ next_call old.made
  pub failing : new.failing ≡ old.failing
  pub step : new.step ≡ old.step

-- the call that was counted last is one that fails
abbrev pub IsListed : CallPlan → Type 0
IsListed plan = Contains plan.failing.items plan.made

-- the same list and step, for an object that made no call yet
pub record IsCopied (plan copy : CallPlan) : Type 0 where
  pub failing : copy.failing.items ≡ plan.failing.items
  pub made : copy.made ≡ 0
  pub step : copy.step ≡ plan.step

-- a read gave no more bytes than these
abbrev pub EndGotAtMost : ℕ → EndRead → Type 0
EndGotAtMost most (read.Got n) = n ≤ most
EndGotAtMost most _ = Unit {0}

-- a write that took any took just so many bytes
abbrev pub EndTookJust : ℕ → EndWrote → Type 0
EndTookJust count (wrote.Took n) = n ≡ count
EndTookJust count _ = Unit {0}

-- one of two ends received a byte
abbrev pub SomeReceived : Told → Told → Type 0
SomeReceived server client = (server.received ≢ []) ⊎ (client.received ≢ [])

-- The numbers of the calls that fail, of the net and of each server's and each client's end; of the settlings in which a received byte is
-- taken as changed; how many calls of the net and how many settlings were made; and how many bytes a call of an end moves at most.
pub record Plans : Type 0 where
  pub calls : List ℕ
  pub server : List ℕ
  pub client : List ℕ
  pub settlings : List ℕ
  pub calls_made : ℕ
  pub settlings_made : ℕ
  pub server_step : ℕ
  pub client_step : ℕ

-- nothing fails
pub record HasNoPlan (plans : Plans) : Type 0 where
  pub calls : plans.calls ≡ []
  pub server : plans.server ≡ []
  pub client : plans.client ≡ []
  pub settlings : plans.settlings ≡ []

module _ {R : Type 0} where
  abbrev pub plans_of : PipeNet R → Plans
  plans_of net =
      record {
        calls = net.calls.failing.items;
        server = net.server.failing.items;
        client = net.client.failing.items;
        settlings = net.settlings.failing.items;
        calls_made = net.calls.made;
        settlings_made = net.settlings.made;
        server_step = net.server.step;
        client_step = net.client.step;
      }

  -- the net's pairs: those that were settled, how many were made, how many are owed, and the count of faults
  abbrev pub book_of : PipeNet R → Book Transcript
  book_of net = net.book

  -- the pairs that did not match
  abbrev pub unmatched_of : PipeNet R → List BothEnds
  unmatched_of net = unmatched_in net.unmatched.items

  -- no pair was made, no call was counted, nothing fails, and ends move as much as they can
  pub record IsNewNet (net : PipeNet R) : Type 0 where
    pub book : IsNewBook (book_of net)
    pub unmatched : unmatched_of net ≡ []
    pub plans : HasNoPlan (plans_of net)
    pub counts : ((plans_of net).calls_made ≡ 0) × ((plans_of net).settlings_made ≡ 0)
    pub steps : ((plans_of net).server_step ≡ 2 ^ 64 - 1) × ((plans_of net).client_step ≡ 2 ^ 64 - 1)

  -- what an end in memory tells of itself, and its count of faults
  abbrev pub pipe_told : PipeEnd R → Told
  pipe_told end = told_of end.log

  abbrev pub pipe_faults : PipeEnd R → ℕ
  pipe_faults end = end.log.faults

  -- each end of a new pair fails at the calls that the net has for its side
  abbrev pub HavePlans : PipeNet R → Pair (PipeEnd R) → Type 0
  HavePlans net (pair.Made server client) = IsCopied net.server server.plan × IsCopied net.client client.plan
  HavePlans net _ = Unit {0}

  -- the net settles two ends as failed whatever they tell: this call of it is listed, or this settling is and there is a byte to change
  abbrev pub RefusesEnds : PipeNet R → Told → Told → Type 0
  RefusesEnds net server client = IsListed net.calls ⊎ (IsListed net.settlings × SomeReceived server client)
