-- What is answered is a message.
use Rattle.std.proofs.Common.{◌≡◌, ℕ, true, List, [], ◌∷◌, Some, refl, sym, subst, arith}
use Rattle.std.proofs.lemmas.Bool.{and_parts}
use Rattle.std.proofs.lemmas.List.Elements.{All-head, All-nil}
use Rattle.sv_wire.specs.declared.message.Request.{Request}
use Rattle.sv_wire.specs.declared.message.Reply.{Reply}
use Rattle.sv_wire.specs.Grammar.{IsWireReply, IsWireWork}
use Rattle.sv_journal.specs.declared.entry.Entry.{Entry}
use Rattle.sv_journal.specs.declared.entry.Logged.{Logged}
use Rattle.sv_journal.specs.declared.entry.Logged.TheVariants as logged
use Rattle.sv_journal.specs.History.{Authored, accepted, full_reply}
use Rattle.sv_journal.specs.Laws.{AreWithinLimits, ServedRepliesAreMessages}
use Rattle.sv_journal.specs.Living.{living}
use Rattle.sv_journal.specs.Serving.{LegalFor, reply_for}
use Rattle.sv_journal.proofs.Stewards.{living-keeping}
use Rattle.sv_core.specs.Seeing.{shows_nothing}
use Rattle.sv_journal.specs.History.{entry_of}
use Rattle.sv_living.specs.Quiet.{IsQuietReply}
use Rattle.sv_living.specs.Sessions.{is_open}
use Rattle.sv_living.specs.World.{WorldView, after, reply_in}

pub steps_are_messages : ServedRepliesAreMessages → (v : WorldView) → AreWithinLimits v.rules → LegalFor (living v.stewardship) v.rules v.history
    → (s : ℕ) (request : Request) → IsWireReply (full_reply (accepted (after v s request).history) (reply_in v s request))
steps_are_messages law v limits legal s request =
    All-head (λ (x : Entry). IsWireReply (full_reply (accepted (after v s request).history) x.reply)) (entry_of s request (reply_in v s request)) v.history (law (living v.stewardship) v.rules (after v s request).history (living-keeping v.stewardship) limits (refl, legal))

nothing_is_work : (most : ℕ) → IsWireWork most [] []
nothing_is_work most = record {
  base = record { few = omega arith; ascending = refl; values = All-nil _ };
  few = omega arith;
  each = All-nil _;
}

nothing_is_message : (A : List Authored) (l : Logged) → shows_nothing l ≡ true → IsWireReply (full_reply A l)
nothing_is_message A (logged.Seen last commit [] []) e = nothing_is_work _
nothing_is_message A (logged.Seen last commit [] (p ∷ positions)) e = cc
nothing_is_message A (logged.Seen last commit (x ∷ head) positions) e = cc
nothing_is_message A (logged.Welcome commit head) e = cc
nothing_is_message A (logged.Relay seq commit head positions) e = cc
nothing_is_message A (logged.Dropped seq chain far) e = cc
nothing_is_message A (logged.Denied seq object) e = cc
nothing_is_message A (logged.Settled seq pos) e = cc
nothing_is_message A (logged.Noted commit) e = cc
nothing_is_message A logged.Idle e = cc
nothing_is_message A (logged.Refused code detail) e = cc
nothing_is_message A logged.Bye e = cc

pub quiet_is_message : (v : WorldView) (s : ℕ) (request : Request) (reply : Reply) → IsQuietReply v.rules v.stewardship v.history s request (Some reply) → IsWireReply reply
quiet_is_message v s request reply q =
    let l = reply_for (living v.stewardship) v.rules v.history s request in
    subst IsWireReply (sym q.1) (nothing_is_message (accepted v.history) l (and_parts (is_open v.history s) (shows_nothing l) q.0).1)
