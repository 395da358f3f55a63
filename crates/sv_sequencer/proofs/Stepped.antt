-- One step of a sequencer, put together.
use Rattle.std.proofs.Common.{◌≡◌, ℕ, ◌≤◌, false, true≢false, List, [], ◌∷◌, reverse, Some, IsSome, Result, Ok, Err, IfOk, OnErr, refl, sym, ◌∙◌, ap, subst, arith}
use Rattle.std.proofs.lemmas.List.{reverse-append}
use Rattle.sv_wire.specs.declared.message.Reply.{Reply}
use Rattle.sv_wire.specs.declared.message.Request.{Request}
use Rattle.sv_wire.specs.declared.message.Request.TheVariants as requests
use Rattle.sv_journal.specs.declared.entry.Entry.{Entry}
use Rattle.sv_journal.specs.View.{JournalView}
use Rattle.sv_journal.specs.Sessions.{is_end}
use Rattle.sv_journal.specs.Answer.{Rules, MayBeSession, reply_to_request, reply_to, Legal}
use Rattle.sv_core.specs.declared.decision.Decision.{Decision}
use Rattle.sv_sequencer.specs.declared.sequencer.Sequencer.TheInside.{Inside}
use Rattle.sv_core.specs.declared.server_core.Core.{Core}
use Rattle.sv_core.specs.Cores.{core_rules, owed_by, session_at, Keeps, SitByNumber, decided_entry}
use Rattle.sv_core.specs.Decisions.{reply_by}
use Rattle.sv_sequencer.specs.Entering.{HasRoomForEnds, TookEntry, EnteredReply, NothingEntered}
use Rattle.sv_sequencer.specs.Invariant.{model_of, IsSequencer}
use Rattle.sv_sequencer.specs.Step.{SequencerView}

-- A request that is no End is answered by the table.
pub reply-open : (r : Rules) (h : List Entry) (s : ℕ) (q : Request) → is_end q ≡ false → reply_to r h s q ≡ reply_to_request r h s q
reply-open r h s (requests.Join client life interest) more = refl
reply-open r h s (requests.Submit seq action) more = refl
reply-open r h s (requests.Done results) more = refl
reply-open r h s requests.Poll more = refl
reply-open r h s (requests.Observe objects wait) more = refl
reply-open r h s requests.Leave more = refl
reply-open r h s requests.Bad more = refl
reply-open r h s requests.End more = absurd (true≢false more)

-- Sessions sit at the slots of their numbers while the rules and the seats stay.
pub still-seated : (old new' : Core) → core_rules new' ≡ core_rules old → ((slot : ℕ) → session_at new' slot ≡ session_at old slot) → SitByNumber old → SitByNumber new'
still-seated old new' rules seats is = record {
  count = subst (λ (r : Rules). IsSome r.sessions) (sym rules) is.count;
  seats = λ s may. seats s ∙ is.seats s (subst (λ (r : Rules). MayBeSession r.sessions s) rules may);
}

-- A session that there may be sits at the slot of its number.
pub sits-by-view : (a : Inside) (v : SequencerView) (s : ℕ) → model_of a ≡ v → IsSequencer a → MayBeSession v.rules.sessions s → session_at a.core s ≡ Some s
sits-by-view a v s same is may = is.seats.seats s (subst (λ (w : SequencerView). MayBeSession w.rules.sessions s) (sym same) may)

-- A sequencer's fields as it is opened.
pub as-opened : (core : Core) (j : JournalView) → j.entries ≡ [] → Keeps core [] → SitByNumber core → HasRoomForEnds core j → IsSequencer (record { core = core; journal = j })
as-opened core j none stands seats room = record {
  legal = subst (λ (es : List Entry). Legal (core_rules core) (reverse es)) (sym none) tt;
  keeps = subst (λ (es : List Entry). Keeps core (reverse es)) (sym none) stands;
  seats = seats;
  room = room;
}

-- Its fields once an entry came with the reply that its history gives.
pub after-entry : (a : Inside) (core : Core) (j : JournalView) (e : Entry) → IsSequencer a → TookEntry a.core core a.journal j (reverse a.journal.entries) e e →
    e.reply ≡ reply_to (core_rules a.core) (reverse a.journal.entries) e.session e.request → IsSequencer (record { core = core; journal = j })
after-entry a core j e is done told = record {
  legal = subst (λ (r : Rules). Legal r (reverse j.entries)) (sym done.rules) (subst (Legal (core_rules a.core)) (sym past) (told, is.legal));
  keeps = subst (Keeps core) (sym past) done.keeps;
  seats = still-seated a.core core done.rules done.seats is.seats;
  room = done.room;
}
  where
    past : reverse j.entries ≡ e ∷ reverse a.journal.entries
    past = ap reverse done.entries ∙ reverse-append a.journal.entries (e ∷ [])

-- Its fields once a request was answered, or memory ran out.
pub after-reply : {E : Type 0} (a : Inside) (core : Core) (j : JournalView) (s : ℕ) (q : Request) (d : Decision) (result : Result Reply E) → IsSequencer a →
    reply_by (core_rules a.core) (reverse a.journal.entries) s q d ≡ reply_to (core_rules a.core) (reverse a.journal.entries) s q →
    IfOk result (EnteredReply a.core core a.journal j (reverse a.journal.entries) s q q d) → OnErr result (NothingEntered a.core core a.journal j (reverse a.journal.entries)) →
    IsSequencer (record { core = core; journal = j })
after-reply a core j s q d (Ok reply) is told done none = after-entry a core j (decided_entry a.core (reverse a.journal.entries) s q d) is done.entered told
after-reply a core j s q d (Err error) is told done none = record {
  legal = subst (λ (r : Rules). Legal r (reverse j.entries)) (sym none.core.rules) (subst (λ (es : List Entry). Legal (core_rules a.core) (reverse es)) (sym none.entries) is.legal);
  keeps = subst (λ (es : List Entry). Keeps core (reverse es)) (sym none.entries) none.core.keeps;
  seats = still-seated a.core core none.core.rules none.core.seats is.seats;
  room = (let enough : owed_by a.core ≤ a.journal.spare = is.room in omega (arith, none.core.owed, none.room));
}
