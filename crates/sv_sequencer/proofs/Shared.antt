-- The sequencer's step in the words of a shared object.
use Rattle.std.proofs.Common.{◌≡◌, ℕ, Bool, false, true, ◌==◌, ◌&&◌, if◌then◌else◌, List, [], ◌∷◌, ◌++◌, reverse, All, Result, Ok, Err, IfOk, refl, sym, ◌∙◌, ap, subst}
use Rattle.std.proofs.lemmas.Bool.{or_parts, or_from}
use Rattle.std.proofs.lemmas.List.{reverse-append}
use Rattle.std.proofs.lemmas.List.Elements.{All-head, All-tail}
use Rattle.sv_wire.specs.declared.message.Reply.{Reply}
use Rattle.sv_wire.specs.declared.message.Request.{Request}
use Rattle.sv_journal.specs.declared.entry.Entry.{Entry}
use Rattle.sv_journal.specs.History.{accepted, full_reply, logged_of}
use Rattle.sv_journal.specs.Sessions.{is_end, is_ended}
use Rattle.sv_journal.specs.Answer.{reply_to}
use Rattle.sv_journal.proofs.Stays.{logged-back}
use Rattle.sv_lock.specs.Histories.{entries_of}
use Rattle.sv_journal.specs.History.{entry_of}
use Rattle.sv_sequencer.specs.Step.{SequencerView, history, StepAnswered}
use Rattle.sv_sequencer.specs.Shared.{IsFullReply, IsFullInOrder}

-- The journal grew by the entry of the answer.
pub answer-entered : (old new : SequencerView) (s : ℕ) (q : Request) (r : Reply) → StepAnswered old new s q r →
    new.journal.entries ≡ old.journal.entries ++ entry_of s q (logged_of r) ∷ []
answer-entered old new s q r a =
    a.grew.entries ∙ ap (λ l. old.journal.entries ++ entry_of s q l ∷ []) (sym (ap logged_of a.whole ∙ logged-back (accepted (history new)) (reply_to old.rules (history old) s q)))

last-whole : (r : Reply) (h h' : List Entry) (e : Entry) → h ≡ e ∷ h' → r ≡ full_reply (accepted h) e.reply → IsFullReply r h
last-whole r h h' e is whole = subst (IsFullReply r) (sym is) (whole ∙ ap (λ x. full_reply (accepted x) e.reply) is)

-- The answer is whole over the journal that it was entered into.
pub answer-whole : (old new : SequencerView) (s : ℕ) (q : Request) (r : Reply) → StepAnswered old new s q r → IsFullInOrder r new.journal.entries
answer-whole old new s q r a =
    let e : Entry = entry_of s q (reply_to old.rules (history old) s q) in
    last-whole r (history new) (history old) e (ap reverse a.grew.entries ∙ reverse-append old.journal.entries (e ∷ [])) a.whole

both-ok : {T E : Type 0} {P Q : T → Type 0} (o : Result T E) → ((t : T) → P t → Q t) → IfOk o P → IfOk o Q
both-ok (Ok t) gives p = gives t p
both-ok (Err e) gives p = p

pub step-entered : {E : Type 0} (old new : SequencerView) (s : ℕ) (q : Request) (o : Result Reply E) → IfOk o (λ r. StepAnswered old new s q r) →
    IfOk o (λ r. new.journal.entries ≡ old.journal.entries ++ entry_of s q (logged_of r) ∷ [])
step-entered old new s q o answers = both-ok o (λ r a. answer-entered old new s q r a) answers

pub step-whole : {E : Type 0} (old new : SequencerView) (s : ℕ) (q : Request) (o : Result Reply E) → IfOk o (λ r. StepAnswered old new s q r) →
    IfOk o (λ r. IsFullInOrder r new.journal.entries)
step-whole old new s q o answers = both-ok o (λ r a. answer-whole old new s q r a) answers

-- ---- A session has no End yet

abbrev IsNoEnd : Entry → Type 0
IsNoEnd e = is_end e.request ≡ false

none-after : (h : List Entry) (e : Entry) (s : ℕ) → is_ended h s ≡ false → ((e.session == s) && is_end e.request) ≡ false → is_ended (h ++ e ∷ []) s ≡ false
none-after [] e s none quiet = or_from ((e.session == s) && is_end e.request) false quiet refl
none-after (x ∷ h) e s none quiet =
    let parts = or_parts ((x.session == s) && is_end x.request) (is_ended h s) none in
    or_from ((x.session == s) && is_end x.request) (is_ended (h ++ e ∷ []) s) parts.0 (none-after h e s parts.1 quiet)

kept-parts : (b : Bool) (e : Entry) (es : List Entry) → All IsNoEnd (if b then e ∷ es else es) → ((b && is_end e.request) ≡ false) × All IsNoEnd es
kept-parts true e es all = (All-head IsNoEnd e es all, All-tail IsNoEnd e es all)
kept-parts false e es all = (refl, all)

-- A session with no End among its entries is not ended.
pub none-ended : (entries : List Entry) (s : ℕ) → All IsNoEnd (entries_of (λ (e : Entry). e.session) s entries) → is_ended (reverse entries) s ≡ false
none-ended [] s all = refl
none-ended (e ∷ es) s all =
    let parts = kept-parts (e.session == s) e (entries_of (λ (e : Entry). e.session) s es) all in
    ap (λ h. is_ended h s) (reverse-append (e ∷ []) es) ∙ none-after (reverse es) e s (none-ended es s parts.1) parts.0
