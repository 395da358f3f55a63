-- Lines that are taken, one behind the other.
use Rattle.std.proofs.Common.{◌≡◌, ◌≢◌, ℕ, suc, ◌+◌, ◌<◌, List, [], ◌∷◌, ◌++◌, length, length-append, refl, sym, subst, ap, ◌∙◌, arith, append_assoc}
use Rattle.std.proofs.lemmas.List.{append-nil}
use Rattle.sv_journal.specs.declared.entry.Entry.{Entry}
use Rattle.sv_journal.specs.Answer.{Rules}
use Rattle.sv_journal.specs.History.{entry_of}
use Rattle.sv_living.specs.World.{WorldView, after, reply_in}
use Rattle.sv_keeper.specs.Histories.{history_text}
use Rattle.sv_keeper.specs.Keeping.{text_of, next_line}
use Rattle.sv_keeper.specs.Walks.{TakesLine, TakesLines, TakesLines.none, TakesLines.some, IsNoLine, IsWrong}
use Rattle.sv_keeper.proofs.Fronts.{line_long}

-- One more is taken behind others.
pub then_taken : {v w x : WorldView} {text middle rest : List ℕ} → TakesLines v w text middle → TakesLine w x middle rest → TakesLines v x text rest
then_taken TakesLines.none one = TakesLines.some one TakesLines.none
then_taken (TakesLines.some first others) one = TakesLines.some first (then_taken others one)

-- What is left is shorter.
pub taken_shorter : {v w : WorldView} {text rest : List ℕ} → TakesLine v w text rest → length rest < length text
taken_shorter {v} {w} {text} {rest} one =
    let long = line_long v.rules.world.shape (entry_of one.session one.request (reply_in v one.session one.request)) v.history in
    let both = ap length one.line ∙ length-append (next_line v one.session one.request) rest in
    omega (arith, long, both)

-- Of nothing none is taken.
pub taken_nothing : {v w : WorldView} {text rest : List ℕ} → TakesLines v w text rest → text ≡ [] → rest ≡ []
taken_nothing TakesLines.none empty = empty
taken_nothing (TakesLines.some one others) empty =
    let less = taken_shorter one in
    let zero_long = ap length empty in
    absurd (omega (arith, less, zero_long))

-- The lines that are taken are those of the history, and the rules stay.
pub taken_text : {v w : WorldView} {text rest : List ℕ} → TakesLines v w text rest → (w.rules ≡ v.rules) × (text_of v ++ text ≡ text_of w ++ rest)
taken_text TakesLines.none = (refl, refl)
taken_text {v} {w} {text} {rest} (TakesLines.some {w = x} {middle = middle} one others) =
    let later = taken_text others in
    let line = next_line v one.session one.request in
    let rules : x.rules ≡ v.rules = ap (λ (u : WorldView). u.rules) one.world in (
      later.0 ∙ rules,
      ap (λ (l : List ℕ). text_of v ++ l) one.line ∙ sym (append_assoc (text_of v) line middle) ∙ ap (λ (u : WorldView). text_of u ++ middle) (sym one.world) ∙ later.1,
    )

-- All lines of a text are taken from its beginning: the text is that of the history.
pub taken_all : {v w : WorldView} {text : List ℕ} → v.history ≡ [] → TakesLines v w text [] → text_of w ≡ text
taken_all {v} {w} {text} empty all =
    sym (ap (λ (h : List Entry). history_text v.rules.world.shape h ++ text) (sym empty) ∙ (taken_text all).1 ∙ append-nil (text_of w))

-- Some lines are taken, and the next one is not right.
pub stopped : {v w : WorldView} {text rest : List ℕ} (number : ℕ) → TakesLines v w text rest → IsNoLine w rest → rest ≢ [] → number ≡ length w.history + 1 → IsWrong v text number
stopped {v} {w} {text} {rest} number right wrong more is = record { reached = w; rest = rest; right = right; wrong = wrong; more = more; number_is = is }
