-- What is proved by hand of `Served::take_entries`.
use Rattle.std.proofs.Common.{◌≡◌, ℕ, List, ◌++◌, drop, sym, ap, subst, ◌∙◌}
use Rattle.std.specs.Prelude.{IfOk}
use Rattle.sv_journal.specs.View.{JournalView}
use Rattle.sv_journal.specs.Text.{RelaysNameAccepted, journal_text}
use Rattle.sv_lines.specs.Lines.{line_width}
use Rattle.sv_check.specs.Serving.{entries_of}
use Rattle.sv_check.specs.Entering.{lines_of}
use Rattle.sv_check.proofs.Serving.{named}
use Rattle.sv_check.proofs.JournalLines.{printed_lines, broken_result}
use Rattle.sv_check.proofs.journal.Served.take_entries.Goals as goal

pub print_journal-requires : goal.print_journal-requires
print_journal-requires c =
    subst (λ (j : JournalView). RelaysNameAccepted j.entries) (sym c.journal.ensures.journal)
    (named c.legal_relays_name_accepted.ensures c.args.self.now.sequencer.rules c.args.self.now.sequencer.journal.entries c.journal.ensures.legal)

pub returns-clause-taken : goal.returns-clause-taken
returns-clause-taken c =
    let shape = c.args.scenario.now.world.shape in
    let es = entries_of c.args.self.now in
    let all = c.in_ok-print_journal.ensures.ok
    ∙ ap (λ (l : List ℕ). l ++ journal_text shape c.journal.result.now.entries) c.new-printed.ensures.bytes
    ∙ ap (λ (j : JournalView). journal_text shape j.entries) c.journal.ensures.journal in
    let bytes : c.as_bytes.result.now ≡ journal_text shape es = c.as_bytes.ensures.value ∙ all in
    let again : c.as_bytes-2.result.now ≡ journal_text shape es = c.as_bytes-2.ensures.value ∙ all in
    let is : c.split_at.result.1.now ≡ lines_of shape es =
    c.split_at.ensures.back ∙ ap (λ (n : ℕ). drop n c.as_bytes.result.now) (c.line_length.ensures.width ∙ ap line_width again)
    ∙ ap (λ (l : List ℕ). drop (line_width (journal_text shape es)) l) bytes ∙ printed_lines shape es in
    subst (λ (l : List ℕ). IfOk c.take_lines.result (λ rest. c.args.text.now ≡ l ++ rest.now)) is c.take_lines.ensures.taken

pub returns-clause-wrong : goal.returns-clause-wrong
returns-clause-wrong c =
    let shape = c.args.scenario.now.world.shape in
    let es = entries_of c.args.self.now in
    let all = c.in_ok-print_journal.ensures.ok
    ∙ ap (λ (l : List ℕ). l ++ journal_text shape c.journal.result.now.entries) c.new-printed.ensures.bytes
    ∙ ap (λ (j : JournalView). journal_text shape j.entries) c.journal.ensures.journal in
    let bytes : c.as_bytes.result.now ≡ journal_text shape es = c.as_bytes.ensures.value ∙ all in
    let again : c.as_bytes-2.result.now ≡ journal_text shape es = c.as_bytes-2.ensures.value ∙ all in
    let is : c.split_at.result.1.now ≡ lines_of shape es =
    c.split_at.ensures.back ∙ ap (λ (n : ℕ). drop n c.as_bytes.result.now) (c.line_length.ensures.width ∙ ap line_width again)
    ∙ ap (λ (l : List ℕ). drop (line_width (journal_text shape es)) l) bytes ∙ printed_lines shape es in
    broken_result c.full_replies_stay.ensures c.legal_relays_name_accepted.ensures c.args.scenario.now c.take_lines.result es c.args.text.now c.split_at.result.1.now c.requires.entries is c.take_lines.ensures.stops
