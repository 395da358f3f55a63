-- What is proved by hand of `take_journal`.
use Rattle.std.proofs.Common.{rules, Bor, List, ◌≡◌, ℕ, true, false, length, Err, refl, sym, subst}
use Rattle.std.proofs.lemmas.Result.{err_from_is_err_and}
use Rattle.sv_journal.specs.Answer.{Rules, MayBeSession}
use Rattle.sv_check.specs.declared.journal.Served.{Served}
use Rattle.sv_check.specs.Serving.{entries_of}
use Rattle.sv_check.specs.Entering.{NoHeader, TextBreaksOff}
use Rattle.sv_check.specs.Stopping.{IsJournalStop}
use Rattle.sv_check.proofs.Serving.{whole_journal}
use Rattle.sv_check.proofs.JournalStops.{stop_first, served_broken, served_unread, served_open, wrong_at, passed_on}
use Rattle.sv_check.proofs.journal.take_journal.Goals as goal

pub returns-in_err-count-clause-wrong : goal.returns-in_err-count-clause-wrong
returns-in_err-count-clause-wrong c =
    let text = c.args.text.now in
    let scenario = c.args.scenario.now in
    let p = err_from_is_err_and c.from_residual.result c.from_residual.ensures.1 in
    passed_on (ℕ × Bor (List ℕ)) (Served × Bor (List ℕ)) c.from_residual.result p.0 c.in_err-count.field-0.0 (λ (left : ℕ). (left ≡ length text) × NoHeader text) (IsJournalStop scenario text) p.1 p.2
    (λ left h. subst (IsJournalStop scenario text) (sym h.0)
    (stop_first c.laws_of_runs.ensures.stay c.laws_of_runs.ensures.named c.laws_of_runs.ensures.steps c.laws_of_runs.ensures.few c.laws_of_runs.ensures.messages
    scenario c.requires.good c.requires.fits text h.1 c.requires.short))
    c.in_err-count.ensures.wrong

pub returns-in_err-rest-clause-wrong : goal.returns-in_err-rest-clause-wrong
returns-in_err-rest-clause-wrong c =
    let text = c.args.text.now in
    let scenario = c.args.scenario.now in
    let served = c.serve_all.new.self in
    let p = err_from_is_err_and c.from_residual-in_err-rest.result c.from_residual-in_err-rest.ensures.1 in
    passed_on (Bor (List ℕ)) (Served × Bor (List ℕ)) c.from_residual-in_err-rest.result p.0 c.in_err-rest.field-0.0 (TextBreaksOff scenario.world.shape (entries_of served) c.in_ok-count.entries.now) (IsJournalStop scenario text) p.1 p.2
    (λ left b. served_broken c.laws_of_runs.ensures.stay c.laws_of_runs.ensures.named c.laws_of_runs.ensures.steps c.laws_of_runs.ensures.few c.laws_of_runs.ensures.messages
    scenario c.requires.good c.requires.fits c.in_ok-count.count text c.in_ok-count.entries.now c.in_ok-count.ensures.small c.requires.short c.in_ok-count.ensures.taken
    served c.in_ok-whole.ensures.served c.in_ok-whole.whole c.in_ok-whole.ensures.told left b)
    c.in_err-rest.ensures.wrong

pub returns-then-not-whole-clause-wrong : goal.returns-then-not-whole-clause-wrong
returns-then-not-whole-clause-wrong c =
    let text = c.args.text.now in
    let scenario = c.args.scenario.now in
    let rest = c.in_ok-rest.rest.now in
    let stopped : c.in_ok-whole.whole ≡ false = search rules in
    wrong_at (Served × Bor (List ℕ)) (Err c.stop_at-stop.result) c.stop_at-stop.result c.stop_at-stop.result (length rest) (IsJournalStop scenario text) refl refl c.stop_at-stop.ensures
    (served_unread c.laws_of_runs.ensures.stay c.laws_of_runs.ensures.named c.laws_of_runs.ensures.steps c.laws_of_runs.ensures.few c.laws_of_runs.ensures.messages
    scenario c.requires.good c.requires.fits c.in_ok-count.count text c.in_ok-count.entries.now c.in_ok-count.ensures.small c.requires.short c.in_ok-count.ensures.taken
    c.serve_all.new.self c.in_ok-whole.ensures.served c.in_ok-whole.whole c.in_ok-whole.ensures.told rest c.in_ok-rest.ensures.taken stopped)

pub returns-then-not-are_ended-clause-wrong : goal.returns-then-not-are_ended-clause-wrong
returns-then-not-are_ended-clause-wrong c =
    let text = c.args.text.now in
    let scenario = c.args.scenario.now in
    let rest = c.in_ok-rest.rest.now in
    let all : c.in_ok-whole.whole ≡ true = search rules in
    wrong_at (Served × Bor (List ℕ)) (Err c.stop_at-stop.result) c.stop_at-stop.result c.stop_at-stop.result (length rest) (IsJournalStop scenario text) refl refl c.stop_at-stop.ensures
    (served_open c.laws_of_runs.ensures.stay c.laws_of_runs.ensures.named c.laws_of_runs.ensures.steps c.laws_of_runs.ensures.few c.laws_of_runs.ensures.messages
    scenario c.requires.good c.requires.fits c.in_ok-count.count text c.in_ok-count.entries.now c.in_ok-count.ensures.small c.requires.short c.in_ok-count.ensures.taken
    c.serve_all.new.self c.in_ok-whole.ensures.served c.in_ok-whole.whole c.in_ok-whole.ensures.told rest c.in_ok-rest.ensures.taken all (c.if-not-are_ended.ensures.not refl))

pub returns-clause-whole : goal.returns-clause-whole
returns-clause-whole c =
    let served = c.serve_all.new.self in
    whole_journal c.args.scenario.now served c.in_ok-whole.ensures.served
    (λ s l. c.if-not-are_ended.ensures.all refl s (subst (λ (r : Rules). MayBeSession r.sessions s) (sym c.in_ok-whole.ensures.served.rules) l))
