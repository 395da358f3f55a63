-- What the check leaves to prove of `Core::answer_plainly`.
use Rattle.std.proofs.Common.{false, refl, sym, ◌∙◌, subst, ◌∷◌}
use Rattle.std.proofs.lemmas.Bool.{both_ways}
use Rattle.sv_journal.specs.History.{accepted}
use Rattle.sv_journal.specs.Sessions.{is_end}
use Rattle.sv_core.specs.Cores.{core_rules}
use Rattle.sv_core.specs.Decisions.{IsQuietEntry}
use Rattle.sv_journal.specs.History.{entry_of}
use Rattle.sv_core.proofs.AgreeSteps.{agree-quiet}
use Rattle.sv_core.proofs.Entered.{carried}
use Rattle.sv_core.proofs.Quiet.{quiet-decided}
use Rattle.sv_core.proofs.Seating.{AreAfter, owed-same}
use Rattle.sv_core.proofs.server_core.Core.answer_plainly.Goals as goal

pub returns : goal.returns
returns g c =
    let a = c.args.self.now in
    let slot = c.args.seat.slot in
    let s = c.args.seat.session in
    let q = c.args.request.now in
    let d = c.args.decision in
    let l = c.plain_answer-answer.result.logged in
    let k = c.requires.0 in
    let next = c.note.new.rows.items in
    let more = c.requires.1.1.0 in
    let told = c.plain_answer-answer.ensures.logged (core_rules a) g.h s q in
    let quiet = subst (IsQuietEntry g.h s q) (sym told) (quiet-decided (core_rules a) g.h s q d c.requires.1.1.1.1 c.requires.1.1.1.0) in
    let rows : AreAfter slot (entry_of s q l) a.sessions.items next = record { count = c.note.ensures.count; rows = c.note.ensures.rows } in
    carried a _ g.h slot s q d _ l refl refl rows refl told
    (agree-quiet (core_rules a) g.h a.queue a.sessions.items next a.clients a.owed a.owed slot s q l k c.requires.1.0 quiet
    (λ ends. absurd (both_ways (is_end q) more ends)) rows (k.ends ∙ sym (owed-same slot (entry_of s q l) a.sessions.items next rows more)))
    (c.plain_answer-answer.ensures.reply (accepted (entry_of s q l ∷ g.h)))
