-- What the check leaves to prove of `note_in_own`.
use Rattle.std.proofs.Common.{◌≡◌, ◌<◌, true, nat_eq, slice_set, inl, inr, refl, sym, ◌∙◌, ap, subst, arith}
use Rattle.std.proofs.lemmas.Bool.{cases_eq, eq-eqb, ne_eqb}
use Rattle.std.proofs.lemmas.List.{get_or-set_same, get_or-set_other}
use Rattle.sv_core.specs.Rows.{no_session, row_at, session_after}
use Rattle.sv_journal.specs.History.{entry_of}
use Rattle.sv_core.proofs.Rows.{other_row_stays}
use Rattle.sv_core.proofs.Seating.{row-at}
use Rattle.sv_core.proofs.sessions.note_in_own.Goals as goal

pub returns-then-own-len-clause-rows : goal.returns-then-own-len-clause-rows
returns-then-own-len-clause-rows c = λ i low.
    (let rows = c.args.rows.now.items in
    let slot = c.args.slot in
    let e = entry_of slot c.args.request.now c.args.reply.now in
    let x = c.session_after.result in
    elim (cases_eq i slot) [
      | inl same ↦ subst (λ j. row_at (slice_set rows slot x) j ≡ session_after (nat_eq slot j) e (row_at rows j)) (sym same)
          (get_or-set_same rows slot x no_session (omega (arith, low, same)) ∙ c.session_after.ensures slot
          ∙ ap (session_after true e) (row-at rows slot c.index.result.now (omega (arith, low, same)) c.index.ensures)
          ∙ ap (λ b. session_after b e (row_at rows slot)) (sym (eq-eqb slot slot refl)))
      | inr ne ↦ get_or-set_other rows slot i x no_session ne
          ∙ sym (ap (λ b. session_after b e (row_at rows i)) (ne_eqb slot i (λ q. ne (sym q)))
          ∙ other_row_stays slot c.args.request.now c.args.reply.now (row_at rows i) c.requires)
    ])
