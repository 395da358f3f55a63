-- What the check leaves to prove of `note_in_all`.
use Rattle.std.proofs.Common.{◌≡◌, ◌≢◌, ℕ, ◌+◌, ◌<◌, ◌≤◌, nat_eq, length, slice_set, List, inl, inr, refl, sym, ◌∙◌, ap, subst, arith, length-set}
use Rattle.std.proofs.lemmas.Bool.{cases_eq}
use Rattle.std.proofs.lemmas.List.{get_or-set_same, get_or-set_other}
use Rattle.sv_journal.specs.declared.entry.Entry.{Entry}
use Rattle.sv_core.specs.declared.sessions.SessionRow.{SessionRow}
use Rattle.sv_core.specs.Rows.{no_session, row_at, session_after}
use Rattle.sv_journal.specs.History.{entry_of}
use Rattle.sv_core.proofs.Seating.{row-at}
use Rattle.sv_core.proofs.sessions.note_in_all.Goals as goal
use Rattle.sv_core.proofs.sessions.note_in_all.Goals.{in-Some, in_default}

-- rows, of which those before a place are noted
record Noted (slot place : ℕ) (e : Entry) (old rows : List SessionRow) : Type 0 where
  count : length rows ≡ length old
  noted : (i : ℕ) → i < place → row_at rows i ≡ session_after (nat_eq slot i) e (row_at old i)
  others : (i : ℕ) → place ≤ i → row_at rows i ≡ row_at old i

-- one more is noted
noted_on : (slot place : ℕ) (e : Entry) (old rows new : List SessionRow) → Noted slot place e old rows → length new ≡ length rows
    → row_at new place ≡ session_after (nat_eq slot place) e (row_at old place)
    → ((i : ℕ) → i ≢ place → row_at new i ≡ row_at rows i)
    → Noted slot (place + 1) e old new
noted_on slot place e old rows new past long here rest = record {
  count = long ∙ past.count;
  noted = λ i l. elim (cases_eq i place) [
    | inl same ↦ subst (λ j. row_at new j ≡ session_after (nat_eq slot j) e (row_at old j)) (sym same) here
    | inr ne ↦ rest i ne ∙ past.noted i (omega arith)
  ];
  others = λ i l. rest i (λ q. omega (arith, q, l)) ∙ past.others i (omega arith);
}

pub loop-place-preserved : goal.loop-place-preserved
loop-place-preserved c =
    let old = c.args.rows.now.items in
    let rows = c.loop-place.rows.items in
    let place = c.loop-place.place in
    let slot = c.args.slot in
    let e = entry_of slot c.args.request.now c.args.reply.now in
    let before = c.loop-place.invariant in
    let past : Noted slot place e old rows = record { count = before.count; noted = before.noted; others = before.others } in
    let low : place < length rows = omega (arith, c.loop-place-test.true, past.count) in
    let read : c.index.result.now ≡ row_at old place = row-at rows place c.index.result.now low c.index.ensures ∙ past.others place (omega arith) in
    let after = session_after (nat_eq slot place) e in
    let done : Noted slot (place + 1) e old c.match-noted.rows.items =
    elim c.match-noted.branch [
      | in-Some w ↦
          let x = w.in-Some.row in
          let new = slice_set rows place x in
          let here : row_at new place ≡ after (row_at old place) =
          get_or-set_same rows place x no_session low ∙ (w.in-Some.ensures.some slot ∙ ap after read) in
          subst (λ v. Noted slot (place + 1) e old v.items) (sym w.rows-is)
          (noted_on slot place e old rows new past (length-set rows place x) here (λ i ne. get_or-set_other rows place i x no_session ne))
      | in_default w ↦
          let here : row_at rows place ≡ after (row_at old place) =
          past.others place (omega arith) ∙ (sym read ∙ (sym (w.in_default.ensures.none slot) ∙ ap after read)) in
          subst (λ v. Noted slot (place + 1) e old v.items) (sym w.rows-is) (noted_on slot place e old rows rows past refl here (λ i ne. refl))
    ] in
    record { count = done.count; noted = done.noted; others = done.others }
