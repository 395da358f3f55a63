-- The lines of events have no line end inside. Events stand with the latest first.
use Rattle.std.proofs.Common.{ℕ, suc, ℤ, List, ◌++◌, length, Option, Some, None, refl, decimal}
use Rattle.std.specs.Prelude.{codes}
use Rattle.std.specs.List.{zip}
use Rattle.sv_world.specs.declared.world.ObjectId.{ObjectId}
use Rattle.sv_world.specs.Sets.{write_set}
use Rattle.sv_journal.specs.declared.entry.Entry.{Entry}
use Rattle.sv_journal.specs.Pieces.{bracketed, held_text}
use Rattle.sv_pending.specs.Pending.{kept_of}
use Rattle.sv_client.specs.declared.trace.Event.{Event}
use Rattle.sv_client.specs.declared.trace.Event.TheVariants as events
use Rattle.sv_client.specs.Traces.{makes, held_of, pending_of, view_of, got}
use Rattle.sv_report.specs.Report.{entry_number, kept_text, shown_text, event_text}
use Rattle.sv_lines.proofs.EntryLines.{IsInner, then_inner, inner_decimal, inner_held, inner_bracketed}

kept_inner : (objects : List ℕ) (kept : Option (List (List ℤ))) → IsInner (kept_text objects kept)
kept_inner objects None = refl
kept_inner objects (Some values) = inner_bracketed (λ (p : ℕ × List ℤ). held_text p.0 p.1) (λ p. inner_held p.0 p.1) (zip objects values)

shown_inner : (object : ℕ) (value : Option (List ℤ)) → IsInner (shown_text object value)
shown_inner object None = then_inner (decimal object) (codes "=?") (inner_decimal object) refl
shown_inner object (Some value) = inner_held object value

pub event_inner : (entries : List Entry) (t : List Event) (e : Event) → IsInner (event_text entries t e)
event_inner entries t (events.Join s) = then_inner (codes "join s") (decimal s) refl (inner_decimal s)
event_inner entries t (events.Make action) =
    let number = decimal (suc (makes t)) in
    let kept = kept_of (held_of t) (pending_of t) action in
    then_inner (codes "make " ++ number ++ codes " kept ") (kept_text (write_set action) kept)
    (then_inner (codes "make " ++ number) (codes " kept ") (then_inner (codes "make ") number refl (inner_decimal (suc (makes t)))) refl)
    (kept_inner (write_set action) kept)
event_inner entries t events.Poll = refl
event_inner entries t (events.Observe objects wait) =
    then_inner (codes "observe ") (bracketed (λ (o : ObjectId). decimal o.0) objects) refl (inner_bracketed (λ (o : ObjectId). decimal o.0) (λ o. inner_decimal o.0) objects)
event_inner entries t events.Leave = refl
event_inner entries t (events.Got s reply) =
    let n = entry_number entries s (length (got t s)) 1 in
    let one = codes "got s" ++ decimal s in
    then_inner (one ++ codes " #") (decimal n) (then_inner one (codes " #") (then_inner (codes "got s") (decimal s) refl (inner_decimal s)) refl) (inner_decimal n)
event_inner entries t events.Cut = refl
event_inner entries t events.Quit = refl
event_inner entries t (events.Show objects) =
    let text = λ (o : ObjectId). shown_text o.0 (view_of t o.0) in
    then_inner (codes "show ") (bracketed text objects) refl (inner_bracketed text (λ o. shown_inner o.0 (view_of t o.0)) objects)
